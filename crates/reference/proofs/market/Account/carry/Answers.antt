use Rattle.std.proofs.Common.{◌≡◌, ◌<◌, map, length, get_or, set, pos, vec_items, ap, arith, rules}
use Rattle.std.proofs.lemmas.List.{map-set}
use Rattle.std.proofs.lemmas.Int.{ints}
use Rattle.reference.specs.Means.{held_of}
use Rattle.reference.proofs.Places.{read_map}
use Rattle.reference.proofs.Products.{account_same}
use Rattle.reference.proofs.market.Account.carry.Goals as goal

pub returns : goal.returns
returns c =
    let ps = vec_items c.args.self.now.positions in
    let h : c.args.item < length ps = search rules in
    let r : get_or (map held_of ps) c.args.item (pos 0) ≡ c.index_mut.result.now.held =
    read_map held_of ps c.args.item c.index_mut.result.now (pos 0) h c.index_mut.ensures.value in
    account_same (omega (arith, ints)) (simp map-set (ap (set (map held_of ps) c.args.item) (omega (arith, ints))))
