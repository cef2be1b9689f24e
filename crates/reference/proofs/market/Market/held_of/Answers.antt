use Rattle.std.proofs.Common.{◌≡◌, ◌<◌, map, length, get_or, pos, vec_items, sym, ap, ◌∙◌, arith, w64, to_z, of_z, rules}
use Rattle.std.proofs.lemmas.List.{length-map}
use Rattle.std.proofs.lemmas.Int.{to_z-of_z}
use Rattle.venue.specs.World.{account, held}
use Rattle.reference.specs.Means.{world_of, account_of, held_of}
use Rattle.reference.proofs.Places.{account_read, read_map}
use Rattle.reference.proofs.market.Market.held_of.Goals as goal
use Rattle.reference.proofs.market.Market.held_of.Goals.{After-index}

read : (c : goal.After-index) → account (world_of c.args.self.now) c.args.account ≡ account_of c.index.result.now
read c =
    account_read c.args.self.now c.args.account c.from.result c.index.result.now c.requires.account c.from.ensures c.index.ensures

in_row : (c : goal.After-index) → c.args.item < length (vec_items c.index.result.now.positions)
in_row c =
    let s = simp length-map at (rw (read c) at (c.requires.roomy.wide c.args.account c.requires.account)) in
    let g = simp length-map at c.requires.item in
    omega arith

pub index-requires-2 : goal.index-requires-2
index-requires-2 c = let h = in_row (goal.at.index-requires-2 c).After-index in search rules

pub returns : goal.returns
unfolding held
returns c =
    let b = (goal.at.returns c).After-index in
    let h : get_or (map held_of (vec_items c.index.result.now.positions)) c.args.item (pos 0) ≡ c.index-2.result.now.held =
    read_map held_of (vec_items c.index.result.now.positions) c.args.item c.index-2.result.now (pos 0) (in_row b)
    (rw c.from-2.ensures at c.index-2.ensures) in
    let z : to_z w64 (of_z w64 c.index-2.result.now.held) ≡ c.index-2.result.now.held = search (rules, to_z-of_z) in
    let v : to_z w64 (of_z w64 c.index-2.result.now.held) ≡ held (account (world_of c.args.self.now) c.args.account) c.args.item =
    z ∙ sym h ∙ ap (λ y. held y c.args.item) (sym (read b)) in
    let w = c.requires.roomy.held c.args.account c.args.item c.requires.account c.requires.item in
    record { value = v; bound = rw v w }
