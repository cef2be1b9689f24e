use Rattle.std.proofs.Common.{◌≡◌, map, get_or, set, pos, ◌+ℤ◌, ◌-ℤ◌, ◌*ℤ◌, vec_items, refl, ap, ◌∙◌, arith, w64, to_z, of_z, rules}
use Rattle.std.proofs.lemmas.List.{map-set, length-map}
use Rattle.std.proofs.lemmas.Int.{ints}
use Rattle.venue.specs.World.{held, with_account}
use Rattle.reference.specs.Means.{account_of, held_of}
use Rattle.reference.proofs.Places.{account_read, item_read, gets_from}
use Rattle.reference.proofs.Products.{account_same}
use Rattle.reference.proofs.market.Market.gets.Goals as goal

pub times-cost-requires-clause-d : goal.times-cost-requires-clause-d
times-cost-requires-clause-d c =
    let e = rw (item_read c.args.self.now c.args.k c.args.k c.index.result.now c.requires.item refl c.index.ensures) at
    (c.requires.roomy.priced c.args.k c.requires.item) in
    (omega (arith, ints), omega (arith, ints))

pub carry-requires : goal.carry-requires
unfolding held
carry-requires c =
    let here = account_read c.args.self.now c.args.a c.args.a c.index_mut.result.now c.requires.account refl c.index_mut.ensures.value in
    let s = simp length-map at (rw here at (c.requires.roomy.wide c.args.a c.requires.account)) in
    let m = rw here at (c.requires.roomy.cash c.args.a c.requires.account) in
    let g = rw here at (c.requires.roomy.held c.args.a c.args.k c.requires.account c.requires.item) in
    let k-in = simp length-map at c.requires.item in
    record {
      here = search rules;
      cash = (omega (arith, ints), omega (arith, ints));
      held = g;
      amount = (omega (arith, ints), omega (arith, ints));
      cost = (omega (arith, ints), omega (arith, ints));
    }

pub returns : goal.returns
unfolding with_account
returns c =
    let each = pos c.args.price -ℤ pos c.index.result.now.price in
    let d : to_z w64 (of_z w64 (to_z w64 (of_z w64 c.from.result) -ℤ to_z w64 (of_z w64 c.from-2.result))) ≡ each = omega (arith, ints) in
    let x : to_z w64 (of_z w64 c.args.x) ≡ c.args.x = omega (arith, ints) in
    let cost : c.times-cost.result ≡ c.args.x *ℤ each = cc in
    let hs = map held_of (vec_items c.index_mut.result.now.positions) in
    let new : account_of c.carry.new.self ≡
    record {
      cash = c.index_mut.result.now.cash -ℤ (c.args.x *ℤ (pos c.args.price -ℤ pos c.index.result.now.price));
      holds = set (map held_of (vec_items c.index_mut.result.now.positions)) c.args.k
          (get_or (map held_of (vec_items c.index_mut.result.now.positions)) c.args.k (pos 0) +ℤ c.args.x);
    } =
    c.carry.ensures ∙ account_same (rw (← cost) (omega (arith, ints))) (ap (set hs c.args.k) (omega (arith, ints))) in
    record {
      after =
          rw (
            gets_from _ _ _ _ _ _ _
                (account_read c.args.self.now c.args.a c.args.a c.index_mut.result.now c.requires.account refl c.index_mut.ensures.value)
                (item_read c.args.self.now c.args.k c.args.k c.index.result.now c.requires.item refl c.index.ensures),
            ← new,
          ) (simp map-set);
      limits = refl;
    }
