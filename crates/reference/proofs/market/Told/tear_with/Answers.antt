use Rattle.std.proofs.Common.{◌≡◌, ◌≤◌, [], ◌∷◌, map, length, pos, ◌-ℤ◌, neg_ℤ, vec_items, sym, refl, ap, ◌∙◌, arith, w64, SFits, to_z, of_z, rules}
use Rattle.std.proofs.lemmas.Int.{ints, to_z-of_z}
use Rattle.venue.specs.World.{account, held, item, gets, opposite, torn}
use Rattle.wire.specs.Means.{report_of}
use Rattle.reference.specs.Means.{world_of}
use Rattle.reference.specs.Conditions.{Roomy}
use Rattle.reference.specs.Parts.{after, torn_one}
use Rattle.reference.proofs.Mornings.{torn_not, torn_made}
use Rattle.reference.proofs.Fills.{after_none}
use Rattle.reference.proofs.Places.{item_read}
use Rattle.reference.proofs.Ranges.{tearing_roomy}
use Rattle.reference.proofs.Room.{StillRoomy, still_roomy, roomy_wider}
use Rattle.reference.proofs.Reported.{one_more}
use Rattle.reference.proofs.market.Told.tear_with.Goals as goal
use Rattle.reference.proofs.market.Told.tear_with.Goals.{Start, After-opposite, After-index, After-gets, After-gets-2}

roomy : (c : goal.Start) → Roomy 1125899906842624 2147483648 (world_of c.args.self.now.market)
roomy c = tearing_roomy c.requires.morning.limits (world_of c.args.self.now.market) c.requires.morning.small c.requires.morning.tearing

pub held_of-mine-requires-clause-roomy : goal.held_of-mine-requires-clause-roomy
held_of-mine-requires-clause-roomy c =
    roomy (goal.at.held_of-mine-requires-clause-roomy c).Start

pub held_of-other-requires-clause-roomy : goal.held_of-other-requires-clause-roomy
held_of-other-requires-clause-roomy c =
    roomy (goal.at.held_of-other-requires-clause-roomy c).Start

-- the test, in the plain market's words
tested : (c : goal.After-opposite) → c.opposite.result ≡
    opposite (held (account (world_of c.args.self.now.market) c.args.a) c.args.k)
    (held (account (world_of c.args.self.now.market) c.args.b) c.args.k)
tested c =
    let f : SFits w64 c.held_of-mine.result = search rules in
    let g : SFits w64 c.held_of-other.result = search rules in
    let x = to_z-of_z w64 c.held_of-mine.result f in
    let y = to_z-of_z w64 c.held_of-other.result g in
    let m = c.held_of-mine.ensures.value in
    let n = c.held_of-other.ensures.value in
    cc

pub returns-then-not-opposite : goal.returns-then-not-opposite
returns-then-not-opposite c =
    let n = torn_not (world_of c.args.self.now.market) c.args.a c.args.b c.args.k
    (sym (tested (goal.at.returns-then-not-opposite c).After-opposite) ∙ c.if-not-opposite.true) in
    record {
      after = rw n (sym (after_none (map report_of (vec_items c.args.self.now.reports)) (world_of c.args.self.now.market)));
      limits = refl;
      reports = refl;
    }

-- the item's price, and that it is small
priced : (c : goal.After-index) → (c.index.result.now.price ≡ (item (world_of c.args.self.now.market) c.args.k).price) ×
    (c.index.result.now.price ≤ 2000000)
priced c =
    let e = ap (λ i. i.price) (item_read c.args.self.now.market c.args.k c.from-item.result c.index.result.now c.requires.item
    c.from-item.ensures c.index.ensures) in
    let p = (roomy (goal.at.After-index c).Start).priced c.args.k c.requires.item in
    (sym e, omega arith)

pub gets-requires-clause-price : goal.gets-requires-clause-price
gets-requires-clause-price c =
    (priced (goal.at.gets-requires-clause-price c).After-index).1

pub gets-requires-clause-roomy : goal.gets-requires-clause-roomy
gets-requires-clause-roomy c =
    let p = (priced (goal.at.gets-requires-clause-roomy c).After-index).1 in
    roomy_wider 1125899906842624 2147483648 1000000000000000000 1000000000000 (world_of c.args.self.now.market) (omega arith) (omega arith)
    (roomy (goal.at.gets-requires-clause-roomy c).Start)

-- the market between the two halves
first_half : (c : goal.After-gets) → world_of c.gets.new.self ≡
    gets (world_of c.args.self.now.market) c.args.a c.args.k (neg_ℤ c.smaller-held.result) c.index.result.now.price
first_half c =
    let n : to_z w64 (of_z w64 (pos 0 -ℤ to_z w64 (of_z w64 c.smaller-held.result))) ≡ neg_ℤ c.smaller-held.result =
    omega (arith, ints, c.smaller-held.ensures.bound.0, c.smaller-held.ensures.bound.1) in
    let e = c.gets.ensures.after in
    cc

half : (c : goal.After-gets) → StillRoomy (world_of c.args.self.now.market) (world_of c.gets.new.self)
half c =
    still_roomy (world_of c.args.self.now.market) (world_of c.gets.new.self) c.args.a c.args.k (neg_ℤ c.smaller-held.result)
    c.index.result.now.price
    (first_half c) (roomy (goal.at.After-gets c).Start) c.requires.account c.requires.item (
      omega (arith, ints, c.smaller-held.ensures.bound.0, c.smaller-held.ensures.bound.1),
      omega
          (arith, ints, c.smaller-held.ensures.bound.0, c.smaller-held.ensures.bound.1),
    )
    (priced (goal.at.After-gets c).After-index).1

pub gets-requires-2-clause-account : goal.gets-requires-2-clause-account
gets-requires-2-clause-account c =
    let h = half (goal.at.gets-requires-2-clause-account c).After-gets in
    let a = h.accounts in
    let i = ap length h.items in
    omega (arith, c.requires.other, c.from-2.ensures)

pub gets-requires-2-clause-item : goal.gets-requires-2-clause-item
gets-requires-2-clause-item c =
    let h = half (goal.at.gets-requires-2-clause-item c).After-gets in
    let a = h.accounts in
    let i = ap length h.items in
    omega (arith, c.requires.item, c.from-item.ensures)

pub gets-requires-2-clause-price : goal.gets-requires-2-clause-price
gets-requires-2-clause-price c =
    (priced (goal.at.gets-requires-2-clause-price c).After-index).1

pub gets-requires-2-clause-roomy : goal.gets-requires-2-clause-roomy
gets-requires-2-clause-roomy c =
    (half (goal.at.gets-requires-2-clause-roomy c).After-gets).roomy

-- the whole step
stepped : (c : goal.After-gets-2) → torn_one (world_of c.args.self.now.market) c.args.a c.args.b c.args.k ≡
    (world_of c.gets-2.new.self, torn c.args.a c.args.b c.args.k c.smaller-held.result ∷ [])
stepped c =
    let w = world_of c.args.self.now.market in
    let f : SFits w64 c.held_of-mine.result = search rules in
    let g : SFits w64 c.held_of-other.result = search rules in
    let d : SFits w64 c.smaller-held.result = search rules in
    let x = to_z-of_z w64 c.held_of-mine.result f in
    let y = to_z-of_z w64 c.held_of-other.result g in
    let z = to_z-of_z w64 c.smaller-held.result d in
    let m = c.held_of-mine.ensures.value in
    let n = c.held_of-other.ensures.value in
    let v = c.smaller-held.ensures.value in
    let e = c.gets-2.ensures.after in
    torn_made w (world_of c.gets.new.self) (world_of c.gets-2.new.self) c.args.a c.args.b c.args.k
    c.smaller-held.result (neg_ℤ c.smaller-held.result) c.index.result.now.price
    (sym (tested (goal.at.After-gets-2 c).After-opposite) ∙ c.if-not-opposite.false) (cc) refl (priced (goal.at.After-gets-2 c).After-index).0
    (first_half (goal.at.After-gets-2 c).After-gets) (cc)

pub push_reserved-requires : goal.push_reserved-requires
push_reserved-requires c =
    let l = ap (λ p. length p.1) (stepped (goal.at.push_reserved-requires c).After-gets-2) in
    omega (arith, c.requires.room)

pub returns : goal.returns
unfolding after
returns c =
    let t = stepped (goal.at.returns c).After-gets-2 in
    let d : SFits w64 c.smaller-held.result = search rules in
    let z = to_z-of_z w64 c.smaller-held.result d in
    let p = rw z at (one_more _ _ _ c.push_reserved.ensures.items) in
    record {
      after = rw (p, t);
      limits = c.gets-2.ensures.limits ∙ c.gets.ensures.limits;
      reports = c.push_reserved.ensures.capacity;
    }
