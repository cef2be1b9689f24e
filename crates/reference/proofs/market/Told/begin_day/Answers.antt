use Rattle.std.proofs.Common.{suc, ◌+◌, ◌≤◌, [], ◌∷◌, ◌++◌, map, length, vec_items, vec_len, vec_capacity, sym, refl, ap, ◌∙◌, arith}
use Rattle.venue.specs.World as world
use Rattle.wire.specs.Means.{report_of}
use Rattle.reference.specs.Means.{world_of}
use Rattle.reference.specs.Parts.{after}
use Rattle.reference.proofs.Fills.{after_more, after_one}
use Rattle.reference.proofs.Mornings.{not_begun, begun, opened, after_opened}
use Rattle.reference.proofs.Reported.{one_more}
use Rattle.reference.proofs.market.Told.begin_day.Goals as goal
use Rattle.reference.proofs.market.Told.begin_day.Goals.{Else-self}

pub push_reserved-requires : goal.push_reserved-requires
push_reserved-requires c =
    let l = ap (λ p. length p.1) (not_begun c.requires.room.0 (world_of c.args.self.now.market) c.if-self.true) in
    omega (arith, c.requires.room.1)

pub returns-then-self : goal.returns-then-self
unfolding after
returns-then-self c =
    λ k. record {
      after = rw (one_more _ _ _ c.push_reserved.ensures.items, not_begun k (world_of c.args.self.now.market) c.if-self.true);
      limits = refl;
      reports = c.push_reserved.ensures.capacity;
    }

-- there is room for all reports
roomy : (c : goal.Else-self) →
    vec_len c.args.self.now.reports + suc (length (world.tear_all (length (world_of c.args.self.now.market).accounts) 0
    (world_of c.args.self.now.market)).1) ≤ vec_capacity c.args.self.now.reports
roomy c =
    let w = world_of c.args.self.now.market in
    let t = opened (world.tear_all (length w.accounts) 0 w) in
    let l = ap (λ p. length p.1) (begun c.requires.room.0 w c.if-self.false) ∙ after_one (world.done 0) t in
    omega (arith, c.requires.room.1)

pub push_reserved-requires-2 : goal.push_reserved-requires-2
push_reserved-requires-2 c = omega (arith, roomy (goal.at.push_reserved-requires-2 c).Else-self)

pub tear_all-requires-clause-room : goal.tear_all-requires-clause-room
tear_all-requires-clause-room c =
    omega (arith, roomy (goal.at.tear_all-requires-clause-room c).Else-self, c.push_reserved-2.ensures.len, c.push_reserved-2.ensures.capacity)

pub returns : goal.returns
returns c =
    let w = world_of c.args.self.now.market in
    let rs = map report_of (vec_items c.args.self.now.reports) in
    let t = world.tear_all (length w.accounts) 0 w in
    let p = one_more _ _ _ c.push_reserved-2.ensures.items in
    λ k. record {
      after = ap opened (c.tear_all.ensures.after ∙ ap (λ xs. after xs t) p) ∙ after_opened (rs ++ world.done 0 ∷ []) t ∙
          sym (after_more rs (world.done 0) (opened t)) ∙
          ap (after rs) (sym (begun k w c.if-self.false));
      limits = c.tear_all.ensures.limits;
      reports = c.tear_all.ensures.reports ∙ c.push_reserved-2.ensures.capacity;
    }
