use Rattle.std.proofs.Common.{map, vec_items, sym, refl, ◌∙◌}
use Rattle.wire.specs.Means.{report_of}
use Rattle.reference.specs.Means.{world_of}
use Rattle.reference.specs.Parts.{torn_account}
use Rattle.reference.proofs.Fills.{after_none}
use Rattle.reference.proofs.UnderWay.{morning_fit}
use Rattle.reference.proofs.market.Told.tear_account.Goals as goal

pub covers-requires-clause-fit : goal.covers-requires-clause-fit
covers-requires-clause-fit c =
    morning_fit (world_of c.args.self.now.market) c.requires.morning

pub tear_items-requires-clause-room : goal.tear_items-requires-clause-room
unfolding torn_account
tear_items-requires-clause-room c =
    let e = sym c.covers.ensures ∙ c.if-not-covers.true in
    rw e at c.requires.room

pub returns-then-not-covers : goal.returns-then-not-covers
unfolding torn_account
returns-then-not-covers c =
    let e = sym c.covers.ensures ∙ c.if-not-covers.true in
    record { after = rw e c.tear_items.ensures.after; limits = c.tear_items.ensures.limits; reports = c.tear_items.ensures.reports }

pub returns-else-not-covers : goal.returns-else-not-covers
unfolding torn_account
returns-else-not-covers c =
    let e = sym c.covers.ensures ∙ c.if-not-covers.false in
    record {
      after = rw e (sym (after_none (map report_of (vec_items c.args.self.now.reports)) (world_of c.args.self.now.market)));
      limits = refl;
      reports = refl;
    }
