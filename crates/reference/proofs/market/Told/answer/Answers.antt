use Rattle.std.proofs.Common.{refl}
use Rattle.reference.specs.Parts.{after}
use Rattle.reference.proofs.Reported.{one_more}
use Rattle.reference.proofs.market.Told.answer.Goals as goal

pub returns-in-Ok : goal.returns-in-Ok
unfolding after
returns-in-Ok c =
    record {
      after = rw (one_more _ _ _ c.push_reserved.ensures.items, c.in-Ok.is);
      limits = refl;
      reports = c.push_reserved.ensures.capacity;
    }

pub returns-in-Err : goal.returns-in-Err
unfolding after
returns-in-Err c =
    record {
      after = rw (one_more _ _ _ c.push_reserved-in-Err.ensures.items, c.in-Err.is);
      limits = refl;
      reports = c.push_reserved-in-Err.ensures.capacity;
    }
