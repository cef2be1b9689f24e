-- What one more report adds, and what a message does that has one report.
use Rattle.std.proofs.Common.{◌≡◌, Bool, List, [], ◌∷◌, ◌++◌, map, length, vec_items, sym, ap, ◌∙◌, arith}
use Rattle.std.proofs.lemmas.List.{map_push}
use Rattle.venue.specs.World.{World, Message, Report, Limits, says_it}
use Rattle.wire.specs.Means.{report_of}
use Rattle.wire.specs.declared.report.Report as code
use Rattle.reference.specs.Means.{world_of}
use Rattle.reference.specs.Does.{HasRoom, Obeys, Tells}
use Rattle.reference.specs.Parts.{after, answer}
use Rattle.reference.specs.declared.market.Market.{Market}
use Rattle.reference.specs.declared.market.Told.{Told}

pub one_more : (qs rs : List code.Report) (x : code.Report) → qs ≡ rs ++ x ∷ [] → map report_of qs ≡ map report_of rs ++ report_of x ∷ []
one_more qs rs x e = ap (map report_of) e ∙ map_push report_of rs x

pub after_nothing : (rs : List code.Report) (p : World × List Report) → rs ≡ [] → after (map report_of rs) p ≡ p
unfolding after
after_nothing rs p e = rw e

-- the market did what the message says, and its one report is to be made
module _ (z : Limits) (m : World → Message) (s : Told) (u : Market) (taken : Bool) (o : Obeys z (m (world_of s.market)) s.market u taken) where
  pub answer_room : HasRoom s (λ w. says_it z w (m w)) → HasRoom (record { market = u; reports = s.reports }) (λ w. (w, answer taken))
  answer_room h = let e = ap (λ p. length p.1) o.after in omega (arith, h)

  pub answered : (t : Told) → Tells (record { market = u; reports = s.reports }) t (λ w. (w, answer taken)) →
      Tells s t (λ w. says_it z w (m w))
  answered t a =
      record {
        after = a.after ∙ ap (after (map report_of (vec_items s.reports))) (sym o.after);
        limits = a.limits ∙ o.limits;
        reports = a.reports;
      }
