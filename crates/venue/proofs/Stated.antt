-- The statements on soundness, turns, ranges and reports, each from its lemmas.
use Rattle.std.proofs.Common.{arith}
use Rattle.std.proofs.lemmas.Int.{ints}
use Rattle.venue.proofs.Carrying.{trade_paid, turn_trades}
use Rattle.venue.proofs.RangesGain.{gain_range}
use Rattle.venue.proofs.RangesMarket.{sized_says, sized_small, sound_range, tearing_range, turn_range}
use Rattle.venue.proofs.RangesNeed.{inv_need}
use Rattle.venue.proofs.Reports.{says_reports}
use Rattle.venue.proofs.Sounds.{inv_sound, sound_first, sound_inv, sound_safe, sound_says, turn_begins}
use Rattle.venue.specs.Statements.{Ranges, ReportsBound, SizesStay, SoundExact, SoundFirst, SoundSafe, SoundSays, SumsFit, TurnsHold}
use Rattle.venue.specs.Trade.{TradePaidFor}

pub is_exact : SoundExact
unfolding SoundExact
is_exact z w = (sound_inv z w, inv_sound z w)

pub is_first : SoundFirst
unfolding SoundFirst
is_first = sound_first

pub is_says : SoundSays
unfolding SoundSays
is_says = sound_says

pub is_safe : SoundSafe
unfolding SoundSafe
is_safe = sound_safe

pub is_turns : TurnsHold
unfolding TurnsHold
is_turns = (turn_begins, turn_trades)

pub is_paid : TradePaidFor
unfolding TradePaidFor
is_paid = trade_paid

pub is_sizes : SizesStay
unfolding SizesStay
is_sizes = sized_says

pub is_ranges : Ranges
unfolding Ranges
is_ranges = (sound_range, turn_range, tearing_range)

pub is_sums : SumsFit
unfolding SumsFit
is_sums = (
  λ z w a e s h.
      let q = inv_need z w a (sized_small z w s) s.few_items (sound_inv z w e) h in (q.0, omega (arith, ints, q.1)),
  λ z w a j ps bs e s h l t. let q = gain_range w a j ps bs (omega (arith, s.few_items)) (sound_range z w e s) h t in omega arith,
)

pub is_reports : ReportsBound
unfolding ReportsBound
is_reports = says_reports
