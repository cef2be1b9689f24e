-- How often something is torn up in a morning: at most once for each holding, since each time one of two holdings becomes 0 for good.
use Rattle.std.proofs.Common.{ℕ, zero, suc, ◌+◌, ◌*◌, ◌<◌, ◌≤◌, List, length, ap, arith}
use Rattle.std.proofs.lemmas.List.{length-append}
use Rattle.venue.proofs.Holdings.{all_holdings, holdings_le, step_holdings}
use Rattle.venue.proofs.Picks.{by_pick}
use Rattle.venue.proofs.TearAll.{tears_items}
use Rattle.venue.proofs.TearUp.{tearing_goes, tears_tear, torn_step}
use Rattle.venue.specs.Tearing.{Tearing}
use Rattle.venue.specs.World.{Limits, Report, World, account, covered, held, opposite, tear, tear_all, tear_items}

-- reports and what is held afterwards are together at most what was held
tear_reports : (z : Limits) (f b a k : ℕ) (w : World) → f + b ≤ length w.accounts → Tearing z w → a < length w.accounts →
    k < length w.items → length (tear f b a k w).1 + all_holdings (tear f b a k w).0 ≤ all_holdings w
unfolding tear
tear_reports z zero b a k w h g la lk = omega arith
tear_reports z (suc f) b a k w h g la lk =
    by_pick (λ (y : World × List Report). length y.1 + all_holdings y.0 ≤ all_holdings w)
    (opposite (held (account w a) k) (held (account w b) k)) _ _
    (λ e.
    let o = tearing_goes z a k w b g la (omega arith) lk e in
    let m = ap length o.torn.items in
    let r = tear_reports z f (suc b) a k (torn_step w a b k) (omega arith) o.tearing (omega arith) (omega arith) in
    omega (arith, step_holdings z w a b k g la (omega arith) lk e))
    (λ e. tear_reports z f (suc b) a k w (omega arith) g la lk)

tear_items_reports : (z : Limits) (f k a : ℕ) (w : World) → f + k ≤ length w.items → Tearing z w → a < length w.accounts →
    length (tear_items f k a w).1 + all_holdings (tear_items f k a w).0 ≤ all_holdings w
unfolding tear_items
tear_items_reports z zero k a w h g la = omega arith
tear_items_reports z (suc f) k a w h g la =
    let v = tear (length w.accounts) 0 a k w in
    let t = tears_tear z a k (length w.accounts) 0 w (omega arith) g la (omega arith) in
    let m = ap length t.torn.items in
    let r = tear_items_reports z f (suc k) a v.0 (omega arith) t.tearing (omega arith) in
    let q = tear_reports z (length w.accounts) 0 a k w (omega arith) g la (omega arith) in
    omega (arith, length-append v.1 (tear_items f (suc k) a v.0).1)

tear_all_reports : (z : Limits) (f a : ℕ) (w : World) → f + a ≤ length w.accounts → Tearing z w →
    length (tear_all f a w).1 + all_holdings (tear_all f a w).0 ≤ all_holdings w
unfolding tear_all
tear_all_reports z zero a w h g = omega arith
tear_all_reports z (suc f) a w h g =
    by_pick (λ (y : World × List Report). length y.1 + all_holdings y.0 ≤ all_holdings w) (covered w a w.orders) _ _
    (λ e. tear_all_reports z f (suc a) w (omega arith) g)
    (λ e.
    let v = tear_items (length w.items) 0 a w in
    let t = tears_items z (length w.items) 0 a w (omega arith) g (omega arith) in
    let r = tear_all_reports z f (suc a) v.0 (omega arith) t.tearing in
    omega (arith, tear_items_reports z (length w.items) 0 a w (omega arith) g (omega arith), length-append v.1 (tear_all f (suc a) v.0).1))

-- at most one for each account and item
pub tears_le : (z : Limits) (w : World) → Tearing z w → length (tear_all (length w.accounts) 0 w).1 ≤ length w.accounts * length w.items
tears_le z w g =
    omega (arith, tear_all_reports z (length w.accounts) 0 w (omega arith) g, holdings_le (length w.items) w g.inv.wide)
