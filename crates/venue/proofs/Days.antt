-- The day's end, and its beginning.
use Rattle.std.proofs.Common.{◌≡◌, ℕ, ◌+◌, ◌<◌, ◌≤◌, true, false, List, [], length, get_or, ℤ, pos, sym, refl, ap, ◌∙◌, subst, arith, rules}
use Rattle.std.specs.List.{AllByRecursion}
use Rattle.std.proofs.lemmas.Int.{ints}
use Rattle.std.proofs.ByRecursion.{All-from_get_or}
use Rattle.std.proofs.lemmas.Bool.{both_ways}
use Rattle.venue.proofs.Evening.{cash_of_paid, cash_paid, held_paid, holds_paid, many_paid, new_many, new_sound, wide_paid}
use Rattle.venue.proofs.Gains.{gain_from}
use Rattle.venue.proofs.Matching.{Leads}
use Rattle.venue.proofs.Numbers.{rising_ends}
use Rattle.venue.proofs.TearAll.{covered_all, tears_all}
use Rattle.venue.specs.Invariant.{Cover, Inv, NotBelow, Wide}
use Rattle.venue.specs.Tearing.{Tearing}
use Rattle.venue.specs.World.{Limits, World, abs, account, held, need, new_items, nobody, paid, prices_fit, standing, tear_all}

-- the market in the evening
abbrev pub settled : World → List ℕ → List ℕ → World
settled w ps bs =
    record { items = new_items ps bs; accounts = paid w.items ps w.accounts; orders = []; next = w.next; money = w.money; trading = false }

pub leads_end_day : (z : Limits) (w : World) (ps bs : List ℕ) → Inv z w → w.trading ≡ true → prices_fit w.items ps bs ≡ true →
    Leads z w (settled w ps bs)
unfolding need account held standing
leads_end_day z w ps bs i r t =
    let n = many_paid w.items ps w.accounts in
    let m = new_many w.items ps bs t in
    record {
      inv = record {
        wide =
            subst (λ (c : ℕ). AllByRecursion (Wide c) (paid w.items ps w.accounts)) (sym m)
            (wide_paid (length w.items) w.items ps w.accounts i.wide);
        placed = tt;
        left = tt;
        numbers = rising_ends 1 w.orders w.next i.numbers;
        cash = cash_paid w.items ps w.accounts i.held ∙ i.cash;
        held = λ k. held_paid k w.items ps w.accounts ∙ i.held k;
        rich = All-from_get_or NotBelow (paid w.items ps w.accounts) nobody
            (λ c l. let h : c < length w.accounts = omega arith in
            omega (
              arith,
              ints,
              cash_of_paid w.items ps w.accounts c h,
              gain_from c 0 w.items ps bs (get_or w.accounts c nobody) w.orders t,
              i.cover r c h,
            ));
        cover = λ e. absurd (both_ways false refl e);
        empty = λ e. refl;
        calm = tt;
        items = new_sound w.items ps bs t;
        holds = λ c k l. subst (λ (hs : List ℤ). abs (get_or hs k (pos 0)) + 0 ≤ z.holding) (sym (holds_paid w.items ps w.accounts c))
            (omega (arith, i.holds c k (omega arith)));
        few = omega arith;
        money = i.money;
        next = i.next;
      };
      items = m;
      accounts = n;
    }

-- the market v with trading begun
abbrev pub begun : World → World
begun v = record { items = v.items; accounts = v.accounts; orders = v.orders; next = v.next; money = v.money; trading = true }

pub leads_begin_day : (z : Limits) (w : World) → Inv z w → w.trading ≡ false → Leads z w (begun (tear_all (length w.accounts) 0 w).0)
unfolding need account
leads_begin_day z w i s =
    let v = (tear_all (length w.accounts) 0 w).0 in
    let g : Tearing z w = record { inv = i; still = s } in
    let r = tears_all z (length w.accounts) 0 w (omega arith) g in
    let d = covered_all z (length w.accounts) 0 w (omega arith) g (λ c l. absurd (omega arith)) in
    let j = r.tearing.inv in
    let c : Cover v v.orders = subst (Cover v) (sym (j.empty r.tearing.still)) (λ c l. d c (omega arith)) in
    record { inv = search (rules, c); items = ap length r.torn.items; accounts = r.torn.accounts }
