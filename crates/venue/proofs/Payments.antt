-- Paying in and paying out: one account's money changes, and the market's money with it.
use Rattle.std.proofs.Common.{◌≡◌, ℕ, ◌+◌, ◌-◌, ◌<◌, ◌≤◌, true, ◌&&◌, ltb, leb, List, length, get_or, set, ℤ, pos, ◌+ℤ◌, ◌-ℤ◌, ◌≤ℤ◌, sym, refl, ◌∙◌, subst, ⊎_elim, arith, rules}
use lib.Signed.{le_z, ≤ℤ_refl}
use Rattle.std.specs.List.{AllByRecursion}
use Rattle.std.proofs.lemmas.Int.{ints}
use Rattle.std.proofs.lemmas.Bool.Decides.{nat_tests}
use Rattle.std.proofs.ByRecursion.{All-get_or, All-set}
use Rattle.std.proofs.lemmas.Bool.{cases_eq}
use Rattle.std.proofs.lemmas.List.{length-set, get_or-set_same, get_or-set_other}
use Rattle.venue.proofs.Margins.{need_0, need_mono}
use Rattle.venue.proofs.Matching.{Leads}
use Rattle.venue.proofs.Totals.{cash_at, cash_set, cash_within, held_set}
use Rattle.venue.specs.Invariant.{Cover, Inv, NotBelow, Placed, Wide, Within}
use Rattle.venue.specs.Promise.{all_held}
use Rattle.venue.specs.World.{Account, Limits, Order, World, account, held, need, nobody, with_account, with_money}

-- account a with the money y
abbrev pub with_cash : World → ℕ → ℤ → Account
with_cash w a y = record { cash = y; holds = (account w a).holds }

held_same : (k : ℕ) (w : World) (a : ℕ) (y : ℤ) → a < length w.accounts →
    all_held k (set w.accounts a (with_cash w a y)) ≡ all_held k w.accounts
unfolding held account
held_same k w a y h = omega (arith, ints, held_set k w.accounts a (with_cash w a y) h)

-- need goes by holdings alone
cover_cash : (w : World) (a m : ℕ) (y : ℤ) (os : List Order) → a < length w.accounts → need w a os ≤ℤ y → Cover w os →
    Cover (with_money (with_account w a (with_cash w a y)) m) os
unfolding need account with_money with_account held
cover_cash w a m y os h e v c l =
    ⊎_elim
    (λ (q : c ≡ a). rw (q, get_or-set_same w.accounts a (with_cash w a y) nobody h)
    (let z = need_mono a 0 w.items (get_or w.accounts a nobody) (with_cash w a y) os os (λ j i k. ≤ℤ_refl _) in omega (arith, ints)))
    (λ (q : c ≡ a → ⊥). rw (get_or-set_other w.accounts a c (with_cash w a y) nobody q)
    (v c (omega (arith, length-set w.accounts a (with_cash w a y)))))
    (cases_eq c a)

within_cash : (H : ℕ) (w : World) (a m : ℕ) (y : ℤ) (os : List Order) → a < length w.accounts → Within H w os →
    Within H (with_money (with_account w a (with_cash w a y)) m) os
unfolding account with_money with_account held
within_cash H w a m y os h v c k l = search rules

-- account a has y after it
leads_cash : (z : Limits) (w : World) (a m : ℕ) (y : ℤ) → Inv z w → a < length w.accounts → pos m +ℤ (account w a).cash ≡ pos w.money +ℤ y →
    pos 0 ≤ℤ y → (w.trading ≡ true → need w a w.orders ≤ℤ y) → m ≤ z.money → Leads z w (with_money (with_account w a (with_cash w a y)) m)
unfolding with_money with_account account
leads_cash z w a m y i h e p f l =
    let n = length-set w.accounts a (with_cash w a y) in
    record {
      inv = record {
        wide =
            All-set (Wide (length w.items)) w.accounts a (with_cash w a y)
            (All-get_or (Wide (length w.items)) w.accounts a nobody h i.wide) i.wide;
        placed = subst (λ (m : ℕ). AllByRecursion (Placed m w.items) w.orders) (sym n) i.placed;
        left = i.left;
        numbers = i.numbers;
        cash = omega (arith, ints, cash_set w.accounts a (with_cash w a y) h, i.cash);
        held = λ k. held_same k w a y h ∙ i.held k;
        rich = All-set NotBelow w.accounts a (with_cash w a y) p i.rich;
        cover = λ t. cover_cash w a m y w.orders h (f t) (i.cover t);
        empty = i.empty;
        calm = i.calm;
        items = i.items;
        holds = within_cash z.holding w a m y w.orders h i.holds;
        few = i.few;
        money = l;
        next = i.next;
      };
      items = refl;
      accounts = n;
    }

pub leads_pay_in : (z : Limits) (w : World) (a x : ℕ) → Inv z w →
    (ltb a (length w.accounts) && (leb 1 x && leb (w.money + x) z.money)) ≡ true →
    Leads z w (with_money (with_account w a (with_cash w a ((account w a).cash +ℤ pos x))) (w.money + x))
leads_pay_in z w a x i e =
    let h : (a < length w.accounts) × (w.money + x ≤ z.money) = grind (arith, nat_tests) in
    leads_cash z w a (w.money + x) ((account w a).cash +ℤ pos x) i h.0 (omega (arith, ints)) (omega (arith, ints, cash_at w a h.0 i.rich))
    (λ t. omega (arith, ints, i.cover t a h.0)) h.1

pub leads_pay_out : (z : Limits) (w : World) (a x : ℕ) → Inv z w →
    (ltb a (length w.accounts) && (leb 1 x && le_z (need w a w.orders) ((account w a).cash -ℤ pos x))) ≡ true →
    Leads z w (with_money (with_account w a (with_cash w a ((account w a).cash -ℤ pos x))) (w.money - x))
leads_pay_out z w a x i e =
    let h : a < length w.accounts = grind arith in
    let t : le_z (need w a w.orders) ((account w a).cash -ℤ pos x) ≡ true = grind arith in
    leads_cash z w a (w.money - x) ((account w a).cash -ℤ pos x) i h
    (omega (arith, ints, cash_within w a h i.rich, need_0 w a w.orders, i.cash))
    (omega (arith, ints, need_0 w a w.orders)) (λ r. omega (arith, ints)) (omega (arith, i.money))
