-- First markets, rows of messages, and the promises.
use Rattle.std.proofs.Common.{◌≡◌, ℕ, zero, suc, ◌+◌, ◌<◌, ◌≤◌, false, List, [], ◌∷◌, length, get_or, replicate, ℤ, pos, ◌+ℤ◌, sym, refl, ap, ◌∙◌, subst, arith, rules}
use Rattle.std.specs.List.{AllByRecursion}
use Rattle.std.proofs.lemmas.Int.{ints}
use Rattle.std.proofs.ByRecursion.{All-get_or}
use Rattle.std.proofs.lemmas.Bool.{both_ways}
use Rattle.std.proofs.lemmas.List.{length-replicate, get_or-replicate}
use Rattle.venue.proofs.Messages.{leads_says}
use Rattle.venue.proofs.Picks.{abs_pos}
use Rattle.venue.proofs.Totals.{cash_at}
use Rattle.venue.specs.Invariant.{Inv, Left, NotBelow, Uncrossed, Wide}
use Rattle.venue.specs.Promise.{Covered, Kept, NotCrossed, SomethingLeft, SoundItems, all_cash, all_held}
use Rattle.venue.specs.World.{Account, Item, Limits, Message, Order, World, abs, account, first, held, no_order, nobody, run, says, standing}
use Rattle.std.proofs.lemmas.List.Elements.{recursion_from_All, All-replicate}

cash_first : (n : ℕ) (hs : List ℤ) → all_cash (replicate n (record { cash = pos 0; holds = hs })) ≡ pos 0
unfolding all_cash
cash_first zero hs = refl
cash_first (suc n) hs = ap (λ (z : ℤ). pos 0 +ℤ z) (cash_first n hs)

pub held_none : (m k : ℕ) → get_or (replicate m (pos 0)) k (pos 0) ≡ pos 0
held_none (suc m) (suc k) = held_none m k
held_none m k = search rules

held_first : (n m k : ℕ) → all_held k (replicate n (record { cash = pos 0; holds = replicate m (pos 0) })) ≡ pos 0
unfolding all_held held
held_first zero m k = refl
held_first (suc n) m k = let e = held_first n m k in let d = held_none m k in omega (arith, ints)

-- a first market, whatever the limits
pub inv_first : (z : Limits) (is : List Item) (n : ℕ) → SoundItems is → Inv z (first is n)
unfolding first account held standing
inv_first z is n s =
    let x : Account = record { cash = pos 0; holds = replicate (length is) (pos 0) } in
    record {
      wide = recursion_from_All (Wide (length is)) _ (All-replicate (Wide (length is)) n x (length-replicate (length is) (pos 0)));
      placed = tt;
      left = tt;
      numbers = omega arith;
      cash = cash_first n (replicate (length is) (pos 0));
      held = held_first n (length is);
      rich = recursion_from_All NotBelow _ (All-replicate NotBelow n x (omega (arith, ints)));
      cover = λ e. absurd (both_ways false refl e);
      empty = λ e. refl;
      calm = tt;
      items = s;
      holds = λ c k l.
          let h : c < n = omega (arith, length-replicate n x) in
          subst (λ (y : Account). abs (get_or y.holds k (pos 0)) + 0 ≤ z.holding) (sym (get_or-replicate n c x nobody h))
          (subst (λ (y : ℤ). abs y + 0 ≤ z.holding) (sym (held_none (length is) k)) (omega (arith, abs_pos 0)));
      few = omega arith;
      money = omega arith;
      next = omega arith;
    }

pub inv_run : (z : Limits) (w : World) (ms : List Message) → Inv z w → Inv z (run z w ms)
unfolding run
inv_run z w [] i = i
inv_run z w (m ∷ ms) i = inv_run z (says z w m).0 ms (leads_says z w m i).inv

many_run : (z : Limits) (w : World) (ms : List Message) → Inv z w → length (run z w ms).accounts ≡ length w.accounts
unfolding run
many_run z w [] i = refl
many_run z w (m ∷ ms) i = let l = leads_says z w m i in many_run z (says z w m).0 ms l.inv ∙ l.accounts

many_first : (is : List Item) (n : ℕ) → length (first is n).accounts ≡ n
unfolding first
many_first is n = length-replicate n _

pub is_kept : Kept
unfolding Kept
is_kept z is n k ms s = let i = inv_run z (first is n) ms (inv_first z is n s) in (i.cash, i.held k)

pub is_covered : Covered
unfolding Covered
is_covered z is n a ms s h =
    let w = run z (first is n) ms in
    let f = inv_first z is n s in
    let i = inv_run z (first is n) ms f in
    let l : a < length w.accounts = omega (arith, many_run z (first is n) ms f, many_first is n) in
    (cash_at w a l i.rich, λ t. i.cover t a l)

pub is_not_crossed : NotCrossed
unfolding NotCrossed
is_not_crossed z is n j k ms s hj hk b c e =
    let os = (run z (first is n) ms).orders in
    let i = inv_run z (first is n) ms (inv_first z is n s) in
    All-get_or (Uncrossed (get_or os j no_order)) os k no_order hk (All-get_or (λ (b : Order). AllByRecursion (Uncrossed b) os) os j no_order hj i.calm) b c e

pub is_something_left : SomethingLeft
unfolding SomethingLeft
is_something_left z is n j ms s h =
    (All-get_or Left (run z (first is n) ms).orders j no_order h (inv_run z (first is n) ms (inv_first z is n s)).left).0
