-- A market whose numbers are small stays one when an account gets some of an item.
use Rattle.std.proofs.Common.{◌≡◌, ℕ, ◌+◌, ◌*◌, ◌<◌, ◌≤◌, List, length, get_or, set, ℤ, pos, ◌+ℤ◌, ◌-ℤ◌, ◌*ℤ◌, sym, refl, subst, ⊎_elim, arith, length-set, get_or-set_other, get_or-set_same}
use Rattle.std.proofs.lemmas.Int.{ints}
use Rattle.std.proofs.lemmas.Bool.{cases_eq}
use Rattle.venue.specs.World.{World, Order, account, held, item, gets, with_account, with_orders, nobody}
use Rattle.reference.specs.Conditions.{Within, Roomy}
use Rattle.reference.proofs.Products.{times_within}

within_less : (z d : ℤ) (c e : ℕ) → Within c z → Within e d → Within (c + e) (z -ℤ d)
within_less z d c e h g = (omega (arith, ints), omega (arith, ints))

within_more : (z d : ℤ) (c e : ℕ) → Within c z → Within e d → Within (c + e) (z +ℤ d)
within_more z d c e h g = (omega (arith, ints), omega (arith, ints))

within_wider : (z : ℤ) (c e : ℕ) → c ≤ e → Within c z → Within e z
within_wider z c e l h = (omega (arith, ints), omega (arith, ints))

pub roomy_wider : (c h d e : ℕ) (w : World) → c ≤ d → h ≤ e → Roomy c h w → Roomy d e w
roomy_wider c h d e w l m r =
    record {
      wide = r.wide;
      priced = r.priced;
      cash = λ a i. within_wider _ c d l (r.cash a i);
      held = λ a k i j. within_wider _ h e m (r.held a k i j);
    }

pub roomy_orders : (c h : ℕ) (w : World) (os : List Order) → Roomy c h w → Roomy c h (with_orders w os)
unfolding with_orders account item
roomy_orders c h w os r = record { wide = r.wide; cash = r.cash; held = r.held; priced = r.priced }

module _ (c h X : ℕ) (w : World) (a k : ℕ) (x : ℤ) (p : ℕ) (r : Roomy c h w) (i : a < length w.accounts) (j : k < length w.items)
    (x_in : Within X x) (p_in : p ≤ 2000000) where
  cost_in : Within (X * 2000000) (x *ℤ (pos p -ℤ pos (item w k).price))
  cost_in =
      let q = r.priced k j in
      times_within x (pos p -ℤ pos (item w k).price) X 2000000 x_in (omega (arith, ints), omega (arith, ints))

  pub many_gets : length (gets w a k x p).accounts ≡ length w.accounts
  unfolding gets with_account
  many_gets = simp length-set

  here : account (gets w a k x p) a ≡
      record {
        cash = (account w a).cash -ℤ (x *ℤ (pos p -ℤ pos (item w k).price));
        holds = set (account w a).holds k (held (account w a) k +ℤ x);
      }
  unfolding account gets with_account
  here = get_or-set_same w.accounts a _ nobody i

  there : (b : ℕ) → (b ≡ a → ⊥) → account (gets w a k x p) b ≡ account w b
  unfolding account gets with_account
  there b ne = get_or-set_other w.accounts a b _ nobody ne

  cash_in : (b : ℕ) → b < length w.accounts → Within (c + X * 2000000) (account (gets w a k x p) b).cash
  cash_in b l =
      ⊎_elim
      (λ (e : b ≡ a). rw (e, here) (within_less _ _ c (X * 2000000) (r.cash a i) cost_in))
      (λ (e : b ≡ a → ⊥). rw (there b e) (within_wider _ c (c + X * 2000000) (omega arith) (r.cash b l)))
      (cases_eq b a)

  held_here : (m : ℕ) → m < length w.items → Within (h + X) (get_or (set (account w a).holds k (held (account w a) k +ℤ x)) m (pos 0))
  unfolding held
  held_here m l =
      let n : k < length (account w a).holds = omega (arith, r.wide a i) in
      ⊎_elim
      (λ (e : m ≡ k). rw (e, get_or-set_same) (within_more _ _ h X (r.held a k i j) x_in))
      (λ (e : m ≡ k → ⊥). rw get_or-set_other (within_wider _ h (h + X) (omega arith) (r.held a m i l)))
      (cases_eq m k)

  held_in : (b m : ℕ) → b < length w.accounts → m < length w.items → Within (h + X) (held (account (gets w a k x p) b) m)
  unfolding held
  held_in b m l q =
      ⊎_elim
      (λ (e : b ≡ a). rw (e, here) (held_here m q))
      (λ (e : b ≡ a → ⊥). rw (there b e) (within_wider _ h (h + X) (omega arith) (r.held b m l q)))
      (cases_eq b a)

  wide_in : (b : ℕ) → b < length w.accounts → length (account (gets w a k x p) b).holds ≡ length w.items
  wide_in b l =
      ⊎_elim
      (λ (e : b ≡ a). rw (e, here) (simp length-set (r.wide a i)))
      (λ (e : b ≡ a → ⊥). rw (there b e) (r.wide b l))
      (cases_eq b a)

  -- each of x moves at most 2,000,000 of money
  pub roomy_gets : Roomy (c + X * 2000000) (h + X) (gets w a k x p)
  unfolding gets with_account item
  roomy_gets =
      record {
        wide = λ b l. wide_in b (rw many_gets at l);
        cash = λ b l. cash_in b (rw many_gets at l);
        held = λ b m l q. held_in b m (rw many_gets at l) q;
        priced = r.priced;
      }

-- after one half of a trade or of a tear-up there is room for the other
pub record StillRoomy (w v : World) : Type 0 where
  pub roomy : Roomy 1000000000000000000 1000000000000 v
  pub accounts : length v.accounts ≡ length w.accounts
  pub items : v.items ≡ w.items

items_gets : (w : World) (a k : ℕ) (x : ℤ) (p : ℕ) → (gets w a k x p).items ≡ w.items
unfolding gets with_account
items_gets w a k x p = refl

pub still_roomy : (w v : World) (a k : ℕ) (x : ℤ) (p : ℕ) → v ≡ gets w a k x p → Roomy 1125899906842624 2147483648 w →
    a < length w.accounts → k < length w.items → Within 2147483648 x → p ≤ 2000000 → StillRoomy w v
still_roomy w v a k x p e r i j x_in p_in =
    let g = roomy_gets 1125899906842624 2147483648 2147483648 w a k x p r i j x_in p_in in
    subst (StillRoomy w) (sym e)
    (record {
      roomy = roomy_wider _ _ 1000000000000000000 1000000000000 _ (omega arith) (omega arith) g;
      accounts = many_gets 1125899906842624 2147483648 2147483648 w a k x p r i j x_in p_in;
      items = items_gets w a k x p;
    })
