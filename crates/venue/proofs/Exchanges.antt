-- What a trade moves between two accounts.
use Rattle.std.proofs.Common.{◌≡◌, ℕ, ◌<◌, Bool, true, false, not, ◌&&◌, eqb, List, length, ℤ, pos, ◌+ℤ◌, ◌-ℤ◌, ◌*ℤ◌, neg_ℤ, refl, ap, ◌∙◌, arith, rules}
use Rattle.std.specs.List.{AllByRecursion}
use Rattle.std.proofs.lemmas.Int.{ints}
use Rattle.std.proofs.lemmas.Bool.{eqb-true}
use Rattle.venue.proofs.Gets.{account_other, account_same, cash_after, held_elsewhere, held_there, many_gets, wide_at, wide_gets}
use Rattle.venue.proofs.Ints.{neg_l}
use Rattle.venue.proofs.Trades.{moved, two_get}
use Rattle.venue.specs.Invariant.{Wide}
use Rattle.venue.specs.Placing.{Exchanged}
use Rattle.venue.specs.World.{Order, World, account, gets, held, item, pick, with_account, with_orders}

-- one account gets x of item k for p each
gets_held : (w : World) (a k : ℕ) (x : ℤ) (p c j : ℕ) → a < length w.accounts → k < length (account w a).holds →
    held (account (gets w a k x p) c) j ≡ held (account w c) j +ℤ pick (eqb c a && eqb j k) x (pos 0)
gets_held w a k x p c j e f = search (rules, eqb-true, account_same, held_there, held_elsewhere, account_other)

gets_cash : (w : World) (a k : ℕ) (x : ℤ) (p c : ℕ) → a < length w.accounts →
    (account (gets w a k x p) c).cash ≡ (account w c).cash -ℤ pick (eqb c a) (x *ℤ (pos p -ℤ pos (item w k).price)) (pos 0)
gets_cash w a k x p c e = search (rules, eqb-true, account_same, cash_after, account_other)

pick_neg : (b : Bool) (x y : ℤ) → y ≡ neg_ℤ x → pick b y (pos 0) ≡ neg_ℤ (pick b x (pos 0))
pick_neg b x y e = grind (arith, ints)

swap_first : (y c p q n : ℤ) → y ≡ (c -ℤ p) -ℤ n → n ≡ neg_ℤ q → y ≡ (c -ℤ p) +ℤ q
swap_first y c p q n e d = omega (arith, ints)

swap_second : (y c p q n : ℤ) → y ≡ (c -ℤ n) -ℤ p → n ≡ neg_ℤ q → y ≡ (c -ℤ p) +ℤ q
swap_second y c p q n e d = omega (arith, ints)

-- two accounts, with what the one gets taken from the other
module _ (w : World) (o r : Order) (x : ℕ) (f : AllByRecursion (Wide (length w.items)) w.accounts) (lo : o.account < length w.accounts)
    (lr : r.account < length w.accounts) (lk : o.item < length w.items) where
  two_held : (b : Bool) (c j : ℕ) → held (account (two_get w o r x b) c) j
      ≡ (held (account w c) j +ℤ pick (eqb c o.account && eqb j o.item) (moved b x) (pos 0))
      +ℤ pick (eqb c r.account && eqb j o.item) (moved (not b) x) (pos 0)
  two_held b c j = search (rules, many_gets, wide_at, wide_gets, gets_held)

  two_cash : (b : Bool) (c : ℕ) → (account (two_get w o r x b) c).cash
      ≡ ((account w c).cash -ℤ pick (eqb c o.account) (moved b x *ℤ (pos r.price -ℤ pos (item w o.item).price)) (pos 0))
      -ℤ pick (eqb c r.account) (moved (not b) x *ℤ (pos r.price -ℤ pos (item w o.item).price)) (pos 0)
  unfolding gets with_account item
  two_cash b c =
      let v = gets w o.account o.item (moved b x) r.price in
      let lv : r.account < length v.accounts = omega (arith, many_gets w o.account o.item (moved b x) r.price) in
      gets_cash v r.account o.item (moved (not b) x) r.price c lv
      ∙ ap (λ (y : ℤ). y -ℤ pick (eqb c r.account) (moved (not b) x *ℤ (pos r.price -ℤ pos (item w o.item).price)) (pos 0))
      (gets_cash w o.account o.item (moved b x) r.price c lo)

  abbrev due : ℤ
  due = pos x *ℤ (pos r.price -ℤ pos (item w o.item).price)

  pub two_exchanged : (b : Bool) → Exchanged w (two_get w o r x b) (pick b o.account r.account) (pick b r.account o.account) o.item r.price x
  unfolding gets with_account
  two_exchanged true =
      record {
        holds = λ c j.
            let e = two_held true c j in
            let d = pick_neg (eqb c r.account && eqb j o.item) (pos x) (neg_ℤ (pos x)) refl in
            omega (arith, ints);
        cash = λ c.
            swap_first _ (account w c).cash (pick (eqb c o.account) due (pos 0)) (pick (eqb c r.account) due (pos 0)) _ (two_cash true c)
            (pick_neg (eqb c r.account) due _ (neg_l (pos x) (pos r.price -ℤ pos (item w o.item).price)));
        items = refl;
        next = refl;
        money = refl;
        trading = refl;
      }
  two_exchanged false =
      record {
        holds = λ c j.
            let e = two_held false c j in
            let d = pick_neg (eqb c o.account && eqb j o.item) (pos x) (neg_ℤ (pos x)) refl in
            omega (arith, ints);
        cash = λ c.
            swap_second _ (account w c).cash (pick (eqb c r.account) due (pos 0)) (pick (eqb c o.account) due (pos 0)) _ (two_cash false c)
            (pick_neg (eqb c o.account) due _ (neg_l (pos x) (pos r.price -ℤ pos (item w o.item).price)));
        items = refl;
        next = refl;
        money = refl;
        trading = refl;
      }

-- which orders stand is not asked
pub exchanged_same : (w v : World) (os : List Order) (a b k p x : ℕ) → Exchanged (with_orders w os) v a b k p x → Exchanged w v a b k p x
unfolding with_orders account item
exchanged_same w v os a b k p x e = search rules
