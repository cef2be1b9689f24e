-- Some of an item goes from one account to another, or to the same: what stays.
use Rattle.std.proofs.Common.{◌≡◌, ℕ, ◌<◌, Bool, eqb, length, ℤ, pos, ◌+ℤ◌, ◌-ℤ◌, ◌*ℤ◌, sym, ap, ◌∙◌, arith}
use Rattle.std.specs.List.{AllByRecursion}
use Rattle.std.proofs.lemmas.Int.{ints}
use Rattle.venue.proofs.Gets.{cash_gets, held_gets, item_gets, many_gets, wide_at, wide_gets}
use Rattle.venue.proofs.Ints.{dist_r}
use Rattle.venue.specs.Invariant.{Wide}
use Rattle.venue.specs.Promise.{all_cash, all_held}
use Rattle.venue.specs.World.{World, gets, item, pick}

pub record Swapped (w v : World) : Type 0 where
  pub many : length v.accounts ≡ length w.accounts
  pub wide : (n : ℕ) → AllByRecursion (Wide n) w.accounts → AllByRecursion (Wide n) v.accounts
  pub cash : all_cash v.accounts ≡ all_cash w.accounts
  pub held : (k : ℕ) → all_held k v.accounts ≡ all_held k w.accounts

cancels : (b : Bool) (x y : ℤ) → x +ℤ y ≡ pos 0 → pick b x (pos 0) +ℤ pick b y (pos 0) ≡ pos 0
cancels b x y e = grind (arith, ints)

-- a gets x and b gets y, for p each, and x + y is 0
pub swapped : (n : ℕ) (w : World) (a b k : ℕ) (x y : ℤ) (p : ℕ) → x +ℤ y ≡ pos 0 → a < length w.accounts → b < length w.accounts →
    k < n → AllByRecursion (Wide n) w.accounts → Swapped w (gets (gets w a k x p) b k y p)
swapped n w a b k x y p e la hb hk f =
    record {
      many = many_gets w1 b k y p ∙ many_gets w a k x p;
      wide = λ m g. wide_gets m w1 b k y p lb (wide_gets m w a k x p la g);
      cash =
          let d : ℤ = pos p -ℤ pos (item w k).price in
          let c = cash_gets w a k x p la in
          let g = cash_gets w1 b k y p lb in
          let h : all_cash (gets w1 b k y p).accounts ≡ all_cash w1.accounts -ℤ (y *ℤ d) = rw item_gets at g in
          let q : (x *ℤ d) +ℤ (y *ℤ d) ≡ pos 0 *ℤ d = sym (dist_r x y d) ∙ ap (λ (z : ℤ). z *ℤ d) e in
          omega (arith, ints);
      held = λ j.
          omega (
            arith,
            ints,
            held_gets w a k x p j la (omega (arith, wide_at n w a la f)),
            held_gets w1 b k y p j lb (omega (arith, wide_at n w1 b lb (wide_gets n w a k x p la f))),
            cancels (eqb j k) x y e,
          );
    }
  where
    w1 : World
    w1 = gets w a k x p

    lb : b < length w1.accounts
    lb = omega (arith, many_gets w a k x p)
