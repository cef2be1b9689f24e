-- Products and sums of signed money.
use Rattle.std.proofs.Common.{◌≡◌, ℕ, suc, true, false, ◌*◌, ◌≤◌, List, ℤ, pos, negsuc, ◌+ℤ◌, ◌*ℤ◌, neg_ℤ, nat_abs, refl, ⊎_elim, mul-le-mul, arith}
use lib.IntN.{*ℤ-negsuc}
use Rattle.std.proofs.lemmas.Int.{ints}
use lib.Signed.{lt_z}
use Rattle.std.specs.Int.{int_max}
use Rattle.std.proofs.lemmas.Bool.{cases_Bool, le-ltb}
use Rattle.venue.specs.World.{Account, Item, Order, buys, sells, need_in, larger, abs}
use Rattle.reference.specs.Conditions.{Within}

-- a product of a number within H of 0 and one of at most B is within H * B
pub product_within : (h : ℤ) (n H B : ℕ) → Within H h → n ≤ B → Within (H * B) (h *ℤ pos n)
product_within (pos m) n H B hs le =
    let a : m ≤ H = omega (arith, ints) in
    let p = mul-le-mul a le in
    (omega (arith, ints), omega (arith, ints))
product_within (negsuc m) n H B hs le =
    let a : suc m ≤ H = omega (arith, ints) in
    let p = mul-le-mul a le in
    (omega (arith, ints), omega (arith, ints))

-- the same of two signed numbers
pub times_within : (h d : ℤ) (H B : ℕ) → Within H h → Within B d → Within (H * B) (h *ℤ d)
times_within h (pos n) H B hs ds = product_within h n H B hs (omega (arith, ints))
times_within h (negsuc n) H B hs ds =
    let p = product_within h (suc n) H B hs (omega (arith, ints)) in
    rw *ℤ-negsuc (omega (arith, ints, p.0, p.1), omega (arith, ints, p.0, p.1))

-- an account whose two parts are the same
pub account_same : {a b : ℤ} {hs gs : List ℤ} → a ≡ b → hs ≡ gs →
    ◌≡◌ {A = Account} (record { cash = a; holds = hs }) (record { cash = b; holds = gs })
account_same p q = cc

-- the most that can be lost in an item, by its three parts
pub need_in_is : (a k : ℕ) (i : Item) (h : ℤ) (os : List Order) (s : ℤ) (b l : ℕ) →
    s ≡ h *ℤ pos i.band → b ≡ buys a k i os → l ≡ sells a k i os →
    need_in a k i h os ≡ larger (s +ℤ pos b) (neg_ℤ s +ℤ pos l)
unfolding need_in
need_in_is a k i h os s b l e f g = rw (← e, ← f, ← g)

pub abs_is : (h : ℤ) → abs h ≡ nat_abs h
unfolding abs
abs_is (pos n) = rw (le-ltb n 0 (omega arith))
abs_is (negsuc n) = refl

-- the larger of two
pub max_is : (a b : ℤ) → int_max a b ≡ larger a b
unfolding larger
max_is a b = grind (arith, ints)

pub larger_within : (n : ℕ) (a b : ℤ) → Within n a → Within n b → Within n (larger a b)
unfolding larger
larger_within n a b p q = ⊎_elim (λ (e : lt_z a b ≡ true). rw e q) (λ (e : lt_z a b ≡ false). rw e p) (cases_Bool (lt_z a b))
