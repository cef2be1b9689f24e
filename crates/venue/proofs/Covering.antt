-- One side of a trade: nobody's need grows by more than the money that comes with it.
use Rattle.std.proofs.Common.{◌≡◌, ℕ, ◌+◌, ◌-◌, ◌*◌, ◌<◌, ◌≤◌, true, false, List, length, get_or, ℤ, pos, ◌+ℤ◌, ◌-ℤ◌, ◌*ℤ◌, neg_ℤ, ◌≤ℤ◌, ⊎_elim, arith, rules, zero-add}
use Rattle.std.proofs.lemmas.Int.{ints}
use Rattle.std.proofs.lemmas.Bool.{cases_eq}
use Rattle.venue.proofs.Gets.{account_other, account_same, after, cash_after, held_elsewhere, held_there, items_gets}
use Rattle.venue.proofs.Losses.{bought, sold}
use Rattle.venue.proofs.Margins.{need_less, need_mono, need_released, need_step}
use Rattle.venue.proofs.Released.{buys_less, bw, sells_less, sw}
use Rattle.venue.proofs.Weights.{Less}
use Rattle.venue.specs.Invariant.{Cover}
use Rattle.venue.specs.Trade.{PaidFor}
use Rattle.venue.specs.World.{Item, Order, World, account, buys, gets, held, is_buy, item, need, need_in, no_item, sells}

pub paid_more : (w v u : World) (os ps qs : List Order) → length v.accounts ≡ length w.accounts →
    PaidFor w os v ps → PaidFor v ps u qs → PaidFor w os u qs
paid_more w v u os ps qs e f g c h = omega (arith, ints, f c h, g c (omega arith))

-- so everybody stays covered
pub paid_cover : (w v : World) (os ps : List Order) → length v.accounts ≡ length w.accounts → PaidFor w os v ps → Cover w os → Cover v ps
paid_cover w v os ps e f g c h = let l : c < length w.accounts = omega arith in omega (arith, ints, f c l, g c l)

-- account a gets x of item k for p, and orders os become os'; what must hold in item k
paid_gets : (w : World) (a k : ℕ) (x : ℤ) (p : ℕ) (os os' : List Order) (u : Order) → a < length w.accounts → k < length w.items →
    k < length (account w a).holds → Less os os' u →
    ((j : ℕ) → j ≡ k → need_in a j (item w k) (held (account w a) j +ℤ x) os'
    ≤ℤ (need_in a j (item w k) (held (account w a) j) os -ℤ (x *ℤ (pos p -ℤ pos (item w k).price)))) →
    PaidFor w os (gets w a k x p) os'
unfolding need item
paid_gets w a k x p os os' u ha hk hh f g c hc =
    ⊎_elim
    (λ (e : c ≡ a). rw (e, account_same w a k x p ha, items_gets)
    (let D : ℤ = x *ℤ (pos p -ℤ pos (get_or w.items k no_item).price) in
    let n = need_step a 0 k k w.items (account w a) (after w a k x p) os os' D hk (omega arith)
    (λ j i ne. rw (held_elsewhere w a k x p j hh ne) (need_released os os' u f a j i (held (account w a) j)))
    (λ j e. rw (held_there w a k x p j hh e) (g j e)) in
    omega (arith, ints, n, cash_after w a k x p)))
    (λ (e : c ≡ a → ⊥). rw (account_other w a k x p c e, items_gets)
    (let n = need_mono c 0 w.items (account w c) (account w c) os os' (λ j i l. need_released os os' u f c j i (held (account w c) j)) in
    omega (arith, ints)))
    (cases_eq c a)

-- what an order adds to its own account's losses in its own item
own_buy : (u : Order) (i : Item) (j : ℕ) → is_buy u.side ≡ true → j ≡ u.item →
    (bw u.account j i u ≡ u.left * ((u.price + i.band) - i.price)) × (sw u.account j i u ≡ 0)
own_buy u i j s e = search rules

own_sell : (u : Order) (i : Item) (j : ℕ) → is_buy u.side ≡ false → j ≡ u.item →
    (bw u.account j i u ≡ 0) × (sw u.account j i u ≡ u.left * ((i.price + i.band) - u.price))
own_sell u i j s e = search rules

-- the buy order u is carried out for p
pub paid_buy : (w : World) (u : Order) (p : ℕ) (os os' : List Order) → is_buy u.side ≡ true → u.account < length w.accounts →
    u.item < length w.items → u.item < length (account w u.account).holds → Less os os' u → p ≤ u.price →
    p ≤ (item w u.item).price + (item w u.item).band → PaidFor w os (gets w u.account u.item (pos u.left) p) os'
unfolding need_in
paid_buy w u p os os' s ha hk hh f q r =
    paid_gets w u.account u.item (pos u.left) p os os' u ha hk hh f
    (λ j e.
    let i = item w u.item in
    let o = own_buy u i j s e in
    rw (buys_less os os' u f u.account j i, sells_less os os' u f u.account j i, o.0, o.1, zero-add)
    (bought (held (account w u.account) j) u.left p u.price i.price i.band (buys u.account j i os') (sells u.account j i os') q r))

-- the sell order u is carried out for p
pub paid_sell : (w : World) (u : Order) (p : ℕ) (os os' : List Order) → is_buy u.side ≡ false → u.account < length w.accounts →
    u.item < length w.items → u.item < length (account w u.account).holds → Less os os' u → u.price ≤ p →
    (item w u.item).price ≤ p + (item w u.item).band → PaidFor w os (gets w u.account u.item (neg_ℤ (pos u.left)) p) os'
unfolding need_in
paid_sell w u p os os' s ha hk hh f q r =
    paid_gets w u.account u.item (neg_ℤ (pos u.left)) p os os' u ha hk hh f
    (λ j e.
    let i = item w u.item in
    let o = own_sell u i j s e in
    rw (buys_less os os' u f u.account j i, sells_less os os' u f u.account j i, o.0, o.1, zero-add)
    (sold (held (account w u.account) j) u.left p u.price i.price i.band (buys u.account j i os') (sells u.account j i os') q r))

pub cover_less : (w : World) (os os' : List Order) →
    ((c k : ℕ) (i : Item) → (buys c k i os' ≤ buys c k i os) × (sells c k i os' ≤ sells c k i os)) → Cover w os → Cover w os'
cover_less w os os' f v c h = omega (arith, ints, v c h, need_less w c os os' (f c))
