-- The day's end: when it is taken, and that every gain and loss is paid to the last unit.
use Rattle.std.proofs.Common.{◌≡◌, ℕ, zero, suc, ◌+◌, ◌<◌, true, false, ◌&&◌, leb, List, [], ◌∷◌, length, get_or, ℤ, pos, ◌-ℤ◌, ◌*ℤ◌, ap, arith, rules}
use Rattle.std.proofs.lemmas.Int.{ints}
use Rattle.std.proofs.lemmas.Bool.{and_from}
use Rattle.venue.proofs.Evening.{cash_of_paid, holds_paid, many_paid, new_many}
use Rattle.venue.proofs.Paying.{done_if}
use Rattle.venue.proofs.Sums.{total_front}
use Rattle.venue.specs.Settlement.{AllFit, EndDaySettles, EndDayTaken, NewFits, Settled, total}
use Rattle.venue.specs.World.{Account, Item, World, account, gain, held, item, kind, new_items, no_item, paid, prices_fit, says}
use Rattle.venue.specs.World.{says_it}

-- the test of one item's new price and band
fits_one : (i : Item) (p b : ℕ) → ((leb i.price (p + i.band) && leb p (i.price + i.band)) && (leb 1 b && (leb b p && leb p 1000000))) ≡ true →
    NewFits i p b
fits_one i p b e = search rules

fits : (is : List Item) (ps bs : List ℕ) → prices_fit is ps bs ≡ true → AllFit is ps bs
unfolding prices_fit
fits (i ∷ is) (p ∷ ps) (b ∷ bs) e =
    let r = fits is ps bs (grind arith) in
    record { prices = ap suc r.prices; bands = ap suc r.bands; each = each r (fits_one i p b (grind arith)) }
  where
    each : AllFit is ps bs → NewFits i p b → (k : ℕ) → k < suc (length is) →
        NewFits (get_or (i ∷ is) k no_item) (get_or (p ∷ ps) k 0) (get_or (b ∷ bs) k 0)
    each r f zero h = f
    each r f (suc k) h = r.each k (omega arith)
fits is ps bs e = search rules

fit : (is : List Item) (ps bs : List ℕ) → AllFit is ps bs → prices_fit is ps bs ≡ true
unfolding prices_fit
fit (i ∷ is) (p ∷ ps) (b ∷ bs) f = search (rules, f.each 0 (omega arith), fit is ps bs (record { prices = omega (arith, f.prices); bands = omega (arith, f.bands); each = λ k h. f.each (suc k) (omega arith) }))
fit is ps bs f = search rules

pub is_end_taken : EndDayTaken
unfolding EndDayTaken says says_it kind
is_end_taken z w ps bs b = search (rules, done_if, fits, and_from, fit)

-- the gain, from item k on, is the plain sum
gain_is : (k : ℕ) (is : List Item) (ps : List ℕ) (x : Account) (f : ℕ → ℤ) → length ps ≡ length is →
    ((j m : ℕ) → j < length is → m ≡ k + j → f j ≡ held x m *ℤ (pos (get_or ps j 0) -ℤ pos (get_or is j no_item).price)) →
    gain k is ps x ≡ total (length is) f
unfolding gain total
gain_is k (i ∷ is) (p ∷ ps) x f e h =
    let d = gain_is (suc k) is ps x (λ (j : ℕ). f (suc j)) (omega arith) (λ j m l q. h (suc j) m (omega arith) (omega arith)) in
    let t = total_front (length is) f in
    let z = h 0 k (omega arith) (omega arith) in
    omega (arith, ints)
gain_is k is ps x f e g = search rules

new_price : (ps bs : List ℕ) (k : ℕ) → k < length ps → length bs ≡ length ps → (get_or (new_items ps bs) k no_item).price ≡ get_or ps k 0
unfolding new_items
new_price (p ∷ ps) (b ∷ bs) (suc k) h e = search (rules, new_price ps bs)
new_price ps bs k h e = search rules

new_band : (ps bs : List ℕ) (k : ℕ) → k < length ps → length bs ≡ length ps → (get_or (new_items ps bs) k no_item).band ≡ get_or bs k 0
unfolding new_items
new_band (p ∷ ps) (b ∷ bs) (suc k) h e = search (rules, new_band ps bs)
new_band ps bs k h e = search rules

settles : (w : World) (ps bs : List ℕ) → prices_fit w.items ps bs ≡ true → Settled w
    (record { items = new_items ps bs; accounts = paid w.items ps w.accounts; orders = []; next = w.next; money = w.money; trading = false }) ps bs
unfolding account item held
settles w ps bs e = search (rules, fits, cash_of_paid, gain_is, holds_paid, many_paid, new_many, new_price, new_band)

pub is_settled : EndDaySettles
unfolding EndDaySettles says says_it kind
is_settled z w ps bs = search (rules, settles)
