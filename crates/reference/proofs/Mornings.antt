-- Tearing up, step by step.
use Rattle.std.proofs.Common.{◌≡◌, ℕ, suc, true, false, List, [], ◌∷◌, ◌++◌, length, ℤ, pos, neg_ℤ, sym, refl, ap, ⊎_elim, append_assoc, arith}
use lib.Signed.{lt_z}
use Rattle.std.proofs.lemmas.Int.{ints}
use Rattle.std.proofs.lemmas.Bool.{cases_Bool}
use Rattle.venue.specs.World.{World, Report, Limits, says_it, begin_day, done, no, account, held, item, opposite, signed, gets, tear}
use Rattle.venue.specs.World.{tear_all, torn}
use Rattle.reference.specs.Parts.{after, amount, torn_one}

pub opposite_above : (h g : ℤ) → lt_z (pos 0) h ≡ true → lt_z g (pos 0) ≡ opposite h g
unfolding opposite
opposite_above h g e = grind (arith, ints)

pub opposite_below : (h g : ℤ) → lt_z h (pos 0) ≡ true → lt_z (pos 0) g ≡ opposite h g
unfolding opposite
opposite_below h g e = grind (arith, ints)

pub opposite_none : (h g : ℤ) → lt_z (pos 0) h ≡ false → lt_z h (pos 0) ≡ false → false ≡ opposite h g
unfolding opposite
opposite_none h g e f = grind (arith, ints)

pub signed_below : (h : ℤ) (x : ℕ) → lt_z h (pos 0) ≡ true → signed h x ≡ neg_ℤ (pos x)
unfolding signed
signed_below h x e = rw e

pub signed_above : (h : ℤ) (x : ℕ) → lt_z h (pos 0) ≡ false → signed h x ≡ pos x
unfolding signed
signed_above h x e = rw e

-- one step, and the others after it
pub tear_turn : (n b a k : ℕ) (w : World) → tear (suc n) b a k w ≡ after (torn_one w a b k).1 (tear n (suc b) a k (torn_one w a b k).0)
unfolding tear torn_one after
tear_turn n b a k w =
    ⊎_elim
    (λ (e : opposite (held (account w a) k) (held (account w b) k) ≡ true). rw e)
    (λ (e : opposite (held (account w a) k) (held (account w b) k) ≡ false). rw e)
    (cases_Bool (opposite (held (account w a) k) (held (account w b) k)))

pub after_join : (rs qs : List Report) (p : World × List Report) → after rs (after qs p) ≡ after (rs ++ qs) p
unfolding after
after_join rs qs p = ap (λ ys. (p.0, ys)) (sym (append_assoc rs qs p.1))

pub torn_not : (w : World) (a b k : ℕ) → opposite (held (account w a) k) (held (account w b) k) ≡ false → torn_one w a b k ≡ (w, [])
unfolding torn_one
torn_not w a b k e = rw e

-- the two halves of a step, as they were made
pub torn_made : (w v u : World) (a b k : ℕ) (s t : ℤ) (p : ℕ) → opposite (held (account w a) k) (held (account w b) k) ≡ true →
    s ≡ amount w a b k → t ≡ neg_ℤ s → p ≡ (item w k).price → v ≡ gets w a k t p → u ≡ gets v b k s p →
    torn_one w a b k ≡ (u, torn a b k s ∷ [])
unfolding torn_one
torn_made w v u a b k s t p e es et ep ev eu = rw (e, eu, ev, et, ep, ← es)

-- the whole morning
pub not_begun : (z : Limits) (w : World) → w.trading ≡ true → says_it z w begin_day ≡ (w, no ∷ [])
unfolding says_it
not_begun z w e = rw e

-- trading begins in the market p
abbrev pub opened : World × List Report → World × List Report
opened p =
    (record { items = p.0.items; accounts = p.0.accounts; orders = p.0.orders; next = p.0.next; money = p.0.money; trading = true }, p.1)

pub begun : (z : Limits) (w : World) → w.trading ≡ false →
    says_it z w begin_day ≡ after (done 0 ∷ []) (opened (tear_all (length w.accounts) 0 w))
unfolding says_it after
begun z w e = rw e

pub after_opened : (rs : List Report) (p : World × List Report) → opened (after rs p) ≡ after rs (opened p)
unfolding after
after_opened rs p = refl
