-- Bytes that stand at a place in others: the numbers that lie there, and the bytes that a number there has.
use Rattle.std.proofs.Common.{◌≡◌, ℕ, ◌+◌, ◌<◌, ◌≤◌, List, ◌++◌, length, get_or, take, drop, sym, refl, ap, ◌∙◌, arith, length-append, length-drop, length-take, take-add}
use Rattle.wire.specs.Field.{Holds}
use Rattle.std.proofs.lemmas.List.{take-take, take_at, drop_at, drop-take, drop-drop, get_or-take, get_or-drop}

-- ---- the parts of what stands there

pub front : (bs : List ℕ) (i : ℕ) (xs ys : List ℕ) → Holds bs i (xs ++ ys) → Holds bs i xs
front bs i xs ys h =
    let n = length xs in
    let m = length (xs ++ ys) in
    let l : n ≤ m = rw length-append (omega arith) in
    sym (take-take n m (drop i bs) l) ∙ ap (take n) h ∙ take_at xs ys n refl

pub behind : (bs : List ℕ) (i j : ℕ) (xs ys : List ℕ) → i + length xs ≡ j → Holds bs i (xs ++ ys) → Holds bs j ys
behind bs i j xs ys e h =
    let n = length xs in
    let m = length ys in
    let g : take (n + m) (drop i bs) ≡ xs ++ ys = rw length-append at h in
    let d : drop j bs ≡ drop n (drop i bs) = rw (drop-drop, e) in
    rw d (sym (drop-take n m (drop i bs)) ∙ ap (drop n) g ∙ drop_at xs ys n refl)

pub both : (bs : List ℕ) (i j : ℕ) (xs ys : List ℕ) → i + length xs ≡ j → Holds bs i xs → Holds bs j ys → Holds bs i (xs ++ ys)
both bs i j xs ys e f g =
    let d : drop j bs ≡ drop (length xs) (drop i bs) = rw (drop-drop, e) in
    let h : take (length ys) (drop (length xs) (drop i bs)) ≡ ys = rw d at g in
    rw (length-append, take-add, f, h)

pub inside : (bs : List ℕ) (i : ℕ) (xs : List ℕ) → 1 ≤ length xs → Holds bs i xs → i + length xs ≤ length bs
inside bs i xs l h =
    let a = ap length h in
    let b = length-take (length xs) (drop i bs) in
    let d = length-drop i bs in
    omega arith

pub held : (bs : List ℕ) (i k : ℕ) (xs : List ℕ) → k < length xs → Holds bs i xs → get_or bs (i + k) 0 ≡ get_or xs k 0
held bs i k xs l h = sym (get_or-drop i bs k 0) ∙ sym (get_or-take (length xs) (drop i bs) k 0 l) ∙ ap (λ (ys : List ℕ). get_or ys k 0) h
