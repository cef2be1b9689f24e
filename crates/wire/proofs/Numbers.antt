-- Numbers at a place in bytes: what was written is read, and what is read is what was written; one step for each doubling of the width.
use Rattle.std.proofs.Common.{◌≡◌, ℕ, ◌+◌, ◌*◌, ◌/◌, ◌%◌, ◌^◌, ◌<◌, ◌≤◌, List, [], ◌∷◌, ◌++◌, length, get_or, w64, to_z, of_z, sym, refl, ap, ◌∙◌, subst, arith, length-append}
use Rattle.std.specs.Prelude.{FitsSigned, slice_index}
use mir.Facts.{Fits-of_z, sfits_to_z}
use Rattle.std.proofs.Math.Nat.{add_comm, div-lt_iff_lt-mul, mod-lt}
use Rattle.std.proofs.lemmas.Nat.{div-add-mod', div-mul-add, mod-mul-add, mul-add-lt}
use Rattle.std.proofs.lemmas.Int.{of_z-to_z, to_z-of_z}
use Rattle.std.proofs.lemmas.List.{drop_more}
use Rattle.wire.specs.Field.{Bytes, FieldLaws, Holds}
use Rattle.wire.specs.Number.{two, four, eight, two_of, four_of, eight_of}
use Rattle.wire.specs.Reports.{signed, signed_of}
use Rattle.wire.proofs.Places.{front, behind, both, held}

pub byte_stands : (bs : List ℕ) (i : ℕ) → i + 1 ≤ length bs → Holds bs i (get_or bs i 0 ∷ [])
byte_stands bs i l =
    let h : i < length bs = omega arith in
    rw (drop_more bs i 0 h)

pub byte_laws : FieldLaws 1 (λ x. x ∷ []) slice_index (λ x. x < 256)
byte_laws = record {
  sized = λ x. refl;
  back = λ bs i x l h. let z : i + 0 ≡ i = omega arith in rw z at (held bs i 0 (x ∷ []) (omega arith) h);
  fits = λ bs i b. b i;
  only = λ bs i b l. (byte_stands bs i l, b i);
}

two_held : (bs : List ℕ) (i x : ℕ) → x < 65536 → Holds bs i (two_of x) → two bs i ≡ x
unfolding two_of
two_held bs i x l h =
    let a : get_or bs (i + 0) 0 ≡ x % 256 = held bs i 0 (two_of x) (omega arith) h in
    let b : get_or bs (i + 1) 0 ≡ x / 256 % 256 = held bs i 1 (two_of x) (omega arith) h in
    let z : i + 0 ≡ i = omega arith in
    let c : get_or bs i 0 ≡ x % 256 = rw z at a in
    omega arith

two_cons : (x y : ℕ) → x < 256 → y < 256 → x ∷ (y ∷ []) ≡ two_of (x + y * 256)
unfolding two_of
two_cons x y a b =
    let e : (x + y * 256) % 256 ≡ x = omega arith in
    let f : (x + y * 256) / 256 ≡ y = omega arith in
    let g : y % 256 ≡ y = omega arith in
    rw (e, f, g)

two_stands : (bs : List ℕ) (i : ℕ) → Bytes bs → i + 2 ≤ length bs → Holds bs i (two_of (two bs i))
two_stands bs i b l =
    subst (Holds bs i) (two_cons (get_or bs i 0) (get_or bs (i + 1) 0) (b i) (b (i + 1)))
    (both bs i (i + 1) (get_or bs i 0 ∷ []) (get_or bs (i + 1) 0 ∷ []) refl
    (byte_stands bs i (omega arith)) (byte_stands bs (i + 1) (omega arith)))

two_below : (bs : List ℕ) (i : ℕ) → Bytes bs → two bs i < 2 ^ 16
two_below bs i b = omega (arith, b i, b (i + 1))

pub two_laws : FieldLaws 2 two_of two (λ x. x < 2 ^ 16)
unfolding two_of
two_laws = record {
  sized = λ x. refl;
  back = two_held;
  fits = two_below;
  only = λ bs i b l. (two_stands bs i b l, two_below bs i b);
}

-- a number of twice the width, whose halves are below m
doubled : (n m : ℕ) (f : ℕ → List ℕ) (p : List ℕ → ℕ → ℕ) → 0 < m → FieldLaws n f p (λ x. x < m) →
    FieldLaws (n + n) (λ x. f (x % m) ++ f (x / m)) (λ bs i. p bs i + p bs (i + n) * m) (λ x. x < m * m)
doubled n m f p z l = record {
  sized = λ x. simp (length-append, l.sized);
  back = λ bs i x k h.
      let e : i + length (f (x % m)) ≡ i + n = ap (λ j. i + j) (l.sized (x % m)) in
      let a = l.back bs i (x % m) (mod-lt x z) (front bs i (f (x % m)) (f (x / m)) h) in
      let b = l.back bs (i + n) (x / m) ((div-lt_iff_lt-mul z).1 k) (behind bs i (i + n) (f (x % m)) (f (x / m)) e h) in
      rw (a, b, add_comm) (div-add-mod' x m);
  fits = λ bs i b. rw (add_comm (p bs i) (p bs (i + n) * m)) (mul-add-lt (p bs (i + n)) m (p bs i) m (l.fits bs (i + n) b) (l.fits bs i b));
  only = λ bs i b k.
      let q = p bs i in
      let r = p bs (i + n) in
      let s = l.only bs i b (omega arith) in
      let t = l.only bs (i + n) b (omega arith) in
      let e : i + length (f q) ≡ i + n = ap (λ j. i + j) (l.sized q) in
      let c = add_comm q (r * m) in
      let d : (q + r * m) % m ≡ q = rw c (mod-mul-add r m q s.1) in
      let g : (q + r * m) / m ≡ r = rw c (div-mul-add r m q s.1) in
      (rw (d, g) (both bs i (i + n) (f q) (f r) e s.0 t.0), rw c (mul-add-lt r m q m t.1 s.1));
}

pub four_laws : FieldLaws 4 four_of four (λ x. x < 2 ^ 32)
unfolding four_of
four_laws = doubled 2 65536 two_of two (omega arith) two_laws

pub eight_laws : FieldLaws 8 eight_of eight (λ x. x < 2 ^ 64)
unfolding eight_of
eight_laws = doubled 4 4294967296 four_of four (omega arith) four_laws

pub signed_laws : FieldLaws 8 signed_of signed (λ z. FitsSigned w64 z)
unfolding signed_of
signed_laws = record {
  sized = λ z. eight_laws.sized (of_z w64 z);
  back = λ bs i z f h. ap (to_z w64) (eight_laws.back bs i (of_z w64 z) (Fits-of_z f).fits h) ∙ to_z-of_z w64 z f;
  fits = λ bs i b. sfits_to_z (record { fits = eight_laws.fits bs i b });
  only = λ bs i b l.
      let e = eight_laws.only bs i b l in
      (subst (λ (x : ℕ). Holds bs i (eight_of x)) (sym (of_z-to_z w64 (eight bs i) e.1)) e.0, sfits_to_z (record { fits = e.1 }));
}

-- ---- a number's bytes, one by one

-- a byte of the low half is that byte of the whole: u is the low half past d, v the high half
low_byte : (u v : ℕ) → (u + v * 256) % 256 ≡ u % 256
low_byte u v = omega arith

pub four_bytes : (x : ℕ) → four_of x ≡ x % 256 ∷ (x / 256 % 256 ∷ (x / 65536 % 256 ∷ (x / 16777216 % 256 ∷ [])))
unfolding two_of four_of
four_bytes x =
    let a : x % 65536 % 256 ≡ x % 256 = omega arith in
    let e : x / 256 ≡ x % 65536 / 256 + x / 65536 * 256 = omega arith in
    let b : x / 256 % 256 ≡ x % 65536 / 256 % 256 = ap (λ (n : ℕ). n % 256) e ∙ low_byte (x % 65536 / 256) (x / 65536) in
    let c : x / 65536 / 256 ≡ x / 16777216 = omega arith in
    rw (a, b, c)

pub eight_bytes : (x : ℕ) →
    eight_of x ≡
    x % 256 ∷ (x / 256 % 256 ∷ (x / 65536 % 256 ∷ (x / 16777216 % 256 ∷
    (x / 4294967296 % 256 ∷ (x / 1099511627776 % 256 ∷ (x / 281474976710656 % 256 ∷ (x / 72057594037927936 % 256 ∷ [])))))))
unfolding eight_of
eight_bytes x =
    let r = x % 4294967296 in
    let q = x / 4294967296 in
    let a : r % 256 ≡ x % 256 = omega arith in
    let eb : x / 256 ≡ r / 256 + (q * 65536) * 256 = omega arith in
    let b : x / 256 % 256 ≡ r / 256 % 256 = ap (λ (n : ℕ). n % 256) eb ∙ low_byte (r / 256) (q * 65536) in
    let ec : x / 65536 ≡ r / 65536 + (q * 256) * 256 = omega arith in
    let c : x / 65536 % 256 ≡ r / 65536 % 256 = ap (λ (n : ℕ). n % 256) ec ∙ low_byte (r / 65536) (q * 256) in
    let ed : x / 16777216 ≡ r / 16777216 + q * 256 = omega arith in
    let d : x / 16777216 % 256 ≡ r / 16777216 % 256 = ap (λ (n : ℕ). n % 256) ed ∙ low_byte (r / 16777216) q in
    let e : q / 256 ≡ x / 1099511627776 = omega arith in
    let f : q / 65536 ≡ x / 281474976710656 = omega arith in
    let g : q / 16777216 ≡ x / 72057594037927936 = omega arith in
    let lo = four_bytes r in
    let hi = four_bytes q in
    rw (lo, hi, a, b, c, d, e, f, g)
