-- Values one behind the other, each from a place that is reckoned from that of the whole; and such values behind the byte of a kind.
use Rattle.std.proofs.Common.{◌≡◌, ℕ, ◌+◌, ◌≤◌, List, [], ◌∷◌, ◌++◌, length, get_or, take, drop, Some, refl, ap, ◌∙◌, subst, add_assoc, arith, length-append}
use Rattle.wire.specs.Field.{Bytes, FieldLaws, Holds}
use Rattle.wire.specs.Messages.{whole}
use Rattle.wire.proofs.Numbers.{byte_stands}
use Rattle.wire.proofs.Places.{behind, both, front, inside}
use Rattle.wire.proofs.Whole.{cut, whole_is}

-- of a whole at place i, the values that lie from place u i up to place v i
pub record Part {X : Type 0} (u v : ℕ → ℕ) (f : X → List ℕ) (p : List ℕ → ℕ → X) (P : X → Type 0) : Type 0 where
  pub sized : (i : ℕ) (x : X) → u i + length (f x) ≡ v i
  pub back : (bs : List ℕ) (i : ℕ) (x : X) → P x → Holds bs (u i) (f x) → p bs i ≡ x
  pub only : (bs : List ℕ) (i : ℕ) → Bytes bs → v i ≤ length bs → Holds bs (u i) (f (p bs i)) × P (p bs i)

-- a value in front, and one a places behind
pub here : {X : Type 0} {n : ℕ} {f : X → List ℕ} {p : List ℕ → ℕ → X} {P : X → Type 0} → FieldLaws n f p P →
    Part (λ i. i) (λ i. i + n) f p P
here l = record { sized = λ i x. ap (λ k. i + k) (l.sized x); back = l.back; only = l.only }

pub part : {X : Type 0} {n : ℕ} {f : X → List ℕ} {p : List ℕ → ℕ → X} {P : X → Type 0} (a : ℕ) → FieldLaws n f p P →
    Part (λ i. i + a) (λ i. i + (a + n)) f (λ bs i. p bs (i + a)) P
part {n = n} a l = record {
  sized = λ i x. ap (λ k. i + a + k) (l.sized x) ∙ add_assoc i a n;
  back = λ bs i. l.back bs (i + a);
  only = λ bs i b k. l.only bs (i + a) b (omega arith);
}

pub then : {X Y : Type 0} {u v w : ℕ → ℕ} {f : X → List ℕ} {p : List ℕ → ℕ → X} {P : X → Type 0} {g : Y → List ℕ} {q : List ℕ → ℕ → Y} {Q : Y → Type 0} →
    Part u v f p P → Part v w g q Q → Part u w (λ (x : X × Y). f x.0 ++ g x.1) (λ bs i. (p bs i, q bs i)) (λ x. P x.0 × Q x.1)
then {u = u} {v = v} {f = f} {p = p} {g = g} {q = q} l m = record {
  sized = λ i x. let a = l.sized i x.0 in let b = m.sized i x.1 in rw length-append (omega arith);
  back = λ bs i x k h.
      let a = l.back bs i x.0 k.0 (front bs (u i) (f x.0) (g x.1) h) in
      let b = m.back bs i x.1 k.1 (behind bs (u i) (v i) (f x.0) (g x.1) (l.sized i x.0) h) in
      rw (a, b);
  only = λ bs i b k.
      let c = m.sized i (q bs i) in
      let s = l.only bs i b (omega arith) in
      let t = m.only bs i b k in
      (both bs (u i) (v i) (f (p bs i)) (g (q bs i)) (l.sized i (p bs i)) s.0 t.0, (s.1, t.1));
}

-- ---- behind a kind

size : {X : Type 0} {f : X → List ℕ} {p : List ℕ → ℕ → X} {P : X → Type 0} (k h i : ℕ) (x : X) → Part (λ j. j + 1) (λ j. j + k) f p P → length (h ∷ f x) ≡ k
size k h i x l = let s = l.sized i x in omega arith

pub read_back : {X M : Type 0} {f : X → List ℕ} {p : List ℕ → ℕ → X} {P : X → Type 0} (k : ℕ) → Part (λ j. j + 1) (λ j. j + k) f p P →
    (m : X → M) (h : ℕ) (bs : List ℕ) (i : ℕ) (x : X) → P x → Holds bs i (h ∷ f x) → whole bs i k (m (p bs i)) ≡ Some (m x, length (h ∷ f x))
read_back {f = f} k l m h bs i x r s =
    let e = l.back bs i x r (behind bs i (i + 1) (h ∷ []) (f x) refl s) in
    let n : length (h ∷ f x) ≡ k = size k h i x l in
    let t : i + k ≤ length bs = rw n at (inside bs i (h ∷ f x) (omega arith) s) in
    rw (e, n) (whole_is bs i k (m x) t)

pub kind_stands : (bs : List ℕ) (i h : ℕ) → get_or bs i 0 ≡ h → i + 1 ≤ length bs → Holds bs i (h ∷ [])
kind_stands bs i h e l = subst (λ (y : ℕ). Holds bs i (y ∷ [])) e (byte_stands bs i l)

pub read_only : {X : Type 0} {f : X → List ℕ} {p : List ℕ → ℕ → X} {P : X → Type 0} (k : ℕ) → Part (λ j. j + 1) (λ j. j + k) f p P →
    (h : ℕ) (bs : List ℕ) (i : ℕ) → Bytes bs → get_or bs i 0 ≡ h → i + k ≤ length bs → (take k (drop i bs) ≡ h ∷ f (p bs i)) × P (p bs i)
read_only {f = f} {p = p} k l h bs i b e t =
    let o = l.only bs i b t in
    let n : length (h ∷ f (p bs i)) ≡ k = size k h i (p bs i) l in
    let s = kind_stands bs i h e (omega arith) in
    (cut bs i k (h ∷ f (p bs i)) n (both bs i (i + 1) (h ∷ []) (f (p bs i)) refl s o.0), o.1)
