-- Words that were written are read back.
use Rattle.std.proofs.Common.{◌≡◌, ℕ, zero, suc, ◌+◌, ◌*◌, ◌/◌, ◌%◌, ◌<◌, List, [], ◌∷◌, ◌++◌, length, get_or, drop, refl, ap, ◌∙◌, append_assoc, add_assoc, arith}
use Rattle.std.proofs.lemmas.List.{get_or-drop}
use Rattle.wire.specs.Number.{eight, eight_of, four_of, two_of}
use Rattle.checkpoint.specs.Words.{bytes_of, word}

two_join : (n : ℕ) → n % 256 + n / 256 % 256 * 256 ≡ n % 65536
two_join n = omega arith

four_join :
    (n : ℕ) →
    (n % 65536 % 256 + n % 65536 / 256 % 256 * 256) + (n / 65536 % 256 + n / 65536 / 256 % 256 * 256) * 65536 ≡ n % 4294967296
four_join n = rw (two_join (n % 65536), two_join (n / 65536)) (omega arith)

eight_first : (n : ℕ) (t : List ℕ) → eight (eight_of n ++ t) 0 ≡ n % 18446744073709551616
unfolding eight_of four_of two_of
eight_first n t = rw (four_join (n % 4294967296), four_join (n / 4294967296)) (omega arith)

eight_drop : (bs : List ℕ) (k i : ℕ) → eight bs (k + i) ≡ eight (drop k bs) i
eight_drop bs k i = simp (get_or-drop, add_assoc)

pub eight_bytes : (x : ℕ) → length (eight_of x) ≡ 8
unfolding eight_of four_of two_of
eight_bytes x = refl

behind_eight : (x : ℕ) (t : List ℕ) → drop 8 (eight_of x ++ t) ≡ t
unfolding eight_of four_of two_of
behind_eight x t = refl

-- word i of the bytes of some words, whatever stands behind them
pub word_back : (ws r : List ℕ) (i : ℕ) → i < length ws → word (bytes_of ws ++ r) i ≡ get_or ws i 0 % 18446744073709551616
unfolding word
word_back [] r i h = absurd (omega arith)
word_back (x ∷ ws) r zero h = ap (λ (t : List ℕ). eight t 0) (append_assoc (eight_of x) (bytes_of ws) r) ∙ eight_first x (bytes_of ws ++ r)
word_back (x ∷ ws) r (suc i) h =
    let e : 8 * suc i ≡ 8 + 8 * i = omega arith in
    ap (λ (j : ℕ). eight ((eight_of x ++ bytes_of ws) ++ r) j) e
    ∙ eight_drop ((eight_of x ++ bytes_of ws) ++ r) 8 (8 * i)
    ∙ ap (λ (t : List ℕ). eight (drop 8 t) (8 * i)) (append_assoc (eight_of x) (bytes_of ws) r)
    ∙ ap (λ (t : List ℕ). eight t (8 * i)) (behind_eight x (bytes_of ws ++ r))
    ∙ word_back ws r i (omega arith)

pub small_word : (x : ℕ) → x < 18446744073709551616 → x % 18446744073709551616 ≡ x
small_word x h = omega arith
