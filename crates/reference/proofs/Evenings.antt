-- An evening's message by what is asked of it.
use Rattle.std.proofs.Common.{◌≡◌, ℕ, ◌+◌, ◌*◌, ◌≤◌, true, false, ◌&&◌, leb, List, [], ◌∷◌, length, ⊎_elim, arith}
use Rattle.std.proofs.lemmas.Bool.{and_parts, cases_Bool, le-leb, leb-true}
use Rattle.venue.specs.World.{World, Item, Limits, prices_fit, new_items, paid, says_it, end_day, done, no}
use Rattle.wire.specs.Means.{column, message_of}
use Rattle.wire.specs.declared.message.Message.TheVariants.{EndDay}
use Rattle.reference.proofs.Payments.{by_failed}

none_fit : (is : List Item) → 1 ≤ length is → prices_fit is [] [] ≡ true → ⊥
unfolding prices_fit
none_fit [] h e = absurd (omega arith)
none_fit (i ∷ is) h e = let z : ◌≡◌ {A = ℕ} 0 1 = cc in omega arith

module _ (z : Limits) (w : World) where
  refused : (ps qs : List ℕ) → (w.trading ≡ true → prices_fit w.items ps qs ≡ true → ⊥) → says_it z w (end_day ps qs) ≡ (w, no ∷ [])
  unfolding says_it
  refused ps qs n =
      by_failed (w.trading && prices_fit w.items ps qs) _ _
      (λ e. let p = and_parts w.trading (prices_fit w.items ps qs) e in n p.0 p.1)

  module _ (bs : List ℕ) (n i : ℕ) where
    abbrev pub MayEnd : Type 0
    MayEnd =
        (i + 8 * n ≤ length bs) × (w.trading ≡ true) × (prices_fit w.items (column bs i n) (column bs (i + 4) n) ≡ true)

    pub not_ended : 1 ≤ length w.items → (MayEnd → ⊥) → says_it z w (message_of bs n (EndDay i)) ≡ (w, no ∷ [])
    not_ended s h =
        ⊎_elim
        (λ (e : leb (i + 8 * n) (length bs) ≡ true).
        rw e (refused (column bs i n) (column bs (i + 4) n) (λ t f. h (leb-true (i + 8 * n) (length bs) e, t, f))))
        (λ (e : leb (i + 8 * n) (length bs) ≡ false). rw e (refused [] [] (λ t f. none_fit w.items s f)))
        (cases_Bool (leb (i + 8 * n) (length bs)))

    pub ended : MayEnd → says_it z w (message_of bs n (EndDay i)) ≡ (
      record {
        items = new_items (column bs i n) (column bs (i + 4) n);
        accounts = paid w.items (column bs i n) w.accounts;
        orders = [];
        next = w.next;
        money = w.money;
        trading = false;
      },
      done 0 ∷ [],
    )
    unfolding says_it
    ended h = rw (le-leb (i + 8 * n) (length bs) h.0, h.1, h.2)
