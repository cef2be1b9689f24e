-- A plain market can hear a message, and still can after it.
use Rattle.std.proofs.Common.{◌≡◌, ℕ, Bool, true, false, [], ◌∷◌, length, refl, arith}
use Rattle.disc.specs.Numbers.{counts_fit}
use Rattle.std.proofs.lemmas.Bool.{le-leb}
use Rattle.std.proofs.lemmas.Bool.Decides.{nat_tests}
use Rattle.venue.specs.Sizes.{Sized}
use Rattle.venue.specs.Sound.{Sound}
use Rattle.venue.specs.World.{World, Limits, Message, begin_day, cancel, end_day, kind, no, pay_in, pay_out, place, says, says_it}
use Rattle.reference.specs.Means.{limits_of}
use Rattle.reference.specs.Conditions.{Standing}
use Rattle.reference.specs.declared.limits.Limits as code

module _ (l : code.Limits) (k : ℕ → Bool) (w : World) where
  -- the sizes, as a test and as facts
  pub sizes_tell : counts_fit (length w.items) (length w.accounts) l.orders l.money ≡ true → Sized (limits_of l k) w
  sizes_tell e =
      record {
        some_items = grind (arith, nat_tests);
        few_items = grind (arith, nat_tests);
        some_accounts = grind (arith, nat_tests);
        few_accounts = grind (arith, nat_tests);
        some_orders = grind (arith, nat_tests);
        few_orders = grind (arith, nat_tests);
        money = grind (arith, nat_tests);
        holding = refl;
      }

  pub sizes_test : Sized (limits_of l k) w → counts_fit (length w.items) (length w.accounts) l.orders l.money ≡ true
  sizes_test s =
      rw (
        le-leb 1 (length w.items) s.some_items,
        le-leb (length w.items) 256 s.few_items,
        le-leb 1 (length w.accounts) s.some_accounts,
        le-leb (length w.accounts) 4096 s.few_accounts,
        le-leb 1 l.orders s.some_orders,
        le-leb l.orders 65536 s.few_orders,
        le-leb l.money 1125899906842624 s.money,
      )

  pub stands : Sound (limits_of l k) w → counts_fit (length w.items) (length w.accounts) l.orders l.money ≡ true → Standing (limits_of l k) w
  stands s e = record { sound = s; sized = sizes_tell e }

-- limits differ only in what is built, and what a message does there does not ask that
pub says_any : (l : code.Limits) (k j : ℕ → Bool) (w : World) (m : Message) → says_it (limits_of l k) w m ≡ says_it (limits_of l j) w m
unfolding says_it
says_any l k j w (pay_in a x) = refl
says_any l k j w (pay_out a x) = refl
says_any l k j w (place a i s p q) = refl
says_any l k j w (cancel a n) = refl
says_any l k j w (end_day ps bs) = refl
says_any l k j w begin_day = refl

-- a message of a kind that is built, and of one that isn't
pub says_built : (z : Limits) (w : World) (m : Message) → z.built (kind m) ≡ true → says z w m ≡ says_it z w m
unfolding says
says_built z w m e = rw e

pub says_not : (z : Limits) (w : World) (m : Message) → z.built (kind m) ≡ false → says z w m ≡ (w, no ∷ [])
unfolding says
says_not z w m e = rw e
