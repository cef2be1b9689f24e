-- What a market keeps gives the room that the program needs.
use Rattle.std.proofs.Common.{◌≡◌, ℕ, ◌<◌, ◌≤◌, Bool, true, false, List, length, ℤ, pos, negsuc, refl, arith}
use Rattle.std.proofs.ByRecursion.{All-get_or}
use Rattle.std.proofs.lemmas.Int.{ints}
use Rattle.std.specs.List.{AllByRecursion}
use Rattle.venue.specs.Invariant.{Inv, Wide}
use Rattle.venue.specs.Ranges.{Ranged, ItemRange}
use Rattle.venue.specs.Sizes.{Sized, Small}
use Rattle.venue.specs.Tearing.{Tearing}
use Rattle.venue.specs.Turn.{Turn}
use Rattle.venue.specs.World.{World, Order, Limits, abs, account, end_day, item, no_item, nobody, paid, prices_fit, says, says_it}
use Rattle.venue.proofs.RangesMarket.{cash_range, sized_says, sized_small, sound_range, turn_range, tearing_range}
use Rattle.venue.proofs.Sounds.{inv_sound, sound_inv, sound_says, tearing_begins}
use Rattle.reference.specs.Conditions.{Fit, Morning, Roomy, Settles, Standing, Within}
use Rattle.reference.proofs.Products.{abs_is}
use Rattle.reference.proofs.Settled.{length_paid, paid_at}

abs_within : (h : ℤ) (n : ℕ) → abs h ≤ n → Within n h
abs_within (pos m) n l = let e = abs_is (pos m) in (omega (arith, ints), omega (arith, ints))
abs_within (negsuc m) n l = let e = abs_is (negsuc m) in (omega (arith, ints), omega (arith, ints))

pub ranged_roomy : (w : World) → AllByRecursion (Wide (length w.items)) w.accounts → Ranged w → Roomy 1125899906842624 2147483648 w
unfolding account item
ranged_roomy w v r =
    record {
      wide = λ a h. All-get_or (Wide (length w.items)) w.accounts a nobody h v;
      cash = λ a h. let c = r.cash a h in (omega (arith, ints, c.0), c.1);
      held = λ a k h j. abs_within _ 2147483648 (r.held a k h);
      priced = λ k h. let p = (All-get_or ItemRange w.items k no_item h r.items).price in omega arith;
    }

pub turn_roomy : (z : Limits) (w : World) (o : Order) → Small z → Turn z w o → Roomy 1125899906842624 2147483648 w
turn_roomy z w o s t = ranged_roomy w t.wide (turn_range z w o s t).0

pub tearing_roomy : (z : Limits) (w : World) → Small z → Tearing z w → Roomy 1125899906842624 2147483648 w
tearing_roomy z w s t = ranged_roomy w t.inv.wide (tearing_range z w s t)

-- what a market that can hear a message offers to each
module _ (z : Limits) (w : World) (s : Standing z w) where
  pub standing_fit : Fit w
  standing_fit =
      let i = sound_inv z w s.sound in
      let r = ranged_roomy w i.wide (sound_range z w s.sound s.sized) in
      record {
        roomy = r;
        orders = omega (arith, i.few, s.sized.few_orders);
      }

  pub standing_morning : w.trading ≡ false → Morning w
  standing_morning e =
      record { limits = z; small = sized_small z w s.sized; tearing = tearing_begins z w s.sound e }

inv_any : (z : Limits) (w : World) → Inv z w → (k : ℕ → Bool) → Inv
    (record { orders = z.orders; money = z.money; holding = z.holding; built = k }) w
inv_any z w i k =
    record {
      wide = i.wide;
      placed = i.placed;
      left = i.left;
      numbers = i.numbers;
      cash = i.cash;
      held = i.held;
      rich = i.rich;
      cover = i.cover;
      empty = i.empty;
      calm = i.calm;
      items = i.items;
      holds = i.holds;
      few = i.few;
      money = i.money;
      next = i.next;
    }

-- an evening that fits leaves a sound market, so what it pays stays in range
every : ℕ → Bool
every k = true

module _ (o m : ℕ) (w : World) (ps bs : List ℕ) where
  abbrev all_built : Limits
  all_built = record { orders = o; money = m; holding = 2147483648; built = every }

  ended : w.trading ≡ true → prices_fit w.items ps bs ≡ true → (says all_built w (end_day ps bs)).0.accounts ≡ paid w.items ps w.accounts
  unfolding says says_it every
  ended t f = rw (t, f)

pub standing_settles : (o m : ℕ) (k : ℕ → Bool) (w : World) →
    Standing (record { orders = o; money = m; holding = 2147483648; built = k }) w → Settles w
unfolding account
standing_settles o m k w s =
    record {
      cash = λ t ps bs f a h.
          let y = all_built o m w ps bs in
          let so = inv_sound y w (inv_any (record { orders = o; money = m; holding = 2147483648; built = k }) w (sound_inv _ w s.sound) every) in
          let si : Sized (all_built o m w ps bs) w = record {
            some_items = s.sized.some_items;
            few_items = s.sized.few_items;
            some_accounts = s.sized.some_accounts;
            few_accounts = s.sized.few_accounts;
            some_orders = s.sized.some_orders;
            few_orders = s.sized.few_orders;
            money = s.sized.money;
            holding = refl;
          } in
          let v = (says y w (end_day ps bs)).0 in
          let e = ended o m w ps bs t f in
          let p = paid_at w.items ps w.accounts a h in
          let l : a < length (says y w (end_day ps bs)).0.accounts = rw e (rw length_paid h) in
          let c = cash_range y v a (sound_says y w (end_day ps bs) so) (sized_says y w (end_day ps bs) so si) l in
          let d = rw (e, p) at c in
          (omega (arith, ints, d.0), d.1);
    }
