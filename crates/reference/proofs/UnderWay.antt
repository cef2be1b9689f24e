-- A morning that is under way: what was reported and what is to come is the whole.
use Rattle.std.proofs.Common.{◌≡◌, ℕ, suc, ◌+◌, ◌-◌, ◌<◌, ◌≤◌, true, false, List, [], ◌++◌, map, length, vec_items, vec_len, vec_capacity, sym, refl, ap, ◌∙◌, subst, ⊎_elim, add-one, arith, length-append}
use Rattle.std.proofs.lemmas.List.{length-map}
use Rattle.std.proofs.lemmas.Bool.{cases_Bool}
use Rattle.venue.specs.World.{World, Report, account, covered, held, opposite, tear, tear_items, tear_all}
use Rattle.venue.proofs.TearAll.{tears_items}
use Rattle.venue.proofs.TearUp.{Tears, tearing_goes, tears_tear}
use Rattle.wire.specs.Means.{report_of}
use Rattle.reference.specs.Means.{world_of}
use Rattle.reference.specs.Conditions.{Fit, Morning}
use Rattle.reference.specs.Does.{HasRoom, Tells}
use Rattle.reference.specs.Parts.{after, torn_account, torn_one}
use Rattle.reference.specs.declared.market.Told.{Told}
use Rattle.reference.proofs.Fills.{after_none}
use Rattle.reference.proofs.Mornings.{after_join, tear_turn}
use Rattle.reference.proofs.Ranges.{tearing_roomy}

-- v came from w by tearing up
pub record Onward (w v : World) : Type 0 where
  pub morning : Morning v
  pub accounts : length v.accounts ≡ length w.accounts
  pub items : length v.items ≡ length w.items

onward : (w v : World) (m : Morning w) → Tears m.limits w v → Onward w v
onward w v m t =
    record {
      morning = record { limits = m.limits; small = m.small; tearing = t.tearing };
      accounts = t.torn.accounts;
      items = ap length t.torn.items;
    }

stays : (w : World) → Morning w → Onward w w
stays w m = record { morning = m; accounts = refl; items = refl }

pub onward_one : (w : World) (a b k : ℕ) → Morning w → a < length w.accounts → b < length w.accounts → k < length w.items →
    Onward w (torn_one w a b k).0
unfolding torn_one
onward_one w a b k m la lb lk =
    ⊎_elim
    (λ (e : opposite (held (account w a) k) (held (account w b) k) ≡ true).
    rw e (onward w _ m (tearing_goes m.limits a k w b m.tearing la lb lk e)))
    (λ (e : opposite (held (account w a) k) (held (account w b) k) ≡ false). rw e (stays w m))
    (cases_Bool (opposite (held (account w a) k) (held (account w b) k)))

pub onward_item : (w : World) (a k : ℕ) → Morning w → a < length w.accounts → k < length w.items →
    Onward w (tear (length w.accounts) 0 a k w).0
onward_item w a k m la lk = onward w _ m (tears_tear m.limits a k (length w.accounts) 0 w (omega arith) m.tearing la lk)

pub onward_account : (w : World) (a : ℕ) → Morning w → a < length w.accounts → Onward w (torn_account w a).0
unfolding torn_account
onward_account w a m la =
    ⊎_elim
    (λ (e : covered w a w.orders ≡ true). rw e (stays w m))
    (λ (e : covered w a w.orders ≡ false). rw e (onward w _ m (tears_items m.limits (length w.items) 0 a w (omega arith) m.tearing la)))
    (cases_Bool (covered w a w.orders))

-- a step, and the others after it
pub items_turn : (n k a : ℕ) (w : World) → tear_items (suc n) k a w ≡
    after (tear (length w.accounts) 0 a k w).1 (tear_items n (suc k) a (tear (length w.accounts) 0 a k w).0)
unfolding tear_items after
items_turn n k a w = refl

pub all_turn : (n a : ℕ) (w : World) → tear_all (suc n) a w ≡ after (torn_account w a).1 (tear_all n (suc a) (torn_account w a).0)
unfolding tear_all torn_account after
all_turn n a w =
    ⊎_elim
    (λ (e : covered w a w.orders ≡ true). rw e)
    (λ (e : covered w a w.orders ≡ false). rw e)
    (cases_Bool (covered w a w.orders))

-- nothing is to come any more
pub tear_none : (b a k : ℕ) (w : World) → tear 0 b a k w ≡ (w, [])
unfolding tear
tear_none b a k w = refl

pub items_none : (k a : ℕ) (w : World) → tear_items 0 k a w ≡ (w, [])
unfolding tear_items
items_none k a w = refl

pub all_none : (a : ℕ) (w : World) → tear_all 0 a w ≡ (w, [])
unfolding tear_all
all_none a w = refl

pub morning_fit : (w : World) → Morning w → Fit w
morning_fit w m =
    let e = ap length (m.tearing.inv.empty m.tearing.still) in
    record { roomy = tearing_roomy m.limits w m.small m.tearing; orders = omega arith }

-- a walk over places from 0 on: `all n i` is what is done at the n places from i on, `one i` what is done at place i
pub record Walk : Type 0 where
  pub all : ℕ → ℕ → World → World × List Report
  pub one : ℕ → World → World × List Report
  pub turn : (n i : ℕ) (w : World) → all (suc n) i w ≡ after (one i w).1 (all n (suc i) (one i w).0)
  pub none : (i : ℕ) (w : World) → all 0 i w ≡ (w, [])

abbrev pub item_walk : ℕ → ℕ → Walk
item_walk a k =
    record {
      all = λ n b w. tear n b a k w;
      one = λ b w. torn_one w a b k;
      turn = λ n b w. tear_turn n b a k w;
      none = λ b w. tear_none b a k w;
    }

abbrev pub items_walk : ℕ → Walk
items_walk a =
    record {
      all = λ n k w. tear_items n k a w;
      one = λ k w. tear (length w.accounts) 0 a k w;
      turn = λ n k w. items_turn n k a w;
      none = λ k w. items_none k a w;
    }

abbrev pub all_walk : Walk
all_walk = record { all = tear_all; one = λ a w. torn_account w a; turn = all_turn; none = all_none }

-- of n places those below i are done: s was the market at the start, t is it now
pub record UnderWay (v : Walk) (n i : ℕ) (s t : Told) : Type 0 where
  pub is : after (map report_of (vec_items t.reports)) (v.all (n - i) i (world_of t.market)) ≡
      after (map report_of (vec_items s.reports)) (v.all n 0 (world_of s.market))
  pub onward : Onward (world_of s.market) (world_of t.market)
  pub room : HasRoom t (v.all (n - i) i)
  pub limits : t.market.limits ≡ s.market.limits
  pub reports : vec_capacity t.reports ≡ vec_capacity s.reports

module _ (v : Walk) (n : ℕ) where
  pub begins : (s : Told) → Morning (world_of s.market) → HasRoom s (v.all n 0) → UnderWay v n 0 s s
  begins s m r =
      let e : n - 0 ≡ n = omega arith in
      record { is = rw e; onward = stays (world_of s.market) m; room = rw e r; limits = refl; reports = refl }

  module _ (i : ℕ) (s t : Told) (h : UnderWay v n i s t) where
    -- the turn at place i, and those after it
    turn_at : i < n → v.all (n - i) i (world_of t.market) ≡
        after (v.one i (world_of t.market)).1 (v.all (n - (i + 1)) (i + 1) (v.one i (world_of t.market)).0)
    turn_at l = let e : n - i ≡ suc (n - (i + 1)) = omega arith in rw (e, add-one i) (v.turn (n - suc i) i (world_of t.market))

    lengths : i < n → length (v.all (n - i) i (world_of t.market)).1 ≡
        length (v.one i (world_of t.market)).1 + length (v.all (n - (i + 1)) (i + 1) (v.one i (world_of t.market)).0).1
    unfolding after
    lengths l = ap (λ p. length p.1) (turn_at l) ∙ length-append (v.one i (world_of t.market)).1 _

    -- there is room for it
    pub turn_room : i < n → HasRoom t (v.one i)
    turn_room l = omega (arith, lengths l, h.room)

    -- and after it one place more is done
    pub goes_on : (u : Told) → i < n → Tells t u (v.one i) → Onward (world_of t.market) (v.one i (world_of t.market)).0 →
        UnderWay v n (i + 1) s u
    unfolding after
    goes_on u l d o =
        let step = v.one i (world_of t.market) in
        let w : world_of u.market ≡ (v.one i (world_of t.market)).0 = ap (λ p. p.0) d.after in
        let r : map report_of (vec_items u.reports) ≡ map report_of (vec_items t.reports) ++ (v.one i (world_of t.market)).1 =
        ap (λ p. p.1) d.after in
        let k = ap length r ∙ length-append (map report_of (vec_items t.reports)) (v.one i (world_of t.market)).1 in
        let x : length (map report_of (vec_items u.reports)) ≡ vec_len u.reports = simp length-map (sym u.reports.ok.0) in
        let y : length (map report_of (vec_items t.reports)) ≡ vec_len t.reports = simp length-map (sym t.reports.ok.0) in
        let f : length (v.all (n - (i + 1)) (i + 1) (world_of u.market)).1 ≡
        length (v.all (n - (i + 1)) (i + 1) (v.one i (world_of t.market)).0).1 =
        ap (λ z. length (v.all (n - (i + 1)) (i + 1) z).1) w in
        record {
          is = rw (w, r) (sym (after_join (map report_of (vec_items t.reports)) step.1 (v.all (n - (i + 1)) (i + 1) step.0)) ∙
              ap (after (map report_of (vec_items t.reports))) (sym (turn_at l)) ∙ h.is);
          onward = record {
            morning = subst Morning (sym w) o.morning;
            accounts = ap (λ z. length z.accounts) w ∙ o.accounts ∙ h.onward.accounts;
            items = ap (λ z. length z.items) w ∙ o.items ∙ h.onward.items;
          };
          room = omega (arith, lengths l, h.room, d.reports);
          limits = d.limits ∙ h.limits;
          reports = d.reports ∙ h.reports;
        }

    -- all are done
    pub ends : n ≤ i → (f : World → World × List Report) → v.all n 0 (world_of s.market) ≡ f (world_of s.market) → Tells s t f
    ends l f w =
        let e : n - i ≡ 0 = omega arith in
        let z : v.all (n - i) i (world_of t.market) ≡ (world_of t.market, []) = rw e (v.none i (world_of t.market)) in
        record {
          after = sym (after_none (map report_of (vec_items t.reports)) (world_of t.market)) ∙ (rw z at h.is) ∙
              ap (after (map report_of (vec_items s.reports))) w;
          limits = h.limits;
          reports = h.reports;
        }
