use Rattle.std.proofs.Common.{◌≡◌, ℕ, suc, ◌+◌, ◌&&◌, Bool, true, false, cond, eqb, ltb, List, map, length, refl, ◌∙◌, arith, rules, tests}
use Rattle.std.specs.List.{position_or_len}
use Rattle.std.proofs.lemmas.Iterator.{YieldsList-from_slice}
use Rattle.std.proofs.lemmas.Iterator.Search.{position_from_yields_List}
use Rattle.std.proofs.lemmas.List.{length-map}
use Rattle.std.proofs.lemmas.List.Recursion.{is_position_or_len}
use Rattle.venue.specs.World.{number_at, pick}
use Rattle.reference.specs.Means.{order_of}
use Rattle.reference.specs.Parts.{found}
use Rattle.reference.specs.declared.market.Order.{Order}
use Rattle.reference.proofs.cancelling.place_of.Goals as goal

is_his : ℕ → ℕ → Order → Bool
is_his a n o = eqb o.number n && eqb o.account a

by_cases : {A : Type 0} (b : Bool) (x y : A) → cond b x y ≡ pick b x y
by_cases true x y = refl
by_cases false x y = refl

one : (b : Bool) (k : ℕ) → pick b 0 (suc k) ≡ cond b 0 (1 + k)
one true k = refl
one false k = omega arith

place : (a n : ℕ) (os : List Order) → number_at a n (map order_of os) ≡ position_or_len (is_his a n) os
unfolding number_at is_his
place a n os = is_position_or_len (λ rs. number_at a n (map order_of rs)) (is_his a n) refl (λ o rs. one (is_his a n o) (number_at a n (map order_of rs))) os

pub returns : goal.returns
unfolding found is_his
returns c =
    let os = c.args.orders.now in
    let p = position_from_yields_List (is_his c.args.account c.args.number) _ _ c.position.result c.position.ensures.ran
    (YieldsList-from_slice c.args.orders.now cc) (λ x b q k. search (rules, tests)) in
    rw (length-map, place c.args.account c.args.number os) (p ∙ by_cases (ltb (position_or_len (is_his c.args.account c.args.number) os) (length os)) _ _)
