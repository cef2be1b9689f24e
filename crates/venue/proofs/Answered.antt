-- Every message is answered once, and a refusal changes nothing.
use Rattle.std.proofs.Common.{◌≡◌, ℕ, zero, suc, Bool, true, List, [], ◌∷◌, length, refl, inl, inr, arith, rules}
use Rattle.std.proofs.lemmas.Int.{ints}
use Rattle.std.specs.List.{AllByRecursion}
use Rattle.std.proofs.ByRecursion.{All-append}
use Rattle.venue.proofs.Picks.{by_pick}
use Rattle.venue.specs.Refusal.{Answered, AnsweredOnce, RefusedChangesNothing, of_trade}
use Rattle.venue.specs.World.{Limits, Message, Order, Report, World, done, kind}
use Rattle.venue.specs.World.{matched, no, pick, says, says_it, tear, tear_all, tear_items}

abbrev OnlyTrades : World × List Report → Type 0
OnlyTrades y = AllByRecursion (λ (r : Report). of_trade r ≡ true) y.1

trades_only : (f : ℕ) (w : World) (o : Order) → OnlyTrades (matched f w o)
unfolding matched
trades_only zero w o = tt
trades_only (suc f) w o = search (rules, trades_only f)

tears_only : (f b a k : ℕ) (w : World) → OnlyTrades (tear f b a k w)
unfolding tear
tears_only zero b a k w = tt
tears_only (suc f) b a k w = search (rules, tears_only f)

items_only : (f k a : ℕ) (w : World) → OnlyTrades (tear_items f k a w)
unfolding tear_items
items_only zero k a w = tt
items_only (suc f) k a w =
    All-append (λ (r : Report). of_trade r ≡ true) _ _ (tears_only (length w.accounts) 0 a k w) (items_only f (suc k) a _)

all_only : (f a : ℕ) (w : World) → OnlyTrades (tear_all f a w)
unfolding tear_all
all_only zero a w = tt
all_only (suc f) a w = search (rules, all_only f, All-append, items_only)

-- refused, and the market stays, or done
abbrev Fair : World → World × List Report → Type 0
Fair w y = Answered y.1 × (y.1 ≡ no ∷ [] → y.0 ≡ w)

refused : (w : World) → Fair w (w, no ∷ [])
refused w = (inl refl, λ e. refl)

was_done : (w v : World) (n : ℕ) (rs : List Report) → AllByRecursion (λ (r : Report). of_trade r ≡ true) rs → Fair w (v, done n ∷ rs)
was_done w v n rs f = (inr (n, rs, refl, f), λ e. cc)

one_or_other : (w v : World) (n : ℕ) (b : Bool) → Fair w (pick b (v, done n ∷ []) (w, no ∷ []))
one_or_other w v n b = by_pick (Fair w) b _ _ (λ e. was_done w v n [] tt) (λ e. refused w)

fair_it : (z : Limits) (w : World) (m : Message) → Fair w (says_it z w m)
unfolding says_it
fair_it z w m = grind (arith, ints, one_or_other, by_pick, was_done, trades_only, refused, all_only)

pub fair_says : (z : Limits) (w : World) (m : Message) → Fair w (says z w m)
unfolding says
fair_says z w m = by_pick (Fair w) (z.built (kind m)) _ _ (λ e. fair_it z w m) (λ e. refused w)

pub is_answered : AnsweredOnce
unfolding AnsweredOnce
is_answered z w m = (fair_says z w m).0

pub is_refused : RefusedChangesNothing
unfolding RefusedChangesNothing
is_refused z w m = (fair_says z w m).1
