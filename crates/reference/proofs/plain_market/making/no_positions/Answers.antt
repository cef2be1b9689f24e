use Rattle.std.proofs.Common.{◌≡◌, ℕ, zero, suc, ◌∷◌, map, replicate, pos, refl, ap, ◌∙◌}
use Rattle.reference.specs.Means.{held_of}
use Rattle.reference.proofs.plain_market.making.no_positions.Goals as goal

none : (n : ℕ) → map held_of (replicate n (record { held = pos 0 })) ≡ replicate n (pos 0)
none zero = refl
none (suc n) = ap (λ hs. pos 0 ∷ hs) (none n)

pub returns : goal.returns
returns c = ap (map held_of) (c.in_ok-vec.ensures.items_if_clones_equal (λ y e. e)) ∙ none c.args.items
