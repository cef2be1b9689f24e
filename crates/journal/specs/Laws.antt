-- What a format must keep for the rules of writing to do their work. Assumes nothing: these are definitions.
use Rattle.std.specs.Prelude.{◌≡◌, ℕ, ◌%◌, ◌≤◌, Bool, true, false, List, [], ◌∷◌, length, take, Some, None, slice_index_or, slice_set}
use Rattle.std.specs.List.{AllByRecursion}
use Rattle.venue.specs.Sound.{Sound}
use Rattle.venue.specs.World.{Limits, Message, World, no, says}
use Rattle.blocks.specs.Disc.{Disc, is_block, is_disc}
use Rattle.journal.specs.Format.{Format}
use Rattle.journal.specs.Places.{Room, first_blocks, lay}

pub record Lawful (c : Format) : Type 0 where
  pub marks : c.marked c.mark ≡ true
  pub blanks : c.marked c.blank ≡ false
  pub mark_whole : is_block c.mark ≡ true
  pub blank_whole : is_block c.blank ≡ true
  -- what holds of the first blocks of every disc that is not refused for them
  pub fine : Disc → Bool
  pub first_fine : (d : Disc) → is_disc d ≡ true → c.first_refusal d ≡ None → fine (first_blocks c d) ≡ true
  pub first_room : (d : Disc) → is_disc d ≡ true → c.first_refusal d ≡ None → Room (lay c d) (length d)
  -- a block behind the first ones has no say in that
  pub first_near :
      (d : Disc) (i : ℕ) (x : List ℕ) → is_disc d ≡ true → c.first_refusal d ≡ None → (lay c d).first ≤ i → is_block x ≡ true →
      c.first_refusal (slice_set d i x) ≡ None
  pub same_says : (z : Limits) (f : Disc) (w : World) (m : Message) → fine f ≡ true → c.agrees z f ≡ true → says z w m ≡ says (c.limits f) w m
  -- markets that may be kept: the first, those after any message, and each that a body without fault holds; they are sound
  pub first_good : (f : Disc) → fine f ≡ true → c.good f (c.first_market f) ≡ true
  pub good_says : (f : Disc) (w : World) (m : Message) → fine f ≡ true → c.good f w ≡ true → c.good f (says (c.limits f) w m).0 ≡ true
  pub body_good : (f bs : Disc) → fine f ≡ true → c.body_fault f bs ≡ None → c.good f (c.body_market f bs) ≡ true
  pub good_sound : (z : Limits) (f : Disc) (w : World) → fine f ≡ true → c.agrees z f ≡ true → c.good f w ≡ true → Sound z w
  -- a body is a row of whole blocks, has room in its place, and is read back
  pub body_whole : (f : Disc) (w : World) (h : ℕ) → fine f ≡ true → c.good f w ≡ true → AllByRecursion (λ (b : List ℕ). is_block b ≡ true) (c.body f w h)
  pub body_room : (f : Disc) (w : World) (h : ℕ) → fine f ≡ true → c.good f w ≡ true → length (c.body f w h) ≤ c.body_size (slice_index_or f 0 [])
  pub body_fine :
      (f : Disc) (w : World) (h : ℕ) (bs : Disc) → fine f ≡ true → c.good f w ≡ true → length bs ≡ c.body_size (slice_index_or f 0 []) →
      take (length (c.body f w h)) bs ≡ c.body f w h →
      (c.body_fault f bs ≡ None) × (c.body_market f bs ≡ w) × (c.body_heard f bs ≡ h % 18446744073709551616)
  -- a message that has bytes is a row of whole blocks and is read back, whatever lies behind it; one that has none is refused by every market
  pub content_whole : (f : Disc) (m : Message) → fine f ≡ true → c.has_bytes f m ≡ true → AllByRecursion (λ (b : List ℕ). is_block b ≡ true) (c.content f m)
  pub content_back :
      (f : Disc) (m : Message) (bs : Disc) → fine f ≡ true → c.has_bytes f m ≡ true →
      take (length (c.content f m)) bs ≡ c.content f m → c.reads f bs ≡ Some (m, length (c.content f m))
  pub no_bytes :
      (f : Disc) (w : World) (m : Message) → fine f ≡ true → c.good f w ≡ true → c.has_bytes f m ≡ false →
      says (c.limits f) w m ≡ (w, no ∷ [])
  -- a reader of a message looks at no block behind those that it counts
  pub near :
      (f bs : Disc) (k : ℕ) (x : List ℕ) (m : Message) (n : ℕ) → is_disc bs ≡ true → is_block x ≡ true →
      c.reads f bs ≡ Some (m, n) → n ≤ k → c.reads f (slice_set bs k x) ≡ Some (m, n)
