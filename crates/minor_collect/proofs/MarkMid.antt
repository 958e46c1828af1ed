-- The first word of an object outside the nursery tells anew what is remembered of it.
use Rattle.std.proofs.Common.{◌≡◌, ◌≢◌, ℕ, ◌+◌, ◌%◌, ◌<◌, IsTrue, [], sym, ap, ◌∙◌, subst, inl, inr, arith}
use Rattle.type_table.specs.declared.info.TypeInfo.{TypeInfo}
use Rattle.type_table.specs.Table.{Table}
use Rattle.heap_space.specs.Places.{word_at}
use Rattle.object_header.specs.Words.{IsHeader, has_flag}
use Rattle.object_header.specs.declared.flags.Flag.{Flag}
use Rattle.object_header.specs.declared.flags.Flag.TheVariants.{Track, Visited, HasShadow, Pinned, HasCards, CardsSet, Free, Shadow, Order1, Order2}
use Rattle.object_view.proofs.WordLaws.{updated-other}
use Rattle.object_view.proofs.LayoutLaws.{laid_out, KeepsLayout}
use Rattle.object_model.specs.Layout.{Layout}
use Rattle.object_model.specs.Sets.{is_in}
use Rattle.object_model.specs.ObjectWords.{updated, words_at}
use Rattle.remember_cards.specs.Remembered.{Remembered, held_places, is_held_whole, has_held_cards}
use Rattle.remember_cards.specs.Tracking.{IsTracked}
use Rattle.heap_parts.specs.Parts.{HeapParts, word_in, home_in}
use Rattle.heap_parts.specs.Places.{old_places, AreAmong}
use Rattle.heap_parts.specs.Headers.{IsSettledHeader}
use Rattle.heap_parts.specs.Effects.{with_word_at}
use Rattle.minor_collect.specs.Calls.{Stage, Spot, Middle}
use Rattle.minor_collect.proofs.MarkStep.{Marks, midway_marks, mark_layouts}
use Rattle.minor_collect.proofs.Sizes.{sizes_stay}
use Rattle.minor_collect.proofs.WriteMid.{place_there, husk_same, shadow_first, blocks_written, words_written, whole_written, nursery_written}

-- a header with other flags of what is remembered is that of a settled object still
pub settled_flags : (head word : ℕ) → IsHeader head → ((f : Flag) → f ≢ Track → f ≢ CardsSet → has_flag head f ≡ has_flag word f) → IsSettledHeader word → IsSettledHeader head
settled_flags head word small same s = record {
  live = record {
    header = small;
    not_free = same Free (λ e. let no : ⊥ = cc in no) (λ e. let no : ⊥ = cc in no) ∙ s.live.not_free;
    not_order1 = same Order1 (λ e. let no : ⊥ = cc in no) (λ e. let no : ⊥ = cc in no) ∙ s.live.not_order1;
    not_order2 = same Order2 (λ e. let no : ⊥ = cc in no) (λ e. let no : ⊥ = cc in no) ∙ s.live.not_order2;
  };
  not_shadow = same Shadow (λ e. let no : ⊥ = cc in no) (λ e. let no : ⊥ = cc in no) ∙ s.not_shadow;
  not_has_shadow = same HasShadow (λ e. let no : ⊥ = cc in no) (λ e. let no : ⊥ = cc in no) ∙ s.not_has_shadow;
  not_pinned = same Pinned (λ e. let no : ⊥ = cc in no) (λ e. let no : ⊥ = cc in no) ∙ s.not_pinned;
}

-- what is written into the first word, and what is remembered then
pub record Retells (now : HeapParts) (spot : Spot) (p head : ℕ) (after : Remembered) : Type 0 where
  pub same_type : head % 65536 ≡ word_in now p % 65536
  pub small : IsHeader head
  pub flags : (f : Flag) → f ≢ Track → f ≢ CardsSet → has_flag head f ≡ has_flag (word_in now p) f
  pub tracked : IsTracked after p head
  pub others : (q : ℕ) → q ≢ p → (is_held_whole after q ≡ is_held_whole now.remembered q) × (has_held_cards after q ≡ has_held_cards now.remembered q)
  pub among : AreAmong (old_places spot.placing.places) (held_places after)
  pub card : after.card ≡ now.remembered.card

module _ {stage : Stage} {now : HeapParts} {spot : Spot} (middle : Middle stage now spot []) (p head : ℕ) (after : Remembered)
    (there : IsTrue (is_in p (old_places spot.placing.places))) (r : Retells now spot p head after) where
  abbrev types : Table TypeInfo
  types = stage.start.setup.types

  abbrev w : ℕ → ℕ
  w = word_at now.memory.blocks

  wide : p < p + words_at types w p
  wide = let two = (laid_out types w p).header in omega (arith, two)

  marks : Marks types w (home_in now) spot.placing.places spot.placing.husks p head now.remembered after
  marks = record {
    there = there;
    same_type = r.same_type;
    small = r.small;
    header = settled_flags head (w p) r.small r.flags (middle.mid.headers.settled.each p there);
    visited = r.flags Visited (λ e. let no : ⊥ = cc in no) (λ e. let no : ⊥ = cc in no);
    has_cards = r.flags HasCards (λ e. let no : ⊥ = cc in no) (λ e. let no : ⊥ = cc in no);
    tracked = r.tracked;
    others = r.others;
    among = r.among;
    husk_same = husk_same middle p there p head (omega arith) wide;
    shadow_same = shadow_first middle p there p head (omega arith) wide;
  }

  words : word_in (with_word_at now p head) ≡ updated w p head
  words = words_written middle p there p head (omega arith) wide

  pub head_layouts : (q : ℕ) → IsTrue (is_in q spot.placing.places) → KeepsLayout types (word_in (with_word_at now p head)) w q
  head_layouts q t = subst (λ (f : ℕ → ℕ). KeepsLayout types f w q) (sym words) (mark_layouts middle.mid.words.objects middle.mid.words.moving marks q t)

  pub head_words : (b : ℕ) → b ≢ p → word_in (with_word_at now p head) b ≡ word_in now b
  head_words b ne = ap (λ (f : ℕ → ℕ). f b) words ∙ updated-other w p head b ne

  pub middle_marks : Middle stage (record (with_word_at now p head) { remembered = after }) spot []
  middle_marks =
      let mid = midway_marks p head middle.mid (with_word_at now p head).memory after spot.held marks words
      (whole_written middle p there p head head_layouts) (nursery_written middle p there p head) (blocks_written middle p there p head (omega arith) wide)
      (record { ranges = middle.mid.made.ranges; words = middle.mid.made.words; pins = middle.mid.made.pins; card = r.card ∙ middle.mid.made.card; arena = middle.mid.made.arena; small = middle.mid.made.small; page = middle.mid.made.page }) in
      record {
        mid = mid;
        rest = ap (λ (h : HeapParts). record (with_word_at h p head) { remembered = after }) middle.rest;
        sizes = sizes_stay (words_at stage.start.setup.types (word_in stage.start)) middle.mid.words.objects mid.words.objects middle.mid.words.moving
            (λ q t. ap (λ (l : Layout). l.words) (head_layouts q t).layout_stays)
            (λ x t left. (
              head_words x (λ e. left.outside p (place_there middle p there) (inl (omega (arith, e), omega (arith, e, wide)))),
              head_words (x + 1) (λ e. left.outside p (place_there middle p there) (inr (omega (arith, e), omega (arith, e, wide)))),
            )) middle.sizes;
      }
