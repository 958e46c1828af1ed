-- A span is taken of what is remembered, and the first word of its object tells what is left.
use Rattle.std.proofs.Common.{◌≡◌, ◌≢◌, ℕ, ◌%◌, Bool, true, false, IsTrue, List, [], ◌∷◌, map, refl, sym, ap, ◌∙◌, subst, arith}
use Rattle.std.specs.Prelude.{not, IsSome, IfNone}
use Rattle.heap_space.specs.Memory.{Memory}
use Rattle.heap_space.specs.Places.{has, word_at}
use Rattle.object_header.specs.Words.{IsHeader, has_flag}
use Rattle.object_header.specs.declared.flags.Flag.{Flag}
use Rattle.object_header.specs.declared.flags.Flag.TheVariants.{Track, CardsSet}
use Rattle.object_header.proofs.WordLaws.{has_flag-with_flag_same, has_flag-with_flag_other, has_flag-without_flag_same, has_flag-without_flag_other, type_of-with_flag, type_of-without_flag, IsHeader-with_flag, IsHeader-without_flag}
use Rattle.object_view.proofs.LayoutLaws.{laid_out}
use Rattle.object_view.proofs.SpaceLaws.{lies-at}
use Rattle.object_model.specs.Sets.{is_in}
use Rattle.remember_cards.specs.declared.Span.{Span}
use Rattle.remember_cards.specs.Remembered.{Held, Remembered, held_whole, held_places, is_held_whole, has_held_cards}
use Rattle.remember_cards.specs.Remembering.{Remembering, remembered_by}
use Rattle.remember_cards.specs.Tracking.{with_head, flag_is, drained_head}
use Rattle.remember_cards.specs.Drained.{HandsOut, next_span, drained}
use Rattle.heap_parts.specs.Parts.{HeapParts, word_in}
use Rattle.heap_parts.specs.Places.{old_places}
use Rattle.heap_parts.specs.Effects.{with_word_at}
use Rattle.frame_laws.proofs.PlaceLaws.{old-is_in}
use Rattle.minor_collect.specs.Calls.{Stage, Spot, Middle}
use Rattle.minor_collect.specs.Spans.{with_remember, CanTakeSpans, KeepsMiddle}
use Rattle.minor_collect.proofs.MarkMid.{Retells, middle_marks}

flag-same : (word : ℕ) (f : Flag) (b : Bool) → has_flag (flag_is word f b) f ≡ b
flag-same word f true = has_flag-with_flag_same word f
flag-same word f false = has_flag-without_flag_same word f

flag-other : (word : ℕ) (f g : Flag) (b : Bool) → g ≢ f → has_flag (flag_is word f b) g ≡ has_flag word g
flag-other word f g true ne = has_flag-with_flag_other word f g ne
flag-other word f g false ne = has_flag-without_flag_other word f g ne

flag-type : (word : ℕ) (f : Flag) (b : Bool) → flag_is word f b % 65536 ≡ word % 65536
flag-type word f true = type_of-with_flag word f
flag-type word f false = type_of-without_flag word f

flag-header : (word : ℕ) (f : Flag) (b : Bool) → IsHeader word → IsHeader (flag_is word f b)
flag-header word f true h = IsHeader-with_flag word f h
flag-header word f false h = IsHeader-without_flag word f h

module _ {stage : Stage} {now : HeapParts} {spot : Spot} {old new : Remembering} {span : Span} (middle : Middle stage now spot []) (is : now.remembered ≡ remembered_by old) (card : new.card ≡ old.card)
    (h : HandsOut old new span) where
  abbrev p : ℕ
  p = span.a

  abbrev head : ℕ
  head = drained_head (is_in span.a new.kept) (has_held_cards (remembered_by new) span.a) (word_in now span.a)

  pub span_there : IsTrue (is_in span.a (old_places spot.placing.places))
  span_there = middle.mid.marked.there p (subst (λ (r : Remembered). IsTrue (is_in p (held_places r))) (sym is) h.there)

  retells : Retells now spot p head (remembered_by new)
  retells =
      let w : ℕ = word_in now p in
      let kept : Bool = is_in p new.kept in let cards : Bool = has_held_cards (remembered_by new) p in
      let first : ℕ = flag_is w Track (not kept) in record {
        same_type = flag-type first CardsSet cards ∙ flag-type w Track (not kept);
        small = flag-header first CardsSet cards (flag-header w Track (not kept) (middle.mid.headers.settled.each p span_there).live.header);
        flags = λ f t c. flag-other first CardsSet f cards c ∙ flag-other w Track f (not kept) t;
        tracked = record {
          track = flag-other first CardsSet Track cards (λ e. let no : ⊥ = cc in no) ∙ (flag-same w Track (not kept) ∙ ap not (sym h.whole_here));
          cards_set = flag-same first CardsSet cards;
        };
        others = λ q ne. (h.whole_other q ne ∙ ap (λ (r : Remembered). is_held_whole r q) (sym is), h.cards_other q ne ∙ ap (λ (r : Remembered). has_held_cards r q) (sym is));
        among = λ q t. middle.mid.marked.there q (subst (λ (r : Remembered). IsTrue (is_in q (held_places r))) (sym is) (h.among q t));
        card = card ∙ ap (λ (r : Remembered). r.card) (sym is);
      }

  pub span_middle : Middle stage (record (with_word_at now span.a head) { remembered = remembered_by new }) spot []
  span_middle = middle_marks middle p head (remembered_by new) span_there retells

pub drained_card : (r : Remembering) (entries : List Held) → (drained r entries).card ≡ r.card
drained_card r [] = refl
drained_card r (h ∷ hs) = refl

pub drained_kept : (r : Remembering) (card : ℕ) (entries : List Held) → IsSome (next_span card entries) → (drained r entries).kept ≡ r.kept
drained_kept r card [] s = let no : ⊥ = cc in absurd no
drained_kept r card (h ∷ hs) s = refl

pub drained_over : (r : Remembering) (card : ℕ) (entries : List Held) → IfNone (next_span card entries) ((drained r entries).kept ≡ [])
drained_over r card [] = refl
drained_over r card (h ∷ hs) = tt

pub drained_entries : (r : Remembering) (card : ℕ) (entries : List Held) → IfNone (next_span card entries) ((drained r entries).entries ≡ map held_whole r.kept)
drained_entries r card [] = refl
drained_entries r card (h ∷ hs) = tt

-- the middle of any heap stays
pub keeps_middle : (memory new : Memory) (old after : Remembering) (span : Span) → HandsOut old after span → after.card ≡ old.card
    → new ≡ with_head memory span.a (drained_head (is_in span.a after.kept) (has_held_cards (remembered_by after) span.a) (word_at memory.blocks span.a)) → KeepsMiddle memory old new after
keeps_middle memory new old after span h card new_is stage heap spot part middle =
    let head : ℕ → ℕ = λ w. drained_head (is_in span.a after.kept) (has_held_cards (remembered_by after) span.a) w in
    let same : new ≡ (with_word_at heap span.a (head (word_in heap span.a))).memory =
    new_is ∙ ap (λ (m : Memory). with_head m span.a (head (word_at m.blocks span.a))) (sym part.memory_is) in
    subst (λ (m : Memory). Middle stage (with_remember heap m after) spot []) (sym same) (span_middle middle part.remembered_is card h)

-- the first word can be written
pub span_writes : (memory : Memory) (old after : Remembering) (span : Span) → CanTakeSpans memory old → HandsOut old after span → after.card ≡ old.card → IsTrue (has memory.blocks span.a)
span_writes memory old after span c h card =
    let t = (old-is_in c.spot.placing.places span.a (span_there c.middle c.part.remembered_is card h)).0 in
    let two = (laid_out c.stage.start.setup.types (word_in c.heap) span.a).header in
    subst (λ (m : Memory). IsTrue (has m.blocks span.a)) c.part.memory_is
    (lies-at c.heap.memory.blocks span.a _ span.a (c.middle.mid.words.whole span.a t).whole (omega arith) (omega (arith, two)))
