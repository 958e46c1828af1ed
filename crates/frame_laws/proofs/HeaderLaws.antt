-- The first word of an object is written, with the same type: what stays.
use Rattle.std.proofs.Common.{◌≡◌, ◌≢◌, ℕ, ◌<◌, ◌≤◌, true, false, IsTrue, List, [], map, refl, sym, ap, ap₂, ◌∙◌, subst, arith}
use Rattle.std.specs.Prelude.{◌%◌}
use Rattle.type_table.specs.declared.info.TypeInfo.{TypeInfo}
use Rattle.heap_space.specs.Places.{has}
use Rattle.heap_space.proofs.Blocks.{lies-with_word}
use Rattle.object_header.specs.Words.{has_flag}
use Rattle.object_header.specs.declared.flags.Flag.TheVariants.{HasShadow, Pinned, HasCards}
use Rattle.object_view.proofs.WordLaws.{updated-here, updated-other}
use Rattle.object_view.proofs.LayoutLaws.{laid_out, info_at-same}
use Rattle.object_view.proofs.SpaceLaws.{word_at-written, lies-at}
use Rattle.object_view.proofs.FrameLaws.{header_holds}
use Rattle.object_model.specs.Layout.{Layout}
use Rattle.store_model.specs.Store.{Store}
use Rattle.object_model.specs.Sets.{is_in}
use Rattle.object_model.specs.ObjectWords.{updated, words_at}
use Rattle.object_model.specs.Holds.{HoldsObjects}
use Rattle.parts_model.specs.Parts.{HeapParts, word_in, home_in}
use Rattle.parts_model.specs.Places.{is_young, young_places, old_places}
use Rattle.parts_model.specs.OldSpace.{reserved_homes}
use Rattle.parts_model.specs.Headers.{IsYoungHeader, keeps_cards}
use Rattle.parts_model.specs.Lists.{named_entries, HoldsEntries}
use Rattle.parts_model.specs.StandsFor.{PartsStandFor, HoldsWords}
use Rattle.parts_model.specs.Effects.{with_word_at}
use Rattle.frame_laws.proofs.PlaceLaws.{young-is_in, old-is_in}
use Rattle.frame_laws.proofs.KeepWords.{SameObjects, words_kept, firsts-stay}
use Rattle.frame_laws.proofs.WriteWords.{header_written, husk_first, shadow_first, blocks_written}
use Rattle.frame_laws.proofs.BarrierLaws.{firsts-but}
use Rattle.store_model.proofs.RootLaws.{RootChange, sound_rerooted}

-- What is known where the first word of an object was written: only it changed, and no object, no husk, no block.
pub record HeaderIs (heap : HeapParts) (store : Store) (s : PartsStandFor heap store) (p x : ℕ) : Type 0 where
  pub same : SameObjects heap.setup.types (word_in (with_word_at heap p x)) (word_in heap) s.places s.husks
  pub words : HoldsWords heap.setup.types heap.setup.settings.page (with_word_at heap p x).memory heap.nursery heap.old_blocks (home_in heap) heap.weaks [] store.kept store.husks s.places s.husks s.waiting s.name
  pub here : word_in (with_word_at heap p x) p ≡ x
  pub other : (q : ℕ) → q ≢ p → word_in (with_word_at heap p x) q ≡ word_in heap q
  pub husk : (q : ℕ) → IsTrue (is_in q s.husks) → word_in (with_word_at heap p x) q ≡ word_in heap q
  pub shadow : (q : ℕ) → IsTrue (is_in q (reserved_homes (home_in heap) (young_places s.places))) → word_in (with_word_at heap p x) q ≡ word_in heap q

pub header_is : (heap : HeapParts) (store : Store) (s : PartsStandFor heap store) (p x : ℕ) → IsTrue (is_in p s.places) → x % 65536 ≡ word_in heap p % 65536 → x < 67108864
    → HeaderIs heap store s p x
header_is heap store s p x t type few =
    let types = heap.setup.types in
    let w : ℕ → ℕ = word_in heap in let v : ℕ → ℕ = word_in (with_word_at heap p x) in
    let size = (laid_out types w p).header in
    let has_word : has heap.memory.blocks p ≡ true =
    lies-at heap.memory.blocks p (words_at types w p) p (s.words.whole p t).whole (omega arith) (omega (arith, size)) in
    let words : updated w p x ≡ v = sym (word_at-written heap.memory.blocks p x has_word) in
    let small : heap.nursery.words ≤ 1048576 = omega (arith, s.made.words, s.made.ranges.1) in
    let same : SameObjects types v w s.places s.husks =
    subst (λ (f : ℕ → ℕ). SameObjects types f w s.places s.husks) words (header_written s.words small p t x type few) in
    let objects : HoldsObjects types v s.places s.places s.name store.kept =
    subst (λ (f : ℕ → ℕ). HoldsObjects types f s.places s.places s.name store.kept) words (header_holds p x s.words.objects t type few) in
    record {
      same = same;
      words = words_kept same (λ a n. lies-with_word heap.memory.blocks p x a n) (blocks_written s.words small p t p x (omega arith) (omega (arith, size))) objects s.words;
      here = ap (λ (f : ℕ → ℕ). f p) (sym words) ∙ updated-here w p x p refl;
      other = λ q ne. ap (λ (f : ℕ → ℕ). f q) (sym words) ∙ updated-other w p x q ne;
      husk = λ q u. ap (λ (f : ℕ → ℕ). f q) (sym words) ∙ husk_first s.words small p t p x (omega arith) (omega (arith, size)) q u;
      shadow = λ q u. ap (λ (f : ℕ → ℕ). f q) (sym words) ∙ shadow_first s.words small p t p x (omega arith) (omega (arith, size)) q u;
    }

-- the heap where an object of the nursery has another first word, and the pins are others
abbrev pub with_pins : HeapParts → ℕ → ℕ → List (ℕ × ℕ) → HeapParts
with_pins heap p x pins = record (with_word_at heap p x) { pins = pins }

-- The pins of an object of the nursery change, and its flag tells of it.
pub pins_stand : (heap : HeapParts) (store : Store) (p x : ℕ) (pins : List (ℕ × ℕ)) (s : PartsStandFor heap store) → IsTrue (is_in p (young_places s.places))
    → x % 65536 ≡ word_in heap p % 65536 → IsYoungHeader x → has_flag x HasShadow ≡ has_flag (word_in heap p) HasShadow
    → has_flag x Pinned ≡ is_in p (map (λ entry. entry.0) pins)
    → ((q : ℕ) → q ≢ p → is_in q (map (λ entry. entry.0) pins) ≡ is_in q (map (λ entry. entry.0) heap.pins))
    → HoldsEntries pins (young_places s.places) s.name (named_entries s.name pins)
    → RootChange heap.setup.settings store (record store { pinned = named_entries s.name pins })
    → PartsStandFor (with_pins heap p x pins) (record store { pinned = named_entries s.name pins })
pins_stand heap store p x pins s t type young shadowed pinned others entries change =
    let types = heap.setup.types in
    let w : ℕ → ℕ = word_in heap in let v : ℕ → ℕ = word_in (with_word_at heap p x) in
    let place = young-is_in s.places p t in
    let is = header_is heap store s p x place.0 type young.live.header in
    let old : (q : ℕ) → IsTrue (is_in q (old_places s.places)) → v q ≡ w q =
    λ q u. is.other q (λ e. let no : is_young q ≡ false = (old-is_in s.places q u).1 in let yes : is_young q ≡ true = ap is_young e ∙ place.1 in let not_both : ⊥ = cc in not_both) in
    record {
      places = s.places;
      name = s.name;
      husks = s.husks;
      waiting = s.waiting;
      words = is.words;
      headers = record {
        settled = firsts-stay v old s.headers.settled;
        husk = firsts-stay v is.husk s.headers.husk;
        shadow = firsts-stay v is.shadow s.headers.shadow;
        young = firsts-but v p is.other (λ q ne h. h) (λ h. subst IsYoungHeader (sym is.here) young) s.headers.young;
      };
      young_flags = record {
        pinned = firsts-but v p is.other (λ q ne h. h ∙ sym (others q ne)) (λ h. ap (λ (k : ℕ). has_flag k Pinned) is.here ∙ pinned) s.young_flags.pinned;
        has_shadow = firsts-but v p is.other (λ q ne h. h) (λ h. ap (λ (k : ℕ). has_flag k HasShadow) is.here ∙ (shadowed ∙ h)) s.young_flags.has_shadow;
      };
      visited = firsts-stay v old s.visited;
      remembered = record {
        there = s.remembered.there;
        tracked = firsts-stay v old s.remembered.tracked;
        carded = λ q u.
            let keeps = is.same.layouts q (old-is_in s.places q u).0 in
            ap (λ (k : ℕ). has_flag k HasCards) (old q u) ∙ (s.remembered.carded q u
            ∙ ap₂ (λ (i : TypeInfo) (l : Layout). keeps_cards heap.setup.settings.card i.shape l.ref_count) (sym (info_at-same types v w q keeps.type_stays)) (sym keeps.layout_stays));
      };
      births = s.births;
      slots = s.slots;
      pins = entries;
      finalizers = s.finalizers;
      links = s.links;
      homes = s.homes;
      gray = s.gray;
      gray_phase = s.gray_phase;
      sums = s.sums;
      husk_list = s.husk_list;
      counts = s.counts;
      ungapped = s.ungapped;
      units = s.units;
      made = record { ranges = s.made.ranges; words = s.made.words; pins = s.made.pins; card = s.made.card; arena = s.made.arena; small = s.made.small; page = s.made.page };
      order = s.order;
      sound = sound_rerooted change s.sound;
    }
