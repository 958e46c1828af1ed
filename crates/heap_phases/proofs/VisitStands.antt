-- One object is visited: the parts stand for the store that has it among the visited.
use Rattle.std.proofs.Common.{◌≡◌, ◌≢◌, ℕ, ◌≤◌, ◌<◌, true, false, IsTrue, List, [], ◌∷◌, ◌++◌, map, refl, sym, ap, ap₂, ◌∙◌, subst, inl, inr, arith}
use Rattle.std.specs.Prelude.{IsFalse, not}
use Rattle.std.proofs.lemmas.Bool.{cases_Bool}
use Rattle.std.proofs.lemmas.Bool.Decides.{eqb_tells}
use Rattle.type_table.specs.declared.info.TypeInfo.{TypeInfo}
use Rattle.heap_space.specs.Places.{has}
use Rattle.heap_space.proofs.Blocks.{lies-with_word}
use Rattle.object_header.specs.Words.{has_flag, with_flag}
use Rattle.object_header.specs.declared.flags.Flag.{Flag}
use Rattle.object_header.specs.declared.flags.Flag.TheVariants.{Track, Visited, HasCards, CardsSet}
use Rattle.object_header.proofs.WordLaws.{has_flag-with_flag_other, has_flag-with_flag_same, IsHeader-with_flag, type_of-with_flag}
use Rattle.object_view.proofs.WordLaws.{updated-here, updated-other}
use Rattle.object_model.proofs.Members.{is_in-last, is_in-append, is_in-before}
use Rattle.object_view.proofs.LayoutLaws.{laid_out, info_at-same}
use Rattle.object_view.proofs.SpaceLaws.{word_at-written, lies-at}
use Rattle.object_view.proofs.FrameLaws.{flag_holds}
use Rattle.text_model.specs.declared.line.Phase.{Phase}
use Rattle.text_model.specs.declared.line.Phase.TheVariants.{Marking}
use Rattle.object_model.specs.Layout.{Layout}
use Rattle.store_model.specs.Store.{Store}
use Rattle.object_model.specs.Sets.{is_in}
use Rattle.object_model.specs.ObjectWords.{updated, words_at}
use Rattle.object_model.specs.Holds.{HoldsObjects}
use Rattle.store_model.specs.MarkingOrder.{IsInOrder}
use Rattle.remember_cards.specs.Remembered.{is_held_of}
use Rattle.heap_parts.specs.Parts.{HeapParts, word_in, home_in}
use Rattle.heap_parts.specs.Places.{is_young, young_places, old_places, AreAmong}
use Rattle.heap_parts.specs.OldSpace.{reserved_homes}
use Rattle.heap_parts.specs.Order.{IsGrayOf}
use Rattle.heap_parts.specs.Headers.{IsSettledHeader, is_marked, keeps_cards}
use Rattle.heap_parts.specs.StandsFor.{PartsStandFor}
use Rattle.frame_laws.proofs.PlaceLaws.{young-is_in, old-is_in}
use Rattle.frame_laws.proofs.KeepWords.{SameObjects, firsts-stay, words_kept}
use Rattle.frame_laws.proofs.WriteWords.{header_written, blocks_written, husk_first, shadow_first}
use Rattle.frame_laws.proofs.BarrierLaws.{firsts-but}
use Rattle.heap_phases.proofs.EndHeaders.{settled_marked}
use Rattle.frame_laws.proofs.MinorNeeds.{settled_place}
use Rattle.heap_phases.specs.Visiting.{with_visit}
use Rattle.store_model.proofs.VisitSound.{visited_too, visit_sound}

pub visit_stands : (heap : HeapParts) (store : Store) (p : ℕ) (gray : List ℕ) (s : PartsStandFor heap store) → heap.phase ≡ Marking → IsTrue (is_in p (old_places s.places))
    → IsFalse (is_in (s.name p) store.unreached) → AreAmong (old_places s.places) gray
    → IsInOrder store.kept store.settled (store.visited ++ s.name p ∷ []) (map s.name gray) (is_held_of heap.remembered s.name) store.unreached
    → PartsStandFor (with_visit heap p gray) (visited_too store (s.name p))
visit_stands heap store p gray s marking t reached among order =
    let new : HeapParts = with_visit heap p gray in
    let types = heap.setup.types in
    let w : ℕ → ℕ = word_in heap in let v : ℕ → ℕ = word_in new in
    let x : ℕ = with_flag (w p) Visited in
    let place = old-is_in s.places p t in
    let size = (laid_out types w p).header in
    let has_word : has heap.memory.blocks p ≡ true =
    lies-at heap.memory.blocks p (words_at types w p) p (s.words.whole p place.0).whole (omega arith) (omega (arith, size)) in
    let words : updated w p x ≡ v = sym (word_at-written heap.memory.blocks p x has_word) in
    let small : heap.nursery.words ≤ 1048576 = omega (arith, s.made.words, s.made.ranges.1) in
    let few : w p < 67108864 = s.words.objects.header p place.0 in
    let same : SameObjects types v w s.places s.husks =
    subst (λ (f : ℕ → ℕ). SameObjects types f w s.places s.husks) words
    (header_written s.words small p place.0 x (type_of-with_flag (w p) Visited) (IsHeader-with_flag (w p) Visited few)) in
    let objects : HoldsObjects types v s.places s.places s.name store.kept =
    subst (λ (f : ℕ → ℕ). HoldsObjects types f s.places s.places s.name store.kept) words (flag_holds p Visited s.words.objects place.0) in
    let here : v p ≡ x = ap (λ (f : ℕ → ℕ). f p) (sym words) ∙ updated-here w p x p refl in
    let other : (q : ℕ) → q ≢ p → v q ≡ w q = λ q ne. ap (λ (f : ℕ → ℕ). f q) (sym words) ∙ updated-other w p x q ne in
    let young : (q : ℕ) → IsTrue (is_in q (young_places s.places)) → v q ≡ w q =
    λ q u. other q (λ e. let is : is_young q ≡ true = (young-is_in s.places q u).1 in let no : is_young q ≡ false = ap is_young e ∙ place.1 in let not_both : ⊥ = cc in not_both) in
    let husk : (q : ℕ) → IsTrue (is_in q s.husks) → v q ≡ w q =
    λ q u. ap (λ (f : ℕ → ℕ). f q) (sym words) ∙ husk_first s.words small p place.0 p x (omega arith) (omega (arith, size)) q u in
    let shadow : (q : ℕ) → IsTrue (is_in q (reserved_homes (home_in heap) (young_places s.places))) → v q ≡ w q =
    λ q u. ap (λ (f : ℕ → ℕ). f q) (sym words) ∙ shadow_first s.words small p place.0 p x (omega arith) (omega (arith, size)) q u in
    let flag : (f : Flag) → f ≢ Visited → has_flag (v p) f ≡ has_flag (w p) f = λ f ne. ap (λ (k : ℕ). has_flag k f) here ∙ has_flag-with_flag_other (w p) Visited f ne in
    let settled : IsTrue (is_in (s.name p) store.settled) = settled_place heap store s p place.0 ∙ ap not place.1 in
    let was : (q : ℕ) → IsTrue (is_in q (old_places s.places)) → has_flag (w q) Visited ≡ is_in (s.name q) store.visited = λ q u.
    s.visited.each q u ∙ ap (λ (ph : Phase). is_marked ph store.visited s.name heap.setup.settings.page s.waiting q) marking in
    let more : (q : ℕ) → IsTrue (is_in q (old_places s.places)) → q ≢ p → is_in (s.name q) (store.visited ++ s.name p ∷ []) ≡ is_in (s.name q) store.visited = λ q u ne.
    elim (cases_Bool (is_in (s.name q) (store.visited ++ s.name p ∷ []))) [
      | inl known ↦ elim (is_in-append store.visited (s.name p) (s.name q) known) [
        | inl e ↦ absurd (ne (s.words.objects.differ q p (old-is_in s.places q u).0 place.0 e))
        | inr old ↦ known ∙ sym old
      ]
      | inr unknown ↦ elim (cases_Bool (is_in (s.name q) store.visited)) [
        | inl old ↦ absurd (let known : IsTrue (is_in (s.name q) (store.visited ++ s.name p ∷ [])) = is_in-before store.visited (s.name p) (s.name q) old in let no : ⊥ = cc in no)
        | inr out ↦ unknown ∙ sym out
      ]
    ] in
    record {
      places = s.places;
      name = s.name;
      husks = s.husks;
      waiting = s.waiting;
      words = words_kept same (λ a n. lies-with_word heap.memory.blocks p x a n) (blocks_written s.words small p place.0 p x (omega arith) (omega (arith, size))) objects s.words;
      headers = record {
        settled = firsts-but v p other (λ q ne h. h) (λ h. subst IsSettledHeader (sym here) (settled_marked (w p) h)) s.headers.settled;
        husk = firsts-stay v husk s.headers.husk;
        shadow = firsts-stay v shadow s.headers.shadow;
        young = firsts-stay v young s.headers.young;
      };
      young_flags = record { pinned = firsts-stay v young s.young_flags.pinned; has_shadow = firsts-stay v young s.young_flags.has_shadow };
      visited = record {
        each = λ q u. elim (eqb_tells q p) [
          | inl e ↦ subst (λ (k : ℕ). has_flag (v k) Visited ≡ is_marked heap.phase (store.visited ++ s.name p ∷ []) s.name heap.setup.settings.page s.waiting k) (sym e.1)
              (ap (λ (k : ℕ). has_flag k Visited) here ∙ (has_flag-with_flag_same (w p) Visited
              ∙ sym (ap (λ (ph : Phase). is_marked ph (store.visited ++ s.name p ∷ []) s.name heap.setup.settings.page s.waiting p) marking ∙ is_in-last store.visited (s.name p))))
          | inr e ↦ ap (λ (k : ℕ). has_flag k Visited) (other q e.1) ∙ (was q u ∙ (sym (more q u e.1)
              ∙ sym (ap (λ (ph : Phase). is_marked ph (store.visited ++ s.name p ∷ []) s.name heap.setup.settings.page s.waiting q) marking)))
        ];
      };
      remembered = record {
        there = s.remembered.there;
        tracked = firsts-but v p other (λ q ne h. h)
            (λ h. record { track = flag Track (λ e. let no : ⊥ = cc in no) ∙ h.track; cards_set = flag CardsSet (λ e. let no : ⊥ = cc in no) ∙ h.cards_set }) s.remembered.tracked;
        carded = λ q u.
            let keeps = same.layouts q (old-is_in s.places q u).0 in
            let infos = info_at-same types v w q keeps.type_stays in
            let cards : has_flag (v q) HasCards ≡ has_flag (w q) HasCards = elim (eqb_tells q p) [
              | inl e ↦ subst (λ (k : ℕ). has_flag (v k) HasCards ≡ has_flag (w k) HasCards) (sym e.1) (flag HasCards (λ d. let no : ⊥ = cc in no))
              | inr e ↦ ap (λ (k : ℕ). has_flag k HasCards) (other q e.1)
            ] in
            cards ∙ (s.remembered.carded q u
            ∙ ap₂ (λ (i : TypeInfo) (l : Layout). keeps_cards heap.setup.settings.card i.shape l.ref_count) (sym infos) (sym keeps.layout_stays));
      };
      births = s.births;
      slots = s.slots;
      pins = s.pins;
      finalizers = s.finalizers;
      links = s.links;
      homes = s.homes;
      gray = among;
      gray_phase = subst (λ (ph : Phase). IsGrayOf ph gray) (sym marking) tt;
      sums = s.sums;
      husk_list = s.husk_list;
      counts = s.counts;
      ungapped = s.ungapped;
      units = s.units;
      made = record { ranges = s.made.ranges; words = s.made.words; pins = s.made.pins; card = s.made.card; arena = s.made.arena; small = s.made.small; page = s.made.page };
      order = order;
      sound = visit_sound heap.setup.settings store (s.name p) (s.counts.phase_is ∙ marking) settled reached s.sound;
    }

pub visit_places : (heap : HeapParts) (store : Store) (p : ℕ) (gray : List ℕ) (s : PartsStandFor heap store) (marking : heap.phase ≡ Marking) (t : IsTrue (is_in p (old_places s.places)))
    (reached : IsFalse (is_in (s.name p) store.unreached)) (among : AreAmong (old_places s.places) gray)
    (order : IsInOrder store.kept store.settled (store.visited ++ s.name p ∷ []) (map s.name gray) (is_held_of heap.remembered s.name) store.unreached)
    → ((visit_stands heap store p gray s marking t reached among order).places ≡ s.places) × ((visit_stands heap store p gray s marking t reached among order).name ≡ s.name)
unfolding visit_stands
visit_places heap store p gray s marking t reached among order = (refl, refl)
