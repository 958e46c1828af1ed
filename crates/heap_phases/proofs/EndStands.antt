-- The end of marking: the parts stand for the store that it leaves.
use Rattle.std.proofs.Common.{◌≡◌, ℕ, ◌+◌, ◌*◌, ◌≤◌, ◌<◌, Bool, true, false, IsTrue, List, [], ◌∷◌, ◌++◌, map, length, refl, sym, ap, ap₂, ◌∙◌, subst, inl, inr, arith}
use Rattle.std.specs.Prelude.{not, ◌/◌, filter, filter_map, flat_map, sum_by}
use Rattle.std.proofs.lemmas.Bool.{cases_Bool}
use Rattle.std.proofs.lemmas.List.{length-map}
use Rattle.std.proofs.lemmas.List.Sums.{sum_by-cons}
use Rattle.std.proofs.lemmas.Nat.{div-add-mod', mod_below}
use Rattle.type_table.specs.declared.info.TypeInfo.{TypeInfo}
use Rattle.type_table.specs.Table.{Table}
use Rattle.heap_space.specs.Places.{word_at}
use Rattle.heap_space.specs.Memory.{Memory}
use Rattle.object_header.specs.Words.{has_flag}
use Rattle.object_header.specs.declared.flags.Flag.TheVariants.{Visited}
use Rattle.object_model.proofs.Members.{is_in-nil, map-same, filter-part, in-left, in-right, and_first, and_second, not-true}
use Rattle.old_space.specs.HasBlocks.{greatest_small}
use Rattle.old_space.specs.declared.Old.{Old}
use Rattle.object_model.specs.declared.settings.Settings.{Settings}
use Rattle.text_model.specs.declared.line.Phase.{Phase}
use Rattle.text_model.specs.declared.line.Phase.TheVariants.{Marking}
use Rattle.object_model.specs.Object.{Object, words_of, object_at}
use Rattle.store_model.specs.Store.{Store, is_settled, settled_words, unsettled_words, husk_words}
use Rattle.object_model.specs.Sets.{is_in}
use Rattle.store_model.specs.Roots.{pinned_births, roots_of, referents_in}
use Rattle.store_model.specs.Reach.{Tells, objects_where}
use Rattle.store_model.specs.Marking.{IsMarked, IsSaved, IsChosen, is_white, is_condemned, after_marking}
use Rattle.store_model.specs.Sound.{AreLinksSound, IsPhaseSound}
use Rattle.object_model.specs.ObjectWords.{words_at}
use Rattle.heap_parts.specs.NamedFinals.{NamedFinals}
use Rattle.heap_parts.specs.Parts.{HeapParts, word_in, home_in}
use Rattle.heap_parts.specs.Places.{young_places, old_places, RiseBetween, AreAmong}
use Rattle.heap_parts.specs.OldSpace.{husk_at}
use Rattle.heap_parts.specs.StandsFor.{HoldsHuskList, PartsStandFor, HoldsWords, HoldsHeaders, HoldsHomes, HoldsBirths}
use Rattle.frame_laws.proofs.RiseLines.{keys_rise}
use Rattle.heap_phases.proofs.EndLists.{rise_filtered, end_births, end_slots, end_entries, entries_stay, entries_both, end_queues, end_links, end_homes, blocks_few}
use Rattle.std.proofs.lemmas.Simd.{map-map}
use Rattle.object_model.specs.Layout.{Layout}
use Rattle.heap_parts.specs.Collects.{AreAllPinned}
use Rattle.heap_phases.specs.EndOfMarking.{marked_parts, with_chosen_births}
use Rattle.frame_laws.proofs.PlaceLaws.{placed_words, young-is_in, old-is_in}
use Rattle.frame_laws.proofs.MinorNeeds.{settled_place}
use Rattle.heap_parts.proofs.SameLayouts.{sum-same}
use Rattle.store_model.proofs.EndOfMarking.{stays_refers, black_stays, root_stays, registered_stays, unsettled_stays}
use Rattle.heap_phases.proofs.EndWords.{EndsWords, staying, losing, end_words, end_waits, young_staying, old_staying, losing_old}
use Rattle.heap_phases.proofs.EndHeaders.{EndsHeads, end_headers, end_young_flags, end_visited, end_remembered, end_order}
use Rattle.heap_parts.specs.Headers.{is_marked}
use Rattle.store_model.proofs.CutSound.{cut_sound}
use Rattle.store_model.proofs.After.{left_objects, kept_left}
use Rattle.store_model.proofs.MarkedSound.{end_sound, settled_before, settled_now}

pub sum_map : (f : ℕ → ℕ) (types : Table TypeInfo) (v : ℕ → ℕ) (ps : List ℕ) → husk_words (map (λ p. (v (p + 1), words_at types v p)) ps) ≡ sum_by (words_at types v) ps
sum_map f types v [] = refl
sum_map f types v (p ∷ ps) =
    let more = sum_map f types v ps in
    let whole = sum_by-cons (words_at types v) p ps in
    let husks = sum_by-cons (λ (h : ℕ × ℕ). h.1) (v (p + 1), words_at types v p) (map (λ p. (v (p + 1), words_at types v p)) ps) in
    omega (arith, more, whole, husks)

pub sum_split : {X : Type 0} (f : X → ℕ) (test : X → Bool) (ps : List X) → sum_by f ps ≡ sum_by f (filter (λ p. not (test p)) ps) + sum_by f (filter test ps)
sum_split f test [] = refl
sum_split f test (p ∷ ps) =
    let more = sum_split f test ps in
    let whole = sum_by-cons f p ps in
    elim (cases_Bool (test p)) [
      | inl e ↦
          let first : sum_by f (filter test (p ∷ ps)) ≡ f p + sum_by f (filter test ps) = rw e (sum_by-cons f p (filter test ps)) in
          let second : sum_by f (filter (λ q. not (test q)) (p ∷ ps)) ≡ sum_by f (filter (λ q. not (test q)) ps) = rw e refl in
          omega (arith, more, whole, first, second)
      | inr e ↦
          let first : sum_by f (filter test (p ∷ ps)) ≡ sum_by f (filter test ps) = rw e refl in
          let second : sum_by f (filter (λ q. not (test q)) (p ∷ ps)) ≡ f p + sum_by f (filter (λ q. not (test q)) ps) =
          rw e (sum_by-cons f p (filter (λ q. not (test q)) ps)) in
          omega (arith, more, whole, first, second)
    ]

units-few : (n k : ℕ) → 0 < k → n ≤ (n / k + 1) * k
units-few n k l =
    let whole = div-add-mod' n k in let part = mod_below n k l in
    let more : (n / k + 1) * k ≡ n / k * k + k = distribute (n / k) k in omega (arith, whole, part, more)
  where
    distribute : (q k : ℕ) → (q + 1) * k ≡ q * k + k
    distribute q k = grind arith

rise-count : (births : List ℕ) (least next : ℕ) → RiseBetween least births next → least + length births ≤ next
rise-count [] least next rise = omega (arith, rise)
rise-count (b ∷ births) least next rise = let more = rise-count births (b + 1) next rise.1 in let low = rise.0 in omega (arith, more, low)

-- What the code of the end of marking establishes, for a store and its places: words, blocks and first words. All else is in `marked_parts`.
pub record EndsMarking (heap : HeapParts) (store : Store) (s : PartsStandFor heap store) (saved : ℕ → Bool) (memory : Memory) (old_blocks : Old) : Type 0 where
  pub waiting : List ℕ
  pub words : EndsWords heap.setup.types heap.setup.settings.page heap.memory memory old_blocks (home_in heap) s.places s.name (is_white store) waiting
  pub heads : EndsHeads (word_at memory.blocks) (word_in heap) (home_in heap) (is_condemned store saved) s.name s.places
  pub arena : memory.arena_words ≡ heap.memory.arena_words
  pub small : greatest_small old_blocks ≡ greatest_small heap.old_blocks

map-none : {X : Type 0} (f : ℕ → X) (ps : List ℕ) → [] ≡ map f ps → ps ≡ []
map-none f [] e = refl
map-none f (p ∷ ps) e = absurd (let no : ⊥ = cc in no)

module _ (heap : HeapParts) (store : Store) (s : PartsStandFor heap store) (pinned : AreAllPinned store) (marking : heap.phase ≡ Marking) (marked : IsMarked store)
    (saved : ℕ → Bool) (tells : Tells saved (IsSaved store)) (chosen : ℕ → Bool) (tells_chosen : Tells chosen (IsChosen store))
    (memory : Memory) (old_blocks : Old) (e : EndsMarking heap store s saved memory old_blocks) where
  abbrev settings : Settings
  settings = heap.setup.settings

  abbrev gone : ℕ → Bool
  gone = is_condemned store saved

  abbrev after : Store
  after = after_marking heap.setup.settings store saved chosen

  abbrev pub after_parts : HeapParts
  after_parts = marked_parts heap memory old_blocks (λ p. is_condemned store saved (s.name p)) (λ p. chosen (s.name p))
      (map (husk_at heap.setup.types (word_in heap)) (losing (is_condemned store saved) s.name s.places)) (with_chosen_births heap.finals chosen)

  store-marking : store.phase ≡ Marking
  store-marking = s.counts.phase_is ∙ marking

  store-phase : IsPhaseSound Marking settings.sweep store
  store-phase = subst (λ (p : Phase). IsPhaseSound p settings.sweep store) store-marking s.sound.phase

  no-husks : store.husks ≡ []
  no-husks = store-phase.0

  no-places : s.husks ≡ []
  no-places = map-none _ s.husks (sym no-husks ∙ s.words.husk.reads)

  words-before : HoldsWords heap.setup.types settings.page heap.memory heap.nursery heap.old_blocks (home_in heap) heap.weaks [] store.kept [] s.places [] s.waiting s.name
  words-before = subst (λ (hs : List ℕ). HoldsWords heap.setup.types settings.page heap.memory heap.nursery heap.old_blocks (home_in heap) heap.weaks [] store.kept [] s.places hs s.waiting s.name) no-places
      (subst (λ (st : List (ℕ × ℕ)). HoldsWords heap.setup.types settings.page heap.memory heap.nursery heap.old_blocks (home_in heap) heap.weaks [] store.kept st s.places s.husks s.waiting s.name) no-husks s.words)

  small-nursery : heap.nursery.words ≤ 1048576
  small-nursery = omega (arith, s.made.words, s.made.ranges.1)

  young-stay : (p : ℕ) → IsTrue (is_in p (young_places s.places)) → gone (s.name p) ≡ false
  young-stay p t =
      let part = young-is_in s.places p t in
      unsettled_stays settings store s.sound pinned marked saved tells (s.name p) (settled_place heap store s p part.0 ∙ ap not part.1)

  stays : (x y : ℕ) → gone x ≡ false → IsTrue (is_in y (referents_in (object_at store.kept x))) → gone y ≡ false
  stays = stays_refers settings store s.sound pinned marked saved tells

  roots-stay : (x : ℕ) → IsTrue (is_in x (roots_of store)) → gone x ≡ false
  roots-stay = root_stays settings store s.sound pinned marked saved tells

  rooted-pins : (x : ℕ) → IsTrue (is_in x (pinned_births store)) → IsTrue (is_in x (roots_of store))
  rooted-pins x t = in-right x (filter_map (λ slot. slot) store.slots) _ (in-left x (pinned_births store) _ t)

  rooted-chosen : (x : ℕ) → IsTrue (is_in x (map (λ (entry : ℕ × ℕ). entry.0) store.chosen)) → IsTrue (is_in x (roots_of store))
  rooted-chosen x t = in-right x (filter_map (λ slot. slot) store.slots) _ (in-right x (pinned_births store) _ (in-left x (map (λ (entry : ℕ × ℕ). entry.0) store.chosen) _ t))

  rooted-queued : (x : ℕ) → IsTrue (is_in x (flat_map (λ (entry : ℕ × List ℕ). entry.1) store.queues)) → IsTrue (is_in x (roots_of store))
  rooted-queued x t = in-right x (filter_map (λ slot. slot) store.slots) _ (in-right x (pinned_births store) _ (in-right x (map (λ (entry : ℕ × ℕ). entry.0) store.chosen) _
      (in-left x (flat_map (λ (entry : ℕ × List ℕ). entry.1) store.queues) _ t)))

  words-after : HoldsWords heap.setup.types settings.page memory heap.nursery old_blocks (home_in heap) (filter (λ p. not (gone (s.name p))) heap.weaks) [] after.kept
      (map (λ o. (o.birth, words_of o)) (objects_where store.kept gone)) (staying gone s.name s.places) (losing gone s.name s.places) e.waiting s.name
  words-after = end_words (is_white store) gone words-before e.words young-stay stays (black_stays settings store s.sound pinned marked saved tells) small-nursery

  husks-are : after.husks ≡ map (λ o. (o.birth, words_of o)) (objects_where store.kept gone)
  husks-are = ap (λ (hs : List (ℕ × ℕ)). hs ++ map (λ (o : Object). (o.birth, words_of o)) (objects_where store.kept gone)) no-husks

  births-after : HoldsBirths (staying gone s.name s.places) s.name after.settled heap.next
  births-after = end_births gone store.settled heap.next young-stay words-before.objects s.births

  unvisited : (p : ℕ) → IsTrue (is_in p (old_places s.places)) → gone (s.name p) ≡ true → has_flag (word_in heap p) Visited ≡ false
  unvisited p t lost =
      let marked_by : has_flag (word_in heap p) Visited ≡ is_in (s.name p) store.visited =
      s.visited.each p t ∙ ap (λ (ph : Phase). is_marked ph store.visited s.name settings.page s.waiting p) marking in
      let white : is_white store (s.name p) ≡ true = and_first (is_white store (s.name p)) (not (saved (s.name p))) lost in
      marked_by ∙ not-true (is_in (s.name p) store.visited) (and_second (is_settled store.settled (s.name p)) (not (is_in (s.name p) store.visited)) white)

  v : ℕ → ℕ
  v = word_at memory.blocks

  w : ℕ → ℕ
  w = word_in heap

  abbrev types : Table TypeInfo
  types = heap.setup.types

  low : 0 < settings.sweep
  low = omega (arith, s.made.ranges.2.2.2.2.2.0)

  few : length store.kept + 1 ≤ store.next
  few =
      let births = rise-count (map s.name s.places) 1 heap.next s.births.rise in
      let named = length-map s.places s.name in
      let read = ap (length {A = Object}) s.words.objects.reads ∙ length-map s.places _ in
      omega (arith, births, named, read, s.counts.next_is)

  husk-sum : husk_words after.husks ≡ sum_by (words_at types (word_in heap)) (losing gone s.name s.places)
  husk-sum = ap husk_words (husks-are ∙ words-after.husk.reads) ∙ (sum_map (λ k. k) types (word_at memory.blocks) (losing gone s.name s.places)
      ∙ sum-same types (word_at memory.blocks) (word_in heap) (losing gone s.name s.places) (λ p t. e.words.clears.layouts p (filter-part (λ q. gone (s.name q)) s.places p t).0))

  old-sum : settled_words after.kept after.settled ≡ sum_by (words_at types (word_in heap)) (staying gone s.name (old_places s.places))
  old-sum = (placed_words after.settled words-after.objects births-after.settled_are).settled_are
      ∙ (sum-same types (word_at memory.blocks) (word_in heap) (old_places (staying gone s.name s.places))
      (λ p t. e.words.clears.layouts p (filter-part (λ q. not (gone (s.name q))) s.places p (old-is_in (staying gone s.name s.places) p t).0).0)
      ∙ ap (sum_by (words_at types (word_in heap))) (old_staying gone s.name s.places young-stay))

  -- the husks by rising birth, as the words before tell them
  husks-listed : HoldsHuskList (map (husk_at types (word_in heap)) (losing gone s.name s.places)) after.husks
  husks-listed = record {
    are = husks-are ∙ (words-after.husk.reads ∙ map-same (husk_at types (word_at memory.blocks)) (husk_at types (word_in heap)) (losing gone s.name s.places)
        (λ p t. let keeps = e.words.clears.layouts p (filter-part (λ q. gone (s.name q)) s.places p t).0 in ap₂ (λ (b : ℕ) (l : Layout). (b, l.words)) keeps.birth_stays keeps.layout_stays));
    rise = keys_rise (map (husk_at types (word_in heap)) (losing gone s.name s.places)) 1 heap.next
        (subst (λ (births : List ℕ). RiseBetween 1 births heap.next) (sym births) (rise_filtered s.name (λ p. gone (s.name p)) s.places 1 heap.next s.births.rise));
  }
    where
      births : map (λ (h : ℕ × ℕ). h.0) (map (husk_at types (word_in heap)) (losing gone s.name s.places)) ≡ map s.name (losing gone s.name s.places)
      births = map-map (λ (h : ℕ × ℕ). h.0) (husk_at types (word_in heap)) (losing gone s.name s.places)
          ∙ map-same (λ p. word_in heap (p + 1)) s.name (losing gone s.name s.places) (λ p t. sym (s.words.objects.named p (filter-part (λ q. gone (s.name q)) s.places p t).0))

  sums-old : heap.old_words ≡ settled_words after.kept after.settled + husk_words after.husks
  sums-old =
      let before = (placed_words store.settled s.words.objects s.births.settled_are).settled_are in
      let none : husk_words store.husks ≡ 0 = ap husk_words no-husks in
      let split = sum_split (words_at types (word_in heap)) (λ p. gone (s.name p)) (old_places s.places) in
      let lost = ap (sum_by (words_at types (word_in heap))) (losing_old gone s.name s.places young-stay) in
      omega (arith, s.sums.old_are, before, none, split, lost, husk-sum, old-sum)

  sums-young : heap.unsettled ≡ unsettled_words after.kept after.settled
  sums-young =
      let before = (placed_words store.settled s.words.objects s.births.settled_are).unsettled in
      let later = (placed_words after.settled words-after.objects births-after.settled_are).unsettled in
      let same = sum-same types (word_at memory.blocks) (word_in heap) (young_places (staying gone s.name s.places))
      (λ p t. e.words.clears.layouts p (filter-part (λ q. not (gone (s.name q))) s.places p (young-is_in (staying gone s.name s.places) p t).0).0) in
      let places = ap (sum_by (words_at types (word_in heap))) (young_staying gone s.name s.places young-stay) in
      s.sums.unsettled_are ∙ (before ∙ sym (later ∙ (same ∙ places)))

  units : (length e.waiting ≤ after.left * settings.sweep) × (0 < after.left)
  units =
      let none : length store.husks ≡ 0 = ap (length {A = ℕ × ℕ}) no-husks in
      let read : length store.kept ≡ length s.places = ap (length {A = Object}) s.words.objects.reads ∙ length-map s.places _ in
      let blocks = blocks_few types (word_in heap) (home_in heap) s.places in
      let most = e.words.most in
      let enough = units-few (length store.kept + length store.husks) settings.sweep low in
      let all : length e.waiting ≤ length store.kept + length store.husks = omega (arith, none, read, blocks, most) in
      (above (length e.waiting) (length store.kept + length store.husks) _ all enough, omega arith)
    where
      above : (a b c : ℕ) → a ≤ b → b ≤ c → a ≤ c
      above a b c l m = omega (arith, l, m)

  pub end_stands : AreLinksSound after.kept after.structs after.dead → PartsStandFor after_parts after
  end_stands links = record {
    places = staying gone s.name s.places;
    name = s.name;
    husks = losing gone s.name s.places;
    waiting = e.waiting;
    words = subst (λ (st : List (ℕ × ℕ)). HoldsWords heap.setup.types settings.page memory heap.nursery old_blocks (home_in heap) (filter (λ p. not (gone (s.name p))) heap.weaks) [] after.kept
        st (staying gone s.name s.places) (losing gone s.name s.places) e.waiting s.name) (sym husks-are) words-after;
    headers = end_headers young-stay e.heads unvisited (subst (λ (hs : List ℕ). HoldsHeaders (word_in heap) (home_in heap) s.places hs) no-places s.headers);
    young_flags = end_young_flags young-stay e.heads heap.pins s.young_flags;
    visited = end_visited young-stay e.heads settings.page e.waiting s.name (end_waits (is_white store) gone words-before e.words young-stay stays (black_stays settings store s.sound pinned marked saved tells) small-nursery);
    remembered = end_remembered young-stay e.heads heap.setup.types settings.card heap.remembered e.words.clears.layouts s.remembered;
    births = births-after;
    slots = end_slots gone heap.slots s.places s.name settings.roots store.slots (λ x t. roots-stay x (in-left x (filter_map (λ slot. slot) store.slots) _ t)) s.slots;
    pins = record { named = s.pins.named; there = subst (λ (ps : List ℕ). AreAmong ps (map (λ (entry : ℕ × ℕ). entry.0) heap.pins)) (sym (young_staying gone s.name s.places young-stay)) s.pins.there };
    finalizers = record {
      registered_are = end_entries gone (λ x. not (chosen x)) heap.registered s.places s.name store.registered (registered_stays settings store s.sound pinned marked saved tells) s.finalizers.registered_are;
      chosen_are = entries_both heap.chosen (filter (λ entry. chosen (s.name entry.0)) heap.registered) (staying gone s.name s.places) s.name store.chosen (filter (λ entry. chosen entry.0) store.registered)
          (entries_stay gone heap.chosen s.places s.name store.chosen (λ x t. roots-stay x (rooted-chosen x t)) s.finalizers.chosen_are)
          (end_entries gone chosen heap.registered s.places s.name store.registered (registered_stays settings store s.sound pinned marked saved tells) s.finalizers.registered_are);
      queues_are = end_queues gone heap.queues s.places s.name store.queues (λ x t. roots-stay x (rooted-queued x t)) s.finalizers.queues_are;
      births_are = ap (λ (f : NamedFinals). with_chosen_births f chosen) s.finalizers.births_are;
    };
    links = end_links gone heap.links s.places s.name store.structs store.dead s.sound.links.rises s.links;
    homes = end_homes gone (home_in heap) s.places s.name store.homes young-stay (subst (λ (hs : List ℕ). HoldsHomes (home_in heap) s.places hs s.name store.homes) no-places s.homes);
    gray = λ p t. absurd (is_in-nil p t);
    gray_phase = refl;
    sums = record { unsettled_are = sums-young; old_are = sums-old; fresh_old = s.sums.fresh_old; within = s.sums.within };
    husk_list = husks-listed;
    counts = record {
      next_is = s.counts.next_is;
      threshold_is = s.counts.threshold_is;
      threshold_low = s.counts.threshold_low;
      threshold_high = s.counts.threshold_high;
      fresh_is = s.counts.fresh_is;
      phase_is = refl;
      gapped_is = s.counts.gapped_is;
    };
    ungapped = s.ungapped;
    units = units;
    made = record {
      ranges = s.made.ranges;
      words = s.made.words;
      pins = s.made.pins;
      card = s.made.card;
      arena = e.arena ∙ s.made.arena;
      small = e.small ∙ s.made.small;
      page = e.words.page_is;
    };
    order = end_order (is_white store) gone s.name store.kept store.settled after.settled store.visited (map s.name heap.gray) store.unreached heap.remembered
        (λ x t. let was = settled_before settings store s.sound pinned marked saved tells chosen tells_chosen store-marking low few x t in (was.0, was.1.0))
        (settled_now settings store s.sound pinned marked saved tells chosen tells_chosen store-marking low few) stays s.order;
    sound = end_sound settings store s.sound pinned marked saved tells chosen tells_chosen store-marking low few links;
  }

-- the same, with nothing left open: links are sound after the cut
pub end_of_marking : (heap : HeapParts) (store : Store) (s : PartsStandFor heap store) (pinned : AreAllPinned store) (marking : heap.phase ≡ Marking) (marked : IsMarked store)
    → (saved : ℕ → Bool) (tells : Tells saved (IsSaved store)) (chosen : ℕ → Bool) → Tells chosen (IsChosen store)
    → (memory : Memory) (old_blocks : Old) → EndsMarking heap store s saved memory old_blocks
    → PartsStandFor (marked_parts heap memory old_blocks (λ p. is_condemned store saved (s.name p)) (λ p. chosen (s.name p))
    (map (husk_at heap.setup.types (word_in heap)) (losing (is_condemned store saved) s.name s.places)) (with_chosen_births heap.finals chosen))
    (after_marking heap.setup.settings store saved chosen)
end_of_marking heap store s pinned marking marked saved tells chosen tells_chosen memory old_blocks e =
    end_stands heap store s pinned marking marked saved tells chosen tells_chosen memory old_blocks e
    (cut_sound (is_condemned store saved) store.kept (left_objects (is_white store) (is_condemned store saved) store.kept) store.structs store.dead
    (λ x stays k. kept_left (is_white store) (is_condemned store saved) x store.kept stays ∙ k) s.sound.links)
