-- What the calls at the end of marking ask for, and the words of the new husks.
use Rattle.std.proofs.Common.{◌≡◌, ℕ, ◌<◌, ◌^◌, Bool, IsTrue, List, [], ◌++◌, map, sym, ap, ◌∙◌, subst, arith, inl, inr}
use Rattle.std.specs.Prelude.{IsSome, sum_by}
use Rattle.std.proofs.lemmas.Bool.{cases_Bool}
use Rattle.type_table.specs.declared.info.TypeInfo.{TypeInfo}
use Rattle.type_table.specs.Table.{Table, value_at}
use Rattle.heap_space.specs.Places.{word_at, lies_in_one}
use Rattle.heap_space.specs.Memory.{Memory}
use Rattle.heap_space.specs.Extents.{Extent}
use Rattle.heap_space.proofs.ExtentLaws.{Each-join}
use Rattle.object_header.specs.Words.{IsHeader, has_flag}
use Rattle.object_header.specs.declared.flags.Flag.TheVariants.{Free, Visited}
use Rattle.object_header.proofs.WordLaws.{IsHeader-with_flag}
use Rattle.object_model.specs.Layout.{Layout}
use Rattle.object_model.specs.Sets.{is_in}
use Rattle.object_model.specs.ObjectWords.{words_at}
use Rattle.object_view.specs.Views.{HasObject}
use Rattle.old_space.specs.Calls.{NoneWaits}
use Rattle.old_space.specs.HasBlocks.{IsBlock}
use Rattle.old_space.specs.Headers.{HasHeaders, StandsWithHeaders}
use Rattle.old_space.specs.declared.Old.{Old}
use Rattle.old_space.proofs.JoinLaws.{HasBlocks-blocks}
use Rattle.size_pages.specs.Headers.{IsHeaded, RiseByPlace}
use Rattle.text_model.specs.declared.line.Line.{Line}
use Rattle.text_model.specs.declared.line.Line.TheVariants.{Kept, Destroyed}
use Rattle.text_model.specs.declared.line.Phase.{Phase}
use Rattle.text_model.specs.declared.line.Phase.TheVariants.{Marking}
use Rattle.store_model.specs.Store.{Store, husk_words}
use Rattle.store_model.specs.Sound.{IsPhaseSound}
use Rattle.store_model.specs.Marking.{IsMarked, is_white, is_condemned}
use Rattle.store_model.proofs.TestsExist.{saved_test}
use Rattle.heap_parts.specs.Parts.{HeapParts, word_in, home_in}
use Rattle.heap_parts.specs.Places.{block_at, young_places, old_places}
use Rattle.heap_parts.specs.StandsFor.{PartsStandFor}
use Rattle.heap_parts.specs.Collects.{AreAllPinned}
use Rattle.heap_parts.proofs.BlockLaws.{each-member}
use Rattle.frame_laws.proofs.Members.{each-left}
use Rattle.frame_laws.proofs.PlaceLaws.{placed_words}
use Rattle.heap_phases.specs.Steps.{CountsHusks}
use Rattle.heap_phases.specs.Ending.{CanEnd, EndsMajor, ClearsWeaks, AreDead, AreDestroyed, AreHusks, BecomesHusks, HoldObjects, without_places, places_in, cut_lines}
use Rattle.heap_phases.proofs.DeadCalls.{each_permuted}
use Rattle.heap_phases.proofs.DeadPlaces.{dead_blocks, lost_part, dead_words, husks_are, young_stay, first_kind, type_stays}
use Rattle.heap_phases.proofs.EndCalls.{MarksEnd, marking_blocks}
use Rattle.heap_phases.proofs.EndCode.{ClearsWords, clears, clears_targets}
use Rattle.heap_phases.proofs.EndHeaders.{settled_marked}
use Rattle.heap_phases.proofs.EndMajor.{ChosenFor, ends_major}
use Rattle.heap_phases.proofs.EndStands.{sum_map, sum_split}
use Rattle.heap_phases.proofs.EndWords.{losing, losing_old, lost_old}
use Rattle.heap_phases.proofs.SweepWords.{each-of-places, each-of-homes}

-- first words are headers still
module _ (heap : HeapParts) (store : Store) (s : PartsStandFor heap store) (saved : ℕ → Bool) (m : Memory) (marks : MarksEnd heap store s saved m) where
  abbrev w : ℕ → ℕ
  w = word_in heap

  old-headed : (p : ℕ) → IsTrue (is_in p (old_places s.places)) → IsHeaded m (block_at heap.setup.types (word_in heap) p)
  old-headed p t = elim (cases_Bool (is_condemned store saved (s.name p))) [
    | inl e ↦ let k = (s.headers.settled.each p t).live in let same = marks.heads.lost p t e in
        record { header = subst IsHeader (sym same) k.header; live = ap (λ (x : ℕ). has_flag x Free) same ∙ k.not_free }
    | inr e ↦ let k = (settled_marked (w p) (s.headers.settled.each p t)).live in let same = marks.heads.marked p t e in
        record { header = subst IsHeader (sym same) k.header; live = ap (λ (x : ℕ). has_flag x Free) same ∙ k.not_free }
  ]

  pub ends_headed : HasHeaders heap.old_blocks m (marking_blocks heap store s) []
  ends_headed = record {
    blocks = marks.blocks;
    headed = Each-join (IsHeaded m) (map (block_at heap.setup.types (word_in heap)) (old_places s.places)) _
        (each-of-places (IsHeaded m) (block_at heap.setup.types (word_in heap)) (old_places s.places) old-headed)
        (each-of-homes (IsHeaded m) heap.setup.types w (home_in heap) (young_places s.places) (λ a n t. let k = (s.headers.shadow.each a t).live in let same = marks.heads.shadow a t in
        record { header = subst IsHeader (sym same) k.header; live = ap (λ (x : ℕ). has_flag x Free) same ∙ k.not_free }));
  }

-- What is known in the middle of the end of marking: some were chosen, and the dead are listed.
pub record Listed (heap one : HeapParts) (kept : List ℕ) (dead : List Extent) : Type 0 where
  pub can : CanEnd heap
  pub chosen : ChosenFor heap one kept
  pub dead_are : (live : List Extent) → HasHeaders heap.old_blocks one.memory live [] → AreDead one.memory live dead

pub same_old : (heap one : HeapParts) (kept : List ℕ) → ChosenFor heap one kept → one.old_blocks ≡ heap.old_blocks
same_old heap one kept ch = ap (λ (h : HeapParts). h.old_blocks) ch.rest

pub may_list : (heap one : HeapParts) (kept : List ℕ) → CanEnd heap → ChosenFor heap one kept → StandsWithHeaders one.old_blocks one.memory
may_list heap one kept can ch = subst (λ (o : Old). StandsWithHeaders o one.memory) (sym (same_old heap one kept ch))
    (record { live = marking_blocks heap can.store can.stands; waiting = []; has = ends_headed heap can.store can.stands _ one.memory (ch.marks can.store can.stands can.pinned can.marked) })

pub is_listed : (heap one : HeapParts) (kept : List ℕ) (dead : List Extent) → CanEnd heap → ChosenFor heap one kept
    → ((live : List Extent) (waiting : List ℕ) → HasHeaders one.old_blocks one.memory live waiting → AreDead one.memory live dead) → Listed heap one kept dead
is_listed heap one kept dead can ch dead_are = record {
  can = can;
  chosen = ch;
  dead_are = λ live has. dead_are live [] (subst (λ (o : Old). HasHeaders o one.memory live []) (sym (same_old heap one kept ch)) has);
}

module _ (heap one : HeapParts) (kept : List ℕ) (dead : List Extent) (l : Listed heap one kept dead) where
  abbrev saved : ℕ → Bool
  saved = (saved_test heap.setup.settings l.can.store l.can.stands.sound).test

  abbrev lost : List ℕ
  lost = losing (is_condemned l.can.store saved) l.can.stands.name l.can.stands.places

  marks : MarksEnd heap l.can.store l.can.stands saved one.memory
  marks = l.chosen.marks l.can.store l.can.stands l.can.pinned l.can.marked

  pub dead_of : (store : Store) (s : PartsStandFor heap store) → AreAllPinned store → IsMarked store → AreDead one.memory (marking_blocks heap store s) dead
  dead_of store s pinned marked = l.dead_are (marking_blocks heap store s) (ends_headed heap store s _ one.memory (l.chosen.marks store s pinned marked))

  are-dead : AreDead one.memory (marking_blocks heap l.can.store l.can.stands) dead
  are-dead = dead_of l.can.store l.can.stands l.can.pinned l.can.marked

  cleared : ClearsWords heap.setup.types (word_at one.memory.blocks) (word_in heap) l.can.stands.places (clears heap.setup.types (word_in heap) l.can.stands.name (is_white l.can.store))
  cleared = record {
    types_stay = type_stays heap l.can.store l.can.stands l.can.marking one.memory saved marks dead are-dead;
    headers = λ p t. let few = l.can.stands.words.objects.header p t in elim (first_kind heap l.can.store l.can.stands l.can.marking one.memory saved marks dead are-dead p t) [
      | inl e ↦ subst (λ (k : ℕ). k < 67108864) (sym e) few
      | inr e ↦ subst (λ (k : ℕ). k < 67108864) (sym e) (IsHeader-with_flag (word_in heap p) Visited few)
    ];
    words = marks.words;
  }

  -- each that is lost is whole still
  object-stays : (p : ℕ) → IsTrue (is_in p lost) → HasObject one.memory heap.setup.types p
  object-stays p t =
      let s = l.can.stands in
      let there = (lost_part heap l.can.store s l.can.marking one.memory saved marks dead are-dead p t).0 in
      let old = lost_old (is_condemned l.can.store saved) s.name s.places (young_stay heap l.can.store s l.can.marking one.memory saved marks dead are-dead) p t in
      let keeps = (clears_targets s.name (is_white l.can.store) cleared).layouts p there in
      let block : IsBlock one.memory (p, words_at heap.setup.types (word_in heap) p) = each-member (IsBlock one.memory) (block_at heap.setup.types (word_in heap)) (old_places s.places) p
      (each-left (IsBlock one.memory) (map (block_at heap.setup.types (word_in heap)) (old_places s.places)) _ (HasBlocks-blocks heap.old_blocks one.memory _ [] marks.blocks)) old in
      record {
        typed = subst (λ (id : ℕ). IsSome (value_at heap.setup.types id)) (sym keeps.type_stays) (s.words.whole p there).typed;
        whole = subst (λ (n : ℕ). IsTrue (lies_in_one one.memory.blocks p n)) (sym (ap (λ (x : Layout). x.words) keeps.layout_stays)) block.lies;
      }

  types-stay : one.setup.types ≡ heap.setup.types
  types-stay = ap (λ (h : HeapParts). h.setup.types) l.chosen.rest

  pub listed_objects : HoldObjects one.memory one.setup.types dead
  listed_objects = subst (λ (types : Table TypeInfo). HoldObjects one.memory types dead) (sym types-stay)
      (each_permuted (λ x. HasObject one.memory heap.setup.types x.0) (map (block_at heap.setup.types (word_in heap)) lost) dead
      (dead_blocks heap l.can.store l.can.stands l.can.marking one.memory saved marks dead are-dead)
      (each-of-places (λ x. HasObject one.memory heap.setup.types x.0) (block_at heap.setup.types (word_in heap)) lost object-stays))

  pub listed_rise : RiseByPlace dead
  listed_rise = are-dead.rising

  words-lost : sum_by (λ (x : Extent). x.1) dead ≡ sum_by (words_at heap.setup.types (word_in heap)) lost
  words-lost = dead_words heap l.can.store l.can.stands l.can.marking one.memory saved marks dead are-dead

  pub listed_few : sum_by (λ (x : Extent). x.1) dead < 2 ^ 64
  listed_few =
      let s = l.can.stands in let high = s.made.ranges.2.2.1 in
      let old = (placed_words l.can.store.settled s.words.objects s.births.settled_are).settled_are in
      let split = sum_split (words_at heap.setup.types (word_in heap)) (λ p. is_condemned l.can.store saved (s.name p)) (old_places s.places) in
      let part : sum_by (words_at heap.setup.types (word_in heap)) (losing (is_condemned l.can.store saved) s.name (old_places s.places)) ≡ sum_by (words_at heap.setup.types (word_in heap)) lost =
      ap (sum_by (words_at heap.setup.types (word_in heap))) (losing_old (is_condemned l.can.store saved) s.name s.places (young_stay heap l.can.store s l.can.marking one.memory saved marks dead are-dead)) in
      omega (arith, words-lost, old, split, part, s.sums.old_are, s.sums.within, high)

  module _ (two : HeapParts) (dropped : two ≡ without_places one (places_in dead)) where
    pub dropped_objects : HoldObjects two.memory two.setup.types dead
    dropped_objects = subst (λ (h : HeapParts). HoldObjects h.memory h.setup.types dead) (sym dropped) listed_objects

    pub dropped_waits : NoneWaits two.old_blocks two.memory
    dropped_waits = subst (λ (h : HeapParts). NoneWaits h.old_blocks h.memory) (sym dropped)
        (subst (λ (o : Old). NoneWaits o one.memory) (sym (same_old heap one kept l.chosen)) (record { live = marking_blocks heap l.can.store l.can.stands; blocks = marks.blocks }))

    module _ (three : HeapParts) (becomes : BecomesHusks two three dead) where
      pub becomes_counted : (words : ℕ) → words ≡ sum_by (λ (x : Extent). x.1) dead → CountsHusks heap three (record { husk_words = words; freed_words = 0 })
      becomes_counted words e =
          let s = l.can.stands in
          let phase : IsPhaseSound Marking heap.setup.settings.sweep l.can.store = subst (λ (ph : Phase). IsPhaseSound ph heap.setup.settings.sweep l.can.store) (s.counts.phase_is ∙ l.can.marking) s.sound.phase in
          let before : husk_words heap.husk_list ≡ 0 = ap husk_words (sym s.husk_list.are ∙ phase.0) in
          let husks : AreHusks one.memory dead three.husk_list = subst (λ (k : Memory). AreHusks k dead three.husk_list) (ap (λ (h : HeapParts). h.memory) dropped) becomes.husks in
          let after : husk_words three.husk_list ≡ sum_by (words_at heap.setup.types (word_in heap)) lost =
          ap husk_words (husks_are heap l.can.store s l.can.marking one.memory saved marks dead are-dead three.husk_list husks) ∙ sum_map (λ k. k) heap.setup.types (word_in heap) lost in
          let same : three.old_words ≡ heap.old_words = ap (λ (h : HeapParts). h.old_words) becomes.rest ∙ (ap (λ (h : HeapParts). h.old_words) dropped ∙ ap (λ (h : HeapParts). h.old_words) l.chosen.rest) in
          record { husks = omega (arith, before, after, words-lost, e); old_words = omega (arith, same) }

      pub becomes_major : (zero : HeapParts) (before told0 told1 told2 told3 : List Line) (births : List ℕ) → ClearsWeaks heap zero before told0 → told1 ≡ told0 ++ map (λ b. Kept b) kept
          → AreDestroyed one.setup.types one.memory dead births → told2 ≡ told1 ++ map (λ b. Destroyed b) births
          → told3 ≡ told2 ++ cut_lines one (places_in dead) → EndsMajor heap three before told3
      becomes_major zero before told0 told1 told2 told3 births c d destroyed e f =
          ends_major heap l.can.marking l.can.gray zero one two three dead before told0 told1 told2 told3 kept births c l.chosen d dead_of
          (subst (λ (types : Table TypeInfo). AreDestroyed types one.memory dead births) types-stay destroyed) e dropped f becomes
