-- The end of marking, as the code does it.
use Rattle.std.proofs.Common.{◌≡◌, ℕ, Bool, IsTrue, List, [], ◌++◌, map, append_assoc, sym, ap, ap₂, ◌∙◌, subst}
use Rattle.std.specs.Prelude.{not, filter, ◌&&◌, option_and_then, Some}
use Rattle.type_table.specs.Table.{Table, KeysRise, value_at}
use Rattle.heap_space.specs.Memory.{Memory}
use Rattle.heap_space.specs.Extents.{Extent}
use Rattle.object_model.specs.Sets.{is_in}
use Rattle.old_space.specs.declared.Old.{Old}
use Rattle.old_space.specs.HasBlocks.{HasBlocks, greatest_small}
use Rattle.heap_space.specs.Extents.{KeepsWords, KeepsOutside}
use Rattle.store_model.specs.Structs.{object_of}
use Rattle.text_model.specs.declared.line.Line.{Line}
use Rattle.text_model.specs.declared.line.Line.TheVariants.{Cleared, Kept, Destroyed, LinkCut}
use Rattle.text_model.specs.declared.line.LinkEnd.{LinkEnd}
use Rattle.text_model.specs.declared.line.Phase.TheVariants.{Marking, Sweeping}
use Rattle.store_model.specs.Store.{Store}
use Rattle.store_model.specs.Links.{link_ends}
use Rattle.store_model.specs.Marking.{IsMarked, is_white, is_condemned}
use Rattle.store_model.proofs.TestsExist.{saved_test}
use Rattle.store_model.proofs.ChosenTest.{found_births}
use Rattle.heap_parts.specs.NamedFinals.{NamedFinals}
use Rattle.heap_parts.specs.Parts.{HeapParts, word_in}
use Rattle.heap_parts.specs.OldSpace.{husk_at}
use Rattle.heap_parts.specs.StandsFor.{PartsStandFor}
use Rattle.heap_parts.specs.Collects.{AreAllPinned}
use Rattle.birth_laws.proofs.BirthNames.{rises-unnamed}
use Rattle.frame_laws.proofs.PlaceLaws.{old-is_in}
use Rattle.heap_phases.specs.EndOfMarking.{marked_parts, with_chosen_births}
use Rattle.heap_phases.specs.Ending.{EndsMajor, ClearsWeaks, AreDead, AreDestroyed, AreHusks, BecomesHusks, places_in, without_places, cut_lines}
use Rattle.heap_phases.proofs.ClearCalls.{weak_there}
use Rattle.heap_phases.proofs.DeadPlaces.{dead_tells, destroyed_sorted, husks_are}
use Rattle.heap_phases.proofs.EndCalls.{MarksEnd, BeganSweep, marking_blocks}
use Rattle.heap_phases.proofs.EndLines.{TellsEnd, SortsBirths}
use Rattle.heap_phases.proofs.WeakOnce.{cleared_sorted}
use Rattle.heap_phases.proofs.EndWords.{losing}
use Rattle.heap_phases.proofs.MajorSteps.{EndsTo, ends}
use Rattle.heap_phases.proofs.PartsAgree.{parts_agree, ends_same}
use Rattle.old_space.specs.HasBlocks.{page_size}

-- What clearing the targets and choosing leave, for every store that the parts stand for: these births are kept for finalizers.
pub record ChosenFor (heap one : HeapParts) (kept : List ℕ) : Type 0 where
  pub taken : ℕ → Bool
  pub rest : one ≡ record heap {
    memory = one.memory;
    registered = filter (λ e. not (taken e.0)) heap.registered;
    chosen = heap.chosen ++ filter (λ e. taken e.0) heap.registered;
    finals = one.finals;
  }
  pub marks : (store : Store) (s : PartsStandFor heap store) → AreAllPinned store → IsMarked store → MarksEnd heap store s (saved_test heap.setup.settings store s.sound).test one.memory
  pub takes : (store : Store) (s : PartsStandFor heap store) → AreAllPinned store → IsMarked store
      → (p : ℕ) → IsTrue (is_in p (map (λ e. e.0) heap.registered)) → taken p ≡ is_in (s.name p) (found_births store)
  pub births : (store : Store) → PartsStandFor heap store → AreAllPinned store → IsMarked store → one.finals ≡ with_chosen_births heap.finals (λ x. is_in x (found_births store))
  pub kept_are : (store : Store) (s : PartsStandFor heap store) → AreAllPinned store → IsMarked store
      → SortsBirths (word_in heap) (filter (λ p. is_white store (s.name p) && (saved_test heap.setup.settings store s.sound).test (s.name p)) s.places) kept

module _ (heap : HeapParts) (marking : heap.phase ≡ Marking) (gray : heap.gray ≡ []) (zero one two three : HeapParts) (dead : List Extent)
    (before told0 told1 told2 told3 : List Line) (kept births : List ℕ)
    (c : ClearsWeaks heap zero before told0)
    (ch : ChosenFor heap one kept) (told1_is : told1 ≡ told0 ++ map (λ b. Kept b) kept)
    (listed : (store : Store) (s : PartsStandFor heap store) → AreAllPinned store → IsMarked store → AreDead one.memory (marking_blocks heap store s) dead)
    (destroyed : AreDestroyed heap.setup.types one.memory dead births) (told2_is : told2 ≡ told1 ++ map (λ b. Destroyed b) births)
    (dropped : two ≡ without_places one (places_in dead)) (told3_is : told3 ≡ told2 ++ cut_lines one (places_in dead))
    (becomes : BecomesHusks two three dead) where
  abbrev gone_places : ℕ → Bool
  gone_places p = is_in p (places_in dead)

  abbrev parts_of : HeapParts
  parts_of = record heap {
    memory = one.memory;
    registered = filter (λ e. not (ch.taken e.0)) heap.registered;
    chosen = heap.chosen ++ filter (λ e. ch.taken e.0) heap.registered;
    finals = one.finals;
  }

  two-is : two ≡ without_places parts_of (places_in dead)
  two-is = dropped ∙ ap (λ (h : HeapParts). without_places h (places_in dead)) ch.rest

  -- the parts that the code leaves
  left-parts : three ≡ marked_parts heap three.memory three.old_blocks gone_places ch.taken three.husk_list one.finals
  left-parts =
      becomes.rest ∙ (ap (λ (h : HeapParts). record h { memory = three.memory; old_blocks = three.old_blocks; husk_list = three.husk_list; phase = Sweeping }) two-is
      ∙ ap (λ (gs : List ℕ). record (marked_parts heap three.memory three.old_blocks gone_places ch.taken three.husk_list one.finals) { gray = gs }) gray)

  abbrev lines : List Line
  lines = map (λ b. Cleared b) c.cleared ++ (map (λ b. Kept b) kept ++ (map (λ b. Destroyed b) births ++ cut_lines one (places_in dead)))

  module _ (store : Store) (s : PartsStandFor heap store) (pinned : AreAllPinned store) (marked : IsMarked store) where
    abbrev saved : ℕ → Bool
    saved = (saved_test heap.setup.settings store s.sound).test

    marks : MarksEnd heap store s saved one.memory
    marks = ch.marks store s pinned marked

    began : BeganSweep heap.old_blocks one.memory three.old_blocks three.memory (marking_blocks heap store s)
    began =
        let memory : two.memory ≡ one.memory = ap (λ (h : HeapParts). h.memory) two-is in
        let old : two.old_blocks ≡ heap.old_blocks = ap (λ (h : HeapParts). h.old_blocks) two-is in
        let has : HasBlocks two.old_blocks two.memory (marking_blocks heap store s) [] =
        subst (λ (o : Old). HasBlocks o two.memory (marking_blocks heap store s) []) (sym old) (subst (λ (k : Memory). HasBlocks heap.old_blocks k (marking_blocks heap store s) []) (sym memory) marks.blocks) in
        let b = becomes.begun (marking_blocks heap store s) has in
        record {
          begun = b.0;
          kept = subst (λ (k : Memory). KeepsWords k three.memory (marking_blocks heap store s)) memory b.1;
          outside = subst (λ (k : Memory). KeepsOutside 4294967296 9223372036854775808 k three.memory) memory becomes.outside;
          arena_words = becomes.arena_words ∙ ap (λ (k : Memory). k.arena_words) memory;
          page = becomes.sizes.page ∙ ap (λ (o : Old). page_size o) old;
          small = becomes.sizes.small ∙ ap (λ (o : Old). greatest_small o) old;
        }

    are-dead : AreDead one.memory (marking_blocks heap store s) dead
    are-dead = listed store s pinned marked

    -- the code's test of what is gone
    agrees : (p : ℕ) → IsTrue (is_in p s.places) → gone_places p ≡ is_condemned store saved (s.name p)
    agrees p t = sym (dead_tells heap store s marking one.memory saved marks dead are-dead p t)

    rises : KeysRise heap.links.structs
    rises = rises-unnamed s.name heap.links.structs (subst KeysRise s.links.named s.sound.links.rises)

    link-agrees : (n p : ℕ) → option_and_then object_of (value_at heap.links.structs n) ≡ Some p → gone_places p ≡ is_condemned store saved (s.name p)
    link-agrees n p e = agrees p (s.links.there n p e)

    tells : TellsEnd heap store s saved lines
    tells = record {
      cleared = c.cleared;
      kept = kept;
      destroyed = births;
      clears_are = cleared_sorted heap store s pinned marked marking c.cleared c.told;
      kept_are = ch.kept_are store s pinned marked;
      destroyed_are = destroyed_sorted heap store s marking one.memory saved marks dead are-dead births destroyed;
      told = ap (λ (ls : List LinkEnd). map (λ b. Cleared b) c.cleared ++ (map (λ b. Kept b) kept ++ (map (λ b. Destroyed b) births ++ map (λ cut. LinkCut cut) ls)))
          (ap (λ (h : HeapParts). link_ends gone_places h.links.structs) ch.rest ∙ ends_same gone_places (λ p. is_condemned store saved (s.name p)) heap.links.structs rises link-agrees);
    }

    ended : EndsTo heap store lines three
    ended =
        let husks = husks_are heap store s marking one.memory saved marks dead are-dead three.husk_list
        (subst (λ (k : Memory). AreHusks k dead three.husk_list) (ap (λ (h : HeapParts). h.memory) two-is) becomes.husks) in
        let same : three ≡ marked_parts heap three.memory three.old_blocks (λ p. is_condemned store saved (s.name p)) (λ p. is_in (s.name p) (found_births store))
        (map (husk_at heap.setup.types (word_in heap)) (losing (is_condemned store saved) s.name s.places)) (with_chosen_births heap.finals (λ x. is_in x (found_births store))) =
        left-parts ∙ (parts_agree heap three.memory three.old_blocks gone_places (λ p. is_condemned store saved (s.name p)) ch.taken (λ p. is_in (s.name p) (found_births store)) three.husk_list one.finals
        (λ p t. agrees p (old-is_in s.places p (s.remembered.there p t)).0)
        (λ p t. agrees p (weak_there heap store s p t).0)
        (ch.takes store s pinned marked)
        rises link-agrees
        ∙ ap₂ (λ (hs : Table ℕ) (fs : NamedFinals). marked_parts heap three.memory three.old_blocks (λ p. is_condemned store saved (s.name p)) (λ p. is_in (s.name p) (found_births store)) hs fs) husks (ch.births store s pinned marked)) in
        subst (λ (h : HeapParts). EndsTo heap store lines h) (sym same) (ends heap store s pinned marking marked lines one.memory three.memory three.old_blocks marks began tells)

  pub ends_major : EndsMajor heap three before told3
  ends_major = record {
    setup = ap (λ (h : HeapParts). h.setup) left-parts;
    lines = lines;
    appended = told3_is ∙ (ap (λ (ls : List Line). ls ++ cut_lines one (places_in dead)) (told2_is ∙ ap (λ (ls : List Line). ls ++ map (λ b. Destroyed b) births) (told1_is ∙ ap (λ (ls : List Line). ls ++ map (λ b. Kept b) kept) c.lines))
        ∙ (append_assoc ((before ++ map (λ b. Cleared b) c.cleared) ++ map (λ b. Kept b) kept) (map (λ b. Destroyed b) births) (cut_lines one (places_in dead))
        ∙ (append_assoc (before ++ map (λ b. Cleared b) c.cleared) (map (λ b. Kept b) kept) (map (λ b. Destroyed b) births ++ cut_lines one (places_in dead))
        ∙ append_assoc before (map (λ b. Cleared b) c.cleared) (map (λ b. Kept b) kept ++ (map (λ b. Destroyed b) births ++ cut_lines one (places_in dead))))));
    ends = λ store s pinned marked. let e = ended store s pinned marked in (e.later, e.step, e.stands);
  }
