-- All steps of a minor collection, joined: a minor collection of the store, and what the code counts is what moved.
use Rattle.std.proofs.Common.{◌≡◌, ℕ, ◌+◌, ◌<◌, ◌⊎◌, false, IsTrue, List, [], ◌∷◌, ◌++◌, map, length, Some, None, nat_eq, refl, sym, ap, ◌∙◌, subst, inl, inr, arith}
use Rattle.std.specs.Prelude.{not, nat_lt, sum_by}
use Rattle.std.specs.List.{IsDistinct}
use Rattle.std.specs.List.Sorted.{IsPermutation}
use Rattle.std.proofs.lemmas.Bool.{cases_Bool}
use Rattle.std.proofs.lemmas.List.Sorted.{sum_by-IsPermutation}
use Rattle.heap_space.specs.Memory.{Memory}
use Rattle.heap_space.specs.Places.{word_at}
use Rattle.nursery_gaps.specs.Nursery.{Layout as NurseryLayout, IsLaidOut}
use Rattle.old_space.specs.HasBlocks.{greatest_small, page_size}
use Rattle.object_model.specs.ObjectWords.{words_at}
use Rattle.object_model.specs.Sets.{is_in}
use Rattle.object_model.proofs.Members.{false-in}
use Rattle.text_model.specs.declared.line.Phase.{Phase}
use Rattle.text_model.specs.declared.line.Phase.TheVariants.{Scanning, Marking, Sweeping, Finalizing}
use Rattle.text_model.specs.declared.line.Line.{Line}
use Rattle.text_model.specs.declared.line.Line.TheVariants.{MinorDone, Cleared, Destroyed, LinkCut}
use Rattle.remember_cards.specs.declared.Span.{Span}
use Rattle.store_model.specs.Links.{link_ends}
use Rattle.store_model.specs.MarkingOrder.{YoungHeld}
use Rattle.store_model.specs.MinorCollection.{MinorCollection}
use Rattle.store_model.specs.Sound.{IsPhaseSound}
use Rattle.store_model.specs.Store.{Store}
use Rattle.birth_laws.proofs.BirthNames.{listed}
use Rattle.heap_parts.specs.Collects.{IsCollected}
use Rattle.heap_parts.specs.Parts.{HeapParts, word_in, home_in, pinned_places}
use Rattle.heap_parts.specs.Places.{is_young, young_places, old_places, block_at}
use Rattle.frame_laws.proofs.Births.{rise-differ}
use Rattle.frame_laws.proofs.PlaceLaws.{is_in-young, young-is_in}
use Rattle.minor_collect.specs.declared.work.Moving.{Moving}
use Rattle.minor_collect.specs.Calls.{Stage, Spot, Survived, remembered_at, linked_places}
use Rattle.minor_collect.specs.Drops.{Drops}
use Rattle.minor_collect.specs.Ending.{ended_parts, left_places, stays}
use Rattle.minor_collect.specs.Finishes.{Finishes}
use Rattle.minor_collect.specs.Gives.{GaveAll, KeepsMade}
use Rattle.minor_collect.specs.Gray.{QueuesWritten}
use Rattle.minor_collect.specs.Homes.{GivesHomes}
use Rattle.minor_collect.specs.Lines.{TellsLoss}
use Rattle.minor_collect.specs.Midway.{Midway, Changing, with_changing, changing_of, is_lasting}
use Rattle.minor_collect.specs.Queues.{Queues}
use Rattle.minor_collect.specs.Remade.{Remakes, words_of}
use Rattle.minor_collect.specs.Spans.{TookAll}
use Rattle.minor_collect.specs.Vanished.{FindsVanished}
use Rattle.minor_collect.specs.Walks.{births_destroyed}
use Rattle.minor_collect.proofs.CountLaws.{sum_member, words_moved}
use Rattle.minor_collect.proofs.DropLaws.{dropped_change, weaks_passed, gave_all, gave_rest, dropped_rest}
use Rattle.minor_collect.proofs.Ended.{no_both, remains, young_pinned}
use Rattle.minor_collect.proofs.Finished.{minor_finished}
use Rattle.minor_collect.proofs.GivesAfter.{IsMiddleButGray, queued_change, giving_of, passed_lies}
use Rattle.minor_collect.proofs.LossTold.{loss_told}
use Rattle.minor_collect.proofs.PassLaws.{clears_weaks}
use Rattle.minor_collect.proofs.QueuedFrom.{queues_written, queues_quiet}
use Rattle.object_model.proofs.SameMembers.{same_members, names_differ, part_differs}
use Rattle.minor_collect.proofs.Survivors.{survived_mid, survived_lists}

is-marking : (phase : Phase) → (phase ≡ Marking) ⊎ (phase ≡ Marking → ⊥)
is-marking Scanning = inr (λ e. let no : ⊥ = cc in no)
is-marking Marking = inl refl
is-marking Sweeping = inr (λ e. let no : ⊥ = cc in no)
is-marking Finalizing = inr (λ e. let no : ⊥ = cc in no)

-- only in marking is anything visited
none-visited : (phase : Phase) (sweep : ℕ) (store : Store) → IsPhaseSound phase sweep store → (phase ≡ Marking → ⊥) → store.visited ≡ []
none-visited Scanning sweep store sound out = sound.2.no_visited
none-visited Marking sweep store sound out = absurd (out refl)
none-visited Sweeping sweep store sound out = sound.2.no_visited
none-visited Finalizing sweep store sound out = sound.2.no_visited

-- what was queued, of some places
pub record QueuesSome (stage : Stage) (now : HeapParts) (spot : Spot) (gray : List ℕ) : Type 0 where
  pub written : List ℕ
  pub queues : QueuesWritten stage.start (word_at now.memory.blocks) spot.placing.name spot.placing.places stage.store.visited written now.gray gray

module _ {stage : Stage} {moved queued dropped remade taken : HeapParts} {moving : Moving} {spans : List Span} {dead destroyed cleared : List ℕ}
    (young : YoungHeld stage.store.kept stage.store.settled (remembered_at stage))
    (took : TookAll stage.start taken spans) (s : Survived stage moved moving) (found : FindsVanished stage s.after moved dead destroyed)
    (marks : moved.phase ≡ Marking → Queues moved queued spans) (quiet : (moved.phase ≡ Marking → ⊥) → queued ≡ moved)
    (d : Drops queued dropped dead [] cleared) (r : Remakes dropped remade) where
  weaks : moved.weaks ≡ stage.start.weaks
  weaks = ap (λ (h : HeapParts). h.weaks) s.only

  phase-same : moved.phase ≡ stage.start.phase
  phase-same = ap (λ (h : HeapParts). h.phase) s.only

  only-gray : queued ≡ record moved { gray = queued.gray }
  only-gray = elim (is-marking moved.phase) [
    | inl e ↦ (marks e).only
    | inr e ↦ quiet e ∙ ap (λ (gray : List ℕ). record moved { gray = gray }) (sym (ap (λ (h : HeapParts). h.gray) (quiet e)))
  ]

  pub queued_middle : IsMiddleButGray stage moved queued s.after
  queued_middle = record { middle = s.standing.middle; weaks = weaks; only = only-gray }

  abbrev pub mid_now : Midway stage.start stage.store (remembered_at stage) (changing_of moved) s.after.placing [] s.after.held [] s.after.owes s.after.moved []
  mid_now = survived_mid s

  abbrev pub change : Changing
  change = dropped_change (queued_change queued_middle) d.passed d.gave dead

  old-few : (q : ℕ) → IsTrue (is_in q (old_places s.after.placing.places)) → words_at stage.start.setup.types (word_at moved.memory.blocks) q < 18446744073709551615
  old-few q t =
      let one = sum_member (words_at stage.start.setup.types (word_in moved)) (old_places s.after.placing.places) q t in
      let all = words_moved s.standing.middle in
      omega (arith, one, all, mid_now.moved_words, stage.stands.sums.old_are, stage.stands.sums.within, stage.stands.made.ranges.2.2.1)

  queues-some : QueuesSome stage moved s.after queued.gray
  queues-some = elim (is-marking moved.phase) [
    | inl e ↦
        let q : Queues (with_changing stage.start (changing_of moved)) queued spans =
        subst (λ (h : HeapParts). Queues h queued spans) s.standing.middle.rest (marks e) in
        record { written = _; queues = queues_written stage.stands young mid_now s.none old-few took.covered (λ k span is. (took.sound k span is).0) (sym phase-same ∙ e) q }
    | inr e ↦
        let none : stage.store.visited ≡ [] = none-visited stage.start.phase stage.start.setup.settings.sweep stage.store
        (subst (λ (phase : Phase). IsPhaseSound phase stage.start.setup.settings.sweep stage.store) stage.stands.counts.phase_is stage.stands.sound.phase) (λ f. e (phase-same ∙ f)) in
        record {
          written = [];
          queues = subst (λ (gray : List ℕ). QueuesWritten stage.start (word_at moved.memory.blocks) s.after.placing.name s.after.placing.places stage.store.visited [] moved.gray gray)
              (sym (ap (λ (h : HeapParts). h.gray) (quiet e))) (queues_quiet none);
        }
  ]

  gave : GaveAll (giving_of s.standing.middle.mid weaks queued.gray (weaks_passed queued_middle found d)) d.passed d.gave dead
  gave = gave_all queued_middle found d

  numbers : KeepsMade d.passed.old_blocks d.gave.old_blocks d.passed.memory d.gave.memory
  numbers = gave.made

  gives-homes : GivesHomes stage.start.setup.types stage.start.setup.settings.page (word_in d.passed) (pinned_places stage.start) s.after.placing.places s.after.placing.husks s.after.placing.waiting
      (home_in (with_changing stage.start (changing_of moved))) (home_in (with_changing stage.start change)) change.old_blocks change.memory gave.after.waiting
  gives-homes =
      let P : HeapParts → Type 0 = λ h. GivesHomes h.setup.types h.setup.settings.page (word_in d.passed) (pinned_places stage.start) s.after.placing.places s.after.placing.husks s.after.placing.waiting
      (home_in (with_changing stage.start (changing_of moved))) (home_in d.gave) d.gave.old_blocks d.gave.memory gave.after.waiting in
      subst P (gave_rest queued_middle found d) gave.after.gives

  home-before : (p at : ℕ) → home_in (with_changing stage.start change) p ≡ Some at → home_in (with_changing stage.start (changing_of moved)) p ≡ Some at
  home-before p at e = ap (λ (h : HeapParts). home_in h p) (sym (weaks_passed queued_middle found d).only) ∙ gave.fewer p at e

  only-pinned : (p at : ℕ) → home_in (with_changing stage.start change) p ≡ Some at → IsTrue (is_in p (pinned_places stage.start))
  only-pinned p at e =
      let y = young-is_in s.after.placing.places p (mid_now.homes.reserved p at (home-before p at e)) in
      elim (cases_Bool (is_in p (pinned_places stage.start))) [
        | inl t ↦ t
        | inr out ↦
            let waits : is_lasting (pinned_places stage.start) p ≡ false = rw (y.1, out) refl in
            absurd (let bad : None ≡ Some at = sym (gave.none p (found.all p y.0 waits)) ∙ e in let no : ⊥ = cc in no)
      ]

  gone-told : (p : ℕ) → IsTrue (is_in p (linked_places moved.links)) → is_in p dead ≡ not (is_lasting (pinned_places stage.start) p)
  gone-told p t = elim (cases_Bool (is_lasting (pinned_places stage.start) p)) [
    | inl l ↦ false-in p dead (λ u. no_both (is_lasting (pinned_places stage.start) p) l (found.just p u).1) ∙ ap not (sym l)
    | inr l ↦ found.all p (s.standing.linked p t) l ∙ ap not (sym l)
  ]

  -- the pinned objects are those that are left in the nursery
  pins-young : IsPermutation (pinned_places stage.start) (young_places (left_places stage.store s.after.placing.found s.after.placing.name s.after.placing.places))
  pins-young =
      same_members (pinned_places stage.start) (young_places (left_places stage.store s.after.placing.found s.after.placing.name s.after.placing.places))
      (names_differ s.after.placing.name (pinned_places stage.start) (subst (IsDistinct nat_eq) (listed mid_now.pins).named stage.stands.sound.pins.differ))
      (part_differs is_young (left_places stage.store s.after.placing.found s.after.placing.name s.after.placing.places)
      (part_differs (λ p. stays stage.store (λ x. is_in x s.after.placing.found) (s.after.placing.name p)) s.after.placing.places
      (names_differ s.after.placing.name s.after.placing.places (rise-differ 1 stage.start.next (map s.after.placing.name s.after.placing.places) mid_now.rise))))
      (λ p t.
      let y = young-is_in s.after.placing.places p (mid_now.pins.there p t) in
      is_in-young (left_places stage.store s.after.placing.found s.after.placing.name s.after.placing.places) p
      (remains mid_now.words.objects mid_now.words.moving mid_now.follows s.none p y.0 (rw (y.1, t) refl)) y.1)
      (young_pinned mid_now.words.objects mid_now.words.moving mid_now.follows s.none)

  -- the nursery then
  abbrev pub nursery_now : NurseryLayout
  nursery_now = record stage.start.nursery { used = map (block_at stage.start.setup.types (word_at change.memory.blocks)) r.sorted; gap = 1; cursor = 1 }

  abbrev pub unsettled_now : ℕ
  unsettled_now = sum_by (words_at stage.start.setup.types (word_at change.memory.blocks)) (pinned_places stage.start)

  remade-is : remade ≡ record (with_changing stage.start change) { nursery = nursery_now; unsettled = unsettled_now; gapped = nat_lt 0 (length stage.start.pins) }
  remade-is = r.is ∙ ap (λ (h : HeapParts). record h {
    nursery = record h.nursery { used = map (block_at h.setup.types (word_in h)) r.sorted; gap = 1; cursor = 1 };
    unsettled = sum_by (words_of h) (pinned_places h);
    gapped = nat_lt 0 (length h.pins);
  }) (dropped_rest queued_middle found d)

  -- the parts at the end
  pub ended_is : {last : HeapParts} → last ≡ record remade { old_words = remade.old_words + moving.words; fresh = 0 }
      → last ≡ ended_parts stage.start change nursery_now unsettled_now (stage.start.old_words + moving.words)
  ended_is e = e ∙ ap (λ (h : HeapParts). record h { old_words = h.old_words + moving.words; fresh = 0 }) remade-is

  pub finishes : Finishes stage.start stage.store (remembered_at stage) (changing_of moved) s.after.held s.after.owes s.after.moved s.after.placing mid_now change nursery_now unsettled_now (stage.start.old_words + moving.words)
  finishes = record {
    passed = d.passed.memory;
    written = queues-some.written;
    waiting = gave.after.waiting;
    sorted = r.sorted;
    gone_at = λ object. is_in object dead;
    lists = survived_lists s;
    queues = queues-some.queues;
    weaks = clears_weaks mid_now weaks queued.gray (weaks_passed queued_middle found d);
    gives = gives-homes;
    only = only-pinned;
    nursery_is = refl;
    laid_out = subst IsLaidOut (ap (λ (h : HeapParts). h.nursery) remade-is) r.laid_out;
    sorted_are = subst (λ (h : HeapParts). IsPermutation r.sorted (pinned_places h)) (dropped_rest queued_middle found d) r.sorted_are;
    nursery_whole = numbers.lies stage.start.nursery.words (passed_lies mid_now weaks queued.gray (weaks_passed queued_middle found d) 1 stage.start.nursery.words mid_now.words.nursery_whole);
    remembered_is = refl;
    held_whole = s.standing.held;
    slots_same = refl;
    registered_same = refl;
    links_cut = refl;
    gone_are = gone-told;
    unsettled_are = sym (sum_by-IsPermutation (words_at stage.start.setup.types (word_at change.memory.blocks)) (pinned_places stage.start) _ pins-young);
    old_are = ap (λ (n : ℕ). stage.start.old_words + n) s.standing.counted.words;
    made = record {
      ranges = mid_now.made.ranges;
      words = mid_now.made.words;
      pins = mid_now.made.pins;
      card = mid_now.made.card;
      arena = numbers.arena ∙ (ap (λ (k : Memory). k.arena_words) (weaks_passed queued_middle found d).targets.rest ∙ mid_now.made.arena);
      small = numbers.sizes.small ∙ (ap (λ (h : HeapParts). greatest_small h.old_blocks) (weaks_passed queued_middle found d).only ∙ mid_now.made.small);
      page = numbers.sizes.page ∙ (ap (λ (h : HeapParts). page_size h.old_blocks) (weaks_passed queued_middle found d).only ∙ mid_now.made.page);
    };
  }

  loss : TellsLoss stage.start.setup.types (word_at moved.memory.blocks) (pinned_places stage.start) s.after.placing.places stage.start.weaks stage.start.next dead cleared destroyed
  loss = loss_told mid_now weaks queued.gray (weaks_passed queued_middle found d) dead destroyed found.once found.just found.all
      (subst (λ (h : HeapParts). IsPermutation (births_destroyed h dead) destroyed) s.standing.middle.rest found.destroyed_are) found.destroyed_rise

  -- the lines of it
  abbrev pub minor_told : List Line
  minor_told = MinorDone moving.objects (length dead) ∷ (map (λ b. Cleared b) cleared ++ (map (λ b. Destroyed b) destroyed ++ map (λ cut. LinkCut cut) (link_ends (λ object. is_in object dead) queued.links.structs)))

  -- A minor collection of the store.
  pub collected : {last : HeapParts} → last ≡ record remade { old_words = remade.old_words + moving.words; fresh = 0 }
      → (later : Store) × MinorCollection stage.store minor_told later × IsCollected last later
  unfolding finishes
  collected {last = last} e =
      let end = minor_finished stage.stands young mid_now s.none finishes loss in
      let links : link_ends (λ object. is_in object dead) moved.links.structs ≡ link_ends (λ object. is_in object dead) queued.links.structs =
      ap (λ (h : HeapParts). link_ends (λ (object : ℕ). is_in object dead) h.links.structs) (sym only-gray) in (
        end.0,
        subst (λ (lines : List Line). MinorCollection stage.store lines end.0) (λ i.
            MinorDone (sym s.standing.counted.objects i) (length dead) ∷ (map (λ b. Cleared b) cleared ++ (map (λ b. Destroyed b) destroyed ++ map (λ cut. LinkCut cut) (links i)))) end.1,
        subst (λ (h : HeapParts). IsCollected h end.0) (sym (ended_is e)) end.2,
      )
