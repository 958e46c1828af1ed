-- The steps of a minor collection, one behind another: what each leaves is what the next asks for.
use Rattle.std.proofs.Common.{◌≡◌, ℕ, suc, ◌+◌, ◌<◌, ◌⊎◌, Bool, true, false, IsTrue, List, [], ◌∷◌, ◌++◌, append_assoc, map, Some, slice_get, refl, sym, ap, ◌∙◌, subst, inl, inr, arith}
use Rattle.std.specs.Prelude.{◌^◌, ◌==◌, ◌||◌}
use Rattle.std.specs.List.{list_any}
use Rattle.std.proofs.lemmas.Bool.{ne_eqb}
use Rattle.std.proofs.lemmas.Bool.Decides.{eqb_tells}
use Rattle.heap_space.specs.Places.{word_at}
use Rattle.text_model.specs.declared.line.Line.{Line}
use Rattle.text_model.specs.declared.line.Line.TheVariants.{MinorDone, Cleared, Destroyed, LinkCut}
use Rattle.text_model.specs.declared.line.LinkEnd.{LinkEnd}
use Rattle.text_model.specs.declared.line.Phase.{Phase}
use Rattle.text_model.specs.declared.line.Phase.TheVariants.{Scanning, Marking, Sweeping, Finalizing}
use Rattle.object_view.proofs.LayoutLaws.{laid_out}
use Rattle.object_view.specs.Views.{HasObject}
use Rattle.object_model.specs.ObjectWords.{layout_at}
use Rattle.object_model.specs.Sets.{is_in}
use Rattle.remember_cards.specs.declared.Span.{Span}
use Rattle.heap_parts.specs.Parts.{HeapParts, word_in}
use Rattle.store_model.specs.Store.{Store}
use Rattle.heap_parts.specs.StandsFor.{PartsStandFor}
use Rattle.frame_laws.proofs.PlaceLaws.{old-is_in}
use Rattle.minor_collect.specs.declared.work.Moving.{Moving}
use Rattle.minor_collect.specs.Calls.{Stage, Spot, Middle, Survived, CanBegin}
use Rattle.minor_collect.specs.Drops.{CanGiveThen, Drops}
use Rattle.minor_collect.specs.Minor.{CanCollect, Took, MovesSurvivors, Separates}
use Rattle.minor_collect.specs.Queues.{CanQueue, CanQueueSpans, CanLookAt}
use Rattle.minor_collect.specs.Remade.{CanRemake}
use Rattle.minor_collect.specs.Spans.{TookAll}
use Rattle.minor_collect.specs.Vanished.{IsMidway, FindsVanished}
use Rattle.minor_collect.specs.WeakPass.{CanPassWeaks}
use Rattle.minor_collect.proofs.CountLaws.{words_moved}
use Rattle.minor_collect.proofs.Finished.{AtNumber}
use Rattle.minor_collect.proofs.DropLaws.{can_remake_dropped}
use Rattle.minor_collect.proofs.GivesAfter.{IsMiddleButGray, can_give_then}
use Rattle.minor_collect.proofs.ItemSteps.{old_stays}
use Rattle.minor_collect.proofs.StartedCollects.{stands_whole}
use Rattle.minor_collect.proofs.StillLaws.{can_read}
use Rattle.minor_collect.proofs.TraceEnds.{stage_of}

-- an object that has a span has one of them
spanned-at : (spans : List Span) (q : ℕ) → IsTrue (list_any (λ (s : Span). q == s.a) spans) → AtNumber Span spans (λ s. s.a) q
spanned-at [] q t = absurd (let no : ⊥ = cc in no)
spanned-at (s ∷ spans) q t = elim (eqb_tells q s.a) [
  | inl e ↦ record { number = 0; entry = s; is = refl; reads = sym e.1 }
  | inr e ↦ let more = spanned-at spans q (later (q == s.a) (list_any (λ (s2 : Span). q == s2.a) spans) (ne_eqb q s.a e.1) t) in record { number = suc more.number; entry = more.entry; is = more.is; reads = more.reads }
]
  where
    later : (a b : Bool) → a ≡ false → IsTrue (a || b) → IsTrue b
    later true b n u = absurd (let no : ⊥ = cc in no)
    later false b n u = u

module _ {stage : Stage} {moved : HeapParts} {moving : Moving} (s : Survived stage moved moving) where
  abbrev spot : Spot
  spot = s.after

  middle : Middle stage moved s.after []
  middle = s.standing.middle

  queued : (q : ℕ) → IsTrue (is_in q s.after.placing.places) → CanQueue moved q
  queued q t = subst (λ (h : HeapParts). HasObject moved.memory h.setup.types q → ((j : ℕ) → j < (layout_at h.setup.types (word_in moved) q).ref_count → CanLookAt moved (word_in moved ((layout_at h.setup.types (word_in moved) q).ref_start + j))) → CanQueue moved q)
      middle.rest (λ object leads. record { object = object; leads = leads }) (middle.mid.words.whole q t) (λ j l ne o.
      let laid = laid_out stage.start.setup.types (word_at moved.memory.blocks) q in
      (can_read middle _ (middle.mid.words.objects.closed q j t (omega (arith, l, laid.refs))) ne).0)

  -- the references of what was taken can be looked at
  pub can_queue_spans : {taken : HeapParts} {spans : List Span} → TookAll stage.start taken spans → CanQueueSpans moved spans
  can_queue_spans {spans = spans} t q u = let n = spanned-at spans q u in queued q (subst (λ (p : ℕ). IsTrue (is_in p s.after.placing.places)) n.reads (there n.number n.entry n.is))
    where
      there : (k : ℕ) (span : Span) → slice_get spans k ≡ Some span → IsTrue (is_in span.a s.after.placing.places)
      there k span e = (old-is_in s.after.placing.places span.a (old_stays span.a s.grows (stage.stands.remembered.there span.a (t.sound k span e).0))).0

-- whether marking goes on
goes-on : (phase : Phase) → (phase ≡ Marking) ⊎ (phase ≡ Marking → ⊥)
goes-on Marking = inl refl
goes-on Scanning = inr (λ e. let no : ⊥ = cc in no)
goes-on Sweeping = inr (λ e. let no : ⊥ = cc in no)
goes-on Finalizing = inr (λ e. let no : ⊥ = cc in no)

-- parts that stand for a store can be collected
pub can_collect : {heap : HeapParts} {store : Store} → PartsStandFor heap store → CanCollect heap
can_collect {store = store} stands = record { store = store; stands = (stands_whole stands).stands }

pub can_begin : {heap : HeapParts} {moving : Moving} → CanCollect heap → moving.todo.items ≡ [] → moving.objects ≡ 0 → moving.words ≡ 0 → CanBegin heap moving
can_begin can todo objects words = record { store = can.store; stands = can.stands; objects = objects; words = words; todo = todo }

pub is_midway : {old moved : HeapParts} {moving first : Moving} → CanBegin old first → MovesSurvivors old moved moving → IsMidway moved
is_midway {old = old} can moves = let s = moves can.store can.stands in record { stage = stage_of old can.store can.stands; spot = s.after; middle = s.standing.middle }

pub can_queue : {old moved : HeapParts} {moving first : Moving} {spans : List Span} → CanBegin old first → MovesSurvivors old moved moving → Took old spans → CanQueueSpans moved spans
can_queue can moves t = can_queue_spans (moves can.store can.stands) t.took

module _ {old new : HeapParts} {moving : Moving} {dead destroyed : List ℕ} (can : CanCollect old) (s : Separates old new moving dead destroyed) where
  abbrev stage : Stage
  stage = stage_of old can.store can.stands

  -- what survived
  pub survived_one : Survived (stage_of old can.store can.stands) s.moved moving
  survived_one = s.survived can.store can.stands

  -- only what is gray changed since
  pub only_gray : new ≡ record s.moved { gray = new.gray }
  only_gray = elim (goes-on s.moved.phase) [
    | inl e ↦ (s.queues e).only
    | inr ne ↦ let same = s.quiet ne in same ∙ ap (λ (gray : List ℕ). record s.moved { gray = gray }) (sym (ap (λ (h : HeapParts). h.gray) same))
  ]

  pub can_pass_weaks : CanPassWeaks new
  can_pass_weaks = record {
    stage = stage;
    spot = survived_one.after;
    before = s.moved;
    middle = survived_one.standing.middle;
    only = only_gray;
    weaks = ap (λ (h : HeapParts). h.weaks) survived_one.only;
  }

  -- the words of what moved, with those outside the nursery
  pub room_for_moved : {last : HeapParts} {told_old told_new : List ℕ} → CanGiveThen new dead told_old → Drops new last dead told_old told_new → last.old_words + moving.words < 2 ^ 64
  room_for_moved {last = last} {told_new = told_new} gives d =
      let give = gives d.passed told_new d.passes in
      let gave = d.gives give.giving give.gives give.gone in
      let W : HeapParts → ℕ = λ h. h.old_words in
      let same : last.old_words ≡ old.old_words = ap W d.links ∙ (ap W gave.only ∙ (ap W d.passes.only ∙ (ap W only_gray ∙ ap W survived_one.only))) in
      omega (arith, same, words_moved survived_one.standing.middle, survived_one.standing.counted.words, can.stands.sums.within, can.stands.made.ranges.2.2.1)

  -- what was listed as gone
  pub found_one : FindsVanished (stage_of old can.store can.stands) survived_one.after s.moved dead destroyed
  found_one = s.finds (stage_of old can.store can.stands) survived_one.after survived_one.standing.middle

  -- a middle, but for what was queued since
  pub middle_but_gray : IsMiddleButGray (stage_of old can.store can.stands) s.moved new survived_one.after
  middle_but_gray = record { middle = survived_one.standing.middle; weaks = ap (λ (h : HeapParts). h.weaks) survived_one.only; only = only_gray }

pub can_give : {old new : HeapParts} {moving : Moving} {dead destroyed : List ℕ} (told : List ℕ) → CanCollect old → Separates old new moving dead destroyed → CanGiveThen new dead told
can_give told can s = can_give_then (middle_but_gray can s) told (found_one can s)

pub can_remake_last : {old new last : HeapParts} {moving : Moving} {dead destroyed told_old told_new : List ℕ} → CanCollect old → Separates old new moving dead destroyed → Drops new last dead told_old told_new → CanRemake last
can_remake_last can s d = can_remake_dropped (middle_but_gray can s) (found_one can s) d

-- the lines in one list
pub lines_joined : {after : List Line} (before : List Line) (objects gone : ℕ) (cleared destroyed : List ℕ) {ends first : List LinkEnd} (cuts : List LinkEnd)
    → after ≡ (((before ++ MinorDone objects gone ∷ []) ++ map (λ (b : ℕ). Cleared b) cleared) ++ map (λ (b : ℕ). Destroyed b) destroyed) ++ map (λ (end : LinkEnd). LinkCut end) ends
    → ends ≡ first ++ cuts → first ≡ []
    → after ≡ before ++ MinorDone objects gone ∷ (map (λ (b : ℕ). Cleared b) cleared ++ (map (λ (b : ℕ). Destroyed b) destroyed ++ map (λ (end : LinkEnd). LinkCut end) cuts))
lines_joined before objects gone cleared destroyed {ends = ends} {first = first} cuts lines are none =
    let C : List Line = map (λ (b : ℕ). Cleared b) cleared in
    let D : List Line = map (λ (b : ℕ). Destroyed b) destroyed in
    let L : List Line = map (λ (end : LinkEnd). LinkCut end) cuts in
    let M : List Line = MinorDone objects gone ∷ [] in
    let same : ends ≡ cuts = are ∙ ap (λ (xs : List LinkEnd). xs ++ cuts) none in
    lines ∙ (ap (λ (xs : List LinkEnd). (((before ++ M) ++ C) ++ D) ++ map (λ (end : LinkEnd). LinkCut end) xs) same
    ∙ (append_assoc ((before ++ M) ++ C) D L ∙ (append_assoc (before ++ M) C (D ++ L) ∙ append_assoc before M (C ++ (D ++ L)))))
