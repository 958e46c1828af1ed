-- All steps of the trace, joined: what survives and is not pinned moved.
use Rattle.std.proofs.Common.{◌≡◌, ℕ, zero, suc, ◌+◌, ◌<◌, false, IsTrue, List, [], ◌∷◌, ◌++◌, length, Some, slice_get, sym, ap, ◌∙◌, subst, inl, inr, arith}
use Rattle.std.specs.Prelude.{nat_lt}
use Rattle.std.proofs.lemmas.Bool.{cases_Bool}
use Rattle.std.proofs.lemmas.Bool.Decides.{nat_tests}
use Rattle.object_view.proofs.LayoutLaws.{laid_out}
use Rattle.object_model.specs.ObjectWords.{layout_at, words_at}
use Rattle.object_model.specs.Sets.{is_in}
use Rattle.object_model.proofs.Members.{is_in-nil, and_first, and_second}
use Rattle.remember_cards.specs.declared.Span.{Span}
use Rattle.store_model.specs.Store.{Store}
use Rattle.heap_parts.specs.Parts.{HeapParts, word_in, pinned_places}
use Rattle.heap_parts.specs.Places.{old_places}
use Rattle.heap_parts.specs.StandsFor.{PartsStandButYoung}
use Rattle.frame_laws.proofs.PlaceLaws.{old-is_in, placed_words}
use Rattle.minor_collect.specs.declared.work.Moving.{Moving}
use Rattle.minor_collect.specs.Midway.{Owes, OwesNone, FollowsLists}
use Rattle.minor_collect.specs.Calls.{Stage, Spot, MayLead, Standing, Grows, AddsTodo, Drained, AreTodo, CanBegin, CanFollowLists, Survived, owes_at, spot_begins, linked_places}
use Rattle.minor_collect.specs.Registered.{FollowedRoots}
use Rattle.minor_collect.specs.Spans.{IsSpanned, TookAll, MaySpan, CanTakeAll, DrainedSpans}
use Rattle.minor_collect.proofs.CountLaws.{sum_member}
use Rattle.minor_collect.proofs.GrowLaws.{grows_twice}
use Rattle.minor_collect.proofs.ItemSteps.{old_stays}
use Rattle.minor_collect.proofs.Queued.{no-members}
use Rattle.minor_collect.proofs.StartLaws.{standing_begins, held_place, held_may}
use Rattle.minor_collect.proofs.SurvivorLaws.{entries_found}

-- the collection of one store
abbrev pub stage_of : (start : HeapParts) (store : Store) → PartsStandButYoung start store → Stage
stage_of start store stands = record { start = start; store = store; stands = stands }

module _ {stage : Stage} {moving : Moving} (begins : Standing stage stage.start moving (spot_begins stage)) where
  -- once all that was remembered is taken
  pub standing_taken : {taken : HeapParts} {spans : List Span} → TookAll stage.start taken spans → Standing stage taken moving (spot_begins stage)
  standing_taken {taken = taken} t = record {
    middle = t.keeps stage (spot_begins stage) begins.middle;
    counted = begins.counted;
    lists = subst (λ (h : HeapParts). FollowsLists (pinned_places stage.start) stage.stands.places (owes_at stage) h.slots h.registered []) (sym t.only) begins.lists;
    linked = subst (λ (h : HeapParts). (p : ℕ) → IsTrue (is_in p (linked_places h.links)) → IsTrue (is_in p stage.stands.places)) (sym t.only) begins.linked;
    held = λ q u. absurd (is_in-nil q u);
  }

-- what spans have may be found, at any later spot
pub spans_may : {stage : Stage} {taken : HeapParts} {spans : List Span} {spot : Spot} → TookAll stage.start taken spans → Grows stage (spot_begins stage) spot
    → (k : ℕ) (span : Span) → slice_get spans k ≡ Some span → MaySpan stage spot span
spans_may {stage = stage} t g k span e =
    let s = t.sound k span e in
    let there : IsTrue (is_in span.a (old_places stage.stands.places)) = stage.stands.remembered.there span.a s.0 in
    record {
      there = old_stays span.a g there;
      may = λ i low high. subst (λ (b : ℕ). MayLead stage b i) (sym (g.names span.a (old-is_in stage.stands.places span.a there).0)) (held_may stage span.a i there (s.1 i low high));
    }

-- settled objects have few references
refs-few : (stage : Stage) (q : ℕ) → IsTrue (is_in q (old_places stage.stands.places)) → (layout_at stage.start.setup.types (word_in stage.start) q).ref_count < 18446744073709551615
refs-few stage q t =
    let s = stage.stands in
    let laid = laid_out stage.start.setup.types (word_in stage.start) q in
    let one = sum_member (words_at stage.start.setup.types (word_in stage.start)) (old_places s.places) q t in
    let all = placed_words stage.store.settled s.words.objects s.births.settled_are in
    omega (arith, one, all.settled_are, s.sums.old_are, s.sums.within, s.made.ranges.2.2.1, laid.header, laid.begins, laid.ordered, laid.pointers, laid.refs)

-- Each item that is owed is in a span.
owed-spanned : (stage : Stage) {taken : HeapParts} {spans : List Span} → TookAll stage.start taken spans → (q j : ℕ) → IsTrue ((owes_at stage).items q j) → IsSpanned spans q j
owed-spanned stage t q j o =
    let there = and_first (is_in q (old_places stage.stands.places)) _ o in
    let rest = and_second (is_in q (old_places stage.stands.places)) _ o in
    let less : j < (layout_at stage.start.setup.types (word_in stage.start) q).ref_count = grind (arith, nat_tests, and_first (nat_lt j (layout_at stage.start.setup.types (word_in stage.start) q).ref_count) _ rest) in
    let held = and_second (nat_lt j (layout_at stage.start.setup.types (word_in stage.start) q).ref_count) _ rest in
    let place = (old-is_in stage.stands.places q there).0 in
    let differ = stage.stands.words.objects.differ in
    t.covered q j (omega (arith, less, refs-few stage q there))
    (held_place stage.start.remembered stage.stands.name q j (λ p u e. differ p q (old-is_in stage.stands.places p (stage.stands.remembered.there p u)).0 place e) held)

module _ {stage : Stage} {taken second third last : HeapParts} {moving m2 m3 m4 : Moving} {spans : List Span} (t : TookAll stage.start taken spans)
    (b : FollowedRoots stage taken second moving m2 (spot_begins stage))
    (c : DrainedSpans stage second third m2 m3 b.after spans (length spans)) (d : Drained stage third last m4 c.after) (empty : m4.todo.items ≡ []) where
  owes-after : d.after.owes ≡ c.after.owes
  owes-after = d.owes_same

  in-items : (q j : ℕ) → d.after.owes.items q j ≡ false
  in-items q j = ap (λ (o : Owes). o.items q j) d.owes_same ∙ elim (cases_Bool ((owes_at stage).items q j)) [
    | inl o ↦
        let s = owed-spanned stage t q j o in
        subst (λ (k : ℕ). c.after.owes.items k j ≡ false) s.here (c.paid s.number s.span s.listed (within spans s.number s.span s.listed) j s.low s.high)
    | inr o ↦ c.fewer q j (ap (λ (w : Owes). w.items q j) b.rest ∙ o)
  ]
    where
      within : (xs : List Span) (k : ℕ) (x : Span) → slice_get xs k ≡ Some x → k < length xs
      within [] k x e = absurd (let no : ⊥ = cc in no)
      within (y ∷ xs) zero x e = omega arith
      within (y ∷ xs) (suc k) x e = let more = within xs k x e in omega (arith, more)

  slots-same : length taken.slots ≡ length stage.start.slots
  slots-same = ap (λ (h : HeapParts). length h.slots) t.only

  in-slots : (k : ℕ) → d.after.owes.slots k ≡ false
  in-slots k = ap (λ (o : Owes). o.slots k) d.owes_same ∙ (ap (λ (o : Owes). o.slots k) c.rest ∙ elim (cases_Bool (nat_lt k (length taken.slots))) [
    | inl e ↦ b.slots_paid k (grind (arith, nat_tests, e))
    | inr e ↦ b.slots_fewer k (ap (nat_lt k) (sym slots-same) ∙ e)
  ])

  registered-same : length taken.registered ≡ length stage.start.registered
  registered-same = ap (λ (h : HeapParts). length h.registered) t.only

  in-registered : (k : ℕ) → d.after.owes.registered k ≡ false
  in-registered k = ap (λ (o : Owes). o.registered k) d.owes_same ∙ (ap (λ (o : Owes). o.registered k) c.rest ∙ elim (cases_Bool (nat_lt k (length taken.registered))) [
    | inl e ↦ b.registered_paid k (grind (arith, nat_tests, e))
    | inr e ↦ b.registered_fewer k (ap (nat_lt k) (sym registered-same) ∙ e)
  ])

  in-links : (p : ℕ) → d.after.owes.links p ≡ false
  in-links p = ap (λ (o : Owes). o.links p) d.owes_same ∙ (ap (λ (o : Owes). o.links p) c.rest ∙ ap (λ (o : Owes). o.links p) b.rest)

  grows-all : Grows stage (spot_begins stage) d.after
  grows-all = grows_twice b.grows (grows_twice c.grows d.grows)

  none-todo : d.after.todo ≡ []
  none-todo = no-members d.after.todo (λ q u. is_in-nil q (subst (λ (xs : List ℕ). IsTrue (is_in q xs)) empty (sym (d.todo q) ∙ u)))

  none-owed : OwesNone d.after.owes
  none-owed = record { items = in-items; slots = in-slots; registered = in-registered; links = in-links }

  only-all : last ≡ record stage.start { memory = last.memory; shadows = last.shadows; old_blocks = last.old_blocks; links = last.links; slots = last.slots; remembered = last.remembered; registered = last.registered }
  only-all =
      let F : HeapParts → HeapParts = λ h. record h { memory = last.memory; shadows = last.shadows; old_blocks = last.old_blocks; links = last.links; slots = last.slots; remembered = last.remembered; registered = last.registered } in
      ap F d.only ∙ (ap F c.only ∙ (ap F b.only ∙ ap F t.only))

  pub survived : Survived stage last m4
  survived = record {
    after = d.after;
    standing = d.standing;
    grows = grows-all;
    todo = none-todo;
    none = none-owed;
    entries = entries_found d.standing grows-all none-owed none-todo (λ x u un. d.grows.found x (c.grows.found x (b.found x u un)));
    only = only-all;
  }

-- what was added is all that is to be done
pub todo_are : (stage : Stage) {first last : Moving} {spot : Spot} → AddsTodo first last (spot_begins stage) spot → first.todo.items ≡ [] → AreTodo spot last
todo_are stage adds none q = adds.told q ∙ ap (is_in q) (sym (adds.in_code ∙ ap (λ (xs : List ℕ). xs ++ adds.added) none))

pub can_take_all : {now : HeapParts} {moving : Moving} → CanBegin now moving → CanTakeAll now
can_take_all {now = now} {moving = moving} c = let stage : Stage = stage_of now c.store c.stands in record { stage = stage; spot = spot_begins stage; middle = (standing_begins stage moving c.objects c.words).middle }

unfoldable pub can_lists : {now taken : HeapParts} {moving : Moving} {spans : List Span} → CanBegin now moving → TookAll now taken spans → CanFollowLists taken moving
can_lists {now = now} {moving = moving} c t = let stage : Stage = stage_of now c.store c.stands in record { stage = stage; spot = spot_begins stage; standing = standing_taken (standing_begins stage moving c.objects c.words) t }
