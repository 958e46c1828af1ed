-- A whole collection leaves just what was retained, and so the limit refuses a birth only where retained words leave no room.
use Rattle.std.proofs.Common.{◌≡◌, ◌≢◌, ℕ, ◌+◌, ◌<◌, Bool, true, false, IsTrue, List, [], ◌∷◌, ◌++◌, refl, sym, ap, ◌∙◌, subst, inl, inr, arith}
use Rattle.std.specs.Prelude.{IsFalse, not, nat_le}
use Rattle.std.proofs.Common.{append_assoc}
use Rattle.std.proofs.lemmas.Bool.{cases_Bool, eq-eqb}
use Rattle.std.proofs.lemmas.Bool.Decides.{eqb_tells, nat_tests}
use Rattle.std.proofs.lemmas.List.Sums.{sum_by-cons}
use Rattle.text_model.specs.declared.line.Line.{Line}
use Rattle.text_model.specs.declared.line.Phase.{Phase}
use Rattle.text_model.specs.declared.line.Phase.TheVariants.{Scanning, Marking, Sweeping, Finalizing}
use Rattle.object_model.specs.declared.settings.Settings.{Settings}
use Rattle.object_model.specs.Object.{Object, kept_words, words_of}
use Rattle.object_model.specs.Sets.{is_in}
use Rattle.store_model.specs.Store.{Store, counted_words, husk_words}
use Rattle.store_model.specs.Roots.{is_kept}
use Rattle.store_model.specs.Reach.{Tells, objects_where, IsRetained}
use Rattle.store_model.specs.MinorCollection.{MinorCollection, AreAllPinned, vanishes}
use Rattle.store_model.specs.Marking.{StartOfMarking, GoesOn, with_visited, visited_words, is_white, is_condemned}
use Rattle.store_model.specs.Sweeping.{MayEndIn}
use Rattle.store_model.specs.Collections.{StepFrom, MajorStep, When, Block, Cycle, Last, More, TwoCycles, CollectFrom, Collect, HasNoRoom, always, is_step_due, is_scanning, needs_block, exceeds_limit}
use Rattle.store_model.specs.CollectionBounds.{LeavesRetained, RetainedExceed}
use Rattle.store_model.specs.Sound.{IsSound, IsPhaseSound, AreGone}
use Rattle.store_model.proofs.After.{was_kept, in_births_where}
use Rattle.store_model.proofs.FinalSound.{doomed_freed}
use Rattle.store_model.proofs.TestsExist.{retained_test}
use Rattle.store_model.proofs.StepsSound.{sound_minor, sound_step}
use Rattle.store_model.proofs.RetainedStays.{KeepsRetained, keeps_none, keeps_both, minor_keeps, step_keeps, retained_kept}

-- A cycle that runs went on: the same objects are doomed, and what is kept was kept.
record RunsOn (old new : Store) : Type 0 where
  doomed : new.doomed ≡ old.doomed
  fewer : (x : ℕ) → IsTrue (is_kept new.kept x) → IsTrue (is_kept old.kept x)

runs_both : {old mid new : Store} → RunsOn old mid → RunsOn mid new → RunsOn old new
runs_both a b = record { doomed = b.doomed ∙ a.doomed; fewer = λ x k. a.fewer x (b.fewer x k) }

minor_runs : (old : Store) (lines : List Line) (new : Store) → MinorCollection old lines new → RunsOn old new
minor_runs old lines new c = subst (RunsOn old) (sym c.leaves) (record {
  doomed = refl;
  fewer = λ x k. (was_kept (vanishes old c.survives) (vanishes old c.survives) x old.kept k).0;
})

marking_runs : (b : Bool) (settings : Settings) (old store : Store) (visits lines : List Line) (new : Store) → RunsOn old store → GoesOn b settings store visits lines new → RunsOn old new
marking_runs true settings old store visits lines new r g = subst (RunsOn old) (sym g.1) r
marking_runs false settings old store visits lines new r (rest, e, is) = subst (RunsOn old) (sym e.leaves) (record {
  doomed = r.doomed;
  fewer = λ x k. r.fewer x (was_kept (is_white store) (is_condemned store e.saved) x store.kept k).0;
})

step_runs : (phase : Phase) (settings : Settings) (old : Store) (lines : List Line) (new : Store) → phase ≢ Scanning → StepFrom phase settings old lines new → RunsOn old new
step_runs Scanning settings old lines new other m = absurd (other refl)
step_runs Marking settings old lines new other m =
    marking_runs (nat_le settings.increment (visited_words old.kept m.births)) settings old (with_visited old m.births) _ lines new (record { doomed = refl; fewer = λ x k. k }) m.goes_on
step_runs Sweeping settings old lines new other m = subst (RunsOn old) (sym m.leaves) (record { doomed = refl; fewer = λ x k. k })
step_runs Finalizing settings old lines new other m = subst (RunsOn old) (sym m.1) (record { doomed = refl; fewer = λ x k. k })

-- a step after which no cycle runs is the last of one, and leaves nothing that was doomed
marking_goes_on : (b : Bool) (settings : Settings) (store : Store) (visits lines : List Line) (new : Store) → store.phase ≡ Marking → GoesOn b settings store visits lines new → new.phase ≡ Scanning → ⊥
marking_goes_on true settings store visits lines new is g ends = let same : store.phase ≡ Scanning = ap (λ (s : Store). s.phase) (sym g.1) ∙ ends in let no : ⊥ = cc in no
marking_goes_on false settings store visits lines new is (rest, e, printed) ends = let same : Sweeping ≡ Scanning = ap (λ (s : Store). s.phase) (sym e.leaves) ∙ ends in let no : ⊥ = cc in no

sweep_goes_on : (phase : Phase) (new : Store) → MayEndIn phase new → phase ≡ Scanning → ⊥
sweep_goes_on Scanning new may e = may
sweep_goes_on Marking new may e = may
sweep_goes_on Sweeping new may e = let no : ⊥ = cc in no
sweep_goes_on Finalizing new may e = let no : ⊥ = cc in no

last_step : (phase : Phase) (settings : Settings) (old : Store) (lines : List Line) (new : Store) → old.phase ≡ phase → IsSound settings old → StepFrom phase settings old lines new → new.phase ≡ Scanning → AreGone new.kept new.doomed
last_step Scanning settings old lines new is s m ends = absurd (let same : Marking ≡ Scanning = ap (λ (k : Store). k.phase) (sym m.leaves) ∙ ends in let no : ⊥ = cc in no)
last_step Marking settings old lines new is s m ends =
    absurd (marking_goes_on (nat_le settings.increment (visited_words old.kept m.births)) settings (with_visited old m.births) _ lines new is m.goes_on ends)
last_step Sweeping settings old lines new is s m ends = absurd (sweep_goes_on m.phase new m.may_end (ap (λ (k : Store). k.phase) (sym m.leaves) ∙ ends))
last_step Finalizing settings old lines new is s m ends = subst (λ (k : Store). AreGone k.kept k.doomed) (sym m.1) (doomed_freed settings old s is).0

module _ (settings : Settings) (sweeps : 0 < settings.sweep) where
  -- What a block leaves, which may be followed by more.
  record GoesThrough (old new : Store) : Type 0 where
    sound : IsSound settings new
    keeps : KeepsRetained old new

  through_both : {old mid new : Store} → GoesThrough old mid → GoesThrough mid new → GoesThrough old new
  through_both a b = record { sound = b.sound; keeps = keeps_both a.keeps b.keeps }

  when_step : (b : Bool) (old : Store) (lines : List Line) (new : Store) → AreAllPinned old → IsSound settings old → When b (MajorStep settings) old lines new → GoesThrough old new
  when_step true old lines new pinned s m =
      record { sound = sound_step settings sweeps old.phase old lines new refl pinned s m; keeps = step_keeps settings sweeps old.phase old lines new refl pinned s m }
  when_step false old lines new pinned s m = subst (GoesThrough old) (sym m.1) (record { sound = s; keeps = keeps_none old })

  block_through : (is_due : Store → Bool) (old : Store) (lines : List Line) (new : Store) → IsSound settings old → Block is_due settings old lines new → GoesThrough old new
  block_through is_due old lines new s b =
      let first = sound_minor settings old b.minor b.mid s b.collected in
      through_both (record { sound = first.0; keeps = minor_keeps settings old b.minor b.mid s b.collected })
      (when_step (is_due b.mid) b.mid b.major new first.1 first.0 b.stepped)

  cycle_through : (old : Store) (lines : List Line) (new : Store) → IsSound settings old → Cycle settings old lines new → GoesThrough old new
  cycle_through old lines new s (Last block ends) = block_through always old lines new s block
  cycle_through old _ new s (More {mid = mid} {lines = first} {rest = rest} block goes_on cycle) =
      let a = block_through always old first mid s block in through_both a (cycle_through mid rest new a.sound cycle)

  -- the phase before the step of a block is that before the block
  minor_phase : (old : Store) (lines : List Line) (new : Store) → MinorCollection old lines new → new.phase ≡ old.phase
  minor_phase old lines new c = ap (λ (s : Store). s.phase) c.leaves

  block_runs : (old : Store) (lines : List Line) (new : Store) → old.phase ≢ Scanning → Block always settings old lines new → RunsOn old new
  block_runs old lines new running b =
      runs_both (minor_runs old b.minor b.mid b.collected)
      (step_runs b.mid.phase settings b.mid b.major new (λ e. running (sym (minor_phase old b.minor b.mid b.collected) ∙ e)) b.stepped)

  -- the rest of a cycle that runs frees what is doomed
  record EndsCycle (old new : Store) : Type 0 where
    runs : RunsOn old new
    gone : AreGone new.kept new.doomed

  rest_ends : (old : Store) (lines : List Line) (new : Store) → old.phase ≢ Scanning → IsSound settings old → Cycle settings old lines new → EndsCycle old new
  rest_ends old lines new running s (Last block ends) = record {
    runs = block_runs old lines new running block;
    gone = last_step block.mid.phase settings block.mid block.major new refl (sound_minor settings old block.minor block.mid s block.collected).0 block.stepped ends;
  }
  rest_ends old _ new running s (More {mid = mid} {lines = first} {rest = rest} block goes_on cycle) =
      let more = rest_ends mid rest new goes_on (block_through always old first mid s block).sound cycle in
      record { runs = runs_both (block_runs old first mid running block) more.runs; gone = more.gone }

  -- A whole cycle, and the store where it began to mark.
  record WholeCycle (old : Store) (lines : List Line) (new : Store) : Type 0 where
    began : Store
    minor : List Line
    rest : List Line
    collected : MinorCollection old minor began
    printed : lines ≡ minor ++ rest
    through : GoesThrough old new
    exactly : Tells (is_kept new.kept) (IsRetained began)
    as_before : Tells (is_kept new.kept) (IsRetained old)

  -- what is kept when the rest of a cycle has ended was retained when it began to mark
  was_retained : (began start : Store) (lines : List Line) (new : Store) → StartOfMarking began lines start → EndsCycle start new → (x : ℕ) → IsTrue (is_kept new.kept x) → IsRetained began x
  was_retained began start lines new m ends x k = elim (cases_Bool (m.retained x)) [
    | inl t ↦ (m.tells_retained x).0 t
    | inr f ↦ absurd (
        let there : IsTrue (is_kept began.kept x) = subst (λ (s : Store). IsTrue (is_kept s.kept x)) m.leaves (ends.runs.fewer x k) in
        let doomed : IsTrue (is_in x start.doomed) = subst (λ (s : Store). IsTrue (is_in x s.doomed)) (sym m.leaves) (in_births_where began.kept (λ y. not (m.retained y)) x (ap not f) there) in
        let gone : IsFalse (is_kept new.kept x) = ends.gone x (subst (λ (xs : List ℕ). IsTrue (is_in x xs)) (sym ends.runs.doomed) doomed) in
        let no : ⊥ = cc in no)
  ]

  whole_from : (old mid start new : Store) (minor major rest : List Line) → IsSound settings old → MinorCollection old minor mid → StartOfMarking mid major start
      → GoesThrough mid new → EndsCycle start new → WholeCycle old ((minor ++ major) ++ rest) new
  whole_from old mid start new minor major rest s c m through ends =
      let first = minor_keeps settings old minor mid s c in
      let keeps = keeps_both first through.keeps in
      let back = was_retained mid start major new m ends in
      record {
        began = mid;
        minor = minor;
        rest = major ++ rest;
        collected = c;
        printed = append_assoc minor major rest;
        through = record { sound = through.sound; keeps = keeps };
        exactly = λ x. (back x, λ r. retained_kept new x (through.keeps.forward x r));
        as_before = λ x. (λ k. first.backward x (back x k), λ r. retained_kept new x (keeps.forward x r));
      }

  -- the step of a block from the phase Scanning starts to mark
  starts : (old : Store) (lines : List Line) (new : Store) → old.phase ≡ Scanning → (b : Block always settings old lines new) → StartOfMarking b.mid b.major new
  starts old lines new scanning b = subst (λ (p : Phase). StepFrom p settings b.mid b.major new) (minor_phase old b.minor b.mid b.collected ∙ scanning) b.stepped

  marks : (old : Store) (lines : List Line) (new : Store) → StartOfMarking old lines new → new.phase ≡ Marking
  marks old lines new m = ap (λ (s : Store). s.phase) m.leaves

  whole_cycle : (old : Store) (lines : List Line) (new : Store) → old.phase ≡ Scanning → IsSound settings old → Cycle settings old lines new → WholeCycle old lines new
  whole_cycle old lines new scanning s (Last block ends) =
      absurd (let marking = marks block.mid block.major new (starts old lines new scanning block) in let no : ⊥ = cc in no)
  whole_cycle old _ new scanning s (More {mid = start} {lines = first} {rest = rest} block goes_on cycle) =
      let after = sound_minor settings old block.minor block.mid s block.collected in
      let step = when_step true block.mid block.major start after.1 after.0 block.stepped in
      subst (λ (ls : List Line). WholeCycle old (ls ++ rest) new) (sym block.printed)
      (whole_from old block.mid start new block.minor block.major rest s block.collected (starts old first start scanning block)
      (through_both step (cycle_through start rest new step.sound cycle)) (rest_ends start rest new goes_on step.sound cycle))

  cycle_scanning : (old : Store) (lines : List Line) (new : Store) → Cycle settings old lines new → new.phase ≡ Scanning
  cycle_scanning old lines new (Last block ends) = ends
  cycle_scanning old _ new (More {mid = mid} {lines = first} {rest = rest} block goes_on cycle) = cycle_scanning mid rest new cycle

  -- What a whole collection leaves.
  record CollectsAll (old : Store) (lines : List Line) (new : Store) : Type 0 where
    leaves : LeavesRetained settings old lines new
    through : GoesThrough old new
    scanning : new.phase ≡ Scanning

  from_cycle : (old mid : Store) (front lines : List Line) (new : Store) → When (not (is_scanning old.phase)) (Cycle settings) old front mid → GoesThrough old mid → mid.phase ≡ Scanning
      → Cycle settings mid lines new → CollectsAll old (front ++ lines) new
  from_cycle old mid front lines new ends first scanning cycle =
      let w = whole_cycle mid lines new scanning first.sound cycle in
      record {
        leaves = record {
          began = w.began;
          last = record {
            mid = mid;
            front = front;
            minor = w.minor;
            rest = w.rest;
            ends = ends;
            collected = w.collected;
            whole = subst (λ (ls : List Line). Cycle settings mid ls new) w.printed cycle;
            printed = ap (λ (ls : List Line). front ++ ls) w.printed;
          };
          exactly = w.exactly;
          as_before = λ x. (λ k. first.keeps.backward x ((w.as_before x).0 k), λ r. (w.as_before x).1 (first.keeps.forward x r));
        };
        through = through_both first w.through;
        scanning = cycle_scanning mid lines new cycle;
      }

  two_cycles : (old : Store) (lines : List Line) (new : Store) → is_scanning old.phase ≡ false → IsSound settings old → TwoCycles settings old lines new → CollectsAll old lines new
  two_cycles old lines new running s c =
      subst (λ (ls : List Line). CollectsAll old ls new) (sym c.printed)
      (from_cycle old c.mid c.first c.second new (subst (λ (b : Bool). When (not b) (Cycle settings) old c.first c.mid) (sym running) c.ends)
      (cycle_through old c.first c.mid s c.ends) (cycle_scanning old c.first c.mid c.ends) c.again)

  collects_all : (phase : Phase) (old : Store) (lines : List Line) (new : Store) → old.phase ≡ phase → IsSound settings old → CollectFrom phase settings old lines new → CollectsAll old lines new
  collects_all Scanning old lines new is s c =
      from_cycle old old [] lines new (subst (λ (p : Phase). When (not (is_scanning p)) (Cycle settings) old [] old) (sym is) (refl, refl)) (record { sound = s; keeps = keeps_none old }) is c
  collects_all Marking old lines new is s c = two_cycles old lines new (ap is_scanning is) s c
  collects_all Sweeping old lines new is s c = two_cycles old lines new (ap is_scanning is) s c
  collects_all Finalizing old lines new is s c = two_cycles old lines new (ap is_scanning is) s c

  -- A whole collection of a sound store leaves just what was retained.
  pub collect_retains : (old : Store) (lines : List Line) (new : Store) → IsSound settings old → Collect settings old lines new → LeavesRetained settings old lines new
  collect_retains old lines new s c = (collects_all old.phase old lines new refl s c).leaves

  -- objects that all pass
  later-kept : (o : Object) (os : List Object) (x : ℕ) → IsTrue (is_kept os x) → IsTrue (is_kept (o ∷ os) x)
  later-kept o os x k = elim (eqb_tells x o.birth) [ inl e ↦ rw e.0 refl | inr e ↦ rw e.0 k ]

  all_words : (kept : List Object) (test : ℕ → Bool) → ((x : ℕ) → IsTrue (is_kept kept x) → test x ≡ true) → kept_words (objects_where kept test) ≡ kept_words kept
  all_words [] test all = refl
  all_words (o ∷ os) test all =
      let here : test o.birth ≡ true = all o.birth (rw (eq-eqb o.birth o.birth refl) refl) in
      let more = all_words os test (λ x k. all x (later-kept o os x k)) in
      let passes : kept_words (objects_where (o ∷ os) test) ≡ words_of o + kept_words (objects_where os test) = rw here (sum_by-cons words_of o (objects_where os test)) in
      passes ∙ (ap (λ n. words_of o + n) more ∙ sym (sum_by-cons words_of o os))

  -- all words that are counted after a whole collection are those of what was retained
  counted_retained : (old : Store) (lines : List Line) (new : Store) (retained : ℕ → Bool) → Tells retained (IsRetained old) → CollectsAll old lines new
      → counted_words new ≡ kept_words (objects_where old.kept retained)
  counted_retained old lines new retained tells c =
      let p : IsPhaseSound Scanning settings.sweep new = subst (λ (ph : Phase). IsPhaseSound ph settings.sweep new) c.scanning c.through.sound.phase in
      let none : husk_words new.husks ≡ 0 = ap husk_words p.0 in
      let all = all_words new.kept retained (λ x k. (tells x).1 ((c.leaves.as_before x).0 k)) in
      let same = c.through.keeps.words retained tells in
      omega (arith, none, all, same)

  no_room_when : (b : Bool) (old : Store) (words : ℕ) (lines : List Line) (new : Store) → exceeds_limit settings old words ≡ b → IsSound settings old → When b (Collect settings) old lines new
      → settings.limit < counted_words new + words → CollectsAll old lines new
  no_room_when true old words lines new is s c exceeds = collects_all old.phase old lines new refl s c
  no_room_when false old words lines new is s c exceeds = absurd (
      let over : settings.limit < counted_words old + words = subst (λ (k : Store). settings.limit < counted_words k + words) c.1 exceeds in
      let no : ⊥ = grind (arith, nat_tests) in no)

  room_block : (b : Bool) (old : Store) (lines : List Line) (new : Store) → IsSound settings old → When b (Block is_step_due settings) old lines new → GoesThrough old new
  room_block true old lines new s b = block_through is_step_due old lines new s b
  room_block false old lines new s b = subst (GoesThrough old) (sym b.1) (record { sound = s; keeps = keeps_none old })

  -- The limit refuses a birth only where the words of what was retained leave no room.
  pub no_room_retained : (old : Store) (words : ℕ) (lines : List Line) (new : Store) → IsSound settings old → HasNoRoom settings old words lines new → RetainedExceed settings old words
  no_room_retained old words lines new s n =
      let m = n.made_room in
      let first = room_block (needs_block settings old words) old m.first m.mid s m.block in
      let all = no_room_when (exceeds_limit settings m.mid words) m.mid words m.second new refl first.sound m.collect n.exceeds in
      let test = retained_test old in
      let later : Tells test.test (IsRetained m.mid) = λ x. (λ t. first.keeps.forward x ((test.tells x).0 t), λ r. (test.tells x).1 (first.keeps.backward x r)) in
      let counted = counted_retained m.mid m.second new test.test later all ∙ first.keeps.words test.test test.tells in
      let exceeds = n.exceeds in
      record { retained = test.test; tells = test.tells; exceeds = omega (arith, exceeds, counted) }
