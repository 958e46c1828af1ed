-- What is computed is what the definitions allow.
use Rattle.std.specs.List.{list_all, IsDistinct, AllByRecursion}
use Rattle.std.proofs.Common.{◌≡◌, ◌≢◌, ℕ, zero, suc, ◌-◌, ◌<◌, ◌≤◌, Bool, true, false, IsTrue, nat_eq, append-nil, List, [], ◌∷◌, ◌++◌, map, length, Some, refl, sym, ap, ◌∙◌, subst, arith}
use Rattle.std.specs.Prelude.{IsFalse, ◌↔◌, not, ◌&&◌, ◌||◌, ◌==◌, ◌*◌, nat_le, nat_lt, take, filter}
use Rattle.std.proofs.lemmas.Bool.{false≢true}
use Rattle.std.proofs.lemmas.Bool.Decides.{nat_tests}
use Rattle.text_model.specs.declared.line.Line.{Line}
use Rattle.text_model.specs.declared.line.Line.TheVariants as line
use Rattle.text_model.specs.declared.line.Phase.{Phase}
use Rattle.text_model.specs.declared.line.Phase.TheVariants.{Scanning, Marking, Sweeping, Finalizing}
use Rattle.object_model.specs.declared.settings.Settings.{Settings}
use Rattle.object_model.specs.Sets.{is_in}
use Rattle.object_model.specs.Setup.{small_words}
use Rattle.store_model.specs.Store.{Store, is_settled, husk_words}
use Rattle.object_model.specs.Object.{object_at}
use Rattle.store_model.specs.Roots.{is_kept, roots_of, registered_births, referents_in}
use Rattle.store_model.specs.Reach.{Tells, LeadsTo, Reaches, refers, is_root, is_registered, IsReachedFrom}
use Rattle.store_model.specs.MinorCollection.{MinorCollection, is_entry, is_unsettled, has_settled_referrer, refers_unsettled}
use Rattle.store_model.specs.Marking.{StartOfMarking, MarkingStep, EndOfMarking, CanVisit, IsMarked, IsSaved, IsChosen, GoesOn, visited_words, is_dying, is_white, stands_before, with_visited}
use Rattle.store_model.specs.Sweeping.{SweepingStep, MayEndIn, husks_where, after_sweep}
use Rattle.store_model.specs.Collections.{When, MajorStep, StepFrom, Block, Cycle, Last, More, TwoCycles, Collect as Collects, CollectFrom, MakesRoom, always, is_scanning, is_step_due, needs_block, exceeds_limit}
use Rattle.store_model.proofs.Rounds.{equal, open_or_in, list_all-is_in, list_all-each, is_in-filter, spread, closure, led_tells, kept-births, tells_revived}
use Rattle.object_model.proofs.Members.{and_first, and_second, and_both}
use Rattle.store_model.proofs.Computed.{At, Old, Visits, Frees, Out, Choice, Outcome, ok_of, lines_in, store_in, left_in, only_if, behind, Event, then_from, when, births_of, rounds, led, with_list, survivors, minor_by, minor_of, reached_from, start_by, start_of, distinct, can_visit, has_visited, is_marked, saved_in, reaches, gives_way, chosen_in, chosen_of, end_by, end_of, go_on, mark_of, is_empty, swept_phase, may_be, sweep_to, step_from, step_of, due_step, block_of, go_round, cycle_of, collect_from, collect_of, due_collect, room_of}
use Rattle.store_model.proofs.Strict as strict

-- an event that is computed is one that the definition allows
abbrev pub Means : (Store → List Line → Store → Type 0) → Store → Outcome → Type 0
Means Event store out = IsTrue (ok_of out) → Event store (lines_in out) (store_in out)

pub le_of : (a b : ℕ) → IsTrue (nat_le a b) → a ≤ b
le_of a b h = grind (arith, nat_tests)

pub lt_of : (a b : ℕ) → IsTrue (nat_lt a b) → a < b
lt_of a b h = grind (arith, nat_tests)

pub not_false : (b : Bool) → IsTrue (not b) → IsFalse b
not_false true h = absurd (false≢true h)
not_false false h = refl

not_true : (b : Bool) → IsFalse b → IsTrue (not b)
not_true true h = absurd (false≢true (sym h))
not_true false h = refl

refers-there : (store : Store) (x y : ℕ) → IsTrue (refers store.kept x y) → IsTrue (is_in y (births_of store))
refers-there store x y h = kept-births store.kept y (and_second (is_in y (referents_in (object_at store.kept x))) (is_kept store.kept y) h)

-- to go on with a computed list is to go on with the list
pub list-is : {X : Type 0} (xs : List ℕ) (k : List ℕ → X) → with_list xs k ≡ k xs
list-is = strict.list-is strict.nat strict.nat-is

rounds-are : (step : ℕ → ℕ → Bool) (all : List ℕ) (n : ℕ) (xs : List ℕ) → rounds step all n xs ≡ closure step all n xs
rounds-are step all zero xs = refl
rounds-are step all (suc n) xs = list-is (spread step all xs) (rounds step all n) ∙ rounds-are step all n (spread step all xs)

pub led-is : (start : ℕ → Bool) (step : ℕ → ℕ → Bool) (all : List ℕ) → led start step all ≡ closure step all (length all) (filter start all)
led-is start step all = list-is (filter start all) (rounds step all (length all)) ∙ rounds-are step all (length all) (filter start all)

-- a test whether a birth is in the list
abbrev among : List ℕ → ℕ → Bool
among births x = is_in x births

pub led-tells : (start : ℕ → Bool) (step : ℕ → ℕ → Bool) (all : List ℕ) → ((x : ℕ) → IsTrue (start x) → IsTrue (is_in x all))
    → ((x y : ℕ) → IsTrue (step x y) → IsTrue (is_in y all)) → Tells (among (led start step all)) (LeadsTo start step)
led-tells start step all starts steps =
    subst (λ (births : List ℕ). Tells (among births) (LeadsTo start step)) (sym (led-is start step all)) (led_tells start step all starts steps)

pub only-is : (test : Bool) (out : Outcome) → only_if test out ≡ Out (test && (ok_of out)) (lines_in out) (store_in out) (left_in out)
only-is test (Out ok lines store left) = refl

behind-is : (first : Bool) (before : List Line) (out : Outcome) → behind first before out ≡ Out (first && (ok_of out)) (before ++ (lines_in out)) (store_in out) (left_in out)
behind-is first before (Out ok lines store left) = refl

-- one outcome and then another
abbrev pub joined : Outcome → Outcome → Outcome
joined first out = Out ((ok_of first) && (ok_of out)) ((lines_in first) ++ (lines_in out)) (store_in out) (left_in out)

pub then-is : (next : Event) (first : Outcome) → then_from next first ≡ joined first (next (store_in first) (left_in first))
then-is next (Out ok lines store left) =
    ap (behind ok lines) (strict.store-is store (λ s. strict.list strict.skip left (λ c. next s c)) ∙ strict.list-is strict.skip strict.skip-is left (next store))
    ∙ behind-is ok lines (next store left)

pub means-then : (Allowed : Store → List Line → Store → Type 0) (store : Store) (next : Event) (first : Outcome) → Means Allowed store (joined first (next (store_in first) (left_in first))) → Means Allowed store (then_from next first)
means-then Allowed store next first means = subst (Means Allowed store) (sym (then-is next first)) means

pub minor-means : (store : Store) (choices : List Choice) → MinorCollection store (lines_in (minor_of store choices)) (store_in (minor_of store choices))
minor-means store choices =
    let held_by : ℕ → Bool = has_settled_referrer store in
    subst (λ (out : Outcome). MinorCollection store (lines_in out) (store_in out)) (sym (list-is (survivors store) (λ births. minor_by births store choices))) (record {
      survives = among (survivors store);
      tells = led-tells (is_entry store held_by) (refers_unsettled store) (births_of store)
          (λ x h. kept-births store.kept x (and_first (is_kept store.kept x) (not (is_settled store.settled x)) (and_first (is_unsettled store x) (is_root store x || (is_registered store x || held_by x)) h)))
          (λ x y h. refers-there store x y (and_first (refers store.kept x y) (is_unsettled store y) h));
      printed = refl;
      leaves = refl;
    })

reached-tells : (store : Store) (births : List ℕ) → Tells (among (reached_from store births)) (IsReachedFrom store.kept births)
reached-tells store births = led-tells (λ x. is_in x births && is_kept store.kept x) (refers store.kept) (births_of store)
    (λ x h. kept-births store.kept x (and_second (is_in x births) (is_kept store.kept x) h)) (refers-there store)

start-means : (store : Store) (choices : List Choice) → StartOfMarking store (lines_in (start_of store choices)) (store_in (start_of store choices))
start-means store choices =
    let reached : List ℕ = reached_from store (roots_of store) in
    let retained : List ℕ = reached_from store (roots_of store ++ registered_births store) in
    let is : start_of store choices ≡ start_by reached retained store choices =
    list-is reached (λ reached. with_list retained (λ retained. start_by reached retained store choices)) ∙ list-is retained (λ retained. start_by reached retained store choices) in
    subst (λ (out : Outcome). StartOfMarking store (lines_in out) (store_in out)) (sym is) (record {
      reached = among reached;
      tells_reached = reached-tells store (roots_of store);
      retained = among retained;
      tells_retained = reached-tells store (roots_of store ++ registered_births store);
      printed = refl;
      leaves = refl;
    })

differ-means : (xs : List ℕ) → IsTrue (distinct xs) → IsDistinct nat_eq xs
unfolding IsDistinct
differ-means [] h = tt
differ-means (x ∷ xs) h = (
  each xs (and_first (list_all (λ y. not (nat_eq x y)) xs) (distinct xs) h),
  differ-means xs (and_second (list_all (λ y. not (nat_eq x y)) xs) (distinct xs) h),
)
  where
    each : (ys : List ℕ) → IsTrue (list_all (λ y. not (nat_eq x y)) ys) → AllByRecursion (λ y. nat_eq x y ≡ false) ys
    each [] t = tt
    each (y ∷ ys) t = (
      not_false (nat_eq x y) (and_first (not (nat_eq x y)) (list_all (λ y. not (nat_eq x y)) ys) t),
      each ys (and_second (not (nat_eq x y)) (list_all (λ y. not (nat_eq x y)) ys) t),
    )

can-means : (increment : ℕ) (store : Store) (births : List ℕ) → IsTrue (can_visit increment store births) → CanVisit increment store births
can-means increment store births h =
    let fresh : Bool = list_all (λ x. is_settled store.settled x && (not (is_in x store.visited) && not (is_in x store.unreached))) births in
    let few : Bool = nat_lt (visited_words store.kept (take (length births - 1) births)) increment in
    let rest : IsTrue (distinct births && few) = and_second fresh (distinct births && few) h in record {
      unvisited = and_first fresh (distinct births && few) h;
      differ = differ-means births (and_first (distinct births) few rest);
      few = lt_of (visited_words store.kept (take (length births - 1) births)) increment (and_second (distinct births) few rest);
    }

visited-in : (store : Store) (births : List ℕ) (x : ℕ) → IsTrue (has_visited store births) → IsTrue (is_in x births) → IsTrue (is_settled store.settled x) → IsTrue (is_in x store.visited)
visited-in store births x all there settled =
    open_or_in (is_in x store.visited) (is_settled store.settled x) (list_all-is_in (λ x. is_in x store.visited || not (is_settled store.settled x)) x births all there) settled

marked-means : (store : Store) → IsTrue (is_marked store) → IsMarked store
marked-means store h =
    let reached : List ℕ = reached_from store (roots_of store) in
    let roots : Bool = has_visited store reached in
    let each : Bool = list_all (λ x. has_visited store (referents_in (object_at store.kept x))) store.visited in record {
      reached = λ x r s. visited-in store reached x (and_first roots each h) ((reached-tells store (roots_of store) x).1 r) s;
      closed = λ x y v r s.
          visited-in store (referents_in (object_at store.kept x)) y
          (list_all-is_in (λ x. has_visited store (referents_in (object_at store.kept x))) x store.visited (and_second roots each h) v)
          (and_first (is_in y (referents_in (object_at store.kept x))) (is_kept store.kept y) r) s;
    }

module _ (store : Store) (kept : IsTrue (list_all (is_kept store.kept) (registered_births store))) where
  dying-registered : (x : ℕ) → IsTrue (is_dying store x) → IsTrue (is_in x (registered_births store))
  dying-registered x d = and_first (is_registered store x) (is_white store x) d

  dying-kept : (x : ℕ) → IsTrue (is_dying store x) → IsTrue (is_kept store.kept x)
  dying-kept x d = list_all-is_in (is_kept store.kept) x (registered_births store) kept (dying-registered x d)

  saved-tells : Tells (among (saved_in store)) (IsSaved store)
  saved-tells = led-tells (is_dying store) (refers store.kept) (births_of store) (λ x d. kept-births store.kept x (dying-kept x d)) (refers-there store)

  way : (a b c d : Bool) → (a ≡ true → ⊥) → IsTrue b → IsTrue c → IsTrue (a || (not b || (not c || d))) → IsTrue d
  way true b c d na tb tc t = absurd (na refl)
  way false true true d na tb tc t = t
  way false false c d na tb tc t = absurd (false≢true tb)
  way false true false d na tb tc t = absurd (false≢true tc)

  opened : (a b c d : Bool) → (IsFalse a → IsTrue b → IsTrue c → IsTrue d) → IsTrue (a || (not b || (not c || d)))
  opened true b c d f = refl
  opened false false c d f = refl
  opened false true false d f = refl
  opened false true true d f = f refl refl refl

  same_birth : (h x : ℕ) → h ≡ x → (h == x) ≡ true
  same_birth h x e = grind (arith, nat_tests)

  abbrev reach : ℕ → ℕ → Bool
  reach h x = reaches store h x

  reach-tells : (h x : ℕ) → IsTrue (reach h x) ↔ Reaches store.kept h x
  reach-tells h x =
      let start : ℕ → Bool = λ z. z == h && is_kept store.kept z in
      subst (λ (births : List ℕ). IsTrue (is_in x births) ↔ Reaches store.kept h x) (sym (led-is start (refers store.kept) (births_of store))) (tells_revived store.kept (Some h) x)

  abbrev behind-it : ℕ → ℕ → Bool
  behind-it x h = reach x h && not (stands_before h x (registered_births store))

  chosen-tells : Tells (chosen_in store) (IsChosen store)
  chosen-tells x = (
    λ t. let dying : IsTrue (is_dying store x) = and_first (is_dying store x) (list_all (gives_way store x) (registered_births store)) t in (
      dying,
      λ h other dh r.
          let w : IsTrue (behind-it x h) =
          way (h == x) (is_dying store h) (reach h x) (behind-it x h) (λ e. other (equal h x e)) dh ((reach-tells h x).1 r)
          (list_all-is_in (gives_way store x) h (registered_births store) (and_second (is_dying store x) (list_all (gives_way store x) (registered_births store)) t) (dying-registered h dh)) in (
            (reach-tells x h).0 (and_first (reach x h) (not (stands_before h x (registered_births store))) w),
            not_false (stands_before h x (registered_births store)) (and_second (reach x h) (not (stands_before h x (registered_births store))) w),
          ),
    ),
    λ c. and_both (is_dying store x) (list_all (gives_way store x) (registered_births store)) c.0 (list_all-each (gives_way store x) (registered_births store)
        (λ h m. opened (h == x) (is_dying store h) (reach h x) (behind-it x h)
        (λ a b r. let p : Reaches store.kept x h × IsFalse (stands_before h x (registered_births store)) =
        c.1 h (λ e. false≢true (sym a ∙ same_birth h x e)) b ((reach-tells h x).0 r) in
        and_both (reach x h) (not (stands_before h x (registered_births store))) ((reach-tells x h).1 p.0)
        (not_true (stands_before h x (registered_births store)) p.1)))),
  )

chosen-listed : (store : Store) (kept : IsTrue (list_all (is_kept store.kept) (registered_births store))) → Tells (among (chosen_of store)) (IsChosen store)
chosen-listed store kept x =
    let is : is_in x (chosen_of store) ≡ (chosen_in store x && is_in x (registered_births store)) = is_in-filter (chosen_in store) x (registered_births store) in (
      λ t. (chosen-tells store kept x).0 (and_first (chosen_in store x) (is_in x (registered_births store)) (sym is ∙ t)),
      λ c. is ∙ and_both (chosen_in store x) (is_in x (registered_births store)) ((chosen-tells store kept x).1 c) (dying-registered store kept x c.0),
    )

end-by-means : (settings : Settings) (store : Store) (choices : List Choice) → Means (EndOfMarking settings) store (end_by (saved_in store) (chosen_of store) settings store choices)
end-by-means settings store choices h =
    let all : Bool = list_all (is_kept store.kept) (registered_births store) in
    let both : IsTrue (is_marked store && all) = and_first (is_marked store && all) true h in
    let kept : IsTrue all = and_second (is_marked store) all both in record {
      marked = marked-means store (and_first (is_marked store) all both);
      saved = among (saved_in store);
      tells_saved = saved-tells store kept;
      chosen = among (chosen_of store);
      tells_chosen = chosen-listed store kept;
      printed = refl;
      leaves = refl;
    }

end-means : (settings : Settings) (store : Store) (choices : List Choice) → Means (EndOfMarking settings) store (end_of settings store choices)
end-means settings store choices =
    let saved : List ℕ = saved_in store in
    let chosen : List ℕ = chosen_of store in
    let is : end_of settings store choices ≡ end_by saved chosen settings store choices =
    list-is saved (λ saved. with_list chosen (λ chosen. end_by saved chosen settings store choices)) ∙ list-is chosen (λ chosen. end_by saved chosen settings store choices) in
    subst (Means (EndOfMarking settings) store) (sym is) (end-by-means settings store choices)

go-means : (b : Bool) (settings : Settings) (visits : List Line) (store : Store) (choices : List Choice) → IsTrue (ok_of (go_on b settings visits store choices))
    → GoesOn b settings store visits (lines_in (go_on b settings visits store choices)) (store_in (go_on b settings visits store choices))
go-means true settings visits store choices = λ h. (refl, refl)
go-means false settings visits store choices =
    let end : Outcome = end_of settings store choices in
    subst (λ (out : Outcome). IsTrue (ok_of out) → GoesOn false settings store visits (lines_in out) (store_in out)) (sym (behind-is true (line.Stepped Marking Sweeping ∷ visits) end))
    (λ h. ((lines_in end), end-means settings store choices h, refl))

mark-means : (settings : Settings) (store : Store) (choices : List Choice) → Means (MarkingStep settings) store (mark_of settings store choices)
mark-means settings store [] = λ h. absurd (false≢true h)
mark-means settings store (At place ∷ choices) = λ h. absurd (false≢true h)
mark-means settings store (Old is_old ∷ choices) = λ h. absurd (false≢true h)
mark-means settings store (Frees births ∷ choices) = λ h. absurd (false≢true h)
mark-means settings store (Visits births ∷ choices) =
    let enough : Bool = nat_le settings.increment (visited_words store.kept births) in
    let out : Outcome = go_on enough settings (map (λ x. line.Visited x) births) (with_visited store births) choices in
    subst (Means (MarkingStep settings) store) (sym (only-is (can_visit settings.increment store births) out)) (λ h. record {
      births = births;
      can = can-means settings.increment store births (and_first (can_visit settings.increment store births) (ok_of out) h);
      goes_on = go-means enough settings (map (λ x. line.Visited x) births) (with_visited store births) choices (and_second (can_visit settings.increment store births) (ok_of out) h);
    })

may-means : (phase : Phase) (store : Store) → IsTrue (may_be phase store) → MayEndIn phase store
may-means Scanning store h = absurd (false≢true h)
may-means Marking store h = absurd (false≢true h)
may-means Sweeping store h = lt_of 0 store.left h
may-means Finalizing store h = none store.husks h
  where
    none : {X : Type 0} (xs : List X) → IsTrue (is_empty xs) → xs ≡ []
    none [] t = refl
    none (x ∷ xs) t = absurd (false≢true t)

sweep-means : (phase : Phase) (settings : Settings) (freed : ℕ → Bool) (store : Store) (choices : List Choice) → Means (SweepingStep settings) store (sweep_to phase settings freed store choices)
sweep-means phase settings freed store choices h =
    let small : ℕ = husk_words (filter (λ husk. nat_le husk.1 (small_words settings)) (husks_where store.husks freed)) in
    let large : ℕ = length (filter (λ husk. nat_lt (small_words settings) husk.1) (husks_where store.husks freed)) in
    let may : Bool = may_be phase (after_sweep store freed phase) in
    let few : Bool = nat_le small (settings.sweep * settings.page) in
    let few_large : Bool = nat_le large settings.sweep in
    let all : IsTrue (few && (few_large && may)) = and_first (few && (few_large && may)) true h in
    let rest : IsTrue (few_large && may) = and_second few (few_large && may) all in record {
      freed = freed;
      phase = phase;
      few_small = le_of small (settings.sweep * settings.page) (and_first few (few_large && may) all);
      few_large = le_of large settings.sweep (and_first few_large may rest);
      may_end = may-means phase (after_sweep store freed phase) (and_second few_large may rest);
      printed = refl;
      leaves = refl;
    }

step-means : (phase : Phase) (settings : Settings) (store : Store) (choices : List Choice) → Means (StepFrom phase settings) store (step_from phase settings store choices)
step-means Scanning settings store choices h = start-means store choices
step-means Marking settings store choices h = mark-means settings store choices h
step-means Sweeping settings store [] h = absurd (false≢true h)
step-means Sweeping settings store (At place ∷ choices) h = absurd (false≢true h)
step-means Sweeping settings store (Old is_old ∷ choices) h = absurd (false≢true h)
step-means Sweeping settings store (Visits births ∷ choices) h = absurd (false≢true h)
step-means Sweeping settings store (Frees births ∷ choices) h = sweep-means (swept_phase (husks_where store.husks (λ x. not (is_in x births)))) settings (λ x. is_in x births) store choices h
step-means Finalizing settings store choices h = (refl, refl)

when-means : (b : Bool) (event : Event) (Allowed : Store → List Line → Store → Type 0) → ((store : Store) (choices : List Choice) → Means Allowed store (event store choices))
    → (store : Store) (choices : List Choice) → Means (When b Allowed) store (when b event store choices)
when-means true event Allowed means store choices h = means store choices h
when-means false event Allowed means store choices h = (refl, refl)

block-from : (is_due : Store → Bool) (settings : Settings) (store : Store) (choices : List Choice) → let minor : Outcome = minor_of store choices in
    Means (Block is_due settings) store (joined minor (when (is_due (store_in minor)) (step_of settings) (store_in minor) (left_in minor)))
block-from is_due settings store choices h =
    let minor : Outcome = minor_of store choices in
    let major : Outcome = when (is_due (store_in minor)) (step_of settings) (store_in minor) (left_in minor) in record {
      mid = (store_in minor);
      minor = (lines_in minor);
      major = (lines_in (when (is_due (store_in minor)) (step_of settings) (store_in minor) (left_in minor)));
      collected = minor-means store choices;
      stepped = when-means (is_due (store_in minor)) (step_of settings) (MajorStep settings) (λ s c. step-means s.phase settings s c) (store_in minor) (left_in minor) (and_second (ok_of minor) (ok_of major) h);
      printed = refl;
    }

pub block-means : (is_due : Store → Bool) (settings : Settings) (store : Store) (choices : List Choice) → Means (Block is_due settings) store (block_of is_due settings store choices)
block-means is_due settings store choices =
    means-then (Block is_due settings) store (due_step is_due settings) (minor_of store choices) (block-from is_due settings store choices)

scanning : (phase : Phase) → is_scanning phase ≡ true → phase ≡ Scanning
scanning Scanning e = refl
scanning Marking e = absurd (false≢true e)
scanning Sweeping e = absurd (false≢true e)
scanning Finalizing e = absurd (false≢true e)

not_scanning : (phase : Phase) → is_scanning phase ≡ false → phase ≢ Scanning
not_scanning phase f e = false≢true (sym f ∙ ap is_scanning e)

cycle-end : (settings : Settings) (store : Store) (more : Event) → ((s : Store) (c : List Choice) → Means (Cycle settings) s (more s c)) → (block : Outcome) → Means (Block always settings) store block
    → (b : Bool) → is_scanning (store_in block).phase ≡ b → Means (Cycle settings) store (joined block (when (not b) more (store_in block) (left_in block)))
cycle-end settings store more means block is true e = λ h.
    subst (λ (lines : List Line). Cycle settings store lines (store_in block)) (sym (append-nil (lines_in block))) (Last (is (and_first (ok_of block) true h)) (scanning (store_in block).phase e))
cycle-end settings store more means block is false e = λ h.
    let rest : Outcome = more (store_in block) (left_in block) in
    More (is (and_first (ok_of block) (ok_of rest) h)) (not_scanning (store_in block).phase e) (means (store_in block) (left_in block) (and_second (ok_of block) (ok_of rest) h))

cycle-means : (n : ℕ) (settings : Settings) (store : Store) (choices : List Choice) → Means (Cycle settings) store (cycle_of n settings store choices)
cycle-means zero settings store choices = λ h. absurd (false≢true h)
cycle-means (suc n) settings store choices =
    let block : Outcome = block_of always settings store choices in
    means-then (Cycle settings) store (go_round (cycle_of n settings)) block
    (cycle-end settings store (cycle_of n settings) (cycle-means n settings) block (block-means always settings store choices) (is_scanning (store_in block).phase) refl)

two-means : (settings : Settings) (store : Store) (choices : List Choice) → Means (TwoCycles settings) store (then_from (cycle_of 9 settings) (cycle_of 9 settings store choices))
two-means settings store choices =
    let first : Outcome = cycle_of 9 settings store choices in
    let second : Outcome = cycle_of 9 settings (store_in first) (left_in first) in
    means-then (TwoCycles settings) store (cycle_of 9 settings) first (λ h. record {
      mid = (store_in first);
      first = (lines_in first);
      second = (lines_in second);
      ends = cycle-means 9 settings store choices (and_first (ok_of first) (ok_of second) h);
      again = cycle-means 9 settings (store_in first) (left_in first) (and_second (ok_of first) (ok_of second) h);
      printed = refl;
    })

pub collect-means : (phase : Phase) (settings : Settings) (store : Store) (choices : List Choice) → Means (CollectFrom phase settings) store (collect_from phase settings store choices)
collect-means Scanning settings store choices h = cycle-means 9 settings store choices h
collect-means Marking settings store choices h = two-means settings store choices h
collect-means Sweeping settings store choices h = two-means settings store choices h
collect-means Finalizing settings store choices h = two-means settings store choices h

pub room-means : (settings : Settings) (words : ℕ) (store : Store) (choices : List Choice) → IsTrue (ok_of (room_of settings words store choices))
    → MakesRoom settings store words (lines_in (room_of settings words store choices)) (store_in (room_of settings words store choices))
room-means settings words store choices =
    let due : Bool = needs_block settings store words in
    let block : Outcome = when due (block_of is_step_due settings) store choices in
    let over : Bool = exceeds_limit settings (store_in block) words in
    let whole : Outcome = when over (collect_of settings) (store_in block) (left_in block) in
    means-then (λ old lines new. MakesRoom settings old words lines new) store (due_collect settings words) block (λ h. record {
      mid = (store_in block);
      first = (lines_in block);
      second = (lines_in whole);
      block = when-means due (block_of is_step_due settings) (Block is_step_due settings) (block-means is_step_due settings) store choices (and_first (ok_of block) (ok_of whole) h);
      collect = when-means over (collect_of settings) (Collects settings) (λ s c. collect-means s.phase settings s c) (store_in block) (left_in block) (and_second (ok_of block) (ok_of whole) h);
      printed = refl;
    })
