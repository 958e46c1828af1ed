-- After a whole collection each object of a generated script is of type 1 or in a slot.
use Rattle.std.proofs.Common.{◌≡◌, ◌≢◌, ℕ, ◌⊎◌, Bool, true, false, IsTrue, List, [], ◌∷◌, ◌++◌, map, Option, Some, refl, sym, ap, ◌∙◌, subst, inl, inr}
use Rattle.std.specs.Prelude.{IsFalse, not, filter_map, flat_map, is_some, nat_le}
use Rattle.std.proofs.lemmas.Bool.{cases_Bool}
use Rattle.type_table.specs.Table.{Table}
use Rattle.text_model.specs.declared.line.Line.{Line}
use Rattle.text_model.specs.declared.line.Line.TheVariants as line
use Rattle.text_model.specs.declared.line.Phase.{Phase}
use Rattle.text_model.specs.declared.line.Phase.TheVariants.{Scanning, Marking, Sweeping, Finalizing}
use Rattle.object_model.specs.Object.{Object, object_at}
use Rattle.object_model.specs.Sets.{is_in}
use Rattle.object_model.specs.Shapes.{kind_of}
use Rattle.object_model.proofs.Members.{and_first, is_in-nil, in-either}
use Rattle.store_model.specs.Store.{Store, Struct}
use Rattle.store_model.specs.Roots.{is_kept, roots_of, registered_births, pinned_births, referents_in}
use Rattle.store_model.specs.Structs.{forced_objects}
use Rattle.store_model.specs.Reach.{Leads, IsRetained, refers}
use Rattle.store_model.specs.MinorCollection.{MinorCollection}
use Rattle.store_model.specs.Marking.{StartOfMarking, GoesOn, with_visited, visited_words}
use Rattle.store_model.specs.Sweeping.{MayEndIn}
use Rattle.store_model.specs.Collections.{StepFrom, Block, Cycle, Last, More, TwoCycles, CollectFrom, always}
use Rattle.store_model.specs.Sound.{IsSound, IsPhaseSound}
use Rattle.store_model.proofs.After.{in_births_where}
use Rattle.store_model.proofs.CollectionsSound.{IsWell, block_leaves, collect_leaves}
use Rattle.store_model.proofs.Form.{minor_form}
use Rattle.store_model.proofs.MinorSound.{minor_sound, minor_links_sound}
use Rattle.store_model.proofs.RootLaws.{roots_each}
use Rattle.bench_laws.proofs.Left.{IsPlain, Thins, minor_thins, step_thins, collect_thins}
use Rattle.bench_laws.proofs.Forms.{HasForm, IsGenerated, pair, bench_settings, sweeps, generated_left}

-- the last step of a path
last_step : (step : ℕ → ℕ → Bool) (x : ℕ) (path : List ℕ) (y : ℕ) → Leads step x path y → (x ≡ y) ⊎ ((z : ℕ) × IsTrue (step z y))
last_step step x [] y leads = inl leads
last_step step x (z ∷ path) y leads = elim (last_step step z path y leads.1) [
  | inl same ↦ inr (x, subst (λ (k : ℕ). IsTrue (step x k)) same leads.0)
  | inr more ↦ inr more
]

-- the roots of a plain store are what its slots hold
module _ {store : Store} (p : IsPlain store) (x : ℕ) where
  none_in : {xs : List ℕ} {A : Type 0} → xs ≡ [] → IsTrue (is_in x xs) → A
  none_in is t = absurd (is_in-nil x (subst (λ (ys : List ℕ). IsTrue (is_in x ys)) is t))

  in_slot : IsTrue (is_in x (roots_of store ++ registered_births store)) → IsTrue (is_in x (filter_map (λ slot. slot) store.slots))
  in_slot t = elim (in-either x (roots_of store) (registered_births store) t) [
    | inl root ↦ roots_each {store = store} {P = λ y. (y ≡ x) → IsTrue (is_in y (filter_map (λ slot. slot) store.slots))} (record {
      slot = λ y u e. u;
      pin = λ y u e. none_in {xs = pinned_births store} (ap (λ (l : List (ℕ × ℕ)). map (λ entry. entry.0) l) p.pinned) (subst (λ (k : ℕ). IsTrue (is_in k (pinned_births store))) e u);
      choice = λ y u e. none_in {xs = map (λ entry. entry.0) store.chosen} (ap (λ (l : List (ℕ × ℕ)). map (λ entry. entry.0) l) p.chosen) (subst (λ (k : ℕ). IsTrue (is_in k (map (λ entry. entry.0) store.chosen))) e u);
      queue = λ y u e. none_in {xs = flat_map (λ entry. entry.1) store.queues} (ap (λ (l : Table (List ℕ)). flat_map (λ entry. entry.1) l) p.queues) (subst (λ (k : ℕ). IsTrue (is_in k (flat_map (λ entry. entry.1) store.queues))) e u);
      force = λ y u e. none_in {xs = forced_objects store.structs} (ap (λ (l : Table Struct). forced_objects l) p.structs) (subst (λ (k : ℕ). IsTrue (is_in k (forced_objects store.structs))) e u);
    }) x root refl
    | inr registered ↦ none_in {xs = registered_births store} (ap (λ (l : List (ℕ × ℕ)). map (λ entry. entry.0) l) p.registered) registered
  ]

-- A store without husks, each of whose objects is of type 1 or in a slot.
pub record IsTidy (store : Store) : Type 0 where
  pub no_husks : store.husks ≡ []
  pub needed : (x : ℕ) (o : Object) → object_at store.kept x ≡ Some o → (kind_of o ≡ pair) ⊎ IsTrue (is_in x (filter_map (λ slot. slot) store.slots))

-- what is retained in a store of a generated script is of type 1 or in a slot
retained_needed : {filled most : ℕ} {old : Store} → IsGenerated filled most old → (x : ℕ) → IsRetained old x → HasForm old.kept x pair ⊎ IsTrue (is_in x (filter_map (λ slot. slot) old.slots))
retained_needed {old = old} g x r = elim (last_step (refers old.kept) r.0 r.2 x r.3) [
  | inl same ↦ inr (in_slot g.plain x (subst (λ (k : ℕ). IsTrue (is_in k (roots_of old ++ registered_births old))) same
      (and_first (is_in r.0 (roots_of old ++ registered_births old)) (is_kept old.kept r.0) r.1)))
  | inr step ↦ inl (g.objects.references step.0 x (and_first (is_in x (referents_in (object_at old.kept step.0))) (is_kept old.kept x) step.1))
]

-- each object that is not doomed is of type 1 or in a slot
record AreNeeded (store : Store) : Type 0 where
  pub each : (x : ℕ) (o : Object) → object_at store.kept x ≡ Some o → IsFalse (is_in x store.doomed) → (kind_of o ≡ pair) ⊎ IsTrue (is_in x (filter_map (λ slot. slot) store.slots))

needed_later : {old new : Store} → Thins old new → new.doomed ≡ old.doomed → AreNeeded old → AreNeeded new
needed_later thins doomed n = record {
  each = λ x o e f. let l = thins.objects.each x o e in elim (n.each x l.was l.there (subst (λ (xs : List ℕ). IsFalse (is_in x xs)) doomed f)) [
    | inl form ↦ inl (l.form ∙ form)
    | inr slot ↦ inr (subst (λ (slots : List (Option ℕ)). IsTrue (is_in x (filter_map (λ s. s) slots))) (sym thins.slots) slot)
  ];
}

start_needed : {filled most : ℕ} (old : Store) (lines : List Line) (new : Store) → IsGenerated filled most old → StartOfMarking old lines new → AreNeeded new
start_needed old lines new g s = subst AreNeeded (sym s.leaves) (record {
  each = λ x o e f. elim (cases_Bool (s.retained x)) [
    | inl t ↦ elim (retained_needed g x ((s.tells_retained x).0 t)) [ inl form ↦ inl (form.is o e) | inr slot ↦ inr slot ]
    | inr out ↦ absurd (
        let doomed = in_births_where old.kept (λ y. not (s.retained y)) x (ap not out) (ap (λ (found : Option Object). is_some found) e) in let no : ⊥ = cc in no)
  ];
})

-- only the start of marking dooms objects
step_doomed : (phase : Phase) (old : Store) (lines : List Line) (new : Store) → phase ≢ Scanning → StepFrom phase bench_settings old lines new → new.doomed ≡ old.doomed
step_doomed Scanning old lines new runs s = absurd (runs refl)
step_doomed Marking old lines new runs s = go (nat_le bench_settings.increment (visited_words old.kept s.births)) s.goes_on
  where
    go : (b : Bool) → GoesOn b bench_settings (with_visited old s.births) (map (λ x. line.Visited x) s.births) lines new → new.doomed ≡ old.doomed
    go true g = ap (λ (store : Store). store.doomed) g.1
    go false (rest, e, is) = ap (λ (store : Store). store.doomed) e.leaves
step_doomed Sweeping old lines new runs s = ap (λ (store : Store). store.doomed) s.leaves
step_doomed Finalizing old lines new runs s = ap (λ (store : Store). store.doomed) s.1

block_needed : (old : Store) (lines : List Line) (new : Store) → old.phase ≢ Scanning → AreNeeded old → Block always bench_settings old lines new → AreNeeded new
block_needed old lines new runs n b =
    let phase : b.mid.phase ≡ old.phase = ap (λ (store : Store). store.phase) b.collected.leaves in
    let doomed : b.mid.doomed ≡ old.doomed = ap (λ (store : Store). store.doomed) b.collected.leaves in
    needed_later (step_thins b.mid.phase bench_settings b.mid b.major new b.stepped) (step_doomed b.mid.phase b.mid b.major new (λ e. runs (sym phase ∙ e)) b.stepped)
    (needed_later (minor_thins old b.minor b.mid b.collected) doomed n)

minor_well : (old : Store) (lines : List Line) (new : Store) → IsWell bench_settings sweeps old → MinorCollection old lines new → IsWell bench_settings sweeps new
minor_well old lines new w c = record {
  sound = subst (IsSound bench_settings) (sym c.leaves) (minor_sound bench_settings old c.survives c.tells w.sound (minor_links_sound old c.survives w.sound.links));
  form = minor_form old lines new w.form c;
}

-- A cycle ends with a step of the phase Finalizing, in which no doomed object is kept.
last_step_tidy : (phase : Phase) (old : Store) (lines : List Line) (new : Store) → old.phase ≡ phase → phase ≢ Scanning → IsSound bench_settings old → AreNeeded old
    → StepFrom phase bench_settings old lines new → new.phase ≡ Scanning → IsTidy new
last_step_tidy Scanning old lines new is runs sound n s ends = absurd (runs refl)
last_step_tidy Marking old lines new is runs sound n s ends = go (nat_le bench_settings.increment (visited_words old.kept s.births)) s.goes_on
  where
    go : (b : Bool) → GoesOn b bench_settings (with_visited old s.births) (map (λ x. line.Visited x) s.births) lines new → IsTidy new
    go true g = absurd (let clash : Scanning ≡ Marking = sym ends ∙ (ap (λ (store : Store). store.phase) g.1 ∙ is) in let no : ⊥ = cc in no)
    go false (rest, e, printed) = absurd (let clash : Scanning ≡ Sweeping = sym ends ∙ ap (λ (store : Store). store.phase) e.leaves in let no : ⊥ = cc in no)
last_step_tidy Sweeping old lines new is runs sound n s ends =
    let phase : s.phase ≡ Scanning = sym (ap (λ (store : Store). store.phase) s.leaves) ∙ ends in
    absurd (subst (λ (p : Phase). MayEndIn p new) phase s.may_end)
last_step_tidy Finalizing old lines new is runs sound n s ends =
    let p : IsPhaseSound Finalizing bench_settings.sweep old = subst (λ (phase : Phase). IsPhaseSound phase bench_settings.sweep old) is sound.phase in
    let out : (x : ℕ) → IsTrue (is_kept old.kept x) → IsFalse (is_in x old.doomed) = λ x t. elim (cases_Bool (is_in x old.doomed)) [
      | inl doomed ↦ absurd (let gone = p.1 x doomed in let no : ⊥ = cc in no)
      | inr f ↦ f
    ] in
    subst IsTidy (sym s.1) (record {
      no_husks = p.0;
      needed = λ x o e. n.each x o e (out x (ap (λ (found : Option Object). is_some found) e));
    })

cycle_tidy : (old : Store) (lines : List Line) (new : Store) → old.phase ≢ Scanning → IsWell bench_settings sweeps old → AreNeeded old → Cycle bench_settings old lines new → IsTidy new
cycle_tidy old lines new runs w n (Last block ends) =
    let phase : block.mid.phase ≡ old.phase = ap (λ (store : Store). store.phase) block.collected.leaves in
    let doomed : block.mid.doomed ≡ old.doomed = ap (λ (store : Store). store.doomed) block.collected.leaves in
    last_step_tidy block.mid.phase block.mid block.major new refl (λ e. runs (sym phase ∙ e)) (minor_well old block.minor block.mid w block.collected).sound
    (needed_later (minor_thins old block.minor block.mid block.collected) doomed n) block.stepped ends
cycle_tidy old _ new runs w n (More {mid = mid} {lines = first} {rest = rest} block goes_on cycle) =
    cycle_tidy mid rest new goes_on (block_leaves bench_settings sweeps always old first mid w block).well (block_needed old first mid runs n block) cycle

-- the first block of a whole cycle
first_block : {filled most : ℕ} (old : Store) (lines : List Line) (new : Store) → old.phase ≡ Scanning → IsGenerated filled most old → Block always bench_settings old lines new → AreNeeded new × (new.phase ≡ Marking)
first_block old lines new scanning g b =
    let phase : b.mid.phase ≡ Scanning = ap (λ (store : Store). store.phase) b.collected.leaves ∙ scanning in
    let mid = generated_left (minor_thins old b.minor b.mid b.collected) (minor_well old b.minor b.mid g.well b.collected) g in
    let start : StartOfMarking b.mid b.major new = subst (λ (p : Phase). StepFrom p bench_settings b.mid b.major new) phase b.stepped in
    (start_needed b.mid b.major new mid start, ap (λ (store : Store). store.phase) start.leaves)

whole_tidy : {filled most : ℕ} (old : Store) (lines : List Line) (new : Store) → old.phase ≡ Scanning → IsGenerated filled most old → Cycle bench_settings old lines new → IsTidy new
whole_tidy old lines new scanning g (Last block ends) =
    let first = first_block old lines new scanning g block in absurd (let clash : Scanning ≡ Marking = sym ends ∙ first.1 in let no : ⊥ = cc in no)
whole_tidy old _ new scanning g (More {mid = mid} {lines = first} {rest = rest} block goes_on cycle) =
    cycle_tidy mid rest new goes_on (block_leaves bench_settings sweeps always old first mid g.well block).well (first_block old first mid scanning g block).0 cycle

cycle_ends : (old : Store) (lines : List Line) (new : Store) → Cycle bench_settings old lines new → new.phase ≡ Scanning
cycle_ends old lines new (Last block ends) = ends
cycle_ends old _ new (More {mid = mid} {lines = first} {rest = rest} block goes_on cycle) = cycle_ends mid rest new cycle

two_tidy : {filled most : ℕ} (old : Store) (lines : List Line) (new : Store) → IsGenerated filled most old → TwoCycles bench_settings old lines new → IsTidy new
two_tidy old lines new g c =
    let mid = generated_left (collect_thins Scanning bench_settings old c.first c.mid c.ends) (collect_leaves bench_settings sweeps Scanning old c.first c.mid g.well c.ends).well g in
    whole_tidy c.mid c.second new (cycle_ends old c.first c.mid c.ends) mid c.again

pub collect_tidy : {filled most : ℕ} (phase : Phase) (old : Store) (lines : List Line) (new : Store) → old.phase ≡ phase → IsGenerated filled most old → CollectFrom phase bench_settings old lines new → IsTidy new
collect_tidy Scanning old lines new is g c = whole_tidy old lines new is g c
collect_tidy Marking old lines new is g c = two_tidy old lines new g c
collect_tidy Sweeping old lines new is g c = two_tidy old lines new g c
collect_tidy Finalizing old lines new is g c = two_tidy old lines new g c
