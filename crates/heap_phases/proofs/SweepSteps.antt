-- A step of sweeping: some units are swept, and the phase changes where none is left.
use Rattle.std.proofs.Common.{◌≡◌, ◌≢◌, ℕ, zero, suc, ◌+◌, ◌*◌, ◌≤◌, ◌<◌, ◌⊎◌, Bool, true, false, IsTrue, List, [], ◌∷◌, ◌++◌, map, length, refl, sym, ap, ap₂, ◌∙◌, subst, inl, inr, arith}
use Rattle.std.specs.Prelude.{min, nat_le, nat_lt, sum_by, not, ◌-◌, ◌==◌, ◌&&◌, ◌||◌, filter, if◌then◌else◌}
use Rattle.std.proofs.lemmas.Bool.{cases_lt}
use Rattle.std.proofs.lemmas.List.Folds.{list_any-append}
use Rattle.type_table.specs.Table.{Table, KeysRise}
use Rattle.heap_space.specs.Memory.{Memory}
use Rattle.object_model.proofs.Members.{is_in-head, in-right}
use Rattle.old_space.specs.Sweeping.{SweepsLowest, in_unit, units_left}
use Rattle.old_space.specs.declared.Old.{Old}
use Rattle.sweep_steps.specs.Steps.{Sweeps, Done, Then}
use Rattle.text_model.specs.declared.line.Phase.{Phase}
use Rattle.text_model.specs.declared.line.Phase.TheVariants.{Sweeping, Finalizing}
use Rattle.object_model.specs.Sets.{is_in}
use Rattle.store_model.specs.Store.{Store, husk_words}
use Rattle.object_model.specs.Setup.{small_words}
use Rattle.std.proofs.lemmas.List.Sums.{sum_by-cons}
use Rattle.std.proofs.lemmas.Nat.{mul-le}
use Rattle.store_model.specs.Sweeping.{husks_where, is_freed, after_sweep, MayEndIn, SweepingStep}
use Rattle.store_model.specs.Sound.{IsSound, IsPhaseSound}
use Rattle.heap_parts.specs.Parts.{HeapParts, word_in, home_in}
use Rattle.heap_parts.specs.OldSpace.{AreUnitsSwept, is_waiting, husk_at, blocks_of, unit_at}
use Rattle.heap_parts.specs.Order.{IsGrayOf}
use Rattle.heap_parts.specs.Headers.{is_marked}
use Rattle.heap_parts.specs.StandsFor.{PartsStandFor, HoldsVisited}
use Rattle.heap_phases.specs.Swept.{without_husks, swept_parts, freed_words}
use Rattle.heap_phases.proofs.SweepStands.{SweepsOne, unit_stands, unit_waiting, unit_freed, unit_few_small, unit_few_large}
use Rattle.heap_phases.proofs.UnitOffers.{waits_once, units_tell, units_counted}
use Rattle.old_space.specs.HasBlocks.{HasBlocks}
use Rattle.std.proofs.lemmas.Bool.Decides.{nat_tests, eqb_tells}
use Rattle.heap_space.specs.Extents.{Extent, Each}
use Rattle.heap_parts.specs.Places.{young_places, old_places, RiseBetween}
use Rattle.std.specs.List.Sorted.{IsPermutation, IsNonDecreasing}
use Rattle.std.proofs.lemmas.List.{map-append}
use Rattle.std.proofs.lemmas.List.Sorted.{IsPermutation-refl, IsPermutation-sym, IsPermutation-trans, IsPermutation-map, IsPermutation-filter_both, IsPermutation-append_left, IsPermutation-append_right}
use Rattle.text_model.specs.declared.line.Line.{Line}
use Rattle.text_model.specs.declared.line.Line.TheVariants.{Stepped, Freed}
use Rattle.frame_laws.proofs.RiseLines.{sorted_births, keys_between}
use Rattle.store_model.proofs.MarkedSound.{entry_part}
use Rattle.object_model.specs.Object.{Object}
use Rattle.type_table.proofs.TableLaws.{KeysRise-entries_where}
use Rattle.std.proofs.lemmas.Simd.{map-map}
use Rattle.frame_laws.proofs.Filters.{filter_all}

-- the phase of the heap
abbrev pub in_phase : HeapParts → Phase → HeapParts
in_phase heap phase = record heap { phase = phase }

abbrev pub step_done : Store → Phase → Store
step_done store phase = record store { phase = phase; left = store.left - 1 }

module _ (heap : HeapParts) (store : Store) (s : PartsStandFor heap store) (sweeping : heap.phase ≡ Sweeping) where
  store-sweeping : store.phase ≡ Sweeping
  store-sweeping = s.counts.phase_is ∙ sweeping

  phase-sound : IsPhaseSound Sweeping heap.setup.settings.sweep store
  phase-sound = subst (λ (p : Phase). IsPhaseSound p heap.setup.settings.sweep store) store-sweeping s.sound.phase

  sound-in : (phase : Phase) (left : ℕ) → IsPhaseSound phase heap.setup.settings.sweep (record store { phase = phase; left = left })
      → IsSound heap.setup.settings (record store { phase = phase; left = left })
  sound-in phase left p = record {
    fields = s.sound.fields;
    settled = s.sound.settled;
    roots = s.sound.roots;
    registered = s.sound.registered;
    pins = s.sound.pins;
    waiting = s.sound.waiting;
    queues_rise = s.sound.queues_rise;
    once = s.sound.once;
    roots_reached = s.sound.roots_reached;
    unreached_cut_off = s.sound.unreached_cut_off;
    unreached_born = s.sound.unreached_born;
    roots_retained = s.sound.roots_retained;
    registered_retained = s.sound.registered_retained;
    doomed_cut_off = s.sound.doomed_cut_off;
    doomed_born = s.sound.doomed_born;
    phase = p;
    links = s.sound.links;
    births = s.sound.births;
  }

  stands-in : (phase : Phase) (left : ℕ) → HoldsVisited (word_in heap) phase heap.setup.settings.page store.visited s.places s.waiting s.name → IsGrayOf phase heap.gray
      → AreUnitsSwept phase heap.setup.settings.sweep left s.waiting → IsSound heap.setup.settings (record store { phase = phase; left = left })
      → PartsStandFor (in_phase heap phase) (record store { phase = phase; left = left })
  stands-in phase left visited gray units sound = record {
    places = s.places;
    name = s.name;
    husks = s.husks;
    waiting = s.waiting;
    words = s.words;
    headers = s.headers;
    young_flags = s.young_flags;
    visited = visited;
    remembered = s.remembered;
    births = s.births;
    slots = s.slots;
    pins = s.pins;
    finalizers = s.finalizers;
    links = s.links;
    homes = s.homes;
    gray = s.gray;
    gray_phase = gray;
    sums = s.sums;
    husk_list = s.husk_list;
    counts = record {
      next_is = s.counts.next_is;
      threshold_is = s.counts.threshold_is;
      threshold_low = s.counts.threshold_low;
      threshold_high = s.counts.threshold_high;
      fresh_is = s.counts.fresh_is;
      phase_is = refl;
      gapped_is = s.counts.gapped_is;
    };
    ungapped = s.ungapped;
    units = units;
    made = s.made;
    order = s.order;
    sound = sound;
  }

  -- units are left, and so steps are
  pub goes_on_sweeping : length s.waiting ≤ (store.left - 1) * heap.setup.settings.sweep → 0 < store.left - 1 → PartsStandFor (in_phase heap Sweeping) (step_done store Sweeping)
  goes_on_sweeping few some = stands-in Sweeping (store.left - 1)
      (record { each = λ p t. s.visited.each p t ∙ ap (λ (ph : Phase). is_marked ph store.visited s.name heap.setup.settings.page s.waiting p) sweeping })
      (subst (λ (ph : Phase). IsGrayOf ph heap.gray) sweeping s.gray_phase) (few, some)
      (sound-in Sweeping (store.left - 1) (let l = phase-sound.0 in omega (arith, l), phase-sound.1, phase-sound.2))

  pub no_husks : s.waiting ≡ [] → store.husks ≡ []
  no_husks none = s.words.husk.reads ∙ empty s.husks (λ p t. s.words.husk.waits p t)
    where
      empty : (hs : List ℕ) → ((p : ℕ) → IsTrue (is_in p hs) → is_waiting heap.setup.settings.page s.waiting p ≡ true) → map (husk_at heap.setup.types (word_in heap)) hs ≡ []
      empty [] waits = refl
      empty (h ∷ hs) waits = absurd (let w = waits h (is_in-head h hs) in let f : is_waiting heap.setup.settings.page s.waiting h ≡ false = ap (λ (ws : List ℕ). is_waiting heap.setup.settings.page ws h) none in let no : ⊥ = cc in no)

  -- no unit is left
  pub ends_sweeping : s.waiting ≡ [] → PartsStandFor (in_phase heap Finalizing) (step_done store Finalizing)
  ends_sweeping none = stands-in Finalizing (store.left - 1)
      (record {
        each = λ p t. s.visited.each p t ∙ (ap (λ (ph : Phase). is_marked ph store.visited s.name heap.setup.settings.page s.waiting p) sweeping
            ∙ ap (λ (ws : List ℕ). is_waiting heap.setup.settings.page ws p) none);
      })
      (subst (λ (ph : Phase). IsGrayOf ph heap.gray) sweeping s.gray_phase) none
      (sound-in Finalizing (store.left - 1) (no_husks none, phase-sound.1, phase-sound.2))

-- husks without some and then without others

twice-bool : (a b d : Bool) → (not (a && d) && not (b && (d && not a))) ≡ not ((a || b) && d)
twice-bool true true true = refl
twice-bool true true false = refl
twice-bool true false true = refl
twice-bool true false false = refl
twice-bool false true true = refl
twice-bool false true false = refl
twice-bool false false true = refl
twice-bool false false false = refl

pub both-bool : (a b : Bool) → (not a && not b) ≡ not (a || b)
both-bool true b = refl
both-bool false b = refl

pub filter-then : {X : Type 0} (f g t : X → Bool) (xs : List X) → ((x : X) → (f x && g x) ≡ t x) → filter g (filter f xs) ≡ filter t xs
filter-then f g t [] same = refl
filter-then f g t (x ∷ xs) same = go (f x) (g x) refl refl (filter-then f g t xs same)
  where
    go : (a b : Bool) → f x ≡ a → g x ≡ b → filter g (filter f xs) ≡ filter t xs → filter g (filter f (x ∷ xs)) ≡ filter t (x ∷ xs)
    go true true a b more = let yes : t x ≡ true = sym (same x) ∙ rw (a, b) refl in rw (a, yes) (rw b (ap (λ (ys : List _). x ∷ ys) more))
    go true false a b more = let none : t x ≡ false = sym (same x) ∙ rw (a, b) refl in rw (a, none) (rw b more)
    go false c a b more = let none : t x ≡ false = sym (same x) ∙ rw a refl in rw (a, none) more

left-births : (x : ℕ) (first : List ℕ) (hs : List (ℕ × ℕ)) → is_in x (map (λ (h : ℕ × ℕ). h.0) (filter (λ h. not (is_in h.0 first)) hs)) ≡ (is_in x (map (λ (h : ℕ × ℕ). h.0) hs) && not (is_in x first))
left-births x first [] = refl
left-births x first (h ∷ hs) = go (is_in h.0 first) refl (eqb_tells h.0 x) (left-births x first hs)
  where
    go : (b : Bool) → is_in h.0 first ≡ b → (((h.0 == x) ≡ true) × (h.0 ≡ x)) ⊎ (((h.0 == x) ≡ false) × (h.0 ≢ x))
        → is_in x (map (λ (g : ℕ × ℕ). g.0) (filter (λ g. not (is_in g.0 first)) hs)) ≡ (is_in x (map (λ (g : ℕ × ℕ). g.0) hs) && not (is_in x first))
        → is_in x (map (λ (g : ℕ × ℕ). g.0) (filter (λ g. not (is_in g.0 first)) (h ∷ hs))) ≡ (is_in x (map (λ (g : ℕ × ℕ). g.0) (h ∷ hs)) && not (is_in x first))
    go true b (inl e) more = let gone : is_in x first ≡ true = ap (λ (k : ℕ). is_in k first) (sym e.1) ∙ b in rw b (more ∙ (rw gone (none (is_in x (map (λ (g : ℕ × ℕ). g.0) hs)) ∙ rw e.0 refl)))
      where
        none : (c : Bool) → (c && false) ≡ false
        none true = refl
        none false = refl
    go true b (inr e) more = rw (b, e.0) more
    go false b (inl e) more = let stays : is_in x first ≡ false = ap (λ (k : ℕ). is_in k first) (sym e.1) ∙ b in rw b (rw (e.0, stays) refl)
    go false b (inr e) more = rw b (rw e.0 more)

without-twice : (store : Store) (first second : List ℕ) → without_husks (without_husks store first) second ≡ without_husks store (first ++ second)
without-twice store first second =
    let either : (x : ℕ) → (is_in x first || is_in x second) ≡ is_in x (first ++ second) = λ x. sym (list_any-append (λ y. y == x) first second) in
    ap₂ (λ (hs : List (ℕ × ℕ)) (homes : Table ℕ). record store { husks = hs; homes = homes })
    (filter-then (λ h. not (is_in h.0 first)) (λ h. not (is_in h.0 second)) (λ h. not (is_in h.0 (first ++ second))) store.husks
    (λ h. both-bool (is_in h.0 first) (is_in h.0 second) ∙ ap not (either h.0)))
    (filter-then (λ e. not (is_freed store (λ y. is_in y first) e.0)) (λ e. not (is_freed (without_husks store first) (λ y. is_in y second) e.0)) (λ e. not (is_freed store (λ y. is_in y (first ++ second)) e.0)) store.homes
    (λ e. ap (λ (c : Bool). not (is_in e.0 first && is_in e.0 (map (λ (h : ℕ × ℕ). h.0) store.husks)) && not (is_in e.0 second && c)) (left-births e.0 first store.husks)
    ∙ (twice-bool (is_in e.0 first) (is_in e.0 second) (is_in e.0 (map (λ (h : ℕ × ℕ). h.0) store.husks))
    ∙ ap (λ (c : Bool). not (c && is_in e.0 (map (λ (h : ℕ × ℕ). h.0) store.husks))) (either e.0))))

without-none : (store : Store) → without_husks store [] ≡ store
without-none store = ap₂ (λ (hs : List (ℕ × ℕ)) (homes : Table ℕ). record store { husks = hs; homes = homes }) (filter_all (λ h. not (is_in h.0 [])) store.husks (λ h. refl))
    (filter_all (λ e. not (is_freed store (λ y. is_in y []) e.0)) store.homes (λ e. refl))

-- a sum over the husks that are freed, first some and then others
abbrev all-of : (ℕ × ℕ → Bool) → List ℕ → List ℕ → List (ℕ × ℕ) → List (ℕ × ℕ)
all-of kind first second xs = filter kind (filter (λ g. is_in g.0 (first ++ second)) xs)

abbrev ones-of : (ℕ × ℕ → Bool) → List ℕ → List (ℕ × ℕ) → List (ℕ × ℕ)
ones-of kind first xs = filter kind (filter (λ g. is_in g.0 first) xs)

abbrev twos-of : (ℕ × ℕ → Bool) → List ℕ → List ℕ → List (ℕ × ℕ) → List (ℕ × ℕ)
twos-of kind first second xs = filter kind (filter (λ g. is_in g.0 second) (filter (λ g. not (is_in g.0 first)) xs))

freed-sum : (kind : ℕ × ℕ → Bool) (f : ℕ × ℕ → ℕ) (first second : List ℕ) (hs : List (ℕ × ℕ))
    → sum_by f (filter kind (filter (λ h. is_in h.0 (first ++ second)) hs))
    ≡ sum_by f (filter kind (filter (λ h. is_in h.0 first) hs)) + sum_by f (filter kind (filter (λ h. is_in h.0 second) (filter (λ h. not (is_in h.0 first)) hs)))
freed-sum kind f first second [] = refl
freed-sum kind f first second (h ∷ hs) = go (is_in h.0 first) refl (is_in h.0 second) refl (kind h) refl (freed-sum kind f first second hs)
  where
    either : is_in h.0 (first ++ second) ≡ (is_in h.0 first || is_in h.0 second)
    either = list_any-append (λ y. y == h.0) first second

    go : (a : Bool) → is_in h.0 first ≡ a → (b : Bool) → is_in h.0 second ≡ b → (k : Bool) → kind h ≡ k → sum_by f (all-of kind first second hs) ≡ sum_by f (ones-of kind first hs) + sum_by f (twos-of kind first second hs)
        → sum_by f (all-of kind first second (h ∷ hs)) ≡ sum_by f (ones-of kind first (h ∷ hs)) + sum_by f (twos-of kind first second (h ∷ hs))
    go true a b0 b true k more =
        let in_all : is_in h.0 (first ++ second) ≡ true = either ∙ rw a refl in
        let l : (all-of kind first second (h ∷ hs)) ≡ h ∷ (all-of kind first second hs) = rw in_all (rw k refl) in let o : (ones-of kind first (h ∷ hs)) ≡ h ∷ (ones-of kind first hs) = rw a (rw k refl) in let t : (twos-of kind first second (h ∷ hs)) ≡ (twos-of kind first second hs) = rw a refl in
        let x = ap (sum_by f) l in let y = ap (sum_by f) o in let z = ap (sum_by f) t in let u = sum_by-cons f h (all-of kind first second hs) in let v = sum_by-cons f h (ones-of kind first hs) in
        omega (arith, x, y, z, u, v, more)
    go true a b0 b false k more =
        let in_all : is_in h.0 (first ++ second) ≡ true = either ∙ rw a refl in
        let l : (all-of kind first second (h ∷ hs)) ≡ (all-of kind first second hs) = rw in_all (rw k refl) in let o : (ones-of kind first (h ∷ hs)) ≡ (ones-of kind first hs) = rw a (rw k refl) in let t : (twos-of kind first second (h ∷ hs)) ≡ (twos-of kind first second hs) = rw a refl in
        let x = ap (sum_by f) l in let y = ap (sum_by f) o in let z = ap (sum_by f) t in omega (arith, x, y, z, more)
    go false a true b true k more =
        let in_all : is_in h.0 (first ++ second) ≡ true = either ∙ rw (a, b) refl in
        let l : (all-of kind first second (h ∷ hs)) ≡ h ∷ (all-of kind first second hs) = rw in_all (rw k refl) in let o : (ones-of kind first (h ∷ hs)) ≡ (ones-of kind first hs) = rw a refl in let t : (twos-of kind first second (h ∷ hs)) ≡ h ∷ (twos-of kind first second hs) = rw a (rw b (rw k refl)) in
        let x = ap (sum_by f) l in let y = ap (sum_by f) o in let z = ap (sum_by f) t in let u = sum_by-cons f h (all-of kind first second hs) in let v = sum_by-cons f h (twos-of kind first second hs) in
        omega (arith, x, y, z, u, v, more)
    go false a true b false k more =
        let in_all : is_in h.0 (first ++ second) ≡ true = either ∙ rw (a, b) refl in
        let l : (all-of kind first second (h ∷ hs)) ≡ (all-of kind first second hs) = rw in_all (rw k refl) in let o : (ones-of kind first (h ∷ hs)) ≡ (ones-of kind first hs) = rw a refl in let t : (twos-of kind first second (h ∷ hs)) ≡ (twos-of kind first second hs) = rw a (rw b (rw k refl)) in
        let x = ap (sum_by f) l in let y = ap (sum_by f) o in let z = ap (sum_by f) t in omega (arith, x, y, z, more)
    go false a false b k0 k more =
        let in_all : is_in h.0 (first ++ second) ≡ false = either ∙ rw (a, b) refl in
        let l : (all-of kind first second (h ∷ hs)) ≡ (all-of kind first second hs) = rw in_all refl in let o : (ones-of kind first (h ∷ hs)) ≡ (ones-of kind first hs) = rw a refl in let t : (twos-of kind first second (h ∷ hs)) ≡ (twos-of kind first second hs) = rw a (rw b refl) in
        let x = ap (sum_by f) l in let y = ap (sum_by f) o in let z = ap (sum_by f) t in omega (arith, x, y, z, more)

length-sum : (hs : List (ℕ × ℕ)) → length hs ≡ sum_by (λ (h : ℕ × ℕ). 1) hs
length-sum [] = refl
length-sum (h ∷ hs) = let more = length-sum hs in let one = sum_by-cons (λ (g : ℕ × ℕ). 1) h hs in omega (arith, more, one)

-- the bounds of a step, for so many units
pub record FewFreed (heap : HeapParts) (store : Store) (n : ℕ) (births : List ℕ) : Type 0 where
  pub few_small : husk_words (filter (λ h. nat_le h.1 (small_words heap.setup.settings)) (husks_where store.husks (λ x. is_in x births))) ≤ n * heap.setup.settings.page
  pub few_large : length (filter (λ h. nat_lt (small_words heap.setup.settings) h.1) (husks_where store.husks (λ x. is_in x births))) ≤ n

none-freed : (heap : HeapParts) (store : Store) → FewFreed heap store 0 []
none-freed heap store =
    let none : husks_where store.husks (λ x. is_in x []) ≡ [] = nothing store.husks in
    record {
      few_small = let z : husk_words (filter (λ h. nat_le h.1 (small_words heap.setup.settings)) (husks_where store.husks (λ x. is_in x []))) ≡ 0 =
          ap (λ (hs : List (ℕ × ℕ)). husk_words (filter (λ h. nat_le h.1 (small_words heap.setup.settings)) hs)) none in omega (arith, z);
      few_large = let z : length (filter (λ h. nat_lt (small_words heap.setup.settings) h.1) (husks_where store.husks (λ x. is_in x []))) ≡ 0 =
          ap (λ (hs : List (ℕ × ℕ)). length (filter (λ h. nat_lt (small_words heap.setup.settings) h.1) hs)) none in omega (arith, z);
    }
  where
    nothing : (hs : List (ℕ × ℕ)) → filter (λ h. is_in h.0 []) hs ≡ []
    nothing [] = refl
    nothing (h ∷ hs) = nothing hs

few-more : (heap : HeapParts) (store : Store) (n : ℕ) (first rest : List ℕ) → FewFreed heap store n first
    → husk_words (filter (λ h. nat_le h.1 (small_words heap.setup.settings)) (husks_where (without_husks store first).husks (λ x. is_in x rest))) ≤ heap.setup.settings.page
    → length (filter (λ h. nat_lt (small_words heap.setup.settings) h.1) (husks_where (without_husks store first).husks (λ x. is_in x rest))) ≤ 1
    → FewFreed heap store (suc n) (first ++ rest)
few-more heap store n first rest few small large =
    let smalls = freed-sum (λ h. nat_le h.1 (small_words heap.setup.settings)) (λ h. h.1) first rest store.husks in
    let larges = freed-sum (λ h. nat_lt (small_words heap.setup.settings) h.1) (λ h. 1) first rest store.husks in
    let l0 = length-sum (filter (λ h. nat_lt (small_words heap.setup.settings) h.1) (husks_where store.husks (λ x. is_in x (first ++ rest)))) in
    let l1 = length-sum (filter (λ h. nat_lt (small_words heap.setup.settings) h.1) (husks_where store.husks (λ x. is_in x first))) in
    let l2 = length-sum (filter (λ h. nat_lt (small_words heap.setup.settings) h.1) (husks_where (without_husks store first).husks (λ x. is_in x rest))) in
    let more : suc n * heap.setup.settings.page ≡ n * heap.setup.settings.page + heap.setup.settings.page = grind arith in
    record {
      few_small = omega (arith, smalls, few.few_small, small, more);
      few_large = omega (arith, larges, few.few_large, large, l0, l1, l2);
    }

none-left : (hs : List (ℕ × ℕ)) → filter (λ h. is_in h.0 []) hs ≡ []
none-left [] = refl
none-left (h ∷ hs) = none-left hs

-- the husks that one test or another frees
filter-two : {X : Type 0} (f g h : X → Bool) (xs : List X) → ((x : X) → (f x && g x) ≡ h x) → filter f (filter g xs) ≡ filter h xs
filter-two f g h [] same = refl
filter-two f g h (x ∷ xs) same = go (g x) refl (f x) refl (filter-two f g h xs same)
  where
    go : (b : Bool) → g x ≡ b → (a : Bool) → f x ≡ a → filter f (filter g xs) ≡ filter h xs → filter f (filter g (x ∷ xs)) ≡ filter h (x ∷ xs)
    go true b true a more = let yes : h x ≡ true = sym (same x) ∙ rw (a, b) refl in rw (b, yes) (rw a (ap (λ (ys : List _). x ∷ ys) more))
    go true b false a more = let none : h x ≡ false = sym (same x) ∙ rw a refl in rw (b, none) (rw a more)
    go false b a0 a more = let none : h x ≡ false = sym (same x) ∙ rw b (off (f x)) in rw (b, none) more
      where
        off : (c : Bool) → (c && false) ≡ false
        off true = refl
        off false = refl

freed-joined : (store : Store) (first rest : List ℕ) → IsPermutation first (map (λ (h : ℕ × ℕ). h.0) (husks_where store.husks (λ x. is_in x first)))
    → IsPermutation rest (map (λ (h : ℕ × ℕ). h.0) (husks_where (without_husks store first).husks (λ x. is_in x rest)))
    → IsPermutation (first ++ rest) (map (λ (h : ℕ × ℕ). h.0) (husks_where store.husks (λ x. is_in x (first ++ rest))))
freed-joined store first rest a b =
    let both : List (ℕ × ℕ) = husks_where store.husks (λ x. is_in x (first ++ rest)) in
    let F1 : List (ℕ × ℕ) = husks_where store.husks (λ x. is_in x first) in
    let F2 : List (ℕ × ℕ) = husks_where (without_husks store first).husks (λ x. is_in x rest) in
    let either : (x : ℕ) → is_in x (first ++ rest) ≡ (is_in x first || is_in x rest) = λ x. list_any-append (λ y. y == x) first rest in
    let ones : filter (λ h. is_in h.0 first) both ≡ F1 = filter-two (λ h. is_in h.0 first) (λ h. is_in h.0 (first ++ rest)) (λ h. is_in h.0 first) store.husks
    (λ h. ap (λ (c : Bool). is_in h.0 first && c) (either h.0) ∙ absorb (is_in h.0 first) (is_in h.0 rest)) in
    let twos : filter (λ h. not (is_in h.0 first)) both ≡ F2 = filter-two (λ h. not (is_in h.0 first)) (λ h. is_in h.0 (first ++ rest)) (λ h. not (is_in h.0 first) && is_in h.0 rest) store.husks
    (λ h. ap (λ (c : Bool). not (is_in h.0 first) && c) (either h.0) ∙ others (is_in h.0 first) (is_in h.0 rest))
    ∙ sym (filter-two (λ h. is_in h.0 rest) (λ h. not (is_in h.0 first)) (λ h. not (is_in h.0 first) && is_in h.0 rest) store.husks (λ h. turned (is_in h.0 rest) (not (is_in h.0 first)))) in
    let split : IsPermutation both (F1 ++ F2) = subst (λ (xs : List (ℕ × ℕ)). IsPermutation both (xs ++ F2)) ones
    (subst (λ (ys : List (ℕ × ℕ)). IsPermutation both (filter (λ h. is_in h.0 first) both ++ ys)) twos
    (IsPermutation-filter_both (λ (h : ℕ × ℕ). is_in h.0 first) (λ (h : ℕ × ℕ). not (is_in h.0 first)) (λ h. refl) both)) in
    let names : IsPermutation (map (λ (h : ℕ × ℕ). h.0) F1 ++ map (λ (h : ℕ × ℕ). h.0) F2) (map (λ (h : ℕ × ℕ). h.0) both) =
    subst (λ (xs : List ℕ). IsPermutation xs (map (λ (h : ℕ × ℕ). h.0) both)) (map-append (λ (h : ℕ × ℕ). h.0) F1 F2)
    (IsPermutation-map (λ (h : ℕ × ℕ). h.0) (F1 ++ F2) both (IsPermutation-sym both (F1 ++ F2) split)) in
    IsPermutation-trans (first ++ rest) (map (λ (h : ℕ × ℕ). h.0) F1 ++ map (λ (h : ℕ × ℕ). h.0) F2) _
    (IsPermutation-trans (first ++ rest) (map (λ (h : ℕ × ℕ). h.0) F1 ++ rest) _ (IsPermutation-append_left rest first (map (λ (h : ℕ × ℕ). h.0) F1) a)
    (IsPermutation-append_right (map (λ (h : ℕ × ℕ). h.0) F1) rest (map (λ (h : ℕ × ℕ). h.0) F2) b)) names
  where
    absorb : (x y : Bool) → (x && (x || y)) ≡ x
    absorb true y = refl
    absorb false y = refl

    others : (x y : Bool) → (not x && (x || y)) ≡ (not x && y)
    others true y = refl
    others false y = refl

    turned : (x y : Bool) → (x && y) ≡ (y && x)
    turned true true = refl
    turned true false = refl
    turned false true = refl
    turned false false = refl

-- so many units wait
pub record LeftFor (heap : HeapParts) (store : Store) (n all : ℕ) : Type 0 where
  pub stands : PartsStandFor heap store
  pub fewer : length stands.waiting + n ≡ all

-- some units were swept
pub record SweptSome (heap : HeapParts) (store : Store) (n all : ℕ) (new : Old) (memory : Memory) (births : List ℕ) : Type 0 where
  pub left : LeftFor (swept_parts heap memory new births) (without_husks store births) n all
  pub few : FewFreed heap store n births
  pub freed : IsPermutation births (map (λ (h : ℕ × ℕ). h.0) (husks_where store.husks (λ x. is_in x births)))

-- one step of a sweep, where some unit waits
pub sweeps_one : (heap : HeapParts) (store : Store) (s : PartsStandFor heap store) (new : Old) (memory : Memory) (births : List ℕ) → heap.fresh ≡ 0 → 0 < length s.waiting
    → SweepsLowest heap.old_blocks heap.memory new memory births → SweepsOne heap store s new memory births
sweeps_one heap store s new memory births fresh some step = go s.waiting refl
  where
    live : List Extent
    live = blocks_of heap.setup.types (word_in heap) (home_in heap) (young_places s.places) (old_places s.places) s.husks []

    go : (ws : List ℕ) → s.waiting ≡ ws → SweepsOne heap store s new memory births
    go [] e = absurd (let none = ap (length {A = ℕ}) e in let no : ⊥ = omega (arith, none, some) in no)
    go (unit ∷ rest) e =
        let has : HasBlocks heap.old_blocks heap.memory (blocks_of heap.setup.types (word_in heap) (home_in heap) (young_places s.places) (old_places s.places) s.husks []) (unit ∷ rest) =
        subst (λ (ws : List ℕ). HasBlocks heap.old_blocks heap.memory (blocks_of heap.setup.types (word_in heap) (home_in heap) (young_places s.places) (old_places s.places) s.husks []) ws) e s.words.blocks in
        record {
          unit = unit;
          rest = rest;
          waits = e;
          once = waits_once heap.old_blocks heap.memory _ unit rest has;
          units = subst (λ (page : ℕ). Each (λ x. in_unit heap.old_blocks unit x ≡ (unit_at page x.0 == unit))
              (blocks_of heap.setup.types (word_in heap) (home_in heap) (young_places s.places) (old_places s.places) s.husks [])) s.made.page
              (units_tell heap.old_blocks heap.memory _ unit rest has);
          step = step;
          no_fresh = fresh;
        }

minus-twice : (a b c : ℕ) → (a - b) - c ≡ a - (b + c)
minus-twice a b c = omega arith

freed-twice : (hs : Table ℕ) (first second : List ℕ) → freed_words hs (first ++ second) ≡ freed_words hs first + freed_words (husks_where hs (λ x. not (is_in x first))) second
freed-twice hs first second =
    let plain : (xs : Table ℕ) → husk_words (filter (λ (h : ℕ × ℕ). true) xs) ≡ husk_words xs = λ xs. ap husk_words (filter_all (λ (h : ℕ × ℕ). true) xs (λ h. refl)) in
    sym (plain (husks_where hs (λ x. is_in x (first ++ second)))) ∙ (freed-sum (λ h. true) (λ h. h.1) first second hs
    ∙ ap₂ (λ (m n : ℕ). m + n) (plain (husks_where hs (λ x. is_in x first))) (plain (husks_where (husks_where hs (λ x. not (is_in x first))) (λ x. is_in x second))))

parts-twice : (heap : HeapParts) (k m : Memory) (a b : Old) (first second : List ℕ) → swept_parts (swept_parts heap k a first) m b second ≡ swept_parts heap m b (first ++ second)
parts-twice heap k m a b first second = ap₂ (λ (o : ℕ) (hs : Table ℕ). record heap { memory = m; old_blocks = b; old_words = o; husk_list = hs })
    (minus-twice heap.old_words (freed_words heap.husk_list first) (freed_words (husks_where heap.husk_list (λ x. not (is_in x first))) second)
    ∙ ap (λ (n : ℕ). heap.old_words - n) (sym (freed-twice heap.husk_list first second)))
    (filter-then (λ (h : ℕ × ℕ). not (is_in h.0 first)) (λ h. not (is_in h.0 second)) (λ h. not (is_in h.0 (first ++ second))) heap.husk_list
    (λ h. both-bool (is_in h.0 first) (is_in h.0 second) ∙ ap not (sym (list_any-append (λ y. y == h.0) first second))))

parts-none : (heap : HeapParts) (k : Memory) (a : Old) → heap.memory ≡ k → heap.old_blocks ≡ a → heap ≡ swept_parts heap k a []
parts-none heap k a e f =
    let same : heap ≡ swept_parts heap heap.memory heap.old_blocks [] = ap₂ (λ (o : ℕ) (hs : Table ℕ). record heap { old_words = o; husk_list = hs })
    ((let none : heap.old_words ≡ heap.old_words - husk_words [] = omega arith in none) ∙ sym (ap (λ (hs : Table ℕ). heap.old_words - husk_words hs) (none-left heap.husk_list))) (sym (filter_all (λ (h : ℕ × ℕ). not (is_in h.0 [])) heap.husk_list (λ h. refl))) in
    same ∙ ap₂ (λ (m : Memory) (b : Old). swept_parts heap m b []) e f

pub units_stand : (heap : HeapParts) (store : Store) (s : PartsStandFor heap store) → heap.phase ≡ Sweeping → heap.fresh ≡ 0
    → (n : ℕ) (a : Old) (k : Memory) (new : Old) (memory : Memory) (births : List ℕ) → heap.old_blocks ≡ a → heap.memory ≡ k
    → n ≤ length s.waiting → Sweeps SweepsLowest n a k new memory births → SweptSome heap store n (length s.waiting) new memory births
units_stand heap store s sweeping fresh n a k new memory births e f few (Done {s = a2} {m = k2}) = record {
  left = subst (λ (h : HeapParts). LeftFor h (without_husks store []) 0 (length s.waiting)) (parts-none heap k a f e)
      (subst (λ (st : Store). LeftFor heap st 0 (length s.waiting)) (sym (without-none store)) (record { stands = s; fewer = omega arith }));
  few = none-freed heap store;
  freed = subst (λ (hs : List (ℕ × ℕ)). IsPermutation [] (map (λ (h : ℕ × ℕ). h.0) hs)) (sym (none-left store.husks)) (IsPermutation-refl []);
}
units_stand heap store s sweeping fresh n a k new memory births e f few (Then {n = i} {a = a2} {b = b} {c = c} {k = k2} {l = l} {m = m} {first = first} {rest = rest} before step) =
    let some = units_stand heap store s sweeping fresh i a k b l first e f (omega (arith, few)) before in
    let pos : 0 < length some.left.stands.waiting = let all = some.left.fewer in omega (arith, all, few) in
    let one = sweeps_one (swept_parts heap l b first) (without_husks store first) some.left.stands c m rest fresh pos step in
    record {
      left = subst (λ (h : HeapParts). LeftFor h (without_husks store (first ++ rest)) (suc i) (length s.waiting)) (parts-twice heap l m b c first rest)
          (subst (λ (st : Store). LeftFor (swept_parts (swept_parts heap l b first) m c rest) st (suc i) (length s.waiting)) (without-twice store first rest)
          (record {
            stands = unit_stands (swept_parts heap l b first) (without_husks store first) some.left.stands sweeping c m rest one;
            fewer =
                let now = ap (length {A = ℕ}) (unit_waiting (swept_parts heap l b first) (without_husks store first) some.left.stands sweeping c m rest one) in
                let was = ap (length {A = ℕ}) one.waits in
                let all = some.left.fewer in omega (arith, now, was, all);
          }));
      few = few-more heap store i first rest some.few
          (unit_few_small (swept_parts heap l b first) (without_husks store first) some.left.stands sweeping c m rest one)
          (unit_few_large (swept_parts heap l b first) (without_husks store first) some.left.stands sweeping c m rest one);
      freed = freed-joined store first rest some.freed (unit_freed (swept_parts heap l b first) (without_husks store first) some.left.stands sweeping c m rest one);
    }

-- the phase after a step: sweeping goes on where more units wait than a step sweeps
abbrev pub phase_left : ℕ → ℕ → Phase
phase_left sweep units = if nat_lt sweep units then Sweeping else Finalizing

is-less : (a b : ℕ) → a < b → nat_lt a b ≡ true
is-less a b l = grind (arith, nat_tests)

is-no-less : (a b : ℕ) → b ≤ a → nat_lt a b ≡ false
is-no-less a b l = grind (arith, nat_tests)

-- A whole step: the lesser of the setting and of what waits is swept.
pub record StepsSweeping (heap : HeapParts) (store : Store) (new : Old) (memory : Memory) (births : List ℕ) : Type 0 where
  pub phase : Phase
  pub phase_is : phase_left heap.setup.settings.sweep (units_left heap.old_blocks) ≡ phase
  pub stands : PartsStandFor (in_phase (swept_parts heap memory new births) phase) (after_sweep store (λ x. is_in x births) phase)
  pub may_end : MayEndIn phase (after_sweep store (λ x. is_in x births) phase)
  pub freed : IsPermutation births (map (λ (h : ℕ × ℕ). h.0) (husks_where store.husks (λ x. is_in x births)))
  pub few_small : husk_words (filter (λ h. nat_le h.1 (small_words heap.setup.settings)) (husks_where store.husks (λ x. is_in x births))) ≤ heap.setup.settings.sweep * heap.setup.settings.page
  pub few_large : length (filter (λ h. nat_lt (small_words heap.setup.settings) h.1) (husks_where store.husks (λ x. is_in x births))) ≤ heap.setup.settings.sweep

times-less : (a b k : ℕ) → a ≡ b → a * k ≡ b * k
times-less a b k e = ap (λ (q : ℕ). q * k) e

less-left : (left k all n : ℕ) → all ≤ left * k → n + k ≡ all → n ≤ (left - 1) * k
less-left zero k all n l e = let none : zero * k ≡ 0 = grind arith in omega (arith, l, e, none)
less-left (suc left) k all n l e =
    let more : suc left * k ≡ left * k + k = grind arith in let minus = times-less (suc left - 1) left k (omega arith) in omega (arith, l, e, more, minus)

some-left : (left k n : ℕ) → n ≤ (left - 1) * k → 0 < n → 0 < left - 1
some-left left k n l m = go (left - 1) l
  where
    go : (q : ℕ) → n ≤ q * k → 0 < q
    go zero l = absurd (let none : zero * k ≡ 0 = grind arith in let no : ⊥ = omega (arith, l, m, none) in no)
    go (suc q) l = omega arith

at-most : (n k page words : ℕ) → n ≤ k → words ≤ n * page → words ≤ k * page
at-most n k page words l m = let more = mul-le n page k page l (omega arith) in omega (arith, m, more)

none-of : (xs : List ℕ) → length xs ≡ 0 → xs ≡ []
none-of [] e = refl
none-of (x ∷ xs) e = absurd (let no : ⊥ = omega (arith, e) in no)

pub step_stands : (heap : HeapParts) (store : Store) (s : PartsStandFor heap store) → heap.phase ≡ Sweeping → heap.fresh ≡ 0
    → (n : ℕ) (new : Old) (memory : Memory) (births : List ℕ) → n ≡ min heap.setup.settings.sweep (units_left heap.old_blocks)
    → Sweeps SweepsLowest n heap.old_blocks heap.memory new memory births → StepsSweeping heap store new memory births
step_stands heap store s sweeping fresh n new memory births counted steps =
    let units : units_left heap.old_blocks ≡ length s.waiting = units_counted heap.old_blocks heap.memory _ s.waiting s.words.blocks in
    let count : n ≡ min heap.setup.settings.sweep (length s.waiting) = counted ∙ ap (min heap.setup.settings.sweep) units in
    let some = units_stand heap store s sweeping fresh n heap.old_blocks heap.memory new memory births refl refl (omega (arith, count)) steps in
    let before : AreUnitsSwept Sweeping heap.setup.settings.sweep store.left s.waiting = subst (λ (ph : Phase). AreUnitsSwept ph heap.setup.settings.sweep store.left s.waiting) sweeping s.units in
    let fewer = some.left.fewer in
    let after : HeapParts = swept_parts heap memory new births in
    elim (cases_lt heap.setup.settings.sweep (length s.waiting)) [
      | inl more ↦
          let whole : length some.left.stands.waiting + heap.setup.settings.sweep ≡ length s.waiting = omega (arith, fewer, count, more) in
          let few : length some.left.stands.waiting ≤ (store.left - 1) * heap.setup.settings.sweep =
          less-left store.left heap.setup.settings.sweep (length s.waiting) (length some.left.stands.waiting) before.0 whole in
          let steps_left : 0 < store.left - 1 = some-left store.left heap.setup.settings.sweep (length some.left.stands.waiting) few (omega (arith, whole, more)) in
          record {
            phase = Sweeping;
            phase_is = rw (is-less heap.setup.settings.sweep (units_left heap.old_blocks) (omega (arith, more, units))) refl;
            stands = goes_on_sweeping after (without_husks store births) some.left.stands sweeping few steps_left;
            may_end = steps_left;
            freed = some.freed;
            few_small = at-most n heap.setup.settings.sweep heap.setup.settings.page _ (omega (arith, count)) some.few.few_small;
            few_large = (let l = some.few.few_large in omega (arith, l, count));
          }
      | inr all ↦
          let none : some.left.stands.waiting ≡ [] = none-of some.left.stands.waiting (omega (arith, fewer, count, all)) in
          record {
            phase = Finalizing;
            phase_is = rw (is-no-less heap.setup.settings.sweep (units_left heap.old_blocks) (omega (arith, all, units))) refl;
            stands = ends_sweeping after (without_husks store births) some.left.stands sweeping none;
            may_end = no_husks after (without_husks store births) some.left.stands sweeping none;
            freed = some.freed;
            few_small = at-most n heap.setup.settings.sweep heap.setup.settings.page _ (omega (arith, count)) some.few.few_small;
            few_large = (let l = some.few.few_large in omega (arith, l, count));
          }
    ]

-- what is freed stands by rising birth
freed-rise : (heap : HeapParts) (store : Store) (s : PartsStandFor heap store) (test : ℕ → Bool) → RiseBetween 1 (map (λ (h : ℕ × ℕ). h.0) (husks_where store.husks test)) store.next
freed-rise heap store s test =
    let rises : KeysRise store.husks = subst KeysRise (sym s.husk_list.are) s.husk_list.rise in
    keys_between (husks_where store.husks test) 1 store.next (KeysRise-entries_where test store.husks rises)
    (λ x t. let b = s.sound.births.born x (in-right x (map (λ (object : Object). object.birth) store.kept) _ (entry_part test store.husks x t).0) in
    let low = b.0 in (omega (arith, low), b.1)) (let n = s.sound.births.next_above in omega (arith, n))

-- The step is one of the store, with its lines.
pub sweeping_step : (heap : HeapParts) (store : Store) (s : PartsStandFor heap store) (new : Old) (memory : Memory) (births sorted : List ℕ) (r : StepsSweeping heap store new memory births)
    → IsPermutation births sorted → IsNonDecreasing sorted
    → SweepingStep heap.setup.settings store (Stepped Sweeping r.phase ∷ map (λ b. Freed b) sorted) (after_sweep store (λ x. is_in x births) r.phase)
sweeping_step heap store s new memory births sorted r same order = record {
  freed = λ x. is_in x births;
  phase = r.phase;
  few_small = r.few_small;
  few_large = r.few_large;
  may_end = r.may_end;
  printed =
      let is : sorted ≡ map (λ (h : ℕ × ℕ). h.0) (husks_where store.husks (λ x. is_in x births)) =
      sorted_births store.next births sorted _ same order r.freed (freed-rise heap store s (λ x. is_in x births)) (let n = s.sound.births.next_above in omega (arith, n)) in
      ap (λ (ls : List Line). Stepped Sweeping r.phase ∷ ls) (ap (map (λ b. Freed b)) is ∙ map-map (λ b. Freed b) (λ (h : ℕ × ℕ). h.0) (husks_where store.husks (λ x. is_in x births)));
  leaves = refl;
}
