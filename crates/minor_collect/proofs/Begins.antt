-- The beginning of a minor collection, from parts that stand for a store.
use Rattle.std.proofs.Common.{nat_eq, ◌≡◌, ℕ, suc, ◌+◌, ◌<◌, ◌⊎◌, Bool, true, false, IsTrue, List, [], ◌∷◌, map, length, Option, Some, None, refl, sym, ap, ◌∙◌, subst, inl, inr, arith}
use Rattle.std.specs.List.{IsDistinct, AllByRecursion}
use Rattle.std.proofs.lemmas.Bool.Decides.{eqb_tells}
use Rattle.std.proofs.lemmas.Map.Keys.{IsDistinct-IsPermutation}
use Rattle.heap_parts.specs.Nursery.{walked}
use Rattle.std.specs.Prelude.{not, ◌||◌, is_some, filter, filter_map, ◌==◌}
use Rattle.std.proofs.lemmas.Bool.{cases_Bool}
use Rattle.object_model.proofs.Members.{map-same, is_in-nil, and_both, and_first, filter-part, in-left, in-right, or_first, is_in-named}
use Rattle.object_view.proofs.FoundLaws.{found-at, length-refs}
use Rattle.object_view.proofs.ForwardLaws.{header-unmarked}
use Rattle.std.proofs.lemmas.List.Sorted.{list_any-IsPermutation, IsPermutation-map, IsPermutation-sym}
use Rattle.std.specs.List.Sorted.{IsPermutation}
use Rattle.object_view.proofs.MovingLaws.{none_moving}
use Rattle.object_model.specs.Object.{Object, object_at}
use Rattle.store_model.specs.Store.{Store}
use Rattle.object_model.specs.Sets.{is_in}
use Rattle.object_model.specs.Fields.{refs_of}
use Rattle.store_model.specs.Roots.{is_kept, pinned_births, roots_of, referents_in}
use Rattle.object_model.specs.ObjectWords.{layout_at, object_from}
use Rattle.store_model.specs.Reach.{refers, is_root}
use Rattle.store_model.specs.MinorCollection.{is_unsettled, is_entry, refers_unsettled}
use Rattle.remember_cards.specs.Remembered.{is_held_of}
use Rattle.heap_parts.specs.Parts.{HeapParts, word_in, pinned_places}
use Rattle.heap_parts.specs.Places.{young_places, is_young, old_places, AreAmong, is_weak_at}
use Rattle.heap_parts.specs.StandsFor.{PartsStandButYoung}
use Rattle.birth_laws.proofs.BirthNames.{listed}
use Rattle.frame_laws.proofs.Births.{rise-differ}
use Rattle.frame_laws.proofs.PlaceLaws.{young-is_in, old-is_in, is_in-old, named-by, settled-old, placed_words}
use Rattle.store_model.proofs.Rounds.{LeadsTo-start}
use Rattle.minor_collect.proofs.NamedObjects.{weak_named, eq-flips}
use Rattle.minor_collect.specs.Carried.{Carried, births_read, weak_births, none_moved}
use Rattle.minor_collect.specs.Traces.{Traces}
use Rattle.minor_collect.specs.Entries.{has_remembered_referrer}
use Rattle.minor_collect.specs.Midway.{Midway, changing_of, Owes, Follows, Placing}
use Rattle.minor_collect.proofs.EndBirths.{rise_part}

-- What is to be looked at: every entry, of unsettled ones nothing else; and what is remembered is owed.
pub record Begins (start : HeapParts) (store : Store) (s : PartsStandButYoung start store) (left : List ℕ) (owes : Owes) : Type 0 where
  pub all : (x : ℕ) → IsTrue (is_entry store (has_remembered_referrer store (is_held_of start.remembered s.name)) x) → IsTrue (is_in x (pinned_births store)) ⊎ IsTrue (is_in x left)
  pub only : (x : ℕ) → IsTrue (is_in x left) → IsTrue (is_unsettled store x) → IsTrue (is_entry store (has_remembered_referrer store (is_held_of start.remembered s.name)) x)
  pub items : (q j : ℕ) → IsTrue (is_in q (old_places s.places)) → j < (layout_at start.setup.types (word_in start) q).ref_count → IsTrue (is_held_of start.remembered s.name (s.name q) j) → IsTrue (owes.items q j)

no-in : (y : ℕ) (refs : List (Option ℕ)) → refs ≡ [] → IsTrue (is_in y (filter_map (λ r. r) refs)) → ⊥
no-in y [] e t = is_in-nil y t
no-in y (r ∷ refs) e t = let no : ⊥ = cc in no

refs-referents : (o : Option Object) (y : ℕ) → refs_of o ≡ [] → IsTrue (is_in y (referents_in o)) → ⊥
refs-referents None y e t = is_in-nil y t
refs-referents (Some o) y e t = no-in y o.refs e t

pub old-lasting : (young pin : Bool) → IsTrue (not young || pin) → pin ≡ false → young ≡ false
old-lasting true pin t e = absurd (let no : ⊥ = cc in no)
old-lasting false pin t e = refl

pub not-lasting : (young pin : Bool) → (not young || pin) ≡ false → (young ≡ true) × (pin ≡ false)
not-lasting true pin e = (refl, e)
not-lasting false pin e = absurd (let no : ⊥ = cc in no)

-- names that differ are those of places that differ
all-unnamed : (name : ℕ → ℕ) (p : ℕ) (ps : List ℕ) → AllByRecursion (λ y. nat_eq (name p) y ≡ false) (map name ps) → AllByRecursion (λ y. nat_eq p y ≡ false) ps
all-unnamed name p [] all = tt
all-unnamed name p (q ∷ ps) all = (
  elim (eqb_tells p q) [
    | inl e ↦ elim (eqb_tells (name p) (name q)) [
      | inl f ↦ absurd (let a = all.0 in let g = f.0 in let no : ⊥ = cc in no)
      | inr f ↦ absurd (f.1 (ap name e.1))
    ]
    | inr e ↦ e.0
  ],
  all-unnamed name p ps all.1,
)

places-differ : (name : ℕ → ℕ) (ps : List ℕ) → IsDistinct nat_eq (map name ps) → IsDistinct nat_eq ps
unfolding IsDistinct
places-differ name [] d = tt
places-differ name (p ∷ ps) d = (all-unnamed name p ps d.0, places-differ name ps d.1)

module _ {start : HeapParts} {store : Store} {left : List ℕ} {owes : Owes} (s : PartsStandButYoung start store) (b : Begins start store s left owes) where
  abbrev held : ℕ → Bool
  held x = has_remembered_referrer store (is_held_of start.remembered s.name) x

  pin-root : (x : ℕ) → IsTrue (is_in x (pinned_births store)) → IsTrue (is_in x (roots_of store))
  pin-root x t = in-right x (filter_map (λ (slot : Option ℕ). slot) store.slots) _ (in-left x (pinned_births store) _ t)

  pinned-kept : (x : ℕ) → IsTrue (is_in x (pinned_births store)) → IsTrue (is_kept store.kept x)
  pinned-kept x t = s.sound.roots x (pin-root x t)

  pinned-unsettled : (x : ℕ) → IsTrue (is_in x (pinned_births store)) → IsTrue (is_unsettled store x)
  pinned-unsettled x t = rw (pinned-kept x t, s.sound.pins.unsettled x t) refl

  pinned-entry : (x : ℕ) → IsTrue (is_in x (pinned_births store)) → IsTrue (is_entry store (has_remembered_referrer store (is_held_of start.remembered s.name)) x)
  pinned-entry x t = and_both (is_unsettled store x) _ (pinned-unsettled x t) (or_first (is_root store x) _ (pin-root x t))

  -- the trace begins with the pinned objects, which refer to nothing
  trace-begins : Traces (is_entry store (has_remembered_referrer store (is_held_of start.remembered s.name))) (refers_unsettled store) (is_unsettled store) (pinned_births store) [] left
  trace-begins = record {
    entered = b.all;
    followed = λ x y t step. absurd (refs-referents (object_at store.kept x) y (s.sound.pins.no_references x t)
        (and_first (is_in y (referents_in (object_at store.kept x))) (is_kept store.kept y) (and_first (refers store.kept x y) (is_unsettled store y) step)));
    opened = λ x t. absurd (is_in-nil x t);
    led = λ x t. LeadsTo-start _ (refers_unsettled store) x (pinned-entry x t);
    may = λ x t u. LeadsTo-start _ (refers_unsettled store) x (b.only x t u);
  }

  place-settled : (p : ℕ) → IsTrue (is_in p s.places) → is_in (s.name p) store.settled ≡ not (is_young p)
  place-settled p t = ap (is_in (s.name p)) s.births.settled_are ∙ settled-old s.name s.places p t s.words.objects.differ

  kept-name : (p : ℕ) → IsTrue (is_in p s.places) → IsTrue (is_kept store.kept (s.name p))
  kept-name p t = ap is_some (found-at p s.words.objects t)

  pin-name : (p : ℕ) → IsTrue (is_in p (pinned_places start)) → IsTrue (is_in (s.name p) (pinned_births store))
  pin-name p t = subst (λ (l : List ℕ). IsTrue (is_in (s.name p) l)) (sym (listed s.pins).named) (is_in-named s.name p (pinned_places start) t)

  unpinned-name : (p : ℕ) → IsTrue (is_in p s.places) → is_in p (pinned_places start) ≡ false → is_in (s.name p) (pinned_births store) ≡ false
  unpinned-name p t e = elim (cases_Bool (is_in (s.name p) (pinned_births store))) [
    | inl u ↦
        let n = named-by s.name (s.name p) (pinned_places start) (subst (λ (l : List ℕ). IsTrue (is_in (s.name p) l)) (listed s.pins).named u) in
        let q = young-is_in s.places n.place (s.pins.there n.place n.there) in
        let same : p ≡ n.place = s.words.objects.differ p n.place t q.0 n.is in
        absurd (let yes : is_in p (pinned_places start) ≡ true = subst (λ (k : ℕ). IsTrue (is_in k (pinned_places start))) (sym same) n.there in let no : ⊥ = cc in no)
    | inr f ↦ f
  ]

  no-items : (q j : ℕ) → IsTrue (is_in q s.places) → IsTrue (is_in q (pinned_places start)) → j < (layout_at start.setup.types (word_in start) q).ref_count → ⊥
  no-items q j t pin l =
      let none : refs_of (object_at store.kept (s.name q)) ≡ [] = s.sound.pins.no_references (s.name q) (pin-name q pin) in
      let few : length (object_from start.setup.types s.name (word_in start) q).refs ≡ 0 =
      ap length (sym (ap refs_of (found-at q s.words.objects t)) ∙ none) in
      let count = length-refs start.setup.types s.name (word_in start) q in
      absurd (omega (arith, few, count, l))

  follows-begins : Follows start.setup.types store (is_held_of start.remembered s.name) (pinned_places start) (word_in start) s.places s.places s.name (pinned_births store) [] [] left owes
  follows-begins = record {
    trace = trace-begins;
    todo_old = λ q t. absurd (is_in-nil q t);
    lasts = λ x t l u. elim (cases_Bool (is_in x (pinned_places start))) [
      | inl pin ↦ pin-name x pin
      | inr e ↦
          let old : is_young x ≡ false = old-lasting (is_young x) (is_in x (pinned_places start)) l e in
          let settled : is_in (s.name x) store.settled ≡ true = place-settled x t ∙ ap not old in
          absurd (let f : is_unsettled store (s.name x) ≡ false = rw (kept-name x t, settled) refl in let no : ⊥ = cc in no)
    ];
    waits = λ x t e.
        let parts = not-lasting (is_young x) (is_in x (pinned_places start)) e in
        let settled : is_in (s.name x) store.settled ≡ false = place-settled x t ∙ ap not parts.0 in
        (rw (kept-name x t, settled) refl, unpinned-name x t parts.1);
    gone = λ x t e. absurd (header-unmarked x s.words.objects t e);
    looked = λ q j t l c. elim (cases_Bool (is_in q (pinned_places start))) [
      | inl pin ↦ absurd (no-items q j t pin c)
      | inr e ↦
          let old : is_young q ≡ false = old-lasting (is_young q) (is_in q (pinned_places start)) l e in
          let settled : is_in (s.name q) store.settled ≡ true = place-settled q t ∙ ap not old in
          elim (cases_Bool (is_held_of start.remembered s.name (s.name q) j)) [
            | inl held_item ↦ inr (inl (b.items q j (is_in-old s.places q t old) c held_item))
            | inr forgot ↦ inr (inr (inl (settled, forgot)))
          ]
    ];
  }

  read-same : (ps : List ℕ) → AreAmong s.places ps → births_read start ps ≡ map s.name ps
  read-same ps among = map-same (λ (p : ℕ). word_in start (p + 1)) s.name ps (λ p t. sym (s.words.objects.named p (among p t)))

  weaks-among : AreAmong s.places start.weaks
  weaks-among p t = (filter-part (is_weak_at start.setup.types (word_in start)) s.places p
      (subst IsTrue (sym (list_any-IsPermutation (λ (y : ℕ). y == p) (filter (is_weak_at start.setup.types (word_in start)) s.places) start.weaks s.words.weak)) t)).0

  gray-among : AreAmong s.places start.gray
  gray-among p t = (old-is_in s.places p (s.gray p t)).0

  young-distinct : IsDistinct nat_eq (young_places s.places)
  young-distinct = places-differ s.name (young_places s.places) (rise-differ 1 start.next (map s.name (young_places s.places))
      (rise_part s.name is_young 1 start.next s.places s.births.rise))

  carried-begins : Carried start store (is_held_of start.remembered s.name) start.gray s.places s.places s.name 0
  carried-begins = record {
    held_there = s.remembered.there;
    held_named = λ x i. refl;
    gray_same = refl;
    gray_are = record { named = read-same start.gray gray-among; there = gray-among };
    weaks_are = record { named = read-same start.weaks weaks-among; there = weaks-among };
    walked_are = record {
      walks = s.words.young.walks;
      walk = s.words.young.walk;
      differ = IsDistinct-IsPermutation nat_eq eq-flips (young_places s.places) (walked s.words.young.walks)
          (IsPermutation-sym (walked s.words.young.walks) (young_places s.places) s.words.young.just) young-distinct;
      young = λ x t. young-is_in s.places x (subst IsTrue (list_any-IsPermutation (λ (y : ℕ). y == x) (walked s.words.young.walks) (young_places s.places) s.words.young.just) t);
      all = λ x t. subst IsTrue (sym (list_any-IsPermutation (λ (y : ℕ). y == x) (walked s.words.young.walks) (young_places s.places) s.words.young.just)) t;
    };
    weak_are = subst (IsPermutation (weak_births store.kept)) (sym (read-same start.weaks weaks-among))
        (subst (λ (births : List ℕ). IsPermutation births (map s.name start.weaks)) (sym (weak_named s.words.objects))
        (IsPermutation-map s.name (filter (is_weak_at start.setup.types (word_in start)) s.places) start.weaks s.words.weak));
    counted =
        let many : length store.settled ≡ length (old_places s.places) = ap length s.births.settled_are ∙ long s.name (old_places s.places) in
        omega (arith, many);
  }
    where
      long : (f : ℕ → ℕ) (ps : List ℕ) → length (map f ps) ≡ length ps
      long f [] = refl
      long f (p ∷ ps) = ap suc (long f ps)

  -- where things are then
  abbrev pub placing_begins : Placing
  placing_begins = record { met = s.places; places = s.places; husks = s.husks; waiting = s.waiting; name = s.name; found = pinned_births store }

  -- The parts are in the middle of a collection in which nothing was done.
  pub midway_begins : Midway start store (is_held_of start.remembered s.name) (changing_of start) placing_begins [] [] left owes none_moved []
  midway_begins = record {
    words = record {
      objects = s.words.objects;
      moving = none_moving s.words.objects;
      whole = s.words.whole;
      inside = s.words.young.inside;
      left_low = λ x t. inl t;
      nursery_whole = s.words.young.whole;
      husk = s.words.husk;
    };
    blocks = s.words.blocks;
    headers = s.headers;
    young_flags = s.young_flags;
    visited = s.visited;
    marked = s.remembered;
    homes = s.homes;
    rise = s.births.rise;
    follows = follows-begins;
    slots = s.slots;
    pins = s.pins;
    registered_are = s.finalizers.registered_are;
    chosen_are = s.finalizers.chosen_are;
    queues_are = s.finalizers.queues_are;
    links_are = s.links;
    links_rise = s.sound.links.rises;
    carried = carried-begins;
    units = s.units;
    gray = s.gray;
    moved_words = let placed = placed_words store.settled s.words.objects s.births.settled_are in omega (arith, placed.settled_are);
    made = s.made;
  }
