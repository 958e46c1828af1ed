-- What changes no part: an object is opened, and a reference to what stays is passed over.
use Rattle.std.proofs.Common.{◌≡◌, ℕ, ◌⊎◌, Bool, false, IsTrue, List, ◌∷◌, ◌++◌, map, inl, inr}
use Rattle.std.specs.Prelude.{◌||◌, ◌==◌}
use Rattle.std.proofs.lemmas.Bool.{eq-eqb}
use Rattle.type_table.specs.declared.info.TypeInfo.{TypeInfo}
use Rattle.type_table.specs.Table.{Table}
use Rattle.heap_space.specs.Places.{word_at}
use Rattle.heap_space.specs.Extents.{Extent}
use Rattle.object_model.proofs.Members.{is_in-tail, is_in-cases, and_both, and_first, and_second, or_first, or_second}
use Rattle.store_model.specs.Store.{Store}
use Rattle.object_model.specs.Object.{object_at}
use Rattle.object_model.specs.Sets.{is_in}
use Rattle.store_model.specs.Roots.{is_kept, referents_in}
use Rattle.store_model.specs.Reach.{refers}
use Rattle.store_model.specs.MinorCollection.{is_unsettled, is_entry, refers_unsettled}
use Rattle.heap_parts.specs.Parts.{HeapParts, pinned_places}
use Rattle.minor_collect.specs.Carried.{Moved}
use Rattle.minor_collect.specs.Entries.{has_remembered_referrer}
use Rattle.minor_collect.specs.Midway.{Midway, Changing, Owes, Follows, Placing}
use Rattle.minor_collect.proofs.TraceLaws.{AreYoung, opens, passes-over}

-- the middle, with what is said of references told anew
pub midway_follows : {start : HeapParts} {store : Store} {remembered : ℕ → ℕ → Bool} {now : Changing} {todo held left todo2 held2 left2 : List ℕ} {owes owes2 : Owes} {moved : Moved} {taken : List Extent}
    {placing : Placing} (mid : Midway start store remembered now placing todo held left owes moved taken)
    → Follows start.setup.types store remembered (pinned_places start) (word_at now.memory.blocks) placing.met placing.places placing.name placing.found todo2 held2 left2 owes2
    → Midway start store remembered now placing todo2 held2 left2 owes2 moved taken
midway_follows mid follows = record {
  words = mid.words;
  blocks = mid.blocks;
  headers = mid.headers;
  young_flags = mid.young_flags;
  visited = mid.visited;
  marked = mid.marked;
  homes = mid.homes;
  rise = mid.rise;
  follows = follows;
  slots = mid.slots;
  pins = mid.pins;
  registered_are = mid.registered_are;
  chosen_are = mid.chosen_are;
  queues_are = mid.queues_are;
  links_are = mid.links_are;
  links_rise = mid.links_rise;
  carried = mid.carried;
  units = mid.units;
  gray = mid.gray;
  moved_words = mid.moved_words;
  made = mid.made;
}

-- entries and what steps lead to are unsettled
pub are_unsettled : (store : Store) (is_held : ℕ → Bool) → AreYoung (is_entry store is_held) (refers_unsettled store) (is_unsettled store)
are_unsettled store is_held = record {
  first = λ x t. and_first (is_unsettled store x) _ t;
  next = λ x y t. and_second (refers store.kept x y) (is_unsettled store y) t;
}

-- all items of one object more are owed
abbrev pub with_items : Owes → ℕ → Owes
with_items owes p = record owes { items = λ q j. (q == p) || owes.items q j }

module _ {types : Table TypeInfo} {store : Store} {remembered : ℕ → ℕ → Bool} {pins : List ℕ} {w name : ℕ → ℕ} {met places found held : List ℕ} {owes : Owes} where
  -- an object is opened: its items are owed, and its referents are to be looked at
  pub opened_follows : (p : ℕ) (todo left : List ℕ) → ((y : ℕ) → IsTrue (is_in y (referents_in (object_at store.kept (name p)))) → IsTrue (is_kept store.kept y))
      → Follows types store remembered pins w met places name found (p ∷ todo) held left owes
      → Follows types store remembered pins w met places name found todo held (referents_in (object_at store.kept (name p)) ++ left) (with_items owes p)
  opened_follows p todo left kept f = record {
    trace = opens (is_entry store (has_remembered_referrer store remembered)) (refers_unsettled store) (is_unsettled store) found (map name todo) left
        (referents_in (object_at store.kept (name p))) (name p) f.trace
        (λ z t. and_first (is_in z (referents_in (object_at store.kept (name p)))) (is_kept store.kept z) (and_first (refers store.kept (name p) z) (is_unsettled store z) t))
        (λ z t u. and_both (refers store.kept (name p) z) (is_unsettled store z) (and_both (is_in z (referents_in (object_at store.kept (name p)))) (is_kept store.kept z) t (kept z t)) u);
    todo_old = λ q t. f.todo_old q (is_in-tail q p todo t);
    lasts = f.lasts;
    waits = f.waits;
    gone = f.gone;
    looked = λ q j t l b. elim (f.looked q j t l b) [
      | inl u ↦ elim (is_in-cases q p todo u) [
        | inl e ↦ inr (inl (or_first (q == p) (owes.items q j) (eq-eqb q p e)))
        | inr k ↦ inl k
      ]
      | inr (inl o) ↦ inr (inl (or_second (q == p) (owes.items q j) o))
      | inr (inr rest) ↦ inr (inr rest)
    ];
  }

  -- a birth that is found, or is settled, is passed over
  pub passed_follows : (x : ℕ) (todo less : List ℕ) → IsTrue (is_in x found) ⊎ (is_unsettled store x ≡ false)
      → Follows types store remembered pins w met places name found todo held (x ∷ less) owes → Follows types store remembered pins w met places name found todo held less owes
  passed_follows x todo less why f = record {
    trace = passes-over (is_entry store (has_remembered_referrer store remembered)) (refers_unsettled store) (is_unsettled store) found (map name todo) less x
        (are_unsettled store (has_remembered_referrer store remembered)) f.trace why;
    todo_old = f.todo_old;
    lasts = f.lasts;
    waits = f.waits;
    gone = f.gone;
    looked = f.looked;
  }
