-- Slots, registered objects and links follow: the middle stays, and less is owed.
use Rattle.std.proofs.Common.{◌≡◌, ◌≢◌, ℕ, zero, suc, ◌⊎◌, Bool, IsTrue, List, [], ◌∷◌, map, length, Option, Some, None, refl, sym, ap, ◌∙◌, subst, inl, inr}
use Rattle.std.specs.Prelude.{not, ◌==◌, slice_get, slice_set, option_map, option_and_then, filter_map, true, false}
use Rattle.std.proofs.lemmas.Bool.Decides.{eqb_tells}
use Rattle.type_table.specs.declared.info.TypeInfo.{TypeInfo}
use Rattle.type_table.specs.Table.{Table, KeysRise, value_at}
use Rattle.heap_space.specs.Extents.{Extent}
use Rattle.object_view.specs.Moving.{IsMoving, place_now}
use Rattle.object_model.proofs.Members.{is_in-head, is_in-tail, is_in-cases, is_in-nil, and_both}
use Rattle.object_model.specs.Object.{Object}
use Rattle.object_model.specs.Sets.{is_in}
use Rattle.store_model.specs.Store.{Store, Struct, Linked, Unlinked, Pending}
use Rattle.store_model.specs.Structs.{Structs, object_of, with_object, with_objects}
use Rattle.object_model.specs.ObjectWords.{renamed}
use Rattle.object_model.specs.Holds.{HoldsObjects, IsPointer}
use Rattle.heap_parts.specs.Parts.{HeapParts}
use Rattle.heap_parts.specs.Lists.{HoldsSlots, HoldsEntries, HoldsLinks}
use Rattle.birth_laws.proofs.BirthNames.{links_agree, rises-unnamed}
use Rattle.store_model.proofs.StructLaws.{value_at-objects, behind-first, first-value}
use Rattle.minor_collect.specs.Carried.{Moved}
use Rattle.minor_collect.specs.Midway.{Midway, Changing, Owes, FollowsLists, IsLasting, is_lasting, Placing}
use Rattle.minor_collect.specs.Calls.{without_slot}
use Rattle.minor_collect.specs.Registered.{without_registered}
use Rattle.minor_collect.proofs.Weaks.{now_place}
use Rattle.minor_collect.proofs.NamedObjects.{map-id}
use Rattle.std.specs.List.{cons_option}
use Rattle.type_table.proofs.TableLaws.{KeysRise-tail}

-- lists that name the same objects
pub midway_lists : {start : HeapParts} {store : Store} {remembered : ℕ → ℕ → Bool} {now : Changing} {todo held left : List ℕ} {owes : Owes} {moved : Moved} {taken : List Extent}
    {placing : Placing} (mid : Midway start store remembered now placing todo held left owes moved taken) (slots : List ℕ) (registered : List (ℕ × ℕ)) (links : Structs)
    → HoldsSlots slots placing.met placing.name start.setup.settings.roots store.slots → HoldsEntries registered placing.met placing.name store.registered
    → HoldsLinks links placing.met placing.name store.structs store.dead
    → Midway start store remembered (record now { slots = slots; registered = registered; links = links }) placing todo held left owes moved taken
midway_lists mid slots registered links slots_are registered_are links_are = record {
  words = mid.words;
  blocks = mid.blocks;
  headers = mid.headers;
  young_flags = mid.young_flags;
  visited = mid.visited;
  marked = mid.marked;
  homes = mid.homes;
  rise = mid.rise;
  follows = mid.follows;
  slots = slots_are;
  pins = mid.pins;
  registered_are = registered_are;
  chosen_are = mid.chosen_are;
  queues_are = mid.queues_are;
  links_are = links_are;
  links_rise = mid.links_rise;
  carried = mid.carried;
  units = mid.units;
  gray = mid.gray;
  moved_words = mid.moved_words;
  made = mid.made;
}

-- an item that is read as before
pub set-same : {X Y : Type 0} → (f : X → Y) (xs : List X) (k : ℕ) (x y : X) → slice_get xs k ≡ Some x → f y ≡ f x → map f (slice_set xs k y) ≡ map f xs
set-same f [] k x y e same = refl
set-same f (z ∷ xs) zero x y e same = ap (λ v. v ∷ map f xs) (same ∙ ap f (let is : x ≡ z = cc in is))
set-same f (z ∷ xs) (suc k) x y e same = ap (λ vs. f z ∷ vs) (set-same f xs k x y e same)

pub set-length : {X : Type 0} → (xs : List X) (k : ℕ) (y : X) → length (slice_set xs k y) ≡ length xs
set-length [] k y = refl
set-length (z ∷ xs) zero y = refl
set-length (z ∷ xs) (suc k) y = ap suc (set-length xs k y)

set-in : {X : Type 0} → (f : X → ℕ) (xs : List X) (k : ℕ) (y : X) (p : ℕ) → IsTrue (is_in p (map f (slice_set xs k y))) → (p ≡ f y) ⊎ IsTrue (is_in p (map f xs))
set-in f [] k y p t = absurd (is_in-nil p t)
set-in f (z ∷ xs) zero y p t = elim (is_in-cases p (f y) (map f xs) t) [ inl e ↦ inl e | inr u ↦ inr (is_in-tail p (f z) (map f xs) u) ]
set-in f (z ∷ xs) (suc k) y p t = elim (is_in-cases p (f z) (map f (slice_set xs k y)) t) [
  | inl e ↦ inr (let P : ℕ → Type 0 = λ i. IsTrue (is_in i (f z ∷ map f xs)) in subst P (sym e) (is_in-head (f z) (map f xs)))
  | inr u ↦ elim (set-in f xs k y p u) [ inl e ↦ inl e | inr v ↦ inr (is_in-tail p (f z) (map f xs) v) ]
]

get-here : {X : Type 0} → (xs : List X) (k : ℕ) (x y z : X) → slice_get xs k ≡ Some x → slice_get (slice_set xs k y) k ≡ Some z → z ≡ y
get-here [] k x y z e f = absurd (let no : ⊥ = cc in no)
get-here (v ∷ xs) zero x y z e f = cc
get-here (v ∷ xs) (suc k) x y z e f = get-here xs k x y z e f

pub get-other : {X : Type 0} → (xs : List X) (k j : ℕ) (y : X) → j ≢ k → slice_get (slice_set xs k y) j ≡ slice_get xs j
get-other [] k j y ne = refl
get-other (v ∷ xs) zero zero y ne = absurd (ne refl)
get-other (v ∷ xs) zero (suc j) y ne = refl
get-other (v ∷ xs) (suc k) zero y ne = refl
get-other (v ∷ xs) (suc k) (suc j) y ne = get-other xs k j y (λ e. ne (ap suc e))

-- a slot holds the place where its object is now
pub slot_holds : {slots met : List ℕ} {name : ℕ → ℕ} {roots : ℕ} {stored : List (Option ℕ)} (k x y : ℕ) → slice_get slots k ≡ Some x → renamed name y ≡ renamed name x → IsPointer met y
    → HoldsSlots slots met name roots stored → HoldsSlots (slice_set slots k y) met name roots stored
slot_holds {slots = slots} {met = met} {name = name} k x y e same leads h = record {
  named = h.named ∙ sym (set-same (renamed name) slots k x y e same);
  many = set-length slots k y ∙ h.many;
  pointers = λ p t. elim (set-in (λ i. i) slots k y p (subst (λ (l : List ℕ). IsTrue (is_in p l)) (sym (map-id (slice_set slots k y))) t)) [
    | inl is ↦ let P : ℕ → Type 0 = λ i. IsPointer met i in subst P (sym is) leads
    | inr u ↦ h.pointers p (subst (λ (l : List ℕ). IsTrue (is_in p l)) (map-id slots) u)
  ];
}

-- and so does an entry
pub entry_holds : {entries : List (ℕ × ℕ)} {met : List ℕ} {name : ℕ → ℕ} {stored : List (ℕ × ℕ)} (k y : ℕ) (e : ℕ × ℕ) → slice_get entries k ≡ Some e → name y ≡ name e.0 → IsTrue (is_in y met)
    → HoldsEntries entries met name stored → HoldsEntries (slice_set entries k (y, e.1)) met name stored
entry_holds {entries = entries} {met = met} {name = name} k y e is same there h = record {
  named = h.named ∙ sym (set-same (λ (entry : ℕ × ℕ). (name entry.0, entry.1)) entries k e (y, e.1) is (ap (λ (b : ℕ). (b, e.1)) same));
  there = λ p t. elim (set-in (λ (entry : ℕ × ℕ). entry.0) entries k (y, e.1) p t) [
    | inl at ↦ subst (λ (i : ℕ). IsTrue (is_in i met)) (sym at) there
    | inr u ↦ h.there p u
  ];
}

pub objects-twice : (f g : ℕ → ℕ) (structs : Table Struct) → with_objects (λ p. f (g p)) structs ≡ with_objects f (with_objects g structs)
objects-twice f g [] = refl
objects-twice f g ((n, Linked p light object own) ∷ structs) = ap (λ (rest : Table Struct). (n, Linked p light (f (g object)) own) ∷ rest) (objects-twice f g structs)
objects-twice f g ((n, Unlinked own) ∷ structs) = ap (λ (rest : Table Struct). (n, Unlinked own) ∷ rest) (objects-twice f g structs)
objects-twice f g ((n, Pending) ∷ structs) = ap (λ (rest : Table Struct). (n, Pending) ∷ rest) (objects-twice f g structs)

-- the object of a structure under another name
pub record IsRenamed (f : ℕ → ℕ) (s : Option Struct) (p : ℕ) : Type 0 where
  pub from : ℕ
  pub was : option_and_then object_of s ≡ Some from
  pub is : f from ≡ p

pub is-renamed : (f : ℕ → ℕ) (s : Option Struct) (p : ℕ) → option_and_then object_of (option_map (with_object f) s) ≡ Some p → IsRenamed f s p
is-renamed f None p e = absurd (let no : ⊥ = cc in no)
is-renamed f (Some (Linked q light object own)) p e = record { from = object; was = refl; is = (let inj : f object ≡ p = cc in inj) }
is-renamed f (Some (Unlinked own)) p e = absurd (let no : ⊥ = cc in no)
is-renamed f (Some Pending) p e = absurd (let no : ⊥ = cc in no)

-- all links at once lead to where their objects are now
pub links_hold : {types : Table TypeInfo} {w name : ℕ → ℕ} {met places : List ℕ} {kept : List Object} {links : Structs} {structs : Table Struct} {dead : List ℕ}
    → HoldsObjects types w met places name kept → IsMoving types w met places name → KeysRise structs → HoldsLinks links met name structs dead
    → HoldsLinks (record { structs = with_objects (place_now w) links.structs; dead = links.dead }) met name structs dead
links_hold {w = w} {name = name} {met = met} {links = links} h m rises held = record {
  named = (links_agree {places = met} {more = met} {name = name} {other = λ p. name (place_now w p)} (λ p t. (now_place h m p t).1) (λ p t. t) rises held).named
      ∙ objects-twice name (place_now w) links.structs;
  there = λ n p e.
      let r = is-renamed (place_now w) (value_at links.structs n) p (ap (option_and_then object_of) (sym (value_at-objects (place_now w) links.structs n)) ∙ e) in
      subst (λ (k : ℕ). IsTrue (is_in k met)) r.is (m.stay (place_now w r.from) (now_place h m r.from (held.there n r.from r.was)).0);
  queue = held.queue;
}

module _ {pins places : List ℕ} {owes : Owes} {slots : List ℕ} {registered : List (ℕ × ℕ)} {linked : List ℕ} (f : FollowsLists pins places owes slots registered linked) where
  pub slot_followed : (k x y : ℕ) → slice_get slots k ≡ Some x → IsLasting pins places y → FollowsLists pins places (without_slot owes k) (slice_set slots k y) registered linked
  slot_followed k x y is last = record {
    slot = λ j p e. elim (eqb_tells j k) [
      | inl z ↦ inr (subst (IsLasting pins places) (sym (get-here slots k x y p is (ap (slice_get (slice_set slots k y)) (sym z.1) ∙ e))) last)
      | inr z ↦ elim (f.slot j p (sym (get-other slots k j y z.1) ∙ e)) [
        | inl owed ↦ inl (and_both (not (j == k)) (owes.slots j) (ap not z.0) owed)
        | inr l ↦ inr l
      ]
    ];
    entry = f.entry;
    link = f.link;
  }

  pub entry_followed : (k y : ℕ) (e : ℕ × ℕ) → slice_get registered k ≡ Some e → IsLasting pins places y → FollowsLists pins places (without_registered owes k) slots (slice_set registered k (y, e.1)) linked
  entry_followed k y e is last = record {
    slot = f.slot;
    entry = λ j q at. elim (eqb_tells j k) [
      | inl z ↦ inr (let same : q ≡ (y, e.1) = get-here registered k e (y, e.1) q is (ap (slice_get (slice_set registered k (y, e.1))) (sym z.1) ∙ at) in
          let P : ℕ × ℕ → Type 0 = λ i. IsLasting pins places i.0 in subst P (sym same) last)
      | inr z ↦ elim (f.entry j q (sym (get-other registered k j (y, e.1) z.1) ∙ at)) [
        | inl owed ↦ inl (and_both (not (j == k)) (owes.registered j) (ap not z.0) owed)
        | inr l ↦ inr l
      ]
    ];
    link = f.link;
  }

-- an object that a structure is linked with stands at a number
pub record IsLinkedAt (structs : Table Struct) (x : ℕ) : Type 0 where
  pub number : ℕ
  pub holds : option_and_then object_of (value_at structs number) ≡ Some x

some-cons : (found : Option ℕ) (xs : List ℕ) (x : ℕ) → IsTrue (is_in x (cons_option found xs)) → (found ≡ Some x) ⊎ IsTrue (is_in x xs)
some-cons None xs x t = inr t
some-cons (Some y) xs x t = elim (is_in-cases x y xs t) [ inl e ↦ inl (ap Some (sym e)) | inr u ↦ inr u ]

linked-at : (structs : Table Struct) (x : ℕ) → KeysRise structs → IsTrue (is_in x (filter_map (λ (entry : ℕ × Struct). object_of entry.1) structs)) → IsLinkedAt structs x
linked-at [] x rises t = absurd (is_in-nil x t)
linked-at (entry ∷ structs) x rises t = elim (some-cons (object_of entry.1) (filter_map (λ (e : ℕ × Struct). object_of e.1) structs) x t) [
  | inl e ↦ record { number = entry.0; holds = ap (option_and_then object_of) (first-value entry structs) ∙ e }
  | inr u ↦
      let more = linked-at structs x (KeysRise-tail entry structs rises) u in
      elim (eqb_tells more.number entry.0) [
        | inl e ↦ absurd (let none : value_at structs entry.0 ≡ None = behind-first entry structs rises in
            let holds : option_and_then object_of (value_at structs entry.0) ≡ Some x = subst (λ (k : ℕ). option_and_then object_of (value_at structs k) ≡ Some x) e.1 more.holds in
            let no_value : option_and_then object_of (value_at structs entry.0) ≡ None = ap (option_and_then object_of) none in let no : ⊥ = cc in no)
        | inr e ↦ record {
          number = more.number;
          holds = ap (option_and_then object_of) (let other : value_at (entry ∷ structs) more.number ≡ value_at structs more.number = rw e.0 refl in other) ∙ more.holds;
        }
      ]
]

-- the linked objects are among those of the places
pub linked_there : {links : Structs} {met : List ℕ} {name : ℕ → ℕ} {structs : Table Struct} {dead : List ℕ} → KeysRise structs → HoldsLinks links met name structs dead
    → (p : ℕ) → IsTrue (is_in p (filter_map (λ (entry : ℕ × Struct). object_of entry.1) links.structs)) → IsTrue (is_in p met)
linked_there {links = links} {name = name} rises h p t =
    let at = linked-at links.structs p (rises-unnamed name links.structs (subst KeysRise h.named rises)) t in h.there at.number p at.holds

-- Once all links lead to where their objects are, none is owed.
pub links_followed : {types : Table TypeInfo} {w name : ℕ → ℕ} {met pins places : List ℕ} {kept : List Object} {links : Structs} {structs : Table Struct} {dead : List ℕ} {owes : Owes} {slots : List ℕ} {registered : List (ℕ × ℕ)} {linked : List ℕ}
    → HoldsObjects types w met places name kept → IsMoving types w met places name → KeysRise structs → HoldsLinks links met name structs dead
    → FollowsLists pins places owes slots registered linked
    → FollowsLists pins places (record owes { links = λ p. false }) slots registered (filter_map (λ (entry : ℕ × Struct). object_of entry.1) (with_objects (place_now w) links.structs))
links_followed {w = w} {name = name} {pins = pins} {places = places} {links = links} h m rises held f = record {
  slot = f.slot;
  entry = f.entry;
  link = λ p t.
      let all = links_hold h m rises held in
      let at = linked-at (with_objects (place_now w) links.structs) p (rises-unnamed name (with_objects (place_now w) links.structs) (subst KeysRise all.named rises)) t in
      let r = is-renamed (place_now w) (value_at links.structs at.number) p (ap (option_and_then object_of) (sym (value_at-objects (place_now w) links.structs at.number)) ∙ at.holds) in
      inr (subst (λ (k : ℕ). IsTrue (is_in k places)) r.is (now_place h m r.from (held.there at.number r.from r.was)).0, either (is_lasting pins p));
}
  where
    either : (b : Bool) → (b ≡ true) ⊎ (b ≡ false)
    either true = inl refl
    either false = inr refl
