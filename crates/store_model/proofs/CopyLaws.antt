-- References that are copied as through a buffer, one after the other: the first one first, or the last one first.
use Rattle.std.proofs.Common.{◌≡◌, ℕ, zero, suc, ◌+◌, ◌-◌, ◌<◌, ◌≤◌, true, false, List, [], ◌∷◌, ◌++◌, Option, Some, None, length, get_or, set, take, drop, map, nat_eq, refl, sym, ap, ap₂, ◌∙◌, ◌≢◌, subst, inl, inr, arith, append_assoc, length-drop}
use Rattle.std.specs.Prelude.{◌==◌, if◌then◌else◌, slice_set, slice_range, option_and_then}
use Rattle.std.specs.List.{IsDistinct, AllByRecursion}
use Rattle.std.proofs.Math.Seq.{drop-cons}
use Rattle.std.proofs.lemmas.Bool.{cases_Bool}
use Rattle.std.proofs.lemmas.Bool.Decides.{nat_tests, eqb_tells}
use Rattle.std.proofs.lemmas.List.{take_more, get_or-drop, get_or-take, take-append-drop, get_or_append_left, get_or-append_right, set-append_right, length-take-le}
use Rattle.object_model.specs.Object.{Object, object_at}
use Rattle.object_model.specs.Fields.{changed_at, with_ref, refs_of, ref_in}
use Rattle.store_model.specs.Store.{Store}
use Rattle.store_model.specs.Slots.{held, object_in}
use Rattle.store_model.specs.PlainCommands.{copied, with_refs, copy_refs}
use Rattle.store_model.specs.Steps.{ref_at, put_ref}

abbrev Refs : Type 0
Refs = List (Option ℕ)

-- the references that are copied
range-is : (others : Refs) (oi k : ℕ) → slice_range others oi (oi + k) ≡ take k (drop oi others)
range-is others oi k = ap (λ (n : ℕ). take n (drop oi others)) (let e : (oi + k) - oi ≡ k = omega arith in e)

copied-is : (refs : Refs) (item : ℕ) (others : Refs) (oi k : ℕ) → copied refs item others oi k ≡ take item refs ++ (take k (drop oi others) ++ drop (item + k) refs)
copied-is refs item others oi k = ap (λ (xs : Refs). take item refs ++ (xs ++ drop (item + k) refs)) (range-is others oi k)

length-part : (others : Refs) (oi k : ℕ) → oi + k ≤ length others → length (take k (drop oi others)) ≡ k
length-part others oi k l = length-take-le k (drop oi others) (omega (arith, l, length-drop oi others))

-- one more, behind the others
copied-on : (refs : Refs) (item : ℕ) (others : Refs) (oi k : ℕ) → item + k < length refs → oi + k < length others
    → set (copied refs item others oi k) (item + k) (get_or others (oi + k) None) ≡ copied refs item others oi (k + 1)
copied-on refs item others oi k l m =
    let T : Refs = take item refs in let S : Refs = take k (drop oi others) in
    let x : Option ℕ = get_or refs (item + k) None in let y : Option ℕ = get_or others (oi + k) None in
    let D : Refs = drop (suc (item + k)) refs in
    let front : length T ≡ item = length-take-le item refs (omega (arith, l)) in
    let part : length S ≡ k = length-part others oi k (omega (arith, m)) in
    let rest : drop (item + k) refs ≡ x ∷ D = drop-cons refs (item + k) None l in
    let one : take (k + 1) (drop oi others) ≡ S ++ y ∷ [] =
    take_more (drop oi others) k None (omega (arith, m, length-drop oi others)) ∙ ap (λ (z : Option ℕ). S ++ z ∷ []) (get_or-drop oi others k None) in
    let next : item + (k + 1) ≡ suc (item + k) = omega arith in
    ap (λ (xs : Refs). set xs (item + k) y) (copied-is refs item others oi k ∙ ap (λ (xs : Refs). T ++ (S ++ xs)) rest)
    ∙ set-append_right T (S ++ x ∷ D) item (item + k) y front (omega arith)
    ∙ ap (λ (j : ℕ). T ++ set (S ++ x ∷ D) j y) (let e : (item + k) - item ≡ k = omega arith in e)
    ∙ ap (λ (xs : Refs). T ++ xs) (set-append_right S (x ∷ D) k k y part (omega arith) ∙ ap (λ (j : ℕ). S ++ set (x ∷ D) j y) (let e : k - k ≡ 0 = omega arith in e))
    ∙ ap (λ (xs : Refs). T ++ xs) (sym (append_assoc S (y ∷ []) D))
    ∙ ap (λ (xs : Refs). T ++ (xs ++ D)) (sym one)
    ∙ ap (λ (j : ℕ). T ++ (take (k + 1) (drop oi others) ++ drop j refs)) (sym next)
    ∙ sym (copied-is refs item others oi (k + 1))

-- one more, in front of the others
copied-back : (refs : Refs) (item : ℕ) (others : Refs) (oi m r : ℕ) → item + m < length refs → oi + m < length others
    → set (copied refs (item + suc m) others (oi + suc m) r) (item + m) (get_or others (oi + m) None) ≡ copied refs (item + m) others (oi + m) (suc r)
copied-back refs item others oi m r l k =
    let T : Refs = take (item + m) refs in
    let x : Option ℕ = get_or refs (item + m) None in let y : Option ℕ = get_or others (oi + m) None in
    let R : Refs = take r (drop (oi + suc m) others) ++ drop ((item + suc m) + r) refs in
    let front : length T ≡ item + m = length-take-le (item + m) refs (omega (arith, l)) in
    let one : take (item + suc m) refs ≡ T ++ x ∷ [] = ap (λ (j : ℕ). take j refs) (let e : item + suc m ≡ (item + m) + 1 = omega arith in e) ∙ take_more refs (item + m) None l in
    let more : drop (oi + m) others ≡ y ∷ drop (oi + suc m) others =
    drop-cons others (oi + m) None k ∙ ap (λ (j : ℕ). y ∷ drop j others) (let e : suc (oi + m) ≡ oi + suc m = omega arith in e) in
    ap (λ (xs : Refs). set xs (item + m) y) (copied-is refs (item + suc m) others (oi + suc m) r ∙ ap (λ (xs : Refs). xs ++ R) one ∙ append_assoc T (x ∷ []) R)
    ∙ set-append_right T (x ∷ R) (item + m) (item + m) y front (omega arith)
    ∙ ap (λ (j : ℕ). T ++ set (x ∷ R) j y) (let e : (item + m) - (item + m) ≡ 0 = omega arith in e)
    ∙ ap (λ (j : ℕ). T ++ y ∷ (take r (drop (oi + suc m) others) ++ drop j refs)) (let e : (item + suc m) + r ≡ (item + m) + suc r = omega arith in e)
    ∙ ap (λ (xs : Refs). T ++ (take (suc r) xs ++ drop ((item + m) + suc r) refs)) (sym more)
    ∙ sym (copied-is refs (item + m) others (oi + m) (suc r))

-- what stands in an item is read, and None where there is no such item
ref-get : (xs : Refs) (j : ℕ) → ref_in xs j ≡ get_or xs j None
ref-get [] j = refl
ref-get (x ∷ xs) zero = refl
ref-get (x ∷ xs) (suc j) = ref-get xs j

-- an item that is not copied to yet is read as before
ahead-same : (refs : Refs) (item oi k : ℕ) → item ≤ oi → item + k < length refs → oi + k < length refs
    → get_or (copied refs item refs oi k) (oi + k) None ≡ get_or refs (oi + k) None
ahead-same refs item oi k order l m =
    let T : Refs = take item refs in let S : Refs = take k (drop oi refs) in let D : Refs = drop (item + k) refs in
    let front : length T ≡ item = length-take-le item refs (omega (arith, l)) in
    let part : length S ≡ k = length-part refs oi k (omega (arith, m)) in
    ap (λ (xs : Refs). get_or xs (oi + k) None) (copied-is refs item refs oi k)
    ∙ get_or-append_right T (S ++ D) item (oi + k) None front (omega (arith, order))
    ∙ get_or-append_right S D k ((oi + k) - item) None part (omega (arith, order))
    ∙ get_or-drop (item + k) refs (((oi + k) - item) - k) None
    ∙ ap (λ (j : ℕ). get_or refs j None) (let e : (item + k) + (((oi + k) - item) - k) ≡ oi + k = omega (arith, order) in e)

behind-same : (refs : Refs) (item oi m r : ℕ) → oi ≤ item → item + m < length refs
    → get_or (copied refs (item + suc m) refs (oi + suc m) r) (oi + m) None ≡ get_or refs (oi + m) None
behind-same refs item oi m r order l =
    let T : Refs = take (item + m) refs in
    let x : Option ℕ = get_or refs (item + m) None in
    let R : Refs = take r (drop (oi + suc m) refs) ++ drop ((item + suc m) + r) refs in
    let front : length (take (item + suc m) refs) ≡ item + suc m = length-take-le (item + suc m) refs (omega (arith, l)) in
    ap (λ (xs : Refs). get_or xs (oi + m) None) (copied-is refs (item + suc m) refs (oi + suc m) r)
    ∙ get_or_append_left (take (item + suc m) refs) R None (oi + m) (omega (arith, front, order))
    ∙ get_or-take (item + suc m) refs (oi + m) None (omega (arith, order))

-- one object of those that may change
abbrev picked : ℕ → (Object → Object) → Object → Object
picked y f o = if y == o.birth then f o else o

picked-is : (y : ℕ) (f : Object → Object) (o : Object) → (y == o.birth) ≡ true → picked y f o ≡ f o
picked-is y f o e = rw e refl

picked-not : (y : ℕ) (f : Object → Object) (o : Object) → (y == o.birth) ≡ false → picked y f o ≡ o
picked-not y f o e = rw e refl

-- an object with other references is found with them
seen-same : (xs : Refs) (x : ℕ) (kept : List Object) → refs_of (object_at kept x) ≢ [] → refs_of (object_at (changed_at (Some x) (with_refs xs) kept) x) ≡ xs
seen-same xs x [] some = absurd (some refl)
seen-same xs x (o ∷ kept) some =
    let rest : List Object = changed_at (Some x) (with_refs xs) kept in
    elim (cases_Bool (x == o.birth)) [
      | inl is ↦ ap (λ (p : Object). refs_of (object_at (p ∷ rest) x)) (picked-is x (with_refs xs) o is) ∙ rw is refl
      | inr away ↦ ap (λ (p : Object). refs_of (object_at (p ∷ rest) x)) (picked-not x (with_refs xs) o away) ∙ rw away (seen-same xs x kept (λ z. some (rw away z)))
    ]

-- and the others as before
seen-other : (xs : Refs) (y x : ℕ) (kept : List Object) → y ≢ x → object_at (changed_at (Some y) (with_refs xs) kept) x ≡ object_at kept x
seen-other xs y x [] ne = refl
seen-other xs y x (o ∷ kept) ne =
    let rest : List Object = changed_at (Some y) (with_refs xs) kept in
    elim (cases_Bool (y == o.birth)) [
      | inl mine ↦
          (let other : (x == o.birth) ≡ false = grind (arith, nat_tests) in
          ap (λ (p : Object). object_at (p ∷ rest) x) (picked-is y (with_refs xs) o mine) ∙ rw other (seen-other xs y x kept ne))
      | inr away ↦ ap (λ (p : Object). object_at (p ∷ rest) x) (picked-not y (with_refs xs) o away)
          ∙ ap (λ (found : Option Object). if x == o.birth then Some o else found) (seen-other xs y x kept ne)
    ]

picked-set : (y : ℕ) (xs : Refs) (i : ℕ) (v : Option ℕ) (o : Object) → picked y (with_ref i v) (picked y (with_refs xs) o) ≡ picked y (with_refs (slice_set xs i v)) o
picked-set y xs i v o = elim (cases_Bool (y == o.birth)) [
  | inl is ↦ ap (picked y (with_ref i v)) (picked-is y (with_refs xs) o is) ∙ picked-is y (with_ref i v) (with_refs xs o) is ∙ sym (picked-is y (with_refs (slice_set xs i v)) o is)
  | inr away ↦ ap (picked y (with_ref i v)) (picked-not y (with_refs xs) o away) ∙ picked-not y (with_ref i v) o away ∙ sym (picked-not y (with_refs (slice_set xs i v)) o away)
]

-- an object whose references changed, and then one of them
changed-set : (b : Option ℕ) (xs : Refs) (i : ℕ) (v : Option ℕ) (kept : List Object)
    → changed_at b (with_ref i v) (changed_at b (with_refs xs) kept) ≡ changed_at b (with_refs (slice_set xs i v)) kept
changed-set None xs i v kept = refl
changed-set (Some y) xs i v [] = refl
changed-set (Some y) xs i v (o ∷ kept) =
    ap₂ (λ (p : Object) (os : List Object). p ∷ os) (picked-set y xs i v o) (changed-set (Some y) xs i v kept)

none-changed : (f : Object → Object) (x : ℕ) (kept : List Object) → AllByRecursion (λ z. nat_eq x z ≡ false) (map (λ (o : Object). o.birth) kept) → changed_at (Some x) f kept ≡ kept
none-changed f x [] all = refl
none-changed f x (o ∷ kept) all = ap₂ (λ (p : Object) (os : List Object). p ∷ os) (picked-not x f o all.0) (none-changed f x kept all.1)

-- an object gets its own references
own-refs : (x : ℕ) (kept : List Object) → IsDistinct nat_eq (map (λ (o : Object). o.birth) kept) → changed_at (Some x) (with_refs (refs_of (object_at kept x))) kept ≡ kept
unfolding IsDistinct
own-refs x [] d = refl
own-refs x (o ∷ kept) d = elim (eqb_tells x o.birth) [
  | inl e ↦
      (let none : AllByRecursion (λ z. nat_eq x z ≡ false) (map (λ (o : Object). o.birth) kept) =
      subst (λ (k : ℕ). AllByRecursion (λ z. nat_eq k z ≡ false) (map (λ (o : Object). o.birth) kept)) (sym e.1) d.0 in
      let found : refs_of (object_at (o ∷ kept) x) ≡ o.refs = rw e.0 refl in
      ap (λ (xs : Refs). changed_at (Some x) (with_refs xs) (o ∷ kept)) found
      ∙ ap₂ (λ (p : Object) (os : List Object). p ∷ os) (picked-is x (with_refs o.refs) o e.0) (none-changed (with_refs o.refs) x kept none))
  | inr away ↦
      (let found : refs_of (object_at (o ∷ kept) x) ≡ refs_of (object_at kept x) = rw away.0 refl in
      ap (λ (xs : Refs). changed_at (Some x) (with_refs xs) (o ∷ kept)) found
      ∙ ap₂ (λ (p : Object) (os : List Object). p ∷ os) (picked-not x (with_refs (refs_of (object_at kept x))) o away.0) (own-refs x kept d.1))
]

-- the references of the object in a slot
abbrev pub refs_in_slot : Store → ℕ → Refs
refs_in_slot store slot = refs_of (object_in store.slots store.kept slot)

-- Nothing is copied.
pub copy-none : (store : Store) (root item from oi : ℕ) → IsDistinct nat_eq (map (λ (o : Object). o.birth) store.kept) → copy_refs store root item from oi 0 ≡ store
copy-none store root item from oi d = ap (λ (kept : List Object). record store { kept = kept }) (go (held store.slots root))
  where
    refs-same : (refs others : Refs) → copied refs item others oi 0 ≡ refs
    refs-same refs others = copied-is refs item others oi 0 ∙ ap (λ (j : ℕ). take item refs ++ drop j refs) (let e : item + 0 ≡ item = omega arith in e) ∙ take-append-drop item refs

    go : (b : Option ℕ) → changed_at b (with_refs (copied (refs_of (option_and_then (object_at store.kept) b)) item (refs_in_slot store from) oi 0)) store.kept ≡ store.kept
    go None = refl
    go (Some x) = ap (λ (xs : Refs). changed_at (Some x) (with_refs xs) store.kept) (refs-same (refs_of (object_at store.kept x)) (refs_in_slot store from)) ∙ own-refs x store.kept d

-- an item of an object is read as before where it is not copied to
abbrev refs_by : List Object → Option ℕ → Refs
refs_by kept birth = refs_of (option_and_then (object_at kept) birth)

read-same : (kept : List Object) (b f : Option ℕ) (xs : Refs) (j : ℕ) → (b ≡ f → get_or xs j None ≡ get_or (refs_by kept f) j None) → refs_by kept f ≢ []
    → ref_in (refs_by (changed_at b (with_refs xs) kept) f) j ≡ get_or (refs_by kept f) j None
read-same kept None f xs j same some = ref-get (refs_by kept f) j
read-same kept (Some y) None xs j same some = absurd (some refl)
read-same kept (Some y) (Some x) xs j same some = elim (eqb_tells y x) [
  | inl e ↦
      ap (λ (k : ℕ). ref_in (refs_by (changed_at (Some k) (with_refs xs) kept) (Some x)) j) e.1
      ∙ ap (λ (ys : Refs). ref_in ys j) (seen-same xs x kept some) ∙ ref-get xs j ∙ same (ap Some e.1)
  | inr ne ↦ ap (λ (found : Option Object). ref_in (refs_of found) j) (seen-other xs y x kept ne.1) ∙ ref-get (refs_by kept (Some x)) j
]

not-empty : (xs : Refs) (j : ℕ) → j < length xs → xs ≢ []
not-empty [] j l e = absurd (omega (arith, l))
not-empty (x ∷ xs) j l e = let none : length (x ∷ xs) ≡ 0 = ap (length {A = Option ℕ}) e in omega (arith, none)

-- one reference more
step : (store : Store) (root from j : ℕ) (xs ys : Refs) (i : ℕ) → (held store.slots root ≡ held store.slots from → get_or xs j None ≡ get_or (refs_in_slot store from) j None)
    → j < length (refs_in_slot store from) → slice_set xs i (get_or (refs_in_slot store from) j None) ≡ ys
    → let after : Store = record store { kept = changed_at (held store.slots root) (with_refs xs) store.kept } in
    put_ref after root i (ref_at after from j) ≡ record store { kept = changed_at (held store.slots root) (with_refs ys) store.kept }
step store root from j xs ys i same l is =
    let b : Option ℕ = held store.slots root in
    let kept : List Object = changed_at b (with_refs xs) store.kept in
    let read : ref_in (refs_by kept (held store.slots from)) j ≡ get_or (refs_in_slot store from) j None =
    read-same store.kept b (held store.slots from) xs j same (not-empty (refs_in_slot store from) j l) in
    ap (λ (v : Option ℕ). record store { kept = changed_at b (with_ref i v) kept }) read
    ∙ ap (λ (os : List Object). record store { kept = os }) (changed-set b xs i (get_or (refs_in_slot store from) j None) store.kept)
    ∙ ap (λ (zs : Refs). record store { kept = changed_at b (with_refs zs) store.kept }) is

-- One reference more is copied, behind the others. Within one object they are copied to no item behind theirs.
pub copy-on : (store : Store) (root item from oi k : ℕ) → item + k < length (refs_in_slot store root) → oi + k < length (refs_in_slot store from)
    → (held store.slots root ≡ held store.slots from → item ≤ oi)
    → put_ref (copy_refs store root item from oi k) root (item + k) (ref_at (copy_refs store root item from oi k) from (oi + k)) ≡ copy_refs store root item from oi (k + 1)
copy-on store root item from oi k l m order =
    let refs : Refs = refs_in_slot store root in let others : Refs = refs_in_slot store from in
    step store root from (oi + k) (copied refs item others oi k) (copied refs item others oi (k + 1)) (item + k)
    (λ e. let P : Option ℕ → Type 0 = λ f. get_or (copied refs item (refs_by store.kept f) oi k) (oi + k) None ≡ get_or (refs_by store.kept f) (oi + k) None in
    let Q : Option ℕ → Type 0 = λ f. oi + k < length (refs_by store.kept f) in
    subst P e (ahead-same refs item oi k (order e) l (subst Q (sym e) m)))
    m (copied-on refs item others oi k l m)

-- One reference more is copied, in front of the others. Within one object they are copied to no item in front of theirs.
pub copy-back : (store : Store) (root item from oi m r : ℕ) → item + m < length (refs_in_slot store root) → oi + m < length (refs_in_slot store from)
    → (held store.slots root ≡ held store.slots from → oi ≤ item)
    → put_ref (copy_refs store root (item + suc m) from (oi + suc m) r) root (item + m) (ref_at (copy_refs store root (item + suc m) from (oi + suc m) r) from (oi + m))
    ≡ copy_refs store root (item + m) from (oi + m) (suc r)
copy-back store root item from oi m r l k order =
    let refs : Refs = refs_in_slot store root in let others : Refs = refs_in_slot store from in
    step store root from (oi + m) (copied refs (item + suc m) others (oi + suc m) r) (copied refs (item + m) others (oi + m) (suc r)) (item + m)
    (λ e. let P : Option ℕ → Type 0 = λ f. get_or (copied refs (item + suc m) (refs_by store.kept f) (oi + suc m) r) (oi + m) None ≡ get_or (refs_by store.kept f) (oi + m) None in
    subst P e (behind-same refs item oi m r (order e) l))
    k (copied-back refs item others oi m r l k)
