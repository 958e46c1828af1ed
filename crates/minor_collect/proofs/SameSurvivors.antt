-- Where the barrier forgot nothing, what remembered items hold is what settled objects hold.
use Rattle.std.proofs.Common.{◌≡◌, ℕ, zero, suc, ◌+◌, Bool, true, false, IsTrue, List, [], ◌∷◌, map, Option, Some, None, refl, sym, ap, ◌∙◌, subst, inl, inr, arith}
use Rattle.std.specs.Prelude.{not, ◌&&◌, ◌||◌, filter_map, slice_get}
use Rattle.std.specs.List.{list_any}
use Rattle.std.proofs.lemmas.Bool.{cases_Bool}
use Rattle.type_table.specs.declared.info.TypeInfo.{TypeInfo}
use Rattle.type_table.specs.Table.{Table}
use Rattle.object_model.proofs.Members.{is_in-head, is_in-tail, is_in-cases, is_in-nil, and_both, and_first, and_second, or_cases, or_first, or_second}
use Rattle.object_view.proofs.LayoutLaws.{birth-from}
use Rattle.object_view.proofs.FoundLaws.{found-at}
use Rattle.object_model.specs.Object.{Object, referents, object_at}
use Rattle.store_model.specs.Store.{Store, is_settled}
use Rattle.object_model.specs.Sets.{is_in}
use Rattle.object_model.specs.Fields.{refs_of}
use Rattle.store_model.specs.Roots.{is_kept, referents_in}
use Rattle.object_model.specs.ObjectWords.{object_from}
use Rattle.object_model.specs.Holds.{HoldsObjects}
use Rattle.store_model.specs.Reach.{Tells, is_root, is_registered}
use Rattle.store_model.specs.MarkingOrder.{IsItem, YoungHeld}
use Rattle.store_model.specs.MinorCollection.{is_unsettled, is_entry, has_settled_referrer, SurvivesBy, Survives}
use Rattle.minor_collect.specs.Entries.{referents_where, has_remembered_referrer}
use Rattle.store_model.proofs.Survives.{referrer-found}

-- a referent is in some item
pub record InItem (refs : List (Option ℕ)) (y : ℕ) : Type 0 where
  pub item : ℕ
  pub is : slice_get refs item ≡ Some (Some y)

later-item : (r : Option ℕ) (refs : List (Option ℕ)) (y : ℕ) → InItem refs y → InItem (r ∷ refs) y
later-item r refs y i = record { item = suc i.item; is = i.is }

in-item : (refs : List (Option ℕ)) (y : ℕ) → IsTrue (is_in y (filter_map (λ r. r) refs)) → InItem refs y
in-item [] y t = absurd (is_in-nil y t)
in-item (None ∷ refs) y t = later-item None refs y (in-item refs y t)
in-item (Some x ∷ refs) y t = elim (is_in-cases y x (filter_map (λ (r : Option ℕ). r) refs) t) [
  | inl e ↦ record { item = 0; is = ap (λ (k : ℕ). Some (Some k)) (sym e) }
  | inr u ↦ later-item (Some x) refs y (in-item refs y u)
]

pub item-where : (test : ℕ → Bool) (k : ℕ) (refs : List (Option ℕ)) (i y : ℕ) → slice_get refs i ≡ Some (Some y) → test (k + i) ≡ true → IsTrue (is_in y (referents_where test k refs))
item-where test k [] i y e t = absurd (let no : ⊥ = cc in no)
item-where test k (None ∷ refs) zero y e t = absurd (let no : ⊥ = cc in no)
item-where test k (None ∷ refs) (suc i) y e t = item-where test (k + 1) refs i y e (ap test (let n : k + 1 + i ≡ k + suc i = omega arith in n) ∙ t)
item-where test k (Some x ∷ refs) zero y e t =
    let same : x ≡ y = cc in
    let here : test k ≡ true = ap test (let n : k ≡ k + 0 = omega arith in n) ∙ t in
    rw here (let P : ℕ → Type 0 = λ z. IsTrue (is_in z (x ∷ referents_where test (k + 1) refs)) in subst P same (is_in-head x (referents_where test (k + 1) refs)))
item-where test k (Some x ∷ refs) (suc i) y e t =
    let more = item-where test (k + 1) refs i y e (ap test (let n : k + 1 + i ≡ k + suc i = omega arith in n) ∙ t) in
    elim (cases_Bool (test k)) [ inl p ↦ rw p (is_in-tail y x (referents_where test (k + 1) refs) more) | inr p ↦ rw p more ]

pub where-some : (test : ℕ → Bool) (k : ℕ) (refs : List (Option ℕ)) (y : ℕ) → IsTrue (is_in y (referents_where test k refs)) → IsTrue (is_in y (filter_map (λ r. r) refs))
where-some test k [] y t = absurd (is_in-nil y t)
where-some test k (None ∷ refs) y t = where-some test (k + 1) refs y t
where-some test k (Some x ∷ refs) y t = elim (cases_Bool (test k)) [
  | inl p ↦ elim (is_in-cases y x (referents_where test (k + 1) refs) (rw p at t)) [
    | inl e ↦ let P : ℕ → Type 0 = λ z. IsTrue (is_in z (x ∷ filter_map (λ (r : Option ℕ). r) refs)) in subst P (sym e) (is_in-head x (filter_map (λ (r : Option ℕ). r) refs))
    | inr u ↦ is_in-tail y x (filter_map (λ (r : Option ℕ). r) refs) (where-some test (k + 1) refs y u)
  ]
  | inr p ↦ is_in-tail y x (filter_map (λ (r : Option ℕ). r) refs) (where-some test (k + 1) refs y (rw p at t))
]

-- what holds of one that is among some births
pub record OneOf (f : ℕ → Bool) (xs : List ℕ) : Type 0 where
  pub one : ℕ
  pub there : IsTrue (is_in one xs)
  pub holds : IsTrue (f one)

one-later : (f : ℕ → Bool) (x : ℕ) (xs : List ℕ) → OneOf f xs → OneOf f (x ∷ xs)
one-later f x xs o = record { one = o.one; there = is_in-tail o.one x xs o.there; holds = o.holds }

pub one-of : (f : ℕ → Bool) (xs : List ℕ) → IsTrue (list_any f xs) → OneOf f xs
one-of f [] t = absurd (let no : ⊥ = cc in no)
one-of f (x ∷ xs) t = elim (or_cases (f x) (list_any f xs) t) [
  | inl here ↦ record { one = x; there = is_in-head x xs; holds = here }
  | inr more ↦ one-later f x xs (one-of f xs more)
]

pub any-of : (f : ℕ → Bool) (xs : List ℕ) (x : ℕ) → IsTrue (is_in x xs) → IsTrue (f x) → IsTrue (list_any f xs)
any-of f [] x t h = absurd (is_in-nil x t)
any-of f (y ∷ xs) x t h = elim (is_in-cases x y xs t) [
  | inl e ↦ or_first (f y) (list_any f xs) (subst (λ (k : ℕ). IsTrue (f k)) e h)
  | inr u ↦ or_second (f y) (list_any f xs) (any-of f xs x u h)
]

read-any : (f : Object → Bool) (read : ℕ → Object) (ps : List ℕ) → IsTrue (list_any f (map read ps)) → OneOf (λ p. f (read p)) ps
read-any f read [] t = absurd (let no : ⊥ = cc in no)
read-any f read (p ∷ ps) t = elim (or_cases (f (read p)) (list_any f (map read ps)) t) [
  | inl here ↦ record { one = p; there = is_in-head p ps; holds = here }
  | inr more ↦ one-later (λ q. f (read q)) p ps (read-any f read ps more)
]

pub refs-in : (o : Option Object) (y : ℕ) → IsTrue (is_in y (filter_map (λ r. r) (refs_of o))) → IsTrue (is_in y (referents_in o))
refs-in None y t = t
refs-in (Some o) y t = t

module _ {types : Table TypeInfo} {w name : ℕ → ℕ} {met places : List ℕ} (store : Store) (remembered : ℕ → ℕ → Bool)
    (h : HoldsObjects types w met places name store.kept) (held : YoungHeld store.kept store.settled remembered) where
  less-held : (x : ℕ) → IsTrue (has_remembered_referrer store remembered x) → IsTrue (has_settled_referrer store x)
  less-held x t =
      let o = one-of (λ (b : ℕ). is_in x (referents_where (remembered b) 0 (refs_of (object_at store.kept b)))) store.settled t in
      referrer-found store o.one x (object_at store.kept o.one) refl
      (refs-in (object_at store.kept o.one) x (where-some (remembered o.one) 0 (refs_of (object_at store.kept o.one)) x o.holds)) o.there

  more-held : (x : ℕ) → IsTrue (is_unsettled store x) → IsTrue (has_settled_referrer store x) → IsTrue (has_remembered_referrer store remembered x)
  more-held x un t =
      let test : Object → Bool = λ object. is_settled store.settled object.birth && is_in x (referents object) in
      let o = read-any test (object_from types name w) places (subst (λ (os : List Object). IsTrue (list_any test os)) h.reads t) in
      let p : ℕ = o.one in
      let object : Object = object_from types name w p in
      let birth : object.birth ≡ name p = birth-from types name w p ∙ sym (h.named p o.there) in
      let settled : IsTrue (is_in (name p) store.settled) = subst (λ (b : ℕ). IsTrue (is_in b store.settled)) birth (and_first (is_settled store.settled object.birth) (is_in x (referents object)) o.holds) in
      let item = in-item object.refs x (and_second (is_settled store.settled object.birth) (is_in x (referents object)) o.holds) in
      let at : object_at store.kept (name p) ≡ Some object = found-at p h o.there in
      let is : IsItem store.kept (name p) item.item x = ap (λ (f : Option Object). slice_get (refs_of f) item.item) at ∙ item.is in
      elim (held (name p) item.item x settled is) [
        | inl s ↦ absurd (clash (is_kept store.kept x) (is_in x store.settled) un s)
        | inr r ↦ any-of (λ (b : ℕ). is_in x (referents_where (remembered b) 0 (refs_of (object_at store.kept b)))) store.settled (name p) settled
            (subst (λ (f : Option Object). IsTrue (is_in x (referents_where (remembered (name p)) 0 (refs_of f)))) (sym at)
            (item-where (remembered (name p)) 0 object.refs item.item x item.is (ap (remembered (name p)) (let n : 0 + item.item ≡ item.item = omega arith in n) ∙ r)))
      ]
    where
      clash : (k s : Bool) → IsTrue (k && not s) → IsTrue s → ⊥
      clash true true a b = let no : ⊥ = cc in no
      clash true false a b = let no : ⊥ = cc in no
      clash false s a b = let no : ⊥ = cc in no

  entry-either : (root registered a b : Bool) → (IsTrue a → IsTrue b) → IsTrue (root || (registered || a)) → IsTrue (root || (registered || b))
  entry-either true registered a b f t = refl
  entry-either false true a b f t = refl
  entry-either false false a b f t = f t

  entry-same : (f g : ℕ → Bool) (x : ℕ) → (IsTrue (is_unsettled store x) → IsTrue (f x) → IsTrue (g x)) → IsTrue (is_entry store f x) → IsTrue (is_entry store g x)
  entry-same f g x more t =
      let un = and_first (is_unsettled store x) _ t in
      and_both (is_unsettled store x) _ un (entry-either (is_root store x) (is_registered store x) (f x) (g x) (more un) (and_second (is_unsettled store x) _ t))

  -- the two readings of what survives are one
  pub tells_survives : (survives : ℕ → Bool) → Tells survives (SurvivesBy store (has_remembered_referrer store remembered)) → Tells survives (Survives store)
  tells_survives survives tells x = (
    λ t. let l = (tells x).0 t in (l.0, entry-same (has_remembered_referrer store remembered) (has_settled_referrer store) l.0 (λ un k. less-held l.0 k) l.1, l.2, l.3),
    λ l. (tells x).1 (l.0, entry-same (has_settled_referrer store) (has_remembered_referrer store remembered) l.0 (λ un k. more-held l.0 un k) l.1, l.2, l.3),
  )
