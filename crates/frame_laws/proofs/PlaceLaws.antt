-- Places in the nursery and outside it, and the words of their objects.
use Rattle.std.proofs.Common.{◌≡◌, ℕ, ◌+◌, Bool, true, false, IsTrue, List, [], ◌∷◌, ◌++◌, map, refl, sym, ap, ap₂, ◌∙◌, subst, inl, inr, arith, append-nil}
use Rattle.std.specs.Prelude.{filter, not, sum_by}
use Rattle.std.proofs.lemmas.Bool.{cases_Bool}
use Rattle.std.proofs.lemmas.List.Elements.{filter-append}
use Rattle.std.proofs.lemmas.List.Sums.{sum_by-cons}
use Rattle.type_table.specs.declared.info.TypeInfo.{TypeInfo}
use Rattle.type_table.specs.Table.{Table}
use Rattle.object_model.proofs.Members.{is_in-head, is_in-tail, is_in-cases, is_in-nil, filter-part, filter-member, is_in-named}
use Rattle.object_view.proofs.LayoutLaws.{birth-from}
use Rattle.object_view.proofs.FoundLaws.{kept_words-held}
use Rattle.object_view.proofs.SurvivorLaws.{part_holds}
use Rattle.object_model.specs.Object.{Object, kept_words}
use Rattle.store_model.specs.Store.{unsettled_words, settled_words}
use Rattle.object_model.specs.Sets.{is_in}
use Rattle.object_model.specs.ObjectWords.{object_from, words_at}
use Rattle.object_model.specs.Holds.{HoldsObjects}
use Rattle.parts_model.specs.Places.{is_young, young_places, old_places}

-- one more element, which passes a test or not
pub filter-more : (test : ℕ → Bool) (xs : List ℕ) (a : ℕ) → test a ≡ true → filter test (xs ++ a ∷ []) ≡ filter test xs ++ a ∷ []
filter-more test xs a e = filter-append test xs (a ∷ []) ∙ ap (λ (ys : List ℕ). filter test xs ++ ys) (let one : filter test (a ∷ []) ≡ a ∷ [] = rw e refl in one)

pub filter-same : (test : ℕ → Bool) (xs : List ℕ) (a : ℕ) → test a ≡ false → filter test (xs ++ a ∷ []) ≡ filter test xs
filter-same test xs a e =
    filter-append test xs (a ∷ []) ∙ (ap (λ (ys : List ℕ). filter test xs ++ ys) (let none : filter test (a ∷ []) ≡ [] = rw e refl in none) ∙ append-nil (filter test xs))

pub young-more : (places : List ℕ) (a : ℕ) → is_young a ≡ true → young_places (places ++ a ∷ []) ≡ young_places places ++ a ∷ []
young-more places a e = filter-more is_young places a e

pub old-same : (places : List ℕ) (a : ℕ) → is_young a ≡ true → old_places (places ++ a ∷ []) ≡ old_places places
old-same places a e = filter-same (λ p. not (is_young p)) places a (ap not e)

pub young-same : (places : List ℕ) (a : ℕ) → is_young a ≡ false → young_places (places ++ a ∷ []) ≡ young_places places
young-same places a e = filter-same is_young places a e

pub old-more : (places : List ℕ) (a : ℕ) → is_young a ≡ false → old_places (places ++ a ∷ []) ≡ old_places places ++ a ∷ []
old-more places a e = filter-more (λ p. not (is_young p)) places a (ap not e)

not-true : (b : Bool) → not b ≡ true → b ≡ false
not-true true e = absurd (let no : ⊥ = cc in no)
not-true false e = refl

-- a place of either kind is one of the places
pub young-is_in : (places : List ℕ) (p : ℕ) → IsTrue (is_in p (young_places places)) → IsTrue (is_in p places) × (is_young p ≡ true)
young-is_in places p t = filter-part is_young places p t

pub old-is_in : (places : List ℕ) (p : ℕ) → IsTrue (is_in p (old_places places)) → IsTrue (is_in p places) × (is_young p ≡ false)
old-is_in places p t = let part = filter-part (λ q. not (is_young q)) places p t in (part.0, not-true (is_young p) part.1)

-- one of the places is of either kind
pub is_in-young : (places : List ℕ) (p : ℕ) → IsTrue (is_in p places) → is_young p ≡ true → IsTrue (is_in p (young_places places))
is_in-young places p t e = filter-member is_young places p t e

pub is_in-old : (places : List ℕ) (p : ℕ) → IsTrue (is_in p places) → is_young p ≡ false → IsTrue (is_in p (old_places places))
is_in-old places p t e = filter-member (λ q. not (is_young q)) places p t (ap not e)

-- the objects that pass a test are those at the places that pass it
filter-read : (test : Object → Bool) (passes : ℕ → Bool) (read : ℕ → Object) (ps : List ℕ)
    → ((p : ℕ) → IsTrue (is_in p ps) → test (read p) ≡ passes p) → filter test (map read ps) ≡ map read (filter passes ps)
filter-read test passes read [] same = refl
filter-read test passes read (p ∷ ps) same =
    let more = filter-read test passes read ps (λ q t. same q (is_in-tail q p ps t)) in
    let here = same p (is_in-head p ps) in
    elim (cases_Bool (passes p)) [
      | inl e ↦ rw (here, e) (ap (λ (os : List Object). read p ∷ os) more)
      | inr e ↦ rw (here, e) more
    ]

-- a name of some places is that of one of them
pub record IsNamed (name : ℕ → ℕ) (ps : List ℕ) (x : ℕ) : Type 0 where
  pub place : ℕ
  pub there : IsTrue (is_in place ps)
  pub is : x ≡ name place

named-later : (name : ℕ → ℕ) (p x : ℕ) (ps : List ℕ) → IsNamed name ps x → IsNamed name (p ∷ ps) x
named-later name p x ps n = record { place = n.place; there = is_in-tail n.place p ps n.there; is = n.is }

pub named-by : (name : ℕ → ℕ) (x : ℕ) (ps : List ℕ) → IsTrue (is_in x (map name ps)) → IsNamed name ps x
named-by name x [] t = absurd (is_in-nil x t)
named-by name x (p ∷ ps) t = elim (is_in-cases x (name p) (map name ps) t) [
  | inl e ↦ record { place = p; there = is_in-head p ps; is = e }
  | inr u ↦ named-later name p x ps (named-by name x ps u)
]

-- the name of a place is among the names of the old ones where the place is old
pub settled-old : (name : ℕ → ℕ) (places : List ℕ) (p : ℕ) → IsTrue (is_in p places)
    → ((q r : ℕ) → IsTrue (is_in q places) → IsTrue (is_in r places) → name q ≡ name r → q ≡ r)
    → is_in (name p) (map name (old_places places)) ≡ not (is_young p)
settled-old name places p t differ = elim (cases_Bool (is_young p)) [
  | inl e ↦ elim (cases_Bool (is_in (name p) (map name (old_places places)))) [
    | inl in_old ↦
        let n = named-by name (name p) (old_places places) in_old in
        let old = old-is_in places n.place n.there in
        let same : p ≡ n.place = differ p n.place t old.0 n.is in
        absurd (let young : is_young n.place ≡ true = subst (λ (q : ℕ). is_young q ≡ true) same e in let no : ⊥ = cc in no)
    | inr out ↦ out ∙ ap not (sym e)
  ]
  | inr e ↦ is_in-named name p (old_places places) (is_in-old places p t e) ∙ ap not (sym e)
]

-- The words of a store, by the places of its objects.
pub record PlacedWords (types : Table TypeInfo) (w : ℕ → ℕ) (places : List ℕ) (kept : List Object) (settled : List ℕ) : Type 0 where
  pub unsettled : unsettled_words kept settled ≡ sum_by (words_at types w) (young_places places)
  pub settled_are : settled_words kept settled ≡ sum_by (words_at types w) (old_places places)
  pub all : kept_words kept ≡ sum_by (words_at types w) (young_places places) + sum_by (words_at types w) (old_places places)

-- words are of one kind or the other
sum-parts : (f : ℕ → ℕ) (test : ℕ → Bool) (ps : List ℕ) → sum_by f ps ≡ sum_by f (filter test ps) + sum_by f (filter (λ p. not (test p)) ps)
sum-parts f test [] = refl
sum-parts f test (p ∷ ps) =
    let more = sum-parts f test ps in
    let whole = sum_by-cons f p ps in
    elim (cases_Bool (test p)) [
      | inl e ↦
          let first : sum_by f (filter test (p ∷ ps)) ≡ f p + sum_by f (filter test ps) = rw e (sum_by-cons f p (filter test ps)) in
          let second : sum_by f (filter (λ q. not (test q)) (p ∷ ps)) ≡ sum_by f (filter (λ q. not (test q)) ps) = rw e refl in
          omega (arith, more, whole, first, second)
      | inr e ↦
          let first : sum_by f (filter test (p ∷ ps)) ≡ sum_by f (filter test ps) = rw e refl in
          let second : sum_by f (filter (λ q. not (test q)) (p ∷ ps)) ≡ f p + sum_by f (filter (λ q. not (test q)) ps) =
          rw e (sum_by-cons f p (filter (λ q. not (test q)) ps)) in
          omega (arith, more, whole, first, second)
    ]

part-words : {types : Table TypeInfo} {w name : ℕ → ℕ} {met places : List ℕ} {kept : List Object} (remain : List ℕ)
    → HoldsObjects types w met places name kept → ((q : ℕ) → IsTrue (is_in q remain) → IsTrue (is_in q places))
    → kept_words (map (object_from types name w) remain) ≡ sum_by (words_at types w) remain
part-words {met = met} remain h part = kept_words-held (part_holds met remain h part (λ p j t l. h.closed p j (part p t) l))

not-twice : (b : Bool) → not (not b) ≡ b
not-twice true = refl
not-twice false = refl

pub placed_words : {types : Table TypeInfo} {w name : ℕ → ℕ} {met places : List ℕ} {kept : List Object} (settled : List ℕ)
    → HoldsObjects types w met places name kept → settled ≡ map name (old_places places) → PlacedWords types w places kept settled
placed_words {types = types} {w = w} {name = name} {places = places} {kept = kept} settled h is =
    let read : ℕ → Object = object_from types name w in
    let birth : (p : ℕ) → IsTrue (is_in p places) → (read p).birth ≡ name p = λ p t. birth-from types name w p ∙ sym (h.named p t) in
    let settles : (p : ℕ) → IsTrue (is_in p places) → is_in (read p).birth settled ≡ not (is_young p) = λ p t.
    ap₂ is_in (birth p t) is ∙ settled-old name places p t h.differ in
    let young : filter (λ o. not (is_in o.birth settled)) kept ≡ map read (young_places places) =
    ap (filter (λ (o : Object). not (is_in o.birth settled))) h.reads
    ∙ filter-read (λ o. not (is_in o.birth settled)) is_young read places (λ p t. ap not (settles p t) ∙ not-twice (is_young p)) in
    let old : filter (λ o. is_in o.birth settled) kept ≡ map read (old_places places) =
    ap (filter (λ (o : Object). is_in o.birth settled)) h.reads
    ∙ filter-read (λ o. is_in o.birth settled) (λ p. not (is_young p)) read places settles in
    record {
      unsettled = ap kept_words young ∙ part-words (young_places places) h (λ q t. (young-is_in places q t).0);
      settled_are = ap kept_words old ∙ part-words (old_places places) h (λ q t. (old-is_in places q t).0);
      all = kept_words-held h ∙ sum-parts (words_at types w) is_young places;
    }
