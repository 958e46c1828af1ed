-- The object of a birth is the one that is read at its place, and what is read there are its fields.
use Rattle.std.proofs.Common.{◌≡◌, ℕ, zero, suc, ◌+◌, ◌<◌, IsTrue, List, [], ◌∷◌, Option, Some, None, length, map, get_or, slice_get, option_and_then, refl, sym, ap, ◌∙◌, inl, inr, arith, sum_by}
use Rattle.std.specs.List.{fold}
use Rattle.std.proofs.lemmas.Bool.Decides.{eqb_tells}
use Rattle.std.proofs.lemmas.List.{length-map}
use Rattle.type_table.specs.declared.info.Shape.{Shape}
use Rattle.type_table.specs.declared.info.Shape.TheVariants.{Fixed, IntArray, RefArray, Weak}
use Rattle.type_table.specs.declared.info.TypeInfo.{TypeInfo}
use Rattle.type_table.specs.Table.{Table}
use Rattle.type_table.specs.Words.{words_in}
use Rattle.object_model.specs.Layout.{layout_of}
use Rattle.object_model.specs.Object.{Object, words_of, object_at, kept_words}
use Rattle.object_model.specs.Fields.{ref_in}
use Rattle.object_model.specs.Sets.{is_in}
use Rattle.object_model.specs.ObjectWords.{words_from, renamed, type_id_at, info_at, layout_at, words_at, target_of, object_from}
use Rattle.object_model.specs.Holds.{HoldsObjects, IsPointer}
use Rattle.object_view.proofs.WordLaws.{length-words_from, get_or-words_from}
use Rattle.object_model.proofs.Members.{is_in-head, is_in-tail, is_in-cases, is_in-nil}
use Rattle.object_view.proofs.LayoutLaws.{laid_out, birth-from}

-- the first object of a birth, where each place has a birth of its own
found-first : (f : ℕ → Object) (name : ℕ → ℕ) (ps : List ℕ) (p : ℕ)
    → ((q : ℕ) → IsTrue (is_in q ps) → (f q).birth ≡ name q) → ((q : ℕ) → IsTrue (is_in q ps) → name p ≡ name q → p ≡ q)
    → IsTrue (is_in p ps) → object_at (map f ps) (name p) ≡ Some (f p)
found-first f name [] p births differ t = absurd (is_in-nil p t)
found-first f name (q ∷ ps) p births differ t = elim (eqb_tells (name p) (f q).birth) [
  | inl e ↦ rw e.0 (ap (λ k. Some (f k)) (sym (differ q (is_in-head q ps) (e.1 ∙ births q (is_in-head q ps)))))
  | inr e ↦ rw e.0 (found-first f name ps p (λ r u. births r (is_in-tail r q ps u)) (λ r u. differ r (is_in-tail r q ps u))
      (elim (is_in-cases p q ps t) [
        | inl same ↦ absurd (e.1 (ap name same ∙ sym (births q (is_in-head q ps))))
        | inr u ↦ u
      ]))
]

-- The object named by a place is the one that is read there.
pub found-at : {types : Table TypeInfo} {w name : ℕ → ℕ} {met places : List ℕ} {kept : List Object} (p : ℕ)
    → HoldsObjects types w met places name kept → IsTrue (is_in p places)
    → object_at kept (name p) ≡ Some (object_from types name w p)
found-at {types = types} {w = w} {name = name} {places = places} p h t =
    ap (λ ks. object_at ks (name p)) h.reads
    ∙ found-first (object_from types name w) name places p (λ q u. birth-from types name w q ∙ sym (h.named q u)) (λ q u. h.differ p q t u) t

-- an object that is found stands at a place
pub record StandsAt (types : Table TypeInfo) (name w : ℕ → ℕ) (places : List ℕ) (object : Object) : Type 0 where
  pub place : ℕ
  pub there : IsTrue (is_in place places)
  pub is : object ≡ object_from types name w place

tail-stands : {types : Table TypeInfo} {name w : ℕ → ℕ} {ps : List ℕ} {object : Object} (q : ℕ)
    → StandsAt types name w ps object → StandsAt types name w (q ∷ ps) object
tail-stands {ps = ps} q s = record { place = s.place; there = is_in-tail s.place q ps s.there; is = s.is }

abbrev object_or : Option Object → Object → Object
object_or (Some x) other = x
object_or None other = other

some-same : (x y : Object) → Some x ≡ Some y → x ≡ y
some-same x y e = ap (λ o. object_or o x) e

stands-first : (types : Table TypeInfo) (name w : ℕ → ℕ) (ps : List ℕ) (birth : ℕ) (object : Object)
    → object_at (map (object_from types name w) ps) birth ≡ Some object → StandsAt types name w ps object
stands-first types name w [] birth object e = absurd (let no : ⊥ = cc in no)
stands-first types name w (q ∷ ps) birth object e = elim (eqb_tells birth (object_from types name w q).birth) [
  | inl hit ↦ record { place = q; there = is_in-head q ps; is = sym (some-same (object_from types name w q) object (rw hit.0 at e)) }
  | inr miss ↦ tail-stands q (stands-first types name w ps birth object (rw miss.0 at e))
]

pub stands-found : {types : Table TypeInfo} {w name : ℕ → ℕ} {met places : List ℕ} {kept : List Object} (birth : ℕ) (object : Object)
    → HoldsObjects types w met places name kept → object_at kept birth ≡ Some object → StandsAt types name w places object
stands-found {types = types} {w = w} {name = name} {places = places} birth object h e =
    stands-first types name w places birth object (ap (λ ks. object_at ks birth) (sym h.reads) ∙ e)

-- the fields of the object that is read

pub ints-from : (types : Table TypeInfo) (name w : ℕ → ℕ) (p : ℕ)
    → (object_from types name w p).ints ≡ words_from w (layout_at types w p).int_start (layout_at types w p).int_count
unfolding object_from
ints-from types name w p = refl

pub refs-from : (types : Table TypeInfo) (name w : ℕ → ℕ) (p : ℕ)
    → (object_from types name w p).refs
    ≡ map (renamed name) (words_from w (layout_at types w p).ref_start (layout_at types w p).ref_count)
unfolding object_from
refs-from types name w p = refl

pub info-from : (types : Table TypeInfo) (name w : ℕ → ℕ) (p : ℕ) → (object_from types name w p).info ≡ info_at types w p
unfolding object_from
info-from types name w p = refl

pub type-from : (types : Table TypeInfo) (name w : ℕ → ℕ) (p : ℕ) → (object_from types name w p).type_id ≡ type_id_at w p
unfolding object_from
type-from types name w p = refl

pub target-from : (types : Table TypeInfo) (name w : ℕ → ℕ) (p : ℕ) → (info_at types w p).shape ≡ Weak
    → (object_from types name w p).target ≡ renamed name (w (layout_at types w p).ref_start)
unfolding object_from
target-from types name w p e = ap (λ s. target_of s (renamed name (w (layout_at types w p).ref_start))) e

pub length-ints : (types : Table TypeInfo) (name w : ℕ → ℕ) (p : ℕ)
    → length (object_from types name w p).ints ≡ (layout_at types w p).int_count
length-ints types name w p =
    ap length (ints-from types name w p) ∙ length-words_from w (layout_at types w p).int_start (layout_at types w p).int_count

pub length-refs : (types : Table TypeInfo) (name w : ℕ → ℕ) (p : ℕ)
    → length (object_from types name w p).refs ≡ (layout_at types w p).ref_count
length-refs types name w p =
    let places : List ℕ = words_from w (layout_at types w p).ref_start (layout_at types w p).ref_count in
    ap length (refs-from types name w p) ∙ length-map places (renamed name)
    ∙ length-words_from w (layout_at types w p).ref_start (layout_at types w p).ref_count

-- whole number i
pub int-from : (types : Table TypeInfo) (name w : ℕ → ℕ) (p i : ℕ) → i < (layout_at types w p).int_count
    → get_or (object_from types name w p).ints i 0 ≡ w ((layout_at types w p).int_start + i)
int-from types name w p i l =
    ap (λ xs. get_or xs i 0) (ints-from types name w p)
    ∙ get_or-words_from w (layout_at types w p).int_start i (layout_at types w p).int_count l

get-some : {X : Type 0} → (xs : List X) (i : ℕ) (d : X) → i < length xs → slice_get xs i ≡ Some (get_or xs i d)
get-some [] i d l = absurd (omega (arith, l))
get-some (x ∷ xs) zero d l = refl
get-some (x ∷ xs) (suc i) d l = get-some xs i d (omega (arith, l))

pub get_or-map : {X Y : Type 0} → (f : X → Y) (xs : List X) (i : ℕ) (d : X) → get_or (map f xs) i (f d) ≡ f (get_or xs i d)
get_or-map f [] i d = refl
get_or-map f (x ∷ xs) zero d = refl
get_or-map f (x ∷ xs) (suc i) d = get_or-map f xs i d

-- whole number i is there
pub int-get : (types : Table TypeInfo) (name w : ℕ → ℕ) (p i : ℕ) → i < (layout_at types w p).int_count
    → slice_get (object_from types name w p).ints i ≡ Some (w ((layout_at types w p).int_start + i))
int-get types name w p i l =
    get-some (object_from types name w p).ints i 0 (omega (arith, l, length-ints types name w p)) ∙ ap Some (int-from types name w p i l)

-- reference i: the name of the place in its word
pub ref-from : (types : Table TypeInfo) (name w : ℕ → ℕ) (p i : ℕ) → i < (layout_at types w p).ref_count
    → ref_in (object_from types name w p).refs i ≡ renamed name (w ((layout_at types w p).ref_start + i))
ref-from types name w p i l =
    let start : ℕ = (layout_at types w p).ref_start in let count : ℕ = (layout_at types w p).ref_count in
    let places : List ℕ = words_from w start count in
    ap (option_and_then (λ birth. birth)) (get-some (object_from types name w p).refs i (renamed name 0) (omega (arith, l, length-refs types name w p)))
    ∙ ap (λ rs. get_or rs i (renamed name 0)) (refs-from types name w p) ∙ get_or-map (renamed name) places i 0
    ∙ ap (renamed name) (get_or-words_from w start i count l)

-- the place in a reference is nil or one that references may have
pub ref-pointer : {types : Table TypeInfo} {w name : ℕ → ℕ} {met places : List ℕ} {kept : List Object} (p i : ℕ)
    → HoldsObjects types w met places name kept → IsTrue (is_in p places) → i < (layout_at types w p).ref_count
    → IsPointer met (w ((layout_at types w p).ref_start + i))
ref-pointer {types = types} {w = w} p i h t l = h.closed p i t (omega (arith, l, (laid_out types w p).refs))

items-of : (s : Shape) (p third : ℕ) → words_in s ((layout_of s p third).int_count + (layout_of s p third).ref_count) ≡ (layout_of s p third).words
items-of (Fixed a b) p third = refl
items-of IntArray p third = omega arith
items-of RefArray p third = omega arith
items-of Weak p third = refl

items-at : (types : Table TypeInfo) (w : ℕ → ℕ) (p : ℕ)
    → words_in (info_at types w p).shape ((layout_at types w p).int_count + (layout_at types w p).ref_count) ≡ words_at types w p
unfolding layout_at
items-at types w p = items-of (info_at types w p).shape p (w (p + 2))

-- the words that the store counts of the object are those that it takes
pub words-from : (types : Table TypeInfo) (name w : ℕ → ℕ) (p : ℕ) → words_of (object_from types name w p) ≡ words_at types w p
words-from types name w p =
    rw (info-from types name w p, length-ints types name w p, length-refs types name w p) (items-at types w p)

sum-from : (f : Object → ℕ) (g : ℕ → Object) (h : ℕ → ℕ) (ps : List ℕ) (n : ℕ) → ((p : ℕ) → f (g p) ≡ h p)
    → fold (λ a x. a + f x) n (map g ps) ≡ fold (λ a p. a + h p) n ps
sum-from f g h [] n same = refl
sum-from f g h (p ∷ ps) n same =
    sum-from f g h ps (n + f (g p)) same ∙ ap (λ k. fold (λ a p. a + h p) (n + k) ps) (same p)

-- the words that the store counts of its objects are those that they take
pub kept_words-held : {types : Table TypeInfo} {w name : ℕ → ℕ} {met places : List ℕ} {kept : List Object} → HoldsObjects types w met places name kept
    → kept_words kept ≡ sum_by (words_at types w) places
kept_words-held {types = types} {w = w} {name = name} {places = places} h =
    ap kept_words h.reads ∙ sum-from words_of (object_from types name w) (words_at types w) places 0 (words-from types name w)
