-- Lists of entries by their places and births.
use Rattle.std.proofs.Common.{◌≡◌, ℕ, zero, suc, ◌+◌, ◌<◌, Bool, true, false, IsTrue, ◌==◌, List, [], ◌∷◌, ◌++◌, length, get_or, take, drop, Option, Some, None, refl, sym, ap, ap₂, ◌∙◌, inl, inr, arith}
use Rattle.std.specs.Prelude.{IfSome, IfNone, IsFalse, option_map, slice_get, position, cond, ◌||◌}
use Rattle.std.specs.List.{position_from}
use Rattle.std.proofs.lemmas.Bool.Decides.{eqb_tells}
use Rattle.std.proofs.lemmas.Iterator.Adapters.{position_from-zero}
use Rattle.std.proofs.lemmas.List.{take-append-drop}
use Rattle.std.proofs.lemmas.List.Folds.{list_any-append}
use Rattle.std.proofs.lemmas.List.Quantifiers.{position-Some}
use Rattle.std.proofs.lemmas.Option.{slice_get-get_or}
use Rattle.std.proofs.lemmas.List.{map-append}
use Rattle.object_model.specs.Sets.{is_in}
use Rattle.finalizer_order.specs.declared.entry.Entry.{Entry}
use Rattle.finalizer_order.specs.Finalizers.{places_of}
use Rattle.finalizer_order.proofs.Lists.{take-one, in-taken, in-mapped}

pub places-one : (xs : List Entry) (i : ℕ) (d : Entry) → i < length xs → places_of (take (i + 1) xs) ≡ places_of (take i xs) ++ (get_or xs i d).place ∷ []
places-one xs i d l = ap places_of (take-one xs i d l) ∙ map-append (λ (e : Entry). e.place) (take i xs) (get_or xs i d ∷ [])

pub place-taken : (xs : List Entry) (i x : ℕ) → IsTrue (is_in x (places_of (take i xs))) → IsTrue (is_in x (places_of xs))
place-taken xs i x t = in-taken (λ (e : Entry). e.place) xs i x t

pub place-listed : (xs : List Entry) (i : ℕ) (d : Entry) → i < length xs → IsTrue (is_in (get_or xs i d).place (places_of xs))
place-listed xs i d l = in-mapped (λ (e : Entry). e.place) xs i d l

-- a search by place

abbrev pub has_place : ℕ → Entry → Bool
has_place place entry = entry.place == place

pub found-at : (xs : List Entry) (place k : ℕ) → Some k ≡ position (has_place place) xs → option_map (λ (e : Entry). e.place) (slice_get xs k) ≡ Some place
found-at xs place k e =
    let d : Entry = record { place = 0; birth = 0; queue = 0 } in
    let m = position-Some (has_place place) xs k d (sym e) in
    ap (option_map (λ (x : Entry). x.place)) (slice_get-get_or xs k d m.0)
    ∙ elim (eqb_tells (get_or xs k d).place place) [
      | inl h ↦ ap Some h.1
      | inr h ↦ absurd (let yes = m.1 in let out = h.0 in let no : ⊥ = cc in no)
    ]

from-none : (xs : List Entry) (place i : ℕ) → position_from (has_place place) i xs ≡ None → is_in place (places_of xs) ≡ false
from-none [] place i e = refl
from-none (x ∷ xs) place i e = go (x.place == place) refl (from-none xs place (i + 1))
  where
    go : (b : Bool) → (x.place == place) ≡ b → (position_from (has_place place) (i + 1) xs ≡ None → is_in place (places_of xs) ≡ false) → is_in place (places_of (x ∷ xs)) ≡ false
    go true b more = absurd (
        let is : position_from (has_place place) i (x ∷ xs) ≡ Some i = ap (λ (t : Bool). cond t (Some i) (position_from (has_place place) (i + 1) xs)) b in
        let z : Some i ≡ None = sym is ∙ e in let no : ⊥ = cc in no)
    go false b more = ap (λ (t : Bool). t || is_in place (places_of xs)) b
        ∙ more (sym (ap (λ (t : Bool). cond t (Some i) (position_from (has_place place) (i + 1) xs)) b) ∙ e)

pub none-at : (xs : List Entry) (place : ℕ) → position (has_place place) xs ≡ None → is_in place (places_of xs) ≡ false
none-at xs place e = from-none xs place 0 (sym (position_from-zero (has_place place) xs) ∙ e)

pub get-behind : (xs : List Entry) (m k : ℕ) → slice_get (drop m xs) k ≡ slice_get xs (m + k)
get-behind [] zero k = refl
get-behind [] (suc m) k = refl
get-behind (x ∷ xs) zero k = ap (slice_get (x ∷ xs)) (let e : k ≡ 0 + k = omega arith in e)
get-behind (x ∷ xs) (suc m) k = get-behind xs m k ∙ ap (slice_get (x ∷ xs)) (let e : suc (m + k) ≡ suc m + k = omega arith in e)

pub get-front : (xs : List Entry) (m k : ℕ) (x : Entry) → slice_get (take m xs) k ≡ Some x → slice_get xs k ≡ Some x
get-front [] zero k x e = e
get-front [] (suc m) k x e = e
get-front (y ∷ xs) zero k x e = absurd (let no : ⊥ = cc in no)
get-front (y ∷ xs) (suc m) zero x e = e
get-front (y ∷ xs) (suc m) (suc k) x e = get-front xs m k x e

place-front : (xs : List Entry) (m k place : ℕ) → option_map (λ (e : Entry). e.place) (slice_get (take m xs) k) ≡ Some place → option_map (λ (e : Entry). e.place) (slice_get xs k) ≡ Some place
place-front xs m k place e = go (slice_get (take m xs) k) refl e
  where
    go : (o : Option Entry) → slice_get (take m xs) k ≡ o → option_map (λ (x : Entry). x.place) o ≡ Some place → option_map (λ (x : Entry). x.place) (slice_get xs k) ≡ Some place
    go None is e = absurd (let no : ⊥ = cc in no)
    go (Some x) is e = ap (option_map (λ (y : Entry). y.place)) (get-front xs m k x is) ∙ e

pub found-front : (xs : List Entry) (m place : ℕ) (front : List Entry) (r : Option ℕ) → front ≡ take m xs → r ≡ position (has_place place) front
    → IfSome r (λ k. option_map (λ (e : Entry). e.place) (slice_get xs k) ≡ Some place)
found-front xs m place front None is e = tt
found-front xs m place front (Some k) is e = place-front xs m k place (ap (λ (ys : List Entry). option_map (λ (x : Entry). x.place) (slice_get ys k)) (sym is) ∙ found-at front place k e)

pub none-front : (xs : List Entry) (m place : ℕ) (front back : List Entry) (r : Option ℕ) → front ≡ take m xs → back ≡ drop m xs → None ≡ position (has_place place) back → r ≡ position (has_place place) front
    → IfNone r (IsFalse (is_in place (places_of xs)))
none-front xs m place front back (Some k) is are none e = tt
none-front xs m place front back None is are none e =
    let one : is_in place (places_of (take m xs)) ≡ false = ap (λ (ys : List Entry). is_in place (places_of ys)) (sym is) ∙ none-at front place (sym e) in
    let two : is_in place (places_of (drop m xs)) ≡ false = ap (λ (ys : List Entry). is_in place (places_of ys)) (sym are) ∙ none-at back place (sym none) in
    ap (λ (ys : List Entry). is_in place (places_of ys)) (sym (take-append-drop m xs))
    ∙ ap (is_in place) (map-append (λ (x : Entry). x.place) (take m xs) (drop m xs))
    ∙ list_any-append (λ (y : ℕ). y == place) (places_of (take m xs)) (places_of (drop m xs))
    ∙ ap₂ (λ (a b : Bool). a || b) one two

-- the entry that moves
pub record IsThere (xs : List Entry) (k from : ℕ) (r : Entry) : Type 0 where
  pub inside : k < length xs
  pub is : slice_get xs k ≡ Some r
  pub lies : r.place ≡ from

pub is_there : (xs : List Entry) (k from : ℕ) (r : Entry) → option_map (λ (e : Entry). e.place) (slice_get xs k) ≡ Some from → r ≡ get_or xs k r → IsThere xs k from r
is_there [] k from r e g = absurd (let no : ⊥ = cc in no)
is_there (x ∷ xs) zero from r e g = record {
  inside = omega arith;
  is = ap Some (sym g);
  lies = ap (λ (y : Entry). y.place) g ∙ (let z : Some x.place ≡ Some from = e in cc);
}
is_there (x ∷ xs) (suc k) from r e g = let m = is_there xs k from r e g in record { inside = omega (arith, m.inside); is = m.is; lies = m.lies }
