-- What is told of a heap is what a look at its stores sees.
use Rattle.std.proofs.Common.{◌≡◌, ◌≢◌, ℕ, zero, suc, ◌+◌, ◌^◌, ◌<◌, ◌≤◌, List, [], ◌∷◌, length, Option, None, refl, sym, subst, arith}
use Rattle.std.specs.Prelude.{IsSome, IsSomeAnd, slice_index_or}
use Rattle.std.proofs.lemmas.Bool.{eq-eqb}
use Rattle.type_table.specs.declared.info.TypeInfo.{TypeInfo}
use Rattle.type_table.specs.Table.{Table}
use Rattle.object_model.specs.declared.kind.Kind.{Kind}
use Rattle.object_model.specs.Object.{Object}
use Rattle.object_model.specs.ObjectWords.{type_id_at}
use Rattle.object_view.specs.Views.{HasObject}
use Rattle.object_view.proofs.FoundLaws.{type-from}
use Rattle.store_model.specs.Store.{Store}
use Rattle.store_model.specs.Slots.{object_in}
use Rattle.heap_parts.specs.Parts.{HeapParts, word_in, place_in}
use Rattle.heap_parts.specs.Told.{kind_at}
use Rattle.heap_parts.specs.StandsFor.{PartsStandFor}
use Rattle.heap_parts.specs.Effects.{HasObjectIn}
use Rattle.frame_laws.proofs.StandLaws.{in_slot}
use Rattle.frame_laws.proofs.RootStands.{object-found}
use Rattle.heap_core.specs.Commands.{AreStanding}

-- where a kind is told, there is an object
pub full-of : (types : Table TypeInfo) (word : ℕ → ℕ) (place : ℕ) → IsSome (kind_at types word place) → place ≢ 0
full-of types word place some e =
    absurd (let none : kind_at types word place ≡ None = rw (eq-eqb place 0 e) refl in let is : IsSome {T = Kind} None = subst IsSome none some in let no : ⊥ = cc in no)

-- a slot that is not empty leads to a whole object
pub whole_in : (heap : HeapParts) (root : ℕ) → AreStanding heap → place_in heap root ≢ 0 → HasObject heap.memory heap.setup.types (place_in heap root)
whole_in heap root standing full =
    let s = standing.stands in s.words.whole (place_in heap root) (in_slot heap standing.store root s full).there

full-slot : (slots : List ℕ) (root : ℕ) → slice_index_or slots root 0 ≢ 0 → root < length slots
full-slot [] root ne = absurd (ne refl)
full-slot (p ∷ slots) zero ne = omega arith
full-slot (p ∷ slots) (suc root) ne = let l = full-slot slots root ne in omega (arith, l)

pub object_in_full : (heap : HeapParts) (root : ℕ) → AreStanding heap → place_in heap root ≢ 0 → HasObjectIn heap root
object_in_full heap root standing full = record { slot = full-slot heap.slots root full; object = whole_in heap root standing full }

-- the type id of the object in a slot
pub type_is : (heap : HeapParts) (store : Store) (root : ℕ) → PartsStandFor heap store → place_in heap root ≢ 0
    → IsSomeAnd (object_in store.slots store.kept root) (λ o. type_id_at (word_in heap) (place_in heap root) ≡ o.type_id)
type_is heap store root s full =
    subst (λ (found : Option Object). IsSomeAnd found (λ o. type_id_at (word_in heap) (place_in heap root) ≡ o.type_id)) (sym (object-found heap store root s full))
    (sym (type-from heap.setup.types s.name (word_in heap) (place_in heap root)))

-- all words are within the limit
pub counted_fits : (heap : HeapParts) → AreStanding heap → heap.unsettled + heap.old_words ≤ heap.setup.settings.limit
counted_fits heap standing = standing.stands.sums.within

pub counted_small : (heap : HeapParts) → AreStanding heap → heap.unsettled + heap.old_words < 2 ^ 64
counted_small heap standing = let s = standing.stands in omega (arith, s.sums.within, s.made.ranges.2.2.1)

pub unsettled_fits : (heap : HeapParts) → AreStanding heap → heap.unsettled ≤ heap.setup.settings.limit
unsettled_fits heap standing = omega (arith, standing.stands.sums.within)

pub fresh_fits : (heap : HeapParts) → AreStanding heap → heap.fresh ≤ heap.setup.settings.limit
fresh_fits heap standing = let s = standing.stands in omega (arith, s.sums.fresh_old, s.sums.within)
