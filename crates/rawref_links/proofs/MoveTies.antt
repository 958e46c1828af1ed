-- The links of an object that moved, where no link names its new place.
use Rattle.std.proofs.Common.{◌≡◌, ℕ, Bool, true, false, cond, ◌&&◌, ◌==◌, if◌then◌else◌, ◌<◌, nat_eq, List, [], ◌∷◌, Option, Some, None, option_map, subst, sym, refl, ap, ◌∙◌, arith}
use Rattle.std.specs.List.{All}
use Rattle.std.proofs.lemmas.Bool.{eqb-true, eq-eqb}
use Rattle.std.proofs.lemmas.Bool.Decides.{nat_tests}
use Rattle.std.proofs.lemmas.List.Elements.{All-cons, All-head, All-tail}
use Rattle.std.proofs.lemmas.Map.Made.{lookup-map_values}
use Rattle.type_table.specs.Table.{Table, KeysRise, value_at, without_key}
use Rattle.type_table.proofs.TableLaws.{KeysRise-tail, KeysRise-cons, first_key_below, value_at-without_key}
use Rattle.object_model.specs.Sets.{is_in}
use Rattle.store_model.specs.Store.{Struct, Linked, Unlinked, Pending}
use Rattle.store_model.specs.Structs.{with_object, with_objects}
use Rattle.rawref_links.specs.Conditions.{is_pending}
use Rattle.rawref_links.specs.Conditions.{HasNoLink}
use Rattle.rawref_links.specs.Cuts.{MovesAt}
use Rattle.rawref_links.specs.Objects.{LinksOf, no_links, links_or_none, links_at, moved_to}
use Rattle.rawref_links.specs.Sound.{is_p_linked_to}
use Rattle.rawref_links.specs.Ties.{is_linked_to, is_number, AreTied}
use Rattle.rawref_links.proofs.Tables.{same_table}
use Rattle.rawref_links.proofs.TieLaws.{links_at-with_value}

-- the new name of a place
abbrev pub renamed : ℕ → ℕ → ℕ → ℕ
renamed from to object = if object == from then to else object

-- where no link names a place, nothing that is found is linked with it
no_link : (structs : Table Struct) (place : ℕ) → HasNoLink structs place → (number : ℕ) → is_linked_to place (value_at structs number) ≡ false
no_link [] place none number = refl
no_link (entry ∷ structs) place none number =
    elim (number == entry.0) as (λ t. is_linked_to place (cond t (Some entry.1) (value_at structs number)) ≡ false) [
      | true ↦ All-head (λ e. is_linked_to place (Some e.1) ≡ false) entry structs none
      | false ↦ no_link structs place (All-tail (λ e. is_linked_to place (Some e.1) ≡ false) entry structs none) number
    ]

and_false : (b : Bool) → (b && false) ≡ false
and_false true = refl
and_false false = refl

no_p_link : (place : ℕ) (found : Option Struct) → is_linked_to place found ≡ false → is_p_linked_to place found ≡ false
no_p_link place None none = refl
no_p_link place (Some (Linked p light object own)) none = ap (λ t. p && t) none ∙ and_false p
no_p_link place (Some (Unlinked own)) none = refl
no_p_link place (Some Pending) none = refl

links_at-without_key : (objects : Table LinksOf) (from place : ℕ) → links_at (without_key objects from) place ≡ cond (place == from) no_links (links_at objects place)
links_at-without_key objects from place =
    ap links_or_none (value_at-without_key objects from place)
    ∙ elim (place == from) as (λ t. links_or_none (cond t None (value_at objects place)) ≡ cond t no_links (links_at objects place)) [ true ↦ refl | false ↦ refl ]

-- what a test finds of the links at each place afterwards
module _ (test : LinksOf → Bool) (none : test no_links ≡ false) (objects : Table LinksOf) (from to : ℕ) (free : test (links_at objects to) ≡ false) where
  moved_found : (found : Option LinksOf) → value_at objects from ≡ found → (place : ℕ)
      → test (links_at (moved_to objects from to found) place)
      ≡ cond (place == to) (test (links_at objects from)) (cond (place == from) false (test (links_at objects place)))
  moved_found None absent place =
      elim (place == to) as (λ t. (place == to) ≡ t → test (links_at objects place) ≡ cond t (test (links_at objects from)) (cond (place == from) false (test (links_at objects place)))) [
        | true ↦ λ is_to. ap (λ p. test (links_at objects p)) (eqb-true place to is_to) ∙ free ∙ sym none ∙ sym (ap (λ o. test (links_or_none o)) absent)
        | false ↦ λ other. elim (place == from) as (λ t. (place == from) ≡ t → test (links_at objects place) ≡ cond t false (test (links_at objects place))) [
          | true ↦ λ is_from. ap (λ p. test (links_at objects p)) (eqb-true place from is_from) ∙ ap (λ o. test (links_or_none o)) absent ∙ none
          | false ↦ λ differ. refl
        ] refl
      ] refl
  moved_found (Some links) there place =
      ap test (links_at-with_value (without_key objects from) to links place)
      ∙ elim (place == to) as (λ t. test (cond t links (links_at (without_key objects from) place))
      ≡ cond t (test (links_at objects from)) (cond (place == from) false (test (links_at objects place)))) [
        | true ↦ sym (ap (λ o. test (links_or_none o)) there)
        | false ↦ ap test (links_at-without_key objects from place)
            ∙ elim (place == from) as (λ t. test (cond t no_links (links_at objects place)) ≡ cond t false (test (links_at objects place))) [ true ↦ none | false ↦ refl ]
      ]

-- one place is the new name of another just where that is the old place and this the new one, or where both are the same
renamed_place : (from to place object : ℕ) → (to == object) ≡ false
    → (place == renamed from to object) ≡ cond (place == to) (from == object) (cond (place == from) false (place == object))
renamed_place from to place object free = grind (arith, nat_tests)

cond_false : (b c : Bool) → false ≡ cond b false (cond c false false)
cond_false true c = refl
cond_false false true = refl
cond_false false false = refl

linked_moved : (from to : ℕ) (found : Option Struct) → is_linked_to to found ≡ false → (place : ℕ)
    → is_linked_to place (option_map (with_object (renamed from to)) found)
    ≡ cond (place == to) (is_linked_to from found) (cond (place == from) false (is_linked_to place found))
linked_moved from to None free place = cond_false (place == to) (place == from)
linked_moved from to (Some (Linked p light object own)) free place = renamed_place from to place object free
linked_moved from to (Some (Unlinked own)) free place = cond_false (place == to) (place == from)
linked_moved from to (Some Pending) free place = cond_false (place == to) (place == from)

p_linked_moved : (from to : ℕ) (found : Option Struct) → is_linked_to to found ≡ false → (place : ℕ)
    → is_p_linked_to place (option_map (with_object (renamed from to)) found)
    ≡ cond (place == to) (is_p_linked_to from found) (cond (place == from) false (is_p_linked_to place found))
p_linked_moved from to None free place = cond_false (place == to) (place == from)
p_linked_moved from to (Some (Linked true light object own)) free place = renamed_place from to place object free
p_linked_moved from to (Some (Linked false light object own)) free place = cond_false (place == to) (place == from)
p_linked_moved from to (Some (Unlinked own)) free place = cond_false (place == to) (place == from)
p_linked_moved from to (Some Pending) free place = cond_false (place == to) (place == from)

pending_moved : (rename : ℕ → ℕ) (found : Option Struct) → is_pending (option_map (with_object rename) found) ≡ is_pending found
pending_moved rename None = refl
pending_moved rename (Some (Linked p light object own)) = refl
pending_moved rename (Some (Unlinked own)) = refl
pending_moved rename (Some Pending) = refl

-- to move just what is linked with the old place is to rename
value_moved : (from to : ℕ) (found : Option Struct)
    → cond (is_linked_to from found) (option_map (with_object (λ _. to)) found) found ≡ option_map (with_object (renamed from to)) found
value_moved from to None = refl
value_moved from to (Some (Linked p light object own)) =
    ap (λ t. cond t (Some (Linked p light to own)) (Some (Linked p light object own))) (grind (arith, nat_tests))
    ∙ elim (object == from) as (λ t. cond t (Some (Linked p light to own)) (Some (Linked p light object own)) ≡ Some (Linked p light (cond t to object) own)) [ true ↦ refl | false ↦ refl ]
value_moved from to (Some (Unlinked own)) = refl
value_moved from to (Some Pending) = refl

value_at-with_objects : (rename : ℕ → ℕ) (structs : Table Struct) (q : ℕ) → value_at (with_objects rename structs) q ≡ option_map (with_object rename) (value_at structs q)
value_at-with_objects rename structs q = lookup-map_values (with_object rename) (nat_eq q) structs

-- the names of objects change no number
below_renamed : (rename : ℕ → ℕ) (structs : Table Struct) (number : ℕ) → All (λ later. number < later.0) structs → All (λ later. number < later.0) (with_objects rename structs)
below_renamed rename [] number below = below
below_renamed rename (entry ∷ structs) number below =
    All-cons (λ later. number < later.0) (entry.0, with_object rename entry.1) (with_objects rename structs)
    (All-head (λ later. number < later.0) entry structs below) (below_renamed rename structs number (All-tail (λ later. number < later.0) entry structs below))

KeysRise-with_objects : (rename : ℕ → ℕ) (structs : Table Struct) → KeysRise structs → KeysRise (with_objects rename structs)
KeysRise-with_objects rename [] rises = rises
KeysRise-with_objects rename (entry ∷ structs) rises =
    KeysRise-cons (entry.0, with_object rename entry.1) (with_objects rename structs)
    (below_renamed rename structs entry.0 (first_key_below entry structs rises)) (KeysRise-with_objects rename structs (KeysRise-tail entry structs rises))

module _ (structs after : Table Struct) (objects : Table LinksOf) (dead : List ℕ) (from to : ℕ) (tied : AreTied structs objects dead) (free : HasNoLink structs to) where
  linked_after : (number place : ℕ) → is_in number (links_at (moved_to objects from to (value_at objects from)) place).numbers
      ≡ is_linked_to place (option_map (with_object (renamed from to)) (value_at structs number))
  linked_after number place =
      moved_found (λ l. is_in number l.numbers) refl objects from to (tied.linked number to ∙ no_link structs to free number) (value_at objects from) refl place
      ∙ ap (λ t. cond (place == to) t (cond (place == from) false (is_in number (links_at objects place).numbers))) (tied.linked number from)
      ∙ ap (λ t. cond (place == to) (is_linked_to from (value_at structs number)) (cond (place == from) false t)) (tied.linked number place)
      ∙ sym (linked_moved from to (value_at structs number) (no_link structs to free number) place)

  p_linked_after : (number place : ℕ) → is_number number (links_at (moved_to objects from to (value_at objects from)) place).p_link
      ≡ is_p_linked_to place (option_map (with_object (renamed from to)) (value_at structs number))
  p_linked_after number place =
      let none : is_p_linked_to to (value_at structs number) ≡ false = no_p_link to (value_at structs number) (no_link structs to free number) in
      moved_found (λ l. is_number number l.p_link) refl objects from to (tied.p_linked number to ∙ none) (value_at objects from) refl place
      ∙ ap (λ t. cond (place == to) t (cond (place == from) false (is_number number (links_at objects place).p_link))) (tied.p_linked number from)
      ∙ ap (λ t. cond (place == to) (is_p_linked_to from (value_at structs number)) (cond (place == from) false t)) (tied.p_linked number place)
      ∙ sym (p_linked_moved from to (value_at structs number) (no_link structs to free number) place)

  module _ (moves : MovesAt structs after (links_at (moved_to objects from to (value_at objects from)) to).numbers to) where
    value_at-moved : (q : ℕ) → value_at after q ≡ option_map (with_object (renamed from to)) (value_at structs q)
    value_at-moved q =
        moves.at q
        ∙ ap (λ t. cond t (option_map (with_object (λ _. to)) (value_at structs q)) (value_at structs q))
        (linked_after q to ∙ linked_moved from to (value_at structs q) (no_link structs to free q) to
        ∙ ap (λ t. cond t (is_linked_to from (value_at structs q)) (cond (to == from) false (is_linked_to to (value_at structs q)))) (eq-eqb to to refl))
        ∙ value_moved from to (value_at structs q)

    after-moved : after ≡ with_objects (renamed from to) structs
    after-moved =
        same_table after (with_objects (renamed from to) structs) moves.rises (KeysRise-with_objects (renamed from to) structs tied.queued.rises)
        (λ q. value_at-moved q ∙ sym (value_at-with_objects (renamed from to) structs q))

    AreTied-moved : AreTied after (moved_to objects from to (value_at objects from)) dead
    AreTied-moved = record {
      queued = record {
        rises = moves.rises;
        waiting = λ q. tied.queued.waiting q ∙ sym (ap is_pending (value_at-moved q) ∙ pending_moved (renamed from to) (value_at structs q));
        once = tied.queued.once;
      };
      linked = λ q place. linked_after q place ∙ sym (ap (is_linked_to place) (value_at-moved q));
      p_linked = λ q place. p_linked_after q place ∙ sym (ap (is_p_linked_to place) (value_at-moved q));
    }

-- what `moved` leaves
module _ (structs seen after : Table Struct) (objects objects_after : Table LinksOf) (dead numbers : List ℕ) (from to : ℕ) (tied : AreTied structs objects dead)
    (same : structs ≡ seen) (free : HasNoLink seen to) (moved : objects_after ≡ moved_to objects from to (value_at objects from))
    (listed : numbers ≡ (links_at objects_after to).numbers) (moves : MovesAt structs after numbers to) where
  free_kept : HasNoLink structs to
  free_kept = subst (λ t. HasNoLink t to) (sym same) free

  moves_listed : MovesAt structs after (links_at (moved_to objects from to (value_at objects from)) to).numbers to
  moves_listed = subst (λ ns. MovesAt structs after ns to) (listed ∙ ap (λ o. (links_at o to).numbers) moved) moves

  pub structs-moved : after ≡ with_objects (renamed from to) seen
  structs-moved = after-moved structs after objects dead from to tied free_kept moves_listed ∙ ap (with_objects (renamed from to)) same

  pub tied-moved : AreTied after objects_after dead
  tied-moved = subst (λ o. AreTied after o dead) (sym moved) (AreTied-moved structs after objects dead from to tied free_kept moves_listed)
