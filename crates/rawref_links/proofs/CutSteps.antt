-- One more structure whose link ends, or whose object moved.
use Rattle.std.proofs.Common.{◌≡◌, ℕ, Bool, true, false, cond, ◌||◌, ◌==◌, ◌+◌, ◌<◌, ◌++◌, List, [], ◌∷◌, length, get_or, take, Option, Some, None, option_map, option_to_list, filter, filter_map, map, sym, refl, ap, ◌∙◌, append_assoc}
use Rattle.std.specs.List.Sorted.{IsStrictlyIncreasing}
use Rattle.std.proofs.lemmas.Bool.{eqb-true}
use Rattle.std.proofs.lemmas.List.{take_more, map-append}
use Rattle.std.proofs.lemmas.List.Elements.{filter_map-append, filter-append}
use Rattle.type_table.specs.Table.{Table, KeysRise, value_at, without_key}
use Rattle.type_table.proofs.TableLaws.{KeysRise-with_value, value_at-with_value, value_at-without_key}
use Rattle.text_model.specs.declared.line.LinkEnd.{LinkEnd}
use Rattle.object_model.specs.Sets.{is_in}
use Rattle.store_model.specs.Store.{Struct, Linked, Unlinked, Pending}
use Rattle.store_model.specs.Structs.{with_struct, with_object}
use Rattle.store_model.specs.Links.{newly_dead, is_queued_by}
use Rattle.rawref_links.specs.Objects.{LinksOf, no_links, links_or_none, links_at}
use Rattle.rawref_links.specs.Cuts.{end_of, left_of, ends_of, CutsAt, MovesAt, with_moved}
use Rattle.rawref_links.proofs.Keyed.{value_at-with_struct, KeysRise-with_struct}
use Rattle.rawref_links.proofs.Numbers.{is_in-more, is_in-before}
use Rattle.rawref_links.proofs.Tabled.{nat_eq-turned}

-- the links at one place more are taken off
pub forgotten_more : (objects : Table LinksOf) (places : List ℕ) (i place : ℕ) (old : LinksOf) → i < length places
    → links_at objects place ≡ cond (is_in place (take i places)) no_links old
    → links_at (without_key objects (get_or places i 0)) place ≡ cond (is_in place (take (i + 1) places)) no_links old
forgotten_more objects places i place old within so_far =
    rw (is_in-more place places i within, value_at-without_key objects (get_or places i 0) place)
    (by (is_in place (take i places)) (get_or places i 0 == place) (place == get_or places i 0) (nat_eq-turned (get_or places i 0) place) so_far)
  where
    by : (before here turned : Bool) → here ≡ turned → links_at objects place ≡ cond before no_links old
        → links_or_none (cond turned None (value_at objects place)) ≡ cond (before || here) no_links old
    by true here true same so_far = refl
    by true here false same so_far = so_far
    by false here true same so_far = ap (λ t. cond t no_links old) (sym same)
    by false here false same so_far = so_far ∙ ap (λ t. cond t no_links old) (sym same)

-- moved twice to one place is moved there
moved_twice : (to : ℕ) (found : Option Struct) → option_map (with_object (λ _. to)) (option_map (with_object (λ _. to)) found) ≡ option_map (with_object (λ _. to)) found
moved_twice to None = refl
moved_twice to (Some (Linked p light object own)) = refl
moved_twice to (Some (Unlinked own)) = refl
moved_twice to (Some Pending) = refl

value_at-with_moved : (structs : Table Struct) (number to : ℕ) (found : Option Struct) → value_at structs number ≡ found → (q : ℕ)
    → value_at (with_moved structs number to found) q ≡ cond (q == number) (option_map (with_object (λ _. to)) found) (value_at structs q)
value_at-with_moved structs number to None absent q =
    elim (q == number) as (λ t. (q == number) ≡ t → value_at structs q ≡ cond t None (value_at structs q)) [
      | true ↦ λ same. ap (value_at structs) (eqb-true q number same) ∙ absent
      | false ↦ λ differ. refl
    ] refl
value_at-with_moved structs number to (Some structure) there q = value_at-with_value structs number q (with_object (λ _. to) structure)

KeysRise-with_moved : (structs : Table Struct) (number to : ℕ) (found : Option Struct) → KeysRise structs → KeysRise (with_moved structs number to found)
KeysRise-with_moved structs number to None rises = rises
KeysRise-with_moved structs number to (Some structure) rises = KeysRise-with_value structs number (with_object (λ _. to) structure) rises

-- what stands at a number once one structure more was changed
changed_more : (change : Option Struct → Option Struct) (before here turned : Bool) (next found old : Option Struct) → here ≡ turned
    → (turned ≡ true → next ≡ found) → found ≡ cond before (change old) old
    → (before ≡ true → turned ≡ true → change (change old) ≡ change old)
    → cond turned (change next) found ≡ cond (before || here) (change old) old
changed_more change true here true next found old same one so_far twice = ap change (one refl ∙ so_far) ∙ twice refl refl
changed_more change true here false next found old same one so_far twice = so_far
changed_more change false here true next found old same one so_far twice =
    ap change (one refl ∙ so_far) ∙ ap (λ t. cond t (change old) old) (sym same)
changed_more change false here false next found old same one so_far twice = so_far ∙ ap (λ t. cond t (change old) old) (sym same)

-- the ends of one list of links and then of another
newly_dead-append : (xs ys : List LinkEnd) → newly_dead (xs ++ ys) ≡ newly_dead xs ++ newly_dead ys
newly_dead-append xs ys =
    ap (map (λ cut. cut.number)) (filter-append (λ cut. is_queued_by cut.fate) xs ys)
    ∙ map-append (λ cut. cut.number) (filter (λ cut. is_queued_by cut.fate) xs) (filter (λ cut. is_queued_by cut.fate) ys)

filter_map-one : {X Y : Type 0} (h : X → Option Y) (x : X) → filter_map h (x ∷ []) ≡ option_to_list (h x)
filter_map-one h x = elim (h x) as (λ r. h x ≡ r → filter_map h (x ∷ []) ≡ option_to_list r) [
  | None ↦ λ none. rw none refl
  | Some y ↦ λ some. rw some refl
] refl

module _ (old structs : Table Struct) (numbers : List ℕ) (i : ℕ) (within : i < length numbers) where
  pub MovesAt-more : (to : ℕ) → MovesAt old structs (take i numbers) to
      → MovesAt old (with_moved structs (get_or numbers i 0) to (value_at structs (get_or numbers i 0))) (take (i + 1) numbers) to
  MovesAt-more to so_far = record {
    rises = KeysRise-with_moved structs (get_or numbers i 0) to (value_at structs (get_or numbers i 0)) so_far.rises;
    at = λ q.
        value_at-with_moved structs (get_or numbers i 0) to (value_at structs (get_or numbers i 0)) refl q
        ∙ changed_more (option_map (with_object (λ _. to))) (is_in q (take i numbers)) (get_or numbers i 0 == q) (q == get_or numbers i 0)
        (value_at structs (get_or numbers i 0)) (value_at structs q) (value_at old q) (nat_eq-turned (get_or numbers i 0) q)
        (λ same. ap (value_at structs) (sym (eqb-true q (get_or numbers i 0) same))) (so_far.at q)
        (λ before here. moved_twice to (value_at old q))
        ∙ ap (λ t. cond t (option_map (with_object (λ _. to)) (value_at old q)) (value_at old q)) (sym (is_in-more q numbers i within));
  }

  module _ (rising : IsStrictlyIncreasing numbers) (so_far : CutsAt old structs (take i numbers)) where
    -- the structure that comes next is as it was
    pub value_at-next : value_at structs (get_or numbers i 0) ≡ value_at old (get_or numbers i 0)
    value_at-next =
        so_far.at (get_or numbers i 0)
        ∙ ap (λ t. cond t (left_of (value_at old (get_or numbers i 0))) (value_at old (get_or numbers i 0))) (is_in-before numbers i rising within)

    pub CutsAt-more : CutsAt old (with_struct structs (get_or numbers i 0) (left_of (value_at structs (get_or numbers i 0)))) (take (i + 1) numbers)
    CutsAt-more = record {
      rises = KeysRise-with_struct structs (get_or numbers i 0) (left_of (value_at structs (get_or numbers i 0))) so_far.rises;
      at = λ q.
          value_at-with_struct structs (get_or numbers i 0) (left_of (value_at structs (get_or numbers i 0))) q
          ∙ changed_more left_of (is_in q (take i numbers)) (get_or numbers i 0 == q) (q == get_or numbers i 0)
          (value_at structs (get_or numbers i 0)) (value_at structs q) (value_at old q) (nat_eq-turned (get_or numbers i 0) q)
          (λ same. ap (value_at structs) (sym (eqb-true q (get_or numbers i 0) same))) (so_far.at q)
          (λ before here.
          let not_before : is_in q (take i numbers) ≡ false = ap (λ n. is_in n (take i numbers)) (eqb-true q (get_or numbers i 0) here) ∙ is_in-before numbers i rising within in
          let clash : true ≡ false = sym before ∙ not_before in
          cc)
          ∙ ap (λ t. cond t (left_of (value_at old q)) (value_at old q)) (sym (is_in-more q numbers i within));
    }

    pub ends_of-more : ends_of old (take (i + 1) numbers)
        ≡ ends_of old (take i numbers) ++ option_to_list (end_of (get_or numbers i 0) (value_at structs (get_or numbers i 0)))
    ends_of-more =
        ap (ends_of old) (take_more numbers i 0 within)
        ∙ filter_map-append (λ number. end_of number (value_at old number)) (take i numbers) (get_or numbers i 0 ∷ [])
        ∙ ap (λ ends. ends_of old (take i numbers) ++ ends) (filter_map-one (λ number. end_of number (value_at old number)) (get_or numbers i 0)
        ∙ ap (λ found. option_to_list (end_of (get_or numbers i 0) found)) (sym value_at-next))

    pub newly_dead-more : newly_dead (ends_of old (take (i + 1) numbers))
        ≡ newly_dead (ends_of old (take i numbers)) ++ newly_dead (option_to_list (end_of (get_or numbers i 0) (value_at structs (get_or numbers i 0))))
    newly_dead-more =
        ap newly_dead ends_of-more
        ∙ newly_dead-append (ends_of old (take i numbers)) (option_to_list (end_of (get_or numbers i 0) (value_at structs (get_or numbers i 0))))

-- a piece more of what is appended
pub appended : {X : Type 0} (first so_far now total piece more : List X) → now ≡ so_far ++ piece → so_far ≡ first ++ total → more ≡ total ++ piece → now ≡ first ++ more
appended first so_far now total piece more grown start all =
    grown ∙ ap (λ xs. xs ++ piece) start ∙ append_assoc first total piece ∙ ap (λ xs. first ++ xs) (sym all)

pub filter_map-more : {X Y : Type 0} (h : X → Option Y) (xs : List X) (i : ℕ) (d : X) → i < length xs
    → filter_map h (take (i + 1) xs) ≡ filter_map h (take i xs) ++ option_to_list (h (get_or xs i d))
filter_map-more h xs i d within =
    ap (filter_map h) (take_more xs i d within) ∙ filter_map-append h (take i xs) (get_or xs i d ∷ [])
    ∙ ap (λ ys. filter_map h (take i xs) ++ ys) (filter_map-one h (get_or xs i d))
