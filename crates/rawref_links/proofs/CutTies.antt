-- The structures whose objects are gone.
use Rattle.std.proofs.Common.{◌≡◌, ℕ, Bool, true, false, cond, ◌||◌, ◌&&◌, ◌==◌, ◌++◌, ◌<◌, get_or, List, [], ◌∷◌, Option, Some, None, IsSome, is_some, filter, filter_map, map, option_map, subst, sym, refl, ap, ◌∙◌}
use Rattle.std.specs.List.{All, list_any, cons_option}
use Rattle.std.specs.List.Sorted.{IsStrictlyIncreasing}
use Rattle.std.proofs.lemmas.Bool.{eqb-true, eq-eqb}
use Rattle.std.proofs.lemmas.List.Elements.{All-cons, All-head, All-tail}
use Rattle.std.proofs.lemmas.List.Folds.{list_any-append, list_any_at}
use Rattle.type_table.specs.Table.{Table, KeysRise, value_at}
use Rattle.type_table.proofs.TableLaws.{KeysRise-tail, KeysRise-cons, first_key_below}
use Rattle.text_model.specs.declared.line.LinkEnd.{LinkEnd}
use Rattle.text_model.specs.declared.line.Fate.TheVariants as fate
use Rattle.object_model.proofs.SameMembers.{part_differs}
use Rattle.object_model.specs.Sets.{is_in, AreDifferent}
use Rattle.store_model.specs.Store.{Struct, Linked, Unlinked, Pending}
use Rattle.rawref_links.specs.Conditions.{is_pending}
use Rattle.store_model.specs.Links.{fate_of, left_by, link_end, link_ends, struct_after, entry_after, is_queued_by, newly_dead}
use Rattle.rawref_links.specs.Objects.{LinksOf, no_links, links_at, is_at_one}
use Rattle.rawref_links.specs.Cuts.{end_of, left_of, ends_of, CutsAt, AreListed}
use Rattle.rawref_links.specs.Sound.{is_p_linked_to}
use Rattle.rawref_links.specs.Ties.{is_linked_to, is_number, AreTied}
use Rattle.rawref_links.proofs.Tables.{same_table, value_at-behind_first}
use Rattle.rawref_links.proofs.Picked.{Rises-increasing, AreDifferent-rising, found_by, picked, filter_map-same}

-- what is left of what was found, once the objects that pass the test are gone
abbrev pub after_of : (ℕ → Bool) → Option Struct → Option Struct
after_of gone None = None
after_of gone (Some structure) = struct_after gone structure

-- the end of the link of a structure whose object passes the test, under its number
abbrev pub ending : (ℕ → Bool) → ℕ → Struct → Option LinkEnd
ending gone number structure = link_end gone (number, structure)

-- whether the object of what was found passes the test
abbrev pub is_gone : (ℕ → Bool) → Option Struct → Bool
is_gone gone None = false
is_gone gone (Some (Linked p light object own)) = gone object
is_gone gone (Some (Unlinked own)) = false
is_gone gone (Some Pending) = false

is_gone-ending : (gone : ℕ → Bool) (number : ℕ) (found : Option Struct) → is_gone gone found ≡ is_some (found_by (ending gone) number found)
is_gone-ending gone number None = refl
is_gone-ending gone number (Some (Linked p light object own)) =
    let end : LinkEnd = record { number = number; own = own; fate = fate_of light own } in
    elim (gone object) as (λ t. t ≡ is_some (cond t (Some end) None)) [ true ↦ refl | false ↦ refl ]
is_gone-ending gone number (Some (Unlinked own)) = refl
is_gone-ending gone number (Some Pending) = refl

-- a link that ends, ends as if all objects were gone
end_of-gone : (gone : ℕ → Bool) (number : ℕ) (found : Option Struct) → is_gone gone found ≡ true → end_of number found ≡ found_by (ending gone) number found
end_of-gone gone number None none = absurd (cc)
end_of-gone gone number (Some (Linked p light object own)) is =
    sym (ap (λ t. cond t (Some (record { number = number; own = own; fate = fate_of light own })) None) is)
end_of-gone gone number (Some (Unlinked own)) none = absurd (cc)
end_of-gone gone number (Some Pending) none = absurd (cc)

left_of-gone : (gone : ℕ → Bool) (found : Option Struct) → cond (is_gone gone found) (left_of found) found ≡ after_of gone found
left_of-gone gone None = refl
left_of-gone gone (Some (Linked p light object own)) =
    elim (gone object) as (λ t. cond t (left_by (fate_of light own) own) (Some (Linked p light object own)) ≡ cond t (left_by (fate_of light own) own) (Some (Linked p light object own))) [ true ↦ refl | false ↦ refl ]
left_of-gone gone (Some (Unlinked own)) = refl
left_of-gone gone (Some Pending) = refl

module _ (gone : ℕ → Bool) where
  -- no structure gets another number
  below_after : (structs : Table Struct) (number : ℕ) → All (λ later. number < later.0) structs → All (λ later. number < later.0) (filter_map (entry_after gone) structs)
  below_after [] number below = below
  below_after (entry ∷ structs) number below =
      let rest = below_after structs number (All-tail (λ later. number < later.0) entry structs below) in
      elim (struct_after gone entry.1) as (λ r. All (λ later. number < later.0) (cons_option (option_map (λ s. (entry.0, s)) r) (filter_map (entry_after gone) structs))) [
        | None ↦ rest
        | Some structure ↦ All-cons (λ later. number < later.0) (entry.0, structure) (filter_map (entry_after gone) structs) (All-head (λ later. number < later.0) entry structs below) rest
      ]

  KeysRise-after : (structs : Table Struct) → KeysRise structs → KeysRise (filter_map (entry_after gone) structs)
  KeysRise-after [] rises = rises
  KeysRise-after (entry ∷ structs) rises =
      let rest = KeysRise-after structs (KeysRise-tail entry structs rises) in
      elim (struct_after gone entry.1) as (λ r. KeysRise (cons_option (option_map (λ s. (entry.0, s)) r) (filter_map (entry_after gone) structs))) [
        | None ↦ rest
        | Some structure ↦ KeysRise-cons (entry.0, structure) (filter_map (entry_after gone) structs) (below_after structs entry.0 (first_key_below entry structs rises)) rest
      ]

  value_at-after : (structs : Table Struct) (q : ℕ) → KeysRise structs → value_at (filter_map (entry_after gone) structs) q ≡ after_of gone (value_at structs q)
  value_at-after [] q rises = refl
  value_at-after (entry ∷ structs) q rises =
      let rest = value_at-after structs q (KeysRise-tail entry structs rises) in
      elim (q == entry.0) as (λ t. (q == entry.0) ≡ t → value_at (cons_option (option_map (λ s. (entry.0, s)) (struct_after gone entry.1)) (filter_map (entry_after gone) structs)) q
      ≡ after_of gone (cond t (Some entry.1) (value_at structs q))) [
        | true ↦ λ same. elim (struct_after gone entry.1) as (λ r. value_at (cons_option (option_map (λ s. (entry.0, s)) r) (filter_map (entry_after gone) structs)) q ≡ r) [
          | None ↦ rest ∙ ap (after_of gone) (ap (value_at structs) (eqb-true q entry.0 same) ∙ value_at-behind_first entry structs rises)
          | Some structure ↦ ap (λ t. cond t (Some structure) (value_at (filter_map (entry_after gone) structs) q)) same
        ]
        | false ↦ λ differ. elim (struct_after gone entry.1) as (λ r. value_at (cons_option (option_map (λ s. (entry.0, s)) r) (filter_map (entry_after gone) structs)) q ≡ after_of gone (value_at structs q)) [
          | None ↦ rest
          | Some structure ↦ ap (λ t. cond t (Some structure) (value_at (filter_map (entry_after gone) structs) q)) differ ∙ rest
        ]
      ] refl

-- no place is gone where none is told
none_linked : (places : List ℕ) → list_any (λ _. false) places ≡ false
none_linked [] = refl
none_linked (place ∷ places) = none_linked places

-- what is linked with one of the places is gone
linked_gone : (places : List ℕ) (found : Option Struct) → list_any (λ place. is_linked_to place found) places ≡ is_gone (λ object. is_in object places) found
linked_gone places None = none_linked places
linked_gone places (Some (Linked p light object own)) = refl
linked_gone places (Some (Unlinked own)) = none_linked places
linked_gone places (Some Pending) = none_linked places

gone_there : (gone : ℕ → Bool) (found : Option Struct) → is_gone gone found ≡ true → IsSome found
gone_there gone None none = none
gone_there gone (Some structure) is = refl

-- what its fate leaves of a structure is linked no more
left_unlinked : (place : ℕ) (light : Bool) (own : ℕ) → is_linked_to place (left_by (fate_of light own) own) ≡ false
left_unlinked place light own =
    elim (own == 0) as (λ t. is_linked_to place (left_by (cond t (cond light fate.Released fate.Pending) fate.Unlinked) own) ≡ false) [
      | true ↦ elim light as (λ l. is_linked_to place (left_by (cond l fate.Released fate.Pending) own) ≡ false) [ true ↦ refl | false ↦ refl ]
      | false ↦ refl
    ]

left_p_unlinked : (place : ℕ) (light : Bool) (own : ℕ) → is_p_linked_to place (left_by (fate_of light own) own) ≡ false
left_p_unlinked place light own =
    elim (own == 0) as (λ t. is_p_linked_to place (left_by (cond t (cond light fate.Released fate.Pending) fate.Unlinked) own) ≡ false) [
      | true ↦ elim light as (λ l. is_p_linked_to place (left_by (cond l fate.Released fate.Pending) own) ≡ false) [ true ↦ refl | false ↦ refl ]
      | false ↦ refl
    ]

left_pending : (light : Bool) (own : ℕ) → is_queued_by (fate_of light own) ≡ is_pending (left_by (fate_of light own) own)
left_pending light own =
    elim (own == 0) as (λ t. is_queued_by (cond t (cond light fate.Released fate.Pending) fate.Unlinked) ≡ is_pending (left_by (cond t (cond light fate.Released fate.Pending) fate.Unlinked) own)) [
      | true ↦ elim light as (λ l. is_queued_by (cond l fate.Released fate.Pending) ≡ is_pending (left_by (cond l fate.Released fate.Pending) own)) [ true ↦ refl | false ↦ refl ]
      | false ↦ refl
    ]

and_false : (b : Bool) → (b && false) ≡ false
and_false true = refl
and_false false = refl

or_true : (b : Bool) → (b || true) ≡ true
or_true true = refl
or_true false = refl

cond_same : (b : Bool) → cond b false false ≡ false
cond_same true = refl
cond_same false = refl

-- a test of the place, where the place of a structure is gone or not
module _ (gone : ℕ → Bool) (place object : ℕ) where
  gone_place : gone object ≡ true → (b : Bool) → (place == object) ≡ b → cond (gone place) false b ≡ false
  gone_place is true same = ap (λ t. cond t false true) (ap gone (eqb-true place object same) ∙ is)
  gone_place is false differ = cond_same (gone place)

  kept_place : gone object ≡ false → (b : Bool) → (place == object) ≡ b → cond (gone place) false b ≡ b
  kept_place is true same = ap (λ t. cond t false true) (ap gone (eqb-true place object same) ∙ is)
  kept_place is false differ = cond_same (gone place)

linked_after : (gone : ℕ → Bool) (place : ℕ) (found : Option Struct) → cond (gone place) false (is_linked_to place found) ≡ is_linked_to place (after_of gone found)
linked_after gone place None = cond_same (gone place)
linked_after gone place (Some (Linked p light object own)) =
    elim (gone object) as (λ t. gone object ≡ t → cond (gone place) false (place == object) ≡ is_linked_to place (cond t (left_by (fate_of light own) own) (Some (Linked p light object own)))) [
      | true ↦ λ is. gone_place gone place object is (place == object) refl ∙ sym (left_unlinked place light own)
      | false ↦ λ is. kept_place gone place object is (place == object) refl
    ] refl
linked_after gone place (Some (Unlinked own)) = cond_same (gone place)
linked_after gone place (Some Pending) = cond_same (gone place)

p_linked_after : (gone : ℕ → Bool) (place : ℕ) (found : Option Struct) → cond (gone place) false (is_p_linked_to place found) ≡ is_p_linked_to place (after_of gone found)
p_linked_after gone place None = cond_same (gone place)
p_linked_after gone place (Some (Linked true light object own)) =
    elim (gone object) as (λ t. gone object ≡ t → cond (gone place) false (place == object) ≡ is_p_linked_to place (cond t (left_by (fate_of light own) own) (Some (Linked true light object own)))) [
      | true ↦ λ is. gone_place gone place object is (place == object) refl ∙ sym (left_p_unlinked place light own)
      | false ↦ λ is. kept_place gone place object is (place == object) refl
    ] refl
p_linked_after gone place (Some (Linked false light object own)) =
    cond_same (gone place)
    ∙ elim (gone object) as (λ t. false ≡ is_p_linked_to place (cond t (left_by (fate_of light own) own) (Some (Linked false light object own)))) [
      | true ↦ sym (left_p_unlinked place light own)
      | false ↦ refl
    ]
p_linked_after gone place (Some (Unlinked own)) = cond_same (gone place)
p_linked_after gone place (Some Pending) = cond_same (gone place)

-- whether what was found waits once its object is gone
abbrev pub waits : Option Struct → Bool
waits None = false
waits (Some (Linked p light object own)) = is_queued_by (fate_of light own)
waits (Some (Unlinked own)) = false
waits (Some Pending) = false

pending_after : (gone : ℕ → Bool) (found : Option Struct) → (is_pending found || (is_gone gone found && waits found)) ≡ is_pending (after_of gone found)
pending_after gone None = refl
pending_after gone (Some (Linked p light object own)) =
    elim (gone object) as (λ t. (t && is_queued_by (fate_of light own)) ≡ is_pending (cond t (left_by (fate_of light own) own) (Some (Linked p light object own)))) [
      | true ↦ left_pending light own
      | false ↦ refl
    ]
pending_after gone (Some (Unlinked own)) = refl
pending_after gone (Some Pending) = refl

one_end : (number : ℕ) (found : Option Struct) (ends : List LinkEnd) (rest : List ℕ) → newly_dead ends ≡ rest
    → newly_dead (cons_option (end_of number found) ends) ≡ cond (waits found) (number ∷ rest) rest
one_end number None ends rest same = same
one_end number (Some (Linked p light object own)) ends rest same =
    let end : LinkEnd = record { number = number; own = own; fate = fate_of light own } in
    elim (is_queued_by (fate_of light own)) as (λ t. map (λ cut. cut.number) (cond t (end ∷ filter (λ cut. is_queued_by cut.fate) ends) (filter (λ cut. is_queued_by cut.fate) ends)) ≡ cond t (number ∷ rest) rest) [
      | true ↦ ap (λ ns. number ∷ ns) same
      | false ↦ same
    ]
one_end number (Some (Unlinked own)) ends rest same = same
one_end number (Some Pending) ends rest same = same

-- the structures that wait from then on, as a part of those whose links end
newly_dead-ends : (structs : Table Struct) (numbers : List ℕ) → newly_dead (ends_of structs numbers) ≡ filter (λ n. waits (value_at structs n)) numbers
newly_dead-ends structs [] = refl
newly_dead-ends structs (number ∷ numbers) =
    one_end number (value_at structs number) (ends_of structs numbers) (filter (λ n. waits (value_at structs n)) numbers) (newly_dead-ends structs numbers)

-- one number more in front of what passes a test
one_passed : (test : ℕ → Bool) (number x : ℕ) (xs : List ℕ) (same passes : Bool) → (x == number) ≡ same → test x ≡ passes
    → is_in number (filter test xs) ≡ (is_in number xs && test number)
    → is_in number (cond passes (x ∷ filter test xs) (filter test xs)) ≡ ((same || is_in number xs) && test number)
one_passed test number x xs true true is passing rest = ap (λ t. t || is_in number (filter test xs)) is ∙ sym passing ∙ ap test (eqb-true x number is)
one_passed test number x xs true false is failing rest =
    let fails : test number ≡ false = ap test (sym (eqb-true x number is)) ∙ failing in
    rest ∙ ap (λ t. is_in number xs && t) fails ∙ and_false (is_in number xs) ∙ sym fails
one_passed test number x xs false true is passing rest = ap (λ t. t || is_in number (filter test xs)) is ∙ rest
one_passed test number x xs false false is failing rest = rest

-- a number is in what passes a test just where it is in the list and passes
is_in-filter : (test : ℕ → Bool) (number : ℕ) (numbers : List ℕ) → is_in number (filter test numbers) ≡ (is_in number numbers && test number)
is_in-filter test number [] = refl
is_in-filter test number (x ∷ xs) =
    one_passed test number x xs (x == number) (test x) refl refl (is_in-filter test number xs)

AreDifferent-append : (xs ys : List ℕ) → AreDifferent xs → AreDifferent ys → ((n : ℕ) → is_in n xs ≡ true → is_in n ys ≡ false) → AreDifferent (xs ++ ys)
AreDifferent-append [] ys first second apart = second
AreDifferent-append (x ∷ xs) ys first second apart = (
  list_any-append (λ y. y == x) xs ys ∙ ap (λ t. t || is_in x ys) first.0 ∙ apart x (ap (λ t. t || is_in x xs) (eq-eqb x x refl)),
  AreDifferent-append xs ys first.1 second (λ n there. apart n (ap (λ t. (x == n) || t) there ∙ or_true (x == n))),
)

waits_apart : (found : Option Struct) → is_pending found ≡ true → waits found ≡ false
waits_apart None none = refl
waits_apart (Some (Linked p light object own)) none = absurd (cc)
waits_apart (Some (Unlinked own)) none = refl
waits_apart (Some Pending) is = refl

-- what is linked with objects at these places, by its numbers
module _ (structs seen : Table Struct) (objects : Table LinksOf) (dead numbers places : List ℕ) (tied : AreTied structs objects dead) (same : structs ≡ seen)
    (rising : IsStrictlyIncreasing numbers) (listed : (n : ℕ) → is_in n numbers ≡ is_at_one n objects places) where
  listed_gone : (n : ℕ) → is_in n numbers ≡ is_gone (λ object. is_in object places) (value_at structs n)
  listed_gone n = listed n ∙ (λ i. list_any (λ place. tied.linked n place i) places) ∙ linked_gone places (value_at structs n)

  pub all_listed : AreListed structs numbers
  all_listed = record {
    rises = tied.queued.rises;
    rising = rising;
    there = λ k d within.
        gone_there (λ object. is_in object places) (value_at structs (get_or numbers k d))
        (sym (listed_gone (get_or numbers k d)) ∙ list_any_at (λ y. y == get_or numbers k d) numbers k d within (eq-eqb (get_or numbers k d) (get_or numbers k d) refl));
  }

  pub ends-told : ends_of structs numbers ≡ link_ends (λ object. is_in object places) seen
  ends-told =
      filter_map-same (λ n. end_of n (value_at structs n)) (λ n. found_by (ending (λ object. is_in object places)) n (value_at structs n)) numbers
      (λ n there. end_of-gone (λ object. is_in object places) n (value_at structs n) (sym (listed_gone n) ∙ there))
      ∙ picked (ending (λ object. is_in object places)) structs numbers tied.queued.rises (Rises-increasing numbers rising)
      (λ n. listed_gone n ∙ is_gone-ending (λ object. is_in object places) n (value_at structs n))
      ∙ ap (link_ends (λ object. is_in object places)) same

  module _ (after : Table Struct) (cuts : CutsAt structs after numbers) where
    value_at-cut : (q : ℕ) → value_at after q ≡ after_of (λ object. is_in object places) (value_at structs q)
    value_at-cut q =
        cuts.at q ∙ ap (λ t. cond t (left_of (value_at structs q)) (value_at structs q)) (listed_gone q)
        ∙ left_of-gone (λ object. is_in object places) (value_at structs q)

    pub structs-cut : after ≡ filter_map (entry_after (λ object. is_in object places)) seen
    structs-cut =
        same_table after (filter_map (entry_after (λ object. is_in object places)) structs) cuts.rises
        (KeysRise-after (λ object. is_in object places) structs tied.queued.rises)
        (λ q. value_at-cut q ∙ sym (value_at-after (λ object. is_in object places) structs q tied.queued.rises))
        ∙ ap (filter_map (entry_after (λ object. is_in object places))) same

    -- what waits from then on
    is_newly_dead : (n : ℕ) → is_in n (newly_dead (ends_of structs numbers)) ≡ (is_gone (λ object. is_in object places) (value_at structs n) && waits (value_at structs n))
    is_newly_dead n =
        ap (is_in n) (newly_dead-ends structs numbers) ∙ is_in-filter (λ m. waits (value_at structs m)) n numbers
        ∙ ap (λ t. t && waits (value_at structs n)) (listed_gone n)

    pub tied-cut : (objects_after : Table LinksOf) → ((place : ℕ) → links_at objects_after place ≡ cond (is_in place places) no_links (links_at objects place))
        → (dead_after : List ℕ) → dead_after ≡ dead ++ newly_dead (ends_of structs numbers) → AreTied after objects_after dead_after
    tied-cut objects_after forgotten dead_after queued = record {
      queued = record {
        rises = cuts.rises;
        waiting = λ n.
            ap (is_in n) queued ∙ list_any-append (λ y. y == n) dead (newly_dead (ends_of structs numbers))
            ∙ ap (λ t. t || is_in n (newly_dead (ends_of structs numbers))) (tied.queued.waiting n)
            ∙ ap (λ t. is_pending (value_at structs n) || t) (is_newly_dead n)
            ∙ pending_after (λ object. is_in object places) (value_at structs n) ∙ sym (ap is_pending (value_at-cut n));
        once = subst AreDifferent (sym queued)
            (AreDifferent-append dead (newly_dead (ends_of structs numbers)) tied.queued.once
            (subst AreDifferent (sym (newly_dead-ends structs numbers))
            (part_differs (λ n. waits (value_at structs n)) numbers (AreDifferent-rising numbers (Rises-increasing numbers rising))))
            (λ n there. is_newly_dead n
            ∙ ap (λ t. is_gone (λ object. is_in object places) (value_at structs n) && t) (waits_apart (value_at structs n) (sym (tied.queued.waiting n) ∙ there))
            ∙ and_false (is_gone (λ object. is_in object places) (value_at structs n))));
      };
      linked = λ n place.
          ap (λ l. is_in n l.numbers) (forgotten place) ∙ forgot (λ l. is_in n l.numbers) place refl
          ∙ ap (λ t. cond (is_in place places) false t) (tied.linked n place)
          ∙ linked_after (λ object. is_in object places) place (value_at structs n) ∙ sym (ap (is_linked_to place) (value_at-cut n));
      p_linked = λ n place.
          ap (λ l. is_number n l.p_link) (forgotten place) ∙ forgot (λ l. is_number n l.p_link) place refl
          ∙ ap (λ t. cond (is_in place places) false t) (tied.p_linked n place)
          ∙ p_linked_after (λ object. is_in object places) place (value_at structs n) ∙ sym (ap (is_p_linked_to place) (value_at-cut n));
    }
      where
        forgot : (test : LinksOf → Bool) (place : ℕ) → test no_links ≡ false
            → test (cond (is_in place places) no_links (links_at objects place)) ≡ cond (is_in place places) false (test (links_at objects place))
        forgot test place none = elim (is_in place places) as (λ t. test (cond t no_links (links_at objects place)) ≡ cond t false (test (links_at objects place))) [ true ↦ none | false ↦ refl ]
