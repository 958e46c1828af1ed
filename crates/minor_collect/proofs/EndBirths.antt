-- The settled objects, the births and the numbers of words after a minor collection.
use Rattle.std.proofs.Common.{◌≡◌, ℕ, ◌+◌, ◌≤◌, Bool, true, false, IsTrue, List, [], ◌∷◌, map, filter, refl, sym, ap, ◌∙◌, subst, inl, inr, arith}
use Rattle.std.specs.Prelude.{not, ◌&&◌, ◌||◌, sum_by, is_some}
use Rattle.std.proofs.lemmas.Bool.{cases_Bool}
use Rattle.std.proofs.lemmas.List.Sums.{sum_by-cons}
use Rattle.type_table.specs.declared.info.TypeInfo.{TypeInfo}
use Rattle.type_table.specs.Table.{Table}
use Rattle.object_view.proofs.LayoutLaws.{birth-from}
use Rattle.object_view.proofs.FoundLaws.{kept_words-held, found-at}
use Rattle.object_view.proofs.SurvivorLaws.{filter_holds}
use Rattle.object_model.specs.Object.{Object, kept_words}
use Rattle.object_model.specs.Sets.{is_in}
use Rattle.store_model.specs.Store.{Store, husk_words}
use Rattle.object_model.specs.ObjectWords.{object_from, words_at}
use Rattle.object_model.specs.Holds.{HoldsObjects}
use Rattle.store_model.specs.Reach.{births_where}
use Rattle.store_model.specs.Sound.{AreNoneOf}
use Rattle.store_model.specs.MinorCollection.{settles}
use Rattle.heap_parts.specs.Places.{is_young, young_places, old_places, RiseBetween}
use Rattle.store_model.specs.Roots.{pinned_births}
use Rattle.heap_parts.specs.Lists.{HoldsList}
use Rattle.heap_parts.specs.StandsFor.{HoldsSums}
use Rattle.frame_laws.proofs.Births.{map-births, rise-lower}
use Rattle.object_model.proofs.Members.{is_in-named, filter-agree}
use Rattle.frame_laws.proofs.PlaceLaws.{young-is_in, named-by, placed_words}
use Rattle.minor_collect.specs.Midway.{Follows, Owes}

-- births of what passes are the names of the places that pass
pub births_named : {types : Table TypeInfo} {w name : ℕ → ℕ} {met places : List ℕ} {kept : List Object} (test : ℕ → Bool)
    → HoldsObjects types w met places name kept → births_where kept test ≡ map name (filter (λ p. test (name p)) places)
births_named {types = types} {w = w} {name = name} {met = met} {places = places} test h =
    let some = filter_holds met test h (λ q j t e l. h.closed q j t l) in
    ap (map (λ (o : Object). o.birth)) some.reads
    ∙ map-births (λ (o : Object). o.birth) (object_from types name w) name (filter (λ p. test (name p)) places) (λ p t. birth-from types name w p ∙ sym (some.named p t))

moved-settles : (settled found pinned : Bool) → (settled ≡ false → found ≡ true) → pinned ≡ false → (settled || (not settled && (found && not pinned))) ≡ true
moved-settles true found pinned why p = refl
moved-settles false found pinned why p = rw (why refl, p) refl

pinned-waits : (settled found : Bool) → settled ≡ false → (settled || (not settled && (found && not true))) ≡ false
pinned-waits true found e = absurd (let no : ⊥ = cc in no)
pinned-waits false true e = refl
pinned-waits false false e = refl

unfound-waits : (settled found pinned : Bool) → settled ≡ false → found ≡ false → (settled || (not settled && (found && not pinned))) ≡ false
unfound-waits true found pinned e f = absurd (let no : ⊥ = cc in no)
unfound-waits false true pinned e f = absurd (let no : ⊥ = cc in no)
unfound-waits false false pinned e f = refl

not-settled : (kept settled : Bool) → IsTrue (kept && not settled) → settled ≡ false
not-settled true true t = absurd (let no : ⊥ = cc in no)
not-settled true false t = refl
not-settled false settled t = absurd (let no : ⊥ = cc in no)

module _ {types : Table TypeInfo} {store : Store} {remembered : ℕ → ℕ → Bool} {pins : List ℕ} {w : ℕ → ℕ} {met places : List ℕ} {name : ℕ → ℕ} {found held : List ℕ} {owes : Owes}
    (h : HoldsObjects types w met places name store.kept) (f : Follows types store remembered pins w met places name found [] held [] owes)
    (pinned : HoldsList pins (young_places places) name (pinned_births store)) (unsettled : AreNoneOf (pinned_births store) store.settled) where
  -- what stands outside the nursery is not pinned
  old-unpinned : (p : ℕ) → IsTrue (is_in p places) → is_young p ≡ false → is_in (name p) (pinned_births store) ≡ false
  old-unpinned p t e = elim (cases_Bool (is_in (name p) (pinned_births store))) [
    | inl u ↦
        let n = named-by name (name p) pins (subst (λ (l : List ℕ). IsTrue (is_in (name p) l)) pinned.named u) in
        let q = young-is_in places n.place (pinned.there n.place n.there) in
        let same : p ≡ n.place = h.differ p n.place t q.0 n.is in
        absurd (let yes : is_young p ≡ true = subst (λ (k : ℕ). is_young k ≡ true) (sym same) q.1 in let no : ⊥ = cc in no)
    | inr no_pin ↦ no_pin
  ]

  settles-old : (p : ℕ) → IsTrue (is_in p places) → (is_in (name p) store.settled || settles store (λ x. is_in x found) (name p)) ≡ not (is_young p)
  settles-old p t = elim (cases_Bool (is_young p)) [
    | inl e ↦ elim (cases_Bool (is_in p pins)) [
      | inl pin ↦
          let is_pinned : is_in (name p) (pinned_births store) ≡ true = subst (λ (l : List ℕ). IsTrue (is_in (name p) l)) (sym pinned.named) (is_in-named name p pins pin) in
          rw (e, is_pinned) (pinned-waits (is_in (name p) store.settled) (is_in (name p) found) (unsettled (name p) is_pinned))
      | inr unpinned ↦
          let wait = f.waits p t (rw (e, unpinned) refl) in
          rw e (unfound-waits (is_in (name p) store.settled) (is_in (name p) found) (is_in (name p) (pinned_births store)) (not-settled _ (is_in (name p) store.settled) wait.0) wait.1)
    ]
    | inr e ↦ rw e (moved-settles (is_in (name p) store.settled) (is_in (name p) found) (is_in (name p) (pinned_births store))
        (λ u. f.lasts p t (rw e refl) (rw (ap is_some (found-at p h t), u) refl)) (old-unpinned p t e))
  ]

  -- just what stands outside the nursery is settled
  pub settled_end : births_where store.kept (λ x. is_in x store.settled || settles store (λ y. is_in y found) x) ≡ map name (old_places places)
  settled_end = births_named (λ x. is_in x store.settled || settles store (λ y. is_in y found) x) h
      ∙ ap (map name) (filter-agree (λ p. is_in (name p) store.settled || settles store (λ y. is_in y found) (name p)) (λ p. not (is_young p)) places settles-old)

-- some of rising births rise
pub rise_part : (name : ℕ → ℕ) (test : ℕ → Bool) (least next : ℕ) (ps : List ℕ) → RiseBetween least (map name ps) next → RiseBetween least (map name (filter test ps)) next
rise_part name test least next [] r = r
rise_part name test least next (p ∷ ps) r =
    let more = rise_part name test (name p + 1) next ps r.1 in
    elim (cases_Bool (test p)) [
      | inl e ↦ rw e (r.0, more)
      | inr e ↦ rw e (rise-lower least (name p + 1) next (map name (filter test ps)) (omega (arith, r.0)) more)
    ]

sum-part : (g : ℕ → ℕ) (test : ℕ → Bool) (ps : List ℕ) → sum_by g (filter test ps) ≤ sum_by g ps
sum-part g test [] = omega arith
sum-part g test (p ∷ ps) =
    let more = sum-part g test ps in let whole = sum_by-cons g p ps in
    elim (cases_Bool (test p)) [
      | inl e ↦ rw e (let first = sum_by-cons g p (filter test ps) in omega (arith, more, whole, first))
      | inr e ↦ rw e (omega (arith, more, whole))
    ]

-- The numbers, where the heap counts the words of what is left in the nursery and of what lies outside it.
pub end_sums : {types : Table TypeInfo} {v name : ℕ → ℕ} {remain : List ℕ} {after : List Object} {settled : List ℕ} {husks : List (ℕ × ℕ)}
    (unsettled old husk limit whole : ℕ)
    → HoldsObjects types v remain remain name after → settled ≡ map name (old_places remain)
    → unsettled ≡ sum_by (words_at types v) (young_places remain) → old ≡ sum_by (words_at types v) (old_places remain) + husk
    → husk ≡ husk_words husks → sum_by (words_at types v) remain ≤ whole → whole + husk ≤ limit
    → HoldsSums unsettled old 0 limit after settled husks
end_sums {types = types} {v = v} {remain = remain} {after = after} {settled = settled} unsettled old husk limit whole h is young outside husk_is part within =
    let placed = placed_words settled h is in
    let all : kept_words after ≡ sum_by (words_at types v) remain = kept_words-held h in
    record {
      unsettled_are = young ∙ sym placed.unsettled;
      old_are = omega (arith, outside, placed.settled_are, husk_is);
      fresh_old = omega arith;
      within = omega (arith, young, outside, placed.all, all, part, within);
    }

-- fewer objects have no more words than all
pub part_words : (g : ℕ → ℕ) (test : ℕ → Bool) (ps : List ℕ) → sum_by g (filter test ps) ≤ sum_by g ps
part_words g test ps = sum-part g test ps
