-- Nothing is owed any more: what stays is what lies outside the nursery or is pinned, and leads only to what stays.
use Rattle.std.proofs.Common.{◌≡◌, ◌≢◌, ℕ, ◌+◌, ◌<◌, ◌⊎◌, Bool, true, false, IsTrue, List, [], ◌∷◌, filter, Option, Some, None, refl, sym, ap, ◌∙◌, subst, inl, inr, arith}
use Rattle.std.specs.Prelude.{not, ◌&&◌, ◌||◌, is_some, slice_get, option_and_then}
use Rattle.std.proofs.lemmas.Bool.{cases_Bool, ne_eqb}
use Rattle.std.proofs.lemmas.Bool.Decides.{eqb_tells}
use Rattle.type_table.specs.declared.info.TypeInfo.{TypeInfo}
use Rattle.type_table.specs.Table.{Table}
use Rattle.object_model.specs.Object.{Object}
use Rattle.object_model.specs.Sets.{is_in}
use Rattle.store_model.specs.Store.{Store}
use Rattle.object_model.specs.Fields.{refs_of, ref_in}
use Rattle.store_model.specs.Roots.{is_kept}
use Rattle.object_model.specs.ObjectWords.{renamed, layout_at, object_from}
use Rattle.object_model.specs.Holds.{HoldsObjects, IsPointer}
use Rattle.store_model.specs.Reach.{Tells, Leads, refers}
use Rattle.store_model.specs.MarkingOrder.{IsItem, YoungHeld}
use Rattle.store_model.specs.MinorCollection.{is_unsettled, SurvivesBy, refers_unsettled}
use Rattle.object_view.specs.Moving.{IsMoving, HasLeft}
use Rattle.object_model.proofs.Members.{is_in-nil, is_in-head, is_in-tail, and_first, and_second, filter-part, filter-member}
use Rattle.object_view.proofs.LayoutLaws.{laid_out}
use Rattle.object_view.proofs.FoundLaws.{found-at, ref-from}
use Rattle.heap_parts.specs.Places.{is_young, young_places, old_places}
use Rattle.frame_laws.proofs.SlotLaws.{pointer-some}
use Rattle.minor_collect.specs.Entries.{has_remembered_referrer}
use Rattle.minor_collect.specs.Midway.{Follows, Owes, OwesNone, is_lasting, IsLasting}
use Rattle.minor_collect.specs.Ending.{stays, remaining}
use Rattle.minor_collect.proofs.TraceLaws.{tells-found}

pub some-item : (refs : List (Option ℕ)) (i y : ℕ) → ref_in refs i ≡ Some y → slice_get refs i ≡ Some (Some y)
some-item refs i y e = go (slice_get refs i) e
  where
    go : (r : Option (Option ℕ)) → option_and_then (λ b. b) r ≡ Some y → r ≡ Some (Some y)
    go None e = absurd (let no : ⊥ = cc in no)
    go (Some r) e = ap Some e

-- what is led to is unsettled
led-on : (store : Store) (is_held : ℕ → Bool) (x : ℕ) (path : List ℕ) (y : ℕ) → IsTrue (is_unsettled store x) → Leads (refers_unsettled store) x path y → IsTrue (is_unsettled store y)
led-on store is_held x [] y t l = subst (λ (k : ℕ). IsTrue (is_unsettled store k)) l t
led-on store is_held x (z ∷ path) y t l = led-on store is_held z path y (and_second (refers store.kept x z) (is_unsettled store z) l.0) l.1

pub survivor_unsettled : (store : Store) (is_held : ℕ → Bool) (y : ℕ) → SurvivesBy store is_held y → IsTrue (is_unsettled store y)
survivor_unsettled store is_held y l = led-on store is_held l.0 l.2 y (and_first (is_unsettled store l.0) _ l.1) l.3

or-last : (b c : Bool) → IsTrue c → IsTrue (b || c)
or-last true c t = refl
or-last false c t = t

pub no_both : (b : Bool) → IsTrue b → b ≡ false → ⊥
no_both true t e = let out : ⊥ = cc in out
no_both false t e = let out : ⊥ = cc in out

stays-cases : (unsettled found : Bool) → (IsTrue unsettled → IsTrue found) → IsTrue (not (unsettled && not found))
stays-cases false found why = refl
stays-cases true true why = refl
stays-cases true false why = why refl

not-stays : (unsettled found : Bool) → IsTrue unsettled → found ≡ false → IsTrue (not (unsettled && not found)) → ⊥
not-stays true true t e s = let no : ⊥ = cc in no
not-stays true false t e s = let no : ⊥ = cc in no
not-stays false found t e s = let no : ⊥ = cc in no

lasting-false : (young pin : Bool) → (not young || pin) ≡ true → young ≡ true → pin ≡ true
lasting-false true pin t e = t
lasting-false false pin t e = absurd (let no : ⊥ = cc in no)

filter-inside : (f g : ℕ → Bool) (ps : List ℕ) → ((p : ℕ) → IsTrue (is_in p ps) → g p ≡ true → f p ≡ true) → filter g (filter f ps) ≡ filter g ps
filter-inside f g [] same = refl
filter-inside f g (p ∷ ps) same =
    let more = filter-inside f g ps (λ q t e. same q (is_in-tail q p ps t) e) in
    elim (cases_Bool (g p)) [
      | inl e ↦ rw (same p (is_in-head p ps) e, e) (ap (λ (qs : List ℕ). p ∷ qs) more)
      | inr e ↦ elim (cases_Bool (f p)) [
        | inl h ↦ rw (h, e) more
        | inr h ↦ rw (h, e) more
      ]
    ]

module _ {types : Table TypeInfo} {store : Store} {remembered : ℕ → ℕ → Bool} {pins : List ℕ} {w : ℕ → ℕ} {met places : List ℕ} {name : ℕ → ℕ} {found held : List ℕ} {owes : Owes}
    (h : HoldsObjects types w met places name store.kept) (m : IsMoving types w met places name)
    (f : Follows types store remembered pins w met places name found [] held [] owes) (none : OwesNone owes) where
  abbrev survives : ℕ → Bool
  survives x = is_in x found

  pub survivors_told : Tells (λ x. is_in x found) (SurvivesBy store (has_remembered_referrer store remembered))
  survivors_told = tells-found _ _ (is_unsettled store) found f.trace

  pub kept-name : (x : ℕ) → IsTrue (is_in x places) → IsTrue (is_kept store.kept (name x))
  kept-name x t = ap is_some (found-at x h t)

  -- what lies outside the nursery or is pinned stays
  pub lasting_stays : (x : ℕ) → IsTrue (is_in x places) → IsTrue (is_lasting pins x) → IsTrue (stays store (λ y. is_in y found) (name x))
  lasting_stays x t l = stays-cases (is_unsettled store (name x)) (is_in (name x) found) (f.lasts x t l)

  -- and nothing else does
  pub stays_lasting : (x : ℕ) → IsTrue (is_in x places) → IsTrue (stays store (λ y. is_in y found) (name x)) → IsTrue (is_lasting pins x)
  stays_lasting x t s = elim (cases_Bool (is_lasting pins x)) [
    | inl e ↦ e
    | inr e ↦ let wait = f.waits x t e in absurd (not-stays (is_unsettled store (name x)) (is_in (name x) found) wait.0 wait.1 s)
  ]

  -- each object outside the nursery stays, and of those in it the pinned ones
  pub old_stay : old_places (remaining (stays store (λ y. is_in y found)) name places) ≡ old_places places
  old_stay = filter-inside (λ p. stays store (λ y. is_in y found) (name p)) (λ p. not (is_young p)) places
      (λ p t e. lasting_stays p t (rw e refl))

  pub young_pinned : (p : ℕ) → IsTrue (is_in p (young_places (remaining (stays store (λ y. is_in y found)) name places))) → IsTrue (is_in p pins)
  young_pinned p t =
      let part = filter-part is_young (remaining (stays store (λ y. is_in y found)) name places) p t in
      let rest = filter-part (λ q. stays store (λ y. is_in y found) (name q)) places p part.0 in
      lasting-false (is_young p) (is_in p pins) (stays_lasting p rest.0 rest.1) part.1

  pub remains : (x : ℕ) → IsTrue (is_in x places) → IsTrue (is_lasting pins x) → IsTrue (is_in x (remaining (stays store (λ y. is_in y found)) name places))
  remains x t l = filter-member (λ q. stays store (λ y. is_in y found) (name q)) places x t (lasting_stays x t l)

  -- an item that the barrier forgot refers to a settled object
  pub forgotten : (q j x : ℕ) → YoungHeld store.kept store.settled remembered → IsTrue (is_in q places) → j < (layout_at types w q).ref_count
      → x ≡ w ((layout_at types w q).ref_start + j) → IsTrue (is_in (name q) store.settled) → remembered (name q) j ≡ false → x ≢ 0
      → IsTrue (is_in (name x) store.settled)
  forgotten q j x held_young t l is settled forgot ne =
      let named : renamed name (w ((layout_at types w q).ref_start + j)) ≡ Some (name x) =
      ap (renamed name) (sym is) ∙ (let e : renamed name x ≡ Some (name x) = rw (ne_eqb x 0 ne) refl in e) in
      let item : IsItem store.kept (name q) j (name x) =
      subst (λ (o : Option Object). slice_get (refs_of o) j ≡ Some (Some (name x))) (sym (found-at q h t))
      (some-item (object_from types name w q).refs j (name x) (ref-from types name w q j l ∙ named)) in
      elim (held_young (name q) j (name x) settled item) [
        | inl s ↦ s
        | inr r ↦ absurd (no_both (remembered (name q) j) r forgot)
      ]

  not-unsettled : (kept settled : Bool) → IsTrue (kept && not settled) → IsTrue settled → ⊥
  not-unsettled true true t s = let no : ⊥ = cc in no
  not-unsettled true false t s = let no : ⊥ = cc in no
  not-unsettled false settled t s = let no : ⊥ = cc in no

  -- a settled object is still where it was
  pub settled-there : (x : ℕ) → IsTrue (is_in (name x) store.settled) → IsTrue (is_in x places) ⊎ HasLeft types w places name x → IsTrue (is_in x met) → IsTrue (is_in x places)
  settled-there x s (inl there) t = there
  settled-there x s (inr left) t =
      let led = survivor_unsettled store (has_remembered_referrer store remembered) (name x) (f.trace.led (name x) (f.gone x t left.marked).1.0) in
      absurd (not-unsettled (is_kept store.kept (name x)) (is_in (name x) store.settled) led s)

  pub settled-lasts : (x : ℕ) → IsTrue (is_in (name x) store.settled) → IsTrue (is_in x places) → IsTrue (is_lasting pins x)
  settled-lasts x s t = elim (cases_Bool (is_lasting pins x)) [
    | inl e ↦ e
    | inr e ↦ absurd (not-unsettled (is_kept store.kept (name x)) (is_in (name x) store.settled) (f.waits x t e).0 s)
  ]

  -- Each reference of what stays leads to what stays.
  pub item_leads : YoungHeld store.kept store.settled remembered → (q j : ℕ) → IsTrue (is_in q places) → IsTrue (is_lasting pins q) → j < (layout_at types w q).ref_count
      → IsLasting pins places (w ((layout_at types w q).ref_start + j))
  item_leads held_young q j t l b =
      let x : ℕ = w ((layout_at types w q).ref_start + j) in
      elim (f.looked q j t l b) [
        | inl todo ↦ absurd (is_in-nil q todo)
        | inr (inl owed) ↦ absurd (no_both (owes.items q j) owed (none.items q j))
        | inr (inr (inl forgot)) ↦ elim (eqb_tells x 0) [
          | inl e ↦ inl e.1
          | inr e ↦
              let s = forgotten q j x held_young t b refl forgot.0 forgot.1 e.1 in
              let u : IsTrue (is_in x met) = pointer-some met x (h.closed q j t (omega (arith, b, (laid_out types w q).refs))) e.1 in
              let there = settled-there x s (m.each x u) u in inr (there, settled-lasts x s there)
        ]
        | inr (inr (inr (inl e))) ↦ inl e
        | inr (inr (inr (inr (inl old)))) ↦ inr (old.0, rw old.1 refl)
        | inr (inr (inr (inr (inr pin)))) ↦ inr (pin.0, let or_pin : (b c : Bool) → IsTrue c → IsTrue (b || c) = or-last in or_pin (not (is_young x)) (is_in x pins) pin.1.0)
      ]

  pub refs_lead : YoungHeld store.kept store.settled remembered → (q j : ℕ) → IsTrue (is_in q (remaining (stays store (λ y. is_in y found)) name places)) → j < (layout_at types w q).ref_count
      → IsPointer (remaining (stays store (λ y. is_in y found)) name places) (w ((layout_at types w q).ref_start + j))
  refs_lead held_young q j t b =
      let part = filter-part (λ p. stays store (λ y. is_in y found) (name p)) places q t in
      elim (item_leads held_young q j part.0 (stays_lasting q part.0 part.1) b) [
        | inl e ↦ inl e
        | inr l ↦ inr (remains (w ((layout_at types w q).ref_start + j)) l.0 l.1)
      ]
