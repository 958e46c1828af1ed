-- What is left after visits: nothing that was gray, or that a visited object refers to, is forgotten, and nothing else waits.
use Rattle.std.proofs.Common.{◌≡◌, ℕ, ◌⊎◌, Bool, true, false, IsTrue, List, ◌++◌, refl, sym, ap, ◌∙◌, subst, inl, inr}
use Rattle.std.specs.Prelude.{◌||◌, not}
use Rattle.std.proofs.lemmas.Bool.{cases_Bool}
use Rattle.type_table.specs.declared.info.TypeInfo.{TypeInfo}
use Rattle.type_table.specs.Table.{Table}
use Rattle.heap_space.specs.Places.{word_at}
use Rattle.heap_space.specs.Memory.{Memory}
use Rattle.heap_space.proofs.Blocks.{word_at-here}
use Rattle.object_header.specs.Words.{has_flag, with_flag}
use Rattle.object_header.specs.declared.flags.Flag.TheVariants.{Visited}
use Rattle.object_header.proofs.WordLaws.{has_flag-with_flag_same}
use Rattle.object_model.specs.Sets.{is_in}
use Rattle.object_model.proofs.Members.{is_in-head, is_in-tail, is_in-cases, is_in-nil}
use Rattle.mark_steps.specs.Visits.{is_outside, is_visited, outside_refs, with_visited, PlaceVisits, NoPlace, PassesPlace, VisitsPlace, CanVisit}
use Rattle.mark_steps.proofs.Lists.{in-either, in-left, in-right}
use Rattle.mark_steps.proofs.VisitStep.{has-first, can-visited, can-passed, refs-visited}
use Rattle.mark_steps.proofs.FrameLaws.{visits-keep, visits-outside}

-- the place carries the mark, or waits
abbrev pub IsKnown : Memory → List ℕ → ℕ → Type 0
IsKnown memory left q = (is_visited memory q ≡ true) ⊎ IsTrue (is_in q left)

-- the mark stays
pub visits-stay : {types : Table TypeInfo} {nursery : ℕ} (m : Memory) (gray ps : List ℕ) (new : Memory) (left places : List ℕ) → CanVisit types nursery m gray places
    → PlaceVisits types nursery m gray ps new left → (q : ℕ) → is_visited m q ≡ true → is_visited new q ≡ true
visits-stay m gray ps new left places can v q marked =
    let k = visits-keep m gray ps new left places can v in
    elim (cases_Bool (is_in q ps)) [
      | inl t ↦ ap (λ x. has_flag x Visited) (k.0.marked q t) ∙ has_flag-with_flag_same (word_at m.blocks q) Visited
      | inr f ↦ ap (λ x. has_flag x Visited) (k.0.elsewhere q f) ∙ marked
    ]

-- Each place that was gray, and each that a visited object refers to, carries the mark or waits, if it lies outside the nursery.
pub visits-close : {types : Table TypeInfo} {nursery : ℕ} (m : Memory) (gray ps : List ℕ) (new : Memory) (left places : List ℕ) → CanVisit types nursery m gray places
    → PlaceVisits types nursery m gray ps new left → (q : ℕ) → IsTrue (is_outside nursery q)
    → IsTrue (is_in q gray) ⊎ ((p : ℕ) × IsTrue (is_in p ps) × IsTrue (is_in q (outside_refs types nursery (word_at m.blocks) p)))
    → IsKnown new left q
visits-close m _ _ _ _ places can (NoPlace _ gray) q o why = elim why [
  | inl t ↦ inr t
  | inr some ↦ absurd (is_in-nil some.0 some.1)
]
visits-close {types = types} {nursery = nursery} m _ ps new left places can (PassesPlace _ p rest _ _ _ passed more) q o why = elim why [
  | inl t ↦ elim (is_in-cases q p rest t) [
    | inl e ↦
        let marked : is_visited m q ≡ true = (let P : ℕ → Type 0 = λ k. is_visited m k ≡ true in subst P (sym e) (both (is_outside nursery p) (is_visited m p) passed
        (let Q : ℕ → Type 0 = λ k. IsTrue (is_outside nursery k) in subst Q e o))) in
        inl (visits-stay m rest ps new left places (can-passed p rest can refl) more q marked)
    | inr u ↦ visits-close m rest ps new left places (can-passed p rest can refl) more q o (inl u)
  ]
  | inr some ↦ visits-close m rest ps new left places (can-passed p rest can refl) more q o (inr some)
]
  where
    both : (a b : Bool) → (not a || b) ≡ true → IsTrue a → b ≡ true
    both true b e t = e
    both false b e t = absurd (let no : ⊥ = cc in no)
visits-close {types = types} {nursery = nursery} m _ _ new left places can (VisitsPlace _ p rest ps _ _ passed more) q o why =
    let out = visits-outside (is_outside nursery p) (is_visited m p) passed in
    let t : IsTrue (is_in p places) = can.listed p (is_in-head p rest) out.0 in
    let queue : List ℕ = rest ++ outside_refs types nursery (word_at m.blocks) p in
    let next : CanVisit types nursery (with_visited m p) queue places = can-visited p can t rest refl in
    let keep = visits-keep (with_visited m p) queue ps new left places next more in
    let flag : is_visited (with_visited m p) p ≡ true =
    ap (λ k. has_flag k Visited) (word_at-here m.blocks p (with_flag (word_at m.blocks p) Visited) (has-first m types p (can.whole p t))) ∙ has_flag-with_flag_same (word_at m.blocks p) Visited in
    elim why [
      | inl u ↦ elim (is_in-cases q p rest u) [
        | inl e ↦ inl (visits-stay (with_visited m p) queue ps new left places next more q (let P : ℕ → Type 0 = λ k. is_visited (with_visited m p) k ≡ true in subst P (sym e) flag))
        | inr r ↦ visits-close (with_visited m p) queue ps new left places next more q o (inl (in-left q rest (outside_refs types nursery (word_at m.blocks) p) r))
      ]
      | inr some ↦ elim (is_in-cases some.0 p ps some.1) [
        | inl e ↦
            let ref : IsTrue (is_in q (outside_refs types nursery (word_at m.blocks) p)) =
            (let P : ℕ → Type 0 = λ k. IsTrue (is_in q (outside_refs types nursery (word_at m.blocks) k)) in subst P e some.2) in
            visits-close (with_visited m p) queue ps new left places next more q o (inl (in-right q rest (outside_refs types nursery (word_at m.blocks) p) ref))
        | inr later ↦
            let there : IsTrue (is_in some.0 places) = keep.1.0.there some.0 later in
            visits-close (with_visited m p) queue ps new left places next more q o
            (inr (some.0, later, subst (λ (l : List ℕ). IsTrue (is_in q l)) (sym (refs-visited p can t some.0 there)) some.2))
      ]
    ]

-- What waits was gray, or a visited object refers to it.
pub visits-left : {types : Table TypeInfo} {nursery : ℕ} (m : Memory) (gray ps : List ℕ) (new : Memory) (left places : List ℕ) → CanVisit types nursery m gray places
    → PlaceVisits types nursery m gray ps new left → (q : ℕ) → IsTrue (is_in q left)
    → IsTrue (is_in q gray) ⊎ ((p : ℕ) × IsTrue (is_in p ps) × IsTrue (is_in q (outside_refs types nursery (word_at m.blocks) p)))
visits-left m _ _ _ _ places can (NoPlace _ gray) q t = inl t
visits-left m _ ps new left places can (PassesPlace _ p rest _ _ _ passed more) q t = elim (visits-left m rest ps new left places (can-passed p rest can refl) more q t) [
  | inl u ↦ inl (is_in-tail q p rest u)
  | inr some ↦ inr some
]
visits-left {types = types} {nursery = nursery} m _ _ new left places can (VisitsPlace _ p rest ps _ _ passed more) q t =
    let out = visits-outside (is_outside nursery p) (is_visited m p) passed in
    let there : IsTrue (is_in p places) = can.listed p (is_in-head p rest) out.0 in
    let queue : List ℕ = rest ++ outside_refs types nursery (word_at m.blocks) p in
    let next : CanVisit types nursery (with_visited m p) queue places = can-visited p can there rest refl in
    let keep = visits-keep (with_visited m p) queue ps new left places next more in
    elim (visits-left (with_visited m p) queue ps new left places next more q t) [
      | inl u ↦ elim (in-either q rest (outside_refs types nursery (word_at m.blocks) p) u) [
        | inl r ↦ inl (is_in-tail q p rest r)
        | inr r ↦ inr (p, is_in-head p ps, r)
      ]
      | inr some ↦ inr (
        some.0,
        is_in-tail some.0 p ps some.1,
        subst (λ (l : List ℕ). IsTrue (is_in q l)) (refs-visited p can there some.0 (keep.1.0.there some.0 some.1)) some.2,
      )
    ]
