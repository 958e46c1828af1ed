-- The parts that the end of marking makes are the same for tests that agree at listed places: so tests over places serve each store.
use Rattle.std.proofs.Common.{◌≡◌, ℕ, Bool, true, false, IsTrue, List, [], ◌∷◌, ◌++◌, map, Option, Some, None, refl, sym, ap, ap₂, ◌∙◌, subst, inl, inr, arith}
use Rattle.std.specs.Prelude.{not, filter, filter_map, option_and_then}
use Rattle.std.specs.List.{cons_option}
use Rattle.std.proofs.lemmas.Bool.{cases_Bool}
use Rattle.std.proofs.lemmas.Bool.Decides.{eqb_tells, nat_tests}
use Rattle.type_table.specs.Table.{Table, KeysRise, value_at}
use Rattle.type_table.proofs.TableLaws.{KeysRise-tail}
use Rattle.heap_space.specs.Memory.{Memory}
use Rattle.object_model.proofs.Members.{is_in-head, is_in-tail, filter-agree}
use Rattle.old_space.specs.declared.Old.{Old}
use Rattle.text_model.specs.declared.line.LinkEnd.{LinkEnd}
use Rattle.store_model.specs.Store.{Struct, Linked, Unlinked, Pending}
use Rattle.object_model.specs.Sets.{is_in}
use Rattle.store_model.specs.Structs.{Structs, object_of}
use Rattle.store_model.specs.Links.{cut_links, entry_after, link_end, link_ends, newly_dead}
use Rattle.remember_cards.specs.Remembered.{Held, held_places, without_dead}
use Rattle.heap_parts.specs.NamedFinals.{NamedFinals}
use Rattle.heap_parts.specs.Parts.{HeapParts}
use Rattle.store_model.proofs.StructLaws.{first-value, behind-first}
use Rattle.heap_phases.specs.EndOfMarking.{marked_parts}

-- a filter of what is listed by a place
filter-by : {X : Type 0} (place : X → ℕ) (f g : ℕ → Bool) (xs : List X) → ((p : ℕ) → IsTrue (is_in p (map place xs)) → f p ≡ g p) → filter (λ x. f (place x)) xs ≡ filter (λ x. g (place x)) xs
filter-by place f g [] same = refl
filter-by place f g (x ∷ xs) same =
    let more = filter-by place f g xs (λ p t. same p (is_in-tail p (place x) (map place xs) t)) in
    let here = same (place x) (is_in-head (place x) (map place xs)) in
    elim (cases_Bool (g (place x))) [
      | inl e ↦ rw (here, e) (ap (λ (ys : List _). x ∷ ys) more)
      | inr e ↦ rw (here, e) more
    ]

-- the links
module _ (f g : ℕ → Bool) where
  abbrev Agree : Table Struct → Type 0
  Agree structs = (n p : ℕ) → option_and_then object_of (value_at structs n) ≡ Some p → f p ≡ g p

  agree-tail : (entry : ℕ × Struct) (structs : Table Struct) → KeysRise (entry ∷ structs) → Agree (entry ∷ structs) → Agree structs
  agree-tail entry structs rises agree n p e = elim (eqb_tells n entry.0) [
    | inl same ↦ absurd (let none : value_at structs n ≡ None = subst (λ (k : ℕ). value_at structs k ≡ None) (sym same.1) (behind-first entry structs rises) in
        let nothing : option_and_then object_of (value_at structs n) ≡ None = ap (option_and_then object_of) none in let no : ⊥ = cc in no)
    | inr differ ↦ agree n p (ap (option_and_then object_of) (let same : value_at (entry ∷ structs) n ≡ value_at structs n = (let ne = differ.1 in grind (arith, nat_tests)) in same) ∙ e)
  ]

  agree-head : (entry : ℕ × Struct) (structs : Table Struct) → Agree (entry ∷ structs) → (p : ℕ) → object_of entry.1 ≡ Some p → f p ≡ g p
  agree-head entry structs agree p e = agree entry.0 p (ap (option_and_then object_of) (first-value entry structs) ∙ e)

  entry-same : (n : ℕ) (t : Struct) → ((p : ℕ) → object_of t ≡ Some p → f p ≡ g p) → entry_after f (n, t) ≡ entry_after g (n, t)
  entry-same n (Linked p light b own) same = elim (cases_Bool (g b)) [
    | inl e ↦ let h : f b ≡ true = same b refl ∙ e in rw (h, e) refl
    | inr e ↦ let h : f b ≡ false = same b refl ∙ e in rw (h, e) refl
  ]
  entry-same n (Unlinked own) same = refl
  entry-same n Pending same = refl

  end-same : (n : ℕ) (t : Struct) → ((p : ℕ) → object_of t ≡ Some p → f p ≡ g p) → link_end f (n, t) ≡ link_end g (n, t)
  end-same n (Linked p light b own) same = elim (cases_Bool (g b)) [
    | inl e ↦ let h : f b ≡ true = same b refl ∙ e in rw (h, e) refl
    | inr e ↦ let h : f b ≡ false = same b refl ∙ e in rw (h, e) refl
  ]
  end-same n (Unlinked own) same = refl
  end-same n Pending same = refl

  structs-same : (structs : Table Struct) → KeysRise structs → Agree structs → filter_map (entry_after f) structs ≡ filter_map (entry_after g) structs
  structs-same [] rises agree = refl
  structs-same (entry ∷ structs) rises agree = ap₂ (λ (a : Option (ℕ × Struct)) (b : Table Struct). cons_option a b)
      (entry-same entry.0 entry.1 (agree-head entry structs agree)) (structs-same structs (KeysRise-tail entry structs rises) (agree-tail entry structs rises agree))

  pub ends_same : (structs : Table Struct) → KeysRise structs → ((n p : ℕ) → option_and_then object_of (value_at structs n) ≡ Some p → f p ≡ g p) → link_ends f structs ≡ link_ends g structs
  ends_same [] rises agree = refl
  ends_same (entry ∷ structs) rises agree = ap₂ (λ (a : Option LinkEnd) (b : List LinkEnd). cons_option a b)
      (end-same entry.0 entry.1 (agree-head entry structs agree)) (ends_same structs (KeysRise-tail entry structs rises) (agree-tail entry structs rises agree))

  pub links_same : (links : Structs) → KeysRise links.structs → ((n p : ℕ) → option_and_then object_of (value_at links.structs n) ≡ Some p → f p ≡ g p) → cut_links f links ≡ cut_links g links
  links_same links rises agree = ap₂ (λ (structs : Table Struct) (ends : List LinkEnd). record { structs = structs; dead = links.dead ++ newly_dead ends })
      (structs-same links.structs rises agree) (ends_same links.structs rises agree)

pub parts_agree : (heap : HeapParts) (memory : Memory) (old_blocks : Old) (dead other taken chosen : ℕ → Bool) (husks : Table ℕ) (finals : NamedFinals)
    → ((p : ℕ) → IsTrue (is_in p (held_places heap.remembered)) → dead p ≡ other p) → ((p : ℕ) → IsTrue (is_in p heap.weaks) → dead p ≡ other p)
    → ((p : ℕ) → IsTrue (is_in p (map (λ entry. entry.0) heap.registered)) → taken p ≡ chosen p)
    → KeysRise heap.links.structs → ((n p : ℕ) → option_and_then object_of (value_at heap.links.structs n) ≡ Some p → dead p ≡ other p)
    → marked_parts heap memory old_blocks dead taken husks finals ≡ marked_parts heap memory old_blocks other chosen husks finals
parts_agree heap memory old_blocks dead other taken chosen husks finals held weak registered rises linked =
    let one : filter (λ (h : Held). not (dead h.place)) heap.remembered.held ≡ filter (λ (h : Held). not (other h.place)) heap.remembered.held =
    filter-by (λ (h : Held). h.place) (λ p. not (dead p)) (λ p. not (other p)) heap.remembered.held (λ p t. ap not (held p t)) in
    let two = filter-agree (λ p. not (dead p)) (λ p. not (other p)) heap.weaks (λ p t. ap not (weak p t)) in
    let three : filter (λ (e : ℕ × ℕ). not (taken e.0)) heap.registered ≡ filter (λ (e : ℕ × ℕ). not (chosen e.0)) heap.registered =
    filter-by (λ (e : ℕ × ℕ). e.0) (λ p. not (taken p)) (λ p. not (chosen p)) heap.registered (λ p t. ap not (registered p t)) in
    let four : filter (λ (e : ℕ × ℕ). taken e.0) heap.registered ≡ filter (λ (e : ℕ × ℕ). chosen e.0) heap.registered = filter-by (λ (e : ℕ × ℕ). e.0) taken chosen heap.registered registered in
    let five = links_same dead other heap.links rises linked in
    ap (λ (hs : List Held). record (marked_parts heap memory old_blocks dead taken husks finals) { remembered = record heap.remembered { held = hs } }) one
    ∙ (ap₂ (λ (ws : List ℕ) (ls : Structs). record (marked_parts heap memory old_blocks dead taken husks finals) { remembered = without_dead other heap.remembered; weaks = ws; links = ls }) two five
    ∙ ap₂ (λ (rs cs : List (ℕ × ℕ)). record (marked_parts heap memory old_blocks other taken husks finals) { registered = rs; chosen = heap.chosen ++ cs }) three four)
