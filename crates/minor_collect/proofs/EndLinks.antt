-- Links after a minor collection: those of what is gone are cut, by places as by births.
use Rattle.std.proofs.Common.{◌≡◌, ℕ, Bool, false, IsTrue, List, [], ◌∷◌, ◌++◌, Option, Some, None, refl, sym, ap, ap₂, ◌∙◌, subst, inl, inr}
use Rattle.std.specs.Prelude.{filter_map, option_map, option_and_then}
use Rattle.std.specs.List.{cons_option}
use Rattle.std.proofs.lemmas.Bool.{cases_Bool}
use Rattle.std.proofs.lemmas.Bool.Decides.{eqb_tells}
use Rattle.type_table.specs.Table.{Table, value_at}
use Rattle.object_model.proofs.Members.{is_in-head, is_in-tail, is_in-cases, is_in-nil}
use Rattle.text_model.specs.declared.line.Fate.{Fate}
use Rattle.text_model.specs.declared.line.Fate.TheVariants as fate
use Rattle.text_model.specs.declared.line.LinkEnd.{LinkEnd}
use Rattle.object_model.specs.Sets.{is_in}
use Rattle.store_model.specs.Store.{Struct, Linked, Unlinked, Pending}
use Rattle.store_model.specs.Structs.{Structs, object_of, with_object, with_objects}
use Rattle.store_model.specs.Links.{link_end, link_ends, entry_after, left_by, fate_of, newly_dead, cut_links}
use Rattle.heap_parts.specs.Lists.{HoldsLinks}

-- the objects of some structures
abbrev pub linked_in : Table Struct → List ℕ
linked_in structs = filter_map (λ entry. object_of entry.1) structs

abbrev pub numbered : ℕ → Struct → ℕ × Struct
numbered n s = (n, s)

abbrev renamed_entry : (ℕ → ℕ) → ℕ × Struct → ℕ × Struct
renamed_entry name entry = (entry.0, with_object name entry.1)

tail-in : (e : ℕ × Struct) (es : Table Struct) (p : ℕ) → IsTrue (is_in p (linked_in es)) → IsTrue (is_in p (linked_in (e ∷ es)))
tail-in (n, Linked q light object own) es p t = is_in-tail p object (linked_in es) t
tail-in (n, Unlinked own) es p t = t
tail-in (n, Pending) es p t = t

-- an object that is found is one of them
first-linked : (n : ℕ) (s : Struct) (es : Table Struct) (p : ℕ) → object_of s ≡ Some p → IsTrue (is_in p (linked_in ((n, s) ∷ es)))
first-linked n (Linked q light object own) es p e = let P : ℕ → Type 0 = λ k. IsTrue (is_in k (object ∷ linked_in es)) in subst P (let inj : object ≡ p = cc in inj) (is_in-head object (linked_in es))
first-linked n (Unlinked own) es p e = absurd (let no : ⊥ = cc in no)
first-linked n Pending es p e = absurd (let no : ⊥ = cc in no)

linked-found : (es : Table Struct) (n p : ℕ) → option_and_then object_of (value_at es n) ≡ Some p → IsTrue (is_in p (linked_in es))
linked-found [] n p e = absurd (let no : ⊥ = cc in no)
linked-found (entry ∷ es) n p e = elim (eqb_tells n entry.0) [
  | inl same ↦ first-linked entry.0 entry.1 es p (let f : option_and_then object_of (value_at (entry ∷ es) n) ≡ object_of entry.1 = rw same.0 refl in sym f ∙ e)
  | inr other ↦ tail-in entry es p (linked-found es n p (let f : value_at (entry ∷ es) n ≡ value_at es n = rw other.0 refl in ap (option_and_then object_of) (sym f) ∙ e))
]

module _ (name : ℕ → ℕ) (dead gone : ℕ → Bool) where
  rest-same : (e : ℕ × Struct) (es : Table Struct) → ((p : ℕ) → IsTrue (is_in p (linked_in (e ∷ es))) → gone (name p) ≡ dead p) → (p : ℕ) → IsTrue (is_in p (linked_in es)) → gone (name p) ≡ dead p
  rest-same e es same p t = same p (tail-in e es p t)

  cut-one : (e : ℕ × Struct) (es : Table Struct) → ((p : ℕ) → IsTrue (is_in p (linked_in (e ∷ es))) → gone (name p) ≡ dead p)
      → entry_after gone (e.0, with_object name e.1) ≡ option_map (renamed_entry name) (entry_after dead e)
  cut-one (n, Linked p light object own) es same = elim (cases_Bool (dead object)) [
    | inl d ↦ rw (same object (is_in-head object (linked_in es)), d) (by-fate (fate_of light own))
    | inr d ↦ rw (same object (is_in-head object (linked_in es)), d) refl
  ]
    where
      by-fate : (f : Fate) → option_map (numbered n) (left_by f own) ≡ option_map (renamed_entry name) (option_map (numbered n) (left_by f own))
      by-fate fate.Unlinked = refl
      by-fate fate.Pending = refl
      by-fate fate.Released = refl
  cut-one (n, Unlinked own) es same = refl
  cut-one (n, Pending) es same = refl

  map-cons : (o : Option (ℕ × Struct)) (es : Table Struct)
      → cons_option (option_map (renamed_entry name) o) (with_objects name es) ≡ with_objects name (cons_option o es)
  map-cons None es = refl
  map-cons (Some e) es = refl

  pub structs_cut : (es : Table Struct) → ((p : ℕ) → IsTrue (is_in p (linked_in es)) → gone (name p) ≡ dead p)
      → filter_map (entry_after gone) (with_objects name es) ≡ with_objects name (filter_map (entry_after dead) es)
  structs_cut [] same = refl
  structs_cut (e ∷ es) same =
      ap₂ (λ (o : Option (ℕ × Struct)) (rest : Table Struct). cons_option o rest) (cut-one e es same) (structs_cut es (rest-same e es same))
      ∙ map-cons (entry_after dead e) (filter_map (entry_after dead) es)

  end-one : (e : ℕ × Struct) (es : Table Struct) → ((p : ℕ) → IsTrue (is_in p (linked_in (e ∷ es))) → gone (name p) ≡ dead p) → link_end gone (e.0, with_object name e.1) ≡ link_end dead e
  end-one (n, Linked p light object own) es same = rw (same object (is_in-head object (linked_in es))) refl
  end-one (n, Unlinked own) es same = refl
  end-one (n, Pending) es same = refl

  -- the ends are the same, and so are their lines
  pub ends_same : (es : Table Struct) → ((p : ℕ) → IsTrue (is_in p (linked_in es)) → gone (name p) ≡ dead p) → link_ends gone (with_objects name es) ≡ link_ends dead es
  ends_same [] same = refl
  ends_same (e ∷ es) same = ap₂ (λ (o : Option LinkEnd) (rest : List LinkEnd). cons_option o rest) (end-one e es same) (ends_same es (rest-same e es same))

  -- what is still linked was so, and is not gone
  pub still-linked : (es : Table Struct) (p : ℕ) → IsTrue (is_in p (linked_in (filter_map (entry_after dead) es))) → IsTrue (is_in p (linked_in es)) × (dead p ≡ false)
  still-linked [] p t = absurd (is_in-nil p t)
  still-linked ((n, Linked q light object own) ∷ es) p t = elim (cases_Bool (dead object)) [
    | inl d ↦ let more = still-linked es p (by-fate (fate_of light own) (rw d at t)) in (is_in-tail p object (linked_in es) more.0, more.1)
    | inr d ↦ elim (is_in-cases p object (linked_in (filter_map (entry_after dead) es)) (rw d at t)) [
      | inl e ↦ (let P : ℕ → Type 0 = λ k. IsTrue (is_in k (object ∷ linked_in es)) in subst P (sym e) (is_in-head object (linked_in es)), ap dead e ∙ d)
      | inr u ↦ let more = still-linked es p u in (is_in-tail p object (linked_in es) more.0, more.1)
    ]
  ]
    where
      by-fate : (f : Fate) → IsTrue (is_in p (linked_in (cons_option (option_map (numbered n) (left_by f own)) (filter_map (entry_after dead) es)))) → IsTrue (is_in p (linked_in (filter_map (entry_after dead) es)))
      by-fate fate.Unlinked u = u
      by-fate fate.Pending u = u
      by-fate fate.Released u = u
  still-linked ((n, Unlinked own) ∷ es) p t = still-linked es p t
  still-linked ((n, Pending) ∷ es) p t = still-linked es p t

  pub end_links : (links : Structs) (met remain : List ℕ) (structs : Table Struct) (queue : List ℕ) → HoldsLinks links met name structs queue
      → ((p : ℕ) → IsTrue (is_in p (linked_in links.structs)) → gone (name p) ≡ dead p)
      → ((p : ℕ) → IsTrue (is_in p (linked_in links.structs)) → dead p ≡ false → IsTrue (is_in p remain))
      → HoldsLinks (cut_links dead links) remain name (filter_map (entry_after gone) structs) (queue ++ newly_dead (link_ends gone structs))
  end_links links met remain structs queue h same there = record {
    named = ap (filter_map (entry_after gone)) h.named ∙ structs_cut links.structs same;
    there = λ n p e. let was = still-linked links.structs p (linked-found (filter_map (entry_after dead) links.structs) n p e) in there p was.0 was.1;
    queue = ap₂ (λ (q : List ℕ) (ends : List LinkEnd). q ++ newly_dead ends) h.queue (ap (link_ends gone) h.named ∙ ends_same links.structs same);
  }
