-- The pass over the weak objects clears the targets that are gone, and its list is that of the weak objects that stay.
use Rattle.std.proofs.Common.{◌≡◌, ℕ, ◌+◌, ◌<◌, ◌≤◌, ◌⊎◌, Bool, true, false, IsTrue, List, [], ◌∷◌, map, filter, nat_eq, Some, None, refl, sym, ap, ap₂, ◌∙◌, subst, inl, inr, arith}
use Rattle.std.specs.Prelude.{not, ◌&&◌, ◌==◌, if◌then◌else◌}
use Rattle.std.specs.List.{IsDistinct}
use Rattle.std.specs.List.Sorted.{IsPermutation}
use Rattle.std.proofs.lemmas.Bool.Decides.{eqb_tells}
use Rattle.std.proofs.lemmas.Map.Keys.{IsDistinct-IsPermutation}
use Rattle.type_table.specs.declared.info.TypeInfo.{TypeInfo}
use Rattle.type_table.specs.declared.info.Shape.{Shape}
use Rattle.type_table.specs.declared.info.Shape.TheVariants.{Fixed, IntArray, RefArray, Weak}
use Rattle.type_table.specs.Table.{Table}
use Rattle.heap_space.specs.Places.{word_at}
use Rattle.object_view.specs.Moving.{place_now}
use Rattle.object_model.proofs.Members.{is_in-head, is_in-tail, filter-part, filter-member, filter-agree}
use Rattle.object_view.proofs.LayoutLaws.{laid_out, weak-at, SameAt, info_at-same}
use Rattle.object_model.specs.Sets.{is_in, AreDifferent}
use Rattle.object_model.specs.Shapes.{is_weak_shape}
use Rattle.store_model.specs.Store.{Store}
use Rattle.object_model.specs.ObjectWords.{renamed, info_at, layout_at, words_at}
use Rattle.object_model.specs.Holds.{IsPointer}
use Rattle.store_model.specs.MinorCollection.{vanishes, left_target}
use Rattle.heap_parts.specs.Parts.{HeapParts, pinned_places}
use Rattle.heap_parts.specs.Places.{is_weak_at}
use Rattle.frame_laws.proofs.Births.{rise-differ}
use Rattle.frame_laws.proofs.PlaceLaws.{named-by}
use Rattle.minor_collect.specs.Carried.{Moved, weak_births, births_read}
use Rattle.minor_collect.specs.Midway.{Midway, Changing, Owes, is_lasting, Placing, OwesNone}
use Rattle.minor_collect.specs.Ending.{IsCleared, left_places, stays}
use Rattle.minor_collect.specs.Lines.{is_gone_pointer, ClearsWeaks}
use Rattle.minor_collect.proofs.Ended.{stays_lasting, remains}
use Rattle.minor_collect.proofs.EndBirths.{rise_part}
use Rattle.minor_collect.proofs.EndObjects.{cleared-keeps}
use Rattle.minor_collect.proofs.NamedObjects.{weak_named, eq-flips}
use Rattle.object_model.proofs.SameMembers.{same_members, names_differ, part_differs}
use Rattle.minor_collect.proofs.Weaks.{now_place, weak_was, weak_now, pointer_gone}

pub weak-shape : (k : Shape) → is_weak_shape k ≡ true → k ≡ Weak
weak-shape (Fixed i r) u = absurd (let no : ⊥ = cc in no)
weak-shape IntArray u = absurd (let no : ⊥ = cc in no)
weak-shape RefArray u = absurd (let no : ⊥ = cc in no)
weak-shape Weak u = refl

-- what is written in the place of a pointer, as it leads and as it is named
written-one : (gone : ℕ → Bool) (name w : ℕ → ℕ) (pins remain : List ℕ) (x : ℕ)
    → (x ≡ 0) ⊎ ((gone (name x) ≡ not (is_lasting pins (place_now w x))) × ((name (place_now w x) ≡ name x) × ((1 ≤ place_now w x) × (IsTrue (is_lasting pins (place_now w x)) → IsTrue (is_in (place_now w x) remain)))))
    → IsPointer remain (if is_gone_pointer w pins x then 0 else place_now w x)
    × (renamed name (if is_gone_pointer w pins x then 0 else place_now w x) ≡ left_target gone (renamed name x))
written-one gone name w pins remain x why = elim (eqb_tells x 0) [
  | inl z ↦
      let P : ℕ → Type 0 = λ k. IsPointer remain (if is_gone_pointer w pins k then 0 else place_now w k)
      × (renamed name (if is_gone_pointer w pins k then 0 else place_now w k) ≡ left_target gone (renamed name k)) in
      subst P (sym z.1) (inl refl, refl)
  | inr n ↦ elim why [
    | inl z ↦ absurd (n.1 z)
    | inr is ↦
        let some : renamed name x ≡ Some (name x) = rw n.0 refl in
        let told : is_gone_pointer w pins x ≡ not (is_lasting pins (place_now w x)) = ap (λ (b : Bool). not b && not (is_lasting pins (place_now w x))) n.0 in
        by-lasting (is_gone_pointer w pins x) (is_lasting pins (place_now w x)) (gone (name x)) (place_now w x) (name x) refl is.0 told some is.1.0 is.1.1.0 is.1.1.1
  ]
]
  where
    by-lasting : (b last g : Bool) (at birth : ℕ) → gone (name x) ≡ g → g ≡ not last → b ≡ not last → renamed name x ≡ Some birth → name at ≡ birth → 1 ≤ at → (IsTrue last → IsTrue (is_in at remain))
        → IsPointer remain (if b then 0 else at) × (renamed name (if b then 0 else at) ≡ left_target gone (renamed name x))
    by-lasting true last true at birth is same told some named above there = (inl refl, sym (ap (left_target gone) (x-some) ∙ gone-none))
      where
        x-some : renamed name x ≡ Some (name x)
        x-some = some-x (x == 0) refl
          where
            some-x : (c : Bool) → (x == 0) ≡ c → renamed name x ≡ Some (name x)
            some-x true e = absurd (let f : renamed name x ≡ None = rw e refl in let bad : None ≡ Some birth = sym f ∙ some in let no : ⊥ = cc in no)
            some-x false e = rw e refl

        gone-none : left_target gone (Some (name x)) ≡ None
        gone-none = rw is refl
    by-lasting true true false at birth is same told some named above there = absurd (let no : ⊥ = cc in no)
    by-lasting true false false at birth is same told some named above there = absurd (let no : ⊥ = cc in no)
    by-lasting false true true at birth is same told some named above there = absurd (let no : ⊥ = cc in no)
    by-lasting false false g at birth is same told some named above there = absurd (let no : ⊥ = cc in no)
    by-lasting false true false at birth is same told some named above there = (inr (there refl), at-some ∙ sym (ap (left_target gone) x-some ∙ stays-some))
      where
        at-some : renamed name at ≡ Some birth
        at-some = elim (eqb_tells at 0) [
          | inl z ↦ absurd (omega (arith, z.1, above))
          | inr n ↦ (let f : renamed name at ≡ Some (name at) = rw n.0 refl in f) ∙ ap Some named
        ]

        x-some : renamed name x ≡ Some (name x)
        x-some = some-x (x == 0) refl
          where
            some-x : (c : Bool) → (x == 0) ≡ c → renamed name x ≡ Some (name x)
            some-x true e = absurd (let f : renamed name x ≡ None = rw e refl in let bad : None ≡ Some birth = sym f ∙ some in let no : ⊥ = cc in no)
            some-x false e = rw e refl

        stays-some : left_target gone (Some (name x)) ≡ Some birth
        stays-some = (let f : left_target gone (Some (name x)) ≡ Some (name x) = rw is refl in f) ∙ (sym x-some ∙ some)

module _ {start : HeapParts} {store : Store} {remembered : ℕ → ℕ → Bool} {now : Changing} {held : List ℕ} {owes : Owes} {moved : Moved} {after : ℕ → ℕ} {left : List ℕ}
    {placing : Placing} (mid : Midway start store remembered now placing [] held [] owes moved []) (none : OwesNone owes)
    (c : ClearsWeaks start.setup.types after (word_at now.memory.blocks) (pinned_places start) start.weaks left) where
  abbrev types : Table TypeInfo
  types = start.setup.types

  abbrev w : ℕ → ℕ
  w = word_at now.memory.blocks

  -- where each of the list stands
  pub left-there : (p : ℕ) → IsTrue (is_in p left) → IsTrue (is_in p placing.places) × (IsTrue (is_lasting (pinned_places start) p) × (is_weak_at start.setup.types (word_at now.memory.blocks) p ≡ true))
  left-there p t =
      let last = filter-part (λ q. is_lasting (pinned_places start) q) (map (place_now (word_at now.memory.blocks)) start.weaks) p (subst (λ (l : List ℕ). IsTrue (is_in p l)) c.left_are t) in
      let n = named-by (place_now (word_at now.memory.blocks)) p start.weaks last.0 in
      let there = now_place mid.words.objects mid.words.moving n.place (mid.carried.weaks_are.there n.place n.there) in (
        subst (λ (k : ℕ). IsTrue (is_in k placing.places)) (sym n.is) there.0,
        (last.1, ap (is_weak_at start.setup.types (word_at now.memory.blocks)) n.is ∙ weak_was mid.words.objects mid.words.moving mid.carried n.place n.there),
      )

  in-left : (p : ℕ) → IsTrue (is_in p placing.places) → IsTrue (is_lasting (pinned_places start) p) → is_weak_at start.setup.types (word_at now.memory.blocks) p ≡ true → IsTrue (is_in p left)
  in-left p t last weak = subst (λ (l : List ℕ). IsTrue (is_in p l)) (sym c.left_are)
      (filter-member (λ q. is_lasting (pinned_places start) q) (map (place_now (word_at now.memory.blocks)) start.weaks) p (weak_now mid.words.objects mid.words.moving mid.carried p t weak) last)

  remaining-there : (p : ℕ) → IsTrue (is_in p (left_places store placing.found placing.name placing.places)) → IsTrue (is_in p placing.places) × IsTrue (is_lasting (pinned_places start) p)
  remaining-there p t =
      let part = filter-part (λ q. stays store (λ y. is_in y placing.found) (placing.name q)) placing.places p t in
      (part.0, stays_lasting mid.words.objects mid.words.moving mid.follows none p part.0 part.1)

  target-both : (p : ℕ) → IsTrue (is_in p (left_places store placing.found placing.name placing.places)) → (info_at start.setup.types (word_at now.memory.blocks) p).shape ≡ Weak
      → IsPointer (left_places store placing.found placing.name placing.places) (after (layout_at start.setup.types (word_at now.memory.blocks) p).ref_start)
      × (renamed placing.name (after (layout_at start.setup.types (word_at now.memory.blocks) p).ref_start)
      ≡ left_target (vanishes store (λ z. is_in z placing.found)) (renamed placing.name (word_at now.memory.blocks (layout_at start.setup.types (word_at now.memory.blocks) p).ref_start)))
  target-both p t e =
      let there = remaining-there p t in
      let x : ℕ = word_at now.memory.blocks (layout_at start.setup.types (word_at now.memory.blocks) p).ref_start in
      let one = weak-at start.setup.types (word_at now.memory.blocks) p e in
      let F : ℕ → Type 0 = λ k. IsPointer placing.met (word_at now.memory.blocks k) in
      let closed : IsPointer placing.met x = subst F (omega arith) (mid.words.objects.closed p 0 there.0 (omega (arith, one.0))) in
      let G : ℕ → Type 0 = λ k. IsPointer (left_places store placing.found placing.name placing.places) k × (renamed placing.name k ≡ left_target (vanishes store (λ z. is_in z placing.found)) (renamed placing.name x)) in
      subst G (sym (c.written p (in-left p there.0 there.1 (ap is_weak_shape e))))
      (written-one (vanishes store (λ z. is_in z placing.found)) placing.name (word_at now.memory.blocks) (pinned_places start) (left_places store placing.found placing.name placing.places) x
      (elim closed [
        | inl z ↦ inl z
        | inr met ↦
            let is = now_place mid.words.objects mid.words.moving x met in
            inr (
              pointer_gone mid.words.objects mid.words.moving mid.follows none x met,
              (
                is.1,
                (
                  mid.words.objects.above (place_now (word_at now.memory.blocks) x) is.0,
                  remains mid.words.objects mid.words.moving mid.follows none (place_now (word_at now.memory.blocks) x) is.0,
                ),
              ),
            )
      ]))

  -- Each object that stays has its words, with its target cleared.
  pub weak_cleared : (p : ℕ) → IsTrue (is_in p (left_places store placing.found placing.name placing.places))
      → IsCleared start.setup.types after (word_at now.memory.blocks) (vanishes store (λ z. is_in z placing.found)) placing.name (left_places store placing.found placing.name placing.places) p
  weak_cleared p t = record {
    same = λ b low high other. c.elsewhere b (λ q u e.
        let there = left-there q u in
        let weak = weak-shape (info_at start.setup.types (word_at now.memory.blocks) q).shape there.1.1 in
        let laid = laid_out start.setup.types (word_at now.memory.blocks) q in
        let one = weak-at start.setup.types (word_at now.memory.blocks) q weak in
        let is : q ≡ p = mid.words.objects.apart q p b there.0 (remaining-there p t).0 (omega (arith, e, laid.begins, laid.ordered), omega (arith, e, laid.pointers, one.0)) (low, high) in
        other (subst (λ (k : ℕ). (info_at start.setup.types (word_at now.memory.blocks) k).shape ≡ Weak) is weak)
        (subst (λ (k : ℕ). b ≡ (layout_at start.setup.types (word_at now.memory.blocks) k).ref_start) is e));
    leads = λ e. (target-both p t e).0;
    target = λ e. (target-both p t e).1;
  }

  map-twice : (ps : List ℕ) → ((p : ℕ) → IsTrue (is_in p ps) → IsTrue (is_in p placing.met)) → map placing.name (map (place_now (word_at now.memory.blocks)) ps) ≡ map placing.name ps
  map-twice [] among = refl
  map-twice (p ∷ ps) among = ap₂ (λ (b : ℕ) (bs : List ℕ). b ∷ bs) (now_place mid.words.objects mid.words.moving p (among p (is_in-head p ps))).1
      (map-twice ps (λ q t. among q (is_in-tail q p ps t)))

  weaks-differ : AreDifferent (map (place_now (word_at now.memory.blocks)) start.weaks)
  weaks-differ =
      let rises = rise_part placing.name (is_weak_at start.setup.types (word_at now.memory.blocks)) 1 start.next placing.places mid.rise in
      let born : IsDistinct nat_eq (weak_births store.kept) = subst (IsDistinct nat_eq) (sym (weak_named mid.words.objects)) (rise-differ 1 start.next _ rises) in
      let read : IsDistinct nat_eq (births_read start start.weaks) = IsDistinct-IsPermutation nat_eq eq-flips (weak_births store.kept) (births_read start start.weaks) mid.carried.weak_are born in
      names_differ placing.name (map (place_now (word_at now.memory.blocks)) start.weaks) (subst (IsDistinct nat_eq) (sym (map-twice start.weaks mid.carried.weaks_are.there ∙ sym mid.carried.weaks_are.named)) read)

  -- The list is that of the weak objects that stay.
  pub weak_listed : IsPermutation (filter (is_weak_at start.setup.types after) (left_places store placing.found placing.name placing.places)) left
  weak_listed =
      let differ : AreDifferent placing.places = names_differ placing.name placing.places (rise-differ 1 start.next (map placing.name placing.places) mid.rise) in
      let same : filter (is_weak_at start.setup.types after) (left_places store placing.found placing.name placing.places) ≡ filter (is_weak_at start.setup.types (word_at now.memory.blocks)) (left_places store placing.found placing.name placing.places) =
      filter-agree (is_weak_at start.setup.types after) (is_weak_at start.setup.types (word_at now.memory.blocks)) (left_places store placing.found placing.name placing.places)
      (λ p t. ap (λ (i : TypeInfo). is_weak_shape i.shape) (info_at-same start.setup.types after (word_at now.memory.blocks) p (cleared-keeps (weak_cleared p t)).type_stays)) in
      subst (λ (ps : List ℕ). IsPermutation ps left) (sym same)
      (same_members (filter (is_weak_at start.setup.types (word_at now.memory.blocks)) (left_places store placing.found placing.name placing.places)) left
      (part_differs (is_weak_at start.setup.types (word_at now.memory.blocks)) (left_places store placing.found placing.name placing.places)
      (part_differs (λ p. stays store (λ y. is_in y placing.found) (placing.name p)) placing.places differ))
      (subst AreDifferent (sym c.left_are) (part_differs (λ q. is_lasting (pinned_places start) q) (map (place_now (word_at now.memory.blocks)) start.weaks) weaks-differ))
      (λ p t.
      let part = filter-part (is_weak_at start.setup.types (word_at now.memory.blocks)) (left_places store placing.found placing.name placing.places) p t in
      let there = remaining-there p part.0 in in-left p there.0 there.1 part.1)
      (λ p t.
      let there = left-there p t in
      filter-member (is_weak_at start.setup.types (word_at now.memory.blocks)) (left_places store placing.found placing.name placing.places) p
      (remains mid.words.objects mid.words.moving mid.follows none p there.0 there.1.0) there.1.1))

-- What is cleared stays so while its words stay.
pub cleared_stays : {types : Table TypeInfo} {u v w name : ℕ → ℕ} {gone : ℕ → Bool} {remain : List ℕ} {p : ℕ} → IsCleared types v w gone name remain p → SameAt types u v p
    → IsCleared types u w gone name remain p
cleared_stays {types = types} {u = u} {v = v} {w = w} {name = name} {gone = gone} {remain = remain} {p = p} c same =
    let size : words_at types v p ≡ words_at types w p = ap (λ l. l.words) (cleared-keeps c).layout_stays in
    let laid = laid_out types w p in
    let word : (b : ℕ) → p ≤ b → b < p + words_at types w p → u b ≡ v b = λ b low high. same.same b low (omega (arith, high, size)) in
    let target : (info_at types w p).shape ≡ Weak → u (layout_at types w p).ref_start ≡ v (layout_at types w p).ref_start =
    λ e. word (layout_at types w p).ref_start (omega (arith, laid.begins, laid.ordered)) (omega (arith, laid.pointers, (weak-at types w p e).0)) in
    record {
      same = λ b low high other. word b low high ∙ c.same b low high other;
      leads = λ e. subst (IsPointer remain) (sym (target e)) (c.leads e);
      target = λ e. ap (renamed name) (target e) ∙ c.target e;
    }
