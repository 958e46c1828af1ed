-- The lines of a minor collection, from what the code tells.
use Rattle.std.proofs.Common.{◌≡◌, ℕ, suc, ◌+◌, ◌⊎◌, Bool, true, false, IsTrue, List, [], ◌∷◌, ◌++◌, map, filter, length, Option, Some, refl, sym, ap, ap₂, ◌∙◌, subst, inl, inr, arith}
use Rattle.std.specs.Prelude.{not, ◌&&◌, ◌||◌, filter_map}
use Rattle.std.specs.List.Sorted.{IsPermutation}
use Rattle.std.proofs.lemmas.Bool.Decides.{eqb_tells}
use Rattle.std.proofs.lemmas.List.Sorted.{length_permutation}
use Rattle.type_table.specs.declared.info.TypeInfo.{TypeInfo}
use Rattle.type_table.specs.declared.info.Shape.{Shape}
use Rattle.type_table.specs.declared.info.Shape.TheVariants.{Fixed, IntArray, RefArray, Weak}
use Rattle.type_table.specs.Table.{Table}
use Rattle.heap_space.specs.Places.{word_at}
use Rattle.object_view.specs.Moving.{place_now}
use Rattle.object_view.proofs.LayoutLaws.{birth-from, weak-at}
use Rattle.object_view.proofs.FoundLaws.{info-from}
use Rattle.object_model.proofs.Members.{filter-part, filter-member, and_first, and_second, and_both, filter-agree, is_in-named}
use Rattle.text_model.specs.declared.line.Line.{Line}
use Rattle.text_model.specs.declared.line.Line.TheVariants.{MinorDone, Cleared, Destroyed, LinkCut}
use Rattle.text_model.specs.declared.line.LinkEnd.{LinkEnd}
use Rattle.object_model.specs.Object.{Object}
use Rattle.object_model.specs.Sets.{is_in, AreDifferent}
use Rattle.object_model.specs.Shapes.{is_weak_shape}
use Rattle.store_model.specs.Store.{Store, Struct}
use Rattle.store_model.specs.Structs.{object_of}
use Rattle.store_model.specs.Links.{link_ends}
use Rattle.store_model.specs.Reach.{births_where}
use Rattle.object_model.specs.ObjectWords.{renamed, info_at, layout_at, object_from, target_of}
use Rattle.object_model.specs.Holds.{IsPointer}
use Rattle.store_model.specs.MinorCollection.{vanishes, settles, target_passes, loss_lines, minor_lines}
use Rattle.remember_cards.specs.Remembered.{is_held_of}
use Rattle.heap_parts.specs.Parts.{HeapParts, pinned_places}
use Rattle.heap_parts.specs.Places.{is_young, old_places, is_weak_at, RiseBetween}
use Rattle.heap_parts.specs.StandsFor.{PartsStandButYoung}
use Rattle.birth_laws.proofs.BirthNames.{listed}
use Rattle.frame_laws.proofs.Births.{rise-differ}
use Rattle.frame_laws.proofs.PlaceLaws.{named-by, settled-old}
use Rattle.minor_collect.specs.Carried.{Moved}
use Rattle.minor_collect.specs.Midway.{Midway, Changing, Owes, is_lasting, Placing, OwesNone}
use Rattle.minor_collect.specs.Lines.{weaks_left, is_gone_pointer, loses_target, TellsLoss}
use Rattle.store_model.proofs.Counts.{count_either}
use Rattle.minor_collect.proofs.EndBirths.{births_named, settled_end, rise_part}
use Rattle.minor_collect.proofs.EndLinks.{ends_same}
use Rattle.minor_collect.proofs.NamedObjects.{objects_named, rising_same}
use Rattle.object_model.proofs.SameMembers.{same_members, names_differ, part_differs}
use Rattle.minor_collect.proofs.Weaks.{permuted-in, permuted-from, now_place, weak_was, weak_now, gone_lasting, pointer_gone}

lines-of : (f : ℕ → Line) (os : List Object) → map (λ (o : Object). f o.birth) os ≡ map f (map (λ (o : Object). o.birth) os)
lines-of f [] = refl
lines-of f (o ∷ os) = ap (λ (ls : List Line). f o.birth ∷ ls) (lines-of f os)

-- the target that is read is that of a weak object alone
passes-by-shape : (s : Shape) (gone : ℕ → Bool) (target : Option ℕ) → target_passes gone (target_of s target) ≡ (is_weak_shape s && target_passes gone target)
passes-by-shape (Fixed i r) gone target = refl
passes-by-shape IntArray gone target = refl
passes-by-shape RefArray gone target = refl
passes-by-shape Weak gone target = refl

target-at : (types : Table TypeInfo) (name w : ℕ → ℕ) (p : ℕ) → (object_from types name w p).target ≡ target_of (info_at types w p).shape (renamed name (w (layout_at types w p).ref_start))
unfolding object_from
target-at types name w p = refl

target-one : (gone : ℕ → Bool) (name w : ℕ → ℕ) (pins : List ℕ) (x : ℕ) → (x ≡ 0) ⊎ (gone (name x) ≡ not (is_lasting pins (place_now w x)))
    → target_passes gone (renamed name x) ≡ is_gone_pointer w pins x
target-one gone name w pins x why = elim (eqb_tells x 0) [
  | inl z ↦ let P : ℕ → Type 0 = λ k. target_passes gone (renamed name k) ≡ is_gone_pointer w pins k in subst P (sym z.1) refl
  | inr n ↦
      let some : renamed name x ≡ Some (name x) = rw n.0 refl in
      let told : is_gone_pointer w pins x ≡ not (is_lasting pins (place_now w x)) = ap (λ (b : Bool). not b && not (is_lasting pins (place_now w x))) n.0 in
      ap (target_passes gone) some ∙ (elim why [ inl z ↦ absurd (n.1 z) | inr same ↦ same ] ∙ sym told)
]

length-map : (f : ℕ → ℕ) (ps : List ℕ) → length (map f ps) ≡ length ps
length-map f [] = refl
length-map f (p ∷ ps) = ap suc (length-map f ps)

module _ {start : HeapParts} {store : Store} {now : Changing} {held : List ℕ} {owes : Owes} {moved : Moved}
    (s : PartsStandButYoung start store) {placing : Placing} (mid : Midway start store (is_held_of start.remembered s.name) now placing [] held [] owes moved []) (none : OwesNone owes) where
  abbrev types : Table TypeInfo
  types = start.setup.types

  abbrev w : ℕ → ℕ
  w = word_at now.memory.blocks

  abbrev gone : ℕ → Bool
  gone x = vanishes store (λ z. is_in z placing.found) x

  name-read : (p : ℕ) → IsTrue (is_in p placing.places) → placing.name p ≡ word_at now.memory.blocks (p + 1)
  name-read p t = mid.words.objects.named p t

  gone-at : (p : ℕ) → IsTrue (is_in p placing.places) → vanishes store (λ z. is_in z placing.found) (placing.name p) ≡ not (is_lasting (pinned_places start) p)
  gone-at p t = gone_lasting mid.words.objects mid.words.moving mid.follows none p t

  -- what the target of a weak object is
  target-gone : (p : ℕ) → IsTrue (is_in p placing.places) → is_weak_at start.setup.types (word_at now.memory.blocks) p ≡ true
      → target_passes (vanishes store (λ z. is_in z placing.found)) (renamed placing.name (word_at now.memory.blocks (layout_at start.setup.types (word_at now.memory.blocks) p).ref_start))
      ≡ loses_target start.setup.types (word_at now.memory.blocks) (pinned_places start) p
  target-gone p t e =
      let x : ℕ = word_at now.memory.blocks (layout_at start.setup.types (word_at now.memory.blocks) p).ref_start in
      let one = weak-at start.setup.types (word_at now.memory.blocks) p (weak-shape (info_at start.setup.types (word_at now.memory.blocks) p).shape e) in
      let F : ℕ → Type 0 = λ k. IsPointer placing.met (word_at now.memory.blocks k) in
      let closed : IsPointer placing.met x = subst F (omega arith) (mid.words.objects.closed p 0 t (omega (arith, one.0))) in
      target-one (vanishes store (λ z. is_in z placing.found)) placing.name (word_at now.memory.blocks) (pinned_places start) x
      (elim closed [ inl z ↦ inl z | inr there ↦ inr (pointer_gone mid.words.objects mid.words.moving mid.follows none x there) ])
    where
      weak-shape : (k : Shape) → is_weak_shape k ≡ true → k ≡ Weak
      weak-shape (Fixed i r) u = absurd (let no : ⊥ = cc in no)
      weak-shape IntArray u = absurd (let no : ⊥ = cc in no)
      weak-shape RefArray u = absurd (let no : ⊥ = cc in no)
      weak-shape Weak u = refl

  abbrev lasts : ℕ → Bool
  lasts p = is_lasting (pinned_places start) p

  abbrev loses : ℕ → Bool
  loses p = loses_target start.setup.types (word_at now.memory.blocks) (pinned_places start) p

  rises : RiseBetween 1 (map placing.name placing.places) start.next
  rises = mid.rise

  -- how many moved
  pub settled_count : length (births_where store.kept (settles store (λ z. is_in z placing.found))) ≡ moved.objects
  settled_count =
      let both : length (births_where store.kept (λ x. is_in x store.settled || settles store (λ z. is_in z placing.found) x))
      ≡ length (births_where store.kept (λ x. is_in x store.settled)) + length (births_where store.kept (settles store (λ z. is_in z placing.found))) =
      count_either store.kept (λ x. is_in x store.settled) (settles store (λ z. is_in z placing.found)) (λ x e. ap (λ (b : Bool). not b && (is_in x placing.found && not (is_in x (map (λ (entry : ℕ × ℕ). entry.0) store.pinned)))) e) in
      let end : length (births_where store.kept (λ x. is_in x store.settled || settles store (λ z. is_in z placing.found) x)) ≡ length (old_places placing.places) =
      ap length (settled_end mid.words.objects mid.follows (listed mid.pins) s.sound.pins.unsettled) ∙ length-map placing.name (old_places placing.places) in
      let first : length (births_where store.kept (λ x. is_in x store.settled)) ≡ length store.settled = settled-length in
      let counted : length (old_places placing.places) ≡ length store.settled + moved.objects = mid.carried.counted in
      omega (arith, both, end, first, counted)
    where
      -- the settled objects of before, by their places then
      settled-length : length (births_where store.kept (λ x. is_in x store.settled)) ≡ length store.settled
      settled-length =
          ap length (births_named (λ x. is_in x store.settled) s.words.objects)
          ∙ (length-map s.name (filter (λ p. is_in (s.name p) store.settled) s.places)
          ∙ (ap length (filter-agree (λ p. is_in (s.name p) store.settled) (λ p. not (is_young p)) s.places
          (λ p t. ap (is_in (s.name p)) s.births.settled_are ∙ settled-old s.name s.places p t s.words.objects.differ))
          ∙ sym (ap length s.births.settled_are ∙ length-map s.name (old_places s.places))))

  module _ (dead : List ℕ) (once : AreDifferent dead) (just : (p : ℕ) → IsTrue (is_in p dead) → IsTrue (is_in p placing.places) × (is_lasting (pinned_places start) p ≡ false))
      (all : (p : ℕ) → IsTrue (is_in p placing.places) → is_lasting (pinned_places start) p ≡ false → IsTrue (is_in p dead)) where
    -- and how many are gone
    pub dead_count : length (births_where store.kept (vanishes store (λ z. is_in z placing.found))) ≡ length dead
    dead_count =
        let differ = part_differs (λ p. not (is_lasting (pinned_places start) p)) placing.places (names_differ placing.name placing.places (rise-differ 1 start.next (map placing.name placing.places) mid.rise)) in
        let same : IsPermutation dead (filter (λ p. not (is_lasting (pinned_places start) p)) placing.places) =
        same_members dead (filter (λ p. not (is_lasting (pinned_places start) p)) placing.places) once differ
        (λ p t. let j = just p t in filter-member (λ q. not (is_lasting (pinned_places start) q)) placing.places p j.0 (ap not j.1))
        (λ p t. let part = filter-part (λ q. not (is_lasting (pinned_places start) q)) placing.places p t in all p part.0 (not-true (is_lasting (pinned_places start) p) part.1)) in
        ap length (births_named (vanishes store (λ z. is_in z placing.found)) mid.words.objects)
        ∙ (length-map placing.name (filter (λ p. vanishes store (λ z. is_in z placing.found) (placing.name p)) placing.places)
        ∙ (ap length (filter-agree (λ p. vanishes store (λ z. is_in z placing.found) (placing.name p)) (λ p. not (is_lasting (pinned_places start) p)) placing.places gone-at)
        ∙ length_permutation dead (filter (λ p. not (is_lasting (pinned_places start) p)) placing.places) same))
      where
        not-true : (b : Bool) → not b ≡ true → b ≡ false
        not-true true e = absurd (let no : ⊥ = cc in no)
        not-true false e = refl

  module _ {dead cleared destroyed : List ℕ}
      (l : TellsLoss start.setup.types (word_at now.memory.blocks) (pinned_places start) placing.places start.weaks start.next dead cleared destroyed) where
    -- births that are printed are those of the places that pass
    births-printed : (passes : ℕ → Bool) (qs printed : List ℕ) → RiseBetween 1 printed start.next → IsPermutation (map (λ p. word_at now.memory.blocks (p + 1)) qs) printed
        → ((p : ℕ) → IsTrue (is_in p placing.places) → passes p ≡ true → IsTrue (is_in p qs)) → ((p : ℕ) → IsTrue (is_in p qs) → IsTrue (is_in p placing.places) × (passes p ≡ true))
        → map placing.name (filter passes placing.places) ≡ printed
    births-printed passes qs printed rise same to from =
        rising_same 1 start.next 1 start.next (map placing.name (filter passes placing.places)) printed (rise_part placing.name passes 1 start.next placing.places mid.rise) rise
        (λ x t.
        let n = named-by placing.name x (filter passes placing.places) t in
        let part = filter-part passes placing.places n.place n.there in
        permuted-in x (map (λ p. word_at now.memory.blocks (p + 1)) qs) printed same
        (subst (λ (k : ℕ). IsTrue (is_in k (map (λ p. word_at now.memory.blocks (p + 1)) qs))) (sym (n.is ∙ name-read n.place part.0))
        (is_in-named (λ p. word_at now.memory.blocks (p + 1)) n.place qs (to n.place part.0 part.1))))
        (λ y t.
        let n = named-by (λ p. word_at now.memory.blocks (p + 1)) y qs (permuted-from y (map (λ p. word_at now.memory.blocks (p + 1)) qs) printed same t) in
        let is = from n.place n.there in
        subst (λ (k : ℕ). IsTrue (is_in k (map placing.name (filter passes placing.places)))) (sym (n.is ∙ sym (name-read n.place is.0)))
        (is_in-named placing.name n.place (filter passes placing.places) (filter-member passes placing.places n.place is.0 is.1)))

    birth-gone : (p : ℕ) → IsTrue (is_in p placing.places) → vanishes store (λ z. is_in z placing.found) (object_from start.setup.types placing.name (word_at now.memory.blocks) p).birth ≡ not (is_lasting (pinned_places start) p)
    birth-gone p t = ap (vanishes store (λ z. is_in z placing.found)) (birth-from start.setup.types placing.name (word_at now.memory.blocks) p ∙ sym (name-read p t)) ∙ gone-at p t

    not-false : (b : Bool) → not b ≡ true → b ≡ false
    not-false true e = absurd (let no : ⊥ = cc in no)
    not-false false e = refl

    not-not : (b : Bool) → not (not b) ≡ b
    not-not true = refl
    not-not false = refl

    destroyed-are : map (λ (o : Object). o.birth) (filter (λ (o : Object). vanishes store (λ z. is_in z placing.found) o.birth && o.info.destructor) store.kept) ≡ destroyed
    destroyed-are =
        let dies : ℕ → Bool = λ p. (info_at start.setup.types (word_at now.memory.blocks) p).destructor in
        objects_named (λ (o : Object). vanishes store (λ z. is_in z placing.found) o.birth && o.info.destructor)
        (λ p. not (is_lasting (pinned_places start) p) && (info_at start.setup.types (word_at now.memory.blocks) p).destructor) mid.words.objects
        (λ p t. ap₂ (λ (a b : Bool). a && b) (birth-gone p t) (ap (λ (i : TypeInfo). i.destructor) (info-from start.setup.types placing.name (word_at now.memory.blocks) p)))
        ∙ births-printed (λ p. not (is_lasting (pinned_places start) p) && (info_at start.setup.types (word_at now.memory.blocks) p).destructor)
        (filter (λ p. (info_at start.setup.types (word_at now.memory.blocks) p).destructor) dead) destroyed l.destroyed_rise l.destroyed_are
        (λ p t e. filter-member (λ q. (info_at start.setup.types (word_at now.memory.blocks) q).destructor) dead p
        (l.all p t (not-false (is_lasting (pinned_places start) p) (and_first (not (is_lasting (pinned_places start) p)) (info_at start.setup.types (word_at now.memory.blocks) p).destructor e)))
        (and_second (not (is_lasting (pinned_places start) p)) (info_at start.setup.types (word_at now.memory.blocks) p).destructor e))
        (λ p t. let part = filter-part (λ q. (info_at start.setup.types (word_at now.memory.blocks) q).destructor) dead p t in
        let j = l.just p part.0 in (j.0, and_both (not (is_lasting (pinned_places start) p)) (info_at start.setup.types (word_at now.memory.blocks) p).destructor (ap not j.1) part.1))

    -- a weak object that stays has lost its target
    target-lost : (p : ℕ) → IsTrue (is_in p placing.places)
        → target_passes (vanishes store (λ z. is_in z placing.found)) (object_from start.setup.types placing.name (word_at now.memory.blocks) p).target
        ≡ (is_weak_at start.setup.types (word_at now.memory.blocks) p && loses_target start.setup.types (word_at now.memory.blocks) (pinned_places start) p)
    target-lost p t =
        let target : Option ℕ = renamed placing.name (word_at now.memory.blocks (layout_at start.setup.types (word_at now.memory.blocks) p).ref_start) in
        ap (target_passes (vanishes store (λ z. is_in z placing.found))) (target-at start.setup.types placing.name (word_at now.memory.blocks) p)
        ∙ (passes-by-shape (info_at start.setup.types (word_at now.memory.blocks) p).shape (vanishes store (λ z. is_in z placing.found)) target
        ∙ by-weak (is_weak_at start.setup.types (word_at now.memory.blocks) p) (target_passes (vanishes store (λ z. is_in z placing.found)) target)
        (loses_target start.setup.types (word_at now.memory.blocks) (pinned_places start) p) (target-gone p t))
      where
        by-weak : (weak a b : Bool) → (weak ≡ true → a ≡ b) → (weak && a) ≡ (weak && b)
        by-weak true a b same = same refl
        by-weak false a b same = refl

    abbrev clears : ℕ → Bool
    clears p = is_lasting (pinned_places start) p && (is_weak_at start.setup.types (word_at now.memory.blocks) p && loses_target start.setup.types (word_at now.memory.blocks) (pinned_places start) p)

    cleared-are : map (λ (o : Object). o.birth) (filter (λ (o : Object). not (vanishes store (λ z. is_in z placing.found) o.birth) && target_passes (vanishes store (λ z. is_in z placing.found)) o.target) store.kept) ≡ cleared
    cleared-are =
        objects_named (λ (o : Object). not (vanishes store (λ z. is_in z placing.found) o.birth) && target_passes (vanishes store (λ z. is_in z placing.found)) o.target)
        (λ p. is_lasting (pinned_places start) p && (is_weak_at start.setup.types (word_at now.memory.blocks) p && loses_target start.setup.types (word_at now.memory.blocks) (pinned_places start) p)) mid.words.objects
        (λ p t. ap₂ (λ (a b : Bool). a && b) (ap not (birth-gone p t) ∙ not-not (is_lasting (pinned_places start) p)) (target-lost p t))
        ∙ births-printed (λ p. is_lasting (pinned_places start) p && (is_weak_at start.setup.types (word_at now.memory.blocks) p && loses_target start.setup.types (word_at now.memory.blocks) (pinned_places start) p))
        (filter (loses_target start.setup.types (word_at now.memory.blocks) (pinned_places start)) (weaks_left (word_at now.memory.blocks) (pinned_places start) start.weaks)) cleared l.cleared_rise l.cleared_are
        (λ p t e.
        let a : Bool = is_lasting (pinned_places start) p in let b : Bool = is_weak_at start.setup.types (word_at now.memory.blocks) p in
        let c : Bool = loses_target start.setup.types (word_at now.memory.blocks) (pinned_places start) p in
        let rest = and_second a (b && c) e in
        filter-member (loses_target start.setup.types (word_at now.memory.blocks) (pinned_places start)) (weaks_left (word_at now.memory.blocks) (pinned_places start) start.weaks) p
        (filter-member (λ q. is_lasting (pinned_places start) q) (map (place_now (word_at now.memory.blocks)) start.weaks) p
        (weak_now mid.words.objects mid.words.moving mid.carried p t (and_first b c rest)) (and_first a (b && c) e)) (and_second b c rest))
        (λ p t.
        let lost = filter-part (loses_target start.setup.types (word_at now.memory.blocks) (pinned_places start)) (weaks_left (word_at now.memory.blocks) (pinned_places start) start.weaks) p t in
        let last = filter-part (λ q. is_lasting (pinned_places start) q) (map (place_now (word_at now.memory.blocks)) start.weaks) p lost.0 in
        let n = named-by (place_now (word_at now.memory.blocks)) p start.weaks last.0 in
        let there = now_place mid.words.objects mid.words.moving n.place (mid.carried.weaks_are.there n.place n.there) in
        let weak : is_weak_at start.setup.types (word_at now.memory.blocks) p ≡ true = ap (is_weak_at start.setup.types (word_at now.memory.blocks)) n.is ∙ weak_was mid.words.objects mid.words.moving mid.carried n.place n.there in (
          subst (λ (k : ℕ). IsTrue (is_in k placing.places)) (sym n.is) there.0,
          and_both (is_lasting (pinned_places start) p) (is_weak_at start.setup.types (word_at now.memory.blocks) p && loses_target start.setup.types (word_at now.memory.blocks) (pinned_places start) p) last.1
              (and_both (is_weak_at start.setup.types (word_at now.memory.blocks) p) (loses_target start.setup.types (word_at now.memory.blocks) (pinned_places start) p) weak lost.1),
        ))

    -- Just the lines of the definition are printed.
    pub lines_told : (gone_at : ℕ → Bool)
        → ((p : ℕ) → IsTrue (is_in p (filter_map (λ (entry : ℕ × Struct). object_of entry.1) now.links.structs)) → vanishes store (λ z. is_in z placing.found) (placing.name p) ≡ gone_at p)
        → MinorDone moved.objects (length dead) ∷ (map (λ b. Cleared b) cleared ++ (map (λ b. Destroyed b) destroyed ++ map (λ cut. LinkCut cut) (link_ends gone_at now.links.structs)))
        ≡ minor_lines store (λ z. is_in z placing.found)
    lines_told gone_at same =
        let cuts : link_ends (vanishes store (λ z. is_in z placing.found)) store.structs ≡ link_ends gone_at now.links.structs =
        ap (link_ends (vanishes store (λ z. is_in z placing.found))) mid.links_are.named ∙ ends_same placing.name gone_at (vanishes store (λ z. is_in z placing.found)) now.links.structs same in
        let some : map (λ (o : Object). Cleared o.birth) (filter (λ (o : Object). not (vanishes store (λ z. is_in z placing.found) o.birth) && target_passes (vanishes store (λ z. is_in z placing.found)) o.target) store.kept)
        ≡ map (λ b. Cleared b) cleared = lines-of (λ b. Cleared b) (filter (λ (o : Object). not (vanishes store (λ z. is_in z placing.found) o.birth) && target_passes (vanishes store (λ z. is_in z placing.found)) o.target) store.kept)
        ∙ ap (map (λ b. Cleared b)) cleared-are in
        let others : map (λ (o : Object). Destroyed o.birth) (filter (λ (o : Object). vanishes store (λ z. is_in z placing.found) o.birth && o.info.destructor) store.kept)
        ≡ map (λ b. Destroyed b) destroyed = lines-of (λ b. Destroyed b) (filter (λ (o : Object). vanishes store (λ z. is_in z placing.found) o.birth && o.info.destructor) store.kept)
        ∙ ap (map (λ b. Destroyed b)) destroyed-are in
        let tail : map (λ b. Cleared b) cleared ++ (map (λ b. Destroyed b) destroyed ++ map (λ cut. LinkCut cut) (link_ends gone_at now.links.structs))
        ≡ map (λ (o : Object). Cleared o.birth) (filter (λ (o : Object). not (vanishes store (λ z. is_in z placing.found) o.birth) && target_passes (vanishes store (λ z. is_in z placing.found)) o.target) store.kept)
        ++ loss_lines store (vanishes store (λ z. is_in z placing.found)) =
        ap₂ (λ (xs ys : List Line). xs ++ ys) (sym some) (ap₂ (λ (xs ys : List Line). xs ++ ys) (sym others) (ap (map (λ (cut : LinkEnd). LinkCut cut)) (sym cuts))) in
        ap₂ (λ (first : Line) (rest : List Line). first ∷ rest) (ap₂ (λ (a b : ℕ). MinorDone a b) (sym settled_count) (sym (dead_count dead l.once l.just l.all))) tail
