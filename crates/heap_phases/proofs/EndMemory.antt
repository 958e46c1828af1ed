-- The memory once targets were cleared: only targets of weak objects that lead to what was not visited change, to nil.
use Rattle.std.proofs.Common.{◌≡◌, ◌≢◌, ℕ, ◌+◌, ◌≤◌, ◌<◌, ◌⊎◌, Bool, true, false, IsTrue, [], map, refl, sym, ap, ap₂, ◌∙◌, subst, inl, inr, arith}
use Rattle.std.specs.Prelude.{not, filter, ◌==◌, ◌&&◌, nat_lt, if◌then◌else◌}
use Rattle.std.proofs.lemmas.Bool.{cases_Bool, ne_eqb}
use Rattle.std.proofs.lemmas.Bool.Decides.{nat_tests, eqb_tells}
use Rattle.type_table.specs.declared.info.TypeInfo.{TypeInfo}
use Rattle.type_table.specs.Table.{Table}
use Rattle.heap_space.specs.Places.{word_at}
use Rattle.heap_space.specs.Memory.{Memory}
use Rattle.heap_space.specs.Extents.{IsOutside, extents_between, begins_between}
use Rattle.object_header.specs.Words.{IsHeader, has_flag}
use Rattle.heap_space.proofs.ExtentLaws.{Each-join}
use Rattle.size_pages.specs.Headers.{IsHeaded}
use Rattle.old_space.specs.Headers.{HasHeaders}
use Rattle.heap_phases.proofs.SweepWords.{each-of-places, each-of-homes}
use Rattle.object_header.specs.declared.flags.Flag.TheVariants.{Free}
use Rattle.object_model.specs.Sets.{is_in}
use Rattle.object_model.specs.Holds.{IsPointer}
use Rattle.object_model.specs.ObjectWords.{updated, words_at, layout_at}
use Rattle.object_view.proofs.WordLaws.{updated-here}
use Rattle.object_view.proofs.LayoutLaws.{laid_out, weak-at}
use Rattle.old_space.specs.HasBlocks.{HasBlocks}
use Rattle.old_space.proofs.JoinLaws.{HasBlocks_untouched}
use Rattle.text_model.specs.declared.line.Phase.TheVariants.{Marking}
use Rattle.store_model.specs.Store.{Store, is_settled}
use Rattle.store_model.specs.Marking.{IsMarked, is_white}
use Rattle.weak_lists.specs.Targets.{ChangesTargets, is_outside, is_unvisited, kept_target, target_at}
use Rattle.heap_parts.specs.Parts.{HeapParts, word_in, home_in}
use Rattle.heap_parts.specs.Places.{is_young, young_places, old_places, block_at, is_weak_at}
use Rattle.heap_parts.specs.OldSpace.{reserved_homes}
use Rattle.heap_parts.specs.StandsFor.{PartsStandFor}
use Rattle.heap_parts.specs.Collects.{AreAllPinned}
use Rattle.frame_laws.proofs.Members.{each-left}
use Rattle.heap_parts.proofs.BlockLaws.{each-member}
use Rattle.frame_laws.proofs.MinorNeeds.{settled_place}
use Rattle.frame_laws.proofs.PlaceLaws.{old-is_in, is_in-young, is_in-old}
use Rattle.frame_laws.proofs.WriteWords.{shadow_first}
use Rattle.heap_phases.proofs.ClearCalls.{weak_there, weak_listed, weak_at, target_pointer}
use Rattle.heap_phases.proofs.EndCode.{clears}
use Rattle.heap_phases.proofs.EndCalls.{marking_blocks, blocks_in_marking}
use Rattle.heap_phases.proofs.PlacePaths.{white_flag}

module _ (heap : HeapParts) (store : Store) (s : PartsStandFor heap store) (pinned : AreAllPinned store) (marked : IsMarked store) (marking : heap.phase ≡ Marking) where
  abbrev types : Table TypeInfo
  types = heap.setup.types

  abbrev w : ℕ → ℕ
  w = word_in heap

  pub small : heap.nursery.words ≤ 1048576
  small = omega (arith, s.made.words, s.made.ranges.1)

  high-outside : (q : ℕ) → is_young q ≡ false → is_outside heap.nursery.words q ≡ true
  high-outside q old = let few = small in grind (arith, nat_tests)

  low-inside : (q : ℕ) → IsTrue (is_in q s.places) → is_young q ≡ true → is_outside heap.nursery.words q ≡ false
  low-inside q t young =
      let inside = s.words.young.inside q (is_in-young s.places q t young) in let size = (laid_out types w q).header in
      let low : q ≤ heap.nursery.words = omega (arith, inside, size) in grind (arith, nat_tests)

  -- of an object, the words tell whether it is white
  pub white_place : (q : ℕ) → IsTrue (is_in q s.places) → is_unvisited heap.nursery.words w q ≡ is_white store (s.name q)
  white_place q t = elim (cases_Bool (is_young q)) [
    | inl young ↦
        let out : is_settled store.settled (s.name q) ≡ false = settled_place heap store s q t ∙ ap not young in
        rw (low-inside q t young, out) refl
    | inr old ↦
        let flag = white_flag heap store s pinned marked marking q (is_in-old s.places q t old) in
        rw (high-outside q old, flag) refl
  ]

  -- of what a target may be, too
  pub white_pointer : (q : ℕ) → IsPointer s.places q → is_unvisited heap.nursery.words w q ≡ (not (q == 0) && is_white store (s.name q))
  white_pointer q is = elim is [
    | inl z ↦ subst (λ (k : ℕ). is_unvisited heap.nursery.words w k ≡ (not (k == 0) && is_white store (s.name k))) (sym z) (nothing heap.nursery.words)
    | inr t ↦ let above = s.words.objects.above q t in white_place q t ∙ sym (ap (λ (b : Bool). not b && is_white store (s.name q)) (ne_eqb q 0 (λ e. absurd (let no : ⊥ = omega (arith, e, above) in no))))
  ]
    where
      nothing : (n : ℕ) → is_unvisited n w 0 ≡ false
      nothing n = let none : nat_lt n 0 ≡ false = grind (arith, nat_tests) in rw none refl

  -- which targets are cleared
  pub clears_is : (p : ℕ) → IsTrue (is_in p s.places) → is_weak_at types w p ≡ true → clears types w s.name (is_white store) p ≡ is_unvisited heap.nursery.words w (target_at types w p)
  clears_is p t weak = ap (λ (b : Bool). b && (not (w (layout_at types w p).ref_start == 0) && is_white store (s.name (w (layout_at types w p).ref_start)))) weak
      ∙ sym (white_pointer (target_at types w p) (target_pointer heap store s p t weak))

  -- the word of a target is one of its object
  target-inside : (q : ℕ) → IsTrue (is_in q heap.weaks) → IsTrue (is_in q s.places) × (q < (layout_at types w q).ref_start) × ((layout_at types w q).ref_start < q + words_at types w q)
  target-inside q t =
      let there = weak_there heap store s q t in
      let one = (weak-at types w q (weak_at heap store s q there.1)).0 in let laid = laid_out types w q in
      (there.0, omega (arith, laid.begins, laid.ordered), omega (arith, laid.pointers, one))

  module _ (m : Memory) (changes : ChangesTargets heap.setup.types (kept_target heap.nursery.words (word_in heap)) heap.memory m heap.weaks) where
    v : ℕ → ℕ
    v = word_at m.blocks

    -- a word of an object that is no target stays
    other-stays : (p b : ℕ) → IsTrue (is_in p s.places) → p ≤ b → b < p + words_at types w p → (is_weak_at types w p ≡ true → b ≢ (layout_at types w p).ref_start) → word_at m.blocks b ≡ w b
    other-stays p b t l r ne = changes.elsewhere b (λ q u e.
        let inside = target-inside q u in
        let low = inside.1 in let high = inside.2 in
        let same : q ≡ p = s.words.objects.apart q p b inside.0 t (omega (arith, e, low), omega (arith, e, high)) (l, r) in
        ne (subst (λ (k : ℕ). is_weak_at types w k ≡ true) same (weak_there heap store s q u).1) (e ∙ ap (λ (k : ℕ). (layout_at types w k).ref_start) same))

    pub first_stays : (p : ℕ) → IsTrue (is_in p s.places) → word_at m.blocks p ≡ w p
    first_stays p t = let laid = laid_out types w p in other-stays p p t (omega arith) (omega (arith, laid.header)) (λ weak e. absurd (let no : ⊥ = omega (arith, e, laid.begins, laid.ordered) in no))

    pub words_end : (p b : ℕ) → IsTrue (is_in p s.places) → p < b → b < p + words_at types w p
        → word_at m.blocks b ≡ (if clears types w s.name (is_white store) p && (b == (layout_at types w p).ref_start) then 0 else w b)
    words_end p b t l r = elim (cases_Bool (is_weak_at types w p)) [
      | inl weak ↦ elim (eqb_tells b (layout_at types w p).ref_start) [
        | inl e ↦
            let at : word_at m.blocks b ≡ kept_target heap.nursery.words w (target_at types w p) = ap (word_at m.blocks) e.1 ∙ changes.written p (weak_listed heap store s p t weak) in
            let test : (clears types w s.name (is_white store) p && (b == (layout_at types w p).ref_start)) ≡ is_unvisited heap.nursery.words w (target_at types w p) =
            ap₂ (λ (x y : Bool). x && y) (clears_is p t weak) e.0 ∙ and-true (is_unvisited heap.nursery.words w (target_at types w p)) in
            at ∙ sym (ap (λ (x : Bool). if x then 0 else w b) test ∙ ap (λ (k : ℕ). if is_unvisited heap.nursery.words w (target_at types w p) then 0 else w k) e.1)
        | inr e ↦ other-stays p b t (omega (arith, l)) r (λ u. e.1) ∙ sym (ap (λ (x : Bool). if x then 0 else w b) (ap (λ (y : Bool). clears types w s.name (is_white store) p && y) e.0 ∙ and-false (clears types w s.name (is_white store) p)))
      ]
      | inr strong ↦
          let none : clears types w s.name (is_white store) p ≡ false = rw strong refl in
          other-stays p b t (omega (arith, l)) r (λ u. absurd (let no : ⊥ = cc in no)) ∙ sym (ap (λ (x : Bool). if x && (b == (layout_at types w p).ref_start) then 0 else w b) none)
    ]
      where
        and-true : (x : Bool) → (x && true) ≡ x
        and-true true = refl
        and-true false = refl

        and-false : (x : Bool) → (x && false) ≡ false
        and-false true = refl
        and-false false = refl

    -- the first words of reserved homes stay
    pub shadow_stays : (a : ℕ) → IsTrue (is_in a (reserved_homes (home_in heap) (young_places s.places))) → word_at m.blocks a ≡ w a
    shadow_stays a t = changes.elsewhere a (λ q u e.
        let inside = target-inside q u in let low = inside.1 in let high = inside.2 in
        let at : ℕ = (layout_at types w q).ref_start in
        let stays : updated w (layout_at types w q).ref_start (w a + 1) a ≡ w a = shadow_first s.words small q inside.0 (layout_at types w q).ref_start (w a + 1) (omega (arith, low)) high a t in
        let here : updated w (layout_at types w q).ref_start (w a + 1) a ≡ w a + 1 = ap (λ (k : ℕ). updated w k (w a + 1) a) (sym e) ∙ updated-here w a (w a + 1) a refl in
        absurd (let no : ⊥ = omega (arith, stays, here) in no))

    -- a place outside the nursery and outside all live blocks is that of no target
    outside-stays : (a : ℕ) → 4294967296 ≤ a → IsOutside (marking_blocks heap store s) a → word_at m.blocks a ≡ w a
    outside-stays a low out = changes.elsewhere a (λ q u e.
        let inside = target-inside q u in let left = inside.1 in let right = inside.2 in
        elim (cases_Bool (is_young q)) [
          | inl young ↦ let few = small in let in_nursery = s.words.young.inside q (is_in-young s.places q inside.0 young) in absurd (let no : ⊥ = omega (arith, e, low, right, in_nursery, few) in no)
          | inr old ↦
              let olds = each-left (λ x. (a < x.0) ⊎ (x.0 + x.1 ≤ a)) (map (block_at types w) (old_places s.places)) _ out in
              elim (each-member (λ x. (a < x.0) ⊎ (x.0 + x.1 ≤ a)) (block_at types w) (old_places s.places) q olds (is_in-old s.places q inside.0 old)) [
                | inl before ↦ absurd (let no : ⊥ = omega (arith, e, before, left) in no)
                | inr behind ↦ absurd (let no : ⊥ = omega (arith, e, behind, right) in no)
              ]
        ])

    pub blocks_stay : HasBlocks heap.old_blocks m (marking_blocks heap store s) []
    blocks_stay = HasBlocks_untouched heap.old_blocks heap.memory m (marking_blocks heap store s) [] (blocks_in_marking heap store s marking)
        (ap (λ (x : Memory). x.next_arena) changes.rest) (ap (λ (x : Memory). x.arena_words) changes.rest) (record {
          blocks = ap (filter (begins_between 4294967296 9223372036854775808)) changes.extents;
          words = λ a l r out. outside-stays a l out;
        })

    pub below_stays : extents_between 0 4294967296 m ≡ extents_between 0 4294967296 heap.memory
    below_stays = ap (filter (begins_between 0 4294967296)) changes.extents

    -- and their first words are headers
    pub heads_stay : HasHeaders heap.old_blocks m (marking_blocks heap store s) []
    heads_stay = record {
      blocks = blocks_stay;
      headed = Each-join (IsHeaded m) (map (block_at types w) (old_places s.places)) _
          (each-of-places (IsHeaded m) (block_at types w) (old_places s.places) (λ p t. let k = (s.headers.settled.each p t).live in
          record { header = subst IsHeader (sym (first_stays p (old-is_in s.places p t).0)) k.header; live = ap (λ (x : ℕ). has_flag x Free) (first_stays p (old-is_in s.places p t).0) ∙ k.not_free }))
          (each-of-homes (IsHeaded m) types w (home_in heap) (young_places s.places) (λ a n t. let k = (s.headers.shadow.each a t).live in
          record { header = subst IsHeader (sym (shadow_stays a t)) k.header; live = ap (λ (x : ℕ). has_flag x Free) (shadow_stays a t) ∙ k.not_free }));
    }
