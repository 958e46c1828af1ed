-- The memory once dying objects were kept: what is saved carries the mark, and nothing else changes.
use Rattle.std.proofs.Common.{◌≡◌, ◌≢◌, ℕ, ◌+◌, ◌≤◌, ◌<◌, ◌⊎◌, Bool, true, false, IsTrue, List, [], ◌∷◌, map, nat_eq, refl, sym, ap, ap₂, ◌∙◌, subst, inl, inr, arith}
use Rattle.std.specs.Prelude.{not, filter, ◌==◌, ◌&&◌, IsSome, if◌then◌else◌}
use Rattle.std.specs.List.{IsDistinct}
use Rattle.std.specs.List.Sorted.{IsPermutation, IsNonDecreasing}
use Rattle.std.proofs.lemmas.Bool.{cases_Bool, ne_eqb}
use Rattle.std.proofs.lemmas.List.{map-id}
use Rattle.std.proofs.lemmas.List.Sorted.{IsPermutation-map, IsPermutation-trans}
use Rattle.type_table.specs.declared.info.TypeInfo.{TypeInfo}
use Rattle.type_table.specs.Table.{Table, value_at}
use Rattle.heap_space.specs.Places.{Placed, word_at, has, with_word, lies_in_one}
use Rattle.heap_space.specs.Memory.{Memory}
use Rattle.heap_space.specs.Extents.{IsOutside, extent_of, begins_between}
use Rattle.heap_space.proofs.Blocks.{has-with_word, word_at-here, word_at-elsewhere, lies-has}
use Rattle.heap_space.proofs.ExtentLaws.{extents-with_word}
use Rattle.object_header.specs.Words.{has_flag, with_flag}
use Rattle.object_header.specs.declared.flags.Flag.TheVariants.{Visited, Order1, Order2}
use Rattle.object_header.proofs.WordLaws.{with_flag-stays}
use Rattle.object_model.specs.Layout.{Layout}
use Rattle.object_model.specs.Sets.{is_in, AreDifferent}
use Rattle.object_model.specs.ObjectWords.{updated, words_at, layout_at, Covers}
use Rattle.object_model.proofs.Members.{and_first, and_second, and_both, false-in, filter-part, filter-member, is_in-cases, is_in-nil, map-same, not-true}
use Rattle.object_view.specs.Views.{HasObject}
use Rattle.object_view.proofs.WordLaws.{updated-here}
use Rattle.object_view.proofs.LayoutLaws.{laid_out}
use Rattle.old_space.specs.HasBlocks.{IsBlock}
use Rattle.old_space.proofs.JoinLaws.{HasBlocks_untouched, HasBlocks-blocks}
use Rattle.finalizer_order.specs.Changes.{visited_at}
use Rattle.finalizer_order.specs.Choosing.{CanChoose, Keeps}
use Rattle.finalizer_order.proofs.Changes.{untouched}
use Rattle.text_model.specs.declared.line.Phase.TheVariants.{Marking}
use Rattle.store_model.specs.Store.{Store, is_settled}
use Rattle.store_model.specs.Reach.{Tells}
use Rattle.store_model.specs.Marking.{IsMarked, IsSaved, is_white, is_condemned}
use Rattle.weak_lists.specs.Targets.{ChangesTargets, kept_target}
use Rattle.heap_parts.specs.Parts.{HeapParts, word_in, home_in}
use Rattle.heap_parts.specs.Places.{is_young, young_places, old_places, block_at}
use Rattle.heap_parts.specs.OldSpace.{reserved_homes}
use Rattle.heap_parts.specs.StandsFor.{PartsStandFor}
use Rattle.heap_parts.specs.Collects.{AreAllPinned}
use Rattle.frame_laws.proofs.Births.{rise-differ}
use Rattle.heap_parts.proofs.BlockLaws.{each-member}
use Rattle.frame_laws.proofs.Members.{each-left}
use Rattle.frame_laws.proofs.MinorNeeds.{settled_place}
use Rattle.frame_laws.proofs.PlaceLaws.{old-is_in, young-is_in, is_in-old}
use Rattle.frame_laws.proofs.WriteWords.{shadow_first}
use Rattle.heap_phases.specs.Ending.{registered_places}
use Rattle.heap_phases.proofs.EndCalls.{MarksEnd, marking_blocks}
use Rattle.heap_phases.proofs.EndCode.{clears}
use Rattle.heap_phases.proofs.EndHeaders.{EndsHeads}
use Rattle.heap_phases.proofs.EndLines.{SortsBirths}
use Rattle.heap_phases.proofs.EndMemory.{small, first_stays, words_end, shadow_stays, blocks_stay, below_stays}
use Rattle.heap_phases.proofs.FinalPaths.{layout_stays, pointer, refs_stay, kept_saved, saved_kept}
use Rattle.heap_phases.proofs.PlacePaths.{white_flag}
use Rattle.object_model.proofs.SameMembers.{same_members, names_differ, part_differs}

pub same-bool : (a b : Bool) → (IsTrue a → IsTrue b) → (IsTrue b → IsTrue a) → a ≡ b
same-bool true b to from = sym (to refl)
same-bool false true to from = absurd (let t : false ≡ true = from refl in let no : ⊥ = cc in no)
same-bool false false to from = refl

extents-visited : (ps : List ℕ) (bs : List Placed) → map extent_of (visited_at ps bs) ≡ map extent_of bs
extents-visited [] bs = refl
extents-visited (p ∷ ps) bs = extents-visited ps (with_word bs p (with_flag (word_at bs p) Visited)) ∙ extents-with_word bs p (with_flag (word_at bs p) Visited)

visited-here : (ps : List ℕ) (bs : List Placed) (a : ℕ) → AreDifferent ps → IsTrue (is_in a ps) → has bs a ≡ true → word_at (visited_at ps bs) a ≡ with_flag (word_at bs a) Visited
visited-here [] bs a d t h = absurd (is_in-nil a t)
visited-here (p ∷ ps) bs a d t h = elim (is_in-cases a p ps t) [
  | inl e ↦
      untouched (λ word. with_flag word Visited) ps (with_word bs p (with_flag (word_at bs p) Visited)) a (ap (λ (k : ℕ). is_in k ps) e ∙ d.0)
      ∙ (ap (word_at (with_word bs p (with_flag (word_at bs p) Visited))) e
      ∙ (word_at-here bs p (with_flag (word_at bs p) Visited) (ap (has bs) (sym e) ∙ h) ∙ ap (λ (k : ℕ). with_flag (word_at bs k) Visited) (sym e)))
  | inr u ↦
      let other : a ≢ p = λ e. let yes : is_in p ps ≡ true = subst (λ (k : ℕ). IsTrue (is_in k ps)) e u in let none = d.0 in let no : ⊥ = cc in no in
      visited-here ps (with_word bs p (with_flag (word_at bs p) Visited)) a d.1 u (has-with_word bs p (with_flag (word_at bs p) Visited) a ∙ h)
      ∙ ap (λ (k : ℕ). with_flag k Visited) (word_at-elsewhere bs p (with_flag (word_at bs p) Visited) a other)
]

module _ (heap : HeapParts) (store : Store) (s : PartsStandFor heap store) (pinned : AreAllPinned store) (marked : IsMarked store) (marking : heap.phase ≡ Marking)
    (m : Memory) (changes : ChangesTargets heap.setup.types (kept_target heap.nursery.words (word_in heap)) heap.memory m heap.weaks) where
  abbrev types : Table TypeInfo
  types = heap.setup.types

  abbrev w : ℕ → ℕ
  w = word_in heap

  block-of : (p : ℕ) → IsTrue (is_in p (old_places s.places)) → IsBlock m (block_at heap.setup.types (word_in heap) p)
  block-of p t = each-member (IsBlock m) (block_at heap.setup.types (word_in heap)) (old_places s.places) p
      (each-left (IsBlock m) (map (block_at heap.setup.types (word_in heap)) (old_places s.places)) _
      (HasBlocks-blocks heap.old_blocks m _ [] (blocks_stay heap store s pinned marked marking m changes))) t

  object-stays : (p : ℕ) → IsTrue (is_in p (old_places s.places)) → HasObject m heap.setup.types p
  object-stays p t =
      let there = (old-is_in s.places p t).0 in let keeps = layout_stays heap store s pinned marked marking m changes p there in
      record {
        typed = subst (λ (id : ℕ). IsSome (value_at types id)) (sym keeps.type_stays) (s.words.whole p there).typed;
        whole = subst (λ (n : ℕ). IsTrue (lies_in_one m.blocks p n)) (sym (ap (λ (x : Layout). x.words) keeps.layout_stays)) (block-of p t).lies;
      }

  has-first : (p : ℕ) → IsTrue (is_in p (old_places s.places)) → has m.blocks p ≡ true
  has-first p t = let laid = laid_out types w p in lies-has m.blocks p (words_at types w p) (omega (arith, laid.header)) (block-of p t).lies

  old-above : (p : ℕ) → IsTrue (is_in p s.places) → heap.nursery.words < p → is_young p ≡ false
  old-above p t high = elim (cases_Bool (is_young p)) [
    | inl young ↦ absurd (
        let inside = s.words.young.inside p (is_in-young' p t young) in let size = (laid_out types w p).header in
        let no : ⊥ = omega (arith, inside, size, high) in no)
    | inr old ↦ old
  ]
    where
      is_in-young' : (p : ℕ) → IsTrue (is_in p s.places) → is_young p ≡ true → IsTrue (is_in p (young_places s.places))
      is_in-young' p t e = filter-member is_young s.places p t e

  first : (p : ℕ) → IsTrue (is_in p (old_places s.places)) → word_at m.blocks p ≡ w p
  first p t = first_stays heap store s pinned marked marking m changes p (old-is_in s.places p t).0

  -- what may be asked to choose
  pub can_choose : CanChoose m heap.setup.types heap.nursery.words (registered_places heap)
  can_choose = record {
    whole = record {
      places = old_places s.places;
      whole = object-stays;
      apart = λ p q at t u a b. s.words.objects.apart p q at (old-is_in s.places p t).0 (old-is_in s.places q u).0 (covers p at t a) (covers q at u b);
      started = λ p t high. let there = s.finalizers.registered_are.there p t in is_in-old s.places p there (old-above p there high);
      closed = λ p q t u high.
          let there = (old-is_in s.places p t).0 in
          elim (pointer heap store s pinned marked marking m changes p q there (subst (λ (xs : List ℕ). IsTrue (is_in q xs)) (refs_stay heap store s pinned marked marking m changes p there) u)) [
            | inl z ↦ absurd (let no : ⊥ = omega (arith, z, high) in no)
            | inr at ↦ is_in-old s.places q at (old-above q at high)
          ];
    };
    clear1 = λ p t. ap (λ (k : ℕ). has_flag k Order1) (first p t) ∙ (s.headers.settled.each p t).live.not_order1;
    clear2 = λ p t. ap (λ (k : ℕ). has_flag k Order2) (first p t) ∙ (s.headers.settled.each p t).live.not_order2;
  }
    where
      covers : (p at : ℕ) → IsTrue (is_in p (old_places s.places)) → Covers types (word_at m.blocks) p at → Covers types w p at
      covers p at t c = (c.0, subst (λ (n : ℕ). at < p + n) (ap (λ (x : Layout). x.words) (layout_stays heap store s pinned marked marking m changes p (old-is_in s.places p t).0).layout_stays) c.1)

  module _ (saved : ℕ → Bool) (tells : Tells saved (IsSaved store)) (n : Memory) (births : List ℕ) (k : Keeps heap.setup.types heap.nursery.words (registered_places heap) m n [] births) where
    abbrev gone : ℕ → Bool
    gone = is_condemned store saved

    differ : AreDifferent k.places
    differ = names_differ (λ x. x) k.places (subst (λ (xs : List ℕ). IsDistinct nat_eq xs) (sym (map-id k.places)) k.once)

    kept_is : (q : ℕ) → IsTrue (is_in q (old_places s.places)) → is_in q k.places ≡ (is_white store (s.name q) && saved (s.name q))
    kept_is q t = same-bool (is_in q k.places) (is_white store (s.name q) && saved (s.name q))
        (λ u. let z = kept_saved heap store s pinned marked marking m changes q ((k.just q).0 u) in and_both (is_white store (s.name q)) (saved (s.name q)) z.1 ((tells (s.name q)).1 z.2))
        (λ u. (k.just q).1 (saved_kept heap store s pinned marked marking m changes q t (and_first (is_white store (s.name q)) (saved (s.name q)) u) ((tells (s.name q)).0 (and_second (is_white store (s.name q)) (saved (s.name q)) u))))

    kept_old : (q : ℕ) → IsTrue (is_in q k.places) → IsTrue (is_in q (old_places s.places))
    kept_old q u = (kept_saved heap store s pinned marked marking m changes q ((k.just q).0 u)).0

    -- a word that is no first word of what is kept stays
    word-stays : (a : ℕ) → (IsTrue (is_in a (old_places s.places)) → is_in a k.places ≡ false) → word_at n.blocks a ≡ word_at m.blocks a
    word-stays a out =
        let none : is_in a k.places ≡ false = false-in a k.places (λ u. let yes : is_in a k.places ≡ true = u in let f = out (kept_old a u) in let no : ⊥ = cc in no) in
        ap (λ (x : Memory). word_at x.blocks a) k.visited ∙ untouched (λ word. with_flag word Visited) k.places m.blocks a none

    first-marked : (p : ℕ) → IsTrue (is_in p (old_places s.places)) → IsTrue (is_in p k.places) → word_at n.blocks p ≡ with_flag (w p) Visited
    first-marked p t u = ap (λ (x : Memory). word_at x.blocks p) k.visited ∙ (visited-here k.places m.blocks p differ u (has-first p t) ∙ ap (λ (x : ℕ). with_flag x Visited) (first p t))

    heads : EndsHeads (word_at n.blocks) (word_in heap) (home_in heap) (is_condemned store saved) s.name s.places
    heads = record {
      marked = λ p t stays. elim (cases_Bool (is_white store (s.name p))) [
        | inl white ↦
            let is_saved : saved (s.name p) ≡ true = saves (is_white store (s.name p)) (saved (s.name p)) white stays in
            first-marked p t (kept_is p t ∙ ap₂ (λ (x y : Bool). x && y) white is_saved)
        | inr black ↦
            let flag : has_flag (w p) Visited ≡ true = carries (has_flag (w p) Visited) (sym (white_flag heap store s pinned marked marking p t) ∙ black) in
            word-stays p (λ u. kept_is p t ∙ ap (λ (x : Bool). x && saved (s.name p)) black) ∙ (first p t ∙ sym (with_flag-stays (w p) Visited flag))
      ];
      lost = λ p t lost. word-stays p (λ u. kept_is p t ∙ loses (is_white store (s.name p)) (saved (s.name p)) lost) ∙ first p t;
      young = λ p t. word-stays p (λ u. absurd (let a = (young-is_in s.places p t).1 in let b = (old-is_in s.places p u).1 in let no : ⊥ = cc in no))
          ∙ first_stays heap store s pinned marked marking m changes p (young-is_in s.places p t).0;
      shadow = λ a t. word-stays a (λ u. absurd (not-shadow a t u)) ∙ shadow_stays heap store s pinned marked marking m changes a t;
    }
      where
        saves : (x y : Bool) → x ≡ true → (x && not y) ≡ false → y ≡ true
        saves x true e f = refl
        saves x false e f = absurd (let both : (x && not false) ≡ true = ap (λ (b : Bool). b && true) e in let no : ⊥ = cc in no)

        carries : (x : Bool) → not x ≡ false → x ≡ true
        carries true e = refl
        carries false e = absurd (let no : ⊥ = cc in no)

        loses : (x y : Bool) → (x && not y) ≡ true → (x && y) ≡ false
        loses true true e = absurd (let no : ⊥ = cc in no)
        loses true false e = refl
        loses false y e = refl

        not-shadow : (a : ℕ) → IsTrue (is_in a (reserved_homes (home_in heap) (young_places s.places))) → IsTrue (is_in a (old_places s.places)) → ⊥
        not-shadow a t u =
            let there = (old-is_in s.places a u).0 in let laid = laid_out types w a in
            let stays : updated w a (w a + 1) a ≡ w a = shadow_first s.words (small heap store s pinned marked marking) a there a (w a + 1) (omega arith) (omega (arith, laid.header)) a t in
            let here : updated w a (w a + 1) a ≡ w a + 1 = updated-here w a (w a + 1) a refl in
            let no : ⊥ = omega (arith, stays, here) in no

    words : (p b : ℕ) → IsTrue (is_in p s.places) → p < b → b < p + words_at types w p
        → word_at n.blocks b ≡ (if clears types w s.name (is_white store) p && (b == (layout_at types w p).ref_start) then 0 else w b)
    words p b t l r = word-stays b (λ u. absurd (
        let laid = laid_out types w b in
        let same : p ≡ b = s.words.objects.apart p b b t (old-is_in s.places b u).0 (omega (arith, l), r) (omega arith, omega (arith, laid.header)) in
        let no : ⊥ = omega (arith, same, l) in no))
        ∙ words_end heap store s pinned marked marking m changes p b t l r

    extents : map extent_of n.blocks ≡ map extent_of m.blocks
    extents = ap (λ (x : Memory). map extent_of x.blocks) k.visited ∙ extents-visited k.places m.blocks

    pub marks_end : MarksEnd heap store s saved n
    marks_end = record {
      blocks = HasBlocks_untouched heap.old_blocks m n (marking_blocks heap store s) [] (blocks_stay heap store s pinned marked marking m changes)
          (ap (λ (x : Memory). x.next_arena) k.visited) (ap (λ (x : Memory). x.arena_words) k.visited) (record {
            blocks = ap (filter (begins_between 4294967296 9223372036854775808)) extents;
            words = λ a l r out. word-stays a (λ u. absurd (inside-one a u out));
          });
      below = ap (filter (begins_between 0 4294967296)) extents ∙ below_stays heap store s pinned marked marking m changes;
      arena_words = ap (λ (x : Memory). x.arena_words) k.visited ∙ ap (λ (x : Memory). x.arena_words) changes.rest;
      heads = heads;
      words = words;
    }
      where
        inside-one : (a : ℕ) → IsTrue (is_in a (old_places s.places)) → IsOutside (marking_blocks heap store s) a → ⊥
        inside-one a u out =
            let laid = laid_out types w a in
            let olds = each-left (λ x. (a < x.0) ⊎ (x.0 + x.1 ≤ a)) (map (block_at types w) (old_places s.places)) _ out in
            elim (each-member (λ x. (a < x.0) ⊎ (x.0 + x.1 ≤ a)) (block_at types w) (old_places s.places) a olds u) [
              | inl before ↦ omega (arith, before)
              | inr behind ↦ omega (arith, behind, laid.header)
            ]

    birth-stays : (p : ℕ) → IsTrue (is_in p s.places) → word_at m.blocks (p + 1) ≡ w (p + 1)
    birth-stays p t =
        let laid = laid_out types w p in
        let out : ((p + 1) == (layout_at types w p).ref_start) ≡ false = ne_eqb (p + 1) (layout_at types w p).ref_start (λ e. absurd (let no : ⊥ = omega (arith, e, laid.begins, laid.ordered) in no)) in
        words_end heap store s pinned marked marking m changes p (p + 1) t (omega arith) (omega (arith, laid.header))
        ∙ ap (λ (b : Bool). if b then 0 else w (p + 1)) (ap (λ (b : Bool). clears types w s.name (is_white store) p && b) out ∙ and-false (clears types w s.name (is_white store) p))
      where
        and-false : (b : Bool) → (b && false) ≡ false
        and-false true = refl
        and-false false = refl

    white-old : (q : ℕ) → IsTrue (is_in q s.places) → is_white store (s.name q) ≡ true → is_young q ≡ false
    white-old q t white = not-true (is_young q) (sym (settled_place heap store s q t) ∙ and_first (is_settled store.settled (s.name q)) (not (is_in (s.name q) store.visited)) white)

    abbrev keeps : ℕ → Bool
    keeps p = is_white store (s.name p) && saved (s.name p)

    -- what is told as kept
    pub kept_told : SortsBirths (word_in heap) (filter (λ p. is_white store (s.name p) && saved (s.name p)) s.places) births
    kept_told =
        let places-differ : AreDifferent s.places = names_differ s.name s.places (rise-differ 1 heap.next (map s.name s.places) s.births.rise) in
        let same : IsPermutation (filter keeps s.places) k.places = same_members (filter keeps s.places) k.places (part_differs keeps s.places places-differ) differ
        (λ q t. let part = filter-part keeps s.places q t in
        let z = saved_kept heap store s pinned marked marking m changes q (is_in-old s.places q part.0 (white-old q part.0 (and_first (is_white store (s.name q)) (saved (s.name q)) part.1)))
        (and_first (is_white store (s.name q)) (saved (s.name q)) part.1) ((tells (s.name q)).0 (and_second (is_white store (s.name q)) (saved (s.name q)) part.1)) in
        (k.just q).1 z)
        (λ q t. let old = kept_old q t in filter-member keeps s.places q (old-is_in s.places q old).0 (sym (kept_is q old) ∙ t)) in
        let read : map (λ p. word_at m.blocks (p + 1)) k.places ≡ map (λ p. w (p + 1)) k.places =
        map-same (λ p. word_at m.blocks (p + 1)) (λ p. w (p + 1)) k.places (λ p t. birth-stays p (old-is_in s.places p (kept_old p t)).0) in
        record {
          just = IsPermutation-trans _ _ _ (IsPermutation-map (λ p. w (p + 1)) (filter keeps s.places) k.places same) (subst (λ (xs : List ℕ). IsPermutation (map (λ p. w (p + 1)) k.places) xs) (sym k.appended) (subst (λ (xs : List ℕ). IsPermutation xs k.births) read k.told));
          order = subst (λ (xs : List ℕ). IsNonDecreasing xs) (sym k.appended) k.rising;
        }
