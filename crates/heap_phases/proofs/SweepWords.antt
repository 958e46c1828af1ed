-- One unit is swept: words, blocks and husks.
use Rattle.std.proofs.Common.{◌≡◌, ℕ, ◌+◌, ◌≤◌, ◌<◌, ◌⊎◌, Bool, true, false, IsTrue, List, [], ◌∷◌, ◌++◌, map, append-nil, Option, Some, None, refl, sym, ap, ap₂, ◌∙◌, subst, inl, inr, arith}
use Rattle.std.specs.Prelude.{not, ◌==◌, ◌&&◌, ◌||◌, ◌%◌, filter, option_map, if◌then◌else◌, IsSome}
use Rattle.std.specs.List.{cons_option}
use Rattle.std.specs.List.Sorted.{IsPermutation}
use Rattle.std.proofs.lemmas.Bool.{cases_Bool, eq-eqb, ne_eqb}
use Rattle.std.proofs.lemmas.Bool.Decides.{eqb_tells}
use Rattle.std.proofs.lemmas.List.Elements.{filter-append}
use Rattle.type_table.specs.declared.info.TypeInfo.{TypeInfo}
use Rattle.type_table.specs.Table.{Table, value_at}
use Rattle.heap_space.specs.Places.{lies_in_one, word_at}
use Rattle.heap_space.specs.Memory.{Memory}
use Rattle.heap_space.specs.Extents.{Extent, Each, IsInside}
use Rattle.heap_space.proofs.ExtentLaws.{Each-join, Each-map}
use Rattle.nursery_gaps.specs.Nursery.{Layout as NurseryLayout}
use Rattle.object_header.specs.Words.{has_flag, without_flag}
use Rattle.object_header.specs.declared.flags.Flag.TheVariants.{Visited}
use Rattle.object_header.proofs.WordLaws.{type_of-without_flag, IsHeader-without_flag, without_flag-stays}
use Rattle.size_pages.specs.Headers.{IsHeaded}
use Rattle.object_view.proofs.WordLaws.{updated-here, updated-other}
use Rattle.object_model.proofs.Members.{is_in-head, is_in-tail, is_in-cases, map-same, filter-part, filter-agree, in-left, in-right, not-true}
use Rattle.object_view.proofs.LayoutLaws.{KeepsLayout, SameAt, laid_out, keeps-same, info_at-same, object_from-same}
use Rattle.object_view.proofs.FrameLaws.{keeps-header, header-same, same_hold}
use Rattle.old_space.specs.HasBlocks.{HasBlocks, IsBlock}
use Rattle.old_space.specs.Sweeping.{SweepsLowest, SweepsUnit, in_unit, dies, kept_blocks, dead_blocks, swept_word}
use Rattle.old_space.specs.declared.Old.{Old}
use Rattle.old_space.proofs.JoinLaws.{HasBlocks-blocks}
use Rattle.old_space.proofs.SweepLaws.{filter-all, filter-none}
use Rattle.object_model.specs.Layout.{Layout}
use Rattle.object_model.specs.Object.{Object}
use Rattle.object_model.specs.Sets.{is_in}
use Rattle.object_model.specs.Shapes.{is_weak_shape}
use Rattle.object_model.specs.ObjectWords.{updated, words_at, layout_at, object_from}
use Rattle.object_model.specs.Holds.{HoldsObjects, IsPointer}
use Rattle.heap_parts.specs.Places.{is_young, young_places, old_places, block_at, is_weak_at, AreWhole}
use Rattle.heap_parts.specs.Nursery.{HoldsNursery, AreWalks, walked}
use Rattle.heap_parts.specs.OldSpace.{reserved_blocks, reserved_homes, blocks_of, husk_at, HoldsHusks, unit_at, is_waiting}
use Rattle.heap_parts.specs.StandsFor.{HoldsWords, HoldsHeaders}
use Rattle.frame_laws.proofs.Members.{each-left, each-right}
use Rattle.frame_laws.proofs.PlaceLaws.{young-is_in, old-is_in, is_in-old, is_in-young}
use Rattle.heap_parts.proofs.BlockLaws.{each-member, lies-kept}
use Rattle.heap_parts.proofs.SameLayouts.{SameLayouts, walk-same}
use Rattle.frame_laws.proofs.KeepWords.{SameObjects, blocks_same}
use Rattle.nursery_gaps.specs.Ranges.{Range}
use Rattle.std.proofs.lemmas.List.Sorted.{list_any-IsPermutation}
use Rattle.frame_laws.proofs.Filters.{filter_at}
use Rattle.frame_laws.proofs.WriteWords.{each-reserved, each-both}

pub each-of-places : (P : Extent → Type 0) (f : ℕ → Extent) (ps : List ℕ) → ((p : ℕ) → IsTrue (is_in p ps) → P (f p)) → Each P (map f ps)
each-of-places P f [] all = tt
each-of-places P f (p ∷ ps) all = (all p (is_in-head p ps), each-of-places P f ps (λ q t. all q (is_in-tail q p ps t)))

pub each-of-homes : (P : Extent → Type 0) (types : Table TypeInfo) (w : ℕ → ℕ) (home : ℕ → Option ℕ) (young : List ℕ)
    → ((a n : ℕ) → IsTrue (is_in a (reserved_homes home young)) → P (a, n)) → Each P (reserved_blocks types w home young ++ [])
each-of-homes P types w home [] all = tt
each-of-homes P types w home (p ∷ young) all = go (home p) (λ more. each-of-homes P types w home young more) all
  where
    go : (o : Option ℕ) → (((a n : ℕ) → IsTrue (is_in a (reserved_homes home young)) → P (a, n)) → Each P (reserved_blocks types w home young ++ []))
        → ((a n : ℕ) → IsTrue (is_in a (cons_option o (reserved_homes home young))) → P (a, n)) → Each P (cons_option (option_map (λ (at : ℕ). (at, words_at types w p)) o) (reserved_blocks types w home young) ++ [])
    go None more all = more all
    go (Some at) more all = (all at (words_at types w p) (is_in-head at (reserved_homes home young)), more (λ a n t. all a n (is_in-tail a at (reserved_homes home young) t)))

-- husks that are in another unit
abbrev pub other_husks : ℕ → ℕ → List ℕ → List ℕ
other_husks page unit husks = filter (λ p. not (unit_at page p == unit)) husks

pub or_later : (a b : Bool) → a ≡ false → (a || b) ≡ b
or_later true b e = absurd (let no : ⊥ = cc in no)
or_later false b e = refl

module _ {types : Table TypeInfo} {page : ℕ} {m after : Memory} {nursery : NurseryLayout} {old new : Old} {home : ℕ → Option ℕ} {weaks : List ℕ}
    {kept : List Object} {stored : List (ℕ × ℕ)} {places husks births : List ℕ} {unit : ℕ} {rest : List ℕ} {name : ℕ → ℕ}
    (h : HoldsWords types page m nursery old home weaks [] kept stored places husks (unit ∷ rest) name)
    (heads : HoldsHeaders (word_at m.blocks) home places husks)
    (visited : (p : ℕ) → IsTrue (is_in p (old_places places)) → has_flag (word_at m.blocks p) Visited ≡ is_waiting page (unit ∷ rest) p)
    (units : Each (λ x. in_unit old unit x ≡ (unit_at page x.0 == unit)) (blocks_of types (word_at m.blocks) home (young_places places) (old_places places) husks []))
    (step : SweepsLowest old m new after births) where
  B : ℕ → Extent
  B = block_at types (word_at m.blocks)

  abbrev O : List Extent
  O = map (block_at types (word_at m.blocks)) (old_places places)

  abbrev R : List Extent
  R = reserved_blocks types (word_at m.blocks) home (young_places places) ++ []

  abbrev live : List Extent
  live = blocks_of types (word_at m.blocks) home (young_places places) (old_places places) husks []

  headed : Each (IsHeaded m) live
  headed = Each-join (IsHeaded m) O _ (each-of-places (IsHeaded m) (block_at types (word_at m.blocks)) (old_places places) (λ p t. let k = (heads.settled.each p t).live in record { header = k.header; live = k.not_free }))
      (Each-join (IsHeaded m) (map (block_at types (word_at m.blocks)) husks) R
      (each-of-places (IsHeaded m) (block_at types (word_at m.blocks)) husks (λ p t. let k = (heads.husk.each p t).settled.live in record { header = k.header; live = k.not_free }))
      (each-of-homes (IsHeaded m) types (word_at m.blocks) home (young_places places) (λ a n t. let k = (heads.shadow.each a t).live in record { header = k.header; live = k.not_free })))

  pub swept : SweepsUnit old m new after births live unit rest
  swept = step.lowest live unit rest (record { blocks = h.blocks; headed = headed })

  unit-of : (p : ℕ) → IsTrue (is_in p (old_places places)) → in_unit old unit (block_at types (word_at m.blocks) p) ≡ (unit_at page p == unit)
  unit-of p t = each-member (λ x. in_unit old unit x ≡ (unit_at page x.0 == unit)) (block_at types (word_at m.blocks)) (old_places places) p (each-left _ O _ units) t

  husk-unit : (p : ℕ) → IsTrue (is_in p husks) → in_unit old unit (block_at types (word_at m.blocks) p) ≡ (unit_at page p == unit)
  husk-unit p t = each-member (λ x. in_unit old unit x ≡ (unit_at page x.0 == unit)) (block_at types (word_at m.blocks)) husks p
      (each-left _ (map (block_at types (word_at m.blocks)) husks) R (each-right _ O _ units)) t

  -- a settled object in the unit was visited
  pub here_visited : (p : ℕ) → IsTrue (is_in p (old_places places)) → (unit_at page p == unit) ≡ true → has_flag (word_at m.blocks p) Visited ≡ true
  here_visited p t e = visited p t ∙ (elim (eqb_tells (unit_at page p) unit) [
    | inl is ↦ subst (λ (u : ℕ). IsTrue (is_in u (unit ∷ rest))) (sym is.1) (is_in-head unit rest)
    | inr other ↦ absurd (let no : ⊥ = cc in no)
  ])

  settled-stays : (p : ℕ) → IsTrue (is_in p (old_places places)) → dies old m unit (block_at types (word_at m.blocks) p) ≡ false
  settled-stays p t = elim (cases_Bool (unit_at page p == unit)) [
    | inl e ↦ rw (unit-of p t, e, here_visited p t e) refl
    | inr e ↦ rw (unit-of p t, e) refl
  ]

  husk-dies : (p : ℕ) → IsTrue (is_in p husks) → dies old m unit (block_at types (word_at m.blocks) p) ≡ (unit_at page p == unit)
  husk-dies p t = let k = heads.husk.each p t in rw (husk-unit p t, k.not_visited, k.settled.not_shadow) (and-true (unit_at page p == unit))
    where
      and-true : (b : Bool) → (b && true) ≡ b
      and-true true = refl
      and-true false = refl

  shadow-stays : (a n : ℕ) → IsTrue (is_in a (reserved_homes home (young_places places))) → dies old m unit (a, n) ≡ false
  shadow-stays a n t = let k = heads.shadow.each a t in rw (k.not_visited, k.shadow) (and-false (in_unit old unit (a, n)))
    where
      and-false : (b : Bool) → (b && false) ≡ false
      and-false true = refl
      and-false false = refl

  -- what stays are the blocks of all but the husks of the unit
  pub stays_are : kept_blocks old m unit live ≡ O ++ (map (block_at types (word_at m.blocks)) (other_husks page unit husks) ++ R)
  stays_are =
      let keep : Extent → Bool = λ x. not (dies old m unit x) in
      filter-append keep O (map (block_at types (word_at m.blocks)) husks ++ R)
      ∙ ap₂ (λ (xs ys : List Extent). xs ++ ys)
      (filter-all keep O (each-of-places (λ x. not (dies old m unit x) ≡ true) (block_at types (word_at m.blocks)) (old_places places) (λ p t. ap not (settled-stays p t))))
      (filter-append keep (map (block_at types (word_at m.blocks)) husks) R
      ∙ ap₂ (λ (xs ys : List Extent). xs ++ ys)
      (filter_at (block_at types (word_at m.blocks)) keep (λ p. not (unit_at page p == unit)) husks (λ p t. ap not (husk-dies p t)))
      (filter-all keep R (each-of-homes (λ x. not (dies old m unit x) ≡ true) types (word_at m.blocks) home (young_places places) (λ a n t. ap not (shadow-stays a n t)))))

  stay-words : Each (λ x. (a : ℕ) → IsInside x a → word_at after.blocks a ≡ swept_word old m unit x a) (O ++ (map (block_at types (word_at m.blocks)) (other_husks page unit husks) ++ R))
  stay-words = subst (λ (xs : List Extent). Each (λ x. (a : ℕ) → IsInside x a → word_at after.blocks a ≡ swept_word old m unit x a) xs) stays_are swept.words

  -- the first word of a settled object afterwards
  abbrev pub first_after : ℕ → ℕ
  first_after p = if (unit_at page p == unit) then without_flag (word_at m.blocks p) Visited else word_at m.blocks p

  word-of : (p a : ℕ) → IsTrue (is_in p (old_places places)) → IsInside (block_at types (word_at m.blocks) p) a
      → word_at after.blocks a ≡ swept_word old m unit (block_at types (word_at m.blocks) p) a
  word-of p a t inside = each-member (λ x. (a : ℕ) → IsInside x a → word_at after.blocks a ≡ swept_word old m unit x a) (block_at types (word_at m.blocks)) (old_places places) p
      (each-left _ O _ stay-words) t a inside

  pub first_is : (p : ℕ) → IsTrue (is_in p (old_places places)) → word_at after.blocks p ≡ first_after p
  first_is p t =
      let size = (laid_out types (word_at m.blocks) p).header in
      word-of p p t (omega arith, omega (arith, size)) ∙ (elim (cases_Bool (unit_at page p == unit)) [
        | inl e ↦ rw (unit-of p t, e, eq-eqb p p refl) refl
        | inr e ↦ rw (unit-of p t, e) refl
      ])

  keeps-first : (p : ℕ) → IsTrue (is_in p places) → KeepsLayout types (updated (word_at m.blocks) p (first_after p)) (word_at m.blocks) p
  keeps-first p t =
      let few = h.objects.header p t in
      keeps-header types (word_at m.blocks) p (first_after p) (same-type few) (few-after few)
    where
      same-type : word_at m.blocks p < 67108864 → first_after p % 65536 ≡ word_at m.blocks p % 65536
      same-type few = elim (cases_Bool (unit_at page p == unit)) [ inl e ↦ rw e (type_of-without_flag (word_at m.blocks p) Visited) | inr e ↦ rw e refl ]

      few-after : word_at m.blocks p < 67108864 → first_after p < 67108864
      few-after few = elim (cases_Bool (unit_at page p == unit)) [ inl e ↦ rw e (IsHeader-without_flag (word_at m.blocks p) Visited few) | inr e ↦ rw e few ]

  swept-other : (x : Extent) (b : ℕ) → (b == x.0) ≡ false → swept_word old m unit x b ≡ word_at m.blocks b
  swept-other x b e = go (in_unit old unit x) refl
    where
      go : (c : Bool) → in_unit old unit x ≡ c → swept_word old m unit x b ≡ word_at m.blocks b
      go true c = rw (c, e) refl
      go false c = rw c refl

  old-same : (p : ℕ) → IsTrue (is_in p (old_places places)) → SameAt types (word_at after.blocks) (updated (word_at m.blocks) p (first_after p)) p
  old-same p t =
      let size : words_at types (updated (word_at m.blocks) p (first_after p)) p ≡ words_at types (word_at m.blocks) p = ap (λ (l : Layout). l.words) (keeps-first p (old-is_in places p t).0).layout_stays in
      record {
        same = λ b l r. elim (eqb_tells b p) [
          | inl e ↦ ap (word_at after.blocks) e.1 ∙ (first_is p t ∙ sym (updated-here (word_at m.blocks) p (first_after p) b e.1))
          | inr other ↦ word-of p b t (l, omega (arith, r, size))
              ∙ (swept-other (block_at types (word_at m.blocks) p) b other.0 ∙ sym (updated-other (word_at m.blocks) p (first_after p) b other.1))
        ];
      }

  -- below the arenas nothing changes
  pub low_same : (a : ℕ) → a < 4294967296 → word_at after.blocks a ≡ word_at m.blocks a
  low_same a l = step.outside.below.words a (omega arith) l tt

  young-same : (small : nursery.words ≤ 1048576) (p : ℕ) → IsTrue (is_in p (young_places places)) → SameAt types (word_at after.blocks) (word_at m.blocks) p
  young-same small p t = let inside = h.young.inside p t in record { same = λ b l r. low_same b (omega (arith, inside, r, small)) }

  kind-of : (p : ℕ) → IsTrue (is_in p places) → IsTrue (is_in p (young_places places)) ⊎ IsTrue (is_in p (old_places places))
  kind-of p t = elim (cases_Bool (is_young p)) [ inl e ↦ inl (is_in-young places p t e) | inr e ↦ inr (is_in-old places p t e) ]

  pub swept_layouts : (small : nursery.words ≤ 1048576) → SameLayouts types (word_at after.blocks) (word_at m.blocks) places
  swept_layouts small p t = elim (kind-of p t) [
    | inl young ↦ keeps-same types (word_at after.blocks) (word_at m.blocks) p (young-same small p young)
    | inr old ↦
        let mid = keeps-same types (word_at after.blocks) (updated (word_at m.blocks) p (first_after p)) p (old-same p old) in
        let first = keeps-first p t in
        record {
          type_stays = mid.type_stays ∙ first.type_stays;
          header = λ l. mid.header (first.header l);
          birth_stays = mid.birth_stays ∙ first.birth_stays;
          layout_stays = mid.layout_stays ∙ first.layout_stays;
        }
  ]

  swept-read : (small : nursery.words ≤ 1048576) (p : ℕ) → IsTrue (is_in p places) → object_from types name (word_at after.blocks) p ≡ object_from types name (word_at m.blocks) p
  swept-read small p t = elim (kind-of p t) [
    | inl young ↦ object_from-same types name (word_at after.blocks) (word_at m.blocks) p (young-same small p young)
    | inr old ↦
        let few = h.objects.header p t in
        object_from-same types name (word_at after.blocks) (updated (word_at m.blocks) p (first_after p)) p (old-same p old)
        ∙ header-same types name (word_at m.blocks) p (first_after p) (type-after p) (few-after p few)
  ]
    where
      type-after : (p : ℕ) → first_after p % 65536 ≡ word_at m.blocks p % 65536
      type-after p = elim (cases_Bool (unit_at page p == unit)) [ inl e ↦ rw e (type_of-without_flag (word_at m.blocks p) Visited) | inr e ↦ rw e refl ]

      few-after : (p : ℕ) → word_at m.blocks p < 67108864 → first_after p < 67108864
      few-after p few = elim (cases_Bool (unit_at page p == unit)) [ inl e ↦ rw e (IsHeader-without_flag (word_at m.blocks p) Visited few) | inr e ↦ rw e few ]

  swept-closed : (small : nursery.words ≤ 1048576) (p j : ℕ) → IsTrue (is_in p places) → j < (layout_at types (word_at m.blocks) p).pointer_count
      → IsPointer places (word_at after.blocks ((layout_at types (word_at m.blocks) p).ref_start + j))
  swept-closed small p j t l =
      let laid = laid_out types (word_at m.blocks) p in
      let at : ℕ = (layout_at types (word_at m.blocks) p).ref_start + j in
      let same : word_at after.blocks at ≡ word_at m.blocks at = elim (kind-of p t) [
        | inl young ↦ (young-same small p young).same at (omega (arith, laid.begins, laid.ordered)) (omega (arith, laid.pointers, l))
        | inr old ↦ word-of p at old (omega (arith, laid.begins, laid.ordered), omega (arith, laid.pointers, l))
            ∙ swept-other (block_at types (word_at m.blocks) p) at (ne_eqb at p (λ e. absurd (let no : ⊥ = omega (arith, e, laid.begins, laid.ordered) in no)))
      ] in
      subst (λ (k : ℕ). IsPointer places k) (sym same) (h.objects.closed p j t l)

  swept-objects : (small : nursery.words ≤ 1048576) → HoldsObjects types (word_at after.blocks) places places name kept
  swept-objects small = same_hold (word_at after.blocks) h.objects (swept_layouts small) (swept-read small) (swept-closed small)

  -- husks of other units stay as they are
  husk-word : (p a : ℕ) → IsTrue (is_in p (other_husks page unit husks)) → IsInside (block_at types (word_at m.blocks) p) a → word_at after.blocks a ≡ word_at m.blocks a
  husk-word p a t inside =
      let part = filter-part (λ q. not (unit_at page q == unit)) husks p t in
      let out : in_unit old unit (block_at types (word_at m.blocks) p) ≡ false = husk-unit p part.0 ∙ not-true (unit_at page p == unit) part.1 in
      each-member (λ x. (a : ℕ) → IsInside x a → word_at after.blocks a ≡ swept_word old m unit x a) (block_at types (word_at m.blocks)) (other_husks page unit husks) p
      (each-left _ (map (block_at types (word_at m.blocks)) (other_husks page unit husks)) R (each-right _ O _ stay-words)) t a inside ∙ rw out refl

  husk-same : (p : ℕ) → IsTrue (is_in p (other_husks page unit husks)) → SameAt types (word_at after.blocks) (word_at m.blocks) p
  husk-same p t = record { same = λ b l r. husk-word p b t (l, r) }

  pub husk_first_is : (p : ℕ) → IsTrue (is_in p (other_husks page unit husks)) → word_at after.blocks p ≡ word_at m.blocks p
  husk_first_is p t = let size = (laid_out types (word_at m.blocks) p).header in husk-word p p t (omega arith, omega (arith, size))

  pub swept_same : (small : nursery.words ≤ 1048576) → SameObjects types (word_at after.blocks) (word_at m.blocks) places (other_husks page unit husks)
  swept_same small = record { layouts = swept_layouts small; husk_layouts = λ p t. keeps-same types (word_at after.blocks) (word_at m.blocks) p (husk-same p t) }

  -- the words of reserved homes stay
  pub shadow_first_is : (a : ℕ) → IsTrue (is_in a (reserved_homes home (young_places places))) → word_at after.blocks a ≡ word_at m.blocks a
  shadow_first_is a t =
      let P : Extent → Type 0 = λ x. ((b : ℕ) → IsInside x b → word_at after.blocks b ≡ swept_word old m unit x b) × (2 ≤ x.1) in
      let wide : Each (λ x. 2 ≤ x.1) R = Each-map (IsBlock m) (λ x. 2 ≤ x.1) (λ x b. b.wide) R
      (each-right (IsBlock m) (map (block_at types (word_at m.blocks)) husks) R (each-right (IsBlock m) O _ (HasBlocks-blocks old m _ (unit ∷ rest) h.blocks))) in
      let both : Each P R = each-both (λ x. (b : ℕ) → IsInside x b → word_at after.blocks b ≡ swept_word old m unit x b) (λ x. 2 ≤ x.1) R
      (each-right _ (map (block_at types (word_at m.blocks)) (other_husks page unit husks)) R (each-right _ O _ stay-words)) wide in
      let some = each-reserved P types (word_at m.blocks) home (young_places places) a (each-left P (reserved_blocks types (word_at m.blocks) home (young_places places)) [] both) t in
      some.is.0 a (omega arith, omega (arith, some.is.1)) ∙ go some.n (in_unit old unit (a, some.n)) refl
    where
      go : (n : ℕ) (c : Bool) → in_unit old unit (a, n) ≡ c → swept_word old m unit (a, n) a ≡ word_at m.blocks a
      go n true c = rw (c, eq-eqb a a refl) (without_flag-stays (word_at m.blocks a) Visited (heads.shadow.each a t).not_visited)
      go n false c = rw c refl

  swept-blocks : (small : nursery.words ≤ 1048576) → HasBlocks new after (blocks_of types (word_at after.blocks) home (young_places places) (old_places places) (other_husks page unit husks) []) rest
  swept-blocks small = subst (λ (xs : List Extent). HasBlocks new after xs rest) (blocks_same (swept_same small) home [])
      (subst (λ (xs : List Extent). HasBlocks new after xs rest) stays_are swept.has.blocks)

  -- each object stands whole
  swept-whole : (small : nursery.words ≤ 1048576) → AreWhole after types places
  swept-whole small p t =
      let keeps = swept_layouts small p t in
      record {
        typed = subst (λ (id : ℕ). IsSome (value_at types id)) (sym keeps.type_stays) (h.whole p t).typed;
        whole = subst (λ (l : Layout). IsTrue (lies_in_one after.blocks p l.words)) (sym keeps.layout_stays) (elim (kind-of p t) [
          | inl young ↦ lies-kept m after 4294967296 p (words_at types (word_at m.blocks) p) step.outside.below.blocks
              (let inside = h.young.inside p young in let size = (laid_out types (word_at m.blocks) p).header in omega (arith, inside, size, small)) (h.whole p t).whole
          | inr old ↦ (each-member (IsBlock after) (block_at types (word_at m.blocks)) (old_places places) p
              (each-left (IsBlock after) O _ (HasBlocks-blocks new after _ rest (subst (λ (xs : List Extent). HasBlocks new after xs rest) stays_are swept.has.blocks))) old).lies
        ]);
      }

  walks-swept : (small : nursery.words ≤ 1048576) (ranges : List Range) (walks : List (List ℕ)) → ((p : ℕ) → IsTrue (is_in p (walked walks)) → IsTrue (is_in p places))
      → AreWalks types (word_at m.blocks) ranges walks → AreWalks types (word_at after.blocks) ranges walks
  walks-swept small [] [] among walk = walk
  walks-swept small [] (ps ∷ walks) among walk = walk
  walks-swept small (r ∷ ranges) [] among walk = walk
  walks-swept small (r ∷ ranges) (ps ∷ walks) among walk = (
    walk-same types (word_at after.blocks) (word_at m.blocks) r.0 (r.0 + r.1) ps (λ p t. swept_layouts small p (among p (in-left p ps (walked walks) t))) walk.0,
    walks-swept small ranges walks (λ p t. among p (in-right p ps (walked walks) t)) walk.1,
  )

  swept-nursery : (small : nursery.words ≤ 1048576) → HoldsNursery nursery after types (word_at after.blocks) (young_places places)
  swept-nursery small = record {
    walks = h.young.walks;
    walk = walks-swept small nursery.used h.young.walks
        (λ p t. (young-is_in places p (subst IsTrue (list_any-IsPermutation (λ (y : ℕ). y == p) (walked h.young.walks) (young_places places) h.young.just) t)).0) h.young.walk;
    just = h.young.just;
    inside = λ p t. subst (λ (l : Layout). p + l.words ≤ nursery.words + 1) (sym (swept_layouts small p (young-is_in places p t).0).layout_stays) (h.young.inside p t);
    laid_out = h.young.laid_out;
    whole = lies-kept m after 4294967296 1 nursery.words step.outside.below.blocks (omega arith) h.young.whole;
  }

  swept-weak : (small : nursery.words ≤ 1048576) → IsPermutation (filter (is_weak_at types (word_at after.blocks)) places) weaks
  swept-weak small = subst (λ (ps : List ℕ). IsPermutation ps weaks) (sym (filter-agree (is_weak_at types (word_at after.blocks)) (is_weak_at types (word_at m.blocks)) places
      (λ p t. ap (λ (i : TypeInfo). is_weak_shape i.shape) (info_at-same types (word_at after.blocks) (word_at m.blocks) p (swept_layouts small p t).type_stays)))) h.weak

  -- the husks of the other units, where no unit waits twice
  swept-husks : HoldsHusks page types (word_at after.blocks) name (other_husks page unit husks) rest (map (husk_at types (word_at m.blocks)) (other_husks page unit husks))
  swept-husks = record {
    reads = map-same (husk_at types (word_at m.blocks)) (husk_at types (word_at after.blocks)) (other_husks page unit husks)
        (λ p t. let keeps = keeps-same types (word_at after.blocks) (word_at m.blocks) p (husk-same p t) in
        ap₂ (λ (b : ℕ) (l : Layout). (b, l.words)) (sym keeps.birth_stays) (sym keeps.layout_stays));
    named = λ p t. h.husk.named p (filter-part (λ q. not (unit_at page q == unit)) husks p t).0 ∙ sym (keeps-same types (word_at after.blocks) (word_at m.blocks) p (husk-same p t)).birth_stays;
    waits = λ p t. let part = filter-part (λ q. not (unit_at page q == unit)) husks p t in
        elim (is_in-cases (unit_at page p) unit rest (h.husk.waits p part.0)) [
          | inl is ↦ absurd (let yes = eq-eqb (unit_at page p) unit is in let no : ⊥ = cc in no)
          | inr u ↦ u
        ];
  }

  pub swept_words : (small : nursery.words ≤ 1048576) → HoldsWords types page after nursery new home weaks [] kept (map (husk_at types (word_at m.blocks)) (other_husks page unit husks)) places (other_husks page unit husks) rest name
  swept_words small = record {
    objects = swept-objects small;
    whole = swept-whole small;
    weak = swept-weak small;
    young = swept-nursery small;
    blocks = swept-blocks small;
    husk = swept-husks;
  }

  -- the blocks that go are those of the husks of the unit
  pub dead_are : dead_blocks old m unit live ≡ map (block_at types (word_at m.blocks)) (filter (λ p. unit_at page p == unit) husks)
  dead_are =
      let die : Extent → Bool = dies old m unit in
      filter-append die O (map (block_at types (word_at m.blocks)) husks ++ R)
      ∙ ap₂ (λ (xs ys : List Extent). xs ++ ys)
      (filter-none die O (each-of-places (λ x. dies old m unit x ≡ false) (block_at types (word_at m.blocks)) (old_places places) settled-stays))
      (filter-append die (map (block_at types (word_at m.blocks)) husks) R
      ∙ (ap₂ (λ (xs ys : List Extent). xs ++ ys)
      (filter_at (block_at types (word_at m.blocks)) die (λ p. unit_at page p == unit) husks husk-dies)
      (filter-none die R (each-of-homes (λ x. dies old m unit x ≡ false) types (word_at m.blocks) home (young_places places) shadow-stays))
      ∙ append-nil (map (block_at types (word_at m.blocks)) (filter (λ p. unit_at page p == unit) husks))))
