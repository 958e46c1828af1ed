-- One word of an object is written: other blocks keep theirs.
use Rattle.std.proofs.Common.{◌≡◌, ℕ, ◌+◌, ◌≤◌, ◌<◌, ◌⊎◌, IsTrue, List, [], ◌∷◌, ◌++◌, map, Option, Some, None, refl, sym, ap, subst, inl, inr, arith}
use Rattle.std.specs.Prelude.{filter, option_map, ◌%◌}
use Rattle.std.specs.List.{cons_option}
use Rattle.std.proofs.lemmas.Bool.{cases_Bool}
use Rattle.std.proofs.lemmas.Bool.Decides.{eqb_tells}
use Rattle.type_table.specs.declared.info.TypeInfo.{TypeInfo}
use Rattle.type_table.specs.Table.{Table}
use Rattle.heap_space.specs.Places.{with_word, word_at}
use Rattle.heap_space.specs.Memory.{Memory}
use Rattle.heap_space.specs.Extents.{Extent, Each, IsApart, IsOutside, IsUntouched, begins_between}
use Rattle.heap_space.proofs.Blocks.{word_at-elsewhere}
use Rattle.heap_space.proofs.ExtentLaws.{extents-with_word}
use Rattle.nursery_gaps.specs.Nursery.{Layout as NurseryLayout}
use Rattle.object_view.proofs.WordLaws.{updated-other}
use Rattle.object_model.proofs.Members.{is_in-cases, is_in-nil}
use Rattle.object_view.proofs.LayoutLaws.{KeepsLayout, SameAt, laid_out, keeps-same}
use Rattle.object_view.proofs.FrameLaws.{keeps-header}
use Rattle.object_view.proofs.ChangeLaws.{Changes, each-keeps}
use Rattle.old_space.specs.HasBlocks.{HasBlocks, IsBlock}
use Rattle.old_space.specs.declared.Old.{Old}
use Rattle.old_space.proofs.JoinLaws.{HasBlocks_untouched, HasBlocks-apart, HasBlocks-blocks}
use Rattle.object_model.specs.Object.{Object}
use Rattle.object_model.specs.Sets.{is_in}
use Rattle.object_model.specs.ObjectWords.{updated, words_at, Covers}
use Rattle.parts_model.specs.Places.{is_young, young_places, old_places, block_at}
use Rattle.parts_model.specs.OldSpace.{reserved_blocks, reserved_homes, blocks_of}
use Rattle.parts_model.specs.StandsFor.{HoldsWords}
use Rattle.frame_laws.proofs.Members.{each-left, each-right, apart-both}
use Rattle.frame_laws.proofs.PlaceLaws.{is_in-young, is_in-old}
use Rattle.parts_model.proofs.BlockLaws.{each-member}
use Rattle.frame_laws.proofs.KeepWords.{SameObjects, SameWords}

pub each-imp : (P Q : Extent → Type 0) (xs : List Extent) → ((x : Extent) → P x → Q x) → Each P xs → Each Q xs
each-imp P Q [] f all = tt
each-imp P Q (x ∷ xs) f all = (f x all.0, each-imp P Q xs f all.1)

pub each-both : (P Q : Extent → Type 0) (xs : List Extent) → Each P xs → Each Q xs → Each (λ x. P x × Q x) xs
each-both P Q [] p q = tt
each-both P Q (x ∷ xs) p q = ((p.0, q.0), each-both P Q xs p.1 q.1)

-- a reserved home is the place of a reserved block
pub record OfSome (P : Extent → Type 0) (a : ℕ) : Type 0 where
  pub n : ℕ
  pub is : P (a, n)

pub each-reserved : (P : Extent → Type 0) (types : Table TypeInfo) (w : ℕ → ℕ) (home : ℕ → Option ℕ) (young : List ℕ) (a : ℕ)
    → Each P (reserved_blocks types w home young) → IsTrue (is_in a (reserved_homes home young)) → OfSome P a
each-reserved P types w home [] a all t = absurd (is_in-nil a t)
each-reserved P types w home (p ∷ young) a all t = go (home p) (λ rest u. each-reserved P types w home young a rest u) all t
  where
    go : (h : Option ℕ) → (Each P (reserved_blocks types w home young) → IsTrue (is_in a (reserved_homes home young)) → OfSome P a)
        → Each P (cons_option (option_map (λ (at : ℕ). (at, words_at types w p)) h) (reserved_blocks types w home young))
        → IsTrue (is_in a (cons_option h (reserved_homes home young))) → OfSome P a
    go None more all t = more all t
    go (Some at) more all t = elim (is_in-cases a at (reserved_homes home young) t) [
      | inl e ↦ record { n = words_at types w p; is = subst (λ (k : ℕ). P (k, words_at types w p)) (sym e) all.0 }
      | inr u ↦ more all.1 u
    ]

-- the blocks of husks and the reserved ones
abbrev other_blocks : Table TypeInfo → (ℕ → ℕ) → (ℕ → Option ℕ) → List ℕ → List ℕ → List Extent → List Extent
other_blocks types w home places husks spare = map (block_at types w) husks ++ (reserved_blocks types w home (young_places places) ++ spare)

module _ {types : Table TypeInfo} {page : ℕ} {m : Memory} {nursery : NurseryLayout} {old_blocks : Old} {home : ℕ → Option ℕ} {weaks : List ℕ} {spare : List Extent}
    {kept : List Object} {stored : List (ℕ × ℕ)} {places husks waiting : List ℕ} {name : ℕ → ℕ}
    (h : HoldsWords types page m nursery old_blocks home weaks spare kept stored places husks waiting name) (small : nursery.words ≤ 1048576)
    (p : ℕ) (t : IsTrue (is_in p places)) where
  w : ℕ → ℕ
  w = word_at m.blocks

  -- no other block outside the nursery shares a word with the object
  others-apart : Each (IsApart (block_at types (word_at m.blocks) p)) (other_blocks types (word_at m.blocks) home places husks spare)
  others-apart = elim (cases_Bool (is_young p)) [
    | inl e ↦
        let inside = h.young.inside p (is_in-young places p t e) in
        let blocks = each-right (IsBlock m) (map (block_at types (word_at m.blocks)) (old_places places)) (other_blocks types (word_at m.blocks) home places husks spare)
        (HasBlocks-blocks old_blocks m _ waiting h.blocks) in
        each-imp (IsBlock m) (IsApart (block_at types (word_at m.blocks) p)) (other_blocks types (word_at m.blocks) home places husks spare)
        (λ x b. inl (omega (arith, inside, small, b.low))) blocks
    | inr e ↦
        each-member (λ x. Each (IsApart x) (other_blocks types (word_at m.blocks) home places husks spare)) (block_at types (word_at m.blocks)) (old_places places) p
        (apart-both (map (block_at types (word_at m.blocks)) (old_places places)) (other_blocks types (word_at m.blocks) home places husks spare)
        (HasBlocks-apart old_blocks m _ waiting h.blocks)) (is_in-old places p t e)
  ]

  -- a place outside the nursery and outside all live blocks is that of no word of the object
  outside-object : (a : ℕ) → 4294967296 ≤ a → IsOutside (blocks_of types (word_at m.blocks) home (young_places places) (old_places places) husks spare) a
      → Covers types (word_at m.blocks) p a → ⊥
  outside-object a low out covers = elim (cases_Bool (is_young p)) [
    | inl e ↦ let inside = h.young.inside p (is_in-young places p t e) in let no : ⊥ = omega (arith, inside, small, low, covers.1) in no
    | inr e ↦
        let olds = each-left (λ x. (a < x.0) ⊎ (x.0 + x.1 ≤ a)) (map (block_at types (word_at m.blocks)) (old_places places)) (other_blocks types (word_at m.blocks) home places husks spare) out in
        elim (each-member (λ x. (a < x.0) ⊎ (x.0 + x.1 ≤ a)) (block_at types (word_at m.blocks)) (old_places places) p olds (is_in-old places p t e)) [
          | inl below ↦ let no : ⊥ = omega (arith, below, covers.0) in no
          | inr above ↦ let no : ⊥ = omega (arith, above, covers.1) in no
        ]
  ]

  others-wide : Each (λ x. IsApart (block_at types (word_at m.blocks) p) x × (2 ≤ x.1)) (other_blocks types (word_at m.blocks) home places husks spare)
  others-wide = each-both (IsApart (block_at types (word_at m.blocks) p)) (λ x. 2 ≤ x.1) (other_blocks types (word_at m.blocks) home places husks spare) others-apart
      (each-imp (IsBlock m) (λ x. 2 ≤ x.1) (other_blocks types (word_at m.blocks) home places husks spare) (λ x b. b.wide)
      (each-right (IsBlock m) (map (block_at types (word_at m.blocks)) (old_places places)) (other_blocks types (word_at m.blocks) home places husks spare)
      (HasBlocks-blocks old_blocks m _ waiting h.blocks)))

  husk-apart : (q : ℕ) → IsTrue (is_in q husks) → IsApart (block_at types (word_at m.blocks) p) (block_at types (word_at m.blocks) q)
  husk-apart q u = each-member (IsApart (block_at types (word_at m.blocks) p)) (block_at types (word_at m.blocks)) husks q
      (each-left (IsApart (block_at types (word_at m.blocks) p)) (map (block_at types (word_at m.blocks)) husks) (reserved_blocks types (word_at m.blocks) home (young_places places) ++ spare) others-apart) u

  -- a word of the object is written: the words of husks, and the first ones of reserved homes, stay
  pub husk_same : (at value : ℕ) → p ≤ at → at < p + words_at types (word_at m.blocks) p → (q : ℕ) → IsTrue (is_in q husks)
      → SameAt types (updated (word_at m.blocks) at value) (word_at m.blocks) q
  husk_same at value low high q u = record {
    same = λ b l r. updated-other (word_at m.blocks) at value b (λ e. elim (husk-apart q u) [
      | inl behind ↦ absurd (omega (arith, behind, l, e, high))
      | inr before ↦ absurd (omega (arith, before, r, e, low))
    ]);
  }

  pub husk_first : (at value : ℕ) → p ≤ at → at < p + words_at types (word_at m.blocks) p → (q : ℕ) → IsTrue (is_in q husks)
      → updated (word_at m.blocks) at value q ≡ word_at m.blocks q
  husk_first at value low high q u = (husk_same at value low high q u).same q (omega arith) (omega (arith, (laid_out types (word_at m.blocks) q).header))

  pub shadow_first : (at value : ℕ) → p ≤ at → at < p + words_at types (word_at m.blocks) p → (q : ℕ) → IsTrue (is_in q (reserved_homes home (young_places places)))
      → updated (word_at m.blocks) at value q ≡ word_at m.blocks q
  shadow_first at value low high q u =
      let some = each-reserved (λ x. IsApart (block_at types (word_at m.blocks) p) x × (2 ≤ x.1)) types (word_at m.blocks) home (young_places places) q
      (each-left (λ x. IsApart (block_at types (word_at m.blocks) p) x × (2 ≤ x.1)) (reserved_blocks types (word_at m.blocks) home (young_places places)) spare
      (each-right (λ x. IsApart (block_at types (word_at m.blocks) p) x × (2 ≤ x.1)) (map (block_at types (word_at m.blocks)) husks) (reserved_blocks types (word_at m.blocks) home (young_places places) ++ spare) others-wide)) u in
      updated-other (word_at m.blocks) at value q (λ e. elim some.is.0 [
        | inl behind ↦ absurd (omega (arith, behind, e, high))
        | inr before ↦ absurd (omega (arith, before, e, low, some.is.1))
      ])

  -- a word behind the first of the object is written
  pub same_written : (at value : ℕ) → Changes types (updated (word_at m.blocks) at value) (word_at m.blocks) places places p → p < at
      → at < p + words_at types (word_at m.blocks) p → SameWords types (updated (word_at m.blocks) at value) (word_at m.blocks) home places husks
  same_written at value by low high = record {
    objects = record {
      layouts = each-keeps h.objects by;
      husk_layouts = λ q u. keeps-same types (updated (word_at m.blocks) at value) (word_at m.blocks) q (husk_same at value (omega (arith, low)) high q u);
    };
    firsts = λ q u. updated-other (word_at m.blocks) at value q (λ e.
        let same : p ≡ q = h.objects.apart p q at t u (omega (arith, low), high) (omega (arith, e), omega (arith, e, (laid_out types (word_at m.blocks) q).header)) in
        absurd (omega (arith, same, e, low)));
    husk_firsts = husk_first at value (omega (arith, low)) high;
    shadow_firsts = shadow_first at value (omega (arith, low)) high;
  }

  -- the first word of the object is written, with the same type
  pub header_written : (value : ℕ) → value % 65536 ≡ word_at m.blocks p % 65536 → value < 67108864
      → SameObjects types (updated (word_at m.blocks) p value) (word_at m.blocks) places husks
  header_written value e few = record {
    layouts = λ q u. elim (eqb_tells q p) [
      | inl is ↦ let P : ℕ → Type 0 = λ k. KeepsLayout types (updated (word_at m.blocks) p value) (word_at m.blocks) k in subst P (sym is.1) (keeps-header types (word_at m.blocks) p value e few)
      | inr other ↦ keeps-same types (updated (word_at m.blocks) p value) (word_at m.blocks) q (record {
        same = λ b l r. updated-other (word_at m.blocks) p value b (λ z.
            other.1 (h.objects.apart q p b u t (l, r) (omega (arith, z), omega (arith, z, (laid_out types (word_at m.blocks) p).header))));
      })
    ];
    husk_layouts = λ q u. keeps-same types (updated (word_at m.blocks) p value) (word_at m.blocks) q
        (husk_same p value (omega arith) (omega (arith, (laid_out types (word_at m.blocks) p).header)) q u);
  }

  -- and the same blocks are live
  pub blocks_written : (at value : ℕ) → p ≤ at → at < p + words_at types (word_at m.blocks) p
      → HasBlocks old_blocks (record m { blocks = with_word m.blocks at value }) (blocks_of types (word_at m.blocks) home (young_places places) (old_places places) husks spare) waiting
  blocks_written at value low high =
      let live : List Extent = blocks_of types (word_at m.blocks) home (young_places places) (old_places places) husks spare in
      let new : Memory = record m { blocks = with_word m.blocks at value } in
      let untouched : IsUntouched 4294967296 9223372036854775808 m new live = record {
        blocks = ap (filter (begins_between 4294967296 9223372036854775808)) (extents-with_word m.blocks at value);
        words = λ a l r out. word_at-elsewhere m.blocks at value a (λ e. outside-object a l out (omega (arith, low, e), omega (arith, high, e)));
      } in
      HasBlocks_untouched old_blocks m new live waiting h.blocks refl refl untouched
