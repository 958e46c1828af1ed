-- The memory changes outside all objects, husks and reserved homes: a block is taken, or words of a spare block are written.
use Rattle.std.proofs.Common.{◌≡◌, ℕ, ◌+◌, ◌<◌, ◌≤◌, true, IsTrue, List, [], ◌∷◌, ◌++◌, map, Option, sym, ap, ◌∙◌, subst, inl, inr, arith, append-nil}
use Rattle.std.specs.Prelude.{IsSome, ◌==◌}
use Rattle.std.specs.List.Sorted.{IsPermutation}
use Rattle.std.proofs.lemmas.List.{append_assoc}
use Rattle.std.proofs.lemmas.List.Sorted.{IsPermutation-sym, IsPermutation-to_front, list_any-IsPermutation}
use Rattle.std.proofs.lemmas.Bool.{cases_Bool}
use Rattle.type_table.specs.declared.info.TypeInfo.{TypeInfo}
use Rattle.type_table.specs.Table.{Table, value_at}
use Rattle.heap_space.specs.Places.{lies_in_one, word_at}
use Rattle.heap_space.specs.Memory.{Memory}
use Rattle.heap_space.specs.Extents.{Extent, Each, IsInside, KeepsWords}
use Rattle.nursery_gaps.specs.Nursery.{Layout as NurseryLayout}
use Rattle.object_view.proofs.InitLaws.{lies-part}
use Rattle.object_view.proofs.LayoutLaws.{SameAt, laid_out, keeps-same}
use Rattle.object_view.proofs.FrameLaws.{outside_holds}
use Rattle.old_space.specs.HasBlocks.{HasBlocks, IsBlock}
use Rattle.old_space.specs.declared.Old.{Old}
use Rattle.old_space.proofs.JoinLaws.{HasBlocks-blocks, HasBlocks_permuted}
use Rattle.object_model.specs.Layout.{Layout}
use Rattle.object_model.specs.Object.{Object}
use Rattle.object_model.specs.Sets.{is_in}
use Rattle.object_model.specs.ObjectWords.{words_at}
use Rattle.parts_model.specs.Places.{is_young, young_places, old_places, block_at}
use Rattle.parts_model.specs.OldSpace.{reserved_blocks, blocks_of}
use Rattle.parts_model.specs.Nursery.{walked}
use Rattle.parts_model.specs.StandsFor.{HoldsWords}
use Rattle.frame_laws.proofs.Members.{each-left, each-right}
use Rattle.frame_laws.proofs.PlaceLaws.{young-is_in, is_in-young, is_in-old}
use Rattle.parts_model.proofs.BlockLaws.{each-member}
use Rattle.frame_laws.proofs.WriteWords.{each-imp, each-both, each-reserved}
use Rattle.frame_laws.proofs.KeepWords.{SameWords, walks-same, weak-same, blocks_same, husks_kept}

-- What is known of another memory: the words of the nursery, of objects, husks and reserved homes stay, and these blocks are live.
pub record MemoryKeeps (types : Table TypeInfo) (old new : Memory) (nursery : NurseryLayout) (after_blocks : Old) (home : ℕ → Option ℕ) (after_spare : List Extent) (places husks waiting : List ℕ) : Type 0 where
  pub small : nursery.words ≤ 1048576
  pub low_words : (b : ℕ) → b < 4294967296 → word_at new.blocks b ≡ word_at old.blocks b
  pub low_lies : IsTrue (lies_in_one new.blocks 1 nursery.words)
  pub live_words : KeepsWords old new (blocks_of types (word_at old.blocks) home (young_places places) (old_places places) husks [])
  pub blocks : HasBlocks after_blocks new (blocks_of types (word_at old.blocks) home (young_places places) (old_places places) husks after_spare) waiting

abbrev Stays : Memory → Memory → Extent → Type 0
Stays old new x = (a : ℕ) → IsInside x a → word_at new.blocks a ≡ word_at old.blocks a

module _ {types : Table TypeInfo} {page : ℕ} {old new : Memory} {nursery : NurseryLayout} {old_blocks after_blocks : Old} {home : ℕ → Option ℕ} {weaks : List ℕ} {spare after_spare : List Extent}
    {kept : List Object} {stored : List (ℕ × ℕ)} {places husks waiting : List ℕ} {name : ℕ → ℕ}
    (h : HoldsWords types page old nursery old_blocks home weaks spare kept stored places husks waiting name)
    (k : MemoryKeeps types old new nursery after_blocks home after_spare places husks waiting) where
  olds-stay : Each (Stays old new) (map (block_at types (word_at old.blocks)) (old_places places))
  olds-stay = each-left (Stays old new) (map (block_at types (word_at old.blocks)) (old_places places)) (map (block_at types (word_at old.blocks)) husks ++ (reserved_blocks types (word_at old.blocks) home (young_places places) ++ [])) k.live_words

  rest-stay : Each (Stays old new) (map (block_at types (word_at old.blocks)) husks ++ (reserved_blocks types (word_at old.blocks) home (young_places places) ++ []))
  rest-stay = each-right (Stays old new) (map (block_at types (word_at old.blocks)) (old_places places)) (map (block_at types (word_at old.blocks)) husks ++ (reserved_blocks types (word_at old.blocks) home (young_places places) ++ [])) k.live_words

  husks-stay : Each (Stays old new) (map (block_at types (word_at old.blocks)) husks)
  husks-stay = each-left (Stays old new) (map (block_at types (word_at old.blocks)) husks) (reserved_blocks types (word_at old.blocks) home (young_places places) ++ []) rest-stay

  all-blocks : Each (IsBlock new) (blocks_of types (word_at old.blocks) home (young_places places) (old_places places) husks after_spare)
  all-blocks = HasBlocks-blocks after_blocks new _ waiting k.blocks

  reserved-stay : Each (λ x. (Stays old new) x × (2 ≤ x.1)) (reserved_blocks types (word_at old.blocks) home (young_places places))
  reserved-stay =
      each-both (Stays old new) (λ x. 2 ≤ x.1) (reserved_blocks types (word_at old.blocks) home (young_places places))
      (each-left (Stays old new) (reserved_blocks types (word_at old.blocks) home (young_places places)) [] (each-right (Stays old new) (map (block_at types (word_at old.blocks)) husks) (reserved_blocks types (word_at old.blocks) home (young_places places) ++ []) rest-stay))
      (each-imp (IsBlock new) (λ x. 2 ≤ x.1) (reserved_blocks types (word_at old.blocks) home (young_places places)) (λ x b. b.wide)
      (each-left (IsBlock new) (reserved_blocks types (word_at old.blocks) home (young_places places)) after_spare
      (each-right (IsBlock new) (map (block_at types (word_at old.blocks)) husks) (reserved_blocks types (word_at old.blocks) home (young_places places) ++ after_spare)
      (each-right (IsBlock new) (map (block_at types (word_at old.blocks)) (old_places places)) (map (block_at types (word_at old.blocks)) husks ++ (reserved_blocks types (word_at old.blocks) home (young_places places) ++ after_spare)) all-blocks))))

  pub object_same : (q : ℕ) → IsTrue (is_in q places) → SameAt types (word_at new.blocks) (word_at old.blocks) q
  object_same q t = elim (cases_Bool (is_young q)) [
    | inl e ↦ (let inside = h.young.inside q (is_in-young places q t e) in record { same = λ b l r. k.low_words b (omega (arith, inside, k.small, r)) })
    | inr e ↦ (let here = each-member (Stays old new) (block_at types (word_at old.blocks)) (old_places places) q olds-stay (is_in-old places q t e) in record { same = λ b l r. here b (l, r) })
  ]

  husk-same : (q : ℕ) → IsTrue (is_in q husks) → SameAt types (word_at new.blocks) (word_at old.blocks) q
  husk-same q t = (let here = each-member (Stays old new) (block_at types (word_at old.blocks)) husks q husks-stay t in record { same = λ b l r. here b (l, r) })

  pub memory_same : SameWords types (word_at new.blocks) (word_at old.blocks) home places husks
  memory_same = record {
    objects = record {
      layouts = λ q t. keeps-same types (word_at new.blocks) (word_at old.blocks) q (object_same q t);
      husk_layouts = λ q t. keeps-same types (word_at new.blocks) (word_at old.blocks) q (husk-same q t);
    };
    firsts = λ q t. (object_same q t).same q (omega arith) (omega (arith, (laid_out types (word_at old.blocks) q).header));
    husk_firsts = λ q t. (husk-same q t).same q (omega arith) (omega (arith, (laid_out types (word_at old.blocks) q).header));
    shadow_firsts = λ q t. (let some = each-reserved (λ x. (Stays old new) x × (2 ≤ x.1)) types (word_at old.blocks) home (young_places places) q reserved-stay t in some.is.0 q (omega arith, omega (arith, some.is.1)));
  }

  lies-still : (q : ℕ) → IsTrue (is_in q places) → lies_in_one new.blocks q (words_at types (word_at old.blocks) q) ≡ true
  lies-still q t = elim (cases_Bool (is_young q)) [
    | inl e ↦ (let inside = h.young.inside q (is_in-young places q t e) in let above = h.objects.above q t in
        lies-part new.blocks 1 nursery.words q (words_at types (word_at old.blocks) q) k.low_lies above (omega (arith, inside)))
    | inr e ↦ (each-member (IsBlock new) (block_at types (word_at old.blocks)) (old_places places) q
        (each-left (IsBlock new) (map (block_at types (word_at old.blocks)) (old_places places)) (map (block_at types (word_at old.blocks)) husks ++ (reserved_blocks types (word_at old.blocks) home (young_places places) ++ after_spare)) all-blocks) (is_in-old places q t e)).lies
  ]

  -- the words hold what they held
  pub memory_kept : HoldsWords types page new nursery after_blocks home weaks after_spare kept stored places husks waiting name
  memory_kept = record {
    objects = outside_holds (word_at new.blocks) h.objects object_same;
    whole = λ p t. record {
      typed = subst (λ (id : ℕ). IsSome (value_at types id)) (sym (memory_same.objects.layouts p t).type_stays) (h.whole p t).typed;
      whole = subst (λ (l : Layout). IsTrue (lies_in_one new.blocks p l.words)) (sym (memory_same.objects.layouts p t).layout_stays) (lies-still p t);
    };
    weak = subst (λ (ps : List ℕ). IsPermutation ps weaks) (sym (weak-same memory_same.objects)) h.weak;
    young = record {
      walks = h.young.walks;
      walk = walks-same types (word_at new.blocks) (word_at old.blocks) nursery.used h.young.walks
          (λ p t. memory_same.objects.layouts p (young-is_in places p (subst IsTrue (list_any-IsPermutation (λ (y : ℕ). y == p) (walked h.young.walks) (young_places places) h.young.just) t)).0) h.young.walk;
      just = h.young.just;
      inside = λ p t. subst (λ (l : Layout). p + l.words ≤ nursery.words + 1) (sym (memory_same.objects.layouts p (young-is_in places p t).0).layout_stays) (h.young.inside p t);
      laid_out = h.young.laid_out;
      whole = k.low_lies;
    };
    blocks = subst (λ (live : List Extent). HasBlocks after_blocks new live waiting) (blocks_same memory_same.objects home after_spare) k.blocks;
    husk = husks_kept memory_same.objects h.husk;
  }

-- the block that was taken last is the spare one
pub taken_spare : (old_blocks : Old) (m : Memory) (settled husks reserved : List Extent) (x : Extent) (waiting : List ℕ)
    → HasBlocks old_blocks m (x ∷ (settled ++ (husks ++ (reserved ++ [])))) waiting → HasBlocks old_blocks m (settled ++ (husks ++ (reserved ++ x ∷ []))) waiting
taken_spare old_blocks m settled husks reserved x waiting h =
    let all : List Extent = settled ++ (husks ++ (reserved ++ [])) in
    subst (λ (live : List Extent). HasBlocks old_blocks m live waiting)
    (ap (λ (xs : List Extent). (settled ++ (husks ++ xs)) ++ x ∷ []) (append-nil reserved) ∙ (append_assoc settled (husks ++ reserved) (x ∷ []) ∙ ap (λ (xs : List Extent). settled ++ xs) (append_assoc husks reserved (x ∷ []))))
    (HasBlocks_permuted old_blocks m (x ∷ all) (all ++ x ∷ []) waiting h (IsPermutation-sym (all ++ x ∷ []) (x ∷ all) (IsPermutation-to_front all x)))

-- and it is the first one of all live blocks, in another order
pub spare_taken : (old_blocks : Old) (m : Memory) (settled husks reserved : List Extent) (x : Extent) (waiting : List ℕ)
    → HasBlocks old_blocks m (settled ++ (husks ++ (reserved ++ x ∷ []))) waiting → HasBlocks old_blocks m (x ∷ (settled ++ (husks ++ (reserved ++ [])))) waiting
spare_taken old_blocks m settled husks reserved x waiting h =
    let all : List Extent = settled ++ (husks ++ (reserved ++ [])) in
    let joined : all ++ x ∷ [] ≡ settled ++ (husks ++ (reserved ++ x ∷ [])) =
    ap (λ (xs : List Extent). (settled ++ (husks ++ xs)) ++ x ∷ []) (append-nil reserved) ∙ (append_assoc settled (husks ++ reserved) (x ∷ []) ∙ ap (λ (xs : List Extent). settled ++ xs) (append_assoc husks reserved (x ∷ []))) in
    HasBlocks_permuted old_blocks m (all ++ x ∷ []) (x ∷ all) waiting (subst (λ (live : List Extent). HasBlocks old_blocks m live waiting) (sym joined) h) (IsPermutation-to_front all x)
