-- The end of marking: words, the nursery, blocks and husks.
use Rattle.std.proofs.Common.{◌≡◌, ℕ, ◌+◌, ◌≤◌, Bool, true, false, IsTrue, List, [], ◌++◌, map, length, Option, sym, ap, ap₂, ◌∙◌, subst, inl, inr, arith}
use Rattle.std.specs.Prelude.{not, filter, nat_lt, if◌then◌else◌, Contains, IsSome, ◌==◌}
use Rattle.std.specs.List.Sorted.{IsPermutation}
use Rattle.std.proofs.lemmas.Bool.{cases_Bool}
use Rattle.std.proofs.lemmas.Simd.{map-map}
use Rattle.type_table.specs.declared.info.TypeInfo.{TypeInfo}
use Rattle.type_table.specs.Table.{Table, value_at}
use Rattle.heap_space.specs.Places.{lies_in_one, word_at}
use Rattle.heap_space.specs.Memory.{Memory}
use Rattle.heap_space.specs.Extents.{Extent, Each, extents_between}
use Rattle.nursery_gaps.specs.Nursery.{Layout as NurseryLayout}
use Rattle.size_pages.specs.Calls.{page_of}
use Rattle.object_model.proofs.Members.{map-same, filter-part, filter-member, filter-agree}
use Rattle.object_view.proofs.LayoutLaws.{info_at-same, birth-from, laid_out}
use Rattle.object_view.proofs.FoundLaws.{words-from}
use Rattle.old_space.specs.HasBlocks.{HasBlocks, IsBlock}
use Rattle.old_space.specs.Calls.{unit_of}
use Rattle.old_space.specs.declared.Old.{Old}
use Rattle.old_space.proofs.JoinLaws.{HasBlocks_permuted, HasBlocks-blocks}
use Rattle.object_model.specs.Layout.{Layout}
use Rattle.object_model.specs.Object.{Object, words_of, object_at}
use Rattle.object_model.specs.Sets.{is_in}
use Rattle.object_model.specs.Shapes.{is_weak_shape}
use Rattle.store_model.specs.Roots.{referents_in}
use Rattle.store_model.specs.Reach.{objects_where}
use Rattle.store_model.specs.MinorCollection.{clear_target}
use Rattle.object_model.specs.ObjectWords.{words_at, object_from}
use Rattle.heap_parts.specs.Places.{is_young, young_places, old_places, block_at, is_weak_at, AreWhole}
use Rattle.heap_parts.specs.Nursery.{HoldsNursery, walked}
use Rattle.heap_parts.specs.OldSpace.{reserved_blocks, blocks_of, husk_at, HoldsHusks, unit_at, is_waiting}
use Rattle.heap_parts.specs.StandsFor.{HoldsWords}
use Rattle.frame_laws.proofs.Members.{each-left}
use Rattle.frame_laws.proofs.PlaceLaws.{young-is_in, old-is_in, is_in-old}
use Rattle.heap_parts.proofs.BlockLaws.{each-member, lies-kept}
use Rattle.std.proofs.lemmas.List.Sorted.{list_any-IsPermutation}
use Rattle.frame_laws.proofs.KeepWords.{SameObjects, walks-same, blocks_same}
use Rattle.heap_phases.proofs.EndObjects.{ClearsTargets, end_objects}
use Rattle.frame_laws.proofs.Filters.{filter_swap, filter_every, filter_at, filter_permuted, parts_permuted, contains_is_in}
use Rattle.old_space.specs.HasBlocks.{page_size}

-- What the end of marking makes of the words and of the blocks outside the nursery.
pub record EndsWords (types : Table TypeInfo) (page : ℕ) (old new : Memory) (new_blocks : Old) (home : ℕ → Option ℕ) (places : List ℕ) (name : ℕ → ℕ)
    (white : ℕ → Bool) (waiting : List ℕ) : Type 0 where
  pub clears : ClearsTargets types (word_at new.blocks) (word_at old.blocks) name places white
  pub below : extents_between 0 4294967296 new ≡ extents_between 0 4294967296 old
  pub blocks : HasBlocks new_blocks new (blocks_of types (word_at old.blocks) home (young_places places) (old_places places) [] []) waiting
  pub every : Each (λ x. Contains waiting (unit_of new_blocks x.0)) (blocks_of types (word_at old.blocks) home (young_places places) (old_places places) [] [])
  pub most : length waiting ≤ length (blocks_of types (word_at old.blocks) home (young_places places) (old_places places) [] [])
  pub page_is : page_size new_blocks ≡ page

-- the places of the objects that stay, and those of the new husks
abbrev pub staying : (ℕ → Bool) → (ℕ → ℕ) → List ℕ → List ℕ
staying gone name places = filter (λ p. not (gone (name p))) places

abbrev pub losing : (ℕ → Bool) → (ℕ → ℕ) → List ℕ → List ℕ
losing gone name places = filter (λ p. gone (name p)) places

module _ (gone : ℕ → Bool) (name : ℕ → ℕ) (places : List ℕ) (young_stay : (p : ℕ) → IsTrue (is_in p (young_places places)) → gone (name p) ≡ false) where
  pub young_staying : young_places (staying gone name places) ≡ young_places places
  young_staying = filter_swap is_young (λ p. not (gone (name p))) places
      ∙ filter_every (λ p. not (gone (name p))) (young_places places) (λ p t. ap not (young_stay p t))

  pub old_staying : old_places (staying gone name places) ≡ staying gone name (old_places places)
  old_staying = filter_swap (λ p. not (is_young p)) (λ p. not (gone (name p))) places

  -- what is lost lay outside the nursery
  pub lost_old : (p : ℕ) → IsTrue (is_in p (losing gone name places)) → IsTrue (is_in p (old_places places))
  lost_old p t =
      let part = filter-part (λ q. gone (name q)) places p t in
      elim (cases_Bool (is_young p)) [
        | inl young ↦ absurd (let stays : gone (name p) ≡ false = young_stay p (filter-member is_young places p part.0 young) in let no : ⊥ = cc in no)
        | inr old ↦ is_in-old places p part.0 old
      ]

  pub losing_old : losing gone name (old_places places) ≡ losing gone name places
  losing_old = filter_swap (λ p. gone (name p)) (λ p. not (is_young p)) places
      ∙ filter_every (λ p. not (is_young p)) (losing gone name places) (λ p t. ap not (old-is_in places p (lost_old p t)).1)

module _ {types : Table TypeInfo} {page : ℕ} {old new : Memory} {nursery : NurseryLayout} {old_blocks new_blocks : Old} {home : ℕ → Option ℕ} {weaks : List ℕ}
    {kept : List Object} {places waiting before : List ℕ} {name : ℕ → ℕ} (white gone : ℕ → Bool)
    (h : HoldsWords types page old nursery old_blocks home weaks [] kept [] places [] before name)
    (e : EndsWords types page old new new_blocks home places name white waiting)
    (young_stay : (p : ℕ) → IsTrue (is_in p (young_places places)) → gone (name p) ≡ false)
    (stays : (x y : ℕ) → gone x ≡ false → IsTrue (is_in y (referents_in (object_at kept x))) → gone y ≡ false)
    (black : (x : ℕ) → white x ≡ false → gone x ≡ false) (small : nursery.words ≤ 1048576) where
  v : ℕ → ℕ
  v = word_at new.blocks

  w : ℕ → ℕ
  w = word_at old.blocks

  remain : List ℕ
  remain = staying gone name places

  lost : List ℕ
  lost = losing gone name places

  pub same_objects : SameObjects types (word_at new.blocks) (word_at old.blocks) places []
  same_objects = record { layouts = e.clears.layouts; husk_layouts = λ p t. absurd (let no : ⊥ = cc in no) }

  end-weak : IsPermutation (filter (is_weak_at types (word_at new.blocks)) (staying gone name places)) (filter (λ p. not (gone (name p))) weaks)
  end-weak =
      let same : filter (is_weak_at types (word_at new.blocks)) places ≡ filter (is_weak_at types (word_at old.blocks)) places =
      filter-agree (is_weak_at types (word_at new.blocks)) (is_weak_at types (word_at old.blocks)) places
      (λ p t. ap (λ (i : TypeInfo). is_weak_shape i.shape) (info_at-same types (word_at new.blocks) (word_at old.blocks) p (e.clears.layouts p t).type_stays)) in
      subst (λ (ps : List ℕ). IsPermutation ps (filter (λ p. not (gone (name p))) weaks))
      (sym (filter_swap (is_weak_at types (word_at new.blocks)) (λ p. not (gone (name p))) places ∙ ap (filter (λ p. not (gone (name p)))) same))
      (filter_permuted (λ p. not (gone (name p))) (filter (is_weak_at types (word_at old.blocks)) places) weaks h.weak)

  end-blocks : HasBlocks new_blocks new (blocks_of types (word_at new.blocks) home (young_places (staying gone name places)) (old_places (staying gone name places)) (losing gone name places) []) waiting
  end-blocks =
      let B = block_at types (word_at new.blocks) in
      let R : List Extent = reserved_blocks types (word_at new.blocks) home (young_places places) ++ [] in
      let same : HasBlocks new_blocks new (map B (old_places places) ++ R) waiting =
      subst (λ (live : List Extent). HasBlocks new_blocks new live waiting) (blocks_same same_objects home []) e.blocks in
      let parts : HasBlocks new_blocks new (map B (staying gone name (old_places places)) ++ (map B (losing gone name (old_places places)) ++ R)) waiting =
      HasBlocks_permuted new_blocks new _ _ waiting same (parts_permuted B (λ p. gone (name p)) (old_places places) R) in
      rw (young_staying gone name places young_stay, old_staying gone name places young_stay, ← losing_old gone name places young_stay) parts

  end-waits : (p : ℕ) → IsTrue (is_in p (old_places places)) → is_waiting page waiting p ≡ true
  end-waits p t =
      let here : Contains waiting (unit_of new_blocks p) =
      each-member (λ x. Contains waiting (unit_of new_blocks x.0)) (block_at types (word_at old.blocks)) (old_places places) p
      (each-left (λ x. Contains waiting (unit_of new_blocks x.0)) (map (block_at types (word_at old.blocks)) (old_places places)) _ e.every) t in
      let unit : unit_of new_blocks p ≡ unit_at page p = ap (λ (n : ℕ). if nat_lt p 1099511627776 then page_of n p else p) e.page_is in
      contains_is_in waiting (unit_at page p) (subst (λ (u : ℕ). Contains waiting u) unit here)

  end-husks : HoldsHusks page types (word_at new.blocks) name (losing gone name places) waiting (map (λ o. (o.birth, words_of o)) (objects_where kept gone))
  end-husks =
      let lost_in : (p : ℕ) → IsTrue (is_in p (losing gone name places)) → IsTrue (is_in p places) = λ p t. (filter-part (λ q. gone (name q)) places p t).0 in
      let objects : objects_where kept gone ≡ map (object_from types name (word_at old.blocks)) (losing gone name places) =
      ap (filter (λ (o : Object). gone o.birth)) h.objects.reads
      ∙ filter_at (object_from types name (word_at old.blocks)) (λ o. gone o.birth) (λ p. gone (name p)) places
      (λ p t. ap gone (birth-from types name (word_at old.blocks) p ∙ sym (h.objects.named p t))) in
      record {
        reads = ap (map (λ (o : Object). (o.birth, words_of o))) objects
            ∙ (map-map (λ (o : Object). (o.birth, words_of o)) (object_from types name (word_at old.blocks)) (losing gone name places)
            ∙ map-same (λ p. ((object_from types name (word_at old.blocks) p).birth, words_of (object_from types name (word_at old.blocks) p))) (husk_at types (word_at new.blocks)) (losing gone name places)
            (λ p t. let keeps = e.clears.layouts p (lost_in p t) in
            ap₂ (λ (b n : ℕ). (b, n)) (birth-from types name (word_at old.blocks) p ∙ sym keeps.birth_stays)
            (words-from types name (word_at old.blocks) p ∙ sym (ap (λ (l : Layout). l.words) keeps.layout_stays))));
        named = λ p t. h.objects.named p (lost_in p t) ∙ sym (e.clears.layouts p (lost_in p t)).birth_stays;
        waits = λ p t. end-waits p (lost_old gone name places young_stay p t);
      }

  end-whole : AreWhole new types places
  end-whole p t =
      let keeps = e.clears.layouts p t in
      record {
        typed = subst (λ (id : ℕ). IsSome (value_at types id)) (sym keeps.type_stays) (h.whole p t).typed;
        whole = subst (λ (l : Layout). IsTrue (lies_in_one new.blocks p l.words)) (sym keeps.layout_stays) (elim (cases_Bool (is_young p)) [
          | inl young ↦ lies-kept old new 4294967296 p (words_at types (word_at old.blocks) p) e.below
              (let inside = h.young.inside p (filter-member is_young places p t young) in let size = (laid_out types (word_at old.blocks) p).header in omega (arith, inside, size, small)) (h.whole p t).whole
          | inr out ↦ (each-member (IsBlock new) (block_at types (word_at old.blocks)) (old_places places) p
              (each-left (IsBlock new) (map (block_at types (word_at old.blocks)) (old_places places)) _ (HasBlocks-blocks new_blocks new _ waiting e.blocks)) (is_in-old places p t out)).lies
        ]);
      }

  end-nursery : HoldsNursery nursery new types (word_at new.blocks) (young_places places)
  end-nursery = record {
    walks = h.young.walks;
    walk = walks-same types (word_at new.blocks) (word_at old.blocks) nursery.used h.young.walks
        (λ p t. e.clears.layouts p (young-is_in places p (subst IsTrue (list_any-IsPermutation (λ (y : ℕ). y == p) (walked h.young.walks) (young_places places) h.young.just) t)).0) h.young.walk;
    just = h.young.just;
    inside = λ p t. subst (λ (l : Layout). p + l.words ≤ nursery.words + 1) (sym (e.clears.layouts p (young-is_in places p t).0).layout_stays) (h.young.inside p t);
    laid_out = h.young.laid_out;
    whole = lies-kept old new 4294967296 1 nursery.words e.below (omega arith) h.young.whole;
  }

  -- each settled object and husk lies in a unit that waits
  pub end_waits : (p : ℕ) → IsTrue (is_in p (old_places places)) → is_waiting page waiting p ≡ true
  end_waits p t = end-waits p t

  pub end_words : HoldsWords types page new nursery new_blocks home (filter (λ p. not (gone (name p))) weaks) [] (map (clear_target white) (objects_where kept (λ x. not (gone x))))
      (map (λ o. (o.birth, words_of o)) (objects_where kept gone)) (staying gone name places) (losing gone name places) waiting name
  end_words = record {
    objects = end_objects white gone h.objects e.clears stays black;
    whole = λ p t. end-whole p (filter-part (λ q. not (gone (name q))) places p t).0;
    weak = end-weak;
    young = subst (λ (ps : List ℕ). HoldsNursery nursery new types (word_at new.blocks) ps) (sym (young_staying gone name places young_stay))
        end-nursery;
    blocks = end-blocks;
    husk = end-husks;
  }
