-- Reserved homes are given back, one after another.
use Rattle.std.proofs.Common.{◌≡◌, ◌≢◌, ℕ, suc, ◌+◌, ◌<◌, ◌≤◌, Bool, false, IsTrue, List, [], ◌∷◌, ◌++◌, map, length, Option, Some, None, refl, sym, ap, ◌∙◌, subst, inl, inr, arith}
use Rattle.std.specs.Prelude.{option_map, nat_lt}
use Rattle.std.proofs.lemmas.Bool.{cases_Bool}
use Rattle.std.proofs.lemmas.Bool.Decides.{eqb_tells}
use Rattle.type_table.specs.declared.info.TypeInfo.{TypeInfo}
use Rattle.type_table.specs.Table.{Table}
use Rattle.heap_space.specs.Places.{word_at}
use Rattle.heap_space.specs.Memory.{Memory}
use Rattle.heap_space.specs.Extents.{Extent, IsApart, KeepsWords, KeepsOutside}
use Rattle.large_objects.specs.Blocks.{without_place}
use Rattle.object_view.proofs.LayoutLaws.{laid_out, SameAt, keeps-same}
use Rattle.old_space.specs.Calls.{still_waiting}
use Rattle.old_space.specs.HasBlocks.{HasBlocks, IsBlock}
use Rattle.old_space.specs.declared.Old.{Old}
use Rattle.old_space.proofs.JoinLaws.{HasBlocks_permuted, HasBlocks-apart, HasBlocks-blocks}
use Rattle.object_model.specs.Layout.{Layout}
use Rattle.object_model.specs.Sets.{is_in, AreDifferent}
use Rattle.object_model.specs.ObjectWords.{words_at}
use Rattle.heap_parts.specs.Places.{is_young, young_places, old_places, block_at}
use Rattle.heap_parts.specs.OldSpace.{reserved_block, reserved_blocks, blocks_of}
use Rattle.heap_parts.proofs.BlockLaws.{each-member}
use Rattle.frame_laws.proofs.KeepWords.{blocks_same}
use Rattle.frame_laws.proofs.Members.{each-left, each-right}
use Rattle.object_model.proofs.Members.{filter_map-agree, in-either}
use Rattle.frame_laws.proofs.PlaceLaws.{young-is_in}
use Rattle.minor_collect.specs.Ending.{remaining}
use Rattle.minor_collect.specs.Homes.{KeepsAll, GivesHomes}
use Rattle.minor_collect.proofs.EndBlocks.{without_home, blocks-taken, waits_after, unit_other}
use Rattle.minor_collect.proofs.EndStands.{given-by, gives-in}
use Rattle.minor_collect.proofs.Remaining.{blocks_remaining}
use Rattle.object_model.proofs.SameMembers.{part_differs}
use Rattle.minor_collect.proofs.TakeKeeps.{keeps_all}
use Rattle.minor_collect.proofs.Takes.{same_words}

-- words stay twice
pub keeps_twice : {types : Table TypeInfo} {u v w : ℕ → ℕ} {now home : ℕ → Option ℕ} {places husks : List ℕ}
    → KeepsAll types u v now places husks → KeepsAll types v w home places husks → ((p at : ℕ) → now p ≡ Some at → home p ≡ Some at) → KeepsAll types u w now places husks
keeps_twice {types = types} {u = u} {v = v} {w = w} {now = now} {home = home} {places = places} a b less = record {
  objects = λ q t. both q (a.objects q t) (b.objects q t);
  husk = λ q t. both q (a.husk q t) (b.husk q t);
  shadow = λ q t. a.shadow q t ∙ b.shadow q (let g = given-by now (young_places places) q t in gives-in home (young_places places) g.place q g.there (less g.place q g.gives));
  low = λ k l. a.low k l ∙ b.low k l;
}
  where
    both : (q : ℕ) → SameAt types u v q → SameAt types v w q → SameAt types u w q
    both q x y = record {
      same = λ k l r. let size : words_at types v q ≡ words_at types w q = ap (λ (z : Layout). z.words) (keeps-same types v w q y).layout_stays in
          x.same k l (omega (arith, r, size)) ∙ y.same k l r;
    }

fewer-left : (a : ℕ) (xs : List ℕ) → length (without_place a xs) ≤ length xs
fewer-left a [] = omega arith
fewer-left a (x ∷ xs) = let more = fewer-left a xs in let long : length (x ∷ xs) ≡ suc (length xs) = refl in elim (eqb_tells x a) [
  | inl e ↦ rw e.0 (omega (arith, more))
  | inr e ↦ rw e.0 (omega (arith, more))
]

fewer-waits : (a : ℕ) (xs : List ℕ) → length (still_waiting a xs) ≤ length xs
fewer-waits a xs = elim (cases_Bool (nat_lt a 1099511627776)) [
  | inl e ↦ rw e (omega arith)
  | inr e ↦ rw e (fewer-left a xs)
]

module _ {types : Table TypeInfo} {page : ℕ} {w : ℕ → ℕ} {pins places husks waiting_before : List ℕ} {home now : ℕ → Option ℕ} {old : Old} {m : Memory} {waiting : List ℕ}
    (g : GivesHomes types page w pins places husks waiting_before home now old m waiting) where
  -- One more is given back.
  pub homes_step : (p at most : ℕ) (after_home : ℕ → Option ℕ) (new : Old) (after : Memory) → now p ≡ Some at → IsTrue (is_in p (young_places places)) → is_in p pins ≡ false
      → AreDifferent places → 0 < page → ((q : ℕ) → IsTrue (is_in q (young_places places)) → q + words_at types w q ≤ most + 1) → most ≤ 1048576
      → ((live : List Extent) (waits : List ℕ) → HasBlocks old m ((at, words_at types (word_at m.blocks) p) ∷ live) waits → HasBlocks new after live (still_waiting at waits))
      → ((live : List Extent) (waits : List ℕ) → HasBlocks old m ((at, words_at types (word_at m.blocks) p) ∷ live) waits → KeepsWords m after live)
      → KeepsOutside 4294967296 9223372036854775808 m after
      → after_home p ≡ None → ((q : ℕ) → q ≢ p → after_home q ≡ now q)
      → GivesHomes types page w pins places husks waiting_before home after_home new after (still_waiting at waiting)
  homes_step p at most after_home new after is there unpinned differ some inside small given kept outside none other =
      let u : ℕ → ℕ = word_at m.blocks in
      let n : ℕ = words_at types (word_at m.blocks) p in
      let less : List Extent = blocks_of types (word_at m.blocks) (without_home now p) (young_places places) (old_places places) husks [] in
      let has : HasBlocks old m ((at, words_at types (word_at m.blocks) p) ∷ blocks_of types (word_at m.blocks) (without_home now p) (young_places places) (old_places places) husks []) waiting =
      HasBlocks_permuted old m _ _ waiting g.blocks (blocks-taken types (word_at m.blocks) now p at is (young_places places) (old_places places) husks [] (part_differs is_young places differ) there) in
      let homes_same : blocks_of types (word_at m.blocks) (without_home now p) (young_places places) (old_places places) husks []
      ≡ blocks_of types (word_at m.blocks) after_home (young_places places) (old_places places) husks [] =
      ap (λ (xs : List Extent). map (block_at types (word_at m.blocks)) (old_places places) ++ (map (block_at types (word_at m.blocks)) husks ++ (xs ++ [])))
      (filter_map-agree (reserved_block types (word_at m.blocks) (without_home now p)) (reserved_block types (word_at m.blocks) after_home) (young_places places)
      (λ q t. ap (λ (o : Option ℕ). option_map (λ (k : ℕ). (k, words_at types (word_at m.blocks) q)) o) (elim (eqb_tells q p) [
        | inl e ↦ rw e.0 (sym (ap after_home e.1 ∙ none))
        | inr e ↦ rw e.0 (sym (other q e.1))
      ]))) in
      let stays : KeepsAll types (word_at after.blocks) (word_at m.blocks) after_home places husks =
      keeps_all types m after after_home places husks most
      (λ q t. let size : words_at types (word_at m.blocks) q ≡ words_at types w q = ap (λ (z : Layout). z.words) (keeps-same types (word_at m.blocks) w q (g.keeps.objects q (young-is_in places q t).0)).layout_stays in
      let i = inside q t in omega (arith, size, i)) small
      (subst (λ (live : List Extent). KeepsWords m after live) homes_same (kept _ waiting has)) outside in
      let apart = (HasBlocks-apart old m _ waiting has).0 in
      let live_blocks = HasBlocks-blocks new after _ (still_waiting at waiting) (given _ waiting has) in
      let S : List Extent = map (block_at types (word_at m.blocks)) (old_places places) in
      let H : List Extent = map (block_at types (word_at m.blocks)) husks in
      let R : List Extent = reserved_blocks types (word_at m.blocks) (without_home now p) (young_places places) ++ [] in
      let far : (q : ℕ) → IsApart (at, words_at types (word_at m.blocks) p) (q, words_at types (word_at m.blocks) q) → q ≢ at =
      λ q a e. elim a [
        | inl behind ↦ absurd (omega (arith, behind, e, (laid_out types (word_at m.blocks) p).header))
        | inr before ↦ absurd (omega (arith, before, e, (laid_out types (word_at m.blocks) q).header))
      ] in
      record {
        blocks = subst (λ (live : List Extent). HasBlocks new after live (still_waiting at waiting)) (homes_same ∙ blocks_same (same_words stays).objects after_home []) (given _ waiting has);
        keeps = keeps_twice stays g.keeps (λ q k e. elim (eqb_tells q p) [
          | inl z ↦ absurd (let bad : None ≡ Some k = sym none ∙ (ap after_home (sym z.1) ∙ e) in let no : ⊥ = cc in no)
          | inr z ↦ sym (other q z.1) ∙ e
        ]);
        homes = λ q. elim (eqb_tells q p) [
          | inl z ↦ inr (ap after_home z.1 ∙ none, ap (λ (k : ℕ). is_in k pins) z.1 ∙ unpinned)
          | inr z ↦ elim (g.homes q) [ inl same ↦ inl (other q z.1 ∙ same) | inr gone ↦ inr (other q z.1 ∙ gone.0, gone.1) ]
        ];
        waits = λ q t. elim (in-either q (old_places places) husks t) [
          | inl in_old ↦
              let a = each-member (IsApart (at, words_at types (word_at m.blocks) p)) (block_at types (word_at m.blocks)) (old_places places) q (each-left (IsApart (at, words_at types (word_at m.blocks) p)) S (H ++ R) apart) in_old in
              let b = each-member (IsBlock after) (block_at types (word_at m.blocks)) (old_places places) q (each-left (IsBlock after) S (H ++ R) live_blocks) in_old in
              waits_after page at q waiting (unit_other page at q some b.low (far q a)) ∙ g.waits q t
          | inr in_husk ↦
              let a = each-member (IsApart (at, words_at types (word_at m.blocks) p)) (block_at types (word_at m.blocks)) husks q
              (each-left (IsApart (at, words_at types (word_at m.blocks) p)) H R (each-right (IsApart (at, words_at types (word_at m.blocks) p)) S (H ++ R) apart)) in_husk in
              let b = each-member (IsBlock after) (block_at types (word_at m.blocks)) husks q (each-left (IsBlock after) H R (each-right (IsBlock after) S (H ++ R) live_blocks)) in_husk in
              waits_after page at q waiting (unit_other page at q some b.low (far q a)) ∙ g.waits q t
        ];
        fewer = let l = fewer-waits at waiting in omega (arith, l, g.fewer);
      }

  -- All others were given back: just pinned objects have one.
  pub homes_kept : (p : ℕ) → IsTrue (is_in p pins) → now p ≡ home p
  homes_kept p t = elim (g.homes p) [ inl same ↦ same | inr gone ↦ absurd (let f = gone.1 in let no : ⊥ = cc in no) ]

  pub homes_blocks : (name : ℕ → ℕ) (passes : ℕ → Bool) → ((p at : ℕ) → now p ≡ Some at → IsTrue (is_in p pins))
      → ((p : ℕ) → IsTrue (is_in p places) → passes (name p) ≡ false → is_in p pins ≡ false) → old_places (remaining passes name places) ≡ old_places places
      → HasBlocks old m (blocks_of types (word_at m.blocks) now (young_places (remaining passes name places)) (old_places (remaining passes name places)) husks []) waiting
  homes_blocks name passes only lose old_same =
      subst (λ (live : List Extent). HasBlocks old m live waiting) (blocks_remaining types (word_at m.blocks) now name passes places husks
      (λ p t f. none-of p (lose p t f) (now p) refl) old_same) g.blocks
    where
      none-of : (p : ℕ) → is_in p pins ≡ false → (o : Option ℕ) → now p ≡ o → now p ≡ None
      none-of p f None e = e
      none-of p f (Some at) e = absurd (let t = only p at e in let no : ⊥ = cc in no)
