-- A home is reserved for an object of the nursery, in a block that was taken for it.
use Rattle.std.proofs.Common.{◌≡◌, ◌≢◌, ℕ, ◌%◌, ◌≤◌, Bool, true, false, IsTrue, nat_eq, List, [], ◌∷◌, ◌++◌, map, Option, Some, None, refl, sym, ap, ap₂, ◌∙◌, subst, inl, inr, arith, append-nil}
use Rattle.std.specs.Prelude.{filter, filter_map, option_map, ◌==◌, cond, is_some}
use Rattle.std.specs.List.{IsDistinct, AllByRecursion, cons_option}
use Rattle.std.specs.List.Sorted.{IsPermutation}
use Rattle.std.specs.FinMap as map
use Rattle.std.specs.Ordering.{nat_cmp, eq_by_cmp}
use Rattle.std.specs.Cmp.{nat_cmp_total}
use Rattle.std.proofs.lemmas.List.{append_assoc}
use Rattle.std.proofs.lemmas.List.Sorted.{IsPermutation-cons, IsPermutation-to_front, IsPermutation-append_right, list_any-IsPermutation}
use Rattle.std.proofs.lemmas.Bool.{cases_Bool, eq-eqb, ne_eqb}
use Rattle.std.proofs.lemmas.Bool.Decides.{eqb_tells, nat_tests}
use Rattle.type_table.specs.declared.info.TypeInfo.{TypeInfo}
use Rattle.type_table.specs.Table.{value_at, with_value}
use Rattle.type_table.proofs.TableLaws.{value_at-with_value}
use Rattle.heap_space.specs.Places.{has, with_word, word_at}
use Rattle.heap_space.specs.Memory.{Memory}
use Rattle.heap_space.specs.Extents.{Extent, Each, IsApart, AreApart}
use Rattle.heap_space.proofs.Blocks.{lies-with_word}
use Rattle.object_header.specs.Words.{has_flag}
use Rattle.object_header.specs.declared.flags.Flag.TheVariants.{HasShadow, Pinned, HasCards}
use Rattle.object_view.proofs.WordLaws.{updated-here, updated-other}
use Rattle.object_model.proofs.Members.{is_in-head, is_in-tail, is_in-cases, is_in-nil, is_in-append, filter_map-agree, in-either}
use Rattle.object_view.proofs.LayoutLaws.{laid_out, info_at-same}
use Rattle.object_view.proofs.SpaceLaws.{word_at-written, lies-at}
use Rattle.object_view.proofs.FrameLaws.{header_holds}
use Rattle.old_space.specs.HasBlocks.{IsBlock, greatest_small, page_size}
use Rattle.old_space.specs.declared.Old.{Old}
use Rattle.old_space.proofs.JoinLaws.{HasBlocks_permuted, HasBlocks-apart, HasBlocks-blocks}
use Rattle.object_model.specs.Layout.{Layout}
use Rattle.store_model.specs.Store.{Store}
use Rattle.object_model.specs.Sets.{is_in}
use Rattle.object_model.specs.ObjectWords.{updated, words_at}
use Rattle.object_model.specs.Holds.{HoldsObjects}
use Rattle.store_model.specs.Sound.{IsSound}
use Rattle.parts_model.specs.Parts.{HeapParts, word_in, home_in}
use Rattle.parts_model.specs.Places.{is_young, young_places, old_places, block_at}
use Rattle.parts_model.specs.OldSpace.{reserved_block, reserved_blocks, reserved_homes}
use Rattle.parts_model.specs.Headers.{IsYoungHeader, IsShadowHeader, keeps_cards}
use Rattle.parts_model.specs.StandsFor.{PartsStandFor, HoldsWords}
use Rattle.frame_laws.proofs.Births.{rise-differ}
use Rattle.frame_laws.proofs.Members.{each-left, each-right}
use Rattle.parts_model.proofs.BlockLaws.{each-member}
use Rattle.frame_laws.proofs.PlaceLaws.{young-is_in, old-is_in}
use Rattle.frame_laws.proofs.KeepWords.{SameObjects, words_kept, firsts-stay}
use Rattle.frame_laws.proofs.WriteWords.{each-imp, each-both, each-reserved, header_written, husk_first, shadow_first, blocks_written}
use Rattle.frame_laws.proofs.TakeLaws.{MemoryKeeps, memory_same, memory_kept}
use Rattle.object_model.proofs.Distinct.{differ-in}

all-unnamed : (name : ℕ → ℕ) (x : ℕ) (test : ℕ → Bool) (ps : List ℕ) → AllByRecursion (λ y. nat_eq (name x) y ≡ false) (map name ps) → AllByRecursion (λ y. nat_eq x y ≡ false) (filter test ps)
all-unnamed name x test [] all = tt
all-unnamed name x test (p ∷ ps) all =
    let rest = all-unnamed name x test ps all.1 in
    let here : nat_eq x p ≡ false = ne_eqb x p (λ e. let same : nat_eq (name x) (name p) ≡ true = eq-eqb (name x) (name p) (ap name e) in let apart = all.0 in let no : ⊥ = cc in absurd no) in
    elim (cases_Bool (test p)) [ inl t ↦ rw t (here, rest) | inr f ↦ rw f rest ]

-- places with names that differ differ
distinct-unnamed : (name : ℕ → ℕ) (test : ℕ → Bool) (ps : List ℕ) → IsDistinct nat_eq (map name ps) → IsDistinct nat_eq (filter test ps)
unfolding IsDistinct
distinct-unnamed name test [] d = tt
distinct-unnamed name test (p ∷ ps) d =
    let rest = distinct-unnamed name test ps d.1 in
    elim (cases_Bool (test p)) [ inl t ↦ rw t (all-unnamed name p test ps d.0, rest) | inr f ↦ rw f rest ]

-- one more of a list is found, and comes last
found-more : {X : Type 0} (f g : ℕ → Option X) (p : ℕ) (e : X) (ps : List ℕ) → IsDistinct nat_eq ps → IsTrue (is_in p ps) → f p ≡ None → g p ≡ Some e → ((q : ℕ) → q ≢ p → g q ≡ f q)
    → IsPermutation (filter_map f ps ++ e ∷ []) (filter_map g ps)
unfolding IsDistinct
found-more f g p e [] d t none some other = absurd (is_in-nil p t)
found-more {X = X} f g p e (q ∷ ps) d t none some other = elim (eqb_tells q p) [
  | inl same ↦
      let apart : IsTrue (is_in p ps) → ⊥ = λ u. differ-in q ps d.0 (let P : ℕ → Type 0 = λ k. IsTrue (is_in k ps) in subst P (sym same.1) u) in
      let rest : filter_map g ps ≡ filter_map f ps = filter_map-agree g f ps (λ r u. other r (λ z. apart (let P : ℕ → Type 0 = λ k. IsTrue (is_in k ps) in subst P z u))) in
      let here_g : g q ≡ Some e = ap g same.1 ∙ some in
      let here_f : f q ≡ None = ap f same.1 ∙ none in
      let left : filter_map f (q ∷ ps) ≡ filter_map f ps = ap (λ (o : Option X). cons_option o (filter_map f ps)) here_f in
      let right : filter_map g (q ∷ ps) ≡ e ∷ filter_map f ps = ap₂ (λ (o : Option X) (xs : List X). cons_option o xs) here_g rest in
      subst (λ (xs : List X). IsPermutation (xs ++ e ∷ []) (filter_map g (q ∷ ps))) (sym left)
      (subst (λ (xs : List X). IsPermutation (filter_map f ps ++ e ∷ []) xs) (sym right) (IsPermutation-to_front (filter_map f ps) e))
  | inr differ ↦
      let there : IsTrue (is_in p ps) = elim (is_in-cases p q ps t) [ inl z ↦ absurd (differ.1 (sym z)) | inr u ↦ u ] in
      let more = found-more f g p e ps d.1 there none some other in
      subst (λ (o : Option X). IsPermutation (cons_option (f q) (filter_map f ps) ++ e ∷ []) (cons_option o (filter_map g ps))) (sym (other q differ.1))
      (both (f q) (filter_map f ps) (filter_map g ps) more)
]
  where
    both : (o : Option X) (xs ys : List X) → IsPermutation (xs ++ e ∷ []) ys → IsPermutation (cons_option o xs ++ e ∷ []) (cons_option o ys)
    both None xs ys h = h
    both (Some x) xs ys h = IsPermutation-cons x (xs ++ e ∷ []) ys h

-- the heap with a home reserved for the object at a place
abbrev pub with_home : HeapParts → Memory → Old → ℕ → ℕ → ℕ → HeapParts
with_home heap memory old_blocks p x home = record heap {
  memory = record memory { blocks = with_word memory.blocks p x };
  old_blocks = old_blocks;
  shadows = map.insert heap.shadows p home;
}

home-here : (heap : HeapParts) (memory : Memory) (old_blocks : Old) (p x at : ℕ) → home_in (with_home heap memory old_blocks p x at) p ≡ Some at
home-here heap memory old_blocks p x at = map.get-insert nat_cmp_total heap.shadows p at p ∙ (let same : eq_by_cmp nat_cmp p p ≡ true = grind (arith, nat_tests) in ap (λ (b : Bool). cond b (Some at) (map.get heap.shadows p)) same)

home-other : (heap : HeapParts) (memory : Memory) (old_blocks : Old) (p x at q : ℕ) → q ≢ p → home_in (with_home heap memory old_blocks p x at) q ≡ home_in heap q
home-other heap memory old_blocks p x at q ne = map.get-insert nat_cmp_total heap.shadows p at q ∙ (let other : eq_by_cmp nat_cmp q p ≡ false = grind (arith, nat_tests) in ap (λ (b : Bool). cond b (Some at) (map.get heap.shadows q)) other)

-- A home is reserved for an object of the nursery: its block was taken, and its first word says that it is one.
pub reserve_stands : (heap : HeapParts) (store : Store) (s : PartsStandFor heap store) (memory : Memory) (old_blocks : Old) (p x at : ℕ)
    → MemoryKeeps heap.setup.types heap.memory memory heap.nursery old_blocks (home_in heap) ((at, words_at heap.setup.types (word_in heap) p) ∷ []) s.places s.husks s.waiting
    → IsTrue (is_in p (young_places s.places)) → home_in heap p ≡ None → IsShadowHeader (word_at memory.blocks at)
    → x % 65536 ≡ word_in heap p % 65536 → IsYoungHeader x → has_flag x HasShadow ≡ true → has_flag x Pinned ≡ has_flag (word_in heap p) Pinned
    → (memory.arena_words ≡ heap.memory.arena_words) × (greatest_small old_blocks ≡ greatest_small heap.old_blocks) × (page_size old_blocks ≡ page_size heap.old_blocks)
    → IsSound heap.setup.settings (record store { homes = with_value store.homes (s.name p) at })
    → PartsStandFor (with_home heap memory old_blocks p x at) (record store { homes = with_value store.homes (s.name p) at })
reserve_stands heap store s memory old_blocks p x at keeps t none shadow type young shadowed pinned made sound =
    let types = heap.setup.types in
    let n : ℕ = words_at types (word_in heap) p in
    let new : HeapParts = with_home heap memory old_blocks p x at in
    let home : ℕ → Option ℕ = home_in heap in let more : ℕ → Option ℕ = home_in new in
    let w : ℕ → ℕ = word_in heap in let m : ℕ → ℕ = word_at memory.blocks in let v : ℕ → ℕ = word_in new in
    let place = young-is_in s.places p t in
    let here : more p ≡ Some at = home-here heap memory old_blocks p x at in
    let other : (q : ℕ) → q ≢ p → more q ≡ home q = home-other heap memory old_blocks p x at in
    let same = memory_same s.words keeps in
    let kept = memory_kept s.words keeps in
    let size : words_at types m p ≡ n = ap (λ (l : Layout). l.words) (same.objects.layouts p place.0).layout_stays in
    let distinct : IsDistinct nat_eq (young_places s.places) = distinct-unnamed s.name is_young s.places (rise-differ 1 heap.next (map s.name s.places) s.births.rise) in
    let blocks_more : IsPermutation (reserved_blocks types m home (young_places s.places) ++ (at, n) ∷ []) (reserved_blocks types m more (young_places s.places)) =
    found-more (reserved_block types m home) (reserved_block types m more) p (at, n) (young_places s.places) distinct t
    (ap (option_map (λ (k : ℕ). (k, words_at types m p))) none) (ap (option_map (λ (k : ℕ). (k, words_at types m p))) here ∙ ap (λ (k : ℕ). Some (at, k)) size)
    (λ q ne. ap (option_map (λ (k : ℕ). (k, words_at types m q))) (other q ne)) in
    let homes_more : IsPermutation (reserved_homes home (young_places s.places) ++ at ∷ []) (reserved_homes more (young_places s.places)) =
    found-more home more p at (young_places s.places) distinct t none here other in
    let reserved : HoldsWords types heap.setup.settings.page memory heap.nursery old_blocks more heap.weaks [] store.kept store.husks s.places s.husks s.waiting s.name = record {
      objects = kept.objects;
      whole = kept.whole;
      weak = kept.weak;
      young = kept.young;
      blocks = HasBlocks_permuted old_blocks memory _ _ s.waiting kept.blocks
          (IsPermutation-append_right (map (block_at types m) (old_places s.places)) _ _ (IsPermutation-append_right (map (block_at types m) s.husks) _ _
          (subst (λ (xs : List Extent). IsPermutation (reserved_blocks types m home (young_places s.places) ++ (at, n) ∷ []) xs) (sym (append-nil (reserved_blocks types m more (young_places s.places)))) blocks_more)));
      husk = kept.husk;
    } in
    let small : heap.nursery.words ≤ 1048576 = omega (arith, s.made.words, s.made.ranges.1) in
    let one : SameObjects types (updated m p x) m s.places s.husks = header_written reserved small p place.0 x (type ∙ ap (λ (k : ℕ). k % 65536) (sym (same.firsts p place.0))) young.live.header in
    let long = (laid_out types m p).header in
    let has_word : has memory.blocks p ≡ true = lies-at memory.blocks p (words_at types m p) p (reserved.whole p place.0).whole (omega arith) (omega (arith, long)) in
    let words : updated m p x ≡ v = sym (word_at-written memory.blocks p x has_word) in
    let later : SameObjects types v m s.places s.husks = subst (λ (f : ℕ → ℕ). SameObjects types f m s.places s.husks) words one in
    let objects : HoldsObjects types v s.places s.places s.name store.kept =
    subst (λ (f : ℕ → ℕ). HoldsObjects types f s.places s.places s.name store.kept) words
    (header_holds p x reserved.objects place.0 (type ∙ ap (λ (k : ℕ). k % 65536) (sym (same.firsts p place.0))) young.live.header) in
    let v_here : v p ≡ x = ap (λ (f : ℕ → ℕ). f p) (sym words) ∙ updated-here m p x p refl in
    let v_other : (q : ℕ) → q ≢ p → v q ≡ m q = λ q ne. ap (λ (f : ℕ → ℕ). f q) (sym words) ∙ updated-other m p x q ne in
    let v_young : (q : ℕ) → q ≢ p → IsTrue (is_in q (young_places s.places)) → v q ≡ w q = λ q ne u. v_other q ne ∙ same.firsts q (young-is_in s.places q u).0 in
    let v_old : (q : ℕ) → IsTrue (is_in q (old_places s.places)) → v q ≡ w q =
    λ q u. v_other q (λ e. let no : is_young q ≡ false = (old-is_in s.places q u).1 in let yes : is_young q ≡ true = ap is_young e ∙ place.1 in let not_both : ⊥ = cc in not_both) ∙ same.firsts q (old-is_in s.places q u).0 in
    let v_husk : (q : ℕ) → IsTrue (is_in q s.husks) → v q ≡ w q =
    λ q u. ap (λ (f : ℕ → ℕ). f q) (sym words) ∙ (husk_first reserved small p place.0 p x (omega arith) (omega (arith, long)) q u ∙ same.husk_firsts q u) in
    let v_shadow : (q : ℕ) → IsTrue (is_in q (reserved_homes more (young_places s.places))) → v q ≡ m q =
    λ q u. ap (λ (f : ℕ → ℕ). f q) (sym words) ∙ shadow_first reserved small p place.0 p x (omega arith) (omega (arith, long)) q u in
    record {
      places = s.places;
      name = s.name;
      husks = s.husks;
      waiting = s.waiting;
      words = words_kept later (λ a k. lies-with_word memory.blocks p x a k) (blocks_written reserved small p place.0 p x (omega arith) (omega (arith, long))) objects reserved;
      headers = record {
        settled = firsts-stay v v_old s.headers.settled;
        husk = firsts-stay v v_husk s.headers.husk;
        shadow = record {
          each = λ q u. subst IsShadowHeader (sym (v_shadow q u)) (elim (is_in-append (reserved_homes home (young_places s.places)) at q
              (subst IsTrue (sym (list_any-IsPermutation (λ (y : ℕ). y == q) (reserved_homes home (young_places s.places) ++ at ∷ []) (reserved_homes more (young_places s.places)) homes_more)) u)) [
                | inl e ↦ subst (λ (k : ℕ). IsShadowHeader (m k)) (sym e) shadow
                | inr old ↦ subst IsShadowHeader (sym (same.shadow_firsts q old)) (s.headers.shadow.each q old)
              ]);
        };
        young = record {
          each = λ q u. elim (eqb_tells q p) [
            | inl e ↦ (let P : ℕ → Type 0 = λ k. IsYoungHeader (v k) in subst P (sym e.1) (subst IsYoungHeader (sym v_here) young))
            | inr e ↦ subst IsYoungHeader (sym (v_young q e.1 u)) (s.headers.young.each q u)
          ];
        };
      };
      young_flags = record {
        pinned = record {
          each = λ q u. elim (eqb_tells q p) [
            | inl e ↦ (let P : ℕ → Type 0 = λ k. has_flag (v k) Pinned ≡ is_in k (map (λ entry. entry.0) heap.pins) in
                subst P (sym e.1) (ap (λ (k : ℕ). has_flag k Pinned) v_here ∙ (pinned ∙ s.young_flags.pinned.each p t)))
            | inr e ↦ ap (λ (k : ℕ). has_flag k Pinned) (v_young q e.1 u) ∙ s.young_flags.pinned.each q u
          ];
        };
        has_shadow = record {
          each = λ q u. elim (eqb_tells q p) [
            | inl e ↦ (let P : ℕ → Type 0 = λ k. has_flag (v k) HasShadow ≡ is_some (more k) in
                subst P (sym e.1) (ap (λ (k : ℕ). has_flag k HasShadow) v_here ∙ (shadowed ∙ sym (ap (λ (o : Option ℕ). is_some o) here))))
            | inr e ↦ ap (λ (k : ℕ). has_flag k HasShadow) (v_young q e.1 u) ∙ (s.young_flags.has_shadow.each q u ∙ ap (λ (o : Option ℕ). is_some o) (sym (other q e.1)))
          ];
        };
      };
      visited = firsts-stay v v_old s.visited;
      remembered = record {
        there = s.remembered.there;
        tracked = firsts-stay v v_old s.remembered.tracked;
        carded = λ q u.
            let first = same.objects.layouts q (old-is_in s.places q u).0 in let second = later.layouts q (old-is_in s.places q u).0 in
            ap (λ (k : ℕ). has_flag k HasCards) (v_old q u) ∙ (s.remembered.carded q u
            ∙ ap₂ (λ (i : TypeInfo) (l : Layout). keeps_cards heap.setup.settings.card i.shape l.ref_count)
            (sym (info_at-same types v m q second.type_stays ∙ info_at-same types m w q first.type_stays)) (sym (second.layout_stays ∙ first.layout_stays)));
      };
      births = s.births;
      slots = s.slots;
      pins = s.pins;
      finalizers = s.finalizers;
      links = s.links;
      homes = record {
        told = λ birth a e. elim (eqb_tells birth (s.name p)) [
          | inl is ↦ inr (record {
            place = p;
            there = t;
            named = sym is.1;
            reserved = here ∙ (sym (ap (λ (b : Bool). cond b (Some at) (value_at store.homes birth)) is.0) ∙ (sym (value_at-with_value store.homes (s.name p) birth at) ∙ e));
          })
          | inr differ ↦ elim (s.homes.told birth a (sym (value_at-with_value store.homes (s.name p) birth at ∙ ap (λ (b : Bool). cond b (Some at) (value_at store.homes birth)) differ.0) ∙ e)) [
            | inl o ↦ inl o
            | inr r ↦ inr (record {
              place = r.place;
              there = r.there;
              named = r.named;
              reserved = other r.place (λ z. let taken : home p ≡ Some a = ap home (sym z) ∙ r.reserved in let no : ⊥ = cc in no) ∙ r.reserved;
            })
          ]
        ];
        reserved = λ q a e. elim (eqb_tells q p) [
          | inl is ↦ (let P : ℕ → Type 0 = λ k. IsTrue (is_in k (young_places s.places)) in subst P (sym is.1) t)
          | inr differ ↦ s.homes.reserved q a (sym (other q differ.1) ∙ e)
        ];
        known = λ q a e. elim (eqb_tells q p) [
          | inl is ↦ value_at-with_value store.homes (s.name p) (s.name q) at
              ∙ (ap (λ (b : Bool). cond b (Some at) (value_at store.homes (s.name q))) (eq-eqb (s.name q) (s.name p) (ap s.name is.1))
              ∙ (sym here ∙ (ap more (sym is.1) ∙ e)))
          | inr differ ↦
              (let old : home q ≡ Some a = sym (other q differ.1) ∙ e in
              let apart : (s.name q == s.name p) ≡ false = ne_eqb (s.name q) (s.name p) (λ z. differ.1 (s.words.objects.differ q p (young-is_in s.places q (s.homes.reserved q a old)).0 place.0 z)) in
              value_at-with_value store.homes (s.name p) (s.name q) at ∙ (ap (λ (b : Bool). cond b (Some at) (value_at store.homes (s.name q))) apart ∙ s.homes.known q a old))
        ];
      };
      gray = s.gray;
      gray_phase = s.gray_phase;
      sums = s.sums;
      husk_list = s.husk_list;
      counts = s.counts;
      ungapped = s.ungapped;
      units = s.units;
      made = record { ranges = s.made.ranges; words = s.made.words; pins = s.made.pins; card = s.made.card; arena = made.0 ∙ s.made.arena; small = made.1 ∙ s.made.small; page = made.2 ∙ s.made.page };
      order = s.order;
      sound = sound;
    }

-- a block that is told last is apart from those before it
pub last-apart : (xs : List Extent) (y : Extent) → AreApart (xs ++ y ∷ []) → Each (λ x. IsApart x y) xs
last-apart [] y a = tt
last-apart (x ∷ xs) y a = ((each-right (IsApart x) xs (y ∷ []) a.0).0, last-apart xs y a.1)

behind-option : (o : Option ℕ) (xs : List ℕ) (a : ℕ) → IsTrue (is_in a xs) → IsTrue (is_in a (cons_option o xs))
behind-option None xs a t = t
behind-option (Some x) xs a t = is_in-tail a x xs t

pub found-in : (home : ℕ → Option ℕ) (ps : List ℕ) (q a : ℕ) → IsTrue (is_in q ps) → home q ≡ Some a → IsTrue (is_in a (reserved_homes home ps))
found-in home [] q a t e = absurd (is_in-nil q t)
found-in home (p ∷ ps) q a t e = elim (is_in-cases q p ps t) [
  | inl same ↦ (let is : home p ≡ Some a = ap home (sym same) ∙ e in subst (λ (o : Option ℕ). IsTrue (is_in a (cons_option o (reserved_homes home ps)))) (sym is) (is_in-head a (reserved_homes home ps)))
  | inr u ↦ behind-option (home p) (reserved_homes home ps) a (found-in home ps q a u e)
]

-- What was taken is nobody's home.
pub nobody_home : (heap : HeapParts) (store : Store) (s : PartsStandFor heap store) (memory : Memory) (old_blocks : Old) (at n : ℕ)
    → MemoryKeeps heap.setup.types heap.memory memory heap.nursery old_blocks (home_in heap) ((at, n) ∷ []) s.places s.husks s.waiting
    → (birth : ℕ) → value_at store.homes birth ≡ Some at → ⊥
nobody_home heap store s memory old_blocks at n keeps birth e =
    let types = heap.setup.types in let w : ℕ → ℕ = word_in heap in
    let settled : List Extent = map (block_at types w) (old_places s.places) in
    let husks : List Extent = map (block_at types w) s.husks in
    let reserved : List Extent = reserved_blocks types w (home_in heap) (young_places s.places) in
    let all : List Extent = settled ++ (husks ++ (reserved ++ (at, n) ∷ [])) in
    let joined : all ≡ (settled ++ (husks ++ reserved)) ++ (at, n) ∷ [] =
    sym (append_assoc settled (husks ++ reserved) ((at, n) ∷ []) ∙ ap (λ (xs : List Extent). settled ++ xs) (append_assoc husks reserved ((at, n) ∷ []))) in
    let blocks : Each (IsBlock memory) ((settled ++ (husks ++ reserved)) ++ (at, n) ∷ []) = subst (λ (xs : List Extent). Each (IsBlock memory) xs) joined (HasBlocks-blocks old_blocks memory all s.waiting keeps.blocks) in
    let apart : Each (λ x. IsApart x (at, n)) (settled ++ (husks ++ reserved)) = last-apart (settled ++ (husks ++ reserved)) (at, n) (subst AreApart joined (HasBlocks-apart old_blocks memory all s.waiting keeps.blocks)) in
    let wide = (each-right (IsBlock memory) (settled ++ (husks ++ reserved)) ((at, n) ∷ []) blocks).0.wide in
    let both : Each (λ x. IsApart x (at, n) × (2 ≤ x.1)) (settled ++ (husks ++ reserved)) =
    each-both (λ x. IsApart x (at, n)) (λ x. 2 ≤ x.1) (settled ++ (husks ++ reserved)) apart
    (each-imp (IsBlock memory) (λ x. 2 ≤ x.1) (settled ++ (husks ++ reserved)) (λ x b. b.wide) (each-left (IsBlock memory) (settled ++ (husks ++ reserved)) ((at, n) ∷ []) blocks)) in
    let P : Extent → Type 0 = λ x. IsApart x (at, n) × (2 ≤ x.1) in
    let clash : (k : ℕ) → P (at, k) → ⊥ = λ k h. elim h.0 [
      | inl before ↦ (let no : ⊥ = omega (arith, before, h.1) in no)
      | inr behind ↦ (let no : ⊥ = omega (arith, behind, wide) in no)
    ] in
    let rest : Each P (husks ++ reserved) = each-right P settled (husks ++ reserved) both in
    elim (s.homes.told birth at e) [
      | inl o ↦ elim (in-either at (old_places s.places) s.husks o.there) [
        | inl t ↦ clash (words_at types w at) (each-member P (block_at types w) (old_places s.places) at (each-left P settled (husks ++ reserved) both) t)
        | inr t ↦ clash (words_at types w at) (each-member P (block_at types w) s.husks at (each-left P husks reserved rest) t)
      ]
      | inr r ↦
          (let some = each-reserved P types w (home_in heap) (young_places s.places) at (each-right P husks reserved rest) (found-in (home_in heap) (young_places s.places) r.place at r.there r.reserved) in
          clash some.n some.is)
    ]
