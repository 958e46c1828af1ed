-- A store without some husks is sound.
use Rattle.std.proofs.Common.{◌≡◌, ◌≢◌, ℕ, suc, ◌+◌, ◌*◌, ◌≤◌, ◌⊎◌, Bool, true, false, IsTrue, List, [], ◌∷◌, ◌++◌, map, length, nat_eq, refl, sym, ap, ap₂, ◌∙◌, subst, inl, inr, arith}
use Rattle.std.specs.Prelude.{nat_le, nat_lt, not, ◌==◌, ◌&&◌, filter, sum_by, if◌then◌else◌}
use Rattle.std.specs.List.{IsDistinct, AllByRecursion}
use Rattle.std.specs.List.Sorted.{IsPermutation}
use Rattle.std.proofs.lemmas.Bool.{cases_Bool, ne_eqb}
use Rattle.std.proofs.lemmas.Bool.Decides.{eqb_tells, nat_tests}
use Rattle.std.proofs.lemmas.List.Sorted.{list_any-IsPermutation, IsPermutation-sym}
use Rattle.std.proofs.lemmas.Simd.{map-map}
use Rattle.type_table.specs.declared.info.TypeInfo.{TypeInfo}
use Rattle.type_table.specs.Table.{Table}
use Rattle.heap_space.specs.Places.{word_at}
use Rattle.heap_space.specs.Memory.{Memory}
use Rattle.heap_space.specs.Extents.{Extent, Each}
use Rattle.object_header.specs.Words.{has_flag, without_flag}
use Rattle.object_header.specs.declared.flags.Flag.{Flag}
use Rattle.object_header.specs.declared.flags.Flag.TheVariants.{Track, Visited, HasShadow, Pinned, HasCards, CardsSet, Free, Shadow, Order1, Order2}
use Rattle.object_header.proofs.WordLaws.{has_flag-without_flag_other, has_flag-without_flag_same, IsHeader-without_flag}
use Rattle.object_model.proofs.Members.{is_in-head, is_in-tail, is_in-cases, is_in-nil, map-same, filter-part, filter-member, in-left, in-right, in-either, and_both, is_in-named, not-true}
use Rattle.object_view.proofs.LayoutLaws.{laid_out, info_at-same, birth-from}
use Rattle.type_table.proofs.TableLaws.{KeysRise-entries_where}
use Rattle.size_pages.specs.LiveBlocks.{in_page}
use Rattle.heap_phases.proofs.UnitOffers.{PageUnit, unit_kind, page-test, large-test}
use Rattle.heap_phases.proofs.UnitWords.{page_few, where_passes, sum_append, sum_placed}
use Rattle.heap_parts.specs.OldSpace.{reserved_blocks, blocks_of, husk_at, unit_at, is_waiting, AreUnitsSwept}
use Rattle.frame_laws.proofs.Members.{each-left, each-right}
use Rattle.heap_parts.proofs.BlockLaws.{each-member}
use Rattle.std.proofs.lemmas.List.Sums.{sum_by-cons}
use Rattle.std.proofs.lemmas.List.{length-map}
use Rattle.object_model.specs.Holds.{HoldsObjects}
use Rattle.object_model.specs.ObjectWords.{object_from, words_at}
use Rattle.old_space.specs.Sweeping.{SweepsLowest, in_unit, dead_blocks}
use Rattle.old_space.specs.declared.Old.{Old}
use Rattle.object_model.specs.declared.settings.Settings.{Settings}
use Rattle.text_model.specs.declared.line.Phase.{Phase}
use Rattle.text_model.specs.declared.line.Phase.TheVariants.{Sweeping}
use Rattle.object_model.specs.Layout.{Layout}
use Rattle.object_model.specs.Object.{Object}
use Rattle.store_model.specs.Store.{Store, husk_words}
use Rattle.object_model.specs.Setup.{small_words}
use Rattle.object_model.specs.Sets.{is_in}
use Rattle.store_model.specs.Sweeping.{husks_where, is_freed}
use Rattle.heap_parts.specs.Parts.{HeapParts, word_in, home_in}
use Rattle.heap_parts.specs.Places.{young_places, old_places, block_at}
use Rattle.heap_parts.specs.Headers.{IsSettledHeader, is_marked, keeps_cards}
use Rattle.heap_parts.specs.StandsFor.{PartsStandFor, HoldsWords}
use Rattle.heap_phases.specs.Swept.{without_husks, swept_parts, freed_words}
use Rattle.frame_laws.proofs.PlaceLaws.{young-is_in, old-is_in, named-by as named_by}
use Rattle.heap_parts.proofs.SameLayouts.{SameLayouts}
use Rattle.frame_laws.proofs.KeepWords.{firsts-stay}
use Rattle.heap_phases.proofs.EndStands.{sum_map, sum_split}
use Rattle.frame_laws.proofs.Filters.{filter_at, filter_none}
use Rattle.heap_phases.proofs.SweepWords.{other_husks, swept, swept_words, first_is, husk_first_is, shadow_first_is, low_same, swept_layouts, dead_are, or_later}
use Rattle.store_model.proofs.Homes.{found_where, kept_where}
use Rattle.object_model.proofs.Distinct.{distinct-right, distinct-less, distinct-apart}
use Rattle.store_model.proofs.HusksSound.{husks_sound}
use Rattle.old_space.specs.HasBlocks.{page_size}

-- names that differ are those of places that differ
distinct-names : (name : ℕ → ℕ) (ps : List ℕ) → IsDistinct nat_eq (map name ps) → (p q : ℕ) → IsTrue (is_in p ps) → IsTrue (is_in q ps) → name p ≡ name q → p ≡ q
unfolding IsDistinct
distinct-names name [] d p q t u e = absurd (is_in-nil p t)
distinct-names name (r ∷ ps) d p q t u e = go (distinct-names name ps d.1 p q) (is_in-cases p r ps t) (is_in-cases q r ps u)
  where
    apart : (k : ℕ) (xs : List ℕ) → AllByRecursion (λ y. nat_eq k y ≡ false) (map name xs) → (x : ℕ) → IsTrue (is_in x xs) → k ≡ name x → ⊥
    apart k [] all x t e = is_in-nil x t
    apart k (y ∷ ys) all x t e = elim (is_in-cases x y ys t) [
      | inl is ↦ let f = all.0 in let same : k ≡ name y = e ∙ ap name is in grind (arith, nat_tests)
      | inr v ↦ apart k ys all.1 x v e
    ]

    go : (IsTrue (is_in p ps) → IsTrue (is_in q ps) → name p ≡ name q → p ≡ q) → (p ≡ r) ⊎ IsTrue (is_in p ps) → (q ≡ r) ⊎ IsTrue (is_in q ps) → p ≡ q
    go more (inl a) (inl b) = a ∙ sym b
    go more (inl a) (inr b) = absurd (apart (name r) ps d.0 q b (ap name (sym a) ∙ e))
    go more (inr a) (inl b) = absurd (apart (name r) ps d.0 p a (ap name (sym b) ∙ sym e))
    go more (inr a) (inr b) = more a b e

kept-births : {types : Table TypeInfo} {w name : ℕ → ℕ} {met places : List ℕ} {kept : List Object} → HoldsObjects types w met places name kept → map (λ (o : Object). o.birth) kept ≡ map name places
kept-births {types = types} {w = w} {name = name} {places = places} h =
    ap (map (λ (o : Object). o.birth)) h.reads ∙ (map-map (λ (o : Object). o.birth) (object_from types name w) places
    ∙ map-same (λ p. (object_from types name w p).birth) name places (λ p t. birth-from types name w p ∙ sym (h.named p t)))

and-none : (b : Bool) → (b && false) ≡ false
and-none true = refl
and-none false = refl

unvisited-flag : (word : ℕ) (flag : Flag) → flag ≢ Visited → has_flag (without_flag word Visited) flag ≡ has_flag word flag
unvisited-flag word flag ne = has_flag-without_flag_other word Visited flag ne

settled-unvisited : (word : ℕ) → IsSettledHeader word → IsSettledHeader (without_flag word Visited)
settled-unvisited word h = record {
  live = record {
    header = IsHeader-without_flag word Visited h.live.header;
    not_free = unvisited-flag word Free (λ e. let no : ⊥ = cc in no) ∙ h.live.not_free;
    not_order1 = unvisited-flag word Order1 (λ e. let no : ⊥ = cc in no) ∙ h.live.not_order1;
    not_order2 = unvisited-flag word Order2 (λ e. let no : ⊥ = cc in no) ∙ h.live.not_order2;
  };
  not_shadow = unvisited-flag word Shadow (λ e. let no : ⊥ = cc in no) ∙ h.not_shadow;
  not_has_shadow = unvisited-flag word HasShadow (λ e. let no : ⊥ = cc in no) ∙ h.not_has_shadow;
  not_pinned = unvisited-flag word Pinned (λ e. let no : ⊥ = cc in no) ∙ h.not_pinned;
}

not-above : (most n : ℕ) → n ≤ most → nat_lt most n ≡ false
not-above most n l = grind (arith, nat_tests)

-- What is known where a unit is swept.
pub record SweepsOne (heap : HeapParts) (store : Store) (s : PartsStandFor heap store) (new : Old) (memory : Memory) (births : List ℕ) : Type 0 where
  pub unit : ℕ
  pub rest : List ℕ
  pub waits : s.waiting ≡ unit ∷ rest
  -- the unit waits once
  pub once : is_in unit rest ≡ false
  -- the blocks of the unit are those whose unit it is
  pub units : Each (λ x. in_unit heap.old_blocks unit x ≡ (unit_at heap.setup.settings.page x.0 == unit))
      (blocks_of heap.setup.types (word_in heap) (home_in heap) (young_places s.places) (old_places s.places) s.husks [])
  pub step : SweepsLowest heap.old_blocks heap.memory new memory births
  -- nothing was born settled since the last minor collection
  pub no_fresh : heap.fresh ≡ 0

module _ (heap : HeapParts) (store : Store) (s : PartsStandFor heap store) (sweeping : heap.phase ≡ Sweeping) (new : Old) (memory : Memory) (births : List ℕ)
    (o : SweepsOne heap store s new memory births) where
  abbrev settings : Settings
  settings = heap.setup.settings

  abbrev page_words : ℕ
  page_words = heap.setup.settings.page

  abbrev types : Table TypeInfo
  types = heap.setup.types

  abbrev lost : List ℕ
  lost = filter (λ p. unit_at heap.setup.settings.page p == o.unit) s.husks

  abbrev left : List ℕ
  left = other_husks heap.setup.settings.page o.unit s.husks

  store-sweeping : store.phase ≡ Sweeping
  store-sweeping = s.counts.phase_is ∙ sweeping

  small : heap.nursery.words ≤ 1048576
  small = omega (arith, s.made.words, s.made.ranges.1)

  words-before : HoldsWords types page_words heap.memory heap.nursery heap.old_blocks (home_in heap) heap.weaks [] store.kept store.husks s.places s.husks (o.unit ∷ o.rest) s.name
  words-before = subst (λ (ws : List ℕ). HoldsWords types page_words heap.memory heap.nursery heap.old_blocks (home_in heap) heap.weaks [] store.kept store.husks s.places s.husks ws s.name) o.waits s.words

  visited-before : (p : ℕ) → IsTrue (is_in p (old_places s.places)) → has_flag (word_in heap p) Visited ≡ is_waiting page_words (o.unit ∷ o.rest) p
  visited-before p t = s.visited.each p t ∙ (ap (λ (ph : Phase). is_marked ph store.visited s.name page_words s.waiting p) sweeping ∙ ap (λ (ws : List ℕ). is_waiting page_words ws p) o.waits)

  first-is : (p : ℕ) → IsTrue (is_in p (old_places s.places)) → word_at memory.blocks p ≡ (if (unit_at page_words p == o.unit) then without_flag (word_in heap p) Visited else word_in heap p)
  first-is = first_is words-before s.headers visited-before o.units o.step

  young-is : (p : ℕ) → IsTrue (is_in p (young_places s.places)) → word_at memory.blocks p ≡ word_in heap p
  young-is p t = low_same words-before s.headers visited-before o.units o.step p
      (let inside = s.words.young.inside p t in let size = (laid_out types (word_in heap) p).header in omega (arith, inside, size, small))

  other-flag : (flag : Flag) → flag ≢ Visited → (p : ℕ) → IsTrue (is_in p (old_places s.places)) → has_flag (word_at memory.blocks p) flag ≡ has_flag (word_in heap p) flag
  other-flag flag ne p t = ap (λ (k : ℕ). has_flag k flag) (first-is p t) ∙ (elim (cases_Bool (unit_at page_words p == o.unit)) [
    | inl e ↦ rw e (unvisited-flag (word_in heap p) flag ne)
    | inr e ↦ rw e refl
  ])

  layouts : SameLayouts types (word_at memory.blocks) (word_in heap) s.places
  layouts = swept_layouts words-before s.headers visited-before o.units o.step small

  -- the births that were freed are those of the husks of the unit
  freed-is : (p : ℕ) → IsTrue (is_in p s.husks) → is_in (s.name p) births ≡ (unit_at page_words p == o.unit)
  freed-is p t =
      let w : ℕ → ℕ = word_in heap in
      let gone = swept words-before s.headers visited-before o.units o.step in
      let moved : is_in (s.name p) (map (λ (x : Extent). w (x.0 + 1)) (dead_blocks heap.old_blocks heap.memory o.unit _)) ≡ is_in (s.name p) births = list_any-IsPermutation (λ (y : ℕ). y == s.name p) _ births gone.freed in
      let listed : map (λ (x : Extent). w (x.0 + 1)) (dead_blocks heap.old_blocks heap.memory o.unit _) ≡ map s.name lost =
      ap (map (λ (x : Extent). w (x.0 + 1))) (dead_are words-before s.headers visited-before o.units o.step)
      ∙ (map-map (λ (x : Extent). w (x.0 + 1)) (block_at types w) lost
      ∙ map-same (λ q. w (q + 1)) s.name lost (λ q u. sym (s.words.husk.named q (filter-part (λ q. unit_at page_words q == o.unit) s.husks q u).0))) in
      sym moved ∙ (ap (is_in (s.name p)) listed ∙ (elim (cases_Bool (unit_at page_words p == o.unit)) [
        | inl e ↦ is_in-named s.name p lost (filter-member (λ q. unit_at page_words q == o.unit) s.husks p t e) ∙ sym e
        | inr e ↦ none e ∙ sym e
      ]))
    where
      names : (hs : List ℕ) → ((q : ℕ) → IsTrue (is_in q hs) → s.name q ≡ word_in heap (q + 1)) → map (λ (h : ℕ × ℕ). h.0) (map (husk_at types (word_in heap)) hs) ≡ map s.name hs
      names hs named = map-map (λ (h : ℕ × ℕ). h.0) (husk_at types (word_in heap)) hs ∙ map-same (λ q. word_in heap (q + 1)) s.name hs (λ q u. sym (named q u))

      differ : (q : ℕ) → IsTrue (is_in q s.husks) → s.name p ≡ s.name q → p ≡ q
      differ q u same =
          let d : IsDistinct nat_eq (map (λ (h : ℕ × ℕ). h.0) store.husks) = distinct-right (map (λ (object : Object). object.birth) store.kept) _ s.sound.births.differ in
          let e : map (λ (h : ℕ × ℕ). h.0) store.husks ≡ map s.name s.husks = ap (map (λ (h : ℕ × ℕ). h.0)) s.words.husk.reads ∙ names s.husks s.words.husk.named in
          distinct-names s.name s.husks (subst (λ (xs : List ℕ). IsDistinct nat_eq xs) e d) p q t u same

      none : (unit_at page_words p == o.unit) ≡ false → is_in (s.name p) (map s.name lost) ≡ false
      none e = elim (cases_Bool (is_in (s.name p) (map s.name lost))) [
        | inl found ↦ absurd (
            let n = named_by s.name (s.name p) lost found in
            let part = filter-part (λ q. unit_at page_words q == o.unit) s.husks n.place n.there in
            let same : p ≡ n.place = differ n.place part.0 n.is in
            let now : (unit_at page_words p == o.unit) ≡ true = ap (λ (q : ℕ). unit_at page_words q == o.unit) same ∙ part.1 in
            let no : ⊥ = cc in no)
        | inr n ↦ n
      ]

  husks-are : (without_husks store births).husks ≡ map (husk_at types (word_in heap)) left
  husks-are = ap (filter (λ (h : ℕ × ℕ). not (is_in h.0 births))) s.words.husk.reads
      ∙ filter_at (husk_at types (word_in heap)) (λ h. not (is_in h.0 births)) (λ p. not (unit_at page_words p == o.unit)) s.husks
      (λ p t. ap (λ (k : ℕ). not (is_in k births)) (sym (s.words.husk.named p t)) ∙ ap not (freed-is p t))

  husk-of : (p : ℕ) → IsTrue (is_in p s.husks) → IsTrue (is_in (s.name p) (map (λ (h : ℕ × ℕ). h.0) store.husks))
  husk-of p t =
      let listed : map (λ (h : ℕ × ℕ). h.0) store.husks ≡ map s.name s.husks =
      ap (map (λ (h : ℕ × ℕ). h.0)) s.words.husk.reads ∙ (map-map (λ (h : ℕ × ℕ). h.0) (husk_at types (word_in heap)) s.husks
      ∙ map-same (λ q. word_in heap (q + 1)) s.name s.husks (λ q u. sym (s.words.husk.named q u))) in
      ap (is_in (s.name p)) listed ∙ is_in-named s.name p s.husks t

  freed-husk : (p : ℕ) → IsTrue (is_in p s.husks) → (unit_at page_words p == o.unit) ≡ true → is_freed store (λ y. is_in y births) (s.name p) ≡ true
  freed-husk p t e = and_both (is_in (s.name p) births) _ (freed-is p t ∙ e) (husk-of p t)

  -- the words of husks, those that stay and those that are freed
  husk-sum : husk_words store.husks ≡ husk_words (without_husks store births).husks + freed_words store.husks births
  husk-sum = sum_split (λ (h : ℕ × ℕ). h.1) (λ h. is_in h.0 births) store.husks

  same-freed : freed_words heap.husk_list births ≡ freed_words store.husks births
  same-freed = ap (λ (hs : Table ℕ). freed_words hs births) (sym s.husk_list.are)

  -- a kept birth is not freed
  not-freed : (p : ℕ) → IsTrue (is_in p s.places) → is_freed store (λ y. is_in y births) (s.name p) ≡ false
  not-freed p t =
      let born : IsTrue (is_in (s.name p) (map (λ (o : Object). o.birth) store.kept)) = subst (λ (xs : List ℕ). IsTrue (is_in (s.name p) xs)) (sym (kept-births s.words.objects)) (is_in-named s.name p s.places t) in
      let out = distinct-apart (map (λ (o : Object). o.birth) store.kept) (map (λ (h : ℕ × ℕ). h.0) store.husks) s.sound.births.differ (s.name p) born in
      ap (λ (b : Bool). is_in (s.name p) births && b) out ∙ and-none (is_in (s.name p) births)

  pub unit_stands : PartsStandFor (swept_parts heap memory new births) (without_husks store births)
  unit_stands = record {
    places = s.places;
    name = s.name;
    husks = left;
    waiting = o.rest;
    words = subst (λ (st : List (ℕ × ℕ)). HoldsWords types page_words memory heap.nursery new (home_in heap) heap.weaks [] store.kept st s.places left o.rest s.name) (sym husks-are)
        (swept_words words-before s.headers visited-before o.units o.step small);
    headers = record {
      settled = record {
        each = λ p t. subst IsSettledHeader (sym (first-is p t)) (elim (cases_Bool (unit_at page_words p == o.unit)) [
          | inl e ↦ rw e (settled-unvisited (word_in heap p) (s.headers.settled.each p t))
          | inr e ↦ rw e (s.headers.settled.each p t)
        ]);
      };
      husk = firsts-stay (word_at memory.blocks) (husk_first_is words-before s.headers visited-before o.units o.step)
          (record { each = λ p t. s.headers.husk.each p (filter-part (λ q. not (unit_at page_words q == o.unit)) s.husks p t).0 });
      shadow = firsts-stay (word_at memory.blocks) (shadow_first_is words-before s.headers visited-before o.units o.step) s.headers.shadow;
      young = firsts-stay (word_at memory.blocks) young-is s.headers.young;
    };
    young_flags = record { pinned = firsts-stay (word_at memory.blocks) young-is s.young_flags.pinned; has_shadow = firsts-stay (word_at memory.blocks) young-is s.young_flags.has_shadow };
    visited = record { each = λ p t. marked p t ∙ sym (ap (λ (ph : Phase). is_marked ph store.visited s.name page_words o.rest p) sweeping) };
    remembered = record {
      there = s.remembered.there;
      tracked = record {
        each = λ p t. let was = s.remembered.tracked.each p t in record {
          track = other-flag Track (λ e. let no : ⊥ = cc in no) p t ∙ was.track;
          cards_set = other-flag CardsSet (λ e. let no : ⊥ = cc in no) p t ∙ was.cards_set;
        };
      };
      carded = λ p t.
          let keeps = layouts p (old-is_in s.places p t).0 in
          let infos = info_at-same types (word_at memory.blocks) (word_in heap) p keeps.type_stays in
          other-flag HasCards (λ e. let no : ⊥ = cc in no) p t ∙ (s.remembered.carded p t
          ∙ ap₂ (λ (i : TypeInfo) (l : Layout). keeps_cards settings.card i.shape l.ref_count) (sym infos) (sym keeps.layout_stays));
    };
    births = s.births;
    slots = s.slots;
    pins = s.pins;
    finalizers = s.finalizers;
    links = s.links;
    homes = record {
      told = λ birth at e.
          let was = found_where (λ x. not (is_freed store (λ y. is_in y births) x)) store.homes birth at e in
          elim (s.homes.told birth at was.0) [
            | inl is ↦ inl (record {
              there = elim (in-either at (old_places s.places) s.husks is.there) [
                | inl t ↦ in-left at (old_places s.places) left t
                | inr t ↦ in-right at (old_places s.places) left (elim (cases_Bool (unit_at page_words at == o.unit)) [
                  | inl gone ↦ absurd (
                      let f : is_freed store (λ y. is_in y births) birth ≡ true = ap (is_freed store (λ y. is_in y births)) (sym is.named) ∙ freed-husk at t gone in
                      let not_f = not-true (is_freed store (λ y. is_in y births) birth) was.1 in let no : ⊥ = cc in no)
                  | inr stays ↦ filter-member (λ q. not (unit_at page_words q == o.unit)) s.husks at t (ap not stays)
                ])
              ];
              named = is.named;
            })
            | inr is ↦ inr is
          ];
      reserved = s.homes.reserved;
      known = λ p at e. kept_where (λ x. not (is_freed store (λ y. is_in y births) x)) store.homes (s.name p) (ap not (not-freed p (young-is_in s.places p (s.homes.reserved p at e)).0)) ∙ s.homes.known p at e;
    };
    gray = s.gray;
    gray_phase = s.gray_phase;
    sums = record {
      unsettled_are = s.sums.unsettled_are;
      old_are = omega (arith, s.sums.old_are, husk-sum, same-freed);
      fresh_old = omega (arith, o.no_fresh);
      within = omega (arith, s.sums.within);
    };
    husk_list = record {
      are = ap (λ (hs : Table ℕ). husks_where hs (λ x. not (is_in x births))) s.husk_list.are;
      rise = KeysRise-entries_where (λ x. not (is_in x births)) heap.husk_list s.husk_list.rise;
    };
    counts = s.counts;
    ungapped = s.ungapped;
    units = subst (λ (ph : Phase). AreUnitsSwept ph settings.sweep store.left o.rest) (sym sweeping)
        (let before : AreUnitsSwept Sweeping settings.sweep store.left s.waiting = subst (λ (ph : Phase). AreUnitsSwept ph settings.sweep store.left s.waiting) sweeping s.units in
        let many : length s.waiting ≡ suc (length o.rest) = ap (length {A = ℕ}) o.waits in (shorter before.0 many, before.1));
    made = record { ranges = s.made.ranges; words = s.made.words; pins = s.made.pins; card = s.made.card; arena = o.step.arena_words ∙ s.made.arena; small = o.step.sizes.small ∙ s.made.small; page = o.step.sizes.page ∙ s.made.page };
    order = s.order;
    sound = husks_sound settings store (λ x. is_in x births) store-sweeping s.sound;
  }
    where
      shorter : length s.waiting ≤ store.left * heap.setup.settings.sweep → length s.waiting ≡ suc (length o.rest) → length o.rest ≤ store.left * heap.setup.settings.sweep
      shorter l e = omega (arith, l, e)

      marked : (p : ℕ) → IsTrue (is_in p (old_places s.places)) → has_flag (word_at memory.blocks p) Visited ≡ is_waiting page_words o.rest p
      marked p t = ap (λ (k : ℕ). has_flag k Visited) (first-is p t) ∙ (elim (eqb_tells (unit_at page_words p) o.unit) [
        | inl e ↦ rw e.0 (has_flag-without_flag_same (word_in heap p) Visited ∙ sym (ap (λ (u : ℕ). is_in u o.rest) e.1 ∙ o.once))
        | inr e ↦ rw e.0 (visited-before p t ∙ or_later (o.unit == unit_at page_words p) (is_in (unit_at page_words p) o.rest) (ne_eqb o.unit (unit_at page_words p) (λ z. e.1 (sym z))))
      ])

  pub unit_waiting : unit_stands.waiting ≡ o.rest
  unfolding unit_stands
  unit_waiting = refl

  -- the husks that were freed
  freed-husks : husks_where store.husks (λ x. is_in x births) ≡ map (husk_at types (word_in heap)) lost
  freed-husks = ap (filter (λ (h : ℕ × ℕ). is_in h.0 births)) s.words.husk.reads
      ∙ filter_at (husk_at types (word_in heap)) (λ h. is_in h.0 births) (λ p. unit_at page_words p == o.unit) s.husks
      (λ p t. ap (λ (k : ℕ). is_in k births) (sym (s.words.husk.named p t)) ∙ freed-is p t)

  abbrev husk-block : ℕ → Extent
  husk-block = block_at types (word_in heap)

  -- the blocks of all husks are among the live ones
  of-husks : (P : Extent → Type 0) → Each P (blocks_of types (word_in heap) (home_in heap) (young_places s.places) (old_places s.places) s.husks [])
      → (p : ℕ) → IsTrue (is_in p s.husks) → P (husk-block p)
  of-husks P all p t = each-member P husk-block s.husks p (each-left P (map husk-block s.husks) _ (each-right P (map husk-block (old_places s.places)) _ all)) t

  unit-is : (p : ℕ) → IsTrue (is_in p s.husks) → in_unit heap.old_blocks o.unit (husk-block p) ≡ (unit_at page_words p == o.unit)
  unit-is = of-husks (λ x. in_unit heap.old_blocks o.unit x ≡ (unit_at page_words x.0 == o.unit)) o.units

  page-wide : 64 ≤ page_size heap.old_blocks
  page-wide = words-before.blocks.in_pages.blocks.size_low

  kind : PageUnit heap.old_blocks o.unit ⊎ (1099511627776 ≤ o.unit)
  kind = unit_kind heap.old_blocks heap.memory _ o.unit o.rest words-before.blocks

  small-page : small_words settings ≤ page_words
  small-page = omega (arith, s.made.small, s.made.page, words-before.blocks.greatest, words-before.blocks.in_pages.setup.small_high)

  -- where the unit is a page
  in-page : PageUnit heap.old_blocks o.unit → (p : ℕ) → IsTrue (is_in p s.husks) → in_page (page_size heap.old_blocks) o.unit (husk-block p) ≡ (unit_at page_words p == o.unit)
  in-page page p t = sym (page-test heap.old_blocks o.unit (husk-block p) page-wide page) ∙ unit-is p t

  page-sum : PageUnit heap.old_blocks o.unit → sum_by (words_at types (word_in heap)) lost ≤ page_words
  page-sum page =
      let test : Extent → Bool = in_page (page_size heap.old_blocks) o.unit in
      let f = page_few heap.old_blocks heap.memory _ o.unit o.rest words-before.blocks page in
      let most = f.sum in
      let H : List Extent = map husk-block s.husks in
      let O : List Extent = map husk-block (old_places s.places) in
      let R : List Extent = reserved_blocks types (word_in heap) (home_in heap) (young_places s.places) ++ [] in
      let one = sum_append (where_passes (in_page (page_size heap.old_blocks) o.unit)) O (H ++ R) in
      let two = sum_append (where_passes (in_page (page_size heap.old_blocks) o.unit)) H R in
      let here = sum_placed husk-block (in_page (page_size heap.old_blocks) o.unit) (λ p. unit_at page_words p == o.unit) s.husks (in-page page) in
      omega (arith, most, one, two, here, s.made.page)

  page-small : PageUnit heap.old_blocks o.unit → (p : ℕ) → IsTrue (is_in p lost) → nat_lt (small_words settings) (words_at types (word_in heap) p) ≡ false
  page-small page p t =
      let f = page_few heap.old_blocks heap.memory _ o.unit o.rest words-before.blocks page in
      let part = filter-part (λ q. unit_at page_words q == o.unit) s.husks p t in
      let few = of-husks (λ x. in_page (page_size heap.old_blocks) o.unit x ≡ true → x.1 ≤ heap.old_blocks.small) f.each p part.0 (in-page page p part.0 ∙ part.1) in
      not-above (small_words settings) (words_at types (word_in heap) p) (omega (arith, few, s.made.small))

  -- where it is a large block
  one-of : (f : ℕ → ℕ) (u : ℕ) (ps : List ℕ) → ((p : ℕ) → IsTrue (is_in p ps) → p ≡ u) → IsDistinct nat_eq (map f ps) → length ps ≤ 1
  unfolding IsDistinct
  one-of f u [] all d = omega arith
  one-of f u (p ∷ []) all d = omega arith
  one-of f u (p ∷ q ∷ ps) all d = absurd (
      let same : f p ≡ f q = ap f (all p (is_in-head p (q ∷ ps)) ∙ sym (all q (is_in-tail q p (q ∷ ps) (is_in-head q ps)))) in
      let apart : nat_eq (f p) (f q) ≡ false = d.0.0 in
      let no : ⊥ = grind (arith, nat_tests) in no)

  lost-one : 1099511627776 ≤ o.unit → length lost ≤ 1
  lost-one high = one-of (λ p. word_in heap (p + 1)) o.unit lost at (subst (λ (xs : List ℕ). IsDistinct nat_eq xs) births-are
      (distinct-less [] (λ h. is_in h.0 births) (λ h. h.0) store.husks (distinct-right (map (λ (object : Object). object.birth) store.kept) _ s.sound.births.differ)))
    where
      births-are : map (λ (h : ℕ × ℕ). h.0) (husks_where store.husks (λ x. is_in x births)) ≡ map (λ p. word_in heap (p + 1)) lost
      births-are = ap (map (λ (h : ℕ × ℕ). h.0)) freed-husks ∙ map-map (λ (h : ℕ × ℕ). h.0) (husk_at types (word_in heap)) lost

      at : (p : ℕ) → IsTrue (is_in p lost) → p ≡ o.unit
      at p t =
          let part = filter-part (λ q. unit_at page_words q == o.unit) s.husks p t in
          let is : (p == o.unit) ≡ true = sym (large-test heap.old_blocks o.unit (husk-block p) page-wide high) ∙ (unit-is p part.0 ∙ part.1) in
          elim (eqb_tells p o.unit) [ inl e ↦ e.1 | inr e ↦ absurd (let other = e.0 in let no : ⊥ = cc in no) ]

  small-one : (most : ℕ) (hs : List (ℕ × ℕ)) → length hs ≤ 1 → husk_words (filter (λ h. nat_le h.1 most) hs) ≤ most
  small-one most [] l = omega arith
  small-one most (h ∷ []) l = elim (cases_Bool (nat_le h.1 most)) [
    | inl e ↦ let is : husk_words (filter (λ h. nat_le h.1 most) (h ∷ [])) ≡ h.1 + 0 = rw e (sum_by-cons (λ (g : ℕ × ℕ). g.1) h []) in let low : h.1 ≤ most = grind (arith, nat_tests) in omega (arith, is, low)
    | inr e ↦ let is : husk_words (filter (λ h. nat_le h.1 most) (h ∷ [])) ≡ 0 = rw e refl in omega (arith, is)
  ]
  small-one most (h ∷ g ∷ hs) l = absurd (let no : ⊥ = omega (arith, l) in no)

  fewer : (test : ℕ × ℕ → Bool) (hs : List (ℕ × ℕ)) → length (filter test hs) ≤ length hs
  fewer test [] = omega arith
  fewer test (h ∷ hs) = let more = fewer test hs in elim (cases_Bool (test h)) [ inl e ↦ rw e (omega (arith, more)) | inr e ↦ rw e (omega (arith, more)) ]

  -- a page has at most its words, and a large block is one
  pub unit_few_small : husk_words (filter (λ h. nat_le h.1 (small_words settings)) (husks_where store.husks (λ x. is_in x births))) ≤ page_words
  unit_few_small = elim kind [
    | inl page ↦
        let all = sum_split (λ (h : ℕ × ℕ). h.1) (λ h. nat_le h.1 (small_words settings)) (husks_where store.husks (λ x. is_in x births)) in
        let sum : husk_words (husks_where store.husks (λ x. is_in x births)) ≡ sum_by (words_at types (word_in heap)) lost = ap husk_words freed-husks ∙ sum_map (λ k. k) types (word_in heap) lost in
        let most = page-sum page in omega (arith, all, sum, most)
    | inr high ↦
        let many : length (husks_where store.husks (λ x. is_in x births)) ≡ length lost = ap (length {A = ℕ × ℕ}) freed-husks ∙ length-map lost (husk_at types (word_in heap)) in
        let one = lost-one high in
        let few = small-one (small_words settings) (husks_where store.husks (λ x. is_in x births)) (omega (arith, many, one)) in omega (arith, few, small-page)
  ]

  pub unit_few_large : length (filter (λ h. nat_lt (small_words settings) h.1) (husks_where store.husks (λ x. is_in x births))) ≤ 1
  unit_few_large = elim kind [
    | inl page ↦
        let none : filter (λ h. nat_lt (small_words settings) h.1) (husks_where store.husks (λ x. is_in x births)) ≡ [] =
        ap (filter (λ (h : ℕ × ℕ). nat_lt (small_words settings) h.1)) freed-husks
        ∙ (filter_at (husk_at types (word_in heap)) (λ h. nat_lt (small_words settings) h.1) (λ p. nat_lt (small_words settings) (words_at types (word_in heap) p)) lost (λ p t. refl)
        ∙ ap (map (husk_at types (word_in heap))) (filter_none (λ p. nat_lt (small_words settings) (words_at types (word_in heap) p)) lost (page-small page))) in
        let length_is = ap (length {A = ℕ × ℕ}) none in omega (arith, length_is)
    | inr high ↦
        let many : length (husks_where store.husks (λ x. is_in x births)) ≡ length lost = ap (length {A = ℕ × ℕ}) freed-husks ∙ length-map lost (husk_at types (word_in heap)) in
        let one = lost-one high in
        let less = fewer (λ h. nat_lt (small_words settings) h.1) (husks_where store.husks (λ x. is_in x births)) in omega (arith, many, one, less)
  ]

  -- the births that were freed, as the store lists them
  pub unit_freed : IsPermutation births (map (λ (h : ℕ × ℕ). h.0) (husks_where store.husks (λ x. is_in x births)))
  unit_freed =
      let w : ℕ → ℕ = word_in heap in
      let gone = swept words-before s.headers visited-before o.units o.step in
      let dead : map (λ (x : Extent). w (x.0 + 1)) (dead_blocks heap.old_blocks heap.memory o.unit _) ≡ map (λ p. w (p + 1)) lost =
      ap (map (λ (x : Extent). w (x.0 + 1))) (dead_are words-before s.headers visited-before o.units o.step) ∙ map-map (λ (x : Extent). w (x.0 + 1)) (block_at types w) lost in
      let listed : map (λ (h : ℕ × ℕ). h.0) (husks_where store.husks (λ x. is_in x births)) ≡ map (λ p. w (p + 1)) lost =
      ap (map (λ (h : ℕ × ℕ). h.0)) (ap (filter (λ (h : ℕ × ℕ). is_in h.0 births)) s.words.husk.reads
      ∙ filter_at (husk_at types w) (λ h. is_in h.0 births) (λ p. unit_at page_words p == o.unit) s.husks
      (λ p t. ap (λ (k : ℕ). is_in k births) (sym (s.words.husk.named p t)) ∙ freed-is p t))
      ∙ map-map (λ (h : ℕ × ℕ). h.0) (husk_at types w) lost in
      IsPermutation-sym _ births (subst (λ (xs : List ℕ). IsPermutation xs births) (dead ∙ sym listed) gone.freed)
