-- What the code lists as dead is what is condemned.
use Rattle.std.proofs.Common.{◌≡◌, ℕ, ◌+◌, ◌⊎◌, Bool, true, false, IsTrue, List, [], ◌∷◌, ◌++◌, map, append-nil, refl, sym, ap, ap₂, ◌∙◌, subst, inl, inr, arith}
use Rattle.std.specs.Prelude.{not, filter, ◌==◌, ◌&&◌, ◌||◌, ◌%◌, if◌then◌else◌, sum_by}
use Rattle.std.specs.List.Sorted.{IsPermutation}
use Rattle.std.proofs.lemmas.Bool.{cases_Bool, ne_eqb}
use Rattle.std.proofs.lemmas.List.{map-id}
use Rattle.std.proofs.lemmas.List.Elements.{filter-append}
use Rattle.std.proofs.lemmas.List.Sorted.{IsPermutation-map, IsPermutation-sym, IsPermutation-trans, list_any-IsPermutation, sum_by-IsPermutation}
use Rattle.std.proofs.lemmas.Simd.{map-map}
use Rattle.std.proofs.lemmas.List.Sums.{sum_by-cons}
use Rattle.type_table.specs.declared.info.TypeInfo.{TypeInfo}
use Rattle.type_table.specs.Table.{Table}
use Rattle.heap_space.specs.Places.{word_at}
use Rattle.heap_space.specs.Memory.{Memory}
use Rattle.heap_space.specs.Extents.{Extent}
use Rattle.object_header.specs.Words.{has_flag, with_flag, survives_sweep}
use Rattle.object_header.specs.declared.flags.Flag.TheVariants.{Visited, Shadow}
use Rattle.object_model.specs.Sets.{is_in}
use Rattle.object_model.specs.ObjectWords.{words_at, info_at, layout_at}
use Rattle.object_model.proofs.Members.{map-same, filter-part, filter-member, false-in}
use Rattle.object_view.proofs.LayoutLaws.{laid_out, info_at-same}
use Rattle.old_space.proofs.SweepLaws.{filter-none}
use Rattle.text_model.specs.declared.line.Phase.TheVariants.{Marking}
use Rattle.store_model.specs.Store.{Store}
use Rattle.store_model.specs.Marking.{is_white, is_condemned}
use Rattle.heap_parts.specs.Parts.{HeapParts, word_in, home_in}
use Rattle.heap_parts.specs.Places.{is_young, young_places, old_places, block_at, RiseBetween}
use Rattle.heap_parts.specs.OldSpace.{reserved_blocks, husk_at}
use Rattle.heap_parts.specs.StandsFor.{PartsStandFor}
use Rattle.frame_laws.proofs.Filters.{filter_at}
use Rattle.frame_laws.proofs.MinorNeeds.{settled_place}
use Rattle.frame_laws.proofs.PlaceLaws.{young-is_in, old-is_in, is_in-young, is_in-old}
use Rattle.frame_laws.proofs.RiseLines.{keys_rise}
use Rattle.frame_laws.proofs.SweepNeeds.{shadow_lives}
use Rattle.heap_phases.specs.Ending.{AreDead, AreDestroyed, AreHusks, places_in, is_dead_in, birth_in, is_destroyed, husk_of}
use Rattle.heap_phases.proofs.DeadCalls.{passing_permuted}
use Rattle.heap_phases.proofs.EndCalls.{MarksEnd, marking_blocks, dead_place}
use Rattle.heap_phases.proofs.EndHeaders.{settled_marked}
use Rattle.object_header.proofs.WordLaws.{type_of-with_flag}
use Rattle.heap_phases.proofs.EndCode.{clears}
use Rattle.heap_phases.proofs.EndLines.{SortsBirths}
use Rattle.heap_phases.proofs.EndLists.{rise_filtered}
use Rattle.heap_phases.proofs.EndWords.{losing, losing_old}
use Rattle.heap_phases.proofs.SweepWords.{each-of-homes}

filter-two : (f g : ℕ → Bool) (ps : List ℕ) → filter (λ p. f p && g p) ps ≡ filter g (filter f ps)
filter-two f g [] = refl
filter-two f g (p ∷ ps) = elim (cases_Bool (f p)) [
  | inl e ↦ elim (cases_Bool (g p)) [
    | inl d ↦ rw e (rw d (ap (λ (qs : List ℕ). p ∷ qs) (filter-two f g ps)))
    | inr d ↦ rw e (rw d (filter-two f g ps))
  ]
  | inr e ↦ rw e (filter-two f g ps)
]

module _ (heap : HeapParts) (store : Store) (s : PartsStandFor heap store) (marking : heap.phase ≡ Marking)
    (m : Memory) (saved : ℕ → Bool) (marks : MarksEnd heap store s saved m) (dead : List Extent) (listed : AreDead m (marking_blocks heap store s) dead) where
  abbrev types : Table TypeInfo
  types = heap.setup.types

  abbrev w : ℕ → ℕ
  w = word_in heap

  abbrev gone : ℕ → Bool
  gone = is_condemned store saved

  abbrev B : ℕ → Extent
  B = block_at heap.setup.types (word_in heap)

  -- the places of what is condemned
  abbrev lost : List ℕ
  lost = losing (is_condemned store saved) s.name s.places

  pub young_stay : (p : ℕ) → IsTrue (is_in p (young_places s.places)) → gone (s.name p) ≡ false
  young_stay p t =
      let part = young-is_in s.places p t in
      let out : is_in (s.name p) store.settled ≡ false = settled_place heap store s p part.0 ∙ ap not part.1 in
      rw out refl

  -- a first word is as it was, or carries the mark
  pub first_kind : (p : ℕ) → IsTrue (is_in p s.places) → (word_at m.blocks p ≡ w p) ⊎ (word_at m.blocks p ≡ with_flag (w p) Visited)
  first_kind p t = elim (cases_Bool (is_young p)) [
    | inl e ↦ inl (marks.heads.young p (is_in-young s.places p t e))
    | inr e ↦ elim (cases_Bool (gone (s.name p))) [
      | inl lost ↦ inl (marks.heads.lost p (is_in-old s.places p t e) lost)
      | inr stays ↦ inr (marks.heads.marked p (is_in-old s.places p t e) stays)
    ]
  ]

  pub type_stays : (p : ℕ) → IsTrue (is_in p s.places) → word_at m.blocks p % 65536 ≡ w p % 65536
  type_stays p t = elim (first_kind p t) [
    | inl e ↦ ap (λ (k : ℕ). k % 65536) e
    | inr e ↦ ap (λ (k : ℕ). k % 65536) e ∙ type_of-with_flag (w p) Visited
  ]

  dead-is : (p : ℕ) → IsTrue (is_in p (old_places s.places)) → is_dead_in m (B p) ≡ gone (s.name p)
  dead-is p t =
      let part = old-is_in s.places p t in
      let shadow : has_flag (word_at m.blocks p) Shadow ≡ false = elim (first_kind p part.0) [
        | inl e ↦ ap (λ (k : ℕ). has_flag k Shadow) e ∙ (s.headers.settled.each p t).not_shadow
        | inr e ↦ ap (λ (k : ℕ). has_flag k Shadow) e ∙ (settled_marked (w p) (s.headers.settled.each p t)).not_shadow
      ] in
      let tells : gone (s.name p) ≡ not (has_flag (word_at m.blocks p) Visited) =
      dead_place heap store s saved m marking marks p part.0 ∙ ap (λ (b : Bool). not b && not (has_flag (word_at m.blocks p) Visited)) part.1 in
      ap (λ (b : Bool). not (has_flag (word_at m.blocks p) Visited || b)) shadow
      ∙ (ap not (or-false (has_flag (word_at m.blocks p) Visited)) ∙ sym tells)
    where
      or-false : (b : Bool) → (b || false) ≡ b
      or-false true = refl
      or-false false = refl

  blocks-dead : filter (is_dead_in m) (marking_blocks heap store s) ≡ map B lost
  blocks-dead =
      let olds : filter (is_dead_in m) (map B (old_places s.places)) ≡ map B (filter (λ p. gone (s.name p)) (old_places s.places)) =
      filter_at B (is_dead_in m) (λ p. gone (s.name p)) (old_places s.places) dead-is in
      let homes : filter (is_dead_in m) (reserved_blocks types w (home_in heap) (young_places s.places) ++ []) ≡ [] =
      filter-none (is_dead_in m) (reserved_blocks types w (home_in heap) (young_places s.places) ++ [])
      (each-of-homes (λ x. is_dead_in m x ≡ false) types w (home_in heap) (young_places s.places) (λ a n t. ap not (ap survives_sweep (marks.heads.shadow a t) ∙ shadow_lives heap store s a t))) in
      filter-append (is_dead_in m) (map B (old_places s.places)) _ ∙ (ap₂ (λ (xs ys : List Extent). xs ++ ys) olds homes
      ∙ (append-nil (map B (filter (λ p. gone (s.name p)) (old_places s.places))) ∙ ap (map B) (losing_old (is_condemned store saved) s.name s.places young_stay)))

  pub dead_blocks : IsPermutation (map B lost) dead
  dead_blocks = subst (λ (xs : List Extent). IsPermutation xs dead) blocks-dead listed.just

  pub lost_part : (p : ℕ) → IsTrue (is_in p lost) → IsTrue (is_in p s.places) × (gone (s.name p) ≡ true)
  lost_part p t = filter-part (λ q. gone (s.name q)) s.places p t

  -- the code's test of what is gone
  pub dead_tells : (p : ℕ) → IsTrue (is_in p s.places) → gone (s.name p) ≡ is_in p (places_in dead)
  dead_tells p t =
      let firsts : IsPermutation (map (λ (x : Extent). x.0) (map B lost)) (places_in dead) = IsPermutation-map (λ (x : Extent). x.0) (map B lost) dead dead_blocks in
      let same : map (λ (x : Extent). x.0) (map B lost) ≡ lost = map-map (λ (x : Extent). x.0) B lost ∙ map-id lost in
      let moved : is_in p lost ≡ is_in p (places_in dead) = list_any-IsPermutation (λ (y : ℕ). y == p) lost (places_in dead) (subst (λ (xs : List ℕ). IsPermutation xs (places_in dead)) same firsts) in
      (elim (cases_Bool (gone (s.name p))) [
        | inl e ↦ e ∙ sym (filter-member (λ q. gone (s.name q)) s.places p t e)
        | inr e ↦ e ∙ sym (false-in p lost (λ u. let yes = (lost_part p u).1 in let no : ⊥ = cc in no))
      ]) ∙ moved

  birth-stays : (p : ℕ) → IsTrue (is_in p s.places) → word_at m.blocks (p + 1) ≡ w (p + 1)
  birth-stays p t =
      let laid = laid_out types w p in
      let out : ((p + 1) == (layout_at types w p).ref_start) ≡ false = ne_eqb (p + 1) (layout_at types w p).ref_start (λ e. absurd (let no : ⊥ = omega (arith, e, laid.begins, laid.ordered) in no)) in
      marks.words p (p + 1) t (omega arith) (omega (arith, laid.header))
      ∙ ap (λ (b : Bool). if b then 0 else w (p + 1)) (ap (λ (b : Bool). clears types w s.name (is_white store) p && b) out ∙ and-false (clears types w s.name (is_white store) p))
    where
      and-false : (b : Bool) → (b && false) ≡ false
      and-false true = refl
      and-false false = refl

  -- those with a destructor, as they are told
  abbrev destroys : ℕ → Bool
  destroys p = (info_at heap.setup.types (word_in heap) p).destructor

  pub destroyed_sorted : (births : List ℕ) → AreDestroyed heap.setup.types m dead births
      → SortsBirths (word_in heap) (filter (λ p. is_condemned store saved (s.name p) && (info_at heap.setup.types (word_in heap) p).destructor) s.places) births
  destroyed_sorted births d = record {
    just =
        let some : IsPermutation (filter (is_destroyed types m) (map B lost)) (filter (is_destroyed types m) dead) = passing_permuted (is_destroyed types m) (map B lost) dead dead_blocks in
        let here : filter (is_destroyed types m) (map B lost) ≡ map B (filter destroys lost) =
        filter_at B (is_destroyed types m) destroys lost (λ p t. ap (λ (i : TypeInfo). i.destructor) (info_at-same types (word_at m.blocks) w p (type_stays p (lost_part p t).0))) in
        let read : map (birth_in m) (map B (filter destroys lost)) ≡ map (λ p. w (p + 1)) (filter destroys lost) =
        map-map (birth_in m) B (filter destroys lost) ∙ map-same (λ p. word_at m.blocks (p + 1)) (λ p. w (p + 1)) (filter destroys lost) (λ p t. birth-stays p (lost_part p (filter-part destroys lost p t).0).0) in
        let told : IsPermutation (map (birth_in m) (filter (is_destroyed types m) (map B lost))) births =
        IsPermutation-trans _ _ _ (IsPermutation-map (birth_in m) _ _ some) d.just in
        subst (λ (ps : List ℕ). IsPermutation (map (λ p. w (p + 1)) ps) births) (sym (filter-two (λ p. gone (s.name p)) destroys s.places))
        (subst (λ (xs : List ℕ). IsPermutation xs births) (ap (map (birth_in m)) here ∙ read) told);
    order = d.rising;
  }

  husks-read : map (husk_of m) (map B lost) ≡ map (husk_at types w) lost
  husks-read = map-map (husk_of m) B lost ∙ map-same (λ p. (word_at m.blocks (p + 1), words_at types w p)) (husk_at types w) lost (λ p t. ap (λ (b : ℕ). (b, words_at types w p)) (birth-stays p (lost_part p t).0))

  -- the table of husks
  pub husks_are : (husks : Table ℕ) → AreHusks m dead husks → husks ≡ map (husk_at heap.setup.types (word_in heap)) lost
  husks_are husks h =
      let same : IsPermutation (map (husk_of m) dead) (map (husk_at types w) lost) =
      subst (λ (xs : List (ℕ × ℕ)). IsPermutation (map (husk_of m) dead) xs) husks-read (IsPermutation-sym _ _ (IsPermutation-map (husk_of m) (map B lost) dead dead_blocks)) in
      let keys : map (λ (e : ℕ × ℕ). e.0) (map (husk_at types w) lost) ≡ map s.name lost =
      map-map (λ (e : ℕ × ℕ). e.0) (husk_at types w) lost ∙ map-same (λ p. w (p + 1)) s.name lost (λ p t. sym (s.words.objects.named p (lost_part p t).0)) in
      h.are (map (husk_at types w) lost)
      (keys_rise (map (husk_at types w) lost) 1 heap.next (subst (λ (ks : List ℕ). RiseBetween 1 ks heap.next) (sym keys) (rise_filtered s.name (λ p. gone (s.name p)) s.places 1 heap.next s.births.rise)))
      same

  -- their words
  pub dead_words : sum_by (λ (x : Extent). x.1) dead ≡ sum_by (words_at heap.setup.types (word_in heap)) lost
  dead_words = sum_by-IsPermutation (λ (x : Extent). x.1) (map B lost) dead dead_blocks ∙ sum-of lost
    where
      sum-of : (ps : List ℕ) → sum_by (λ (x : Extent). x.1) (map B ps) ≡ sum_by (words_at types w) ps
      sum-of [] = refl
      sum-of (p ∷ ps) = let more = sum-of ps in let one = sum_by-cons (λ (x : Extent). x.1) (B p) (map B ps) in let two = sum_by-cons (words_at types w) p ps in omega (arith, more, one, two)
