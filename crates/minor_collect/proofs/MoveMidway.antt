-- A move keeps the middle of a minor collection, letter by letter.
use Rattle.std.proofs.Common.{◌≡◌, ◌≢◌, ℕ, ◌+◌, ◌⊎◌, Bool, true, false, IsTrue, List, [], ◌∷◌, ◌++◌, map, length, Some, None, refl, sym, ap, ap₂, ◌∙◌, subst, inl, inr, arith}
use Rattle.std.specs.Prelude.{not, ◌&&◌, ◌==◌, sum_by, is_some, if◌then◌else◌}
use Rattle.std.specs.List.{list_any}
use Rattle.std.proofs.lemmas.Bool.{cases_Bool}
use Rattle.std.proofs.lemmas.Bool.Decides.{eqb_tells}
use Rattle.std.proofs.lemmas.List.Sums.{sum_by-cons}
use Rattle.type_table.specs.declared.info.TypeInfo.{TypeInfo}
use Rattle.type_table.specs.Table.{Table, value_at}
use Rattle.heap_space.specs.Places.{lies_in_one, word_at}
use Rattle.object_header.specs.Words.{has_flag}
use Rattle.object_header.specs.declared.flags.Flag.TheVariants.{Track, Visited, HasCards, CardsSet}
use Rattle.old_space.specs.HasBlocks.{HasBlocks}
use Rattle.heap_space.specs.Extents.{Extent}
use Rattle.text_model.specs.declared.line.Phase.{Phase}
use Rattle.text_model.specs.declared.line.Phase.TheVariants.{Scanning, Marking, Sweeping, Finalizing}
use Rattle.object_model.specs.Layout.{Layout}
use Rattle.store_model.specs.Store.{Store}
use Rattle.store_model.specs.Structs.{Structs}
use Rattle.object_model.specs.Sets.{is_in, AreDifferent}
use Rattle.object_model.specs.ObjectWords.{updated, renamed, words_at, layout_at, info_at}
use Rattle.object_model.specs.Holds.{HoldsObjects, IsPointer}
use Rattle.object_view.specs.Moving.{moved, IsMoving}
use Rattle.object_view.proofs.WordLaws.{updated-other}
use Rattle.object_model.proofs.Members.{map-same, is_in-head, is_in-tail, is_in-cases, is_in-nil, in-either, in-left, in-right, not-in}
use Rattle.object_view.proofs.LayoutLaws.{laid_out, SameAt, KeepsLayout, keeps-same, info_at-same}
use Rattle.object_view.proofs.CopyLaws.{copy-like, copy-info}
use Rattle.object_view.proofs.MoveLaws.{moved_to, moved_to-here, moved_to-other, moved-cases, moved-there}
use Rattle.object_view.proofs.LeaveLaws.{room-moves, not-met}
use Rattle.remember_cards.specs.Remembered.{Held, Remembered, held_places, is_held_whole, has_held_cards, has_any}
use Rattle.heap_parts.specs.Parts.{HeapParts, home_in, pinned_places}
use Rattle.heap_parts.specs.Places.{is_young, young_places, old_places, AreAmong, AreWhole, OfFirsts, RiseBetween}
use Rattle.heap_parts.specs.OldSpace.{blocks_of, reserved_homes, IsPlaceOf, husk_at}
use Rattle.heap_parts.specs.Headers.{IsSettledHeader, is_marked, IsCarded, keeps_cards}
use Rattle.heap_parts.specs.Lists.{HoldsEntries, HoldsLinks}
use Rattle.heap_parts.specs.StandsFor.{IsMadeWith, HoldsHomes, HoldsRemembered}
use Rattle.frame_laws.proofs.KeepWords.{firsts-stay}
use Rattle.birth_laws.proofs.BirthNames.{AgreeOn, held_agrees, list_agrees, entries_agree, queues_agree, links_agree}
use Rattle.frame_laws.proofs.Births.{rise-differ}
use Rattle.frame_laws.proofs.PlaceLaws.{young-is_in, old-is_in, is_in-young, is_in-old}
use Rattle.minor_collect.specs.Carried.{Moved, one_moved}
use Rattle.minor_collect.specs.Midway.{Midway, Changing, with_changing, Owes, Follows, Placing, one_settled}
use Rattle.object_model.proofs.SameMembers.{names_differ}
use Rattle.minor_collect.proofs.EndStands.{given-by, gives-in, firsts-fewer}
use Rattle.minor_collect.proofs.MoveStep.{CanMove, settled_words_at, step_objects, step_moving, step_rest, step_name, new_name, new_head, step_names, old_cases, young_cases, step_follows, old-after, here, young-p, unpinned-p, head_keeps}

-- What the code makes of the parts where the object at p moves to a: into fresh room, or into the home that was reserved for it.
pub record MovesTo (start : HeapParts) (store : Store) (remembered : ℕ → ℕ → Bool) (now : Changing) (todo held left : List ℕ) (owes : Owes) (moved_before : Moved) (taken : List Extent)
    (placing : Placing) (mid : Midway start store remembered now placing todo held left owes moved_before taken) (p a head : ℕ) (new : Changing) : Type 0 where
  pub can : CanMove start.setup.types (word_at now.memory.blocks) placing.met placing.places (pinned_places start) p a head
  -- only the memory, the old space and the homes change
  pub rest : new ≡ record now { memory = new.memory; old_blocks = new.old_blocks; shadows = new.shadows }
  pub words : word_at new.memory.blocks ≡ settled_words_at start.setup.types (word_at now.memory.blocks) p a head
  pub lies : (q : ℕ) → IsTrue (is_in q placing.places) → q ≢ p → IsTrue (lies_in_one new.memory.blocks q (words_at start.setup.types (word_at now.memory.blocks) q))
  pub nursery_lies : IsTrue (lies_in_one new.memory.blocks 1 start.nursery.words)
  pub room_lies : IsTrue (lies_in_one new.memory.blocks a (words_at start.setup.types (word_at now.memory.blocks) p))
  pub blocks : HasBlocks new.old_blocks new.memory (blocks_of start.setup.types (word_at new.memory.blocks) (home_in (with_changing start new))
      (young_places (map (moved_to p a) placing.places)) (old_places (map (moved_to p a) placing.places)) placing.husks []) placing.waiting
  -- husks, and other homes, keep their words
  pub husk_same : (q : ℕ) → IsTrue (is_in q placing.husks) → SameAt start.setup.types (word_at new.memory.blocks) (word_at now.memory.blocks) q × (q ≢ a)
  pub shadow_same : (q : ℕ) → IsTrue (is_in q (reserved_homes (home_in (with_changing start new)) (young_places (map (moved_to p a) placing.places)))) → word_at new.memory.blocks q ≡ word_at now.memory.blocks q
  -- the home of p, if it had one, is a
  pub home_was : (home_in (with_changing start now) p ≡ None) ⊎ (home_in (with_changing start now) p ≡ Some a)
  pub home_none : home_in (with_changing start new) p ≡ None
  pub home_other : (q : ℕ) → q ≢ p → home_in (with_changing start new) q ≡ home_in (with_changing start now) q
  -- the header
  pub header : IsSettledHeader head
  pub track : has_flag head Track ≡ true
  pub cards_set : has_flag head CardsSet ≡ false
  pub has_cards : has_flag head HasCards ≡ keeps_cards start.setup.settings.card (info_at start.setup.types (word_at now.memory.blocks) p).shape (layout_at start.setup.types (word_at now.memory.blocks) p).ref_count
  pub visited : has_flag head Visited ≡ is_marked start.phase store.visited (updated placing.name a (placing.name p)) start.setup.settings.page placing.waiting a
  pub made : IsMadeWith start.setup.settings new.memory start.nursery new.remembered new.old_blocks

-- nothing of what is not listed is held
not-held : (r : Remembered) (a : ℕ) → (IsTrue (is_in a (held_places r)) → ⊥) → (is_held_whole r a ≡ false) × (has_held_cards r a ≡ false)
not-held r a none = (go (λ h. h.is_whole) r.held none, go (λ h. has_any h.cards) r.held none)
  where
    go : (f : Held → Bool) (hs : List Held) → (IsTrue (is_in a (map (λ (h : Held). h.place) hs)) → ⊥) → list_any (λ (h : Held). h.place == a && f h) hs ≡ false
    go f [] out = refl
    go f (h ∷ hs) out = elim (eqb_tells h.place a) [
      | inl e ↦ absurd (out (subst (λ (k : ℕ). IsTrue (is_in a (k ∷ map (λ (g : Held). g.place) hs))) (sym e.1) (is_in-head a (map (λ (g : Held). g.place) hs))))
      | inr e ↦ rw e.0 (go f hs (λ t. out (is_in-tail a h.place (map (λ (g : Held). g.place) hs) t)))
    ]

-- words outside the nursery, where one object came
sum-moved : (f g : ℕ → ℕ) (p a : ℕ) (ps : List ℕ) → AreDifferent ps → is_young p ≡ true → is_young a ≡ false → f a ≡ g p
    → ((q : ℕ) → IsTrue (is_in q ps) → q ≢ p → f q ≡ g q) → IsTrue (is_in p ps)
    → sum_by f (old_places (map (moved_to p a) ps)) ≡ sum_by g (old_places ps) + g p
sum-moved f g p a [] d yp ya size same t = absurd (is_in-nil p t)
sum-moved f g p a (q ∷ ps) d yp ya size same t = elim (eqb_tells q p) [
  | inl e ↦
      let rest : sum_by f (old_places (map (moved_to p a) ps)) ≡ sum_by g (old_places ps) = without f g p a ps (λ k u n. same k (is_in-tail k q ps u) n) (subst (λ (k : ℕ). is_in k ps ≡ false) e.1 d.0) in
      let first : moved_to p a q ≡ a = moved_to-here p a q e.1 in
      let yq : is_young q ≡ true = ap is_young e.1 ∙ yp in
      let s1 : sum_by f (old_places (map (moved_to p a) (q ∷ ps))) ≡ f a + sum_by f (old_places (map (moved_to p a) ps)) = rw (first, ya) (sum_by-cons f a (old_places (map (moved_to p a) ps))) in
      let s2 : sum_by g (old_places (q ∷ ps)) ≡ sum_by g (old_places ps) = rw yq refl in
      omega (arith, s1, s2, rest, size)
  | inr e ↦
      let more = sum-moved f g p a ps d.1 yp ya size (λ k u n. same k (is_in-tail k q ps u) n) (elim (is_in-cases p q ps t) [ inl is ↦ absurd (e.1 (sym is)) | inr u ↦ u ]) in
      let first : moved_to p a q ≡ q = moved_to-other p a q e.1 in
      elim (cases_Bool (is_young q)) [
        | inl y ↦
            let s1 : sum_by f (old_places (map (moved_to p a) (q ∷ ps))) ≡ sum_by f (old_places (map (moved_to p a) ps)) = rw (first, y) refl in
            let s2 : sum_by g (old_places (q ∷ ps)) ≡ sum_by g (old_places ps) = rw y refl in
            omega (arith, s1, s2, more)
        | inr o ↦
            let s1 : sum_by f (old_places (map (moved_to p a) (q ∷ ps))) ≡ f q + sum_by f (old_places (map (moved_to p a) ps)) = rw (first, o) (sum_by-cons f q (old_places (map (moved_to p a) ps))) in
            let s2 : sum_by g (old_places (q ∷ ps)) ≡ g q + sum_by g (old_places ps) = rw o (sum_by-cons g q (old_places ps)) in
            let s3 : f q ≡ g q = same q (is_in-head q ps) e.1 in
            omega (arith, s1, s2, s3, more)
      ]
]
  where
    without : (f g : ℕ → ℕ) (p a : ℕ) (ps : List ℕ) → ((q : ℕ) → IsTrue (is_in q ps) → q ≢ p → f q ≡ g q) → is_in p ps ≡ false
        → sum_by f (old_places (map (moved_to p a) ps)) ≡ sum_by g (old_places ps)
    without f g p a [] same out = refl
    without f g p a (q ∷ ps) same out = elim (eqb_tells q p) [
      | inl e ↦ absurd (not-in p (q ∷ ps) out (subst (λ (k : ℕ). IsTrue (is_in k (q ∷ ps))) e.1 (is_in-head q ps)))
      | inr e ↦
          let out_rest : is_in p ps ≡ false = (let f1 : is_in p ps ≡ is_in p (q ∷ ps) = rw e.0 refl in f1) ∙ out in
          let more = without f g p a ps (λ k u n. same k (is_in-tail k q ps u) n) out_rest in
          let first : moved_to p a q ≡ q = moved_to-other p a q e.1 in
          elim (cases_Bool (is_young q)) [
            | inl y ↦
                let s1 : sum_by f (old_places (map (moved_to p a) (q ∷ ps))) ≡ sum_by f (old_places (map (moved_to p a) ps)) = rw (first, y) refl in
                let s2 : sum_by g (old_places (q ∷ ps)) ≡ sum_by g (old_places ps) = rw y refl in
                omega (arith, s1, s2, more)
            | inr o ↦
                let s1 : sum_by f (old_places (map (moved_to p a) (q ∷ ps))) ≡ f q + sum_by f (old_places (map (moved_to p a) ps)) = rw (first, o) (sum_by-cons f q (old_places (map (moved_to p a) ps))) in
                let s2 : sum_by g (old_places (q ∷ ps)) ≡ g q + sum_by g (old_places ps) = rw o (sum_by-cons g q (old_places ps)) in
                omega (arith, s1, s2, same q (is_in-head q ps) e.1, more)
          ]
    ]

ones : (ps : List ℕ) → sum_by (λ q. 1) ps ≡ length ps
ones [] = refl
ones (p ∷ ps) = let more = ones ps in let first = sum_by-cons (λ (q : ℕ). 1) p ps in let long : length (p ∷ ps) ≡ length ps + 1 = omega arith in omega (arith, more, first, long)

module _ {start : HeapParts} {store : Store} {remembered : ℕ → ℕ → Bool} {now new : Changing} {todo held left less : List ℕ} {owes : Owes} {before : Moved} {p a head : ℕ} {taken : List Extent}
    {placing : Placing} (mid : Midway start store remembered now placing todo held left owes before taken) (is_left : left ≡ placing.name p ∷ less)
    (c : MovesTo start store remembered now todo held left owes before taken placing mid p a head new) where
  abbrev types : Table TypeInfo
  types = start.setup.types

  abbrev w : ℕ → ℕ
  w = word_at now.memory.blocks

  abbrev v : ℕ → ℕ
  v = word_at new.memory.blocks

  abbrev other : ℕ → ℕ
  other = updated placing.name a (placing.name p)

  abbrev after : List ℕ
  after = map (moved_to p a) placing.places

  h : HoldsObjects start.setup.types (word_at now.memory.blocks) placing.met placing.places placing.name store.kept
  h = mid.words.objects

  rest-same : (q : ℕ) → IsTrue (is_in q placing.places) → q ≢ p → SameAt start.setup.types (word_at new.memory.blocks) (word_at now.memory.blocks) q
  rest-same q t ne = subst (λ (f : ℕ → ℕ). SameAt start.setup.types f (word_at now.memory.blocks) q) (sym c.words) (step_rest mid.words.objects mid.words.moving c.can q t ne)

  first-same : (q : ℕ) → IsTrue (is_in q placing.places) → q ≢ p → word_at new.memory.blocks q ≡ word_at now.memory.blocks q
  first-same q t ne = (rest-same q t ne).same q (omega arith) (omega (arith, (laid_out start.setup.types (word_at now.memory.blocks) q).header))

  size-same : (q : ℕ) → IsTrue (is_in q placing.places) → q ≢ p → words_at start.setup.types (word_at new.memory.blocks) q ≡ words_at start.setup.types (word_at now.memory.blocks) q
  size-same q t ne = ap (λ (l : Layout). l.words) (keeps-same start.setup.types (word_at new.memory.blocks) (word_at now.memory.blocks) q (rest-same q t ne)).layout_stays

  head-is : word_at new.memory.blocks a ≡ head
  head-is = ap (λ (f : ℕ → ℕ). f a) c.words ∙ new_head mid.words.objects mid.words.moving c.can

  -- the layout and the type at a are those at p
  head-keeps : KeepsLayout start.setup.types (word_at new.memory.blocks) (moved (word_at now.memory.blocks) p a (words_at start.setup.types (word_at now.memory.blocks) p)) a
  head-keeps = subst (λ (f : ℕ → ℕ). KeepsLayout start.setup.types f (moved (word_at now.memory.blocks) p a (words_at start.setup.types (word_at now.memory.blocks) p)) a) (sym c.words)
      (head_keeps mid.words.objects mid.words.moving c.can)

  size-new : words_at start.setup.types (word_at new.memory.blocks) a ≡ words_at start.setup.types (word_at now.memory.blocks) p
  size-new = ap (λ (l : Layout). l.words) head-keeps.layout_stays ∙ (copy-like (room-moves mid.words.objects c.can.room).copy).words

  old-ne : (q : ℕ) → IsTrue (is_in q (old_places placing.places)) → q ≢ p
  old-ne q t e = let o = old-is_in placing.places q t in
      let clash : true ≡ false = sym (young-p mid.words.objects mid.words.moving c.can) ∙ (ap is_young (sym e) ∙ o.1) in let no : ⊥ = cc in no

  -- first words of what is outside the nursery: the new one, and the others
  old-firsts : {P Q : ℕ → ℕ → Type 0} → Q a head → ((q : ℕ) → IsTrue (is_in q (old_places placing.places)) → P q (word_at now.memory.blocks q) → Q q (word_at now.memory.blocks q))
      → OfFirsts P (old_places placing.places) (word_at now.memory.blocks) → OfFirsts Q (old_places (map (moved_to p a) placing.places)) (word_at new.memory.blocks)
  old-firsts {P = P} {Q = Q} new_one others k = record {
    each = λ q t. elim (old_cases mid.words.objects mid.words.moving c.can q t) [
      | inl e ↦ let F : ℕ → Type 0 = λ z. Q z (word_at new.memory.blocks z) in subst F (sym e) (subst (Q a) (sym head-is) new_one)
      | inr u ↦ subst (Q q) (sym (first-same q (old-is_in placing.places q u).0 (old-ne q u))) (others q u (k.each q u))
    ];
  }

  young-firsts : {P : ℕ → ℕ → Type 0} → OfFirsts P (young_places placing.places) (word_at now.memory.blocks) → OfFirsts P (young_places (map (moved_to p a) placing.places)) (word_at new.memory.blocks)
  young-firsts {P = P} k = record {
    each = λ q t. let y = young_cases mid.words.objects mid.words.moving c.can q t in subst (P q) (sym (first-same q (young-is_in placing.places q y.0).0 y.1)) (k.each q y.0);
  }

  name-same : (q : ℕ) → IsTrue (is_in q placing.places) → updated placing.name a (placing.name p) q ≡ placing.name q
  name-same q t = step_name mid.words.objects mid.words.moving c.can q t

  met-name : (q : ℕ) → IsTrue (is_in q placing.met) → updated placing.name a (placing.name p) q ≡ placing.name q
  met-name q t = updated-other placing.name a (placing.name p) q (not-met q c.can.room t)

  marked-one : (phase : Phase) (q : ℕ) → updated placing.name a (placing.name p) q ≡ placing.name q
      → is_marked phase store.visited placing.name start.setup.settings.page placing.waiting q ≡ is_marked phase store.visited (updated placing.name a (placing.name p)) start.setup.settings.page placing.waiting q
  marked-one Scanning q e = refl
  marked-one Marking q e = ap (λ (x : ℕ). is_in x store.visited) (sym e)
  marked-one Sweeping q e = refl
  marked-one Finalizing q e = refl

  new-not-held : (is_held_whole now.remembered a ≡ false) × (has_held_cards now.remembered a ≡ false)
  new-not-held = not-held now.remembered a (λ t. not-met a c.can.room (mid.words.moving.stay a (old-is_in placing.places a (mid.marked.there a t)).0) refl)

  reserved-old : (x : ℕ) → IsTrue (is_in x (reserved_homes (home_in (with_changing start new)) (young_places (map (moved_to p a) placing.places))))
      → IsTrue (is_in x (reserved_homes (home_in (with_changing start now)) (young_places placing.places)))
  reserved-old x t =
      let g = given-by (home_in (with_changing start new)) (young_places (map (moved_to p a) placing.places)) x t in
      let y = young_cases mid.words.objects mid.words.moving c.can g.place g.there in
      gives-in (home_in (with_changing start now)) (young_places placing.places) g.place x y.0 (sym (c.home_other g.place y.1) ∙ g.gives)

  young-here : (q : ℕ) → IsTrue (is_in q (young_places placing.places)) → q ≢ p → IsTrue (is_in q (young_places (map (moved_to p a) placing.places)))
  young-here q t ne = let y = young-is_in placing.places q t in is_in-young (map (moved_to p a) placing.places) q (moved-there placing.places p a q ne y.0) y.1

  old-new : IsTrue (is_in a (old_places (map (moved_to p a) placing.places)))
  old-new = is_in-old (map (moved_to p a) placing.places) a (here mid.words.objects mid.words.moving c.can) c.can.far

  in-joined : (q : ℕ) (xs ys zs : List ℕ) → (IsTrue (is_in q xs) → IsTrue (is_in q ys)) → IsTrue (is_in q (xs ++ zs)) → IsTrue (is_in q (ys ++ zs))
  in-joined q xs ys zs more t = elim (in-either q xs zs t) [ inl u ↦ in-left q ys zs (more u) | inr u ↦ in-right q ys zs u ]

  named-at : (at birth : ℕ) → IsTrue (is_in at (old_places placing.places ++ placing.husks)) → placing.name at ≡ birth → updated placing.name a (placing.name p) at ≡ birth
  named-at at birth t e = elim (in-either at (old_places placing.places) placing.husks t) [
    | inl u ↦ name-same at (old-is_in placing.places at u).0 ∙ e
    | inr u ↦ updated-other placing.name a (placing.name p) at (c.husk_same at u).1 ∙ e
  ]

  homes-after : HoldsHomes (home_in (with_changing start new)) (map (moved_to p a) placing.places) placing.husks (updated placing.name a (placing.name p)) store.homes
  homes-after = record {
    told = λ birth at e. elim (mid.homes.told birth at e) [
      | inl place ↦ inl (record {
        there = in-joined at (old_places placing.places) (old_places (map (moved_to p a) placing.places)) placing.husks (old-after mid.words.objects mid.words.moving c.can at) place.there;
        named = named-at at birth place.there place.named;
      })
      | inr reserved ↦ elim (eqb_tells reserved.place p) [
        | inl is ↦ elim c.home_was [
          | inl none ↦ absurd (let bad : None ≡ Some at = sym none ∙ (ap (home_in (with_changing start now)) (sym is.1) ∙ reserved.reserved) in let no : ⊥ = cc in no)
          | inr some ↦
              let same : Some a ≡ Some at = sym some ∙ (ap (home_in (with_changing start now)) (sym is.1) ∙ reserved.reserved) in
              let at_is : a ≡ at = cc in
              inl (subst (λ (k : ℕ). IsPlaceOf (old_places (map (moved_to p a) placing.places)) placing.husks (updated placing.name a (placing.name p)) birth k) at_is
              (record { there = in-left a (old_places (map (moved_to p a) placing.places)) placing.husks old-new; named = new_name mid.words.objects mid.words.moving c.can ∙ (ap placing.name (sym is.1) ∙ reserved.named) }))
        ]
        | inr ne ↦
            let y = young-is_in placing.places reserved.place reserved.there in
            inr (record {
              place = reserved.place;
              there = young-here reserved.place reserved.there ne.1;
              named = name-same reserved.place y.0 ∙ reserved.named;
              reserved = c.home_other reserved.place ne.1 ∙ reserved.reserved;
            })
      ]
    ];
    reserved = λ q at e. elim (eqb_tells q p) [
      | inl is ↦ absurd (let bad : None ≡ Some at = sym c.home_none ∙ (ap (home_in (with_changing start new)) (sym is.1) ∙ e) in let no : ⊥ = cc in no)
      | inr ne ↦ young-here q (mid.homes.reserved q at (sym (c.home_other q ne.1) ∙ e)) ne.1
    ];
    known = λ q at e. elim (eqb_tells q p) [
      | inl is ↦ absurd (let bad : None ≡ Some at = sym c.home_none ∙ (ap (home_in (with_changing start new)) (sym is.1) ∙ e) in let no : ⊥ = cc in no)
      | inr ne ↦
          let was : home_in (with_changing start now) q ≡ Some at = sym (c.home_other q ne.1) ∙ e in
          subst (λ (b : ℕ). value_at store.homes b ≡ Some at) (sym (name-same q (young-is_in placing.places q (mid.homes.reserved q at was)).0)) (mid.homes.known q at was)
    ];
  }

  renamed-same : (q : ℕ) → IsPointer placing.met q → renamed (updated placing.name a (placing.name p)) q ≡ renamed placing.name q
  renamed-same q (inl e) = rw e refl
  renamed-same q (inr t) = ap (λ (b : ℕ). if q == 0 then None else Some b) (met-name q t)

  met-agree : AgreeOn (updated placing.name a (placing.name p)) placing.name placing.met
  met-agree q t = met-name q t

  met-more : AreAmong (a ∷ placing.met) placing.met
  met-more q t = is_in-tail q a placing.met t

  objects-after : HoldsObjects start.setup.types (word_at new.memory.blocks) (a ∷ placing.met) (map (moved_to p a) placing.places) (updated placing.name a (placing.name p)) store.kept
  objects-after = subst (λ (f : ℕ → ℕ). HoldsObjects start.setup.types f (a ∷ placing.met) (map (moved_to p a) placing.places) (updated placing.name a (placing.name p)) store.kept) (sym c.words)
      (step_objects mid.words.objects mid.words.moving c.can)

  whole-after : AreWhole new.memory start.setup.types (map (moved_to p a) placing.places)
  whole-after q t = record {
    typed = objects-after.typed q t;
    whole = elim (moved-cases placing.places p a q t) [
      | inl e ↦ let P : ℕ → Type 0 = λ k. IsTrue (lies_in_one new.memory.blocks k (words_at start.setup.types (word_at new.memory.blocks) k)) in
          subst P (sym e) (subst (λ (n : ℕ). IsTrue (lies_in_one new.memory.blocks a n)) (sym size-new) c.room_lies)
      | inr k ↦ subst (λ (n : ℕ). IsTrue (lies_in_one new.memory.blocks q n)) (sym (size-same q k.0 k.1)) (c.lies q k.0 k.1)
    ];
  }

  new-carded : IsCarded start.setup.types start.setup.settings.card (word_at new.memory.blocks) a
  new-carded =
      let u : ℕ → ℕ = moved (word_at now.memory.blocks) p a (words_at start.setup.types (word_at now.memory.blocks) p) in
      let copy = (room-moves mid.words.objects c.can.room).copy in
      let info : info_at start.setup.types (word_at new.memory.blocks) a ≡ info_at start.setup.types (word_at now.memory.blocks) p =
      info_at-same start.setup.types (word_at new.memory.blocks) u a head-keeps.type_stays ∙ copy-info copy in
      let count : (layout_at start.setup.types (word_at new.memory.blocks) a).ref_count ≡ (layout_at start.setup.types (word_at now.memory.blocks) p).ref_count =
      ap (λ (l : Layout). l.ref_count) head-keeps.layout_stays ∙ (copy-like copy).ref_count in
      ap (λ (x : ℕ). has_flag x HasCards) head-is ∙ (c.has_cards ∙ ap₂ (λ (i : TypeInfo) (n : ℕ). keeps_cards start.setup.settings.card i.shape n) (sym info) (sym count))

  marked-after : HoldsRemembered start.setup.types start.setup.settings.card (word_at new.memory.blocks) new.remembered (map (moved_to p a) placing.places)
  marked-after =
      let kept_remembered : new.remembered ≡ now.remembered = ap (λ (n : Changing). n.remembered) c.rest in
      subst (λ (r : Remembered). HoldsRemembered start.setup.types start.setup.settings.card (word_at new.memory.blocks) r (map (moved_to p a) placing.places)) (sym kept_remembered) (record {
        there = λ q t. old-after mid.words.objects mid.words.moving c.can q (mid.marked.there q t);
        tracked = old-firsts (record { track = c.track ∙ ap not (sym new-not-held.0); cards_set = c.cards_set ∙ sym new-not-held.1 }) (λ q t k. k) mid.marked.tracked;
        carded = λ q t. elim (old_cases mid.words.objects mid.words.moving c.can q t) [
          | inl e ↦ subst (IsCarded start.setup.types start.setup.settings.card (word_at new.memory.blocks)) (sym e) new-carded
          | inr u ↦
              let k = keeps-same start.setup.types (word_at new.memory.blocks) (word_at now.memory.blocks) q (rest-same q (old-is_in placing.places q u).0 (old-ne q u)) in
              ap (λ (x : ℕ). has_flag x HasCards) (first-same q (old-is_in placing.places q u).0 (old-ne q u)) ∙ (mid.marked.carded q u
              ∙ ap₂ (λ (i : TypeInfo) (l : Layout). keeps_cards start.setup.settings.card i.shape l.ref_count)
              (sym (info_at-same start.setup.types (word_at new.memory.blocks) (word_at now.memory.blocks) q k.type_stays)) (sym k.layout_stays))
        ];
      })

  -- The middle of the collection goes on: p is found, and a is to be opened.
  pub midway_moves : Midway start store remembered new (one_settled placing p a) (a ∷ todo) held less owes (one_moved before (words_at start.setup.types (word_at now.memory.blocks) p)) []
  midway_moves =
      let slots : new.slots ≡ now.slots = ap (λ (n : Changing). n.slots) c.rest in
      let registered : new.registered ≡ now.registered = ap (λ (n : Changing). n.registered) c.rest in
      let links : new.links ≡ now.links = ap (λ (n : Changing). n.links) c.rest in
      let gray : new.gray ≡ now.gray = ap (λ (n : Changing). n.gray) c.rest in
      let kept_remembered : new.remembered ≡ now.remembered = ap (λ (n : Changing). n.remembered) c.rest in
      let pinned_in : (q : ℕ) → IsTrue (is_in q (pinned_places start)) → IsTrue (is_in q placing.met) = λ q t. mid.words.moving.stay q (young-is_in placing.places q (mid.pins.there q t)).0 in
      record {
        words = record {
          objects = subst (λ (f : ℕ → ℕ). HoldsObjects start.setup.types f (a ∷ placing.met) (map (moved_to p a) placing.places) (updated placing.name a (placing.name p)) store.kept) (sym c.words)
              (step_objects mid.words.objects mid.words.moving c.can);
          moving = subst (λ (f : ℕ → ℕ). IsMoving start.setup.types f (a ∷ placing.met) (map (moved_to p a) placing.places) (updated placing.name a (placing.name p))) (sym c.words)
              (step_moving mid.words.objects mid.words.moving c.can);
          whole = whole-after;
          inside = λ q t. let y = young_cases mid.words.objects mid.words.moving c.can q t in
              let s = size-same q (young-is_in placing.places q y.0).0 y.1 in let i = mid.words.inside q y.0 in omega (arith, s, i);
          left_low = λ x t. elim (is_in-cases x a placing.met t) [
            | inl e ↦ inl (subst (λ (k : ℕ). IsTrue (is_in k (map (moved_to p a) placing.places))) (sym e) (here mid.words.objects mid.words.moving c.can))
            | inr u ↦ elim (mid.words.left_low x u) [
              | inl there ↦ elim (eqb_tells x p) [
                | inl is ↦ inr (let i = mid.words.inside p (is_in-young placing.places p c.can.room.there (young-p mid.words.objects mid.words.moving c.can)) in
                    omega (arith, is.1, i, (laid_out start.setup.types (word_at now.memory.blocks) p).header))
                | inr ne ↦ inl (moved-there placing.places p a x ne.1 there)
              ]
              | inr low ↦ inr low
            ]
          ];
          nursery_whole = c.nursery_lies;
          husk = record {
            reads = mid.words.husk.reads ∙ map-same (husk_at start.setup.types (word_at now.memory.blocks)) (husk_at start.setup.types (word_at new.memory.blocks)) placing.husks
                (λ q t. let k = keeps-same start.setup.types (word_at new.memory.blocks) (word_at now.memory.blocks) q (c.husk_same q t).0 in
                ap₂ (λ (b : ℕ) (l : Layout). (b, l.words)) (sym k.birth_stays) (sym k.layout_stays));
            named = λ q t. updated-other placing.name a (placing.name p) q (c.husk_same q t).1 ∙ (mid.words.husk.named q t
                ∙ sym (keeps-same start.setup.types (word_at new.memory.blocks) (word_at now.memory.blocks) q (c.husk_same q t).0).birth_stays);
            waits = mid.words.husk.waits;
          };
        };
        blocks = c.blocks;
        headers = record {
          settled = old-firsts c.header (λ q t k. k) mid.headers.settled;
          husk = firsts-stay (word_at new.memory.blocks) (λ q t. (c.husk_same q t).0.same q (omega arith) (omega (arith, (laid_out start.setup.types (word_at now.memory.blocks) q).header))) mid.headers.husk;
          shadow = firsts-stay (word_at new.memory.blocks) c.shadow_same (firsts-fewer reserved-old mid.headers.shadow);
          young = young-firsts mid.headers.young;
        };
        young_flags = record {
          pinned = young-firsts mid.young_flags.pinned;
          has_shadow = record {
            each = λ q t. (young-firsts mid.young_flags.has_shadow).each q t
                ∙ ap is_some (sym (c.home_other q (young_cases mid.words.objects mid.words.moving c.can q t).1));
          };
        };
        visited = old-firsts c.visited (λ q t k. k ∙ marked-one start.phase q (name-same q (old-is_in placing.places q t).0)) mid.visited;
        marked = marked-after;
        homes = homes-after;
        rise = subst (λ (bs : List ℕ). RiseBetween 1 bs start.next) (sym (step_names mid.words.objects mid.words.moving c.can)) mid.rise;
        follows = subst (λ (f : ℕ → ℕ). Follows start.setup.types store remembered (pinned_places start) f (a ∷ placing.met) (map (moved_to p a) placing.places) (updated placing.name a (placing.name p)) (placing.name p ∷ placing.found) (a ∷ todo) held less owes) (sym c.words)
            (step_follows mid.words.objects mid.words.moving c.can (subst (λ (l : List ℕ). Follows start.setup.types store remembered (pinned_places start) (word_at now.memory.blocks) placing.met placing.places placing.name placing.found todo held l owes) is_left mid.follows));
        slots = record {
          named = mid.slots.named ∙ (map-same (renamed placing.name) (renamed (updated placing.name a (placing.name p))) now.slots (λ q t. sym (renamed-same q (mid.slots.pointers q t))) ∙ ap (map (renamed (updated placing.name a (placing.name p)))) (sym slots));
          many = ap length slots ∙ mid.slots.many;
          pointers = λ q t. elim (mid.slots.pointers q (subst (λ (l : List ℕ). IsTrue (is_in q l)) slots t)) [ inl e ↦ inl e | inr u ↦ inr (is_in-tail q a placing.met u) ];
        };
        pins = record {
          named = (entries_agree {more = a ∷ placing.met} met-agree met-more (record { named = mid.pins.named; there = pinned_in })).named;
          there = λ q t. young-here q (mid.pins.there q t) (λ e. not-in p (pinned_places start) (unpinned-p mid.words.objects mid.words.moving c.can) (subst (λ (k : ℕ). IsTrue (is_in k (pinned_places start))) e t));
        };
        registered_are = subst (λ (l : List (ℕ × ℕ)). HoldsEntries l (a ∷ placing.met) (updated placing.name a (placing.name p)) store.registered) (sym registered) (entries_agree met-agree met-more mid.registered_are);
        chosen_are = entries_agree met-agree met-more mid.chosen_are;
        queues_are = queues_agree met-agree met-more mid.queues_are;
        links_are = subst (λ (l : Structs). HoldsLinks l (a ∷ placing.met) (updated placing.name a (placing.name p)) store.structs store.dead) (sym links) (links_agree met-agree met-more mid.links_rise mid.links_are);
        links_rise = mid.links_rise;
        units = mid.units;
        carried = record {
          held_there = λ q t. old-after mid.words.objects mid.words.moving c.can q (mid.carried.held_there q t);
          held_named = λ x i. held_agrees start.remembered (updated placing.name a (placing.name p)) placing.name placing.met x i met-agree
              (λ q t. mid.words.moving.stay q (old-is_in placing.places q (mid.carried.held_there q t)).0) ∙ mid.carried.held_named x i;
          gray_same = gray ∙ mid.carried.gray_same;
          gray_are = list_agrees met-agree met-more mid.carried.gray_are;
          weaks_are = list_agrees met-agree met-more mid.carried.weaks_are;
          weak_are = mid.carried.weak_are;
          walked_are = record {
            walks = mid.carried.walked_are.walks;
            walk = mid.carried.walked_are.walk;
            differ = mid.carried.walked_are.differ;
            young = λ x t. let y = mid.carried.walked_are.young x t in (is_in-tail x a placing.met y.0, y.1);
            all = λ x t. mid.carried.walked_are.all x (young_cases mid.words.objects mid.words.moving c.can x t).0;
          };
          counted =
              let differ : AreDifferent placing.places = names_differ placing.name placing.places (rise-differ 1 start.next (map placing.name placing.places) mid.rise) in
              let sum = sum-moved (λ q. 1) (λ q. 1) p a placing.places differ (young-p mid.words.objects mid.words.moving c.can) c.can.far refl (λ q t ne. refl) c.can.room.there in
              let before_are : length (old_places placing.places) ≡ length store.settled + before.objects = mid.carried.counted in
              omega (arith, sum, ones (old_places placing.places), ones (old_places (map (moved_to p a) placing.places)), before_are);
        };
        gray = λ q t. old-after mid.words.objects mid.words.moving c.can q (mid.gray q (subst (λ (l : List ℕ). IsTrue (is_in q l)) gray t));
        moved_words =
            let differ : AreDifferent placing.places = names_differ placing.name placing.places (rise-differ 1 start.next (map placing.name placing.places) mid.rise) in
            let sum = sum-moved (words_at start.setup.types (word_at new.memory.blocks)) (words_at start.setup.types (word_at now.memory.blocks)) p a placing.places differ
            (young-p mid.words.objects mid.words.moving c.can) c.can.far size-new size-same c.can.room.there in
            omega (arith, sum, mid.moved_words);
        made = c.made;
      }
