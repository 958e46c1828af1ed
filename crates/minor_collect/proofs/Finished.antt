-- What the parts of the code tell is what the end of a minor collection asks for.
use Rattle.std.proofs.Common.{◌≡◌, ℕ, suc, ◌+◌, ◌<◌, ◌≤◌, Bool, true, false, IsTrue, List, [], ◌∷◌, ◌++◌, map, filter, length, Some, refl, sym, ap, ap₂, ◌∙◌, subst, inl, inr, arith}
use Rattle.std.specs.Prelude.{not, ◌||◌, slice_get, filter_map, IsSome}
use Rattle.std.specs.List.Sorted.{IsPermutation}
use Rattle.std.proofs.lemmas.Bool.{cases_Bool}
use Rattle.type_table.specs.declared.info.TypeInfo.{TypeInfo}
use Rattle.type_table.specs.Table.{Table, value_at}
use Rattle.heap_space.specs.Places.{lies_in_one, word_at}
use Rattle.heap_space.specs.Extents.{Extent, Each, IsApart}
use Rattle.nursery_gaps.specs.Nursery.{Layout as NurseryLayout}
use Rattle.object_view.proofs.InitLaws.{lies-part}
use Rattle.object_model.proofs.Members.{is_in-cases, is_in-nil, map-same, filter-part, filter-agree, in-left, in-right}
use Rattle.object_view.proofs.LayoutLaws.{laid_out, weak-at, SameAt, info_at-same, keeps-same}
use Rattle.old_space.specs.HasBlocks.{HasBlocks, IsBlock}
use Rattle.old_space.proofs.JoinLaws.{HasBlocks-apart, HasBlocks-blocks}
use Rattle.text_model.specs.declared.line.Phase.{Phase}
use Rattle.text_model.specs.declared.line.Phase.TheVariants.{Scanning, Marking, Sweeping, Finalizing}
use Rattle.object_model.specs.Layout.{Layout}
use Rattle.object_model.specs.Sets.{is_in}
use Rattle.object_model.specs.Shapes.{is_weak_shape}
use Rattle.store_model.specs.Store.{Store, Struct}
use Rattle.store_model.specs.Structs.{object_of}
use Rattle.object_model.specs.ObjectWords.{words_at, info_at}
use Rattle.store_model.specs.MarkingOrder.{YoungHeld}
use Rattle.text_model.specs.declared.line.Line.TheVariants.{MinorDone, Cleared, Destroyed, LinkCut}
use Rattle.store_model.specs.Links.{link_ends}
use Rattle.store_model.specs.MinorCollection.{vanishes, MinorCollection}
use Rattle.heap_parts.specs.Collects.{IsCollected}
use Rattle.remember_cards.specs.Remembered.{is_held_of}
use Rattle.heap_parts.specs.Parts.{HeapParts, home_in, pinned_places}
use Rattle.heap_parts.specs.Places.{is_young, young_places, old_places, block_at, is_weak_at}
use Rattle.heap_parts.specs.OldSpace.{blocks_of, reserved_blocks, reserved_homes, AreUnitsSwept, HoldsHusks, husk_at}
use Rattle.heap_parts.specs.StandsFor.{PartsStandButYoung}
use Rattle.heap_parts.proofs.BlockLaws.{each-member}
use Rattle.frame_laws.proofs.Members.{apart-both, each-left, each-right}
use Rattle.frame_laws.proofs.PlaceLaws.{is_in-young, is_in-old, young-is_in}
use Rattle.minor_collect.specs.Carried.{Moved}
use Rattle.minor_collect.specs.Midway.{Midway, Changing, with_changing, Owes, IsLasting, Placing, OwesNone}
use Rattle.minor_collect.specs.Lines.{TellsLoss}
use Rattle.minor_collect.specs.Ending.{ended_parts, Completes, left_places, stays, IsCleared}
use Rattle.minor_collect.specs.Finishes.{Finishes}
use Rattle.minor_collect.proofs.Ended.{old_stay, lasting_stays, no_both}
use Rattle.minor_collect.proofs.EndObjects.{cleared-keeps}
use Rattle.minor_collect.proofs.EndStands.{given-by, gives-in}
use Rattle.minor_collect.proofs.Lines.{lines_told}
use Rattle.minor_collect.proofs.Remaining.{minor_done}
use Rattle.minor_collect.proofs.HomesBack.{homes_kept, homes_blocks}
use Rattle.minor_collect.proofs.Queued.{gray_there, gray_phase, gray_more, gray_from, written_queued}
use Rattle.minor_collect.proofs.TakeKeeps.{reserved-one}
use Rattle.minor_collect.proofs.WeakPass.{weak-shape, weak_cleared, weak_listed, cleared_stays, left-there}
use Rattle.minor_collect.proofs.Weaks.{gone_lasting}
use Rattle.minor_collect.proofs.NamedObjects.{map-id}

-- an entry of a list stands at some number
pub record AtNumber (X : Type 0) (xs : List X) (f : X → ℕ) (y : ℕ) : Type 0 where
  pub number : ℕ
  pub entry : X
  pub is : slice_get xs number ≡ Some entry
  pub reads : f entry ≡ y

pub at-number : {X : Type 0} → (f : X → ℕ) (xs : List X) (y : ℕ) → IsTrue (is_in y (map f xs)) → AtNumber X xs f y
at-number f [] y t = absurd (is_in-nil y t)
at-number f (x ∷ xs) y t = elim (is_in-cases y (f x) (map f xs) t) [
  | inl e ↦ record { number = 0; entry = x; is = refl; reads = sym e }
  | inr u ↦ let more = at-number f xs y u in record { number = suc more.number; entry = more.entry; is = more.is; reads = more.reads }
]

none-fewer : (xs ys : List ℕ) → length ys ≤ length xs → xs ≡ [] → ys ≡ []
none-fewer xs [] l e = refl
none-fewer xs (y ∷ ys) l e = absurd (let z : length xs ≡ 0 = ap length e in let long : length (y ∷ ys) ≡ suc (length ys) = refl in omega (arith, l, z, long))

-- fewer units wait
units-fewer : (phase : Phase) (sweep left : ℕ) (before after : List ℕ) → length after ≤ length before → AreUnitsSwept phase sweep left before → AreUnitsSwept phase sweep left after
units-fewer Sweeping sweep left before after l u = (omega (arith, l, u.0), u.1)
units-fewer Scanning sweep left before after l u = none-fewer before after l u
units-fewer Marking sweep left before after l u = none-fewer before after l u
units-fewer Finalizing sweep left before after l u = none-fewer before after l u

module _ {start : HeapParts} {store : Store} {now new : Changing} {held : List ℕ} {owes : Owes} {moved : Moved} {nursery : NurseryLayout} {unsettled old_words : ℕ}
    (s : PartsStandButYoung start store) (young_held : YoungHeld store.kept store.settled (is_held_of start.remembered s.name))
    {placing : Placing} (mid : Midway start store (is_held_of start.remembered s.name) now placing [] held [] owes moved []) (none : OwesNone owes)
    (f : Finishes start store (is_held_of start.remembered s.name) now held owes moved placing mid new nursery unsettled old_words) where
  abbrev types : Table TypeInfo
  types = start.setup.types

  abbrev w : ℕ → ℕ
  w = word_at now.memory.blocks

  small : start.nursery.words ≤ 1048576
  small = omega (arith, mid.made.words, mid.made.ranges.1)

  abbrev gone : ℕ → Bool
  gone x = vanishes store (λ z. is_in z placing.found) x

  abbrev reserved : List Extent
  reserved = reserved_blocks start.setup.types (word_at now.memory.blocks) (home_in (with_changing start now)) (young_places placing.places)

  -- settled objects share no word with husks and reserved homes
  others-apart : (p : ℕ) → IsTrue (is_in p (old_places placing.places)) → Each (IsApart (block_at start.setup.types (word_at now.memory.blocks) p))
      (map (block_at start.setup.types (word_at now.memory.blocks)) placing.husks ++ (reserved_blocks start.setup.types (word_at now.memory.blocks) (home_in (with_changing start now)) (young_places placing.places) ++ []))
  others-apart p t =
      let H : List Extent = map (block_at start.setup.types (word_at now.memory.blocks)) placing.husks in
      let R : List Extent = reserved_blocks start.setup.types (word_at now.memory.blocks) (home_in (with_changing start now)) (young_places placing.places) ++ [] in
      each-member (λ y. Each (IsApart y) (H ++ R)) (block_at start.setup.types (word_at now.memory.blocks)) (old_places placing.places) p
      (apart-both (map (block_at start.setup.types (word_at now.memory.blocks)) (old_places placing.places)) (H ++ R) (HasBlocks-apart now.old_blocks now.memory _ placing.waiting mid.blocks)) t

  others-low : Each (IsBlock now.memory)
      (map (block_at start.setup.types (word_at now.memory.blocks)) placing.husks ++ (reserved_blocks start.setup.types (word_at now.memory.blocks) (home_in (with_changing start now)) (young_places placing.places) ++ []))
  others-low = each-right (IsBlock now.memory) (map (block_at start.setup.types (word_at now.memory.blocks)) (old_places placing.places)) _ (HasBlocks-blocks now.old_blocks now.memory _ placing.waiting mid.blocks)

  -- a word of a block that shares none with settled objects is no target
  aside : (b : ℕ) (x : Extent) → 4294967296 ≤ x.0 → x.0 ≤ b → b < x.0 + x.1
      → ((p : ℕ) → IsTrue (is_in p (old_places placing.places)) → IsApart (block_at start.setup.types (word_at now.memory.blocks) p) x)
      → word_at f.passed.blocks b ≡ word_at now.memory.blocks b
  aside b x low above below apart = f.weaks.elsewhere b (λ p t e.
      let there = left-there mid none f.weaks p t in
      let weak = weak-shape (info_at start.setup.types (word_at now.memory.blocks) p).shape there.1.1 in
      let laid = laid_out start.setup.types (word_at now.memory.blocks) p in
      let one = weak-at start.setup.types (word_at now.memory.blocks) p weak in
      elim (cases_Bool (is_young p)) [
        | inl y ↦ let i = mid.words.inside p (is_in-young placing.places p there.0 y) in absurd (omega (arith, i, small, low, above, e, laid.pointers, one.0))
        | inr o ↦ elim (apart p (is_in-old placing.places p there.0 o)) [
          | inl before ↦ absurd (omega (arith, before, above, e, laid.pointers, one.0))
          | inr behind ↦ absurd (omega (arith, behind, below, e, laid.begins, laid.ordered))
        ]
      ])

  husk-passed : (q : ℕ) → IsTrue (is_in q placing.husks) → SameAt start.setup.types (word_at f.passed.blocks) (word_at now.memory.blocks) q
  husk-passed q t =
      let H : List Extent = map (block_at start.setup.types (word_at now.memory.blocks)) placing.husks in
      let R : List Extent = reserved_blocks start.setup.types (word_at now.memory.blocks) (home_in (with_changing start now)) (young_places placing.places) ++ [] in
      let low = (each-member (IsBlock now.memory) (block_at start.setup.types (word_at now.memory.blocks)) placing.husks q (each-left (IsBlock now.memory) H R others-low) t).low in
      record {
        same = λ b l r. aside b (q, words_at start.setup.types (word_at now.memory.blocks) q) low l r
            (λ p u. each-member (IsApart (block_at start.setup.types (word_at now.memory.blocks) p)) (block_at start.setup.types (word_at now.memory.blocks)) placing.husks q
            (each-left (IsApart (block_at start.setup.types (word_at now.memory.blocks) p)) H R (others-apart p u)) t);
      }

  shadow-passed : (a : ℕ) → IsTrue (is_in a (reserved_homes (home_in (with_changing start now)) (young_places placing.places))) → word_at f.passed.blocks a ≡ word_at now.memory.blocks a
  shadow-passed a t =
      let g = given-by (home_in (with_changing start now)) (young_places placing.places) a t in
      let H : List Extent = map (block_at start.setup.types (word_at now.memory.blocks)) placing.husks in
      let R0 : List Extent = reserved_blocks start.setup.types (word_at now.memory.blocks) (home_in (with_changing start now)) (young_places placing.places) in
      let block = reserved-one (IsBlock now.memory) start.setup.types (word_at now.memory.blocks) (home_in (with_changing start now)) (young_places placing.places) g.place a
      (each-left (IsBlock now.memory) R0 [] (each-right (IsBlock now.memory) H (R0 ++ []) others-low)) g.there g.gives in
      aside a (a, words_at start.setup.types (word_at now.memory.blocks) g.place) block.low (omega arith) (omega (arith, block.wide))
      (λ p u. reserved-one (IsApart (block_at start.setup.types (word_at now.memory.blocks) p)) start.setup.types (word_at now.memory.blocks) (home_in (with_changing start now)) (young_places placing.places) g.place a
      (each-left (IsApart (block_at start.setup.types (word_at now.memory.blocks) p)) R0 [] (each-right (IsApart (block_at start.setup.types (word_at now.memory.blocks) p)) H (R0 ++ []) (others-apart p u))) g.there g.gives)

  husk-same : (q : ℕ) → IsTrue (is_in q placing.husks) → SameAt start.setup.types (word_at new.memory.blocks) (word_at now.memory.blocks) q
  husk-same q t =
      let first = husk-passed q t in
      let size : words_at start.setup.types (word_at f.passed.blocks) q ≡ words_at start.setup.types (word_at now.memory.blocks) q =
      ap (λ (l : Layout). l.words) (keeps-same start.setup.types (word_at f.passed.blocks) (word_at now.memory.blocks) q first).layout_stays in
      record { same = λ b l r. (f.gives.keeps.husk q t).same b l (omega (arith, r, size)) ∙ first.same b l r }

  in-places : (p : ℕ) → IsTrue (is_in p (left_places store placing.found placing.name placing.places)) → IsTrue (is_in p placing.places)
  in-places p t = (filter-part (λ q. stays store (λ x. is_in x placing.found) (placing.name q)) placing.places p t).0

  cleared-end : (p : ℕ) → IsTrue (is_in p (left_places store placing.found placing.name placing.places))
      → IsCleared start.setup.types (word_at new.memory.blocks) (word_at now.memory.blocks) (vanishes store (λ x. is_in x placing.found)) placing.name (left_places store placing.found placing.name placing.places) p
  cleared-end p t = cleared_stays (weak_cleared mid none f.weaks p t) (f.gives.keeps.objects p (in-places p t))

  size-end : (p : ℕ) → IsTrue (is_in p (left_places store placing.found placing.name placing.places)) → words_at start.setup.types (word_at new.memory.blocks) p ≡ words_at start.setup.types (word_at now.memory.blocks) p
  size-end p t = ap (λ (l : Layout). l.words) (cleared-keeps (cleared-end p t)).layout_stays

  old-stay : old_places (left_places store placing.found placing.name placing.places) ≡ old_places placing.places
  old-stay = old_stay mid.words.objects mid.words.moving mid.follows none

  unpinned : (p : ℕ) → IsTrue (is_in p placing.places) → stays store (λ x. is_in x placing.found) (placing.name p) ≡ false → is_in p (pinned_places start) ≡ false
  unpinned p t e = elim (cases_Bool (is_in p (pinned_places start))) [
    | inl pin ↦ absurd (no_both (stays store (λ x. is_in x placing.found) (placing.name p)) (lasting_stays mid.words.objects mid.words.moving mid.follows none p t (lasts (is_young p) (is_in p (pinned_places start)) pin)) e)
    | inr out ↦ out
  ]
    where
      lasts : (young pin : Bool) → IsTrue pin → IsTrue (not young || pin)
      lasts true pin u = u
      lasts false pin u = refl

  blocks-end : HasBlocks new.old_blocks new.memory (blocks_of start.setup.types (word_at new.memory.blocks) (home_in (with_changing start new))
      (young_places (left_places store placing.found placing.name placing.places)) (old_places (left_places store placing.found placing.name placing.places)) placing.husks []) f.waiting
  blocks-end = homes_blocks f.gives placing.name (stays store (λ x. is_in x placing.found)) f.only unpinned old-stay

  lies-end : (p : ℕ) → IsTrue (is_in p (left_places store placing.found placing.name placing.places)) → IsTrue (lies_in_one new.memory.blocks p (words_at start.setup.types (word_at new.memory.blocks) p))
  lies-end p t = elim (cases_Bool (is_young p)) [
    | inl y ↦ lies-part new.memory.blocks 1 start.nursery.words p (words_at start.setup.types (word_at new.memory.blocks) p) f.nursery_whole (mid.words.objects.above p (in-places p t))
        (let i = mid.words.inside p (is_in-young placing.places p (in-places p t) y) in omega (arith, i, size-end p t))
    | inr o ↦ (each-member (IsBlock new.memory) (block_at start.setup.types (word_at new.memory.blocks)) (old_places (left_places store placing.found placing.name placing.places)) p
        (each-left (IsBlock new.memory) (map (block_at start.setup.types (word_at new.memory.blocks)) (old_places (left_places store placing.found placing.name placing.places))) _
        (HasBlocks-blocks new.old_blocks new.memory _ f.waiting blocks-end)) (is_in-old (left_places store placing.found placing.name placing.places) p t o)).lies
  ]

  weak-end : IsPermutation (filter (is_weak_at start.setup.types (word_at new.memory.blocks)) (left_places store placing.found placing.name placing.places)) new.weaks
  weak-end = subst (λ (ps : List ℕ). IsPermutation ps new.weaks) (sym (filter-agree (is_weak_at start.setup.types (word_at new.memory.blocks)) (is_weak_at start.setup.types (word_at f.passed.blocks))
      (left_places store placing.found placing.name placing.places) (λ p t. ap (λ (i : TypeInfo). is_weak_shape i.shape) (info_at-same start.setup.types (word_at new.memory.blocks) (word_at f.passed.blocks) p
      (keeps-same start.setup.types (word_at new.memory.blocks) (word_at f.passed.blocks) p (f.gives.keeps.objects p (in-places p t))).type_stays)))) (weak_listed mid none f.weaks)

  husk-end : HoldsHusks start.setup.settings.page start.setup.types (word_at new.memory.blocks) placing.name placing.husks f.waiting store.husks
  husk-end = record {
    reads = mid.words.husk.reads ∙ map-same (husk_at start.setup.types (word_at now.memory.blocks)) (husk_at start.setup.types (word_at new.memory.blocks)) placing.husks
        (λ q t. let k = keeps-same start.setup.types (word_at new.memory.blocks) (word_at now.memory.blocks) q (husk-same q t) in
        ap₂ (λ (b : ℕ) (l : Layout). (b, l.words)) (sym k.birth_stays) (sym k.layout_stays));
    named = λ q t. mid.words.husk.named q t ∙ sym (keeps-same start.setup.types (word_at new.memory.blocks) (word_at now.memory.blocks) q (husk-same q t)).birth_stays;
    waits = λ q t. f.gives.waits q (in-right q (old_places placing.places) placing.husks t) ∙ mid.words.husk.waits q t;
  }

  shadow-end : (a : ℕ) → IsTrue (is_in a (reserved_homes (home_in (with_changing start new)) (young_places (left_places store placing.found placing.name placing.places)))) → word_at new.memory.blocks a ≡ word_at now.memory.blocks a
  shadow-end a t =
      let g = given-by (home_in (with_changing start new)) (young_places (left_places store placing.found placing.name placing.places)) a t in
      let y = young-is_in (left_places store placing.found placing.name placing.places) g.place g.there in
      let there : IsTrue (is_in g.place (young_places placing.places)) = is_in-young placing.places g.place (in-places g.place y.0) y.1 in
      let before : home_in (with_changing start now) g.place ≡ Some a = sym (homes_kept f.gives g.place (f.only g.place a g.gives)) ∙ g.gives in
      f.gives.keeps.shadow a (gives-in (home_in (with_changing start new)) (young_places placing.places) g.place a there g.gives)
      ∙ shadow-passed a (gives-in (home_in (with_changing start now)) (young_places placing.places) g.place a there before)

  gone-told : (p : ℕ) → IsTrue (is_in p (filter_map (λ (entry : ℕ × Struct). object_of entry.1) now.links.structs)) → vanishes store (λ x. is_in x placing.found) (placing.name p) ≡ f.gone_at p
  gone-told p t = elim (f.lists.link p t) [
    | inl owed ↦ absurd (no_both (owes.links p) owed (none.links p))
    | inr u ↦ gone_lasting mid.words.objects mid.words.moving mid.follows none p u.0 ∙ sym (f.gone_are p t)
  ]

  -- What the end asks for.
  pub finished : Completes start store (is_held_of start.remembered s.name) now held owes moved placing mid (map s.name start.gray) new nursery unsettled old_words
  finished = record {
    waiting = f.waiting;
    sorted = f.sorted;
    dead = f.gone_at;
    cleared = cleared-end;
    whole = λ p t. record {
      typed = subst (λ (id : ℕ). IsSome (value_at start.setup.types id)) (sym (cleared-keeps (cleared-end p t)).type_stays) (mid.words.objects.typed p (in-places p t));
      whole = lies-end p t;
    };
    weak = weak-end;
    nursery_is = f.nursery_is;
    laid_out = f.laid_out;
    sorted_are = f.sorted_are;
    nursery_whole = f.nursery_whole;
    blocks = blocks-end;
    husk = husk-end;
    husk_firsts = λ q t. (husk-same q t).same q (omega arith) (omega (arith, (laid_out start.setup.types (word_at now.memory.blocks) q).header));
    waits = λ q t. f.gives.waits q (in-left q (old_places placing.places) placing.husks t);
    units = units-fewer start.phase start.setup.settings.sweep store.left placing.waiting f.waiting f.gives.fewer mid.units;
    homes_keep = homes_kept f.gives;
    homes_only = f.only;
    shadow_firsts = shadow-end;
    remembered_is = f.remembered_is;
    held_whole = f.held_whole;
    gray = gray_there s young_held mid none f.queues;
    gray_phase = gray_phase s young_held mid none f.queues;
    gray_more = gray_more s young_held mid none f.queues;
    gray_from = gray_from s young_held mid none f.queues;
    queued = written_queued s young_held mid none f.queues;
    slots_same = f.slots_same;
    slots_last = λ p t.
        let a = at-number (λ x. x) now.slots p (subst (λ (l : List ℕ). IsTrue (is_in p l)) (sym (map-id now.slots)) t) in
        subst (IsLasting (pinned_places start) placing.places) a.reads (elim (f.lists.slot a.number a.entry a.is) [ inl owed ↦ absurd (no_both (owes.slots a.number) owed (none.slots a.number)) | inr last ↦ last ]);
    registered_same = f.registered_same;
    registered_last = λ p t.
        let a = at-number (λ (e : ℕ × ℕ). e.0) now.registered p t in
        let last : IsLasting (pinned_places start) placing.places p = subst (IsLasting (pinned_places start) placing.places) a.reads
        (elim (f.lists.entry a.number a.entry a.is) [ inl owed ↦ absurd (no_both (owes.registered a.number) owed (none.registered a.number)) | inr u ↦ u ]) in
        elim last [ inl z ↦ absurd (let l = mid.words.moving.above p (mid.registered_are.there p t) in omega (arith, z, l)) | inr u ↦ u ];
    links_cut = f.links_cut;
    links_there = λ p t. elim (f.lists.link p t) [ inl owed ↦ absurd (no_both (owes.links p) owed (none.links p)) | inr u ↦ u.0 ];
    dead_are = gone-told;
    unsettled_are = f.unsettled_are;
    old_are = f.old_are;
    made = f.made;
  }

  -- A minor collection of the store, with the lines that are printed.
  pub minor_finished : {dead cleared destroyed : List ℕ}
      → TellsLoss start.setup.types (word_at now.memory.blocks) (pinned_places start) placing.places start.weaks start.next dead cleared destroyed
      → (later : Store) × MinorCollection store
      (MinorDone moved.objects (length dead) ∷ (map (λ b. Cleared b) cleared ++ (map (λ b. Destroyed b) destroyed ++ map (λ cut. LinkCut cut) (link_ends f.gone_at now.links.structs)))) later
      × IsCollected (ended_parts start new nursery unsettled old_words) later
  minor_finished told = minor_done s young_held mid none finished _ (lines_told s mid none told f.gone_at gone-told)
