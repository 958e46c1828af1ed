-- After the pass over the weak objects the homes of what is gone can be given back. `gives_some` is that fact for the parts after the
-- pass. `can_give_then` is what `drop_vanished` asks for: from the middle in which what is gone was listed, where only what is gray changed
-- since (`IsMiddleButGray`: a middle has what was gray as the collection began, so that queueing for marking ends it).
use Rattle.std.proofs.Common.{◌≡◌, ℕ, ◌+◌, ◌<◌, ◌≤◌, ◌⊎◌, Bool, true, false, IsTrue, List, [], ◌++◌, map, refl, sym, ap, ◌∙◌, subst, inl, inr, arith}
use Rattle.std.specs.List.{filter}
use Rattle.std.proofs.lemmas.Bool.{cases_Bool}
use Rattle.heap_space.specs.Memory.{Memory}
use Rattle.heap_space.specs.Places.{word_at, lies_in_one}
use Rattle.heap_space.specs.Extents.{Extent, Each, IsUntouched, IsApart, lies_within, begins_between}
use Rattle.heap_space.proofs.ExtentLaws.{lies_in_one-extents}
use Rattle.object_view.specs.Views.{HasObject}
use Rattle.object_view.proofs.LayoutLaws.{SameAt, keeps-same}
use Rattle.object_view.proofs.WholeLaws.{has_object-keeps}
use Rattle.object_model.specs.Layout.{Layout}
use Rattle.object_model.specs.Sets.{is_in, AreDifferent}
use Rattle.object_model.specs.ObjectWords.{words_at, layout_at}
use Rattle.old_space.specs.HasBlocks.{HasBlocks, IsBlock}
use Rattle.old_space.proofs.JoinLaws.{HasBlocks-apart, HasBlocks-blocks, HasBlocks_untouched}
use Rattle.store_model.specs.Store.{Store}
use Rattle.heap_parts.specs.Parts.{HeapParts, word_in, home_in, pinned_places}
use Rattle.heap_parts.specs.Places.{is_young, young_places, old_places, block_at}
use Rattle.heap_parts.specs.OldSpace.{blocks_of, reserved_blocks}
use Rattle.heap_parts.proofs.BlockLaws.{each-member}
use Rattle.frame_laws.proofs.Births.{rise-differ}
use Rattle.frame_laws.proofs.KeepWords.{SameObjects, blocks_same}
use Rattle.frame_laws.proofs.Members.{each-left, each-right, apart-both}
use Rattle.frame_laws.proofs.PlaceLaws.{is_in-young, is_in-old, young-is_in}
use Rattle.minor_collect.specs.Carried.{Moved}
use Rattle.minor_collect.specs.Midway.{Midway, Changing, with_changing, changing_of, Owes, is_lasting, Placing}
use Rattle.minor_collect.specs.Calls.{Stage, Spot, Middle}
use Rattle.minor_collect.specs.Drops.{CanGiveThen}
use Rattle.minor_collect.specs.Gives.{Giving, GivesSome, AreGone}
use Rattle.minor_collect.specs.Vanished.{FindsVanished}
use Rattle.minor_collect.specs.WeakPass.{PassesWeaks}
use Rattle.minor_collect.proofs.Begins.{not-lasting}
use Rattle.minor_collect.proofs.PassLaws.{nursery_small, listed_weak, passed_layouts, target_inside}
use Rattle.object_model.proofs.SameMembers.{names_differ}

module _ {start : HeapParts} {store : Store} {remembered : ℕ → ℕ → Bool} {now : Changing} {todo held left : List ℕ} {owes : Owes} {moved : Moved}
    {placing : Placing} (mid : Midway start store remembered now placing todo held left owes moved [])
    {passed : HeapParts} {told_old told_new : List ℕ} (same : now.weaks ≡ start.weaks) (gray : List ℕ)
    (passes : PassesWeaks (with_changing start (record now { gray = gray })) passed told_old told_new) where
  abbrev live : List Extent
  live = blocks_of start.setup.types (word_at now.memory.blocks) (home_in (with_changing start now)) (young_places placing.places) (old_places placing.places) placing.husks []

  abbrev settled : List Extent
  settled = map (block_at start.setup.types (word_at now.memory.blocks)) (old_places placing.places)

  abbrev husks : List Extent
  husks = map (block_at start.setup.types (word_at now.memory.blocks)) placing.husks

  abbrev reserved : List Extent
  reserved = reserved_blocks start.setup.types (word_at now.memory.blocks) (home_in (with_changing start now)) (young_places placing.places) ++ []

  -- a word outside the nursery that is a target lies in the block of an object
  target-block : (b p : ℕ) → 4294967296 ≤ b → IsTrue (is_in p passed.weaks) → b ≡ (layout_at start.setup.types (word_at now.memory.blocks) p).ref_start → IsTrue (is_in p (old_places placing.places))
  target-block b p high t e =
      let there = (listed_weak mid same gray passes p t).0 in
      elim (cases_Bool (is_young p)) [
        | inl y ↦ absurd (let i = mid.words.inside p (is_in-young placing.places p there y) in let small = nursery_small mid in let in_it = target_inside mid same gray passes b p t e in omega (arith, i, small, high, in_it.1))
        | inr o ↦ is_in-old placing.places p there o
      ]

  untouched : IsUntouched 4294967296 9223372036854775808 now.memory passed.memory live
  untouched = record {
    blocks = ap (filter (begins_between 4294967296 9223372036854775808)) passes.targets.extents;
    words = λ a l r out. passes.targets.elsewhere a (λ p t e.
        let old = target-block a p l t e in
        let in_it = target_inside mid same gray passes a p t e in
        let olds = each-left (λ x. (a < x.0) ⊎ (x.0 + x.1 ≤ a)) settled (husks ++ reserved) out in
        elim (each-member (λ x. (a < x.0) ⊎ (x.0 + x.1 ≤ a)) (block_at start.setup.types (word_at now.memory.blocks)) (old_places placing.places) p olds old) [
          | inl below ↦ absurd (omega (arith, below, in_it.0))
          | inr above ↦ absurd (omega (arith, above, in_it.1))
        ]);
  }

  same-memory : passed.memory ≡ record now.memory { blocks = passed.memory.blocks }
  same-memory = passes.targets.rest

  blocks-passed : HasBlocks now.old_blocks passed.memory live placing.waiting
  blocks-passed = HasBlocks_untouched now.old_blocks now.memory passed.memory live placing.waiting mid.blocks (ap (λ (m : Memory). m.next_arena) same-memory) (ap (λ (m : Memory). m.arena_words) same-memory) untouched

  husk-apart : (q p : ℕ) → IsTrue (is_in q placing.husks) → IsTrue (is_in p (old_places placing.places)) → IsApart (block_at start.setup.types (word_at now.memory.blocks) p) (block_at start.setup.types (word_at now.memory.blocks) q)
  husk-apart q p t u =
      let F : ℕ × ℕ → Type 0 = λ y. Each (IsApart y) (husks ++ reserved) in
      let both = each-member F (block_at start.setup.types (word_at now.memory.blocks)) (old_places placing.places) p
      (apart-both settled (husks ++ reserved) (HasBlocks-apart now.old_blocks now.memory live placing.waiting mid.blocks)) u in
      each-member (IsApart (block_at start.setup.types (word_at now.memory.blocks) p)) (block_at start.setup.types (word_at now.memory.blocks)) placing.husks q
      (each-left (IsApart (block_at start.setup.types (word_at now.memory.blocks) p)) husks reserved both) t

  husk-low : (q : ℕ) → IsTrue (is_in q placing.husks) → 4294967296 ≤ q
  husk-low q t =
      (each-member (IsBlock now.memory) (block_at start.setup.types (word_at now.memory.blocks)) placing.husks q
      (each-left (IsBlock now.memory) husks reserved (each-right (IsBlock now.memory) settled (husks ++ reserved) (HasBlocks-blocks now.old_blocks now.memory live placing.waiting mid.blocks))) t).low

  -- husks keep their words
  husk-same : (q : ℕ) → IsTrue (is_in q placing.husks) → SameAt start.setup.types (word_in passed) (word_at now.memory.blocks) q
  husk-same q t = record {
    same = λ b l r. passes.targets.elsewhere b (λ p u e.
        let old = target-block b p (let low = husk-low q t in omega (arith, low, l)) u e in
        let in_it = target_inside mid same gray passes b p u e in
        elim (husk-apart q p t old) [
          | inl before ↦ absurd (omega (arith, before, l, in_it.1))
          | inr behind ↦ absurd (omega (arith, behind, r, in_it.0))
        ]);
  }

  same-objects : SameObjects start.setup.types (word_in passed) (word_at now.memory.blocks) placing.places placing.husks
  same-objects = record {
    layouts = passed_layouts mid same gray passes;
    husk_layouts = λ q t. keeps-same start.setup.types (word_in passed) (word_at now.memory.blocks) q (husk-same q t);
  }

  pub passed_size : (q : ℕ) → IsTrue (is_in q placing.places) → words_at start.setup.types (word_in passed) q ≡ words_at start.setup.types (word_at now.memory.blocks) q
  passed_size q t = ap (λ (l : Layout). l.words) (passed_layouts mid same gray passes q t).layout_stays

  -- blocks that lay in one block lie in one still
  pub passed_lies : (a n : ℕ) → lies_in_one now.memory.blocks a n ≡ true → lies_in_one passed.memory.blocks a n ≡ true
  passed_lies a n l = lies_in_one-extents passed.memory.blocks a n ∙ (ap (λ (xs : List Extent). lies_within xs a n) passes.targets.extents ∙ (sym (lies_in_one-extents now.memory.blocks a n) ∙ l))

  pub passed_whole : (q : ℕ) → IsTrue (is_in q placing.places) → HasObject passed.memory start.setup.types q
  passed_whole q t = has_object-keeps now.memory passed.memory start.setup.types q (passed_layouts mid same gray passes q t) passed_lies (mid.words.whole q t)

  pub places_differ : AreDifferent placing.places
  places_differ = names_differ placing.name placing.places (rise-differ 1 start.next (map placing.name placing.places) mid.rise)

  -- what stays while homes are given back
  abbrev pub giving_of : Giving
  giving_of = record {
    word = word_in passed;
    pins = pinned_places start;
    places = placing.places;
    husks = placing.husks;
    waiting = placing.waiting;
    home = home_in (with_changing start now);
    most = start.nursery.words;
  }

  -- the parts after the pass
  abbrev pub parts_passed : HeapParts
  parts_passed = record (with_changing start (record now { gray = gray })) { memory = passed.memory; weaks = passed.weaks }

  pub gives_some_parts : GivesSome giving_of parts_passed
  gives_some_parts = record {
    waiting = placing.waiting;
    gives = record {
      blocks = subst (λ (xs : List Extent). HasBlocks now.old_blocks passed.memory xs placing.waiting) (blocks_same same-objects (home_in (with_changing start now)) []) blocks-passed;
      keeps = record { objects = λ q t. record { same = λ b l r. refl }; husk = λ q t. record { same = λ b l r. refl }; shadow = λ q t. refl; low = λ b l. refl };
      homes = λ p. inl refl;
      waits = λ q t. refl;
      fewer = omega arith;
    };
    differ = places_differ;
    page = let least = mid.made.ranges.2.2.2.2.2.2.2.0 in omega (arith, least);
    inside = λ q t. let i = mid.words.inside q t in let size = passed_size q (young-is_in placing.places q t).0 in omega (arith, i, size);
    small = nursery_small mid;
    whole = λ q t. passed_whole q (young-is_in placing.places q t).0;
  }

  pub gives_some : GivesSome giving_of passed
  gives_some = subst (GivesSome giving_of) (sym passes.only) gives_some_parts

  pub gone_young : (dead : List ℕ) → ((p : ℕ) → IsTrue (is_in p dead) → IsTrue (is_in p placing.places) × (is_lasting (pinned_places start) p ≡ false)) → AreGone giving_of dead
  gone_young dead just p t =
      let one = just p t in
      let parts = not-lasting (is_young p) (is_in p (pinned_places start)) one.1 in
      (is_in-young placing.places p one.0 parts.0, parts.1)

-- Parts that are in a middle but for what is gray, which was queued since.
pub record IsMiddleButGray (stage : Stage) (before now : HeapParts) (spot : Spot) : Type 0 where
  pub middle : Middle stage before spot []
  pub weaks : before.weaks ≡ stage.start.weaks
  pub only : now ≡ record before { gray = now.gray }

-- where nothing was queued
pub middle_quiet : {stage : Stage} {now : HeapParts} {spot : Spot} → Middle stage now spot [] → now.weaks ≡ stage.start.weaks → IsMiddleButGray stage now now spot
middle_quiet middle weaks = record { middle = middle; weaks = weaks; only = refl }

module _ {stage : Stage} {before now : HeapParts} {spot : Spot} (m : IsMiddleButGray stage before now spot) where
  -- what changed until then
  abbrev pub queued_change : Changing
  queued_change = record (changing_of before) { gray = now.gray }

  pub queued_rest : now ≡ with_changing stage.start queued_change
  queued_rest = m.only ∙ ap (λ (h : HeapParts). record h { gray = now.gray }) m.middle.rest

  pub passes_from : {passed : HeapParts} {told_old told_new : List ℕ} → PassesWeaks now passed told_old told_new → PassesWeaks (with_changing stage.start queued_change) passed told_old told_new
  passes_from {passed = passed} {told_old = told_old} {told_new = told_new} p = subst (λ (h : HeapParts). PassesWeaks h passed told_old told_new) queued_rest p

  -- What `drop_vanished` asks for.
  pub can_give_then : {dead destroyed : List ℕ} (told : List ℕ) → FindsVanished stage spot before dead destroyed → CanGiveThen now dead told
  can_give_then {dead = dead} told found = λ passed told_new passes. record {
    giving = giving_of m.middle.mid m.weaks now.gray (passes_from passes);
    gives = gives_some m.middle.mid m.weaks now.gray (passes_from passes);
    gone = gone_young m.middle.mid m.weaks now.gray (passes_from passes) dead found.just;
  }
