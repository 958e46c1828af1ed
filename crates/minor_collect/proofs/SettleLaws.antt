-- An object moves into room outside the nursery, a block that was taken or its home: what the code does is a move of the middle.
use Rattle.std.proofs.Common.{◌≡◌, ◌≢◌, ℕ, ◌+◌, ◌%◌, ◌<◌, ◌≤◌, ◌⊎◌, Bool, true, false, IsTrue, List, [], ◌∷◌, ◌++◌, map, Option, Some, None, refl, sym, ap, ◌∙◌, subst, inl, inr, arith}
use Rattle.std.specs.List.{filter}
use Rattle.std.specs.Ordering.{nat_cmp}
use Rattle.std.specs.FinMap as map_of
use Rattle.std.proofs.lemmas.Bool.{cases_Bool, ne_eqb}
use Rattle.std.proofs.lemmas.Bool.Decides.{nat_tests}
use Rattle.type_table.specs.declared.info.TypeInfo.{TypeInfo}
use Rattle.type_table.specs.Table.{Table}
use Rattle.heap_space.specs.Places.{Placed, has, lies_in_one, word_at, with_word, with_run, run_at}
use Rattle.heap_space.specs.Memory.{Memory}
use Rattle.heap_space.specs.Extents.{Extent, Each, IsApart, begins_between, extent_of}
use Rattle.heap_space.proofs.ExtentLaws.{extents-with_word}
use Rattle.heap_space.proofs.Blocks.{has-with_word, has-with_run, lies-with_word, lies-with_run}
use Rattle.object_header.specs.Words.{has_flag}
use Rattle.object_header.specs.declared.flags.Flag.TheVariants.{Visited, HasCards}
use Rattle.object_view.specs.Moving.{moved}
use Rattle.object_view.proofs.WordLaws.{updated-other}
use Rattle.object_view.proofs.SpaceLaws.{word_at-written, lies-at}
use Rattle.object_view.proofs.LayoutLaws.{laid_out, SameAt, KeepsLayout, keeps-same}
use Rattle.object_view.proofs.CopyLaws.{copy-like}
use Rattle.object_view.proofs.LeaveLaws.{word_at-moved, after-move, room-moves}
use Rattle.object_view.proofs.MoveLaws.{moved_to}
use Rattle.old_space.specs.HasBlocks.{HasBlocks, IsBlock, page_size}
use Rattle.old_space.proofs.JoinLaws.{HasBlocks-apart, HasBlocks-first, HasBlocks-blocks, HasBlocks_permuted}
use Rattle.old_space.specs.Calls.{BeginsLive}
use Rattle.object_view.specs.Views.{HasObject}
use Rattle.frame_laws.proofs.TakeLaws.{spare_taken}
use Rattle.object_model.specs.Layout.{Layout}
use Rattle.object_model.specs.Sets.{is_in}
use Rattle.object_model.specs.ObjectWords.{updated, words_at, type_id_at, info_at, layout_at}
use Rattle.heap_parts.specs.Parts.{HeapParts, word_in, home_in, pinned_places}
use Rattle.heap_parts.specs.Places.{is_young, young_places, old_places, block_at}
use Rattle.heap_parts.specs.OldSpace.{blocks_of, reserved_blocks, reserved_homes, is_waiting}
use Rattle.heap_parts.specs.Headers.{is_marked, keeps_cards}
use Rattle.store_model.specs.MinorCollection.{is_unsettled}
use Rattle.minor_collect.specs.Sizes.{TellSizes}
use Rattle.frame_laws.proofs.Births.{rise-differ}
use Rattle.heap_parts.proofs.BlockLaws.{each-member, extents-with_run}
use Rattle.frame_laws.proofs.Members.{each-left, each-right}
use Rattle.frame_laws.proofs.PlaceLaws.{is_in-young}
use Rattle.minor_collect.specs.Midway.{Midway, changing_of, is_lasting}
use Rattle.minor_collect.specs.Calls.{Stage, Spot, Middle, Waits, Settled, settled_word_of, settled_memory, remembered_at, entries_of}
use Rattle.minor_collect.proofs.Begins.{not-lasting}
use Rattle.minor_collect.proofs.EndBlocks.{without_home, blocks-taken}
use Rattle.minor_collect.proofs.MoveBlocks.{no_home}
use Rattle.minor_collect.proofs.EndStands.{given-by, gives-in}
use Rattle.minor_collect.proofs.HeadLaws.{IsSettledWord, settled_word_is}
use Rattle.minor_collect.proofs.MayLaws.{follows_may, unvisited, marked_waits}
use Rattle.minor_collect.proofs.MoveInto.{MovesBlocks, WritesInto, moved_into_block}
use Rattle.minor_collect.proofs.MoveMidway.{MovesTo, midway_moves}
use Rattle.minor_collect.proofs.MoveStep.{CanMove, settled_words_at, head_keeps, step_rest, young_cases}
use Rattle.minor_collect.proofs.OpenStep.{midway_follows}
use Rattle.object_model.proofs.SameMembers.{names_differ, part_differs}
use Rattle.minor_collect.proofs.Sizes.{sizes_move}
use Rattle.minor_collect.proofs.TakeKeeps.{reserved-one}
use Rattle.minor_collect.proofs.Takes.{free_room}

-- the blocks after a move
abbrev settled_blocks : List Placed → ℕ → ℕ → ℕ → ℕ → List Placed
settled_blocks blocks p n a head = with_word (with_word (with_word (with_run blocks a (run_at blocks p n)) p 18446744073709551615) (p + 1) a) a head

-- where blocks lie stays
pub lies-settled : (ps : List Placed) (p n a head q k : ℕ) → lies_in_one (settled_blocks ps p n a head) q k ≡ lies_in_one ps q k
lies-settled ps p n a head q k =
    let run : List Placed = with_run ps a (run_at ps p n) in
    lies-with_word (with_word (with_word run p 18446744073709551615) (p + 1) a) a head q k
    ∙ (lies-with_word (with_word run p 18446744073709551615) (p + 1) a q k ∙ (lies-with_word run p 18446744073709551615 q k ∙ lies-with_run ps a (run_at ps p n) q k))

pub extents-settled : (ps : List Placed) (p n a head : ℕ) → map extent_of (settled_blocks ps p n a head) ≡ map extent_of ps
extents-settled ps p n a head =
    let run : List Placed = with_run ps a (run_at ps p n) in
    extents-with_word (with_word (with_word run p 18446744073709551615) (p + 1) a) a head
    ∙ (extents-with_word (with_word run p 18446744073709551615) (p + 1) a ∙ (extents-with_word run p 18446744073709551615 ∙ extents-with_run ps a (run_at ps p n)))

pub words-settled : (ps : List Placed) (p n a head : ℕ) → lies_in_one ps a n ≡ true → has ps p ≡ true → has ps (p + 1) ≡ true → has ps a ≡ true
    → word_at (settled_blocks ps p n a head) ≡ updated (moved (word_at ps) p a n) a head
words-settled ps p n a head lies first second here =
    let run : List Placed = with_run ps a (run_at ps p n) in
    word_at-written (with_word (with_word run p 18446744073709551615) (p + 1) a) a head
    (has-with_word (with_word run p 18446744073709551615) (p + 1) a a ∙ (has-with_word run p 18446744073709551615 a ∙ (has-with_run ps a (run_at ps p n) a ∙ here)))
    ∙ ap (λ (f : ℕ → ℕ). updated f a head) (word_at-moved ps p a n lies first second)

not-young : (a : ℕ) → 4294967296 ≤ a → is_young a ≡ false
not-young a l = grind (arith, nat_tests)

mod-below : (x : ℕ) → x % 65536 < 65536
mod-below x = omega arith

-- Room for the object at p at a: a block beside all others; and which homes are reserved afterwards.
pub record RoomFor (stage : Stage) (now : HeapParts) (spot : Spot) (after : ℕ → Option ℕ) (p a : ℕ) : Type 0 where
  pub first : HasBlocks now.old_blocks now.memory ((a, words_at stage.start.setup.types (word_in now) p)
      ∷ blocks_of stage.start.setup.types (word_in now) (without_home (home_in now) p) (young_places spot.placing.places) (old_places spot.placing.places) spot.placing.husks []) spot.placing.waiting
  pub home_was : (home_in now p ≡ None) ⊎ (home_in now p ≡ Some a)
  pub home_none : after p ≡ None
  pub home_other : (q : ℕ) → q ≢ p → after q ≡ home_in now q

module _ {stage : Stage} {now : HeapParts} {spot : Spot} {taken : List Extent} {p a : ℕ} (head : ℕ) (shadows : map_of.FinMap nat_cmp ℕ)
    (middle : Middle stage now spot taken) (room : RoomFor stage now spot (map_of.get shadows) p a)
    (waits : Waits stage now spot p (words_at stage.start.setup.types (word_in now) p))
    (head_is : head ≡ settled_word_of now p (is_waiting (page_size now.old_blocks) spot.placing.waiting a)) where
  abbrev types : Table TypeInfo
  types = stage.start.setup.types

  abbrev w : ℕ → ℕ
  w = word_at now.memory.blocks

  abbrev n : ℕ
  n = words_at stage.start.setup.types (word_at now.memory.blocks) p

  abbrev home : ℕ → Option ℕ
  home = without_home (home_in now) p

  abbrev memory : Memory
  memory = record now.memory { blocks = settled_blocks now.memory.blocks p (words_at stage.start.setup.types (word_at now.memory.blocks) p) a head }

  abbrev new : HeapParts
  new = record now { memory = memory; shadows = shadows }

  abbrev settled : List Extent
  settled = map (block_at types w) (old_places spot.placing.places)

  abbrev husks : List Extent
  husks = map (block_at types w) spot.placing.husks

  abbrev reserved : List Extent
  reserved = reserved_blocks types w home (young_places spot.placing.places)

  unsettled : IsTrue (is_unsettled stage.store (spot.placing.name p))
  unsettled = (middle.mid.follows.waits p waits.there waits.waits).0

  -- the middle in which p may be looked at
  mid : Midway stage.start stage.store (remembered_at stage) (changing_of now) spot.placing spot.todo spot.held (spot.placing.name p ∷ entries_of stage) spot.owes spot.moved taken
  mid = midway_follows middle.mid (follows_may (spot.placing.name p) (waits.may unsettled) middle.mid.follows)

  apart : Each (IsApart (a, n)) (settled ++ (husks ++ (reserved ++ [])))
  apart = (HasBlocks-apart now.old_blocks now.memory _ spot.placing.waiting room.first).0

  block : IsBlock now.memory (a, n)
  block = HasBlocks-first now.old_blocks now.memory (a, n) _ spot.placing.waiting room.first

  small : stage.start.nursery.words ≤ 1048576
  small = omega (arith, middle.mid.made.words, middle.mid.made.ranges.1)

  young : is_young p ≡ true
  young = (not-lasting (is_young p) _ waits.waits).0

  two : 2 ≤ n
  two = (laid_out types w p).header

  inside : p + n ≤ stage.start.nursery.words + 1
  inside = middle.mid.words.inside p (is_in-young spot.placing.places p waits.there young)

  before : p + n ≤ a
  before = let low = block.low in omega (arith, inside, small, low)

  source : lies_in_one now.memory.blocks p n ≡ true
  source = (middle.mid.words.whole p waits.there).whole

  abbrev cards : Bool
  cards = keeps_cards now.setup.settings.card (info_at now.setup.types w p).shape (layout_at now.setup.types w p).ref_count

  abbrev visits : Bool
  visits = is_waiting (page_size now.old_blocks) spot.placing.waiting a

  word : IsSettledWord head (type_id_at (word_in now) p) (keeps_cards now.setup.settings.card (info_at now.setup.types (word_in now) p).shape (layout_at now.setup.types (word_in now) p).ref_count) (is_waiting (page_size now.old_blocks) spot.placing.waiting a)
  word = subst (λ (k : ℕ). IsSettledWord k (type_id_at w p) cards visits) (sym head_is) (settled_word_is (type_id_at w p) cards visits (mod-below (w p)))

  can : CanMove types w spot.placing.met spot.placing.places (pinned_places stage.start) p a head
  can = record {
    room = free_room p a middle.mid.words.objects middle.mid.words.moving middle.mid.follows middle.mid.words.inside middle.mid.words.left_low small waits.there waits.waits block.low
        (each-left (IsApart (a, n)) settled (husks ++ (reserved ++ [])) apart);
    waits = waits.waits;
    far = not-young a block.low;
    same_type = word.same_type;
    small = word.settled.live.header;
  }

  words : word_at memory.blocks ≡ settled_words_at types w p a head
  words = words-settled now.memory.blocks p n a head block.lies
      (lies-at now.memory.blocks p n p source (omega arith) (omega (arith, two)))
      (lies-at now.memory.blocks p n (p + 1) source (omega arith) (omega (arith, two)))
      (lies-at now.memory.blocks a n a block.lies (omega arith) (omega (arith, two)))

  -- outside the nursery and the room all words stay
  far-same : (b : ℕ) → 4294967296 ≤ b → (b < a) ⊎ (a + n ≤ b) → word_at memory.blocks b ≡ w b
  far-same b l out =
      ap (λ (f : ℕ → ℕ). f b) words
      ∙ (updated-other (moved w p a n) a head b (λ e. elim out [ inl x ↦ absurd (omega (arith, e, x)) | inr x ↦ absurd (omega (arith, e, x, two)) ])
      ∙ (after-move w p n a two (inl before)).others b out (λ e. absurd (omega (arith, e, l, inside, small, two))) (λ e. absurd (omega (arith, e, l, inside, small, two))))

  writes : (live : List Extent) → WritesInto now.memory memory ((a, n) ∷ live)
  writes live = record {
    next = refl;
    arenas = refl;
    untouched = record {
      blocks = ap (filter (begins_between 4294967296 9223372036854775808)) (extents-settled now.memory.blocks p n a head);
      words = λ b low high out. far-same b low out.0;
    };
  }

  rest : (q : ℕ) → IsTrue (is_in q spot.placing.places) → q ≢ p → SameAt types (word_at memory.blocks) w q
  rest q t ne = subst (λ (f : ℕ → ℕ). SameAt types f w q) (sym words) (step_rest middle.mid.words.objects middle.mid.words.moving can q t ne)

  size-same : (q : ℕ) → SameAt types (word_at memory.blocks) w q → words_at types (word_at memory.blocks) q ≡ words_at types w q
  size-same q same = ap (λ (l : Layout). l.words) (keeps-same types (word_at memory.blocks) w q same).layout_stays

  size-new : words_at types (word_at memory.blocks) a ≡ n
  size-new =
      let keeps : KeepsLayout types (word_at memory.blocks) (moved w p a n) a = subst (λ (f : ℕ → ℕ). KeepsLayout types f (moved w p a n) a) (sym words) (head_keeps middle.mid.words.objects middle.mid.words.moving can) in
      ap (λ (l : Layout). l.words) keeps.layout_stays ∙ (copy-like (room-moves middle.mid.words.objects can.room).copy).words

  all-blocks : Each (IsBlock now.memory) (settled ++ (husks ++ (reserved ++ [])))
  all-blocks = (HasBlocks-blocks now.old_blocks now.memory _ spot.placing.waiting room.first).1

  -- a block that is apart keeps its words
  keeps-block : (q k : ℕ) → IsBlock now.memory (q, k) → IsApart (a, n) (q, k) → (b : ℕ) → q ≤ b → b < q + k → word_at memory.blocks b ≡ w b
  keeps-block q k is out b l r = let low = is.low in far-same b (omega (arith, low, l)) (elim out [ inl x ↦ inr (omega (arith, x, l)) | inr x ↦ inl (omega (arith, x, r)) ])

  first-not : (q k : ℕ) → IsBlock now.memory (q, k) → IsApart (a, n) (q, k) → q ≢ a
  first-not q k is out e = let wide = is.wide in elim out [ inl x ↦ absurd (omega (arith, e, x, two)) | inr x ↦ absurd (omega (arith, e, x, wide)) ]

  husk-block : (q : ℕ) → IsTrue (is_in q spot.placing.husks) → IsBlock now.memory (q, words_at types w q) × IsApart (a, n) (q, words_at types w q)
  husk-block q t = (
    each-member (IsBlock now.memory) (block_at types w) spot.placing.husks q (each-left (IsBlock now.memory) husks (reserved ++ []) (each-right (IsBlock now.memory) settled (husks ++ (reserved ++ [])) all-blocks)) t,
    each-member (IsApart (a, n)) (block_at types w) spot.placing.husks q (each-left (IsApart (a, n)) husks (reserved ++ []) (each-right (IsApart (a, n)) settled (husks ++ (reserved ++ [])) apart)) t,
  )

  husk-same : (q : ℕ) → IsTrue (is_in q spot.placing.husks) → SameAt types (word_at memory.blocks) w q
  husk-same q t = let b = husk-block q t in record { same = λ x l r. keeps-block q (words_at types w q) b.0 b.1 x l r }

  home-same : (q : ℕ) → IsTrue (is_in q (reserved_homes home (young_places spot.placing.places))) → word_at memory.blocks q ≡ w q
  home-same q t =
      let g = given-by home (young_places spot.placing.places) q t in
      let P : Extent → Type 0 = IsBlock now.memory in
      let is : IsBlock now.memory (q, words_at types w g.place) = reserved-one P types w home (young_places spot.placing.places) g.place q
      (each-left P reserved [] (each-right P husks (reserved ++ []) (each-right P settled (husks ++ (reserved ++ [])) all-blocks))) g.there g.gives in
      let Q : Extent → Type 0 = IsApart (a, n) in
      let out : IsApart (a, n) (q, words_at types w g.place) = reserved-one Q types w home (young_places spot.placing.places) g.place q
      (each-left Q reserved [] (each-right Q husks (reserved ++ []) (each-right Q settled (husks ++ (reserved ++ [])) apart))) g.there g.gives in
      let wide = is.wide in
      keeps-block q (words_at types w g.place) is out q (omega arith) (omega (arith, wide))

  moves-blocks : MovesBlocks types (word_at memory.blocks) w p a (home_in now) (map_of.get shadows) spot.placing.places spot.placing.husks
  moves-blocks = record {
    young = young;
    far = not-young a block.low;
    size = size-new;
    differ = names_differ spot.placing.name spot.placing.places (rise-differ 1 stage.start.next (map spot.placing.name spot.placing.places) middle.mid.rise);
    there = waits.there;
    others = room.home_other;
    same = λ q t ne. size-same q (rest q t ne);
    husk_same = λ q t. size-same q (husk-same q t);
  }

  reserved-old : (q : ℕ) → IsTrue (is_in q (reserved_homes (map_of.get shadows) (young_places (map (moved_to p a) spot.placing.places)))) → IsTrue (is_in q (reserved_homes home (young_places spot.placing.places)))
  reserved-old q t =
      let g = given-by (map_of.get shadows) (young_places (map (moved_to p a) spot.placing.places)) q t in
      let c = young_cases middle.mid.words.objects middle.mid.words.moving can g.place g.there in
      let still : without_home (home_in now) p g.place ≡ home_in now g.place = rw (ne_eqb g.place p c.1) refl in
      gives-in home (young_places spot.placing.places) g.place q c.0 (still ∙ (sym (room.home_other g.place c.1) ∙ g.gives))

  seen : has_flag head Visited ≡ is_marked stage.start.phase stage.store.visited (updated spot.placing.name a (spot.placing.name p)) stage.start.setup.settings.page spot.placing.waiting a
  seen = word.is_visited ∙ (ap (λ (k : ℕ). is_waiting k spot.placing.waiting a) middle.mid.made.page
      ∙ marked_waits stage.start.phase stage.start.setup.settings.sweep stage.store.left stage.start.setup.settings.page a p spot.placing.waiting stage.store.visited spot.placing.name middle.mid.units
      (unvisited stage (spot.placing.name p) unsettled))

  keeps-cards : has_flag head HasCards ≡ keeps_cards stage.start.setup.settings.card (info_at types w p).shape (layout_at types w p).ref_count
  keeps-cards = subst (λ (h : HeapParts). has_flag head HasCards ≡ keeps_cards h.setup.settings.card (info_at h.setup.types w p).shape (layout_at h.setup.types w p).ref_count) middle.rest word.has_cards

  moves : MovesTo stage.start stage.store (remembered_at stage) (changing_of now) spot.todo spot.held (spot.placing.name p ∷ entries_of stage) spot.owes spot.moved taken spot.placing mid p a head (changing_of new)
  moves = record {
    can = can;
    rest = refl;
    words = words;
    lies = λ q t ne. lies-settled now.memory.blocks p n a head q (words_at types w q) ∙ (middle.mid.words.whole q t).whole;
    nursery_lies = lies-settled now.memory.blocks p n a head 1 stage.start.nursery.words ∙ middle.mid.words.nursery_whole;
    room_lies = lies-settled now.memory.blocks p n a head a n ∙ block.lies;
    blocks = moved_into_block moves-blocks now.old_blocks now.memory memory spot.placing.waiting (writes _) room.first;
    husk_same = λ q t. let b = husk-block q t in (husk-same q t, first-not q (words_at types w q) b.0 b.1);
    shadow_same = λ q t. home-same q (reserved-old q t);
    home_was = room.home_was;
    home_none = room.home_none;
    home_other = room.home_other;
    header = word.settled;
    track = word.track;
    cards_set = word.cards_set;
    has_cards = keeps-cards;
    visited = seen;
    made = record { ranges = middle.mid.made.ranges; words = middle.mid.made.words; pins = middle.mid.made.pins; card = middle.mid.made.card; arena = middle.mid.made.arena; small = middle.mid.made.small; page = middle.mid.made.page };
  }

  pub settles : Settled stage now new spot p n a
  settles = record {
    after = record {
      mid = midway_moves mid refl moves;
      rest = ap (λ (h : HeapParts). record h { memory = memory; shadows = shadows }) middle.rest;
      sizes = subst (λ (f : ℕ → ℕ). TellSizes types f (a ∷ spot.placing.met) (words_at stage.start.setup.types (word_in stage.start))) (sym words)
          (sizes_move (words_at stage.start.setup.types (word_in stage.start)) middle.mid.words.objects middle.mid.words.moving can middle.sizes);
    };
    fresh = not-in-met;
    only = refl;
    same = rest;
  }
    where
      not-in-met : is_in a spot.placing.met ≡ false
      not-in-met = elim (cases_Bool (is_in a spot.placing.met)) [
        | inl t ↦ absurd (let f = can.room.fresh a t in elim f.0 [ inl x ↦ absurd (omega (arith, x)) | inr x ↦ absurd (omega (arith, x, two)) ])
        | inr e ↦ e
      ]

-- the same with the number of words that the code has
pub settle_moves : (stage : Stage) (now : HeapParts) (spot : Spot) (taken : List Extent) (p n a head : ℕ) (shadows : map_of.FinMap nat_cmp ℕ) → Middle stage now spot taken
    → RoomFor stage now spot (map_of.get shadows) p a → Waits stage now spot p n → head ≡ settled_word_of now p (is_waiting (page_size now.old_blocks) spot.placing.waiting a)
    → Settled stage now (record now { memory = settled_memory now.memory p n a head; shadows = shadows }) spot p n a
settle_moves stage now spot taken p n a head shadows middle room waits head_is =
    subst (λ (k : ℕ). Waits stage now spot p k → Settled stage now (record now { memory = settled_memory now.memory p k a head; shadows = shadows }) spot p k a)
    (sym waits.size) (λ z. settles head shadows middle room z head_is) waits

-- a block that was taken is room, where no home was reserved
pub room_taken : (stage : Stage) (now : HeapParts) (spot : Spot) (p n a : ℕ) → Middle stage now spot ((a, n) ∷ []) → Waits stage now spot p n → home_in now p ≡ None
    → RoomFor stage now spot (map_of.get now.shadows) p a
room_taken stage now spot p n a middle waits homeless =
    let types : Table TypeInfo = stage.start.setup.types in let w : ℕ → ℕ = word_in now in
    record {
      first = subst (λ (k : ℕ). HasBlocks now.old_blocks now.memory ((a, k) ∷ blocks_of types w (without_home (home_in now) p) (young_places spot.placing.places) (old_places spot.placing.places) spot.placing.husks []) spot.placing.waiting) waits.size
          (subst (λ (live : List Extent). HasBlocks now.old_blocks now.memory ((a, n) ∷ live) spot.placing.waiting) (sym (no_home types w (home_in now) p (young_places spot.placing.places) (old_places spot.placing.places) spot.placing.husks homeless))
          (spare_taken now.old_blocks now.memory (map (block_at types w) (old_places spot.placing.places)) (map (block_at types w) spot.placing.husks) (reserved_blocks types w (home_in now) (young_places spot.placing.places)) (a, n) spot.placing.waiting middle.mid.blocks));
      home_was = inl homeless;
      home_none = homeless;
      home_other = λ q ne. refl;
    }

-- and so is the home that was reserved
pub room_home : (stage : Stage) (now : HeapParts) (spot : Spot) (p a : ℕ) (shadows : map_of.FinMap nat_cmp ℕ) → Middle stage now spot [] → IsTrue (is_in p spot.placing.places)
    → is_lasting (pinned_places stage.start) p ≡ false → home_in now p ≡ Some a → map_of.get shadows p ≡ None → ((q : ℕ) → q ≢ p → map_of.get shadows q ≡ home_in now q)
    → RoomFor stage now spot (map_of.get shadows) p a
room_home stage now spot p a shadows middle there waits home none others =
    let types : Table TypeInfo = stage.start.setup.types in let w : ℕ → ℕ = word_in now in
    let differ = names_differ spot.placing.name spot.placing.places (rise-differ 1 stage.start.next (map spot.placing.name spot.placing.places) middle.mid.rise) in
    let young = (not-lasting (is_young p) _ waits).0 in
    record {
      first = HasBlocks_permuted now.old_blocks now.memory _ _ spot.placing.waiting middle.mid.blocks
          (blocks-taken types w (home_in now) p a home (young_places spot.placing.places) (old_places spot.placing.places) spot.placing.husks [] (part_differs is_young spot.placing.places differ) (is_in-young spot.placing.places p there young));
      home_was = inr home;
      home_none = none;
      home_other = others;
    }

-- what the calls ask for where there is room
pub record CanMoveWords (stage : Stage) (now : HeapParts) (p n a : ℕ) : Type 0 where
  pub object : HasObject now.memory now.setup.types p
  pub size : n ≡ words_at now.setup.types (word_in now) p
  pub block : BeginsLive now.old_blocks now.memory a
  pub source : IsTrue (lies_in_one now.memory.blocks p n)
  pub target : IsTrue (lies_in_one now.memory.blocks a n)
  pub apart : p + n ≤ a
  pub wide : 2 ≤ n

pub can_move_words : (stage : Stage) (now : HeapParts) (spot : Spot) (taken : List Extent) (p n a : ℕ) (after : ℕ → Option ℕ) → Middle stage now spot taken → RoomFor stage now spot after p a → Waits stage now spot p n
    → CanMoveWords stage now p n a
can_move_words stage now spot taken p n a after middle room waits =
    let types : Table TypeInfo = stage.start.setup.types in let w : ℕ → ℕ = word_in now in
    let block : IsBlock now.memory (a, words_at types w p) = HasBlocks-first now.old_blocks now.memory (a, words_at types w p) _ spot.placing.waiting room.first in
    let low = block.low in let wide = block.wide in let size = waits.size in
    let i = middle.mid.words.inside p (is_in-young spot.placing.places p waits.there (not-lasting (is_young p) _ waits.waits).0) in
    record {
      object = subst (λ (h : HeapParts). HasObject now.memory h.setup.types p) (sym middle.rest) (middle.mid.words.whole p waits.there);
      size = subst (λ (h : HeapParts). n ≡ words_at h.setup.types w p) (sym middle.rest) waits.size;
      block = record { words = words_at types w p; live = record { others = _; waiting = _; blocks = room.first } };
      source = subst (λ (k : ℕ). IsTrue (lies_in_one now.memory.blocks p k)) (sym size) (middle.mid.words.whole p waits.there).whole;
      target = subst (λ (k : ℕ). IsTrue (lies_in_one now.memory.blocks a k)) (sym size) block.lies;
      apart = omega (arith, low, i, size, middle.mid.made.words, middle.mid.made.ranges.1);
      wide = omega (arith, wide, size);
    }
