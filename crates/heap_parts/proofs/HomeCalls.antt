-- A block that is taken for a home, and given back where the home can't be kept.
use Rattle.std.proofs.Common.{◌≡◌, ℕ, Bool, true, false, IsTrue, List, [], ◌∷◌, Result, Ok, Err, OnOk, OnErr, sym, ap, ◌∙◌, subst, inl, inr, refl, arith}
use Rattle.std.specs.FinMap as map_of
use Rattle.std.specs.Ordering.{nat_cmp}
use Rattle.std.specs.declared.alloc.AllocError.{AllocError}
use Rattle.std.specs.Prelude.{◌==◌, nat_lt, if◌then◌else◌, Contains, ◌||◌, is_err}
use Rattle.std.proofs.lemmas.Bool.{cases_Bool}
use Rattle.heap_space.specs.Memory.{Memory}
use Rattle.heap_space.specs.Extents.{Extent, KeepsWords, KeepsOutside}
use Rattle.large_objects.specs.Blocks.{without_place}
use Rattle.old_space.specs.HasBlocks.{HasBlocks, Stands, IsLive, greatest_small, page_size}
use Rattle.old_space.specs.Calls.{still_waiting, unit_of, IsElsewhere}
use Rattle.size_pages.specs.Calls.{page_of}
use Rattle.old_space.specs.declared.Old.{Old}
use Rattle.rawref_links.proofs.Numbers.{Contains-from_is_in}
use Rattle.object_model.specs.Sets.{is_in}
use Rattle.heap_space.specs.Places.{has, with_word}
use Rattle.heap_space.proofs.Blocks.{lies-with_word}
use Rattle.object_header.specs.Words.{with_flag}
use Rattle.object_header.specs.declared.flags.Flag.TheVariants.{HasShadow}
use Rattle.object_model.specs.ObjectWords.{words_at}
use Rattle.object_view.proofs.LayoutLaws.{laid_out}
use Rattle.object_view.proofs.SpaceLaws.{lies-at}
use Rattle.old_space.proofs.JoinLaws.{HasBlocks-first}
use Rattle.parts_model.specs.Homes.{CanReserve, shadow_word, ReservesHome}
use Rattle.parts_model.proofs.BlockLaws.{lies-kept}
use Rattle.parts_model.specs.Parts.{HeapParts, word_in}
use Rattle.parts_model.specs.Births.{with_old_blocks, TakesBlock, TakesNone}

words-twice : (a b c : Memory) (xs : List Extent) → KeepsWords a b xs → KeepsWords b c xs → KeepsWords a c xs
words-twice a b c [] p q = tt
words-twice a b c (x ∷ xs) p q = ((λ k i. q.0 k i ∙ p.0 k i), words-twice a b c xs p.1 q.1)

outside-twice : (low high : ℕ) (a b c : Memory) → KeepsOutside low high a b → KeepsOutside low high b c → KeepsOutside low high a c
outside-twice low high a b c p q = record {
  below = record { blocks = q.below.blocks ∙ p.below.blocks; words = λ k l r o. q.below.words k l r o ∙ p.below.words k l r o };
  above = λ end. record { blocks = (q.above end).blocks ∙ (p.above end).blocks; words = λ k l r o. (q.above end).words k l r o ∙ (p.above end).words k l r o };
}

-- a place that is not listed is no other's
without-none : (a : ℕ) (xs : List ℕ) → is_in a xs ≡ false → without_place a xs ≡ xs
without-none a [] e = refl
without-none a (x ∷ xs) e = elim (cases_Bool (x == a)) [
  | inl t ↦ absurd (let yes : is_in a (x ∷ xs) ≡ true = ap (λ (b : Bool). b || is_in a xs) t in let no : ⊥ = cc in no)
  | inr f ↦ (let rest : is_in a xs ≡ false = sym (ap (λ (b : Bool). b || is_in a xs) f) ∙ e in rw f (ap (λ (ys : List ℕ). x ∷ ys) (without-none a xs rest)))
]

-- the same units wait where a block elsewhere was given back
still-same : (old : Old) (waiting : List ℕ) (a : ℕ) → IsElsewhere old waiting a → still_waiting a waiting ≡ waiting
still-same old waiting a away = elim (cases_Bool (nat_lt a 1099511627776)) [
  | inl t ↦ ap (λ (b : Bool). if b then waiting else without_place a waiting) t
  | inr f ↦
      (let unit : unit_of old a ≡ a = ap (λ (b : Bool). if b then page_of (page_size old) a else a) f in
      let out : is_in a waiting ≡ false = elim (cases_Bool (is_in a waiting)) [
        | inl t ↦ absurd (away (subst (Contains waiting) (sym unit) (Contains-from_is_in a waiting t)))
        | inr g ↦ g
      ] in
      ap (λ (b : Bool). if b then waiting else without_place a waiting) f ∙ without-none a waiting out)
]

-- A block that was taken and is given back at once leaves as many as before.
pub taken_back : (heap middle : HeapParts) (n a : ℕ) (old : Old) (m : Memory) → TakesBlock heap middle n a
    → ((live : List Extent) (waiting : List ℕ) → HasBlocks middle.old_blocks middle.memory ((a, n) ∷ live) waiting → HasBlocks old m live (still_waiting a waiting))
    → ((live : List Extent) (waiting : List ℕ) → HasBlocks middle.old_blocks middle.memory ((a, n) ∷ live) waiting → KeepsWords middle.memory m live)
    → KeepsOutside 4294967296 9223372036854775808 middle.memory m → m.arena_words ≡ middle.memory.arena_words
    → greatest_small old ≡ greatest_small middle.old_blocks → page_size old ≡ page_size middle.old_blocks
    → TakesNone heap (with_old_blocks middle old m)
taken_back heap middle n a old m takes given kept outside arenas small page = record {
  keeps = record {
    only = ap (λ (h : HeapParts). with_old_blocks h old m) takes.keeps.only;
    kept = λ live waiting h. words-twice heap.memory middle.memory m live (takes.keeps.kept live waiting h) (kept live waiting (takes.taken live waiting h));
    outside = outside-twice 4294967296 9223372036854775808 heap.memory middle.memory m takes.keeps.outside outside;
    arenas = arenas ∙ takes.keeps.arenas;
    small = small ∙ takes.keeps.small;
    page = page ∙ takes.keeps.page;
  };
  same = λ live waiting h.
      subst (HasBlocks old m live) (still-same middle.old_blocks waiting a (takes.elsewhere live waiting h)) (given live waiting (takes.taken live waiting h));
}

-- what taking a block for a home says
pub block_live : (heap middle : HeapParts) (n a : ℕ) → TakesBlock heap middle n a → Stands heap.old_blocks heap.memory → IsLive middle.old_blocks middle.memory (a, n)
block_live heap middle n a takes stands = record { others = stands.live; waiting = stands.waiting; blocks = takes.taken stands.live stands.waiting stands.blocks }

pub block_there : (heap middle : HeapParts) (n a : ℕ) → TakesBlock heap middle n a → Stands heap.old_blocks heap.memory → IsTrue (has middle.memory.blocks a)
block_there heap middle n a takes stands =
    let block = HasBlocks-first middle.old_blocks middle.memory (a, n) stands.live stands.waiting (takes.taken stands.live stands.waiting stands.blocks) in
    let wide = block.wide in
    lies-at middle.memory.blocks a n a block.lies (omega arith) (omega (arith, wide))

-- the object is there still, when the first word of the block was written
pub object_there : (heap middle : HeapParts) (n a place x : ℕ) → TakesBlock heap middle n a → CanReserve heap place → IsTrue (has (with_word middle.memory.blocks a x) place)
object_there heap middle n a place x takes can =
    let size : ℕ = words_at heap.setup.types (word_in heap) place in
    let lies = lies-kept heap.memory middle.memory 4294967296 place size takes.keeps.outside.below.blocks can.young can.object.whole in
    lies-at (with_word middle.memory.blocks a x) place size place (lies-with_word middle.memory.blocks a x place size ∙ lies) (omega arith)
    (omega (arith, (laid_out heap.setup.types (word_in heap) place).header))

-- What reserving a home leaves, after the block was taken and its place was noted.
pub reserves : (heap middle : HeapParts) (n place home first word marked : ℕ) (one two : Memory) (shadows : map_of.FinMap nat_cmp ℕ) → TakesBlock heap middle n home
    → n ≡ words_at heap.setup.types (word_in heap) place → first ≡ shadow_word → word ≡ word_in heap place → marked ≡ with_flag word HasShadow
    → one ≡ record middle.memory { blocks = with_word middle.memory.blocks home first } → two ≡ record one { blocks = with_word one.blocks place marked }
    → shadows ≡ map_of.insert middle.shadows place home → ReservesHome heap (record middle { memory = two; shadows = shadows }) place home
reserves heap middle n place home first word marked one two shadows takes size is_first is_word is_marked is_one is_two is_shadows = record {
  middle = middle;
  takes = subst (λ (k : ℕ). TakesBlock heap middle k home) size takes;
  is = (λ i. record middle { memory = is_two i; shadows = is_shadows i })
      ∙ (ap (λ (m : Memory). record middle { memory = record m { blocks = with_word m.blocks place marked }; shadows = map_of.insert middle.shadows place home }) is_one
      ∙ (λ i. record middle {
        memory = record middle.memory { blocks = with_word (with_word middle.memory.blocks home (is_first i)) place ((is_marked ∙ ap (λ (k : ℕ). with_flag k HasShadow) is_word) i) };
        shadows = map_of.insert middle.shadows place home;
      }));
}

-- a call that did not fail left what it says, and one that did what an error leaves
pub if_ok : {P : Type 0} (r : Result (Unit {0}) AllocError) → is_err r ≡ false → OnOk r P → P
if_ok (Ok a) e p = p
if_ok (Err a) e p = absurd (let no : ⊥ = cc in no)

pub if_err : {P : Type 0} (r : Result (Unit {0}) AllocError) → is_err r ≡ true → OnErr r P → P
if_err (Ok a) e p = absurd (let no : ⊥ = cc in no)
if_err (Err a) e p = p
