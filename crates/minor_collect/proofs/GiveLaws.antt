-- The home of one more object that is gone is given back.
use Rattle.std.proofs.Common.{◌≡◌, ◌≢◌, ℕ, ◌<◌, false, IsTrue, List, [], ◌∷◌, Some, None, IsSome, refl, sym, ap, ◌∙◌, subst, inl, inr, arith}
use Rattle.std.specs.Ordering.{nat_cmp}
use Rattle.std.specs.FinMap as map_of
use Rattle.std.specs.FinMap.{FinMap}
use Rattle.std.proofs.lemmas.Bool.Decides.{eqb_tells, nat_tests}
use Rattle.type_table.specs.Table.{value_at}
use Rattle.heap_space.specs.Places.{lies_in_one, word_at}
use Rattle.heap_space.specs.Memory.{Memory}
use Rattle.heap_space.specs.Extents.{Extent, KeepsWords, KeepsOutside}
use Rattle.object_view.specs.Views.{HasObject}
use Rattle.object_view.proofs.LayoutLaws.{keeps-same}
use Rattle.old_space.specs.Calls.{still_waiting}
use Rattle.old_space.specs.HasBlocks.{HasBlocks, IsLive, KeepsSizes}
use Rattle.old_space.specs.declared.Old.{Old}
use Rattle.old_space.proofs.JoinLaws.{HasBlocks_permuted}
use Rattle.object_model.specs.Layout.{Layout}
use Rattle.object_model.specs.Sets.{is_in}
use Rattle.object_model.specs.ObjectWords.{words_at}
use Rattle.heap_parts.specs.Parts.{HeapParts, home_in}
use Rattle.heap_parts.specs.Places.{is_young, young_places, old_places}
use Rattle.heap_parts.specs.OldSpace.{blocks_of}
use Rattle.frame_laws.proofs.PlaceLaws.{young-is_in}
use Rattle.minor_collect.specs.Gives.{Giving, GivesSome, GaveOne}
use Rattle.minor_collect.specs.Homes.{GivesHomes}
use Rattle.minor_collect.proofs.EndBlocks.{without_home, blocks-taken}
use Rattle.minor_collect.proofs.HomesBack.{homes_step}
use Rattle.minor_collect.proofs.KeepsMade.{made_none, made_one}
use Rattle.object_model.proofs.SameMembers.{part_differs}
use Rattle.minor_collect.proofs.TakeRoom.{lies-kept}

-- the parts once the home is given back
abbrev pub given_parts : HeapParts → Memory → FinMap nat_cmp ℕ → Old → HeapParts
given_parts now memory shadows old = record now { memory = memory; shadows = shadows; old_blocks = old }

module _ {giving : Giving} {now : HeapParts} (g : GivesSome giving now) (p : ℕ) (there : IsTrue (is_in p (young_places giving.places))) where
  pub give_live : (home n : ℕ) → home_in now p ≡ Some home → n ≡ words_at now.setup.types (word_at now.memory.blocks) p → IsLive now.old_blocks now.memory (home, n)
  give_live home n is size = record {
    others = blocks_of now.setup.types (word_at now.memory.blocks) (without_home (home_in now) p) (young_places giving.places) (old_places giving.places) giving.husks [];
    waiting = g.waiting;
    blocks = subst (λ (k : ℕ). HasBlocks now.old_blocks now.memory ((home, k) ∷ blocks_of now.setup.types (word_at now.memory.blocks) (without_home (home_in now) p) (young_places giving.places) (old_places giving.places) giving.husks []) g.waiting) (sym size)
        (HasBlocks_permuted now.old_blocks now.memory _ _ g.waiting g.gives.blocks
        (blocks-taken now.setup.types (word_at now.memory.blocks) (home_in now) p home is (young_places giving.places) (old_places giving.places) giving.husks [] (part_differs is_young giving.places g.differ) there));
  }

  pub gave_none : home_in now p ≡ None → GaveOne giving now now p
  gave_none e = record { after = g; only = refl; none = e; fewer = λ q at t. t; made = made_none now.old_blocks now.memory }

  module _ (unpinned : is_in p giving.pins ≡ false) (home n : ℕ) (m : Memory) (shadows : FinMap nat_cmp ℕ) (old : Old) (is : home_in now p ≡ Some home)
      (size : n ≡ words_at now.setup.types (word_at now.memory.blocks) p)
      (given : (live : List Extent) (waits : List ℕ) → HasBlocks now.old_blocks now.memory ((home, n) ∷ live) waits → HasBlocks old m live (still_waiting home waits))
      (kept : (live : List Extent) (waits : List ℕ) → HasBlocks now.old_blocks now.memory ((home, n) ∷ live) waits → KeepsWords now.memory m live)
      (outside : KeepsOutside 4294967296 9223372036854775808 now.memory m)
      (none : map_of.get shadows p ≡ None) (other : (q : ℕ) → q ≢ p → map_of.get shadows q ≡ home_in now q)
      (arena : m.arena_words ≡ now.memory.arena_words) (sizes : KeepsSizes now.old_blocks old) where
    gives : GivesHomes now.setup.types now.setup.settings.page giving.word giving.pins giving.places giving.husks giving.waiting giving.home (λ q. map_of.get shadows q) old m (still_waiting home g.waiting)
    gives = homes_step g.gives p home giving.most (λ q. map_of.get shadows q) old m is there unpinned g.differ g.page g.inside g.small
        (λ live waits has. given live waits (subst (λ (k : ℕ). HasBlocks now.old_blocks now.memory ((home, k) ∷ live) waits) (sym size) has))
        (λ live waits has. kept live waits (subst (λ (k : ℕ). HasBlocks now.old_blocks now.memory ((home, k) ∷ live) waits) (sym size) has))
        outside none other

    whole : (q : ℕ) → IsTrue (is_in q (young_places giving.places)) → HasObject m now.setup.types q
    whole q t =
        let y = young-is_in giving.places q t in
        let before = keeps-same now.setup.types (word_at now.memory.blocks) giving.word q (g.gives.keeps.objects q y.0) in
        let after = keeps-same now.setup.types (word_at m.blocks) giving.word q (gives.keeps.objects q y.0) in
        let low : q < 4294967296 = grind (arith, nat_tests, y.1) in
        record {
          typed = subst (λ (id : ℕ). IsSome (value_at now.setup.types id)) (before.type_stays ∙ sym after.type_stays) (g.whole q t).typed;
          whole = subst (λ (l : Layout). IsTrue (lies_in_one m.blocks q l.words)) (before.layout_stays ∙ sym after.layout_stays)
              (lies-kept now.memory m 4294967296 q (words_at now.setup.types (word_at now.memory.blocks) q) outside.below.blocks low (g.whole q t).whole);
        }

    pub gave_home : GaveOne giving now (given_parts now m shadows old) p
    gave_home = record {
      after = record { waiting = still_waiting home g.waiting; gives = gives; differ = g.differ; page = g.page; inside = g.inside; small = g.small; whole = whole };
      only = refl;
      none = none;
      fewer = λ q at t. elim (eqb_tells q p) [
        | inl e ↦ absurd (let bad : None ≡ Some at = sym none ∙ (ap (λ (k : ℕ). map_of.get shadows k) (sym e.1) ∙ t) in let no : ⊥ = cc in no)
        | inr e ↦ sym (other q e.1) ∙ t
      ];
      made = made_one outside arena sizes;
    }
