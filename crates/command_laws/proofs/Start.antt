-- A heap that was just started stands for the empty store.
use Rattle.std.proofs.Common.{◌≡◌, ℕ, zero, suc, ◌*◌, IsTrue, List, [], ◌∷◌, length, map, replicate, Option, Some, None, refl, sym, ap, subst, inl, inr, arith, lit<}
use Rattle.std.specs.FinMap as map
use Rattle.std.specs.Ordering.{nat_cmp}
use Rattle.std.proofs.lemmas.Bool.Decides.{nat_tests}
use Rattle.std.proofs.lemmas.List.Sorted.{IsPermutation-refl}
use lib.ListN.{length-replicate}
use Rattle.heap_space.specs.Places.{lies_in_one, zeros_at}
use Rattle.heap_space.specs.Memory.{fresh_memory}
use Rattle.old_space.specs.HasBlocks.{HasBlocks, greatest_small, page_size}
use Rattle.old_space.specs.declared.Old.{Old}
use Rattle.type_table.specs.declared.info.TypeInfo.{TypeInfo}
use Rattle.type_table.specs.Table.{Table}
use Rattle.object_model.proofs.Members.{is_in-cases, is_in-nil}
use Rattle.object_view.proofs.FrameLaws.{none_hold}
use Rattle.object_model.specs.declared.settings.Settings.{Settings}
use Rattle.object_model.specs.Setup.{small_words}
use Rattle.store_model.specs.Store.{empty_store}
use Rattle.object_model.specs.Sets.{is_in}
use Rattle.object_model.specs.SettingRanges.{AreInRange}
use Rattle.object_model.specs.ObjectWords.{renamed}
use Rattle.object_model.specs.Holds.{IsPointer}
use Rattle.parts_model.specs.Parts.{HeapParts, started_parts, AreFresh, word_in}
use Rattle.parts_model.specs.StandsFor.{PartsStandFor}
use Rattle.store_model.proofs.EmptySound.{none, empty_sound}

nil-slots : (roots : ℕ) → replicate roots None ≡ map (renamed (λ (p : ℕ). p)) (replicate roots 0)
nil-slots zero = refl
nil-slots (suc roots) = ap (λ (xs : List (Option ℕ)). None ∷ xs) (nil-slots roots)

nil-pointer : (roots p : ℕ) → IsTrue (is_in p (replicate roots 0)) → IsPointer [] p
nil-pointer zero p t = absurd (is_in-nil p t)
nil-pointer (suc roots) p t = elim (is_in-cases p 0 (replicate roots 0) t) [ inl e ↦ inl e | inr u ↦ nil-pointer roots p u ]

nursery-whole : (nursery : ℕ) → IsTrue (lies_in_one (zeros_at 1 nursery ∷ []) 1 nursery)
nursery-whole nursery = let n : length (replicate nursery zero) ≡ nursery = length-replicate nursery zero in grind (arith, nat_tests, n)

no-home : (p at : ℕ) {A : Type 0} → map.get (map.empty {X = ℕ} {R = nat_cmp}) p ≡ Some at → A
no-home p at e = let n : map.get (map.empty {X = ℕ} {R = nat_cmp}) p ≡ None = map.get-empty nat_cmp p in absurd (let no : ⊥ = cc in no)

started-parts : (settings : Settings) (types : Table TypeInfo) (old_blocks : Old) → AreInRange settings
    → HasBlocks old_blocks (fresh_memory settings.nursery (settings.arena * settings.page)) [] [] → greatest_small old_blocks ≡ small_words settings → page_size old_blocks ≡ settings.page
    → PartsStandFor (started_parts settings types old_blocks) (empty_store settings)
started-parts settings types old_blocks ranges empty small page =
    let heap : HeapParts = started_parts settings types old_blocks in
    record {
      places = [];
      name = λ p. p;
      husks = [];
      waiting = [];
      words = record {
        objects = none_hold types (word_in heap) [] (λ p. p);
        whole = λ p t. none p t;
        weak = IsPermutation-refl [];
        young = record {
          walks = [];
          walk = tt;
          just = IsPermutation-refl [];
          inside = λ p t. none p t;
          laid_out = record { below = []; above = []; used = refl; lower = omega arith; passed = omega arith; upper = omega (arith, ranges.0); few = omega arith };
          whole = nursery-whole settings.nursery;
        };
        blocks = empty;
        husk = record { reads = refl; named = λ p t. none p t; waits = λ p t. none p t };
      };
      headers = record {
        settled = record { each = λ p t. none p t };
        husk = record { each = λ p t. none p t };
        shadow = record { each = λ p t. none p t };
        young = record { each = λ p t. none p t };
      };
      young_flags = record { pinned = record { each = λ p t. none p t }; has_shadow = record { each = λ p t. none p t } };
      visited = record { each = λ p t. none p t };
      remembered = record { there = λ p t. none p t; tracked = record { each = λ p t. none p t }; carded = λ p t. none p t };
      births = record { settled_are = refl; rise = omega arith; next_high = lit< tt };
      slots = record { named = nil-slots settings.roots; many = length-replicate settings.roots 0; pointers = λ p t. nil-pointer settings.roots p t };
      pins = record { named = refl; there = λ p t. none p t };
      finalizers = record {
        registered_are = record { named = refl; there = λ p t. none p t };
        chosen_are = record { named = refl; there = λ p t. none p t };
        queues_are = record { named = refl; there = λ p t. none p t };
        births_are = refl;
      };
      links = record { named = refl; there = λ n p e. absurd (let no : ⊥ = cc in no); queue = refl };
      homes = record { told = λ b at e. absurd (let no : ⊥ = cc in no); known = λ p at e. no-home p at e; reserved = λ p at e. no-home p at e };
      gray = λ p t. none p t;
      gray_phase = refl;
      sums = record { unsettled_are = refl; old_are = refl; fresh_old = omega arith; within = omega arith };
      husk_list = record { are = refl; rise = (λ i j d below within. absurd (let no : ⊥ = omega (arith, within) in no)) };
      counts = record {
        next_is = refl;
        threshold_is = refl;
        threshold_low = omega arith;
        threshold_high = omega (arith, ranges.2.2.2.2.1);
        fresh_is = refl;
        phase_is = refl;
        gapped_is = refl;
      };
      ungapped = λ e. (refl, refl);
      units = refl;
      made = record { ranges = ranges; words = refl; pins = refl; card = refl; arena = refl; small = small; page = page };
      order = record {
        young = λ x i y t e. none x t;
        owed = λ x i y t e. none x t;
        held_settled = λ x i t. none x t;
        gray_settled = λ x t. none x t;
        visited_settled = λ x t. none x t;
        gray_reached = λ x t. none x t;
        visited_reached = λ x t. none x t;
      };
      sound = empty_sound settings;
    }

-- a heap that was just started stands for the empty store
pub started_stands : (parts : HeapParts) (settings : Settings) (types : Table TypeInfo) → AreInRange settings → AreFresh parts settings types
    → PartsStandFor parts (empty_store settings)
started_stands parts settings types ranges fresh =
    subst (λ (h : HeapParts). PartsStandFor h (empty_store settings)) (sym fresh.are) (started-parts settings types fresh.old_blocks ranges fresh.empty fresh.small fresh.page)
