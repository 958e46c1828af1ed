-- The pass over the weak objects in the middle of a collection: what survives in it is what stays, and objects keep their layouts.
use Rattle.std.proofs.Common.{◌≡◌, ℕ, ◌+◌, ◌<◌, ◌≤◌, true, false, IsTrue, List, [], map, refl, sym, ap, ◌∙◌, subst, inl, inr, arith}
use Rattle.std.specs.Prelude.{◌==◌, ◌&&◌, not, nat_lt, if◌then◌else◌, Bool}
use Rattle.std.proofs.lemmas.Bool.{cases_Bool}
use Rattle.std.proofs.lemmas.Bool.Decides.{nat_tests}
use Rattle.heap_space.specs.Places.{word_at}
use Rattle.object_header.specs.Words.{has_flag}
use Rattle.object_header.specs.declared.flags.Flag.TheVariants.{Pinned}
use Rattle.type_table.specs.declared.info.Shape.TheVariants.{Weak}
use Rattle.object_view.specs.Moving.{place_now}
use Rattle.object_view.proofs.LayoutLaws.{laid_out, weak-at, KeepsLayout}
use Rattle.object_model.proofs.Members.{filter-part, filter-agree}
use Rattle.object_model.specs.Sets.{is_in}
use Rattle.object_model.specs.Holds.{IsPointer}
use Rattle.object_model.specs.ObjectWords.{info_at, layout_at}
use Rattle.store_model.specs.Store.{Store}
use Rattle.weak_lists.specs.Targets as targets
use Rattle.weak_lists.proofs.Settling.{AreWeak, keeps-settled}
use Rattle.heap_parts.specs.Parts.{HeapParts, word_in, pinned_places}
use Rattle.heap_parts.specs.Places.{is_young, is_weak_at}
use Rattle.frame_laws.proofs.PlaceLaws.{is_in-young, named-by}
use Rattle.minor_collect.specs.Carried.{Moved}
use Rattle.minor_collect.specs.Midway.{Midway, Changing, with_changing, Owes, is_lasting, Placing}
use Rattle.minor_collect.specs.Lines.{weaks_left, is_gone_pointer, ClearsWeaks}
use Rattle.minor_collect.specs.WeakPass.{PassesWeaks}
use Rattle.minor_collect.proofs.Weaks.{now_place, weak_was}
use Rattle.minor_collect.proofs.WeakPass.{weak-shape}

module _ {start : HeapParts} {store : Store} {remembered : ℕ → ℕ → Bool} {now : Changing} {todo held left : List ℕ} {owes : Owes} {moved : Moved}
    {placing : Placing} (mid : Midway start store remembered now placing todo held left owes moved []) where
  pub nursery_small : start.nursery.words ≤ 1048576
  nursery_small = omega (arith, mid.made.words, mid.made.ranges.1)

  -- an object survives in the pass where it stays
  pub survives_lasting : (p : ℕ) → IsTrue (is_in p placing.places) → targets.survives start.nursery.words (word_at now.memory.blocks) p ≡ is_lasting (pinned_places start) p
  survives_lasting p t = elim (cases_Bool (is_young p)) [
    | inl y ↦
        let there = is_in-young placing.places p t y in
        let i = mid.words.inside p there in
        let size = (laid_out start.setup.types (word_at now.memory.blocks) p).header in
        let low : p ≤ start.nursery.words = omega (arith, i, size) in
        let inner : nat_lt start.nursery.words p ≡ false = grind (arith, nat_tests, low) in
        let a : targets.survives start.nursery.words (word_at now.memory.blocks) p ≡ has_flag (word_at now.memory.blocks p) Pinned = rw inner refl in
        let b : is_lasting (pinned_places start) p ≡ is_in p (pinned_places start) = rw y refl in
        a ∙ (mid.young_flags.pinned.each p there ∙ sym b)
    | inr o ↦
        let high : 4294967296 ≤ p = grind (arith, nat_tests, o) in
        let above : start.nursery.words < p = omega (arith, high, nursery_small) in
        let outer : nat_lt start.nursery.words p ≡ true = grind (arith, nat_tests, above) in
        let a : targets.survives start.nursery.words (word_at now.memory.blocks) p ≡ true = rw outer refl in
        let b : is_lasting (pinned_places start) p ≡ true = rw o refl in
        a ∙ sym b
  ]

  -- and a pointer is gone where its object does not
  pub gone_same : (x : ℕ) → IsPointer placing.met x → targets.is_gone start.nursery.words (word_at now.memory.blocks) x ≡ is_gone_pointer (word_at now.memory.blocks) (pinned_places start) x
  gone_same x (inl z) = let P : ℕ → Type 0 = λ k. targets.is_gone start.nursery.words (word_at now.memory.blocks) k ≡ is_gone_pointer (word_at now.memory.blocks) (pinned_places start) k in subst P (sym z) refl
  gone_same x (inr t) = ap (λ (b : Bool). not (x == 0) && not b) (survives_lasting (place_now (word_at now.memory.blocks) x) (now_place mid.words.objects mid.words.moving x t).0)

  module _ {passed : HeapParts} {told_old told_new : List ℕ} (same : now.weaks ≡ start.weaks) (gray : List ℕ)
      (passes : PassesWeaks (with_changing start (record now { gray = gray })) passed told_old told_new) where
    -- the list is that of the weak objects that stay
    pub left_are : passed.weaks ≡ weaks_left (word_at now.memory.blocks) (pinned_places start) start.weaks
    left_are =
        passes.left ∙ (ap (targets.weaks_left start.nursery.words (word_at now.memory.blocks)) same
        ∙ filter-agree (targets.survives start.nursery.words (word_at now.memory.blocks)) (λ p. is_lasting (pinned_places start) p) (map (place_now (word_at now.memory.blocks)) start.weaks)
        (λ p t.
        let n = named-by (place_now (word_at now.memory.blocks)) p start.weaks t in
        let there = now_place mid.words.objects mid.words.moving n.place (mid.carried.weaks_are.there n.place n.there) in
        survives_lasting p (subst (λ (k : ℕ). IsTrue (is_in k placing.places)) (sym n.is) there.0)))

    -- each that is listed still is a weak object
    pub listed_weak : (p : ℕ) → IsTrue (is_in p passed.weaks) → IsTrue (is_in p placing.places) × ((info_at start.setup.types (word_at now.memory.blocks) p).shape ≡ Weak)
    listed_weak p t =
        let last = filter-part (λ q. is_lasting (pinned_places start) q) (map (place_now (word_at now.memory.blocks)) start.weaks) p (subst (λ (l : List ℕ). IsTrue (is_in p l)) left_are t) in
        let n = named-by (place_now (word_at now.memory.blocks)) p start.weaks last.0 in
        let there = now_place mid.words.objects mid.words.moving n.place (mid.carried.weaks_are.there n.place n.there) in (
          subst (λ (k : ℕ). IsTrue (is_in k placing.places)) (sym n.is) there.0,
          weak-shape _ (ap (is_weak_at start.setup.types (word_at now.memory.blocks)) n.is ∙ weak_was mid.words.objects mid.words.moving mid.carried n.place n.there),
        )

    pub target_pointer : (p : ℕ) → IsTrue (is_in p passed.weaks) → IsPointer placing.met (targets.target_at start.setup.types (word_at now.memory.blocks) p)
    target_pointer p t =
        let there = listed_weak p t in
        let one = weak-at start.setup.types (word_at now.memory.blocks) p there.1 in
        let F : ℕ → Type 0 = λ k. IsPointer placing.met (word_at now.memory.blocks k) in
        subst F (omega arith) (mid.words.objects.closed p 0 there.0 (omega (arith, one.0)))

    -- The pass clears the targets that are gone.
    pub clears_weaks : ClearsWeaks start.setup.types (word_in passed) (word_at now.memory.blocks) (pinned_places start) start.weaks passed.weaks
    clears_weaks = record {
      left_are = left_are;
      written = λ p t.
          let x : ℕ = targets.target_at start.setup.types (word_at now.memory.blocks) p in
          passes.targets.written p t ∙ ap (λ (b : Bool). if b then 0 else place_now (word_at now.memory.blocks) x) (gone_same x (target_pointer p t));
      elsewhere = passes.targets.elsewhere;
    }

    weak-all : AreWeak start.setup.types now.memory passed.weaks placing.places
    weak-all = record {
      objects = record { whole = mid.words.whole; apart = mid.words.objects.apart };
      there = λ p t. (listed_weak p t).0;
      weak = λ p t. (listed_weak p t).1;
    }

    -- objects keep their layouts
    pub passed_layouts : (q : ℕ) → IsTrue (is_in q placing.places) → KeepsLayout start.setup.types (word_in passed) (word_at now.memory.blocks) q
    passed_layouts q t = keeps-settled weak-all (word_in passed) (record { elsewhere = passes.targets.elsewhere }) q t

    -- a target is a word of an object
    pub target_inside : (b p : ℕ) → IsTrue (is_in p passed.weaks) → b ≡ (layout_at start.setup.types (word_at now.memory.blocks) p).ref_start
        → (p ≤ b) × (b < p + (layout_at start.setup.types (word_at now.memory.blocks) p).words)
    target_inside b p t e =
        let laid = laid_out start.setup.types (word_at now.memory.blocks) p in
        let one = weak-at start.setup.types (word_at now.memory.blocks) p (listed_weak p t).1 in
        (omega (arith, e, laid.begins, laid.ordered), omega (arith, e, laid.pointers, one.0))
