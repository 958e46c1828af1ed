-- What is gone was let go of: the parts then, and that the nursery can be made anew. `can_remake_dropped` is what `remake_nursery` asks for.
use Rattle.std.proofs.Common.{◌≡◌, ℕ, IsTrue, List, refl, sym, ap, ◌∙◌, subst}
use Rattle.object_view.specs.Views.{HasObject}
use Rattle.object_view.proofs.LayoutLaws.{SameAt, keeps-same}
use Rattle.object_model.specs.Layout.{Layout}
use Rattle.object_model.specs.Sets.{is_in}
use Rattle.object_model.specs.ObjectWords.{words_at}
use Rattle.store_model.specs.Links.{cut_links}
use Rattle.heap_parts.specs.Parts.{HeapParts, word_in}
use Rattle.heap_parts.specs.Places.{young_places}
use Rattle.frame_laws.proofs.PlaceLaws.{young-is_in}
use Rattle.minor_collect.specs.Midway.{Changing, with_changing}
use Rattle.minor_collect.specs.Calls.{Stage, Spot}
use Rattle.minor_collect.specs.Drops.{Drops}
use Rattle.minor_collect.specs.Gives.{GaveAll}
use Rattle.minor_collect.specs.Remade.{CanRemake}
use Rattle.minor_collect.specs.Vanished.{FindsVanished}
use Rattle.minor_collect.specs.WeakPass.{PassesWeaks}
use Rattle.minor_collect.proofs.GivesAfter.{IsMiddleButGray, queued_change, passes_from, giving_of, gives_some, gone_young, passed_size}
use Rattle.minor_collect.proofs.CanRemakes.{can_remake}

-- what changes, once targets follow, homes were given back and links were cut
abbrev pub dropped_change : Changing → HeapParts → HeapParts → List ℕ → Changing
dropped_change now passed gave dead = record now {
  memory = gave.memory;
  shadows = gave.shadows;
  old_blocks = gave.old_blocks;
  weaks = passed.weaks;
  links = cut_links (λ object. is_in object dead) now.links;
}

module _ {stage : Stage} {before now new : HeapParts} {spot : Spot} {dead destroyed told cleared : List ℕ} (m : IsMiddleButGray stage before now spot)
    (found : FindsVanished stage spot before dead destroyed) (d : Drops now new dead told cleared) where
  pub weaks_passed : PassesWeaks (with_changing stage.start (queued_change m)) d.passed told cleared
  weaks_passed = passes_from m d.passes

  pub gave_all : GaveAll (giving_of m.middle.mid m.weaks now.gray weaks_passed) d.passed d.gave dead
  gave_all = d.gives (giving_of m.middle.mid m.weaks now.gray weaks_passed) (gives_some m.middle.mid m.weaks now.gray weaks_passed) (gone_young m.middle.mid m.weaks now.gray weaks_passed dead found.just)

  -- the parts once homes were given back
  pub gave_rest : d.gave ≡ record (with_changing stage.start (queued_change m)) { memory = d.gave.memory; shadows = d.gave.shadows; old_blocks = d.gave.old_blocks; weaks = d.passed.weaks }
  gave_rest = gave_all.only ∙ ap (λ (h : HeapParts). record h { memory = d.gave.memory; shadows = d.gave.shadows; old_blocks = d.gave.old_blocks }) weaks_passed.only

  -- the parts then
  pub dropped_rest : new ≡ with_changing stage.start (dropped_change (queued_change m) d.passed d.gave dead)
  dropped_rest = d.links ∙ ap (λ (h : HeapParts). record h { links = cut_links (λ object. is_in object dead) h.links }) gave_rest

  dropped-size : (q : ℕ) → IsTrue (is_in q (young_places spot.placing.places)) → words_at stage.start.setup.types (word_in d.gave) q ≡ words_at stage.start.setup.types (word_in before) q
  dropped-size q t =
      let there = (young-is_in spot.placing.places q t).0 in
      let P : HeapParts → Type 0 = λ h. SameAt h.setup.types (word_in d.gave) (word_in d.passed) q in
      ap (λ (l : Layout). l.words) (keeps-same stage.start.setup.types (word_in d.gave) (word_in d.passed) q (subst P gave_rest (gave_all.after.gives.keeps.objects q there))).layout_stays
      ∙ passed_size m.middle.mid m.weaks now.gray weaks_passed q there

  -- The nursery can be made anew.
  pub can_remake_dropped : CanRemake new
  can_remake_dropped = subst CanRemake (sym dropped_rest)
      (can_remake m.middle.mid stage.stands.sound.pins (with_changing stage.start (dropped_change (queued_change m) d.passed d.gave dead)) refl refl dropped-size
      (λ q t. let P : HeapParts → Type 0 = λ h. HasObject d.gave.memory h.setup.types q in subst P gave_rest (gave_all.after.whole q t)))
