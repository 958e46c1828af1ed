-- What holds of the words of a heap where first words and layouts stay.
use Rattle.std.proofs.Common.{◌≡◌, ℕ, ◌+◌, ◌≤◌, IsTrue, List, [], ◌∷◌, ◌++◌, Option, sym, ap, ap₂, ◌∙◌, subst}
use Rattle.std.specs.Prelude.{filter, option_map, ◌==◌}
use Rattle.std.specs.List.Sorted.{IsPermutation}
use Rattle.std.proofs.lemmas.List.Sorted.{list_any-IsPermutation}
use Rattle.type_table.specs.declared.info.TypeInfo.{TypeInfo}
use Rattle.type_table.specs.Table.{Table}
use Rattle.heap_space.specs.Places.{lies_in_one, word_at}
use Rattle.heap_space.specs.Memory.{Memory}
use Rattle.heap_space.specs.Extents.{Extent}
use Rattle.nursery_gaps.specs.Ranges.{Range}
use Rattle.nursery_gaps.specs.Nursery.{Layout as NurseryLayout}
use Rattle.object_header.specs.Words.{has_flag}
use Rattle.object_header.specs.declared.flags.Flag.TheVariants.{HasCards}
use Rattle.object_model.proofs.Members.{map-same, in-left, in-right, filter-agree, filter_map-agree}
use Rattle.object_view.proofs.LayoutLaws.{info_at-same}
use Rattle.old_space.specs.HasBlocks.{HasBlocks}
use Rattle.old_space.specs.declared.Old.{Old}
use Rattle.object_model.specs.Layout.{Layout}
use Rattle.object_model.specs.Object.{Object}
use Rattle.object_model.specs.Sets.{is_in}
use Rattle.object_model.specs.ObjectWords.{info_at}
use Rattle.object_model.specs.Shapes.{is_weak_shape}
use Rattle.object_model.specs.Holds.{HoldsObjects}
use Rattle.remember_cards.specs.Remembered.{Remembered}
use Rattle.parts_model.specs.Places.{young_places, old_places, OfFirsts, is_weak_at}
use Rattle.parts_model.specs.Nursery.{AreWalks, walked, HoldsNursery}
use Rattle.parts_model.specs.OldSpace.{reserved_block, reserved_blocks, reserved_homes, blocks_of, husk_at, HoldsHusks}
use Rattle.parts_model.specs.Headers.{keeps_cards, IsCarded}
use Rattle.parts_model.specs.StandsFor.{HoldsWords, HoldsHeaders, HoldsYoungFlags, HoldsRemembered}
use Rattle.frame_laws.proofs.PlaceLaws.{young-is_in, old-is_in}
use Rattle.parts_model.proofs.SameLayouts.{SameLayouts, walk-same, whole-same}
use Rattle.parts_model.proofs.BlockLaws.{blocks-same}

-- First words stay, and objects and husks keep their layouts.
pub record SameObjects (types : Table TypeInfo) (v w : ℕ → ℕ) (places husks : List ℕ) : Type 0 where
  pub layouts : SameLayouts types v w places
  pub husk_layouts : SameLayouts types v w husks

pub record SameWords (types : Table TypeInfo) (v w : ℕ → ℕ) (home : ℕ → Option ℕ) (places husks : List ℕ) : Type 0 where
  pub objects : SameObjects types v w places husks
  pub firsts : (p : ℕ) → IsTrue (is_in p places) → v p ≡ w p
  pub husk_firsts : (p : ℕ) → IsTrue (is_in p husks) → v p ≡ w p
  pub shadow_firsts : (p : ℕ) → IsTrue (is_in p (reserved_homes home (young_places places))) → v p ≡ w p

pub firsts-stay : {P : ℕ → ℕ → Type 0} {ps : List ℕ} {w : ℕ → ℕ} (v : ℕ → ℕ) → ((p : ℕ) → IsTrue (is_in p ps) → v p ≡ w p) → OfFirsts P ps w → OfFirsts P ps v
firsts-stay {P = P} v same h = record { each = λ p t. subst (P p) (sym (same p t)) (h.each p t) }

module _ {types : Table TypeInfo} {v w : ℕ → ℕ} {home : ℕ → Option ℕ} {places husks : List ℕ} (s : SameWords types v w home places husks) where
  pub old-firsts : (p : ℕ) → IsTrue (is_in p (old_places places)) → v p ≡ w p
  old-firsts p t = s.firsts p (old-is_in places p t).0

  young-firsts : (p : ℕ) → IsTrue (is_in p (young_places places)) → v p ≡ w p
  young-firsts p t = s.firsts p (young-is_in places p t).0

  pub headers_kept : HoldsHeaders w home places husks → HoldsHeaders v home places husks
  headers_kept h = record {
    settled = firsts-stay v old-firsts h.settled;
    husk = firsts-stay v s.husk_firsts h.husk;
    shadow = firsts-stay v s.shadow_firsts h.shadow;
    young = firsts-stay v young-firsts h.young;
  }

  pub young_flags_kept : {pins : List (ℕ × ℕ)} → HoldsYoungFlags w home pins places → HoldsYoungFlags v home pins places
  young_flags_kept h = record {
    pinned = firsts-stay v young-firsts h.pinned;
    has_shadow = firsts-stay v young-firsts h.has_shadow;
  }

  pub carded_kept : (card p : ℕ) → IsTrue (is_in p places) → IsCarded types card w p → IsCarded types card v p
  carded_kept card p t h =
      let keeps = s.objects.layouts p t in
      let infos : info_at types v p ≡ info_at types w p = info_at-same types v w p keeps.type_stays in
      ap (λ (x : ℕ). has_flag x HasCards) (s.firsts p t) ∙ (h ∙ ap₂ (λ (i : TypeInfo) (l : Layout). keeps_cards card i.shape l.ref_count) (sym infos) (sym keeps.layout_stays))

  pub remembered_kept : {card : ℕ} {remembered : Remembered} → HoldsRemembered types card w remembered places → HoldsRemembered types card v remembered places
  remembered_kept {card = card} h = record {
    there = h.there;
    tracked = firsts-stay v old-firsts h.tracked;
    carded = λ p t. carded_kept card p (old-is_in places p t).0 (h.carded p t);
  }

module _ {types : Table TypeInfo} {v w : ℕ → ℕ} {places husks : List ℕ} (s : SameObjects types v w places husks) where
  pub weak-same : filter (is_weak_at types v) places ≡ filter (is_weak_at types w) places
  weak-same = filter-agree (is_weak_at types v) (is_weak_at types w) places
      (λ p t. ap (λ (i : TypeInfo). is_weak_shape i.shape) (info_at-same types v w p (s.layouts p t).type_stays))

  reserved-same : (home : ℕ → Option ℕ) → reserved_blocks types w home (young_places places) ≡ reserved_blocks types v home (young_places places)
  reserved-same home = filter_map-agree (reserved_block types w home) (reserved_block types v home) (young_places places)
      (λ p t. ap (λ (l : Layout). option_map (λ (at : ℕ). (at, l.words)) (home p)) (sym (s.layouts p (young-is_in places p t).0).layout_stays))

  pub blocks_same : (home : ℕ → Option ℕ) (spare : List Extent) → blocks_of types w home (young_places places) (old_places places) husks spare ≡ blocks_of types v home (young_places places) (old_places places) husks spare
  blocks_same home spare = ap₂ (λ (xs ys : List Extent). xs ++ ys) (blocks-same types v w (old_places places) (λ p t. s.layouts p (old-is_in places p t).0))
      (ap₂ (λ (xs ys : List Extent). xs ++ ys) (blocks-same types v w husks s.husk_layouts) (ap (λ (xs : List Extent). xs ++ spare) (reserved-same home)))

  pub husks_kept : {page : ℕ} {name : ℕ → ℕ} {waiting : List ℕ} {stored : List (ℕ × ℕ)} → HoldsHusks page types w name husks waiting stored
      → HoldsHusks page types v name husks waiting stored
  husks_kept h = record {
    reads = h.reads ∙ map-same (husk_at types w) (husk_at types v) husks
        (λ p t. ap₂ (λ (b : ℕ) (l : Layout). (b, l.words)) (sym (s.husk_layouts p t).birth_stays) (sym (s.husk_layouts p t).layout_stays));
    named = λ p t. h.named p t ∙ sym (s.husk_layouts p t).birth_stays;
    waits = h.waits;
  }

pub walks-same : (types : Table TypeInfo) (v w : ℕ → ℕ) (ranges : List Range) (walks : List (List ℕ)) → SameLayouts types v w (walked walks)
    → AreWalks types w ranges walks → AreWalks types v ranges walks
walks-same types v w [] [] same walk = walk
walks-same types v w [] (ps ∷ walks) same walk = walk
walks-same types v w (r ∷ ranges) [] same walk = walk
walks-same types v w (r ∷ ranges) (ps ∷ walks) same walk = (
  walk-same types v w r.0 (r.0 + r.1) ps (λ p t. same p (in-left p ps (walked walks) t)) walk.0,
  walks-same types v w ranges walks (λ p t. same p (in-right p ps (walked walks) t)) walk.1,
)

-- the nursery holds the same objects
pub nursery_kept : {types : Table TypeInfo} {nursery : NurseryLayout} {old new : Memory} {young : List ℕ} → SameLayouts types (word_at new.blocks) (word_at old.blocks) young
    → ((a n : ℕ) → lies_in_one new.blocks a n ≡ lies_in_one old.blocks a n) → HoldsNursery nursery old types (word_at old.blocks) young
    → HoldsNursery nursery new types (word_at new.blocks) young
nursery_kept {types = types} {nursery = nursery} {old = old} {new = new} {young = young} same lies h =
    let v : ℕ → ℕ = word_at new.blocks in let w : ℕ → ℕ = word_at old.blocks in
    record {
      walks = h.walks;
      walk = walks-same types v w nursery.used h.walks
          (λ p t. same p (subst IsTrue (list_any-IsPermutation (λ (y : ℕ). y == p) (walked h.walks) young h.just) t)) h.walk;
      just = h.just;
      inside = λ p t. subst (λ (l : Layout). p + l.words ≤ nursery.words + 1) (sym (same p t).layout_stays) (h.inside p t);
      laid_out = h.laid_out;
      whole = rw lies h.whole;
    }

-- Words change that are none of first words and keep layouts: what the words hold is as they say of the objects.
pub words_kept : {types : Table TypeInfo} {page : ℕ} {old new : Memory} {nursery : NurseryLayout} {old_blocks : Old} {home : ℕ → Option ℕ} {weaks : List ℕ} {spare : List Extent}
    {kept after : List Object} {stored : List (ℕ × ℕ)} {places husks waiting : List ℕ} {name : ℕ → ℕ}
    → SameObjects types (word_at new.blocks) (word_at old.blocks) places husks
    → ((a n : ℕ) → lies_in_one new.blocks a n ≡ lies_in_one old.blocks a n)
    → HasBlocks old_blocks new (blocks_of types (word_at old.blocks) home (young_places places) (old_places places) husks spare) waiting
    → HoldsObjects types (word_at new.blocks) places places name after
    → HoldsWords types page old nursery old_blocks home weaks spare kept stored places husks waiting name
    → HoldsWords types page new nursery old_blocks home weaks spare after stored places husks waiting name
words_kept {types = types} {old = old} {new = new} {old_blocks = old_blocks} {home = home} {weaks = weaks} {spare = spare} {places = places} {waiting = waiting} same lies blocks objects h = record {
  objects = objects;
  whole = whole-same old new types places same.layouts lies h.whole;
  weak = subst (λ (ps : List ℕ). IsPermutation ps weaks) (sym (weak-same same)) h.weak;
  young = nursery_kept (λ p t. same.layouts p (young-is_in places p t).0) lies h.young;
  blocks = subst (λ (live : List Extent). HasBlocks old_blocks new live waiting) (blocks_same same home spare) blocks;
  husk = husks_kept same h.husk;
}
