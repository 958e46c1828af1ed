-- An object moves home, or into a block that is taken first.
use Rattle.std.proofs.Common.{◌≡◌, ◌≢◌, ℕ, Bool, cond, false, IsTrue, [], Some, None, refl, sym, ap, ◌∙◌, arith}
use Rattle.std.specs.Ordering.{nat_cmp, eq_by_cmp}
use Rattle.std.specs.Cmp.{nat_cmp_total}
use Rattle.std.specs.FinMap as map_of
use Rattle.std.specs.FinMap.{FinMap, get-remove}
use Rattle.std.proofs.lemmas.Bool.{eq-eqb, ne_eqb}
use Rattle.std.proofs.lemmas.Bool.Decides.{nat_tests}
use Rattle.std.specs.Prelude.{nat_eq}
use Rattle.type_table.specs.Table.{Table}
use Rattle.type_table.specs.declared.info.TypeInfo.{TypeInfo}
use Rattle.object_view.proofs.LayoutLaws.{laid_out, SameAt, keeps-same}
use Rattle.object_model.specs.Layout.{Layout}
use Rattle.object_model.specs.Sets.{is_in}
use Rattle.heap_parts.specs.Parts.{HeapParts, word_in, home_in, pinned_places}
use Rattle.heap_parts.specs.Places.{is_young}
use Rattle.frame_laws.proofs.PlaceLaws.{is_in-young}
use Rattle.minor_collect.specs.Calls.{Stage, Spot, Middle, Waits, Settled, TookRoom, CanTake, CanSettle, CanRelocate}
use Rattle.minor_collect.specs.Midway.{is_lasting}
use Rattle.minor_collect.proofs.Begins.{not-lasting}
use Rattle.minor_collect.proofs.SettleLaws.{RoomFor, room_home, CanMoveWords, can_move_words}

same-number : (m n : ℕ) → eq_by_cmp nat_cmp m n ≡ nat_eq m n
same-number m n = grind (arith, nat_tests)

pub removed_here : (homes : FinMap nat_cmp ℕ) (p : ℕ) → map_of.get (map_of.remove homes p) p ≡ None
removed_here homes p = get-remove nat_cmp_total homes p p ∙ ap (λ (b : Bool). cond b None (map_of.get homes p)) (same-number p p ∙ eq-eqb p p refl)

pub removed_other : (homes : FinMap nat_cmp ℕ) (p q : ℕ) → q ≢ p → map_of.get (map_of.remove homes p) q ≡ map_of.get homes q
removed_other homes p q ne = get-remove nat_cmp_total homes p q ∙ ap (λ (b : Bool). cond b None (map_of.get homes q)) (same-number q p ∙ ne_eqb q p ne)

-- a block of so many words can be taken
pub can_take : (now : HeapParts) (p n : ℕ) → CanRelocate now p n → CanTake now n
can_take now p n c =
    let size = c.waits.size in let mid = c.middle.mid in
    let wide = (laid_out c.stage.start.setup.types (word_in now) p).header in
    let i = mid.words.inside p (is_in-young c.spot.placing.places p c.waits.there (not-lasting (is_young p) _ c.waits.waits).0) in
    record { stage = c.stage; spot = c.spot; middle = c.middle; least = omega (arith, wide, size); most = omega (arith, i, size, mid.made.words, mid.made.ranges.1, mid.words.objects.above p c.waits.there) }

-- what waits does so once a block was taken
pub waits_after : {stage : Stage} {now new : HeapParts} {spot : Spot} {n a p : ℕ} → TookRoom stage now new spot n a → Waits stage now spot p n → Waits stage new spot p n
waits_after {stage = stage} {now = now} {new = new} {p = p} t w = record {
  there = w.there;
  waits = w.waits;
  size = w.size ∙ sym (ap (λ (l : Layout). l.words) (keeps-same stage.start.setup.types (word_in new) (word_in now) p (t.same p w.there)).layout_stays);
  may = w.may;
}

-- and has no home
pub homeless_after : {stage : Stage} {now new : HeapParts} {spot : Spot} {n a : ℕ} (p : ℕ) → TookRoom stage now new spot n a → home_in now p ≡ None → home_in new p ≡ None
homeless_after p t e = ap (λ (h : HeapParts). home_in h p) t.only ∙ e

pub can_settle : {stage : Stage} {now new : HeapParts} {spot : Spot} {n a p : ℕ} → TookRoom stage now new spot n a → Waits stage now spot p n → CanSettle new p n a
can_settle {stage = stage} {spot = spot} t w = record { stage = stage; spot = spot; middle = t.after; waits = waits_after t w }

same-twice : {types : Table TypeInfo} {u v w : ℕ → ℕ} {q : ℕ} → SameAt types u v q → SameAt types v w q → SameAt types u w q
same-twice {types = types} {v = v} {w = w} {q = q} a b = record {
  same = λ x l r. a.same x l (omega (arith, r, ap (λ (l : Layout). l.words) (keeps-same types v w q b).layout_stays)) ∙ b.same x l r;
}

-- both steps as one
pub settled_both : {stage : Stage} {now middle new : HeapParts} {spot : Spot} {p n a : ℕ} → TookRoom stage now middle spot n a → Settled stage middle new spot p n a → Settled stage now new spot p n a
settled_both {now = now} {middle = middle} {new = new} t s = record {
  after = s.after;
  fresh = s.fresh;
  only = s.only ∙ ap (λ (h : HeapParts). record h { memory = new.memory; shadows = new.shadows; old_blocks = new.old_blocks }) t.only;
  same = λ q u ne. same-twice (s.same q u ne) (t.same q u);
}

-- the home of p is room
pub room_of_home : (stage : Stage) (now : HeapParts) (spot : Spot) (p a : ℕ) → Middle stage now spot [] → IsTrue (is_in p spot.placing.places) → is_lasting (pinned_places stage.start) p ≡ false
    → home_in now p ≡ Some a → RoomFor stage now spot (map_of.get (map_of.remove now.shadows p)) p a
room_of_home stage now spot p a middle there waits home =
    room_home stage now spot p a (map_of.remove now.shadows p) middle there waits home (removed_here now.shadows p) (λ q ne. removed_other now.shadows p q ne)

pub can_go_home : (now : HeapParts) (p n a : ℕ) (c : CanRelocate now p n) → home_in now p ≡ Some a → CanMoveWords c.stage now p n a
can_go_home now p n a c home = can_move_words c.stage now c.spot [] p n a _ c.middle (room_of_home c.stage now c.spot p a c.middle c.waits.there c.waits.waits home) c.waits
