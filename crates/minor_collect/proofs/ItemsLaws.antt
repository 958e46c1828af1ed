-- References of an object are followed one behind another.
use Rattle.std.proofs.Common.{◌≡◌, ◌≢◌, ℕ, ◌+◌, ◌<◌, ◌≤◌, IsTrue, [], refl, sym, ap, ◌∙◌, subst, inl, inr, arith}
use Rattle.std.proofs.lemmas.Bool.Decides.{eqb_tells}
use Rattle.heap_space.specs.Places.{lies_in_one}
use Rattle.object_view.specs.Views.{HasObject, HasView, view_at, view_of}
use Rattle.object_view.specs.declared.fields.ObjView.{ObjView}
use Rattle.object_view.proofs.LayoutLaws.{keeps-same}
use Rattle.object_model.specs.Layout.{Layout}
use Rattle.object_model.specs.Sets.{is_in}
use Rattle.object_model.specs.ObjectWords.{layout_at, words_at}
use Rattle.heap_parts.specs.Parts.{HeapParts, word_in, pinned_places}
use Rattle.heap_parts.specs.Places.{old_places}
use Rattle.frame_laws.proofs.PlaceLaws.{old-is_in}
use Rattle.minor_collect.specs.declared.work.Moving.{Moving}
use Rattle.minor_collect.specs.Midway.{IsDone}
use Rattle.minor_collect.specs.Calls.{Stage, Spot, MayLead, Standing, FollowedItem, FollowedItems, CanFollowItem, CanFollowItems, item_word}
use Rattle.minor_collect.proofs.FollowLaws.{grows_none, adds_none}
use Rattle.minor_collect.proofs.GrowLaws.{grows_twice, adds_twice, done_stays}
use Rattle.minor_collect.proofs.ItemSteps.{old_stays, keeps-twice, view_moves, seen}

-- what is known of a middle from which items of p are followed
pub record FollowsFrom (stage : Stage) (now : HeapParts) (moving : Moving) (spot : Spot) (p from to : ℕ) : Type 0 where
  pub standing : Standing stage now moving spot
  pub there : IsTrue (is_in p (old_places spot.placing.places))
  pub may : (i : ℕ) → from ≤ i → i < to → MayLead stage (spot.placing.name p) i

-- so far, items below k were followed, and the view of the object is as it was
pub record FollowsTo (old now : HeapParts) (moving_old moving_now : Moving) (v : ObjView) (p from to k : ℕ) : Type 0 where
  pub view : HasView now.memory v p
  pub each : (stage : Stage) (spot : Spot) → FollowsFrom stage old moving_old spot p from to → FollowedItems stage old now moving_old moving_now spot p from k

pub items_object : (now : HeapParts) (moving : Moving) (p from to : ℕ) → CanFollowItems now moving p from to → HasObject now.memory now.setup.types p
items_object now moving p from to c =
    subst (λ (h : HeapParts). HasObject now.memory h.setup.types p) (sym c.standing.middle.rest) (c.standing.middle.mid.words.whole p (old-is_in c.spot.placing.places p c.there).0)

pub some_from : {now : HeapParts} {moving : Moving} {p from to : ℕ} (c : CanFollowItems now moving p from to) → FollowsFrom c.stage now moving c.spot p from to
some_from c = record { standing = c.standing; there = c.there; may = c.may }

-- nothing is followed yet
pub items_begin : (now : HeapParts) (moving : Moving) (v : ObjView) (p from to : ℕ) → HasView now.memory v p → FollowsTo now now moving moving v p from to from
items_begin now moving v p from to view = record {
  view = view;
  each = λ stage spot f. record {
    after = spot;
    standing = f.standing;
    grows = grows_none stage spot;
    adds = adds_none moving spot;
    owes_same = refl;
    keeps = keeps-same stage.start.setup.types (word_in now) (word_in now) p (record { same = λ a low high. refl });
    done = λ i low high. absurd (omega (arith, low, high));
    only = refl;
  };
}

module _ {stage : Stage} {old now : HeapParts} {moving more : Moving} {spot : Spot} {v : ObjView} {p from to k : ℕ} (f : FollowsFrom stage old moving spot p from to)
    (is : v ≡ view_at old.setup.types (word_in old) p) (s : FollowedItems stage old now moving more spot p from k) where
  pub there_now : IsTrue (is_in p (old_places s.after.placing.places))
  there_now = old_stays p s.grows f.there

  -- the same view
  pub view_now : v ≡ view_at now.setup.types (word_in now) p
  view_now =
      let first : v ≡ view_at stage.start.setup.types (word_in old) p = seen v p f.standing.middle is in
      let same : view_at stage.start.setup.types (word_in now) p ≡ view_at stage.start.setup.types (word_in old) p =
      λ j. view_of (s.keeps.type_stays j) (s.keeps.birth_stays j) (s.keeps.layout_stays j) in
      first ∙ (sym same ∙ ap (λ (h : HeapParts). view_at h.setup.types (word_in now) p) (sym s.standing.middle.rest))

  name-now : s.after.placing.name p ≡ spot.placing.name p
  name-now = s.grows.names p (f.standing.middle.mid.words.moving.stay p (old-is_in spot.placing.places p f.there).0)

  pub may_now : from ≤ k → k < to → MayLead stage (s.after.placing.name p) k
  may_now low high = subst (λ (b : ℕ). MayLead stage b k) (sym name-now) (f.may k low high)

  -- one item more
  pub items_step : {new : HeapParts} {last : Moving} → FollowedItem stage now new more last s.after p k → FollowedItems stage old new moving last spot p from (k + 1)
  items_step {new = new} {last = last} g = record {
    after = g.after;
    standing = g.standing;
    grows = grows_twice s.grows g.grows;
    adds = adds_twice s.adds g.adds;
    owes_same = g.owes_same ∙ s.owes_same;
    keeps = keeps-twice g.keeps s.keeps;
    done = λ i low high less. elim (eqb_tells i k) [
      | inl e ↦ subst (λ (j : ℕ). IsDone (pinned_places stage.start) g.after.placing.places g.after.held p (item_word stage new p j)) (sym e.1) g.done
      | inr ne ↦
          let less_now : i < (layout_at stage.start.setup.types (word_in now) p).ref_count = subst (λ (l : Layout). i < l.ref_count) (sym s.keeps.layout_stays) less in
          subst (IsDone (pinned_places stage.start) g.after.placing.places g.after.held p) (sym (g.others i less_now ne.1))
          (done_stays p (item_word stage now p i) g.grows (s.done i low (below i high ne.1) less))
    ];
    only = only-both;
  }
    where
      below : (i : ℕ) → i < k + 1 → i ≢ k → i < k
      below i l ne = search (arith, l, ne)

      only-both : new ≡ record old { memory = new.memory; shadows = new.shadows; old_blocks = new.old_blocks; links = new.links; remembered = new.remembered }
      only-both = g.only ∙ ap (λ (h : HeapParts). record h { memory = new.memory; shadows = new.shadows; old_blocks = new.old_blocks; links = new.links; remembered = new.remembered }) s.only

-- an item can be followed where those before it were
pub item_can : {old now : HeapParts} {moving more : Moving} {v : ObjView} {p from to k : ℕ} (c : CanFollowItems old moving p from to) → v ≡ view_at old.setup.types (word_in old) p
    → FollowsTo old now moving more v p from to k → from ≤ k → k < to → k < v.ref_count → CanFollowItem now more v p k
item_can c is s low high less =
    let one = s.each c.stage c.spot (some_from c) in
    record {
      stage = c.stage;
      spot = one.after;
      standing = one.standing;
      there = there_now (some_from c) is one;
      view = view_now (some_from c) is one;
      item = less;
      may = may_now (some_from c) is one low high;
    }

-- and then one more was
pub items_next : {old now new : HeapParts} {moving more last : Moving} {v : ObjView} {p from to k : ℕ} (c : CanFollowItems old moving p from to) → v ≡ view_at old.setup.types (word_in old) p
    → FollowsTo old now moving more v p from to k → from ≤ k → k < to → k < v.ref_count
    → ((stage : Stage) (spot : Spot) → Standing stage now more spot → IsTrue (is_in p (old_places spot.placing.places)) → v ≡ view_at now.setup.types (word_in now) p
    → k < v.ref_count → MayLead stage (spot.placing.name p) k → FollowedItem stage now new more last spot p k)
    → FollowsTo old new moving last v p from to (k + 1)
items_next {old = old} {now = now} {new = new} {moving = moving} {last = last} {v = v} {p = p} {from = from} {k = k} c is s low high less step =
    let next : (stage : Stage) (spot : Spot) → FollowsFrom stage old moving spot p from _ → FollowedItems stage old new moving last spot p from (k + 1) = λ stage spot f.
    let one = s.each stage spot f in
    items_step f is one (step stage one.after one.standing (there_now f is one) (view_now f is one) less (may_now f is one low high)) in
    let mine = next c.stage c.spot (some_from c) in
    record {
      view = view_moves old v p (record { whole = old-whole; fits = s.view.fits; begins = s.view.begins; ordered = s.view.ordered; ends = s.view.ends }) (seen v p c.standing.middle is) mine.keeps mine.standing.middle
          (old-is_in mine.after.placing.places p (old_stays p mine.grows c.there)).0;
      each = next;
    }
  where
    old-whole : IsTrue (lies_in_one old.memory.blocks p v.words)
    old-whole =
        let size : v.words ≡ words_at c.stage.start.setup.types (word_in old) p = ap (λ (x : ObjView). x.words) (seen v p c.standing.middle is) in
        subst (λ (n : ℕ). IsTrue (lies_in_one old.memory.blocks p n)) (sym size) (c.standing.middle.mid.words.whole p (old-is_in c.spot.placing.places p c.there).0).whole

-- All were, where no item is left.
pub items_end : {old now : HeapParts} {moving more : Moving} {v : ObjView} {p from to k : ℕ} → v ≡ view_at old.setup.types (word_in old) p → FollowsTo old now moving more v p from to k
    → ((i : ℕ) → i < to → i < v.ref_count → i < k) → (stage : Stage) (spot : Spot) → FollowsFrom stage old moving spot p from to → FollowedItems stage old now moving more spot p from to
items_end {old = old} {v = v} {p = p} is s all stage spot f =
    let one = s.each stage spot f in
    let count : v.ref_count ≡ (layout_at stage.start.setup.types (word_in old) p).ref_count = ap (λ (x : ObjView). x.ref_count) (seen v p f.standing.middle is) in
    record {
      after = one.after;
      standing = one.standing;
      grows = one.grows;
      adds = one.adds;
      owes_same = one.owes_same;
      keeps = one.keeps;
      done = λ i low high less. one.done i low (all i high (omega (arith, less, count))) less;
      only = one.only;
    }
