-- Spans are drained, one behind another.
use Rattle.std.proofs.Common.{◌≡◌, ℕ, ◌+◌, ◌<◌, ◌≤◌, Bool, true, false, List, [], Some, slice_get, length, refl, sym, ap, ◌∙◌, subst, inl, inr, arith}
use Rattle.std.specs.Prelude.{◌==◌, ◌&&◌, not, nat_le, nat_lt, slice_index_or}
use Rattle.std.proofs.lemmas.Bool.{cases_Bool}
use Rattle.std.proofs.lemmas.Bool.Decides.{nat_tests, eqb_tells}
use Rattle.std.proofs.lemmas.Option.{slice_get-get_or}
use Rattle.type_table.specs.declared.info.TypeInfo.{TypeInfo}
use Rattle.type_table.specs.Table.{Table}
use Rattle.object_model.specs.Layout.{Layout}
use Rattle.object_model.specs.ObjectWords.{layout_at}
use Rattle.remember_cards.specs.declared.Span.{Span}
use Rattle.store_model.specs.Store.{Store}
use Rattle.heap_parts.specs.Parts.{HeapParts}
use Rattle.frame_laws.proofs.PlaceLaws.{old-is_in}
use Rattle.minor_collect.specs.declared.work.Moving.{Moving}
use Rattle.minor_collect.specs.Midway.{Follows, Owes, IsDone}
use Rattle.minor_collect.specs.Calls.{Stage, Spot, Standing, Grows, MayLead, FollowedItems, CanFollowItems}
use Rattle.minor_collect.specs.Spans.{MaySpan, CanDrainSpan, DrainedSpan, CanDrainSpans, DrainedSpans, without_span}
use Rattle.minor_collect.proofs.FollowLaws.{grows_none, adds_none}
use Rattle.minor_collect.proofs.GrowLaws.{grows_twice, adds_twice}
use Rattle.minor_collect.proofs.ItemSteps.{old_stays}
use Rattle.minor_collect.proofs.OpenStep.{midway_follows}

-- items that were followed are owed no more
follows-paid : {types : Table TypeInfo} {store : Store} {remembered : ℕ → ℕ → Bool} {pins : List ℕ} {w name : ℕ → ℕ} {met places found todo held left : List ℕ} {owes : Owes} (span : Span)
    → ((j : ℕ) → span.from ≤ j → j < span.to → j < (layout_at types w span.a).ref_count → IsDone pins places held span.a (w ((layout_at types w span.a).ref_start + j)))
    → Follows types store remembered pins w met places name found todo held left owes → Follows types store remembered pins w met places name found todo held left (without_span owes span)
follows-paid {types = types} {pins = pins} {w = w} {places = places} {todo = todo} {held = held} {owes = owes} span done f = record {
  trace = f.trace;
  todo_old = f.todo_old;
  lasts = f.lasts;
  waits = f.waits;
  gone = f.gone;
  looked = λ q j t l b. elim (f.looked q j t l b) [
    | inl u ↦ inl u
    | inr (inl o) ↦ elim (cases_Bool ((q == span.a) && (nat_le span.from j && nat_lt j span.to))) [
      | inl here ↦ inr (inr (inr (let P : ℕ → Type 0 = λ k. j < (layout_at types w k).ref_count → IsDone pins places held k (w ((layout_at types w k).ref_start + j)) in
          subst P (sym (at q j here)) (done j (low q j here) (high q j here)) b)))
      | inr out ↦ inr (inl (rw (o, out) refl))
    ]
    | inr (inr rest) ↦ inr (inr rest)
  ];
}
  where
    at : (q j : ℕ) → ((q == span.a) && (nat_le span.from j && nat_lt j span.to)) ≡ true → q ≡ span.a
    at q j e = grind (arith, nat_tests, e)

    low : (q j : ℕ) → ((q == span.a) && (nat_le span.from j && nat_lt j span.to)) ≡ true → span.from ≤ j
    low q j e = grind (arith, nat_tests, e)

    high : (q j : ℕ) → ((q == span.a) && (nat_le span.from j && nat_lt j span.to)) ≡ true → j < span.to
    high q j e = grind (arith, nat_tests, e)

-- one span was drained
pub span_drained : {stage : Stage} {old new : HeapParts} {moving more : Moving} {spot : Spot} (span : Span) → FollowedItems stage old new moving more spot span.a span.from span.to → DrainedSpan stage old new moving more spot span
span_drained {stage = stage} {old = old} span f =
    let m = f.standing.middle in record {
      after = record f.after { owes = without_span f.after.owes span };
      standing = record {
        middle = record {
          mid = midway_follows m.mid (follows-paid span (λ j low high less. f.done j low high (subst (λ (l : Layout). j < l.ref_count) f.keeps.layout_stays less)) m.mid.follows);
          rest = m.rest;
          sizes = m.sizes;
        };
        counted = f.standing.counted;
        lists = record { slot = f.standing.lists.slot; entry = f.standing.lists.entry; link = f.standing.lists.link };
        linked = f.standing.linked;
        held = f.standing.held;
      };
      grows = record { met = f.grows.met; names = f.grows.names; stay = f.grows.stay; found = f.grows.found; held = f.grows.held };
      adds = record { added = f.adds.added; in_code = f.adds.in_code; told = f.adds.told; grown = f.adds.grown };
      owes_are = ap (λ (o : Owes). without_span o span) f.owes_same;
      only = f.only;
    }

pub can_drain_items : (now : HeapParts) (moving : Moving) (span : Span) → CanDrainSpan now moving span → CanFollowItems now moving span.a span.from span.to
can_drain_items now moving span c = record { stage = c.stage; spot = c.spot; standing = c.standing; there = c.may.there; may = c.may.may }

-- what may be followed may be so later
may-later : {stage : Stage} {now : HeapParts} {moving : Moving} {before after : Spot} (span : Span) → Standing stage now moving before → Grows stage before after → MaySpan stage before span → MaySpan stage after span
may-later {stage = stage} {before = before} span s g m = record {
  there = old_stays span.a g m.there;
  may = λ i low high. subst (λ (b : ℕ). MayLead stage b i) (sym (g.names span.a (s.middle.mid.words.moving.stay span.a (old-is_in before.placing.places span.a m.there).0))) (m.may i low high);
}

-- So far the spans below k were drained.
pub record SpansTo (old now : HeapParts) (moving_old moving_now : Moving) (spans : List Span) (k : ℕ) : Type 0 where
  pub each : (stage : Stage) (spot : Spot) → Standing stage old moving_old spot → ((n : ℕ) (span : Span) → slice_get spans n ≡ Some span → MaySpan stage spot span) → DrainedSpans stage old now moving_old moving_now spot spans k

pub spans_begin : (now : HeapParts) (moving : Moving) (spans : List Span) → SpansTo now now moving moving spans 0
spans_begin now moving spans = record {
  each = λ stage spot s may. record {
    after = spot;
    standing = s;
    grows = grows_none stage spot;
    adds = adds_none moving spot;
    paid = λ k span e l. absurd (omega (arith, l));
    fewer = λ q i e. e;
    rest = refl;
    only = refl;
  };
}

pub span_get : (spans : List Span) (k : ℕ) (d : Span) → k < length spans → slice_get spans k ≡ Some (slice_index_or spans k d)
span_get spans k d l = slice_get-get_or spans k d l

pub span_can : {old now : HeapParts} {first moving : Moving} {spans : List Span} {k : ℕ} (span : Span) (c : CanDrainSpans old first spans) → SpansTo old now first moving spans k → slice_get spans k ≡ Some span → CanDrainSpan now moving span
span_can {k = k} span c s e = let d = s.each c.stage c.spot c.standing c.may in
    record { stage = c.stage; spot = d.after; standing = d.standing; may = may-later span c.standing d.grows (c.may k span e) }

and-false : (a b : Bool) → a ≡ false → (a && b) ≡ false
and-false true b e = absurd (let no : ⊥ = cc in no)
and-false false b e = refl

gone-here : (owes : Owes) (span : Span) (i : ℕ) → span.from ≤ i → i < span.to → (without_span owes span).items span.a i ≡ false
gone-here owes span i low high = go (owes.items span.a i) (let e : ((span.a == span.a) && (nat_le span.from i && nat_lt i span.to)) ≡ true = grind (arith, nat_tests, low, high) in e)
  where
    go : (b : Bool) → ((span.a == span.a) && (nat_le span.from i && nat_lt i span.to)) ≡ true → (b && not ((span.a == span.a) && (nat_le span.from i && nat_lt i span.to))) ≡ false
    go true e = ap not e
    go false e = refl

pub spans_next : {old now new : HeapParts} {first moving more : Moving} {spans : List Span} {k : ℕ} (span : Span) → SpansTo old now first moving spans k → slice_get spans k ≡ Some span
    → ((stage : Stage) (spot : Spot) → Standing stage now moving spot → MaySpan stage spot span → DrainedSpan stage now new moving more spot span) → SpansTo old new first more spans (k + 1)
spans_next {old = old} {new = new} {spans = spans} {k = k} span s get step = record {
  each = λ stage spot standing may.
      let d = s.each stage spot standing may in
      let f = step stage d.after d.standing (may-later span standing d.grows (may k span get)) in
      record {
        after = f.after;
        standing = f.standing;
        grows = grows_twice d.grows f.grows;
        adds = adds_twice d.adds f.adds;
        paid = λ n other e l i low high. ap (λ (o : Owes). o.items other.a i) f.owes_are ∙ elim (eqb_tells n k) [
          | inl is ↦
              let same : other ≡ span = (let two : Some other ≡ Some span = sym (ap (slice_get spans) (sym is.1) ∙ e) ∙ get in let inj : other ≡ span = cc in inj) in
              subst (λ (z : Span). z.from ≤ i → i < z.to → (without_span d.after.owes span).items z.a i ≡ false) (sym same) (gone-here d.after.owes span i) low high
          | inr ne ↦ and-false (d.after.owes.items other.a i) _ (d.paid n other e (search (arith, l, ne.1)) i low high)
        ];
        fewer = λ q i e. ap (λ (o : Owes). o.items q i) f.owes_are ∙ and-false (d.after.owes.items q i) _ (d.fewer q i e);
        rest = f.owes_are ∙ (ap (λ (o : Owes). without_span o span) d.rest ∙ ap (λ (g : ℕ → ℕ → Bool). record spot.owes { items = g }) (ap (λ (o : Owes). o.items) (sym f.owes_are)));
        only = f.only ∙ ap (λ (h : HeapParts). record h { memory = new.memory; shadows = new.shadows; old_blocks = new.old_blocks; links = new.links; remembered = new.remembered }) d.only;
      };
}

pub spans_end : {old now : HeapParts} {first moving : Moving} {spans : List Span} {k : ℕ} → SpansTo old now first moving spans k → length spans ≤ k → (stage : Stage) (spot : Spot) → Standing stage old first spot
    → ((n : ℕ) (span : Span) → slice_get spans n ≡ Some span → MaySpan stage spot span) → DrainedSpans stage old now first moving spot spans (length spans)
spans_end s l stage spot standing may = let d = s.each stage spot standing may in record {
  after = d.after;
  standing = d.standing;
  grows = d.grows;
  adds = d.adds;
  paid = λ n span e less i low high. d.paid n span e (omega (arith, l, less)) i low high;
  fewer = d.fewer;
  rest = d.rest;
  only = d.only;
}
