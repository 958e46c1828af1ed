-- The last step of a cycle: chosen objects enter their queues, and the threshold is set.
use Rattle.std.proofs.Common.{◌≡◌, ℕ, ◌*◌, ◌^◌, ◌≤◌, ◌<◌, List, [], ◌∷◌, ◌++◌, map, refl, sym, ap, ap₂, ◌∙◌, subst, inl, inr, arith}
use Rattle.std.specs.Prelude.{◌/◌, ◌==◌, nat_lt, unwrap_or}
use Rattle.std.proofs.lemmas.Bool.{cases_Bool}
use Rattle.std.proofs.lemmas.List.{map-append}
use Rattle.std.proofs.lemmas.Bool.Decides.{eqb_tells}
use Rattle.type_table.specs.Table.{Table, value_at, with_value}
use Rattle.object_model.proofs.Members.{is_in-nil}
use Rattle.text_model.specs.declared.line.Phase.{Phase}
use Rattle.text_model.specs.declared.line.Phase.TheVariants.{Scanning, Finalizing}
use Rattle.store_model.specs.Store.{Store, old_words}
use Rattle.store_model.specs.Sweeping.{queues_with, next_threshold, after_finalizing}
use Rattle.heap_parts.specs.NamedFinals.{NamedFinals}
use Rattle.heap_parts.specs.Parts.{HeapParts}
use Rattle.heap_parts.specs.OldSpace.{AreUnitsSwept}
use Rattle.heap_parts.specs.Order.{IsGrayOf}
use Rattle.heap_parts.specs.Headers.{is_marked}
use Rattle.heap_parts.specs.Lists.{named_entries, named_queues}
use Rattle.heap_parts.specs.StandsFor.{PartsStandFor}
use Rattle.store_model.proofs.FinalSound.{queued_before, final_sound}

-- finalizers by their births, where what was chosen enters its queues
abbrev pub queued_finals : NamedFinals → NamedFinals
queued_finals finals = record finals { chosen = []; queues = queues_with finals.queues finals.chosen }

-- the parts afterwards
abbrev pub final_parts : HeapParts → HeapParts
final_parts heap = record heap {
  phase = Scanning;
  chosen = [];
  queues = queues_with heap.queues heap.chosen;
  finals = queued_finals heap.finals;
  threshold = next_threshold heap.setup.settings.minimum heap.old_words heap.threshold;
}

-- queues by places and by births

value-named : (name : ℕ → ℕ) (queues : Table (List ℕ)) (key : ℕ) → unwrap_or (value_at (named_queues name queues) key) [] ≡ map name (unwrap_or (value_at queues key) [])
value-named name [] key = refl
value-named name (q ∷ queues) key = elim (eqb_tells key q.0) [
  | inl e ↦ rw e.0 refl
  | inr e ↦ rw e.0 (value-named name queues key)
]

with-named : (name : ℕ → ℕ) (queues : Table (List ℕ)) (key : ℕ) (xs : List ℕ) → with_value (named_queues name queues) key (map name xs) ≡ named_queues name (with_value queues key xs)
with-named name [] key xs = refl
with-named name (q ∷ queues) key xs = elim (cases_Bool (key == q.0)) [
  | inl e ↦ rw e refl
  | inr e ↦ elim (cases_Bool (nat_lt key q.0)) [
    | inl l ↦ rw e (rw l refl)
    | inr l ↦ rw e (rw l (ap (λ (rest : Table (List ℕ)). (q.0, map name q.1) ∷ rest) (with-named name queues key xs)))
  ]
]

queues-named : (name : ℕ → ℕ) (entries : List (ℕ × ℕ)) (queues : Table (List ℕ)) → queues_with (named_queues name queues) (named_entries name entries) ≡ named_queues name (queues_with queues entries)
queues-named name [] queues = refl
queues-named name (e ∷ entries) queues =
    ap (λ (qs : Table (List ℕ)). queues_with qs (named_entries name entries))
    (ap (λ (xs : List ℕ). with_value (named_queues name queues) e.1 (xs ++ name e.0 ∷ [])) (value-named name queues e.1)
    ∙ (ap (with_value (named_queues name queues) e.1) (sym (map-append name (unwrap_or (value_at queues e.1) []) (e.0 ∷ [])))
    ∙ with-named name queues e.1 (unwrap_or (value_at queues e.1) [] ++ e.0 ∷ [])))
    ∙ queues-named name entries (with_value queues e.1 (unwrap_or (value_at queues e.1) [] ++ e.0 ∷ []))

-- what is queued afterwards was queued or chosen

threshold-high : (minimum words threshold : ℕ) → minimum ≤ 16777216 → words ≤ 16777216 → next_threshold minimum words threshold < 2 ^ 32
threshold-high minimum words threshold low few =
    let part : words * 182 / 100 ≤ words * 182 = below (words * 182) in
    omega (arith, part, low, few)
  where
    below : (n : ℕ) → n / 100 ≤ n
    below n = grind arith

pub final_stands : (heap : HeapParts) (store : Store) (s : PartsStandFor heap store) → heap.phase ≡ Finalizing
    → PartsStandFor (final_parts heap) (after_finalizing heap.setup.settings store)
final_stands heap store s finalizing =
    let store_final : store.phase ≡ Finalizing = s.counts.phase_is ∙ finalizing in
    let old : old_words store ≡ heap.old_words = sym s.sums.old_are in
    record {
      places = s.places;
      name = s.name;
      husks = s.husks;
      waiting = s.waiting;
      words = s.words;
      headers = s.headers;
      young_flags = s.young_flags;
      visited = record { each = λ p t. s.visited.each p t ∙ ap (λ (ph : Phase). is_marked ph store.visited s.name heap.setup.settings.page s.waiting p) finalizing };
      remembered = s.remembered;
      births = s.births;
      slots = s.slots;
      pins = s.pins;
      finalizers = record {
        registered_are = s.finalizers.registered_are;
        chosen_are = record { named = refl; there = λ p t. absurd (is_in-nil p t) };
        queues_are = record {
          named = ap₂ (λ (qs : Table (List ℕ)) (es : List (ℕ × ℕ)). queues_with qs es) s.finalizers.queues_are.named s.finalizers.chosen_are.named ∙ queues-named s.name heap.chosen heap.queues;
          there = λ p t. elim (queued_before heap.chosen heap.queues p t) [ inl a ↦ s.finalizers.chosen_are.there p a | inr a ↦ s.finalizers.queues_are.there p a ];
        };
        births_are = ap queued_finals s.finalizers.births_are;
      };
      links = s.links;
      homes = s.homes;
      gray = s.gray;
      gray_phase = subst (λ (ph : Phase). IsGrayOf ph heap.gray) finalizing s.gray_phase;
      sums = s.sums;
      husk_list = s.husk_list;
      counts = record {
        next_is = s.counts.next_is;
        threshold_is = ap₂ (λ (words threshold : ℕ). next_threshold heap.setup.settings.minimum words threshold) old s.counts.threshold_is;
        threshold_low = omega arith;
        threshold_high = threshold-high heap.setup.settings.minimum heap.old_words heap.threshold (s.made.ranges.2.2.2.2.1) (let high = s.made.ranges.2.2.1 in omega (arith, s.sums.within, high));
        fresh_is = s.counts.fresh_is;
        phase_is = refl;
        gapped_is = s.counts.gapped_is;
      };
      ungapped = s.ungapped;
      units = subst (λ (ph : Phase). AreUnitsSwept ph heap.setup.settings.sweep store.left s.waiting) finalizing s.units;
      made = s.made;
      order = s.order;
      sound = final_sound heap.setup.settings store s.sound store_final;
    }
