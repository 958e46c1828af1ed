-- Marking starts: the parts stand for the store that the start leaves.
use Rattle.std.proofs.Common.{◌≡◌, ℕ, Bool, IsTrue, List, map, refl, ap, ◌∙◌, subst}
use Rattle.object_model.proofs.Members.{is_in-nil, filter-part}
use Rattle.text_model.specs.declared.line.Phase.{Phase}
use Rattle.text_model.specs.declared.line.Phase.TheVariants.{Scanning, Marking}
use Rattle.store_model.specs.Store.{Store}
use Rattle.object_model.specs.Sets.{is_in}
use Rattle.store_model.specs.Roots.{roots_of}
use Rattle.store_model.specs.Reach.{Tells, IsReached, IsRetained}
use Rattle.store_model.specs.MarkingOrder.{settled_of}
use Rattle.heap_parts.specs.Parts.{HeapParts}
use Rattle.heap_parts.specs.Places.{old_places, AreAmong}
use Rattle.heap_parts.specs.OldSpace.{AreUnitsSwept}
use Rattle.heap_parts.specs.Headers.{is_marked}
use Rattle.heap_parts.specs.StandsFor.{PartsStandFor}
use Rattle.store_model.specs.MinorCollection.{AreAllPinned}
use Rattle.store_model.proofs.StartSound.{started_marking, start_sound}

abbrev pub marking_parts : HeapParts → List ℕ → HeapParts
marking_parts heap gray = record heap { phase = Marking; gray = gray }

-- Marking starts with the settled roots to be visited.
pub start_stands : (heap : HeapParts) (store : Store) (gray : List ℕ) (s : PartsStandFor heap store) → AreAllPinned store → heap.phase ≡ Scanning
    → (reached : ℕ → Bool) → Tells reached (IsReached store) → (retained : ℕ → Bool) → Tells retained (IsRetained store)
    → AreAmong (old_places s.places) gray → map s.name gray ≡ settled_of store.settled (roots_of store)
    → PartsStandFor (marking_parts heap gray) (started_marking store reached retained)
start_stands heap store gray s pinned scanning reached tells_reached retained tells_retained among named =
    let store_scanning : store.phase ≡ Scanning = s.counts.phase_is ∙ scanning in
    let root_of : (x : ℕ) → IsTrue (is_in x (map s.name gray)) → IsTrue (is_in x (roots_of store)) × IsTrue (is_in x store.settled) = λ x t.
    filter-part (λ y. is_in y store.settled) (roots_of store) x (subst (λ (xs : List ℕ). IsTrue (is_in x xs)) named t) in
    record {
      places = s.places;
      name = s.name;
      husks = s.husks;
      waiting = s.waiting;
      words = s.words;
      headers = s.headers;
      young_flags = s.young_flags;
      visited = record { each = λ p t. s.visited.each p t ∙ ap (λ (ph : Phase). is_marked ph store.visited s.name heap.setup.settings.page s.waiting p) scanning };
      remembered = s.remembered;
      births = s.births;
      slots = s.slots;
      pins = s.pins;
      finalizers = s.finalizers;
      links = s.links;
      homes = s.homes;
      gray = among;
      gray_phase = tt;
      sums = s.sums;
      husk_list = s.husk_list;
      counts = record {
        next_is = s.counts.next_is;
        threshold_is = s.counts.threshold_is;
        threshold_low = s.counts.threshold_low;
        threshold_high = s.counts.threshold_high;
        fresh_is = s.counts.fresh_is;
        phase_is = refl;
        gapped_is = s.counts.gapped_is;
      };
      ungapped = s.ungapped;
      units = subst (λ (ph : Phase). AreUnitsSwept ph heap.setup.settings.sweep store.left s.waiting) scanning s.units;
      made = s.made;
      order = record {
        young = s.order.young;
        owed = λ x i y v e. absurd (is_in-nil x v);
        held_settled = s.order.held_settled;
        gray_settled = λ x t. (root_of x t).1;
        visited_settled = λ x v. absurd (is_in-nil x v);
        gray_reached = λ x t. (start_sound heap.setup.settings store s.sound pinned store_scanning reached tells_reached retained tells_retained).roots_reached x (root_of x t).0;
        visited_reached = λ x v. absurd (is_in-nil x v);
      };
      sound = start_sound heap.setup.settings store s.sound pinned store_scanning reached tells_reached retained tells_retained;
    }
