-- Parts that stand for a store begin a collection; and a heap that was just started can be collected.
use Rattle.std.proofs.Common.{◌≡◌, ℕ, false, IsTrue, List, [], ◌∷◌, map, refl, arith}
use Rattle.type_table.specs.declared.info.TypeInfo.{TypeInfo}
use Rattle.type_table.specs.Table.{Table}
use Rattle.old_space.specs.declared.Old.{Old}
use Rattle.std.proofs.lemmas.List.Sorted.{IsPermutation-refl}
use Rattle.object_model.proofs.Members.{is_in-nil}
use Rattle.text_model.specs.declared.line.Line.TheVariants.{MinorDone}
use Rattle.object_model.specs.declared.settings.Settings.{Settings}
use Rattle.object_model.specs.Sets.{is_in}
use Rattle.store_model.specs.Store.{Store, empty_store}
use Rattle.store_model.specs.MarkingOrder.{YoungHeld}
use Rattle.store_model.specs.MinorCollection.{MinorCollection}
use Rattle.remember_cards.specs.Remembered.{is_held_of}
use Rattle.heap_parts.specs.Parts.{HeapParts, started_parts}
use Rattle.heap_parts.specs.StandsFor.{PartsStandFor, PartsStandButYoung}
use Rattle.heap_parts.specs.Collects.{IsCollected}
use Rattle.minor_collect.specs.Midway.{Owes, OwesNone}
use Rattle.minor_collect.specs.Lines.{TellsLoss}
use Rattle.minor_collect.proofs.Begins.{Begins, midway_begins}
use Rattle.minor_collect.proofs.Finished.{minor_finished}
use Rattle.minor_collect.proofs.Quiet.{quiet_finishes}

-- what a collection begins from: parts where what refers to the young may be forgotten, and that none of it is
pub record StandsWhole (heap : HeapParts) (store : Store) : Type 0 where
  pub stands : PartsStandButYoung heap store
  pub young : YoungHeld store.kept store.settled (is_held_of heap.remembered stands.name)

pub stands_whole : {heap : HeapParts} {store : Store} → PartsStandFor heap store → StandsWhole heap store
stands_whole s = record {
  stands = record {
    places = s.places;
    name = s.name;
    husks = s.husks;
    waiting = s.waiting;
    words = s.words;
    headers = s.headers;
    young_flags = s.young_flags;
    visited = s.visited;
    remembered = s.remembered;
    births = s.births;
    slots = s.slots;
    pins = s.pins;
    finalizers = s.finalizers;
    links = s.links;
    homes = s.homes;
    gray = s.gray;
    gray_phase = s.gray_phase;
    sums = s.sums;
    husk_list = s.husk_list;
    counts = s.counts;
    ungapped = s.ungapped;
    units = s.units;
    made = s.made;
    sound = s.sound;
    order = record {
      owed = s.order.owed;
      held_settled = s.order.held_settled;
      gray_settled = s.order.gray_settled;
      visited_settled = s.order.visited_settled;
      gray_reached = s.order.gray_reached;
      visited_reached = s.order.visited_reached;
    };
  };
  young = s.order.young;
}

-- nothing is owed
abbrev pub owes_none : Owes
owes_none = record { items = λ q j. false; slots = λ k. false; registered = λ k. false; links = λ p. false }

pub none_owed : OwesNone owes_none
none_owed = record { items = λ q j. refl; slots = λ k. refl; registered = λ k. refl; links = λ p. refl }

module _ (settings : Settings) (types : Table TypeInfo) (old_blocks : Old) where
  started-begins : (s : PartsStandButYoung (started_parts settings types old_blocks) (empty_store settings)) → Begins (started_parts settings types old_blocks) (empty_store settings) s [] owes_none
  started-begins s = record {
    all = λ x t. absurd (let no : ⊥ = cc in no);
    only = λ x t. absurd (is_in-nil x t);
    items = λ q j t l h. absurd (let no : ⊥ = cc in no);
  }

  -- A heap that was just started can be collected: one line, and nothing else.
  pub started_collects : PartsStandFor (started_parts settings types old_blocks) (empty_store settings)
      → (new : HeapParts) × (later : Store) × MinorCollection (empty_store settings) (MinorDone 0 0 ∷ []) later × IsCollected new later
  started_collects whole =
      let s = stands_whole whole in
      let mid = midway_begins s.stands (started-begins s.stands) in
      let f = quiet_finishes mid (λ x. refl) refl refl in
      let told : TellsLoss types _ [] s.stands.places [] 1 [] [] [] = record {
        once = tt;
        just = λ p t. absurd (is_in-nil p t);
        all = λ p t e. absurd (let there = mid.words.objects.reads in no-place _ s.stands.places p there t);
        destroyed_rise = omega arith;
        destroyed_are = IsPermutation-refl [];
        cleared_rise = omega arith;
        cleared_are = IsPermutation-refl [];
      } in
      let end = minor_finished s.stands s.young mid none_owed f told in
      (_, end.0, end.1, end.2)
    where
      no-place : {X : Type 0} → (read : ℕ → X) (ps : List ℕ) (p : ℕ) → [] ≡ map read ps → IsTrue (is_in p ps) → ⊥
      no-place read [] p e t = is_in-nil p t
      no-place read (q ∷ ps) p e t = let no : ⊥ = cc in no
