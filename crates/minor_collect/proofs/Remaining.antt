-- Where only what stays has a reserved home, the blocks are those of what stays. And right after a collection.
use Rattle.std.proofs.Common.{◌≡◌, ℕ, ◌+◌, Bool, false, IsTrue, List, [], ◌∷◌, ◌++◌, map, Option, None, refl, sym, ap, ap₂, ◌∙◌, subst, inl, inr}
use Rattle.std.specs.Prelude.{option_map}
use Rattle.std.specs.List.{cons_option}
use Rattle.std.proofs.lemmas.Bool.{cases_Bool}
use Rattle.type_table.specs.declared.info.TypeInfo.{TypeInfo}
use Rattle.type_table.specs.Table.{Table}
use Rattle.heap_space.specs.Places.{word_at}
use Rattle.heap_space.specs.Extents.{Extent}
use Rattle.nursery_gaps.specs.Nursery.{Layout as NurseryLayout}
use Rattle.object_model.proofs.Members.{map-same, is_in-head, is_in-tail}
use Rattle.object_model.specs.Sets.{is_in}
use Rattle.store_model.specs.Store.{Store}
use Rattle.object_model.specs.ObjectWords.{words_at}
use Rattle.store_model.specs.MarkingOrder.{YoungHeld, VisitsQueued}
use Rattle.store_model.specs.MinorCollection.{after_minor, minor_lines, MinorCollection}
use Rattle.text_model.specs.declared.line.Line.{Line}
use Rattle.remember_cards.specs.Remembered.{is_held_of}
use Rattle.heap_parts.specs.Parts.{HeapParts}
use Rattle.heap_parts.specs.Places.{is_young, young_places, old_places, block_at}
use Rattle.heap_parts.specs.OldSpace.{reserved_block, reserved_blocks, blocks_of}
use Rattle.heap_parts.specs.StandsFor.{PartsStandButYoung}
use Rattle.heap_parts.specs.Collects.{IsCollected, gray_births}
use Rattle.frame_laws.proofs.PlaceLaws.{old-is_in}
use Rattle.minor_collect.specs.Carried.{Moved}
use Rattle.minor_collect.specs.Midway.{Midway, Changing, Owes, Placing, OwesNone}
use Rattle.minor_collect.specs.Ending.{Completes, ended_parts, remaining}
use Rattle.minor_collect.proofs.EndOrder.{minor_queued}
use Rattle.minor_collect.proofs.EndStands.{minor_stands, after-order, objects, old-stay, tells}
use Rattle.store_model.proofs.MinorSound.{all_pinned}

-- homes of those alone that stay
reserved-remaining : (types : Table TypeInfo) (w : ℕ → ℕ) (home : ℕ → Option ℕ) (name : ℕ → ℕ) (passes : ℕ → Bool) (ps : List ℕ)
    → ((p : ℕ) → IsTrue (is_in p ps) → passes (name p) ≡ false → home p ≡ None)
    → reserved_blocks types w home (young_places ps) ≡ reserved_blocks types w home (young_places (remaining passes name ps))
reserved-remaining types w home name passes [] none = refl
reserved-remaining types w home name passes (p ∷ ps) none =
    let more = reserved-remaining types w home name passes ps (λ q t. none q (is_in-tail q p ps t)) in
    elim (cases_Bool (passes (name p))) [
      | inl t ↦ elim (cases_Bool (is_young p)) [
        | inl y ↦ rw (t, y) (ap (λ (xs : List Extent). cons_option (reserved_block types w home p) xs) more)
        | inr o ↦ rw (t, o) more
      ]
      | inr f ↦ elim (cases_Bool (is_young p)) [
        | inl y ↦ rw (f, y) (ap (λ (o : Option ℕ). cons_option (option_map (λ (k : ℕ). (k, words_at types w p)) o) (reserved_blocks types w home (young_places ps))) (none p (is_in-head p ps) f) ∙ more)
        | inr o ↦ rw (f, o) more
      ]
    ]

pub blocks_remaining : (types : Table TypeInfo) (w : ℕ → ℕ) (home : ℕ → Option ℕ) (name : ℕ → ℕ) (passes : ℕ → Bool) (ps husks : List ℕ)
    → ((p : ℕ) → IsTrue (is_in p ps) → passes (name p) ≡ false → home p ≡ None)
    → old_places (remaining passes name ps) ≡ old_places ps
    → blocks_of types w home (young_places ps) (old_places ps) husks []
    ≡ blocks_of types w home (young_places (remaining passes name ps)) (old_places (remaining passes name ps)) husks []
blocks_remaining types w home name passes ps husks none old =
    ap₂ (λ (settled : List ℕ) (homes : List Extent). map (block_at types w) settled ++ (map (block_at types w) husks ++ (homes ++ []))) (sym old)
    (reserved-remaining types w home name passes ps none)

-- The end as heap_phases and heap_core are told of it.
pub minor_collected : {start : HeapParts} {store : Store} {now new : Changing} {held : List ℕ} {owes : Owes} {moved : Moved} {nursery : NurseryLayout} {unsettled old_words : ℕ}
    (s : PartsStandButYoung start store) → YoungHeld store.kept store.settled (is_held_of start.remembered s.name)
    → {placing : Placing} (mid : Midway start store (is_held_of start.remembered s.name) now placing [] held [] owes moved []) → OwesNone owes
    → Completes start store (is_held_of start.remembered s.name) now held owes moved placing mid (map s.name start.gray) new nursery unsettled old_words
    → IsCollected (ended_parts start new nursery unsettled old_words) (after_minor store (λ x. is_in x placing.found))
minor_collected {start = start} {store = store} {new = new} {nursery = nursery} {unsettled = unsettled} {old_words = old_words} s young {placing = placing} mid none c = record {
  stands = minor_stands s young mid none c;
  pinned = all_pinned store (λ x. is_in x placing.found);
  fresh = refl;
  queued = λ marking.
      let named : map placing.name new.gray ≡ gray_births (ended_parts start new nursery unsettled old_words) =
      map-same placing.name (λ (p : ℕ). word_at new.memory.blocks (p + 1)) new.gray
      (λ p t. (objects s young mid none c).named p (old-is_in _ p (subst (λ (ps : List ℕ). IsTrue (is_in p ps)) (sym (old-stay s young mid none c)) (c.gray p t))).0) in
      subst (λ (g : List ℕ). VisitsQueued (after_minor store (λ x. is_in x placing.found)).kept (after_minor store (λ x. is_in x placing.found)).settled store.visited g) named
      (minor_queued (after-order s young mid none c) s.order);
}

-- A minor collection of the store, with the lines that its definition has.
pub minor_done : {start : HeapParts} {store : Store} {now new : Changing} {held : List ℕ} {owes : Owes} {moved : Moved} {nursery : NurseryLayout} {unsettled old_words : ℕ}
    (s : PartsStandButYoung start store) → YoungHeld store.kept store.settled (is_held_of start.remembered s.name)
    → {placing : Placing} (mid : Midway start store (is_held_of start.remembered s.name) now placing [] held [] owes moved []) → OwesNone owes
    → Completes start store (is_held_of start.remembered s.name) now held owes moved placing mid (map s.name start.gray) new nursery unsettled old_words
    → (lines : List Line) → lines ≡ minor_lines store (λ x. is_in x placing.found)
    → (later : Store) × MinorCollection store lines later × IsCollected (ended_parts start new nursery unsettled old_words) later
minor_done {store = store} s young {placing = placing} mid none c lines printed = (
  after_minor store (λ x. is_in x placing.found),
  record { survives = λ x. is_in x placing.found; tells = tells s young mid none c; printed = printed; leaves = refl },
  minor_collected s young mid none c,
)
