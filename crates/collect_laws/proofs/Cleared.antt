-- After a collection a store that is not gapped has nothing in the nursery, and slots are as they were.
use Rattle.std.proofs.Common.{◌≡◌, ℕ, ◌⊎◌, Bool, true, false, IsTrue, List, [], ◌∷◌, map, length, refl, sym, ap, ap₂, ◌∙◌, subst, inl, inr, arith}
use Rattle.std.specs.Prelude.{not, ◌&&◌, ◌==◌, filter, nat_lt, nat_le}
use Rattle.std.proofs.lemmas.Bool.{cases_Bool, eq-eqb}
use Rattle.std.proofs.lemmas.Bool.Decides.{nat_tests}
use Rattle.text_model.specs.declared.line.Line.{Line}
use Rattle.text_model.specs.declared.line.Line.TheVariants as line
use Rattle.text_model.specs.declared.line.Phase.{Phase}
use Rattle.text_model.specs.declared.line.Phase.TheVariants.{Scanning, Marking, Sweeping, Finalizing}
use Rattle.object_model.specs.declared.settings.Settings.{Settings}
use Rattle.object_model.specs.Object.{Object, kept_words}
use Rattle.object_model.specs.Sets.{is_in}
use Rattle.object_model.proofs.Members.{is_in-nil}
use Rattle.store_model.specs.Store.{Store, is_settled, unsettled_words}
use Rattle.store_model.specs.Roots.{is_kept}
use Rattle.store_model.specs.MinorCollection.{MinorCollection, after_minor}
use Rattle.store_model.specs.Marking.{GoesOn, with_visited, visited_words, is_white, is_condemned}
use Rattle.store_model.specs.Collections.{StepFrom, MajorStep, When, Block, Cycle, Last, More, TwoCycles, CollectFrom, Collect as CollectsFrom, MakesRoom, always, is_step_due, needs_block, exceeds_limit}
use Rattle.store_model.proofs.After.{was_kept, in_births_where}
use Rattle.store_model.proofs.MinorSound.{all_pinned}

-- where no object was pinned when the last minor collection ended, none is in the nursery
abbrev pub IsCleared : Store → Type 0
IsCleared store = store.gapped ≡ false → (x : ℕ) → IsTrue (is_kept store.kept x) → IsTrue (is_in x store.settled)

-- the store is so, with the slots of another
pub record Clears (old new : Store) : Type 0 where
  pub slots : new.slots ≡ old.slots
  pub cleared : IsCleared new

no-pin : (pinned : List (ℕ × ℕ)) (x : ℕ) → nat_lt 0 (length pinned) ≡ false → IsTrue (is_in x (map (λ entry. entry.0) pinned)) → ⊥
no-pin [] x e t = is_in-nil x t
no-pin (entry ∷ pinned) x e t = let some : nat_lt 0 (length (entry ∷ pinned)) ≡ true = grind (arith, nat_tests) in let no : ⊥ = cc in no

minor_clears : (old : Store) (lines : List Line) (new : Store) → MinorCollection old lines new → Clears old new
minor_clears old lines new c = subst (Clears old) (sym c.leaves) (record {
  slots = refl;
  cleared = λ ungapped x k. elim (cases_Bool (is_in x (after_minor old c.survives).settled)) [
    | inl t ↦ t
    | inr f ↦ absurd (no-pin old.pinned x ungapped (all_pinned old c.survives x k f))
  ];
})

marking_clears : (b : Bool) (settings : Settings) (old store : Store) (visits lines : List Line) (new : Store) → Clears old store → GoesOn b settings store visits lines new → Clears old new
marking_clears true settings old store visits lines new c g = subst (Clears old) (sym g.1) c
marking_clears false settings old store visits lines new c (rest, e, is) = subst (Clears old) (sym e.leaves) (record {
  slots = c.slots;
  cleared = λ ungapped x k.
      let was = was_kept (is_white store) (is_condemned store e.saved) x store.kept k in
      let settled : is_settled store.settled x ≡ true = c.cleared ungapped x was.0 in
      in_births_where store.kept (λ y. is_settled store.settled y && not (is_condemned store e.saved y)) x (ap₂ (λ (a b : Bool). a && not b) settled was.1) was.0;
})

step_clears : (phase : Phase) (settings : Settings) (old mid : Store) (lines : List Line) (new : Store) → Clears old mid → StepFrom phase settings mid lines new → Clears old new
step_clears Scanning settings old mid lines new c s = subst (Clears old) (sym s.leaves) (record { slots = c.slots; cleared = c.cleared })
step_clears Marking settings old mid lines new c s =
    marking_clears (nat_le settings.increment (visited_words mid.kept s.births)) settings old (with_visited mid s.births) (map (λ x. line.Visited x) s.births) lines new
    (record { slots = c.slots; cleared = c.cleared }) s.goes_on
step_clears Sweeping settings old mid lines new c s = subst (Clears old) (sym s.leaves) (record { slots = c.slots; cleared = c.cleared })
step_clears Finalizing settings old mid lines new c s = subst (Clears old) (sym s.1) (record { slots = c.slots; cleared = c.cleared })

when_clears : (b : Bool) (settings : Settings) (old mid : Store) (lines : List Line) (new : Store) → Clears old mid → When b (MajorStep settings) mid lines new → Clears old new
when_clears true settings old mid lines new c s = step_clears mid.phase settings old mid lines new c s
when_clears false settings old mid lines new c s = subst (Clears old) (sym s.1) c

pub block_clears : (is_due : Store → Bool) (settings : Settings) (old : Store) (lines : List Line) (new : Store) → Block is_due settings old lines new → Clears old new
block_clears is_due settings old lines new b = when_clears (is_due b.mid) settings old b.mid b.major new (minor_clears old b.minor b.mid b.collected) b.stepped

both : {old mid new : Store} → Clears old mid → Clears mid new → Clears old new
both a b = record { slots = b.slots ∙ a.slots; cleared = b.cleared }

cycle_clears : (settings : Settings) (old : Store) (lines : List Line) (new : Store) → Cycle settings old lines new → Clears old new
cycle_clears settings old lines new (Last block ends) = block_clears always settings old lines new block
cycle_clears settings old _ new (More {mid = mid} {lines = first} {rest = rest} block goes_on cycle) =
    both (block_clears always settings old first mid block) (cycle_clears settings mid rest new cycle)

two_clear : (settings : Settings) (old : Store) (lines : List Line) (new : Store) → TwoCycles settings old lines new → Clears old new
two_clear settings old lines new c = both (cycle_clears settings old c.first c.mid c.ends) (cycle_clears settings c.mid c.second new c.again)

pub collect_clears : (phase : Phase) (settings : Settings) (old : Store) (lines : List Line) (new : Store) → CollectFrom phase settings old lines new → Clears old new
collect_clears Scanning settings old lines new c = cycle_clears settings old lines new c
collect_clears Marking settings old lines new c = two_clear settings old lines new c
collect_clears Sweeping settings old lines new c = two_clear settings old lines new c
collect_clears Finalizing settings old lines new c = two_clear settings old lines new c

-- What comes before a birth: nothing was needed and nothing changed, or the store is cleared.
pub record RoomCleared (settings : Settings) (old : Store) (words : ℕ) (new : Store) : Type 0 where
  pub slots : new.slots ≡ old.slots
  pub how : ((needs_block settings old words ≡ false) × (new ≡ old)) ⊎ IsCleared new

pub room_clears : (settings : Settings) (old : Store) (words : ℕ) (lines : List Line) (new : Store) → MakesRoom settings old words lines new → RoomCleared settings old words new
room_clears settings old words lines new m = second (exceeds_limit settings m.mid words) (first (needs_block settings old words) refl m.block) m.collect
  where
    first : (b : Bool) → needs_block settings old words ≡ b → When b (Block is_step_due settings) old m.first m.mid → RoomCleared settings old words m.mid
    first true e block = let c = block_clears is_step_due settings old m.first m.mid block in record { slots = c.slots; how = inr c.cleared }
    first false e none = record { slots = ap (λ (s : Store). s.slots) none.1; how = inl (e, none.1) }

    second : (b : Bool) → RoomCleared settings old words m.mid → When b (CollectsFrom settings) m.mid m.second new → RoomCleared settings old words new
    second true r collect = let c = collect_clears m.mid.phase settings m.mid m.second new collect in record { slots = c.slots ∙ r.slots; how = inr c.cleared }
    second false r none = subst (RoomCleared settings old words) (sym none.1) r

-- where all that is kept is settled, the nursery has no words
none-pass : (test : ℕ → Bool) (os : List Object) → ((x : ℕ) → IsTrue (is_kept os x) → test x ≡ false) → filter (λ o. test o.birth) os ≡ []
none-pass test [] none = refl
none-pass test (o ∷ os) none =
    let here : test o.birth ≡ false = none o.birth (rw (eq-eqb o.birth o.birth refl) refl) in
    rw here (none-pass test os (λ x k. none x (elim (cases_Bool (x == o.birth)) [ inl e ↦ rw e refl | inr e ↦ rw e k ])))

pub nothing_unsettled : (kept : List Object) (settled : List ℕ) → ((x : ℕ) → IsTrue (is_kept kept x) → IsTrue (is_in x settled)) → unsettled_words kept settled ≡ 0
nothing_unsettled kept settled all = ap kept_words (none-pass (λ x. not (is_settled settled x)) kept (λ x k. ap not (all x k)))
