-- Blocks from their two halves, and what comes before a birth from its two.
use Rattle.std.proofs.Common.{◌≡◌, ℕ, Bool, true, false, List, [], ◌++◌, append_assoc, append-nil, refl, sym, ap, ◌∙◌, subst}
use Rattle.text_model.specs.declared.line.Line.{Line}
use Rattle.object_model.specs.Setup.{Setup}
use Rattle.store_model.specs.Store.{Store}
use Rattle.store_model.specs.Collections.{Block, MajorStep, When, always, is_step_due}
use Rattle.parts_model.specs.Parts.{HeapParts}
use Rattle.parts_model.specs.StandsFor.{PartsStandFor}
use Rattle.parts_model.specs.Collects.{IsCollected, CollectsMinor, StepsMajor}
use Rattle.collect_laws.specs.Events.{EventOf, Undergoes, Underwent}
use Rattle.collect_laws.specs.Tests.{is_step_due_in, needs_block_in, exceeds_limit_in}
use Rattle.collect_laws.specs.Collections.{CollectsStep, CollectsBlock, CollectsAll, MakesNurseryRoom, MakesLimitRoom, MakesRoomFor}
use Rattle.collect_laws.proofs.TestLaws.{due_in, needs_in, exceeds_in}

-- some store for which the parts stand afterwards
pub record StandsAfter (new : HeapParts) : Type 0 where
  pub store : Store
  pub stands : PartsStandFor new store

pub stands_after : {Event : EventOf} {old new : HeapParts} {before after : List Line} → Undergoes Event old new before after → (store : Store) → PartsStandFor old store → StandsAfter new
stands_after u store s = let l = u.leads store s in record { store = l.0; stands = l.2 }

-- and right after a minor collection
pub record CollectedAfter (new : HeapParts) : Type 0 where
  pub store : Store
  pub collected : IsCollected new store

pub collected_after : {old new : HeapParts} {before after : List Line} → CollectsMinor old new before after → (store : Store) → PartsStandFor old store → CollectedAfter new
collected_after c store s = let l = c.collects store s in record { store = l.0; collected = l.2 }

-- an event that leads just as another does
pub as_event : {Event Other : EventOf} {old new : HeapParts} {before after : List Line}
    → ((store : Store) (lines : List Line) (later : Store) → PartsStandFor old store → PartsStandFor new later → Event old.setup store lines later → Other old.setup store lines later)
    → Undergoes Event old new before after → Undergoes Other old new before after
as_event other u = record {
  setup = u.setup;
  lines = u.lines;
  appended = u.appended;
  leads = λ store s. let l = u.leads store s in (l.0, other store u.lines l.0 s l.2 l.1, l.2);
}

-- one event after another
pub in_turn : {First Second Both : EventOf} {old mid new : HeapParts} {before between after : List Line}
    → ((store : Store) (first : List Line) (half : Store) (second : List Line) (later : Store) → PartsStandFor old store → PartsStandFor mid half → PartsStandFor new later
    → First old.setup store first half → Second old.setup half second later → Both old.setup store (first ++ second) later)
    → Undergoes First old mid before between → Undergoes Second mid new between after → Undergoes Both old new before after
in_turn {Second = Second} {before = before} both a b = record {
  setup = b.setup ∙ a.setup;
  lines = a.lines ++ b.lines;
  appended = b.appended ∙ (ap (λ (ls : List Line). ls ++ b.lines) a.appended ∙ append_assoc before a.lines b.lines);
  leads = λ store s.
      let l = a.leads store s in let m = b.leads l.0 l.2 in
      (m.0, both store a.lines l.0 b.lines m.0 s l.2 m.2 l.1 (subst (λ (setup : Setup). Second setup l.0 b.lines m.0) a.setup m.1), m.2);
}

-- nothing happens
pub not_at_all : {Event : EventOf} {old new : HeapParts} {before after : List Line} → new ≡ old → after ≡ before
    → ((store : Store) → PartsStandFor old store → Event old.setup store [] store) → Undergoes Event old new before after
not_at_all {Event = Event} {old = old} {before = before} {after = after} same quiet event =
    subst (λ (new : HeapParts). Undergoes Event old new before after) (sym same) (record {
      setup = refl;
      lines = [];
      appended = quiet ∙ sym (append-nil before);
      leads = λ store s. (store, event store s, s);
    })

-- lines that were gathered in an empty list are told behind others
pub told_into : {Event : EventOf} {old new : HeapParts} {before after out told : List Line} → Undergoes Event old new before after → before ≡ [] → told ≡ out ++ after
    → Undergoes Event old new out told
told_into {out = out} u none appended = record {
  setup = u.setup;
  lines = u.lines;
  appended = appended ∙ ap (λ (ls : List Line). out ++ ls) (u.appended ∙ ap (λ (ls : List Line). ls ++ u.lines) none);
  leads = u.leads;
}

-- what is forgotten of an event where its lines are not told, and of parts that keep what they then stand for
pub kept_after : {Event : EventOf} {old mid new : HeapParts} {before after : List Line} → Undergoes Event old mid before after → new.setup ≡ mid.setup
    → ((store : Store) → PartsStandFor mid store → PartsStandFor new store) → Underwent Event old new
kept_after u setup keeps = record {
  lines = u.lines;
  undergoes = record { setup = setup ∙ u.setup; lines = u.lines; appended = refl; leads = λ store s. let l = u.leads store s in (l.0, l.1, keeps l.0 l.2) };
}

pub untold : {Event : EventOf} {old new : HeapParts} {before after : List Line} → Undergoes Event old new before after → Underwent Event old new
untold u = kept_after u refl (λ store s. s)

-- an event that comes where a test says so
pub event_comes : {b : Bool} (Event : Store → List Line → Store → Type 0) (store : Store) (lines : List Line) (later : Store) → b ≡ true → Event store lines later → When b Event store lines later
event_comes Event store lines later e event = subst (λ (b : Bool). When b Event store lines later) (sym e) event

pub no_event : {b : Bool} (Event : Store → List Line → Store → Type 0) (store : Store) → b ≡ false → When b Event store [] store
no_event Event store e = subst (λ (b : Bool). When b Event store [] store) (sym e) (refl, refl)

-- a minor collection and a major step are a block, where it is due
block_of : (is_due : Store → Bool) {old mid new : HeapParts} {before between after : List Line} (c : CollectsMinor old mid before between)
    → ((store : Store) → PartsStandFor mid store → is_due store ≡ true) → StepsMajor mid new between after
    → Undergoes (λ setup store lines later. Block is_due setup.settings store lines later) old new before after
block_of is_due {before = before} c due t = record {
  setup = t.setup ∙ c.setup;
  lines = c.lines ++ t.lines;
  appended = t.appended ∙ (ap (λ (ls : List Line). ls ++ t.lines) c.appended ∙ append_assoc before c.lines t.lines);
  leads = λ store s.
      let m = c.collects store s in let l = t.steps m.0 m.2 in (
        l.0,
        record {
          mid = m.0;
          minor = c.lines;
          major = t.lines;
          collected = m.1;
          stepped = event_comes _ m.0 t.lines l.0 (due m.0 m.2.stands) (subst (λ (setup : Setup). MajorStep setup.settings m.0 t.lines l.0) c.setup l.1);
          printed = refl;
        },
        l.2,
      );
}

pub step_block : {old mid new : HeapParts} {before between after : List Line} → CollectsMinor old mid before between → StepsMajor mid new between after → CollectsStep old new before after
step_block c t = block_of always c (λ store s. refl) t

-- a block where a step is due
pub due_block : {old mid new : HeapParts} {before between after : List Line} → CollectsMinor old mid before between → is_step_due_in mid ≡ true → StepsMajor mid new between after
    → CollectsBlock old new before after
due_block c due t = block_of is_step_due c (λ store s. due_in s ∙ due) t

-- and one where none is
pub minor_block : {old new : HeapParts} {before after : List Line} → CollectsMinor old new before after → is_step_due_in new ≡ false → CollectsBlock old new before after
minor_block c due = record {
  setup = c.setup;
  lines = c.lines;
  appended = c.appended;
  leads = λ store s.
      let m = c.collects store s in (
        m.0,
        record { mid = m.0; minor = c.lines; major = []; collected = m.1; stepped = no_event _ m.0 (due_in m.2.stands ∙ due); printed = sym (append-nil c.lines) },
        m.2.stands,
      );
}

-- a block where a birth needs one, and none where it does not
pub block_comes : {old new : HeapParts} {before after : List Line} (words : ℕ) → needs_block_in old words ≡ true → CollectsBlock old new before after → MakesNurseryRoom words old new before after
block_comes words e u = as_event (λ store lines later s t block. event_comes _ store lines later (needs_in s words ∙ e) block) u

pub no_block : {old new : HeapParts} {before after : List Line} (words : ℕ) → needs_block_in old words ≡ false → new ≡ old → after ≡ before → MakesNurseryRoom words old new before after
no_block words e same quiet = not_at_all same quiet (λ store s. no_event _ store (needs_in s words ∙ e))

-- a whole collection where a birth needs one, and none where it does not
pub collect_comes : {old new : HeapParts} {before after : List Line} (words : ℕ) → exceeds_limit_in old words ≡ true → CollectsAll old new before after → MakesLimitRoom words old new before after
collect_comes words e u = as_event (λ store lines later s t collects. event_comes _ store lines later (exceeds_in s words ∙ e) collects) u

pub no_collect : {old new : HeapParts} {before after : List Line} (words : ℕ) → exceeds_limit_in old words ≡ false → new ≡ old → after ≡ before → MakesLimitRoom words old new before after
no_collect words e same quiet = not_at_all same quiet (λ store s. no_event _ store (exceeds_in s words ∙ e))

-- both in turn
pub room_made : {old mid new : HeapParts} {before between after : List Line} (words : ℕ) → MakesNurseryRoom words old mid before between → MakesLimitRoom words mid new between after
    → MakesRoomFor words old new before after
room_made words a b = in_turn (λ store first half second later s t u block collects.
    record { mid = half; first = first; second = second; block = block; collect = collects; printed = refl }) a b
