-- What a collection does to the objects: some go, and of the others at most the target.
use Rattle.std.proofs.Common.{◌≡◌, ℕ, Bool, true, false, List, [], map, filter, Option, Some, None, refl, sym, ap, ◌∙◌, subst}
use Rattle.std.specs.Prelude.{cond, not, is_some, option_map, filter_map, nat_le}
use Rattle.type_table.specs.Table.{Table}
use Rattle.text_model.specs.declared.line.Line.{Line}
use Rattle.text_model.specs.declared.line.Line.TheVariants as line
use Rattle.text_model.specs.declared.line.Phase.{Phase}
use Rattle.text_model.specs.declared.line.Phase.TheVariants.{Scanning, Marking, Sweeping, Finalizing}
use Rattle.object_model.specs.declared.settings.Settings.{Settings}
use Rattle.object_model.specs.Object.{Object, object_at}
use Rattle.object_model.specs.Shapes.{kind_of}
use Rattle.store_model.specs.Store.{Store, Struct}
use Rattle.store_model.specs.Links.{entry_after}
use Rattle.store_model.specs.MinorCollection.{MinorCollection, clear_target, left_target, vanishes}
use Rattle.store_model.specs.Marking.{MarkingStep, GoesOn, with_visited, visited_words, after_marking, is_white, is_condemned}
use Rattle.store_model.specs.Collections.{StepFrom, MajorStep, When, Block, Cycle, Last, More, TwoCycles, CollectFrom, Collect as Collects, MakesRoom, always, is_step_due, needs_block, exceeds_limit}
use Rattle.store_model.proofs.After.{left_objects, object_left, found_stays}

-- An object that is left: it was there with its form and its references, and with the target that it has, if it has one.
pub record IsLeft (old : List Object) (x : ℕ) (o : Object) : Type 0 where
  pub was : Object
  pub there : object_at old x ≡ Some was
  pub form : kind_of o ≡ kind_of was
  pub refs : o.refs ≡ was.refs
  pub target : (t : ℕ) → o.target ≡ Some t → was.target ≡ Some t

pub record AreLeft (old new : List Object) : Type 0 where
  pub each : (x : ℕ) (o : Object) → object_at new x ≡ Some o → IsLeft old x o

pub all_left : (os : List Object) → AreLeft os os
all_left os = record { each = λ x o e. record { was = o; there = e; form = refl; refs = refl; target = λ t is. is } }

pub left_left : {a b c : List Object} → AreLeft a b → AreLeft b c → AreLeft a c
left_left first then = record {
  each = λ x o e.
      let later = then.each x o e in
      let was = first.each x later.was later.there in
      record {
        was = was.was;
        there = was.there;
        form = later.form ∙ was.form;
        refs = later.refs ∙ was.refs;
        target = λ t is. was.target t (later.target t is);
      };
}

module _ (white gone : ℕ → Bool) where
  target_was : (target : Option ℕ) (t : ℕ) → left_target white target ≡ Some t → target ≡ Some t
  target_was None t e = e
  target_was (Some u) t e = go (white u) e
    where
      go : (b : Bool) → cond b None (Some u) ≡ Some t → Some u ≡ Some t
      go true e = absurd (let no : ⊥ = cc in no)
      go false e = e

  cleared : (was : Object) (kept : List Object) (x : ℕ) → object_at kept x ≡ Some was → IsLeft kept x (clear_target white was)
  cleared was kept x there = record { was = was; there = there; form = refl; refs = refl; target = target_was was.target }

  found_left : (kept : List Object) (x : ℕ) (o : Object) (found : Option Object) → object_at kept x ≡ found → option_map (clear_target white) found ≡ Some o → IsLeft kept x o
  found_left kept x o None there e = absurd (let no : ⊥ = cc in no)
  found_left kept x o (Some was) there e = let same : clear_target white was ≡ o = cc in subst (IsLeft kept x) same (cleared was kept x there)

  pub objects_left : (kept : List Object) → AreLeft kept (left_objects white gone kept)
  objects_left kept = record {
    each = λ x o e.
        let stays = found_stays white gone x kept (ap (λ (f : Option Object). is_some f) e) in
        found_left kept x o (object_at kept x) refl (sym (object_left white gone x stays kept) ∙ e);
  }

-- A store without pins, finalizers and structures.
pub record IsPlain (store : Store) : Type 0 where
  pub pinned : store.pinned ≡ []
  pub registered : store.registered ≡ []
  pub chosen : store.chosen ≡ []
  pub queues : store.queues ≡ []
  pub structs : store.structs ≡ []

-- What each collection leaves as it was: the next birth, the slots, what is left of the objects, and that a store is plain.
pub record Thins (old new : Store) : Type 0 where
  pub next : new.next ≡ old.next
  pub slots : new.slots ≡ old.slots
  pub objects : AreLeft old.kept new.kept
  pub plain : IsPlain old → IsPlain new

pub thins_none : (old : Store) → Thins old old
thins_none old = record { next = refl; slots = refl; objects = all_left old.kept; plain = λ p. p }

pub thins_both : {old mid new : Store} → Thins old mid → Thins mid new → Thins old new
thins_both a b = record {
  next = b.next ∙ a.next;
  slots = b.slots ∙ a.slots;
  objects = left_left a.objects b.objects;
  plain = λ p. b.plain (a.plain p);
}

pub minor_thins : (old : Store) (lines : List Line) (new : Store) → MinorCollection old lines new → Thins old new
minor_thins old lines new c =
    let gone : ℕ → Bool = vanishes old c.survives in
    subst (Thins old) (sym c.leaves) (record {
      next = refl;
      slots = refl;
      objects = objects_left gone gone old.kept;
      plain = λ p. record {
        pinned = p.pinned;
        registered = p.registered;
        chosen = p.chosen;
        queues = p.queues;
        structs = ap (λ (structs : Table Struct). filter_map (entry_after gone) structs) p.structs;
      };
    })

end_thins : (settings : Settings) (old : Store) (saved chosen : ℕ → Bool) → Thins old (after_marking settings old saved chosen)
end_thins settings old saved chosen = record {
  next = refl;
  slots = refl;
  objects = objects_left (is_white old) (is_condemned old saved) old.kept;
  plain = λ p. record {
    pinned = p.pinned;
    registered = ap (λ (entries : List (ℕ × ℕ)). filter (λ entry. not (chosen entry.0)) entries) p.registered;
    chosen = rw (p.chosen, p.registered) refl;
    queues = p.queues;
    structs = ap (λ (structs : Table Struct). filter_map (entry_after (is_condemned old saved)) structs) p.structs;
  };
}

visits_thin : (old : Store) (births : List ℕ) → Thins old (with_visited old births)
visits_thin old births = record {
  next = refl;
  slots = refl;
  objects = all_left old.kept;
  plain = λ p. record { pinned = p.pinned; registered = p.registered; chosen = p.chosen; queues = p.queues; structs = p.structs };
}

marking_thins : (settings : Settings) (old : Store) (lines : List Line) (new : Store) → MarkingStep settings old lines new → Thins old new
marking_thins settings old lines new m = go (nat_le settings.increment (visited_words old.kept m.births)) m.goes_on
  where
    go : (b : Bool) → GoesOn b settings (with_visited old m.births) (map (λ x. line.Visited x) m.births) lines new → Thins old new
    go true g = subst (Thins old) (sym g.1) (visits_thin old m.births)
    go false (rest, e, is) = thins_both (visits_thin old m.births) (subst (Thins (with_visited old m.births)) (sym e.leaves) (end_thins settings (with_visited old m.births) e.saved e.chosen))

pub step_thins : (phase : Phase) (settings : Settings) (old : Store) (lines : List Line) (new : Store) → StepFrom phase settings old lines new → Thins old new
step_thins Scanning settings old lines new s = subst (Thins old) (sym s.leaves) (record {
  next = refl;
  slots = refl;
  objects = all_left old.kept;
  plain = λ p. record { pinned = p.pinned; registered = p.registered; chosen = p.chosen; queues = p.queues; structs = p.structs };
})
step_thins Marking settings old lines new s = marking_thins settings old lines new s
step_thins Sweeping settings old lines new s = subst (Thins old) (sym s.leaves) (record {
  next = refl;
  slots = refl;
  objects = all_left old.kept;
  plain = λ p. record { pinned = p.pinned; registered = p.registered; chosen = p.chosen; queues = p.queues; structs = p.structs };
})
step_thins Finalizing settings old lines new s = subst (Thins old) (sym s.1) (record {
  next = refl;
  slots = refl;
  objects = all_left old.kept;
  plain = λ p. record { pinned = p.pinned; registered = p.registered; chosen = refl; queues = rw (p.queues, p.chosen) refl; structs = p.structs };
})

when_thins : (b : Bool) (Event : Store → List Line → Store → Type 0) (old : Store) (lines : List Line) (new : Store) → (Event old lines new → Thins old new) → When b Event old lines new → Thins old new
when_thins true Event old lines new event e = event e
when_thins false Event old lines new event e = subst (Thins old) (sym e.1) (thins_none old)

block_thins : (is_due : Store → Bool) (settings : Settings) (old : Store) (lines : List Line) (new : Store) → Block is_due settings old lines new → Thins old new
block_thins is_due settings old lines new b =
    thins_both (minor_thins old b.minor b.mid b.collected) (when_thins (is_due b.mid) (MajorStep settings) b.mid b.major new (step_thins b.mid.phase settings b.mid b.major new) b.stepped)

cycle_thins : (settings : Settings) (old : Store) (lines : List Line) (new : Store) → Cycle settings old lines new → Thins old new
cycle_thins settings old lines new (Last block ends) = block_thins always settings old lines new block
cycle_thins settings old _ new (More {mid = mid} {lines = first} {rest = rest} block goes_on cycle) =
    thins_both (block_thins always settings old first mid block) (cycle_thins settings mid rest new cycle)

two_thin : (settings : Settings) (old : Store) (lines : List Line) (new : Store) → TwoCycles settings old lines new → Thins old new
two_thin settings old lines new c = thins_both (cycle_thins settings old c.first c.mid c.ends) (cycle_thins settings c.mid c.second new c.again)

pub collect_thins : (phase : Phase) (settings : Settings) (old : Store) (lines : List Line) (new : Store) → CollectFrom phase settings old lines new → Thins old new
collect_thins Scanning settings old lines new c = cycle_thins settings old lines new c
collect_thins Marking settings old lines new c = two_thin settings old lines new c
collect_thins Sweeping settings old lines new c = two_thin settings old lines new c
collect_thins Finalizing settings old lines new c = two_thin settings old lines new c

-- The collections before a birth.
pub room_thins : (settings : Settings) (old : Store) (words : ℕ) (lines : List Line) (new : Store) → (m : MakesRoom settings old words lines new) → Thins old m.mid × Thins m.mid new
room_thins settings old words lines new m = (
  when_thins (needs_block settings old words) (Block is_step_due settings) old m.first m.mid (block_thins is_step_due settings old m.first m.mid) m.block,
  when_thins (exceeds_limit settings m.mid words) (Collects settings) m.mid m.second new (collect_thins m.mid.phase settings m.mid m.second new) m.collect,
)
