-- Where all that survives moved, nothing is left to look at.
use Rattle.std.proofs.Common.{ℕ, IsTrue, List, [], map, subst, inl, inr}
use Rattle.std.proofs.lemmas.Bool.{cases_Bool}
use Rattle.object_model.specs.Object.{Object}
use Rattle.object_model.specs.Sets.{is_in}
use Rattle.object_model.proofs.Members.{filter-part, is_in-nil}
use Rattle.heap_space.specs.Places.{word_at}
use Rattle.store_model.specs.MinorCollection.{is_unsettled, refers_unsettled}
use Rattle.heap_parts.specs.Parts.{HeapParts, pinned_places}
use Rattle.minor_collect.specs.declared.work.Moving.{Moving}
use Rattle.minor_collect.specs.Traces.{Traces}
use Rattle.minor_collect.specs.Midway.{Midway, Follows, FollowsLists, changing_of, is_lasting}
use Rattle.minor_collect.specs.Calls.{Stage, Middle, Survived, entries_of, is_entry_at, remembered_at, linked_places}

module _ {stage : Stage} {new : HeapParts} {moving : Moving} (s : Survived stage new moving) where
  left-found : (x : ℕ) → IsTrue (is_in x (entries_of stage)) → IsTrue (is_in x s.after.placing.found)
  left-found x t = s.entries x (filter-part (is_entry_at stage) (map (λ (o : Object). o.birth) stage.store.kept) x t).1

  middle : Middle stage new s.after []
  middle = s.standing.middle

  trace : Traces (is_entry_at stage) (refers_unsettled stage.store) (is_unsettled stage.store) s.after.placing.found (map s.after.placing.name s.after.todo) []
  trace = record {
    entered = λ x t. inl (s.entries x t);
    followed = λ x y t step. elim (s.standing.middle.mid.follows.trace.followed x y t step) [
      | inl gray ↦ inl gray
      | inr rest ↦ inr (inl (elim rest [ inl found ↦ found | inr left ↦ left-found y left ]))
    ];
    opened = s.standing.middle.mid.follows.trace.opened;
    led = s.standing.middle.mid.follows.trace.led;
    may = λ x t. absurd (is_in-nil x t);
  }

  follows : Follows stage.start.setup.types stage.store (remembered_at stage) (pinned_places stage.start) (word_at new.memory.blocks) s.after.placing.met s.after.placing.places s.after.placing.name
      s.after.placing.found s.after.todo s.after.held [] s.after.owes
  follows = record {
    trace = trace;
    todo_old = s.standing.middle.mid.follows.todo_old;
    lasts = s.standing.middle.mid.follows.lasts;
    waits = s.standing.middle.mid.follows.waits;
    gone = s.standing.middle.mid.follows.gone;
    looked = s.standing.middle.mid.follows.looked;
  }

  ends : Midway stage.start stage.store (remembered_at stage) (changing_of new) s.after.placing s.after.todo s.after.held [] s.after.owes s.after.moved []
  ends =
      let m = s.standing.middle.mid in record {
        words = m.words;
        blocks = m.blocks;
        headers = m.headers;
        young_flags = m.young_flags;
        visited = m.visited;
        marked = m.marked;
        homes = m.homes;
        rise = m.rise;
        follows = follows;
        slots = m.slots;
        pins = m.pins;
        registered_are = m.registered_are;
        chosen_are = m.chosen_are;
        queues_are = m.queues_are;
        links_are = m.links_are;
        links_rise = m.links_rise;
        gray = m.gray;
        moved_words = m.moved_words;
        units = m.units;
        carried = m.carried;
        made = m.made;
      }

  -- the middle from which the law on the end goes on
  pub survived_mid : Midway stage.start stage.store (remembered_at stage) (changing_of new) s.after.placing [] s.after.held [] s.after.owes s.after.moved []
  survived_mid = subst (λ (todo : List ℕ). Midway stage.start stage.store (remembered_at stage) (changing_of new) s.after.placing todo s.after.held [] s.after.owes s.after.moved []) s.todo ends

  pub survived_lists : FollowsLists (pinned_places stage.start) s.after.placing.places s.after.owes new.slots new.registered (linked_places new.links)
  survived_lists = record {
    slot = s.standing.lists.slot;
    entry = s.standing.lists.entry;
    link = λ p t. inr (s.standing.linked p t, cases_Bool (is_lasting (pinned_places stage.start) p));
  }
