-- A minor collection: which unsettled objects survive, the lines, and the store that it leaves.
use Rattle.std.specs.Prelude.{◌≡◌, ℕ, Bool, false, IsTrue, IsFalse, not, ◌&&◌, ◌||◌, List, ◌∷◌, ◌++◌, Option, Some, None, map, filter, length, if◌then◌else◌, nat_lt}
use Rattle.std.specs.List.{list_any}
use Rattle.type_table.specs.Table.{entries_where}
use Rattle.text_model.specs.declared.line.Line.{Line}
use Rattle.text_model.specs.declared.line.Line.TheVariants.{MinorDone, Cleared, Destroyed, LinkCut}
use Rattle.object_model.specs.Sets.{is_in}
use Rattle.object_model.specs.Object.{Object, referents}
use Rattle.store_model.specs.Store.{Store, is_settled}
use Rattle.store_model.specs.Structs.{Structs}
use Rattle.store_model.specs.Roots.{is_kept, pinned_births}
use Rattle.store_model.specs.Links.{link_ends, cut_links}
use Rattle.store_model.specs.Reach.{Tells, objects_where, births_where, is_root, is_registered, refers, LeadsTo}

-- whether it is kept and in the nursery
abbrev pub is_unsettled : Store → ℕ → Bool
is_unsettled store x = is_kept store.kept x && not (is_settled store.settled x)

-- whether a kept settled object refers to x, be it reached or not
abbrev pub has_settled_referrer : Store → ℕ → Bool
has_settled_referrer store x = list_any (λ object. is_settled store.settled object.birth && is_in x (referents object)) store.kept

-- whether an unsettled object survives by itself, where the test tells what is held by settled objects
abbrev pub is_entry : Store → (ℕ → Bool) → ℕ → Bool
is_entry store is_held x = is_unsettled store x && (is_root store x || (is_registered store x || is_held x))

-- whether x refers to y, which is in the nursery
abbrev pub refers_unsettled : Store → ℕ → ℕ → Bool
refers_unsettled store x y = refers store.kept x y && is_unsettled store y

-- a path of unsettled objects leads to it, from one that is a root, is registered, or is held
abbrev pub SurvivesBy : Store → (ℕ → Bool) → ℕ → Type 0
SurvivesBy store is_held = LeadsTo (is_entry store is_held) (refers_unsettled store)

-- and what a settled object refers to is held
abbrev pub Survives : Store → ℕ → Type 0
Survives store = SurvivesBy store (has_settled_referrer store)

-- whether the target passes the test
abbrev pub target_passes : (ℕ → Bool) → Option ℕ → Bool
target_passes test None = false
target_passes test (Some t) = test t

-- a target that becomes nothing where it passes the test
abbrev pub left_target : (ℕ → Bool) → Option ℕ → Option ℕ
left_target test None = None
left_target test (Some t) = if test t then None else Some t

-- an object without a target that passes the test
abbrev pub clear_target : (ℕ → Bool) → Object → Object
clear_target test object = record object { target = left_target test object.target }

-- the structures of a store and its dead queue
abbrev pub structs_of : Store → Structs
structs_of store = record { structs = store.structs; dead = store.dead }

-- the lines that follow where the test tells which objects are gone
abbrev pub loss_lines : Store → (ℕ → Bool) → List Line
loss_lines store gone =
    map (λ object. Destroyed object.birth) (filter (λ object. gone object.birth && object.info.destructor) store.kept)
    ++ map (λ cut. LinkCut cut) (link_ends gone store.structs)

-- the store without the links of what is gone
abbrev pub without_links : Store → (ℕ → Bool) → Store
without_links store gone = record store {
  structs = (cut_links gone (structs_of store)).structs;
  dead = (cut_links gone (structs_of store)).dead;
}

-- whether it is unsettled and does not survive
abbrev pub vanishes : Store → (ℕ → Bool) → ℕ → Bool
vanishes store survives x = is_unsettled store x && not (survives x)

-- whether it survives and is settled from then on
abbrev pub settles : Store → (ℕ → Bool) → ℕ → Bool
settles store survives x = not (is_settled store.settled x) && (survives x && not (is_in x (pinned_births store)))

-- the lines on targets, destructors and links where the test tells which objects vanish
abbrev pub vanish_lines : Store → (ℕ → Bool) → List Line
vanish_lines store gone =
    map (λ object. Cleared object.birth) (filter (λ object. not (gone object.birth) && target_passes gone object.target) store.kept)
    ++ loss_lines store gone

-- the store without what vanishes: objects, their homes and links, and targets
abbrev pub without_vanished : Store → (ℕ → Bool) → Store
without_vanished store gone = record (without_links store gone) {
  kept = map (clear_target gone) (objects_where store.kept (λ x. not (gone x)));
  homes = entries_where (λ x. not (gone x)) store.homes;
}

-- the lines, where the test tells which unsettled objects survive
abbrev pub minor_lines : Store → (ℕ → Bool) → List Line
minor_lines store survives =
    MinorDone (length (births_where store.kept (settles store survives))) (length (births_where store.kept (vanishes store survives)))
    ∷ vanish_lines store (vanishes store survives)

-- the store afterwards, where the test tells which unsettled objects survive
abbrev pub after_minor : Store → (ℕ → Bool) → Store
after_minor store survives = record (without_vanished store (vanishes store survives)) {
  settled = births_where store.kept (λ x. is_settled store.settled x || settles store survives x);
  fresh = 0;
  gapped = nat_lt 0 (length store.pinned);
}

-- each unsettled object is pinned, as right after a minor collection
abbrev pub AreAllPinned : Store → Type 0
AreAllPinned store = (x : ℕ) → IsTrue (is_kept store.kept x) → IsFalse (is_in x store.settled) → IsTrue (is_in x (pinned_births store))

-- the lines and the new store, by a test that tells which unsettled objects survive
pub record MinorCollection (old : Store) (lines : List Line) (new : Store) : Type 0 where
  pub survives : ℕ → Bool
  pub tells : Tells survives (Survives old)
  pub printed : lines ≡ minor_lines old survives
  pub leaves : new ≡ after_minor old survives
