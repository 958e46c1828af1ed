-- What session and heap tell is what a look at the store sees.
use Rattle.std.proofs.Common.{◌≡◌, ℕ, zero, suc, Bool, List, [], Option, Some, None, replicate, refl, sym, ap, ◌∙◌, subst}
use Rattle.std.specs.Prelude.{is_none, false, option_map, option_and_then}
use Rattle.type_table.specs.declared.info.TypeInfo.{TypeInfo}
use Rattle.type_table.specs.Table.{Table}
use Rattle.text_model.specs.declared.item.Item.{Item}
use Rattle.object_model.specs.declared.settings.Settings.{Settings}
use Rattle.object_model.specs.declared.structure.StructState.TheVariants.{Absent}
use Rattle.object_model.specs.Setup.{Setup}
use Rattle.object_model.specs.Object.{object_at}
use Rattle.object_model.specs.Shapes.{kind_of}
use Rattle.store_model.specs.Store.{Store, empty_store}
use Rattle.store_model.specs.Slots.{held, kind_in}
use Rattle.store_model.specs.Look.{Look, look, is_held_in}
use Rattle.store_model.specs.Progress.{Progress}
use Rattle.store_model.specs.Refusal.{refusal, refusal_seen}
use Rattle.heap_core.specs.Heap.{HeapSeen, StandsFor}
use Rattle.heap_core.specs.Commands.{nothing_told, told_by}
use Rattle.heap_core.proofs.LookLaws.{look_told}
use Rattle.session_core.specs.Seen.{SessionSeen}
use Rattle.session_core.specs.Standing.{HasHeap, HasStore, StandsAt, seen_if, setup_of, refusal_of}

held-none : (roots root : ℕ) → held (replicate roots None) root ≡ None
held-none zero root = refl
held-none (suc roots) zero = refl
held-none (suc roots) (suc root) = held-none roots root

-- a look at the empty store sees nothing
pub look-empty : (settings : Settings) → look (empty_store settings) ≡ nothing_told
look-empty settings =
    let none : (root : ℕ) → held (replicate settings.roots None) root ≡ None = λ root. held-none settings.roots root in
    let kinds : (root : ℕ) → kind_in (replicate settings.roots None) [] root ≡ None =
    λ root. ap (λ (b : Option ℕ). option_map kind_of (option_and_then (object_at []) b)) (none root) in
    let pins : (root : ℕ) → is_held_in (held (replicate settings.roots None) root) [] ≡ false = λ root. ap (λ (b : Option ℕ). is_held_in b []) (none root) in
    let same : look (empty_store settings) ≡ nothing_told = λ i. record {
      kind = λ root. kinds root i;
      is_pinned = λ root. pins root i;
      was_registered = λ root. pins root i;
      has_p_link = λ root. false;
      structure = λ number. Absent;
    } in
    same

look-seen : (types : Option (Table TypeInfo)) (settings : Settings) (heap : HeapSeen) (store : Store) → HasHeap types settings heap
    → HasStore types settings heap store → look store ≡ seen_if types heap
look-seen (Some types) settings heap store has is = ap look is ∙ look-empty settings
look-seen None settings heap store has stands = look_told has.parts store (subst (λ (h : HeapSeen). StandsFor h store) has.is stands) ∙ ap told_by (sym has.is)

-- why an item is refused, by the store and by what session and heap tell
pub refusal_is : (session : SessionSeen) (heap : HeapSeen) (at : Progress) (item : Item) → StandsAt session heap at
    → refusal at item ≡ refusal_of session heap item
refusal_is session heap at item stands =
    ap (λ (setup : Setup). refusal_seen setup at.set_names at.late (look at.store) item) stands.setup
    ∙ (ap (λ (names : List ℕ). refusal_seen (setup_of session heap) names at.late (look at.store) item) stands.names
    ∙ (ap (λ (late : Bool). refusal_seen (setup_of session heap) session.names late (look at.store) item) stands.late
    ∙ ap (λ (seen : Look). refusal_seen (setup_of session heap) session.names (is_none session.types) seen item)
    (look-seen session.types session.settings heap at.store stands.has_heap stands.store)))
