-- What the parts of a heap show of its finalizers: by places, and by births.
use Rattle.std.proofs.Common.{◌≡◌, ℕ, List, [], ◌∷◌, ◌++◌, map, Option, Some, None, Result, Ok, Err, OnOk, refl, sym, ap, ap₂, ◌∙◌, inl, inr}
use Rattle.std.specs.Prelude.{flat_map, option_map}
use Rattle.std.proofs.lemmas.Bool.Decides.{eqb_tells}
use Rattle.std.proofs.lemmas.List.{map-append}
use Rattle.type_table.specs.Table.{Table, value_at}
use Rattle.object_model.specs.Sets.{is_in}
use Rattle.finalizer_order.specs.declared.entry.Entry.{Entry}
use Rattle.finalizer_order.specs.Finalizers as entries
use Rattle.finalizer_order.specs.Finalizers.{Finalizers, is_listed, births_of, placed, placed_queues, queued_entries}
use Rattle.finalizer_order.specs.Queues as entry_queues
use Rattle.store_model.specs.PlainCommands.{first_of, without_first}
use Rattle.parts_model.specs.NamedFinals.{NamedFinals, births_told, final_births}
use Rattle.parts_model.specs.Parts.{HeapParts, word_in}
use Rattle.parts_model.specs.Effects.{birth_read}
use Rattle.parts_model.specs.Told.{if_there}
use Rattle.parts_model.specs.Registers.{birth_in, is_final, with_registered, next_place, without_next}
use Rattle.parts_model.proofs.QueueTables.{told_queues, value-told, with-told, without-told}

births-beside : (entries : List Entry) → map (λ (e : ℕ × ℕ). e.0) (map (λ (e : Entry). (e.birth, e.queue)) entries) ≡ births_of entries
births-beside [] = refl
births-beside (e ∷ es) = ap (λ (births : List ℕ). e.birth ∷ births) (births-beside es)

queue-births : (queues : Table (List Entry)) → flat_map (λ (q : ℕ × List ℕ). q.1) (told_queues (λ (e : Entry). e.birth) queues) ≡ births_of (queued_entries queues)
queue-births [] = refl
queue-births (q ∷ qs) = ap (λ (births : List ℕ). births_of q.1 ++ births) (queue-births qs) ∙ sym (map-append (λ (e : Entry). e.birth) q.1 (queued_entries qs))

-- the births that are shown are those that are listed
pub births_listed : (finals : Finalizers) (birth : ℕ) → is_in birth (final_births (births_told finals)) ≡ is_listed finals birth
births_listed finals birth =
    ap (is_in birth) (ap₂ (λ (a b : List ℕ). a ++ b) (births-beside finals.registered)
    (ap₂ (λ (a b : List ℕ). a ++ b) (births-beside finals.chosen) (queue-births finals.queues)))

-- the parts with other finalizers
abbrev pub with_finals : HeapParts → Finalizers → HeapParts
with_finals heap finals = record heap {
  registered = placed finals.registered;
  chosen = placed finals.chosen;
  queues = placed_queues finals.queues;
  finals = births_told finals;
}

-- one more is registered
pub registered_shown : (heap : HeapParts) (finals : Finalizers) (entry : Entry) → entry.birth ≡ birth_in heap entry.place
    → with_finals heap (entries.with_registered finals entry) ≡ with_registered (with_finals heap finals) entry.place entry.queue
registered_shown heap finals entry is =
    (λ i. record (with_finals heap finals) {
      registered = map-append (λ (e : Entry). (e.place, e.queue)) finals.registered (entry ∷ []) i;
      finals = record (births_told finals) { registered = map-append (λ (e : Entry). (e.birth, e.queue)) finals.registered (entry ∷ []) i };
    })
    ∙ (λ i. record (with_finals heap finals) {
      registered = placed finals.registered ++ (entry.place, entry.queue) ∷ [];
      finals = record (births_told finals) { registered = map (λ (e : Entry). (e.birth, e.queue)) finals.registered ++ (is i, entry.queue) ∷ [] };
    })

first-told : (tell : Entry → ℕ) (found : Option (List Entry)) → option_map tell (entry_queues.first_of found) ≡ first_of (option_map (map tell) found)
first-told tell None = refl
first-told tell (Some []) = refl
first-told tell (Some (e ∷ es)) = refl

less-told : (tell : Entry → ℕ) (queues : Table (List Entry)) (queue : ℕ) (found : Option (List Entry))
    → told_queues tell (entry_queues.without_first queues queue found) ≡ without_first (told_queues tell queues) queue (option_map (map tell) found)
less-told tell queues queue None = refl
less-told tell queues queue (Some []) = refl
less-told tell queues queue (Some (e ∷ [])) = without-told tell queue queues
less-told tell queues queue (Some (e ∷ (f ∷ rest))) = with-told tell queue (f ∷ rest) queues

taken-told : (tell : Entry → ℕ) (queues : Table (List Entry)) (queue : ℕ)
    → told_queues tell (entry_queues.take_next queues queue) ≡ without_first (told_queues tell queues) queue (value_at (told_queues tell queues) queue)
taken-told tell queues queue =
    less-told tell queues queue (value_at queues queue)
    ∙ ap (λ (found : Option (List ℕ)). without_first (told_queues tell queues) queue found) (sym (value-told tell queues queue))

-- the first of a queue
pub first_shown : (heap : HeapParts) (finals : Finalizers) (queue : ℕ) → entry_queues.next_place finals.queues queue ≡ next_place (with_finals heap finals) queue
first_shown heap finals queue =
    first-told (λ (e : Entry). e.place) (value_at finals.queues queue) ∙ ap first_of (sym (value-told (λ (e : Entry). e.place) finals.queues queue))

-- and the queue without it
pub taken_shown : (heap : HeapParts) (finals : Finalizers) (queue : ℕ)
    → with_finals heap (record finals { queues = entry_queues.take_next finals.queues queue }) ≡ without_next (with_finals heap finals) queue
taken_shown heap finals queue = λ i. record (with_finals heap finals) {
  queues = taken-told (λ (e : Entry). e.place) finals.queues queue i;
  finals = record (births_told finals) { queues = taken-told (λ (e : Entry). e.birth) finals.queues queue i };
}

-- One more is registered, where memory is left for it.
pub registered_ok : {E : Type 0} (before now : HeapParts) (finals new : Finalizers) (entry : Entry) (result : Result (Unit {0}) E) → with_finals before finals ≡ now → entry.birth ≡ birth_in before entry.place
    → OnOk result (new ≡ entries.with_registered finals entry) → OnOk result (with_finals before new ≡ with_registered now entry.place entry.queue)
registered_ok before now finals new entry (Ok done) view is e =
    ap (λ (f : Finalizers). with_finals before f) e
    ∙ (registered_shown before finals entry is ∙ ap (λ (h : HeapParts). with_registered h entry.place entry.queue) view)
registered_ok before now finals new entry (Err error) view is e = e

-- What is told of the object at a place: whether its birth is listed.
pub registered_told : (now : HeapParts) (finals : Finalizers) (place birth : ℕ) → now.finals ≡ births_told finals → birth_read (word_in now) place ≡ Some birth
    → is_listed finals birth ≡ if_there place (is_final now place)
registered_told now finals place birth shown read = elim (eqb_tells place 0) [
  | inl e ↦ absurd (let none : birth_read (word_in now) place ≡ None = rw e.0 refl in let no : ⊥ = cc in no)
  | inr e ↦
      let there : birth_read (word_in now) place ≡ Some (birth_in now place) = rw e.0 refl in
      let same : birth ≡ birth_in now place = cc in
      rw e.0 (sym (births_listed finals birth) ∙ ap₂ (λ (b : ℕ) (f : NamedFinals). is_in b (final_births f)) same (sym shown))
]
