-- What the parts show of the finalizers once some were chosen, entered their queues, or are told.
use Rattle.std.proofs.Common.{◌≡◌, ℕ, Bool, List, [], ◌∷◌, ◌++◌, map, Option, Some, None, refl, sym, ap, ap₂, ◌∙◌, subst, inl, inr}
use Rattle.std.specs.Prelude.{not, filter, flat_map, ◌↔◌, IsTrue, unwrap_or, option_map}
use Rattle.std.proofs.lemmas.Bool.{cases_Bool}
use Rattle.std.proofs.lemmas.List.{map-append}
use Rattle.std.proofs.lemmas.Simd.{map-map}
use Rattle.type_table.specs.Table.{Table, value_at, with_value}
use Rattle.heap_space.specs.Memory.{Memory}
use Rattle.finalizer_order.specs.declared.entry.Entry.{Entry}
use Rattle.finalizer_order.specs.Finalizers.{Finalizers, placed, placed_queues, places_of, queued_entries}
use Rattle.finalizer_order.specs.Choosing.{Chooses, Keeps, IsChosen}
use Rattle.finalizer_order.specs.Queues as entry_queues
use Rattle.text_model.specs.declared.line.Line.{Line}
use Rattle.text_model.specs.declared.line.Line.TheVariants.{Kept}
use Rattle.store_model.specs.Sweeping.{queues_with}
use Rattle.heap_parts.specs.NamedFinals.{births_told}
use Rattle.heap_parts.specs.Parts.{HeapParts, word_in}
use Rattle.heap_parts.proofs.QueueTables.{told_queues, value-told, with-told}
use Rattle.heap_phases.specs.Ending.{ChoosesFinals, named_entry}

filter-read : {X Y : Type 0} (f : X → Y) (test : Y → Bool) (xs : List X) → map f (filter (λ x. test (f x)) xs) ≡ filter test (map f xs)
filter-read f test [] = refl
filter-read f test (x ∷ xs) = elim (cases_Bool (test (f x))) [
  | inl e ↦ rw e (ap (λ (ys : List _). f x ∷ ys) (filter-read f test xs))
  | inr e ↦ rw e (filter-read f test xs)
]

abbrev placed_entry : Entry → ℕ × ℕ
placed_entry e = (e.place, e.queue)

-- the places of entries, as the parts show them
pub places_shown : (es : List Entry) → places_of es ≡ map (λ e. e.0) (placed es)
places_shown es = sym (map-map (λ (x : ℕ × ℕ). x.0) placed_entry es)

pub queues_shown : (qs : Table (List Entry)) → places_of (queued_entries qs) ≡ flat_map (λ q. q.1) (placed_queues qs)
queues_shown [] = refl
queues_shown (q ∷ qs) = map-append (λ (e : Entry). e.place) q.1 (queued_entries qs) ∙ ap (λ (ps : List ℕ). places_of q.1 ++ ps) (queues_shown qs)

-- entries that enter their queues, told in another way
value-or : (tell : Entry → ℕ) (queues : Table (List Entry)) (key : ℕ) (found : Option (List Entry)) → unwrap_or (option_map (map tell) found) [] ≡ map tell (unwrap_or found [])
value-or tell queues key None = refl
value-or tell queues key (Some es) = refl

pub pushed_told : (tell : Entry → ℕ) (es : List Entry) (queues : Table (List Entry)) → told_queues tell (entry_queues.queues_with queues es) ≡ queues_with (told_queues tell queues) (map (λ e. (tell e, e.queue)) es)
pushed_told tell [] queues = refl
pushed_told tell (e ∷ es) queues =
    pushed_told tell es (with_value queues e.queue (unwrap_or (value_at queues e.queue) [] ++ e ∷ []))
    ∙ ap (λ (qs : Table (List ℕ)). queues_with qs (map (λ x. (tell x, x.queue)) es))
    (with-told tell e.queue (unwrap_or (value_at queues e.queue) [] ++ e ∷ []) queues
    ∙ ap (with_value (told_queues tell queues) e.queue) (map-append tell (unwrap_or (value_at queues e.queue) []) (e ∷ [])
    ∙ ap (λ (xs : List ℕ). xs ++ tell e ∷ []) (sym (value-or tell queues e.queue (value_at queues e.queue)) ∙ ap (λ (o : Option (List ℕ)). unwrap_or o []) (sym (value-told tell queues e.queue)))))

-- the parts with these finalizers and this memory
abbrev pub with_chosen_finals : HeapParts → Finalizers → Memory → HeapParts
with_chosen_finals heap finals memory = record heap {
  memory = memory;
  registered = placed finals.registered;
  chosen = placed finals.chosen;
  queues = placed_queues finals.queues;
  finals = births_told finals;
}

pub chooses_shown : (heap : HeapParts) (old new : Finalizers) (memory : Memory) (births : List ℕ) (before after : List Line)
    → Chooses heap.setup.types heap.nursery.words (word_in heap) old new → Keeps heap.setup.types heap.nursery.words (places_of old.registered) heap.memory memory [] births
    → after ≡ before ++ map (λ b. Kept b) births
    → ChoosesFinals (with_chosen_finals heap old heap.memory) (with_chosen_finals heap new memory) before after
chooses_shown heap old new memory births before after c k told = record {
  taken = c.taken;
  tells = subst (λ (ps : List ℕ). (x : ℕ) → IsTrue (c.taken x) ↔ IsChosen heap.setup.types heap.nursery.words (word_in heap) ps x) (places_shown old.registered) c.tells;
  births = births;
  keeps = subst (λ (ps : List ℕ). Keeps heap.setup.types heap.nursery.words ps heap.memory memory [] births) (places_shown old.registered) k;
  lines = told;
  entries = old.registered;
  placed_are = refl;
  named_are = refl;
  finals = ap births_told c.leaves ∙ ap (λ (xs : List (ℕ × ℕ)). record (births_told old) { registered = map named_entry (filter (λ e. not (c.taken e.place)) old.registered); chosen = xs })
      (map-append named_entry old.chosen (filter (λ e. c.taken e.place) old.registered));
  rest = ap (λ (f : Finalizers). record (with_chosen_finals heap new memory) { registered = placed f.registered; chosen = placed f.chosen; queues = placed_queues f.queues }) c.leaves
      ∙ ap₂ (λ (rs cs : List (ℕ × ℕ)). record (with_chosen_finals heap new memory) { registered = rs; chosen = cs; queues = placed_queues old.queues })
      (filter-read placed_entry (λ e. not (c.taken e.0)) old.registered)
      (map-append placed_entry old.chosen (filter (λ e. c.taken e.place) old.registered) ∙ ap (λ (xs : List (ℕ × ℕ)). placed old.chosen ++ xs) (filter-read placed_entry (λ e. c.taken e.0) old.registered));
}
