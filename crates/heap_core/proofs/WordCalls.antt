-- What is written into the words of a heap by the space alone is a command of the heap.
use Rattle.std.proofs.Common.{◌≡◌, ℕ, ◌+◌, ◌%◌, ◌<◌, true, IsTrue, List, [], ◌∷◌, ◌++◌, map, Option, Some, None, option_map, refl, sym, ap, ap₂, ◌∙◌, subst, arith, mod-eq_of_lt}
use Rattle.std.specs.Prelude.{IsSome}
use Rattle.std.specs.List.{cons_option}
use Rattle.type_table.specs.declared.info.Shape.{Shape}
use Rattle.type_table.specs.declared.info.TypeInfo.{TypeInfo}
use Rattle.type_table.specs.Table.{Table, value_at}
use Rattle.heap_space.specs.Extents.{Extent, Each}
use Rattle.heap_space.specs.Places.{has, lies_in_one, with_word}
use Rattle.heap_space.specs.Memory.{Memory}
use Rattle.heap_space.proofs.Blocks.{lies-with_word}
use Rattle.heap_space.proofs.ExtentLaws.{Each-join}
use Rattle.size_pages.specs.Headers.{IsHeaded}
use Rattle.old_space.specs.Headers.{StandsWithHeaders}
use Rattle.object_model.specs.Layout.{layout_of}
use Rattle.object_model.specs.Sets.{is_in}
use Rattle.object_model.specs.ObjectWords.{layout_at, words_at, type_id_at, info_at, info_or_weak, updated}
use Rattle.object_model.proofs.Members.{is_in-head, is_in-tail}
use Rattle.object_view.specs.declared.fields.ObjView.{ObjView}
use Rattle.object_view.specs.Views.{HasObject, view_at}
use Rattle.object_view.proofs.LayoutLaws.{laid_out}
use Rattle.object_view.proofs.SpaceLaws.{word_at-written, lies-at}
use Rattle.object_view.proofs.WordLaws.{updated-here, updated-other}
use Rattle.text_model.specs.declared.command.Command.{Command}
use Rattle.text_model.specs.declared.command.Command.TheVariants.{Put}
use Rattle.heap_parts.specs.Parts.{HeapParts, word_in, place_in, home_in}
use Rattle.heap_parts.specs.Places.{young_places, old_places, block_at}
use Rattle.heap_parts.specs.OldSpace.{reserved_blocks, reserved_homes, blocks_of}
use Rattle.heap_parts.specs.Effects.{HasObjectIn, int_place, with_word_at}
use Rattle.heap_core.specs.Commands.{AreStanding, AreReady, PartsDo}
use Rattle.heap_core.specs.TestStores.{CanRetype}
use Rattle.heap_core.proofs.FieldCalls.{put_does}

-- what is seen in the fields of the parts, with the place of a slot and the view there
pub record Opened (now seen : HeapParts) (v : ObjView) (place root : ℕ) : Type 0 where
  pub is : seen ≡ now
  pub place_is : place ≡ place_in now root
  pub view_is : v ≡ view_at seen.setup.types (word_in seen) place

pub object_seen : (now seen : HeapParts) (place root : ℕ) → seen ≡ now → place ≡ place_in now root → HasObject now.memory now.setup.types (place_in now root)
    → HasObject seen.memory seen.setup.types place
object_seen now seen place root is at object =
    subst (λ (p : ℕ). HasObject seen.memory seen.setup.types p) (sym at) (subst (λ (h : HeapParts). HasObject h.memory h.setup.types (place_in now root)) (sym is) object)

ready_seen : (now seen : HeapParts) (command : Command) → seen ≡ now → AreReady now command → AreReady seen command
ready_seen now seen command is ready = subst (λ (h : HeapParts). AreReady h command) (sym is) ready

place_seen : (now seen : HeapParts) (place root : ℕ) → seen ≡ now → place ≡ place_in now root → place ≡ place_in seen root
place_seen now seen place root is at = at ∙ ap (λ (h : HeapParts). place_in h root) (sym is)

does_seen : (now seen new : HeapParts) (command : Command) → seen ≡ now → PartsDo seen new command [] → PartsDo now new command []
does_seen now seen new command is done = subst (λ (h : HeapParts). PartsDo h new command []) is done

pub int_written : (now seen : HeapParts) (memory : Memory) (v : ObjView) (place root i n : ℕ) → Opened now seen v place root → AreReady now (Put root i n)
    → memory ≡ record seen.memory { blocks = with_word seen.memory.blocks (v.int_start + i) n } → PartsDo now (record seen { memory = memory }) (Put root i n) []
int_written now seen memory v place root i n o ready written =
    let at : v.int_start + i ≡ int_place seen root i =
    ap (λ (u : ObjView). u.int_start + i) o.view_is ∙ ap (λ (p : ℕ). (layout_at seen.setup.types (word_in seen) p).int_start + i) (place_seen now seen place root o.is o.place_is) in
    does_seen now seen (record seen { memory = memory }) (Put root i n) o.is
    (subst (λ (m : Memory). PartsDo seen (record seen { memory = m }) (Put root i n) [])
    (sym (written ∙ ap (λ (a : ℕ). record seen.memory { blocks = with_word seen.memory.blocks a n }) at))
    (put_does seen root i n (ready_seen now seen (Put root i n) o.is ready)))

-- The first word of an object becomes that of another type, of the same shape.
pub retyped : (heap : HeapParts) (root id : ℕ) → id < 65536 → CanRetype heap root id → HasObjectIn (with_word_at heap (place_in heap root) id) root
unfolding layout_at
retyped heap root id small can =
    let types = heap.setup.types in let p : ℕ = place_in heap root in
    let w : ℕ → ℕ = word_in heap in let v : ℕ → ℕ = word_in (with_word_at heap p id) in
    let size = (laid_out types w p).header in
    let has_word : has heap.memory.blocks p ≡ true =
    lies-at heap.memory.blocks p (words_at types w p) p can.object.object.whole (omega arith) (omega (arith, size)) in
    let words : v ≡ updated w p id = word_at-written heap.memory.blocks p id has_word in
    let here : v p ≡ id = ap (λ (f : ℕ → ℕ). f p) words ∙ updated-here w p id p refl in
    let third : v (p + 2) ≡ w (p + 2) = ap (λ (f : ℕ → ℕ). f (p + 2)) words ∙ updated-other w p id (p + 2) (λ e. omega (arith, e)) in
    let typed : type_id_at v p ≡ id = ap (λ (x : ℕ). x % 65536) here ∙ mod-eq_of_lt small in
    let shape : (info_at types v p).shape ≡ (info_at types w p).shape =
    ap (λ (t : ℕ). (info_or_weak (value_at types t)).shape) typed ∙ can.shape in
    let size_is : words_at types v p ≡ words_at types w p =
    ap₂ (λ (s : Shape) (x : ℕ). (layout_of s p x).words) shape third in record {
      slot = can.object.slot;
      object = record {
        typed = subst (λ (t : ℕ). IsSome (value_at types t)) (sym typed) can.known;
        whole =
            subst (λ (n : ℕ). IsTrue (lies_in_one (with_word heap.memory.blocks p id) p n)) (sym size_is)
            (subst IsTrue (sym (lies-with_word heap.memory.blocks p id p (words_at types w p))) can.object.object.whole);
      };
    }

each-of-places : (P : Extent → Type 0) (f : ℕ → Extent) (ps : List ℕ) → ((p : ℕ) → IsTrue (is_in p ps) → P (f p)) → Each P (map f ps)
each-of-places P f [] all = tt
each-of-places P f (p ∷ ps) all = (all p (is_in-head p ps), each-of-places P f ps (λ q t. all q (is_in-tail q p ps t)))

each-of-homes : (P : Extent → Type 0) (types : Table TypeInfo) (w : ℕ → ℕ) (home : ℕ → Option ℕ) (young : List ℕ)
    → ((a n : ℕ) → IsTrue (is_in a (reserved_homes home young)) → P (a, n)) → Each P (reserved_blocks types w home young ++ [])
each-of-homes P types w home [] all = tt
each-of-homes P types w home (p ∷ young) all = go (home p) (λ more. each-of-homes P types w home young more) all
  where
    go : (o : Option ℕ) → (((a n : ℕ) → IsTrue (is_in a (reserved_homes home young)) → P (a, n)) → Each P (reserved_blocks types w home young ++ []))
        → ((a n : ℕ) → IsTrue (is_in a (cons_option o (reserved_homes home young))) → P (a, n)) → Each P (cons_option (option_map (λ (at : ℕ). (at, words_at types w p)) o) (reserved_blocks types w home young) ++ [])
    go None more all = more all
    go (Some at) more all = (all at (words_at types w p) (is_in-head at (reserved_homes home young)), more (λ a n t. all a n (is_in-tail a at (reserved_homes home young) t)))

-- The blocks outside the nursery begin with headers.
pub blocks_headed : (heap : HeapParts) → AreStanding heap → StandsWithHeaders heap.old_blocks heap.memory
blocks_headed heap standing =
    let s = standing.stands in
    let P : Extent → Type 0 = IsHeaded heap.memory in let block : ℕ → Extent = block_at heap.setup.types (word_in heap) in record {
      live = blocks_of heap.setup.types (word_in heap) (home_in heap) (young_places s.places) (old_places s.places) s.husks [];
      waiting = s.waiting;
      has = record {
        blocks = s.words.blocks;
        headed = Each-join P (map block (old_places s.places)) _
            (each-of-places P block (old_places s.places) (λ p t. let k = (s.headers.settled.each p t).live in record { header = k.header; live = k.not_free }))
            (Each-join P (map block s.husks) _
            (each-of-places P block s.husks (λ p t. let k = (s.headers.husk.each p t).settled.live in record { header = k.header; live = k.not_free }))
            (each-of-homes P heap.setup.types (word_in heap) (home_in heap) (young_places s.places) (λ a n t. let k = (s.headers.shadow.each a t).live in record { header = k.header; live = k.not_free })));
      };
    }

-- and so they do in the fields of the parts
pub seen_headed : (now seen : HeapParts) → seen ≡ now → AreStanding now → StandsWithHeaders seen.old_blocks seen.memory
seen_headed now seen is standing = blocks_headed seen (subst AreStanding (sym is) standing)

-- the first word of the object in a slot, as seen in the fields of the parts
pub seen_first : (now seen : HeapParts) (place root : ℕ) → seen ≡ now → place ≡ place_in now root → HasObjectIn now root → IsTrue (has seen.memory.blocks place)
seen_first now seen place root is at object =
    let there = object_seen now seen place root is at object.object in
    let types = seen.setup.types in let w : ℕ → ℕ = word_in seen in
    let size = (laid_out types w place).header in
    lies-at seen.memory.blocks place (words_at types w place) place there.whole (omega arith) (omega (arith, size))
