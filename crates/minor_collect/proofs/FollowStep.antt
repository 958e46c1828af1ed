-- A reference of an object outside the nursery follows its object: the word is written, and is owed no more.
use Rattle.std.proofs.Common.{◌≡◌, ◌≢◌, ℕ, ◌+◌, ◌<◌, ◌≤◌, ◌⊎◌, Bool, true, false, IsTrue, List, refl, sym, ap, ap₂, ◌∙◌, subst, inl, inr, arith}
use Rattle.std.specs.Prelude.{not, ◌&&◌, ◌==◌}
use Rattle.std.proofs.lemmas.Bool.Decides.{eqb_tells}
use Rattle.type_table.specs.declared.info.TypeInfo.{TypeInfo}
use Rattle.type_table.specs.Table.{Table}
use Rattle.heap_space.specs.Places.{lies_in_one, word_at}
use Rattle.heap_space.specs.Memory.{Memory}
use Rattle.heap_space.specs.Extents.{Extent}
use Rattle.object_view.specs.Moving.{IsMoving, HasLeft}
use Rattle.object_view.proofs.WordLaws.{updated-here, updated-other}
use Rattle.object_view.proofs.LayoutLaws.{laid_out}
use Rattle.object_view.proofs.ChangeLaws.{Changes, each-keeps}
use Rattle.object_view.proofs.ForwardLaws.{changes-pointer, forward_holds, changed_moving, header-unmarked}
use Rattle.old_space.specs.HasBlocks.{HasBlocks}
use Rattle.object_model.specs.Layout.{Layout}
use Rattle.store_model.specs.Store.{Store}
use Rattle.object_model.specs.Sets.{is_in}
use Rattle.object_model.specs.ObjectWords.{updated, renamed, layout_at}
use Rattle.object_model.specs.Holds.{HoldsObjects, IsPointer}
use Rattle.heap_parts.specs.Parts.{HeapParts, home_in, pinned_places}
use Rattle.heap_parts.specs.Places.{is_young, young_places, old_places, AreWhole}
use Rattle.heap_parts.specs.OldSpace.{blocks_of}
use Rattle.heap_parts.specs.StandsFor.{IsMadeWith}
use Rattle.frame_laws.proofs.PlaceLaws.{young-is_in, old-is_in}
use Rattle.heap_parts.proofs.SameLayouts.{sum-same}
use Rattle.frame_laws.proofs.KeepWords.{SameWords, headers_kept, young_flags_kept, remembered_kept, blocks_same, husks_kept, firsts-stay}
use Rattle.minor_collect.specs.Carried.{Moved}
use Rattle.minor_collect.specs.Midway.{Midway, Changing, with_changing, Owes, Follows, IsDone, Placing}

-- Words of objects change behind their headers and layouts: the middle stays, with what is said of references told anew.
pub midway_rewrites : {start : HeapParts} {store : Store} {remembered : ℕ → ℕ → Bool} {now : Changing} {todo held left : List ℕ} {owes : Owes} {moved : Moved} {taken : List Extent}
    {placing : Placing} (mid : Midway start store remembered now placing todo held left owes moved taken) (memory : Memory) (holds paid : List ℕ) (less : Owes)
    → HoldsObjects start.setup.types (word_at memory.blocks) placing.met placing.places placing.name store.kept
    → IsMoving start.setup.types (word_at memory.blocks) placing.met placing.places placing.name
    → SameWords start.setup.types (word_at memory.blocks) (word_at now.memory.blocks) (home_in (with_changing start now)) placing.places placing.husks
    → AreWhole memory start.setup.types placing.places → IsTrue (lies_in_one memory.blocks 1 start.nursery.words)
    → HasBlocks now.old_blocks memory (blocks_of start.setup.types (word_at now.memory.blocks) (home_in (with_changing start now)) (young_places placing.places) (old_places placing.places) placing.husks taken) placing.waiting
    → IsMadeWith start.setup.settings memory start.nursery now.remembered now.old_blocks
    → Follows start.setup.types store remembered (pinned_places start) (word_at memory.blocks) placing.met placing.places placing.name placing.found todo holds paid less
    → Midway start store remembered (record now { memory = memory }) placing todo holds paid less moved taken
midway_rewrites {start = start} {now = now} {taken = taken} {placing = placing} mid memory holds paid less objects moving same whole nursery_whole blocks made follows = record {
  words = record {
    objects = objects;
    moving = moving;
    whole = whole;
    inside = λ q t. subst (λ (l : Layout). q + l.words ≤ start.nursery.words + 1) (sym (same.objects.layouts q (young-is_in placing.places q t).0).layout_stays) (mid.words.inside q t);
    left_low = mid.words.left_low;
    nursery_whole = nursery_whole;
    husk = husks_kept same.objects mid.words.husk;
  };
  blocks = subst (λ (live : List Extent). HasBlocks now.old_blocks memory live placing.waiting) (blocks_same same.objects (home_in (with_changing start now)) taken) blocks;
  headers = headers_kept same mid.headers;
  young_flags = young_flags_kept same mid.young_flags;
  visited = firsts-stay (word_at memory.blocks) (λ q t. same.firsts q (old-is_in placing.places q t).0) mid.visited;
  marked = remembered_kept same mid.marked;
  homes = mid.homes;
  rise = mid.rise;
  follows = follows;
  slots = mid.slots;
  pins = mid.pins;
  registered_are = mid.registered_are;
  chosen_are = mid.chosen_are;
  queues_are = mid.queues_are;
  links_are = mid.links_are;
  links_rise = mid.links_rise;
  carried = mid.carried;
  units = mid.units;
  gray = mid.gray;
  moved_words = sum-same start.setup.types (word_at memory.blocks) (word_at now.memory.blocks) (old_places placing.places) (λ q t. same.objects.layouts q (old-is_in placing.places q t).0) ∙ mid.moved_words;
  made = made;
}

-- one item is owed no more
abbrev pub without_item : Owes → ℕ → ℕ → Owes
without_item owes p i = record owes { items = λ q j. owes.items q j && not ((q == p) && (j == i)) }

still-owed : (owed same_place same_item : Bool) → IsTrue owed → (same_place ≡ true → same_item ≡ true → ⊥) → IsTrue (owed && not (same_place && same_item))
still-owed true true true t no_both = absurd (no_both refl refl)
still-owed true true false t no_both = refl
still-owed true false item t no_both = refl
still-owed false place item t no_both = absurd (let no : ⊥ = cc in no)

-- The reference in item i of p is overwritten by the place y where its object is now, and the object is kept for a pinned one if y is.
module _ {types : Table TypeInfo} {store : Store} {remembered : ℕ → ℕ → Bool} {pins : List ℕ} {w name : ℕ → ℕ} {met places found todo held left : List ℕ} {owes : Owes} (holds : List ℕ) (p i y : ℕ)
    (h : HoldsObjects types w met places name store.kept) (m : IsMoving types w met places name) (f : Follows types store remembered pins w met places name found todo held left owes)
    (t : IsTrue (is_in p places)) (l : i < (layout_at types w p).ref_count) (done : IsDone pins places holds p y) (is : IsPointer met y)
    (same_name : renamed name y ≡ renamed name (w ((layout_at types w p).ref_start + i)))
    (more : (q : ℕ) → IsTrue (is_in q held) → IsTrue (is_in q holds)) where
  in-pointers : i < (layout_at types w p).pointer_count
  in-pointers = omega (arith, l, (laid_out types w p).refs)

  pub item_objects : HoldsObjects types (updated w ((layout_at types w p).ref_start + i) y) met places name store.kept
  item_objects = forward_holds p i y h t in-pointers is same_name

  item-changes : Changes types (updated w ((layout_at types w p).ref_start + i) y) w met places p
  item-changes = changes-pointer p i y h t in-pointers is

  pub item_moving : IsMoving types (updated w ((layout_at types w p).ref_start + i) y) met places name
  item_moving = changed_moving h item-changes m

  -- the word is in no place that was left, and is no first word
  not-first : (x : ℕ) → IsTrue (is_in x places) → x ≢ (layout_at types w p).ref_start + i
  not-first x u e =
      let laid = laid_out types w p in
      let same : x ≡ p = h.apart x p x u t (omega arith, omega (arith, (laid_out types w x).header)) (omega (arith, e, laid.begins, laid.ordered), omega (arith, e, l, laid.pointers, laid.refs)) in
      absurd (omega (arith, e, same, laid.begins, laid.ordered))

  done-more : (q x : ℕ) → IsDone pins places held q x → IsDone pins places holds q x
  done-more q x (inl e) = inl e
  done-more q x (inr (inl old)) = inr (inl old)
  done-more q x (inr (inr pin)) = inr (inr (pin.0, (pin.1.0, more q pin.1.1)))

  gone-each : (x : ℕ) → IsTrue (is_in x met) → IsTrue (is_in x places) ⊎ HasLeft types w places name x → updated w ((layout_at types w p).ref_start + i) y x ≡ 18446744073709551615
      → (is_young (updated w ((layout_at types w p).ref_start + i) y (x + 1)) ≡ false) × (IsTrue (is_in (name x) found) × (is_young x ≡ true))
  gone-each x u (inl there) e = absurd (header-unmarked x h there (sym (updated-other w ((layout_at types w p).ref_start + i) y x (not-first x there)) ∙ e))
  gone-each x u (inr left_it) e =
      let laid = laid_out types w p in
      let g = f.gone x u left_it.marked in
      let second : x + 1 ≢ (layout_at types w p).ref_start + i = λ z. left_it.outside p t (inr (omega (arith, z, laid.begins, laid.ordered), omega (arith, z, l, laid.pointers, laid.refs))) in
      (ap is_young (updated-other w ((layout_at types w p).ref_start + i) y (x + 1) second) ∙ g.0, g.1)

  pub item_follows : Follows types store remembered pins (updated w ((layout_at types w p).ref_start + i) y) met places name found todo holds left (without_item owes p i)
  item_follows = record {
    trace = f.trace;
    todo_old = f.todo_old;
    lasts = f.lasts;
    waits = f.waits;
    gone = λ x u e. gone-each x u (m.each x u) e;
    looked = λ q j u lasts b.
        let keeps = each-keeps h item-changes q u in
        let lay : layout_at types (updated w ((layout_at types w p).ref_start + i) y) q ≡ layout_at types w q = keeps.layout_stays in
        let before : j < (layout_at types w q).ref_count = subst (λ (k : Layout). j < k.ref_count) lay b in
        let place : ℕ = (layout_at types w q).ref_start + j in
        let laid_q = laid_out types w q in let laid_p = laid_out types w p in
        subst (λ (k : Layout). IsTrue (is_in q todo) ⊎ (IsTrue ((without_item owes p i).items q j) ⊎ ((IsTrue (is_in (name q) store.settled) × (remembered (name q) j ≡ false))
        ⊎ IsDone pins places holds q (updated w ((layout_at types w p).ref_start + i) y (k.ref_start + j))))) (sym lay)
        (elim (eqb_tells place ((layout_at types w p).ref_start + i)) [
          | inl e ↦
              let same : q ≡ p = h.apart q p place u t (omega (arith, laid_q.begins, laid_q.ordered), omega (arith, before, laid_q.pointers, laid_q.refs))
              (omega (arith, e.1, laid_p.begins, laid_p.ordered), omega (arith, e.1, l, laid_p.pointers, laid_p.refs)) in
              inr (inr (inr (subst (IsDone pins places holds q) (sym (updated-here w ((layout_at types w p).ref_start + i) y place e.1)) (subst (λ (k : ℕ). IsDone pins places holds k y) (sym same) done))))
          | inr ne ↦ elim (f.looked q j u lasts before) [
            | inl k ↦ inl k
            | inr (inl o) ↦ inr (inl (still-owed (owes.items q j) (q == p) (j == i) o (λ a c. ne.1 (
                let q_is : q ≡ p = eqb-eq q p a in let j_is : j ≡ i = eqb-eq j i c in ap₂ (λ (x z : ℕ). (layout_at types w x).ref_start + z) q_is j_is))))
            | inr (inr (inl forgot)) ↦ inr (inr (inl forgot))
            | inr (inr (inr d)) ↦ inr (inr (inr (subst (IsDone pins places holds q) (sym (updated-other w ((layout_at types w p).ref_start + i) y place ne.1))
                (done-more q (w place) d))))
          ]
        ]);
  }
    where
      eqb-eq : (x z : ℕ) → (x == z) ≡ true → x ≡ z
      eqb-eq x z e = elim (eqb_tells x z) [ inl s ↦ s.1 | inr n ↦ absurd (let clash : true ≡ false = sym e ∙ n.0 in let no : ⊥ = cc in no) ]
