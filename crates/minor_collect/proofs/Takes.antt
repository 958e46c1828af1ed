-- Words change that are none of objects, of husks or of the nursery: a block is taken. And what it is then room for.
use Rattle.std.proofs.Common.{◌≡◌, ℕ, ◌+◌, ◌<◌, ◌≤◌, ◌⊎◌, Bool, true, false, IsTrue, List, map, Option, sym, ap, ◌∙◌, subst, inl, inr, arith}
use Rattle.std.proofs.lemmas.Bool.{cases_Bool}
use Rattle.type_table.specs.declared.info.TypeInfo.{TypeInfo}
use Rattle.type_table.specs.Table.{Table}
use Rattle.heap_space.specs.Places.{lies_in_one, word_at}
use Rattle.heap_space.specs.Memory.{Memory}
use Rattle.heap_space.specs.Extents.{Extent, Each, IsApart}
use Rattle.object_view.specs.Moving.{IsMoving, HasLeft, HasFreeRoom}
use Rattle.object_view.proofs.LayoutLaws.{laid_out, keeps-same}
use Rattle.object_view.proofs.ChangeLaws.{covers-kept}
use Rattle.object_view.proofs.FrameLaws.{outside_holds}
use Rattle.object_view.proofs.ForwardLaws.{header-unmarked}
use Rattle.old_space.specs.HasBlocks.{HasBlocks}
use Rattle.old_space.specs.declared.Old.{Old}
use Rattle.object_model.specs.Object.{Object}
use Rattle.object_model.specs.Layout.{Layout}
use Rattle.store_model.specs.Store.{Store}
use Rattle.object_model.specs.Sets.{is_in}
use Rattle.object_model.specs.ObjectWords.{words_at, layout_at}
use Rattle.object_model.specs.Holds.{HoldsObjects}
use Rattle.heap_parts.specs.Parts.{HeapParts, home_in}
use Rattle.heap_parts.specs.Places.{is_young, young_places, old_places, block_at, AreWhole}
use Rattle.heap_parts.specs.OldSpace.{blocks_of}
use Rattle.heap_parts.specs.StandsFor.{IsMadeWith}
use Rattle.frame_laws.proofs.PlaceLaws.{young-is_in, old-is_in, is_in-young, is_in-old}
use Rattle.heap_parts.proofs.BlockLaws.{each-member}
use Rattle.heap_parts.proofs.SameLayouts.{sum-same}
use Rattle.frame_laws.proofs.KeepWords.{SameWords, headers_kept, young_flags_kept, remembered_kept, blocks_same, husks_kept, firsts-stay}
use Rattle.minor_collect.specs.Carried.{Moved}
use Rattle.minor_collect.specs.Homes.{KeepsAll}
use Rattle.minor_collect.specs.Midway.{Midway, Changing, with_changing, Owes, is_lasting, Follows, IsDone, Placing}
use Rattle.minor_collect.proofs.Begins.{not-lasting}

pub same_words : {types : Table TypeInfo} {v w : ℕ → ℕ} {home : ℕ → Option ℕ} {places husks : List ℕ} → KeepsAll types v w home places husks → SameWords types v w home places husks
same_words {types = types} {v = v} {w = w} k = record {
  objects = record { layouts = λ q t. keeps-same types v w q (k.objects q t); husk_layouts = λ q t. keeps-same types v w q (k.husk q t) };
  firsts = λ q t. (k.objects q t).same q (omega arith) (omega (arith, (laid_out types w q).header));
  husk_firsts = λ q t. (k.husk q t).same q (omega arith) (omega (arith, (laid_out types w q).header));
  shadow_firsts = k.shadow;
}

-- Room at a block outside the nursery that shares no word with a settled object: what a move asks for.
pub free_room : {types : Table TypeInfo} {store : Store} {remembered : ℕ → ℕ → Bool} {pins : List ℕ} {w name : ℕ → ℕ} {met places found todo held left : List ℕ} {owes : Owes} {most : ℕ} (p a : ℕ)
    → HoldsObjects types w met places name store.kept → IsMoving types w met places name → Follows types store remembered pins w met places name found todo held left owes
    → ((q : ℕ) → IsTrue (is_in q (young_places places)) → q + words_at types w q ≤ most + 1)
    → ((x : ℕ) → IsTrue (is_in x met) → IsTrue (is_in x places) ⊎ (x + 1 ≤ most)) → most ≤ 1048576
    → IsTrue (is_in p places) → is_lasting pins p ≡ false → 4294967296 ≤ a
    → Each (IsApart (a, words_at types w p)) (map (block_at types w) (old_places places))
    → HasFreeRoom types w met places p a
free_room {types = types} {pins = pins} {w = w} {met = met} {places = places} {most = most} p a h m f inside low small t waits far apart =
    let n : ℕ = words_at types w p in
    let block : (q : ℕ) → IsTrue (is_in q places) → IsApart (a, words_at types w p) (q, words_at types w q) = λ q u. elim (cases_Bool (is_young q)) [
      | inl y ↦ let i = inside q (is_in-young places q u y) in inr (omega (arith, i, small, far))
      | inr o ↦ each-member (IsApart (a, words_at types w p)) (block_at types w) (old_places places) q apart (is_in-old places q u o)
    ] in record {
      there = t;
      above = omega (arith, far);
      clear = λ q at u c l r. elim (block q u) [ inl behind ↦ absurd (omega (arith, behind, c.0, r)) | inr before ↦ absurd (omega (arith, before, c.1, l)) ];
      fresh = λ x u. elim (low x u) [
        | inl there ↦ elim (block x there) [
          | inl behind ↦ (inr behind, inr (omega (arith, behind)))
          | inr before ↦ let two = (laid_out types w x).header in (inl (omega (arith, before, two)), inl (omega (arith, before, two)))
        ]
        | inr under ↦ (inl (omega (arith, under, small, far)), inl (omega (arith, under, small, far)))
      ];
      once = λ x u e is.
          let g = f.gone x u e in
          let y = not-lasting (is_young p) _ waits in
          let clash : true ≡ false = sym y.0 ∙ (ap is_young (sym is) ∙ g.0) in let no : ⊥ = cc in no;
    }

-- the words of a place that was left lie in the nursery
left-words : (types : Table TypeInfo) (v w : ℕ → ℕ) (most x : ℕ) → most ≤ 1048576 → ((b : ℕ) → b < 4294967296 → v b ≡ w b) → x + 1 ≤ most → (v x ≡ w x) × (v (x + 1) ≡ w (x + 1))
left-words types v w most x small low l = (low x (omega (arith, small, l)), low (x + 1) (omega (arith, small, l)))

module _ {types : Table TypeInfo} {v w : ℕ → ℕ} {home : ℕ → Option ℕ} {met places husks : List ℕ} {name : ℕ → ℕ} {kept : List Object} {most : ℕ}
    (k : KeepsAll types v w home places husks) (h : HoldsObjects types w met places name kept) (m : IsMoving types w met places name) (small : most ≤ 1048576)
    (low : (x : ℕ) → IsTrue (is_in x met) → IsTrue (is_in x places) ⊎ (x + 1 ≤ most)) where
  moving-each : (x : ℕ) → IsTrue (is_in x met) → IsTrue (is_in x places) ⊎ HasLeft types w places name x → IsTrue (is_in x places) ⊎ HasLeft types v places name x
  moving-each x t (inl there) = inl there
  moving-each x t (inr left) = elim (low x t) [
    | inl there ↦ inl there
    | inr l ↦ let words = left-words types v w most x small k.low l in inr (record {
      marked = words.0 ∙ left.marked;
      there = subst (λ (y : ℕ). IsTrue (is_in y places)) (sym words.1) left.there;
      same_name = ap name words.1 ∙ left.same_name;
      outside = λ q u c. left.outside q u (elim c [
        | inl d ↦ inl (covers-kept q x (keeps-same types v w q (k.objects q u)) d)
        | inr d ↦ inr (covers-kept q (x + 1) (keeps-same types v w q (k.objects q u)) d)
      ]);
    })
  ]

  pub moving_kept : IsMoving types v met places name
  moving_kept = record { above = m.above; each = λ x t. moving-each x t (m.each x t); stay = m.stay }

  pub follows_kept : {store : Store} {remembered : ℕ → ℕ → Bool} {pins found todo held left : List ℕ} {owes : Owes}
      → Follows types store remembered pins w met places name found todo held left owes → Follows types store remembered pins v met places name found todo held left owes
  follows_kept {pins = pins} {held = held} f = record {
    trace = f.trace;
    todo_old = f.todo_old;
    lasts = f.lasts;
    waits = f.waits;
    gone = λ x t e. elim (low x t) [
      | inl there ↦ absurd (header-unmarked x h there (sym ((k.objects x there).same x (omega arith) (omega (arith, (laid_out types w x).header))) ∙ e))
      | inr l ↦ let words = left-words types v w most x small k.low l in let g = f.gone x t (sym words.0 ∙ e) in (ap is_young words.1 ∙ g.0, g.1)
    ];
    looked = λ q j t l b.
        let same = k.objects q t in
        let laid = laid_out types w q in
        let lay : layout_at types v q ≡ layout_at types w q = (keeps-same types v w q same).layout_stays in
        let before : j < (layout_at types w q).ref_count = subst (λ (y : Layout). j < y.ref_count) lay b in
        let word : v ((layout_at types v q).ref_start + j) ≡ w ((layout_at types w q).ref_start + j) =
        ap (λ (y : Layout). v (y.ref_start + j)) lay ∙ same.same ((layout_at types w q).ref_start + j) (omega (arith, laid.begins, laid.ordered)) (omega (arith, before, laid.pointers, laid.refs)) in
        elim (f.looked q j t l before) [
          | inl u ↦ inl u
          | inr (inl o) ↦ inr (inl o)
          | inr (inr (inl forgot)) ↦ inr (inr (inl forgot))
          | inr (inr (inr d)) ↦ inr (inr (inr (subst (IsDone pins places held q) (sym word) d)))
        ];
  }

-- Other words change, and blocks are told anew: the middle stays.
pub midway_keeps : {start : HeapParts} {store : Store} {remembered : ℕ → ℕ → Bool} {now : Changing} {todo held left : List ℕ} {owes : Owes} {moved : Moved} {taken : List Extent}
    {placing : Placing} (mid : Midway start store remembered now placing todo held left owes moved taken) (memory : Memory) (old_blocks : Old) (more : List Extent)
    → KeepsAll start.setup.types (word_at memory.blocks) (word_at now.memory.blocks) (home_in (with_changing start now)) placing.places placing.husks
    → AreWhole memory start.setup.types placing.places → IsTrue (lies_in_one memory.blocks 1 start.nursery.words)
    → HasBlocks old_blocks memory (blocks_of start.setup.types (word_at now.memory.blocks) (home_in (with_changing start now)) (young_places placing.places) (old_places placing.places) placing.husks more) placing.waiting
    → IsMadeWith start.setup.settings memory start.nursery now.remembered old_blocks
    → Midway start store remembered (record now { memory = memory; old_blocks = old_blocks }) placing todo held left owes moved more
midway_keeps {start = start} {now = now} {placing = placing} mid memory old_blocks more k whole nursery_whole blocks made =
    let types : Table TypeInfo = start.setup.types in let w : ℕ → ℕ = word_at now.memory.blocks in let v : ℕ → ℕ = word_at memory.blocks in
    let same = same_words k in
    let small : start.nursery.words ≤ 1048576 = omega (arith, mid.made.words, mid.made.ranges.1) in
    record {
      words = record {
        objects = outside_holds (word_at memory.blocks) mid.words.objects k.objects;
        moving = moving_kept k mid.words.objects mid.words.moving small mid.words.left_low;
        whole = whole;
        inside = λ q t. subst (λ (l : Layout). q + l.words ≤ start.nursery.words + 1) (sym (same.objects.layouts q (young-is_in placing.places q t).0).layout_stays) (mid.words.inside q t);
        left_low = mid.words.left_low;
        nursery_whole = nursery_whole;
        husk = husks_kept same.objects mid.words.husk;
      };
      blocks = subst (λ (live : List Extent). HasBlocks old_blocks memory live placing.waiting) (blocks_same same.objects (home_in (with_changing start now)) more) blocks;
      headers = headers_kept same mid.headers;
      young_flags = young_flags_kept same mid.young_flags;
      visited = firsts-stay (word_at memory.blocks) (λ q t. same.firsts q (old-is_in placing.places q t).0) mid.visited;
      marked = remembered_kept same mid.marked;
      homes = mid.homes;
      rise = mid.rise;
      follows = follows_kept k mid.words.objects mid.words.moving small mid.words.left_low mid.follows;
      slots = mid.slots;
      pins = mid.pins;
      registered_are = mid.registered_are;
      chosen_are = mid.chosen_are;
      queues_are = mid.queues_are;
      links_are = mid.links_are;
      links_rise = mid.links_rise;
      carried = mid.carried;
      units = mid.units;
      gray = mid.gray;
      moved_words = sum-same start.setup.types (word_at memory.blocks) (word_at now.memory.blocks) (old_places placing.places) (λ q t. same.objects.layouts q (old-is_in placing.places q t).0) ∙ mid.moved_words;
      made = made;
    }
