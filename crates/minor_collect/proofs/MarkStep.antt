-- The header of a settled object is written as what is remembered of it changes: it is drained, or kept for a pinned object.
use Rattle.std.proofs.Common.{◌≡◌, ◌≢◌, ℕ, ◌+◌, ◌%◌, ◌<◌, ◌≤◌, ◌⊎◌, Bool, true, false, IsTrue, List, Option, refl, sym, ap, ap₂, ◌∙◌, subst, inl, inr, arith}
use Rattle.std.specs.Prelude.{not}
use Rattle.std.proofs.lemmas.Bool.Decides.{eqb_tells}
use Rattle.type_table.specs.declared.info.TypeInfo.{TypeInfo}
use Rattle.type_table.specs.Table.{Table}
use Rattle.heap_space.specs.Places.{lies_in_one, word_at}
use Rattle.heap_space.specs.Memory.{Memory}
use Rattle.heap_space.specs.Extents.{Extent}
use Rattle.object_header.specs.Words.{has_flag}
use Rattle.object_header.specs.declared.flags.Flag.TheVariants.{Visited, HasCards}
use Rattle.object_view.specs.Moving.{IsMoving, HasLeft}
use Rattle.object_view.proofs.WordLaws.{updated-here, updated-other}
use Rattle.object_view.proofs.LayoutLaws.{laid_out, SameAt, KeepsLayout, keeps-same, info_at-same}
use Rattle.object_view.proofs.ChangeLaws.{Changes}
use Rattle.object_view.proofs.FrameLaws.{header_holds, keeps-header}
use Rattle.object_view.proofs.ForwardLaws.{changed_moving, header-unmarked}
use Rattle.old_space.specs.HasBlocks.{HasBlocks}
use Rattle.object_model.specs.Object.{Object}
use Rattle.object_model.specs.Layout.{Layout}
use Rattle.store_model.specs.Store.{Store}
use Rattle.object_model.specs.Sets.{is_in}
use Rattle.object_model.specs.ObjectWords.{updated, layout_at}
use Rattle.object_model.specs.Holds.{HoldsObjects, IsPointer}
use Rattle.remember_cards.specs.Remembered.{Remembered, held_places, is_held_whole, has_held_cards}
use Rattle.heap_parts.specs.Parts.{HeapParts, home_in, pinned_places}
use Rattle.heap_parts.specs.Places.{is_young, young_places, old_places, AreWhole, AreAmong, OfFirsts}
use Rattle.heap_parts.specs.OldSpace.{blocks_of, reserved_homes}
use Rattle.heap_parts.specs.Headers.{IsSettledHeader, keeps_cards}
use Rattle.remember_cards.specs.Tracking.{IsTracked}
use Rattle.heap_parts.specs.StandsFor.{IsMadeWith, HoldsRemembered}
use Rattle.frame_laws.proofs.PlaceLaws.{young-is_in, old-is_in}
use Rattle.heap_parts.proofs.SameLayouts.{sum-same}
use Rattle.frame_laws.proofs.KeepWords.{SameObjects, blocks_same, husks_kept, firsts-stay}
use Rattle.minor_collect.specs.Carried.{Moved}
use Rattle.minor_collect.specs.Midway.{Midway, Changing, with_changing, Owes, Follows, IsDone, Placing}

-- a header of the same type, with the flags of what is remembered now; of other objects the same is remembered
pub record Marks (types : Table TypeInfo) (w : ℕ → ℕ) (home : ℕ → Option ℕ) (places husks : List ℕ) (p head : ℕ) (before after : Remembered) : Type 0 where
  pub there : IsTrue (is_in p (old_places places))
  pub same_type : head % 65536 ≡ w p % 65536
  pub small : head < 67108864
  pub header : IsSettledHeader head
  pub visited : has_flag head Visited ≡ has_flag (w p) Visited
  pub has_cards : has_flag head HasCards ≡ has_flag (w p) HasCards
  pub tracked : IsTracked after p head
  pub others : (q : ℕ) → q ≢ p → (is_held_whole after q ≡ is_held_whole before q) × (has_held_cards after q ≡ has_held_cards before q)
  pub among : AreAmong (old_places places) (held_places after)
  pub husk_same : (q : ℕ) → IsTrue (is_in q husks) → SameAt types (updated w p head) w q
  pub shadow_same : (q : ℕ) → IsTrue (is_in q (reserved_homes home (young_places places))) → updated w p head q ≡ w q

module _ {types : Table TypeInfo} {w name : ℕ → ℕ} {home : ℕ → Option ℕ} {met places husks : List ℕ} {kept : List Object} {p head : ℕ} {before after : Remembered}
    (h : HoldsObjects types w met places name kept) (m : IsMoving types w met places name) (c : Marks types w home places husks p head before after) where
  in-places : IsTrue (is_in p places)
  in-places = (old-is_in places p c.there).0

  other-same : (q : ℕ) → IsTrue (is_in q places) → q ≢ p → SameAt types (updated w p head) w q
  other-same q u ne = record {
    same = λ b l r. updated-other w p head b (λ e. ne (h.apart q p b u in-places (l, r) (omega (arith, e), omega (arith, e, (laid_out types w p).header))));
  }

  pub mark_layouts : (q : ℕ) → IsTrue (is_in q places) → KeepsLayout types (updated w p head) w q
  mark_layouts q u = elim (eqb_tells q p) [
    | inl e ↦ let P : ℕ → Type 0 = λ k. KeepsLayout types (updated w p head) w k in subst P (sym e.1) (keeps-header types w p head c.same_type c.small)
    | inr ne ↦ keeps-same types (updated w p head) w q (other-same q u ne.1)
  ]

  pub mark_objects : HoldsObjects types (updated w p head) met places name kept
  mark_objects = header_holds p head h in-places c.same_type c.small

  mark-changes : Changes types (updated w p head) w met places p
  mark-changes = let laid = laid_out types w p in record {
    there = in-places;
    elsewhere = λ b out. updated-other w p head b (λ e. elim out [ inl low ↦ absurd (omega (arith, e, low)) | inr high ↦ absurd (omega (arith, e, high, laid.header)) ]);
    keeps = keeps-header types w p head c.same_type c.small;
    pointers = λ j l. subst (IsPointer met) (sym (updated-other w p head ((layout_at types w p).ref_start + j) (λ e. absurd (omega (arith, e, laid.begins, laid.ordered))))) (h.closed p j in-places l);
  }

  pub mark_moving : IsMoving types (updated w p head) met places name
  mark_moving = changed_moving h mark-changes m

  pub first_other : (q : ℕ) → q ≢ p → updated w p head q ≡ w q
  first_other q ne = updated-other w p head q ne

  -- first words of what is outside the nursery
  pub mark_firsts : {P Q : ℕ → ℕ → Type 0} → (P p (w p) → Q p head) → ((q : ℕ) → q ≢ p → P q (w q) → Q q (w q)) → OfFirsts P (old_places places) w → OfFirsts Q (old_places places) (updated w p head)
  mark_firsts {P = P} {Q = Q} here far k = record {
    each = λ q t. elim (eqb_tells q p) [
      | inl e ↦ let F : ℕ → Type 0 = λ z. P z (w z) → Q z (updated w p head z) in subst F (sym e.1) (λ x. subst (Q p) (sym (updated-here w p head p refl)) (here x)) (k.each q t)
      | inr e ↦ subst (Q q) (sym (first_other q e.1)) (far q e.1 (k.each q t))
    ];
  }

  pub young_other : (q : ℕ) → IsTrue (is_in q (young_places places)) → updated w p head q ≡ w q
  young_other q t = first_other q (λ e. let y = young-is_in places q t in let o = old-is_in places p c.there in
      let clash : true ≡ false = sym y.1 ∙ (ap is_young e ∙ o.1) in let no : ⊥ = cc in no)

  gone-each : {pins found todo held left : List ℕ} {owes : Owes} {store : Store} {remembered : ℕ → ℕ → Bool} (f : Follows types store remembered pins w met places name found todo held left owes)
      (x : ℕ) → IsTrue (is_in x met) → IsTrue (is_in x places) ⊎ HasLeft types w places name x → updated w p head x ≡ 18446744073709551615
      → (is_young (updated w p head (x + 1)) ≡ false) × (IsTrue (is_in (name x) found) × (is_young x ≡ true))
  gone-each f x t (inl there) e = elim (eqb_tells x p) [
    | inl is ↦ absurd (omega (arith, c.small, updated-here w p head p refl, subst (λ (k : ℕ). updated w p head k ≡ 18446744073709551615) is.1 e))
    | inr ne ↦ absurd (header-unmarked x h there (sym (first_other x ne.1) ∙ e))
  ]
  gone-each f x t (inr left) e =
      let second : x + 1 ≢ p = λ z. left.outside p in-places (inr (omega (arith, z), omega (arith, z, (laid_out types w p).header))) in
      let g = f.gone x t left.marked in (ap is_young (first_other (x + 1) second) ∙ g.0, g.1)

  pub mark_follows : {store : Store} {remembered : ℕ → ℕ → Bool} {pins found todo held left : List ℕ} {owes : Owes}
      → Follows types store remembered pins w met places name found todo held left owes → Follows types store remembered pins (updated w p head) met places name found todo held left owes
  mark_follows {pins = pins} {held = held} f = record {
    trace = f.trace;
    todo_old = f.todo_old;
    lasts = f.lasts;
    waits = f.waits;
    gone = λ x t e. gone-each f x t (m.each x t) e;
    looked = λ q j t l b.
        let laid = laid_out types w q in
        let lay : layout_at types (updated w p head) q ≡ layout_at types w q = (mark_layouts q t).layout_stays in
        let less : j < (layout_at types w q).ref_count = subst (λ (y : Layout). j < y.ref_count) lay b in
        let not_p : (layout_at types w q).ref_start + j ≢ p = λ z.
        let same : q ≡ p = h.apart q p p t in-places (omega (arith, z, laid.begins, laid.ordered), omega (arith, z, less, laid.pointers, laid.refs)) (omega arith, omega (arith, (laid_out types w p).header)) in
        absurd (omega (arith, z, same, laid.begins, laid.ordered)) in
        let word : updated w p head ((layout_at types (updated w p head) q).ref_start + j) ≡ w ((layout_at types w q).ref_start + j) =
        ap (λ (y : Layout). updated w p head (y.ref_start + j)) lay ∙ first_other ((layout_at types w q).ref_start + j) not_p in
        elim (f.looked q j t l less) [
          | inl u ↦ inl u
          | inr (inl o) ↦ inr (inl o)
          | inr (inr (inl forgot)) ↦ inr (inr (inl forgot))
          | inr (inr (inr d)) ↦ inr (inr (inr (subst (IsDone pins places held q) (sym word) d)))
        ];
  }

  pub mark_remembered : {card : ℕ} → HoldsRemembered types card w before places → HoldsRemembered types card (updated w p head) after places
  mark_remembered {card = card} k = record {
    there = c.among;
    tracked = mark_firsts (λ x. c.tracked) (λ q ne x. record { track = x.track ∙ ap not (sym (c.others q ne).0); cards_set = x.cards_set ∙ sym (c.others q ne).1 }) k.tracked;
    carded = λ q t.
        let keeps = mark_layouts q (old-is_in places q t).0 in
        let flag : has_flag (updated w p head q) HasCards ≡ has_flag (w q) HasCards = elim (eqb_tells q p) [
          | inl e ↦ ap (λ (x : ℕ). has_flag x HasCards) (updated-here w p head q e.1) ∙ (c.has_cards ∙ ap (λ (x : ℕ). has_flag (w x) HasCards) (sym e.1))
          | inr ne ↦ ap (λ (x : ℕ). has_flag x HasCards) (first_other q ne.1)
        ] in
        flag ∙ (k.carded q t ∙ ap₂ (λ (i : TypeInfo) (l : Layout). keeps_cards card i.shape l.ref_count) (sym (info_at-same types (updated w p head) w q keeps.type_stays)) (sym keeps.layout_stays));
  }

-- An object is drained, or kept for a pinned one: the middle stays.
pub midway_marks : {start : HeapParts} {store : Store} {remembered : ℕ → ℕ → Bool} {now : Changing} {todo held left : List ℕ} {owes : Owes} {moved : Moved} {taken : List Extent} (p head : ℕ)
    {placing : Placing} (mid : Midway start store remembered now placing todo held left owes moved taken) (memory : Memory) (after : Remembered) (holds : List ℕ)
    → Marks start.setup.types (word_at now.memory.blocks) (home_in (with_changing start now)) placing.places placing.husks p head now.remembered after
    → word_at memory.blocks ≡ updated (word_at now.memory.blocks) p head
    → AreWhole memory start.setup.types placing.places → IsTrue (lies_in_one memory.blocks 1 start.nursery.words)
    → HasBlocks now.old_blocks memory (blocks_of start.setup.types (word_at now.memory.blocks) (home_in (with_changing start now)) (young_places placing.places) (old_places placing.places) placing.husks taken) placing.waiting
    → IsMadeWith start.setup.settings memory start.nursery after now.old_blocks
    → Midway start store remembered (record now { memory = memory; remembered = after }) placing todo held left owes moved taken
midway_marks {start = start} {store = store} {remembered = remembered} {now = now} {todo = todo} {held = held} {left = left} {owes = owes} {taken = taken} p head {placing = placing} mid memory after holds c words whole nursery_whole blocks made =
    let types : Table TypeInfo = start.setup.types in let w : ℕ → ℕ = word_at now.memory.blocks in
    let h = mid.words.objects in let m = mid.words.moving in
    let T : (ℕ → ℕ) → Type 0 = λ f. SameObjects start.setup.types f (word_at now.memory.blocks) placing.places placing.husks in
    let same : SameObjects start.setup.types (word_at memory.blocks) (word_at now.memory.blocks) placing.places placing.husks = subst T (sym words)
    (record { layouts = mark_layouts h m c; husk_layouts = λ q t. keeps-same start.setup.types (updated (word_at now.memory.blocks) p head) (word_at now.memory.blocks) q (c.husk_same q t) }) in
    let young : (q : ℕ) → IsTrue (is_in q (young_places placing.places)) → word_at memory.blocks q ≡ word_at now.memory.blocks q = λ q t. ap (λ (f : ℕ → ℕ). f q) words ∙ young_other h m c q t in
    let F : (P : ℕ → ℕ → Type 0) → (ℕ → ℕ) → Type 0 = λ P f. OfFirsts P (old_places placing.places) f in
    record {
      words = record {
        objects = subst (λ (f : ℕ → ℕ). HoldsObjects start.setup.types f placing.met placing.places placing.name store.kept) (sym words) (mark_objects h m c);
        moving = subst (λ (f : ℕ → ℕ). IsMoving start.setup.types f placing.met placing.places placing.name) (sym words) (mark_moving h m c);
        whole = whole;
        inside = λ q t. subst (λ (l : Layout). q + l.words ≤ start.nursery.words + 1) (sym (same.layouts q (young-is_in placing.places q t).0).layout_stays) (mid.words.inside q t);
        left_low = mid.words.left_low;
        nursery_whole = nursery_whole;
        husk = husks_kept same mid.words.husk;
      };
      blocks = subst (λ (live : List Extent). HasBlocks now.old_blocks memory live placing.waiting) (blocks_same same (home_in (with_changing start now)) taken) blocks;
      headers = record {
        settled = subst (F (λ q x. IsSettledHeader x)) (sym words) (mark_firsts h m c (λ x. c.header) (λ q ne x. x) mid.headers.settled);
        husk = firsts-stay (word_at memory.blocks) (λ q t. ap (λ (f : ℕ → ℕ). f q) words ∙ (c.husk_same q t).same q (omega arith) (omega (arith, (laid_out start.setup.types (word_at now.memory.blocks) q).header))) mid.headers.husk;
        shadow = firsts-stay (word_at memory.blocks) (λ q t. ap (λ (f : ℕ → ℕ). f q) words ∙ c.shadow_same q t) mid.headers.shadow;
        young = firsts-stay (word_at memory.blocks) young mid.headers.young;
      };
      young_flags = record { pinned = firsts-stay (word_at memory.blocks) young mid.young_flags.pinned; has_shadow = firsts-stay (word_at memory.blocks) young mid.young_flags.has_shadow };
      visited = subst (F _) (sym words) (mark_firsts h m c (λ x. c.visited ∙ x) (λ q ne x. x) mid.visited);
      marked = subst (λ (f : ℕ → ℕ). HoldsRemembered start.setup.types start.setup.settings.card f after placing.places) (sym words) (mark_remembered h m c mid.marked);
      homes = mid.homes;
      rise = mid.rise;
      follows = subst (λ (f : ℕ → ℕ). Follows start.setup.types store remembered (pinned_places start) f placing.met placing.places placing.name placing.found todo held left owes) (sym words) (mark_follows h m c mid.follows);
      slots = mid.slots;
      pins = mid.pins;
      registered_are = mid.registered_are;
      chosen_are = mid.chosen_are;
      queues_are = mid.queues_are;
      links_are = mid.links_are;
      links_rise = mid.links_rise;
      carried = mid.carried;
      units = mid.units;
      gray = mid.gray;
      moved_words = sum-same start.setup.types (word_at memory.blocks) (word_at now.memory.blocks) (old_places placing.places) (λ q t. same.layouts q (old-is_in placing.places q t).0) ∙ mid.moved_words;
      made = made;
    }
