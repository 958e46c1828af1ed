-- What the code queues for marking, of spans that cover all that was remembered, is what the end of a collection asks for.
use Rattle.std.proofs.Common.{◌≡◌, ◌≢◌, ℕ, zero, suc, ◌+◌, ◌<◌, ◌⊎◌, Bool, true, false, IsTrue, List, [], ◌∷◌, map, filter, Option, Some, slice_get, refl, sym, ap, ◌∙◌, subst, inl, inr, arith}
use Rattle.std.specs.List.{list_any}
use Rattle.std.proofs.lemmas.Bool.{ne_eqb}
use Rattle.heap_space.specs.Places.{word_at}
use Rattle.object_header.specs.Words.{has_flag}
use Rattle.object_header.specs.declared.flags.Flag.TheVariants.{Visited}
use Rattle.object_view.proofs.FoundLaws.{found-at, ref-from}
use Rattle.object_view.proofs.LayoutLaws.{laid_out}
use Rattle.object_model.specs.Fields.{refs_of}
use Rattle.object_model.specs.Object.{Object}
use Rattle.object_model.specs.ObjectWords.{renamed, layout_at, object_from, words_at}
use Rattle.object_model.specs.Sets.{is_in}
use Rattle.object_model.proofs.Members.{is_in-nil, map-same, filter-part, filter-member, or_cases}
use Rattle.text_model.specs.declared.line.Phase.{Phase}
use Rattle.text_model.specs.declared.line.Phase.TheVariants.{Marking}
use Rattle.remember_cards.specs.declared.Span.{Span}
use Rattle.remember_cards.specs.Remembered.{held_places, is_held, is_held_of}
use Rattle.store_model.specs.Store.{Store}
use Rattle.store_model.specs.MarkingOrder.{IsItem, YoungHeld}
use Rattle.heap_parts.specs.Parts.{HeapParts, word_in}
use Rattle.heap_parts.specs.Places.{is_young, old_places}
use Rattle.heap_parts.specs.Headers.{is_marked}
use Rattle.heap_parts.specs.StandsFor.{PartsStandButYoung}
use Rattle.frame_laws.proofs.PlaceLaws.{old-is_in, is_in-old, named-by}
use Rattle.minor_collect.specs.Carried.{Moved}
use Rattle.minor_collect.specs.Gray.{QueuesWritten}
use Rattle.minor_collect.specs.Midway.{Midway, Changing, with_changing, Owes, OwesNone, Placing}
use Rattle.minor_collect.specs.Queues.{Queues, has_item, is_spanned}
use Rattle.minor_collect.specs.Spans.{IsSpanned}
use Rattle.minor_collect.proofs.Ended.{item_leads, some-item}
use Rattle.minor_collect.proofs.QueueSteps.{has-item, item-has, or-first, or-second, either}
use Rattle.minor_collect.proofs.StartLaws.{held_place}

-- one of the spans has the item
spanned-at : (spans : List Span) (q i : ℕ) → IsTrue (is_spanned spans q i) → IsSpanned spans q i
spanned-at [] q i t = absurd (let no : ⊥ = cc in no)
spanned-at (x ∷ spans) q i t = elim (either (has_item q i x) (is_spanned spans q i) t) [
  | inl here ↦ let h = has-item q i x here in record { number = 0; span = x; listed = refl; here = sym h.0; low = h.1; high = h.2 }
  | inr more ↦ let s = spanned-at spans q i more in record { number = suc s.number; span = s.span; listed = s.listed; here = s.here; low = s.low; high = s.high }
]

has-listed : (test : Span → Bool) (spans : List Span) (k : ℕ) (span : Span) → slice_get spans k ≡ Some span → IsTrue (test span) → IsTrue (list_any test spans)
has-listed test [] k span e t = absurd (let no : ⊥ = cc in no)
has-listed test (x ∷ spans) zero span e t =
    let same : span ≡ x = cc in
    or-first (test x) (list_any test spans) (subst (λ (y : Span). IsTrue (test y)) same t)
has-listed test (x ∷ spans) (suc k) span e t = or-second (test x) (list_any test spans) (has-listed test spans k span e t)

is-spanned : (spans : List Span) (q i : ℕ) → IsSpanned spans q i → IsTrue (is_spanned spans q i)
is-spanned spans q i s = has-listed (has_item q i) spans s.number s.span s.listed
    (subst (λ (k : ℕ). IsTrue (has_item k i s.span)) s.here (item-has s.span i s.low s.high))

module _ {start : HeapParts} {store : Store} {now : Changing} {held : List ℕ} {owes : Owes} {moved : Moved} {spans : List Span}
    (s : PartsStandButYoung start store) (young_held : YoungHeld store.kept store.settled (is_held_of start.remembered s.name))
    {placing : Placing} (mid : Midway start store (is_held_of start.remembered s.name) now placing [] held [] owes moved []) (none : OwesNone owes)
    (few : (q : ℕ) → IsTrue (is_in q (old_places placing.places)) → words_at start.setup.types (word_at now.memory.blocks) q < 18446744073709551615)
    (covered : (q i : ℕ) → i < 18446744073709551615 → IsTrue (is_held start.remembered q i) → IsSpanned spans q i)
    (sound : (k : ℕ) (span : Span) → slice_get spans k ≡ Some span → IsTrue (is_in span.a (held_places start.remembered)))
    (marking : start.phase ≡ Marking) {new : HeapParts} (queues : Queues (with_changing start now) new spans) where
  -- what is remembered and visited
  abbrev pub written_places : List ℕ
  written_places = filter (λ q. is_in (placing.name q) store.visited) (held_places start.remembered)

  flagged : (q : ℕ) → IsTrue (is_in q (old_places placing.places)) → has_flag (word_at now.memory.blocks q) Visited ≡ is_in (placing.name q) store.visited
  flagged q t = mid.visited.each q t ∙ ap (λ (phase : Phase). is_marked phase store.visited placing.name start.setup.settings.page placing.waiting q) marking

  spanned-written : (q i : ℕ) → IsTrue (is_spanned spans q i) → has_flag (word_at now.memory.blocks q) Visited ≡ true → IsTrue (is_in q written_places)
  spanned-written q i t flag =
      let at = spanned-at spans q i t in
      let there : IsTrue (is_in q (held_places start.remembered)) = subst (λ (k : ℕ). IsTrue (is_in k (held_places start.remembered))) at.here (sound at.number at.span at.listed) in
      filter-member (λ k. is_in (placing.name k) store.visited) (held_places start.remembered) q there (sym (flagged q (mid.carried.held_there q there)) ∙ flag)

  gray-before : map s.name start.gray ≡ map placing.name now.gray
  gray-before = map-same s.name (λ (p : ℕ). word_in start (p + 1)) start.gray (λ p t. s.words.objects.named p (old-is_in s.places p (s.gray p t)).0)
      ∙ (mid.carried.gray_are.named ∙ ap (map placing.name) (sym mid.carried.gray_same))

  all-queued : (q j : ℕ) → IsTrue (is_in q written_places) → j < (layout_at start.setup.types (word_at now.memory.blocks) q).ref_count
      → word_at now.memory.blocks ((layout_at start.setup.types (word_at now.memory.blocks) q).ref_start + j) ≢ 0
      → is_young (word_at now.memory.blocks ((layout_at start.setup.types (word_at now.memory.blocks) q).ref_start + j)) ≡ false
      → IsTrue (is_in (word_at now.memory.blocks ((layout_at start.setup.types (word_at now.memory.blocks) q).ref_start + j)) new.gray)
      ⊎ IsTrue (is_in (placing.name (word_at now.memory.blocks ((layout_at start.setup.types (word_at now.memory.blocks) q).ref_start + j))) store.visited)
  all-queued q j t l ne o =
      let part = filter-part (λ k. is_in (placing.name k) store.visited) (held_places start.remembered) q t in
      let far = mid.carried.held_there q part.0 in
      let old = old-is_in placing.places q far in
      let z : ℕ = word_at now.memory.blocks ((layout_at start.setup.types (word_at now.memory.blocks) q).ref_start + j) in
      let there : IsTrue (is_in z placing.places) = elim (item_leads mid.words.objects mid.words.moving mid.follows none young_held q j old.0 (rw old.1 refl) l) [ inl e ↦ absurd (ne e) | inr x ↦ x.0 ] in
      let item : IsItem store.kept (placing.name q) j (placing.name z) = subst (λ (x : Option Object). slice_get (refs_of x) j ≡ Some (Some (placing.name z))) (sym (found-at q mid.words.objects old.0))
      (some-item (object_from start.setup.types placing.name (word_at now.memory.blocks) q).refs j (placing.name z)
      (ref-from start.setup.types placing.name (word_at now.memory.blocks) q j l ∙ (let e : renamed placing.name z ≡ Some (placing.name z) = rw (ne_eqb z 0 ne) refl in e))) in
      elim (s.order.owed (placing.name q) j (placing.name z) part.1 item) [
        | inl known ↦ elim (or_cases (is_in (placing.name z) store.visited) (is_in (placing.name z) (map s.name start.gray)) known) [
          | inl v ↦ inr v
          | inr g ↦
              let n = named-by placing.name (placing.name z) now.gray (subst (λ (xs : List ℕ). IsTrue (is_in (placing.name z) xs)) gray-before g) in
              let same : z ≡ n.place = mid.words.objects.differ z n.place there (old-is_in placing.places n.place (mid.gray n.place n.there)).0 n.is in
              inl (subst (λ (k : ℕ). IsTrue (is_in k new.gray)) (sym same) (queues.more n.place n.there))
        ]
        | inr held_one ↦
            let here : IsTrue (is_held start.remembered q j) = held_place start.remembered placing.name q j
            (λ p u e. mid.words.objects.differ p q (old-is_in placing.places p (mid.carried.held_there p u)).0 old.0 e) (mid.carried.held_named (placing.name q) j ∙ held_one) in
            let laid = laid_out start.setup.types (word_at now.memory.blocks) q in
            let bound = few q far in
            let span = covered q j (omega (arith, l, bound, laid.begins, laid.ordered, laid.pointers, laid.refs)) here in
            elim (queues.all q j (is-spanned spans q j span) (flagged q far ∙ part.1) l ne o) [
              | inl g ↦ inl g
              | inr v ↦ inr (sym (flagged z (is_in-old placing.places z there o)) ∙ v)
            ]
      ]

  -- What the end asks for.
  pub queues_written : QueuesWritten start (word_at now.memory.blocks) placing.name placing.places store.visited written_places now.gray new.gray
  queues_written = record {
    listed = λ q t v. filter-member (λ k. is_in (placing.name k) store.visited) (held_places start.remembered) q t v;
    just = λ q t. let part = filter-part (λ k. is_in (placing.name k) store.visited) (held_places start.remembered) q t in (mid.carried.held_there q part.0, part.1);
    more = queues.more;
    from = λ p t. elim (queues.from p t) [
      | inl g ↦ inl g
      | inr k ↦ inr (record { from = k.from; item = k.item; there = spanned-written k.from k.item k.spanned k.visited; within = k.within; is = k.is; some = k.some; old = k.old })
    ];
    all = all-queued;
  }

-- Where marking does not go on, nothing is visited, and nothing is queued.
pub queues_quiet : {start : HeapParts} {w name : ℕ → ℕ} {places visited gray : List ℕ} → visited ≡ [] → QueuesWritten start w name places visited [] gray gray
queues_quiet {name = name} none = record {
  listed = λ q t v. absurd (is_in-nil (name q) (subst (λ (xs : List ℕ). IsTrue (is_in (name q) xs)) none v));
  just = λ q t. absurd (is_in-nil q t);
  more = λ p t. t;
  from = λ p t. inl t;
  all = λ q j t. absurd (is_in-nil q t);
}
