-- What written items refer to is queued, one behind another.
use Rattle.std.proofs.Common.{◌≡◌, ◌≢◌, ℕ, zero, suc, ◌+◌, ◌<◌, ◌≤◌, ◌⊎◌, Bool, true, false, IsTrue, List, [], ◌∷◌, ◌++◌, Some, slice_get, refl, sym, ap, ◌∙◌, subst, inl, inr, arith}
use Rattle.std.specs.Prelude.{◌==◌, ◌&&◌, ◌||◌, not, nat_le, nat_lt}
use Rattle.std.specs.List.{list_any}
use Rattle.std.specs.List.Sorted.{IsPermutation}
use Rattle.std.proofs.lemmas.List.Folds.{list_any-append}
use Rattle.std.proofs.lemmas.List.Sorted.{list_any-IsPermutation}
use Rattle.std.proofs.lemmas.Bool.{cases_Bool, ne_eqb, eq-eqb}
use Rattle.std.proofs.lemmas.Bool.Decides.{eqb_tells, nat_tests}
use Rattle.heap_space.specs.Places.{has}
use Rattle.object_view.proofs.LayoutLaws.{laid_out}
use Rattle.object_view.proofs.SpaceLaws.{lies-at}
use Rattle.object_header.specs.Words.{has_flag}
use Rattle.object_header.specs.declared.flags.Flag.TheVariants.{Visited}
use Rattle.object_view.specs.Views.{view_at}
use Rattle.object_view.specs.declared.fields.ObjView.{ObjView}
use Rattle.object_model.specs.Sets.{is_in}
use Rattle.object_model.proofs.Members.{is_in-last, is_in-before, is_in-append}
use Rattle.remember_cards.specs.declared.Span.{Span}
use Rattle.heap_parts.specs.Parts.{HeapParts, word_in}
use Rattle.heap_parts.specs.Places.{is_young}
use Rattle.minor_collect.specs.Queues.{CanQueue, CanQueueSpans, Queues, IsReferent, has_item, is_spanned, queued_with, is_to_queue, ref_word, refs_at}

-- a span has just its items
pub has-item : (q j : ℕ) (span : Span) → IsTrue (has_item q j span) → (q ≡ span.a) × (span.from ≤ j) × (j < span.to)
has-item q j span t = (at t, low t, high t)
  where
    at : ((q == span.a) && (nat_le span.from j && nat_lt j span.to)) ≡ true → q ≡ span.a
    at e = grind (arith, nat_tests, e)

    low : ((q == span.a) && (nat_le span.from j && nat_lt j span.to)) ≡ true → span.from ≤ j
    low e = grind (arith, nat_tests, e)

    high : ((q == span.a) && (nat_le span.from j && nat_lt j span.to)) ≡ true → j < span.to
    high e = grind (arith, nat_tests, e)

pub item-has : (span : Span) (j : ℕ) → span.from ≤ j → j < span.to → IsTrue (has_item span.a j span)
item-has span j low high = grind (arith, nat_tests, low, high)

one-or : (b : Bool) → IsTrue (b || false) → IsTrue b
one-or true t = refl
one-or false t = t

or-one : (b : Bool) → IsTrue b → IsTrue (b || false)
or-one true t = refl
or-one false t = t

-- So far the items of a span below k were queued.
pub record QueuesItems (old new : HeapParts) (span : Span) (k : ℕ) : Type 0 where
  pub only : new ≡ record old { gray = new.gray }
  pub more : (p : ℕ) → IsTrue (is_in p old.gray) → IsTrue (is_in p new.gray)
  pub from : (p : ℕ) → IsTrue (is_in p new.gray) → IsTrue (is_in p old.gray) ⊎ IsReferent old (span ∷ []) p
  pub all : (j : ℕ) → span.from ≤ j → j < k → ref_word old span.a j ≢ 0 → is_young (ref_word old span.a j) ≡ false
      → IsTrue (is_in (ref_word old span.a j) new.gray) ⊎ (has_flag (word_in old (ref_word old span.a j)) Visited ≡ true)

pub queue_begin : (heap : HeapParts) (span : Span) → QueuesItems heap heap span span.from
queue_begin heap span = record { only = refl; more = λ p t. t; from = λ p t. inl t; all = λ j low l. absurd (omega (arith, low, l)) }

-- the item that was looked at
pub ref_of_view : (old now : HeapParts) (q k : ℕ) (v : ObjView) → v ≡ view_at old.setup.types (word_in old) q → now ≡ record old { gray = now.gray } → word_in now (v.ref_start + k) ≡ ref_word old q k
ref_of_view old now q k v is only = ap (λ (h : HeapParts). word_in h (v.ref_start + k)) only ∙ ap (λ (x : ObjView). word_in old (x.ref_start + k)) is

pub queue_next : (old now new : HeapParts) (span : Span) (k y : ℕ) → QueuesItems old now span k → has_flag (word_in old span.a) Visited ≡ true → span.from ≤ k → k < span.to → k < refs_at old span.a
    → y ≡ ref_word old span.a k → new ≡ record now { gray = queued_with (is_to_queue now y) now.gray y } → QueuesItems old new span (k + 1)
queue_next old now new span k y s visited low high l is new_is =
    let q : ℕ = span.a in
    let same : is_to_queue now y ≡ is_to_queue old y = ap (λ (h : HeapParts). is_to_queue h y) s.only in
    let gray : new.gray ≡ queued_with (is_to_queue old y) now.gray y = ap (λ (h : HeapParts). h.gray) new_is ∙ ap (λ (b : Bool). queued_with b now.gray y) same in
    let G : Bool → List ℕ = λ b. queued_with b now.gray y in
    let keeps : (b : Bool) (p : ℕ) → IsTrue (is_in p now.gray) → IsTrue (is_in p (queued_with b now.gray y)) = kept now.gray y in
    record {
      only = new_is ∙ (ap (λ (h : HeapParts). record h { gray = queued_with (is_to_queue now y) now.gray y }) s.only ∙ ap (λ (g : List ℕ). record old { gray = g }) (sym (ap (λ (h : HeapParts). h.gray) new_is)));
      more = λ p t. subst (λ (g : List ℕ). IsTrue (is_in p g)) (sym gray) (keeps (is_to_queue old y) p (s.more p t));
      from = λ p t. elim (came now.gray y p (is_to_queue old y) refl (subst (λ (g : List ℕ). IsTrue (is_in p g)) gray t)) [
        | inl before ↦ s.from p before
        | inr here ↦ inr (record {
          from = q;
          item = k;
          spanned = or-one (has_item q k span) (item-has span k low high);
          visited = visited;
          within = l;
          is = here.0 ∙ is;
          some = λ z. some-of old y here.1 (sym here.0 ∙ z);
          old = ap is_young here.0 ∙ old-of old y here.1;
        })
      ];
      all = λ j from less ne o. elim (eqb_tells j k) [
        | inl e ↦
            let at : ref_word old q j ≡ y = ap (ref_word old q) e.1 ∙ sym is in
            elim (cases_Bool (is_to_queue old y)) [
              | inl asked ↦ inl (subst (λ (g : List ℕ). IsTrue (is_in (ref_word old q j) g)) (sym (gray ∙ ap G asked)) (subst (λ (z : ℕ). IsTrue (is_in z (now.gray ++ y ∷ []))) (sym at) (is_in-last now.gray y)))
              | inr not_asked ↦ inr (ap (λ (z : ℕ). has_flag (word_in old z) Visited) at ∙ visited-of old y not_asked (λ z. ne (at ∙ z)) (ap is_young (sym at) ∙ o))
            ]
        | inr n ↦ elim (s.all j from (search (arith, less, n.1)) ne o) [
          | inl t ↦ inl (subst (λ (g : List ℕ). IsTrue (is_in (ref_word old q j) g)) (sym gray) (keeps (is_to_queue old y) (ref_word old q j) t))
          | inr v ↦ inr v
        ]
      ];
    }
  where
    kept : (gray : List ℕ) (y : ℕ) (b : Bool) (p : ℕ) → IsTrue (is_in p gray) → IsTrue (is_in p (queued_with b gray y))
    kept gray y true p t = is_in-before gray y p t
    kept gray y false p t = t

    came : (gray : List ℕ) (y p : ℕ) (b : Bool) → {c : Bool} → c ≡ b → IsTrue (is_in p (queued_with b gray y)) → IsTrue (is_in p gray) ⊎ ((p ≡ y) × (c ≡ true))
    came gray y p true e t = elim (is_in-append gray y p t) [ inl same ↦ inr (same, e) | inr u ↦ inl u ]
    came gray y p false e t = inl t

    some-of : (heap : HeapParts) (y : ℕ) → is_to_queue heap y ≡ true → y ≢ 0
    some-of heap y e z = absurd (let f : is_to_queue heap y ≡ false = rw (eq-eqb y 0 z) refl in let no : ⊥ = cc in no)

    old-of : (heap : HeapParts) (y : ℕ) → is_to_queue heap y ≡ true → is_young y ≡ false
    old-of heap y e = elim (cases_Bool (is_young y)) [
      | inl young ↦ absurd (let f : is_to_queue heap y ≡ (not (y == 0) && false) = rw young refl in let g : (not (y == 0) && false) ≡ false = and-false (not (y == 0)) in let no : ⊥ = cc in no)
      | inr o ↦ o
    ]
      where
        and-false : (b : Bool) → (b && false) ≡ false
        and-false true = refl
        and-false false = refl

    visited-of : (heap : HeapParts) (y : ℕ) → is_to_queue heap y ≡ false → y ≢ 0 → is_young y ≡ false → has_flag (word_in heap y) Visited ≡ true
    visited-of heap y e ne o =
        let f : is_to_queue heap y ≡ not (has_flag (word_in heap y) Visited) = rw (ne_eqb y 0 ne, o) refl in
        flip (has_flag (word_in heap y) Visited) (sym f ∙ e)
      where
        flip : (b : Bool) → not b ≡ false → b ≡ true
        flip true e2 = refl
        flip false e2 = absurd (let no : ⊥ = cc in no)

pub queue_end : (old new : HeapParts) (span : Span) (k : ℕ) → QueuesItems old new span k → ((j : ℕ) → j < span.to → j < refs_at old span.a → j < k) → Queues old new (span ∷ [])
queue_end old new span k s l = record {
  only = s.only;
  more = s.more;
  from = s.from;
  all = λ x j t v less ne o.
      let h = has-item x j span (one-or (has_item x j span) t) in
      let P : ℕ → Type 0 = λ z. j < refs_at old z → ref_word old z j ≢ 0 → is_young (ref_word old z j) ≡ false → IsTrue (is_in (ref_word old z j) new.gray) ⊎ (has_flag (word_in old (ref_word old z j)) Visited ≡ true) in
      subst P (sym h.0) (λ less2 ne2 o2. s.all j h.1 (l j h.2 less2) ne2 o2) less ne o;
}

-- a span of what was not visited queues nothing
pub queue_unvisited : (heap : HeapParts) (span : Span) → has_flag (word_in heap span.a) Visited ≡ false → Queues heap heap (span ∷ [])
queue_unvisited heap span unvisited = record {
  only = refl;
  more = λ p t. t;
  from = λ p t. inl t;
  all = λ q j t v.
      let h = has-item q j span (one-or (has_item q j span) t) in
      let seen : has_flag (word_in heap span.a) Visited ≡ true = subst (λ (z : ℕ). has_flag (word_in heap z) Visited ≡ true) h.0 v in
      absurd (let no : ⊥ = cc in no);
}

-- no span yet
pub queues_none : (heap : HeapParts) → Queues heap heap []
queues_none heap = record { only = refl; more = λ p t. t; from = λ p t. inl t; all = λ q j t. absurd (let no : ⊥ = cc in no) }

pub or-first : (a b : Bool) → IsTrue a → IsTrue (a || b)
or-first true b v = refl
or-first false b v = absurd (let no : ⊥ = cc in no)

pub or-second : (a b : Bool) → IsTrue b → IsTrue (a || b)
or-second true b v = refl
or-second false b v = v

pub either : (a b : Bool) → IsTrue (a || b) → IsTrue a ⊎ IsTrue b
either true b v = inl refl
either false b v = inr v

spanned-append : (q j : ℕ) (xs ys : List Span) → is_spanned (xs ++ ys) q j ≡ (is_spanned xs q j || is_spanned ys q j)
spanned-append q j xs ys = list_any-append (has_item q j) xs ys

-- and one span more
pub queues_more : (old now new : HeapParts) (done : List Span) (span : Span) → Queues old now done → Queues now new (span ∷ []) → Queues old new (done ++ span ∷ [])
queues_more old now new done span s t = record {
  only = t.only ∙ ap (λ (h : HeapParts). record h { gray = new.gray }) s.only;
  more = λ p u. t.more p (s.more p u);
  from = λ p u. elim (t.from p u) [
    | inl before ↦ elim (s.from p before) [
      | inl old_gray ↦ inl old_gray
      | inr r ↦ inr (record {
        from = r.from;
        item = r.item;
        spanned = spanned-append r.from r.item done (span ∷ []) ∙ or-first (is_spanned done r.from r.item) (is_spanned (span ∷ []) r.from r.item) r.spanned;
        visited = r.visited;
        within = r.within;
        is = r.is;
        some = r.some;
        old = r.old;
      })
    ]
    | inr r ↦ inr (record {
      from = r.from;
      item = r.item;
      spanned = spanned-append r.from r.item done (span ∷ []) ∙ or-second (is_spanned done r.from r.item) (is_spanned (span ∷ []) r.from r.item) r.spanned;
      visited = subst (λ (h : HeapParts). has_flag (word_in h r.from) Visited ≡ true) s.only r.visited;
      within = subst (λ (h : HeapParts). r.item < refs_at h r.from) s.only r.within;
      is = r.is ∙ ap (λ (h : HeapParts). ref_word h r.from r.item) s.only;
      some = r.some;
      old = r.old;
    })
  ];
  all = λ x j u v less ne o. elim (either (is_spanned done x j) (is_spanned (span ∷ []) x j) (sym (spanned-append x j done (span ∷ [])) ∙ u)) [
    | inl before ↦ elim (s.all x j before v less ne o) [ inl w ↦ inl (t.more (ref_word old x j) w) | inr w ↦ inr w ]
    | inr here ↦
        let P : HeapParts → Type 0 = λ h. has_flag (word_in h x) Visited ≡ true → j < refs_at h x → ref_word h x j ≢ 0 → is_young (ref_word h x j) ≡ false
        → IsTrue (is_in (ref_word h x j) new.gray) ⊎ (has_flag (word_in h (ref_word h x j)) Visited ≡ true) in
        subst P s.only (t.all x j here) v less ne o
  ];
}

-- what can be queued can be so once other places were
pub can_queue_now : (old now : HeapParts) (q : ℕ) → CanQueue old q → now ≡ record old { gray = now.gray } → CanQueue now q
can_queue_now old now q c only = subst (λ (h : HeapParts). CanQueue h q) (sym only) (record { object = c.object; leads = c.leads })

-- the order of the spans does not matter
pub can_queue_ordered : (heap : HeapParts) (xs ys : List Span) → IsPermutation xs ys → CanQueueSpans heap xs → CanQueueSpans heap ys
can_queue_ordered heap xs ys p can q t = can q (list_any-IsPermutation (λ (span : Span). q == span.a) xs ys p ∙ t)

pub queues_ordered : (old new : HeapParts) (xs ys : List Span) → IsPermutation xs ys → Queues old new ys → Queues old new xs
queues_ordered old new xs ys p s = record {
  only = s.only;
  more = s.more;
  from = λ k t. elim (s.from k t) [
    | inl g ↦ inl g
    | inr r ↦ inr (record { from = r.from; item = r.item; spanned = same r.from r.item ∙ r.spanned; visited = r.visited; within = r.within; is = r.is; some = r.some; old = r.old })
  ];
  all = λ q j t v less ne o. s.all q j (sym (same q j) ∙ t) v less ne o;
}
  where
    same : (q j : ℕ) → is_spanned xs q j ≡ is_spanned ys q j
    same q j = list_any-IsPermutation (has_item q j) xs ys p

-- one of the spans
pub has-span : (spans : List Span) (k : ℕ) (span : Span) → slice_get spans k ≡ Some span → IsTrue (list_any (λ (x : Span). span.a == x.a) spans)
has-span [] k span e = absurd (let no : ⊥ = cc in no)
has-span (x ∷ spans) zero span e =
    let same : x ≡ span = cc in
    let first : (span.a == x.a) ≡ true = eq-eqb span.a x.a (ap (λ (y : Span). y.a) (sym same)) in
    rw first refl
has-span (x ∷ spans) (suc k) span e = or-second (span.a == x.a) (list_any (λ (y : Span). span.a == y.a) spans) (has-span spans k span e)

-- the first word of what can be queued
pub queue_head : (heap : HeapParts) (q : ℕ) → CanQueue heap q → IsTrue (has heap.memory.blocks q)
queue_head heap q c =
    let size = (laid_out heap.setup.types (word_in heap) q).header in
    lies-at heap.memory.blocks q _ q c.object.whole (omega arith) (omega (arith, size))
