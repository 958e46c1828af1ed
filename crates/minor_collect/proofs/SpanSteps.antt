-- Spans are taken, until nothing is remembered.
use Rattle.std.proofs.Common.{◌≡◌, ℕ, zero, suc, ◌<◌, ◌≤◌, ◌⊎◌, IsTrue, List, [], ◌∷◌, ◌++◌, map, take, drop, Some, slice_get, length, refl, sym, ap, ap₂, ◌∙◌, subst, inl, inr, arith}
use Rattle.std.proofs.lemmas.Bool.Decides.{eqb_tells}
use Rattle.std.proofs.lemmas.List.{take-append-drop, length-append}
use Rattle.heap_space.specs.Memory.{Memory}
use Rattle.object_model.specs.Sets.{is_in}
use Rattle.remember_cards.specs.declared.Span.{Span}
use Rattle.remember_cards.specs.Remembered.{Held, Remembered, held_whole, held_places, is_held}
use Rattle.remember_cards.specs.Remembering.{Remembering, remembered_by}
use Rattle.remember_cards.specs.Drained.{HandsOut}
use Rattle.heap_parts.specs.Parts.{HeapParts}
use Rattle.minor_collect.specs.Calls.{Middle}
use Rattle.minor_collect.specs.Spans.{IsSpanned, with_remember, CanTakeSpans, KeepsMiddle, TakesSpans, CanTakeAll, TookAll}

get-front : (xs ys : List Span) (z : Span) (k : ℕ) → slice_get xs k ≡ Some z → slice_get (xs ++ ys) k ≡ Some z
get-front [] ys z k e = absurd (let no : ⊥ = cc in no)
get-front (x ∷ xs) ys z zero e = e
get-front (x ∷ xs) ys z (suc k) e = get-front xs ys z k e

get-last : (xs : List Span) (y : Span) → slice_get (xs ++ y ∷ []) (length xs) ≡ Some y
get-last [] y = refl
get-last (x ∷ xs) y = get-last xs y

get-cases : (xs : List Span) (y z : Span) (k : ℕ) → slice_get (xs ++ y ∷ []) k ≡ Some z → (slice_get xs k ≡ Some z) ⊎ (z ≡ y)
get-cases [] y z zero e = inr (let same : z ≡ y = cc in same)
get-cases [] y z (suc k) e = absurd (let no : ⊥ = cc in no)
get-cases (x ∷ xs) y z zero e = inl e
get-cases (x ∷ xs) y z (suc k) e = get-cases xs y z k e

spanned-more : (spans : List Span) (y : Span) (q i : ℕ) → IsSpanned spans q i → IsSpanned (spans ++ y ∷ []) q i
spanned-more spans y q i s = record { number = s.number; span = s.span; listed = get-front spans (y ∷ []) s.span s.number s.listed; here = s.here; low = s.low; high = s.high }

-- nothing is taken yet
pub takes_none : (memory : Memory) (remember : Remembering) (spans : List Span) → TakesSpans memory remember spans memory remember spans
takes_none memory remember spans = record {
  keeps = λ stage heap spot part middle.
      let same : heap ≡ with_remember heap memory remember = λ j. record heap { memory = part.memory_is j; remembered = part.remembered_is j } in
      subst (λ (h : HeapParts). Middle stage h spot []) same middle;
  covered = λ q i l t. inr t;
  more = λ q i s. s;
  fewer = λ q i t. t;
  among = λ q t. t;
  sound = λ k span e. inl e;
}

keeps-twice : {a b c : Memory} {r s : Remembering} (t : Remembering) → KeepsMiddle a r b s → KeepsMiddle b s c t → KeepsMiddle a r c t
keeps-twice {b = b} {s = s} t f g stage heap spot part middle = g stage (with_remember heap b s) spot (record { memory_is = refl; remembered_is = refl }) (f stage heap spot part middle)

-- one span more
pub takes_more : {memory now new : Memory} {remember rest less : Remembering} {before spans : List Span} {span : Span} → TakesSpans memory remember before now rest spans → KeepsMiddle now rest new less → HandsOut rest less span
    → TakesSpans memory remember before new less (spans ++ span ∷ [])
takes_more {remember = remember} {rest = rest} {less = less} {spans = spans} {span = span} s keeps h = record {
  keeps = keeps-twice less s.keeps keeps;
  covered = λ q i l t. elim (s.covered q i l t) [
    | inl u ↦ inl (spanned-more spans span q i u)
    | inr u ↦ elim (eqb_tells q span.a) [
      | inl e ↦ elim (h.covered i l (subst (λ (k : ℕ). IsTrue (is_held (remembered_by rest) k i)) e.1 u)) [
        | inl range ↦ inl (record { number = length spans; span = span; listed = get-last spans span; here = sym e.1; low = range.0; high = range.1 })
        | inr v ↦ inr (subst (λ (k : ℕ). IsTrue (is_held (remembered_by less) k i)) (sym e.1) v)
      ]
      | inr ne ↦ inr (h.others q i ne.1 ∙ u)
    ]
  ];
  more = λ q i u. spanned-more spans span q i (s.more q i u);
  fewer = fewer;
  among = λ q t. s.among q (h.among q t);
  sound = λ k z e. elim (get-cases spans span z k e) [
    | inl old ↦ s.sound k z old
    | inr same ↦ inr (subst (λ (y : Span). IsTrue (is_in y.a (held_places (remembered_by remember))) × ((i : ℕ) → y.from ≤ i → i < y.to → IsTrue (is_held (remembered_by remember) y.a i))) (sym same)
        (s.among span.a h.there, λ i low high. s.fewer span.a i (h.handed i low high)))
  ];
}
  where
    fewer : (q i : ℕ) → IsTrue (is_held (remembered_by less) q i) → IsTrue (is_held (remembered_by remember) q i)
    fewer q i t = elim (eqb_tells q span.a) [
      | inl e ↦ s.fewer q i (subst (λ (k : ℕ). IsTrue (is_held (remembered_by rest) k i)) (sym e.1) (h.fewer i (subst (λ (k : ℕ). IsTrue (is_held (remembered_by less) k i)) e.1 t)))
      | inr ne ↦ s.fewer q i (sym (h.others q i ne.1) ∙ t)
    ]

-- nothing more was to be handed out
pub takes_last : {memory now new : Memory} {remember rest less : Remembering} {before spans : List Span} → TakesSpans memory remember before now rest spans → new ≡ now → remembered_by less ≡ remembered_by rest
    → TakesSpans memory remember before new less spans
takes_last {now = now} {new = new} {rest = rest} {less = less} s memory_is same = record {
  keeps = λ stage heap spot part middle.
      let is : with_remember heap now rest ≡ with_remember heap new less = λ j. record heap { memory = sym memory_is j; remembered = sym same j } in
      subst (λ (h : HeapParts). Middle stage h spot []) is (s.keeps stage heap spot part middle);
  covered = λ q i l t. elim (s.covered q i l t) [ inl u ↦ inl u | inr u ↦ inr (ap (λ (r : Remembered). is_held r q i) same ∙ u) ];
  more = s.more;
  fewer = λ q i t. s.fewer q i (ap (λ (r : Remembered). is_held r q i) (sym same) ∙ t);
  among = λ q t. s.among q (subst (λ (r : Remembered). IsTrue (is_in q (held_places r))) same t);
  sound = s.sound;
}

pub takes_twice : {memory now new : Memory} {remember rest less : Remembering} {before spans last : List Span} → TakesSpans memory remember before now rest spans → TakesSpans now rest spans new less last
    → TakesSpans memory remember before new less last
takes_twice {remember = remember} {less = less} s t = record {
  keeps = keeps-twice less s.keeps t.keeps;
  covered = λ q i l u. elim (s.covered q i l u) [ inl v ↦ inl (t.more q i v) | inr v ↦ t.covered q i l v ];
  more = λ q i u. t.more q i (s.more q i u);
  fewer = λ q i u. s.fewer q i (t.fewer q i u);
  among = λ q u. s.among q (t.among q u);
  sound = λ k span e. elim (t.sound k span e) [
    | inl old ↦ s.sound k span old
    | inr new ↦ inr (s.among span.a new.0, λ i low high. s.fewer span.a i (new.1 i low high))
  ];
}

no-span : (spans : List Span) (k : ℕ) (span : Span) → spans ≡ [] → slice_get spans k ≡ Some span → ⊥
no-span [] k span e s = let no : ⊥ = cc in no
no-span (x ∷ xs) k span e s = let no : ⊥ = cc in no

-- a list has the span
record IsListed (spans : List Span) (span : Span) : Type 0 where
  number : ℕ
  listed : slice_get spans number ≡ Some span

listed-behind : (xs ys : List Span) (z : Span) → IsListed ys z → IsListed (xs ++ ys) z
listed-behind [] ys z l = l
listed-behind (x ∷ xs) ys z l = let m = listed-behind xs ys z l in record { number = suc m.number; listed = m.listed }

get-part : (xs ys : List Span) (z : Span) (k : ℕ) → slice_get (xs ++ ys) k ≡ Some z → (slice_get xs k ≡ Some z) ⊎ IsListed ys z
get-part [] ys z k e = inr (record { number = k; listed = e })
get-part (x ∷ xs) ys z zero e = inl e
get-part (x ∷ xs) ys z (suc k) e = get-part xs ys z k e

-- what is in two lists is so in the other order
get-other : (xs ys : List Span) (z : Span) (k : ℕ) → slice_get (xs ++ ys) k ≡ Some z → IsListed (ys ++ xs) z
get-other xs ys z k e = elim (get-part xs ys z k e) [
  | inl first ↦ listed-behind ys xs z (record { number = k; listed = first })
  | inr second ↦ record { number = second.number; listed = get-front ys xs z second.number second.listed }
]

spanned-other : (xs ys : List Span) (q i : ℕ) → IsSpanned (xs ++ ys) q i → IsSpanned (ys ++ xs) q i
spanned-other xs ys q i s = let l = get-other xs ys s.span s.number s.listed in
    record { number = l.number; span = s.span; listed = l.listed; here = s.here; low = s.low; high = s.high }

-- the first spans go behind the others
pub takes_turned : {memory new : Memory} {remember after : Remembering} {before spans : List Span} (n : ℕ) → before ≡ [] → TakesSpans memory remember before new after spans
    → TakesSpans memory remember before new after (drop n spans ++ take n spans)
takes_turned {before = before} {spans = spans} n empty s = record {
  keeps = s.keeps;
  covered = λ q i l t. elim (s.covered q i l t) [ inl u ↦ inl (turned q i u) | inr v ↦ inr v ];
  more = λ q i u. turned q i (s.more q i u);
  fewer = s.fewer;
  among = s.among;
  sound = λ k span e.
      let l = get-other (drop n spans) (take n spans) span k e in
      elim (s.sound l.number span (subst (λ (xs : List Span). slice_get xs l.number ≡ Some span) (take-append-drop n spans) l.listed)) [
        | inl old ↦ absurd (no-span before l.number span empty old)
        | inr new ↦ inr new
      ];
}
  where
    turned : (q i : ℕ) → IsSpanned spans q i → IsSpanned (drop n spans ++ take n spans) q i
    turned q i u = spanned-other (take n spans) (drop n spans) q i (subst (λ (xs : List Span). IsSpanned xs q i) (sym (take-append-drop n spans)) u)

-- more can be taken
pub can_take_more : {memory now : Memory} {remember rest : Remembering} {before spans : List Span} → CanTakeSpans memory remember → TakesSpans memory remember before now rest spans → CanTakeSpans now rest
can_take_more {now = now} {rest = rest} c s = record {
  stage = c.stage;
  heap = with_remember c.heap now rest;
  spot = c.spot;
  part = record { memory_is = refl; remembered_is = refl };
  middle = s.keeps c.stage c.heap c.spot c.part c.middle;
}

-- and what is kept stays so
pub record TakesSome (memory : Memory) (remember : Remembering) (before : List Span) (new : Memory) (after : Remembering) (spans : List Span) : Type 0 where
  pub takes : TakesSpans memory remember before new after spans
  pub kept : after.kept ≡ remember.kept
  pub more : length before ≤ length spans

-- the list gets longer
pub longer : {n : ℕ} (spans : List Span) (span : Span) → n ≤ length spans → n ≤ length (spans ++ span ∷ [])
longer spans span l = omega (arith, l, length-append spans (span ∷ []))

-- what one heap has
pub can_take_spans : (now : HeapParts) (memory : Memory) (remember : Remembering) → CanTakeAll now → now.memory ≡ memory → now.remembered ≡ remembered_by remember → CanTakeSpans memory remember
can_take_spans now memory remember c memory_is remembered_is = record { stage = c.stage; heap = now; spot = c.spot; part = record { memory_is = memory_is; remembered_is = remembered_is }; middle = c.middle }

none-held : (card : ℕ) (q i : ℕ) → IsTrue (is_held (record { card = card; held = [] }) q i) → ⊥
none-held card q i t = let no : ⊥ = cc in no

-- all of it was taken
pub took_all : (now : HeapParts) (new : Memory) (remember after : Remembering) (before spans : List Span) → now.remembered ≡ remembered_by remember → before ≡ []
    → TakesSpans now.memory remember before new after spans → (after.entries ≡ []) × (after.kept ≡ []) → TookAll now (with_remember now new after) spans
took_all now new remember after before spans is empty t none =
    let held : (remembered_by after).held ≡ [] = ap₂ (λ (kept : List ℕ) (entries : List Held). map held_whole kept ++ entries) none.1 none.0 in
    record {
      keeps = λ stage spot middle. t.keeps stage now spot (record { memory_is = refl; remembered_is = is }) middle;
      covered = λ q i l u. elim (t.covered q i l (ap (λ (r : Remembered). is_held r q i) (sym is) ∙ u)) [
        | inl s ↦ s
        | inr v ↦ absurd (none-held after.card q i (ap (λ (hs : List Held). is_held (record { card = after.card; held = hs }) q i) (sym held) ∙ v))
      ];
      sound = λ k span e. elim (t.sound k span e) [
        | inl old ↦ absurd (no-span before k span empty old)
        | inr s ↦ (subst (λ (r : Remembered). IsTrue (is_in span.a (held_places r))) (sym is) s.0, λ i low high. ap (λ (r : Remembered). is_held r span.a i) is ∙ s.1 i low high)
      ];
      empty = held;
      only = refl;
    }
