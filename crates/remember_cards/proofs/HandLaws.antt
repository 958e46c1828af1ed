-- What the handing out of a span is to all that is remembered.
use Rattle.std.proofs.Common.{◌≡◌, ◌≢◌, ℕ, ◌+◌, ◌*◌, ◌/◌, ◌%◌, ◌<◌, ◌≤◌, ◌⊎◌, Bool, true, false, IsTrue, List, [], ◌∷◌, ◌++◌, map, Option, IfSome, refl, sym, ap, ap₂, ◌∙◌, subst, inl, inr, arith}
use Rattle.std.specs.Prelude.{◌==◌, ◌&&◌, ◌||◌}
use Rattle.std.specs.List.{list_any}
use Rattle.std.proofs.lemmas.Bool.{eq-eqb, ne_eqb, cases_order}
use Rattle.std.proofs.Math.Nat.{min-le_left, min-le_right, min-eq_left, min-eq_right, le-min, mul_comm, div-eq_of_lt-le, div-add-mod, mod-lt}
use Rattle.std.proofs.lemmas.List.{map-append}
use Rattle.std.proofs.lemmas.List.Folds.{list_any-append}
use Rattle.object_model.proofs.Members.{is_in-head, is_in-tail, is_in-cases}
use Rattle.object_model.specs.Sets.{is_in}
use Rattle.remember_cards.specs.declared.Span.{Span}
use Rattle.remember_cards.specs.Remembered.{Held, held_whole, is_whole_among, holds_item, has_any}
use Rattle.remember_cards.specs.Remembering.{Remembering}
use Rattle.remember_cards.specs.Entries.{AreOrderly}
use Rattle.remember_cards.specs.Drained.{HandsOut, span_of, next_span, left_of, limited, whole_span, card_span}
use Rattle.remember_cards.proofs.EntryLaws.{places_of, any_absent, or-either, or-first, or-second}
use Rattle.remember_cards.proofs.RememberLaws.{and-both, and-second}

any-either : {X : Type 0} (f : X → Bool) (xs ys : List X) → IsTrue (list_any f (xs ++ ys)) → IsTrue (list_any f xs) ⊎ IsTrue (list_any f ys)
any-either f xs ys t = or-either (list_any f xs) (list_any f ys) (sym (list_any-append f xs ys) ∙ t)

any-left : {X : Type 0} (f : X → Bool) (xs ys : List X) → IsTrue (list_any f xs) → IsTrue (list_any f (xs ++ ys))
any-left f xs ys t = list_any-append f xs ys ∙ or-first (list_any f xs) (list_any f ys) t

any-right : {X : Type 0} (f : X → Bool) (xs ys : List X) → IsTrue (list_any f ys) → IsTrue (list_any f (xs ++ ys))
any-right f xs ys t = list_any-append f xs ys ∙ or-second (list_any f xs) (list_any f ys) t

-- what is left of an entry: nothing of another place, nothing whole, and no other items
pub record Part (card : ℕ) (h : Held) (xs : List Held) : Type 0 where
  pub items : (i : ℕ) → IsTrue (list_any (λ e. e.place == h.place && holds_item card e i) xs) → IsTrue (holds_item card h i)
  pub others : (F : Held → Bool) (q : ℕ) → q ≢ h.place → list_any (λ e. e.place == q && F e) xs ≡ false
  pub whole : is_whole_among xs h.place ≡ false
  pub places : (q : ℕ) → IsTrue (is_in q (places_of xs)) → q ≡ h.place

kept-whole : (kept : List ℕ) (p : ℕ) → is_whole_among (map held_whole kept) p ≡ is_in p kept
kept-whole [] p = refl
kept-whole (k ∷ kept) p = ap₂ (λ (a b : Bool). a || b) (and-true (k == p)) (kept-whole kept p)
  where
    and-true : (b : Bool) → (b && true) ≡ b
    and-true true = refl
    and-true false = refl

module _ (card : ℕ) (kept : List ℕ) (h : Held) (rest xs : List Held) (low high : ℕ) (gone : is_in h.place (places_of rest) ≡ false) (part : Part card h xs)
    (items : (i : ℕ) → low ≤ i → i < high → IsTrue (holds_item card h i))
    (split : (i : ℕ) → i < 18446744073709551615 → IsTrue (holds_item card h i)
    → ((low ≤ i) × (i < high)) ⊎ IsTrue (list_any (λ e. e.place == h.place && holds_item card e i) xs)) where
  abbrev all-kept : List Held
  all-kept = map held_whole kept

  other-any : (F : Held → Bool) (q : ℕ) → q ≢ h.place
      → list_any (λ e. e.place == q && F e) (all-kept ++ (xs ++ rest)) ≡ list_any (λ e. e.place == q && F e) (all-kept ++ h ∷ rest)
  other-any F q ne =
      let f : Held → Bool = λ e. e.place == q && F e in
      let none : f h ≡ false = rw (ne_eqb h.place q (λ e. ne (sym e))) refl in
      list_any-append f all-kept (xs ++ rest)
      ∙ (ap (λ (b : Bool). list_any f all-kept || b) (list_any-append f xs rest ∙ (ap (λ (b : Bool). b || list_any f rest) (part.others F q ne) ∙ sym (ap (λ (b : Bool). b || list_any f rest) none)))
      ∙ sym (list_any-append f all-kept (h ∷ rest)))

  places-old : (q : ℕ) → (IsTrue (is_in q (places_of all-kept)) ⊎ IsTrue (is_in q (h.place ∷ places_of rest))) → IsTrue (is_in q (places_of (all-kept ++ h ∷ rest)))
  places-old q u =
      subst (λ (ps : List ℕ). IsTrue (is_in q ps)) (sym (map-append (λ (e : Held). e.place) all-kept (h ∷ rest)))
      (elim u [
        | inl k ↦ any-left (λ y. y == q) (places_of all-kept) (h.place ∷ places_of rest) k
        | inr r ↦ any-right (λ y. y == q) (places_of all-kept) (h.place ∷ places_of rest) r
      ])

  pub hands : HandsOut (record { card = card; entries = h ∷ rest; kept = kept }) (record { card = card; entries = xs ++ rest; kept = kept }) (record { a = h.place; from = low; to = high })
  hands = record {
    there = places-old h.place (inr (is_in-head h.place (places_of rest)));
    handed = λ i l r. any-right (λ e. e.place == h.place && holds_item card e i) all-kept (h ∷ rest)
        (or-first (h.place == h.place && holds_item card h i) (list_any (λ e. e.place == h.place && holds_item card e i) rest)
        (and-both (h.place == h.place) (holds_item card h i) (eq-eqb h.place h.place refl) (items i l r)));
    covered = λ i b t. let f : Held → Bool = λ e. e.place == h.place && holds_item card e i in
        elim (any-either f all-kept (h ∷ rest) t) [
          | inl k ↦ inr (any-left f all-kept (xs ++ rest) k)
          | inr x ↦ elim (or-either (f h) (list_any f rest) x) [
            | inl here ↦ elim (split i b (and-second (h.place == h.place) (holds_item card h i) here)) [
              | inl inside ↦ inl inside
              | inr u ↦ inr (any-right f all-kept (xs ++ rest) (any-left f xs rest u))
            ]
            | inr r ↦ inr (any-right f all-kept (xs ++ rest) (any-right f xs rest r))
          ]
        ];
    fewer = λ i t. let f : Held → Bool = λ e. e.place == h.place && holds_item card e i in
        elim (any-either f all-kept (xs ++ rest) t) [
          | inl k ↦ any-left f all-kept (h ∷ rest) k
          | inr x ↦ any-right f all-kept (h ∷ rest) (elim (any-either f xs rest x) [
            | inl u ↦ or-first (f h) (list_any f rest) (and-both (h.place == h.place) (holds_item card h i) (eq-eqb h.place h.place refl) (part.items i u))
            | inr r ↦ or-second (f h) (list_any f rest) r
          ])
        ];
    others = λ q i ne. other-any (λ e. holds_item card e i) q ne;
    among = λ q t.
        elim (any-either (λ y. y == q) (places_of all-kept) (places_of (xs ++ rest)) (subst (λ (ps : List ℕ). IsTrue (is_in q ps)) (map-append (λ (e : Held). e.place) all-kept (xs ++ rest)) t)) [
          | inl k ↦ places-old q (inl k)
          | inr x ↦ places-old q (inr (elim (any-either (λ y. y == q) (places_of xs) (places_of rest) (subst (λ (ps : List ℕ). IsTrue (is_in q ps)) (map-append (λ (e : Held). e.place) xs rest) x)) [
            | inl u ↦ (let F : ℕ → Type 0 = λ y. IsTrue (is_in y (h.place ∷ places_of rest)) in subst F (sym (part.places q u)) (is_in-head h.place (places_of rest)))
            | inr r ↦ is_in-tail q h.place (places_of rest) r
          ]))
        ];
    whole_other = λ q ne. other-any (λ e. e.is_whole) q ne;
    cards_other = λ q ne. other-any (λ e. has_any e.cards) q ne;
    whole_here =
        let f : Held → Bool = λ e. e.place == h.place && e.is_whole in
        list_any-append f all-kept (xs ++ rest)
        ∙ (ap (λ (b : Bool). list_any f all-kept || b) (list_any-append f xs rest ∙ ap₂ (λ (a b : Bool). a || b) part.whole (any_absent (λ e. e.is_whole) rest h.place gone))
        ∙ (or-false (list_any f all-kept) ∙ kept-whole kept h.place));
  }
    where
      or-false : (b : Bool) → (b || false) ≡ b
      or-false true = refl
      or-false false = refl

in-here : (c x : ℕ) (cs : List ℕ) → x ≡ c → IsTrue (is_in x (c ∷ cs))
in-here c x cs e = (let F : ℕ → Type 0 = λ y. IsTrue (is_in y (c ∷ cs)) in subst F (sym e) (is_in-head c cs))

no-part : (card : ℕ) (h : Held) → Part card h []
no-part card h = record {
  items = λ i t. absurd (let no : ⊥ = cc in no);
  others = λ F q ne. refl;
  whole = refl;
  places = λ q t. absurd (let no : ⊥ = cc in no);
}

below-limit : (x i : ℕ) → i < 18446744073709551615 → limited x ≤ i → x ≤ i
below-limit x i b low = elim (cases_order x 18446744073709551615) [
  | inl e ↦ let same : limited x ≡ x = min-eq_left {n = x} {m = 18446744073709551615} (omega (arith, e)) in omega (arith, low, same)
  | inr (inl l) ↦ let same : limited x ≡ x = min-eq_left {n = x} {m = 18446744073709551615} (omega (arith, l)) in omega (arith, low, same)
  | inr (inr g) ↦ let same : limited x ≡ 18446744073709551615 = min-eq_right {n = 18446744073709551615} {m = x} (omega (arith, g)) in absurd (omega (arith, low, same, b))
]

-- the items of a card
in-card : (card c i : ℕ) → 0 < card → limited (card * c) ≤ i → i < limited (card * c + card) → i / card ≡ c
in-card card c i some low high =
    let least = min-le_left (card * c + card) 18446744073709551615 in
    let most = min-le_right (card * c + card) 18446744073709551615 in
    let from : card * c ≤ i = below-limit (card * c) i (omega (arith, high, most)) low in
    let turned : c * card ≡ card * c = mul_comm c card in
    let next : (c + 1) * card ≡ c * card + card = omega arith in
    div-eq_of_lt-le {k = c} card {m = i} (omega (arith, from, turned)) (omega (arith, high, least, next, turned))

of-card : (card c i : ℕ) → 0 < card → i < 18446744073709551615 → i / card ≡ c → (limited (card * c) ≤ i) × (i < limited (card * c + card))
of-card card c i some below e =
    let parts : card * c + i % card ≡ i = ap (λ (x : ℕ). card * x + i % card) (sym e) ∙ div-add-mod i card in
    let less = mod-lt i {m = card} some in
    let least = min-le_left (card * c) 18446744073709551615 in
    let room : i + 1 ≤ limited (card * c + card) = le-min {k = i + 1} {a = card * c + card} {b = 18446744073709551615} (omega (arith, parts, less)) (omega (arith, below)) in
    (omega (arith, least, parts), omega (arith, room))

-- what is handed out of the first entry
module _ (card p : ℕ) (kept : List ℕ) (rest : List Held) (gone : is_in p (places_of rest) ≡ false) where
  whole-case : (cs : List ℕ) → let h : Held = record { place = p; is_whole = true; cards = cs } in
      HandsOut (record { card = card; entries = h ∷ rest; kept = kept }) (record { card = card; entries = rest; kept = kept }) (whole_span p)
  whole-case cs = let h : Held = record { place = p; is_whole = true; cards = cs } in
      hands card kept h rest [] 0 18446744073709551615 gone (no-part card h) (λ i l r. refl) (λ i b t. inl (omega arith, b))

  last-case : (c : ℕ) → 0 < card → let h : Held = record { place = p; is_whole = false; cards = c ∷ [] } in
      HandsOut (record { card = card; entries = h ∷ rest; kept = kept }) (record { card = card; entries = rest; kept = kept }) (card_span card p c)
  last-case c some = let h : Held = record { place = p; is_whole = false; cards = c ∷ [] } in
      hands card kept h rest [] (limited (card * c)) (limited (card * c + card)) gone (no-part card h)
      (λ i l r. in-here c (i / card) [] (in-card card c i some l r))
      (λ i b t. inl (of-card card c i some b (only c (i / card) t)))
    where
      only : (c x : ℕ) → IsTrue (is_in x (c ∷ [])) → x ≡ c
      only c x t = elim (is_in-cases x c [] t) [ inl e ↦ e | inr u ↦ absurd (let no : ⊥ = cc in no) ]

  more-case : (c d : ℕ) (cs : List ℕ) → 0 < card → let h : Held = record { place = p; is_whole = false; cards = c ∷ d ∷ cs } in
      let left : Held = record { place = p; is_whole = false; cards = d ∷ cs } in
      HandsOut (record { card = card; entries = h ∷ rest; kept = kept }) (record { card = card; entries = left ∷ rest; kept = kept }) (card_span card p c)
  more-case c d cs some =
      let h : Held = record { place = p; is_whole = false; cards = c ∷ d ∷ cs } in let left : Held = record { place = p; is_whole = false; cards = d ∷ cs } in
      hands card kept h rest (left ∷ []) (limited (card * c)) (limited (card * c + card)) gone (less c d cs)
      (λ i l r. in-here c (i / card) (d ∷ cs) (in-card card c i some l r))
      (λ i b t. elim (is_in-cases (i / card) c (d ∷ cs) t) [
        | inl e ↦ inl (of-card card c i some b e)
        | inr u ↦ inr (or-first (p == p && is_in (i / card) (d ∷ cs)) false (and-both (p == p) (is_in (i / card) (d ∷ cs)) (eq-eqb p p refl) u))
      ])
    where
      alone : (b : Bool) → IsTrue (b || false) → IsTrue b
      alone true t = refl
      alone false t = t

      less : (c d : ℕ) (cs : List ℕ) → let h : Held = record { place = p; is_whole = false; cards = c ∷ d ∷ cs } in
          let left : Held = record { place = p; is_whole = false; cards = d ∷ cs } in Part card h (left ∷ [])
      less c d cs = record {
        items = λ i t. is_in-tail (i / card) c (d ∷ cs) (and-second (p == p) (is_in (i / card) (d ∷ cs)) (alone (p == p && is_in (i / card) (d ∷ cs)) t));
        others = λ F q ne. rw (ne_eqb p q (λ e. ne (sym e))) refl;
        whole = rw (eq-eqb p p refl) refl;
        places = λ q t. elim (is_in-cases q p [] t) [ inl e ↦ e | inr u ↦ absurd (let no : ⊥ = cc in no) ];
      }

  by-parts : (w : Bool) (cs : List ℕ) → 0 < card → (w || has_any cs) ≡ true → let h : Held = record { place = p; is_whole = w; cards = cs } in
      HandsOut (record { card = card; entries = h ∷ rest; kept = kept }) (record { card = card; entries = left_of (h ∷ rest); kept = kept }) (span_of card h)
  by-parts true cs some any = whole-case cs
  by-parts false [] some any = absurd (let no : ⊥ = cc in no)
  by-parts false (c ∷ []) some any = last-case c some
  by-parts false (c ∷ d ∷ cs) some any = more-case c d cs some

pub hands_out : (m : Remembering) (r : Option Span) → 0 < m.card → AreOrderly m.entries → r ≡ next_span m.card m.entries
    → IfSome r (λ span. HandsOut m (let n : Remembering = record m { entries = left_of m.entries } in n) span)
hands_out m r some o e =
    let R : Option Span → Type 0 = λ x. IfSome x (λ span. HandsOut m (let n : Remembering = record m { entries = left_of m.entries } in n) span) in
    subst R (sym e) (by m.entries o)
  where
    by : (hs : List Held) → AreOrderly hs → IfSome (next_span m.card hs) (λ span.
        HandsOut (record { card = m.card; entries = hs; kept = m.kept }) (record { card = m.card; entries = left_of hs; kept = m.kept }) span)
    by [] o = tt
    by (h ∷ rest) o = by-parts m.card h.place m.kept rest o.0 h.is_whole h.cards some o.1
