-- What the calls on entries do, as places in order with marks.
use Rattle.std.proofs.Common.{◌≡◌, ℕ, Bool, true, false, IsTrue, List, [], ◌∷◌, ◌++◌, Option, Some, None, is_some, refl, sym, ap, ap₂, ◌∙◌, subst, inl, inr}
use Rattle.std.specs.Prelude.{◌==◌, ◌||◌, not, if◌then◌else◌}
use Rattle.std.specs.Option.{option_map, option_and_then}
use Rattle.std.proofs.lemmas.Bool.{eq-eqb, cases_Bool}
use Rattle.std.proofs.lemmas.Bool.Decides.{eqb_tells}
use Rattle.object_model.proofs.Members.{is_in-head, is_in-cases, is_in-last}
use Rattle.object_model.specs.Sets.{is_in, AreDifferent}
use Rattle.remember_cards.specs.Remembered.{Held, held_whole, has_any, is_whole_among, has_cards_among, with_cards, hold_whole, hold_cards}
use Rattle.remember_cards.specs.Drained.{span_of, span_of_taken, left_of}
use Rattle.remember_cards.specs.Entries.{Marks, MarksAt, with_marks, held_at, entries_of, AreListed, marked_whole, marks_or_none, marked_cards, taken_card, taken_of, is_more_left, left_marks}
use Rattle.remember_cards.proofs.EntryLaws.{any_absent}
use Rattle.remember_cards.proofs.RememberLaws.{cards_any}
use Rattle.remember_cards.proofs.OrderLaws.{place_at, places_order, marks-here, marks-again, elsewhere, changed_one, added_one, not_there, none_of, listed_with, listed_push, listed_rest}

-- all of the object at p is remembered from now on: g are the marks then
module _ (f g : MarksAt) (order : List ℕ) (p : ℕ) (l : AreListed f order) (is : g ≡ with_marks f p (marked_whole (f p))) where
  pub whole_marked : is_some (f p) ≡ true → entries_of g order ≡ hold_whole (entries_of f order) p
  whole_marked some =
      ap (λ (h : MarksAt). entries_of h order) is
      ∙ changed_one (λ h. record h { is_whole = true }) (held_whole p) f p (marked_whole (f p)) order l.differ (l.listed p some) (by (f p))
    where
      by : (m : Option Marks) → (let held : Held = record (held_at p m) { is_whole = true } in held) ≡ held_at p (marked_whole m)
      by None = refl
      by (Some marks) = refl

  pub whole_listed : AreListed g order
  whole_listed = subst (λ (h : MarksAt). AreListed h order) (sym is)
      (listed_with f p (marked_whole (f p)) order l (λ t. l.listed p (before (f p) t)) (λ t. cards (f p) t (l.some_cards p)))
    where
      before : (m : Option Marks) → IsTrue (is_some (marked_whole m)) → IsTrue (is_some m)
      before None t = t
      before (Some marks) t = refl

      cards : (m : Option Marks) → IsTrue (is_some (marked_whole m)) → (IsTrue (is_some m) → has_any (held_at p m).cards ≡ true) → has_any (held_at p (marked_whole m)).cards ≡ true
      cards None t k = k t
      cards (Some marks) t k = k refl

  pub whole_unmarked : is_some (f p) ≡ false → g ≡ f
  whole_unmarked none = let no_marks = none_of (f p) none in
      is ∙ (ap (λ (m : Option Marks). with_marks f p (marked_whole m)) no_marks ∙ (ap (with_marks f p) (sym no_marks) ∙ marks-again f p))

  pub whole_added : is_some (f p) ≡ false → is_whole_among (entries_of f order) p ≡ false → entries_of g (order ++ p ∷ []) ≡ hold_whole (entries_of f order) p
  whole_added none out = let no_marks = none_of (f p) none in
      ap (λ (h : MarksAt). entries_of h (order ++ p ∷ [])) (is ∙ ap (λ (m : Option Marks). with_marks f p (marked_whole m)) no_marks)
      ∙ added_one (λ h. record h { is_whole = true }) (held_whole p) f p None order (not_there f p order no_marks out) refl

  pub whole_added_listed : is_some (f p) ≡ false → is_whole_among (entries_of f order) p ≡ false → AreListed g (order ++ p ∷ [])
  whole_added_listed none out =
      subst (λ (h : MarksAt). AreListed h (order ++ p ∷ [])) (sym (whole_unmarked none)) (listed_push f p order l (not_there f p order (none_of (f p) none) out))

-- cards of it are
module _ (f g : MarksAt) (order : List ℕ) (p card : ℕ) (cards : List ℕ) (l : AreListed f order)
    (is : g ≡ with_marks f p (Some (marked_cards (marks_or_none (f p)) (card ∷ cards)))) where
  pub cards_marked : is_some (f p) ≡ true → entries_of g order ≡ hold_cards (entries_of f order) p (card ∷ cards)
  cards_marked some =
      ap (λ (h : MarksAt). entries_of h order) is
      ∙ changed_one (λ h. record h { cards = with_cards h.cards (card ∷ cards) }) (record { place = p; is_whole = false; cards = with_cards [] (card ∷ cards) })
      f p (Some (marked_cards (marks_or_none (f p)) (card ∷ cards))) order l.differ (l.listed p some) (by (f p) some)
    where
      by : (m : Option Marks) → is_some m ≡ true
          → (let held : Held = record (held_at p m) { cards = with_cards (held_at p m).cards (card ∷ cards) } in held) ≡ held_at p (Some (marked_cards (marks_or_none m) (card ∷ cards)))
      by None e = absurd (let no : ⊥ = cc in no)
      by (Some marks) e = refl

  pub cards_listed : is_some (f p) ≡ true → AreListed g order
  cards_listed some = subst (λ (h : MarksAt). AreListed h order) (sym is)
      (listed_with f p (Some (marked_cards (marks_or_none (f p)) (card ∷ cards))) order l (λ t. l.listed p some) (λ t. cards_any (marks_or_none (f p)).cards card cards))

  pub cards_added : is_some (f p) ≡ false → is_whole_among (entries_of f order) p ≡ false → entries_of g (order ++ p ∷ []) ≡ hold_cards (entries_of f order) p (card ∷ cards)
  cards_added none out = let no_marks = none_of (f p) none in
      ap (λ (h : MarksAt). entries_of h (order ++ p ∷ [])) is
      ∙ added_one (λ h. record h { cards = with_cards h.cards (card ∷ cards) }) (record { place = p; is_whole = false; cards = with_cards [] (card ∷ cards) })
      f p (Some (marked_cards (marks_or_none (f p)) (card ∷ cards))) order (not_there f p order no_marks out)
      (ap (λ (m : Option Marks). held_at p (Some (marked_cards (marks_or_none m) (card ∷ cards)))) no_marks)

  pub cards_added_listed : is_some (f p) ≡ false → is_whole_among (entries_of f order) p ≡ false → AreListed g (order ++ p ∷ [])
  cards_added_listed none out = let no_marks = none_of (f p) none in
      let pushed = listed_push f p order l (not_there f p order no_marks out) in
      subst (λ (h : MarksAt). AreListed h (order ++ p ∷ [])) (sym is)
      (listed_with f p (Some (marked_cards (marks_or_none (f p)) (card ∷ cards))) (order ++ p ∷ []) pushed (λ t. last order) (λ t. cards_any (marks_or_none (f p)).cards card cards))
    where
      last : (order : List ℕ) → IsTrue (is_in p (order ++ p ∷ []))
      last order = is_in-last order p

-- whether cards of the object at p are remembered
pub cards_among : (f : MarksAt) (p : ℕ) (order : List ℕ) → AreListed f order → has_cards_among (entries_of f order) p ≡ has_any (marks_or_none (f p)).cards
cards_among f p order l = elim (cases_Bool (is_in p order)) [
  | inl t ↦ there order l.differ t ∙ ap has_any (same (f p))
  | inr out ↦
      any_absent (λ held. has_any held.cards) (entries_of f order) p (ap (is_in p) (places_order f order) ∙ out)
      ∙ sym (none (f p) (λ t. let u : IsTrue (is_in p order) = l.listed p t in let no : ⊥ = cc in no))
]
  where
    same : (m : Option Marks) → (held_at p m).cards ≡ (marks_or_none m).cards
    same None = refl
    same (Some marks) = refl

    none : (m : Option Marks) → (IsTrue (is_some m) → ⊥) → has_any (marks_or_none m).cards ≡ false
    none None k = refl
    none (Some marks) k = absurd (k refl)

    or-false : (b : Bool) → (b || false) ≡ b
    or-false true = refl
    or-false false = refl

    head : (h : Held) (hs : List Held) → h.place ≡ p → has_cards_among hs p ≡ false → has_cards_among (h ∷ hs) p ≡ has_any h.cards
    head h hs e out = rw (eq-eqb h.place p e, out) (or-false (has_any h.cards))

    tail : (h : Held) (hs : List Held) → (h.place == p) ≡ false → has_cards_among (h ∷ hs) p ≡ has_cards_among hs p
    tail h hs e = rw e refl

    there : (order : List ℕ) → AreDifferent order → IsTrue (is_in p order) → has_cards_among (entries_of f order) p ≡ has_any (held_at p (f p)).cards
    there [] d t = absurd (let no : ⊥ = cc in no)
    there (x ∷ xs) d t = elim (eqb_tells x p) [
      | inl e ↦
          let out : is_in p xs ≡ false = (let F : ℕ → Type 0 = λ y. is_in y xs ≡ false in subst F e.1 d.0) in
          head (held_at x (f x)) (entries_of f xs) (place_at x (f x) ∙ e.1)
          (any_absent (λ held. has_any held.cards) (entries_of f xs) p (ap (is_in p) (places_order f xs) ∙ out))
          ∙ ap (λ (y : ℕ). has_any (held_at y (f y)).cards) e.1
      | inr e ↦ elim (is_in-cases p x xs t) [
        | inl is ↦ absurd (e.1 (sym is))
        | inr later ↦ tail (held_at x (f x)) (entries_of f xs) (ap (λ (y : ℕ). y == p) (place_at x (f x)) ∙ e.0) ∙ there xs d.1 later
      ]
    ]

-- what is handed out of the first object
pub span_taken : (card p : ℕ) (m : Option Marks) → span_of card (held_at p m) ≡ span_of_taken card p (option_and_then taken_card m)
span_taken card p None = refl
span_taken card p (Some marks) = by marks.is_whole marks.cards
  where
    by : (w : Bool) (cs : List ℕ)
        → span_of card (record { place = p; is_whole = w; cards = cs }) ≡ span_of_taken card p (if w then None else taken_of cs)
    by true cs = refl
    by false [] = refl
    by false (c ∷ []) = refl
    by false (c ∷ d ∷ cs) = refl

-- A card of the first object was taken, and others are left: g are the marks then.
module _ (f g : MarksAt) (order : List ℕ) (p : ℕ) (l : AreListed f (p ∷ order)) (is : g ≡ with_marks f p (option_map left_marks (f p)))
    (taken : is_more_left (option_and_then taken_card (f p)) ≡ true) where
  left-more : (m : Option Marks) → is_more_left (option_and_then taken_card m) ≡ true → (hs : List Held)
      → (held_at p (option_map left_marks m) ∷ hs ≡ left_of (held_at p m ∷ hs)) × (has_any (held_at p (option_map left_marks m)).cards ≡ true)
  left-more None e hs = absurd (let no : ⊥ = cc in no)
  left-more (Some marks) e hs = by marks.is_whole marks.cards e
    where
      by : (w : Bool) (cs : List ℕ) → is_more_left (if w then None else taken_of cs) ≡ true → let m : Marks = record { is_whole = w; cards = cs } in
          (held_at p (Some (left_marks m)) ∷ hs ≡ left_of (held_at p (Some m) ∷ hs)) × (has_any (held_at p (Some (left_marks m))).cards ≡ true)
      by true cs e = absurd (let no : ⊥ = cc in no)
      by false [] e = absurd (let no : ⊥ = cc in no)
      by false (x ∷ []) e = absurd (let no : ⊥ = cc in no)
      by false (x ∷ y ∷ cs) e = (refl, refl)

  pub more_left : entries_of g (p ∷ order) ≡ left_of (entries_of f (p ∷ order))
  more_left =
      ap (λ (h : MarksAt). entries_of h (p ∷ order)) is
      ∙ (ap₂ (λ (h : Held) (hs : List Held). h ∷ hs) (ap (held_at p) (marks-here f p p (option_map left_marks (f p)) (eq-eqb p p refl)))
      (elsewhere f p (option_map left_marks (f p)) order l.differ.0)
      ∙ (left-more (f p) taken (entries_of f order)).0)

  pub more_listed : AreListed g (p ∷ order)
  more_listed = subst (λ (h : MarksAt). AreListed h (p ∷ order)) (sym is)
      (listed_with f p (option_map left_marks (f p)) (p ∷ order) l (λ t. is_in-head p order) (λ t. (left-more (f p) taken (entries_of f order)).1))

-- The first object leaves: g are the marks once a card was taken, and h those without the object.
module _ (f g h : MarksAt) (order : List ℕ) (p : ℕ) (l : AreListed f (p ∷ order)) (is : g ≡ with_marks f p (option_map left_marks (f p)))
    (gone : h ≡ with_marks g p None) where
  twice : (v : Option Marks) → with_marks (with_marks f p v) p None ≡ with_marks f p None
  twice v = λ i q. (at (q == p) (f q)) i
    where
      at : (b : Bool) (m : Option Marks) → (if b then None else (if b then v else m)) ≡ (if b then None else m)
      at true m = refl
      at false m = refl

  rest : h ≡ with_marks f p None
  rest = gone ∙ (ap (λ (k : MarksAt). with_marks k p None) is ∙ twice (option_map left_marks (f p)))

  pub rest_listed : AreListed h order
  rest_listed = subst (λ (k : MarksAt). AreListed k order) (sym rest) (listed_rest f p order l)

  last-left : (m : Option Marks) → is_more_left (option_and_then taken_card m) ≡ false → (hs : List Held) → hs ≡ left_of (held_at p m ∷ hs)
  last-left None k hs = refl
  last-left (Some marks) k hs = by marks.is_whole marks.cards k
    where
      by : (w : Bool) (cs : List ℕ) → is_more_left (if w then None else taken_of cs) ≡ false → let m : Marks = record { is_whole = w; cards = cs } in
          hs ≡ left_of (held_at p (Some m) ∷ hs)
      by true cs k = refl
      by false [] k = refl
      by false (x ∷ []) k = refl
      by false (x ∷ y ∷ cs) k = absurd (let no : ⊥ = cc in no)

  pub rest_left : is_more_left (option_and_then taken_card (f p)) ≡ false → entries_of h order ≡ left_of (entries_of f (p ∷ order))
  rest_left other = ap (λ (k : MarksAt). entries_of k order) rest ∙ (elsewhere f p None order l.differ.0 ∙ last-left (f p) other (entries_of f order))

-- what `mark` tells of the marks that were there
pub was-new : (some new : Bool) → new ≡ not some → new ≡ true → some ≡ false
was-new true new e t = absurd (let no : ⊥ = cc in no)
was-new false new e t = refl

pub was-there : (some new : Bool) → new ≡ not some → new ≡ false → some ≡ true
was-there true new e t = refl
was-there false new e t = absurd (let no : ⊥ = cc in no)
