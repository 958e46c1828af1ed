-- More is remembered of an object, whole or by cards: what that is to all that is remembered, and to the object's flags.
use Rattle.std.proofs.Common.{◌≡◌, ◌≢◌, ℕ, ◌/◌, Bool, true, false, IsTrue, List, [], ◌∷◌, refl, sym, ap, ◌∙◌, subst, inl, inr}
use Rattle.std.specs.Prelude.{◌==◌, ◌&&◌, ◌||◌, not}
use Rattle.std.specs.List.{list_any}
use Rattle.std.proofs.lemmas.Bool.{eq-eqb, ne_eqb, cases_Bool}
use Rattle.std.proofs.lemmas.Bool.Decides.{eqb_tells}
use Rattle.object_header.specs.Words.{with_flag, without_flag}
use Rattle.object_header.specs.declared.flags.Flag.TheVariants.{Track, CardsSet}
use Rattle.object_header.proofs.WordLaws.{has_flag-with_flag_same, has_flag-with_flag_other, has_flag-without_flag_same, has_flag-without_flag_other}
use Rattle.object_model.specs.Sets.{is_in}
use Rattle.remember_cards.specs.Remembered.{Held, Remembered, RemembersMore, held_whole, is_whole_among, is_held_whole, has_held_cards, is_held, holds_item, has_any, with_card, with_cards, with_entry, hold_cards, with_whole}
use Rattle.remember_cards.specs.Tracking.{IsTracked}
use Rattle.remember_cards.proofs.EntryLaws.{any_same, any_more, any_here, places_more, or-first}

and-false : (b : Bool) → (b && false) ≡ false
and-false true = refl
and-false false = refl

pub and-first : (a b : Bool) → IsTrue (a && b) → IsTrue a
and-first true b t = refl
and-first false b t = absurd (let no : ⊥ = cc in no)

pub and-second : (a b : Bool) → IsTrue (a && b) → IsTrue b
and-second true b t = t
and-second false b t = absurd (let no : ⊥ = cc in no)

pub and-both : (a b : Bool) → IsTrue a → IsTrue b → IsTrue (a && b)
and-both true b t u = u
and-both false b t u = absurd (let no : ⊥ = cc in no)

one-more : (marked : List ℕ) (card c : ℕ) → IsTrue (is_in c marked) → IsTrue (is_in c (with_card marked card))
one-more marked card c t = elim (cases_Bool (is_in card marked)) [
  | inl is ↦ rw is t
  | inr isnt ↦ rw isnt (elim (cases_Bool (card == c)) [ inl same ↦ rw same refl | inr other ↦ rw other t ])
]

-- a mark that is added leaves those that were there
pub cards_more : (marked cards : List ℕ) (c : ℕ) → IsTrue (is_in c marked) → IsTrue (is_in c (with_cards marked cards))
cards_more marked [] c t = t
cards_more marked (card ∷ cards) c t = one-more (with_cards marked cards) card c (cards_more marked cards c t)

one-here : (marked : List ℕ) (card : ℕ) → IsTrue (is_in card (with_card marked card))
one-here marked card = elim (cases_Bool (is_in card marked)) [
  | inl is ↦ rw is is
  | inr isnt ↦ rw isnt (rw (eq-eqb card card refl) refl)
]

-- each of the cards is marked
pub cards_here : (marked cards : List ℕ) (c : ℕ) → IsTrue (is_in c cards) → IsTrue (is_in c (with_cards marked cards))
cards_here marked [] c t = absurd (let no : ⊥ = cc in no)
cards_here marked (card ∷ cards) c t = elim (eqb_tells card c) [
  | inl e ↦ let F : ℕ → Type 0 = λ k. IsTrue (is_in k (with_card (with_cards marked cards) card)) in subst F e.1 (one-here (with_cards marked cards) card)
  | inr e ↦ one-more (with_cards marked cards) card c (cards_here marked cards c (let later : IsTrue (is_in c cards) = later-of (card == c) (is_in c cards) e.0 t in later))
]
  where
    later-of : (a b : Bool) → a ≡ false → IsTrue (a || b) → IsTrue b
    later-of true b e t = absurd (let no : ⊥ = cc in no)
    later-of false b e t = t

-- there are some then
pub cards_any : (marked : List ℕ) (card : ℕ) (cards : List ℕ) → has_any (with_cards marked (card ∷ cards)) ≡ true
cards_any marked card cards = some (with_card (with_cards marked cards) card) card (one-here (with_cards marked cards) card)
  where
    some : (cs : List ℕ) (c : ℕ) → IsTrue (is_in c cs) → has_any cs ≡ true
    some [] c t = absurd (let no : ⊥ = cc in no)
    some (x ∷ cs) c t = refl

-- an entry is changed so that no less is remembered
pub record Holds (card : ℕ) (change : Held → Held) (new : Held) (p : ℕ) : Type 0 where
  pub place : (h : Held) → (change h).place ≡ h.place
  pub new_place : new.place ≡ p
  pub items : (h : Held) (i : ℕ) → IsTrue (holds_item card h i) → IsTrue (holds_item card (change h) i)

far : (x p q : ℕ) → q ≢ p → x ≡ p → (x == q) ≡ false
far x p q ne e = ne_eqb x q (λ z. ne (sym z ∙ e))

pub more_held : (r : Remembered) (p : ℕ) (change : Held → Held) (new : Held) → Holds r.card change new p
    → RemembersMore r (record r { held = with_entry change new r.held p }) p
more_held r p change new k = record {
  card = refl;
  there = λ q t. places_more change new p k.place k.new_place r.held q t;
  more = λ name x i t. any_more change new p (λ h. name h.place == x && holds_item r.card h i) r.held
      (λ h e u. and-both (name (change h).place == x) (holds_item r.card (change h) i)
      (subst (λ (y : ℕ). IsTrue (name y == x)) (sym (k.place h)) (and-first (name h.place == x) (holds_item r.card h i) u))
      (k.items h i (and-second (name h.place == x) (holds_item r.card h i) u))) t;
  whole_other = λ q ne. any_same change new p (λ h. h.place == q && h.is_whole) r.held (rw (far new.place p q ne k.new_place) refl)
      (λ h e. rw (far (change h).place p q ne (k.place h ∙ e)) (rw (far h.place p q ne e) refl));
  cards_other = λ q ne. any_same change new p (λ h. h.place == q && has_any h.cards) r.held (rw (far new.place p q ne k.new_place) refl)
      (λ h e. rw (far (change h).place p q ne (k.place h ∙ e)) (rw (far h.place p q ne e) refl));
}

pub holds_whole : (card p : ℕ) → Holds card (λ h. record h { is_whole = true }) (held_whole p) p
holds_whole card p = record { place = λ h. refl; new_place = refl; items = λ h i t. refl }

pub holds_cards : (card p : ℕ) (cards : List ℕ)
    → Holds card (λ h. record h { cards = with_cards h.cards cards }) (record { place = p; is_whole = false; cards = with_cards [] cards }) p
holds_cards card p cards = record {
  place = λ h. refl;
  new_place = refl;
  items = λ h i t. more h.is_whole (is_in (i / card) h.cards) (is_in (i / card) (with_cards h.cards cards)) (cards_more h.cards cards (i / card)) t;
}
  where
    more : (w a b : Bool) → (IsTrue a → IsTrue b) → IsTrue (w || a) → IsTrue (w || b)
    more true a b f t = refl
    more false a b f t = f t

-- the object is remembered whole, and its flags tell so
pub whole_tracked : (r : Remembered) (p word : ℕ) → IsTracked r p word → IsTracked (with_whole r p) p (without_flag word Track)
whole_tracked r p word k =
    let whole : is_held_whole (with_whole r p) p ≡ true =
    any_here (λ h. record h { is_whole = true }) (held_whole p) p (λ h. h.place == p && h.is_whole) r.held (rw (eq-eqb p p refl) refl) (λ h e. rw (eq-eqb h.place p e) refl) in
    record {
      track = has_flag-without_flag_same word Track ∙ ap not (sym whole);
      cards_set = has_flag-without_flag_other word Track CardsSet (λ e. let no : ⊥ = cc in no) ∙ k.cards_set
          ∙ sym (any_same (λ h. record h { is_whole = true }) (held_whole p) p (λ h. h.place == p && has_any h.cards) r.held (and-false (p == p)) (λ h e. refl));
    }

-- cards of it are remembered, and its flags tell so
pub cards_tracked : (r : Remembered) (p word card : ℕ) (cards : List ℕ) → IsTracked r p word
    → IsTracked (record r { held = hold_cards r.held p (card ∷ cards) }) p (with_flag word CardsSet)
cards_tracked r p word card cards k =
    let change : Held → Held = λ h. record h { cards = with_cards h.cards (card ∷ cards) } in
    let new : Held = record { place = p; is_whole = false; cards = with_cards [] (card ∷ cards) } in
    let some : has_held_cards (record r { held = hold_cards r.held p (card ∷ cards) }) p ≡ true =
    any_here change new p (λ h. h.place == p && has_any h.cards) r.held (rw (eq-eqb p p refl) (cards_any [] card cards)) (λ h e. rw (eq-eqb h.place p e) (cards_any h.cards card cards)) in
    record {
      track = has_flag-with_flag_other word CardsSet Track (λ e. let no : ⊥ = cc in no) ∙ k.track
          ∙ ap not (sym (any_same change new p (λ h. h.place == p && h.is_whole) r.held (and-false (p == p)) (λ h e. refl)));
      cards_set = has_flag-with_flag_same word CardsSet ∙ sym some;
    }

-- each item of what is remembered whole is remembered
pub covers_whole : (r : Remembered) (p i : ℕ) → IsTrue (is_held (with_whole r p) p i)
covers_whole r p i = any_here (λ h. record h { is_whole = true }) (held_whole p) p (λ h. h.place == p && holds_item r.card h i) r.held
    (rw (eq-eqb p p refl) refl) (λ h e. rw (eq-eqb h.place p e) refl)

-- each item of these cards is remembered
pub covers_cards : (r : Remembered) (p i : ℕ) (cards : List ℕ) → IsTrue (is_in (i / r.card) cards)
    → IsTrue (is_held (record r { held = hold_cards r.held p cards }) p i)
covers_cards r p i cards t = any_here (λ h. record h { cards = with_cards h.cards cards }) (record { place = p; is_whole = false; cards = with_cards [] cards }) p
    (λ h. h.place == p && holds_item r.card h i) r.held
    (rw (eq-eqb p p refl) (cards_here [] cards (i / r.card) t))
    (λ h e. rw (eq-eqb h.place p e) (second h.is_whole (is_in (i / r.card) (with_cards h.cards cards)) (cards_here h.cards cards (i / r.card) t)))
  where
    second : (w b : Bool) → IsTrue b → IsTrue (w || b)
    second true b u = refl
    second false b u = u

-- what is remembered whole has all its items remembered
pub held-all : (r : Remembered) (p i : ℕ) → IsTrue (is_held_whole r p) → IsTrue (is_held r p i)
held-all r p i t = all r.card r.held p i t
  where
    here : (at whole b : Bool) → IsTrue (at && whole) → IsTrue (at && (whole || b))
    here true true b t = refl
    here true false b t = absurd (let no : ⊥ = cc in no)
    here false whole b t = absurd (let no : ⊥ = cc in no)

    both : (a b c d : Bool) → (IsTrue a → IsTrue c) → (IsTrue b → IsTrue d) → IsTrue (a || b) → IsTrue (c || d)
    both true b c d f g t = or-first c d (f refl)
    both false b true d f g t = refl
    both false b false d f g t = g t

    all : (card : ℕ) (hs : List Held) (p i : ℕ) → IsTrue (is_whole_among hs p) → IsTrue (list_any (λ h. h.place == p && holds_item card h i) hs)
    all card [] p i t = t
    all card (h ∷ hs) p i t = both (h.place == p && h.is_whole) (is_whole_among hs p) (h.place == p && holds_item card h i) (list_any (λ g. g.place == p && holds_item card g i) hs)
        (here (h.place == p) h.is_whole (is_in (i / card) h.cards)) (all card hs p i) t
