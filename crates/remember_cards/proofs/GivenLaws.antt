-- What the barriers do to all that is remembered, where some objects are kept for the next collection.
use Rattle.std.proofs.Common.{◌≡◌, ℕ, Bool, true, false, IsTrue, List, [], ◌∷◌, ◌++◌, map, refl, sym, ap, ◌∙◌, subst, inl, inr}
use Rattle.std.specs.Prelude.{◌==◌, ◌&&◌, ◌||◌, ◌/◌, not}
use Rattle.std.proofs.lemmas.Bool.Decides.{eqb_tells}
use Rattle.std.proofs.lemmas.List.Folds.{list_any-append}
use Rattle.object_header.specs.Words.{with_flag, without_flag}
use Rattle.object_header.specs.declared.flags.Flag.TheVariants.{Track, CardsSet}
use Rattle.object_model.specs.Sets.{is_in}
use Rattle.remember_cards.specs.Remembered.{Held, Remembered, RemembersMore, held_whole, is_whole_among, is_held_whole, is_held, with_cards, with_entry, hold_whole, hold_cards, with_whole}
use Rattle.remember_cards.specs.Tracking.{IsTracked}
use Rattle.remember_cards.specs.Remembering.{Remembering, remembered_by}
use Rattle.remember_cards.specs.Entries.{AreOrderly}
use Rattle.remember_cards.proofs.EntryLaws.{places_of, any_absent, not-first, not-second, entry_behind}
use Rattle.remember_cards.proofs.OrderLaws.{entry-head, entry-tail}
use Rattle.remember_cards.proofs.RememberLaws.{more_held, holds_whole, holds_cards, whole_tracked, cards_tracked, covers_whole, covers_cards}

-- the kept objects, as entries
abbrev pub kept_entries : Remembering → List Held
kept_entries m = map held_whole m.kept

kept-out : (kept : List ℕ) (p : ℕ) → is_whole_among (map held_whole kept) p ≡ false → is_in p (places_of (map held_whole kept)) ≡ false
kept-out [] p out = refl
kept-out (k ∷ kept) p out =
    both (k == p) (is_whole_among (map held_whole kept) p) (is_in p (places_of (map held_whole kept))) out (kept-out kept p)
  where
    both : (a b c : Bool) → ((a && true) || b) ≡ false → (b ≡ false → c ≡ false) → (a || c) ≡ false
    both true b c e f = e
    both false b c e f = f e

-- an object that is not remembered whole is neither kept nor whole among the entries
pub whole_split : (m : Remembering) (p : ℕ) → is_held_whole (remembered_by m) p ≡ (is_whole_among (kept_entries m) p || is_whole_among m.entries p)
whole_split m p = list_any-append (λ (held : Held). held.place == p && held.is_whole) (kept_entries m) m.entries

pub not_kept : (m : Remembering) (p : ℕ) → is_held_whole (remembered_by m) p ≡ false → is_in p (places_of (kept_entries m)) ≡ false
not_kept m p out = kept-out m.kept p (not-first (is_whole_among (kept_entries m) p) (is_whole_among m.entries p) (sym (whole_split m p) ∙ out))

pub not_whole : (m : Remembering) (p : ℕ) → is_held_whole (remembered_by m) p ≡ false → is_whole_among m.entries p ≡ false
not_whole m p out = not-second (is_whole_among (kept_entries m) p) (is_whole_among m.entries p) (sym (whole_split m p) ∙ out)

abbrev changed : Remembered → (Held → Held) → Held → ℕ → Remembered
changed r change new p = record r { held = with_entry change new r.held p }

abbrev entries-are : Remembering → List Held → Remembered
entries-are m hs = record { card = m.card; held = kept_entries m ++ hs }

-- to change an entry is to change it among all that is remembered
pub given : (m : Remembering) (p : ℕ) (change : Held → Held) (new : Held) → is_held_whole (remembered_by m) p ≡ false
    → changed (remembered_by m) change new p ≡ entries-are m (with_entry change new m.entries p)
given m p change new out = ap (λ (hs : List Held). let r : Remembered = record { card = m.card; held = hs } in r) (entry_behind change new p (kept_entries m) m.entries (not_kept m p out))

-- what the barriers ensure, where an object was not remembered whole
pub whole_given : (m : Remembering) (p : ℕ) → is_held_whole (remembered_by m) p ≡ false → entries-are m (hold_whole m.entries p) ≡ with_whole (remembered_by m) p
whole_given m p out = sym (given m p (λ h. record h { is_whole = true }) (held_whole p) out)

pub cards_given : (m : Remembering) (p : ℕ) (cards : List ℕ) → is_held_whole (remembered_by m) p ≡ false
    → entries-are m (hold_cards m.entries p cards) ≡ (let r : Remembered = record (remembered_by m) { held = hold_cards (remembered_by m).held p cards } in r)
cards_given m p cards out = sym (given m p (λ h. record h { cards = with_cards h.cards cards }) (record { place = p; is_whole = false; cards = with_cards [] cards }) out)

pub whole_more : (m : Remembering) (p : ℕ) → is_held_whole (remembered_by m) p ≡ false → RemembersMore (remembered_by m) (entries-are m (hold_whole m.entries p)) p
whole_more m p out = subst (λ (r : Remembered). RemembersMore (remembered_by m) r p) (sym (whole_given m p out))
    (more_held (remembered_by m) p (λ h. record h { is_whole = true }) (held_whole p) (holds_whole m.card p))

pub cards_more_given : (m : Remembering) (p : ℕ) (cards : List ℕ) → is_held_whole (remembered_by m) p ≡ false
    → RemembersMore (remembered_by m) (entries-are m (hold_cards m.entries p cards)) p
cards_more_given m p cards out = subst (λ (r : Remembered). RemembersMore (remembered_by m) r p) (sym (cards_given m p cards out))
    (more_held (remembered_by m) p (λ h. record h { cards = with_cards h.cards cards }) (record { place = p; is_whole = false; cards = with_cards [] cards }) (holds_cards m.card p cards))

pub whole_tracked_given : (m : Remembering) (p word : ℕ) → is_held_whole (remembered_by m) p ≡ false → IsTracked (remembered_by m) p word
    → IsTracked (entries-are m (hold_whole m.entries p)) p (without_flag word Track)
whole_tracked_given m p word out k = subst (λ (r : Remembered). IsTracked r p (without_flag word Track)) (sym (whole_given m p out)) (whole_tracked (remembered_by m) p word k)

pub cards_tracked_given : (m : Remembering) (p word card : ℕ) (cards : List ℕ) → is_held_whole (remembered_by m) p ≡ false → IsTracked (remembered_by m) p word
    → IsTracked (entries-are m (hold_cards m.entries p (card ∷ cards))) p (with_flag word CardsSet)
cards_tracked_given m p word card cards out k =
    subst (λ (r : Remembered). IsTracked r p (with_flag word CardsSet)) (sym (cards_given m p (card ∷ cards) out)) (cards_tracked (remembered_by m) p word card cards k)

pub whole_covered : (m : Remembering) (p i : ℕ) → is_held_whole (remembered_by m) p ≡ false → IsTrue (is_held (entries-are m (hold_whole m.entries p)) p i)
whole_covered m p i out = subst (λ (r : Remembered). IsTrue (is_held r p i)) (sym (whole_given m p out)) (covers_whole (remembered_by m) p i)

pub cards_covered : (m : Remembering) (p i : ℕ) (cards : List ℕ) (c : ℕ) → is_held_whole (remembered_by m) p ≡ false → IsTrue (is_in c cards)
    → c ≡ i / m.card → IsTrue (is_held (entries-are m (hold_cards m.entries p cards)) p i)
cards_covered m p i cards c out t e = subst (λ (r : Remembered). IsTrue (is_held r p i)) (sym (cards_given m p cards out))
    (covers_cards (remembered_by m) p i cards (subst (λ (x : ℕ). IsTrue (is_in x cards)) e t))

-- an object that is remembered whole is so again
entry-again : (hs : List Held) (p : ℕ) → AreOrderly hs → is_whole_among hs p ≡ true → hold_whole hs p ≡ hs
entry-again [] p o whole = absurd (let no : ⊥ = cc in no)
entry-again (h ∷ hs) p o whole = elim (eqb_tells h.place p) [
  | inl e ↦
      let gone : is_in p (places_of hs) ≡ false = (let F : ℕ → Type 0 = λ y. is_in y (places_of hs) ≡ false in subst F e.1 o.0) in
      let rest : is_whole_among hs p ≡ false = any_absent (λ held. held.is_whole) hs p gone in
      let here : h.is_whole ≡ true = alone (h.place == p) h.is_whole (is_whole_among hs p) e.0 rest whole in
      entry-head (λ k. record k { is_whole = true }) (held_whole p) h hs p e.1
      ∙ ap (λ (b : Bool). let k : Held = record h { is_whole = b } in k ∷ hs) (sym here)
  | inr e ↦
      let rest : is_whole_among hs p ≡ true = later (h.place == p) h.is_whole (is_whole_among hs p) e.0 whole in
      entry-tail (λ k. record k { is_whole = true }) (held_whole p) h hs p e.1 ∙ ap (λ (ks : List Held). h ∷ ks) (entry-again hs p o.2 rest)
]
  where
    alone : (at w rest : Bool) → at ≡ true → rest ≡ false → ((at && w) || rest) ≡ true → w ≡ true
    alone true true rest e f t = refl
    alone true false rest e f t = absurd (let no : ⊥ = cc in no)
    alone false w rest e f t = absurd (let no : ⊥ = cc in no)

    later : (at w rest : Bool) → at ≡ false → ((at && w) || rest) ≡ true → rest ≡ true
    later true w rest e t = absurd (let no : ⊥ = cc in no)
    later false w rest e t = t

kept-again : (kept : List ℕ) (hs : List Held) (p : ℕ) → AreOrderly hs → is_whole_among (map held_whole kept ++ hs) p ≡ true
    → hold_whole (map held_whole kept ++ hs) p ≡ map held_whole kept ++ hs
kept-again [] hs p o whole = entry-again hs p o whole
kept-again (k ∷ kept) hs p o whole = elim (eqb_tells k p) [
  | inl e ↦ entry-head (λ h. record h { is_whole = true }) (held_whole p) (held_whole k) (map held_whole kept ++ hs) p e.1
  | inr e ↦
      let rest : is_whole_among (map held_whole kept ++ hs) p ≡ true = later (k == p) (is_whole_among (map held_whole kept ++ hs) p) e.0 whole in
      entry-tail (λ h. record h { is_whole = true }) (held_whole p) (held_whole k) (map held_whole kept ++ hs) p e.1
      ∙ ap (λ (ks : List Held). held_whole k ∷ ks) (kept-again kept hs p o rest)
]
  where
    later : (at rest : Bool) → at ≡ false → ((at && true) || rest) ≡ true → rest ≡ true
    later true rest e t = absurd (let no : ⊥ = cc in no)
    later false rest e t = t

pub whole_again : (m : Remembering) (p : ℕ) → AreOrderly m.entries → is_held_whole (remembered_by m) p ≡ true → remembered_by m ≡ with_whole (remembered_by m) p
whole_again m p o whole = sym (ap (λ (hs : List Held). let r : Remembered = record { card = m.card; held = hs } in r) (kept-again m.kept m.entries p o whole))

-- Track tells whether an object is remembered whole
pub tells_whole : (whole track : Bool) → track ≡ not whole → track ≡ false → whole ≡ true
tells_whole true track e f = refl
tells_whole false track e f = absurd (let no : ⊥ = cc in no)

pub tells_not : (whole track : Bool) → track ≡ not whole → track ≡ true → whole ≡ false
tells_not true track e f = absurd (let no : ⊥ = cc in no)
tells_not false track e f = refl
