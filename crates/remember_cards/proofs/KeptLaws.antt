-- What is kept for the next collection, among all that is remembered.
use Rattle.std.proofs.Common.{◌≡◌, ℕ, Bool, true, false, IsTrue, List, [], ◌∷◌, ◌++◌, map, refl, sym, ap, ap₂, ◌∙◌, inl, inr}
use Rattle.std.specs.Prelude.{◌==◌, ◌&&◌, ◌||◌, not, filter, if◌then◌else◌}
use Rattle.std.specs.List.{list_any}
use Rattle.std.proofs.lemmas.Bool.{cases_Bool}
use Rattle.std.proofs.lemmas.List.Folds.{list_any-append}
use Rattle.std.proofs.lemmas.List.Elements.{filter-append}
use Rattle.object_model.proofs.Members.{is_in-last}
use Rattle.object_model.specs.Sets.{is_in}
use Rattle.remember_cards.specs.Remembered.{Held, Remembered, held_whole, has_cards_among, has_held_cards, has_any, holds_item, is_held, without_dead}
use Rattle.remember_cards.specs.Remembering.{Remembering, remembered_by, without_places}
use Rattle.remember_cards.proofs.EntryLaws.{or-first}
use Rattle.remember_cards.proofs.DropLaws.{whole_dropped}

held-kept : (card : ℕ) (kept : List ℕ) (p i : ℕ) → IsTrue (is_in p kept) → IsTrue (list_any (λ e. e.place == p && holds_item card e i) (map held_whole kept))
held-kept card [] p i t = t
held-kept card (k ∷ kept) p i t = both (k == p) (is_in p kept) (list_any (λ e. e.place == p && holds_item card e i) (map held_whole kept)) t (held-kept card kept p i)
  where
    both : (a b c : Bool) → IsTrue (a || b) → (IsTrue b → IsTrue c) → IsTrue ((a && true) || c)
    both true b c t f = refl
    both false b c t f = f t

-- a kept object is remembered whole
pub kept_covered : (m : Remembering) (kept : List ℕ) (p i : ℕ) → kept ≡ (if is_in p m.kept then m.kept else m.kept ++ p ∷ [])
    → IsTrue (is_held (remembered_by (let n : Remembering = record m { kept = kept } in n)) p i)
kept_covered m kept p i e =
    let f : Held → Bool = λ h. h.place == p && holds_item m.card h i in
    list_any-append f (map held_whole kept) m.entries ∙ or-first (list_any f (map held_whole kept)) (list_any f m.entries) (held-kept m.card kept p i there)
  where
    there : IsTrue (is_in p kept)
    there = elim (cases_Bool (is_in p m.kept)) [
      | inl t ↦ let same : kept ≡ m.kept = e ∙ rw t refl in ap (is_in p) same ∙ t
      | inr out ↦ let same : kept ≡ m.kept ++ p ∷ [] = e ∙ rw out refl in ap (is_in p) same ∙ is_in-last m.kept p
    ]

-- a kept object has no cards as such
pub cards_kept : (m : Remembering) (p : ℕ) → has_cards_among m.entries p ≡ has_held_cards (remembered_by m) p
cards_kept m p = sym (list_any-append (λ (e : Held). e.place == p && has_any e.cards) (map held_whole m.kept) m.entries
    ∙ ap (λ (b : Bool). b || has_cards_among m.entries p) (none m.kept))
  where
    and-false : (b : Bool) → (b && false) ≡ false
    and-false true = refl
    and-false false = refl

    none : (kept : List ℕ) → has_cards_among (map held_whole kept) p ≡ false
    none [] = refl
    none (k ∷ kept) = ap₂ (λ (a b : Bool). a || b) (and-false (k == p)) (none kept)

-- all that is remembered is less by the dead
pub remembered_dropped : (m : Remembering) (dead : List ℕ) → remembered_by (without_places m dead) ≡ without_dead (λ place. is_in place dead) (remembered_by m)
remembered_dropped m dead =
    ap (λ (hs : List Held). let r : Remembered = record { card = m.card; held = hs } in r)
    (ap (λ (hs : List Held). hs ++ filter (λ held. not (is_in held.place dead)) m.entries) (whole_dropped dead m.kept)
    ∙ sym (filter-append (λ held. not (is_in held.place dead)) (map held_whole m.kept) m.entries))
