-- The cases of following a place where nothing moves, and a slot that follows.
use Rattle.std.proofs.Common.{◌≡◌, ◌≢◌, ℕ, zero, suc, ◌+◌, ◌≤◌, ◌⊎◌, Bool, IsTrue, List, [], ◌∷◌, map, Option, Some, refl, sym, ap, ◌∙◌, inl, inr, arith}
use Rattle.std.specs.Prelude.{slice_get, slice_set}
use Rattle.std.proofs.lemmas.Bool.{cases_Bool, ne_eqb}
use Rattle.type_table.specs.declared.info.TypeInfo.{TypeInfo}
use Rattle.type_table.specs.Table.{Table}
use Rattle.object_view.specs.Moving.{IsMoving, HasLeft}
use Rattle.object_view.proofs.ForwardLaws.{header-unmarked}
use Rattle.store_model.specs.Store.{Store}
use Rattle.object_model.specs.Sets.{is_in}
use Rattle.object_model.specs.ObjectWords.{renamed}
use Rattle.object_model.specs.Holds.{HoldsObjects}
use Rattle.store_model.specs.MinorCollection.{is_unsettled}
use Rattle.minor_collect.specs.Midway.{Follows, FollowedTo, Owes, is_lasting}

pub renamed-some : (name : ℕ → ℕ) (x : ℕ) → 1 ≤ x → renamed name x ≡ Some (name x)
renamed-some name x l = rw (ne_eqb x 0 (λ e. absurd (omega (arith, l, e)))) refl

module _ {types : Table TypeInfo} {store : Store} {remembered : ℕ → ℕ → Bool} {pins : List ℕ} {w name : ℕ → ℕ} {met places found todo held left : List ℕ} {owes : Owes}
    (h : HoldsObjects types w met places name store.kept) (m : IsMoving types w met places name) (f : Follows types store remembered pins w met places name found todo held left owes) where
  -- it stays where it is
  pub followed_stays : (x : ℕ) → IsTrue (is_in x places) → IsTrue (is_lasting pins x) → FollowedTo store pins places found name x x
  followed_stays x t l = record {
    lasts = inr (t, l);
    same_name = refl;
    known = elim (cases_Bool (is_unsettled store (name x))) [ inl u ↦ inl (f.lasts x t l u) | inr e ↦ inr e ];
  }

  each-left : (x : ℕ) → IsTrue (is_in x met) → w x ≡ 18446744073709551615 → IsTrue (is_in x places) ⊎ HasLeft types w places name x → FollowedTo store pins places found name x (w (x + 1))
  each-left x t e (inl there) = absurd (header-unmarked x h there e)
  each-left x t e (inr gone) =
      let g = f.gone x t e in record {
        lasts = inr (gone.there, rw g.0 refl);
        same_name = renamed-some name (w (x + 1)) (h.above (w (x + 1)) gone.there) ∙ (ap Some gone.same_name ∙ sym (renamed-some name x (m.above x t)));
        known = inl g.1.0;
      }

  -- it left before
  pub followed_left : (x : ℕ) → IsTrue (is_in x met) → w x ≡ 18446744073709551615 → FollowedTo store pins places found name x (w (x + 1))
  followed_left x t e = each-left x t e (m.each x t)

  waits-each : (x : ℕ) → w x ≢ 18446744073709551615 → IsTrue (is_in x places) ⊎ HasLeft types w places name x → IsTrue (is_in x places)
  waits-each x ne (inl there) = there
  waits-each x ne (inr gone) = absurd (ne gone.marked)

  -- else it is there, and waits where it does not last
  pub still_there : (x : ℕ) → IsTrue (is_in x met) → w x ≢ 18446744073709551615 → IsTrue (is_in x places)
  still_there x t ne = waits-each x ne (m.each x t)

-- a slot that gets a place of the same name
pub slot_renamed : (f : ℕ → Option ℕ) (slots : List ℕ) (k x y : ℕ) → slice_get slots k ≡ Some x → f y ≡ f x → map f (slice_set slots k y) ≡ map f slots
slot_renamed f [] k x y e same = refl
slot_renamed f (z ∷ slots) zero x y e same = let is : z ≡ x = cc in ap (λ (b : Option ℕ). b ∷ map f slots) (same ∙ ap f (sym is))
slot_renamed f (z ∷ slots) (suc k) x y e same = ap (λ (bs : List (Option ℕ)). f z ∷ bs) (slot_renamed f slots k x y e same)
