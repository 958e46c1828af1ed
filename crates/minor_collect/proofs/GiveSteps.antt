-- Homes are given back, one object after another.
use Rattle.std.proofs.Common.{◌≡◌, ℕ, ◌++◌, false, IsTrue, List, [], ◌∷◌, Option, Some, None, refl, sym, ap, ◌∙◌, inl, inr}
use Rattle.object_model.specs.Sets.{is_in}
use Rattle.object_model.proofs.Members.{is_in-nil, is_in-cases, in-either}
use Rattle.heap_parts.specs.Parts.{HeapParts, home_in}
use Rattle.heap_parts.specs.Places.{young_places}
use Rattle.minor_collect.specs.Gives.{Giving, GivesSome, CanGive, GaveOne, AreGone, CanGiveAll, GaveAll}
use Rattle.minor_collect.proofs.KeepsMade.{made_none, made_twice}

-- so far those of these places were given back
pub record GivesTo (old now : HeapParts) (dead done : List ℕ) : Type 0 where
  pub each : (giving : Giving) → GivesSome giving old → AreGone giving dead → GaveAll giving old now done

pub gives_none : (heap : HeapParts) (dead : List ℕ) → GivesTo heap heap dead []
gives_none heap dead = record { each = λ giving g gone. record { after = g; only = refl; none = λ p t. absurd (is_in-nil p t); fewer = λ q at t. t; made = made_none heap.old_blocks heap.memory } }

pub gives_can : (old now : HeapParts) (dead done : List ℕ) (q : ℕ) → CanGiveAll old dead → GivesTo old now dead done → IsTrue (is_in q dead) → CanGive now q
gives_can old now dead done q c s t = record { giving = c.giving; gives = (s.each c.giving c.gives c.gone).after; there = (c.gone q t).0; unpinned = (c.gone q t).1 }

still-none : (o n : Option ℕ) → o ≡ None → ((at : ℕ) → n ≡ Some at → o ≡ Some at) → n ≡ None
still-none o None e f = refl
still-none o (Some at) e f = absurd (let bad : None ≡ Some at = sym e ∙ f at refl in let no : ⊥ = cc in no)

pub gives_more : (old now new : HeapParts) (dead done : List ℕ) (q : ℕ) → GivesTo old now dead done → IsTrue (is_in q dead)
    → ((giving : Giving) → GivesSome giving now → IsTrue (is_in q (young_places giving.places)) → is_in q giving.pins ≡ false → GaveOne giving now new q) → GivesTo old new dead (done ++ q ∷ [])
gives_more old now new dead done q s t step = record {
  each = λ giving g gone.
      let a = s.each giving g gone in
      let b = step giving a.after (gone q t).0 (gone q t).1 in record {
        after = b.after;
        only = b.only ∙ ap (λ (h : HeapParts). record h { memory = new.memory; shadows = new.shadows; old_blocks = new.old_blocks }) a.only;
        none = λ p u. elim (in-either p done (q ∷ []) u) [
          | inl before ↦ still-none (home_in now p) (home_in new p) (a.none p before) (b.fewer p)
          | inr here ↦ elim (is_in-cases p q [] here) [
            | inl e ↦ ap (home_in new) e ∙ b.none
            | inr never ↦ absurd (is_in-nil p never)
          ]
        ];
        fewer = λ p at u. a.fewer p at (b.fewer p at u);
        made = made_twice a.made b.made;
      };
}
