-- What visits change: first words of the visited objects get the mark, and nothing else changes.
use Rattle.std.proofs.Common.{◌≡◌, ◌≢◌, ℕ, Bool, true, false, IsTrue, List, ◌∷◌, ◌++◌, map, refl, sym, ap, ◌∙◌, subst, inl, inr}
use Rattle.std.specs.Prelude.{◌||◌, not}
use Rattle.std.proofs.lemmas.Bool.Decides.{eqb_tells}
use Rattle.type_table.specs.declared.info.TypeInfo.{TypeInfo}
use Rattle.type_table.specs.Table.{Table}
use Rattle.heap_space.specs.Places.{has, word_at}
use Rattle.heap_space.specs.Memory.{Memory}
use Rattle.heap_space.specs.Extents.{extent_of}
use Rattle.heap_space.proofs.Blocks.{word_at-elsewhere, word_at-here}
use Rattle.heap_space.proofs.ExtentLaws.{extents-with_word}
use Rattle.object_header.specs.Words.{has_flag, with_flag}
use Rattle.object_header.specs.declared.flags.Flag.TheVariants.{Visited}
use Rattle.object_header.proofs.WordLaws.{has_flag-with_flag_same}
use Rattle.object_model.specs.Sets.{is_in}
use Rattle.object_model.proofs.Members.{is_in-head, is_in-tail, is_in-cases, is_in-nil}
use Rattle.object_view.proofs.LayoutLaws.{KeepsLayout, keeps-same}
use Rattle.mark_steps.specs.Visits.{is_outside, is_visited, outside_refs, with_visited, PlaceVisits, NoPlace, PassesPlace, VisitsPlace, CanVisit}
use Rattle.mark_steps.proofs.VisitStep.{has-first, can-visited, can-passed, keeps-visited, refs-visited}

-- the memory has its form, and only first words of the visited changed
pub record KeepsRest (old new : Memory) (visited : List ℕ) : Type 0 where
  pub rest : new ≡ record old { blocks = new.blocks }
  pub extents : map extent_of new.blocks ≡ map extent_of old.blocks
  pub elsewhere : (b : ℕ) → is_in b visited ≡ false → word_at new.blocks b ≡ word_at old.blocks b
  pub marked : (p : ℕ) → IsTrue (is_in p visited) → word_at new.blocks p ≡ with_flag (word_at old.blocks p) Visited

-- the visited are among the places, lie outside the nursery, and did not carry the mark
pub record AreVisits (types : Table TypeInfo) (nursery : ℕ) (old : Memory) (places visited : List ℕ) : Type 0 where
  pub there : (p : ℕ) → IsTrue (is_in p visited) → IsTrue (is_in p places)
  pub outside : (p : ℕ) → IsTrue (is_in p visited) → IsTrue (is_outside nursery p)
  pub unmarked : (p : ℕ) → IsTrue (is_in p visited) → is_visited old p ≡ false

-- the objects have their types, births, layouts and references
pub record KeepsLayouts (types : Table TypeInfo) (nursery : ℕ) (old new : Memory) (places : List ℕ) : Type 0 where
  pub keeps : (q : ℕ) → IsTrue (is_in q places) → KeepsLayout types (word_at new.blocks) (word_at old.blocks) q
  pub refs : (q : ℕ) → IsTrue (is_in q places) → outside_refs types nursery (word_at new.blocks) q ≡ outside_refs types nursery (word_at old.blocks) q

-- the two halves of the test that passes over a place
pub visits-outside : (a b : Bool) → (not a || b) ≡ false → IsTrue a × (b ≡ false)
visits-outside true b f = (refl, f)
visits-outside false b f = absurd (let no : ⊥ = cc in no)

keeps-then : (types : Table TypeInfo) (u v w : ℕ → ℕ) (q : ℕ) → KeepsLayout types u v q → KeepsLayout types v w q → KeepsLayout types u w q
keeps-then types u v w q b a = record {
  type_stays = b.type_stays ∙ a.type_stays;
  header = λ l. b.header (a.header l);
  birth_stays = b.birth_stays ∙ a.birth_stays;
  layout_stays = b.layout_stays ∙ a.layout_stays;
}

not-in : (b p : ℕ) (ps : List ℕ) → is_in b (p ∷ ps) ≡ false → (b ≢ p) × (is_in b ps ≡ false)
not-in b p ps f = (
  λ e. (let yes : is_in b (p ∷ ps) ≡ true = (let P : ℕ → Type 0 = λ k. IsTrue (is_in b (k ∷ ps)) in subst P e (is_in-head b ps)) in let no : ⊥ = cc in no),
  go (is_in b ps) refl,
)
  where
    go : (c : Bool) → is_in b ps ≡ c → is_in b ps ≡ false
    go true e = absurd (let yes : is_in b (p ∷ ps) ≡ true = is_in-tail b p ps e in let no : ⊥ = cc in no)
    go false e = e

-- Only the mark changes, and on the visited alone.
pub visits-keep : {types : Table TypeInfo} {nursery : ℕ} (m : Memory) (gray ps : List ℕ) (new : Memory) (left places : List ℕ) → CanVisit types nursery m gray places
    → PlaceVisits types nursery m gray ps new left
    → KeepsRest m new ps × (AreVisits types nursery m places ps × KeepsLayouts types nursery m new places)
visits-keep {types = types} m _ _ _ _ places can (NoPlace _ gray) = (
  record { rest = refl; extents = refl; elsewhere = λ b f. refl; marked = λ p t. absurd (is_in-nil p t) },
  (
    record { there = λ p t. absurd (is_in-nil p t); outside = λ p t. absurd (is_in-nil p t); unmarked = λ p t. absurd (is_in-nil p t) },
    record { keeps = λ q t. keeps-same types (word_at m.blocks) (word_at m.blocks) q (record { same = λ b l r. refl }); refs = λ q t. refl },
  ),
)
visits-keep m _ ps new left places can (PassesPlace _ p rest _ _ _ passed more) = visits-keep m rest ps new left places (can-passed p rest can refl) more
visits-keep {types = types} {nursery = nursery} m _ _ new left places can (VisitsPlace _ p rest ps _ _ passed more) =
    let o = visits-outside (is_outside nursery p) (is_visited m p) passed in
    let t : IsTrue (is_in p places) = can.listed p (is_in-head p rest) o.0 in
    let x : ℕ = with_flag (word_at m.blocks p) Visited in
    let here : has m.blocks p ≡ true = has-first m types p (can.whole p t) in
    let l = visits-keep (with_visited m p) (rest ++ outside_refs types nursery (word_at m.blocks) p) ps new left places (can-visited p can t rest refl) more in
    let late : (q : ℕ) → IsTrue (is_in q ps) → q ≢ p = λ q u e.
    (let no_flag : is_visited (with_visited m p) p ≡ false = (let P : ℕ → Type 0 = λ k. is_visited (with_visited m p) k ≡ false in subst P e (l.1.0.unmarked q u)) in
    let flag : is_visited (with_visited m p) p ≡ true = ap (λ k. has_flag k Visited) (word_at-here m.blocks p x here) ∙ has_flag-with_flag_same (word_at m.blocks p) Visited in
    let no : ⊥ = cc in no) in
    let before : (q : ℕ) → q ≢ p → word_at (with_visited m p).blocks q ≡ word_at m.blocks q = λ q ne. word_at-elsewhere m.blocks p x q ne in (
      record {
        rest = l.0.rest;
        extents = l.0.extents ∙ extents-with_word m.blocks p x;
        elsewhere = λ b f. l.0.elsewhere b (not-in b p ps f).1 ∙ before b (not-in b p ps f).0;
        marked = λ q u. elim (eqb_tells q p) [
          | inl e ↦
              let P : ℕ → Type 0 = λ k. word_at new.blocks k ≡ with_flag (word_at m.blocks k) Visited in
              subst P (sym e.1) (l.0.elsewhere p (absent ps p (λ v. late p v refl)) ∙ word_at-here m.blocks p x here)
          | inr n ↦ elim (is_in-cases q p ps u) [
            | inl e ↦ absurd (n.1 e)
            | inr v ↦ l.0.marked q v ∙ ap (λ k. with_flag k Visited) (before q n.1)
          ]
        ];
      },
      (
        record {
          there = λ q u. elim (is_in-cases q p ps u) [ inl e ↦ (let P : ℕ → Type 0 = λ k. IsTrue (is_in k places) in subst P (sym e) t) | inr v ↦ l.1.0.there q v ];
          outside = λ q u. elim (is_in-cases q p ps u) [ inl e ↦ (let P : ℕ → Type 0 = λ k. IsTrue (is_outside nursery k) in subst P (sym e) o.0) | inr v ↦ l.1.0.outside q v ];
          unmarked = λ q u. elim (is_in-cases q p ps u) [
            | inl e ↦ (let P : ℕ → Type 0 = λ k. is_visited m k ≡ false in subst P (sym e) o.1)
            | inr v ↦ ap (λ k. has_flag k Visited) (sym (before q (late q v))) ∙ l.1.0.unmarked q v
          ];
        },
        record {
          keeps = λ q u. keeps-then types (word_at new.blocks) (word_at (with_visited m p).blocks) (word_at m.blocks) q (l.1.1.keeps q u) (keeps-visited p can t q u);
          refs = λ q u. l.1.1.refs q u ∙ refs-visited p can t q u;
        },
      ),
    )
  where
    absent : (xs : List ℕ) (q : ℕ) → (IsTrue (is_in q xs) → ⊥) → is_in q xs ≡ false
    absent xs q none = go (is_in q xs) refl
      where
        go : (c : Bool) → is_in q xs ≡ c → is_in q xs ≡ false
        go true e = absurd (none e)
        go false e = e

-- Marking can go on with what is left, in the same places.
pub visits-can : {types : Table TypeInfo} {nursery : ℕ} (m : Memory) (gray ps : List ℕ) (new : Memory) (left places : List ℕ) → CanVisit types nursery m gray places
    → PlaceVisits types nursery m gray ps new left → CanVisit types nursery new left places
visits-can m _ _ _ _ places can (NoPlace _ gray) = can
visits-can m _ ps new left places can (PassesPlace _ p rest _ _ _ passed more) = visits-can m rest ps new left places (can-passed p rest can refl) more
visits-can {types = types} {nursery = nursery} m _ _ new left places can (VisitsPlace _ p rest ps _ _ passed more) =
    let t : IsTrue (is_in p places) = can.listed p (is_in-head p rest) (visits-outside (is_outside nursery p) (is_visited m p) passed).0 in
    visits-can (with_visited m p) (rest ++ outside_refs types nursery (word_at m.blocks) p) ps new left places (can-visited p can t rest refl) more
