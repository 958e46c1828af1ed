-- Words under which objects have the layouts that they had.
use Rattle.std.proofs.Common.{◌≡◌, ℕ, ◌+◌, IsTrue, List, [], ◌∷◌, ◌++◌, sym, ap, refl, subst, arith}
use Rattle.std.specs.Prelude.{sum_by, IsSome}
use Rattle.std.proofs.lemmas.List.Sums.{sum_by-append, sum_by-cons}
use Rattle.type_table.specs.declared.info.TypeInfo.{TypeInfo}
use Rattle.type_table.specs.Table.{Table, value_at}
use Rattle.heap_space.specs.Places.{lies_in_one, word_at}
use Rattle.heap_space.specs.Memory.{Memory}
use Rattle.object_model.proofs.Members.{is_in-head, is_in-tail}
use Rattle.object_view.proofs.LayoutLaws.{KeepsLayout}
use Rattle.object_model.specs.Sets.{is_in}
use Rattle.object_model.specs.Layout.{Layout}
use Rattle.object_model.specs.ObjectWords.{words_at}
use Rattle.parts_model.specs.Nursery.{IsWalk}
use Rattle.parts_model.specs.Places.{AreWhole}

-- the words v have the layouts of the words w at these places
abbrev pub SameLayouts : Table TypeInfo → (ℕ → ℕ) → (ℕ → ℕ) → List ℕ → Type 0
SameLayouts types v w places = (p : ℕ) → IsTrue (is_in p places) → KeepsLayout types v w p

pub walk-same : (types : Table TypeInfo) (v w : ℕ → ℕ) (from end : ℕ) (places : List ℕ) → SameLayouts types v w places
    → IsWalk types w from places end → IsWalk types v from places end
walk-same types v w from end [] same walk = walk
walk-same types v w from end (p ∷ places) same walk =
    let words : words_at types w p ≡ words_at types v p = sym (ap (λ (l : Layout). l.words) (same p (is_in-head p places)).layout_stays) in (
      walk.0,
      subst (λ (n : ℕ). IsWalk types v (from + n) places end) words
          (walk-same types v w (from + words_at types w p) end places (λ q t. same q (is_in-tail q p places t)) walk.1),
    )

-- objects stand whole where blocks and layouts are the same
pub whole-same : (old new : Memory) (types : Table TypeInfo) (places : List ℕ) → SameLayouts types (word_at new.blocks) (word_at old.blocks) places
    → ((a n : ℕ) → lies_in_one new.blocks a n ≡ lies_in_one old.blocks a n) → AreWhole old types places → AreWhole new types places
whole-same old new types places same lies whole = λ p t.
    let keeps = same p t in let object = whole p t in record {
      typed = subst (λ (id : ℕ). IsSome (value_at types id)) (sym keeps.type_stays) object.typed;
      whole = rw lies (subst (λ (l : Layout). IsTrue (lies_in_one old.blocks p l.words)) (sym keeps.layout_stays) object.whole);
    }

-- the words of objects whose layouts stay
pub sum-same : (types : Table TypeInfo) (v w : ℕ → ℕ) (places : List ℕ) → SameLayouts types v w places
    → sum_by (words_at types v) places ≡ sum_by (words_at types w) places
sum-same types v w [] same = refl
sum-same types v w (p ∷ places) same =
    let here : words_at types v p ≡ words_at types w p = ap (λ (l : Layout). l.words) (same p (is_in-head p places)).layout_stays in
    let rest = sum-same types v w places (λ q t. same q (is_in-tail q p places t)) in
    omega (arith, here, rest, sum_by-cons (words_at types v) p places, sum_by-cons (words_at types w) p places)

-- and those of one object more
pub sum-more : (types : Table TypeInfo) (v w : ℕ → ℕ) (places : List ℕ) (a n : ℕ) → SameLayouts types v w places → words_at types v a ≡ n
    → sum_by (words_at types v) (places ++ a ∷ []) ≡ sum_by (words_at types w) places + n
sum-more types v w places a n same size =
    omega (arith, size, sum-same types v w places same, sum_by-append (words_at types v) places (a ∷ []), sum_by-cons (words_at types v) a [])
