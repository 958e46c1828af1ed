-- Targets that change one after another. A rule tells what becomes of a target and whether it is gone, by the words.
use Rattle.std.proofs.Common.{◌≡◌, ◌≢◌, ℕ, ◌+◌, ◌%◌, ◌<◌, ◌≤◌, ◌⊎◌, Bool, true, false, IsTrue, List, [], ◌∷◌, ◌++◌, map, filter, append-nil, append_assoc, refl, sym, ap, ◌∙◌, subst, inl, inr, arith}
use Rattle.std.specs.Prelude.{if◌then◌else◌}
use Rattle.std.proofs.lemmas.Bool.{cases_Bool}
use Rattle.std.proofs.lemmas.Bool.Decides.{eqb_tells}
use Rattle.std.proofs.lemmas.List.{map-append}
use Rattle.std.proofs.lemmas.List.Elements.{filter-append}
use Rattle.type_table.specs.declared.info.Shape.TheVariants.{Weak}
use Rattle.type_table.specs.declared.info.TypeInfo.{TypeInfo}
use Rattle.type_table.specs.Table.{Table}
use Rattle.heap_space.specs.Places.{has, word_at}
use Rattle.heap_space.specs.Memory.{Memory}
use Rattle.heap_space.specs.Extents.{lies_within}
use Rattle.heap_space.proofs.ExtentLaws.{has-by_extents, lies_in_one-extents}
use Rattle.object_model.specs.Layout.{Layout}
use Rattle.object_model.specs.Sets.{is_in}
use Rattle.object_model.specs.ObjectWords.{type_id_at, info_at, Covers}
use Rattle.object_view.specs.Views.{HasObject}
use Rattle.object_model.proofs.Members.{is_in-nil, is_in-last, is_in-before, is_in-append}
use Rattle.object_view.proofs.LayoutLaws.{KeepsLayout, laid_out, weak-at, layout_at-same, info_at-same}
use Rattle.object_view.proofs.WholeLaws.{has_object-keeps}
use Rattle.weak_lists.specs.Targets.{target_place, target_at, ChangesTargets, SetsWord}
use Rattle.weak_lists.specs.Conditions.{AreObjects}
use Rattle.weak_lists.specs.Cleared.{once_after, births_losing}
use Rattle.weak_lists.proofs.Once.{once-again, once-new}

-- words that differ from others in no word but targets of these objects
pub record Agrees (types : Table TypeInfo) (w v : ℕ → ℕ) (left : List ℕ) : Type 0 where
  pub elsewhere : (b : ℕ) → ((p : ℕ) → IsTrue (is_in p left) → b ≢ target_place types w p) → v b ≡ w b

-- whole weak objects, among objects that share no word
pub record AreWeak (types : Table TypeInfo) (memory : Memory) (left all : List ℕ) : Type 0 where
  pub objects : AreObjects types memory all
  pub there : (p : ℕ) → IsTrue (is_in p left) → IsTrue (is_in p all)
  pub weak : (p : ℕ) → IsTrue (is_in p left) → (info_at types (word_at memory.blocks) p).shape ≡ Weak

-- A rule for the targets that pass: it does not depend on other targets, and what it gave stays.
pub record IsRule (types : Table TypeInfo) (w : ℕ → ℕ) (left : List ℕ) (Passes : ℕ → Type 0) (becomes : (ℕ → ℕ) → ℕ → ℕ) (gone : (ℕ → ℕ) → ℕ → Bool) : Type 0 where
  pub same : (v : ℕ → ℕ) (t : ℕ) → Agrees types w v left → Passes t → (becomes v t ≡ becomes w t) × (gone v t ≡ gone w t)
  pub again : (t : ℕ) → Passes t → Passes (becomes w t) × ((becomes w (becomes w t) ≡ becomes w t) × (gone w (becomes w t) ≡ false))

-- what was done for some of the weak objects
pub record IsSettling (types : Table TypeInfo) (becomes : ℕ → ℕ) (gone : ℕ → Bool) (first m : Memory) (done told tells : List ℕ) : Type 0 where
  pub changes : ChangesTargets types becomes first m done
  pub births : tells ≡ told ++ births_losing types (word_at first.blocks) gone done

pub settling-begins : (types : Table TypeInfo) (becomes : ℕ → ℕ) (gone : ℕ → Bool) (first : Memory) (told : List ℕ) → IsSettling types becomes gone first first [] told told
settling-begins types becomes gone first told = record {
  changes = record { written = λ p t. absurd (is_in-nil p t); elsewhere = λ b none. refl; extents = refl; rest = refl };
  births = sym (append-nil told);
}

module _ {types : Table TypeInfo} {first : Memory} {left all : List ℕ} (a : AreWeak types first left all) where
  -- a target is a word of its object, behind the first two
  pub target-inside : (p : ℕ) → IsTrue (is_in p left) → Covers types (word_at first.blocks) p (target_place types (word_at first.blocks) p) × (p + 2 ≤ target_place types (word_at first.blocks) p)
  target-inside p t =
      let laid = laid_out types (word_at first.blocks) p in
      let one = (weak-at types (word_at first.blocks) p (a.weak p t)).0 in
      ((omega (arith, laid.begins, laid.ordered), omega (arith, laid.pointers, one)), omega (arith, laid.begins, laid.ordered))

  -- the first two words of an object are no target
  pub head-apart : (q b : ℕ) → IsTrue (is_in q all) → q ≤ b → b < q + 2 → (p : ℕ) → IsTrue (is_in p left) → b ≢ target_place types (word_at first.blocks) p
  head-apart q b u low high p t e =
      let laid = laid_out types (word_at first.blocks) q in
      let inside = target-inside p t in
      let is : q ≡ p = a.objects.apart q p b u (a.there p t) (low, omega (arith, high, laid.header)) (omega (arith, e, inside.0.0), omega (arith, e, inside.0.1)) in
      absurd (omega (arith, is, e, high, inside.1))

  -- the targets of two objects are two words
  pub targets-apart : (p q : ℕ) → IsTrue (is_in p left) → IsTrue (is_in q left) → target_place types (word_at first.blocks) p ≡ target_place types (word_at first.blocks) q → p ≡ q
  targets-apart p q t u e =
      let one = target-inside p t in let two = target-inside q u in
      a.objects.apart p q (target_place types (word_at first.blocks) p) (a.there p t) (a.there q u) one.0 (omega (arith, e, two.0.0), omega (arith, e, two.0.1))

  module _ (v : ℕ → ℕ) (agrees : Agrees types (word_at first.blocks) v left) where
    pub head-same : (q b : ℕ) → IsTrue (is_in q all) → q ≤ b → b < q + 2 → v b ≡ word_at first.blocks b
    head-same q b u low high = agrees.elsewhere b (head-apart q b u low high)

    -- the objects keep types, births and layouts
    pub keeps-settled : (q : ℕ) → IsTrue (is_in q all) → KeepsLayout types v (word_at first.blocks) q
    keeps-settled q u =
        let head : v q ≡ word_at first.blocks q = head-same q q u (omega arith) (omega arith) in
        let type_stays : type_id_at v q ≡ type_id_at (word_at first.blocks) q = ap (λ x. x % 65536) head in
        record {
          type_stays = type_stays;
          header = λ l. omega (arith, head, l);
          birth_stays = head-same q (q + 1) u (omega arith) (omega arith);
          layout_stays = layout_at-same types v (word_at first.blocks) q type_stays (λ begins wide. agrees.elsewhere (q + 2) (λ p t e.
              let inside = target-inside p t in
              let laid = laid_out types (word_at first.blocks) q in
              let is : q ≡ p = a.objects.apart q p (q + 2) u (a.there p t) (omega arith, omega (arith, wide)) (omega (arith, e, inside.0.0), omega (arith, e, inside.0.1)) in
              let same : target_place types (word_at first.blocks) p ≡ target_place types (word_at first.blocks) q = ap (target_place types (word_at first.blocks)) (sym is) in
              absurd (omega (arith, e, same, begins, laid.ordered))));
        }

    pub target_place-same : (p : ℕ) → IsTrue (is_in p left) → target_place types v p ≡ target_place types (word_at first.blocks) p
    target_place-same p t = ap (λ (l : Layout). l.ref_start) (keeps-settled p (a.there p t)).layout_stays

    pub weak-same : (p : ℕ) → IsTrue (is_in p left) → (info_at types v p).shape ≡ Weak
    weak-same p t = ap (λ (i : TypeInfo). i.shape) (info_at-same types v (word_at first.blocks) p (keeps-settled p (a.there p t)).type_stays) ∙ a.weak p t

  module _ {becomes : ℕ → ℕ} {gone : ℕ → Bool} {m : Memory} {done told tells : List ℕ} (i : IsSettling types becomes gone first m done told tells)
      (among : (p : ℕ) → IsTrue (is_in p done) → IsTrue (is_in p left)) where
    pub settling-agrees : Agrees types (word_at first.blocks) (word_at m.blocks) left
    settling-agrees = record { elsewhere = λ b none. i.changes.elsewhere b (λ p t. none p (among p t)) }

    pub settling-object : (q : ℕ) → IsTrue (is_in q all) → HasObject m types q
    settling-object q u = has_object-keeps first m types q (keeps-settled (word_at m.blocks) settling-agrees q u)
        (λ b n l. lies_in_one-extents m.blocks b n ∙ (ap (λ xs. lies_within xs b n) i.changes.extents ∙ (sym (lies_in_one-extents first.blocks b n) ∙ l))) (a.objects.whole q u)

    pub settling-has : (b : ℕ) → has first.blocks b ≡ true → has m.blocks b ≡ true
    settling-has b h = has-by_extents m.blocks first.blocks i.changes.extents b ∙ h

    -- the target at hand: it is as it was, or was changed already
    target-now : (p : ℕ) → IsTrue (is_in p left) → (target_at types (word_at m.blocks) p ≡ target_at types (word_at first.blocks) p)
        ⊎ (IsTrue (is_in p done) × (target_at types (word_at m.blocks) p ≡ becomes (target_at types (word_at first.blocks) p)))
    target-now p t =
        let at = ap (word_at m.blocks) (target_place-same (word_at m.blocks) settling-agrees p t) in
        elim (cases_Bool (is_in p done)) [
          | inl d ↦ inr (d, at ∙ i.changes.written p d)
          | inr n ↦ inl (at ∙ i.changes.elsewhere (target_place types (word_at first.blocks) p) (λ q u e.
              let is : p ≡ q = targets-apart p q t (among q u) e in
              let there : IsTrue (is_in p done) = (let P : ℕ → Type 0 = λ k. IsTrue (is_in k done) in subst P (sym is) u) in
              let no : ⊥ = cc in no))
        ]

  module _ {Passes : ℕ → Type 0} {becomes : (ℕ → ℕ) → ℕ → ℕ} {gone : (ℕ → ℕ) → ℕ → Bool} (rule : IsRule types (word_at first.blocks) left Passes becomes gone)
      (targets : (p : ℕ) → IsTrue (is_in p left) → Passes (target_at types (word_at first.blocks) p))
      {m : Memory} {done told tells : List ℕ} (i : IsSettling types (becomes (word_at first.blocks)) (gone (word_at first.blocks)) first m done told tells)
      (among : (p : ℕ) → IsTrue (is_in p done) → IsTrue (is_in p left)) (p : ℕ) (t : IsTrue (is_in p left)) where
    pub settling-passes : Passes (target_at types (word_at m.blocks) p)
    settling-passes = elim (target-now i among p t) [
      | inl e ↦ subst Passes (sym e) (targets p t)
      | inr d ↦ subst Passes (sym d.1) (rule.again (target_at types (word_at first.blocks) p) (targets p t)).0
    ]

    becomes-now : becomes (word_at m.blocks) (target_at types (word_at m.blocks) p) ≡ becomes (word_at first.blocks) (target_at types (word_at first.blocks) p)
    becomes-now =
        (rule.same (word_at m.blocks) (target_at types (word_at m.blocks) p) (settling-agrees i among) settling-passes).0
        ∙ elim (target-now i among p t) [
          | inl e ↦ ap (becomes (word_at first.blocks)) e
          | inr d ↦ ap (becomes (word_at first.blocks)) d.1 ∙ (rule.again (target_at types (word_at first.blocks) p) (targets p t)).1.0
        ]

    gone-now : gone (word_at m.blocks) (target_at types (word_at m.blocks) p) ≡ gone (word_at first.blocks) (target_at types (word_at m.blocks) p)
    gone-now = (rule.same (word_at m.blocks) (target_at types (word_at m.blocks) p) (settling-agrees i among) settling-passes).1

    abbrev birth : ℕ → ℕ
    birth q = word_at first.blocks (q + 1)

    abbrev loses : ℕ → Bool
    loses q = gone (word_at first.blocks) (target_at types (word_at first.blocks) q)

    -- the births told for the object at hand are those that belong there
    births-more : (d : Bool) → is_in p done ≡ d
        → births_losing types (word_at first.blocks) (gone (word_at first.blocks)) (done ++ p ∷ [])
        ≡ births_losing types (word_at first.blocks) (gone (word_at first.blocks)) done ++ (if gone (word_at m.blocks) (target_at types (word_at m.blocks) p) then word_at m.blocks (p + 1) ∷ [] else [])
    births-more true d =
        let target : target_at types (word_at m.blocks) p ≡ becomes (word_at first.blocks) (target_at types (word_at first.blocks) p) =
        ap (word_at m.blocks) (target_place-same (word_at m.blocks) (settling-agrees i among) p t) ∙ i.changes.written p d in
        let none : gone (word_at m.blocks) (target_at types (word_at m.blocks) p) ≡ false =
        gone-now ∙ (ap (gone (word_at first.blocks)) target ∙ (rule.again (target_at types (word_at first.blocks) p) (targets p t)).1.1) in
        ap (λ xs. map birth (filter loses xs)) (once-again [] done p (inr d)) ∙ (sym (append-nil (map birth (filter loses (once_after [] done)))) ∙ rw none refl)
    births-more false d =
        let target : target_at types (word_at m.blocks) p ≡ target_at types (word_at first.blocks) p = elim (target-now i among p t) [
          | inl e ↦ e
          | inr did ↦ absurd (let is : IsTrue (is_in p done) = did.0 in let no : ⊥ = cc in no)
        ] in
        let test : gone (word_at m.blocks) (target_at types (word_at m.blocks) p) ≡ loses p = gone-now ∙ ap (gone (word_at first.blocks)) target in
        let born : word_at m.blocks (p + 1) ≡ birth p = (keeps-settled (word_at m.blocks) (settling-agrees i among) p (a.there p t)).birth_stays in
        let one : map birth (filter loses (p ∷ [])) ≡ (if gone (word_at m.blocks) (target_at types (word_at m.blocks) p) then word_at m.blocks (p + 1) ∷ [] else []) = one-birth (loses p) refl test born in
        ap (λ xs. map birth (filter loses xs)) (once-new [] done p refl d)
        ∙ (ap (map birth) (filter-append loses (once_after [] done) (p ∷ [])) ∙ (map-append birth (filter loses (once_after [] done)) (filter loses (p ∷ []))
        ∙ ap (λ xs. map birth (filter loses (once_after [] done)) ++ xs) one))
      where
        one-birth : (b : Bool) → loses p ≡ b → gone (word_at m.blocks) (target_at types (word_at m.blocks) p) ≡ loses p → word_at m.blocks (p + 1) ≡ birth p
            → map birth (filter loses (p ∷ [])) ≡ (if gone (word_at m.blocks) (target_at types (word_at m.blocks) p) then word_at m.blocks (p + 1) ∷ [] else [])
        one-birth true e test born = rw (test, e) (ap (λ x. x ∷ []) (sym born))
        one-birth false e test born = rw (test, e) refl

    -- one more weak object is done
    pub settling-more : (new : Memory) (births : List ℕ)
        → SetsWord (target_place types (word_at m.blocks) p) (becomes (word_at m.blocks) (target_at types (word_at m.blocks) p)) m new
        → births ≡ tells ++ (if gone (word_at m.blocks) (target_at types (word_at m.blocks) p) then word_at m.blocks (p + 1) ∷ [] else [])
        → IsSettling types (becomes (word_at first.blocks)) (gone (word_at first.blocks)) first new (done ++ p ∷ []) told births
    settling-more new births sets more =
        let place : target_place types (word_at m.blocks) p ≡ target_place types (word_at first.blocks) p = target_place-same (word_at m.blocks) (settling-agrees i among) p t in
        record {
          changes = record {
            written = λ q u. elim (eqb_tells q p) [
              | inl e ↦
                  let P : ℕ → Type 0 = λ k. word_at new.blocks (target_place types (word_at first.blocks) k) ≡ becomes (word_at first.blocks) (target_at types (word_at first.blocks) k) in
                  subst P (sym e.1) (ap (word_at new.blocks) (sym place) ∙ (sets.written ∙ becomes-now))
              | inr n ↦ elim (is_in-append done p q u) [
                | inl e ↦ absurd (n.1 e)
                | inr d ↦
                    sets.elsewhere (target_place types (word_at first.blocks) q) (λ e. n.1 (targets-apart q p (among q d) t (e ∙ place)))
                    ∙ i.changes.written q d
              ]
            ];
            elsewhere = λ b none.
                sets.elsewhere b (λ e. none p (is_in-last done p) (e ∙ place)) ∙ i.changes.elsewhere b (λ q d. none q (is_in-before done p q d));
            extents = sets.extents ∙ i.changes.extents;
            rest = sets.rest ∙ ap (λ (k : Memory). record k { blocks = new.blocks }) i.changes.rest;
          };
          births = more ∙ (ap (λ xs. xs ++ (if gone (word_at m.blocks) (target_at types (word_at m.blocks) p) then word_at m.blocks (p + 1) ∷ [] else [])) i.births
              ∙ (append_assoc told (births_losing types (word_at first.blocks) (gone (word_at first.blocks)) done) (if gone (word_at m.blocks) (target_at types (word_at m.blocks) p) then word_at m.blocks (p + 1) ∷ [] else [])
              ∙ ap (λ xs. told ++ xs) (sym (births-more (is_in p done) refl))));
        }
