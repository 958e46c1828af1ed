-- Pins: one more, and one less.
use Rattle.std.proofs.Common.{◌≡◌, ℕ, zero, suc, ◌+◌, ◌-◌, ◌<◌, ◌≤◌, ◌⊎◌, Bool, IsTrue, nat_eq, List, [], ◌∷◌, ◌++◌, map, length, None, refl, sym, ap, ◌∙◌, subst, inl, inr, arith, append-nil, false, Option}
use Rattle.std.specs.Prelude.{IsFalse, nat_lt, if◌then◌else◌, ◌++◌}
use Rattle.std.specs.List.{IsDistinct, All}
use Rattle.std.proofs.lemmas.List.{length-append}
use Rattle.std.proofs.lemmas.List.Elements.{All-cons, All-head, All-tail}
use Rattle.std.proofs.lemmas.Bool.Decides.{eqb_tells, nat_tests}
use Rattle.object_model.proofs.Members.{is_in-head, is_in-tail, is_in-cases, is_in-append, is_in-last}
use Rattle.object_model.specs.Object.{Object, object_at}
use Rattle.object_model.specs.Sets.{is_in}
use Rattle.object_model.specs.Fields.{refs_of}
use Rattle.store_model.specs.Roots.{target_in}
use Rattle.store_model.specs.Identity.{pin_count, pinned_more, pinned_less, with_count, has_pin_room, can_refer}
use Rattle.store_model.specs.Sound.{ArePinsSound}
use Rattle.store_model.proofs.BirthSound.{distinct-insert}
use Rattle.type_table.specs.declared.info.Shape.{Shape}
use Rattle.type_table.specs.declared.info.Shape.TheVariants.{Fixed, IntArray, RefArray, Weak}
use Rattle.type_table.specs.declared.info.TypeInfo.{TypeInfo}
use Rattle.type_table.specs.Table.{Table}
use Rattle.object_model.specs.Layout.{layout_of}
use Rattle.object_model.specs.ObjectWords.{renamed, info_at, layout_at, object_from, target_of}

abbrev pub keys : List (ℕ × ℕ) → List ℕ
keys pins = map (λ entry. entry.0) pins

-- what one pin more makes of the pinned objects: it was pinned, or it comes last
pub record IsMore (pins : List (ℕ × ℕ)) (b : ℕ) : Type 0 where
  pub was : (IsTrue (is_in b (keys pins)) × (keys (pinned_more pins b) ≡ keys pins))
      ⊎ (IsFalse (is_in b (keys pins)) × (pin_count pins b ≡ 0) × (keys (pinned_more pins b) ≡ keys pins ++ b ∷ []))

pub is_more : (pins : List (ℕ × ℕ)) (b : ℕ) → IsMore pins b
is_more [] b = record { was = inr (refl, refl, refl) }
is_more (e ∷ pins) b = elim (eqb_tells e.0 b) [
  | inl same ↦ record {
    was = inl (
      (let P : ℕ → Type 0 = λ k. IsTrue (is_in k (e.0 ∷ keys pins)) in subst P same.1 (is_in-head e.0 (keys pins))),
      ap keys (ap (λ (t : Bool). if t then (e.0, e.1 + 1) ∷ pins else e ∷ pinned_more pins b) same.0),
    );
  }
  | inr differ ↦
      (let more : keys (pinned_more (e ∷ pins) b) ≡ e.0 ∷ keys (pinned_more pins b) = ap keys (ap (λ (t : Bool). if t then (e.0, e.1 + 1) ∷ pins else e ∷ pinned_more pins b) differ.0) in
      elim (is_more pins b).was [
        | inl old ↦ record { was = inl (is_in-tail b e.0 (keys pins) old.0, more ∙ ap (λ (ks : List ℕ). e.0 ∷ ks) old.1) }
        | inr new ↦ record {
          was = inr (
            (let f = new.0 in rw differ.0 f),
            ap (λ (t : Bool). if t then e.1 else pin_count pins b) differ.0 ∙ new.1,
            more ∙ ap (λ (ks : List ℕ). e.0 ∷ ks) new.2,
          );
        }
      ])
]

-- each other object is pinned as before, and this one is
pub more-here : (pins : List (ℕ × ℕ)) (b : ℕ) → IsTrue (is_in b (keys (pinned_more pins b)))
more-here pins b = elim (is_more pins b).was [
  | inl old ↦ subst (λ (ks : List ℕ). IsTrue (is_in b ks)) (sym old.1) old.0
  | inr new ↦ subst (λ (ks : List ℕ). IsTrue (is_in b ks)) (sym new.2) (is_in-last (keys pins) b)
]

pub more-cases : (pins : List (ℕ × ℕ)) (b q : ℕ) → IsTrue (is_in q (keys (pinned_more pins b))) → (q ≡ b) ⊎ IsTrue (is_in q (keys pins))
more-cases pins b q t = elim (is_more pins b).was [
  | inl old ↦ inr (subst (λ (ks : List ℕ). IsTrue (is_in q ks)) old.1 t)
  | inr new ↦ is_in-append (keys pins) b q (subst (λ (ks : List ℕ). IsTrue (is_in q ks)) new.2 t)
]

more-counted : (pins : List (ℕ × ℕ)) (b : ℕ) → pin_count pins b < 65535 → All (λ entry. (0 < entry.1) × (entry.1 ≤ 65535)) pins
    → All (λ entry. (0 < entry.1) × (entry.1 ≤ 65535)) (pinned_more pins b)
more-counted [] b low all = All-cons (λ entry. (0 < entry.1) × (entry.1 ≤ 65535)) (b, 1) [] (omega arith, omega arith) all
more-counted (e ∷ pins) b low all =
    let P : ℕ × ℕ → Type 0 = λ entry. (0 < entry.1) × (entry.1 ≤ 65535) in
    let head = All-head P e pins all in let tail = All-tail P e pins all in
    elim (eqb_tells e.0 b) [
      | inl same ↦ (let few : e.1 < 65535 = rw same.0 at low in rw same.0 (All-cons P (e.0, e.1 + 1) pins (omega arith, omega (arith, few)) tail))
      | inr differ ↦ (let few : pin_count pins b < 65535 = rw differ.0 at low in rw differ.0 (All-cons P e (pinned_more pins b) head (more-counted pins b few tail)))
    ]

room-count : (most : ℕ) (pins : List (ℕ × ℕ)) (n : ℕ) → IsTrue (has_pin_room most pins n) → n < 65535
room-count most pins zero t = omega arith
room-count most pins (suc n) t = grind (arith, nat_tests)

-- One pin more keeps the pins sound, where there is room for it and the object may be pinned.
pub more_sound : {most : ℕ} {kept : List Object} {settled : List ℕ} {pinned : List (ℕ × ℕ)} (b : ℕ) → ArePinsSound most kept settled pinned
    → IsTrue (has_pin_room most pinned (pin_count pinned b)) → IsFalse (is_in b settled) → refs_of (object_at kept b) ≡ [] → target_in (object_at kept b) ≡ None
    → ArePinsSound most kept settled (pinned_more pinned b)
more_sound {most = most} {kept = kept} {settled = settled} {pinned = pinned} b s room young bare untargeted = record {
  differ = elim (is_more pinned b).was [
    | inl old ↦ subst (IsDistinct nat_eq) (sym old.1) s.differ
    | inr new ↦ subst (IsDistinct nat_eq) (sym new.2) (distinct-insert b (keys pinned) [] (λ y t e. absurd (let u : IsTrue (is_in y (keys pinned)) = subst (λ (ks : List ℕ). IsTrue (is_in y ks)) (append-nil (keys pinned)) t in
        let v : IsTrue (is_in b (keys pinned)) = (let P : ℕ → Type 0 = λ k. IsTrue (is_in k (keys pinned)) in subst P e u) in let f = new.0 in let no : ⊥ = cc in no))
        (subst (IsDistinct nat_eq) (sym (append-nil (keys pinned))) s.differ))
  ];
  few = elim (is_more pinned b).was [
    | inl old ↦ (let same : length (pinned_more pinned b) ≡ length pinned = sym (length-keys (pinned_more pinned b)) ∙ (ap length old.1 ∙ length-keys pinned) in let few = s.few in omega (arith, same, few))
    | inr new ↦ (let more : length (pinned_more pinned b) ≡ length pinned + 1 = sym (length-keys (pinned_more pinned b)) ∙ (ap length new.2 ∙ (length-append (keys pinned) (b ∷ []) ∙ ap (λ (k : ℕ). k + 1) (length-keys pinned))) in
        let free : IsTrue (nat_lt (length pinned) most) = subst (λ (k : ℕ). IsTrue (has_pin_room most pinned k)) new.1 room in grind (arith, nat_tests))
  ];
  counted = more-counted pinned b (room-count most pinned (pin_count pinned b) room) s.counted;
  unsettled = λ x t. elim (more-cases pinned b x t) [
    | inl e ↦ subst (λ (k : ℕ). IsFalse (is_in k settled)) (sym e) young
    | inr u ↦ s.unsettled x u
  ];
  no_references = λ x t. elim (more-cases pinned b x t) [ inl e ↦ ap (λ (k : ℕ). refs_of (object_at kept k)) e ∙ bare | inr u ↦ s.no_references x u ];
  no_target = λ x t. elim (more-cases pinned b x t) [ inl e ↦ ap (λ (k : ℕ). target_in (object_at kept k)) e ∙ untargeted | inr u ↦ s.no_target x u ];
}
  where
    length-keys : (pins : List (ℕ × ℕ)) → length (keys pins) ≡ length pins
    length-keys [] = refl
    length-keys (e ∷ pins) = ap (λ (k : ℕ). suc k) (length-keys pins)

-- One pin less: no object more is pinned.
pub less-in : (pins : List (ℕ × ℕ)) (b q : ℕ) → IsTrue (is_in q (keys (pinned_less pins b))) → IsTrue (is_in q (keys pins))
less-in [] b q t = t
less-in (e ∷ pins) b q t = elim (eqb_tells e.0 b) [
  | inl same ↦ counted e.0 (e.1 - 1) pins (rw same.0 at t)
  | inr differ ↦
      (let u : IsTrue (is_in q (e.0 ∷ keys (pinned_less pins b))) = rw differ.0 at t in
      elim (is_in-cases q e.0 (keys (pinned_less pins b)) u) [
        | inl z ↦ (let P : ℕ → Type 0 = λ k. IsTrue (is_in k (e.0 ∷ keys pins)) in subst P (sym z) (is_in-head e.0 (keys pins)))
        | inr v ↦ is_in-tail q e.0 (keys pins) (less-in pins b q v)
      ])
]
  where
    counted : (k n : ℕ) (es : List (ℕ × ℕ)) → IsTrue (is_in q (keys (with_count k n es))) → IsTrue (is_in q (k ∷ keys es))
    counted k zero es t = is_in-tail q k (keys es) t
    counted k (suc n) es t = t

no-refs : (s : Shape) (p third : ℕ) → can_refer s ≡ false → (layout_of s p third).ref_count ≡ 0
no-refs (Fixed a b) p third e = grind (arith, nat_tests)
no-refs IntArray p third e = refl
no-refs RefArray p third e = absurd (let no : ⊥ = cc in no)
no-refs Weak p third e = refl

no-target : (s : Shape) (t : Option ℕ) → can_refer s ≡ false → target_of s t ≡ None
no-target (Fixed a b) t e = refl
no-target IntArray t e = refl
no-target RefArray t e = refl
no-target Weak t e = absurd (let no : ⊥ = cc in no)

pub no-refs-at : (types : Table TypeInfo) (w : ℕ → ℕ) (p : ℕ) → can_refer (info_at types w p).shape ≡ false → (layout_at types w p).ref_count ≡ 0
unfolding layout_at
no-refs-at types w p e = no-refs (info_at types w p).shape p (w (p + 2)) e

pub bare-target : (types : Table TypeInfo) (name w : ℕ → ℕ) (p : ℕ) → can_refer (info_at types w p).shape ≡ false → (object_from types name w p).target ≡ None
unfolding object_from
bare-target types name w p e = no-target (info_at types w p).shape (renamed name (w (layout_at types w p).ref_start)) e
