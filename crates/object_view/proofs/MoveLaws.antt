-- An object moves: it is copied and left behind. The objects stay as they are.
use Rattle.std.proofs.Common.{◌≡◌, ◌≢◌, ℕ, ◌+◌, ◌<◌, ◌≤◌, ◌⊎◌, IsTrue, ◌==◌, if◌then◌else◌, List, [], ◌∷◌, map, refl, sym, ap, ◌∙◌, subst, inl, inr, arith}
use Rattle.std.specs.Prelude.{IsSome}
use Rattle.std.proofs.lemmas.Bool.{ne_eqb, eq-eqb}
use Rattle.std.proofs.lemmas.Bool.Decides.{eqb_tells}
use Rattle.std.proofs.lemmas.Simd.{map-map}
use Rattle.type_table.specs.declared.info.TypeInfo.{TypeInfo}
use Rattle.type_table.specs.Table.{Table, value_at}
use Rattle.object_model.specs.Object.{Object}
use Rattle.object_model.specs.Sets.{is_in}
use Rattle.object_model.specs.ObjectWords.{renamed, layout_at, words_at, object_from, Covers}
use Rattle.object_model.specs.Holds.{HoldsObjects, IsPointer}
use Rattle.object_model.proofs.Members.{map-same, is_in-head, is_in-tail, is_in-cases, is_in-nil}
use Rattle.object_view.proofs.LayoutLaws.{laid_out, SameAt, keeps-same, object_from-same}
use Rattle.object_view.proofs.ChangeLaws.{covers-kept}
use Rattle.object_view.proofs.BirthLaws.{object_from-names, StandsAdded, stands-same}
use Rattle.object_view.proofs.CopyLaws.{IsCopied, copy-header, copy-birth, copy-type, copy-like, copy-part, object_from-copy}

-- a list in which one place is replaced by another

pub moved_to : ℕ → ℕ → ℕ → ℕ
moved_to p a q = if q == p then a else q

pub moved_to-here : (p a q : ℕ) → q ≡ p → moved_to p a q ≡ a
unfolding moved_to
moved_to-here p a q e = rw (eq-eqb q p e) refl

pub moved_to-other : (p a q : ℕ) → q ≢ p → moved_to p a q ≡ q
unfolding moved_to
moved_to-other p a q e = rw (ne_eqb q p e) refl

-- what a member of the list is
abbrev pub IsMoved : List ℕ → ℕ → ℕ → ℕ → Type 0
IsMoved places p a x = (x ≡ a) ⊎ (IsTrue (is_in x places) × (x ≢ p))

more-moved : (places : List ℕ) (p a q x : ℕ) → IsMoved places p a x → IsMoved (q ∷ places) p a x
more-moved places p a q x (inl e) = inl e
more-moved places p a q x (inr e) = inr (is_in-tail x q places e.0, e.1)

head-moved : (places : List ℕ) (p a q x : ℕ) → x ≡ moved_to p a q → IsMoved (q ∷ places) p a x
head-moved places p a q x e = elim (eqb_tells q p) [
  | inl f ↦ inl (e ∙ moved_to-here p a q f.1)
  | inr f ↦ let is : x ≡ q = e ∙ moved_to-other p a q f.1 in
      inr (let P : ℕ → Type 0 = λ k. IsTrue (is_in k (q ∷ places)) in subst P (sym is) (is_in-head q places), λ g. f.1 (sym is ∙ g))
]

pub moved-cases : (places : List ℕ) (p a x : ℕ) → IsTrue (is_in x (map (moved_to p a) places)) → IsMoved places p a x
moved-cases [] p a x t = absurd (is_in-nil x t)
moved-cases (q ∷ places) p a x t = elim (is_in-cases x (moved_to p a q) (map (moved_to p a) places) t) [
  | inl e ↦ head-moved places p a q x e
  | inr u ↦ more-moved places p a q x (moved-cases places p a x u)
]

pub moved-here : (places : List ℕ) (p a : ℕ) → IsTrue (is_in p places) → IsTrue (is_in a (map (moved_to p a) places))
moved-here [] p a t = absurd (is_in-nil p t)
moved-here (q ∷ places) p a t = elim (is_in-cases p q places t) [
  | inl e ↦ let P : ℕ → Type 0 = λ k. IsTrue (is_in a (k ∷ map (moved_to p a) places)) in
      subst P (sym (moved_to-here p a q (sym e))) (is_in-head a (map (moved_to p a) places))
  | inr u ↦ is_in-tail a (moved_to p a q) (map (moved_to p a) places) (moved-here places p a u)
]

pub moved-there : (places : List ℕ) (p a x : ℕ) → x ≢ p → IsTrue (is_in x places) → IsTrue (is_in x (map (moved_to p a) places))
moved-there [] p a x ne t = absurd (is_in-nil x t)
moved-there (q ∷ places) p a x ne t = elim (is_in-cases x q places t) [
  | inl e ↦ let P : ℕ → Type 0 = λ k. IsTrue (is_in x (k ∷ map (moved_to p a) places)) in
      subst P (e ∙ sym (moved_to-other p a q (λ f. ne (e ∙ f)))) (is_in-head x (map (moved_to p a) places))
  | inr u ↦ is_in-tail x (moved_to p a q) (map (moved_to p a) places) (moved-there places p a x ne u)
]

-- The object at p stands at a too, on words of no other, and the words at p may be overwritten.
pub record Moves (types : Table TypeInfo) (v w : ℕ → ℕ) (met more places : List ℕ) (name other : ℕ → ℕ) (p a : ℕ) : Type 0 where
  pub there : IsTrue (is_in p places)
  pub above : 1 ≤ a
  pub copy : IsCopied types v w a p
  pub rest : (q : ℕ) → IsTrue (is_in q places) → q ≢ p → SameAt types v w q
  pub free : (q at : ℕ) → IsTrue (is_in q places) → q ≢ p → Covers types w q at → a ≤ at → at < a + words_at types w p → ⊥
  pub more_met : (x : ℕ) → IsPointer met x → IsPointer more x
  pub agree : (x : ℕ) → IsPointer met x → renamed other x ≡ renamed name x
  pub same_name : other a ≡ name p
  pub names : (q : ℕ) → IsTrue (is_in q places) → q ≢ p → other q ≡ name q

move-reads : {types : Table TypeInfo} {v w name other : ℕ → ℕ} {met more places : List ℕ} {kept : List Object} {p a : ℕ}
    → HoldsObjects types w met places name kept → Moves types v w met more places name other p a
    → kept ≡ map (object_from types other v) (map (moved_to p a) places)
move-reads {types = types} {v = v} {w = w} {name = name} {other = other} {places = places} {p = p} {a = a} h m =
    let g : ℕ → Object = object_from types other v in
    let named : (q : ℕ) → IsTrue (is_in q places) → object_from types other w q ≡ object_from types name w q =
    λ q t. object_from-names types name other w q (λ j l. m.agree (w ((layout_at types w q).ref_start + j)) (h.closed q j t l)) in
    h.reads ∙ sym (map-map g (moved_to p a) places ∙ map-same (λ q. g (moved_to p a q)) (object_from types name w) places
    (λ q t. elim (eqb_tells q p) [
      | inl e ↦ ap g (moved_to-here p a q e.1) ∙ object_from-copy other m.copy ∙ named p m.there ∙ ap (object_from types name w) (sym e.1)
      | inr e ↦ ap g (moved_to-other p a q e.1) ∙ object_from-same types other v w q (m.rest q t e.1) ∙ named q t
    ]))

stands-new : {types : Table TypeInfo} {v w name other : ℕ → ℕ} {met more places : List ℕ} {kept : List Object} {p a : ℕ}
    → HoldsObjects types w met places name kept → Moves types v w met more places name other p a → StandsAdded types v more other a
stands-new {types = types} {v = v} {w = w} {more = more} {p = p} {a = a} h m =
    let laid = laid_out types w p in let like = copy-like m.copy in record {
      typed = let P : ℕ → Type 0 = λ t. IsSome (value_at types t) in subst P (sym (copy-type m.copy)) (h.typed p m.there);
      header = omega (arith, copy-header m.copy, h.header p m.there);
      above = m.above;
      named = m.same_name ∙ h.named p m.there ∙ sym (copy-birth m.copy);
      closed = λ j l.
          let i : j < (layout_at types w p).pointer_count = omega (arith, l, like.pointer_count) in
          let e : v ((layout_at types v a).ref_start + j) ≡ w ((layout_at types w p).ref_start + j) =
          copy-part ((layout_at types v a).ref_start + j) ((layout_at types w p).ref_start + j) m.copy
          (omega (arith, like.ref_start)) (omega (arith, laid.begins, laid.ordered)) (omega (arith, i, laid.pointers)) in
          let P : ℕ → Type 0 = λ x. IsPointer more x in subst P (sym e) (m.more_met (w ((layout_at types w p).ref_start + j)) (h.closed p j m.there i));
    }

stands-moved : {types : Table TypeInfo} {v w name other : ℕ → ℕ} {met more places : List ℕ} {kept : List Object} {p a : ℕ} (x : ℕ)
    → HoldsObjects types w met places name kept → Moves types v w met more places name other p a → IsMoved places p a x → StandsAdded types v more other x
stands-moved {types = types} {v = v} {other = other} {more = more} x h m (inl e) =
    let P : ℕ → Type 0 = λ k. StandsAdded types v more other k in subst P (sym e) (stands-new h m)
stands-moved {v = v} {other = other} {more = more} x h m (inr e) = stands-same v other more x h e.0 (m.rest x e.0 e.1) m.more_met (m.names x e.0 e.1)

-- the new words are those of no other object
new-covers : {types : Table TypeInfo} {v w : ℕ → ℕ} {p a : ℕ} (x at : ℕ) → IsCopied types v w a p → x ≡ a → Covers types v x at
    → (a ≤ at) × (at < a + words_at types w p)
new-covers {types = types} {v = v} {p = p} {a = a} x at copy e c =
    let P : ℕ → Type 0 = λ k. Covers types v k at in let d : Covers types v a at = subst P e c in (d.0, omega (arith, d.1, (copy-like copy).words))

move-apart : {types : Table TypeInfo} {v w name other : ℕ → ℕ} {met more places : List ℕ} {kept : List Object} {p a : ℕ} (x y at : ℕ)
    → HoldsObjects types w met places name kept → Moves types v w met more places name other p a → IsMoved places p a x → IsMoved places p a y
    → Covers types v x at → Covers types v y at → x ≡ y
move-apart x y at h m (inl e) (inl f) c d = e ∙ sym f
move-apart {types = types} {v = v} {w = w} x y at h m (inl e) (inr f) c d =
    let here = new-covers x at m.copy e c in
    absurd (m.free y at f.0 f.1 (covers-kept y at (keeps-same types v w y (m.rest y f.0 f.1)) d) here.0 here.1)
move-apart {types = types} {v = v} {w = w} x y at h m (inr e) (inl f) c d =
    let here = new-covers y at m.copy f d in
    absurd (m.free x at e.0 e.1 (covers-kept x at (keeps-same types v w x (m.rest x e.0 e.1)) c) here.0 here.1)
move-apart {types = types} {v = v} {w = w} x y at h m (inr e) (inr f) c d =
    h.apart x y at e.0 f.0 (covers-kept x at (keeps-same types v w x (m.rest x e.0 e.1)) c) (covers-kept y at (keeps-same types v w y (m.rest y f.0 f.1)) d)

move-differ : {types : Table TypeInfo} {v w name other : ℕ → ℕ} {met more places : List ℕ} {kept : List Object} {p a : ℕ} (x y : ℕ)
    → HoldsObjects types w met places name kept → Moves types v w met more places name other p a → IsMoved places p a x → IsMoved places p a y
    → other x ≡ other y → x ≡ y
move-differ x y h m (inl e) (inl f) is = e ∙ sym f
move-differ {other = other} {p = p} x y h m (inl e) (inr f) is =
    absurd (f.1 (sym (h.differ p y m.there f.0 (sym m.same_name ∙ ap other (sym e) ∙ is ∙ m.names y f.0 f.1))))
move-differ {other = other} {p = p} x y h m (inr e) (inl f) is =
    absurd (e.1 (sym (h.differ p x m.there e.0 (sym m.same_name ∙ ap other (sym f) ∙ sym is ∙ m.names x e.0 e.1))))
move-differ x y h m (inr e) (inr f) is = h.differ x y e.0 f.0 (sym (m.names x e.0 e.1) ∙ is ∙ m.names y f.0 f.1)

-- An object moves: the same objects are held, with one place replaced.
pub move_holds : {types : Table TypeInfo} {v w name other : ℕ → ℕ} {met more places : List ℕ} {kept : List Object} {p a : ℕ}
    → HoldsObjects types w met places name kept → Moves types v w met more places name other p a
    → HoldsObjects types v more (map (moved_to p a) places) other kept
move_holds {types = types} {v = v} {other = other} {more = more} {places = places} {p = p} {a = a} h m =
    let at : (x : ℕ) → IsTrue (is_in x (map (moved_to p a) places)) → StandsAdded types v more other x = λ x t. stands-moved x h m (moved-cases places p a x t) in
    record {
      reads = move-reads h m;
      typed = λ x t. (at x t).typed;
      header = λ x t. (at x t).header;
      above = λ x t. (at x t).above;
      named = λ x t. (at x t).named;
      apart = λ x y b t u c d. move-apart x y b h m (moved-cases places p a x t) (moved-cases places p a y u) c d;
      differ = λ x y t u is. move-differ x y h m (moved-cases places p a x t) (moved-cases places p a y u) is;
      closed = λ x j t l. (at x t).closed j l;
    }
