-- An object is added at free words, and a new one is read as it is born.
use Rattle.std.proofs.Common.{◌≡◌, ◌≢◌, ℕ, zero, suc, ◌+◌, ◌<◌, ◌≤◌, ◌⊎◌, IsTrue, List, [], ◌∷◌, ◌++◌, map, refl, sym, ap, ap₂, ◌∙◌, subst, inl, inr, arith}
use Rattle.std.specs.Prelude.{IsSome}
use Rattle.std.proofs.lemmas.List.{map-append}
use Rattle.type_table.specs.declared.info.TypeInfo.{TypeInfo}
use Rattle.type_table.specs.Table.{Table, value_at}
use Rattle.object_model.specs.Layout.{Layout}
use Rattle.object_model.specs.Object.{Object}
use Rattle.object_model.specs.Sets.{is_in}
use Rattle.object_model.specs.ObjectWords.{words_from, renamed, type_id_at, info_at, layout_at, target_of, object_from, Covers}
use Rattle.object_model.specs.Holds.{HoldsObjects, IsPointer}
use Rattle.object_model.proofs.Members.{map-same, is_in-append}
use Rattle.object_view.proofs.LayoutLaws.{laid_out, weak-at, SameAt, keeps-same, target_of-same, object_from-same, object_from-of}
use Rattle.object_view.proofs.ChangeLaws.{covers-kept}

-- names that agree on the places of references

names-refs : (name other w : ℕ → ℕ) (start n : ℕ) → ((j : ℕ) → j < n → renamed other (w (start + j)) ≡ renamed name (w (start + j)))
    → map (renamed other) (words_from w start n) ≡ map (renamed name) (words_from w start n)
names-refs name other w start zero same = refl
names-refs name other w start (suc n) same =
    ap₂ (λ x xs. x ∷ xs) (ap (λ k. renamed other (w k)) (omega arith) ∙ same 0 (omega arith) ∙ ap (λ k. renamed name (w k)) (omega arith))
    (names-refs name other w (start + 1) n (λ j l. ap (λ k. renamed other (w k)) (omega arith) ∙ same (suc j) (omega arith) ∙ ap (λ k. renamed name (w k)) (omega arith)))

-- an object is read the same by names that agree on its pointers
pub object_from-names : (types : Table TypeInfo) (name other w : ℕ → ℕ) (p : ℕ)
    → ((j : ℕ) → j < (layout_at types w p).pointer_count → renamed other (w ((layout_at types w p).ref_start + j)) ≡ renamed name (w ((layout_at types w p).ref_start + j)))
    → object_from types other w p ≡ object_from types name w p
object_from-names types name other w p same =
    let k : Layout = layout_at types w p in let laid = laid_out types w p in
    let target : target_of (info_at types w p).shape (renamed other (w k.ref_start)) ≡ target_of (info_at types w p).shape (renamed name (w k.ref_start)) =
    target_of-same (info_at types w p).shape (renamed other (w k.ref_start)) (renamed name (w k.ref_start)) (λ e.
    let zero-th : k.ref_start + 0 ≡ k.ref_start = omega arith in
    let P : ℕ → Type 0 = λ b. renamed other (w b) ≡ renamed name (w b) in subst P zero-th (same 0 (omega (arith, (weak-at types w p e).0)))) in
    object_from-of types other w p
    ∙ rw (names-refs name other w k.ref_start k.ref_count (λ j l. same j (omega (arith, l, laid.refs))), target) (sym (object_from-of types name w p))

-- An object stands at the further place a, on words of no other.
pub record Adds (types : Table TypeInfo) (v w : ℕ → ℕ) (met more places : List ℕ) (name other : ℕ → ℕ) (a : ℕ) : Type 0 where
  pub above : 1 ≤ a
  pub typed : IsSome (value_at types (type_id_at v a))
  pub header : v a < 67108864
  -- the words of the others stay
  pub rest : (q : ℕ) → IsTrue (is_in q places) → SameAt types v w q
  -- and are none of its own
  pub free : (q at : ℕ) → IsTrue (is_in q places) → Covers types w q at → Covers types v a at → ⊥
  pub more_met : (x : ℕ) → IsPointer met x → IsPointer more x
  -- names stay where they are met, and the further place is named by its birth, which is new
  pub agree : (x : ℕ) → IsPointer met x → renamed other x ≡ renamed name x
  pub names : (q : ℕ) → IsTrue (is_in q places) → other q ≡ name q
  pub birth : other a ≡ v (a + 1)
  pub fresh : (q : ℕ) → IsTrue (is_in q places) → name q ≢ other a
  pub closed : (j : ℕ) → j < (layout_at types v a).pointer_count → IsPointer more (v ((layout_at types v a).ref_start + j))

-- what is to be shown of each place afterwards
pub record StandsAdded (types : Table TypeInfo) (v : ℕ → ℕ) (more : List ℕ) (other : ℕ → ℕ) (x : ℕ) : Type 0 where
  pub typed : IsSome (value_at types (type_id_at v x))
  pub header : v x < 67108864
  pub above : 1 ≤ x
  pub named : other x ≡ v (x + 1)
  pub closed : (j : ℕ) → j < (layout_at types v x).pointer_count → IsPointer more (v ((layout_at types v x).ref_start + j))

-- an object whose words stay, under names that stay
pub stands-same : {types : Table TypeInfo} {w name : ℕ → ℕ} {met places : List ℕ} {kept : List Object} (v other : ℕ → ℕ) (more : List ℕ) (q : ℕ)
    → HoldsObjects types w met places name kept → IsTrue (is_in q places) → SameAt types v w q → ((x : ℕ) → IsPointer met x → IsPointer more x)
    → other q ≡ name q → StandsAdded types v more other q
stands-same {types = types} {w = w} v other more q h t same more_met named =
    let keeps = keeps-same types v w q same in let laid = laid_out types w q in record {
      typed = rw keeps.type_stays (h.typed q t);
      header = keeps.header (h.header q t);
      above = h.above q t;
      named = named ∙ h.named q t ∙ sym keeps.birth_stays;
      closed = λ j l.
          let P : Layout → Type 0 = λ layout. j < layout.pointer_count → IsPointer more (v (layout.ref_start + j)) in
          subst P (sym keeps.layout_stays) (λ i.
          let e : v ((layout_at types w q).ref_start + j) ≡ w ((layout_at types w q).ref_start + j) =
          same.same ((layout_at types w q).ref_start + j) (omega (arith, laid.begins, laid.ordered)) (omega (arith, laid.pointers, i)) in
          let Q : ℕ → Type 0 = λ x. IsPointer more x in subst Q (sym e) (more_met (w ((layout_at types w q).ref_start + j)) (h.closed q j t i))) l;
    }

-- a place of the longer list
abbrev IsAdded : List ℕ → ℕ → ℕ → Type 0
IsAdded places a x = (x ≡ a) ⊎ IsTrue (is_in x places)

stands-added : {types : Table TypeInfo} {v w name other : ℕ → ℕ} {met more places : List ℕ} {kept : List Object} {a : ℕ} (x : ℕ)
    → HoldsObjects types w met places name kept → Adds types v w met more places name other a → IsAdded places a x → StandsAdded types v more other x
stands-added {types = types} {v = v} {other = other} {more = more} x h m (inl e) =
    let P : ℕ → Type 0 = λ k. StandsAdded types v more other k in
    subst P (sym e) (record { typed = m.typed; header = m.header; above = m.above; named = m.birth; closed = m.closed })
stands-added {v = v} {other = other} {more = more} x h m (inr t) = stands-same v other more x h t (m.rest x t) m.more_met (m.names x t)

added-apart : {types : Table TypeInfo} {v w name other : ℕ → ℕ} {met more places : List ℕ} {kept : List Object} {a : ℕ} (x y at : ℕ)
    → HoldsObjects types w met places name kept → Adds types v w met more places name other a → IsAdded places a x → IsAdded places a y
    → Covers types v x at → Covers types v y at → x ≡ y
added-apart x y at h m (inl e) (inl f) c d = e ∙ sym f
added-apart {types = types} {v = v} {w = w} x y at h m (inl e) (inr f) c d =
    let P : ℕ → Type 0 = λ k. Covers types v k at in absurd (m.free y at f (covers-kept y at (keeps-same types v w y (m.rest y f)) d) (subst P e c))
added-apart {types = types} {v = v} {w = w} x y at h m (inr e) (inl f) c d =
    let P : ℕ → Type 0 = λ k. Covers types v k at in absurd (m.free x at e (covers-kept x at (keeps-same types v w x (m.rest x e)) c) (subst P f d))
added-apart {types = types} {v = v} {w = w} x y at h m (inr e) (inr f) c d =
    h.apart x y at e f (covers-kept x at (keeps-same types v w x (m.rest x e)) c) (covers-kept y at (keeps-same types v w y (m.rest y f)) d)

added-differ : {types : Table TypeInfo} {v w name other : ℕ → ℕ} {met more places : List ℕ} {kept : List Object} {a : ℕ} (x y : ℕ)
    → HoldsObjects types w met places name kept → Adds types v w met more places name other a → IsAdded places a x → IsAdded places a y
    → other x ≡ other y → x ≡ y
added-differ x y h m (inl e) (inl f) is = e ∙ sym f
added-differ {other = other} x y h m (inl e) (inr f) is = absurd (m.fresh y f (sym (m.names y f) ∙ sym is ∙ ap other e))
added-differ {other = other} x y h m (inr e) (inl f) is = absurd (m.fresh x e (sym (m.names x e) ∙ is ∙ ap other f))
added-differ x y h m (inr e) (inr f) is = h.differ x y e f (sym (m.names x e) ∙ is ∙ m.names y f)

-- An object is added: the others are held as before, and it is the last.
pub added_holds : {types : Table TypeInfo} {v w name other : ℕ → ℕ} {met more places : List ℕ} {kept : List Object} {a : ℕ}
    → HoldsObjects types w met places name kept → Adds types v w met more places name other a
    → HoldsObjects types v more (places ++ a ∷ []) other (kept ++ object_from types other v a ∷ [])
added_holds {types = types} {v = v} {w = w} {name = name} {other = other} {more = more} {places = places} {a = a} h m =
    let at : (x : ℕ) → IsTrue (is_in x (places ++ a ∷ [])) → StandsAdded types v more other x = λ x t. stands-added x h m (is_in-append places a x t) in
    let old : map (object_from types name w) places ≡ map (object_from types other v) places =
    map-same (object_from types name w) (object_from types other v) places
    (λ q t. sym (object_from-same types other v w q (m.rest q t) ∙ object_from-names types name other w q (λ j l. m.agree (w ((layout_at types w q).ref_start + j)) (h.closed q j t l)))) in
    record {
      reads = ap (λ ks. ks ++ object_from types other v a ∷ []) (h.reads ∙ old) ∙ sym (map-append (object_from types other v) places (a ∷ []));
      typed = λ x t. (at x t).typed;
      header = λ x t. (at x t).header;
      above = λ x t. (at x t).above;
      named = λ x t. (at x t).named;
      apart = λ x y b t u c d. added-apart x y b h m (is_in-append places a x t) (is_in-append places a y u) c d;
      differ = λ x y t u is. added-differ x y h m (is_in-append places a x t) (is_in-append places a y u) is;
      closed = λ x j t l. (at x t).closed j l;
    }
