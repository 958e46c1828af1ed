-- A store without some husks is sound.
use Rattle.std.proofs.Common.{◌≡◌, ℕ, ◌⊎◌, Bool, true, false, IsTrue, List, [], ◌∷◌, map, refl, sym, ap, ◌∙◌, subst, inl, inr}
use Rattle.std.specs.Prelude.{not, ◌&&◌, filter}
use Rattle.object_model.proofs.Members.{is_in-head, is_in-tail, is_in-cases, is_in-nil, in-left, in-right, in-either, not-true}
use Rattle.type_table.proofs.TableLaws.{KeysRise-entries_where}
use Rattle.object_model.specs.declared.settings.Settings.{Settings}
use Rattle.text_model.specs.declared.line.Phase.{Phase}
use Rattle.text_model.specs.declared.line.Phase.TheVariants.{Sweeping}
use Rattle.object_model.specs.Object.{Object}
use Rattle.store_model.specs.Store.{Store}
use Rattle.object_model.specs.Sets.{is_in}
use Rattle.store_model.specs.Sweeping.{is_freed}
use Rattle.type_table.specs.Table.{entries_where}
use Rattle.store_model.specs.Sweeping.{husks_where}
use Rattle.store_model.proofs.SoundLaws.{sound_but}
use Rattle.store_model.specs.Sound.{IsSound, IsPhaseSound, births_in}
use Rattle.store_model.specs.Sweeping.{without_husks}
use Rattle.store_model.proofs.MarkedSound.{entry_part}
use Rattle.store_model.proofs.Homes.{found_where}
use Rattle.object_model.proofs.Distinct.{distinct-less}

-- The store without some husks is sound.
pub husks_sound : (settings : Settings) (store : Store) (freed : ℕ → Bool) → store.phase ≡ Sweeping → IsSound settings store → IsSound settings (without_husks store freed)
husks_sound settings store freed sweeping s =
    sound_but settings store (husks_where store.husks (λ x. not (freed x))) (entries_where (λ x. not (is_freed store freed x)) store.homes) store.visited store.left store.phase
    (subst (λ (p : Phase). IsPhaseSound p settings.sweep (without_husks store freed)) (sym sweeping) (subst (λ (p : Phase). IsPhaseSound p settings.sweep store) sweeping s.phase))
    (record {
      next_above = s.births.next_above;
      born = λ x t. s.births.born x (before x t);
      differ = distinct-less (map (λ (object : Object). object.birth) store.kept) (λ h. not (freed h.0)) (λ h. h.0) store.husks s.births.differ;
      homes_rise = KeysRise-entries_where (λ x. not (is_freed store freed x)) store.homes s.births.homes_rise;
      homes_differ = λ x y place e f. s.births.homes_differ x y place (found_where (λ x. not (is_freed store freed x)) store.homes x place e).0
          (found_where (λ x. not (is_freed store freed x)) store.homes y place f).0;
      housed = λ x place e. let part = found_where (λ x. not (is_freed store freed x)) store.homes x place e in
          after x (s.births.housed x place part.0) (not-true (is_freed store freed x) part.1);
    }) s
  where
    before : (x : ℕ) → IsTrue (is_in x (births_in (without_husks store freed))) → IsTrue (is_in x (births_in store))
    before x t = elim (in-either x (map (λ (object : Object). object.birth) store.kept) _ t) [
      | inl a ↦ in-left x (map (λ (object : Object). object.birth) store.kept) _ a
      | inr a ↦ in-right x (map (λ (object : Object). object.birth) store.kept) _ (entry_part (λ y. not (freed y)) store.husks x a).0
    ]

    passed : (x : ℕ) (hs : List (ℕ × ℕ)) → IsTrue (is_in x (map (λ (h : ℕ × ℕ). h.0) hs)) → freed x ≡ false → IsTrue (is_in x (map (λ (h : ℕ × ℕ). h.0) (filter (λ h. not (freed h.0)) hs)))
    passed x [] t e = absurd (is_in-nil x t)
    passed x (h ∷ hs) t e = go (freed h.0) refl (is_in-cases x h.0 (map (λ (h : ℕ × ℕ). h.0) hs) t) (λ u. passed x hs u e)
      where
        go : (b : Bool) → freed h.0 ≡ b → (x ≡ h.0) ⊎ IsTrue (is_in x (map (λ (h : ℕ × ℕ). h.0) hs))
            → (IsTrue (is_in x (map (λ (h : ℕ × ℕ). h.0) hs)) → IsTrue (is_in x (map (λ (h : ℕ × ℕ). h.0) (filter (λ h. not (freed h.0)) hs))))
            → IsTrue (is_in x (map (λ (h : ℕ × ℕ). h.0) (filter (λ h. not (freed h.0)) (h ∷ hs))))
        go true b (inl is) more = absurd (let yes : freed x ≡ true = ap (λ (k : ℕ). freed k) is ∙ b in let no : ⊥ = cc in no)
        go true b (inr u) more = rw b (more u)
        go false b (inl is) more = rw b (subst (λ (k : ℕ). IsTrue (is_in k (h.0 ∷ map (λ (h : ℕ × ℕ). h.0) (filter (λ h. not (freed h.0)) hs)))) (sym is) (is_in-head h.0 _))
        go false b (inr u) more = rw b (is_in-tail x h.0 _ (more u))

    unfreed : (a b : Bool) → (a && b) ≡ false → b ≡ true → a ≡ false
    unfreed true true e t = e
    unfreed false b e t = refl
    unfreed true false e t = absurd (let no : ⊥ = cc in no)

    after : (x : ℕ) → IsTrue (is_in x (births_in store)) → is_freed store freed x ≡ false → IsTrue (is_in x (births_in (without_husks store freed)))
    after x t e = elim (in-either x (map (λ (object : Object). object.birth) store.kept) _ t) [
      | inl a ↦ in-left x (map (λ (object : Object). object.birth) store.kept) _ a
      | inr a ↦ in-right x (map (λ (object : Object). object.birth) store.kept) _ (passed x store.husks a (unfreed (freed x) (is_in x (map (λ (h : ℕ × ℕ). h.0) store.husks)) e a))
    ]
