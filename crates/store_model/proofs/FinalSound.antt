-- The last step of a cycle leaves a sound store.
use Rattle.std.proofs.Common.{◌≡◌, ◌≢◌, ℕ, ◌⊎◌, Bool, true, false, IsTrue, List, [], ◌∷◌, ◌++◌, map, refl, sym, subst, inl, inr, arith}
use Rattle.std.specs.Prelude.{◌==◌, nat_lt, filter_map, flat_map, unwrap_or}
use Rattle.std.proofs.lemmas.Bool.Decides.{eqb_tells}
use Rattle.type_table.specs.Table.{Table, KeysRise, value_at, with_value}
use Rattle.type_table.proofs.TableLaws.{KeysRise-with_value}
use Rattle.object_model.proofs.Members.{is_in-head, is_in-tail, is_in-cases, is_in-nil, in-left, in-right, in-either}
use Rattle.object_model.specs.declared.settings.Settings.{Settings}
use Rattle.text_model.specs.declared.line.Phase.{Phase}
use Rattle.text_model.specs.declared.line.Phase.TheVariants.{Finalizing}
use Rattle.store_model.specs.Store.{Store}
use Rattle.object_model.specs.Sets.{is_in}
use Rattle.store_model.specs.Roots.{pinned_births, roots_of, registered_births}
use Rattle.store_model.specs.Sweeping.{queues_with, after_finalizing}
use Rattle.store_model.specs.Sound.{IsSound, IsPhaseSound, AreGone}
use Rattle.store_model.proofs.Times.{times_queued, once_less}

abbrev pub queued : Table (List ℕ) → List ℕ
queued queues = flat_map (λ (entry : ℕ × List ℕ). entry.1) queues

value-in : (queues : Table (List ℕ)) (key x : ℕ) → IsTrue (is_in x (unwrap_or (value_at queues key) [])) → IsTrue (is_in x (queued queues))
value-in [] key x t = absurd (is_in-nil x t)
value-in (q ∷ queues) key x t = go (value-in queues key x) (eqb_tells key q.0) t
  where
    go : (IsTrue (is_in x (unwrap_or (value_at queues key) [])) → IsTrue (is_in x (queued queues))) → (((key == q.0) ≡ true) × (key ≡ q.0)) ⊎ (((key == q.0) ≡ false) × (key ≢ q.0))
        → IsTrue (is_in x (unwrap_or (value_at (q ∷ queues) key) [])) → IsTrue (is_in x (q.1 ++ queued queues))
    go more (inl e) t = in-left x q.1 (queued queues) (rw e.0 at t)
    go more (inr e) t = in-right x q.1 (queued queues) (more (rw e.0 at t))

with-in : (queues : Table (List ℕ)) (key x : ℕ) (xs : List ℕ) → IsTrue (is_in x (queued (with_value queues key xs))) → IsTrue (is_in x xs) ⊎ IsTrue (is_in x (queued queues))
with-in [] key x xs t = elim (in-either x xs [] t) [ inl a ↦ inl a | inr a ↦ absurd (is_in-nil x a) ]
with-in (q ∷ queues) key x xs t = go (with-in queues key x xs) (key == q.0) refl (nat_lt key q.0) refl t
  where
    go : (IsTrue (is_in x (queued (with_value queues key xs))) → IsTrue (is_in x xs) ⊎ IsTrue (is_in x (queued queues))) → (b : Bool) → (key == q.0) ≡ b → (c : Bool) → nat_lt key q.0 ≡ c
        → IsTrue (is_in x (queued (with_value (q ∷ queues) key xs))) → IsTrue (is_in x xs) ⊎ IsTrue (is_in x (q.1 ++ queued queues))
    go more true b c d t = elim (in-either x xs (queued queues) (rw b at t)) [ inl a ↦ inl a | inr a ↦ inr (in-right x q.1 (queued queues) a) ]
    go more false b true d t = elim (in-either x xs (q.1 ++ queued queues) (rw (b, d) at t)) [ inl a ↦ inl a | inr a ↦ inr a ]
    go more false b false d t = elim (in-either x q.1 (queued (with_value queues key xs)) (rw (b, d) at t)) [
      | inl a ↦ inr (in-left x q.1 (queued queues) a)
      | inr a ↦ elim (more a) [ inl y ↦ inl y | inr y ↦ inr (in-right x q.1 (queued queues) y) ]
    ]

pub queued_before : (entries : List (ℕ × ℕ)) (queues : Table (List ℕ)) (x : ℕ) → IsTrue (is_in x (queued (queues_with queues entries)))
    → IsTrue (is_in x (map (λ (e : ℕ × ℕ). e.0) entries)) ⊎ IsTrue (is_in x (queued queues))
queued_before [] queues x t = inr t
queued_before (e ∷ entries) queues x t = elim (queued_before entries (with_value queues e.1 (unwrap_or (value_at queues e.1) [] ++ e.0 ∷ [])) x t) [
  | inl a ↦ inl (is_in-tail x e.0 (map (λ (f : ℕ × ℕ). f.0) entries) a)
  | inr a ↦ elim (with-in queues e.1 x (unwrap_or (value_at queues e.1) [] ++ e.0 ∷ []) a) [
    | inl b ↦ elim (in-either x (unwrap_or (value_at queues e.1) []) (e.0 ∷ []) b) [
      | inl c ↦ inr (value-in queues e.1 x c)
      | inr c ↦ elim (is_in-cases x e.0 [] c) [
        | inl is ↦ inl (subst (λ (k : ℕ). IsTrue (is_in k (map (λ (f : ℕ × ℕ). f.0) (e ∷ entries)))) (sym is) (is_in-head e.0 (map (λ (f : ℕ × ℕ). f.0) entries)))
        | inr none ↦ absurd (is_in-nil x none)
      ]
    ]
    | inr b ↦ inr b
  ]
]

queues_with_rise : (entries : List (ℕ × ℕ)) (queues : Table (List ℕ)) → KeysRise queues → KeysRise (queues_with queues entries)
queues_with_rise [] queues rises = rises
queues_with_rise (e ∷ entries) queues rises =
    queues_with_rise entries (with_value queues e.1 (unwrap_or (value_at queues e.1) [] ++ e.0 ∷ [])) (KeysRise-with_value queues e.1 (unwrap_or (value_at queues e.1) [] ++ e.0 ∷ []) rises)

module _ (settings : Settings) (store : Store) (sound : IsSound settings store) (finalizing : store.phase ≡ Finalizing) where
  abbrev new : Store
  new = after_finalizing settings store

  root-before : (x : ℕ) → IsTrue (is_in x (roots_of new)) → IsTrue (is_in x (roots_of store))
  root-before x t =
      let slots : List ℕ = filter_map (λ slot. slot) store.slots in
      let chosen : List ℕ = map (λ (entry : ℕ × ℕ). entry.0) store.chosen in
      elim (in-either x slots _ t) [
        | inl a ↦ in-left x slots _ a
        | inr a ↦ in-right x slots _ (elim (in-either x (pinned_births store) _ a) [
          | inl b ↦ in-left x (pinned_births store) _ b
          | inr b ↦ in-right x (pinned_births store) _ (elim (in-either x (queued new.queues) _ b) [
            | inl c ↦ elim (queued_before store.chosen store.queues x c) [
              | inl d ↦ in-left x chosen _ d
              | inr d ↦ in-right x chosen _ (in-left x (queued store.queues) _ d)
            ]
            | inr c ↦ in-right x chosen _ (in-right x (queued store.queues) _ c)
          ])
        ])
      ]

  phase-is : IsPhaseSound Finalizing settings.sweep store
  phase-is = subst (λ (p : Phase). IsPhaseSound p settings.sweep store) finalizing sound.phase

  pub final_sound : IsSound settings new
  final_sound = record {
    fields = sound.fields;
    settled = sound.settled;
    roots = λ x t. sound.roots x (root-before x t);
    registered = sound.registered;
    pins = sound.pins;
    waiting = λ x t. sound.waiting x (elim (queued_before store.chosen store.queues x t) [
      | inl d ↦ in-left x (map (λ (entry : ℕ × ℕ). entry.0) store.chosen) _ d
      | inr d ↦ in-right x (map (λ (entry : ℕ × ℕ). entry.0) store.chosen) _ d
    ]);
    queues_rise = queues_with_rise store.chosen store.queues sound.queues_rise;
    once = once_less (registered_births store) (map (λ (e : ℕ × ℕ). e.0) store.chosen) (queued store.queues) (registered_births store) [] (queued new.queues) sound.once
        (λ x. let same = times_queued x store.chosen store.queues sound.queues_rise in omega (arith, same));
    roots_reached = λ x t. sound.roots_reached x (root-before x t);
    unreached_cut_off = sound.unreached_cut_off;
    unreached_born = sound.unreached_born;
    roots_retained = λ x t. sound.roots_retained x (root-before x t);
    registered_retained = sound.registered_retained;
    doomed_cut_off = sound.doomed_cut_off;
    doomed_born = sound.doomed_born;
    phase = (phase-is.0, refl, phase-is.2);
    links = sound.links;
    births = sound.births;
  }

  -- when the cycle ends, what was doomed and not revived is neither kept nor a husk
  pub doomed_freed : AreGone new.kept store.doomed × (new.husks ≡ [])
  doomed_freed = (phase-is.1, phase-is.0)
