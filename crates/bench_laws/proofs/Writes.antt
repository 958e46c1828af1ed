-- The commands of a generated script that bear nothing leave a store of a generated script.
use Rattle.std.proofs.Common.{◌≡◌, ℕ, ◌<◌, ◌≤◌, IsTrue, List, Option, Some, None, refl, sym, ap, ◌∙◌, subst, inl, inr, arith}
use Rattle.std.specs.Prelude.{◌==◌, option_map, option_and_then, slice_set}
use Rattle.std.proofs.lemmas.Bool.{cases_Bool}
use Rattle.std.proofs.lemmas.List.{length-set}
use Rattle.text_model.specs.declared.command.Command.TheVariants.{Put, Link, Load, Deref, Hash, Get, Collect}
use Rattle.text_model.specs.declared.line.Line.{Line}
use Rattle.object_model.specs.declared.kind.Kind.{Kind}
use Rattle.object_model.specs.declared.settings.Settings.{Settings}
use Rattle.object_model.specs.Fields.{changed_at, with_int, with_ref}
use Rattle.object_model.specs.Object.{Object, object_at, words_of}
use Rattle.object_model.specs.Setup.{Setup}
use Rattle.object_model.specs.Shapes.{kind_of}
use Rattle.store_model.specs.Store.{Store}
use Rattle.store_model.specs.Slots.{held, put_in_slot}
use Rattle.store_model.specs.Roots.{is_kept, target_in}
use Rattle.store_model.specs.PlainCommands.{target_at}
use Rattle.store_model.specs.Collections.{CollectFrom}
use Rattle.store_model.specs.Sound.{IsSound, IsInForm}
use Rattle.store_model.specs.Steps.{Does, put_int, put_ref, ref_at}
use Rattle.store_model.proofs.CollectionsSound.{IsWell, collect_leaves}
use Rattle.store_model.proofs.CommandsSound.{put_sound, link_sound, load_sound, revive_sound}
use Rattle.store_model.proofs.FieldChanges.{IsFieldChange, int_change, ref_change, pick, found-changed, same_but_for}
use Rattle.store_model.proofs.Form.{Does-form}
use Rattle.bench_laws.proofs.Left.{Thins, all_left, collect_thins}
use Rattle.bench_laws.proofs.Forms.{HasForm, AreFormed, AreSlotsFormed, AreFilled, IsGenerated, pair, bench_settings, sweeps, generated_left, words_of_kind}
use Rattle.bench_laws.proofs.Born.{held_set, held_there}
use Rattle.bench_laws.proofs.HomeLaws.{told_sound}

-- a change of fields that keeps the form of each object
pub record KeepsForm (f : Object → Object) : Type 0 where
  pub form : (o : Object) → kind_of (f o) ≡ kind_of o

int_form : (item value : ℕ) → KeepsForm (with_int item value)
int_form item value = record { form = λ o. ap (λ (n : ℕ). record (kind_of o) { ints = n }) (length-set o.ints item value) }

ref_form : (item : ℕ) (v : Option ℕ) → KeepsForm (with_ref item v)
ref_form item v = record { form = λ o. ap (λ (n : ℕ). record (kind_of o) { refs = n }) (length-set o.refs item v) }

module _ {f : Object → Object} {news : ℕ → ℕ → Type 0} (c : IsFieldChange f news) (k : KeepsForm f) (a : ℕ) (kept : List Object) where
  abbrev changed : List Object
  changed = changed_at (Some a) f kept

  picked_form : (o : Object) → kind_of (pick c a o) ≡ kind_of o
  picked_form o = elim (cases_Bool (a == o.birth)) [ inl e ↦ rw e (k.form o) | inr e ↦ rw e refl ]

  -- an object that is found after the change was there before it, with its form
  was_found : (x : ℕ) (o : Object) → object_at changed x ≡ Some o → (p : Object) × (object_at kept x ≡ Some p) × (kind_of o ≡ kind_of p)
  was_found x o e = go (object_at kept x) refl (sym (found-changed c a x kept) ∙ e)
    where
      go : (found : Option Object) → object_at kept x ≡ found → option_map (pick c a) found ≡ Some o → (p : Object) × (object_at kept x ≡ Some p) × (kind_of o ≡ kind_of p)
      go None is e = absurd (let no : ⊥ = cc in no)
      go (Some p) is e = let same : pick c a p ≡ o = cc in (p, is, ap kind_of (sym same) ∙ picked_form p)

  changed_form : {x : ℕ} {form : Kind} → HasForm kept x form → HasForm changed x form
  changed_form {x} h = record { is = λ o e. let was = was_found x o e in was.2 ∙ h.is was.0 was.1 }

  -- each new reference leads to an object of type 1
  pub formed_changed : ((i y : ℕ) → news i y → HasForm kept y pair) → AreFormed kept → AreFormed changed
  formed_changed pairs g =
      let same = same_but_for c a kept (λ y. HasForm kept y pair) pairs in
      record {
        small = λ x o e. let was = was_found x o e in let words : words_of o ≡ words_of was.0 = ap words_of_kind was.2 in omega (arith, words, g.small x was.0 was.1);
        references = λ x y t. changed_form (elim (same.referred x y t) [ inl old ↦ g.references x y old | inr new ↦ new ]);
        targets = λ x t e. changed_form (g.targets x t (sym (same.targets x) ∙ e));
      }

  pub slots_changed : {slots : List (Option ℕ)} → AreSlotsFormed slots kept → AreSlotsFormed slots changed
  slots_changed s = record {
    pairs = λ slot x below e. changed_form (s.pairs slot x below e);
    rows = λ slot x from below e. changed_form (s.rows slot x from below e);
    weaks = λ x e. changed_form (s.weaks x e);
  }

-- the same where there may be no object to change
module _ {f : Object → Object} {news : ℕ → ℕ → Type 0} (c : IsFieldChange f news) (k : KeepsForm f) where
  formed_with : (birth : Option ℕ) (kept : List Object) → ((i y : ℕ) → news i y → HasForm kept y pair) → AreFormed kept → AreFormed (changed_at birth f kept)
  formed_with None kept pairs g = g
  formed_with (Some a) kept pairs g = formed_changed c k a kept pairs g

  slots_with : (birth : Option ℕ) (kept : List Object) {slots : List (Option ℕ)} → AreSlotsFormed slots kept → AreSlotsFormed slots (changed_at birth f kept)
  slots_with None kept s = s
  slots_with (Some a) kept s = slots_changed c k a kept s

  pub generated_with : {filled most : ℕ} {store : Store} (birth : Option ℕ) → ((i y : ℕ) → news i y → HasForm store.kept y pair) → IsWell bench_settings sweeps (record store { kept = changed_at birth f store.kept })
      → IsGenerated filled most store → IsGenerated filled most (record store { kept = changed_at birth f store.kept })
  generated_with {store = store} birth pairs well g = record {
    well = well;
    plain = record { pinned = g.plain.pinned; registered = g.plain.registered; chosen = g.plain.chosen; queues = g.plain.queues; structs = g.plain.structs };
    objects = formed_with birth store.kept pairs g.objects;
    slots = slots_with birth store.kept g.slots;
    full = g.full;
    few = g.few;
  }

module _ (setup : Setup) {filled most : ℕ} {store : Store} (g : IsGenerated filled most store) (lines : List Line) (new : Store) where
  form_after : IsInForm 16 new → IsSound bench_settings new → IsWell bench_settings sweeps new
  form_after form sound = record { sound = sound; form = form }

  pub put_keeps : (root item value : ℕ) → Does setup store (Put root item value) lines new → IsGenerated filled most new
  unfolding Does
  put_keeps root item value does =
      let form = Does-form setup store (Put root item value) lines new g.well.form does in
      let well : IsWell bench_settings sweeps (put_int store root item value) = record { sound = put_sound root item value g.well.sound; form = subst (IsInForm 16) does.1 form } in
      subst (IsGenerated filled most) (sym does.1) (generated_with (int_change item value) (int_form item value) (held store.slots root) (λ i y n. absurd n) well g)

  pub get_keeps : (root item : ℕ) → Does setup store (Get root item) lines new → IsGenerated filled most new
  unfolding Does
  get_keeps root item does = subst (IsGenerated filled most) (sym does.1) g

  pub link_keeps : (root item from : ℕ) → from < 8 → Does setup store (Link root item from) lines new → IsGenerated filled most new
  unfolding Does
  link_keeps root item from below does =
      let form = Does-form setup store (Link root item from) lines new g.well.form does in
      let v : Option ℕ = held store.slots from in
      let well : IsWell bench_settings sweeps (put_ref store root item v) = record { sound = link_sound root item from g.well.sound; form = subst (IsInForm 16) does.1 form } in
      subst (IsGenerated filled most) (sym does.1) (generated_with (ref_change item v) (ref_form item v) (held store.slots root) (λ i y n. g.slots.pairs from y below n.1) well g)

-- a slot from 15 on gets something, and of the rest nothing changes that matters here
module _ {filled most : ℕ} {store : Store} (g : IsGenerated filled most store) (few : filled ≤ 15) (v : Option ℕ) where
  slots_put : AreSlotsFormed (slice_set store.slots 15 v) store.kept
  slots_put = record {
    pairs = λ slot x below e. elim (held_set store.slots 15 v slot x e) [ inl here ↦ absurd (let no : ⊥ = omega (arith, here.0, below) in no) | inr there ↦ g.slots.pairs slot x below there.1 ];
    rows = λ slot x from below e. elim (held_set store.slots 15 v slot x e) [ inl here ↦ absurd (let no : ⊥ = omega (arith, here.0, below) in no) | inr there ↦ g.slots.rows slot x from below there.1 ];
    weaks = λ x e. elim (held_set store.slots 15 v 14 x e) [ inl here ↦ absurd (let no : ⊥ = omega (arith, here.0) in no) | inr there ↦ g.slots.weaks x there.1 ];
  }

  filled_put : AreFilled filled (slice_set store.slots 15 v)
  filled_put = record {
    at = λ slot below. let h = g.full.at slot below in
        (h.0, held_there store.slots 15 v slot (λ same. let no : ⊥ = omega (arith, same, below, few) in no) ∙ h.1);
  }

  pub generated_put : {unreached doomed : List ℕ} → IsWell bench_settings sweeps (record store { slots = slice_set store.slots 15 v; unreached = unreached; doomed = doomed })
      → IsGenerated filled most (record store { slots = slice_set store.slots 15 v; unreached = unreached; doomed = doomed })
  generated_put well = record {
    well = well;
    plain = record { pinned = g.plain.pinned; registered = g.plain.registered; chosen = g.plain.chosen; queues = g.plain.queues; structs = g.plain.structs };
    objects = g.objects;
    slots = slots_put;
    full = filled_put;
    few = g.few;
  }

module _ (setup : Setup) {filled most : ℕ} {store : Store} (g : IsGenerated filled most store) (few : filled ≤ 15) (lines : List Line) (new : Store) where
  pub load_keeps : (root item : ℕ) → Does setup store (Load 15 root item) lines new → IsGenerated filled most new
  unfolding Does
  load_keeps root item does =
      let form = Does-form setup store (Load 15 root item) lines new g.well.form does in
      let well : IsWell bench_settings sweeps (put_in_slot store 15 (ref_at store root item)) = record { sound = load_sound 15 root item g.well.sound; form = subst (IsInForm 16) does.1 form } in
      subst (IsGenerated filled most) (sym does.1) (generated_put g few (ref_at store root item) {unreached = store.unreached} {doomed = store.doomed} well)

  -- the target of what is found is kept
  kept_target : (birth : Option ℕ) (y : ℕ) → target_in (option_and_then (object_at store.kept) birth) ≡ Some y → IsTrue (is_kept store.kept y)
  kept_target None y e = absurd (let no : ⊥ = cc in no)
  kept_target (Some x) y e = g.well.sound.fields.targets x y e

  pub deref_keeps : (root : ℕ) → Does setup store (Deref 15 root) lines new → IsGenerated filled most new
  unfolding Does
  deref_keeps root does =
      let form = Does-form setup store (Deref 15 root) lines new g.well.form does in
      let sound = revive_sound 15 (target_at store root) new (kept_target (held store.slots root)) does.1 g.well.sound in
      let well : IsWell bench_settings sweeps new = record { sound = sound; form = form } in
      subst (IsGenerated filled most) (sym does.1.leaves) (generated_put g few (target_at store root) (subst (IsWell bench_settings sweeps) does.1.leaves well))

-- a collection and a hash
module _ (setup : Setup) {filled most : ℕ} {store : Store} (g : IsGenerated filled most store) (lines : List Line) (new : Store) where
  pub collect_keeps : setup.settings ≡ bench_settings → Does setup store Collect lines new → IsGenerated filled most new
  unfolding Does
  collect_keeps is does =
      let collects = subst (λ (s : Settings). CollectFrom store.phase s store lines new) is does in
      generated_left (collect_thins store.phase bench_settings store lines new collects) (collect_leaves bench_settings sweeps store.phase store lines new g.well collects).well g

  pub hash_keeps : (root : ℕ) → Does setup store (Hash root) lines new → IsGenerated filled most new
  unfolding Does
  hash_keeps root does =
      let form = Does-form setup store (Hash root) lines new g.well.form does in
      let sound : IsSound bench_settings new = told_sound root does.0 new does.2 g.well.sound in
      let thins : Thins store new = subst (Thins store) (sym does.2.leaves) (record {
        next = refl;
        slots = refl;
        objects = all_left store.kept;
        plain = λ p. record { pinned = p.pinned; registered = p.registered; chosen = p.chosen; queues = p.queues; structs = p.structs };
      }) in
      generated_left thins (record { sound = sound; form = form }) g
