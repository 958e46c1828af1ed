-- A store stays sound where roots come and go, and what was found unreached or doomed is less.
use Rattle.std.proofs.Common.{◌≡◌, ℕ, zero, suc, ◌⊎◌, Bool, IsTrue, List, [], ◌∷◌, ◌++◌, map, nat_eq, Option, Some, None, refl, sym, ap, subst, inl, inr}
use Rattle.std.specs.Prelude.{IsFalse, filter_map, flat_map, slice_set}
use Rattle.std.specs.List.{IsDistinct}
use Rattle.std.proofs.lemmas.Bool.{cases_Bool}
use Rattle.object_model.proofs.Members.{is_in-head, is_in-tail, is_in-cases, is_in-nil, in-left, in-right, in-either}
use Rattle.type_table.specs.Table.{KeysRise}
use Rattle.text_model.specs.declared.line.Phase.{Phase}
use Rattle.text_model.specs.declared.line.Phase.TheVariants.{Scanning, Marking, Sweeping, Finalizing}
use Rattle.object_model.specs.declared.settings.Settings.{Settings}
use Rattle.object_model.specs.Object.{Object, object_at}
use Rattle.store_model.specs.Store.{Store}
use Rattle.object_model.specs.Sets.{is_in}
use Rattle.store_model.specs.Structs.{forced_objects}
use Rattle.store_model.specs.Roots.{is_kept, roots_of, registered_births, pinned_births, referents_in}
use Rattle.store_model.specs.MarkingOrder.{AreAllIn, IsInOrder}
use Rattle.store_model.specs.Sound.{IsSound, IsPhaseSound, AreCutOff, ArePinsSound, AreLinksSound, waiting_births}
use Rattle.store_model.proofs.SoundLaws.{CanBeRoot}
use Rattle.store_model.specs.Slots.{held}

-- fewer objects are unreached and doomed, and what is left is cut off still
pub record Relieves (kept : List Object) (unreached doomed unreached_after doomed_after : List ℕ) : Type 0 where
  pub unreached_less : AreAllIn unreached_after unreached
  pub doomed_less : AreAllIn doomed_after doomed
  pub unreached_cut : AreCutOff kept unreached → AreCutOff kept unreached_after
  pub doomed_cut : AreCutOff kept doomed → AreCutOff kept doomed_after
  pub within : AreAllIn doomed unreached → AreAllIn doomed_after unreached_after

pub relieves_none : (kept : List Object) (unreached doomed : List ℕ) → Relieves kept unreached doomed unreached doomed
relieves_none kept unreached doomed = record {
  unreached_less = λ x t. t;
  doomed_less = λ x t. t;
  unreached_cut = λ c. c;
  doomed_cut = λ c. c;
  within = λ w. w;
}

pub not-in : (xs ys : List ℕ) (x : ℕ) → AreAllIn xs ys → IsFalse (is_in x ys) → IsFalse (is_in x xs)
not-in xs ys x all f = elim (cases_Bool (is_in x xs)) [
  | inl t ↦ absurd (let yes = all x t in let no : ⊥ = cc in no)
  | inr e ↦ e
]

-- what is among none
pub none-is : (xs : List ℕ) → AreAllIn xs [] → xs ≡ []
none-is [] all = refl
none-is (x ∷ xs) all = absurd (is_in-nil x (all x (is_in-head x xs)))

pub can_root : {settings : Settings} {store : Store} → IsSound settings store → (x : ℕ) → IsTrue (is_in x (roots_of store)) → CanBeRoot store.kept store.unreached store.doomed x
can_root s x t = record { is_there = s.roots x t; reached = s.roots_reached x t; retained = s.roots_retained x t }

pub can_refer : {settings : Settings} {store : Store} → IsSound settings store → (x y : ℕ) → CanBeRoot store.kept store.unreached store.doomed x
    → IsTrue (is_in y (referents_in (object_at store.kept x))) → CanBeRoot store.kept store.unreached store.doomed y
can_refer s x y c t = record {
  is_there = s.fields.references x y t;
  reached = s.unreached_cut_off x c.is_there c.reached y t;
  retained = s.doomed_cut_off x c.is_there c.retained y t;
}

pub can_relieved : {kept : List Object} {u d v e : List ℕ} → Relieves kept u d v e → (x : ℕ) → CanBeRoot kept u d x → CanBeRoot kept v e x
can_relieved r x c = record { is_there = c.is_there; reached = not-in _ _ x r.unreached_less c.reached; retained = not-in _ _ x r.doomed_less c.retained }

-- the old store with the roots, the registered objects and the structures of the new one
abbrev pub rerooted : Store → Store → Store
rerooted old new = record old {
  slots = new.slots;
  pinned = new.pinned;
  registered = new.registered;
  queues = new.queues;
  structs = new.structs;
  dead = new.dead;
  unreached = new.unreached;
  doomed = new.doomed;
}

-- Only roots, registered objects and structures change. Each new root may be one.
pub record RootChange (settings : Settings) (old new : Store) : Type 0 where
  pub only : new ≡ rerooted old new
  pub relieves : Relieves old.kept old.unreached old.doomed new.unreached new.doomed
  pub roots : (x : ℕ) → IsTrue (is_in x (roots_of new)) → CanBeRoot old.kept new.unreached new.doomed x
  pub registered : (x : ℕ) → IsTrue (is_in x (registered_births new)) → IsTrue (is_kept old.kept x) × IsFalse (is_in x new.doomed)
  pub pins : ArePinsSound settings.pins old.kept old.settled new.pinned
  pub queues_rise : KeysRise new.queues
  pub once : IsDistinct nat_eq (registered_births new ++ waiting_births new)
  pub waiting : (x : ℕ) → IsTrue (is_in x (waiting_births new)) → IsTrue (is_in x old.settled)
  pub links : AreLinksSound old.kept new.structs new.dead

phase-relieved : (sweep : ℕ) (old new : Store) (phase : Phase) → Relieves old.kept old.unreached old.doomed new.unreached new.doomed
    → IsPhaseSound phase sweep old → IsPhaseSound phase sweep (rerooted old new)
phase-relieved sweep old new Scanning r s = (
  s.0,
  s.1,
  record {
    no_visited = s.2.no_visited;
    no_unreached = none-is new.unreached (subst (λ (xs : List ℕ). AreAllIn new.unreached xs) s.2.no_unreached r.unreached_less);
  },
)
phase-relieved sweep old new Marking r s = (
  s.0,
  s.1,
  record {
    visited_settled = s.2.visited_settled;
    visited_reached = λ x t. not-in _ _ x r.unreached_less (s.2.visited_reached x t);
    doomed_unreached = r.within s.2.doomed_unreached;
  },
)
phase-relieved sweep old new Sweeping r s = (
  s.0,
  (λ x t. s.1 x (r.doomed_less x t)),
  record {
    no_visited = s.2.no_visited;
    no_unreached = none-is new.unreached (subst (λ (xs : List ℕ). AreAllIn new.unreached xs) s.2.no_unreached r.unreached_less);
  },
)
phase-relieved sweep old new Finalizing r s = (
  s.0,
  (λ x t. s.1 x (r.doomed_less x t)),
  record {
    no_visited = s.2.no_visited;
    no_unreached = none-is new.unreached (subst (λ (xs : List ℕ). AreAllIn new.unreached xs) s.2.no_unreached r.unreached_less);
  },
)

pub sound_rerooted : {settings : Settings} {old new : Store} → RootChange settings old new → IsSound settings old → IsSound settings new
sound_rerooted {settings = settings} {old = old} {new = new} c s = subst (IsSound settings) (sym c.only) (record {
  fields = s.fields;
  settled = s.settled;
  roots = λ x t. (c.roots x (subst (λ (n : Store). IsTrue (is_in x (roots_of n))) (sym c.only) t)).is_there;
  registered = λ x t. (c.registered x t).0;
  pins = c.pins;
  queues_rise = c.queues_rise;
  once = subst (λ (n : Store). IsDistinct nat_eq (registered_births n ++ waiting_births n)) c.only c.once;
  waiting = λ x t. c.waiting x (subst (λ (n : Store). IsTrue (is_in x (waiting_births n))) (sym c.only) t);
  roots_reached = λ x t. (c.roots x (subst (λ (n : Store). IsTrue (is_in x (roots_of n))) (sym c.only) t)).reached;
  unreached_cut_off = c.relieves.unreached_cut s.unreached_cut_off;
  unreached_born = λ x t. s.unreached_born x (c.relieves.unreached_less x t);
  roots_retained = λ x t. (c.roots x (subst (λ (n : Store). IsTrue (is_in x (roots_of n))) (sym c.only) t)).retained;
  registered_retained = λ x t. (c.registered x t).1;
  doomed_cut_off = c.relieves.doomed_cut s.doomed_cut_off;
  doomed_born = λ x t. s.doomed_born x (c.relieves.doomed_less x t);
  phase = phase-relieved settings.sweep old new old.phase c.relieves s.phase;
  links = c.links;
  births = s.births;
})

-- marking stays in order
pub order_relieved : {kept : List Object} {settled visited gray : List ℕ} {remembered : ℕ → ℕ → Bool} {unreached unreached_after : List ℕ}
    → AreAllIn unreached_after unreached → IsInOrder kept settled visited gray remembered unreached → IsInOrder kept settled visited gray remembered unreached_after
order_relieved less m = record {
  young = m.young;
  owed = m.owed;
  held_settled = m.held_settled;
  gray_settled = m.gray_settled;
  visited_settled = m.visited_settled;
  gray_reached = λ x t. not-in _ _ x less (m.gray_reached x t);
  visited_reached = λ x t. not-in _ _ x less (m.visited_reached x t);
}

-- the births of the chosen, and those in queues
abbrev pub chosen_births : Store → List ℕ
chosen_births store = map (λ entry. entry.0) store.chosen

abbrev pub queued_births : Store → List ℕ
queued_births store = flat_map (λ entry. entry.1) store.queues

abbrev pub slot_births : Store → List ℕ
slot_births store = filter_map (λ slot. slot) store.slots

-- a root is of one of five kinds
pub record RootsAre (store : Store) (P : ℕ → Type 0) : Type 0 where
  pub slot : (x : ℕ) → IsTrue (is_in x (slot_births store)) → P x
  pub pin : (x : ℕ) → IsTrue (is_in x (pinned_births store)) → P x
  pub choice : (x : ℕ) → IsTrue (is_in x (chosen_births store)) → P x
  pub queue : (x : ℕ) → IsTrue (is_in x (queued_births store)) → P x
  pub force : (x : ℕ) → IsTrue (is_in x (forced_objects store.structs)) → P x

pub roots_each : {store : Store} {P : ℕ → Type 0} → RootsAre store P → (x : ℕ) → IsTrue (is_in x (roots_of store)) → P x
roots_each {store = store} r x t =
    elim (in-either x (slot_births store) (pinned_births store ++ (chosen_births store ++ (queued_births store ++ forced_objects store.structs))) t) [
      | inl a ↦ r.slot x a
      | inr b ↦ elim (in-either x (pinned_births store) (chosen_births store ++ (queued_births store ++ forced_objects store.structs)) b) [
        | inl a ↦ r.pin x a
        | inr c ↦ elim (in-either x (chosen_births store) (queued_births store ++ forced_objects store.structs) c) [
          | inl a ↦ r.choice x a
          | inr d ↦ elim (in-either x (queued_births store) (forced_objects store.structs) d) [
            | inl a ↦ r.queue x a
            | inr e ↦ r.force x e
          ]
        ]
      ]
    ]

-- each of the five kinds is one of the roots
pub are_roots : (store : Store) → RootsAre store (λ x. IsTrue (is_in x (roots_of store)))
are_roots store = record {
  slot = λ x t. in-left x (slot_births store) (pinned_births store ++ (chosen_births store ++ (queued_births store ++ forced_objects store.structs))) t;
  pin = λ x t. in-right x (slot_births store) (pinned_births store ++ (chosen_births store ++ (queued_births store ++ forced_objects store.structs)))
      (in-left x (pinned_births store) (chosen_births store ++ (queued_births store ++ forced_objects store.structs)) t);
  choice = λ x t. in-right x (slot_births store) (pinned_births store ++ (chosen_births store ++ (queued_births store ++ forced_objects store.structs)))
      (in-right x (pinned_births store) (chosen_births store ++ (queued_births store ++ forced_objects store.structs))
      (in-left x (chosen_births store) (queued_births store ++ forced_objects store.structs) t));
  queue = λ x t. in-right x (slot_births store) (pinned_births store ++ (chosen_births store ++ (queued_births store ++ forced_objects store.structs)))
      (in-right x (pinned_births store) (chosen_births store ++ (queued_births store ++ forced_objects store.structs))
      (in-right x (chosen_births store) (queued_births store ++ forced_objects store.structs) (in-left x (queued_births store) (forced_objects store.structs) t)));
  force = λ x t. in-right x (slot_births store) (pinned_births store ++ (chosen_births store ++ (queued_births store ++ forced_objects store.structs)))
      (in-right x (pinned_births store) (chosen_births store ++ (queued_births store ++ forced_objects store.structs))
      (in-right x (chosen_births store) (queued_births store ++ forced_objects store.structs) (in-right x (queued_births store) (forced_objects store.structs) t)));
}

-- what a slot held that now holds something else, and what the others hold
pub set-in : (slots : List (Option ℕ)) (slot : ℕ) (birth : Option ℕ) (x : ℕ) → IsTrue (is_in x (filter_map (λ s. s) (slice_set slots slot birth)))
    → (birth ≡ Some x) ⊎ IsTrue (is_in x (filter_map (λ s. s) slots))
set-in [] slot birth x t = inr t
set-in (old ∷ slots) zero None x t = inr (elim old as (λ (o : Option ℕ). IsTrue (is_in x (filter_map (λ s. s) (o ∷ slots)))) [
  | None ↦ t
  | Some y ↦ is_in-tail x y (filter_map (λ s. s) slots) t
])
set-in (old ∷ slots) zero (Some b) x t = elim (is_in-cases x b (filter_map (λ s. s) slots) t) [
  | inl e ↦ inl (ap Some (sym e))
  | inr u ↦ inr (elim old as (λ (o : Option ℕ). IsTrue (is_in x (filter_map (λ s. s) (o ∷ slots)))) [
    | None ↦ u
    | Some y ↦ is_in-tail x y (filter_map (λ s. s) slots) u
  ])
]
set-in (None ∷ slots) (suc slot) birth x t = set-in slots slot birth x t
set-in (Some y ∷ slots) (suc slot) birth x t = elim (is_in-cases x y (filter_map (λ s. s) (slice_set slots slot birth)) t) [
  | inl e ↦ inr (let P : ℕ → Type 0 = λ k. IsTrue (is_in k (y ∷ filter_map (λ s. s) slots)) in subst P (sym e) (is_in-head y (filter_map (λ s. s) slots)))
  | inr u ↦ elim (set-in slots slot birth x u) [
    | inl e ↦ inl e
    | inr v ↦ inr (is_in-tail x y (filter_map (λ s. s) slots) v)
  ]
]

held-in : (slots : List (Option ℕ)) (slot y : ℕ) → held slots slot ≡ Some y → IsTrue (is_in y (filter_map (λ s. s) slots))
held-in [] slot y e = absurd (let no : ⊥ = cc in no)
held-in (None ∷ slots) zero y e = absurd (let no : ⊥ = cc in no)
held-in (Some x ∷ slots) zero y e = let same : x ≡ y = cc in subst (λ (k : ℕ). IsTrue (is_in k (x ∷ filter_map (λ s. s) slots))) same (is_in-head x (filter_map (λ s. s) slots))
held-in (None ∷ slots) (suc slot) y e = held-in slots slot y e
held-in (Some x ∷ slots) (suc slot) y e = is_in-tail y x (filter_map (λ s. s) slots) (held-in slots slot y e)

-- what a slot holds is a root
pub held_root : (store : Store) (slot y : ℕ) → held store.slots slot ≡ Some y → IsTrue (is_in y (roots_of store))
held_root store slot y e = in-left y (filter_map (λ s. s) store.slots) _ (held-in store.slots slot y e)
