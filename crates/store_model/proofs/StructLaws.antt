-- C structures of which one changes: what holds of them, which objects they keep, and under other names.
use Rattle.std.proofs.Common.{◌≡◌, ◌≢◌, ℕ, ◌<◌, ◌≤◌, ◌⊎◌, Bool, true, false, IsTrue, nat_eq, List, [], ◌∷◌, Option, Some, None, refl, sym, ap, ◌∙◌, subst, inl, inr, arith}
use Rattle.std.specs.Prelude.{IsFalse, option_map, option_and_then, ◌==◌, not, cond, nat_lt}
use Rattle.std.specs.List.{IsDistinct, cons_option, All}
use Rattle.std.proofs.lemmas.List.Elements.{All-head, All-tail}
use Rattle.std.proofs.lemmas.Bool.Decides.{eqb_tells, nat_tests}
use Rattle.std.proofs.lemmas.Map.Made.{lookup-map_values}
use Rattle.object_model.proofs.Members.{is_in-head, is_in-tail, is_in-cases, is_in-nil}
use Rattle.type_table.specs.Table.{Table, KeysRise, value_at, with_value, without_key}
use Rattle.type_table.proofs.TableLaws.{first_key_below, KeysRise-tail}
use Rattle.object_model.specs.Object.{Object}
use Rattle.store_model.specs.Store.{Struct, Pending}
use Rattle.object_model.specs.Sets.{is_in}
use Rattle.store_model.specs.Roots.{is_kept}
use Rattle.store_model.specs.Structs.{object_of, forced_object, forced_objects, with_object, with_objects}
use Rattle.store_model.specs.Sound.{AreLinksSound, p_linked_object, IsOwnSound}

-- One structure changes, comes or goes, and no other. It does not wait in the queue from then on.
pub record PutsAt (kept : List Object) (structs : Table Struct) (dead : List ℕ) (after : Table Struct) (left : List ℕ) (number : ℕ) (found : Option Struct) : Type 0 where
  pub rises : KeysRise after
  pub at : (q : ℕ) → value_at after q ≡ cond (q == number) found (value_at structs q)
  pub object : (x : ℕ) → option_and_then object_of found ≡ Some x → IsTrue (is_kept kept x)
  pub one : (other x : ℕ) → option_and_then p_linked_object found ≡ Some x → option_and_then p_linked_object (value_at structs other) ≡ Some x → other ≡ number
  pub live : found ≢ Some Pending
  pub range : (s : Struct) → found ≡ Some s → (number ≤ 65535) × IsOwnSound s
  pub once : IsDistinct nat_eq left
  pub others : (q : ℕ) → q ≢ number → is_in q left ≡ is_in q dead
  pub here : IsFalse (is_in number left)

module _ {kept : List Object} {structs after : Table Struct} {dead left : List ℕ} {number : ℕ} {found : Option Struct} (p : PutsAt kept structs dead after left number found) where
  -- what stands at a number: the new one, or what stood there
  pub put-cases : (q : ℕ) → ((q ≡ number) × (value_at after q ≡ found)) ⊎ ((q ≢ number) × (value_at after q ≡ value_at structs q))
  put-cases q = elim (eqb_tells q number) [
    | inl e ↦ inl (e.1, p.at q ∙ ap (λ (b : Bool). cond b found (value_at structs q)) e.0)
    | inr e ↦ inr (e.1, p.at q ∙ ap (λ (b : Bool). cond b found (value_at structs q)) e.0)
  ]

  pub links_put : AreLinksSound kept structs dead → AreLinksSound kept after left
  links_put s = record {
    rises = p.rises;
    objects = λ n x e. elim (put-cases n) [
      | inl here ↦ p.object x (ap (option_and_then object_of) (sym here.1) ∙ e)
      | inr there ↦ s.objects n x (ap (option_and_then object_of) (sym there.1) ∙ e)
    ];
    one_p_link = λ n m x e f. elim (put-cases n) [
      | inl here ↦ elim (put-cases m) [
        | inl too ↦ here.0 ∙ sym too.0
        | inr there ↦ absurd (there.0 (p.one m x (ap (option_and_then p_linked_object) (sym here.1) ∙ e) (ap (option_and_then p_linked_object) (sym there.1) ∙ f)))
      ]
      | inr there ↦ elim (put-cases m) [
        | inl too ↦ absurd (there.0 (p.one n x (ap (option_and_then p_linked_object) (sym too.1) ∙ f) (ap (option_and_then p_linked_object) (sym there.1) ∙ e)))
        | inr two ↦ s.one_p_link n m x (ap (option_and_then p_linked_object) (sym there.1) ∙ e) (ap (option_and_then p_linked_object) (sym two.1) ∙ f)
      ]
    ];
    dead_once = p.once;
    dead_pending = λ n t. elim (put-cases n) [
      | inl here ↦ absurd (let not_here = p.here in let same : is_in n left ≡ is_in number left = ap (λ (k : ℕ). is_in k left) here.0 in let no : ⊥ = cc in no)
      | inr there ↦ there.1 ∙ s.dead_pending n (sym (p.others n there.0) ∙ t)
    ];
    pending_dead = λ n e. elim (put-cases n) [
      | inl here ↦ absurd (p.live (sym here.1 ∙ e))
      | inr there ↦ p.others n there.0 ∙ s.pending_dead n (sym there.1 ∙ e)
    ];
    in_range = λ n t e. elim (put-cases n) [
      | inl here ↦ let r = p.range t (sym here.1 ∙ e) in subst (λ (k : ℕ). (k ≤ 65535) × IsOwnSound t) (sym here.0) r
      | inr there ↦ s.in_range n t (sym there.1 ∙ e)
    ];
  }

below-none : {X : Type 0} (table : Table X) (key : ℕ) → All (λ later. key < later.0) table → value_at table key ≡ None
below-none [] key below = refl
below-none (entry ∷ table) key below =
    let first : key < entry.0 = All-head (λ later. key < later.0) entry table below in
    grind (arith, nat_tests, below-none table key (All-tail (λ later. key < later.0) entry table below))

pub behind-first : {X : Type 0} (entry : ℕ × X) (table : Table X) → KeysRise (entry ∷ table) → value_at table entry.0 ≡ None
behind-first entry table rises = below-none table entry.0 (first_key_below entry table rises)

-- an object that structures keep is that of one of them
pub record IsForcedAt (structs : Table Struct) (x : ℕ) : Type 0 where
  pub number : ℕ
  pub keeps : option_and_then forced_object (value_at structs number) ≡ Some x

pub first-value : {X : Type 0} → (entry : ℕ × X) (table : Table X) → value_at (entry ∷ table) entry.0 ≡ Some entry.1
first-value entry table = grind (arith, nat_tests)

cons-some : (found : Option ℕ) (xs : List ℕ) (x : ℕ) → IsTrue (is_in x (cons_option found xs)) → (found ≡ Some x) ⊎ IsTrue (is_in x xs)
cons-some None xs x t = inr t
cons-some (Some y) xs x t = elim (is_in-cases x y xs t) [ inl e ↦ inl (ap Some (sym e)) | inr u ↦ inr u ]

in-cons : (found : Option ℕ) (xs : List ℕ) (x : ℕ) → IsTrue (is_in x xs) → IsTrue (is_in x (cons_option found xs))
in-cons None xs x t = t
in-cons (Some y) xs x t = is_in-tail x y xs t

pub forced-at : (structs : Table Struct) (x : ℕ) → KeysRise structs → IsTrue (is_in x (forced_objects structs)) → IsForcedAt structs x
forced-at [] x rises t = absurd (is_in-nil x t)
forced-at (entry ∷ structs) x rises t = elim (cons-some (forced_object entry.1) (forced_objects structs) x t) [
  | inl e ↦ record { number = entry.0; keeps = ap (option_and_then forced_object) (first-value entry structs) ∙ e }
  | inr u ↦
      let more = forced-at structs x (KeysRise-tail entry structs rises) u in
      elim (eqb_tells more.number entry.0) [
        | inl e ↦ absurd (let none : value_at structs entry.0 ≡ None = behind-first entry structs rises in
            let keeps : option_and_then forced_object (value_at structs entry.0) ≡ Some x = subst (λ (k : ℕ). option_and_then forced_object (value_at structs k) ≡ Some x) e.1 more.keeps in
            let no_value : option_and_then forced_object (value_at structs entry.0) ≡ None = ap (option_and_then forced_object) none in let no : ⊥ = cc in no)
        | inr e ↦ record {
          number = more.number;
          keeps = ap (option_and_then forced_object) (let other : value_at (entry ∷ structs) more.number ≡ value_at structs more.number = (let ne = e.1 in grind (arith, nat_tests)) in other) ∙ more.keeps;
        }
      ]
]

pub forced-found : (structs : Table Struct) (n x : ℕ) → option_and_then forced_object (value_at structs n) ≡ Some x → IsTrue (is_in x (forced_objects structs))
forced-found [] n x e = absurd (let no : ⊥ = cc in no)
forced-found (entry ∷ structs) n x e = elim (eqb_tells n entry.0) [
  | inl same ↦
      let first : value_at (entry ∷ structs) n ≡ Some entry.1 = subst (λ (k : ℕ). value_at (entry ∷ structs) k ≡ Some entry.1) (sym same.1) (first-value entry structs) in
      let is : forced_object entry.1 ≡ Some x = sym (ap (option_and_then forced_object) first) ∙ e in
      subst (λ (o : Option ℕ). IsTrue (is_in x (cons_option o (forced_objects structs)))) (sym is) (is_in-head x (forced_objects structs))
  | inr differ ↦
      let other : value_at (entry ∷ structs) n ≡ value_at structs n = (let ne = differ.1 in grind (arith, nat_tests)) in
      in-cons (forced_object entry.1) (forced_objects structs) x (forced-found structs n x (sym (ap (option_and_then forced_object) other) ∙ e))
]

-- an object that structures keep is that of the new one, or they kept it before
pub forced-put : {kept : List Object} {structs after : Table Struct} {dead left : List ℕ} {number : ℕ} {found : Option Struct} → PutsAt kept structs dead after left number found
    → (x : ℕ) → IsTrue (is_in x (forced_objects after)) → (option_and_then forced_object found ≡ Some x) ⊎ IsTrue (is_in x (forced_objects structs))
forced-put {structs = structs} {after = after} p x t =
    let f = forced-at after x p.rises t in
    elim (put-cases p f.number) [
      | inl here ↦ inl (ap (option_and_then forced_object) (sym here.1) ∙ f.keeps)
      | inr there ↦ inr (forced-found structs f.number x (ap (option_and_then forced_object) (sym there.1) ∙ f.keeps))
    ]

-- structures under other names
pub value_at-objects : (rename : ℕ → ℕ) (structs : Table Struct) (q : ℕ) → value_at (with_objects rename structs) q ≡ option_map (with_object rename) (value_at structs q)
value_at-objects rename structs q = lookup-map_values (with_object rename) (nat_eq q) structs

pub with_value-objects : (rename : ℕ → ℕ) (structs : Table Struct) (number : ℕ) (s : Struct)
    → with_objects rename (with_value structs number s) ≡ with_value (with_objects rename structs) number (with_object rename s)
with_value-objects rename [] number s = refl
with_value-objects rename (entry ∷ structs) number s =
    elim (number == entry.0) as (λ (b : Bool). with_objects rename (cond b ((number, s) ∷ structs) (cond (nat_lt number entry.0) ((number, s) ∷ (entry ∷ structs)) (entry ∷ with_value structs number s)))
    ≡ cond b ((number, with_object rename s) ∷ with_objects rename structs) (cond (nat_lt number entry.0) ((number, with_object rename s) ∷ ((entry.0, with_object rename entry.1) ∷ with_objects rename structs))
    ((entry.0, with_object rename entry.1) ∷ with_value (with_objects rename structs) number (with_object rename s)))) [
      | true ↦ refl
      | false ↦ elim (nat_lt number entry.0) as (λ (b : Bool). with_objects rename (cond b ((number, s) ∷ (entry ∷ structs)) (entry ∷ with_value structs number s))
          ≡ cond b ((number, with_object rename s) ∷ ((entry.0, with_object rename entry.1) ∷ with_objects rename structs))
          ((entry.0, with_object rename entry.1) ∷ with_value (with_objects rename structs) number (with_object rename s))) [
            | true ↦ refl
            | false ↦ ap (λ (xs : Table Struct). (entry.0, with_object rename entry.1) ∷ xs) (with_value-objects rename structs number s)
          ]
    ]

pub without_key-objects : (rename : ℕ → ℕ) (structs : Table Struct) (number : ℕ) → with_objects rename (without_key structs number) ≡ without_key (with_objects rename structs) number
without_key-objects rename [] number = refl
without_key-objects rename (entry ∷ structs) number =
    elim (entry.0 == number) as (λ (b : Bool). with_objects rename (cond (not b) (entry ∷ without_key structs number) (without_key structs number))
    ≡ cond (not b) ((entry.0, with_object rename entry.1) ∷ without_key (with_objects rename structs) number) (without_key (with_objects rename structs) number)) [
      | true ↦ without_key-objects rename structs number
      | false ↦ ap (λ (xs : Table Struct). (entry.0, with_object rename entry.1) ∷ xs) (without_key-objects rename structs number)
    ]
