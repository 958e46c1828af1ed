-- What becomes of a structure whose own count rises or falls.
use Rattle.std.proofs.Common.{◌≡◌, ◌≢◌, ℕ, ◌+◌, ◌<◌, ◌⊎◌, Bool, true, false, List, Option, Some, None, refl, sym, ap, ◌∙◌, inl, inr, arith, ◌-◌, IsTrue, nat_eq, ◌∷◌, subst, ◌≤◌}
use Rattle.std.specs.Prelude.{IsFalse, option_map, option_and_then, ◌==◌, not, cond, if◌then◌else◌}
use Rattle.std.proofs.lemmas.Bool.{cases_Bool, ne_eqb}
use Rattle.std.proofs.lemmas.Bool.Decides.{eqb_tells}
use Rattle.type_table.specs.Table.{Table, value_at, KeysRise, with_value}
use Rattle.std.specs.List.{IsDistinct}
use Rattle.object_model.proofs.Members.{is_in-head}
use Rattle.object_model.proofs.Distinct.{distinct-tail, distinct-head}
use Rattle.store_model.specs.Roots.{is_kept}
use Rattle.store_model.proofs.StructLaws.{PutsAt, with_value-objects, without_key-objects}
use Rattle.object_model.specs.Object.{Object}
use Rattle.store_model.specs.Store.{Struct, Linked, Unlinked, Pending}
use Rattle.object_model.specs.Sets.{is_in}
use Rattle.store_model.specs.Structs.{object_of, forced_object, raised, with_object, with_objects, lowered, with_struct}
use Rattle.store_model.specs.Sound.{AreLinksSound, p_linked_object, IsOwnSound}
use Rattle.store_model.specs.PlainCommands.{forced_anew}
use Rattle.type_table.proofs.TableLaws.{value_at-with_value, value_at-without_key, KeysRise-with_value, KeysRise-entries_where}

-- the own count may rise: it has one, and it is below the greatest
abbrev pub CanRise : Struct → Type 0
CanRise (Linked p light object own) = own < 4294967295
CanRise (Unlinked own) = own < 4294967295
CanRise Pending = ⊥

-- the own count may fall: it has one, and it is above 0
abbrev pub CanFall : Struct → Type 0
CanFall (Linked p light object own) = 0 < own
CanFall (Unlinked own) = 0 < own
CanFall Pending = ⊥

pub object-raised : (t : Struct) → object_of (raised t) ≡ object_of t
object-raised (Linked p light o own) = refl
object-raised (Unlinked own) = refl
object-raised Pending = refl

pub p_linked-raised : (t : Struct) → p_linked_object (raised t) ≡ p_linked_object t
p_linked-raised (Linked true light o own) = refl
p_linked-raised (Linked false light o own) = refl
p_linked-raised (Unlinked own) = refl
p_linked-raised Pending = refl

pub live-raised : (t : Struct) → CanRise t → raised t ≢ Pending
live-raised (Linked p light o own) l e = let no : ⊥ = cc in no
live-raised (Unlinked own) l e = let no : ⊥ = cc in no
live-raised Pending l e = absurd l

pub own-raised : (t : Struct) → CanRise t → IsOwnSound (raised t)
own-raised (Linked p light o own) l = omega (arith, l)
own-raised (Unlinked own) l = (omega arith, omega (arith, l))
own-raised Pending l = absurd l

pub not-waiting : (t : Struct) → CanRise t → t ≢ Pending
not-waiting (Linked p light o own) l e = let no : ⊥ = cc in no
not-waiting (Unlinked own) l e = let no : ⊥ = cc in no
not-waiting Pending l e = absurd l

-- what a raised structure keeps it kept, or it keeps it anew
pub forced-raised : (t : Struct) (x : ℕ) → forced_object (raised t) ≡ Some x → (forced_object t ≡ Some x) ⊎ (forced_anew (Some t) ≡ Some x)
forced-raised (Linked true light o own) x e =
    let up : (own + 1 == 0) ≡ false = ne_eqb (own + 1) 0 (λ z. absurd (let no : ⊥ = omega (arith, z) in no)) in
    let gets : Some o ≡ Some x = sym (ap (λ (b : Bool). if b then None else Some o) up) ∙ e in
    elim (eqb_tells own 0) [ inl z ↦ inr (rw z.0 gets) | inr z ↦ inl (rw z.0 gets) ]
forced-raised (Linked false light o own) x e = inl e
forced-raised (Unlinked own) x e = inl e
forced-raised Pending x e = inl e

pub anew-object : (t : Struct) (x : ℕ) → forced_anew (Some t) ≡ Some x → object_of t ≡ Some x
anew-object (Linked true light o own) x e = elim (eqb_tells own 0) [
  | inl z ↦ rw z.0 at e
  | inr z ↦ absurd (let none : None ≡ Some x = rw z.0 at e in let no : ⊥ = cc in no)
]
anew-object (Linked false light o own) x e = absurd (let no : ⊥ = cc in no)
anew-object (Unlinked own) x e = absurd (let no : ⊥ = cc in no)
anew-object Pending x e = absurd (let no : ⊥ = cc in no)

-- a structure that does not wait is not in the queue
pub not-queued : {kept : List Object} {structs : Table Struct} {dead : List ℕ} → AreLinksSound kept structs dead → (number : ℕ) (found : Option Struct) → value_at structs number ≡ found
    → found ≢ Some Pending → IsFalse (is_in number dead)
not-queued {dead = dead} s number found is live = elim (cases_Bool (is_in number dead)) [
  | inl t ↦ absurd (live (sym is ∙ s.dead_pending number t))
  | inr f ↦ f
]

pub some-pending : (t : Struct) → t ≢ Pending → Some t ≢ Some Pending
some-pending t ne e = ne (let same : t ≡ Pending = cc in same)

pub object-lowered : (t : Struct) (x : ℕ) → option_and_then object_of (lowered t) ≡ Some x → object_of t ≡ Some x
object-lowered (Linked p light o own) x e = e
object-lowered (Unlinked own) x e = elim (eqb_tells own 1) [ inl z ↦ rw z.0 at e | inr z ↦ rw z.0 at e ]
object-lowered Pending x e = e

pub p_linked-lowered : (t : Struct) (x : ℕ) → option_and_then p_linked_object (lowered t) ≡ Some x → p_linked_object t ≡ Some x
p_linked-lowered (Linked true light o own) x e = e
p_linked-lowered (Linked false light o own) x e = e
p_linked-lowered (Unlinked own) x e = elim (eqb_tells own 1) [ inl z ↦ (let none : None ≡ Some x = rw z.0 at e in absurd (let no : ⊥ = cc in no)) | inr z ↦ rw z.0 at e ]
p_linked-lowered Pending x e = e

pub forced-lowered : (t : Struct) (x : ℕ) → option_and_then forced_object (lowered t) ≡ Some x → forced_object t ≡ Some x
forced-lowered (Linked true light o own) x e = elim (eqb_tells (own - 1) 0) [
  | inl z ↦ absurd (let none : None ≡ Some x = rw z.0 at e in let no : ⊥ = cc in no)
  | inr z ↦
      (let some : Some o ≡ Some x = rw z.0 at e in
      let ne = z.1 in
      let high : (own == 0) ≡ false = ne_eqb own 0 (λ y. absurd (let no : ⊥ = ne (omega (arith, y)) in no)) in rw high some)
]
forced-lowered (Linked false light o own) x e = e
forced-lowered (Unlinked own) x e = elim (eqb_tells own 1) [ inl z ↦ (let none : None ≡ Some x = rw z.0 at e in absurd (let no : ⊥ = cc in no)) | inr z ↦ rw z.0 at e ]
forced-lowered Pending x e = e

-- a structure comes or goes, in look-ups and under other names
pub struct-at : (structs : Table Struct) (number q : ℕ) (found : Option Struct) → value_at (with_struct structs number found) q ≡ cond (q == number) found (value_at structs q)
struct-at structs number q None = value_at-without_key structs number q
struct-at structs number q (Some t) = value_at-with_value structs number q t

pub struct-rises : (structs : Table Struct) (number : ℕ) (found : Option Struct) → KeysRise structs → KeysRise (with_struct structs number found)
struct-rises structs number None r = KeysRise-entries_where (λ other. not (other == number)) structs r
struct-rises structs number (Some t) r = KeysRise-with_value structs number t r

pub struct-objects : (name : ℕ → ℕ) (structs : Table Struct) (number : ℕ) (found : Option Struct)
    → with_objects name (with_struct structs number found) ≡ with_struct (with_objects name structs) number (option_map (with_object name) found)
struct-objects name structs number None = without_key-objects name structs number
struct-objects name structs number (Some t) = with_value-objects name structs number t

pub live-lowered : (t : Struct) → CanFall t → lowered t ≢ Some Pending
live-lowered (Linked p light o own) l e = let no : ⊥ = cc in no
live-lowered (Unlinked own) l e = elim (eqb_tells own 1) [
  | inl z ↦ (let none : None ≡ Some Pending = rw z.0 at e in let no : ⊥ = cc in no)
  | inr z ↦ (let some : Some (Unlinked (own - 1)) ≡ Some Pending = rw z.0 at e in let no : ⊥ = cc in no)
]
live-lowered Pending l e = absurd l

pub own-lowered : (t u : Struct) → CanFall t → IsOwnSound t → lowered t ≡ Some u → IsOwnSound u
own-lowered (Linked p light o own) u l s e = let same : Linked p light o (own - 1) ≡ u = cc in subst IsOwnSound same (omega (arith, s))
own-lowered (Unlinked own) u l s e = elim (eqb_tells own 1) [
  | inl z ↦ absurd (let none : None ≡ Some u = rw z.0 at e in let no : ⊥ = cc in no)
  | inr z ↦ (let some : Some (Unlinked (own - 1)) ≡ Some u = rw z.0 at e in let same : Unlinked (own - 1) ≡ u = cc in
      let high = s.1 in let ne = z.1 in subst IsOwnSound same (omega (arith, l, ne), omega (arith, high)))
]
own-lowered Pending u l s e = absurd l

pub not-waiting-low : (t : Struct) → CanFall t → t ≢ Pending
not-waiting-low (Linked p light o own) l e = let no : ⊥ = cc in no
not-waiting-low (Unlinked own) l e = let no : ⊥ = cc in no
not-waiting-low Pending l e = absurd l

p-linked-apart : (p light : Bool) (birth own x : ℕ) → p_linked_object (Linked p light birth own) ≡ Some x → (IsTrue p → birth ≡ x → ⊥) → ⊥
p-linked-apart true light birth own x e f = f refl (let same : birth ≡ x = cc in same)
p-linked-apart false light birth own x e f = let none : ⊥ = cc in none

-- One structure changes in sound links, and they stay sound: a count rises or falls, a structure is made, the oldest pending one is taken.
module _ {kept : List Object} {structs : Table Struct} {dead : List ℕ} (s : AreLinksSound kept structs dead) (number : ℕ) where
  pub raise_puts : (t : Struct) → value_at structs number ≡ Some t → CanRise t → PutsAt kept structs dead (with_value structs number (raised t)) dead number (Some (raised t))
  raise_puts t found can = record {
    rises = KeysRise-with_value structs number (raised t) s.rises;
    at = λ q. value_at-with_value structs number q (raised t);
    object = λ x e. s.objects number x (ap (option_and_then object_of) found ∙ (sym (object-raised t) ∙ e));
    one = λ other x e f. s.one_p_link other number x f (ap (option_and_then p_linked_object) found ∙ (sym (p_linked-raised t) ∙ e));
    live = some-pending (raised t) (live-raised t can);
    range = λ u e. let same : raised t ≡ u = cc in ((s.in_range number t found).0, subst IsOwnSound same (own-raised t can));
    once = s.dead_once;
    others = λ q ne. refl;
    here = not-queued s number (Some t) found (some-pending t (not-waiting t can));
  }

  pub lower_puts : (t : Struct) → value_at structs number ≡ Some t → CanFall t → PutsAt kept structs dead (with_struct structs number (lowered t)) dead number (lowered t)
  lower_puts t found can = record {
    rises = struct-rises structs number (lowered t) s.rises;
    at = λ q. struct-at structs number q (lowered t);
    object = λ x e. s.objects number x (ap (option_and_then object_of) found ∙ object-lowered t x e);
    one = λ other x e f. s.one_p_link other number x f (ap (option_and_then p_linked_object) found ∙ p_linked-lowered t x e);
    live = live-lowered t can;
    range = λ u e. (let r = s.in_range number t found in (r.0, own-lowered t u can r.1 e));
    once = s.dead_once;
    others = λ q ne. refl;
    here = not-queued s number (Some t) found (some-pending t (not-waiting-low t can));
  }

  pub make_puts : (p light : Bool) (birth own : ℕ) → value_at structs number ≡ None → number ≤ 65535 → own ≤ 4294967295 → IsTrue (is_kept kept birth)
      → (IsTrue p → (other : ℕ) → option_and_then p_linked_object (value_at structs other) ≡ Some birth → ⊥)
      → PutsAt kept structs dead (with_value structs number (Linked p light birth own)) dead number (Some (Linked p light birth own))
  make_puts p light birth own none few_numbers few there free = record {
    rises = KeysRise-with_value structs number (Linked p light birth own) s.rises;
    at = λ q. value_at-with_value structs number q (Linked p light birth own);
    object = λ x e. let same : birth ≡ x = cc in subst (λ (k : ℕ). IsTrue (is_kept kept k)) same there;
    one = λ other x e f. absurd (p-linked-apart p light birth own x e (λ yes same. free yes other (f ∙ ap Some (sym same))));
    live = λ e. let no : ⊥ = cc in no;
    range = λ u e. let same : Linked p light birth own ≡ u = cc in (few_numbers, subst IsOwnSound same few);
    once = s.dead_once;
    others = λ q ne. refl;
    here = not-queued s number None none (λ e. let no : ⊥ = cc in no);
  }

  pub take_puts : (rest : List ℕ) → dead ≡ number ∷ rest → PutsAt kept structs dead (with_value structs number (Unlinked 1)) rest number (Some (Unlinked 1))
  take_puts rest queue =
      let once : IsDistinct nat_eq (number ∷ rest) = subst (IsDistinct nat_eq) queue s.dead_once in
      let pending : value_at structs number ≡ Some Pending = s.dead_pending number (subst (λ (ds : List ℕ). IsTrue (is_in number ds)) (sym queue) (is_in-head number rest)) in
      record {
        rises = KeysRise-with_value structs number (Unlinked 1) s.rises;
        at = λ q. value_at-with_value structs number q (Unlinked 1);
        object = λ x e. absurd (let no : ⊥ = cc in no);
        one = λ other x e f. absurd (let no : ⊥ = cc in no);
        live = λ e. let no : ⊥ = cc in no;
        range = λ u e. let same : Unlinked 1 ≡ u = cc in ((s.in_range number Pending pending).0, subst IsOwnSound same (omega arith, omega arith));
        once = distinct-tail number rest once;
        others = λ q ne. (let away : (number == q) ≡ false = ne_eqb number q (λ e. ne (sym e)) in sym (ap (is_in q) queue ∙ rw away refl));
        here = distinct-head number rest once;
      }
