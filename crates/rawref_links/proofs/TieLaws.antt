-- What ties the structures, the links of each object and the dead queue stays, one structure at a time.
use Rattle.std.proofs.Common.{◌≡◌, ℕ, Bool, true, false, cond, ◌||◌, ◌&&◌, ◌==◌, ◌-◌, IsTrue, List, [], ◌∷◌, Option, Some, None, IsSome, is_some, IsSomeAnd, option_map, subst, sym, refl, ap, ◌∙◌, arith}
use Rattle.std.specs.List.{find}
use Rattle.std.proofs.lemmas.Bool.{eqb-true, eq-eqb}
use Rattle.std.proofs.lemmas.Bool.Decides.{nat_tests}
use Rattle.std.proofs.lemmas.List.Folds.{list_any-append}
use Rattle.type_table.specs.Table.{Table, KeysRise, value_at, with_value, without_key}
use Rattle.type_table.proofs.TableLaws.{KeysRise-tail, KeysRise-with_value, value_at-with_value, value_at-with_value_same}
use Rattle.object_model.specs.Sets.{is_in}
use Rattle.store_model.specs.Store.{Struct, Linked, Unlinked, Pending}
use Rattle.store_model.specs.Structs.{with_struct, p_link_of, raised, lowered}
use Rattle.store_model.specs.StructChecks.{is_p_link_of}
use Rattle.rawref_links.specs.Conditions.{is_pending}
use Rattle.rawref_links.specs.Conditions.{CanFall}
use Rattle.rawref_links.specs.Objects.{LinksOf, links_or_none, links_at, with_link}
use Rattle.rawref_links.specs.Sound.{is_p_linked_to}
use Rattle.rawref_links.specs.Ties.{is_linked_to, is_number, AreTied}
use Rattle.rawref_links.proofs.Tables.{value_at-first, value_at-behind_first, without_key-with_value}
use Rattle.rawref_links.proofs.Tabled.{nat_eq-turned}
use Rattle.rawref_links.proofs.Keyed.{value_at-with_struct, KeysRise-with_struct}

pub AreTied-new : AreTied [] [] []
AreTied-new = record {
  queued = record { rises = λ i j d below within. absurd (omega arith); waiting = λ number. refl; once = tt };
  linked = λ number place. refl;
  p_linked = λ number place. refl;
}

-- a test that what was put passes as what stood there did is passed as before at every number
test-with_struct : (test : Option Struct → Bool) (structs : Table Struct) (number : ℕ) (structure : Option Struct)
    → test structure ≡ test (value_at structs number) → (q : ℕ) → test (value_at (with_struct structs number structure) q) ≡ test (value_at structs q)
test-with_struct test structs number structure same q =
    ap test (value_at-with_struct structs number structure q)
    ∙ elim (q == number) as (λ t. (q == number) ≡ t → test (cond t structure (value_at structs q)) ≡ test (value_at structs q)) [
      | true ↦ λ is_number. same ∙ ap (λ n. test (value_at structs n)) (sym (eqb-true q number is_number))
      | false ↦ λ differ. refl
    ] refl

-- a change of one structure that keeps its link
pub record KeepsLink (old new : Option Struct) : Type 0 where
  pub linked : (place : ℕ) → is_linked_to place new ≡ is_linked_to place old
  pub p_linked : (place : ℕ) → is_p_linked_to place new ≡ is_p_linked_to place old
  pub pending : is_pending new ≡ is_pending old

pub AreTied-with_struct : (structs : Table Struct) (objects : Table LinksOf) (dead : List ℕ) (number : ℕ) (structure : Option Struct)
    → AreTied structs objects dead → KeepsLink (value_at structs number) structure → AreTied (with_struct structs number structure) objects dead
AreTied-with_struct structs objects dead number structure tied keeps = record {
  queued = record {
    rises = KeysRise-with_struct structs number structure tied.queued.rises;
    waiting = λ q. tied.queued.waiting q ∙ sym (test-with_struct is_pending structs number structure keeps.pending q);
    once = tied.queued.once;
  };
  linked = λ q place. tied.linked q place ∙ sym (test-with_struct (is_linked_to place) structs number structure (keeps.linked place) q);
  p_linked = λ q place. tied.p_linked q place ∙ sym (test-with_struct (is_p_linked_to place) structs number structure (keeps.p_linked place) q);
}

pub KeepsLink-raised : (structure : Struct) → KeepsLink (Some structure) (Some (raised structure))
KeepsLink-raised (Linked p light object own) = record { linked = λ place. refl; p_linked = λ place. refl; pending = refl }
KeepsLink-raised (Unlinked own) = record { linked = λ place. refl; p_linked = λ place. refl; pending = refl }
KeepsLink-raised Pending = record { linked = λ place. refl; p_linked = λ place. refl; pending = refl }

pub KeepsLink-lowered : (structure : Struct) → CanFall structure → KeepsLink (Some structure) (lowered structure)
KeepsLink-lowered (Linked p light object own) falls = record { linked = λ place. refl; p_linked = λ place. refl; pending = refl }
KeepsLink-lowered (Unlinked own) falls =
    elim (own == 1) as (λ t. KeepsLink (Some (Unlinked own)) (cond t None (Some (Unlinked (own - 1))))) [
      | true ↦ record { linked = λ place. refl; p_linked = λ place. refl; pending = refl }
      | false ↦ record { linked = λ place. refl; p_linked = λ place. refl; pending = refl }
    ]
KeepsLink-lowered Pending falls = absurd falls

-- the one structure that has a P link with an object is found by a walk over all
pub p_link_of-unique : (structs : Table Struct) (place : ℕ) (p_link : Option ℕ) → KeysRise structs
    → ((number : ℕ) → is_number number p_link ≡ is_p_linked_to place (value_at structs number)) → p_link ≡ p_link_of structs place
p_link_of-unique [] place None rises same = refl
p_link_of-unique [] place (Some found) rises same =
    let clash : (found == found) ≡ false = same found in
    absurd (grind (arith, nat_tests))
p_link_of-unique (entry ∷ structs) place p_link rises same =
    elim (is_p_link_of (Some place) entry.1) as (λ t. is_p_link_of (Some place) entry.1 ≡ t
    → p_link ≡ option_map (λ e. e.0) (cond t (Some entry) (find (λ e. is_p_link_of (Some place) e.1) structs))) [
      | true ↦ λ is_linked. found p_link (same entry.0 ∙ ap (is_p_linked_to place) (value_at-first entry structs) ∙ is_linked)
      | false ↦ λ not_linked. p_link_of-unique structs place p_link (KeysRise-tail entry structs rises) (λ number. same number ∙ behind number not_linked)
    ] refl
  where
    found : (p_link : Option ℕ) → is_number entry.0 p_link ≡ true → p_link ≡ Some entry.0
    found None clash = absurd (cc)
    found (Some number) same = ap Some (eqb-true number entry.0 same)

    behind : (number : ℕ) → is_p_link_of (Some place) entry.1 ≡ false
        → is_p_linked_to place (value_at (entry ∷ structs) number) ≡ is_p_linked_to place (value_at structs number)
    behind number not_linked = elim (number == entry.0) as (λ t. (number == entry.0) ≡ t
        → is_p_linked_to place (cond t (Some entry.1) (value_at structs number)) ≡ is_p_linked_to place (value_at structs number)) [
          | true ↦ λ is_entry. not_linked ∙ sym (ap (is_p_linked_to place) (ap (value_at structs) (eqb-true number entry.0 is_entry) ∙ value_at-behind_first entry structs rises))
          | false ↦ λ differ. refl
        ] refl

pub p_link-AreTied : (structs : Table Struct) (objects : Table LinksOf) (dead : List ℕ) (place : ℕ) → AreTied structs objects dead
    → (links_at objects place).p_link ≡ p_link_of structs place
p_link-AreTied structs objects dead place tied =
    p_link_of-unique structs place (links_at objects place).p_link tied.queued.rises (λ number. tied.p_linked number place)

-- what is found pending is pending
pub pending_found : (found : Option Struct) → is_pending found ≡ true → found ≡ Some Pending
pending_found None same = absurd (cc)
pending_found (Some (Linked p light object own)) same = absurd (cc)
pending_found (Some (Unlinked own)) same = absurd (cc)
pending_found (Some Pending) same = refl

-- a pending structure that leaves the queue
pub AreTied-taken : (structs : Table Struct) (objects : Table LinksOf) (number own : ℕ) (dead : List ℕ) → AreTied structs objects (number ∷ dead)
    → AreTied (with_value structs number (Unlinked own)) objects dead
AreTied-taken structs objects number own dead tied = record {
  queued = record {
    rises = KeysRise-with_value structs number (Unlinked own) tied.queued.rises;
    waiting = λ q. elim (q == number) as (λ t. (q == number) ≡ t → is_in q dead ≡ is_pending (cond t (Some (Unlinked own)) (value_at structs q))) [
      | true ↦ λ same. ap (λ n. is_in n dead) (eqb-true q number same) ∙ tied.queued.once.0
      | false ↦ λ differ. ap (λ t. t || is_in q dead) (sym (nat_eq-turned number q ∙ differ)) ∙ tied.queued.waiting q
    ] refl ∙ sym (ap is_pending (value_at-with_value structs number q (Unlinked own)));
    once = tied.queued.once.1;
  };
  linked = λ q place. tied.linked q place ∙ sym (test-with_struct (is_linked_to place) structs number (Some (Unlinked own)) (sym (ap (is_linked_to place) pending)) q);
  p_linked = λ q place. tied.p_linked q place ∙ sym (test-with_struct (is_p_linked_to place) structs number (Some (Unlinked own)) (sym (ap (is_p_linked_to place) pending)) q);
}
  where
    pending : value_at structs number ≡ Some Pending
    pending = pending_found (value_at structs number) (sym (tied.queued.waiting number) ∙ ap (λ t. t || is_in number dead) (eq-eqb number number refl))

pub links_at-with_value : (objects : Table LinksOf) (place : ℕ) (links : LinksOf) (q : ℕ)
    → links_at (with_value objects place links) q ≡ cond (q == place) links (links_at objects q)
links_at-with_value objects place links q =
    ap links_or_none (value_at-with_value objects place q links)
    ∙ elim (q == place) as (λ t. links_or_none (cond t (Some links) (value_at objects q)) ≡ cond t links (links_at objects q)) [ true ↦ refl | false ↦ refl ]

or_true : (b : Bool) → (b || true) ≡ true
or_true true = refl
or_true false = refl

or_false : (b : Bool) → (b || false) ≡ b
or_false true = refl
or_false false = refl

and_false : (b : Bool) → (b && false) ≡ false
and_false true = refl
and_false false = refl

-- a structure that is linked, under a number that has none
module _ (structs : Table Struct) (objects : Table LinksOf) (dead : List ℕ) (p light : Bool) (number place own : ℕ) (tied : AreTied structs objects dead)
    (absent : value_at structs number ≡ None) (one : IsTrue p → p_link_of structs place ≡ None) where
  linked_there : (q at : ℕ) (here is_number same_number : Bool) → (at == place) ≡ here → (q == number) ≡ is_number → same_number ≡ is_number
      → is_in q (cond here (with_link (links_at objects place) number p) (links_at objects at)).numbers
      ≡ is_linked_to at (cond is_number (Some (Linked p light place own)) (value_at structs q))
  linked_there q at true true same_number is_here is_n same =
      list_any-append (λ y. y == q) (links_at objects place).numbers (number ∷ [])
      ∙ ap (λ t. is_in q (links_at objects place).numbers || (t || false)) (nat_eq-turned number q ∙ is_n)
      ∙ or_true (is_in q (links_at objects place).numbers) ∙ sym is_here
  linked_there q at true false same_number is_here is_n same =
      list_any-append (λ y. y == q) (links_at objects place).numbers (number ∷ [])
      ∙ ap (λ t. is_in q (links_at objects place).numbers || (t || false)) (nat_eq-turned number q ∙ is_n)
      ∙ or_false (is_in q (links_at objects place).numbers) ∙ tied.linked q place
      ∙ ap (λ o. is_linked_to o (value_at structs q)) (sym (eqb-true at place is_here))
  linked_there q at false true same_number not_here is_n same =
      tied.linked q at ∙ ap (is_linked_to at) (ap (value_at structs) (eqb-true q number is_n) ∙ absent) ∙ sym not_here
  linked_there q at false false same_number not_here is_n same = tied.linked q at

  -- no other structure has a P link with the object of a new one
  no_other : p ≡ true → (q : ℕ) → is_p_linked_to place (value_at structs q) ≡ false
  no_other is_p q =
      sym (tied.p_linked q place) ∙ ap (is_number q) (p_link-AreTied structs objects dead place tied ∙ one is_p)

  p_linked_there : (q at : ℕ) (b here same : Bool) → p ≡ b → (at == place) ≡ here → (q == number) ≡ same
      → is_number q (cond here (with_link (links_at objects place) number b) (links_at objects at)).p_link
      ≡ is_p_linked_to at (cond same (Some (Linked b light place own)) (value_at structs q))
  p_linked_there q at true true true is_p is_here is_n = nat_eq-turned number q ∙ is_n ∙ sym is_here
  p_linked_there q at true true false is_p is_here is_n =
      nat_eq-turned number q ∙ is_n ∙ sym (no_other is_p q) ∙ ap (λ o. is_p_linked_to o (value_at structs q)) (sym (eqb-true at place is_here))
  p_linked_there q at false true true is_p is_here is_n =
      tied.p_linked q place ∙ ap (is_p_linked_to place) (ap (value_at structs) (eqb-true q number is_n) ∙ absent)
  p_linked_there q at false true false is_p is_here is_n =
      tied.p_linked q place ∙ ap (λ o. is_p_linked_to o (value_at structs q)) (sym (eqb-true at place is_here))
  p_linked_there q at b false true is_p not_here is_n =
      tied.p_linked q at ∙ ap (is_p_linked_to at) (ap (value_at structs) (eqb-true q number is_n) ∙ absent)
      ∙ sym (ap (λ t. b && t) not_here ∙ and_false b)
  p_linked_there q at b false false is_p not_here is_n = tied.p_linked q at

  pub AreTied-linked : AreTied (with_value structs number (Linked p light place own)) (with_value objects place (with_link (links_at objects place) number p)) dead
  AreTied-linked = record {
    queued = record {
      rises = KeysRise-with_value structs number (Linked p light place own) tied.queued.rises;
      waiting = λ q. tied.queued.waiting q
          ∙ sym (test-with_struct is_pending structs number (Some (Linked p light place own)) (sym (ap is_pending absent)) q);
      once = tied.queued.once;
    };
    linked = λ q at.
        ap (λ l. is_in q l.numbers) (links_at-with_value objects place (with_link (links_at objects place) number p) at)
        ∙ linked_there q at (at == place) (q == number) (q == number) refl refl refl
        ∙ sym (ap (is_linked_to at) (value_at-with_value structs number q (Linked p light place own)));
    p_linked = λ q at.
        ap (λ l. is_number q l.p_link) (links_at-with_value objects place (with_link (links_at objects place) number p) at)
        ∙ p_linked_there q at p (at == place) (q == number) refl refl refl
        ∙ sym (ap (is_p_linked_to at) (value_at-with_value structs number q (Linked p light place own)));
  }

-- what `inc` and `dec` leave, where the structures that are kept are those that are seen
module _ (structs seen : Table Struct) (objects : Table LinksOf) (dead : List ℕ) (number : ℕ) (structure : Struct) (tied : AreTied structs objects dead)
    (same : structs ≡ seen) (found : value_at structs number ≡ Some structure) where
  pub AreTied-raised : AreTied (with_value structs number (raised structure)) objects dead
  AreTied-raised =
      AreTied-with_struct structs objects dead number (Some (raised structure)) tied
      (subst (λ o. KeepsLink o (Some (raised structure))) (sym found) (KeepsLink-raised structure))

  pub AreTied-lowered : IsSomeAnd (value_at seen number) CanFall → AreTied (with_struct structs number (lowered structure)) objects dead
  AreTied-lowered falls =
      let can : IsSomeAnd (Some structure) CanFall = subst (λ o. IsSomeAnd o CanFall) (ap (λ t. value_at t number) (sym same) ∙ found) falls in
      AreTied-with_struct structs objects dead number (lowered structure) tied
      (subst (λ o. KeepsLink o (lowered structure)) (sym found) (KeepsLink-lowered structure can))

-- what `link` leaves
module _ (structs seen after : Table Struct) (objects : Table LinksOf) (dead : List ℕ) (p light : Bool) (number place own : ℕ) (structure : Struct)
    (tied : AreTied structs objects dead) (same : structs ≡ seen) (absent : value_at seen number ≡ None)
    (added : after ≡ with_value structs number structure) where
  was_absent : value_at structs number ≡ None
  was_absent = ap (λ t. value_at t number) same ∙ absent

  pub there_after : IsSome (value_at after number)
  there_after = ap is_some (ap (λ t. value_at t number) added ∙ value_at-with_value_same structs number structure)

  pub taken_back : without_key after number ≡ structs
  taken_back = ap (λ t. without_key t number) added ∙ without_key-with_value structs number structure tied.queued.rises was_absent

  pub AreTied-link : structure ≡ Linked p light place own → (IsTrue p → p_link_of seen place ≡ None)
      → AreTied after (with_value objects place (with_link (links_at objects place) number p)) dead
  AreTied-link is one =
      subst (λ t. AreTied t (with_value objects place (with_link (links_at objects place) number p)) dead)
      (sym (added ∙ ap (with_value structs number) is))
      (AreTied-linked structs objects dead p light number place own tied was_absent (λ is_p. ap (λ t. p_link_of t place) same ∙ one is_p))
