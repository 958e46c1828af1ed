-- Links stay sound where those of objects that are gone are cut.
use Rattle.std.proofs.Common.{◌≡◌, ◌≢◌, ℕ, ◌≤◌, ◌<◌, ◌⊎◌, Bool, true, false, IsTrue, List, [], ◌∷◌, ◌++◌, map, nat_eq, Option, Some, None, refl, sym, ap, ◌∙◌, subst, inl, inr, arith}
use Rattle.std.specs.Prelude.{IsFalse, ◌==◌, filter_map, option_map, option_and_then, unwrap_or, if◌then◌else◌}
use Rattle.std.specs.List.{IsDistinct, AllByRecursion, All, cons_option}
use Rattle.std.proofs.lemmas.Bool.{cases_Bool}
use Rattle.std.proofs.lemmas.Bool.Decides.{eqb_tells, nat_tests}
use Rattle.type_table.specs.Table.{Table, KeysRise, value_at}
use Rattle.object_model.proofs.Members.{is_in-head, is_in-tail, is_in-cases, is_in-nil, in-left, in-right, in-either}
use Rattle.text_model.specs.declared.line.Fate.{Fate}
use Rattle.text_model.specs.declared.line.Fate.TheVariants as fate
use Rattle.text_model.specs.declared.line.LinkEnd.{LinkEnd}
use Rattle.object_model.specs.Object.{Object}
use Rattle.store_model.specs.Store.{Struct, Linked, Unlinked, Pending}
use Rattle.object_model.specs.Sets.{is_in}
use Rattle.store_model.specs.Roots.{is_kept}
use Rattle.store_model.specs.Structs.{object_of}
use Rattle.store_model.specs.Links.{cut_links, entry_after, struct_after, link_end, link_ends, newly_dead, left_by, fate_of, is_queued_by}
use Rattle.store_model.specs.Sound.{AreLinksSound, IsOwnSound, p_linked_object}
use Rattle.object_model.proofs.Distinct.{distinct_append}
use Rattle.type_table.proofs.TableLaws.{KeysRise-tail, KeysRise-cons, first_key_below}
use Rattle.std.proofs.lemmas.List.Elements.{All-head, All-tail, All-cons}

abbrev keys : Table Struct → List ℕ
keys es = map (λ (e : ℕ × Struct). e.0) es

-- keys that rise differ
pub keys_differ : (es : Table Struct) → KeysRise es → IsDistinct nat_eq (keys es)
unfolding IsDistinct
keys_differ [] rises = tt
keys_differ (e ∷ es) rises = (apart es (first_key_below e es rises), keys_differ es (KeysRise-tail e es rises))
  where
    apart : (fs : Table Struct) → All (λ (later : ℕ × Struct). e.0 < later.0) fs → AllByRecursion (λ y. nat_eq e.0 y ≡ false) (keys fs)
    apart [] below = tt
    apart (f ∷ fs) below =
        ((let l = All-head (λ (later : ℕ × Struct). e.0 < later.0) f fs below in grind (arith, nat_tests)), apart fs (All-tail (λ (later : ℕ × Struct). e.0 < later.0) f fs below))

module _ (gone : ℕ → Bool) where
  below-after : (es : Table Struct) (k : ℕ) → All (λ (later : ℕ × Struct). k < later.0) es → All (λ (later : ℕ × Struct). k < later.0) (filter_map (entry_after gone) es)
  below-after [] k below = below
  below-after (e ∷ es) k below = go (struct_after gone e.1) (below-after es k (All-tail (λ (later : ℕ × Struct). k < later.0) e es below))
    where
      go : (o : Option Struct) → All (λ (later : ℕ × Struct). k < later.0) (filter_map (entry_after gone) es)
          → All (λ (later : ℕ × Struct). k < later.0) (cons_option (option_map (λ (t : Struct). (e.0, t)) o) (filter_map (entry_after gone) es))
      go None rest = rest
      go (Some t) rest = All-cons (λ (later : ℕ × Struct). k < later.0) (e.0, t) (filter_map (entry_after gone) es) (All-head (λ (later : ℕ × Struct). k < later.0) e es below) rest

  rises-after : (es : Table Struct) → KeysRise es → KeysRise (filter_map (entry_after gone) es)
  rises-after [] rises = rises
  rises-after (e ∷ es) rises = go (struct_after gone e.1) (rises-after es (KeysRise-tail e es rises))
    where
      go : (o : Option Struct) → KeysRise (filter_map (entry_after gone) es) → KeysRise (cons_option (option_map (λ (t : Struct). (e.0, t)) o) (filter_map (entry_after gone) es))
      go None rest = rest
      go (Some t) rest = KeysRise-cons (e.0, t) (filter_map (entry_after gone) es) (below-after es e.0 (first_key_below e es rises)) rest

  -- what stands at a number after the cut
  pub value_after : (es : Table Struct) (n : ℕ) → IsDistinct nat_eq (keys es) → value_at (filter_map (entry_after gone) es) n ≡ option_and_then (struct_after gone) (value_at es n)
  unfolding IsDistinct
  value_after [] n d = refl
  value_after ((k, s) ∷ es) n d = go (nat_eq n k) refl (struct_after gone s) refl (value_after es n d.1)
    where
      apart : (n : ℕ) (es : Table Struct) → AllByRecursion (λ y. nat_eq n y ≡ false) (keys es) → value_at (filter_map (entry_after gone) es) n ≡ None
      apart n [] all = refl
      apart n ((q, t) ∷ es) all = more (struct_after gone t) (apart n es all.1)
        where
          more : (o : Option Struct) → value_at (filter_map (entry_after gone) es) n ≡ None → value_at (cons_option (option_map (λ (u : Struct). (q, u)) o) (filter_map (entry_after gone) es)) n ≡ None
          more None rest = rest
          more (Some u) rest = rw all.0 rest

      same : nat_eq n k ≡ true → n ≡ k
      same e = grind (arith, nat_tests)

      go : (b : Bool) → nat_eq n k ≡ b → (o : Option Struct) → struct_after gone s ≡ o → value_at (filter_map (entry_after gone) es) n ≡ option_and_then (struct_after gone) (value_at es n)
          → value_at (cons_option (option_map (λ (u : Struct). (k, u)) (struct_after gone s)) (filter_map (entry_after gone) es)) n ≡ option_and_then (struct_after gone) (value_at ((k, s) ∷ es) n)
      go true b None o more = rw o (apart n es (subst (λ (q : ℕ). AllByRecursion (λ y. nat_eq q y ≡ false) (keys es)) (sym (same b)) d.0) ∙ rw b (sym o))
      go true b (Some t) o more = rw o (rw b (sym o))
      go false b None o more = rw o (more ∙ rw b refl)
      go false b (Some t) o more = rw o (rw b more)

  -- what becomes of a structure

  some-same : (a b : Struct) → Some a ≡ Some b → a ≡ b
  some-same a b e = ap (λ (o : Option Struct). unwrap_or o a) e

  own-left : (light : Bool) (own : ℕ) (st : Struct) → own ≤ 4294967295 → left_by (fate_of light own) own ≡ Some st → IsOwnSound st
  own-left light own st few e = elim (eqb_tells own 0) [
    | inl z ↦ zero-own light (rw z.0 at e)
    | inr z ↦ subst IsOwnSound (some-same (Unlinked own) st (rw z.0 at e)) (omega (arith, z.1), few)
  ]
    where
      zero-own : (l : Bool) → left_by (if l then fate.Released else fate.Pending) own ≡ Some st → IsOwnSound st
      zero-own true e = absurd (let no : ⊥ = cc in no)
      zero-own false e = subst IsOwnSound (some-same Pending st e) tt

  own-after : (t st : Struct) → IsOwnSound t → struct_after gone t ≡ Some st → IsOwnSound st
  own-after (Linked p light b own) st few e = go (gone b) refl
    where
      go : (g : Bool) → gone b ≡ g → IsOwnSound st
      go true g = own-left light own st few (rw g at e)
      go false g = subst IsOwnSound (some-same (Linked p light b own) st (rw g at e)) few
  own-after (Unlinked own) st few e = subst IsOwnSound (some-same (Unlinked own) st e) few
  own-after Pending st few e = subst IsOwnSound (some-same Pending st e) few

  -- a structure that waits from now on was linked
  pub record BecomesPending (t : Struct) : Type 0 where
    pub after : struct_after gone t ≡ Some Pending
    pub linked : t ≢ Pending

  -- whether the end of a structure is a queued one
  abbrev queues_now : ℕ → Struct → List ℕ
  queues_now n t = newly_dead (cons_option (link_end gone (n, t)) [])

  one-end : (n : ℕ) (t : Struct) (rest : List LinkEnd) → newly_dead (cons_option (link_end gone (n, t)) rest) ≡ queues_now n t ++ newly_dead rest
  one-end n t rest = go (link_end gone (n, t))
    where
      go : (o : Option LinkEnd) → newly_dead (cons_option o rest) ≡ newly_dead (cons_option o []) ++ newly_dead rest
      go None = refl
      go (Some cut) = elim (cases_Bool (is_queued_by cut.fate)) [ inl e ↦ rw e refl | inr e ↦ rw e refl ]

  queues-pending : (n : ℕ) (t : Struct) → ((queues_now n t ≡ n ∷ []) × BecomesPending t) ⊎ ((queues_now n t ≡ []) × (BecomesPending t → ⊥))
  queues-pending n (Linked p light b own) = go (gone b) refl
    where
      ended : (l : Bool) (z : Bool) → (own == 0) ≡ z → fate_of l own ≡ (if z then (if l then fate.Released else fate.Pending) else fate.Unlinked)
      ended l true z = rw z refl
      ended l false z = rw z refl

      kind : gone b ≡ true → (f : Fate) → fate_of light own ≡ f → ((queues_now n (Linked p light b own) ≡ n ∷ []) × BecomesPending (Linked p light b own)) ⊎ ((queues_now n (Linked p light b own) ≡ []) × (BecomesPending (Linked p light b own) → ⊥))
      kind g fate.Unlinked f = inr (rw (g, f) refl, λ w. let after : Some (Unlinked own) ≡ Some Pending = rw (g, f) at w.after in let no : ⊥ = cc in no)
      kind g fate.Pending f = inl (rw (g, f) refl, record { after = rw (g, f) refl; linked = λ e. let no : ⊥ = cc in no })
      kind g fate.Released f = inr (rw (g, f) refl, λ w. let after : None ≡ Some Pending = rw (g, f) at w.after in let no : ⊥ = cc in no)

      go : (g : Bool) → gone b ≡ g → ((queues_now n (Linked p light b own) ≡ n ∷ []) × BecomesPending (Linked p light b own)) ⊎ ((queues_now n (Linked p light b own) ≡ []) × (BecomesPending (Linked p light b own) → ⊥))
      go true g = kind g (fate_of light own) refl
      go false g = inr (rw g refl, λ w. let after : Some (Linked p light b own) ≡ Some Pending = rw g at w.after in let no : ⊥ = cc in no)
  queues-pending n (Unlinked own) = inr (refl, λ w. let after = w.after in let no : ⊥ = cc in no)
  queues-pending n Pending = inr (refl, λ w. w.linked refl)

  key-in : (es : Table Struct) (n : ℕ) (t : Struct) → value_at es n ≡ Some t → IsTrue (is_in n (keys es))
  key-in [] n t e = absurd (let no : ⊥ = cc in no)
  key-in ((k, s) ∷ es) n t e = elim (eqb_tells n k) [
    | inl is ↦ subst (λ (q : ℕ). IsTrue (is_in q (k ∷ keys es))) (sym is.1) (is_in-head k (keys es))
    | inr other ↦ is_in-tail n k (keys es) (key-in es n t (rw other.0 at e))
  ]

  other-key : (k n : ℕ) (xs : List ℕ) → AllByRecursion (λ y. nat_eq k y ≡ false) xs → IsTrue (is_in n xs) → nat_eq n k ≡ false
  other-key k n [] all t = absurd (is_in-nil n t)
  other-key k n (x ∷ xs) all t = elim (is_in-cases n x xs t) [
    | inl is ↦ let f = all.0 in let g : nat_eq k n ≡ false = ap (nat_eq k) is ∙ f in grind (arith, nat_tests)
    | inr u ↦ other-key k n xs all.1 u
  ]

  pub record Newly (es : Table Struct) (n : ℕ) : Type 0 where
    pub struct : Struct
    pub there : value_at es n ≡ Some struct
    pub becomes : BecomesPending struct

  -- what is newly dead becomes pending
  newly : (es : Table Struct) (n : ℕ) → IsDistinct nat_eq (keys es) → IsTrue (is_in n (newly_dead (link_ends gone es))) → Newly es n
  unfolding IsDistinct
  newly [] n d t = absurd (is_in-nil n t)
  newly ((k, s) ∷ es) n d t = go (newly es n d.1) (in-either n (queues_now k s) (newly_dead (link_ends gone es)) (subst (λ (xs : List ℕ). IsTrue (is_in n xs)) (one-end k s (link_ends gone es)) t))
    where
      go : (IsTrue (is_in n (newly_dead (link_ends gone es))) → Newly es n) → IsTrue (is_in n (queues_now k s)) ⊎ IsTrue (is_in n (newly_dead (link_ends gone es))) → Newly ((k, s) ∷ es) n
      go more (inl u) = elim (queues-pending k s) [
        | inl q ↦ elim (is_in-cases n k [] (subst (λ (xs : List ℕ). IsTrue (is_in n xs)) q.0 u)) [
          | inl is ↦ record { struct = s; there = (let here : nat_eq n k ≡ true = grind (arith, nat_tests) in rw here refl); becomes = q.1 }
          | inr none ↦ absurd (is_in-nil n none)
        ]
        | inr q ↦ absurd (is_in-nil n (subst (λ (xs : List ℕ). IsTrue (is_in n xs)) q.0 u))
      ]
      go more (inr u) = let m = more u in record { struct = m.struct; there = rw (other-key k n (keys es) d.0 (key-in es n m.struct m.there)) m.there; becomes = m.becomes }

  becomes-newly : (es : Table Struct) (n : ℕ) (t : Struct) → value_at es n ≡ Some t → BecomesPending t → IsTrue (is_in n (newly_dead (link_ends gone es)))
  becomes-newly [] n t e w = absurd (let no : ⊥ = cc in no)
  becomes-newly ((k, s) ∷ es) n t e w = subst (λ (xs : List ℕ). IsTrue (is_in n xs)) (sym (one-end k s (link_ends gone es))) (elim (eqb_tells n k) [
    | inl is ↦ in-left n (queues_now k s) (newly_dead (link_ends gone es)) (let same : s ≡ t = some-same s t (rw is.0 at e) in elim (queues-pending k s) [
      | inl q ↦ subst (λ (xs : List ℕ). IsTrue (is_in n xs)) (sym q.0) (subst (λ (q : ℕ). IsTrue (is_in q (k ∷ []))) (sym is.1) (is_in-head k []))
      | inr q ↦ absurd (q.1 (subst BecomesPending (sym same) w))
    ])
    | inr other ↦ in-right n (queues_now k s) (newly_dead (link_ends gone es)) (becomes-newly es n t (rw other.0 at e) w)
  ])

  newly-key : (es : Table Struct) (n : ℕ) → IsTrue (is_in n (newly_dead (link_ends gone es))) → IsTrue (is_in n (keys es))
  newly-key [] n t = t
  newly-key ((k, s) ∷ es) n t = elim (in-either n (queues_now k s) (newly_dead (link_ends gone es)) (subst (λ (xs : List ℕ). IsTrue (is_in n xs)) (one-end k s (link_ends gone es)) t)) [
    | inl u ↦ elim (queues-pending k s) [
      | inl q ↦ elim (is_in-cases n k [] (subst (λ (xs : List ℕ). IsTrue (is_in n xs)) q.0 u)) [
        | inl is ↦ subst (λ (q : ℕ). IsTrue (is_in q (k ∷ keys es))) (sym is) (is_in-head k (keys es))
        | inr none ↦ absurd (is_in-nil n none)
      ]
      | inr q ↦ absurd (is_in-nil n (subst (λ (xs : List ℕ). IsTrue (is_in n xs)) q.0 u))
    ]
    | inr u ↦ is_in-tail n k (keys es) (newly-key es n u)
  ]

  apart-from : (k : ℕ) (xs ys : List ℕ) → AllByRecursion (λ y. nat_eq k y ≡ false) xs → ((n : ℕ) → IsTrue (is_in n ys) → IsTrue (is_in n xs)) → AllByRecursion (λ y. nat_eq k y ≡ false) ys
  apart-from k xs [] all within = tt
  apart-from k xs (y ∷ ys) all within =
      (let f = other-key k y xs all (within y (is_in-head y ys)) in grind (arith, nat_tests), apart-from k xs ys all (λ n t. within n (is_in-tail n y ys t)))

  newly-differ : (es : Table Struct) → IsDistinct nat_eq (keys es) → IsDistinct nat_eq (newly_dead (link_ends gone es))
  unfolding IsDistinct
  newly-differ [] d = tt
  newly-differ ((k, s) ∷ es) d =
      let more = newly-differ es d.1 in
      let apart = apart-from k (keys es) (newly_dead (link_ends gone es)) d.0 (newly-key es) in
      subst (λ (xs : List ℕ). IsDistinct nat_eq xs) (sym (one-end k s (link_ends gone es))) (elim (queues-pending k s) [
        | inl q ↦ subst (λ (xs : List ℕ). IsDistinct nat_eq (xs ++ newly_dead (link_ends gone es))) (sym q.0) (apart, more)
        | inr q ↦ subst (λ (xs : List ℕ). IsDistinct nat_eq (xs ++ newly_dead (link_ends gone es))) (sym q.0) more
      ])

  pending-after : (t : Struct) → struct_after gone t ≡ Some Pending → (t ≡ Pending) ⊎ BecomesPending t
  pending-after (Linked p light b own) e = inr (record { after = e; linked = λ z. let no : ⊥ = cc in no })
  pending-after (Unlinked own) e = absurd (let no : ⊥ = cc in no)
  pending-after Pending e = inl refl

  -- an object that is linked afterwards was linked, and is not gone
  object-stays : (t : Struct) (x : ℕ) → option_and_then object_of (struct_after gone t) ≡ Some x → (object_of t ≡ Some x) × (gone x ≡ false)
  object-stays (Linked p light b own) x e = go (gone b) refl
    where
      none : (h : Fate) → option_and_then object_of (left_by h own) ≡ Some x → ⊥
      none fate.Unlinked e = let no : ⊥ = cc in no
      none fate.Pending e = let no : ⊥ = cc in no
      none fate.Released e = let no : ⊥ = cc in no

      go : (g : Bool) → gone b ≡ g → (Some b ≡ Some x) × (gone x ≡ false)
      go true g = absurd (none (fate_of light own) (rw g at e))
      go false g = let same : Some b ≡ Some x = rw g at e in let is : b ≡ x = cc in (same, ap gone (sym is) ∙ g)
  object-stays (Unlinked own) x e = absurd (let no : ⊥ = cc in no)
  object-stays Pending x e = absurd (let no : ⊥ = cc in no)

  pub record WasLinked (es : Table Struct) (n x : ℕ) : Type 0 where
    pub linked : option_and_then object_of (value_at es n) ≡ Some x
    pub stays : gone x ≡ false

  pub was_linked : (es : Table Struct) (n x : ℕ) → KeysRise es → option_and_then object_of (value_at (filter_map (entry_after gone) es) n) ≡ Some x → WasLinked es n x
  was_linked es n x rises e = go (value_at es n) refl (ap (option_and_then object_of) (sym (value_after es n (keys_differ es rises))) ∙ e)
    where
      go : (o : Option Struct) → value_at es n ≡ o → option_and_then object_of (option_and_then (struct_after gone) o) ≡ Some x → WasLinked es n x
      go None o e = absurd (let no : ⊥ = cc in no)
      go (Some t) o e = let part = object-stays t x e in record { linked = ap (option_and_then object_of) o ∙ part.0; stays = part.1 }

  -- and so with P links
  p-stays : (t : Struct) (x : ℕ) → option_and_then p_linked_object (struct_after gone t) ≡ Some x → p_linked_object t ≡ Some x
  p-stays (Linked p light b own) x e = go (gone b) refl
    where
      none : (h : Fate) → option_and_then p_linked_object (left_by h own) ≡ Some x → ⊥
      none fate.Unlinked e = let no : ⊥ = cc in no
      none fate.Pending e = let no : ⊥ = cc in no
      none fate.Released e = let no : ⊥ = cc in no

      go : (g : Bool) → gone b ≡ g → p_linked_object (Linked p light b own) ≡ Some x
      go true g = absurd (none (fate_of light own) (rw g at e))
      go false g = rw g at e
  p-stays (Unlinked own) x e = absurd (let no : ⊥ = cc in no)
  p-stays Pending x e = absurd (let no : ⊥ = cc in no)

  p-linked : (es : Table Struct) (n x : ℕ) → KeysRise es → option_and_then p_linked_object (value_at (filter_map (entry_after gone) es) n) ≡ Some x → option_and_then p_linked_object (value_at es n) ≡ Some x
  p-linked es n x rises e = go (value_at es n) refl (ap (option_and_then p_linked_object) (sym (value_after es n (keys_differ es rises))) ∙ e)
    where
      go : (o : Option Struct) → value_at es n ≡ o → option_and_then p_linked_object (option_and_then (struct_after gone) o) ≡ Some x → option_and_then p_linked_object (value_at es n) ≡ Some x
      go None o e = absurd (let no : ⊥ = cc in no)
      go (Some t) o e = ap (option_and_then p_linked_object) o ∙ p-stays t x e

  pub cut_sound : (kept after : List Object) (structs : Table Struct) (dead : List ℕ) → ((x : ℕ) → gone x ≡ false → IsTrue (is_kept kept x) → IsTrue (is_kept after x))
      → AreLinksSound kept structs dead
      → AreLinksSound after (cut_links gone (record { structs = structs; dead = dead })).structs (cut_links gone (record { structs = structs; dead = dead })).dead
  cut_sound kept after structs dead stay s = let apart = keys_differ structs s.rises in record {
    rises = rises-after structs s.rises;
    objects = λ n x e. let was = was_linked structs n x s.rises e in stay x was.stays (s.objects n x was.linked);
    one_p_link = λ n m x e f. s.one_p_link n m x (p-linked structs n x s.rises e) (p-linked structs m x s.rises f);
    dead_once = distinct_append dead (newly_dead (link_ends gone structs)) s.dead_once (newly-differ structs apart) (λ n t. disjoint n t);
    dead_pending = λ n t. value_after structs n apart ∙ elim (in-either n dead (newly_dead (link_ends gone structs)) t) [
      | inl u ↦ ap (option_and_then (struct_after gone)) (s.dead_pending n u)
      | inr u ↦ let m = newly structs n apart u in ap (option_and_then (struct_after gone)) m.there ∙ m.becomes.after
    ];
    pending_dead = λ n e. waits n (value_at structs n) refl (sym (value_after structs n apart) ∙ e);
    in_range = λ n st e. ranged n st (value_at structs n) refl (sym (value_after structs n apart) ∙ e);
  }
    where
      disjoint : (n : ℕ) → IsTrue (is_in n dead) → IsFalse (is_in n (newly_dead (link_ends gone structs)))
      disjoint n t = elim (cases_Bool (is_in n (newly_dead (link_ends gone structs)))) [
        | inl u ↦ absurd (let m = newly structs n (keys_differ structs s.rises) u in m.becomes.linked (some-same m.struct Pending (sym m.there ∙ s.dead_pending n t)))
        | inr out ↦ out
      ]

      waits : (n : ℕ) (o : Option Struct) → value_at structs n ≡ o → option_and_then (struct_after gone) o ≡ Some Pending → IsTrue (is_in n (dead ++ newly_dead (link_ends gone structs)))
      waits n None o e = absurd (let no : ⊥ = cc in no)
      waits n (Some t) o e = elim (pending-after t e) [
        | inl is ↦ in-left n dead (newly_dead (link_ends gone structs)) (s.pending_dead n (o ∙ ap Some is))
        | inr w ↦ in-right n dead (newly_dead (link_ends gone structs)) (becomes-newly structs n t o w)
      ]

      ranged : (n : ℕ) (st : Struct) (o : Option Struct) → value_at structs n ≡ o → option_and_then (struct_after gone) o ≡ Some st → (n ≤ 65535) × IsOwnSound st
      ranged n st None o e = absurd (let no : ⊥ = cc in no)
      ranged n st (Some t) o e = let r = s.in_range n t o in (r.0, own-after t st r.1 e)
