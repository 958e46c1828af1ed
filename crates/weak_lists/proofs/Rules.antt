-- The two rules for targets: they follow what moved in a minor collection, and stay where marking visited them.
use Rattle.std.proofs.Common.{◌≡◌, ◌≢◌, ℕ, ◌+◌, ◌<◌, ◌≤◌, ◌⊎◌, Bool, true, false, IsTrue, List, [], map, refl, sym, ap, ap₂, ◌∙◌, subst, inl, inr, arith}
use Rattle.std.specs.Prelude.{◌==◌, ◌&&◌, ◌||◌, not, if◌then◌else◌}
use Rattle.std.proofs.lemmas.Bool.{eq-eqb, ne_eqb}
use Rattle.std.proofs.lemmas.Bool.Decides.{eqb_tells, nat_tests}
use Rattle.type_table.specs.declared.info.Shape.TheVariants.{Weak}
use Rattle.type_table.specs.declared.info.TypeInfo.{TypeInfo}
use Rattle.type_table.specs.Table.{Table}
use Rattle.heap_space.specs.Places.{has, word_at, lies_in_one}
use Rattle.heap_space.specs.Memory.{Memory}
use Rattle.heap_space.specs.Extents.{extent_of, lies_within}
use Rattle.heap_space.specs.Order.{IsInOrder}
use Rattle.heap_space.proofs.ExtentLaws.{has-by_extents, lies_in_one-extents, lies_within-part}
use Rattle.object_header.specs.Words.{has_flag}
use Rattle.object_header.specs.declared.flags.Flag.TheVariants.{Pinned, Visited}
use Rattle.object_model.specs.Sets.{is_in}
use Rattle.object_model.specs.ObjectWords.{words_at, info_at}
use Rattle.object_view.specs.Moving.{place_now}
use Rattle.object_model.proofs.Members.{is_in-nil, filter-part}
use Rattle.object_view.proofs.LayoutLaws.{laid_out}
use Rattle.object_view.proofs.SpaceLaws.{lies-at, lies-fits}
use Rattle.weak_lists.specs.Targets.{is_outside, survives, weaks_left, is_gone, followed, is_unvisited, kept_target, target_at}
use Rattle.weak_lists.specs.Conditions.{IsFollowed, CanFollow, CanClear, CanSettle, CanRead}
use Rattle.weak_lists.proofs.TargetLaws.{followed-there, followed-gone}
use Rattle.weak_lists.proofs.Lists.{mapped-from}
use Rattle.weak_lists.proofs.Settling.{Agrees, AreWeak, IsRule, head-same, target-inside}

and-false : (b : Bool) → (b && false) ≡ false
and-false true = refl
and-false false = refl

none-outside : (nursery : ℕ) → is_outside nursery 0 ≡ false
none-outside nursery = grind (arith, nat_tests)

-- what has not moved is where it is
pub place_now-self : (w : ℕ → ℕ) (q : ℕ) → w q ≢ 18446744073709551615 → place_now w q ≡ q
place_now-self w q ne = elim (eqb_tells q 0) [
  | inl z ↦ let P : ℕ → Type 0 = λ k. place_now w k ≡ k in subst P (sym z.1) refl
  | inr n ↦ rw (n.0, ne_eqb (w q) 18446744073709551615 ne) refl
]

place_now-left : (w : ℕ → ℕ) (x : ℕ) → (x == 0) ≡ false → w x ≡ 18446744073709551615 → place_now w x ≡ w (x + 1)
place_now-left w x some marked = rw (some, eq-eqb (w x) 18446744073709551615 marked) refl

-- marking
module _ (nursery : ℕ) {types : Table TypeInfo} {first : Memory} {left all : List ℕ} (a : AreWeak types first left all) where
  pub clear-rule : IsRule types (word_at first.blocks) left (λ t. IsTrue (is_outside nursery t) → IsTrue (is_in t all)) (kept_target nursery) (is_unvisited nursery)
  clear-rule = record {
    same = λ v t agrees passes. same-test v t agrees passes (is_outside nursery t) refl;
    again = λ t passes. again-test t passes (is_unvisited nursery (word_at first.blocks) t) refl;
  }
    where
      same-test : (v : ℕ → ℕ) (t : ℕ) → Agrees types (word_at first.blocks) v left → (IsTrue (is_outside nursery t) → IsTrue (is_in t all)) → (b : Bool) → is_outside nursery t ≡ b
          → (kept_target nursery v t ≡ kept_target nursery (word_at first.blocks) t) × (is_unvisited nursery v t ≡ is_unvisited nursery (word_at first.blocks) t)
      same-test v t agrees passes true e =
          let word : v t ≡ word_at first.blocks t = head-same a v agrees t t (passes e) (omega arith) (omega arith) in
          (ap (λ k. if is_outside nursery t && not (has_flag k Visited) then 0 else t) word, ap (λ k. is_outside nursery t && not (has_flag k Visited)) word)
      same-test v t agrees passes false e =
          let one : is_unvisited nursery v t ≡ false = rw e refl in
          let two : is_unvisited nursery (word_at first.blocks) t ≡ false = rw e refl in
          (ap (λ (b : Bool). if b then 0 else t) (one ∙ sym two), one ∙ sym two)

      none : is_unvisited nursery (word_at first.blocks) 0 ≡ false
      none = ap (λ b. b && not (has_flag (word_at first.blocks 0) Visited)) (none-outside nursery)

      again-test : (t : ℕ) → (IsTrue (is_outside nursery t) → IsTrue (is_in t all)) → (b : Bool) → is_unvisited nursery (word_at first.blocks) t ≡ b
          → (IsTrue (is_outside nursery (kept_target nursery (word_at first.blocks) t)) → IsTrue (is_in (kept_target nursery (word_at first.blocks) t) all))
          × ((kept_target nursery (word_at first.blocks) (kept_target nursery (word_at first.blocks) t) ≡ kept_target nursery (word_at first.blocks) t)
          × (is_unvisited nursery (word_at first.blocks) (kept_target nursery (word_at first.blocks) t) ≡ false))
      again-test t passes true e =
          let nil : kept_target nursery (word_at first.blocks) t ≡ 0 = rw e refl in
          let P : ℕ → Type 0 = λ k. (IsTrue (is_outside nursery k) → IsTrue (is_in k all)) × ((kept_target nursery (word_at first.blocks) k ≡ k) × (is_unvisited nursery (word_at first.blocks) k ≡ false)) in
          subst P (sym nil) (
            λ o. absurd (let f = none-outside nursery in let no : ⊥ = cc in no),
            (ap (λ (b : Bool). if b then 0 else 0) none, none),
          )
      again-test t passes false e =
          let stays : kept_target nursery (word_at first.blocks) t ≡ t = rw e refl in
          let P : ℕ → Type 0 = λ k. (IsTrue (is_outside nursery k) → IsTrue (is_in k all)) × ((kept_target nursery (word_at first.blocks) k ≡ k) × (is_unvisited nursery (word_at first.blocks) k ≡ false)) in
          subst P (sym stays) (passes, (stays, e))

pub clear-weak : {types : Table TypeInfo} {nursery : ℕ} {memory : Memory} {weaks all : List ℕ} → CanClear types nursery memory weaks all → AreWeak types memory weaks all
clear-weak c = record { objects = c.objects; there = c.there; weak = c.weak }

pub settle-weak : {types : Table TypeInfo} {memory : Memory} {left all : List ℕ} → CanSettle types memory left all → AreWeak types memory left all
settle-weak c = record { objects = c.objects; there = c.there; weak = c.weak }

-- the first word of an object is there
pub first-there : {types : Table TypeInfo} {first : Memory} {left all : List ℕ} → AreWeak types first left all → (q : ℕ) → IsTrue (is_in q all) → has first.blocks q ≡ true
first-there {types = types} {first = first} a q u =
    let laid = laid_out types (word_at first.blocks) q in
    lies-at first.blocks q (words_at types (word_at first.blocks) q) q (a.objects.whole q u).whole (omega arith) (omega (arith, laid.header))

-- a minor collection
abbrev pub Follows : Table TypeInfo → Memory → List ℕ → ℕ → Type 0
Follows types memory all t = (t ≡ 0) ⊎ IsFollowed types memory all t

module _ (nursery : ℕ) (v w : ℕ → ℕ) (t : ℕ) (one : v t ≡ w t) (two : v (t + 1) ≡ w (t + 1)) (three : v (place_now w t) ≡ w (place_now w t)) where
  pub now-same : place_now v t ≡ place_now w t
  now-same = ap₂ (λ (x y : ℕ). if t == 0 then 0 else (if x == 18446744073709551615 then y else t)) one two

  gone-same : is_gone nursery v t ≡ is_gone nursery w t
  gone-same = ap₂ (λ (q x : ℕ). not (t == 0) && not (is_outside nursery q || has_flag x Pinned)) now-same (ap v now-same ∙ three)

  followed-same : followed nursery v t ≡ followed nursery w t
  followed-same = ap₂ (λ (b : Bool) (q : ℕ). if b then 0 else q) gone-same now-same

-- what the rule gave stays so
abbrev Stays : Table TypeInfo → Memory → List ℕ → ℕ → ℕ → Type 0
Stays types first all nursery k = Follows types first all k × ((followed nursery (word_at first.blocks) k ≡ k) × (is_gone nursery (word_at first.blocks) k ≡ false))

nil-stays : (types : Table TypeInfo) (first : Memory) (all : List ℕ) (nursery : ℕ) → Stays types first all nursery 0
nil-stays types first all nursery = (inl refl, (refl, refl))

-- where the object of a place is now, by what the words hold there
pub record IsNow (first : Memory) (all : List ℕ) (t : ℕ) : Type 0 where
  pub there : IsTrue (is_in (place_now (word_at first.blocks) t) all)
  pub two : IsTrue (lies_in_one first.blocks t 2)

module _ {types : Table TypeInfo} {first : Memory} {left all : List ℕ} (a : AreWeak types first left all) (unmoved : (q : ℕ) → IsTrue (is_in q all) → word_at first.blocks q ≢ 18446744073709551615) where
  two-words : (q : ℕ) → IsTrue (is_in q all) → IsTrue (lies_in_one first.blocks q 2)
  two-words q u =
      let laid = laid_out types (word_at first.blocks) q in
      let size : ℕ = words_at types (word_at first.blocks) q in
      lies_in_one-extents first.blocks q 2
      ∙ lies_within-part _ q size q 2 (omega arith) (omega (arith, laid.header)) (sym (lies_in_one-extents first.blocks q size) ∙ (a.objects.whole q u).whole)

  pub is-now : (t : ℕ) → (t == 0) ≡ false → IsFollowed types first all t → IsNow first all t
  is-now t some (inl u) =
      let P : ℕ → Type 0 = λ k. IsTrue (is_in k all) in
      record { there = subst P (sym (place_now-self (word_at first.blocks) t (unmoved t u))) u; two = two-words t u }
  is-now t some (inr h) =
      let P : ℕ → Type 0 = λ k. IsTrue (is_in k all) in
      record { there = subst P (sym (place_now-left (word_at first.blocks) t some h.marked)) h.there; two = h.readable }

  pub two-read : (t : ℕ) → IsFollowed types first all t → IsTrue (lies_in_one first.blocks t 2)
  two-read t (inl u) = two-words t u
  two-read t (inr h) = h.readable

  -- the words that tell where a target is stay
  stays-two : (v : ℕ → ℕ) → Agrees types (word_at first.blocks) v left → (t : ℕ) → IsFollowed types first all t → (v t ≡ word_at first.blocks t) × (v (t + 1) ≡ word_at first.blocks (t + 1))
  stays-two v agrees t (inl u) = (head-same a v agrees t t u (omega arith) (omega arith), head-same a v agrees t (t + 1) u (omega arith) (omega arith))
  stays-two v agrees t (inr h) = (
    agrees.elsewhere t (λ p u e. h.outside p (a.there p u) (inl (let P : ℕ → Type 0 = λ k. (p ≤ k) × (k < p + words_at types (word_at first.blocks) p) in subst P (sym e) (target-inside a p u).0))),
    agrees.elsewhere (t + 1) (λ p u e. h.outside p (a.there p u) (inr (let P : ℕ → Type 0 = λ k. (p ≤ k) × (k < p + words_at types (word_at first.blocks) p) in subst P (sym e) (target-inside a p u).0))),
  )

  pub follow-rule : (nursery : ℕ) → IsRule types (word_at first.blocks) left (Follows types first all) (followed nursery) (is_gone nursery)
  follow-rule nursery = record {
    same = λ v t agrees passes. same-now v t agrees passes (t == 0) refl;
    again = λ t passes. again-now t passes (t == 0) refl;
  }
    where
      zero-from : (t : ℕ) → (t == 0) ≡ true → t ≡ 0
      zero-from t e = elim (eqb_tells t 0) [ inl z ↦ z.1 | inr n ↦ absurd (let f = n.0 in let no : ⊥ = cc in no) ]

      not-zero : (t : ℕ) → (t == 0) ≡ false → Follows types first all t → IsFollowed types first all t
      not-zero t some (inl z) = absurd (let yes = eq-eqb t 0 z in let no : ⊥ = cc in no)
      not-zero t some (inr f) = f

      same-now : (v : ℕ → ℕ) (t : ℕ) → Agrees types (word_at first.blocks) v left → Follows types first all t → (b : Bool) → (t == 0) ≡ b
          → (followed nursery v t ≡ followed nursery (word_at first.blocks) t) × (is_gone nursery v t ≡ is_gone nursery (word_at first.blocks) t)
      same-now v t agrees passes true e =
          let P : ℕ → Type 0 = λ k. (followed nursery v k ≡ followed nursery (word_at first.blocks) k) × (is_gone nursery v k ≡ is_gone nursery (word_at first.blocks) k) in
          subst P (sym (zero-from t e)) (refl, refl)
      same-now v t agrees passes false e =
          let f = not-zero t e passes in
          let s = stays-two v agrees t f in
          let now = is-now t e f in
          let three = head-same a v agrees (place_now (word_at first.blocks) t) (place_now (word_at first.blocks) t) now.there (omega arith) (omega arith) in
          (followed-same nursery v (word_at first.blocks) t s.0 s.1 three, gone-same nursery v (word_at first.blocks) t s.0 s.1 three)

      again-now : (t : ℕ) → Follows types first all t → (b : Bool) → (t == 0) ≡ b → Stays types first all nursery (followed nursery (word_at first.blocks) t)
      again-now t passes true e =
          let P : ℕ → Type 0 = λ k. Stays types first all nursery (followed nursery (word_at first.blocks) k) in subst P (sym (zero-from t e)) (nil-stays types first all nursery)
      again-now t passes false e =
          let q : ℕ = place_now (word_at first.blocks) t in
          let there : IsTrue (is_in q all) = (is-now t e (not-zero t e passes)).there in
          by-survival t q e refl there (survives nursery (word_at first.blocks) q) refl
        where
          by-survival : (x q : ℕ) → (x == 0) ≡ false → q ≡ place_now (word_at first.blocks) x → IsTrue (is_in q all) → (s : Bool) → survives nursery (word_at first.blocks) q ≡ s
              → Stays types first all nursery (followed nursery (word_at first.blocks) x)
          by-survival x q some is there true s =
              let stays : followed nursery (word_at first.blocks) x ≡ q = sym (followed-there nursery (word_at first.blocks) x x q refl is s) in
              let self : place_now (word_at first.blocks) q ≡ q = place_now-self (word_at first.blocks) q (unmoved q there) in
              let here : is_gone nursery (word_at first.blocks) q ≡ false = rw (self, s) (and-false (not (q == 0))) in
              let same : followed nursery (word_at first.blocks) q ≡ q = rw here self in
              subst (Stays types first all nursery) (sym stays) (inr (inl there), (same, here))
          by-survival x q some is there false s =
              let nil : followed nursery (word_at first.blocks) x ≡ 0 =
              sym (followed-gone nursery (word_at first.blocks) x x q refl (λ z. (let full = eq-eqb x 0 z in let no : ⊥ = cc in no)) is s) in
              subst (Stays types first all nursery) (sym nil) (nil-stays types first all nursery)

  -- what can be read of a target
  pub follow-reads : (m : Memory) (t : ℕ) → Agrees types (word_at first.blocks) (word_at m.blocks) left → (extents : map extent_of m.blocks ≡ map extent_of first.blocks) → Follows types first all t
      → (t ≡ 0) ⊎ CanRead m t
  follow-reads m t agrees extents passes = elim (eqb_tells t 0) [
    | inl z ↦ inl z.1
    | inr n ↦ inr (elim passes [
      | inl z ↦ absurd (n.1 z)
      | inr f ↦
          let now = is-now t n.0 f in
          let s = stays-two (word_at m.blocks) agrees t f in
          let q : ℕ = place_now (word_at first.blocks) t in
          let three = head-same a (word_at m.blocks) agrees q q now.there (omega arith) (omega arith) in
          let place : place_now (word_at m.blocks) t ≡ q = now-same 0 (word_at m.blocks) (word_at first.blocks) t s.0 s.1 three in
          let laid = laid_out types (word_at first.blocks) q in
          let there : has first.blocks q ≡ true = lies-at first.blocks q (words_at types (word_at first.blocks) q) q (a.objects.whole q now.there).whole (omega arith) (omega (arith, laid.header)) in
          record {
            two = lies_in_one-extents m.blocks t 2 ∙ (ap (λ xs. lies_within xs t 2) extents ∙ (sym (lies_in_one-extents first.blocks t 2) ∙ now.two));
            now = ap (has m.blocks) place ∙ (has-by_extents m.blocks first.blocks extents q ∙ there);
          }
    ])
  ]

no-zero : (memory : Memory) (x : ℕ) → IsInOrder memory → IsTrue (lies_in_one memory.blocks x 2) → x ≡ 0 → ⊥
no-zero memory x o lies z = let f = lies-fits memory x 2 o (omega arith) lies in let low = f.0 in omega (arith, z, low)

-- the weak objects of the list can be followed
pub read-held : {types : Table TypeInfo} {nursery : ℕ} {memory : Memory} {weaks all : List ℕ} → IsInOrder memory → CanFollow types nursery memory weaks all → (x : ℕ) → IsTrue (is_in x weaks)
    → CanRead memory x
read-held {types = types} {memory = memory} {all = all} o c x t =
    let a : AreWeak types memory [] all = record { objects = c.objects; there = λ p u. absurd (is_in-nil p u); weak = λ p u. absurd (is_in-nil p u) } in
    elim (follow-reads a c.unmoved memory x (record { elsewhere = λ b none. refl }) refl (inr (c.followed x t))) [
      | inl z ↦ absurd (no-zero memory x o (two-read a c.unmoved x (c.followed x t)) z)
      | inr can ↦ can
    ]

-- the weak objects that are left can be looked at
pub settle-left : {types : Table TypeInfo} {nursery : ℕ} {memory : Memory} {weaks all : List ℕ} → IsInOrder memory → CanFollow types nursery memory weaks all
    → CanSettle types memory (weaks_left nursery (word_at memory.blocks) weaks) all
settle-left {types = types} {nursery = nursery} {memory = memory} {weaks = weaks} {all = all} o c = record {
  objects = c.objects;
  unmoved = c.unmoved;
  there = λ p t. at p t (λ k. IsTrue (is_in k all)) (λ x u s. there-now x (c.followed x u));
  weak = λ p t. at p t (λ k. (info_at types (word_at memory.blocks) k).shape ≡ Weak) (λ x u s. c.weak x u);
  targets = λ p t. at p t (λ k. Follows types memory all (target_at types (word_at memory.blocks) k)) (λ x u s. c.targets x u s);
}
  where
    there-now : (x : ℕ) → IsFollowed types memory all x → IsTrue (is_in (place_now (word_at memory.blocks) x) all)
    there-now x f = elim (eqb_tells x 0) [
      | inl z ↦ elim f [
        | inl u ↦ (let P : ℕ → Type 0 = λ k. IsTrue (is_in k all) in subst P (sym (place_now-self (word_at memory.blocks) x (c.unmoved x u))) u)
        | inr h ↦ absurd (no-zero memory x o h.readable z.1)
      ]
      | inr n ↦ elim f [
        | inl u ↦ (let P : ℕ → Type 0 = λ k. IsTrue (is_in k all) in subst P (sym (place_now-self (word_at memory.blocks) x (c.unmoved x u))) u)
        | inr h ↦ (let P : ℕ → Type 0 = λ k. IsTrue (is_in k all) in subst P (sym (place_now-left (word_at memory.blocks) x n.0 h.marked)) h.there)
      ]
    ]

    at : (p : ℕ) → IsTrue (is_in p (weaks_left nursery (word_at memory.blocks) weaks)) → (P : ℕ → Type 0)
        → ((x : ℕ) → IsTrue (is_in x weaks) → IsTrue (survives nursery (word_at memory.blocks) (place_now (word_at memory.blocks) x)) → P (place_now (word_at memory.blocks) x)) → P p
    at p t P each =
        let part = filter-part (survives nursery (word_at memory.blocks)) (map (place_now (word_at memory.blocks)) weaks) p t in
        let m = mapped-from (place_now (word_at memory.blocks)) p weaks part.0 in
        let Q : ℕ → Type 0 = λ k. IsTrue (survives nursery (word_at memory.blocks) k) in
        subst P (sym m.is) (each m.from m.there (subst Q m.is part.1))
