-- Taking a page off its list and putting it on another.
use Rattle.std.proofs.Common.{◌≡◌, ◌≢◌, ℕ, ◌+◌, ◌<◌, inl, inr, List, [], ◌∷◌, ◌++◌, arith, sym, ◌∙◌, ap}
use Rattle.size_pages.specs.PageWords.{Words}
use Rattle.size_pages.specs.PageLists.{EachPlace, IsIn, AreDistinct, first_of_list, last_or, Linked}

pub places_map : (P Q : ℕ → Type 0) → ((x : ℕ) → P x → Q x) → (xs : List ℕ) → EachPlace P xs → EachPlace Q xs
places_map P Q f [] all = tt
places_map P Q f (x ∷ xs) all = (f x all.0, places_map P Q f xs all.1)

pub places_both : (P Q R : ℕ → Type 0) → ((x : ℕ) → P x → Q x → R x) → (xs : List ℕ) → EachPlace P xs → EachPlace Q xs → EachPlace R xs
places_both P Q R f [] p q = tt
places_both P Q R f (x ∷ xs) p q = (f x p.0 q.0, places_both P Q R f xs p.1 q.1)

pub places_without : (P : ℕ → Type 0) (bs rest : List ℕ) (p : ℕ) → EachPlace P (bs ++ p ∷ rest) → EachPlace P (bs ++ rest)
places_without P [] rest p all = all.1
places_without P (b ∷ bs) rest p all = (all.0, places_without P bs rest p all.1)

pub places_at : (P : ℕ → Type 0) (bs rest : List ℕ) (p : ℕ) → EachPlace P (bs ++ p ∷ rest) → P p
places_at P [] rest p all = all.0
places_at P (b ∷ bs) rest p all = places_at P bs rest p all.1

pub distinct_without : (bs rest : List ℕ) (p : ℕ) → AreDistinct (bs ++ p ∷ rest) → AreDistinct (bs ++ rest)
distinct_without [] rest p h = h.1
distinct_without (b ∷ bs) rest p h = (places_without (λ y. b ≢ y) bs rest p h.0, distinct_without bs rest p h.1)

-- p itself is none of the others
pub distinct_other : (bs rest : List ℕ) (p : ℕ) → AreDistinct (bs ++ p ∷ rest) → EachPlace (λ y. y ≢ p) (bs ++ rest)
distinct_other [] rest p h = places_map (λ y. p ≢ y) (λ y. y ≢ p) (λ y n e. n (sym e)) rest h.0
distinct_other (b ∷ bs) rest p h = (places_at (λ y. b ≢ y) bs rest p h.0, distinct_other bs rest p h.1)

-- where p is in the list
pub record Cut (p : ℕ) (xs : List ℕ) : Type 0 where
  pub front : List ℕ
  pub behind : List ℕ
  pub is : xs ≡ front ++ p ∷ behind

pub cut_at : (p : ℕ) (xs : List ℕ) → IsIn p xs → Cut p xs
cut_at p [] h = absurd h
cut_at p (x ∷ xs) h = elim h [
  | inl e ↦ record { front = []; behind = xs; is = ap (λ y. y ∷ xs) (sym e) }
  | inr i ↦ let c = cut_at p xs i in record { front = x ∷ c.front; behind = c.behind; is = ap (λ ys. x ∷ ys) c.is }
]

pub still_in : (q p : ℕ) (bs rest : List ℕ) → q ≢ p → IsIn q (bs ++ p ∷ rest) → IsIn q (bs ++ rest)
still_in q p [] rest n h = elim h [ inl e ↦ absurd (n e) | inr i ↦ i ]
still_in q p (b ∷ bs) rest n h = elim h [ inl e ↦ inl e | inr i ↦ inr (still_in q p bs rest n i) ]

first_differs : (b p : ℕ) (bs rest : List ℕ) → 0 < b → EachPlace (λ y. b ≢ y) (bs ++ p ∷ rest) → b ≢ first_of_list rest
first_differs b p [] [] some all = omega arith
first_differs b p [] (a ∷ rest) some all = all.1.0
first_differs b p (c ∷ bs) rest some all = first_differs b p bs rest some all.1

last_differs : (b c p : ℕ) (bs rest : List ℕ) → EachPlace (λ y. b ≢ y) (c ∷ (bs ++ p ∷ rest)) → b ≢ last_or c bs
last_differs b c p [] rest all = all.0
last_differs b c p (d ∷ bs) rest all = last_differs b d p bs rest all.1

pub linked_behind : (w : Words) (before p : ℕ) (bs rest : List ℕ) → Linked w before (bs ++ p ∷ rest) → w (p + 4) ≡ first_of_list rest
linked_behind w before p [] rest h = h.1
linked_behind w before p (b ∷ bs) rest h = linked_behind w b p bs rest h.2

pub linked_front : (w : Words) (before p : ℕ) (bs rest : List ℕ) → Linked w before (bs ++ p ∷ rest) → w (p + 5) ≡ last_or before bs
linked_front w before p [] rest h = h.0
linked_front w before p (b ∷ bs) rest h = linked_front w b p bs rest h.2

module _ (old new : Words) (p before next : ℕ) where
  -- a page whose links stay, unless it stands beside p
  abbrev pub IsKept : ℕ → Type 0
  IsKept x = (0 < x) × (x ≢ before → new (x + 4) ≡ old (x + 4)) × (x ≢ next → new (x + 5) ≡ old (x + 5))

  pub linked_apart : (at : ℕ) (xs : List ℕ) → EachPlace IsKept xs → EachPlace (λ x. (x ≢ before) × (x ≢ next)) xs → Linked old at xs → Linked new at xs
  linked_apart at [] kept far h = tt
  linked_apart at (x ∷ xs) kept far h =
      (kept.0.2 far.0.1 ∙ h.0, kept.0.1 far.0.0 ∙ h.1, linked_apart x xs kept.1 far.1 h.2)

  pub linked_without : (at : ℕ) (bs rest : List ℕ) → Linked old at (bs ++ p ∷ rest) → EachPlace IsKept (bs ++ rest) → AreDistinct (bs ++ p ∷ rest) → EachPlace (λ x. at ≢ x) (bs ++ p ∷ rest) → before ≡ last_or at bs → next ≡ first_of_list rest → (before ≢ 0 → new (before + 4) ≡ next) → (next ≢ 0 → new (next + 5) ≡ before) → Linked new at (bs ++ rest)
  linked_without at [] [] h kept d far is_before is_next forth back = tt
  linked_without at [] (a ∷ rest) h kept d far is_before is_next forth back =
      let ne : next ≢ 0 = let some : 0 < a = kept.0.0 in omega arith in
      let away : a ≢ before = λ e. far.1.0 (sym (e ∙ is_before)) in (
        ap (λ y. new (y + 5)) (sym is_next) ∙ back ne ∙ is_before,
        kept.0.1 away ∙ h.2.1,
        linked_apart a rest kept.1
            (places_both (λ y. at ≢ y) (λ y. a ≢ y) (λ x. (x ≢ before) × (x ≢ next)) (λ x n m. (λ e. n (sym (e ∙ is_before)), λ e. m (sym (e ∙ is_next)))) rest far.1.1 d.1.0)
            h.2.2,
      )
  linked_without at (b ∷ []) rest h kept d far is_before is_next forth back =
      let some : 0 < b = kept.0.0 in
      let ne : before ≢ 0 = omega arith in (
        kept.0.2 (λ e. first_differs b p [] rest some d.0 (e ∙ is_next)) ∙ h.0,
        ap (λ y. new (y + 4)) (sym is_before) ∙ forth ne ∙ is_next,
        linked_without b [] rest h.2 kept.1 d.1 d.0 is_before is_next forth back,
      )
  linked_without at (b ∷ (c ∷ bs)) rest h kept d far is_before is_next forth back =
      let some : 0 < b = kept.0.0 in (
        kept.0.2 (λ e. first_differs b p (c ∷ bs) rest some d.0 (e ∙ is_next)) ∙ h.0,
        kept.0.1 (λ e. last_differs b c p bs rest d.0 (e ∙ is_before)) ∙ h.1,
        linked_without b (c ∷ bs) rest h.2 kept.1 d.1 d.0 is_before is_next forth back,
      )
