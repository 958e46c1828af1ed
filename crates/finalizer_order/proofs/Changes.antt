-- First words that change, and what is left of a memory.
use Rattle.std.proofs.Common.{◌≡◌, ◌≢◌, ℕ, ◌-◌, Bool, true, false, IsTrue, if◌then◌else◌, List, [], ◌∷◌, ◌++◌, set, refl, sym, ap, ap₂, ◌∙◌, subst, inl, inr, arith}
use Rattle.std.proofs.lemmas.Bool.{cases_Bool}
use Rattle.std.proofs.lemmas.Bool.Decides.{eqb_tells}
use Rattle.std.proofs.lemmas.List.{set-set, set_comm}
use Rattle.heap_space.specs.Places.{Placed, covers, has, word_at, written, with_word, lies_in_one}
use Rattle.heap_space.proofs.Blocks.{has-with_word, word_at-elsewhere, word_at-here, word_at-none, lies-with_word, covers-written, covers-inside}
use Rattle.object_model.specs.Sets.{is_in}
use Rattle.object_model.proofs.Members.{is_in-head, is_in-tail, is_in-cases, is_in-nil}
use Rattle.finalizer_order.specs.Changes.{changed_at}

pub has-changed : (f : ℕ → ℕ) (ps : List ℕ) (bs : List Placed) (a : ℕ) → has (changed_at f ps bs) a ≡ has bs a
has-changed f [] bs a = refl
has-changed f (p ∷ ps) bs a = has-changed f ps (with_word bs p (f (word_at bs p))) a ∙ has-with_word bs p (f (word_at bs p)) a

pub lies-changed : (f : ℕ → ℕ) (ps : List ℕ) (bs : List Placed) (a n : ℕ) → lies_in_one (changed_at f ps bs) a n ≡ lies_in_one bs a n
lies-changed f [] bs a n = refl
lies-changed f (p ∷ ps) bs a n = lies-changed f ps (with_word bs p (f (word_at bs p))) a n ∙ lies-with_word bs p (f (word_at bs p)) a n

pub changed-append : (f : ℕ → ℕ) (ps qs : List ℕ) (bs : List Placed) → changed_at f (ps ++ qs) bs ≡ changed_at f qs (changed_at f ps bs)
changed-append f [] qs bs = refl
changed-append f (p ∷ ps) qs bs = changed-append f ps qs (with_word bs p (f (word_at bs p)))

-- what lasts through the change lasts through one write of it
write-lasts : (P : ℕ → Type 0) (f : ℕ → ℕ) → ((w : ℕ) → P w → P (f w)) → (bs : List Placed) (p a : ℕ) → P (word_at bs a) → P (word_at (with_word bs p (f (word_at bs p))) a)
write-lasts P f lasts bs p a h = elim (eqb_tells a p) [
  | inl e ↦ elim (cases_Bool (has bs p)) [
    | inl there ↦
        let is : word_at (with_word bs p (f (word_at bs p))) a ≡ f (word_at bs a) =
        ap (word_at (with_word bs p (f (word_at bs p)))) e.1 ∙ word_at-here bs p (f (word_at bs p)) there ∙ ap (λ k. f (word_at bs k)) (sym e.1) in
        subst P (sym is) (lasts (word_at bs a) h)
    | inr none ↦
        let out : has bs a ≡ false = ap (has bs) e.1 ∙ none in
        subst P (word_at-none bs a out ∙ sym (word_at-none (with_word bs p (f (word_at bs p))) a (has-with_word bs p (f (word_at bs p)) a ∙ out))) h
  ]
  | inr e ↦ subst P (sym (word_at-elsewhere bs p (f (word_at bs p)) a e.1)) h
]

pub lasting : (P : ℕ → Type 0) (f : ℕ → ℕ) → ((w : ℕ) → P w → P (f w)) → (ps : List ℕ) (bs : List Placed) (a : ℕ) → P (word_at bs a) → P (word_at (changed_at f ps bs) a)
lasting P f lasts [] bs a h = h
lasting P f lasts (p ∷ ps) bs a h = lasting P f lasts ps (with_word bs p (f (word_at bs p))) a (write-lasts P f lasts bs p a h)

-- what the change leaves of each word is left at each place
pub keeps-changed : {X : Type 0} → (t : ℕ → X) (f : ℕ → ℕ) → ((w : ℕ) → t (f w) ≡ t w) → (ps : List ℕ) (bs : List Placed) (a : ℕ) → t (word_at (changed_at f ps bs) a) ≡ t (word_at bs a)
keeps-changed t f same ps bs a = lasting (λ w. t w ≡ t (word_at bs a)) f (λ w h. same w ∙ h) ps bs a refl

pub not_head : (a p : ℕ) (ps : List ℕ) → is_in a (p ∷ ps) ≡ false → a ≢ p
not_head a p ps n e = let t : is_in a (p ∷ ps) ≡ true = subst (λ (k : ℕ). IsTrue (is_in k (p ∷ ps))) (sym e) (is_in-head p ps) in let no : ⊥ = cc in no

pub not_tail : (a p : ℕ) (ps : List ℕ) → is_in a (p ∷ ps) ≡ false → is_in a ps ≡ false
not_tail a p ps n = elim (cases_Bool (is_in a ps)) [
  | inl t ↦ absurd (let more : is_in a (p ∷ ps) ≡ true = is_in-tail a p ps t in let no : ⊥ = cc in no)
  | inr f ↦ f
]

pub untouched : (f : ℕ → ℕ) (ps : List ℕ) (bs : List Placed) (a : ℕ) → is_in a ps ≡ false → word_at (changed_at f ps bs) a ≡ word_at bs a
untouched f [] bs a n = refl
untouched f (p ∷ ps) bs a n =
    untouched f ps (with_word bs p (f (word_at bs p))) a (not_tail a p ps n) ∙ word_at-elsewhere bs p (f (word_at bs p)) a (not_head a p ps n)

-- and what the change gives is there where it was made
pub touched : (P : ℕ → Type 0) (f : ℕ → ℕ) → ((w : ℕ) → P (f w)) → (ps : List ℕ) (bs : List Placed) (a : ℕ) → IsTrue (is_in a ps) → has bs a ≡ true → P (word_at (changed_at f ps bs) a)
touched P f gives [] bs a t h = absurd (is_in-nil a t)
touched P f gives (p ∷ ps) bs a t h = elim (is_in-cases a p ps t) [
  | inl e ↦
      let here : word_at (with_word bs p (f (word_at bs p))) a ≡ f (word_at bs p) =
      ap (word_at (with_word bs p (f (word_at bs p)))) e ∙ word_at-here bs p (f (word_at bs p)) (ap (has bs) (sym e) ∙ h) in
      lasting P f (λ w _. gives w) ps (with_word bs p (f (word_at bs p))) a (subst P (sym here) (gives (word_at bs p)))
  | inr u ↦ touched P f gives ps (with_word bs p (f (word_at bs p))) a u (has-with_word bs p (f (word_at bs p)) a ∙ h)
]

-- two writes at one place, and at two

abbrev block_of : ℕ → List ℕ → Placed
block_of base words = record { base = base; words = words }

written-again : (p u v : ℕ) (b : Placed) → written p v (written p u b) ≡ written p v b
written-again p u v b = go (covers b p) refl
  where
    go : (c : Bool) → covers b p ≡ c → written p v (written p u b) ≡ written p v b
    go true c =
        let again : covers (written p u b) p ≡ true = covers-written p u p b ∙ c in
        ap (λ (ws : List ℕ). block_of b.base ws)
        (ap (λ (t : Bool). if t then set (written p u b).words (p - b.base) v else (written p u b).words) again
        ∙ ap (λ (t : Bool). set (if t then set b.words (p - b.base) u else b.words) (p - b.base) v) c
        ∙ set-set b.words (p - b.base) u v
        ∙ sym (ap (λ (t : Bool). if t then set b.words (p - b.base) v else b.words) c))
    go false c =
        let again : covers (written p u b) p ≡ false = covers-written p u p b ∙ c in
        ap (λ (ws : List ℕ). block_of b.base ws)
        (ap (λ (t : Bool). if t then set (written p u b).words (p - b.base) v else (written p u b).words) again
        ∙ ap (λ (t : Bool). if t then set b.words (p - b.base) u else b.words) c
        ∙ sym (ap (λ (t : Bool). if t then set b.words (p - b.base) v else b.words) c))

pub with_word-again : (bs : List Placed) (p u v : ℕ) → with_word (with_word bs p u) p v ≡ with_word bs p v
with_word-again [] p u v = refl
with_word-again (b ∷ bs) p u v = ap₂ (λ (x : Placed) (xs : List Placed). x ∷ xs) (written-again p u v b) (with_word-again bs p u v)

written-swapped : (p q u v : ℕ) (b : Placed) → p ≢ q → written q v (written p u b) ≡ written p u (written q v b)
written-swapped p q u v b ne = go (covers b p) (covers b q) refl refl
  where
    inner : (t s : Bool) → covers b p ≡ t → covers b q ≡ s → List ℕ
    inner t s c d = if s then set (if t then set b.words (p - b.base) u else b.words) (q - b.base) v else (if t then set b.words (p - b.base) u else b.words)

    left : (t s : Bool) (c : covers b p ≡ t) (d : covers b q ≡ s) → (written q v (written p u b)).words ≡ inner t s c d
    left t s c d =
        ap (λ (k : Bool). if k then set (written p u b).words (q - b.base) v else (written p u b).words) (covers-written p u q b ∙ d)
        ∙ ap (λ (k : Bool). if s then set (if k then set b.words (p - b.base) u else b.words) (q - b.base) v else (if k then set b.words (p - b.base) u else b.words)) c

    right : (t s : Bool) (c : covers b p ≡ t) (d : covers b q ≡ s) → (written p u (written q v b)).words
        ≡ (if t then set (if s then set b.words (q - b.base) v else b.words) (p - b.base) u else (if s then set b.words (q - b.base) v else b.words))
    right t s c d =
        ap (λ (k : Bool). if k then set (written q v b).words (p - b.base) u else (written q v b).words) (covers-written q v p b ∙ c)
        ∙ ap (λ (k : Bool). if t then set (if k then set b.words (q - b.base) v else b.words) (p - b.base) u else (if k then set b.words (q - b.base) v else b.words)) d

    middle : (t s : Bool) (c : covers b p ≡ t) (d : covers b q ≡ s) → inner t s c d
        ≡ (if t then set (if s then set b.words (q - b.base) v else b.words) (p - b.base) u else (if s then set b.words (q - b.base) v else b.words))
    middle true true c d =
        let x = covers-inside b p c in let y = covers-inside b q d in
        set_comm b.words (p - b.base) (q - b.base) u v (λ e. ne (omega (arith, x.0, y.0, e)))
    middle true false c d = refl
    middle false true c d = refl
    middle false false c d = refl

    go : (t s : Bool) → covers b p ≡ t → covers b q ≡ s → written q v (written p u b) ≡ written p u (written q v b)
    go t s c d = ap (λ (ws : List ℕ). block_of b.base ws) (left t s c d ∙ middle t s c d ∙ sym (right t s c d))

pub with_word-swapped : (bs : List Placed) (p q u v : ℕ) → p ≢ q → with_word (with_word bs p u) q v ≡ with_word (with_word bs q v) p u
with_word-swapped [] p q u v ne = refl
with_word-swapped (b ∷ bs) p q u v ne = ap₂ (λ (x : Placed) (xs : List Placed). x ∷ xs) (written-swapped p q u v b ne) (with_word-swapped bs p q u v ne)

-- a change that a later one makes no difference to, at a place where the later one is made
pub absorbs_one : (g f : ℕ → ℕ) → ((w : ℕ) → g (f w) ≡ g w) → (ps : List ℕ) (bs : List Placed) (p : ℕ) → IsTrue (is_in p ps) → has bs p ≡ true
    → changed_at g ps (with_word bs p (f (word_at bs p))) ≡ changed_at g ps bs
absorbs_one g f same [] bs p t h = absurd (is_in-nil p t)
absorbs_one g f same (q ∷ ps) bs p t h = elim (eqb_tells p q) [
  | inl e ↦
      let now : List Placed = with_word bs p (f (word_at bs p)) in
      let here : word_at now q ≡ f (word_at bs q) = ap (word_at now) (sym e.1) ∙ word_at-here bs p (f (word_at bs p)) h ∙ ap (λ k. f (word_at bs k)) e.1 in
      ap (changed_at g ps)
      (ap (with_word now q) (ap g here ∙ same (word_at bs q))
      ∙ ap (λ (k : ℕ). with_word (with_word bs k (f (word_at bs p))) q (g (word_at bs q))) e.1
      ∙ with_word-again bs q (f (word_at bs p)) (g (word_at bs q)))
  | inr e ↦
      let now : List Placed = with_word bs p (f (word_at bs p)) in
      let later : List Placed = with_word bs q (g (word_at bs q)) in
      let u : IsTrue (is_in p ps) = elim (is_in-cases p q ps t) [ inl is ↦ absurd (e.1 is) | inr u ↦ u ] in
      ap (changed_at g ps)
      (ap (λ (w : ℕ). with_word now q (g w)) (word_at-elsewhere bs p (f (word_at bs p)) q (λ is. e.1 (sym is)))
      ∙ with_word-swapped bs p q (f (word_at bs p)) (g (word_at bs q)) e.1
      ∙ ap (λ (w : ℕ). with_word later p (f w)) (sym (word_at-elsewhere bs q (g (word_at bs q)) p e.1)))
      ∙ absorbs_one g f same ps later p u (has-with_word bs q (g (word_at bs q)) p ∙ h)
]

pub absorbs : (g f : ℕ → ℕ) → ((w : ℕ) → g (f w) ≡ g w) → (ps qs : List ℕ) (bs : List Placed)
    → ((q : ℕ) → IsTrue (is_in q qs) → IsTrue (is_in q ps)) → ((q : ℕ) → IsTrue (is_in q qs) → has bs q ≡ true)
    → changed_at g ps (changed_at f qs bs) ≡ changed_at g ps bs
absorbs g f same ps [] bs part there = refl
absorbs g f same ps (q ∷ qs) bs part there =
    let now : List Placed = with_word bs q (f (word_at bs q)) in
    absorbs g f same ps qs now (λ r t. part r (is_in-tail r q qs t)) (λ r t. has-with_word bs q (f (word_at bs q)) r ∙ there r (is_in-tail r q qs t))
    ∙ absorbs_one g f same ps bs q (part q (is_in-head q qs)) (there q (is_in-head q qs))

-- two changes that agree on the words that they meet
pub agree : (f g : ℕ → ℕ) (P : ℕ → Type 0) → ((w : ℕ) → P w → f w ≡ g w) → ((w : ℕ) → P w → P (g w)) → (ps : List ℕ) (bs : List Placed)
    → ((p : ℕ) → IsTrue (is_in p ps) → P (word_at bs p)) → changed_at f ps bs ≡ changed_at g ps bs
agree f g P same lasts [] bs holds = refl
agree f g P same lasts (p ∷ ps) bs holds =
    ap (λ (w : ℕ). changed_at f ps (with_word bs p w)) (same (word_at bs p) (holds p (is_in-head p ps)))
    ∙ agree f g P same lasts ps (with_word bs p (g (word_at bs p))) (λ q t. write-lasts P g lasts bs p q (holds q (is_in-tail q p ps t)))
