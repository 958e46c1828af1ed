-- The words of a new object are written one after another.
use Rattle.std.proofs.Common.{◌≡◌, ℕ, ◌+◌, ◌^◌, ◌<◌, ◌≤◌, ◌⊎◌, true, List, [], ◌∷◌, replicate, sym, ap, ◌∙◌, inl, inr, arith}
use Rattle.std.proofs.lemmas.Bool.Decides.{nat_tests}
use Rattle.type_table.specs.declared.info.Shape.{Shape}
use Rattle.type_table.specs.declared.info.Shape.TheVariants.{Fixed, IntArray, RefArray, Weak}
use Rattle.type_table.specs.Words.{words_in}
use Rattle.heap_space.specs.Places.{Placed, has, with_word, with_run, lies_in_one}
use Rattle.heap_space.specs.Memory.{Memory}
use Rattle.heap_space.specs.Order.{IsInOrder}
use Rattle.object_view.specs.Births.{born_rest}
use Rattle.heap_space.proofs.Blocks.{with_run-nil, with_run-step, lies-with_word}
use Rattle.object_view.proofs.SpaceLaws.{lies-at, lies-fits}

-- a part of words that lie in one block lies in it too
pub lies-part : (ps : List Placed) (a n b m : ℕ) → lies_in_one ps a n ≡ true → a ≤ b → b + m ≤ a + n → lies_in_one ps b m ≡ true
lies-part [] a n b m lies l r = lies
lies-part (p ∷ ps) a n b m lies l r = grind (arith, nat_tests, lies-part ps a n b m)

-- the memory with these blocks
abbrev pub with_blocks : Memory → List Placed → Memory
with_blocks m blocks = record m { blocks = blocks }

-- two and three words before a run
pub run-two : (ps : List Placed) (a x y : ℕ) (xs : List ℕ) → with_run (with_word (with_word ps a x) (a + 1) y) (a + 2) xs ≡ with_run ps a (x ∷ (y ∷ xs))
run-two ps a x y xs =
    let e : a + 2 ≡ (a + 1) + 1 = omega arith in
    ap (λ k. with_run (with_word (with_word ps a x) (a + 1) y) k xs) e
    ∙ with_run-step (with_word ps a x) (a + 1) y xs ∙ with_run-step ps a x (y ∷ xs)

pub run-three : (ps : List Placed) (a x y z : ℕ) (xs : List ℕ)
    → with_run (with_word (with_word (with_word ps a x) (a + 1) y) (a + 2) z) (a + 3) xs ≡ with_run ps a (x ∷ (y ∷ (z ∷ xs)))
run-three ps a x y z xs =
    let e : a + 3 ≡ (a + 2) + 1 = omega arith in
    ap (λ k. with_run (with_word (with_word (with_word ps a x) (a + 1) y) (a + 2) z) k xs) e
    ∙ with_run-step (with_word (with_word ps a x) (a + 1) y) (a + 2) z xs ∙ run-two ps a x y (z ∷ xs)

pub words-three : (ps : List Placed) (a x y z : ℕ)
    → with_word (with_word (with_word ps a x) (a + 1) y) (a + 2) z ≡ with_run ps a (x ∷ (y ∷ (z ∷ [])))
words-three ps a x y z =
    sym (with_run-nil (with_word (with_word (with_word ps a x) (a + 1) y) (a + 2) z) (a + 3)) ∙ run-three ps a x y z []

pub two-words : (s : Shape) (len : ℕ) → 2 ≤ words_in s len
two-words (Fixed a b) len = omega arith
two-words IntArray len = omega arith
two-words RefArray len = omega arith
two-words Weak len = omega arith

-- a word is written, and the memory is this one then
abbrev pub Writes : Memory → Memory → ℕ → ℕ → Type 0
Writes old new a x = new ≡ with_blocks old (with_word old.blocks a x)

-- a run of words is written
abbrev pub WritesRun : Memory → Memory → ℕ → List ℕ → Type 0
WritesRun old new a xs = new ≡ with_blocks old (with_run old.blocks a xs)

pub lies-writes : (old new : Memory) (b x a n : ℕ) → Writes old new b x → lies_in_one old.blocks a n ≡ true → lies_in_one new.blocks a n ≡ true
lies-writes old new b x a n e lies = ap (λ m. lies_in_one m.blocks a n) e ∙ lies-with_word old.blocks b x a n ∙ lies

-- header and birth are written, and then the rest
pub writes-two : (m0 m1 m2 m3 : Memory) (a t b : ℕ) (xs ys : List ℕ) → Writes m0 m1 a t → Writes m1 m2 (a + 1) b → WritesRun m2 m3 (a + 2) xs
    → xs ≡ ys → WritesRun m0 m3 a (t ∷ (b ∷ ys))
writes-two m0 m1 m2 m3 a t b xs ys e f g rest =
    g ∙ ap (λ m. with_blocks m (with_run m.blocks (a + 2) xs)) (f ∙ ap (λ m. with_blocks m (with_word m.blocks (a + 1) b)) e)
    ∙ ap (with_blocks m0) (run-two m0.blocks a t b xs) ∙ ap (λ zs. with_blocks m0 (with_run m0.blocks a (t ∷ (b ∷ zs)))) rest

-- one word is a run of one
pub writes-word : (m new : Memory) (a x : ℕ) → Writes m new a x → WritesRun m new a (x ∷ [])
writes-word m new a x e =
    e ∙ ap (with_blocks m) (sym (with_run-nil (with_word m.blocks a x) (a + 1)) ∙ with_run-step m.blocks a x [])

pub writes-more : (m0 m1 m2 : Memory) (a x : ℕ) (xs : List ℕ) → Writes m0 m1 (a + 2) x → WritesRun m1 m2 (a + 3) xs → WritesRun m0 m2 (a + 2) (x ∷ xs)
writes-more m0 m1 m2 a x xs e f =
    let next : a + 3 ≡ (a + 2) + 1 = omega arith in
    f ∙ ap (λ m. with_blocks m (with_run m.blocks (a + 3) xs)) e
    ∙ ap (λ k. with_blocks m0 (with_run (with_word m0.blocks (a + 2) x) k xs)) next ∙ ap (with_blocks m0) (with_run-step m0.blocks (a + 2) x xs)

-- the room of a new object
pub record HasRoom (m : Memory) (a n : ℕ) : Type 0 where
  pub lies : lies_in_one m.blocks a n ≡ true
  pub some : 2 ≤ n
  pub fits : a + n < 2 ^ 63

pub has_room : (m : Memory) (s : Shape) (a len : ℕ) → IsInOrder m → lies_in_one m.blocks a (words_in s len) ≡ true → HasRoom m a (words_in s len)
has_room m s a len o lies = record {
  lies = lies;
  some = two-words s len;
  fits = (lies-fits m a (words_in s len) o (omega (arith, two-words s len)) lies).1;
}

pub room-writes : {old : Memory} {a n : ℕ} (new : Memory) (b x : ℕ) → HasRoom old a n → Writes old new b x → HasRoom new a n
room-writes {old = old} {a = a} {n = n} new b x r e = record { lies = lies-writes old new b x a n e r.lies; some = r.some; fits = r.fits }

pub room-has : {m : Memory} {a n : ℕ} (b : ℕ) → HasRoom m a n → a ≤ b → b < a + n → has m.blocks b ≡ true
room-has {m = m} {a = a} {n = n} b r l k = lies-at m.blocks a n b r.lies l k

pub room-part : {m : Memory} {a n : ℕ} (b k : ℕ) → HasRoom m a n → a ≤ b → b + k ≤ a + n → lies_in_one m.blocks b k ≡ true
room-part {m = m} {a = a} {n = n} b k r l e = lies-part m.blocks a n b k r.lies l e

-- a new array has room for its length and its items
array-size : (s : Shape) (len : ℕ) → (s ≡ IntArray) ⊎ (s ≡ RefArray) → words_in s len ≡ 3 + len
array-size s len (inl e) = ap (λ k. words_in k len) e
array-size s len (inr e) = ap (λ k. words_in k len) e

pub array-rest : (s : Shape) (len x : ℕ) → (s ≡ IntArray) ⊎ (s ≡ RefArray) → born_rest s len x ≡ len ∷ replicate len 0
array-rest s len x (inl e) = ap (λ k. born_rest k len x) e
array-rest s len x (inr e) = ap (λ k. born_rest k len x) e

pub record HasArrayRoom (m : Memory) (a len : ℕ) : Type 0 where
  pub third : has m.blocks (a + 2) ≡ true
  pub items : lies_in_one m.blocks (a + 3) len ≡ true
  pub fits : a + (3 + len) < 2 ^ 63

pub array-room : {m : Memory} {a : ℕ} (s : Shape) (len : ℕ) → HasRoom m a (words_in s len) → (s ≡ IntArray) ⊎ (s ≡ RefArray) → HasArrayRoom m a len
array-room {m = m} {a = a} s len r is =
    let size = array-size s len is in record {
      third = room-has (a + 2) r (omega arith) (omega (arith, size));
      items = room-part (a + 3) len r (omega arith) (omega (arith, size));
      fits = omega (arith, size, r.fits);
    }
