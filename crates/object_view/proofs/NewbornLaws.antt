-- A new object is read as it is born, and is held beside the others.
use Rattle.std.proofs.Common.{◌≡◌, ◌≢◌, ℕ, zero, suc, ◌+◌, ◌%◌, ◌<◌, ◌≤◌, ◌⊎◌, true, IsTrue, ◌==◌, if◌then◌else◌, List, [], ◌∷◌, ◌++◌, Some, None, length, map, get_or, replicate, refl, sym, ap, ap₂, ◌∙◌, subst, inl, inr, arith, mod-eq_of_lt}
use Rattle.std.specs.List.{All}
use Rattle.std.proofs.lemmas.List.{get_or-replicate, length-replicate}
use Rattle.std.proofs.lemmas.Bool.{cases_lt}
use Rattle.type_table.specs.declared.info.Shape.{Shape}
use Rattle.type_table.specs.declared.info.Shape.TheVariants.{Fixed, IntArray, RefArray, Weak}
use Rattle.type_table.specs.declared.info.TypeInfo.{TypeInfo}
use Rattle.type_table.specs.Table.{Table, value_at}
use Rattle.type_table.specs.Words.{words_in}
use Rattle.object_model.specs.Layout.{Layout, layout_of}
use Rattle.object_model.specs.Object.{Object}
use Rattle.object_model.specs.Newborn.{Request, newborn}
use Rattle.object_model.specs.Sets.{is_in}
use Rattle.object_model.specs.ObjectWords.{updated, renamed, type_id_at, info_or_weak, info_at, layout_at, words_at, object_of, object_from, target_of, Covers}
use Rattle.object_model.specs.Holds.{HoldsObjects, IsPointer}
use Rattle.heap_space.specs.Places.{Placed, word_at, with_run, lies_in_one}
use Rattle.heap_space.proofs.Blocks.{lies-each, word_at-in_run, word_at-before_run, word_at-after_run}
use Rattle.object_view.specs.Births.{born_words}
use Rattle.object_view.proofs.WordLaws.{updated-here, updated-other, words_from-zeros}
use Rattle.object_model.proofs.Members.{is_in-before}
use Rattle.object_view.proofs.LayoutLaws.{laid_out, SameAt}
use Rattle.object_view.proofs.InitLaws.{two-words}
use Rattle.object_view.proofs.BirthLaws.{Adds, added_holds}

-- The words v are the words w but for these from a on.
pub record WithRun (v w : ℕ → ℕ) (a : ℕ) (xs : List ℕ) : Type 0 where
  pub here : (k : ℕ) → k < length xs → v (a + k) ≡ get_or xs k 0
  pub elsewhere : (b : ℕ) → (b < a) ⊎ (a + length xs ≤ b) → v b ≡ w b

run-elsewhere : (ps : List Placed) (a : ℕ) (xs : List ℕ) (b : ℕ) → (b < a) ⊎ (a + length xs ≤ b) → word_at (with_run ps a xs) b ≡ word_at ps b
run-elsewhere ps a xs b (inl l) = word_at-before_run ps a xs b l
run-elsewhere ps a xs b (inr l) = word_at-after_run ps a xs b l

-- a memory with a run of words written in one block
pub run-written : (ps : List Placed) (a : ℕ) (xs : List ℕ) → lies_in_one ps a (length xs) ≡ true → WithRun (word_at (with_run ps a xs)) (word_at ps) a xs
run-written ps a xs lies = record {
  here = λ k l. word_at-in_run ps a xs k l (λ j m. lies-each ps a (length xs) j lies m);
  elsewhere = λ b out. run-elsewhere ps a xs b out;
}

pub length-born_words : (s : Shape) (head birth len x : ℕ) → length (born_words s head birth len x) ≡ words_in s len
length-born_words (Fixed i r) head birth len x = omega (arith, length-replicate {A = ℕ} (i + r) 0)
length-born_words IntArray head birth len x = omega (arith, length-replicate {A = ℕ} len 0)
length-born_words RefArray head birth len x = omega (arith, length-replicate {A = ℕ} len 0)
length-born_words Weak head birth len x = refl

-- word number k of a new object
born-at : {v w : ℕ → ℕ} {a : ℕ} {xs : List ℕ} (k x y : ℕ) → WithRun v w a xs → k < length xs → x ≡ a + k → get_or xs k 0 ≡ y → v x ≡ y
born-at {v = v} k x y run l e is = ap v e ∙ run.here k l ∙ is

nils : (name : ℕ → ℕ) (n : ℕ) → map (renamed name) (replicate n 0) ≡ replicate n None
nils name zero = refl
nils name (suc n) = ap (λ xs. None ∷ xs) (nils name n)

-- what is asked of a birth without a target
abbrev pub request_of : ℕ → ℕ → ℕ → Request
request_of slot t len = record { slot = slot; type_id = t; items = len; target = None }

-- and of one where a weak object's target is at the place x
abbrev pub request_for : (ℕ → ℕ) → ℕ → ℕ → ℕ → Shape → ℕ → Request
request_for name slot t len shape x = record { slot = slot; type_id = t; items = len; target = target_of shape (renamed name x) }

no-target : (s : Shape) → target_of s None ≡ None
no-target (Fixed i r) = refl
no-target IntArray = refl
no-target RefArray = refl
no-target Weak = refl

pub request-plain : (name : ℕ → ℕ) (slot t len : ℕ) (s : Shape) → request_for name slot t len s 0 ≡ request_of slot t len
request-plain name slot t len s = ap (λ o. record { slot = slot; type_id = t; items = len; target = o }) (no-target s)

pub request-weak : (name : ℕ → ℕ) (slot t len : ℕ) (s : Shape) (x : ℕ) → s ≡ Weak
    → request_for name slot t len s x ≡ record { slot = slot; type_id = t; items = len; target = renamed name x }
request-weak name slot t len s x e = ap (λ k. request_for name slot t len k x) e

-- a new object is read as born, it takes its words, and its pointers are nil but for a target
pub record IsBorn (info : TypeInfo) (name v : ℕ → ℕ) (a slot t birth len x : ℕ) (l : Layout) : Type 0 where
  pub is : object_of info t birth name v l ≡ newborn birth info (request_for name slot t len info.shape x)
  pub words : l.words ≡ words_in info.shape len
  pub each : (j : ℕ) → j < l.pointer_count → (v (l.ref_start + j) ≡ 0) ⊎ (v (l.ref_start + j) ≡ x)

abbrev info_with : Shape → TypeInfo → TypeInfo
info_with shape info = record info { shape = shape }

born-shape : (s : Shape) (info : TypeInfo) (name v w : ℕ → ℕ) (a slot t head birth len target : ℕ) → WithRun v w a (born_words s head birth len target)
    → IsBorn (info_with s info) name v a slot t birth len target (layout_of s a (v (a + 2)))
born-shape (Fixed i r) info name v w a slot t head birth len to run =
    let ws : List ℕ = born_words (Fixed i r) head birth len to in
    let zero-at : (x k : ℕ) → k < i + r → x ≡ a + suc (suc k) → v x ≡ 0 =
    λ x k l e. born-at (suc (suc k)) x 0 run (omega (arith, l, length-replicate {A = ℕ} (i + r) 0)) e (get_or-replicate (i + r) k 0 0 l) in
    record {
      is = rw (
        words_from-zeros v (a + 2) i (λ k l. zero-at (a + 2 + k) k (omega (arith, l)) (omega arith)),
        words_from-zeros v (a + 2 + i) r (λ k l. zero-at (a + 2 + i + k) (i + k) (omega (arith, l)) (omega arith)),
        nils name r,
      ) refl;
      words = refl;
      each = λ j l. inl (zero-at (a + 2 + i + j) (i + j) (omega (arith, l)) (omega arith));
    }
born-shape IntArray info name v w a slot t head birth len to run =
    let count : v (a + 2) ≡ len = born-at 2 (a + 2) len run (omega arith) refl refl in
    let zero-at : (x k : ℕ) → k < len → x ≡ a + suc (suc (suc k)) → v x ≡ 0 =
    λ x k l e. born-at (suc (suc (suc k))) x 0 run (omega (arith, l, length-replicate {A = ℕ} len 0)) e (get_or-replicate len k 0 0 l) in
    record {
      is = rw (count, words_from-zeros v (a + 3) len (λ k l. zero-at (a + 3 + k) k l (omega arith))) refl;
      words = ap (λ n. 3 + n) count;
      each = λ j l. absurd (omega (arith, l));
    }
born-shape RefArray info name v w a slot t head birth len to run =
    let count : v (a + 2) ≡ len = born-at 2 (a + 2) len run (omega arith) refl refl in
    let zero-at : (x k : ℕ) → k < len → x ≡ a + suc (suc (suc k)) → v x ≡ 0 =
    λ x k l e. born-at (suc (suc (suc k))) x 0 run (omega (arith, l, length-replicate {A = ℕ} len 0)) e (get_or-replicate len k 0 0 l) in
    record {
      is = rw (count, words_from-zeros v (a + 3) len (λ k l. zero-at (a + 3 + k) k l (omega arith)), nils name len) refl;
      words = ap (λ n. 3 + n) count;
      each = λ j l. inl (zero-at (a + 3 + j) j (omega (arith, count, l)) (omega arith));
    }
born-shape Weak info name v w a slot t head birth len to run =
    let target : v (a + 2) ≡ to = born-at 2 (a + 2) to run (omega arith) refl refl in
    record {
      is = rw target refl;
      words = refl;
      each = λ j l. inr (ap v (omega (arith, l)) ∙ target);
    }

-- a header word of the type
pub record IsHeaderOf (t head : ℕ) : Type 0 where
  pub typed : head % 65536 ≡ t
  pub small : head < 67108864

-- one without flags
pub header-plain : (t : ℕ) → t < 65536 → IsHeaderOf t t
header-plain t l = record { typed = mod-eq_of_lt l; small = omega (arith, l) }

-- a new object at a: its type is in the table, and its words are those of its birth
pub record BornAt (types : Table TypeInfo) (v w : ℕ → ℕ) (a t head birth len x : ℕ) (info : TypeInfo) : Type 0 where
  pub known : value_at types t ≡ Some info
  pub header : IsHeaderOf t head
  pub run : WithRun v w a (born_words info.shape head birth len x)

pub born-first : {types : Table TypeInfo} {v w : ℕ → ℕ} {a t head birth len x : ℕ} {info : TypeInfo} → BornAt types v w a t head birth len x info → v a ≡ head
born-first {a = a} {head = head} {birth = birth} {len = len} {x = x} {info = info} b =
    born-at 0 a head b.run (omega (arith, length-born_words info.shape head birth len x, two-words info.shape len)) (omega arith) refl

pub born-second : {types : Table TypeInfo} {v w : ℕ → ℕ} {a t head birth len x : ℕ} {info : TypeInfo} → BornAt types v w a t head birth len x info → v (a + 1) ≡ birth
born-second {a = a} {head = head} {birth = birth} {len = len} {x = x} {info = info} b =
    born-at 1 (a + 1) birth b.run (omega (arith, length-born_words info.shape head birth len x, two-words info.shape len)) refl refl

pub born-type : {types : Table TypeInfo} {v w : ℕ → ℕ} {a t head birth len x : ℕ} {info : TypeInfo} → BornAt types v w a t head birth len x info → type_id_at v a ≡ t
born-type b = ap (λ k. k % 65536) (born-first b) ∙ b.header.typed

pub born-info : {types : Table TypeInfo} {v w : ℕ → ℕ} {a t head birth len x : ℕ} {info : TypeInfo} → BornAt types v w a t head birth len x info → info_at types v a ≡ info
born-info {types = types} b = ap (λ k. info_or_weak (value_at types k)) (born-type b) ∙ ap info_or_weak b.known

-- it is read as it is born
pub record IsBornAt (types : Table TypeInfo) (name v : ℕ → ℕ) (a slot t birth len x : ℕ) (info : TypeInfo) : Type 0 where
  pub is : object_from types name v a ≡ newborn birth info (request_for name slot t len info.shape x)
  pub words : words_at types v a ≡ words_in info.shape len
  pub each : (j : ℕ) → j < (layout_at types v a).pointer_count → (v ((layout_at types v a).ref_start + j) ≡ 0) ⊎ (v ((layout_at types v a).ref_start + j) ≡ x)

pub born-is : {types : Table TypeInfo} {v w : ℕ → ℕ} {a t head birth len x : ℕ} {info : TypeInfo} (name : ℕ → ℕ) (slot : ℕ)
    → BornAt types v w a t head birth len x info → IsBornAt types name v a slot t birth len x info
unfolding object_from layout_at
born-is {types = types} {v = v} {w = w} {a = a} {t = t} {head = head} {birth = birth} {len = len} {x = x} {info = info} name slot b =
    let at : IsBorn info name v a slot t birth len x (layout_of info.shape a (v (a + 2))) = born-shape info.shape info name v w a slot t head birth len x b.run in
    let P : TypeInfo → Type 0 = λ k. (object_of k t birth name v (layout_of k.shape a (v (a + 2))) ≡ newborn birth info (request_for name slot t len info.shape x))
    × ((layout_of k.shape a (v (a + 2))).words ≡ words_in info.shape len)
    × ((j : ℕ) → j < (layout_of k.shape a (v (a + 2))).pointer_count
    → (v ((layout_of k.shape a (v (a + 2))).ref_start + j) ≡ 0) ⊎ (v ((layout_of k.shape a (v (a + 2))).ref_start + j) ≡ x)) in
    let there = subst P (sym (born-info b)) (at.is, at.words, at.each) in
    record {
      is = ap₂ (λ k n. object_of (info_at types v a) k n name v (layout_of (info_at types v a).shape a (v (a + 2)))) (born-type b) (born-second b) ∙ there.0;
      words = there.1;
      each = there.2;
    }

-- Free words for a new object: those of no other, from a place that no reference has.
pub record IsFree (types : Table TypeInfo) (w : ℕ → ℕ) (met places : List ℕ) (a n : ℕ) : Type 0 where
  pub above : 1 ≤ a
  pub apart : (q at : ℕ) → IsTrue (is_in q places) → Covers types w q at → a ≤ at → at < a + n → ⊥
  pub unmet : (x : ℕ) → IsTrue (is_in x met) → x ≢ a

-- a place that no object covers is none of theirs
pub free-unmet : (types : Table TypeInfo) (w : ℕ → ℕ) (places : List ℕ) (a n : ℕ) → 0 < n
    → ((q at : ℕ) → IsTrue (is_in q places) → Covers types w q at → a ≤ at → at < a + n → ⊥)
    → (x : ℕ) → IsTrue (is_in x places) → x ≢ a
free-unmet types w places a n some apart x t e =
    apart x x t (omega arith, omega (arith, (laid_out types w x).header)) (omega (arith, e)) (omega (arith, e, some))

pub more-pointers : (met : List ℕ) (a x : ℕ) → IsPointer met x → IsPointer (met ++ a ∷ []) x
more-pointers met a x (inl e) = inl e
more-pointers met a x (inr t) = inr (is_in-before met a x t)

-- names stay where references may lead, and so do lists of what they lead to
pub names-agree : {types : Table TypeInfo} {w : ℕ → ℕ} {met places : List ℕ} {a n : ℕ} (name : ℕ → ℕ) (birth x : ℕ)
    → IsFree types w met places a n → IsPointer met x → renamed (updated name a birth) x ≡ renamed name x
names-agree name birth x free (inl e) = rw e refl
names-agree {a = a} name birth x free (inr t) = ap (λ b. if x == 0 then None else Some b) (updated-other name a birth x (free.unmet x t))

-- so does what is asked of a birth
pub request-names : {types : Table TypeInfo} {w : ℕ → ℕ} {met places : List ℕ} {a n : ℕ} (name : ℕ → ℕ) (birth slot t len : ℕ) (s : Shape) (x : ℕ)
    → IsFree types w met places a n → IsPointer met x → request_for (updated name a birth) slot t len s x ≡ request_for name slot t len s x
request-names name birth slot t len s x free is =
    ap (λ o. record { slot = slot; type_id = t; items = len; target = target_of s o }) (names-agree name birth x free is)

pub names-list : {types : Table TypeInfo} {w : ℕ → ℕ} {met places : List ℕ} {a n : ℕ} (name : ℕ → ℕ) (birth : ℕ) (xs : List ℕ)
    → IsFree types w met places a n → All (IsPointer met) xs → map (renamed (updated name a birth)) xs ≡ map (renamed name) xs
names-list name birth [] free all = refl
names-list name birth (x ∷ xs) free all =
    ap₂ (λ y ys. y ∷ ys) (names-agree name birth x free (all 0 0 (omega arith))) (names-list name birth xs free (λ k d l. all (suc k) d (omega (arith, l))))

not-born : {types : Table TypeInfo} {w : ℕ → ℕ} {met places : List ℕ} {a n : ℕ} (q : ℕ) → IsFree types w met places a n → 0 < n
    → IsTrue (is_in q places) → q ≢ a
not-born {types = types} {w = w} {places = places} {a = a} {n = n} q free some t = free-unmet types w places a n some free.apart q t

outside : (a n at size : ℕ) → size ≡ n → (a ≤ at → at < a + n → ⊥) → (at < a) ⊎ (a + size ≤ at)
outside a n at size e not = elim (cases_lt at a) [
  | inl below ↦ inl below
  | inr above ↦ elim (cases_lt at (a + n)) [
    | inl inside ↦ absurd (not above inside)
    | inr behind ↦ inr (omega (arith, e, behind))
  ]
]

born-rest : {types : Table TypeInfo} {v w : ℕ → ℕ} {met places : List ℕ} {a t head birth len x : ℕ} {info : TypeInfo} (q : ℕ)
    → IsFree types w met places a (words_in info.shape len) → BornAt types v w a t head birth len x info → IsTrue (is_in q places) → SameAt types v w q
born-rest {types = types} {v = v} {w = w} {a = a} {head = head} {birth = birth} {len = len} {x = x} {info = info} q free b u =
    let size = length-born_words info.shape head birth len x in record {
      same = λ at l r. b.run.elsewhere at (outside a (words_in info.shape len) at (length (born_words info.shape head birth len x)) size (λ m n. free.apart q at u (l, r) m n));
    }

born-adds : {types : Table TypeInfo} {v w name : ℕ → ℕ} {met places : List ℕ} {a t head birth len x : ℕ} {info : TypeInfo}
    → IsFree types w met places a (words_in info.shape len) → BornAt types v w a t head birth len x info
    → ((q : ℕ) → IsTrue (is_in q places) → name q ≢ birth) → IsPointer (met ++ a ∷ []) x
    → Adds types v w met (met ++ a ∷ []) places name (updated name a birth) a
born-adds {types = types} {v = v} {w = w} {name = name} {met = met} {places = places} {a = a} {t = t} {head = head} {birth = birth} {len = len} {x = x} {info = info} free b fresh is =
    let born : IsBornAt types name v a 0 t birth len x info = born-is name 0 b in
    let P : ℕ → Type 0 = λ k. IsPointer (met ++ a ∷ []) k in
    let some : 0 < words_in info.shape len = omega (arith, two-words info.shape len) in
    let names : (q : ℕ) → IsTrue (is_in q places) → updated name a birth q ≡ name q = λ q u. updated-other name a birth q (not-born q free some u) in
    record {
      above = free.above;
      typed = rw (born-type b, b.known) refl;
      header = omega (arith, born-first b, b.header.small);
      rest = λ q u. born-rest q free b u;
      free = λ q at u c d. free.apart q at u c d.0 (omega (arith, d.1, born.words));
      more_met = λ y p. more-pointers met a y p;
      agree = λ y p. names-agree name birth y free p;
      names = names;
      birth = updated-here name a birth a refl ∙ sym (born-second b);
      fresh = λ q u e. fresh q u (e ∙ updated-here name a birth a refl);
      closed = λ j l. elim (born.each j l) [ inl e ↦ inl e | inr e ↦ subst P (sym e) is ];
    }

-- An object is born on free words, with a birth that no other has, and with a target that is held if it is weak: it is held beside the others, and is the last.
pub birth_holds : {types : Table TypeInfo} {v w name : ℕ → ℕ} {met places : List ℕ} {kept : List Object} {a t head birth len x : ℕ} {info : TypeInfo} (slot : ℕ)
    → HoldsObjects types w met places name kept → IsFree types w met places a (words_in info.shape len) → BornAt types v w a t head birth len x info
    → ((q : ℕ) → IsTrue (is_in q places) → name q ≢ birth) → IsPointer (met ++ a ∷ []) x
    → HoldsObjects types v (met ++ a ∷ []) (places ++ a ∷ []) (updated name a birth)
    (kept ++ newborn birth info (request_for (updated name a birth) slot t len info.shape x) ∷ [])
birth_holds {types = types} {v = v} {name = name} {met = met} {places = places} {kept = kept} {a = a} {birth = birth} slot h free b fresh is =
    let born = born-is (updated name a birth) slot b in
    let P : Object → Type 0 = λ o. HoldsObjects types v (met ++ a ∷ []) (places ++ a ∷ []) (updated name a birth) (kept ++ o ∷ []) in
    subst P born.is (added_holds h (born-adds free b fresh is))

born-third : (s : Shape) (v w : ℕ → ℕ) (a head birth len x : ℕ) → WithRun v w a (born_words s head birth len x) → layout_of s a (v (a + 2)) ≡ layout_of s a len
born-third (Fixed i r) v w a head birth len x run = refl
born-third IntArray v w a head birth len x run = ap (layout_of IntArray a) (born-at 2 (a + 2) len run (omega arith) refl refl)
born-third RefArray v w a head birth len x run = ap (layout_of RefArray a) (born-at 2 (a + 2) len run (omega arith) refl refl)
born-third Weak v w a head birth len x run = refl

-- where the parts of a new object lie
pub born-layout : {types : Table TypeInfo} {v w : ℕ → ℕ} {a t head birth len x : ℕ} {info : TypeInfo} → BornAt types v w a t head birth len x info
    → layout_at types v a ≡ layout_of info.shape a len
unfolding layout_at
born-layout {v = v} {w = w} {a = a} {head = head} {birth = birth} {len = len} {x = x} {info = info} b =
    ap (λ i. layout_of i.shape a (v (a + 2))) (born-info b) ∙ born-third info.shape v w a head birth len x b.run
