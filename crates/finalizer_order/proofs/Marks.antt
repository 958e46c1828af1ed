-- Objects that get a flag.
use Rattle.std.proofs.Common.{◌≡◌, ◌≢◌, ℕ, ◌+◌, ◌<◌, ◌≤◌, Bool, true, false, IsTrue, ◌⊎◌, List, [], ◌∷◌, ◌++◌, length, set, get_or, nat_eq, refl, sym, ap, ◌∙◌, subst, inl, inr, arith}
use Rattle.std.specs.Prelude.{◌%◌, ◌-◌, not, ◌&&◌, ◌||◌, nat_lt, sum_by, if◌then◌else◌}
use Rattle.std.specs.List.{IsDistinct}
use Rattle.std.proofs.lemmas.Bool.{cases_Bool}
use Rattle.std.proofs.lemmas.List.Sums.{sum_by-cons, sum_by-set}
use Rattle.heap_space.specs.Memory.{Memory}
use Rattle.heap_space.specs.Places.{Placed, covers, has, word_at, written, with_word}
use Rattle.heap_space.proofs.Blocks.{covers-inside, has-with_word, word_at-elsewhere}
use Rattle.object_header.specs.Words.{has_flag, with_flag}
use Rattle.object_header.specs.declared.flags.Flag.{Flag}
use Rattle.object_header.specs.declared.flags.Flag.TheVariants.{Visited}
use Rattle.object_header.proofs.WordLaws.{has_flag-with_flag_same, has_flag-with_flag_other, type_of-with_flag}
use Rattle.object_model.specs.Sets.{is_in}
use Rattle.object_model.proofs.Members.{is_in-head, is_in-tail, is_in-nil}
use Rattle.finalizer_order.specs.Unvisited.{is_unvisited}
use Rattle.finalizer_order.specs.Marking.{is_unmarked, met, marked_at, Marks}
use Rattle.finalizer_order.proofs.Changes.{has-changed, changed-append, lasting, keeps-changed, untouched, touched}
use Rattle.finalizer_order.proofs.Lists.{clash, in-either, in-one, distinct-nil, distinct-cons, distinct-append, distinct-tail}
use Rattle.finalizer_order.proofs.Objects.{changed, both, first, second, not_true, not_false, behind}

-- the flag as a change of a word
abbrev pub on : Flag → ℕ → ℕ
on flag word = with_flag word flag

pub on-type : (flag : Flag) (w : ℕ) → on flag w % 65536 ≡ w % 65536
on-type flag w = type_of-with_flag w flag

pub on-visited : (flag : Flag) → flag ≢ Visited → (w : ℕ) → has_flag (on flag w) Visited ≡ has_flag w Visited
on-visited flag ne w = has_flag-with_flag_other w flag Visited (λ e. ne (sym e))

-- a flag that is set stays
on-lasts : (flag : Flag) (w : ℕ) → has_flag w flag ≡ true → has_flag (on flag w) flag ≡ true
on-lasts flag w h = has_flag-with_flag_same w flag

pub flag-lasts : (flag : Flag) (ps : List ℕ) (bs : List Placed) (q : ℕ) → has_flag (word_at bs q) flag ≡ true → has_flag (word_at (marked_at flag ps bs) q) flag ≡ true
flag-lasts flag ps bs q h = lasting (λ w. has_flag w flag ≡ true) (on flag) (on-lasts flag) ps bs q h

pub flag-set : (flag : Flag) (ps : List ℕ) (bs : List Placed) (q : ℕ) → IsTrue (is_in q ps) → has bs q ≡ true → has_flag (word_at (marked_at flag ps bs) q) flag ≡ true
flag-set flag ps bs q t h = touched (λ w. has_flag w flag ≡ true) (on flag) (λ w. has_flag-with_flag_same w flag) ps bs q t h

-- a flag that is set was set, or is one of those that were set
pub flag-cases : (flag : Flag) (ps : List ℕ) (bs : List Placed) (q : ℕ) → has_flag (word_at (marked_at flag ps bs) q) flag ≡ true → (has_flag (word_at bs q) flag ≡ true) ⊎ IsTrue (is_in q ps)
flag-cases flag ps bs q h = elim (cases_Bool (is_in q ps)) [
  | inl t ↦ inr t
  | inr n ↦ inl (ap (λ (w : ℕ). has_flag w flag) (sym (untouched (on flag) ps bs q n)) ∙ h)
]

pub other-flag : (flag other : Flag) → other ≢ flag → (ps : List ℕ) (bs : List Placed) (q : ℕ) → has_flag (word_at (marked_at flag ps bs) q) other ≡ has_flag (word_at bs q) other
other-flag flag other ne ps bs q = keeps-changed (λ w. has_flag w other) (on flag) (λ w. has_flag-with_flag_other w flag other ne) ps bs q

-- unmarked objects

pub unmarked-unvisited : (flag : Flag) (nursery : ℕ) (word : ℕ → ℕ) (q : ℕ) → is_unmarked flag nursery word q ≡ true → is_unvisited nursery word q ≡ true
unmarked-unvisited flag nursery word q u = first (is_unvisited nursery word q) (not (has_flag (word q) flag)) u

pub unmarked-clear : (flag : Flag) (nursery : ℕ) (word : ℕ → ℕ) (q : ℕ) → is_unmarked flag nursery word q ≡ true → has_flag (word q) flag ≡ false
unmarked-clear flag nursery word q u = not_true (has_flag (word q) flag) (second (is_unvisited nursery word q) (not (has_flag (word q) flag)) u)

pub unmarked-of : (flag : Flag) (nursery : ℕ) (word : ℕ → ℕ) (q : ℕ) → is_unvisited nursery word q ≡ true → has_flag (word q) flag ≡ false → is_unmarked flag nursery word q ≡ true
unmarked-of flag nursery word q u n = both (is_unvisited nursery word q) (not (has_flag (word q) flag)) u (not_false (has_flag (word q) flag) n)

pub marked-of : (flag : Flag) (nursery : ℕ) (word : ℕ → ℕ) (q : ℕ) → is_unvisited nursery word q ≡ true → is_unmarked flag nursery word q ≡ false → has_flag (word q) flag ≡ true
marked-of flag nursery word q u n = elim (cases_Bool (has_flag (word q) flag)) [
  | inl t ↦ t
  | inr f ↦ absurd (clash (is_unmarked flag nursery word q) (unmarked-of flag nursery word q u f) n)
]

-- what is unvisited after some got the flag was before
pub unvisited-marked : (flag : Flag) → flag ≢ Visited → (nursery : ℕ) (ps : List ℕ) (bs : List Placed) (q : ℕ) → is_unvisited nursery (word_at (marked_at flag ps bs)) q ≡ is_unvisited nursery (word_at bs) q
unvisited-marked flag ne nursery ps bs q =
    ap (λ (b : Bool). nat_lt nursery q && not b) (keeps-changed (λ w. has_flag w Visited) (on flag) (on-visited flag ne) ps bs q)

pub unmarked-before : (flag : Flag) → flag ≢ Visited → (nursery : ℕ) (ps : List ℕ) (bs : List Placed) (q : ℕ) → is_unmarked flag nursery (word_at (marked_at flag ps bs)) q ≡ true → is_unmarked flag nursery (word_at bs) q ≡ true
unmarked-before flag ne nursery ps bs q u = unmarked-of flag nursery (word_at bs) q
    (sym (unvisited-marked flag ne nursery ps bs q) ∙ unmarked-unvisited flag nursery (word_at (marked_at flag ps bs)) q u)
    (elim (cases_Bool (has_flag (word_at bs q) flag)) [
      | inl t ↦ absurd (clash (has_flag (word_at (marked_at flag ps bs) q) flag) (flag-lasts flag ps bs q t) (unmarked-clear flag nursery (word_at (marked_at flag ps bs)) q u))
      | inr f ↦ f
    ])

-- none, one, and some after others

pub marks_none : (flag : Flag) (nursery : ℕ) (m : Memory) → Marks flag nursery m m []
marks_none flag nursery m = record {
  once = distinct-nil;
  there = λ q t. absurd (is_in-nil q t);
  unmarked = λ q t. absurd (is_in-nil q t);
  written = refl;
}

pub marks_met : (flag : Flag) (nursery : ℕ) (old new : Memory) (q : ℕ) → (nursery < q → IsTrue (has old.blocks q))
    → new ≡ changed (on flag) (met flag nursery (word_at old.blocks) q) old → Marks flag nursery old new (met flag nursery (word_at old.blocks) q)
marks_met flag nursery old new q there is = go (is_unmarked flag nursery (word_at old.blocks) q) refl
  where
    one : is_unmarked flag nursery (word_at old.blocks) q ≡ true → Marks flag nursery old (changed (on flag) (q ∷ []) old) (q ∷ [])
    one u = record {
      once = distinct-cons q [] refl distinct-nil;
      there = λ p t. subst (λ (k : ℕ). IsTrue (has old.blocks k)) (sym (in-one p q t)) (there (behind nursery (word_at old.blocks) q (unmarked-unvisited flag nursery (word_at old.blocks) q u)));
      unmarked = λ p t. subst (λ (k : ℕ). IsTrue (is_unmarked flag nursery (word_at old.blocks) k)) (sym (in-one p q t)) u;
      written = refl;
    }

    at : (b : Bool) → is_unmarked flag nursery (word_at old.blocks) q ≡ b → Marks flag nursery old (changed (on flag) (if b then q ∷ [] else []) old) (if b then q ∷ [] else [])
    at true u = one u
    at false u = marks_none flag nursery old

    go : (b : Bool) → is_unmarked flag nursery (word_at old.blocks) q ≡ b → Marks flag nursery old new (met flag nursery (word_at old.blocks) q)
    go b u = subst (λ (k : Memory). Marks flag nursery old k (met flag nursery (word_at old.blocks) q)) (sym is)
        (subst (λ (t : Bool). Marks flag nursery old (changed (on flag) (if t then q ∷ [] else []) old) (if t then q ∷ [] else [])) (sym u) (at b u))

-- what was met has the flag, if it is one to which something leads on
pub met-flag : (flag : Flag) (nursery : ℕ) (m : Memory) (q : ℕ) → (nursery < q → IsTrue (has m.blocks q)) → is_unvisited nursery (word_at m.blocks) q ≡ true
    → has_flag (word_at (marked_at flag (met flag nursery (word_at m.blocks) q) m.blocks) q) flag ≡ true
met-flag flag nursery m q there u = go (is_unmarked flag nursery (word_at m.blocks) q) refl
  where
    at : (b : Bool) → is_unmarked flag nursery (word_at m.blocks) q ≡ b → has_flag (word_at (marked_at flag (if b then q ∷ [] else []) m.blocks) q) flag ≡ true
    at true n = flag-set flag (q ∷ []) m.blocks q (is_in-head q []) (there (behind nursery (word_at m.blocks) q u))
    at false n = marked-of flag nursery (word_at m.blocks) q u n

    go : (b : Bool) → is_unmarked flag nursery (word_at m.blocks) q ≡ b → has_flag (word_at (marked_at flag (met flag nursery (word_at m.blocks) q) m.blocks) q) flag ≡ true
    go b n = subst (λ (t : Bool). has_flag (word_at (marked_at flag (if t then q ∷ [] else []) m.blocks) q) flag ≡ true) (sym n) (at b n)

pub met-is : (flag : Flag) (nursery : ℕ) (word : ℕ → ℕ) (q p : ℕ) → IsTrue (is_in p (met flag nursery word q)) → (p ≡ q) × (is_unmarked flag nursery word q ≡ true)
met-is flag nursery word q p t = go (is_unmarked flag nursery word q) refl t
  where
    go : (b : Bool) → is_unmarked flag nursery word q ≡ b → IsTrue (is_in p (if b then q ∷ [] else [])) → (p ≡ q) × (is_unmarked flag nursery word q ≡ true)
    go true u t = (in-one p q t, u)
    go false u t = absurd (is_in-nil p t)

pub marks_append : {flag : Flag} {nursery : ℕ} {old mid new : Memory} {xs ys : List ℕ} → flag ≢ Visited → Marks flag nursery old mid xs → Marks flag nursery mid new ys → Marks flag nursery old new (xs ++ ys)
marks_append {flag = flag} {nursery = nursery} {old = old} {mid = mid} {new = new} {xs = xs} {ys = ys} ne a b =
    let b_old : Marks flag nursery (changed (on flag) xs old) new ys = subst (λ (k : Memory). Marks flag nursery k new ys) a.written b in
    record {
      once = distinct-append xs ys a.once b.once (λ q t u. clash (has_flag (word_at (marked_at flag xs old.blocks) q) flag) (flag-set flag xs old.blocks q t (a.there q t))
          (unmarked-clear flag nursery (word_at (marked_at flag xs old.blocks)) q (b_old.unmarked q u)));
      there = λ q t. elim (in-either q xs ys t) [
        | inl u ↦ a.there q u
        | inr u ↦ sym (has-changed (on flag) xs old.blocks q) ∙ b_old.there q u
      ];
      unmarked = λ q t. elim (in-either q xs ys t) [
        | inl u ↦ a.unmarked q u
        | inr u ↦ unmarked-before flag ne nursery xs old.blocks q (b_old.unmarked q u)
      ];
      written = b_old.written ∙ ap (λ (bs : List Placed). record old { blocks = bs }) (sym (changed-append (on flag) xs ys old.blocks));
    }

-- How many words lack a flag.
abbrev pub lacks : Flag → ℕ → ℕ
lacks flag word = if has_flag word flag then 0 else 1

abbrev pub words_without : Flag → List Placed → ℕ
words_without flag blocks = sum_by (λ block. sum_by (lacks flag) block.words) blocks

lacks-none : (flag : Flag) (word : ℕ) → has_flag word flag ≡ true → lacks flag word ≡ 0
lacks-none flag word h = ap (λ (b : Bool). if b then 0 else 1) h

lacks-one : (flag : Flag) (word : ℕ) → has_flag word flag ≡ false → lacks flag word ≡ 1
lacks-one flag word h = ap (λ (b : Bool). if b then 0 else 1) h

-- a word that gets the flag
block-less : (flag : Flag) (p v : ℕ) (b : Placed) → has_flag v flag ≡ true → sum_by (lacks flag) (written p v b).words ≤ sum_by (lacks flag) b.words
block-less flag p v b h = go (covers b p) refl
  where
    go : (c : Bool) → covers b p ≡ c → sum_by (lacks flag) (written p v b).words ≤ sum_by (lacks flag) b.words
    go true c =
        let x = covers-inside b p c in
        let s = sum_by-set (lacks flag) b.words (p - b.base) v 0 (omega (arith, x.0, x.1)) in
        let z = lacks-none flag v h in
        let is : sum_by (lacks flag) (written p v b).words ≡ sum_by (lacks flag) (set b.words (p - b.base) v) =
        ap (λ (t : Bool). sum_by (lacks flag) (if t then set b.words (p - b.base) v else b.words)) c in
        omega (arith, s, z, is)
    go false c =
        let is : sum_by (lacks flag) (written p v b).words ≡ sum_by (lacks flag) b.words =
        ap (λ (t : Bool). sum_by (lacks flag) (if t then set b.words (p - b.base) v else b.words)) c in
        omega (arith, is)

block-one : (flag : Flag) (p v : ℕ) (b : Placed) → has_flag v flag ≡ true → covers b p ≡ true → has_flag (get_or b.words (p - b.base) 0) flag ≡ false
    → sum_by (lacks flag) (written p v b).words + 1 ≤ sum_by (lacks flag) b.words
block-one flag p v b h c n =
    let x = covers-inside b p c in
    let s = sum_by-set (lacks flag) b.words (p - b.base) v 0 (omega (arith, x.0, x.1)) in
    let z = lacks-none flag v h in
    let o = lacks-one flag (get_or b.words (p - b.base) 0) n in
    let is : sum_by (lacks flag) (written p v b).words ≡ sum_by (lacks flag) (set b.words (p - b.base) v) =
    ap (λ (t : Bool). sum_by (lacks flag) (if t then set b.words (p - b.base) v else b.words)) c in
    omega (arith, s, z, is, o)

words-less : (flag : Flag) (p v : ℕ) (bs : List Placed) → has_flag v flag ≡ true → words_without flag (with_word bs p v) ≤ words_without flag bs
words-less flag p v [] h = omega arith
words-less flag p v (b ∷ bs) h =
    let one = block-less flag p v b h in let more = words-less flag p v bs h in
    let l = sum_by-cons (λ (k : Placed). sum_by (lacks flag) k.words) (written p v b) (with_word bs p v) in
    let r = sum_by-cons (λ (k : Placed). sum_by (lacks flag) k.words) b bs in omega (arith, one, more, l, r)

words-one : (flag : Flag) (p v : ℕ) (bs : List Placed) → has_flag v flag ≡ true → has bs p ≡ true → has_flag (word_at bs p) flag ≡ false → words_without flag (with_word bs p v) + 1 ≤ words_without flag bs
words-one flag p v [] h t n = absurd (let no : ⊥ = cc in no)
words-one flag p v (b ∷ bs) h t n = go (words-one flag p v bs h) (covers b p) refl
  where
    go : (has bs p ≡ true → has_flag (word_at bs p) flag ≡ false → words_without flag (with_word bs p v) + 1 ≤ words_without flag bs) → (c : Bool) → covers b p ≡ c
        → words_without flag (with_word (b ∷ bs) p v) + 1 ≤ words_without flag (b ∷ bs)
    go rest true c =
        let here : has_flag (get_or b.words (p - b.base) 0) flag ≡ false = ap (λ (t : Bool). has_flag (if t then get_or b.words (p - b.base) 0 else word_at bs p) flag) (sym c) ∙ n in
        let one = block-one flag p v b h c here in let more = words-less flag p v bs h in
        let l = sum_by-cons (λ (k : Placed). sum_by (lacks flag) k.words) (written p v b) (with_word bs p v) in
        let r = sum_by-cons (λ (k : Placed). sum_by (lacks flag) k.words) b bs in omega (arith, one, more, l, r)
    go rest false c =
        let there : has bs p ≡ true = ap (λ (k : Bool). k || has bs p) (sym c) ∙ t in
        let here : has_flag (word_at bs p) flag ≡ false = ap (λ (t : Bool). has_flag (if t then get_or b.words (p - b.base) 0 else word_at bs p) flag) (sym c) ∙ n in
        let one = block-less flag p v b h in let more = rest there here in
        let l = sum_by-cons (λ (k : Placed). sum_by (lacks flag) k.words) (written p v b) (with_word bs p v) in
        let r = sum_by-cons (λ (k : Placed). sum_by (lacks flag) k.words) b bs in omega (arith, one, more, l, r)

-- each object that gets the flag is one word less
less-marked : (flag : Flag) (ps : List ℕ) (bs : List Placed) → IsDistinct nat_eq ps → ((q : ℕ) → IsTrue (is_in q ps) → IsTrue (has bs q)) → ((q : ℕ) → IsTrue (is_in q ps) → has_flag (word_at bs q) flag ≡ false)
    → words_without flag (marked_at flag ps bs) + length ps ≤ words_without flag bs
less-marked flag [] bs d there clear = omega arith
less-marked flag (p ∷ ps) bs d there clear =
    let now : List Placed = with_word bs p (on flag (word_at bs p)) in
    let t = distinct-tail p ps d in
    let one = words-one flag p (on flag (word_at bs p)) bs (has_flag-with_flag_same (word_at bs p) flag) (there p (is_in-head p ps)) (clear p (is_in-head p ps)) in
    let more = less-marked flag ps now t.1 (λ q u. has-with_word bs p (on flag (word_at bs p)) q ∙ there q (is_in-tail q p ps u))
    (λ q u. ap (λ (w : ℕ). has_flag w flag) (word_at-elsewhere bs p (on flag (word_at bs p)) q (λ e. clash (is_in p ps) (subst (λ (k : ℕ). IsTrue (is_in k ps)) e u) t.0)) ∙ clear q (is_in-tail q p ps u)) in
    omega (arith, one, more)

pub marks_less : {flag : Flag} {nursery : ℕ} {old new : Memory} {ps : List ℕ} → Marks flag nursery old new ps → words_without flag new.blocks + length ps ≤ words_without flag old.blocks
marks_less {flag = flag} {nursery = nursery} {old = old} {new = new} {ps = ps} m =
    let l = less-marked flag ps old.blocks m.once m.there (λ q t. unmarked-clear flag nursery (word_at old.blocks) q (m.unmarked q t)) in
    let e : words_without flag new.blocks ≡ words_without flag (marked_at flag ps old.blocks) = ap (λ (k : Memory). words_without flag k.blocks) m.written in
    omega (arith, l, e)
