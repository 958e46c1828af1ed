-- An object is copied into free room and left behind: the objects stay, and each place that references may have holds one or was left.
use Rattle.std.proofs.Common.{◌≡◌, ◌≢◌, ℕ, ◌+◌, ◌<◌, ◌≤◌, ◌⊎◌, true, false, IsTrue, ◌==◌, if◌then◌else◌, List, ◌∷◌, Some, None, map, refl, sym, ap, ◌∙◌, inl, inr, arith}
use Rattle.std.proofs.Math.Path.{fun_ext}
use Rattle.std.proofs.lemmas.Bool.{cases_lt, cases_Bool}
use Rattle.std.proofs.lemmas.Bool.Decides.{nat_tests}
use Rattle.type_table.specs.declared.info.TypeInfo.{TypeInfo}
use Rattle.type_table.specs.Table.{Table}
use Rattle.heap_space.specs.Runs.{within}
use Rattle.heap_space.specs.Places.{Placed, has, word_at, with_word, with_run, run_at, lies_in_one}
use Rattle.heap_space.proofs.Blocks.{word_at-copied, word_at-none, has-with_run, has-with_word}
use Rattle.object_model.specs.Object.{Object}
use Rattle.object_model.specs.Sets.{is_in}
use Rattle.object_model.specs.ObjectWords.{updated, renamed, words_at, Covers}
use Rattle.object_model.specs.Holds.{HoldsObjects, IsPointer}
use Rattle.object_view.specs.Moving.{copied, moved, HasFreeRoom}
use Rattle.object_view.proofs.WordLaws.{updated-here, updated-other}
use Rattle.object_model.proofs.Members.{is_in-tail}
use Rattle.object_view.proofs.LayoutLaws.{laid_out}
use Rattle.object_view.proofs.SpaceLaws.{word_at-written, lies-at}
use Rattle.object_view.proofs.MoveLaws.{Moves, move_holds, moved_to}

-- the words of a copy and around it

within-yes : (a n b : ℕ) → a ≤ b → b < a + n → within a n b ≡ true
within-yes a n b l m = grind (arith, nat_tests)

within-no : (a n b : ℕ) → (b < a) ⊎ (a + n ≤ b) → within a n b ≡ false
within-no a n b (inl l) = grind (arith, nat_tests)
within-no a n b (inr l) = grind (arith, nat_tests)

pub copied-in : (w : ℕ → ℕ) (from to n k : ℕ) → k < n → copied w from to n (to + k) ≡ w (from + k)
copied-in w from to n k l = rw (within-yes to n (to + k) (omega arith) (omega (arith, l))) (ap w (omega arith))

pub copied-out : (w : ℕ → ℕ) (from to n b : ℕ) → (b < to) ⊎ (to + n ≤ b) → copied w from to n b ≡ w b
copied-out w from to n b out = rw (within-no to n b out) refl

-- a memory with words copied is the old one, copied there
word-copied : (ps : List Placed) (from to n b : ℕ) → lies_in_one ps to n ≡ true
    → word_at (with_run ps to (run_at ps from n)) b ≡ copied (word_at ps) from to n b
word-copied ps from to n b lies = elim (cases_Bool (has ps b)) [
  | inl h ↦ word_at-copied ps from to n b h
  | inr none ↦ word_at-none (with_run ps to (run_at ps from n)) b (has-with_run ps to (run_at ps from n) b ∙ none)
      ∙ sym (copied-out (word_at ps) from to n b (elim (cases_lt b to) [
        | inl low ↦ inl low
        | inr high ↦ elim (cases_lt b (to + n)) [
          | inl inside ↦ absurd (let t : true ≡ false = sym (lies-at ps to n b lies high inside) ∙ none in let no_way : ⊥ = cc in no_way)
          | inr behind ↦ inr behind
        ]
      ]) ∙ word_at-none ps b none)
]

pub word_at-moved_run : (ps : List Placed) (from to n : ℕ) → lies_in_one ps to n ≡ true
    → word_at (with_run ps to (run_at ps from n)) ≡ copied (word_at ps) from to n
word_at-moved_run ps from to n lies = fun_ext (λ b. word-copied ps from to n b lies)

-- a memory in which an object was copied and left behind
pub word_at-moved : (ps : List Placed) (from to n : ℕ) → lies_in_one ps to n ≡ true → has ps from ≡ true → has ps (from + 1) ≡ true
    → word_at (with_word (with_word (with_run ps to (run_at ps from n)) from 18446744073709551615) (from + 1) to) ≡ moved (word_at ps) from to n
word_at-moved ps from to n lies first second =
    let run : List Placed = with_run ps to (run_at ps from n) in
    word_at-written (with_word run from 18446744073709551615) (from + 1) to (has-with_word run from 18446744073709551615 (from + 1) ∙ has-with_run ps to (run_at ps from n) (from + 1) ∙ second)
    ∙ ap (λ f. updated f (from + 1) to) (word_at-written run from 18446744073709551615 (has-with_run ps to (run_at ps from n) from ∙ first)
    ∙ ap (λ f. updated f from 18446744073709551615) (word_at-moved_run ps from to n lies))

-- the words after the move
pub record AfterMove (v w : ℕ → ℕ) (p n a : ℕ) : Type 0 where
  pub copy : (k : ℕ) → k < n → v (a + k) ≡ w (p + k)
  pub marked : v p ≡ 18446744073709551615
  pub leads : v (p + 1) ≡ a
  pub others : (b : ℕ) → (b < a) ⊎ (a + n ≤ b) → b ≢ p → b ≢ p + 1 → v b ≡ w b

not-in : (a n p k d : ℕ) → k < n → d < n → (p + n ≤ a) ⊎ (a + n ≤ p) → a + k ≡ p + d → ⊥
not-in a n p k d l m (inl e) is = absurd (omega (arith, l, m, e, is))
not-in a n p k d l m (inr e) is = absurd (omega (arith, l, m, e, is))

pub after-move : (w : ℕ → ℕ) (p n a : ℕ) → 2 ≤ n → (p + n ≤ a) ⊎ (a + n ≤ p) → AfterMove (moved w p a n) w p n a
after-move w p n a two apart =
    let past : (b : ℕ) → b ≢ p → b ≢ p + 1 → moved w p a n b ≡ copied w p a n b =
    λ b x y. updated-other (updated (copied w p a n) p 18446744073709551615) (p + 1) a b y ∙ updated-other (copied w p a n) p 18446744073709551615 b x in
    record {
      copy = λ k l. past (a + k) (λ e. not-in a n p k 0 l (omega (arith, two)) apart (omega (arith, e))) (λ e. not-in a n p k 1 l (omega (arith, two)) apart e)
          ∙ copied-in w p a n k l;
      marked = updated-other (updated (copied w p a n) p 18446744073709551615) (p + 1) a p (λ e. absurd (omega (arith, e)))
          ∙ updated-here (copied w p a n) p 18446744073709551615 p refl;
      leads = updated-here (updated (copied w p a n) p 18446744073709551615) (p + 1) a (p + 1) refl;
      others = λ b out x y. past b x y ∙ copied-out w p a n b out;
    }

-- the object's own words are not those that it is copied to
room-apart : {types : Table TypeInfo} {w : ℕ → ℕ} {met places : List ℕ} {p a : ℕ} → HasFreeRoom types w met places p a
    → (p + words_at types w p ≤ a) ⊎ (a + words_at types w p ≤ p)
room-apart {types = types} {w = w} {p = p} {a = a} room =
    let two = (laid_out types w p).header in let n : ℕ = words_at types w p in
    elim (cases_lt a (p + n)) [
      | inl low ↦ elim (cases_lt p (a + n)) [
        | inl high ↦ elim (cases_lt p a) [
          | inl below ↦ absurd (room.clear p a room.there (omega (arith, below), low) (omega arith) (omega (arith, two)))
          | inr above ↦ absurd (room.clear p p room.there (omega arith, omega (arith, two)) above high)
        ]
        | inr out ↦ inr out
      ]
      | inr out ↦ inl out
    ]

pub outside-room : {types : Table TypeInfo} {w : ℕ → ℕ} {met places : List ℕ} {p a : ℕ} (q b : ℕ) → HasFreeRoom types w met places p a
    → IsTrue (is_in q places) → Covers types w q b → (b < a) ⊎ (a + words_at types w p ≤ b)
outside-room {types = types} {w = w} {p = p} {a = a} q b room t c = elim (cases_lt b a) [
  | inl low ↦ inl low
  | inr high ↦ elim (cases_lt b (a + words_at types w p)) [
    | inl inside ↦ absurd (room.clear q b t c high inside)
    | inr out ↦ inr out
  ]
]

pub not-met : {types : Table TypeInfo} {w : ℕ → ℕ} {met places : List ℕ} {p a : ℕ} (x : ℕ) → HasFreeRoom types w met places p a
    → IsTrue (is_in x met) → x ≢ a
not-met {types = types} {w = w} {p = p} x room t e = elim (room.fresh x t).0 [
  | inl below ↦ absurd (omega (arith, e, below))
  | inr above ↦ absurd (omega (arith, e, above, (laid_out types w p).header))
]

pointer-tail : (met : List ℕ) (a x : ℕ) → IsPointer met x → IsPointer (a ∷ met) x
pointer-tail met a x (inl e) = inl e
pointer-tail met a x (inr t) = inr (is_in-tail x a met t)

agrees : {types : Table TypeInfo} {w : ℕ → ℕ} {met places : List ℕ} {p a : ℕ} (name : ℕ → ℕ) (x : ℕ) → HasFreeRoom types w met places p a
    → IsPointer met x → renamed (updated name a (name p)) x ≡ renamed name x
agrees name x room (inl e) = rw e refl
agrees {p = p} {a = a} name x room (inr t) = ap (λ b. if x == 0 then None else Some b) (updated-other name a (name p) x (not-met x room t))

-- the facts of the move
pub after-room : {types : Table TypeInfo} {w : ℕ → ℕ} {met places : List ℕ} {p a : ℕ} → HasFreeRoom types w met places p a
    → AfterMove (moved w p a (words_at types w p)) w p (words_at types w p) a
after-room {types = types} {w = w} {p = p} {a = a} room = after-move w p (words_at types w p) a (laid_out types w p).header (room-apart room)

pub room-moves : {types : Table TypeInfo} {w name : ℕ → ℕ} {met places : List ℕ} {kept : List Object} {p a : ℕ}
    → HoldsObjects types w met places name kept → HasFreeRoom types w met places p a
    → Moves types (moved w p a (words_at types w p)) w met (a ∷ met) places name (updated name a (name p)) p a
room-moves {types = types} {w = w} {name = name} {met = met} {p = p} {a = a} h room =
    let after = after-room room in let two = (laid_out types w p).header in record {
      there = room.there;
      above = room.above;
      copy = record { same = after.copy };
      rest = λ q t ne. record {
        same = λ b l r. after.others b (outside-room q b room t (l, r))
            (λ e. ne (h.apart q p b t room.there (l, r) (omega (arith, e), omega (arith, e, two))))
            (λ e. ne (h.apart q p b t room.there (l, r) (omega (arith, e), omega (arith, e, two))));
      };
      free = λ q b t ne c low high. room.clear q b t c low high;
      more_met = λ x is. pointer-tail met a x is;
      agree = λ x is. agrees name x room is;
      same_name = updated-here name a (name p) a refl;
      names = λ q t ne. updated-other name a (name p) q (λ e. absurd (room.clear q q t (omega arith, omega (arith, (laid_out types w q).header)) (omega (arith, e)) (omega (arith, e, two))));
    }

-- An object moves into free room: the objects stay as they are.
pub moved_holds : {types : Table TypeInfo} {w name : ℕ → ℕ} {met places : List ℕ} {kept : List Object} {p a : ℕ}
    → HoldsObjects types w met places name kept → HasFreeRoom types w met places p a
    → HoldsObjects types (moved w p a (words_at types w p)) (a ∷ met) (map (moved_to p a) places) (updated name a (name p)) kept
moved_holds h room = move_holds h (room-moves h room)
