-- What a test for the mark of a binary script has seen.
use Rattle.std.proofs.Common.{◌≡◌, ℕ, zero, suc, ◌+◌, ◌-◌, ◌<◌, ◌≤◌, true, false, List, [], ◌∷◌, ◌++◌, length, take, drop, Option, Some, None, Result, Ok, Err, refl, sym, ap, ◌∙◌, subst, arith, inl, inr, ◌⊎◌, eqb, Bool, length-take-le, length-drop, length-append}
use Rattle.std.specs.Prelude.{bytes_eq}
use borrow.Rule.Slice.PartMut.{put_mid, post_of}
use Rattle.std.specs.List.{starts_with}
use Rattle.std.specs.Io.{ReadsAtMost}
use Rattle.std.specs.Io.KnownBytes.{Consumes, Keeps, ReadConsumes, prepend_known}
use Rattle.std.proofs.KnownBytes.{Consumes-kept}
use Rattle.std.proofs.lemmas.Bool.{false≢true}
use Rattle.std.proofs.lemmas.Bool.Decides.{Decides-eqb}
use Rattle.std.proofs.lemmas.List.{take-append-le, take-append-drop}
use Rattle.std.proofs.lemmas.Slice.Eq.{starts_is}
use Rattle.heap_io.specs.declared.Failed.{Failed}
use Rattle.text_model.specs.Binary.{binary_mark, begins_binary}
use Rattle.script_text.specs.Mark.{TestsMark, BreaksMark, ReadsBehind}

-- What was held is a front of the mark, and then a read failed.
pub breaks_mark : (before mid after : Option (List ℕ)) (held : List ℕ) → Consumes before mid held → Keeps mid after
    → length held < 4 → bytes_eq held (take (length held) binary_mark) ≡ true → BreaksMark before after
breaks_mark before mid after held taken kept short front = record {
  part = held;
  behind = drop (length held) binary_mark;
  of_mark = (starts_is Decides-eqb binary_mark held true (sym front)).0 refl;
  short = short;
  taken = Consumes-kept before mid after held taken kept;
}

take_front : (held ys : List ℕ) → take (length held) (held ++ ys) ≡ held
take_front [] ys = refl
take_front (h ∷ held) ys = ap (λ l. h ∷ l) (take_front held ys)

-- The front of what begins with the mark.
front_of : (held ys rest : List ℕ) → held ++ ys ≡ binary_mark ++ rest → length held ≤ 4 → take (length held) binary_mark ≡ held
front_of held ys rest same short =
    sym (take-append-le (length held) binary_mark rest short) ∙ ap (take (length held)) (sym same) ∙ take_front held ys

-- The first four bytes are held, or what is held is not a front of the mark.
abbrev pub Differs : List ℕ → Type 0
Differs held = (4 ≤ length held) ⊎ ((length held ≤ 4) × (starts_with eqb binary_mark held ≡ false))

differs_from : (held ys : List ℕ) → begins_binary held ≡ false → Differs held → begins_binary (held ++ ys) ≡ true → ⊥
differs_from held ys other (inl long) is =
    let same : begins_binary (held ++ ys) ≡ begins_binary held = ap (bytes_eq binary_mark) (take-append-le 4 held ys long) in
    false≢true (sym other ∙ sym same ∙ is)
differs_from held ys other (inr odd) is =
    let whole = (starts_is Decides-eqb (held ++ ys) binary_mark true (sym is)).0 refl in
    let front = front_of held ys (drop 4 (held ++ ys)) whole odd.0 in
    let mark : binary_mark ≡ held ++ drop (length held) binary_mark =
    sym (take-append-drop (length held) binary_mark) ∙ ap (λ l. l ++ drop (length held) binary_mark) front in
    false≢true (sym odd.1 ∙ (starts_is Decides-eqb binary_mark held _ refl).1 (drop (length held) binary_mark) mark)

untrue : (b : Bool) → (b ≡ true → ⊥) → b ≡ false
untrue true never = absurd (never refl)
untrue false never = refl

absent : (before after : Option (List ℕ)) (held : List ℕ) → Consumes before after held → begins_binary held ≡ false → Differs held
    → TestsMark before (prepend_known held after) false
absent None after held taken other differs = (tt, tt)
absent (Some xs) None held taken other differs = absurd taken
absent (Some xs) (Some ys) held taken other differs =
    (sym taken, ap begins_binary taken ∙ untrue (begins_binary (held ++ ys)) (differs_from held ys other differs))

-- What is held does not begin with the mark, however it goes on.
pub mark_absent : (before after : Option (List ℕ)) (start end : ℕ) (buf held : List ℕ) (result : Bool)
    → Consumes before after held → result ≡ begins_binary held → result ≡ false → Differs held → start ≡ 0 → held ≡ take end buf
    → TestsMark before (prepend_known (take (end - start) (drop start buf)) after) result
mark_absent before after start end buf held result taken is untold differs begun all =
    let fits : end - start ≡ end = omega arith in
    let left : take (end - start) (drop start buf) ≡ held =
    ap (λ n. take n (drop start buf)) fits ∙ ap (λ n. take end (drop n buf)) begun ∙ sym all in
    let P : List ℕ → Type 0 = λ l. TestsMark before (prepend_known l after) result in
    subst P (sym left) (rw untold (absent before after held taken (sym is ∙ untold) differs))

take_past : (a b : List ℕ) (n k : ℕ) → k ≡ length a + n → take k (a ++ b) ≡ a ++ take n b
take_past [] b n k is = let same : k ≡ n = omega arith in ap (λ m. take m b) same
take_past (x ∷ a) b n zero is = absurd (omega arith)
take_past (x ∷ a) b n (suc k) is = ap (λ l. x ∷ l) (take_past a b n k (omega arith))

-- What was read stands behind the place.
pub reads_behind : (from : ℕ) (old got : List ℕ) (before after : Option (List ℕ)) (result : Result ℕ Failed) → from < length old
    → length got ≡ length (take (length old - from) (drop from old)) → ReadsAtMost result got → ReadConsumes before after result got
    → ReadsBehind from old (put_mid from (length old - from) old got) before after result
reads_behind from old got before after (Ok count) within same bound taken =
    let long : length got ≡ length old - from = same ∙ length-take-le (length old - from) (drop from old) (omega (arith, length-drop from old)) in
    let most : count ≤ length got = bound.0 in
    let rest = post_of from (length old - from) old in
    let first : length (take from old) ≡ from = length-take-le from old (omega arith) in (
      take count got,
      take_past (take from old) (got ++ rest) count (from + count) (omega arith)
          ∙ ap (λ l. take from old ++ l) (take-append-le count got rest most),
      omega (arith, length-append (take from old) (got ++ rest), length-append got rest),
      taken.0,
      λ none. (taken.1 none (omega arith), ap (λ n. take n got) none),
    )
reads_behind from old got before after (Err failed) within same bound taken = taken
