-- The turns of the loops that mark what an object leads to.
use Rattle.std.proofs.Common.{◌≡◌, ◌≢◌, ℕ, zero, suc, ◌+◌, ◌-◌, ◌<◌, ◌≤◌, true, IsTrue, List, [], ◌∷◌, ◌++◌, length, get_or, take, refl, sym, ap, ◌∙◌, subst, inl, inr, arith, append_assoc, length-append}
use Rattle.std.proofs.lemmas.Bool.{cases_lt}
use Rattle.std.proofs.lemmas.List.{take-append-le, append-nil}
use Rattle.type_table.specs.declared.info.TypeInfo.{TypeInfo}
use Rattle.type_table.specs.Table.{Table}
use Rattle.heap_space.specs.Memory.{Memory}
use Rattle.heap_space.specs.Places.{has, word_at}
use Rattle.object_header.specs.Words.{has_flag}
use Rattle.object_header.specs.declared.flags.Flag.{Flag}
use Rattle.object_header.specs.declared.flags.Flag.TheVariants.{Visited}
use Rattle.object_model.specs.Sets.{is_in}
use Rattle.object_model.specs.ObjectWords.{words_from, layout_at}
use Rattle.object_view.specs.declared.fields.ObjView.{ObjView}
use Rattle.object_view.specs.Views.{HasView}
use Rattle.object_view.proofs.LayoutLaws.{laid_out}
use Rattle.object_view.proofs.WordLaws.{length-words_from, get_or-words_from}
use Rattle.object_model.proofs.Members.{is_in-head, is_in-tail, is_in-cases, is_in-nil}
use Rattle.finalizer_order.specs.Unvisited.{refs_at, is_unvisited, leads_on, Reaches, AreWhole}
use Rattle.finalizer_order.specs.Marking.{met, marked_at, Marks, MeetsRefs, AreClosed, MarksFrom}
use Rattle.finalizer_order.proofs.Changes.{has-changed, lies-changed}
use Rattle.finalizer_order.proofs.Lists.{in-get, in-either, in-one, take-one}
use Rattle.finalizer_order.proofs.Objects.{changed, both, behind, self-reaches, step-reaches, joins-reaches, along, leads-ref, leads-unvisited, reach-place, has-place, words-kept, whole-kept, refs-kept, leads-kept}
use Rattle.finalizer_order.proofs.Marks.{on, on-type, on-visited, flag-lasts, flag-cases, unmarked-unvisited, unvisited-marked, marks_none, marks_met, met-flag, met-is, marks_append, marks_less, words_without}

-- words of a run

pub in-words : (w : ℕ → ℕ) (p n k : ℕ) → k < n → IsTrue (is_in (w (p + k)) (words_from w p n))
in-words w p n k l =
    subst (λ (x : ℕ). IsTrue (is_in x (words_from w p n))) (get_or-words_from w p k n l) (in-get (words_from w p n) k (omega (arith, length-words_from w p n, l)))

pub record IsWord (w : ℕ → ℕ) (p n q : ℕ) : Type 0 where
  pub at : ℕ
  pub inside : at < n
  pub is : q ≡ w (p + at)

pub of-words : (w : ℕ → ℕ) (p n q : ℕ) → IsTrue (is_in q (words_from w p n)) → IsWord w p n q
of-words w p zero q t = absurd (is_in-nil q t)
of-words w p (suc n) q t = elim (is_in-cases q (w p) (words_from w (p + 1) n) t) [
  | inl e ↦ record { at = 0; inside = omega arith; is = e ∙ ap w (omega arith) }
  | inr u ↦ let m = of-words w (p + 1) n q u in record { at = m.at + 1; inside = omega (arith, m.inside); is = m.is ∙ ap w (omega arith) }
]

-- some references were met
pub record MeetsSome (flag : Flag) (types : Table TypeInfo) (nursery : ℕ) (old now : Memory) (place count : ℕ) (before items : List ℕ) : Type 0 where
  pub more : List ℕ
  pub appended : items ≡ before ++ more
  pub marks : Marks flag nursery old now more
  pub referred : (q : ℕ) → IsTrue (is_in q more) → IsTrue (is_in q (refs_at types (word_at old.blocks) place))
  pub all : (k : ℕ) → k < count → is_unvisited nursery (word_at old.blocks) (word_at old.blocks ((layout_at types (word_at old.blocks) place).ref_start + k)) ≡ true
      → has_flag (word_at now.blocks (word_at old.blocks ((layout_at types (word_at old.blocks) place).ref_start + k))) flag ≡ true

pub meets_none : (flag : Flag) (types : Table TypeInfo) (nursery : ℕ) (m : Memory) (place : ℕ) (before : List ℕ) → MeetsSome flag types nursery m m place 0 before before
meets_none flag types nursery m place before = record {
  more = [];
  appended = sym (append-nil before);
  marks = marks_none flag nursery m;
  referred = λ q t. absurd (is_in-nil q t);
  all = λ k l u. absurd (omega (arith, l));
}

module _ {flag : Flag} {types : Table TypeInfo} {nursery : ℕ} {old : Memory} {place : ℕ} (c : AreWhole old types nursery (place ∷ [])) (out : nursery < place) (ne : flag ≢ Visited) where
  w : ℕ → ℕ
  w = word_at old.blocks

  start : ℕ
  start = (layout_at types (word_at old.blocks) place).ref_start

  place-there : IsTrue (is_in place c.places)
  place-there = c.started place (is_in-head place []) out

  more-there : {now : Memory} {i : ℕ} {before items : List ℕ} (s : MeetsSome flag types nursery old now place i before items) (q : ℕ) → IsTrue (is_in q s.more) → IsTrue (is_in q c.places)
  more-there s q t = c.closed place q place-there (s.referred q t) (behind nursery (word_at old.blocks) q (unmarked-unvisited flag nursery (word_at old.blocks) q (s.marks.unmarked q t)))

  -- the view stays
  pub view_stays : {now : Memory} {i : ℕ} {before items : List ℕ} (v : ObjView) → MeetsSome flag types nursery old now place i before items → HasView old v place → HasView now v place
  view_stays {now = now} v s h = subst (λ (m : Memory). HasView m v place) (sym s.marks.written) (record {
    whole = lies-changed (on flag) s.more old.blocks place v.words ∙ h.whole;
    fits = h.fits;
    begins = h.begins;
    ordered = h.ordered;
    ends = h.ends;
  })

  -- a reference is read as it was
  pub ref-same : {now : Memory} {i : ℕ} {before items : List ℕ} (s : MeetsSome flag types nursery old now place i before items) (k : ℕ) → k < (layout_at types (word_at old.blocks) place).ref_count
      → word_at now.blocks ((layout_at types (word_at old.blocks) place).ref_start + k) ≡ word_at old.blocks ((layout_at types (word_at old.blocks) place).ref_start + k)
  ref-same s k l =
      let laid = laid_out types (word_at old.blocks) place in
      ap (λ (m : Memory). word_at m.blocks ((layout_at types (word_at old.blocks) place).ref_start + k)) s.marks.written
      ∙ words-kept c (on flag) (on-type flag) s.more (more-there s) place ((layout_at types (word_at old.blocks) place).ref_start + k) place-there
      (omega (arith, laid.begins, laid.ordered)) (omega (arith, laid.refs, laid.pointers, l))

  -- and has a header in the memory
  pub ref-has : {now : Memory} {i : ℕ} {before items : List ℕ} (s : MeetsSome flag types nursery old now place i before items) (k q : ℕ) → k < (layout_at types (word_at old.blocks) place).ref_count
      → q ≡ word_at now.blocks ((layout_at types (word_at old.blocks) place).ref_start + k) → nursery < q → IsTrue (has now.blocks q)
  ref-has {now = now} s k q l is behind_it =
      let ref : IsTrue (is_in q (refs_at types (word_at old.blocks) place)) =
      subst (λ (x : ℕ). IsTrue (is_in x (refs_at types (word_at old.blocks) place))) (sym (is ∙ ref-same s k l))
      (in-words (word_at old.blocks) (layout_at types (word_at old.blocks) place).ref_start (layout_at types (word_at old.blocks) place).ref_count k l) in
      ap (λ (m : Memory). has m.blocks q) s.marks.written ∙ (has-changed (on flag) s.more old.blocks q ∙ has-place c q (c.closed place q place-there ref behind_it))

  pub meets_next : (now new : Memory) (i q : ℕ) (before items after : List ℕ) → MeetsSome flag types nursery old now place i before items → i < (layout_at types (word_at old.blocks) place).ref_count
      → q ≡ word_at now.blocks ((layout_at types (word_at old.blocks) place).ref_start + i) → after ≡ items ++ met flag nursery (word_at now.blocks) q
      → new ≡ changed (on flag) (met flag nursery (word_at now.blocks) q) now → MeetsSome flag types nursery old new place (i + 1) before after
  meets_next now new i q before items after s l is listed written =
      let one : Marks flag nursery now new (met flag nursery (word_at now.blocks) q) = marks_met flag nursery now new q (ref-has s i q l is) written in
      let ref : IsTrue (is_in q (refs_at types (word_at old.blocks) place)) =
      subst (λ (x : ℕ). IsTrue (is_in x (refs_at types (word_at old.blocks) place))) (sym (is ∙ ref-same s i l))
      (in-words (word_at old.blocks) (layout_at types (word_at old.blocks) place).ref_start (layout_at types (word_at old.blocks) place).ref_count i l) in
      record {
        more = s.more ++ met flag nursery (word_at now.blocks) q;
        appended = listed ∙ ap (λ (xs : List ℕ). xs ++ met flag nursery (word_at now.blocks) q) s.appended ∙ append_assoc before s.more (met flag nursery (word_at now.blocks) q);
        marks = marks_append ne s.marks one;
        referred = λ p t. elim (in-either p s.more (met flag nursery (word_at now.blocks) q) t) [
          | inl u ↦ s.referred p u
          | inr u ↦ subst (λ (x : ℕ). IsTrue (is_in x (refs_at types (word_at old.blocks) place))) (sym (met-is flag nursery (word_at now.blocks) q p u).0) ref
        ];
        all = λ k m u. elim (cases_lt k i) [
          | inl before_it ↦
              let r : ℕ = word_at old.blocks ((layout_at types (word_at old.blocks) place).ref_start + k) in
              ap (λ (x : Memory). has_flag (word_at x.blocks r) flag) written ∙ flag-lasts flag (met flag nursery (word_at now.blocks) q) now.blocks r (s.all k before_it u)
          | inr here ↦
              let same : k ≡ i = omega (arith, m, here) in
              let r : ℕ = word_at old.blocks ((layout_at types (word_at old.blocks) place).ref_start + k) in
              let at : r ≡ q = ap (λ (x : ℕ). word_at old.blocks ((layout_at types (word_at old.blocks) place).ref_start + x)) same ∙ sym (is ∙ ref-same s i l) in
              let unvisited : is_unvisited nursery (word_at now.blocks) q ≡ true =
              ap (λ (x : Memory). is_unvisited nursery (word_at x.blocks) q) s.marks.written ∙ unvisited-marked flag ne nursery s.more old.blocks q
              ∙ ap (is_unvisited nursery (word_at old.blocks)) (sym at) ∙ u in
              ap (λ (x : Memory). has_flag (word_at x.blocks r) flag) written
              ∙ ap (λ (x : ℕ). has_flag (word_at (marked_at flag (met flag nursery (word_at now.blocks) q) now.blocks) x) flag) at
              ∙ met-flag flag nursery now q (ref-has s i q l is) unvisited
        ];
      }

  pub meets_refs : (now : Memory) (before items : List ℕ) (n : ℕ) → n ≡ (layout_at types (word_at old.blocks) place).ref_count → MeetsSome flag types nursery old now place n before items
      → MeetsRefs flag types nursery old now place before items
  meets_refs now before items n all s = record {
    more = s.more;
    appended = s.appended;
    marks = s.marks;
    referred = s.referred;
    all = λ q t.
        let m = of-words (word_at old.blocks) (layout_at types (word_at old.blocks) place).ref_start (layout_at types (word_at old.blocks) place).ref_count q (leads-ref types nursery (word_at old.blocks) place q t) in
        ap (λ (x : ℕ). has_flag (word_at now.blocks x) flag) m.is
        ∙ s.all m.at (omega (arith, all, m.inside)) (ap (is_unvisited nursery (word_at old.blocks)) (sym m.is) ∙ leads-unvisited types nursery (word_at old.blocks) place q t);
  }

-- some of what was marked was looked into
pub record MarksSome (flag : Flag) (types : Table TypeInfo) (nursery : ℕ) (old now : Memory) (place next : ℕ) (before items : List ℕ) : Type 0 where
  pub more : List ℕ
  pub count : ℕ
  pub appended : items ≡ before ++ more
  pub next_is : next ≡ length before + count
  pub few : count ≤ length more
  pub marks : Marks flag nursery old now more
  pub reached : (q : ℕ) → IsTrue (is_in q more) → Reaches types nursery (word_at old.blocks) place q
  pub unvisited : (q : ℕ) → IsTrue (is_in q more) → is_unvisited nursery (word_at old.blocks) place ≡ true
  pub begun : is_unvisited nursery (word_at old.blocks) place ≡ true → has_flag (word_at now.blocks place) flag ≡ true
  pub looked : (p q : ℕ) → IsTrue (is_in p (take count more)) → IsTrue (leads_on types nursery (word_at old.blocks) p q) → has_flag (word_at now.blocks q) flag ≡ true

take-in : (x n : ℕ) (xs : List ℕ) → IsTrue (is_in x (take n xs)) → IsTrue (is_in x xs)
take-in x zero xs t = absurd (is_in-nil x t)
take-in x (suc n) [] t = t
take-in x (suc n) (y ∷ xs) t = elim (is_in-cases x y (take n xs) t) [
  | inl e ↦ subst (λ (k : ℕ). IsTrue (is_in k (y ∷ xs))) (sym e) (is_in-head y xs)
  | inr u ↦ is_in-tail x y xs (take-in x n xs u)
]

take-all : (xs : List ℕ) (n : ℕ) → length xs ≤ n → take n xs ≡ xs
take-all [] zero l = refl
take-all [] (suc n) l = refl
take-all (x ∷ xs) zero l = absurd (omega (arith, l))
take-all (x ∷ xs) (suc n) l = ap (λ (ys : List ℕ). x ∷ ys) (take-all xs n (omega (arith, l)))

get-behind : (xs ys : List ℕ) (k : ℕ) → get_or (xs ++ ys) (length xs + k) 0 ≡ get_or ys k 0
get-behind [] ys k = ap (λ (n : ℕ). get_or ys n 0) (omega arith)
get-behind (x ∷ xs) ys k = ap (λ (n : ℕ). get_or (x ∷ (xs ++ ys)) n 0) (let e : length (x ∷ xs) + k ≡ suc (length xs + k) = omega arith in e) ∙ get-behind xs ys k

pub marks_begin : (flag : Flag) (types : Table TypeInfo) (nursery : ℕ) (old new : Memory) (place next : ℕ) (before items : List ℕ) → next ≡ length before → (nursery < place → IsTrue (has old.blocks place))
    → items ≡ before ++ met flag nursery (word_at old.blocks) place → new ≡ changed (on flag) (met flag nursery (word_at old.blocks) place) old
    → MarksSome flag types nursery old new place next before items
marks_begin flag types nursery old new place next before items begins there listed written = record {
  more = met flag nursery (word_at old.blocks) place;
  count = 0;
  appended = listed;
  next_is = omega (arith, begins);
  few = omega arith;
  marks = marks_met flag nursery old new place there written;
  reached = λ q t. subst (Reaches types nursery (word_at old.blocks) place) (sym (met-is flag nursery (word_at old.blocks) place q t).0) (self-reaches place);
  unvisited = λ q t. unmarked-unvisited flag nursery (word_at old.blocks) place (met-is flag nursery (word_at old.blocks) place q t).1;
  begun = λ u. ap (λ (m : Memory). has_flag (word_at m.blocks place) flag) written ∙ met-flag flag nursery old place there u;
  looked = λ p q t l. absurd (is_in-nil p t);
}

module _ {flag : Flag} {types : Table TypeInfo} {nursery : ℕ} {old : Memory} {place : ℕ} (c : AreWhole old types nursery (place ∷ [])) (ne : flag ≢ Visited) where
  -- what is marked is an object
  pub marked-there : {now : Memory} {next : ℕ} {before items : List ℕ} (s : MarksSome flag types nursery old now place next before items) (q : ℕ) → IsTrue (is_in q s.more) → IsTrue (is_in q c.places)
  marked-there s q t = reach-place c place q (c.started place (is_in-head place []) (behind nursery (word_at old.blocks) place (s.unvisited q t))) (s.reached q t)

  now-is : {now : Memory} {next : ℕ} {before items : List ℕ} (s : MarksSome flag types nursery old now place next before items) → now ≡ changed (on flag) s.more old
  now-is s = s.marks.written

  -- the next one to look into
  pub next-in : {now : Memory} {next : ℕ} {before items : List ℕ} (s : MarksSome flag types nursery old now place next before items) (p : ℕ) → next < length items → p ≡ get_or items next 0
      → (s.count < length s.more) × (p ≡ get_or s.more s.count 0)
  next-in {next = next} {before = before} {items = items} s p l is =
      let size : length items ≡ length before + length s.more = ap (length {A = ℕ}) s.appended ∙ length-append before s.more in
      let at = s.next_is in
      (omega (arith, l, size, at), is ∙ ap (λ (xs : List ℕ). get_or xs next 0) s.appended ∙ ap (λ (n : ℕ). get_or (before ++ s.more) n 0) s.next_is ∙ get-behind before s.more s.count)

  pub next-behind : {now : Memory} {next : ℕ} {before items : List ℕ} (s : MarksSome flag types nursery old now place next before items) (p : ℕ) → next < length items → p ≡ get_or items next 0 → nursery < p
  next-behind s p l is =
      let m = next-in s p l is in
      behind nursery (word_at old.blocks) p (unmarked-unvisited flag nursery (word_at old.blocks) p
      (s.marks.unmarked p (subst (λ (k : ℕ). IsTrue (is_in k s.more)) (sym m.1) (in-get s.more s.count m.0))))

  pub next-whole : {now : Memory} {next : ℕ} {before items : List ℕ} (s : MarksSome flag types nursery old now place next before items) (p : ℕ) → next < length items → p ≡ get_or items next 0 → AreWhole now types nursery (p ∷ [])
  next-whole s p l is =
      let m = next-in s p l is in
      subst (λ (k : Memory). AreWhole k types nursery (p ∷ [])) (sym (now-is s))
      (whole-kept c (on flag) (on-type flag) s.more (marked-there s) (p ∷ [])
      (λ q t out. marked-there s q (subst (λ (k : ℕ). IsTrue (is_in k s.more)) (sym (in-one q p t ∙ m.1)) (in-get s.more s.count m.0))))

  pub marks_next : (now new : Memory) (next p : ℕ) (before items after : List ℕ) → MarksSome flag types nursery old now place next before items → next < length items → p ≡ get_or items next 0
      → MeetsRefs flag types nursery now new p items after → MarksSome flag types nursery old new place (next + 1) before after
  marks_next now new next p before items after s l is m =
      let at = next-in s p l is in
      let there : IsTrue (is_in p s.more) = subst (λ (k : ℕ). IsTrue (is_in k s.more)) (sym at.1) (in-get s.more s.count at.0) in
      let place_p : IsTrue (is_in p c.places) = marked-there s p there in
      let refs : refs_at types (word_at now.blocks) p ≡ refs_at types (word_at old.blocks) p =
      ap (λ (k : Memory). refs_at types (word_at k.blocks) p) (now-is s) ∙ refs-kept c (on flag) (on-type flag) s.more (marked-there s) p place_p in
      let leads : (q : ℕ) → leads_on types nursery (word_at now.blocks) p q ≡ leads_on types nursery (word_at old.blocks) p q = λ q.
      ap (λ (k : Memory). leads_on types nursery (word_at k.blocks) p q) (now-is s) ∙ leads-kept c (on flag) (on-type flag) s.more (marked-there s) (on-visited flag ne) p q place_p in
      let lasts : (q : ℕ) → has_flag (word_at now.blocks q) flag ≡ true → has_flag (word_at new.blocks q) flag ≡ true = λ q h.
      ap (λ (k : Memory). has_flag (word_at k.blocks q) flag) m.marks.written ∙ flag-lasts flag m.more now.blocks q h in
      let all : Marks flag nursery old new (s.more ++ m.more) = marks_append ne s.marks m.marks in
      record {
        more = s.more ++ m.more;
        count = s.count + 1;
        appended = m.appended ∙ ap (λ (xs : List ℕ). xs ++ m.more) s.appended ∙ append_assoc before s.more m.more;
        next_is = let e = s.next_is in omega (arith, e);
        few = let size = length-append s.more m.more in omega (arith, size, at.0);
        marks = all;
        reached = λ q t. elim (in-either q s.more m.more t) [
          | inl u ↦ s.reached q u
          | inr u ↦ joins-reaches place p q (s.reached p there) (step-reaches p q
              (both (is_in q (refs_at types (word_at old.blocks) p)) (is_unvisited nursery (word_at old.blocks) q)
              (subst (λ (rs : List ℕ). IsTrue (is_in q rs)) refs (m.referred q u))
              (unmarked-unvisited flag nursery (word_at old.blocks) q (all.unmarked q t))))
        ];
        unvisited = λ q t. s.unvisited p there;
        begun = λ u. lasts place (s.begun u);
        looked = λ k q t u.
            let front : take (s.count + 1) (s.more ++ m.more) ≡ take s.count s.more ++ get_or s.more s.count 0 ∷ [] =
            take-append-le (s.count + 1) s.more m.more (omega (arith, at.0)) ∙ take-one s.more s.count 0 at.0 in
            elim (in-either k (take s.count s.more) (get_or s.more s.count 0 ∷ []) (subst (λ (xs : List ℕ). IsTrue (is_in k xs)) front t)) [
              | inl v ↦ lasts q (s.looked k q v u)
              | inr v ↦ let e : k ≡ p = in-one k (get_or s.more s.count 0) v ∙ sym at.1 in
                  m.all q (leads q ∙ ap (λ (x : ℕ). leads_on types nursery (word_at old.blocks) x q) (sym e) ∙ u)
            ];
      }

  -- less is left to do
  pub marks_smaller : (now new : Memory) (next p : ℕ) (items after : List ℕ) → next < length items → MeetsRefs flag types nursery now new p items after
      → words_without flag new.blocks + (length after - (next + 1)) < words_without flag now.blocks + (length items - next)
  marks_smaller now new next p items after l m =
      let less = marks_less m.marks in
      let size : length after ≡ length items + length m.more = ap (length {A = ℕ}) m.appended ∙ length-append items m.more in
      omega (arith, less, size, l)

  pub marks_from : (now : Memory) (next : ℕ) (before items : List ℕ) → MarksSome flag types nursery old now place next before items → length items ≤ next → MarksFrom flag types nursery old now place before items
  marks_from now next before items s done = record {
    more = s.more;
    appended = s.appended;
    marks = s.marks;
    reached = s.reached;
    all = λ u closed q r. (along (λ k. Reaches types nursery (word_at old.blocks) place k × (has_flag (word_at now.blocks k) flag ≡ true)) (goes closed) place q (self-reaches place, s.begun u) r).1;
  }
    where
      size : length items ≡ length before + length s.more
      size = ap (length {A = ℕ}) s.appended ∙ length-append before s.more

      whole-list : take s.count s.more ≡ s.more
      whole-list = take-all s.more s.count (let e = s.next_is in let z = size in omega (arith, e, z, done))

      goes : AreClosed flag types nursery (word_at old.blocks) place → (p q : ℕ) → Reaches types nursery (word_at old.blocks) place p × (has_flag (word_at now.blocks p) flag ≡ true)
          → IsTrue (leads_on types nursery (word_at old.blocks) p q) → Reaches types nursery (word_at old.blocks) place q × (has_flag (word_at now.blocks q) flag ≡ true)
      goes closed p q h l = (
        joins-reaches place p q h.0 (step-reaches p q l),
        elim (flag-cases flag s.more old.blocks p (ap (λ (k : Memory). has_flag (word_at k.blocks p) flag) (sym (now-is s)) ∙ h.1)) [
          | inl f ↦ ap (λ (k : Memory). has_flag (word_at k.blocks q) flag) (now-is s) ∙ flag-lasts flag s.more old.blocks q (closed p q h.0 f l)
          | inr t ↦ s.looked p q (subst (λ (xs : List ℕ). IsTrue (is_in p xs)) (sym whole-list) t) l
        ],
      )
