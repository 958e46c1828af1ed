-- What all passes together leave.
use Rattle.std.proofs.Common.{◌≡◌, ◌≢◌, ℕ, ◌+◌, ◌<◌, Bool, true, false, IsTrue, ◌⊎◌, ◌==◌, List, [], ◌∷◌, refl, sym, ap, ◌∙◌, subst, inl, inr, arith}
use Rattle.std.specs.Prelude.{◌&&◌, ◌||◌, not, nat_lt, filter, ◌↔◌}
use Rattle.std.proofs.lemmas.Bool.{cases_Bool}
use Rattle.std.proofs.lemmas.Bool.Decides.{eqb_tells, nat_tests}
use Rattle.type_table.specs.declared.info.TypeInfo.{TypeInfo}
use Rattle.type_table.specs.Table.{Table}
use Rattle.heap_space.specs.Memory.{Memory}
use Rattle.heap_space.specs.Places.{has, word_at, lies_in_one}
use Rattle.object_header.specs.Words.{has_flag, with_flag, without_flag}
use Rattle.object_header.specs.declared.flags.Flag.TheVariants.{Visited, Order1, Order2}
use Rattle.object_header.proofs.WordLaws.{has_flag-without_flag_same, has_flag-without_flag_other}
use Rattle.object_model.specs.Sets.{is_in}
use Rattle.object_model.specs.ObjectWords.{words_at}
use Rattle.object_view.proofs.LayoutLaws.{laid_out}
use Rattle.object_view.proofs.InitLaws.{lies-part}
use Rattle.object_model.proofs.Members.{is_in-head, is_in-tail, map-same, filter-part, filter-member}
use Rattle.finalizer_order.specs.Unvisited.{is_unvisited, Reaches, AreUnvisited}
use Rattle.finalizer_order.specs.Changes.{changed_at, visited_at}
use Rattle.finalizer_order.specs.Choosing.{is_dying, stands_before, IsChosen, IsKept, CanChoose}
use Rattle.finalizer_order.specs.Marking.{marked_at}
use Rattle.finalizer_order.specs.Passes.{CanPass, FromOne, NoneLeadsLater, AreFound, unvisited_of, PassesFirst, PassesSecond, is_ordered, settled_word, HasPassed}
use Rattle.finalizer_order.proofs.Changes.{has-changed, lies-changed, keeps-changed, untouched, touched, absorbs, agree}
use Rattle.finalizer_order.proofs.Lists.{clash}
use Rattle.finalizer_order.proofs.Objects.{changed, both, first, second, not_true, not_false, behind, self-reaches, joins-reaches, has-place, unvisited-place, whole-kept, reaches-after, reaches-before}
use Rattle.finalizer_order.proofs.Marks.{on, on-type, on-visited, flag-set, flag-cases, other-flag, unvisited-marked}
use Rattle.finalizer_order.proofs.Candidates.{front-other, first-none, found_gives_way, found_all}
use Rattle.finalizer_order.proofs.PassSteps.{marked-place}
use Rattle.finalizer_order.proofs.FlagWords.{settles-off1, settles-on1, settles-on2, settles-clear, clear-visited, IsClear}

-- a weaker way to lead

none-weaker : (R S : ℕ → ℕ → Type 0) (cs : List ℕ) → ((x y : ℕ) → IsTrue (is_in x cs) → S x y → R x y) → NoneLeadsLater R cs → NoneLeadsLater S cs
none-weaker R S [] back n = tt
none-weaker R S (c ∷ cs) back n = (λ y t r. n.0 y t (back c y (is_in-head c cs) r), none-weaker R S cs (λ x y t r. back x y (is_in-tail x c cs t) r) n.1)

found-same : (R S : ℕ → ℕ → Type 0) (cs found : List ℕ) → ((x y : ℕ) → IsTrue (is_in x cs) → S x y → R x y) → ((x y : ℕ) → IsTrue (is_in x cs) → R x y → S x y)
    → AreFound R cs found → AreFound S cs found
found-same R S cs found back forth f = record {
  candidate = f.candidate;
  first = λ x h t u ne r. f.first x h t u ne (back h x u r);
  all = λ x t n. f.all x t (λ h u ne r. n h u ne (forth h x u r));
}

-- what stands in front among those that pass
front-passed : (test : ℕ → Bool) (a b : ℕ) → test a ≡ true → test b ≡ true → (xs : List ℕ) → stands_before a b (filter test xs) ≡ stands_before a b xs
front-passed test a b ta tb [] = refl
front-passed test a b ta tb (x ∷ xs) = go (front-passed test a b ta tb xs) (test x) refl (eqb_tells x b)
  where
    apart : (y : ℕ) → test y ≡ true → test x ≡ false → x ≢ y
    apart y t n e = clash (test y) t (ap test (sym e) ∙ n)

    go : stands_before a b (filter test xs) ≡ stands_before a b xs → (t : Bool) → test x ≡ t → (((x == b) ≡ true) × (x ≡ b)) ⊎ (((x == b) ≡ false) × (x ≢ b))
        → stands_before a b (filter test (x ∷ xs)) ≡ stands_before a b (x ∷ xs)
    go more true t (inl e) = rw t (first-none a b x (filter test xs) e.1 ∙ sym (first-none a b x xs e.1))
    go more true t (inr e) = rw t (front-other a b x (filter test xs) e.1 ∙ ap (λ (k : Bool). x == a || k) more ∙ sym (front-other a b x xs e.1))
    go more false t (inl e) = absurd (apart b tb t e.1)
    go more false t (inr e) = rw t (more ∙ sym (front-other a b x xs e.1 ∙ ap (λ (k : Bool). k || stands_before a b xs) (other (eqb_tells x a))))
      where
        other : (((x == a) ≡ true) × (x ≡ a)) ⊎ (((x == a) ≡ false) × (x ≢ a)) → (x == a) ≡ false
        other (inl e) = absurd (apart a ta t e.1)
        other (inr e) = e.0

-- the change that takes Order1 off
abbrev pub off1 : ℕ → ℕ
off1 word = without_flag word Order1

abbrev pub can_first : {types : Table TypeInfo} {nursery : ℕ} {old : Memory} {registered : List ℕ} → CanChoose old types nursery registered → CanPass Order1 old types nursery registered
can_first c = record { whole = c.whole; clear = c.clear1 }

module _ {types : Table TypeInfo} {nursery : ℕ} {old one : Memory} {registered marked candidates : List ℕ} (c : CanChoose old types nursery registered)
    (f : PassesFirst types nursery old one registered marked candidates) where
  w : ℕ → ℕ
  w = word_at old.blocks

  ds : List ℕ
  ds = unvisited_of nursery old registered

  ne1 : Order1 ≢ Visited
  ne1 e = let no : ⊥ = cc in no

  pub dying-part : (x : ℕ) → IsTrue (is_in x (unvisited_of nursery old registered)) → IsTrue (is_in x registered) × (is_unvisited nursery (word_at old.blocks) x ≡ true)
  dying-part x t = filter-part (is_unvisited nursery (word_at old.blocks)) registered x t

  pub dying-place : (x : ℕ) → IsTrue (is_in x (unvisited_of nursery old registered)) → IsTrue (is_in x c.whole.places)
  dying-place x t = let p = dying-part x t in unvisited-place c.whole x p.0 p.1

  pub marked-in : (q : ℕ) → IsTrue (is_in q marked) → IsTrue (is_in q c.whole.places)
  marked-in = marked-place (can_first c) ne1 f.marks_all dying-place

  pub candidate-dying : (x : ℕ) → IsTrue (is_in x candidates) → IsTrue (is_in x (unvisited_of nursery old registered))
  candidate-dying = f.are_candidates.dying_ones

  pub candidate-place : (x : ℕ) → IsTrue (is_in x candidates) → IsTrue (is_in x c.whole.places)
  candidate-place x t = dying-place x (candidate-dying x t)

  one-is : one ≡ changed (on Order1) marked old
  one-is = f.marks_all.marks.written

  pub back1 : (p q : ℕ) → IsTrue (is_in p c.whole.places) → Reaches types nursery (word_at one.blocks) p q → Reaches types nursery (word_at old.blocks) p q
  back1 p q t r = reaches-before c.whole (on Order1) (on-type Order1) marked marked-in (on-visited Order1 ne1) p q t (subst (λ (k : Memory). Reaches types nursery (word_at k.blocks) p q) one-is r)

  pub forth1 : (p q : ℕ) → IsTrue (is_in p c.whole.places) → Reaches types nursery (word_at old.blocks) p q → Reaches types nursery (word_at one.blocks) p q
  forth1 p q t r = subst (λ (k : Memory). Reaches types nursery (word_at k.blocks) p q) (sym one-is) (reaches-after c.whole (on Order1) (on-type Order1) marked marked-in (on-visited Order1 ne1) p q t r)

  -- what the second pass asks for
  can-changed : CanPass Order2 (changed (on Order1) marked old) types nursery candidates
  unfolding whole-kept
  can-changed = record {
    whole = whole-kept c.whole (on Order1) (on-type Order1) marked marked-in candidates (λ p t out. candidate-place p t);
    clear = λ p t. other-flag Order1 Order2 (λ e. let no : ⊥ = cc in no) marked old.blocks p ∙ c.clear2 p t;
  }

  pub can_second : CanPass Order2 one types nursery candidates
  can_second = subst (λ (k : Memory). CanPass Order2 k types nursery candidates) (sym one-is) can-changed

  pub second_unvisited : AreUnvisited nursery (word_at one.blocks) candidates
  second_unvisited p t = ap (λ (k : Memory). is_unvisited nursery (word_at k.blocks) p) one-is ∙ (unvisited-marked Order1 ne1 nursery marked old.blocks p ∙ (dying-part p (candidate-dying p t)).1)

  pub second_none_later : NoneLeadsLater (Reaches types nursery (word_at one.blocks)) candidates
  second_none_later = none-weaker (Reaches types nursery (word_at old.blocks)) (Reaches types nursery (word_at one.blocks)) candidates (λ x y t r. back1 x y (candidate-place x t) r) f.are_candidates.none_later

  module _ {two : Memory} {again found : List ℕ} (s : PassesSecond types nursery one two candidates again found) where
    found-place : (x : ℕ) → IsTrue (is_in x found) → IsTrue (is_in x c.whole.places)
    found-place x t = candidate-place x (s.are_found.candidate x t)

    two-is : two ≡ changed (on Order2) again (changed (on Order1) marked old)
    two-is = s.marks_all.marks.written ∙ ap (changed (on Order2) again) one-is

    pub has-two : (p : ℕ) → IsTrue (is_in p c.whole.places) → has two.blocks p ≡ true
    has-two p t = ap (λ (k : Memory). has k.blocks p) two-is ∙ has-changed (on Order2) again (marked_at Order1 marked old.blocks) p ∙ has-changed (on Order1) marked old.blocks p ∙ has-place c.whole p t

    pub found-has : (p : ℕ) → IsTrue (is_in p found) → IsTrue (has two.blocks p)
    found-has p t = has-two p (found-place p t)

    -- found objects are marked again, and these were marked
    again-from : (q : ℕ) → IsTrue (is_in q again) → FromOne (Reaches types nursery (word_at old.blocks)) (unvisited_of nursery old registered) q
    again-from q t = let g = s.marks_all.just q t in record { by = g.by; there = candidate-dying g.by g.there; leads = back1 g.by q (candidate-place g.by g.there) g.leads }

    again-marked : (q : ℕ) → IsTrue (is_in q again) → IsTrue (is_in q marked)
    again-marked q t = f.marks_all.all q (again-from q t)

    found-again : (x : ℕ) → IsTrue (is_in x found) → IsTrue (is_in x again)
    found-again x t = s.marks_all.all x (record { by = x; there = s.are_found.candidate x t; leads = self-reaches x })

    found-marked : (x : ℕ) → IsTrue (is_in x found) → IsTrue (is_in x marked)
    found-marked x t = again-marked x (found-again x t)

    -- what is found is what is chosen
    found-old : AreFound (Reaches types nursery (word_at old.blocks)) candidates found
    found-old = found-same (Reaches types nursery (word_at one.blocks)) (Reaches types nursery (word_at old.blocks)) candidates found
        (λ x y t r. forth1 x y (candidate-place x t) r) (λ x y t r. back1 x y (candidate-place x t) r) s.are_found

    dying-of : (x : ℕ) → IsTrue (is_in x (unvisited_of nursery old registered)) → IsTrue (is_dying nursery (word_at old.blocks) registered x)
    dying-of x t = let p = dying-part x t in both (is_in x registered) (is_unvisited nursery (word_at old.blocks) x) p.0 p.1

    of-dying : (x : ℕ) → IsTrue (is_dying nursery (word_at old.blocks) registered x) → IsTrue (is_in x (unvisited_of nursery old registered))
    of-dying x t = filter-member (is_unvisited nursery (word_at old.blocks)) registered x
        (first (is_in x registered) (is_unvisited nursery (word_at old.blocks) x) t) (second (is_in x registered) (is_unvisited nursery (word_at old.blocks) x) t)

    front : (h x : ℕ) → IsTrue (is_in h (unvisited_of nursery old registered)) → IsTrue (is_in x (unvisited_of nursery old registered))
        → stands_before h x (unvisited_of nursery old registered) ≡ stands_before h x registered
    front h x t u = front-passed (is_unvisited nursery (word_at old.blocks)) h x (dying-part h t).1 (dying-part x u).1 registered

    tells_chosen : (x : ℕ) → IsTrue (is_in x found) ↔ IsChosen types nursery (word_at old.blocks) registered x
    tells_chosen x = (
      λ t.
          let g = found_gives_way (Reaches types nursery (word_at old.blocks)) self-reaches joins-reaches (unvisited_of nursery old registered) candidates found f.are_candidates found-old x t in
          record {
            dying = dying-of x g.0;
            gives_way = λ h ne d r.
                let there = of-dying h d in let y = g.1 h ne there r in (y.0, sym (front h x there g.0) ∙ y.1);
          },
      λ ch.
          let there = of-dying x ch.dying in
          found_all (Reaches types nursery (word_at old.blocks)) self-reaches joins-reaches (unvisited_of nursery old registered) candidates found f.are_candidates found-old x there
          (λ h ne t r. let y = ch.gives_way h ne (dying-of h t) r in (y.0, front h x t there ∙ y.1)),
    )

    tells_kept : (q : ℕ) → IsTrue (is_in q marked) ↔ IsKept types nursery (word_at old.blocks) registered q
    tells_kept q = (
      λ t. let g = f.marks_all.just q t in record { by = g.by; dying = dying-of g.by g.there; reaches = g.leads },
      λ k. f.marks_all.all q (record { by = k.by; there = of-dying k.by k.dying; leads = k.reaches }),
    )

    -- the flags afterwards
    last : Memory
    last = changed off1 found two

    order2-last : (p : ℕ) → has_flag (word_at (changed_at off1 found two.blocks) p) Order2 ≡ has_flag (word_at two.blocks p) Order2
    order2-last p = keeps-changed (λ k. has_flag k Order2) off1 (λ k. has_flag-without_flag_other k Order1 Order2 (λ e. let no : ⊥ = cc in no)) found two.blocks p

    order2-two : (p : ℕ) → IsTrue (is_in p c.whole.places) → has_flag (word_at two.blocks p) Order2 ≡ true → IsTrue (is_in p again)
    order2-two p t h = elim (flag-cases Order2 again one.blocks p (ap (λ (k : Memory). has_flag (word_at k.blocks p) Order2) (sym s.marks_all.marks.written) ∙ h)) [
      | inl was ↦ absurd (clash (has_flag (word_at one.blocks p) Order2) was
          (ap (λ (k : Memory). has_flag (word_at k.blocks p) Order2) one-is ∙ other-flag Order1 Order2 (λ e. let no : ⊥ = cc in no) marked old.blocks p ∙ c.clear2 p t))
      | inr u ↦ u
    ]

    two-order2 : (p : ℕ) → IsTrue (is_in p again) → has_flag (word_at two.blocks p) Order2 ≡ true
    two-order2 p t = ap (λ (k : Memory). has_flag (word_at k.blocks p) Order2) s.marks_all.marks.written ∙ flag-set Order2 again one.blocks p t (s.marks_all.marks.there p t)

    order1-two : (p : ℕ) → IsTrue (is_in p marked) → has_flag (word_at two.blocks p) Order1 ≡ true
    order1-two p t =
        ap (λ (k : Memory). has_flag (word_at k.blocks p) Order1) s.marks_all.marks.written
        ∙ other-flag Order2 Order1 (λ e. let no : ⊥ = cc in no) again one.blocks p
        ∙ ap (λ (k : Memory). has_flag (word_at k.blocks p) Order1) one-is
        ∙ flag-set Order1 marked old.blocks p t (f.marks_all.marks.there p t)

    found-ordered : (p : ℕ) → IsTrue (is_in p found) → is_ordered nursery (word_at (changed_at off1 found two.blocks)) p ≡ true
    found-ordered p t =
        let out : nat_lt nursery p ≡ true = (let l = behind nursery (word_at old.blocks) p (dying-part p (candidate-dying p (s.are_found.candidate p t))).1 in grind (arith, nat_tests)) in
        let two_on : has_flag (word_at (changed_at off1 found two.blocks) p) Order2 ≡ true = order2-last p ∙ two-order2 p (found-again p t) in
        let one_off : has_flag (word_at (changed_at off1 found two.blocks) p) Order1 ≡ false =
        touched (λ k. has_flag k Order1 ≡ false) off1 (λ k. has_flag-without_flag_same k Order1) found two.blocks p t (found-has p t) in
        both (nat_lt nursery p) _ out (both (has_flag (word_at (changed_at off1 found two.blocks) p) Order2) _ two_on (not_false (has_flag (word_at (changed_at off1 found two.blocks) p) Order1) one_off))

    ordered-found : (p : ℕ) → IsTrue (is_in p registered) → is_in p found ≡ false → is_ordered nursery (word_at (changed_at off1 found two.blocks)) p ≡ false
    ordered-found p t n = elim (cases_Bool (is_ordered nursery (word_at (changed_at off1 found two.blocks)) p)) [
      | inl o ↦ absurd (
          let v : ℕ → ℕ = word_at (changed_at off1 found two.blocks) in
          let out : nat_lt nursery p ≡ true = first (nat_lt nursery p) (has_flag (v p) Order2 && not (has_flag (v p) Order1)) o in
          let rest : (has_flag (v p) Order2 && not (has_flag (v p) Order1)) ≡ true = second (nat_lt nursery p) (has_flag (v p) Order2 && not (has_flag (v p) Order1)) o in
          let l : nursery < p = grind (arith, nat_tests) in
          let there : IsTrue (is_in p c.whole.places) = c.whole.started p t l in
          let in_again : IsTrue (is_in p again) = order2-two p there (sym (order2-last p) ∙ first (has_flag (v p) Order2) (not (has_flag (v p) Order1)) rest) in
          let one_off : has_flag (v p) Order1 ≡ false = not_true (has_flag (v p) Order1) (second (has_flag (v p) Order2) (not (has_flag (v p) Order1)) rest) in
          let one_on : has_flag (v p) Order1 ≡ true = ap (λ (k : ℕ). has_flag k Order1) (untouched off1 found two.blocks p n) ∙ order1-two p (again-marked p in_again) in
          clash (has_flag (v p) Order1) one_on one_off)
      | inr f ↦ f
    ]

    -- births stay
    second-word : (p : ℕ) → IsTrue (is_in p c.whole.places) → (qs : List ℕ) → ((q : ℕ) → IsTrue (is_in q qs) → IsTrue (is_in q c.whole.places)) → is_in (p + 1) qs ≡ false
    second-word p t qs part = elim (cases_Bool (is_in (p + 1) qs)) [
      | inl u ↦ absurd (
          let size = (laid_out types (word_at old.blocks) p).header in
          let more = (laid_out types (word_at old.blocks) (p + 1)).header in
          let e : p ≡ p + 1 = c.whole.apart p (p + 1) (p + 1) t (part (p + 1) u) (omega arith, omega (arith, size)) (omega arith, omega (arith, more)) in
          let no : ⊥ = omega (arith, e) in no)
      | inr n ↦ n
    ]

    birth-last : (p : ℕ) → IsTrue (is_in p c.whole.places) → word_at (changed_at off1 found two.blocks) (p + 1) ≡ word_at old.blocks (p + 1)
    birth-last p t =
        untouched off1 found two.blocks (p + 1) (second-word p t found found-place)
        ∙ ap (λ (k : Memory). word_at k.blocks (p + 1)) two-is
        ∙ untouched (on Order2) again (marked_at Order1 marked old.blocks) (p + 1) (second-word p t again (λ q u. marked-in q (again-marked q u)))
        ∙ untouched (on Order1) marked old.blocks (p + 1) (second-word p t marked marked-in)

    lies-last : (p : ℕ) → IsTrue (is_in p c.whole.places) → lies_in_one (changed_at off1 found two.blocks) p 2 ≡ true
    lies-last p t =
        let size = (laid_out types (word_at old.blocks) p).header in
        lies-changed off1 found two.blocks p 2
        ∙ ap (λ (k : Memory). lies_in_one k.blocks p 2) two-is
        ∙ lies-changed (on Order2) again (marked_at Order1 marked old.blocks) p 2
        ∙ lies-changed (on Order1) marked old.blocks p 2
        ∙ lies-part old.blocks p (words_at types (word_at old.blocks) p) p 2 (c.whole.whole p t).whole (omega arith) (omega (arith, size))

    settles-last : changed_at settled_word marked (changed_at off1 found two.blocks) ≡ visited_at marked old.blocks
    settles-last =
        absorbs settled_word off1 settles-off1 marked found two.blocks found-marked found-has
        ∙ ap (λ (k : Memory). changed_at settled_word marked k.blocks) two-is
        ∙ absorbs settled_word (on Order2) settles-on2 marked again (marked_at Order1 marked old.blocks) again-marked
        (λ q t. has-changed (on Order1) marked old.blocks q ∙ has-place c.whole q (marked-in q (again-marked q t)))
        ∙ absorbs settled_word (on Order1) settles-on1 marked marked old.blocks (λ q t. t) (λ q t. has-place c.whole q (marked-in q t))
        ∙ agree settled_word (λ k. with_flag k Visited) IsClear settles-clear clear-visited marked old.blocks
        (λ p t. record { no_order1 = c.clear1 p (marked-in p t); no_order2 = c.clear2 p (marked-in p t) })

    rest-last : changed off1 found two ≡ record old { blocks = changed_at off1 found two.blocks }
    rest-last = ap (λ (k : Memory). record k { blocks = changed_at off1 found two.blocks }) two-is

    pub has_passed : HasPassed types nursery old (changed off1 found two) registered marked
    has_passed = record {
      once = f.marks_all.marks.once;
      just = tells_kept;
      found = found;
      tells = tells_chosen;
      ordered = λ p t. elim (cases_Bool (is_in p found)) [
        | inl u ↦ found-ordered p u ∙ sym u
        | inr n ↦ ordered-found p t n ∙ sym n
      ];
      there = λ p t out. has-changed off1 found two.blocks p ∙ has-two p (c.whole.started p t out);
      heads = record {
        lies = λ p t. lies-last p (marked-in p t);
        apart = λ p t. second-word p (marked-in p t) marked marked-in;
      };
      births = map-same (λ p. word_at (changed_at off1 found two.blocks) (p + 1)) (λ p. word_at old.blocks (p + 1)) marked (λ p t. birth-last p (marked-in p t));
      rest = rest-last;
      settles = settles-last;
    }
