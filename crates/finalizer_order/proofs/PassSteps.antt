-- The turns of the two passes over the dying objects.
use Rattle.std.proofs.Common.{◌≡◌, ◌≢◌, ℕ, ◌<◌, Bool, true, false, IsTrue, ◌⊎◌, List, [], ◌∷◌, ◌++◌, sym, ap, ◌∙◌, subst, inl, inr, append_assoc}
use Rattle.std.specs.Prelude.{filter, cond}
use Rattle.std.proofs.lemmas.Bool.{cases_Bool}
use Rattle.std.proofs.lemmas.List.{append-nil}
use Rattle.std.proofs.lemmas.List.Elements.{filter-append}
use Rattle.type_table.specs.declared.info.TypeInfo.{TypeInfo}
use Rattle.type_table.specs.Table.{Table}
use Rattle.heap_space.specs.Memory.{Memory}
use Rattle.heap_space.specs.Places.{has, word_at}
use Rattle.object_header.specs.Words.{has_flag}
use Rattle.object_header.specs.declared.flags.Flag.{Flag}
use Rattle.object_header.specs.declared.flags.Flag.TheVariants.{Visited, Order1, Order2}
use Rattle.object_model.specs.Sets.{is_in}
use Rattle.object_model.proofs.Members.{is_in-head, is_in-tail, is_in-cases, is_in-nil, filter-part}
use Rattle.finalizer_order.specs.Unvisited.{is_unvisited, Reaches, AreWhole, AreUnvisited}
use Rattle.finalizer_order.specs.Marking.{is_unmarked, Marks, AreClosed, MarksFrom}
use Rattle.finalizer_order.specs.Passes.{CanPass, FromOne, MarksAll, NoneLeadsLater, AreCandidates, unvisited_of, PassesFirst, PassesSecond}
use Rattle.finalizer_order.proofs.Changes.{has-changed}
use Rattle.finalizer_order.proofs.Lists.{clash, in-either, in-left, in-right, in-one}
use Rattle.finalizer_order.proofs.Objects.{self-reaches, step-reaches, joins-reaches, reach-place, has-place, unvisited-place, whole-kept, reaches-after, reaches-before}
use Rattle.finalizer_order.proofs.Marks.{on, on-type, on-visited, flag-set, flag-cases, unmarked-unvisited, unmarked-clear, marked-of, unvisited-marked, marks_none, marks_append}
use Rattle.finalizer_order.proofs.Candidates.{no_candidates, candidates_stay, candidates_grow, none_found, found_stay, found_grow}

module _ {flag : Flag} {types : Table TypeInfo} {nursery : ℕ} {old : Memory} {all_starts : List ℕ} (can : CanPass flag old types nursery all_starts) (ne : flag ≢ Visited) where
  R : ℕ → ℕ → Type 0
  R = Reaches types nursery (word_at old.blocks)

  pub all_none : MarksAll flag types nursery old old [] []
  all_none = record {
    marks = marks_none flag nursery old;
    just = λ q t. absurd (is_in-nil q t);
    all = λ q from. absurd (is_in-nil from.by from.there);
  }

  module _ {now : Memory} {starts marked : List ℕ} (m : MarksAll flag types nursery old now starts marked) (there : (h : ℕ) → IsTrue (is_in h starts) → IsTrue (is_in h can.whole.places)) where
    pub marked-place : (q : ℕ) → IsTrue (is_in q marked) → IsTrue (is_in q can.whole.places)
    marked-place q t = let from = m.just q t in reach-place can.whole from.by q (there from.by from.there) from.leads

    pub flagged-in : (q : ℕ) → IsTrue (is_in q can.whole.places) → has_flag (word_at now.blocks q) flag ≡ true → IsTrue (is_in q marked)
    flagged-in q t h = elim (flag-cases flag marked old.blocks q (ap (λ (k : Memory). has_flag (word_at k.blocks q) flag) (sym m.marks.written) ∙ h)) [
      | inl f ↦ absurd (clash (has_flag (word_at old.blocks q) flag) f (can.clear q t))
      | inr u ↦ u
    ]

    pub in-flagged : (q : ℕ) → IsTrue (is_in q marked) → has_flag (word_at now.blocks q) flag ≡ true
    in-flagged q t = ap (λ (k : Memory). has_flag (word_at k.blocks q) flag) m.marks.written ∙ flag-set flag marked old.blocks q t (m.marks.there q t)

    pub has-now : (q : ℕ) → IsTrue (is_in q can.whole.places) → IsTrue (has now.blocks q)
    has-now q t = ap (λ (k : Memory). has k.blocks q) m.marks.written ∙ (has-changed (on flag) marked old.blocks q ∙ has-place can.whole q t)

    pub unvisited-now : (q : ℕ) → is_unvisited nursery (word_at now.blocks) q ≡ is_unvisited nursery (word_at old.blocks) q
    unvisited-now q = ap (λ (k : Memory). is_unvisited nursery (word_at k.blocks) q) m.marks.written ∙ unvisited-marked flag ne nursery marked old.blocks q

    pub whole-now : (x : ℕ) → (nursery < x → IsTrue (is_in x can.whole.places)) → AreWhole now types nursery (x ∷ [])
    whole-now x in_places = subst (λ (k : Memory). AreWhole k types nursery (x ∷ [])) (sym m.marks.written)
        (whole-kept can.whole (on flag) (on-type flag) marked marked-place (x ∷ [])
        (λ p t out. let e = in-one p x t in subst (λ (k : ℕ). IsTrue (is_in k can.whole.places)) (sym e) (in_places (subst (λ (k : ℕ). nursery < k) e out))))

    -- one that is marked already: an earlier one leads to it
    pub led-to : (x : ℕ) → IsTrue (is_in x can.whole.places) → is_unvisited nursery (word_at old.blocks) x ≡ true → is_unmarked flag nursery (word_at now.blocks) x ≡ false
        → FromOne (Reaches types nursery (word_at old.blocks)) starts x
    led-to x t u n = m.just x (flagged-in x t (marked-of flag nursery (word_at now.blocks) x (unvisited-now x ∙ u) n))

    -- one that is not: none leads to it
    pub not-led : (x : ℕ) → is_unmarked flag nursery (word_at now.blocks) x ≡ true → (h : ℕ) → IsTrue (is_in h starts) → Reaches types nursery (word_at old.blocks) h x → ⊥
    not-led x u h t r = clash (has_flag (word_at now.blocks x) flag) (in-flagged x (m.all x (record { by = h; there = t; leads = r }))) (unmarked-clear flag nursery (word_at now.blocks) x u)

    pub all_stay : (x : ℕ) (more : List ℕ) → FromOne (Reaches types nursery (word_at old.blocks)) starts x
        → ((h : ℕ) → IsTrue (is_in h more) → (h ≡ x) ⊎ IsTrue (is_in h starts)) → ((h : ℕ) → IsTrue (is_in h starts) → IsTrue (is_in h more)) → MarksAll flag types nursery old now more marked
    all_stay x more from cases part = record {
      marks = m.marks;
      just = λ q t. let f = m.just q t in record { by = f.by; there = part f.by f.there; leads = f.leads };
      all = λ q f. elim (cases f.by f.there) [
        | inl e ↦ m.all q (record { by = from.by; there = from.there; leads = joins-reaches from.by x q from.leads (subst (λ (k : ℕ). Reaches types nursery (word_at old.blocks) k q) e f.leads) })
        | inr u ↦ m.all q (record { by = f.by; there = u; leads = f.leads })
      ];
    }

    pub all_next : (new : Memory) (x : ℕ) (more after : List ℕ) → IsTrue (is_in x can.whole.places) → is_unvisited nursery (word_at old.blocks) x ≡ true
        → MarksFrom flag types nursery now new x marked after
        → ((h : ℕ) → IsTrue (is_in h more) → (h ≡ x) ⊎ IsTrue (is_in h starts)) → ((h : ℕ) → IsTrue (is_in h starts) → IsTrue (is_in h more)) → IsTrue (is_in x more)
        → MarksAll flag types nursery old new more after
    all_next new x more after t u f cases part here = subst (λ (ms : List ℕ). MarksAll flag types nursery old new more ms) (sym f.appended) (record {
      marks = marks;
      just = λ q v. elim (in-either q marked f.more v) [
        | inl a ↦ let g = m.just q a in record { by = g.by; there = part g.by g.there; leads = g.leads }
        | inr b ↦ record { by = x; there = here; leads = back x q t (f.reached q b) }
      ];
      all = λ q g. elim (cases g.by g.there) [
        | inl e ↦
            let r : Reaches types nursery (word_at old.blocks) x q = subst (λ (k : ℕ). Reaches types nursery (word_at old.blocks) k q) e g.leads in
            let flagged : has_flag (word_at new.blocks q) flag ≡ true = f.all (unvisited-now x ∙ u) closed q (forth x q t r) in
            elim (flag-cases flag (marked ++ f.more) old.blocks q (ap (λ (k : Memory). has_flag (word_at k.blocks q) flag) (sym marks.written) ∙ flagged)) [
              | inl was ↦ absurd (clash (has_flag (word_at old.blocks q) flag) was (can.clear q (reach-place can.whole x q t r)))
              | inr v ↦ v
            ]
        | inr v ↦ in-left q marked f.more (m.all q (record { by = g.by; there = v; leads = g.leads }))
      ];
    })
      where
        marks : Marks flag nursery old new (marked ++ f.more)
        marks = marks_append ne m.marks f.marks

        -- paths are as they were
        back : (p q : ℕ) → IsTrue (is_in p can.whole.places) → Reaches types nursery (word_at now.blocks) p q → Reaches types nursery (word_at old.blocks) p q
        back p q t r = reaches-before can.whole (on flag) (on-type flag) marked marked-place (on-visited flag ne) p q t (subst (λ (k : Memory). Reaches types nursery (word_at k.blocks) p q) m.marks.written r)

        forth : (p q : ℕ) → IsTrue (is_in p can.whole.places) → Reaches types nursery (word_at old.blocks) p q → Reaches types nursery (word_at now.blocks) p q
        forth p q t r = subst (λ (k : Memory). Reaches types nursery (word_at k.blocks) p q) (sym m.marks.written) (reaches-after can.whole (on flag) (on-type flag) marked marked-place (on-visited flag ne) p q t r)

        -- what is marked leads to what is marked
        closed : AreClosed flag types nursery (word_at now.blocks) x
        closed p q r h l =
            let p_in : IsTrue (is_in p can.whole.places) = reach-place can.whole x p t (back x p t r) in
            let from = m.just p (flagged-in p p_in h) in
            let step : Reaches types nursery (word_at old.blocks) p q = back p q p_in (step-reaches p q l) in
            in-flagged q (m.all q (record { by = from.by; there = from.there; leads = joins-reaches from.by p q from.leads step }))

-- The first pass.

filter-yes : (test : ℕ → Bool) (xs : List ℕ) (x : ℕ) → test x ≡ true → filter test (xs ++ x ∷ []) ≡ filter test xs ++ x ∷ []
filter-yes test xs x e = filter-append test xs (x ∷ []) ∙ ap (λ (t : Bool). filter test xs ++ cond t (x ∷ []) []) e

filter-no : (test : ℕ → Bool) (xs : List ℕ) (x : ℕ) → test x ≡ false → filter test (xs ++ x ∷ []) ≡ filter test xs
filter-no test xs x e = filter-append test xs (x ∷ []) ∙ ap (λ (t : Bool). filter test xs ++ cond t (x ∷ []) []) e ∙ append-nil (filter test xs)

pub first_begins : (types : Table TypeInfo) (nursery : ℕ) (old : Memory) (starts : List ℕ) → CanPass Order1 old types nursery starts → PassesFirst types nursery old old [] [] []
first_begins types nursery old starts can = record {
  marks_all = all_none can (λ e. let no : ⊥ = cc in no);
  are_candidates = no_candidates (Reaches types nursery (word_at old.blocks)) self-reaches joins-reaches;
}

module _ {types : Table TypeInfo} {nursery : ℕ} {old : Memory} {registered : List ℕ} (can : CanPass Order1 old types nursery registered)
    {now : Memory} {done marked candidates : List ℕ} (f : PassesFirst types nursery old now done marked candidates) (part : (h : ℕ) → IsTrue (is_in h done) → IsTrue (is_in h registered)) where
  order : Order1 ≢ Visited
  order e = let no : ⊥ = cc in no

  dying : List ℕ
  dying = unvisited_of nursery old done

  dying-there : (h : ℕ) → IsTrue (is_in h (unvisited_of nursery old done)) → IsTrue (is_in h can.whole.places)
  dying-there h t = let p = filter-part (is_unvisited nursery (word_at old.blocks)) done h t in unvisited-place can.whole h (part h p.0) p.1

  pub first-has : (x : ℕ) → IsTrue (is_in x registered) → nursery < x → IsTrue (has now.blocks x)
  first-has x t out = has-now can order f.marks_all dying-there x (can.whole.started x t out)

  pub first-whole : (x : ℕ) → IsTrue (is_in x registered) → AreWhole now types nursery (x ∷ [])
  first-whole x t = whole-now can order f.marks_all dying-there x (can.whole.started x t)

  -- one that is visited, or marked already
  pub first_skips : (x : ℕ) → IsTrue (is_in x registered) → is_unmarked Order1 nursery (word_at now.blocks) x ≡ false → PassesFirst types nursery old now (done ++ x ∷ []) marked candidates
  first_skips x t n = elim (cases_Bool (is_unvisited nursery (word_at old.blocks) x)) [
    | inl u ↦
        let from = led-to can order f.marks_all dying-there x (unvisited-place can.whole x t u) u n in
        let more = filter-yes (is_unvisited nursery (word_at old.blocks)) done x u in
        made more (
          all_stay can order f.marks_all dying-there x (unvisited_of nursery old done ++ x ∷ []) from
              (λ h v. elim (in-either h (unvisited_of nursery old done) (x ∷ []) v) [ inl a ↦ inr a | inr b ↦ inl (in-one h x b) ])
              (λ h v. in-left h (unvisited_of nursery old done) (x ∷ []) v),
          candidates_stay (Reaches types nursery (word_at old.blocks)) self-reaches joins-reaches (unvisited_of nursery old done) candidates x f.are_candidates from,
        )
    | inr u ↦ made (filter-no (is_unvisited nursery (word_at old.blocks)) done x u) (f.marks_all, f.are_candidates)
  ]
    where
      made : {ds : List ℕ} → unvisited_of nursery old (done ++ x ∷ []) ≡ ds → MarksAll Order1 types nursery old now ds marked × AreCandidates (Reaches types nursery (word_at old.blocks)) ds candidates
          → PassesFirst types nursery old now (done ++ x ∷ []) marked candidates
      made e h = record {
        marks_all = subst (λ (ds : List ℕ). MarksAll Order1 types nursery old now ds marked) (sym e) h.0;
        are_candidates = subst (λ (ds : List ℕ). AreCandidates (Reaches types nursery (word_at old.blocks)) ds candidates) (sym e) h.1;
      }

  -- one that is unmarked is a candidate
  pub first_takes : (new : Memory) (x : ℕ) (after : List ℕ) → IsTrue (is_in x registered) → is_unmarked Order1 nursery (word_at now.blocks) x ≡ true → MarksFrom Order1 types nursery now new x marked after
      → PassesFirst types nursery old new (done ++ x ∷ []) after (candidates ++ x ∷ [])
  first_takes new x after t n g =
      let u : is_unvisited nursery (word_at old.blocks) x ≡ true = sym (unvisited-now can order f.marks_all dying-there x) ∙ unmarked-unvisited Order1 nursery (word_at now.blocks) x n in
      let e : unvisited_of nursery old (done ++ x ∷ []) ≡ unvisited_of nursery old done ++ x ∷ [] = filter-yes (is_unvisited nursery (word_at old.blocks)) done x u in
      record {
        marks_all = subst (λ (ds : List ℕ). MarksAll Order1 types nursery old new ds after) (sym e)
            (all_next can order f.marks_all dying-there new x (unvisited_of nursery old done ++ x ∷ []) after (unvisited-place can.whole x t u) u g
            (λ h v. elim (in-either h (unvisited_of nursery old done) (x ∷ []) v) [ inl a ↦ inr a | inr b ↦ inl (in-one h x b) ])
            (λ h v. in-left h (unvisited_of nursery old done) (x ∷ []) v)
            (in-right x (unvisited_of nursery old done) (x ∷ []) (is_in-head x [])));
        are_candidates = subst (λ (ds : List ℕ). AreCandidates (Reaches types nursery (word_at old.blocks)) ds (candidates ++ x ∷ [])) (sym e)
            (candidates_grow (Reaches types nursery (word_at old.blocks)) self-reaches joins-reaches (unvisited_of nursery old done) candidates x f.are_candidates
            (not-led can order f.marks_all dying-there x n));
      }

-- The second pass: those behind were seen.
pub record SecondSome (types : Table TypeInfo) (nursery : ℕ) (old now : Memory) (candidates early again found : List ℕ) : Type 0 where
  pub later : List ℕ
  pub split : candidates ≡ early ++ later
  pub passed : PassesSecond types nursery old now later again found

pub second_begins : (types : Table TypeInfo) (nursery : ℕ) (old : Memory) (candidates : List ℕ) → CanPass Order2 old types nursery candidates → SecondSome types nursery old old candidates candidates [] []
second_begins types nursery old candidates can = record {
  later = [];
  split = sym (append-nil candidates);
  passed = record {
    marks_all = all_none can (λ e. let no : ⊥ = cc in no);
    are_found = none_found (Reaches types nursery (word_at old.blocks)) self-reaches joins-reaches;
  };
}

none-behind : (R : ℕ → ℕ → Type 0) (xs : List ℕ) (x : ℕ) (ys : List ℕ) → NoneLeadsLater R (xs ++ x ∷ ys) → (y : ℕ) → IsTrue (is_in y ys) → R x y → ⊥
none-behind R [] x ys n y t r = n.0 y t r
none-behind R (z ∷ xs) x ys n y t r = none-behind R xs x ys n.1 y t r

module _ {types : Table TypeInfo} {nursery : ℕ} {old : Memory} {candidates : List ℕ} (can : CanPass Order2 old types nursery candidates)
    (unvisited : AreUnvisited nursery (word_at old.blocks) candidates) (none_later : NoneLeadsLater (Reaches types nursery (word_at old.blocks)) candidates)
    {now : Memory} {early again found : List ℕ} (rest : List ℕ) (x : ℕ) (s : SecondSome types nursery old now candidates early again found) (popped : early ≡ rest ++ x ∷ []) where
  order2 : Order2 ≢ Visited
  order2 e = let no : ⊥ = cc in no

  divided : candidates ≡ rest ++ x ∷ s.later
  divided = s.split ∙ ap (λ (es : List ℕ). es ++ s.later) popped ∙ append_assoc rest (x ∷ []) s.later

  x-in : IsTrue (is_in x candidates)
  x-in = subst (λ (cs : List ℕ). IsTrue (is_in x cs)) (sym divided) (in-right x rest (x ∷ s.later) (is_in-head x s.later))

  later-in : (h : ℕ) → IsTrue (is_in h s.later) → IsTrue (is_in h candidates)
  later-in h t = subst (λ (cs : List ℕ). IsTrue (is_in h cs)) (sym divided) (in-right h rest (x ∷ s.later) (is_in-tail h x s.later t))

  later-there : (h : ℕ) → IsTrue (is_in h s.later) → IsTrue (is_in h can.whole.places)
  later-there h t = unvisited-place can.whole h (later-in h t) (unvisited h (later-in h t))

  x-there : IsTrue (is_in x can.whole.places)
  x-there = unvisited-place can.whole x x-in (unvisited x x-in)

  none-x : (y : ℕ) → IsTrue (is_in y s.later) → Reaches types nursery (word_at old.blocks) x y → ⊥
  none-x = none-behind (Reaches types nursery (word_at old.blocks)) rest x s.later (subst (NoneLeadsLater (Reaches types nursery (word_at old.blocks))) divided none_later)

  pub second-has : nursery < x → IsTrue (has now.blocks x)
  second-has out = has-now can order2 s.passed.marks_all later-there x x-there

  pub second-whole : AreWhole now types nursery (x ∷ [])
  second-whole = whole-now can order2 s.passed.marks_all later-there x (λ out. x-there)

  more-cases : (h : ℕ) → IsTrue (is_in h (x ∷ s.later)) → (h ≡ x) ⊎ IsTrue (is_in h s.later)
  more-cases h t = is_in-cases h x s.later t

  -- one that is marked already
  pub second_skips : is_unmarked Order2 nursery (word_at now.blocks) x ≡ false → SecondSome types nursery old now candidates rest again found
  second_skips n =
      let from = led-to can order2 s.passed.marks_all later-there x x-there (unvisited x x-in) n in
      record {
        later = x ∷ s.later;
        split = divided;
        passed = record {
          marks_all = all_stay can order2 s.passed.marks_all later-there x (x ∷ s.later) from more-cases (λ h t. is_in-tail h x s.later t);
          are_found = found_stay (Reaches types nursery (word_at old.blocks)) self-reaches joins-reaches s.later found x s.passed.are_found none-x from;
        };
      }

  -- one that is unmarked is found
  pub second_takes : (new : Memory) (after : List ℕ) → is_unmarked Order2 nursery (word_at now.blocks) x ≡ true → MarksFrom Order2 types nursery now new x again after
      → SecondSome types nursery old new candidates rest after (found ++ x ∷ [])
  second_takes new after n g = record {
    later = x ∷ s.later;
    split = divided;
    passed = record {
      marks_all = all_next can order2 s.passed.marks_all later-there new x (x ∷ s.later) after x-there (unvisited x x-in) g more-cases (λ h t. is_in-tail h x s.later t) (is_in-head x s.later);
      are_found = found_grow (Reaches types nursery (word_at old.blocks)) self-reaches joins-reaches s.later found x s.passed.are_found none-x (not-led can order2 s.passed.marks_all later-there x n);
    };
  }

pub second_ends : {types : Table TypeInfo} {nursery : ℕ} {old now : Memory} {candidates early again found : List ℕ} → SecondSome types nursery old now candidates early again found → early ≡ []
    → PassesSecond types nursery old now candidates again found
second_ends {types = types} {nursery = nursery} {old = old} {now = now} {again = again} {found = found} s none =
    subst (λ (cs : List ℕ). PassesSecond types nursery old now cs again found) (sym (s.split ∙ ap (λ (es : List ℕ). es ++ s.later) none)) s.passed
