-- A page leaves its list, changes, and goes on another.
use Rattle.std.proofs.Common.{◌≡◌, ◌≢◌, ℕ, ◌+◌, ◌<◌, ◌≤◌, ◌⊎◌, inl, inr, cond, ◌==◌, List, [], ◌∷◌, ◌++◌, length, length-append, slice_index, arith, refl, sym, ◌∙◌, ap, subst}
use Rattle.std.proofs.lemmas.Bool.Decides.{eqb_tells, nat_tests}
use Rattle.size_pages.specs.PageWords.{Words}
use Rattle.size_pages.specs.LiveBlocks.{page_at}
use Rattle.size_pages.specs.PageLists.{EachPlace, IsIn, AreDistinct, first_of_list, last_or, Linked, IsPage, list_number, list_of, IsRight, IsListedRightly, ListsFit, Unlinks, Links, SameSigns}
use Rattle.size_pages.proofs.FitLaws.{pages_apart}
use Rattle.size_pages.proofs.ListLaws.{places_map, places_both, places_without, distinct_without, distinct_other, Cut, cut_at, still_in, linked_behind, linked_front, IsKept, linked_apart, linked_without}

-- the list s becomes xs
abbrev pub updated : (ℕ → List ℕ) → ℕ → List ℕ → ℕ → List ℕ
updated lists s xs t = cond (t == s) xs (lists t)

pub updated_here : (lists : ℕ → List ℕ) (s : ℕ) (xs : List ℕ) (t : ℕ) → t ≡ s → updated lists s xs t ≡ xs
updated_here lists s xs t e = grind (arith, nat_tests)

pub updated_else : (lists : ℕ → List ℕ) (s : ℕ) (xs : List ℕ) (t : ℕ) → t ≢ s → updated lists s xs t ≡ lists t
updated_else lists s xs t e = grind (arith, nat_tests)

pub updated_by : (P : ℕ → List ℕ → Type 0) (lists : ℕ → List ℕ) (s : ℕ) (xs : List ℕ) → P s xs → ((t : ℕ) → t ≢ s → P t (lists t)) → (t : ℕ) → P t (updated lists s xs t)
updated_by P lists s xs here others t = elim (eqb_tells t s) [
  | inl a ↦ subst (λ (ys : List ℕ). P t ys) (sym (updated_here lists s xs t a.1)) (subst (λ (r : ℕ). P r xs) (sym a.1) here)
  | inr b ↦ subst (λ (ys : List ℕ). P t ys) (sym (updated_else lists s xs t b.1)) (others t b.1)
]

-- header words of pages differ where their numbers do
pub page_words : (size count x y i j : ℕ) → 64 ≤ size → IsPage size count x → (y ≡ 0) ⊎ IsPage size count y → i < 8 → j < 8 → i ≢ j → x + i ≢ y + j
page_words size count x y i j wide px py si sj n e =
    let at : x ≡ page_at size px.number = px.is in
    elim py [
      | inl z ↦ omega arith
      | inr q ↦ let to : y ≡ page_at size q.number = q.is in
          elim (eqb_tells px.number q.number) [
            | inl a ↦ let same : page_at size px.number ≡ page_at size q.number = ap (page_at size) a.1 in omega arith
            | inr b ↦ elim (pages_apart size px.number q.number b.1) [ inl c ↦ omega arith | inr d ↦ omega arith ]
          ]
    ]

pub not_zero : (size count x : ℕ) → IsPage size count x → x ≢ 0
not_zero size count x px e = let at : x ≡ page_at size px.number = px.is in omega arith

pub first_page : (size count : ℕ) (xs : List ℕ) → EachPlace (IsPage size count) xs → (first_of_list xs ≡ 0) ⊎ IsPage size count (first_of_list xs)
first_page size count [] all = inl refl
first_page size count (x ∷ xs) all = inr all.0

pub last_page : (size count at : ℕ) (bs rest : List ℕ) → (at ≡ 0) ⊎ IsPage size count at → EachPlace (IsPage size count) (bs ++ rest) → (last_or at bs ≡ 0) ⊎ IsPage size count (last_or at bs)
last_page size count at [] rest h all = h
last_page size count at (b ∷ bs) rest h all = last_page size count b bs rest (inr all.0) all.1

pub rest_first : (size count p : ℕ) (bs rest : List ℕ) → EachPlace (IsPage size count) (bs ++ p ∷ rest) → (first_of_list rest ≡ 0) ⊎ IsPage size count (first_of_list rest)
rest_first size count p [] rest all = first_page size count rest all.1
rest_first size count p (b ∷ bs) rest all = rest_first size count p bs rest all.1

pub same_list : (old new : Words) (p : ℕ) → new p ≡ old p → new (p + 6) ≡ old (p + 6) → list_of new p ≡ list_of old p
same_list old new p a b = ap (λ (k : ℕ). list_number k (new p)) b ∙ ap (λ (c : ℕ). list_number (old (p + 6)) c) a

-- the words that tell whether a page has room are the same
pub right_words : (kind : ℕ) (old new : Words) (size p : ℕ) → new p ≡ old p → new (p + 1) ≡ old (p + 1) → new (p + 2) ≡ old (p + 2) → new (p + 3) ≡ old (p + 3) → IsRight kind old size p → IsRight kind new size p
right_words kind old new size p class chain count fresh h = record {
  known = h.known;
  unused = λ e. class ∙ h.unused e;
  used = λ e. let two : 2 ≤ old p = h.used e in omega arith;
  room = λ e. elim (h.room e) [ inl a ↦ inl (λ z. a (sym chain ∙ z)) | inr b ↦ inr (omega arith) ];
  full = λ e. let f = h.full e in (chain ∙ f.0, omega (arith, f.1));
  busy = λ e. let some : 0 < old (p + 2) = h.busy e in omega arith;
}

-- from the words of a header but its links
pub signs_from : (old new : Words) (p : ℕ) → ((i : ℕ) → i < 8 → i ≢ 4 → i ≢ 5 → new (p + i) ≡ old (p + i)) → SameSigns old new p
signs_from old new p word = record {
  class = subst (λ (e : ℕ). new e ≡ old e) (omega arith) (word 0 (omega arith) (omega arith) (omega arith));
  chain = word 1 (omega arith) (omega arith) (omega arith);
  count = word 2 (omega arith) (omega arith) (omega arith);
  fresh = word 3 (omega arith) (omega arith) (omega arith);
  kind = word 6 (omega arith) (omega arith) (omega arith);
}

pub right_same : (kind : ℕ) (old new : Words) (size p : ℕ) → SameSigns old new p → IsRight kind old size p → IsRight kind new size p
right_same kind old new size p s h = right_words kind old new size p s.class s.chain s.count s.fresh h

pub rightly_same : (old new : Words) (size p : ℕ) → SameSigns old new p → IsListedRightly old size p → IsListedRightly new size p
rightly_same old new size p s h = subst (λ (k : ℕ). IsRight k new size p) (sym s.kind) (right_same (old (p + 6)) old new size p s h)

-- what holds of each and of the start holds of the last
pub last_has : (P : ℕ → Type 0) (at : ℕ) (bs rest : List ℕ) → P at → EachPlace P (bs ++ rest) → P (last_or at bs)
last_has P at [] rest h all = h
last_has P at (b ∷ bs) rest h all = last_has P b bs rest all.0 all.1

pub first_has : (P : ℕ → Type 0) (bs rest : List ℕ) (p : ℕ) → P 0 → EachPlace P (bs ++ p ∷ rest) → P (first_of_list rest)
first_has P [] [] p z all = z
first_has P [] (a ∷ rest) p z all = all.1.0
first_has P (b ∷ bs) rest p z all = first_has P bs rest p z all.1

-- the first page after p is gone
head_without : (p before next head after : ℕ) (bs rest : List ℕ) → EachPlace (λ x. 0 < x) (bs ++ p ∷ rest) → before ≡ last_or 0 bs → next ≡ first_of_list rest → head ≡ first_of_list (bs ++ p ∷ rest) → (before ≡ 0 → after ≡ next) → (before ≢ 0 → after ≡ head) → after ≡ first_of_list (bs ++ rest)
head_without p before next head after [] rest some is_before is_next is_head a b = a is_before ∙ is_next
head_without p before next head after (b ∷ bs) rest some is_before is_next is_head f g = g (λ e. let z : 0 < last_or b bs = last_has (λ x. 0 < x) b bs (p ∷ rest) some.0 some.1 in omega arith) ∙ is_head

-- a page that has no class is on no list
pub kind_none : (kind class : ℕ) → class ≡ 0 → (kind ≢ 0 → 2 ≤ class) → kind ≡ 0
kind_none kind class z used = elim (eqb_tells kind 0) [ inl a ↦ a.1 | inr b ↦ absurd (let two : 2 ≤ class = used b.1 in omega arith) ]

pub right_unused : (w : Words) (size p : ℕ) → w p ≡ 0 → w (p + 6) ≡ 0 → IsListedRightly w size p
right_unused w size p none kind = record { known = omega (arith, kind); unused = λ e. none; used = λ e. absurd (e kind); room = λ e. absurd (omega (arith, e, kind)); full = λ e. absurd (omega (arith, e, kind)); busy = λ e. absurd (omega (arith, e, kind)) }

unused_list : (w : Words) (size p : ℕ) → IsListedRightly w size p → w p ≡ 0 → list_of w p ≡ 0
unused_list w size p right z = ap (λ (t : ℕ). list_number t (w p)) (kind_none (w (p + 6)) (w p) z right.used)

-- a page on a list is in use
pub used_list : (w : Words) (size p s : ℕ) → IsListedRightly w size p → s ≡ list_of w p → s ≢ 0 → w p ≢ 0
used_list w size p s right is some z = some (is ∙ unused_list w size p right z)

-- a page that was on no list for the moment is unused
pub lists_unused : (w : Words) (size count : ℕ) (heads waiting : List ℕ) (p : ℕ) → ListsFit w size count heads waiting p → w p ≡ 0 → w (p + 6) ≡ 0 → ListsFit w size count heads waiting 0
lists_unused w size count heads waiting p h none kind = record {
  lists = h.lists;
  none = h.none;
  waits = h.waits;
  heads_are = h.heads_are;
  linked = h.linked;
  distinct = h.distinct;
  pages = h.pages;
  right = λ s. places_both (IsPage size count) (λ q. (list_of w q ≡ s) × (q ≢ p)) (λ q. (list_of w q ≡ s) × (q ≢ 0)) (λ q a r. (r.0, not_zero size count q a)) (h.lists s) (h.pages s) (h.right s);
  listed = λ k below used n. h.listed k below used (λ e. used (ap w e ∙ none));
  rightly = λ k below n. elim (eqb_tells (page_at size k) p) [
    | inl a ↦ subst (λ (q : ℕ). IsListedRightly w size q) (sym a.1) (right_unused w size p none kind)
    | inr b ↦ h.rightly k below b.1
  ];
}

-- an unused page is on no list
pub lists_hold : (w : Words) (size count : ℕ) (heads waiting : List ℕ) (k : ℕ) → k < count → ListsFit w size count heads waiting 0 → w (page_at size k) ≡ 0 → ListsFit w size count heads waiting (page_at size k)
lists_hold w size count heads waiting k below h unused =
    let p = page_at size k in
    let zero_ : list_of w p ≡ 0 = unused_list w size p (h.rightly k below (omega arith)) unused in
    record {
      lists = h.lists;
      none = h.none;
      waits = h.waits;
      heads_are = h.heads_are;
      linked = h.linked;
      distinct = h.distinct;
      pages = h.pages;
      right = λ s. elim (eqb_tells s 0) [
        | inl a ↦ subst (EachPlace (λ q. (list_of w q ≡ s) × (q ≢ p))) (sym (ap h.lists a.1 ∙ h.none)) tt
        | inr b ↦ places_map (λ q. (list_of w q ≡ s) × (q ≢ 0)) (λ q. (list_of w q ≡ s) × (q ≢ p)) (λ q r. (r.0, λ e. b.1 (sym r.0 ∙ ap (list_of w) e ∙ zero_))) (h.lists s) (h.right s)
      ];
      listed = λ j low used n. h.listed j low used (omega arith);
      rightly = λ j low n. h.rightly j low (omega arith);
    }

-- p leaves the list s
pub lists_unlink_any : (old new : Words) (size count : ℕ) (heads after waiting waiting2 : List ℕ) (k s : ℕ) (h : ListsFit old size count heads waiting 0) (cut : Cut (page_at size k) (h.lists s)) → 64 ≤ size → k < count → (s ≡ 1 → waiting2 ≡ cut.front ++ cut.behind) → (s ≢ 1 → waiting2 ≡ waiting) → s ≡ list_of old (page_at size k) → Unlinks old new heads after (page_at size k) s → ListsFit new size count after waiting2 (page_at size k)
lists_unlink_any old new size count heads after waiting waiting2 k s h cut wide below on_waiting not_waiting is_s u =
    let p = page_at size k in
    let before = old (p + 5) in
    let next = old (p + 4) in
    let placed : p ≢ 0 = omega arith in
    let bs = cut.front in
    let rest = cut.behind in
    let link : Linked old 0 (bs ++ p ∷ rest) = subst (λ (ys : List ℕ). Linked old 0 ys) cut.is (h.linked s) in
    let apart : AreDistinct (bs ++ p ∷ rest) = subst AreDistinct cut.is (h.distinct s) in
    let all : EachPlace (IsPage size count) (bs ++ p ∷ rest) = subst (EachPlace (IsPage size count)) cut.is (h.pages s) in
    let right : EachPlace (λ q. (list_of old q ≡ s) × (q ≢ 0)) (bs ++ p ∷ rest) = subst (EachPlace (λ q. (list_of old q ≡ s) × (q ≢ 0))) cut.is (h.right s) in
    let others : EachPlace (IsPage size count) (bs ++ rest) = places_without (IsPage size count) bs rest p all in
    let is_before : before ≡ last_or 0 bs = linked_front old 0 p bs rest link in
    let is_next : next ≡ first_of_list rest = linked_behind old 0 p bs rest link in
    let before_page : (before ≡ 0) ⊎ IsPage size count before = subst (λ (y : ℕ). (y ≡ 0) ⊎ IsPage size count y) (sym is_before) (last_page size count 0 bs (p ∷ rest) (inl refl) all) in
    let next_page : (next ≡ 0) ⊎ IsPage size count next = subst (λ (y : ℕ). (y ≡ 0) ⊎ IsPage size count y) (sym is_next) (rest_first size count p bs rest all) in
    let word : (x i : ℕ) → IsPage size count x → i < 8 → i ≢ 4 → i ≢ 5 → new (x + i) ≡ old (x + i) = λ x i px small n4 n5. u.rest (x + i) (page_words size count x before i 4 wide px before_page small (omega arith) n4) (page_words size count x next i 5 wide px next_page small (omega arith) n5) in
    let kept : (x : ℕ) → IsPage size count x → IsKept old new p before next x = λ x px. (
      let at : x ≡ page_at size px.number = px.is in omega arith,
      λ n. u.rest (x + 4) (omega arith) (page_words size count x next 4 5 wide px next_page (omega arith) (omega arith) (omega arith)),
      λ n. u.rest (x + 5) (page_words size count x before 5 4 wide px before_page (omega arith) (omega arith) (omega arith)) (omega arith),
    ) in
    let signs : (x : ℕ) → IsPage size count x → SameSigns old new x = λ x px. signs_from old new x (λ i small n4 n5. word x i px small n4 n5) in
    let same : (x : ℕ) → IsPage size count x → list_of new x ≡ list_of old x = λ x px. same_list old new x (signs x px).class (signs x px).kind in
    let signed : EachPlace (λ y. (y ≡ 0) ⊎ (list_of old y ≡ s)) (bs ++ p ∷ rest) = places_map (λ q. (list_of old q ≡ s) × (q ≢ 0)) (λ y. (y ≡ 0) ⊎ (list_of old y ≡ s)) (λ y r. inr r.0) (bs ++ p ∷ rest) right in
    let before_sign : (before ≡ 0) ⊎ (list_of old before ≡ s) = subst (λ (y : ℕ). (y ≡ 0) ⊎ (list_of old y ≡ s)) (sym is_before) (last_has (λ y. (y ≡ 0) ⊎ (list_of old y ≡ s)) 0 bs (p ∷ rest) (inl refl) signed) in
    let next_sign : (next ≡ 0) ⊎ (list_of old next ≡ s) = subst (λ (y : ℕ). (y ≡ 0) ⊎ (list_of old y ≡ s)) (sym is_next) (first_has (λ y. (y ≡ 0) ⊎ (list_of old y ≡ s)) bs rest p (inl refl) signed) in
    let differs : (t x y : ℕ) → t ≢ s → (list_of old x ≡ t) × (x ≢ 0) → (y ≡ 0) ⊎ (list_of old y ≡ s) → x ≢ y = λ t x y n r sign e. elim sign [ inl z ↦ r.1 (e ∙ z) | inr q ↦ n (sym r.0 ∙ ap (list_of old) e ∙ q) ] in
    record {
      lists = updated h.lists s (bs ++ rest);
      none = updated_by (λ t xs. t ≡ 0 → xs ≡ []) h.lists s (bs ++ rest) (λ z. absurd (let e : length (bs ++ p ∷ rest) ≡ 0 = ap length (sym cut.is ∙ ap h.lists z ∙ h.none) in omega (arith, e, length-append bs (p ∷ rest)))) (λ t n z. ap h.lists z ∙ h.none) 0 refl;
      waits = elim (eqb_tells 1 s) [
        | inl a ↦ updated_here h.lists s (bs ++ rest) 1 a.1 ∙ sym (on_waiting (sym a.1))
        | inr b ↦ updated_else h.lists s (bs ++ rest) 1 b.1 ∙ h.waits ∙ sym (not_waiting (λ e. b.1 (sym e)))
      ];
      heads_are = updated_by (λ t xs. slice_index after t ≡ first_of_list xs) h.lists s (bs ++ rest)
          (head_without p before next (slice_index heads s) (slice_index after s) bs rest
          (places_map (IsPage size count) (λ x. 0 < x) (λ x px. let at : x ≡ page_at size px.number = px.is in omega arith) (bs ++ p ∷ rest) all)
          is_before is_next (h.heads_are s ∙ ap first_of_list cut.is) u.first u.not_first)
          (λ t n. u.others t n ∙ h.heads_are t);
      linked = updated_by (λ t xs. Linked new 0 xs) h.lists s (bs ++ rest)
          (linked_without old new p before next 0 bs rest link (places_map (IsPage size count) (IsKept old new p before next) kept (bs ++ rest) others) apart
          (places_map (IsPage size count) (λ x. 0 ≢ x) (λ x px. let at : x ≡ page_at size px.number = px.is in omega arith) (bs ++ p ∷ rest) all)
          is_before is_next u.forth u.back)
          (λ t n. linked_apart old new p before next 0 (h.lists t) (places_map (IsPage size count) (IsKept old new p before next) kept (h.lists t) (h.pages t))
          (places_map (λ q. (list_of old q ≡ t) × (q ≢ 0)) (λ x. (x ≢ before) × (x ≢ next)) (λ x r. (differs t x before n r before_sign, differs t x next n r next_sign)) (h.lists t) (h.right t))
          (h.linked t));
      distinct = updated_by (λ t xs. AreDistinct xs) h.lists s (bs ++ rest) (distinct_without bs rest p apart) (λ t n. h.distinct t);
      pages = updated_by (λ t xs. EachPlace (IsPage size count) xs) h.lists s (bs ++ rest) others (λ t n. h.pages t);
      right = updated_by (λ t xs. EachPlace (λ q. (list_of new q ≡ t) × (q ≢ p)) xs) h.lists s (bs ++ rest)
          (places_both (λ q. IsPage size count q × (list_of old q ≡ s) × (q ≢ 0)) (λ q. q ≢ p) (λ q. (list_of new q ≡ s) × (q ≢ p)) (λ q a n. (same q a.0 ∙ a.1, n)) (bs ++ rest)
          (places_both (IsPage size count) (λ q. (list_of old q ≡ s) × (q ≢ 0)) (λ q. IsPage size count q × (list_of old q ≡ s) × (q ≢ 0)) (λ q a r. (a, r.0, r.1)) (bs ++ rest) others (places_without (λ q. (list_of old q ≡ s) × (q ≢ 0)) bs rest p right))
          (distinct_other bs rest p apart))
          (λ t n. places_both (IsPage size count) (λ q. (list_of old q ≡ t) × (q ≢ 0)) (λ q. (list_of new q ≡ t) × (q ≢ p)) (λ q a r. (same q a ∙ r.0, differs t q p n r (inr (sym is_s)))) (h.lists t) (h.pages t) (h.right t));
      listed = λ j low used n.
          let q = page_at size j in
          let is_page : IsPage size count q = record { number = j; below = low; is = refl } in
          let was : IsIn q (h.lists (list_of old q)) = h.listed j low (λ z. used ((signs q is_page).class ∙ z)) (omega arith) in
          subst (λ (t : ℕ). IsIn q (updated h.lists s (bs ++ rest) t)) (sym (same q is_page))
          (updated_by (λ t xs. list_of old q ≡ t → IsIn q xs) h.lists s (bs ++ rest)
          (λ e. still_in q p bs rest n (subst (λ (ys : List ℕ). IsIn q ys) cut.is (subst (λ (t : ℕ). IsIn q (h.lists t)) e was)))
          (λ t m e. subst (λ (t : ℕ). IsIn q (h.lists t)) e was) (list_of old q) refl);
      rightly = λ j low n. rightly_same old new size (page_at size j) (signs (page_at size j) (record { number = j; below = low; is = refl })) (h.rightly j low (omega arith));
    }

-- a page leaves its list: of the waiting pages, where it is one, the first
pub lists_unlink : (old new : Words) (size count : ℕ) (heads after waiting waiting2 : List ℕ) (k s : ℕ) → 64 ≤ size → k < count → s ≢ 0 → (s ≡ 1 → waiting ≡ page_at size k ∷ waiting2) → (s ≢ 1 → waiting2 ≡ waiting) → s ≡ list_of old (page_at size k) → ListsFit old size count heads waiting 0 → Unlinks old new heads after (page_at size k) s → ListsFit new size count after waiting2 (page_at size k)
lists_unlink old new size count heads after waiting waiting2 k s wide below some first others is_s h u =
    let p = page_at size k in
    let used : old p ≢ 0 = used_list old size p s (h.rightly k below (omega arith)) is_s some in
    let in_s : IsIn p (h.lists s) = subst (λ (t : ℕ). IsIn p (h.lists t)) (sym is_s) (h.listed k below used (omega arith)) in
    elim (eqb_tells s 1) [
      | inl a ↦ lists_unlink_any old new size count heads after waiting waiting2 k s h (record { front = []; behind = waiting2; is = ap h.lists a.1 ∙ h.waits ∙ first a.1 }) wide below (λ e. refl) others is_s u
      | inr b ↦ lists_unlink_any old new size count heads after waiting waiting2 k s h (cut_at p (h.lists s) in_s) wide below (λ e. absurd (b.1 e)) others is_s u
    ]

linked_same : (old new : Words) (at : ℕ) (xs : List ℕ) → EachPlace (λ x. (new (x + 4) ≡ old (x + 4)) × (new (x + 5) ≡ old (x + 5))) xs → Linked old at xs → Linked new at xs
linked_same old new at [] same h = tt
linked_same old new at (x ∷ xs) same h = (same.0.1 ∙ h.0, same.0.0 ∙ h.1, linked_same old new x xs same.1 h.2)

-- the words of x that tell its place in the lists are the same
pub record SameLinks (old new : Words) (x : ℕ) : Type 0 where
  pub class : new x ≡ old x
  pub next : new (x + 4) ≡ old (x + 4)
  pub before : new (x + 5) ≡ old (x + 5)
  pub kind : new (x + 6) ≡ old (x + 6)

-- what leaves the links of all pages alone leaves the lists as they are
pub lists_frame : (old new : Words) (size count : ℕ) (heads waiting : List ℕ) (except : ℕ) → ListsFit old size count heads waiting except → ((x : ℕ) → IsPage size count x → x ≢ except → SameLinks old new x) → ((k : ℕ) → k < count → page_at size k ≢ except → IsListedRightly new size (page_at size k)) → ListsFit new size count heads waiting except
lists_frame old new size count heads waiting except h same rightly = record {
  lists = h.lists;
  none = h.none;
  waits = h.waits;
  heads_are = h.heads_are;
  linked = λ s. linked_same old new 0 (h.lists s)
      (places_both (IsPage size count) (λ q. (list_of old q ≡ s) × (q ≢ except)) (λ x. (new (x + 4) ≡ old (x + 4)) × (new (x + 5) ≡ old (x + 5))) (λ x px r. ((same x px r.1).next, (same x px r.1).before)) (h.lists s) (h.pages s) (h.right s))
      (h.linked s);
  distinct = h.distinct;
  pages = h.pages;
  right = λ s. places_both (IsPage size count) (λ q. (list_of old q ≡ s) × (q ≢ except)) (λ q. (list_of new q ≡ s) × (q ≢ except)) (λ x px r. (same_list old new x (same x px r.1).class (same x px r.1).kind ∙ r.0, r.1)) (h.lists s) (h.pages s) (h.right s);
  listed = λ j low used n.
      let q = page_at size j in
      let l = same q (record { number = j; below = low; is = refl }) n in
      subst (λ (t : ℕ). IsIn q (h.lists t)) (sym (same_list old new q l.class l.kind)) (h.listed j low (λ z. used (l.class ∙ z)) n);
  rightly = rightly;
}

-- a header word of another page
pub off_page : (size count x y i j : ℕ) → 64 ≤ size → IsPage size count x → IsPage size count y → i < 8 → j < 8 → x ≢ y → x + i ≢ y + j
off_page size count x y i j wide px py si sj n e =
    let at : x ≡ page_at size px.number = px.is in
    let to : y ≡ page_at size py.number = py.is in
    elim (eqb_tells px.number py.number) [
      | inl a ↦ n (px.is ∙ ap (page_at size) a.1 ∙ sym py.is)
      | inr b ↦ elim (pages_apart size px.number py.number b.1) [ inl c ↦ omega arith | inr d ↦ omega arith ]
    ]

first_sign : (s : ℕ) (f : ℕ → ℕ) (p : ℕ) (xs : List ℕ) → EachPlace (λ q. (f q ≡ s) × (q ≢ p)) xs → (first_of_list xs ≡ 0) ⊎ (f (first_of_list xs) ≡ s)
first_sign s f p [] all = inl refl
first_sign s f p (x ∷ xs) all = inr all.0.0

linked_front_changes : (old new : Words) (p : ℕ) (xs : List ℕ) (next : ℕ) → EachPlace (λ x. (new (x + 4) ≡ old (x + 4)) × (x ≢ next → new (x + 5) ≡ old (x + 5))) xs → AreDistinct xs → next ≡ first_of_list xs → (next ≢ 0 → new (next + 5) ≡ p) → EachPlace (λ x. 0 < x) xs → Linked old 0 xs → Linked new p xs
linked_front_changes old new p [] next kept d is_next back some h = tt
linked_front_changes old new p (x ∷ xs) next kept d is_next back some h =
    let ne : next ≢ 0 = let s : 0 < x = some.0 in omega arith in (
      ap (λ (y : ℕ). new (y + 5)) (sym is_next) ∙ back ne,
      kept.0.0 ∙ h.1,
      linked_same old new x xs (places_both (λ x'. (new (x' + 4) ≡ old (x' + 4)) × (x' ≢ next → new (x' + 5) ≡ old (x' + 5))) (λ y. x ≢ y) (λ x'. (new (x' + 4) ≡ old (x' + 4)) × (new (x' + 5) ≡ old (x' + 5))) (λ y k n. (k.0, k.1 (λ e. n (sym (e ∙ is_next))))) xs kept.1 d.0) h.2,
    )

-- a page that is on no list goes in front of the list s
pub lists_link : (old new : Words) (size count : ℕ) (heads after waiting waiting2 : List ℕ) (k s kind : ℕ) → 64 ≤ size → k < count → s ≢ 0 → (s ≡ 1 → waiting2 ≡ page_at size k ∷ waiting) → (s ≢ 1 → waiting2 ≡ waiting) → s ≡ list_of new (page_at size k) → ListsFit old size count heads waiting (page_at size k) → Links old new heads after (page_at size k) s kind → IsListedRightly new size (page_at size k) → ListsFit new size count after waiting2 0
lists_link old new size count heads after waiting waiting2 k s kind wide below some on_waiting not_waiting is_s h u rightly =
    let p = page_at size k in
    let next = slice_index heads s in
    let is_next : next ≡ first_of_list (h.lists s) = h.heads_are s in
    let next_page : (next ≡ 0) ⊎ IsPage size count next = subst (λ (y : ℕ). (y ≡ 0) ⊎ IsPage size count y) (sym is_next) (first_page size count (h.lists s) (h.pages s)) in
    let is_p : IsPage size count p = record { number = k; below = below; is = refl } in
    let word : (x i : ℕ) → IsPage size count x → x ≢ p → i < 8 → i ≢ 5 → new (x + i) ≡ old (x + i) = λ x i px n small n5.
    u.rest (x + i) (off_page size count x p i 4 wide px is_p small (omega arith) n) (off_page size count x p i 5 wide px is_p small (omega arith) n) (off_page size count x p i 6 wide px is_p small (omega arith) n) (page_words size count x next i 5 wide px next_page small (omega arith) n5) in
    let back : (x : ℕ) → IsPage size count x → x ≢ p → x ≢ next → new (x + 5) ≡ old (x + 5) = λ x px n m.
    u.rest (x + 5) (off_page size count x p 5 4 wide px is_p (omega arith) (omega arith) n) (omega arith) (off_page size count x p 5 6 wide px is_p (omega arith) (omega arith) n) (omega arith) in
    let signs : (x : ℕ) → IsPage size count x → x ≢ p → SameSigns old new x = λ x px n. signs_from old new x (λ i small n4 n5. word x i px n small n5) in
    let same : (x : ℕ) → IsPage size count x → x ≢ p → list_of new x ≡ list_of old x = λ x px n. same_list old new x (signs x px n).class (signs x px n).kind in
    let kept : (t : ℕ) → EachPlace (λ x. IsPage size count x × (list_of old x ≡ t) × (x ≢ p)) (h.lists t) = λ t.
    places_both (IsPage size count) (λ q. (list_of old q ≡ t) × (q ≢ p)) (λ x. IsPage size count x × (list_of old x ≡ t) × (x ≢ p)) (λ x px r. (px, r.0, r.1)) (h.lists t) (h.pages t) (h.right t) in
    let next_sign : (next ≡ 0) ⊎ (list_of old next ≡ s) = subst (λ (y : ℕ). (y ≡ 0) ⊎ (list_of old y ≡ s)) (sym is_next) (first_sign s (list_of old) p (h.lists s) (h.right s)) in
    record {
      lists = updated h.lists s (p ∷ h.lists s);
      none = updated_by (λ t xs. t ≡ 0 → xs ≡ []) h.lists s (p ∷ h.lists s) (λ z. absurd (some z)) (λ t n z. ap h.lists z ∙ h.none) 0 refl;
      waits = elim (eqb_tells 1 s) [
        | inl a ↦ updated_here h.lists s (p ∷ h.lists s) 1 a.1 ∙ ap (λ (ys : List ℕ). p ∷ ys) (ap h.lists (sym a.1) ∙ h.waits) ∙ sym (on_waiting (sym a.1))
        | inr b ↦ updated_else h.lists s (p ∷ h.lists s) 1 b.1 ∙ h.waits ∙ sym (not_waiting (λ e. b.1 (sym e)))
      ];
      heads_are = updated_by (λ t xs. slice_index after t ≡ first_of_list xs) h.lists s (p ∷ h.lists s) u.first (λ t n. u.others t n ∙ h.heads_are t);
      linked = updated_by (λ t xs. Linked new 0 xs) h.lists s (p ∷ h.lists s) (
        u.before,
        u.next ∙ is_next,
        linked_front_changes old new p (h.lists s) next
            (places_map (λ x. IsPage size count x × (list_of old x ≡ s) × (x ≢ p)) (λ x. (new (x + 4) ≡ old (x + 4)) × (x ≢ next → new (x + 5) ≡ old (x + 5))) (λ x a. (word x 4 a.0 a.2 (omega arith) (omega arith), back x a.0 a.2)) (h.lists s) (kept s))
            (h.distinct s) is_next (λ n. u.back n) (places_map (IsPage size count) (λ x. 0 < x) (λ x px. let at : x ≡ page_at size px.number = px.is in omega arith) (h.lists s) (h.pages s)) (h.linked s),
      )
          (λ t n. linked_same old new 0 (h.lists t)
          (places_map (λ x. IsPage size count x × (list_of old x ≡ t) × (x ≢ p)) (λ x. (new (x + 4) ≡ old (x + 4)) × (new (x + 5) ≡ old (x + 5))) (λ x a. (word x 4 a.0 a.2 (omega arith) (omega arith), back x a.0 a.2 (λ e. elim next_sign [ inl z ↦ not_zero size count x a.0 (e ∙ z) | inr q ↦ n (sym a.1 ∙ ap (list_of old) e ∙ q) ]))) (h.lists t) (kept t))
          (h.linked t));
      distinct = updated_by (λ t xs. AreDistinct xs) h.lists s (p ∷ h.lists s) (places_map (λ q. (list_of old q ≡ s) × (q ≢ p)) (λ y. p ≢ y) (λ y r e. r.1 (sym e)) (h.lists s) (h.right s), h.distinct s) (λ t n. h.distinct t);
      pages = updated_by (λ t xs. EachPlace (IsPage size count) xs) h.lists s (p ∷ h.lists s) (is_p, h.pages s) (λ t n. h.pages t);
      right = updated_by (λ t xs. EachPlace (λ q. (list_of new q ≡ t) × (q ≢ 0)) xs) h.lists s (p ∷ h.lists s)
          ((sym is_s, not_zero size count p is_p), places_map (λ x. IsPage size count x × (list_of old x ≡ s) × (x ≢ p)) (λ q. (list_of new q ≡ s) × (q ≢ 0)) (λ q a. (same q a.0 a.2 ∙ a.1, not_zero size count q a.0)) (h.lists s) (kept s))
          (λ t n. places_map (λ x. IsPage size count x × (list_of old x ≡ t) × (x ≢ p)) (λ q. (list_of new q ≡ t) × (q ≢ 0)) (λ q a. (same q a.0 a.2 ∙ a.1, not_zero size count q a.0)) (h.lists t) (kept t));
      listed = λ j low used n.
          let q = page_at size j in
          let is_q : IsPage size count q = record { number = j; below = low; is = refl } in
          let was_used : q ≢ p → old q ≢ 0 = λ n z. used ((signs q is_q n).class ∙ z) in
          elim (eqb_tells q p) [
            | inl a ↦ updated_by (λ t xs. list_of new q ≡ t → IsIn q xs) h.lists s (p ∷ h.lists s) (λ e. inl a.1) (λ t m e. absurd (m (sym e ∙ ap (list_of new) a.1 ∙ sym is_s))) (list_of new q) refl
            | inr b ↦ subst (λ (t : ℕ). IsIn q (updated h.lists s (p ∷ h.lists s) t)) (sym (same q is_q b.1))
                (updated_by (λ t xs. list_of old q ≡ t → IsIn q xs) h.lists s (p ∷ h.lists s)
                (λ e. inr (subst (λ (t : ℕ). IsIn q (h.lists t)) e (h.listed j low (was_used b.1) b.1)))
                (λ t m e. subst (λ (t : ℕ). IsIn q (h.lists t)) e (h.listed j low (was_used b.1) b.1)) (list_of old q) refl)
          ];
      rightly = λ j low n.
          let q = page_at size j in
          elim (eqb_tells q p) [
            | inl a ↦ subst (λ (y : ℕ). IsListedRightly new size y) (sym a.1) rightly
            | inr b ↦ rightly_same old new size q (signs q (record { number = j; below = low; is = refl }) b.1) (h.rightly j low b.1)
          ];
    }
