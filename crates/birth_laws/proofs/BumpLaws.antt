-- The nursery with one more object, in words that were handed out.
use Rattle.std.proofs.Common.{◌≡◌, ℕ, ◌+◌, ◌-◌, ◌<◌, ◌≤◌, Bool, true, IsTrue, List, [], ◌∷◌, ◌++◌, length, refl, sym, ap, ap₂, ◌∙◌, subst, inl, inr, arith, append-nil}
use Rattle.std.specs.Prelude.{◌==◌}
use Rattle.std.specs.List.Sorted.{IsPermutation}
use Rattle.std.proofs.lemmas.Grind.{flat_map-append}
use Rattle.std.proofs.lemmas.List.{append_assoc, length-append}
use Rattle.std.proofs.lemmas.List.Sorted.{IsPermutation-sym, IsPermutation-trans, IsPermutation-middle, IsPermutation-to_front, IsPermutation-append_left, list_any-IsPermutation}
use Rattle.std.proofs.lemmas.Bool.{cases_lt, eq-eqb}
use Rattle.std.proofs.lemmas.Bool.Decides.{eqb_tells, nat_tests}
use Rattle.type_table.specs.declared.info.TypeInfo.{TypeInfo}
use Rattle.type_table.specs.Table.{Table}
use Rattle.heap_space.specs.Places.{lies_in_one, word_at}
use Rattle.heap_space.specs.Memory.{Memory}
use Rattle.nursery_gaps.specs.Ranges.{Range, words_between, is_free}
use Rattle.nursery_gaps.specs.Nursery.{Layout as NurseryLayout, HandsOut, Fits, FitsLowest, IsLaidOut, gap_at}
use Rattle.object_model.proofs.Members.{is_in-append}
use Rattle.object_model.specs.Layout.{Layout}
use Rattle.object_model.specs.ObjectWords.{words_at}
use Rattle.parts_model.specs.Nursery.{IsWalk, AreWalks, walked, HoldsNursery, IsUngapped}
use Rattle.parts_model.proofs.SameLayouts.{SameLayouts}
use Rattle.frame_laws.proofs.KeepWords.{walks-same}

-- walks of joined ranges
pub record Split (types : Table TypeInfo) (v : ℕ → ℕ) (xs ys : List Range) (walks : List (List ℕ)) : Type 0 where
  pub first : List (List ℕ)
  pub second : List (List ℕ)
  pub is : walks ≡ first ++ second
  pub walks_first : AreWalks types v xs first
  pub walks_second : AreWalks types v ys second

pub walks-split : (types : Table TypeInfo) (v : ℕ → ℕ) (xs ys : List Range) (walks : List (List ℕ)) → AreWalks types v (xs ++ ys) walks → Split types v xs ys walks
walks-split types v [] ys walks h = record { first = []; second = walks; is = refl; walks_first = tt; walks_second = h }
walks-split types v (x ∷ xs) ys [] h = absurd h
walks-split types v (x ∷ xs) ys (ps ∷ walks) h =
    let more = walks-split types v xs ys walks h.1 in
    record { first = ps ∷ more.first; second = more.second; is = ap (λ (ws : List (List ℕ)). ps ∷ ws) more.is; walks_first = (h.0, more.walks_first); walks_second = more.walks_second }

pub walks-join : (types : Table TypeInfo) (v : ℕ → ℕ) (xs ys : List Range) (ws us : List (List ℕ)) → AreWalks types v xs ws → AreWalks types v ys us → AreWalks types v (xs ++ ys) (ws ++ us)
walks-join types v [] ys [] us a b = b
walks-join types v [] ys (w ∷ ws) us a b = absurd a
walks-join types v (x ∷ xs) ys [] us a b = absurd a
walks-join types v (x ∷ xs) ys (w ∷ ws) us a b = (a.0, walks-join types v xs ys ws us a.1 b)

-- one more object behind a row
pub walk-more : (types : Table TypeInfo) (w : ℕ → ℕ) (from end n : ℕ) (places : List ℕ) → IsWalk types w from places end → words_at types w end ≡ n
    → IsWalk types w from (places ++ end ∷ []) (end + n)
walk-more types w from end n [] walk size = (sym walk, ap₂ (λ (a b : ℕ). a + b) walk size)
walk-more types w from end n (p ∷ places) walk size = (walk.0, walk-more types w (from + words_at types w p) end n places walk.1 size)

-- the row of one range that ends where the new object begins
pub record Row (types : Table TypeInfo) (v : ℕ → ℕ) (from to : ℕ) (walks : List (List ℕ)) : Type 0 where
  pub row : List ℕ
  pub walk : IsWalk types v from row to
  pub all : walked walks ≡ row

row-of : (types : Table TypeInfo) (v : ℕ → ℕ) (from to : ℕ) (walks : List (List ℕ)) → from ≤ to → AreWalks types v (words_between from to) walks → Row types v from to walks
row-of types v from to walks l h = elim (cases_lt from to) [
  | inl some ↦ row-some walks (subst (λ (rs : List Range). AreWalks types v rs walks) (let e : words_between from to ≡ (from, to - from) ∷ [] = grind (arith, nat_tests) in e) h)
  | inr none ↦
      (let same : from ≡ to = omega (arith, l, none) in
      row-none walks same (subst (λ (rs : List Range). AreWalks types v rs walks) (let e : words_between from to ≡ [] = grind (arith, nat_tests) in e) h))
]
  where
    row-some : (walks : List (List ℕ)) → AreWalks types v ((from, to - from) ∷ []) walks → Row types v from to walks
    row-some [] h = absurd h
    row-some (ps ∷ []) h = record { row = ps; walk = (let e : from + (to - from) ≡ to = omega (arith, l) in subst (λ (k : ℕ). IsWalk types v from ps k) e h.0); all = append-nil ps }
    row-some (ps ∷ (qs ∷ more)) h = absurd h.1

    row-none : (walks : List (List ℕ)) → from ≡ to → AreWalks types v [] walks → Row types v from to walks
    row-none [] same h = record { row = []; walk = same; all = refl }
    row-none (ps ∷ walks) same h = absurd h

one-range : (from to : ℕ) → from < to → words_between from to ≡ (from, to - from) ∷ []
one-range from to l = grind (arith, nat_tests)

-- one more element in the middle is one more at the end
middle-last : (xs ys zs : List ℕ) (a : ℕ) → IsPermutation (xs ++ ys) zs → IsPermutation (xs ++ a ∷ ys) (zs ++ a ∷ [])
middle-last xs ys zs a h =
    IsPermutation-trans (xs ++ a ∷ ys) (a ∷ (xs ++ ys)) (zs ++ a ∷ []) (IsPermutation-middle xs a ys)
    (IsPermutation-trans (a ∷ (xs ++ ys)) ((xs ++ ys) ++ a ∷ []) (zs ++ a ∷ [])
    (IsPermutation-sym ((xs ++ ys) ++ a ∷ []) (a ∷ (xs ++ ys)) (IsPermutation-to_front (xs ++ ys) a))
    (IsPermutation-append_left (a ∷ []) (xs ++ ys) zs h))

gap-below : (old : NurseryLayout) (place : ℕ) → IsLaidOut old → gap_at old place ≤ place
gap-below old place laid = elim (eqb_tells place old.cursor) [
  | inl e ↦ (let passed = laid.passed in rw e.0 (omega (arith, passed, e.1)))
  | inr e ↦ rw e.0 (omega arith)
]

-- Words are handed out for an object: the nursery holds it and the others.
pub nursery_more : {types : Table TypeInfo} {old new : NurseryLayout} {before after : Memory} {young : List ℕ} (n place : ℕ) → HandsOut old n place new → Fits old n place → IsLaidOut new → 0 < n
    → SameLayouts types (word_at after.blocks) (word_at before.blocks) young → words_at types (word_at after.blocks) place ≡ n
    → ((a k : ℕ) → lies_in_one after.blocks a k ≡ lies_in_one before.blocks a k)
    → HoldsNursery old before types (word_at before.blocks) young → HoldsNursery new after types (word_at after.blocks) (young ++ place ∷ [])
nursery_more {types = types} {old = old} {new = new} {before = before} {after = after} {young = young} n place hands fits laid some same size lies h =
    let v : ℕ → ℕ = word_at after.blocks in
    let from : ℕ = gap_at old place in
    let low : from ≤ place = gap-below old place h.laid_out in
    let walk : AreWalks types v old.used h.walks = walks-same types v (word_at before.blocks) old.used h.walks
    (λ p t. same p (subst IsTrue (list_any-IsPermutation (λ (y : ℕ). y == p) (walked h.walks) young h.just) t)) h.walk in
    let one = walks-split types v hands.below (words_between from place ++ hands.above) h.walks
    (subst (λ (rs : List Range). AreWalks types v rs h.walks) (hands.was ∙ append_assoc hands.below (words_between from place) hands.above) walk) in
    let two = walks-split types v (words_between from place) hands.above one.second one.walks_second in
    let row = row-of types v from place two.first low two.walks_first in
    let grown : List ℕ = row.row ++ place ∷ [] in
    let longer : IsWalk types v from grown (place + n) = walk-more types v from place n row.row row.walk size in
    let range : words_between from (place + n) ≡ (from, place + n - from) ∷ [] = one-range from (place + n) (omega (arith, low, some)) in
    let middle : AreWalks types v (words_between from (place + n)) (grown ∷ []) =
    subst (λ (rs : List Range). AreWalks types v rs (grown ∷ [])) (sym range)
    ((let e : place + n ≡ from + (place + n - from) = omega (arith, low, some) in subst (λ (k : ℕ). IsWalk types v from grown k) e longer), tt) in
    let used : new.used ≡ hands.below ++ (words_between from (place + n) ++ hands.above) =
    ap (λ (l : NurseryLayout). l.used) hands.is ∙ append_assoc hands.below (words_between from (place + n)) hands.above in
    let walks : List (List ℕ) = one.first ++ (grown ∷ two.second) in
    let all_walks : AreWalks types v new.used walks =
    subst (λ (rs : List Range). AreWalks types v rs walks) (sym used)
    (walks-join types v hands.below (words_between from (place + n) ++ hands.above) one.first (grown ∷ two.second) one.walks_first
    (walks-join types v (words_between from (place + n)) hands.above (grown ∷ []) two.second middle two.walks_second)) in
    let each : List ℕ → List ℕ = λ ps. ps in
    let was : walked h.walks ≡ (walked one.first ++ row.row) ++ walked two.second =
    ap walked (one.is ∙ ap (λ (ws : List (List ℕ)). one.first ++ ws) two.is)
    ∙ (flat_map-append each one.first (two.first ++ two.second)
    ∙ (ap (λ (xs : List ℕ). walked one.first ++ xs) (flat_map-append each two.first two.second ∙ ap (λ (xs : List ℕ). xs ++ walked two.second) row.all)
    ∙ sym (append_assoc (walked one.first) row.row (walked two.second)))) in
    let is : walked walks ≡ (walked one.first ++ row.row) ++ place ∷ walked two.second =
    flat_map-append each one.first (grown ∷ two.second)
    ∙ (ap (λ (xs : List ℕ). walked one.first ++ xs) (append_assoc row.row (place ∷ []) (walked two.second))
    ∙ sym (append_assoc (walked one.first) row.row (place ∷ walked two.second))) in
    record {
      walks = walks;
      walk = all_walks;
      just = subst (λ (xs : List ℕ). IsPermutation xs (young ++ place ∷ [])) (sym is)
          (middle-last (walked one.first ++ row.row) (walked two.second) young place (subst (λ (xs : List ℕ). IsPermutation xs young) was h.just));
      inside = λ p t. elim (is_in-append young place p t) [
        | inl e ↦ (let w : new.words ≡ old.words = ap (λ (l : NurseryLayout). l.words) hands.is in let z : words_at types v p ≡ n = ap (words_at types v) e ∙ size in let f = fits.inside in omega (arith, e, z, f, w))
        | inr u ↦ (let w : new.words ≡ old.words = ap (λ (l : NurseryLayout). l.words) hands.is in
            let i = h.inside p u in let z : words_at types v p ≡ words_at types (word_at before.blocks) p = ap (λ (l : Layout). l.words) (same p u).layout_stays in omega (arith, i, z, w))
      ];
      laid_out = laid;
      whole = (let w : new.words ≡ old.words = ap (λ (l : NurseryLayout). l.words) hands.is in subst (λ (k : ℕ). IsTrue (lies_in_one after.blocks 1 k)) (sym w) (rw lies h.whole));
    }

none-left : {X : Type 0} → (xs ys : List X) → length (xs ++ ys) ≡ 0 → (xs ≡ []) × (ys ≡ [])
none-left [] [] e = (refl, refl)
none-left [] (y ∷ ys) e = absurd (let no : ⊥ = omega (arith, e) in no)
none-left (x ∷ xs) ys e = absurd (let no : ⊥ = omega (arith, e) in no)

-- the only range of these stands alone
alone : (below above : List Range) (mine : List Range) → below ++ mine ++ above ≡ mine → (below ≡ []) × (above ≡ [])
alone below above mine e =
    let lengths : length below + (length mine + length above) ≡ length mine =
    sym (length-append below (mine ++ above) ∙ ap (λ (k : ℕ). length below + k) (length-append mine above)) ∙ (ap length (sym (append_assoc below mine above)) ∙ ap length e) in (
      none-of-length below (omega (arith, lengths)),
      none-of-length above (omega (arith, lengths)),
    )
  where
    none-of-length : (xs : List Range) → length xs ≡ 0 → xs ≡ []
    none-of-length [] e = refl
    none-of-length (x ∷ xs) e = absurd (let no : ⊥ = omega (arith, e) in no)

free-above : (from to word : ℕ) → to ≤ word → is_free (words_between from to) word ≡ true
free-above from to word l = grind (arith, nat_tests)

-- where what was handed out lies together, it does so with what is handed out next
pub ungapped_more : {old new : NurseryLayout} (gapped : Bool) (n place : ℕ) → HandsOut old n place new → FitsLowest old n place → IsLaidOut old → 0 < n
    → IsUngapped gapped old → IsUngapped gapped new
ungapped_more {old = old} {new = new} gapped n place hands lowest laid some un e =
    let was = un e in
    let fits = lowest.fits in
    let at_cursor : Fits old n old.cursor = record {
      reached = omega arith;
      inside = (let i = fits.inside in let r = fits.reached in omega (arith, i, r));
      free = λ word l r. ap (λ (rs : List Range). is_free rs word) was.1 ∙ free-above 1 old.cursor word l;
    } in
    let below_it = lowest.lowest old.cursor at_cursor in
    let here : place ≡ old.cursor = (let r = fits.reached in omega (arith, r, below_it)) in
    let gap : gap_at old place ≡ 1 = (let same : (place == old.cursor) ≡ true = eq-eqb place old.cursor here in rw same was.0) in
    let ranges : hands.below ++ words_between 1 old.cursor ++ hands.above ≡ words_between 1 old.cursor =
    sym (hands.was ∙ ap₂ (λ (a b : ℕ). hands.below ++ words_between a b ++ hands.above) gap here) ∙ was.1 in
    let empty = alone hands.below hands.above (words_between 1 old.cursor) ranges in (
      ap (λ (l : NurseryLayout). l.gap) hands.is ∙ gap,
      ap (λ (l : NurseryLayout). l.used) hands.is
          ∙ (ap₂ (λ (a b : List Range). a ++ words_between (gap_at old place) (place + n) ++ b) empty.0 empty.1
          ∙ (append-nil (words_between (gap_at old place) (place + n)) ∙ (ap (λ (a : ℕ). words_between a (place + n)) gap
          ∙ ap (λ (c : ℕ). words_between 1 c) (sym (ap (λ (l : NurseryLayout). l.cursor) hands.is))))),
    )
