-- Lists that are in order: the places of blocks, and the table of husks, which is filled and emptied an entry at a time.
use Rattle.std.proofs.Common.{◌≡◌, ℕ, zero, suc, ◌+◌, ◌≤◌, ◌<◌, Bool, true, false, cond, List, [], ◌∷◌, ◌++◌, map, length, take, get_or, Option, Some, None, refl, sym, ap, ◌∙◌, subst, inl, inr, arith}
use Rattle.std.specs.Prelude.{IsSorted, not, ◌==◌, ◌&&◌, ◌||◌, nat_eq, filter, unwrap_or}
use Rattle.std.specs.Ordering.{nat_cmp, is_lt, eq_by_cmp}
use Rattle.std.specs.Cmp.{nat_cmp_is, nat_cmp_total, eq_by_cmp_equiv, unsigned_tied}
use Rattle.std.specs.declared.cmp.Ordering.TheVariants.{Greater}
use Rattle.std.specs.BTreeMap.{is_at}
use Rattle.std.specs.Map.{keys_of, lookup, remove_entry, update, update_all}
use Rattle.std.specs.List.{All, IsDistinct}
use Rattle.std.specs.List.Sorted.{IsPermutation, IsNonDecreasing, IsStrictlySortedBy}
use Rattle.std.proofs.lemmas.Bool.{cases_eq, eqb-true, ne_eqb}
use Rattle.std.proofs.lemmas.Bool.Decides.{nat_tests}
use Rattle.std.proofs.lemmas.List.{length-map, map-append, take_all, take_more}
use Rattle.std.proofs.lemmas.List.Elements.{All-head, All-tail}
use Rattle.std.proofs.lemmas.List.Folds.{list_any-append}
use Rattle.std.proofs.lemmas.List.Sums.{sum_by-cons, fold-append}
use Rattle.std.proofs.lemmas.List.Sorted.{IsNonDecreasingBy-from_all_adjacent, IsPermutation-map, IsPermutation-sym}
use Rattle.std.proofs.lemmas.Map.Keys.{below_from_sorted, IsDistinct-from_apart}
use Rattle.std.proofs.lemmas.Map.Made.{update_all_none}
use Rattle.indexmap.proofs.MapLemmas.{lookup_permutation, distinct_permutation}
use Rattle.object_view.proofs.FoundLaws.{get_or-map}
use Rattle.heap_space.specs.Extents.{Extent}
use Rattle.size_pages.specs.Headers.{RiseByPlace}
use Rattle.type_table.specs.Table.{Table, KeysRise, value_at}
use Rattle.type_table.proofs.TableLaws.{KeysRise-tail, KeysRise-entries_where, first_key_below}
use Rattle.rawref_links.proofs.Tables.{same_table}
use Rattle.rawref_links.proofs.Tabled.{nat_eq-turned}
use Rattle.object_model.specs.Sets.{is_in}
use Rattle.store_model.specs.Store.{husk_words}
use Rattle.store_model.specs.Sweeping.{husks_where}
use Rattle.frame_laws.proofs.Filters.{filter_all}
use Rattle.heap_phases.specs.Ending.{places_in}
use Rattle.heap_phases.specs.Swept.{freed_words}
use Rattle.heap_phases.proofs.EndStands.{sum_split}
use Rattle.heap_phases.proofs.SweepSteps.{filter-then, both-bool}

-- places rise where blocks do
adjacent : (xs : List Extent) → RiseByPlace xs → (k : ℕ) (d : ℕ) → k + 1 < length (places_in xs) → get_or (places_in xs) k d < get_or (places_in xs) (k + 1) d
adjacent [] rise k d l = absurd (let no : ⊥ = omega (arith, l) in no)
adjacent (x ∷ []) rise k d l = absurd (let no : ⊥ = omega (arith, l) in no)
adjacent (x ∷ (y ∷ xs)) rise zero d l = rise.0.0
adjacent (x ∷ (y ∷ xs)) rise (suc k) d l =
    let more = adjacent (y ∷ xs) rise.1 k d (omega (arith, l)) in
    let e : get_or (places_in (x ∷ (y ∷ xs))) (suc k + 1) d ≡ get_or (places_in (y ∷ xs)) (k + 1) d = ap (λ (i : ℕ). get_or (places_in (x ∷ (y ∷ xs))) i d) (later k) in
    subst (λ (n : ℕ). get_or (places_in (y ∷ xs)) k d < n) (sym e) more
  where
    later : (k : ℕ) → suc k + 1 ≡ suc (k + 1)
    later k = omega arith

pub places_rise : (xs : List Extent) → RiseByPlace xs → IsNonDecreasing (places_in xs)
places_rise xs rise = IsNonDecreasingBy-from_all_adjacent (λ x. x) (places_in xs) (λ k d l. let less = adjacent xs rise k d l in omega (arith, less))

not-less : (x y : ℕ) → x < y → is_lt (nat_cmp y x) ≡ false
not-less x y l = ap is_lt (sym (nat_cmp_is y x Greater l))

pub places_sorted : (xs : List Extent) → RiseByPlace xs → IsSorted nat_cmp (places_in xs)
places_sorted xs rise = λ k d low l. not-less (get_or (places_in xs) k d) (get_or (places_in xs) (k + 1) d) (adjacent xs rise k d l)

-- the keys of a sorted map rise
ordered-rise : (entries : Table ℕ) → IsStrictlySortedBy nat_cmp (keys_of entries) → KeysRise entries
ordered-rise entries sorted = λ i j d below within.
    let size = length-map entries (λ (e : ℕ × ℕ). e.0) in
    let less = below_from_sorted (keys_of entries) i j d.0 sorted below (omega (arith, within, size)) in
    let one = get_or-map (λ (e : ℕ × ℕ). e.0) entries i d in let two = get_or-map (λ (e : ℕ × ℕ). e.0) entries j d in
    omega (arith, less, one, two)

below-apart : (a b : ℕ) → a < b → eq_by_cmp nat_cmp a b ≡ false
below-apart a b l = unsigned_tied a b ∙ ne_eqb a b (λ e. absurd (let no : ⊥ = omega (arith, e, l) in no))

-- rising keys differ
rise-distinct : (table : Table ℕ) → KeysRise table → IsDistinct (eq_by_cmp nat_cmp) (keys_of table)
rise-distinct table rises = IsDistinct-from_apart (eq_by_cmp nat_cmp) (keys_of table) (λ i j d below within.
    let size = length-map table (λ (e : ℕ × ℕ). e.0) in
    let less = rises i j (d, d) below (omega (arith, within, size)) in
    let one = get_or-map (λ (e : ℕ × ℕ). e.0) table i (d, d) in let two = get_or-map (λ (e : ℕ × ℕ). e.0) table j (d, d) in
    below-apart (get_or (keys_of table) i d) (get_or (keys_of table) j d) (omega (arith, less, one, two)))

-- a look-up by comparing and one by equality find the same
looked-up : (table : Table ℕ) (q : ℕ) → value_at table q ≡ lookup (is_at (nat_cmp q)) table
looked-up table q = let tests : nat_eq q ≡ is_at (nat_cmp q) = λ i k. sym (unsigned_tied q k) i in ap (λ (test : ℕ → Bool). lookup test table) tests

-- these entries were put into a map, one after another
pub record IsFilledWith (made entries : Table ℕ) : Type 0 where
  pub sorted : IsStrictlySortedBy nat_cmp (keys_of made)
  pub found : (q : ℕ) → lookup (is_at (nat_cmp q)) made ≡ update_all (eq_by_cmp nat_cmp) (λ _. None) entries q

-- none at first
pub filled_none : (made : Table ℕ) → IsStrictlySortedBy nat_cmp (keys_of made) → made ≡ [] → IsFilledWith made []
filled_none made sorted none = record { sorted = sorted; found = λ q. ap (lookup (is_at (nat_cmp q))) none }

-- and one more
pub filled_next : (blocks : List Extent) (f : Extent → ℕ × ℕ) (i : ℕ) (made after : Table ℕ) (birth words : ℕ) → i < length blocks → IsFilledWith made (map f (take i blocks))
    → (birth, words) ≡ f (get_or blocks i (0, 0)) → IsStrictlySortedBy nat_cmp (keys_of after)
    → ((q : ℕ) → lookup (is_at (nat_cmp q)) after ≡ cond (is_at (nat_cmp birth) q) (Some words) (lookup (is_at (nat_cmp q)) made))
    → IsFilledWith after (map f (take (i + 1) blocks))
filled_next blocks f i made after birth words l filled is sorted written =
    let front : Table ℕ = map f (take i blocks) in
    let entry : ℕ × ℕ = (birth, words) in
    let whole : map f (take (i + 1) blocks) ≡ front ++ entry ∷ [] =
    ap (map f) (take_more blocks i (0, 0) l) ∙ (map-append f (take i blocks) (get_or blocks i (0, 0) ∷ []) ∙ ap (λ (e : ℕ × ℕ). front ++ e ∷ []) (sym is)) in
    subst (IsFilledWith after) (sym whole) (record {
      sorted = sorted;
      found = λ q. written q ∙ (ap (cond (is_at (nat_cmp birth) q) (Some words)) (filled.found q)
          ∙ sym (ap (λ (g : ℕ → Option ℕ). g q) (fold-append (λ (g : ℕ → Option ℕ) (p : ℕ × ℕ). update (eq_by_cmp nat_cmp) g p.0 (Some p.1)) (λ _. None) front (entry ∷ []))));
    })

-- A map that was filled with these entries is the table that lists them.
pub filled_table : (made entries : Table ℕ) → IsFilledWith made entries → (listed : Table ℕ) → KeysRise listed → IsPermutation entries listed → made ≡ listed
filled_table made entries filled listed rises same =
    let laws = eq_by_cmp_equiv nat_cmp_total in
    let apart : IsDistinct (eq_by_cmp nat_cmp) (keys_of listed) = rise-distinct listed rises in
    let turned : IsPermutation (keys_of listed) (keys_of entries) = IsPermutation-sym _ _ (IsPermutation-map (λ (e : ℕ × ℕ). e.0) entries listed same) in
    let others : IsDistinct (eq_by_cmp nat_cmp) (keys_of entries) = distinct_permutation laws (keys_of listed) (keys_of entries) turned apart in
    same_table made listed (ordered-rise made filled.sorted) rises (λ q.
    looked-up made q ∙ (filled.found q ∙ (update_all_none laws (eq_by_cmp nat_cmp) (λ x y. refl) entries q others
    ∙ (sym (lookup_permutation laws entries listed same apart (eq_by_cmp nat_cmp q) (key-test q)) ∙ sym (looked-up listed q)))))
  where
    key-test : (q x y : ℕ) → eq_by_cmp nat_cmp q x ≡ true → eq_by_cmp nat_cmp q y ≡ eq_by_cmp nat_cmp x y
    key-test q x y e = let same : q ≡ x = eqb-true q x (sym (unsigned_tied q x) ∙ e) in ap (λ (k : ℕ). eq_by_cmp nat_cmp k y) same

-- where the key is not there, all are left
none-off : (table : Table ℕ) (key : ℕ) → All (λ later. key < later.0) table → filter (λ (h : ℕ × ℕ). not (h.0 == key)) table ≡ table
none-off [] key below = refl
none-off (e ∷ table) key below =
    let first : key < e.0 = All-head (λ later. key < later.0) e table below in
    grind (arith, nat_tests, none-off table key (All-tail (λ later. key < later.0) e table below))

-- what is left behind an entry that was taken off
entry-off : (table : Table ℕ) (key : ℕ) → KeysRise table → remove_entry (is_at (nat_cmp key)) table ≡ filter (λ (h : ℕ × ℕ). not (h.0 == key)) table
entry-off [] key rises = refl
entry-off (e ∷ table) key rises = elim (cases_eq e.0 key) [
  | inl is ↦ (let rest = none-off table key (subst (λ (k : ℕ). All (λ (later : ℕ × ℕ). k < later.0) table) is (first_key_below e table rises)) in
      grind (arith, nat_tests, rest))
  | inr differ ↦ grind (arith, nat_tests, entry-off table key (KeysRise-tail e table rises))
]

-- the words of an entry that was taken off, and of those that are left
words-off : (test : ℕ → Bool) (table : Table ℕ) → husk_words (remove_entry test table) + unwrap_or (lookup test table) 0 ≡ husk_words table
words-off test [] = refl
words-off test (e ∷ table) =
    go (test e.0) refl (words-off test table) (sum_by-cons (λ (h : ℕ × ℕ). h.1) e table) (sum_by-cons (λ (h : ℕ × ℕ). h.1) e (remove_entry test table))
  where
    go : (b : Bool) → test e.0 ≡ b → husk_words (remove_entry test table) + unwrap_or (lookup test table) 0 ≡ husk_words table
        → husk_words (e ∷ table) ≡ e.1 + husk_words table → husk_words (e ∷ remove_entry test table) ≡ e.1 + husk_words (remove_entry test table)
        → husk_words (remove_entry test (e ∷ table)) + unwrap_or (lookup test (e ∷ table)) 0 ≡ husk_words (e ∷ table)
    go true is more whole part = rw is (omega (arith, whole))
    go false is more whole part = rw is (omega (arith, more, whole, part))

-- the first of these births were taken off the husks, which had these words
pub record AreTaken (start : Table ℕ) (births : List ℕ) (now : Table ℕ) (words : ℕ) : Type 0 where
  pub left : now ≡ husks_where start (λ x. not (is_in x births))
  pub counted : words + husk_words now ≡ husk_words start

-- none at first
pub taken_none : (start : Table ℕ) → AreTaken start [] start 0
taken_none start = record { left = sym (filter_all (λ (h : ℕ × ℕ). not (is_in h.0 [])) start (λ h. refl)); counted = omega arith }

-- and one more
pub taken_next : (start : Table ℕ) (births : List ℕ) (i : ℕ) (now after : Table ℕ) (words more : ℕ) → KeysRise start → i < length births → AreTaken start (take i births) now words
    → after ≡ remove_entry (is_at (nat_cmp (get_or births i 0))) now → more ≡ unwrap_or (lookup (is_at (nat_cmp (get_or births i 0))) now) 0
    → AreTaken start (take (i + 1) births) after (words + more)
taken_next start births i now after words more rises l taken left found =
    let key : ℕ = get_or births i 0 in
    let first : List ℕ = take i births in
    let rest : KeysRise now = subst KeysRise (sym taken.left) (KeysRise-entries_where (λ x. not (is_in x first)) start rises) in
    let fewer : after ≡ husks_where start (λ x. not (is_in x (first ++ key ∷ []))) =
    left ∙ (entry-off now key rest ∙ (ap (filter (λ (h : ℕ × ℕ). not (h.0 == key))) taken.left
    ∙ filter-then (λ (h : ℕ × ℕ). not (is_in h.0 first)) (λ h. not (h.0 == key)) (λ h. not (is_in h.0 (first ++ key ∷ []))) start (λ h. both h.0 first key))) in
    let one = words-off (is_at (nat_cmp key)) now in let same : husk_words after ≡ husk_words (remove_entry (is_at (nat_cmp key)) now) = ap husk_words left in let before = taken.counted in
    subst (λ (bs : List ℕ). AreTaken start bs after (words + more)) (sym (take_more births i 0 l)) (record { left = fewer; counted = omega (arith, one, same, before, found) })
  where
    both : (x : ℕ) (first : List ℕ) (key : ℕ) → (not (is_in x first) && not (x == key)) ≡ not (is_in x (first ++ key ∷ []))
    both x first key =
        ap (λ (b : Bool). not (is_in x first) && not b) (nat_eq-turned x key ∙ or-false (key == x))
        ∙ (both-bool (is_in x first) (is_in x (key ∷ [])) ∙ ap not (sym (list_any-append (λ y. y == x) first (key ∷ []))))
      where
        or-false : (b : Bool) → b ≡ (b || false)
        or-false true = refl
        or-false false = refl

-- at the end all were
pub taken_all : {start : Table ℕ} {births : List ℕ} {i : ℕ} {now : Table ℕ} {words : ℕ} → AreTaken start (take i births) now words → length births ≤ i → AreTaken start births now words
taken_all {start = start} {births = births} {i = i} {now = now} {words = words} taken l = subst (λ (bs : List ℕ). AreTaken start bs now words) (take_all i births l) taken

-- at the end, the words are those of the husks of these births
pub taken_words : {start : Table ℕ} {births : List ℕ} {now : Table ℕ} {words : ℕ} → AreTaken start births now words → words ≡ freed_words start births
taken_words {start = start} {births = births} {now = now} {words = words} taken =
    let split = sum_split (λ (h : ℕ × ℕ). h.1) (λ (h : ℕ × ℕ). is_in h.0 births) start in
    let same : husk_words now ≡ husk_words (husks_where start (λ x. not (is_in x births))) = ap husk_words taken.left in
    let whole = taken.counted in omega (arith, split, same, whole)

-- one more is no more than all
pub taken_fits : (start : Table ℕ) (births : List ℕ) (now : Table ℕ) (words : ℕ) (key : ℕ) → AreTaken start births now words
    → words + unwrap_or (lookup (is_at (nat_cmp key)) now) 0 ≤ husk_words start
taken_fits start births now words key taken = let one = words-off (is_at (nat_cmp key)) now in let whole = taken.counted in omega (arith, one, whole)
