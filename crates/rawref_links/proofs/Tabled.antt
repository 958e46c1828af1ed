-- A hash map as a table: what its steps are to the table.
use Rattle.std.proofs.Common.{◌≡◌, ℕ, Bool, true, false, is_some, cond, ◌==◌, nat_eq, List, [], ◌∷◌, length, Option, Some, None, sym, refl, ap, ◌∙◌, subst, arith}
use Rattle.std.specs.Map.{lookup}
use Rattle.std.proofs.lemmas.Bool.Decides.{nat_tests}
use Rattle.type_table.specs.Table.{Table, KeysRise, value_at, with_value, without_key}
use Rattle.type_table.proofs.TableLaws.{KeysRise-with_value, value_at-with_value}
use Rattle.rawref_links.specs.Objects.{LinksOf, links_or_none, links_at, with_link, moved_to, tabled}
use Rattle.rawref_links.proofs.Tables.{same_table, written_table, shortened_table}

-- the test of two equal numbers may be turned round
pub nat_eq-turned : (m n : ℕ) → nat_eq m n ≡ (n == m)
nat_eq-turned m n = grind (arith, nat_tests)

module _ {X : Type 0} where
  pub value_at-tabled : (entries : List (ℕ × X)) (q : ℕ) → value_at (tabled entries) q ≡ lookup (nat_eq q) entries
  value_at-tabled [] q = refl
  value_at-tabled (entry ∷ entries) q =
      value_at-with_value (tabled entries) entry.0 q entry.1 ∙ ap (cond (q == entry.0) (Some entry.1)) (value_at-tabled entries q)

  pub KeysRise-tabled : (entries : List (ℕ × X)) → KeysRise (tabled entries)
  KeysRise-tabled [] = λ i j d below within. absurd (omega arith)
  KeysRise-tabled (entry ∷ entries) = KeysRise-with_value (tabled entries) entry.0 entry.1 (KeysRise-tabled entries)

  -- what stands at each key of the table once the map has this at one key
  tabled-at : (entries after : List (ℕ × X)) (key : ℕ) (value : Option X)
      → ((q : ℕ) → lookup (nat_eq q) after ≡ cond (nat_eq key q) value (lookup (nat_eq q) entries))
      → (q : ℕ) → value_at (tabled after) q ≡ cond (q == key) value (value_at (tabled entries) q)
  tabled-at entries after key value found q =
      value_at-tabled after q ∙ found q ∙ ap (λ t. cond t value (lookup (nat_eq q) entries)) (nat_eq-turned key q)
      ∙ ap (cond (q == key) value) (sym (value_at-tabled entries q))

  pub tabled-insert : (entries after : List (ℕ × X)) (key : ℕ) (value : X)
      → ((q : ℕ) → lookup (nat_eq q) after ≡ cond (nat_eq key q) (Some value) (lookup (nat_eq q) entries))
      → tabled after ≡ with_value (tabled entries) key value
  tabled-insert entries after key value found =
      written_table (tabled after) (tabled entries) key value (KeysRise-tabled after) (KeysRise-tabled entries)
      (tabled-at entries after key (Some value) found)

  pub tabled-remove : (entries after : List (ℕ × X)) (key : ℕ)
      → ((q : ℕ) → lookup (nat_eq q) after ≡ cond (nat_eq key q) None (lookup (nat_eq q) entries))
      → tabled after ≡ without_key (tabled entries) key
  tabled-remove entries after key found =
      shortened_table (tabled after) (tabled entries) key (KeysRise-tabled after) (KeysRise-tabled entries)
      (tabled-at entries after key None found)

  pub value_at-map : (entries : List (ℕ × X)) (seen : Table X) → tabled entries ≡ seen → (key : ℕ) (value : Option X)
      → lookup (nat_eq key) entries ≡ value → value ≡ value_at seen key
  value_at-map entries seen view key value found = sym found ∙ sym (value_at-tabled entries key) ∙ ap (λ t. value_at t key) view

-- a map without entries is the table without any
tabled-none : (entries : List (ℕ × LinksOf)) (seen : Table LinksOf) → tabled entries ≡ seen → length entries ≡ 0 → [] ≡ seen
tabled-none [] seen view none = view
tabled-none (entry ∷ entries) seen view none = absurd (omega (arith, none))

pub none-at : (entries : List (ℕ × LinksOf)) (seen : Table LinksOf) (place : ℕ) → tabled entries ≡ seen → length entries ≡ 0 → [] ≡ (links_at seen place).numbers
none-at entries seen place view none = ap (λ (t : Table LinksOf). (links_at t place).numbers) (tabled-none entries seen view none)

pub none-removed : (entries : List (ℕ × LinksOf)) (seen : Table LinksOf) (place : ℕ) → tabled entries ≡ seen → length entries ≡ 0 → seen ≡ without_key seen place
none-removed entries seen place view none = subst (λ (t : Table LinksOf). t ≡ without_key t place) (tabled-none entries seen view none) refl

pub none-moved : (entries : List (ℕ × LinksOf)) (seen : Table LinksOf) (from to : ℕ) → tabled entries ≡ seen → length entries ≡ 0 → seen ≡ moved_to seen from to (value_at seen from)
none-moved entries seen from to view none = subst (λ (t : Table LinksOf). t ≡ moved_to t from to (value_at t from)) (tabled-none entries seen view none) refl

-- the links that are found are those at the place
pub links_at-map : (entries : List (ℕ × LinksOf)) (seen : Table LinksOf) → tabled entries ≡ seen → (place : ℕ) (found : Option LinksOf)
    → lookup (nat_eq place) entries ≡ found → links_or_none found ≡ links_at seen place
links_at-map entries seen view place found at = ap links_or_none (value_at-map entries seen view place found at)

-- a link more, written into the map
pub linked_more : (entries after : List (ℕ × LinksOf)) (seen : Table LinksOf) → tabled entries ≡ seen → (place number : ℕ) (p : Bool)
    (found : Option LinksOf) (links : LinksOf) → lookup (nat_eq place) entries ≡ found → links ≡ with_link (links_or_none found) number p
    → ((q : ℕ) → lookup (nat_eq q) after ≡ cond (nat_eq place q) (Some links) (lookup (nat_eq q) entries))
    → tabled after ≡ with_value seen place (with_link (links_at seen place) number p)
linked_more entries after seen view place number p found links at is written =
    tabled-insert entries after place links written ∙ ap (λ t. with_value t place links) view
    ∙ ap (with_value seen place) (is ∙ ap (λ l. with_link l number p) (links_at-map entries seen view place found at))

-- what was there, written again, changes nothing
pub written_again : (entries after : List (ℕ × LinksOf)) (seen : Table LinksOf) → tabled entries ≡ seen → (place : ℕ) (links : LinksOf)
    → lookup (nat_eq place) entries ≡ Some links
    → ((q : ℕ) → lookup (nat_eq q) after ≡ cond (nat_eq place q) (Some links) (lookup (nat_eq q) entries)) → tabled after ≡ seen
written_again entries after seen view place links at written =
    let kept : (q : ℕ) → value_at (tabled after) q ≡ value_at (tabled entries) q =
    λ q. value_at-tabled after q ∙ written q
    ∙ elim (nat_eq place q) as (λ t. nat_eq place q ≡ t → cond t (Some links) (lookup (nat_eq q) entries) ≡ lookup (nat_eq q) entries) [
      | true ↦ λ same. let is_place : q ≡ place = grind (arith, nat_tests) in sym (ap (λ n. lookup (nat_eq n) entries) is_place ∙ at)
      | false ↦ λ differ. refl
    ] refl
    ∙ sym (value_at-tabled entries q)
    in
    same_table (tabled after) (tabled entries) (KeysRise-tabled after) (KeysRise-tabled entries) kept ∙ view

-- links taken off at one place and put in at another
pub moved-map : (entries between after : List (ℕ × LinksOf)) (seen : Table LinksOf) → tabled entries ≡ seen → (from to : ℕ) (links : LinksOf)
    → lookup (nat_eq from) entries ≡ Some links
    → ((q : ℕ) → lookup (nat_eq q) between ≡ cond (nat_eq from q) None (lookup (nat_eq q) entries))
    → ((q : ℕ) → lookup (nat_eq q) after ≡ cond (nat_eq to q) (Some links) (lookup (nat_eq q) between))
    → tabled after ≡ moved_to seen from to (value_at seen from)
moved-map entries between after seen view from to links at taken put =
    tabled-insert between after to links put
    ∙ ap (λ t. with_value t to links) (tabled-remove entries between from taken ∙ ap (λ t. without_key t from) view)
    ∙ ap (moved_to seen from to) (value_at-map entries seen view from (Some links) at)

-- nothing to move
pub stays-map : (entries : List (ℕ × LinksOf)) (seen : Table LinksOf) → tabled entries ≡ seen → (from to : ℕ)
    → is_some (lookup (nat_eq from) entries) ≡ false → seen ≡ moved_to seen from to (value_at seen from)
stays-map entries seen view from to absent =
    let found = value_at-map entries seen view from (lookup (nat_eq from) entries) refl in
    elim (lookup (nat_eq from) entries) as (λ r. is_some r ≡ false → r ≡ value_at seen from → seen ≡ moved_to seen from to (value_at seen from)) [
      | None ↦ λ none at. ap (moved_to seen from to) at
      | Some links ↦ λ some at. absurd (cc)
    ] absent found
