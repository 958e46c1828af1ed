-- The links of each object, found by its place.
use Rattle.std.specs.Prelude.{ℕ, Bool, if◌then◌else◌, List, [], ◌∷◌, ◌++◌, Option, Some, None}
use Rattle.std.specs.List.{list_any}
use Rattle.object_model.specs.Sets.{is_in}
use Rattle.type_table.specs.Table.{Table, value_at, with_value, without_key}

-- the structures that are linked with one object: the one with a P link, and all of them, in the order of their links
pub record LinksOf : Type 0 where
  pub p_link : Option ℕ
  pub numbers : List ℕ

-- no structure
abbrev pub no_links : LinksOf
no_links = record { p_link = None; numbers = [] }

-- the links that were found, if any were
abbrev pub links_or_none : Option LinksOf → LinksOf
links_or_none None = no_links
links_or_none (Some links) = links

-- the links of the object at a place
abbrev pub links_at : Table LinksOf → ℕ → LinksOf
links_at objects place = links_or_none (value_at objects place)

-- one link more
abbrev pub with_link : LinksOf → ℕ → Bool → LinksOf
with_link links number p = record {
  p_link = if p then Some number else links.p_link;
  numbers = links.numbers ++ number ∷ [];
}

-- these entries as a table
abbrev pub tabled : {X : Type 0} → List (ℕ × X) → Table X
tabled [] = []
tabled (entry ∷ entries) = with_value (tabled entries) entry.0 entry.1

-- the links of the object at one place, if it has any, under another
abbrev pub moved_to : Table LinksOf → ℕ → ℕ → Option LinksOf → Table LinksOf
moved_to objects from to None = objects
moved_to objects from to (Some links) = with_value (without_key objects from) to links

-- whether a structure is linked with the object at one of these places
abbrev pub is_at_one : ℕ → Table LinksOf → List ℕ → Bool
is_at_one number objects places = list_any (λ place. is_in number (links_at objects place).numbers) places
