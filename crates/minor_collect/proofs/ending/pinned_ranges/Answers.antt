use Rattle.std.proofs.Common.{ℕ, List, ◌++◌, map, ap, ◌∙◌, sym, subst}
use Rattle.std.specs.Prelude.{sum_by}
use Rattle.heap_parts.specs.Parts.{pinned_places, word_in}
use Rattle.heap_parts.specs.Places.{block_at}
use Rattle.std.proofs.lemmas.List.Sorted.{IsNonDecreasingBy-from_sort}
use Rattle.minor_collect.specs.Remade.{AreObjectsAt, words_of}
use Rattle.minor_collect.proofs.PinnedLaws.{lists_pinned, objects_permuted}
use Rattle.minor_collect.proofs.ending.pinned_ranges.Goals as goal

pub list_ranges-requires : goal.list_ranges-requires
list_ranges-requires c =
    let listed = c.in_ok-list_pinned.ensures ∙ ap (λ (xs : List ℕ). xs ++ pinned_places c.args.parts.now) c.requires.no_places in
    subst (AreObjectsAt c.args.parts.now) (sym c.deref-2.ensures.value)
    (objects_permuted c.args.parts.now c.list_pinned.new.places.items c.sort_unstable.new.self.items c.requires.objects listed c.sort_unstable.ensures.permutation)

pub returns : goal.returns
returns c =
    let listed = c.in_ok-list_pinned.ensures ∙ ap (λ (xs : List ℕ). xs ++ pinned_places c.args.parts.now) c.requires.no_places in
    let ranges = c.in_ok-list_ranges.ensures ∙ ap (λ (xs : List (ℕ × ℕ)). xs ++ map (block_at c.args.parts.now.setup.types (word_in c.args.parts.now)) c.deref-2.result.now) c.requires.none in
    lists_pinned c.args.parts.now c.count_words-words.result c.list_pinned.new.places.items c.sort_unstable.new.self.items c.list_ranges.new.ranges.items listed
    (c.count_words-words.ensures ∙ ap (sum_by (words_of c.args.parts.now)) c.deref.ensures.value)
    c.sort_unstable.ensures.permutation
    (IsNonDecreasingBy-from_sort (λ x. x) c.sort_unstable.new.self.items c.sort_unstable.ensures.sorted)
    (ranges ∙ ap (map (block_at c.args.parts.now.setup.types (word_in c.args.parts.now))) c.deref-2.ensures.value)
