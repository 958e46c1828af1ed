-- What the code does from where nothing is owed to the end, as its parts tell of it.
use Rattle.std.specs.Prelude.{◌≡◌, ℕ, ◌+◌, Bool, not, IsTrue, List, [], filter_map, map, Some, sum_by}
use Rattle.std.specs.List.Sorted.{IsPermutation}
use Rattle.heap_space.specs.Places.{lies_in_one, word_at}
use Rattle.heap_space.specs.Memory.{Memory}
use Rattle.nursery_gaps.specs.Nursery.{Layout as NurseryLayout, IsLaidOut}
use Rattle.object_model.specs.Sets.{is_in}
use Rattle.store_model.specs.Store.{Store}
use Rattle.store_model.specs.Structs.{object_of}
use Rattle.store_model.specs.Links.{cut_links}
use Rattle.object_model.specs.ObjectWords.{words_at}
use Rattle.remember_cards.specs.Remembered.{is_held_whole}
use Rattle.heap_parts.specs.Parts.{HeapParts, home_in, pinned_places}
use Rattle.heap_parts.specs.Places.{young_places, block_at}
use Rattle.heap_parts.specs.StandsFor.{IsMadeWith}
use Rattle.minor_collect.specs.Carried.{Moved}
use Rattle.minor_collect.specs.Midway.{Midway, Changing, with_changing, Owes, FollowsLists, is_lasting, Placing}
use Rattle.minor_collect.specs.Gray.{QueuesWritten}
use Rattle.minor_collect.specs.Homes.{GivesHomes}
use Rattle.minor_collect.specs.Lines.{ClearsWeaks}
use Rattle.minor_collect.specs.Ending.{left_places}

-- passed: the memory after the pass over the weak objects; written: the visited objects that were remembered; waiting: the units that
-- wait once homes were given back; sorted: the pinned objects by place.
pub record Finishes (start : HeapParts) (store : Store) (remembered : ℕ → ℕ → Bool) (now : Changing) (held : List ℕ) (owes : Owes) (moved : Moved)
    (placing : Placing) (mid : Midway start store remembered now placing [] held [] owes moved []) (new : Changing) (nursery : NurseryLayout) (unsettled old_words : ℕ) : Type 0 where
  pub passed : Memory
  pub written : List ℕ
  pub waiting : List ℕ
  pub sorted : List ℕ
  pub gone_at : ℕ → Bool
  pub lists : FollowsLists (pinned_places start) placing.places owes now.slots now.registered (filter_map (λ entry. object_of entry.1) now.links.structs)
  pub queues : QueuesWritten start (word_at now.memory.blocks) placing.name placing.places store.visited written now.gray new.gray
  pub weaks : ClearsWeaks start.setup.types (word_at passed.blocks) (word_at now.memory.blocks) (pinned_places start) start.weaks new.weaks
  pub gives : GivesHomes start.setup.types start.setup.settings.page (word_at passed.blocks) (pinned_places start) placing.places placing.husks placing.waiting
      (home_in (with_changing start now)) (home_in (with_changing start new)) new.old_blocks new.memory waiting
  pub only : (p at : ℕ) → home_in (with_changing start new) p ≡ Some at → IsTrue (is_in p (pinned_places start))
  pub nursery_is : nursery ≡ record start.nursery { used = map (block_at start.setup.types (word_at new.memory.blocks)) sorted; gap = 1; cursor = 1 }
  pub laid_out : IsLaidOut nursery
  pub sorted_are : IsPermutation sorted (pinned_places start)
  pub nursery_whole : IsTrue (lies_in_one new.memory.blocks 1 start.nursery.words)
  pub remembered_is : new.remembered ≡ now.remembered
  pub held_whole : (q : ℕ) → IsTrue (is_in q held) → IsTrue (is_held_whole new.remembered q)
  pub slots_same : new.slots ≡ now.slots
  pub registered_same : new.registered ≡ now.registered
  pub links_cut : new.links ≡ cut_links gone_at now.links
  pub gone_are : (p : ℕ) → IsTrue (is_in p (filter_map (λ entry. object_of entry.1) now.links.structs)) → gone_at p ≡ not (is_lasting (pinned_places start) p)
  pub unsettled_are : unsettled ≡ sum_by (words_at start.setup.types (word_at new.memory.blocks)) (young_places (left_places store placing.found placing.name placing.places))
  pub old_are : old_words ≡ start.old_words + moved.words
  pub made : IsMadeWith start.setup.settings new.memory nursery new.remembered new.old_blocks
