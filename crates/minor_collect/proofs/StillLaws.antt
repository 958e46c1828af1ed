-- A reference is followed where nothing has to move.
use Rattle.std.proofs.Common.{◌≡◌, ◌≢◌, ℕ, ◌+◌, ◌<◌, ◌≤◌, ◌⊎◌, true, false, IsTrue, [], refl, sym, ◌∙◌, inl, inr, arith}
use Rattle.std.proofs.lemmas.Bool.Decides.{nat_tests}
use Rattle.heap_space.specs.Places.{has, word_at}
use Rattle.object_header.specs.Words.{has_flag}
use Rattle.object_header.specs.declared.flags.Flag.TheVariants.{Pinned}
use Rattle.object_view.proofs.SpaceLaws.{lies-at}
use Rattle.object_view.proofs.LayoutLaws.{laid_out}
use Rattle.object_model.specs.Sets.{is_in}
use Rattle.object_model.specs.Holds.{IsPointer}
use Rattle.heap_parts.specs.Parts.{HeapParts, pinned_places}
use Rattle.heap_parts.specs.Places.{is_young}
use Rattle.frame_laws.proofs.PlaceLaws.{is_in-young}
use Rattle.minor_collect.specs.Midway.{is_lasting, FollowedTo}
use Rattle.minor_collect.specs.Calls.{Stage, Spot, Middle}
use Rattle.minor_collect.proofs.FollowCases.{followed_stays, followed_left, still_there}

pub is-high : (x : ℕ) → 4294967296 ≤ x → is_young x ≡ false
is-high x l = grind (arith, nat_tests)

pub is-low : (x : ℕ) → x < 4294967296 → is_young x ≡ true
is-low x l = grind (arith, nat_tests)

module _ {stage : Stage} {now : HeapParts} {spot : Spot} (middle : Middle stage now spot []) (x : ℕ) where
  met-of : IsPointer spot.placing.met x → x ≢ 0 → IsTrue (is_in x spot.placing.met)
  met-of (inl e) ne = absurd (ne e)
  met-of (inr t) ne = t

  small : stage.start.nursery.words ≤ 1048576
  small = omega (arith, middle.mid.made.words, middle.mid.made.ranges.1)

  two-there : IsTrue (is_in x spot.placing.places) ⊎ (x + 1 ≤ stage.start.nursery.words) → IsTrue (is_in x spot.placing.met) → IsTrue (has now.memory.blocks x) × IsTrue (has now.memory.blocks (x + 1))
  two-there (inl t) u =
      let two = (laid_out stage.start.setup.types (word_at now.memory.blocks) x).header in let lies = (middle.mid.words.whole x t).whole in (
        lies-at now.memory.blocks x _ x lies (omega arith) (omega (arith, two)),
        lies-at now.memory.blocks x _ (x + 1) lies (omega arith) (omega (arith, two)),
      )
  two-there (inr l) u =
      let above = middle.mid.words.moving.above x u in (
        lies-at now.memory.blocks 1 stage.start.nursery.words x middle.mid.words.nursery_whole above (omega (arith, l)),
        lies-at now.memory.blocks 1 stage.start.nursery.words (x + 1) middle.mid.words.nursery_whole (omega arith) (omega (arith, l)),
      )

  -- both words that tell where it went can be read
  pub can_read : IsPointer spot.placing.met x → x ≢ 0 → IsTrue (has now.memory.blocks x) × IsTrue (has now.memory.blocks (x + 1))
  can_read is ne = let t = met-of is ne in two-there (middle.mid.words.left_low x t) t

  high-there : IsTrue (is_in x spot.placing.places) ⊎ (x + 1 ≤ stage.start.nursery.words) → is_young x ≡ false → IsTrue (is_in x spot.placing.places)
  high-there (inl t) y = t
  high-there (inr low) y = absurd (let clash : true ≡ false = sym (is-low x (omega (arith, low, small))) ∙ y in let no : ⊥ = cc in no)

  abbrev Leads : ℕ → Type 0
  Leads y = FollowedTo stage.store (pinned_places stage.start) spot.placing.places spot.placing.found spot.placing.name x y

  pub leads_old : IsPointer spot.placing.met x → x ≢ 0 → is_young x ≡ false → Leads x
  leads_old is ne y = followed_stays middle.mid.words.objects middle.mid.words.moving middle.mid.follows x (high-there (middle.mid.words.left_low x (met-of is ne)) y) (rw y refl)

  pub leads_left : IsPointer spot.placing.met x → x ≢ 0 → word_at now.memory.blocks x ≡ 18446744073709551615 → Leads (word_at now.memory.blocks (x + 1))
  leads_left is ne e = followed_left middle.mid.words.objects middle.mid.words.moving middle.mid.follows x (met-of is ne) e

  there : IsPointer spot.placing.met x → x ≢ 0 → word_at now.memory.blocks x ≢ 18446744073709551615 → IsTrue (is_in x spot.placing.places)
  there is ne e = still_there middle.mid.words.objects middle.mid.words.moving middle.mid.follows x (met-of is ne) e

  pinned-is : IsTrue (is_in x spot.placing.places) → is_young x ≡ true → has_flag (word_at now.memory.blocks x) Pinned ≡ is_in x (pinned_places stage.start)
  pinned-is t y = middle.mid.young_flags.pinned.each x (is_in-young spot.placing.places x t y)

  pub leads_pinned : IsPointer spot.placing.met x → x ≢ 0 → is_young x ≡ true → word_at now.memory.blocks x ≢ 18446744073709551615 → has_flag (word_at now.memory.blocks x) Pinned ≡ true → Leads x
  leads_pinned is ne y e flag =
      let t = there is ne e in followed_stays middle.mid.words.objects middle.mid.words.moving middle.mid.follows x t (rw (y, sym (pinned-is t y) ∙ flag) refl)

  pub waits_still : IsPointer spot.placing.met x → x ≢ 0 → is_young x ≡ true → word_at now.memory.blocks x ≢ 18446744073709551615 → has_flag (word_at now.memory.blocks x) Pinned ≡ false
      → IsTrue (is_in x spot.placing.places) × (is_lasting (pinned_places stage.start) x ≡ false)
  waits_still is ne y e flag = let t = there is ne e in (t, rw (y, sym (pinned-is t y) ∙ flag) refl)
