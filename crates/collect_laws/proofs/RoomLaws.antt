-- The room that is there for a birth after its collections, or is not.
use Rattle.std.proofs.Common.{◌≡◌, ℕ, ◌+◌, ◌≤◌, true, false, List, sym, ap, ◌∙◌, inl, inr, arith}
use Rattle.std.proofs.Math.Nat.{min-le_right}
use Rattle.std.proofs.lemmas.Bool.Decides.{nat_tests}
use Rattle.text_model.specs.declared.line.Line.{Line}
use Rattle.object_model.specs.Setup.{Setup, young_words}
use Rattle.store_model.specs.Store.{Store}
use Rattle.store_model.specs.Collections.{needs_block}
use Rattle.parts_model.specs.Parts.{HeapParts}
use Rattle.parts_model.specs.StandsFor.{PartsStandFor}
use Rattle.collect_laws.specs.Tests.{needs_block_in, exceeds_limit_in}
use Rattle.collect_laws.specs.Collections.{MakesRoomFor}
use Rattle.collect_laws.specs.Room.{HasRoomFor, FindsNoRoom}
use Rattle.collect_laws.proofs.TestLaws.{counted_in, needs_in}
use Rattle.collect_laws.proofs.BlockLaws.{as_event}
use Rattle.collect_laws.proofs.Cleared.{IsCleared, room_clears, nothing_unsettled}

-- a cleared store has the whole nursery free
cleared_room : {heap : HeapParts} {store : Store} → PartsStandFor heap store → IsCleared store → (words : ℕ) → heap.gapped ≡ false → words ≤ young_words heap.setup.settings
    → heap.unsettled + words ≤ heap.setup.settings.nursery
cleared_room {heap = heap} {store = store} s cleared words ungapped small =
    let none = nothing_unsettled store.kept store.settled (cleared (s.counts.gapped_is ∙ ungapped)) in
    let few = min-le_right heap.setup.settings.young heap.setup.settings.nursery in
    let unsettled = s.sums.unsettled_are in omega (arith, none, few, unsettled, small)

-- Within the limit, there is room for the birth after what comes before it.
pub has_room : {old new : HeapParts} {before after : List Line} (words : ℕ) → MakesRoomFor words old new before after → (store : Store) → PartsStandFor old store
    → exceeds_limit_in new words ≡ false → HasRoomFor new words
has_room {old = old} {new = new} words u store s within =
    let l = u.leads store s in
    record {
      nursery = elim (room_clears old.setup.settings store words u.lines l.0 l.1).how [
        | inl same ↦
            let test : needs_block_in new words ≡ false =
            sym (needs_in l.2 words) ∙ (ap (λ (setup : Setup). needs_block setup.settings l.0 words) u.setup ∙ (ap (λ (k : Store). needs_block old.setup.settings k words) same.1 ∙ same.0)) in
            λ ungapped small. (let low : new.unsettled + new.fresh + words ≤ new.setup.settings.nursery = grind (arith, nat_tests) in omega (arith, low))
        | inr cleared ↦ cleared_room l.2 cleared words
      ];
      limit = grind (arith, nat_tests);
    }

-- Else the limit refuses the birth.
pub finds_no_room : {old new : HeapParts} {before after : List Line} (words counted limit : ℕ) → MakesRoomFor words old new before after → exceeds_limit_in new words ≡ true
    → counted ≡ new.unsettled + new.old_words → limit ≡ new.setup.settings.limit → FindsNoRoom words counted limit old new before after
finds_no_room {old = old} {new = new} words counted limit u exceeds counts is =
    let over : new.setup.settings.limit + 1 ≤ new.unsettled + new.old_words + words = grind (arith, nat_tests) in
    as_event (λ store lines later s t made. record {
      no_room = record {
        made_room = made;
        exceeds = (let all = counted_in t in let same = ap (λ (setup : Setup). setup.settings.limit) u.setup in omega (arith, over, all, same));
      };
      counted_are = counts ∙ sym (counted_in t);
      limit_is = is ∙ ap (λ (setup : Setup). setup.settings.limit) u.setup;
    }) u
