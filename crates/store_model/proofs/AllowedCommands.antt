-- What is computed of a command is what the definitions allow.
use Rattle.std.proofs.Common.{◌≡◌, ℕ, ◌+◌, ◌<◌, Bool, true, false, IsTrue, List, [], ◌∷◌, Option, Some, None, refl, sym, ap, ◌∙◌, subst, arith}
use Rattle.std.specs.Prelude.{◌↔◌, ◌==◌, not, ◌&&◌, ◌^◌, nat_le, nat_lt, option_map}
use Rattle.std.proofs.lemmas.Bool.{false≢true}
use Rattle.std.proofs.lemmas.Bool.Decides.{nat_tests}
use Rattle.type_table.specs.declared.info.TypeInfo.{TypeInfo}
use Rattle.type_table.specs.Words.{words_in}
use Rattle.type_table.specs.Table.{value_at}
use Rattle.text_model.specs.declared.command.Command.{Command}
use Rattle.text_model.specs.declared.command.Command.TheVariants.{NewFixed, NewArray, NewWeak, Put, Get, Link, Load, CopyRefs, MoveRoot, DropRoot, Same, Ident, Hash, Place, Pin, Unpin, Deref, Register, NextFinal, MakeLink, Inc, Dec, Count, FromObj, ToObj, NextDead, Minor, Step, Collect, Used}
use Rattle.text_model.specs.declared.line.Line.{Line}
use Rattle.text_model.specs.declared.line.Line.TheVariants as line
use Rattle.object_model.specs.Sets.{is_in}
use Rattle.object_model.specs.Setup.{Setup, type_at, young_words}
use Rattle.store_model.specs.Store.{Store, counted_words}
use Rattle.store_model.specs.Slots.{held, put_in_slot}
use Rattle.store_model.specs.Structs.{count_of}
use Rattle.store_model.specs.Collections.{always}
use Rattle.object_model.specs.Newborn.{Request}
use Rattle.store_model.specs.Birth.{BirthOf}
use Rattle.store_model.specs.Births.{BirthWithRoom, BirthWithRoomOf, fixed_request, array_request, weak_request}
use Rattle.store_model.specs.Identity.{MayTell, TellsHome, TellsPlace, home_places, hash_of, is_settled_in}
use Rattle.store_model.specs.PlainCommands.{Revives, IsRevived, without_revived, target_at, raise_struct, forced_anew, linked_object}
use Rattle.store_model.specs.Steps.{Does}
use Rattle.store_model.proofs.Rounds.{tells_revived}
use Rattle.object_model.proofs.Members.{and_first, and_second}
use Rattle.store_model.specs.Roots.{is_kept}
use Rattle.store_model.specs.Reach.{refers}
use Rattle.store_model.proofs.Computed.{At, Old, Visits, Frees, Choice, Outcome, ok_of, lines_in, store_in, left_in, births_of, led, room_of, born_gapped, born_small, born_by, birth_within, birth_of, revive, tell_home, tell_held, tell_slot, place_of, count_from, outcome}
use Rattle.store_model.proofs.Allowed.{Means, joined, only-is, list-is, led-is, then-is, minor-means, block-means, collect-means, room-means, le_of, lt_of, not_false}

-- which events of a birth the definition allows
abbrev MayBear : Setup → TypeInfo → Request → Store → Outcome → Type 0
MayBear setup info request store out = IsTrue (ok_of out) → BirthOf setup info store request (lines_in out) (store_in out)

born-means : (setup : Setup) (info : TypeInfo) (request : Request) (store : Store) (choices : List Choice) (is_large : Bool) → nat_lt (young_words setup.settings) (words_in info.shape request.items) ≡ is_large
    → MayBear setup info request store (born_by is_large info request store choices)
born-means setup info request store choices true e h = record {
  is_old = true;
  large = λ l. refl;
  small = λ s g. absurd (let no : ⊥ = grind (arith, nat_tests) in no);
  printed = refl;
  leaves = refl;
}
born-means setup info request store choices false e h = small store.gapped refl choices h
  where
    not_large : young_words setup.settings < words_in info.shape request.items → ⊥
    not_large l = grind (arith, nat_tests)

    gapped : store.gapped ≡ true → (choices : List Choice) → MayBear setup info request store (born_gapped info request store choices)
    gapped g [] h = absurd (false≢true h)
    gapped g (At place ∷ choices) h = absurd (false≢true h)
    gapped g (Visits births ∷ choices) h = absurd (false≢true h)
    gapped g (Frees births ∷ choices) h = absurd (false≢true h)
    gapped g (Old is_old ∷ choices) h = record {
      is_old = is_old;
      large = λ l. absurd (not_large l);
      small = λ s not_gapped. absurd (false≢true (sym not_gapped ∙ g));
      printed = refl;
      leaves = refl;
    }

    small : (b : Bool) → store.gapped ≡ b → (choices : List Choice) → MayBear setup info request store (born_small b info request store choices)
    small true g choices h = gapped g choices h
    small false g choices h = record { is_old = false; large = λ l. absurd (not_large l); small = λ s n. refl; printed = refl; leaves = refl }

birth-means : (found : Option TypeInfo) (setup : Setup) (request : Request) (store : Store) (choices : List Choice) → IsTrue (ok_of (birth_of found setup request store choices))
    → BirthWithRoomOf found setup store request (lines_in (birth_of found setup request store choices)) (store_in (birth_of found setup request store choices))
birth-means None setup request store choices = λ h. absurd (false≢true h)
birth-means (Some info) setup request store choices =
    let words : ℕ = words_in info.shape request.items in
    let room : Outcome = room_of setup.settings words store choices in
    let own : Outcome = born_by (nat_lt (young_words setup.settings) words) info request (store_in room) (left_in room) in
    let fits : Bool = nat_le (counted_words (store_in room) + words) setup.settings.limit in
    subst (λ (out : Outcome). IsTrue (ok_of out) → BirthWithRoom setup info store request (lines_in out) (store_in out))
    (sym (then-is (birth_within setup info request) room ∙ ap (joined room) (only-is fits own)))
    (λ h. let both : IsTrue (fits && (ok_of own)) = and_second (ok_of room) (fits && (ok_of own)) h in record {
      mid = (store_in room);
      before = (lines_in room);
      own = (lines_in own);
      made_room = room-means setup.settings words store choices (and_first (ok_of room) (fits && (ok_of own)) h);
      fits = le_of (counted_words (store_in room) + words) setup.settings.limit (and_first fits (ok_of own) both);
      born = born-means setup info request (store_in room) (left_in room) (nat_lt (young_words setup.settings) words) refl (and_second fits (ok_of own) both);
      printed = refl;
    })

revive-means : (store : Store) (birth : Option ℕ) → Revives store birth (revive store birth)
revive-means store None = record { revived = λ x. false; tells = λ x. (λ t. absurd (false≢true t), λ n. absurd n); leaves = refl }
revive-means store (Some birth) =
    let start : ℕ → Bool = λ z. z == birth && is_kept store.kept z in
    let births : List ℕ = led start (refers store.kept) (births_of store) in record {
      revived = λ x. is_in x births;
      tells = λ x. subst (λ (xs : List ℕ). IsTrue (is_in x xs) ↔ IsRevived store.kept (Some birth) x) (sym (led-is start (refers store.kept) (births_of store))) (tells_revived store.kept (Some birth) x);
      leaves = list-is births (λ births. without_revived (λ x. is_in x births) store);
    }

-- a home that is told, and the one line that tells it
abbrev Told : (ℕ → Line) → ℕ → Store → List Line → Store → Type 0
Told text root old lines new = (place : ℕ) × (place < 2 ^ 64) × TellsHome old root place new × (lines ≡ text place ∷ [])

tell-home : (text : ℕ → Line) (root : ℕ) (store : Store) (choices : List Choice) (birth : ℕ) → held store.slots root ≡ Some birth → (home : Option ℕ) → value_at store.homes birth ≡ home
    → Means (Told text root) store (tell_home home text birth store choices)
tell-home text root store choices birth is_held (Some home) e h =
    (home, lt_of home (2 ^ 64) (and_first (nat_lt home (2 ^ 64)) true h), record { birth = birth; is_held = is_held; may = subst (λ (o : Option ℕ). MayTell o store.homes home) (sym e) refl; leaves = refl }, refl)
tell-home text root store [] birth is_held None e h = absurd (false≢true h)
tell-home text root store (Old is_old ∷ choices) birth is_held None e h = absurd (false≢true h)
tell-home text root store (Visits births ∷ choices) birth is_held None e h = absurd (false≢true h)
tell-home text root store (Frees births ∷ choices) birth is_held None e h = absurd (false≢true h)
tell-home text root store (At place ∷ choices) birth is_held None e h =
    let above : Bool = nat_lt 0 place in
    let free : Bool = not (is_in place (home_places store.homes)) in
    let below : Bool = nat_lt place (2 ^ 64) in
    let may : IsTrue (above && free) = and_first (above && free) (below && true) h in (
      place,
      lt_of place (2 ^ 64) (and_first below true (and_second (above && free) (below && true) h)),
      record {
        birth = birth;
        is_held = is_held;
        may = subst (λ (o : Option ℕ). MayTell o store.homes place) (sym e)
            (lt_of 0 place (and_first above free may), not_false (is_in place (home_places store.homes)) (and_second above free may));
        leaves = refl;
      },
      refl,
    )

tell-held : (text : ℕ → Line) (root : ℕ) (store : Store) (choices : List Choice) (found : Option ℕ) → held store.slots root ≡ found → Means (Told text root) store (tell_held found text store choices)
tell-held text root store choices None e h = absurd (false≢true h)
tell-held text root store choices (Some birth) e h = tell-home text root store choices birth e (value_at store.homes birth) refl h

tell-means : (text : ℕ → Line) (root : ℕ) (store : Store) (choices : List Choice) → Means (Told text root) store (tell_slot text root store choices)
tell-means text root store choices h = tell-held text root store choices (held store.slots root) refl h

place-means : (b : Bool) (root : ℕ) (store : Store) (choices : List Choice) → IsTrue (ok_of (place_of b root store choices))
    → TellsPlace b store root (lines_in (place_of b root store choices)) (store_in (place_of b root store choices))
place-means false root store choices h = (refl, refl)
place-means true root store choices h = let t = tell-means (λ place. line.PlaceIs (Some place)) root store choices h in (t.0, t.2, t.3)

count-means : (found : Option ℕ) (store : Store) (choices : List Choice) → IsTrue (ok_of (count_from found store choices))
    → (count : ℕ) × (found ≡ Some count) × ((lines_in (count_from found store choices)) ≡ line.CountIs count ∷ []) × ((store_in (count_from found store choices)) ≡ store)
count-means None store choices h = absurd (false≢true h)
count-means (Some count) store choices h = (count, refl, refl, refl)

-- what is computed of a command is what it may do
pub outcome-means : (setup : Setup) (command : Command) (old : Store) (choices : List Choice) → IsTrue (ok_of (outcome setup command old choices))
    → Does setup old command (lines_in (outcome setup command old choices)) (store_in (outcome setup command old choices))
unfolding Does
outcome-means setup (NewFixed root type_id) old choices h = birth-means (type_at setup type_id) setup (fixed_request root type_id) old choices h
outcome-means setup (NewArray root type_id len) old choices h = birth-means (type_at setup type_id) setup (array_request root type_id len) old choices h
outcome-means setup (NewWeak root type_id target) old choices h = birth-means (type_at setup type_id) setup (weak_request old root type_id target) old choices h
outcome-means setup (Put root item value) old choices h = (refl, refl)
outcome-means setup (Get root item) old choices h = (refl, refl)
outcome-means setup (Link root item from) old choices h = (refl, refl)
outcome-means setup (Load to root item) old choices h = (refl, refl)
outcome-means setup (CopyRefs root item from from_item count) old choices h = (refl, refl)
outcome-means setup (MoveRoot to from) old choices h = (refl, refl)
outcome-means setup (DropRoot root) old choices h = (refl, refl)
outcome-means setup (Same a b) old choices h = (refl, refl)
outcome-means setup (Ident root) old choices h = let t = tell-means line.IdentIs root old choices h in (t.0, t.2, t.3)
outcome-means setup (Hash root) old choices h = tell-means (λ place. line.HashIs (hash_of place)) root old choices h
outcome-means setup (Place root) old choices h = place-means (is_settled_in old (held old.slots root)) root old choices h
outcome-means setup (Pin root) old choices h = (refl, refl)
outcome-means setup (Unpin root) old choices h = (refl, refl)
outcome-means setup (Deref to root) old choices h = (refl, revive-means (put_in_slot old to (target_at old root)) (target_at old root))
outcome-means setup (Register root queue) old choices h = (refl, refl)
outcome-means setup (NextFinal to queue) old choices h = (refl, refl)
outcome-means setup (MakeLink p number root light own) old choices h = (refl, refl)
outcome-means setup (Inc number) old choices h = (refl, revive-means (raise_struct old number) (forced_anew (value_at old.structs number)))
outcome-means setup (Dec number) old choices h = (refl, refl)
outcome-means setup (Count number) old choices h = count-means (option_map count_of (value_at old.structs number)) old choices h
outcome-means setup (FromObj root) old choices h = (refl, refl)
outcome-means setup (ToObj to number) old choices h = (refl, revive-means (put_in_slot old to (linked_object old number)) (linked_object old number))
outcome-means setup NextDead old choices h = (refl, refl)
outcome-means setup Minor old choices h = minor-means old choices
outcome-means setup Step old choices h = block-means always setup.settings old choices h
outcome-means setup Collect old choices h = collect-means old.phase setup.settings old choices h
outcome-means setup Used old choices h = (refl, refl)
