-- Every line of an allowed transcript is proper.
use Rattle.std.proofs.Common.{◌≡◌, ℕ, ◌-◌, ◌≤◌, Bool, true, false, List, [], ◌∷◌, cond, Option, Some, None, refl, sym, subst, arith}
use Rattle.std.specs.Prelude.{All, nat_lt, nat_le, ◌==◌, ◌||◌}
use Rattle.std.proofs.lemmas.Bool.Decides.{nat_tests}
use Rattle.std.proofs.lemmas.Grind.{flat_map-append}
use Rattle.std.proofs.lemmas.List.Elements.{All-nil, All-head, All-tail, All-append, All-filter}
use Rattle.type_table.specs.Table.{Table, value_at, with_value}
use Rattle.type_table.proofs.TableLaws.{All-with_value}
use Rattle.text_model.specs.declared.command.Command.{Command}
use Rattle.text_model.specs.declared.command.Command.TheVariants.{NewFixed, NewArray, NewWeak, Put, Get, Link, Load, CopyRefs, MoveRoot, DropRoot, Same, Ident, Hash, Place, Pin, Unpin, Deref, Register, NextFinal, MakeLink, Inc, Dec, Count, FromObj, ToObj, NextDead, Minor, Step, Collect, Used}
use Rattle.text_model.specs.declared.item.Item.{Item}
use Rattle.text_model.specs.declared.item.Item.TheVariants.{Blank, Setting, TypeDef, Command as CommandItem}
use Rattle.text_model.specs.declared.item.Reason.{Reason}
use Rattle.text_model.specs.declared.item.Reason.TheVariants.{Range, CountFull}
use Rattle.text_model.specs.declared.line.Line.{Line}
use Rattle.text_model.specs.Range.{is_above, is_above_ids, is_above_counts}
use Rattle.text_model.specs.Text.{IsProper}
use Rattle.object_model.specs.Setup.{Setup, type_at}
use Rattle.store_model.specs.Store.{Store, Struct, Linked, Unlinked, Pending}
use Rattle.store_model.specs.Slots.{held}
use Rattle.store_model.specs.Structs.{raised, with_struct, take_dead, state_of}
use Rattle.store_model.specs.Look.{look}
use Rattle.store_model.specs.Checks.{first_reason}
use Rattle.store_model.specs.StructChecks.{inc_checks}
use Rattle.store_model.specs.Refusal.{command_checks, checks_in_range, refusal, refusal_seen}
use Rattle.store_model.specs.Collections.{always}
use Rattle.store_model.specs.Births.{fixed_request, array_request, weak_request}
use Rattle.store_model.specs.Identity.{TellsPlace, is_settled_in}
use Rattle.store_model.specs.PlainCommands.{raised_at, lowered_at, structs_linked}
use Rattle.store_model.specs.Steps.{Does}
use Rattle.store_model.specs.Progress.{Progress, at_start}
use Rattle.store_model.specs.Transcript.{Group, ItemDoes, Runs, group_lines}
use Rattle.store_model.proofs.Proper.{own_of, IsEntryInRange, AreStructsInRange, IsInRange, entry_at, birth_fine, minor_fine, block_fine, collect_fine, ItemDoes-proper}

-- a check that is not the first to hold does not hold
passed : (b : Bool) (reason : Reason) (rest : Option Reason) → cond b (Some reason) rest ≡ None → (b ≡ false) × (rest ≡ None)
passed true reason rest e = cc
passed false reason rest e = (refl, e)

not_above : (bound n : ℕ) → nat_lt bound n ≡ false → n ≤ bound
not_above bound n e = grind (arith, nat_tests)

or_none : (a b : Bool) → (a || b) ≡ false → (a ≡ false) × (b ≡ false)
or_none true b e = cc
or_none false b e = (refl, e)

-- a structure that is put at a number
put_in_range : (structs : Table Struct) (dead : List ℕ) (number : ℕ) (s : Struct) → AreStructsInRange structs dead → number ≤ 65535 → own_of s ≤ 4294967295
    → AreStructsInRange (with_value structs number s) dead
put_in_range structs dead number s r n o = record { entries = All-with_value IsEntryInRange structs number s (n, o) r.entries; numbers = r.numbers }

count_rises : (s : Struct) → first_reason (inc_checks (state_of (Some s))) ≡ None → own_of (raised s) ≤ 4294967295
count_rises (Linked p light object own) e = let full = (passed (nat_le 4294967295 own) CountFull None e).0 in grind (arith, nat_tests)
count_rises (Unlinked own) e = let full = (passed (nat_le 4294967295 own) CountFull None e).0 in grind (arith, nat_tests)
count_rises Pending e = omega arith

raise_in_range : (structs : Table Struct) (dead : List ℕ) (number : ℕ) (found : Option Struct) → value_at structs number ≡ found → AreStructsInRange structs dead
    → first_reason (inc_checks (state_of found)) ≡ None → AreStructsInRange (raised_at structs number found) dead
raise_in_range structs dead number None is r e = r
raise_in_range structs dead number (Some s) is r e = put_in_range structs dead number (raised s) r (entry_at structs number s r.entries is).0 (count_rises s e)

without_in_range : (structs : Table Struct) (dead : List ℕ) (number : ℕ) → AreStructsInRange structs dead → AreStructsInRange (with_struct structs number None) dead
without_in_range structs dead number r = record { entries = All-filter _ IsEntryInRange structs r.entries; numbers = r.numbers }

lower_in_range : (structs : Table Struct) (dead : List ℕ) (number : ℕ) (found : Option Struct) → value_at structs number ≡ found → AreStructsInRange structs dead
    → AreStructsInRange (lowered_at structs number found) dead
lower_in_range structs dead number None is r = r
lower_in_range structs dead number (Some (Linked p light object own)) is r =
    let here = entry_at structs number (Linked p light object own) r.entries is in put_in_range structs dead number (Linked p light object (own - 1)) r here.0 (omega (arith, here.1))
lower_in_range structs dead number (Some (Unlinked own)) is r =
    let here = entry_at structs number (Unlinked own) r.entries is in
    elim (own == 1) as (λ b. AreStructsInRange (with_struct structs number (cond b None (Some (Unlinked (own - 1))))) dead) [
      | true ↦ without_in_range structs dead number r
      | false ↦ put_in_range structs dead number (Unlinked (own - 1)) r here.0 (omega (arith, here.1))
    ]
lower_in_range structs dead number (Some Pending) is r = put_in_range structs dead number Pending r (entry_at structs number Pending r.entries is).0 (omega arith)

take_in_range : (structs : Table Struct) (dead : List ℕ) → AreStructsInRange structs dead → AreStructsInRange (take_dead structs dead).structs (take_dead structs dead).dead
take_in_range structs [] r = r
take_in_range structs (number ∷ dead) r = record {
  entries = All-with_value IsEntryInRange structs number (Unlinked 1) (All-head (λ number. number ≤ 65535) number dead r.numbers, omega arith) r.entries;
  numbers = All-tail (λ number. number ≤ 65535) number dead r.numbers;
}

link_in_range : (structs : Table Struct) (dead : List ℕ) (p light : Bool) (number own : ℕ) (birth : Option ℕ) → number ≤ 65535 → own ≤ 4294967295 → AreStructsInRange structs dead
    → AreStructsInRange (structs_linked structs p number birth light own) dead
link_in_range structs dead p light number own None n o r = r
link_in_range structs dead p light number own (Some birth) n o r = put_in_range structs dead number (Linked p light birth own) r n o

-- a new store that has the structures of another
becomes : {new : Store} (is_new : Store) → new ≡ is_new → IsInRange is_new → IsInRange new
becomes is_new is r = subst IsInRange (sym is) r

place_in_range : (settled : Bool) (old : Store) (root : ℕ) (lines : List Line) (new : Store) → IsInRange old → TellsPlace settled old root lines new → IsInRange new
place_in_range true old root lines new r does = becomes _ does.1.leaves r
place_in_range false old root lines new r does = becomes _ does.1 r

-- the numbers stay in range where the command is not refused
does_in_range : (setup : Setup) (old : Store) (command : Command) (lines : List Line) (new : Store) → first_reason (command_checks setup (look old) command) ≡ None
    → IsInRange old → Does setup old command lines new → IsInRange new
unfolding Does is_above
does_in_range setup old (NewFixed root type_id) lines new ok r does = (birth_fine (type_at setup type_id) setup old (fixed_request root type_id) lines new r does).in_range
does_in_range setup old (NewArray root type_id len) lines new ok r does = (birth_fine (type_at setup type_id) setup old (array_request root type_id len) lines new r does).in_range
does_in_range setup old (NewWeak root type_id target) lines new ok r does = (birth_fine (type_at setup type_id) setup old (weak_request old root type_id target) lines new r does).in_range
does_in_range setup old (Put root item value) lines new ok r does = becomes _ does.1 r
does_in_range setup old (Get root item) lines new ok r does = becomes _ does.1 r
does_in_range setup old (Link root item from) lines new ok r does = becomes _ does.1 r
does_in_range setup old (Load to root item) lines new ok r does = becomes _ does.1 r
does_in_range setup old (CopyRefs root item from from_item count) lines new ok r does = becomes _ does.1 r
does_in_range setup old (MoveRoot to from) lines new ok r does = becomes _ does.1 r
does_in_range setup old (DropRoot root) lines new ok r does = becomes _ does.1 r
does_in_range setup old (Same a b) lines new ok r does = becomes _ does.1 r
does_in_range setup old (Ident root) lines new ok r does = becomes _ does.1.leaves r
does_in_range setup old (Hash root) lines new ok r does = becomes _ does.2.leaves r
does_in_range setup old (Place root) lines new ok r does = place_in_range (is_settled_in old (held old.slots root)) old root lines new r does
does_in_range setup old (Pin root) lines new ok r does = becomes _ does.1 r
does_in_range setup old (Unpin root) lines new ok r does = becomes _ does.1 r
does_in_range setup old (Deref to root) lines new ok r does = becomes _ does.1.leaves r
does_in_range setup old (Register root queue) lines new ok r does = becomes _ does.1 r
does_in_range setup old (NextFinal to queue) lines new ok r does = becomes _ does.1 r
does_in_range setup old (MakeLink p number root light own) lines new ok r does =
    let fits = (passed (is_above_ids number || (is_above_ids root || is_above_counts own)) Range (first_reason (checks_in_range setup (look old) (MakeLink p number root light own))) ok).0 in
    let first = or_none (is_above_ids number) (is_above_ids root || is_above_counts own) fits in
    let second = or_none (is_above_ids root) (is_above_counts own) first.1 in
    becomes _ does.1 (link_in_range old.structs old.dead p light number own (held old.slots root) (not_above 65535 number first.0) (not_above 4294967295 own second.1) r)
does_in_range setup old (Inc number) lines new ok r does =
    becomes _ does.1.leaves (raise_in_range old.structs old.dead number (value_at old.structs number) refl r
    (passed (is_above_ids number) Range (first_reason (inc_checks (state_of (value_at old.structs number)))) ok).1)
does_in_range setup old (Dec number) lines new ok r does = becomes _ does.1 (lower_in_range old.structs old.dead number (value_at old.structs number) refl r)
does_in_range setup old (Count number) lines new ok r does = becomes _ does.3 r
does_in_range setup old (FromObj root) lines new ok r does = becomes _ does.1 r
does_in_range setup old (ToObj to number) lines new ok r does = becomes _ does.1.leaves r
does_in_range setup old NextDead lines new ok r does = becomes _ does.1 (take_in_range old.structs old.dead r)
does_in_range setup old Minor lines new ok r does = (minor_fine old lines new r does).in_range
does_in_range setup old Step lines new ok r does = (block_fine always setup.settings old lines new r does).in_range
does_in_range setup old Collect lines new ok r does = (collect_fine old.phase setup.settings old lines new r does).in_range
does_in_range setup old Used lines new ok r does = becomes _ does.1 r

none_in_range : AreStructsInRange [] []
none_in_range = record { entries = All-nil IsEntryInRange; numbers = All-nil (λ number. number ≤ 65535) }

item_in_range : (old : Progress) (item : Item) (groups : List Group) (new : Progress) → refusal old item ≡ None → IsInRange old.store → ItemDoes old item groups new → IsInRange new.store
unfolding ItemDoes refusal_seen
item_in_range old Blank groups new ok r does = subst (λ (at : Progress). IsInRange at.store) (sym does.1) r
item_in_range old (Setting name value) groups new ok r does = subst (λ (at : Progress). IsInRange at.store) (sym does.1) none_in_range
item_in_range old (TypeDef id info) groups new ok r does = subst (λ (at : Progress). IsInRange at.store) (sym does.1) none_in_range
item_in_range old (CommandItem command) groups new ok r does =
    subst (λ (at : Progress). IsInRange at.store) (sym does.leaves) (does_in_range old.setup old.store command does.lines does.store ok r does.does)

runs_proper : (old : Progress) (items : List Item) (groups : List Group) (new : Progress) → IsInRange old.store → Runs old items groups new → All IsProper (group_lines groups)
runs_proper old [] groups new r runs = subst (λ (gs : List Group). All IsProper (group_lines gs)) (sym runs.0) (All-nil IsProper)
runs_proper old (item ∷ items) groups new r (first, rest, mid, is, ok, does, runs) =
    subst (λ (gs : List Group). All IsProper (group_lines gs)) (sym is)
    (subst (All IsProper) (sym (flat_map-append (λ (g : Group). g.lines) first rest))
    (All-append IsProper (group_lines first) (group_lines rest) (ItemDoes-proper old item first mid r does) (runs_proper mid items rest new (item_in_range old item first mid ok r does) runs)))

-- Every line of a transcript that the store allows is proper.
pub Runs-proper : (items : List Item) (groups : List Group) (new : Progress) → Runs at_start items groups new → All IsProper (group_lines groups)
Runs-proper items groups new runs = runs_proper at_start items groups new none_in_range runs
