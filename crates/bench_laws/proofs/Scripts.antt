-- No item of a generated script is refused, and the limit refuses no birth of it.
use Rattle.std.proofs.Common.{◌≡◌, ℕ, zero, suc, ◌+◌, ◌≤◌, List, [], ◌∷◌, ◌++◌, map, length, replicate, Some, None, refl, sym, ap, ◌∙◌, subst, arith}
use Rattle.type_table.specs.declared.info.TypeInfo.{TypeInfo}
use Rattle.text_model.specs.declared.command.Command.{Command}
use Rattle.text_model.specs.declared.item.Item.{Item}
use Rattle.text_model.specs.declared.item.Item.TheVariants.{Setting, TypeDef, Command as CommandItem}
use Rattle.text_model.specs.Generated.{generated_header, generated_commands, generated_items}
use Rattle.object_model.specs.Setup.{Setup}
use Rattle.store_model.specs.Store.{empty_store}
use Rattle.store_model.specs.Slots.{held}
use Rattle.store_model.specs.Progress.{Progress, at_start, before_commands, after_setting, after_type}
use Rattle.store_model.specs.Refusal.{refusal, refusal_seen}
use Rattle.store_model.specs.Births.{words_asked}
use Rattle.store_model.specs.Collections.{HasNoRoom}
use Rattle.store_model.specs.Steps.{Does}
use Rattle.store_model.specs.Transcript.{Group, ItemDoes, ItemExceeds, Runs}
use Rattle.store_model.specs.Look.{look}
use Rattle.store_model.proofs.EmptySound.{empty_sound}
use Rattle.store_model.proofs.Form.{empty_form}
use Rattle.bench_laws.proofs.Forms.{IsGenerated, bench_settings}
use Rattle.bench_laws.proofs.Room.{room_fits}
use Rattle.bench_laws.proofs.Drawn.{AreDrawn, Finished, Then, IsDrawn, generated_drawn, generated_length}
use Rattle.bench_laws.proofs.Accepted.{bench_setup, accepted}
use Rattle.bench_laws.proofs.Keeps.{info_of_pair, info_of_row, info_of_weak, info_of_numbers, command_keeps, asked_small}

-- the item is done: it is neither refused, nor is it by the limit
pub record IsDone (at : Progress) (item : Item) : Type 0 where
  pub accepted : refusal at item ≡ None
  pub within : (counted request limit : ℕ) (more : List Group) (after : Progress) → ItemExceeds at item counted request limit more after → ⊥

-- each of these items is done where those in front of it lead to
abbrev AreDone : List Item → Progress → Type 0
AreDone [] at = Unit {0}
AreDone (item ∷ items) at = IsDone at item × ((groups : List Group) (new : Progress) → ItemDoes at item groups new → AreDone items new)

done_behind : (front : List Item) (item : Item) (rest : List Item) (groups : List Group) (old at : Progress) → AreDone (front ++ item ∷ rest) old → Runs old front groups at → IsDone at item
done_behind [] item rest groups old at done runs = subst (λ (p : Progress). IsDone p item) (sym runs.1) done.0
done_behind (first ∷ front) item rest groups old at done (some, more, mid, is, ok, does, runs) = done_behind front item rest more mid at (done.1 some mid does) runs

-- settings and types
setting_done : (at : Progress) (name value : ℕ) (items : List Item) → refusal at (Setting name value) ≡ None → AreDone items (after_setting at name value) → AreDone (Setting name value ∷ items) at
unfolding ItemDoes ItemExceeds
setting_done at name value items ok more = (
  record { accepted = ok; within = λ counted request limit groups after exceeds. exceeds },
  λ groups new does. subst (λ (p : Progress). AreDone items p) (sym does.1) more,
)

type_done : (at : Progress) (id : ℕ) (info : TypeInfo) (items : List Item) → refusal at (TypeDef id info) ≡ None → AreDone items (after_type at id info) → AreDone (TypeDef id info ∷ items) at
unfolding ItemDoes ItemExceeds
type_done at id info items ok more = (
  record { accepted = ok; within = λ counted request limit groups after exceeds. exceeds },
  λ groups new does. subst (λ (p : Progress). AreDone items p) (sym does.1) more,
)

-- behind the settings and types
abbrev behind_header : Progress
behind_header = before_commands bench_setup (11 ∷ [])

abbrev at_setting : Progress
at_setting = after_setting at_start 11 16

abbrev at_pair : Progress
at_pair = after_type at_setting 1 info_of_pair

abbrev at_row : Progress
at_row = after_type at_pair 2 info_of_row

abbrev at_weak : Progress
at_weak = after_type at_row 3 info_of_weak

header_done : (items : List Item) → AreDone items behind_header → AreDone (generated_header ++ items) at_start
unfolding refusal_seen
header_done items done =
    let numbers : List Item = TypeDef 4 info_of_numbers ∷ items in
    let weaks : List Item = TypeDef 3 info_of_weak ∷ numbers in
    let rows : List Item = TypeDef 2 info_of_row ∷ weaks in
    let pairs : List Item = TypeDef 1 info_of_pair ∷ rows in
    setting_done at_start 11 16 pairs refl (
    type_done at_setting 1 info_of_pair rows refl (
    type_done at_pair 2 info_of_row weaks refl (
    type_done at_row 3 info_of_weak numbers refl (
    type_done at_weak 4 info_of_numbers items refl done))))

none_held : (n slot x : ℕ) → held (replicate n None) slot ≡ Some x → ⊥
none_held zero slot x e = let no : ⊥ = cc in no
none_held (suc n) zero x e = let no : ⊥ = cc in no
none_held (suc n) (suc slot) x e = none_held n slot x e

none_first : IsGenerated 0 1 (empty_store bench_settings)
none_first = record {
  well = record { sound = empty_sound bench_settings; form = empty_form bench_settings };
  plain = record { pinned = refl; registered = refl; chosen = refl; queues = refl; structs = refl };
  objects = record {
    small = λ x o e. absurd (let no : ⊥ = cc in no);
    references = λ x y t. absurd (let no : ⊥ = cc in no);
    targets = λ x t e. absurd (let no : ⊥ = cc in no);
  };
  slots = record {
    pairs = λ slot x below e. absurd (none_held 16 slot x e);
    rows = λ slot x from below e. absurd (none_held 16 slot x e);
    weaks = λ x e. absurd (none_held 16 14 x e);
  };
  full = record { at = λ slot below. absurd (let no : ⊥ = omega (arith, below) in no) };
  few = omega arith;
}

-- a command of a generated script is done
command_done : (filled most now : ℕ) (command : Command) (at : Progress) → IsDrawn filled now command → most ≤ 100016 → IsGenerated filled most at.store → at.setup ≡ bench_setup → IsDone at (CommandItem command)
unfolding ItemExceeds
command_done filled most now command at drawn few g is = record {
  accepted = ap (λ (setup : Setup). refusal_seen setup at.set_names at.late (look at.store) (CommandItem command)) is ∙ accepted g at.set_names at.late now command drawn;
  within = λ counted request limit more after exceeds.
      let small = asked_small now command drawn request (sym (ap (λ (setup : Setup). words_asked setup command) is) ∙ exceeds.asks) in
      let no_room : HasNoRoom bench_settings at.store request exceeds.lines exceeds.store =
      subst (λ (setup : Setup). HasNoRoom setup.settings at.store request exceeds.lines exceeds.store) is exceeds.no_room in
      room_fits request small few g no_room.made_room no_room.exceeds;
}

-- where a command of a generated script leads to
command_leads : (filled most now : ℕ) (command : Command) (at new : Progress) (groups : List Group) → IsDrawn filled now command → filled ≤ 15 → IsGenerated filled most at.store → at.setup ≡ bench_setup
    → ItemDoes at (CommandItem command) groups new → IsGenerated now (most + 1) new.store × (new.setup ≡ bench_setup)
unfolding ItemDoes
command_leads filled most now command at new groups drawn few g is does =
    let done = subst (λ (setup : Setup). Does setup at.store command does.lines does.store) is does.does in
    let left = command_keeps at.store g does.lines does.store few now command drawn done in
    let store : new.store ≡ does.store = ap (λ (p : Progress). p.store) does.leaves in
    let setup : new.setup ≡ at.setup = ap (λ (p : Progress). p.setup) does.leaves in
    (subst (IsGenerated now (most + 1)) (sym store) left, setup ∙ is)

commands_done : (filled most : ℕ) (commands : List Command) (at : Progress) → AreDrawn filled commands → filled ≤ 15 → most + length commands ≤ 100017
    → IsGenerated filled most at.store → at.setup ≡ bench_setup → AreDone (map CommandItem commands) at
commands_done filled most _ at Finished full few g is = tt
commands_done filled most _ at (Then {now = now} {command = command} {commands = commands} one now_few more) full few g is = (
  command_done filled most now command at one (omega (arith, few)) g is,
  λ groups new does.
      let led = command_leads filled most now command at new groups one full g is does in
      commands_done now (most + 1) commands new more now_few (omega (arith, few)) led.0 led.1,
)

-- Each of these items is done, wherever the items in front of it led to.
pub record AreAllDone (items : List Item) : Type 0 where
  pub each : (front : List Item) (item : Item) (rest : List Item) (groups : List Group) (at : Progress) → items ≡ front ++ item ∷ rest → Runs at_start front groups at → IsDone at item

pub generated_done : (start n : ℕ) → n ≤ 100000 → AreAllDone (generated_items start n)
generated_done start n few =
    let commands = generated_commands start n in
    let long = generated_length start n in
    let all = header_done (map CommandItem commands) (commands_done 0 1 commands behind_header (generated_drawn start n) (omega arith) (omega (arith, long, few)) none_first refl) in
    record { each = λ front item rest groups at is runs. done_behind front item rest groups at_start at (subst (λ (items : List Item). AreDone items at_start) is all) runs }
