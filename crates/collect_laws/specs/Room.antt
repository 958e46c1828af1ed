-- Births after their collections: what room there is, what is refused, and the birth itself.
use Rattle.std.specs.Prelude.{◌≡◌, ℕ, ◌+◌, ◌≤◌, false, List, Some}
use Rattle.type_table.specs.declared.info.TypeInfo.{TypeInfo}
use Rattle.text_model.specs.declared.command.Command.{Command}
use Rattle.text_model.specs.declared.line.Line.{Line}
use Rattle.object_model.specs.Newborn.{Request}
use Rattle.object_model.specs.Setup.{Setup, young_words}
use Rattle.store_model.specs.Birth.{BirthOf}
use Rattle.store_model.specs.Births.{words_asked}
use Rattle.store_model.specs.Collections.{HasNoRoom}
use Rattle.store_model.specs.Store.{Store, counted_words}
use Rattle.parts_model.specs.Parts.{HeapParts}
use Rattle.collect_laws.specs.Events.{EventOf, Undergoes}

-- An object of so many words can be born now: within the limit, and in the nursery where it is not too large for that, unless
-- pinned objects left gaps.
pub record HasRoomFor (heap : HeapParts) (words : ℕ) : Type 0 where
  pub nursery : heap.gapped ≡ false → words ≤ young_words heap.setup.settings → heap.unsettled + words ≤ heap.setup.settings.nursery
  pub limit : heap.unsettled + heap.old_words + words ≤ heap.setup.settings.limit

-- The limit refuses a birth of so many words after the lines of its collections: so many words are counted then.
pub record IsRefused (words counted limit : ℕ) (setup : Setup) (store : Store) (lines : List Line) (later : Store) : Type 0 where
  pub no_room : HasNoRoom setup.settings store words lines later
  pub counted_are : counted ≡ counted_words later
  pub limit_is : limit ≡ setup.settings.limit

abbrev pub FindsNoRoom : ℕ → ℕ → ℕ → HeapParts → HeapParts → List Line → List Line → Type 0
FindsNoRoom words counted limit = Undergoes (IsRefused words counted limit)

-- the limit refuses the birth that the command asks for
pub record IsCommandRefused (command : Command) (counted request limit : ℕ) (setup : Setup) (store : Store) (lines : List Line) (later : Store) : Type 0 where
  pub asks : words_asked setup command ≡ Some request
  pub refused : IsRefused request counted limit setup store lines later

-- an object of the type is born, of which the store tells what is asked for
abbrev pub Bearing : TypeInfo → (Store → Request) → EventOf
Bearing info request_in setup store lines later = BirthOf setup info store (request_in store) lines later

abbrev pub BearsOne : TypeInfo → (Store → Request) → HeapParts → HeapParts → List Line → List Line → Type 0
BearsOne info request_in = Undergoes (Bearing info request_in)
