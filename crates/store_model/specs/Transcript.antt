-- Which transcripts the store allows.
use Rattle.std.specs.Prelude.{◌≡◌, ℕ, List, [], ◌∷◌, ◌++◌, Some, None, flat_map}
use Rattle.text_model.specs.declared.command.Command.{Command}
use Rattle.text_model.specs.declared.item.Item.{Item}
use Rattle.text_model.specs.declared.item.Item.TheVariants.{Blank, Setting, TypeDef, Command as CommandItem}
use Rattle.text_model.specs.declared.line.Line.{Line}
use Rattle.store_model.specs.Store.{Store, counted_words}
use Rattle.store_model.specs.Progress.{Progress, after_setting, after_type, after_command}
use Rattle.store_model.specs.Refusal.{refusal}
use Rattle.store_model.specs.Collections.{HasNoRoom}
use Rattle.text_model.specs.Text.{lines_text}
use Rattle.store_model.specs.Births.{words_asked}
use Rattle.store_model.specs.Steps.{Does}

-- a command with the lines that it prints
pub record Group : Type 0 where
  pub command : Command
  pub lines : List Line

-- a command may print these lines from old on, and lead to new
pub record CommandDoes (old : Progress) (command : Command) (groups : List Group) (new : Progress) : Type 0 where
  pub lines : List Line
  pub store : Store
  pub does : Does old.setup old.store command lines store
  pub groups_are : groups ≡ record { command = command; lines = lines } ∷ []
  pub leaves : new ≡ after_command old store

-- from old, the item may add these groups and lead to new
unfoldable pub ItemDoes : Progress → Item → List Group → Progress → Type 0
ItemDoes old Blank groups new = (groups ≡ []) × (new ≡ old)
ItemDoes old (Setting name value) groups new = (groups ≡ []) × (new ≡ after_setting old name value)
ItemDoes old (TypeDef id info) groups new = (groups ≡ []) × (new ≡ after_type old id info)
ItemDoes old (CommandItem command) groups new = CommandDoes old command groups new

-- from old, the items may add these groups one after another, none of them refused, and lead to new
abbrev pub Runs : Progress → List Item → List Group → Progress → Type 0
Runs old [] groups new = (groups ≡ []) × (new ≡ old)
Runs old (item ∷ items) groups new =
    (first : List Group) × (rest : List Group) × (mid : Progress) × (groups ≡ first ++ rest)
    × (refusal old item ≡ None) × ItemDoes old item first mid × Runs mid items rest new

-- The limit refuses a command's birth after the lines of its collections: so many words are counted then, and so many are asked for.
pub record CommandExceeds (old : Progress) (command : Command) (counted request limit : ℕ) (groups : List Group) (new : Progress) : Type 0 where
  pub lines : List Line
  pub store : Store
  pub asks : words_asked old.setup command ≡ Some request
  pub no_room : HasNoRoom old.setup.settings old.store request lines store
  pub counted_are : counted ≡ counted_words store
  pub limit_is : limit ≡ old.setup.settings.limit
  pub groups_are : groups ≡ record { command = command; lines = lines } ∷ []
  pub leaves : new ≡ after_command old store

-- from old, the limit refuses the item, whose groups these are, and leads to new
unfoldable pub ItemExceeds : Progress → Item → ℕ → ℕ → ℕ → List Group → Progress → Type 0
ItemExceeds old Blank counted request limit groups new = ⊥
ItemExceeds old (Setting name value) counted request limit groups new = ⊥
ItemExceeds old (TypeDef id info) counted request limit groups new = ⊥
ItemExceeds old (CommandItem command) counted request limit groups new = CommandExceeds old command counted request limit groups new

-- the lines of groups, one after another
abbrev pub group_lines : List Group → List Line
group_lines groups = flat_map (λ group. group.lines) groups

-- the text of a transcript
abbrev pub transcript_text : List Group → List ℕ
transcript_text groups = flat_map (λ group. lines_text group.lines) groups
