-- The store of unmoving objects: objects by birth, and no places in memory but the homes that were told.
use Rattle.std.specs.Prelude.{ℕ, ◌+◌, Bool, false, not, List, [], Option, None, sum_by, filter, replicate}
use Rattle.type_table.specs.Table.{Table}
use Rattle.text_model.specs.declared.line.Phase.{Phase}
use Rattle.text_model.specs.declared.line.Phase.TheVariants.{Scanning}
use Rattle.object_model.specs.declared.settings.Settings.{Settings}
use Rattle.object_model.specs.Sets.{is_in}
use Rattle.object_model.specs.Object.{Object, kept_words}

-- a C structure that is there: linked with the object of a birth by a P link or an O link, unlinked, or pending
pub data Struct : Type 0 where
  Linked : (p light : Bool) (birth own : ℕ) → Struct
  Unlinked : (own : ℕ) → Struct
  Pending : Struct

-- everything that a transcript can depend on
pub record Store : Type 0 where
  pub next : ℕ  -- the next birth
  pub kept : List Object  -- the objects, by rising birth
  pub husks : List (ℕ × ℕ)  -- births and words of what was condemned and is not freed yet, by rising birth
  pub slots : List (Option ℕ)  -- what each root slot holds
  pub settled : List ℕ  -- the kept objects outside the nursery, by rising birth
  pub homes : Table ℕ  -- the homes that were told
  pub pinned : List (ℕ × ℕ)  -- births of pinned objects, each with how many times it is pinned, in the order of their first pins
  pub registered : List (ℕ × ℕ)  -- births and queues, in order of registration
  pub chosen : List (ℕ × ℕ)  -- what waits for its queue, in order of registration
  pub queues : Table (List ℕ)  -- the finalizer queues that are not empty
  pub structs : Table Struct  -- the C structures by their numbers
  pub dead : List ℕ  -- the pending structures, the oldest first
  pub phase : Phase  -- of the major collection
  pub threshold : ℕ  -- the old words at which a major step is due
  pub fresh : ℕ  -- the words that were born settled since the last minor collection
  pub gapped : Bool  -- whether some object was pinned when the last minor collection ended
  pub visited : List ℕ  -- the settled objects that marking visited
  pub unreached : List ℕ  -- the settled objects that no root reached when marking began, and that were not revived
  pub doomed : List ℕ  -- the objects that were not retained when marking began, and that were not revived
  pub left : ℕ  -- how many sweeping steps may still come

-- the store before the first command
abbrev pub empty_store : Settings → Store
empty_store settings = record {
  next = 1;
  kept = [];
  husks = [];
  slots = replicate settings.roots None;
  settled = [];
  homes = [];
  pinned = [];
  registered = [];
  chosen = [];
  queues = [];
  structs = [];
  dead = [];
  phase = Scanning;
  threshold = settings.minimum;
  fresh = 0;
  gapped = false;
  visited = [];
  unreached = [];
  doomed = [];
  left = 0;
}

-- whether a birth is settled
abbrev pub is_settled : List ℕ → ℕ → Bool
is_settled settled birth = is_in birth settled

-- the words of all husks
abbrev pub husk_words : List (ℕ × ℕ) → ℕ
husk_words husks = sum_by (λ husk. husk.1) husks

-- the words that the limit counts
abbrev pub counted_words : Store → ℕ
counted_words store = kept_words store.kept + husk_words store.husks

-- the words of the kept objects in the nursery
abbrev pub unsettled_words : List Object → List ℕ → ℕ
unsettled_words kept settled = kept_words (filter (λ object. not (is_settled settled object.birth)) kept)

-- the words of the kept objects outside the nursery
abbrev pub settled_words : List Object → List ℕ → ℕ
settled_words kept settled = kept_words (filter (λ object. is_settled settled object.birth) kept)

-- the words outside the nursery: those of settled objects, and of husks
abbrev pub old_words : Store → ℕ
old_words store = settled_words store.kept store.settled + husk_words store.husks
