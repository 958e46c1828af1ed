-- Files and sinks in memory, as contracts see them.
use Rattle.std.specs.Prelude.{◌≡◌, ℕ, ◌+◌, ◌<◌, Bool, true, ◌&&◌, not, if◌then◌else◌, List, [], ◌∷◌, ◌⊎◌, length, drop, Option, Some, None, slice_get, bytes_eq}
use Rattle.std.specs.List.{list_all}
use Rattle.heap_io.specs.Calls.{CallCounts, IsToFail}

-- A file: its name and its bytes.
pub record NamedBytes : Type 0 where
  pub name : List ℕ
  pub bytes : List ℕ

-- The bytes of the first file with a name, where there is one.
abbrev pub bytes_of : List NamedBytes → List ℕ → Option (List ℕ)
bytes_of [] name = None
bytes_of (file ∷ files) name =
    if bytes_eq file.name name then Some file.bytes else bytes_of files name

-- No two files have one name.
abbrev pub names_differ : List NamedBytes → Bool
names_differ [] = true
names_differ (file ∷ files) =
    list_all (λ other. not (bytes_eq file.name other.name)) files && names_differ files

-- The bytes of a file that there may be.
abbrev pub bytes_or_none : Option NamedBytes → List ℕ
bytes_or_none None = []
bytes_or_none (Some file) = file.bytes

-- What is left of the file at an index from a place on. Behind the last file there is nothing.
abbrev pub left_of : List NamedBytes → ℕ → ℕ → List ℕ
left_of files index at = drop at (bytes_or_none (slice_get files index))

-- Files in memory.
pub record FilesInMemory : Type 0 where
  -- the files, whose names differ
  pub files : List NamedBytes
  -- the bytes that are still to be read of the file begun last; none before the first is begun
  pub rest : List ℕ
  -- how many files were begun
  pub begun : ℕ
  -- how many bytes a read gives at most
  pub most : ℕ
  pub calls : CallCounts

-- A call that begins a file is to fail, or no file has the name.
abbrev pub BeginFails : FilesInMemory → List ℕ → Type 0
BeginFails state name = IsToFail state.calls ⊎ (bytes_of state.files name ≡ None)

-- A sink in memory.
pub record SinkInMemory : Type 0 where
  -- the bytes written so far
  pub written : List ℕ
  -- the greatest number of bytes that it takes in all
  pub room : ℕ
  pub calls : CallCounts

-- A call that writes a piece is to fail, or the piece exceeds the room that is left.
abbrev pub WriteFails : SinkInMemory → List ℕ → Type 0
WriteFails state piece = IsToFail state.calls ⊎ (state.room < length state.written + length piece)

-- Files that never fail: one list of bytes, which is that of every name.
pub record SureBytes : Type 0 where
  pub bytes : List ℕ
  -- the bytes that are still to be read; none before a file is begun
  pub rest : List ℕ
