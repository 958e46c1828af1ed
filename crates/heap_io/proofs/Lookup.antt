-- The file of a name.
use Rattle.std.proofs.Common.{◌≡◌, ℕ, ◌<◌, List, true, Some, length, get_or, drop, refl, drop-cons}
use Rattle.std.specs.Prelude.{slice_get, bytes_eq}
use Rattle.std.proofs.lemmas.Option.{slice_get_within, get_or_from_slice_get}
use Rattle.heap_io.specs.Memory.{NamedBytes, bytes_of}

-- The first of the files from an index on has the name.
pub bytes_of-here : (files : List NamedBytes) (index : ℕ) (name : List ℕ) (file : NamedBytes)
    → slice_get files index ≡ Some file → bytes_eq file.name name ≡ true
    → bytes_of (drop index files) name ≡ Some file.bytes
bytes_of-here files index name file found named =
    let within : index < length files = slice_get_within files index file found in
    let here : get_or files index file ≡ file = get_or_from_slice_get files index file file found in
    rw (drop-cons files index file, here, named) refl
