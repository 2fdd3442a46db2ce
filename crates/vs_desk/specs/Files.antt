-- Files in memory, by path.
use Rattle.std.specs.Prelude.{ℕ, List, [], Bool, is_some, Vec, String}
use Rattle.std.specs.declared.alloc.Global.{Global}
use Rattle.std.specs.Option.{option_map_or}
use Rattle.std.specs.BTreeMap.{BTreeMap, get_by_text}

abbrev pub FileMap : Type 0
FileMap = BTreeMap (String Global) (Vec ℕ Global)

-- whether there is a file at the path
abbrev pub holds_file : FileMap → List ℕ → Bool
holds_file files path = is_some (get_by_text files path)

-- the bytes of a path, none where there is no file
abbrev pub bytes_at : FileMap → List ℕ → List ℕ
bytes_at files path = option_map_or (λ bytes. bytes.items) (get_by_text files path) []
