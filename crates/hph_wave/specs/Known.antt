-- The paths that are known once some more were met. This project's own.
use Rattle.std.specs.Prelude.{ℕ, List, ◌++◌, map, String}
use Rattle.std.specs.String.{string_bytes}
use Rattle.std.specs.declared.alloc.Global.{Global}
use Rattle.hph_program.specs.Program.{new_paths}

-- the bytes of paths
abbrev pub spelled : List (String Global) → List (List ℕ)
spelled paths = map string_bytes paths

-- those that were known, and behind them the new ones of those that were met
abbrev pub known_after : (known met : List (List ℕ)) → List (List ℕ)
known_after known met = known ++ new_paths known met
