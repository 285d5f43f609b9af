-- Files that were read.
use Rattle.std.specs.Prelude.{◌≡◌, ℕ, List, length, sum_by}
use Rattle.std.specs.String.{string_bytes}
use Rattle.hph_src.specs.Files.{Files}
use Rattle.hph_include.specs.declared.source.Source.{Source}
use Rattle.hph_include.specs.Faults.{Holds}

-- a source is what the file at a path holds
abbrev pub IsRead : Files → ℕ → List ℕ → Source → Type 0
IsRead files before path source = Holds files before path source.bytes

-- how many bytes sources have together
abbrev pub total_of : List Source → ℕ
total_of sources = sum_by (λ (s : Source). length s.bytes) sources
