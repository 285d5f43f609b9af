-- A memory with a number written into it.
use Rattle.std.specs.Prelude.{ℕ, ◌+◌, List, ◌++◌, take, drop}
use Rattle.hph_wasm.specs.Memory.{bytes_of}

-- From a place on the lowest bytes of a number, so many.
abbrev pub written : (at count number : ℕ) → List ℕ → List ℕ
written at count n memory = take at memory ++ (bytes_of count n ++ drop (at + count) memory)
