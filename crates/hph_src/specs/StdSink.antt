-- A sink over a writer of std: this project's own.
use Rattle.std.specs.Prelude.{ℕ, List, take, Option}
use Rattle.std.specs.Io.KnownBytes.{Appends}
use Rattle.hph_src.specs.declared.sink.PutAnswer.{PutAnswer}
use Rattle.hph_src.specs.declared.sink.PutAnswer.TheVariants.{All, Failed, NoMemory}

-- the bytes that the writer holds, where they are known, and how many faults there were
pub record WriterState : Type 0 where
  pub written : Option (List ℕ)
  pub faults : ℕ

-- known bytes grow by a prefix of the piece
abbrev pub WritesPrefix : Option (List ℕ) → Option (List ℕ) → List ℕ → Type 0
WritesPrefix old new piece = (count : ℕ) × Appends old new (take count piece)

-- after All known bytes have grown by the whole piece, and after any other answer by a prefix of it
abbrev pub Writes : Option (List ℕ) → Option (List ℕ) → List ℕ → PutAnswer → Type 0
Writes old new piece All = Appends old new piece
Writes old new piece Failed = WritesPrefix old new piece
Writes old new piece NoMemory = WritesPrefix old new piece
