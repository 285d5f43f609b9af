-- What an answer of the lexer says of the bytes of a file.
use Rattle.std.specs.Prelude.{◌≡◌, ℕ, ◌+◌, List, ◌++◌, Result, Ok, Err, Vec}
use Rattle.std.specs.declared.alloc.Global.{Global}
use Rattle.hph_ast.specs.declared.token.Token.{Token}
use Rattle.hph_ast.specs.Lexical.{lex, construct}
use Rattle.hph_ast.specs.Tokens.{State, Reading, turned, FailsAt}
use Rattle.hph_lex.specs.Answers.{found_tokens, turn_told}
use Rattle.hph_lex.specs.declared.fault.LexFault.{LexFault}
use Rattle.hph_lex.specs.declared.fault.LexFault.TheVariants.{Bad, Refused, NoMemory}
use Rattle.hph_ast.specs.declared.lexical.Mode.{Mode}
use Rattle.hph_lex.specs.declared.found.Found.TheVariants.{Skipped}
use Rattle.hph_lex.specs.declared.found.Turn.TheVariants.{Goes}
use Rattle.hph_lex.specs.declared.found.Next.{Next}
use Rattle.hph_lex.specs.declared.reader.Reader.{Reader}

-- up to the offset of a fault the bytes spell tokens, and none begins there for its reason
abbrev pub IsFault : List ℕ → LexFault → Type 0
IsFault bytes (Bad kind at) = FailsAt bytes (lex kind) at
IsFault bytes (Refused which at) = FailsAt bytes (construct which) at
IsFault bytes NoMemory = Unit {0}

-- a fault is the one that a reading ends with, unless memory ran out
abbrev pub IsFaultOf : LexFault → Reading → Type 0
IsFaultOf (Bad kind at) reading = reading ≡ Err (lex kind, at)
IsFaultOf (Refused which at) reading = reading ≡ Err (construct which, at)
IsFaultOf NoMemory reading = Unit {0}

-- what the bytes before a reader are read as
abbrev pub state_of : Reader → State
state_of reader = record { mode = reader.mode; outer = reader.outer }

-- a byte of whitespace in code
abbrev pub white : Mode → Next
white mode = record { found = Skipped; length = 1; turn = Goes mode }

-- a reader goes over what comes at its place
pub record Takes (old : Reader) (next : Next) (new : Reader) : Type 0 where
  pub tokens : new.tokens.items ≡ old.tokens.items ++ found_tokens old.at next.length next.found
  pub at : new.at ≡ old.at + next.length
  pub state : state_of new ≡ turned (turn_told next.turn) old.outer

-- what the lexer answers is this reading, unless memory ran out
abbrev pub IsReading : Result (Vec Token Global) LexFault → Reading → Type 0
IsReading (Ok tokens) reading = reading ≡ Ok tokens.items
IsReading (Err fault) reading = IsFaultOf fault reading
