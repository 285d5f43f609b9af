-- Which tokens the bytes of a file spell, or up to where they spell tokens and why none begins there. The rules of one
-- place are in Lexical.
use Rattle.std.specs.Prelude.{◌≡◌, ℕ, ◌+◌, Bool, true, false, ◌||◌, List, [], ◌∷◌, ◌++◌, drop, Result, Ok, Err}
use Rattle.hph_ast.specs.declared.token.Token.{Token}
use Rattle.hph_ast.specs.declared.refusal.LexKind.TheVariants.{UnclosedString}
use Rattle.hph_ast.specs.declared.lexical.Mode.{Mode}
use Rattle.hph_ast.specs.declared.lexical.Mode.TheVariants.{Inline, Code, Interpolation, Piece}
use Rattle.hph_ast.specs.Lexical.{Fault, lex, Turn, goes, enters, leaves, Next, Comes}

-- what the bytes at a place are read as, and behind each brace that is open there, the last one first
pub record State : Type 0 where
  pub mode : Mode
  pub outer : List Mode

abbrev pub turned : Turn → List Mode → State
turned (goes mode) outer = record { mode = mode; outer = outer }
turned (enters back) outer = record { mode = Code; outer = back ∷ outer }
turned leaves [] = record { mode = Code; outer = [] }
turned leaves (back ∷ outer) = record { mode = back; outer = outer }

-- a string is open: one of its pieces has to follow, here or behind an open brace
abbrev pub in_string : Mode → Bool
in_string Piece = true
in_string Interpolation = true
in_string _ = false

abbrev pub string_is_open : Mode → List Mode → Bool
string_is_open mode [] = in_string mode
string_is_open mode (back ∷ outer) = in_string mode || string_is_open back outer

-- all tokens, or the fault and its offset
abbrev pub Reading : Type 0
Reading = Result (List Token) (Fault × ℕ)

abbrev pub tokens_before : List Token → Reading → Reading
tokens_before ts (Ok more) = Ok (ts ++ more)
tokens_before ts (Err fault) = Err fault

-- the bytes from an offset on
pub data Lexes : State → ℕ → List ℕ → Reading → Type 0 where
  end : {state : State} {at : ℕ} → string_is_open state.mode state.outer ≡ false → Lexes state at [] (Ok [])
  -- a file that ends inside a string with an interpolation
  open_end : {state : State} {at : ℕ} → string_is_open state.mode state.outer ≡ true → Lexes state at [] (Err (lex UnclosedString, at))
  place : {state : State} {at b : ℕ} {bs : List ℕ} {next : Next} {r : Reading} →
      Comes at state.mode (b ∷ bs) (Ok next) → Lexes (turned next.turn state.outer) (at + next.len) (drop next.len (b ∷ bs)) r →
      Lexes state at (b ∷ bs) (tokens_before next.tokens r)
  fault : {state : State} {at b : ℕ} {bs : List ℕ} {why : Fault} → Comes at state.mode (b ∷ bs) (Err why) → Lexes state at (b ∷ bs) (Err (why, at))

-- a file begins outside code
abbrev pub beginning : State
beginning = record { mode = Inline; outer = [] }

-- the bytes of a file spell these tokens
abbrev pub SpellsTokens : List ℕ → List Token → Type 0
SpellsTokens bytes tokens = Lexes beginning 0 bytes (Ok tokens)

-- the bytes before the offset spell tokens, and none begins there for this reason
abbrev pub FailsAt : List ℕ → Fault → ℕ → Type 0
FailsAt bytes why at = Lexes beginning 0 bytes (Err (why, at))
