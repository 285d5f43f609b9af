-- What the call of the crate promises.
use Rattle.std.specs.Prelude.{◌≡◌, ◌≢◌, ◌<◌, ℕ, suc, List, [], ◌∷◌, length, take, Option, Some, None, Result, Ok, Err, if◌then◌else◌, nat_lt, ⊤}
use Rattle.hph_ast.specs.declared.token.Token.{Token}
use Rattle.hph_ast.specs.declared.program.FileTree.{FileTree}
use Rattle.hph_ast.specs.RefusedTokens.{bracket_limit, open_behind, too_deep}
use Rattle.hph_ast.specs.StatementNesting.{SpellsTree}
use Rattle.hph_cursor.specs.declared.error.ParseFault.{ParseFault}
use Rattle.hph_cursor.specs.declared.error.ParseFault.TheVariants.{NoMemory}
use Rattle.hph_parse.specs.declared.error.TreeFault.{TreeFault}
use Rattle.hph_parse.specs.declared.error.TreeFault.TheVariants as fault

-- too many brackets are open at this token, and at none before it
pub record IsFirstDeep (tokens : List Token) (index : ℕ) : Type 0 where
  pub within : index < length tokens
  pub before : too_deep (take index tokens) ≡ None
  pub here : too_deep (take (suc index) tokens) ≢ None

-- the tree that the tokens spell, too many open brackets, or that they spell none; unless memory runs out
abbrev pub IsAnswer : List Token → Result FileTree TreeFault → Type 0
IsAnswer tokens (Ok tree) = (too_deep tokens ≡ None) × SpellsTree tokens tree
IsAnswer tokens (Err (fault.TooDeep index)) = IsFirstDeep tokens index
IsAnswer tokens (Err (fault.Syntax index)) = (too_deep tokens ≡ None) × ((tree : FileTree) → SpellsTree tokens tree → ⊥)
IsAnswer tokens (Err fault.NoMemory) = ⊤

-- the same as functions: the first token with too many open brackets, where so many are open before these tokens
abbrev pub deep_from : ℕ → ℕ → List Token → Option ℕ
deep_from count index [] = None
deep_from count index (t ∷ ts) =
    if nat_lt bracket_limit (open_behind count t.kind) then Some index else deep_from (open_behind count t.kind) (suc index) ts

-- an answer of a function, unless memory runs out
abbrev pub Answers : {A : Type 0} → Option A → Result A ParseFault → Type 0
Answers o (Ok a) = o ≡ Some a
Answers o (Err e) = e ≢ NoMemory → o ≡ None
