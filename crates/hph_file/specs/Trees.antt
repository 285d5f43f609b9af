-- What the parser's answer is, with offsets for indices.
use Rattle.std.specs.Prelude.{◌≡◌, ℕ, List, Option, Some, None, Result, Ok, Err, slice_get}
use Rattle.hph_ast.specs.declared.token.Token.{Token}
use Rattle.hph_ast.specs.declared.program.FileTree.{FileTree}
use Rattle.hph_ast.specs.RefusedTokens.{too_deep}
use Rattle.hph_ast.specs.StatementNesting.{SpellsTree}
use Rattle.hph_file.specs.declared.fault.FileFault.{FileFault}
use Rattle.hph_file.specs.declared.fault.FileFault.TheVariants as fault

-- where the token of an index begins, or a number behind the last
abbrev pub start_or : Option Token → ℕ → ℕ
start_or None end = end
start_or (Some t) end = t.start

abbrev pub offset_of : List Token → ℕ → ℕ → ℕ
offset_of tokens index end = start_or (slice_get tokens index) end

-- the tree that the tokens spell, too many open brackets, or that they spell none; unless memory runs out
abbrev pub IsTree : List Token → Result FileTree FileFault → Type 0
IsTree tokens (Ok tree) = (too_deep tokens ≡ None) × SpellsTree tokens tree
IsTree tokens (Err (fault.TooDeep offset)) = too_deep tokens ≡ Some offset
IsTree tokens (Err (fault.Syntax offset)) = (too_deep tokens ≡ None) × ((tree : FileTree) → SpellsTree tokens tree → ⊥)
IsTree tokens (Err fault.NoMemory) = Unit {0}
IsTree tokens (Err _) = ⊥
