-- The first fault of one file, in the order in which a front end tests. This project's own.
use Rattle.std.specs.Prelude.{◌≡◌, ℕ, List, Option, Some, None}
use Rattle.hph_ast.specs.declared.token.Token.{Token}
use Rattle.hph_ast.specs.declared.program.FileTree.{FileTree}
use Rattle.hph_ast.specs.declared.refusal.LexKind.{LexKind}
use Rattle.hph_ast.specs.declared.refusal.Construct.{Construct}
use Rattle.hph_ast.specs.Lexical as lexical
use Rattle.hph_ast.specs.Tokens.{SpellsTokens, FailsAt}
use Rattle.hph_ast.specs.StatementNesting.{SpellsTree}
use Rattle.hph_ast.specs.RefusedTokens.{token_construct, too_deep}
use Rattle.hph_ast.specs.RefusedStatements.{tree_construct}

-- a fault and its offset
pub data FileFault : Type 0 where
  lex : LexKind → ℕ → FileFault
  construct : Construct → ℕ → FileFault
  too_many_brackets : ℕ → FileFault
  syntax_error : ℕ → FileFault

-- tokens with no refused token and not too many open brackets
pub record Reads (bytes : List ℕ) (tokens : List Token) : Type 0 where
  pub spells : SpellsTokens bytes tokens
  pub no_construct : token_construct tokens ≡ None
  pub not_deep : too_deep tokens ≡ None

-- a fault of the text or a construct that the lexer meets, whichever stands first; a construct that a token tells; too many
-- open brackets; tokens that spell no tree, whose offset is any; a construct that the tree tells
pub data FirstFault (bytes : List ℕ) : Option FileFault → Type 0 where
  no_token : {why : LexKind} {at : ℕ} → FailsAt bytes (lexical.lex why) at → FirstFault bytes (Some (lex why at))
  refused_text : {which : Construct} {at : ℕ} → FailsAt bytes (lexical.construct which) at → FirstFault bytes (Some (construct which at))
  refused_token : {tokens : List Token} {which : Construct} {at : ℕ} →
      SpellsTokens bytes tokens → token_construct tokens ≡ Some (which, at) → FirstFault bytes (Some (construct which at))
  deep : {tokens : List Token} {at : ℕ} →
      SpellsTokens bytes tokens → token_construct tokens ≡ None → too_deep tokens ≡ Some at → FirstFault bytes (Some (too_many_brackets at))
  no_tree : {tokens : List Token} {at : ℕ} → Reads bytes tokens → ((tree : FileTree) → SpellsTree tokens tree → ⊥) → FirstFault bytes (Some (syntax_error at))
  refused_tree : {tokens : List Token} {tree : FileTree} {which : Construct} {at : ℕ} →
      Reads bytes tokens → SpellsTree tokens tree → tree_construct tree ≡ Some (which, at) → FirstFault bytes (Some (construct which at))
  none : {tokens : List Token} {tree : FileTree} →
      Reads bytes tokens → SpellsTree tokens tree → tree_construct tree ≡ None → FirstFault bytes None
