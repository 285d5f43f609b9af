-- The tokens that are left decide.
use Rattle.std.proofs.Common.{◌≡◌, drop}
use Rattle.std.specs.Prelude.{false}
use Rattle.hph_ast.specs.RefusedTokens.{refused_from}
use Rattle.hph_accept.proofs.tokens.token_construct.Given as goal

abbrev pub invariant-loop-index : goal.invariant-loop-index
invariant-loop-index l = refused_from false l.tokens ≡ refused_from l.is_member (drop l.index l.tokens)
