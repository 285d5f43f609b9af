-- A function value that reads nested statements to a depth, as the parser on lists does.
use Rattle.std.specs.Prelude.{ℕ, List, Result}
use Rattle.std.specs.declared.alloc.Global.{Global}
use denote.Ref.{MutBor}
use Rattle.hph_ast.specs.declared.token.Token.{Token}
use Rattle.hph_ast.specs.declared.stmt.Statement.{Statement}
use Rattle.hph_cursor.specs.declared.error.ParseFault.{ParseFault}
use Rattle.hph_cursor.specs.Reads.{Reads}
use Rattle.hph_fstmt.specs.Parser.{nested}

pub record Nests {E : Type 0} (depth : ℕ) (pre : Global → E → MutBor (List Token) → ℕ → Type 0)
    (post : Global → E → MutBor (List Token) → ℕ → Result Statement ParseFault → MutBor (List Token) → Type 0) : Type 0 where
  pub callable : (alloc : Global) (expressions : E) (old : MutBor (List Token)) → pre alloc expressions old depth
  pub reads : (alloc : Global) (expressions : E) (old new : MutBor (List Token)) (r : Result Statement ParseFault) →
      post alloc expressions old depth r new → Reads (nested depth old.now) r new.now
