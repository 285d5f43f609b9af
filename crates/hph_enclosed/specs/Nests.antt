-- A function value that reads to a depth what the parser on lists does, and what is asked of a path in a list.
use Rattle.std.specs.Prelude.{ℕ, Bool, List, Result}
use Rattle.std.specs.declared.alloc.Global.{Global}
use denote.Ref.{MutBor}
use Rattle.hph_ast.specs.declared.token.Token.{Token}
use Rattle.hph_ast.specs.declared.expr.Expr.{Expr}
use Rattle.hph_ast.specs.Shapes.{is_path, is_written}
use Rattle.hph_cursor.specs.declared.error.ParseFault.{ParseFault}
use Rattle.hph_cursor.specs.Reads.{Reads}
use Rattle.hph_fexpr.specs.declared.form.Form.{Form}
use Rattle.hph_enclosed.specs.declared.path_test.PathTest.{PathTest}
use Rattle.hph_enclosed.specs.declared.path_test.PathTest.TheVariants.{AnyPath, WrittenPath}
use Rattle.hph_fexpr.specs.Parser.{parse}

pub record Nests (depth : ℕ) (pre : Global → MutBor (List Token) → ℕ → Form → Type 0)
    (post : Global → MutBor (List Token) → ℕ → Form → Result Expr ParseFault → MutBor (List Token) → Type 0) : Type 0 where
  pub callable : (alloc : Global) (old : MutBor (List Token)) (form : Form) → pre alloc old depth form
  pub reads : (alloc : Global) (old new : MutBor (List Token)) (form : Form) (r : Result Expr ParseFault) → post alloc old depth form r new →
      Reads (parse depth form old.now) r new.now

abbrev pub passes : PathTest → Expr → Bool
passes AnyPath = is_path
passes WrittenPath = is_written
