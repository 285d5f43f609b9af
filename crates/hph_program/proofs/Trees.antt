-- The equations by which definitions on trees compute, and short names for the trees of examples.
use Rattle.std.specs.Prelude.{ℕ, ◌+◌, false, List, [], ◌∷◌, length, None, Some, String}
use Rattle.std.specs.declared.alloc.Global.{Global}
use Rattle.hph_ast.specs.declared.token.At.{At}
use Rattle.hph_ast.specs.declared.token.Identifier.{Identifier}
use Rattle.hph_ast.specs.declared.operator.Binary.{Binary}
use Rattle.hph_ast.specs.declared.operator.Binary.TheVariants as b
use Rattle.hph_ast.specs.declared.operator.Assignment.TheVariants as a
use Rattle.hph_ast.specs.declared.expr.Update.TheVariants as update
use Rattle.hph_ast.specs.declared.expr.Expr.{Expr, roll-Expr, out-roll-Expr}
use Rattle.hph_ast.specs.declared.expr.Item.{out-roll-Item}
use Rattle.hph_ast.specs.declared.expr.Step.{out-roll-Step}
use Rattle.hph_ast.specs.declared.expr.MemberName.{MemberName, roll-MemberName, out-roll-MemberName}
use Rattle.hph_ast.specs.declared.expr.ClassReference.{ClassReference, roll-ClassReference, out-roll-ClassReference}
use Rattle.hph_ast.specs.declared.expr.ClassReference.TheOpen.{Expr-F}
use Rattle.hph_ast.specs.declared.expr.ClassReference.TheFolds.{fold-roll-ClassReference, fold-roll-Expr, fold-roll-Item, fold-roll-MemberName, fold-roll-Step, fold-roll-StringPart, para-roll-ClassReference, para-roll-Expr, para-roll-Item, para-roll-MemberName, para-roll-Step, para-roll-StringPart}
use Rattle.hph_ast.specs.declared.stmt.Statement.{Statement, roll-Statement, out-roll-Statement}
use Rattle.hph_ast.specs.declared.stmt.Case.{Case}
use Rattle.hph_ast.specs.declared.stmt.ElseIf.{ElseIf}
use Rattle.hph_ast.specs.declared.function.Param.{Param}
use Rattle.hph_ast.specs.declared.function.Function.{Function, roll-Function, out-roll-Function}
use Rattle.hph_ast.specs.declared.class.Class.{Class, roll-Class, out-roll-Class}
use Rattle.hph_ast.specs.declared.class.Member.{Member, roll-Member, out-roll-Member}
use Rattle.hph_ast.specs.declared.class.Member.TheOpen.{Statement-F, Function-F}
use Rattle.hph_ast.specs.declared.class.Member.TheFolds.{fold-roll-Member, fold-roll-Statement, fold-roll-Class, fold-roll-Function, fold-roll-Case, fold-roll-ElseIf, para-roll-Member, para-roll-Statement, para-roll-Class, para-roll-Function, para-roll-Case, para-roll-ElseIf}
use Rattle.hph_ast.specs.declared.program.File.{File}

-- what a fold gives for a node, and what a node holds
pub ruleset trees = (
  fold-roll-ClassReference,
  fold-roll-Expr,
  fold-roll-Item,
  fold-roll-MemberName,
  fold-roll-Step,
  fold-roll-StringPart,
  fold-roll-Member,
  fold-roll-Statement,
  fold-roll-Class,
  fold-roll-Function,
  fold-roll-Case,
  fold-roll-ElseIf,
  para-roll-ClassReference,
  para-roll-Expr,
  para-roll-Item,
  para-roll-MemberName,
  para-roll-Step,
  para-roll-StringPart,
  para-roll-Member,
  para-roll-Statement,
  para-roll-Class,
  para-roll-Function,
  para-roll-Case,
  para-roll-ElseIf,
  out-roll-Expr,
  out-roll-MemberName,
  out-roll-Statement,
  out-roll-Class,
  out-roll-Function,
  out-roll-Member,
)

-- ---- places

-- from an offset to another, where no site has a number
abbrev pub from_to : ℕ → ℕ → At
from_to start end = record { start = start; end = end; site = 0 }

abbrev pub name_at : ℕ → List ℕ → Identifier
name_at start spelled = record { start = start; end = start + length spelled; spelled = spelled }

-- ---- expressions: the first numbers are offsets

abbrev pub int : ℕ → ℕ → ℕ → Expr
int start end n = roll-Expr (Expr-F.Int (from_to start end) n)

abbrev pub variable : ℕ → List ℕ → Expr
variable start name = roll-Expr (Expr-F.Variable (from_to start (start + 1 + length name)) name)

abbrev pub text : ℕ → ℕ → List ℕ → Expr
text start end bytes = roll-Expr (Expr-F.Text (from_to start end) bytes)

abbrev pub run_of_two : ℕ → ℕ → Binary → Expr → Expr → Expr
run_of_two start end op x y = roll-Expr (Expr-F.Run (from_to start end) x ((op, y) ∷ []))

abbrev pub less : ℕ → ℕ → Expr → Expr → Expr
less start end x y = roll-Expr (Expr-F.Pair (from_to start end) b.Less x y)

abbrev pub call : ℕ → ℕ → List ℕ → List Expr → Expr
call start end name xs = roll-Expr (Expr-F.Call (from_to start end) name xs)

abbrev pub set : ℕ → ℕ → Expr → Expr → Expr
set start end x y = roll-Expr (Expr-F.Assign (from_to start end) a.Set x y)

abbrev pub increment : ℕ → ℕ → Expr → Expr
increment start end x = roll-Expr (Expr-F.Update (from_to start end) update.PostIncrement x)

abbrev pub exit : ℕ → ℕ → Expr → Expr
exit start end x = roll-Expr (Expr-F.ExitWith (from_to start end) x)

-- ---- statements

abbrev pub echo : ℕ → ℕ → List Expr → Statement
echo start end xs = roll-Statement (Statement-F.Echo (from_to start end) xs)

abbrev pub expression : ℕ → ℕ → Expr → Statement
expression start end x = roll-Statement (Statement-F.Expression (from_to start end) x)

abbrev pub returned : ℕ → ℕ → Expr → Statement
returned start end x = roll-Statement (Statement-F.Return (from_to start end) (Some x))

abbrev pub block : ℕ → ℕ → List Statement → Statement
block start end ss = roll-Statement (Statement-F.Block (from_to start end) ss)

abbrev pub if_alone : ℕ → ℕ → Expr → Statement → Statement
if_alone start end x body = roll-Statement (Statement-F.If (from_to start end) x body [] None)

abbrev pub while : ℕ → ℕ → Expr → Statement → Statement
while start end x body = roll-Statement (Statement-F.While (from_to start end) x body)

abbrev pub static_variable : ℕ → ℕ → ℕ → List ℕ → Expr → Statement
static_variable start end name_start name x = roll-Statement (Statement-F.Static (from_to start end)
    (record { name = record { start = name_start; end = name_start + 1 + length name; spelled = name }; value = Some x } ∷ []))

abbrev pub param : ℕ → List ℕ → Param
param start name = record {
  at = from_to start (start + 1 + length name);
  ty = None;
  by_reference = false;
  name = record { start = start; end = start + 1 + length name; spelled = name };
  default = None;
}

abbrev pub function_layer : ℕ → ℕ → ℕ → List ℕ → List Param → List Statement → Function-F Member Statement Class Function Case ElseIf
function_layer start end name_start name params body = record {
  at = from_to start end;
  name = name_at name_start name;
  params = params;
  result = None;
  body = body;
}

abbrev pub function : ℕ → ℕ → ℕ → List ℕ → List Param → List Statement → Function
function start end name_start name params body = roll-Function (function_layer start end name_start name params body)

abbrev pub declared : Function → Statement
declared f = roll-Statement (Statement-F.Function f)

-- ---- files: what is computed here asks for neither bytes nor tokens

abbrev pub file : String Global → ℕ → ℕ → List Statement → File
file path start end ss = record { path = path; bytes = []; tokens = []; tree = record { at = from_to start end; statements = ss } }
