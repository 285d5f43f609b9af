-- One level of an expression and of its parts, as `out-Expr` and its kin open it.
use Rattle.hph_ast.specs.declared.expr.Expr.{Expr}
use Rattle.hph_ast.specs.declared.expr.ClassReference.{ClassReference}
use Rattle.hph_ast.specs.declared.expr.ClassReference.TheOpen.{ClassReference-F, Expr-F, Item-F, MemberName-F, Step-F, StringPart-F}
use Rattle.hph_ast.specs.declared.expr.Item.{Item}
use Rattle.hph_ast.specs.declared.expr.MemberName.{MemberName}
use Rattle.hph_ast.specs.declared.expr.Step.{Step}
use Rattle.hph_ast.specs.declared.expr.StringPart.{StringPart}

abbrev pub ExprLayer : Type 0
ExprLayer = Expr-F ClassReference Expr Item MemberName Step StringPart

abbrev pub ClassLayer : Type 0
ClassLayer = ClassReference-F ClassReference Expr Item MemberName Step StringPart

abbrev pub ItemLayer : Type 0
ItemLayer = Item-F ClassReference Expr Item MemberName Step StringPart

abbrev pub MemberLayer : Type 0
MemberLayer = MemberName-F ClassReference Expr Item MemberName Step StringPart

abbrev pub StepLayer : Type 0
StepLayer = Step-F ClassReference Expr Item MemberName Step StringPart

abbrev pub PartLayer : Type 0
PartLayer = StringPart-F ClassReference Expr Item MemberName Step StringPart
