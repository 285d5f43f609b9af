-- How tightly operators bind: PHP manual, Operator Precedence, as one table with levels from 1 on. That no operator has
-- the expression of a looser one as its left operand, but for an assignment's path, is this project's own.
use Rattle.std.specs.Prelude.{ℕ, ◌<◌, Bool, true, false, List, [], ◌∷◌, Option, Some, None}
use Rattle.hph_ast.specs.declared.operator.Binary.{Binary}
use Rattle.hph_ast.specs.declared.operator.Binary.TheVariants as b
use Rattle.hph_ast.specs.declared.operator.Grouping.{Grouping}
use Rattle.hph_ast.specs.declared.operator.Grouping.TheVariants.{Left, Right, Alone}
use Rattle.hph_ast.specs.declared.operator.Prefix.{Prefix}
use Rattle.hph_ast.specs.declared.operator.Prefix.TheVariants as p
use Rattle.hph_ast.specs.declared.operator.IncludeForm.TheVariants as i
use Rattle.hph_ast.specs.declared.token.Kind.{Kind}
use Rattle.hph_ast.specs.declared.token.Kind.TheVariants as k
use Rattle.hph_ast.specs.declared.token.Mark.TheVariants as m
use Rattle.hph_ast.specs.declared.keyword.Keyword.TheVariants as w
use Rattle.hph_ast.specs.declared.token.Token.{Token}

-- all levels are below this one, which is that of indices, members, calls, `++` and `--`
abbrev pub top : ℕ
top = 23

abbrev pub level : Binary → ℕ
level b.Pow = 22
level b.Mul = 18
level b.Div = 18
level b.Rem = 18
level b.Add = 17
level b.Sub = 17
level b.ShiftLeft = 16
level b.ShiftRight = 16
level b.Concat = 15
level b.Less = 14
level b.LessEqual = 14
level b.Greater = 14
level b.GreaterEqual = 14
level b.Equal = 13
level b.NotEqual = 13
level b.Identical = 13
level b.NotIdentical = 13
level b.Spaceship = 13
level b.BitAnd = 12
level b.BitXor = 11
level b.BitOr = 10
level b.BooleanAnd = 9
level b.BooleanOr = 8
level b.Coalesce = 7
level b.LogicalAnd = 3
level b.LogicalXor = 2
level b.LogicalOr = 1

abbrev pub grouping : Binary → Grouping
grouping b.Pow = Right
grouping b.Coalesce = Right
grouping b.Less = Alone
grouping b.LessEqual = Alone
grouping b.Greater = Alone
grouping b.GreaterEqual = Alone
grouping b.Equal = Alone
grouping b.NotEqual = Alone
grouping b.Identical = Alone
grouping b.NotIdentical = Alone
grouping b.Spaceship = Alone
grouping _ = Left

-- `++`, `--` and the operand of a prefix operator: what binds tighter than this level
abbrev pub update_level : ℕ
update_level = 21

abbrev pub prefix_level : Prefix → ℕ
prefix_level p.Not = 19
prefix_level p.Print = 4
prefix_level (p.Include form) = 0
prefix_level _ = 21

abbrev pub instance_level : ℕ
instance_level = 20

abbrev pub ternary_level : ℕ
ternary_level = 6

abbrev pub assign_level : ℕ
assign_level = 5

abbrev pub prefix_of : Kind → Option Prefix
prefix_of (k.Operator b.Add) = Some p.Plus
prefix_of (k.Operator b.Sub) = Some p.Minus
prefix_of (k.Mark m.Tilde) = Some p.BitNot
prefix_of (k.Mark m.At) = Some p.Silence
prefix_of (k.Cast cast) = Some (p.Cast cast)
prefix_of (k.Mark m.Exclamation) = Some p.Not
prefix_of (k.Keyword w.Print) = Some p.Print
prefix_of (k.Keyword w.Include) = Some (p.Include i.Include)
prefix_of (k.Keyword w.IncludeOnce) = Some (p.Include i.IncludeOnce)
prefix_of (k.Keyword w.Require) = Some (p.Include i.Require)
prefix_of (k.Keyword w.RequireOnce) = Some (p.Include i.RequireOnce)
prefix_of _ = None

-- how tightly a token binds to the expression before it: 0 for one with which no expression goes on
abbrev pub binds : Kind → ℕ
binds (k.Operator op) = level op
binds (k.Assign op) = top
binds (k.Mark m.OpenParen) = top
binds (k.Mark m.OpenBracket) = top
binds (k.Mark m.Arrow) = top
binds (k.Mark m.DoubleColon) = top
binds (k.Mark m.Increment) = top
binds (k.Mark m.Decrement) = top
binds (k.Keyword w.InstanceOf) = instance_level
binds (k.Mark m.Question) = ternary_level
binds _ = 0

abbrev pub next : List Token → ℕ
next [] = 0
next (t ∷ ts) = binds t.kind

-- no token comes next with which an expression of this level would go on
pub record Stops (level : ℕ) (ts : List Token) : Type 0 where
  pub below : next ts < level

abbrev pub is_open_paren : Kind → Bool
is_open_paren (k.Mark m.OpenParen) = true
is_open_paren _ = false

-- arguments come next
abbrev pub opens : List Token → Bool
opens [] = false
opens (t ∷ ts) = is_open_paren t.kind
