-- What expressions begin with.
use Rattle.std.specs.Prelude.{◌≡◌, ℕ, Bool, true, false, List, ◌∷◌, Some, refl}
use Rattle.std.proofs.Common.{ap, ◌∙◌}
use Rattle.hph_ast.specs.declared.token.Token.{Token}
use Rattle.hph_ast.specs.declared.token.Kind.{Kind}
use Rattle.hph_ast.specs.declared.token.Kind.TheVariants as k
use Rattle.hph_ast.specs.declared.token.Mark.{Mark}
use Rattle.hph_ast.specs.declared.token.Mark.TheVariants as m
use Rattle.hph_ast.specs.declared.keyword.Keyword.TheVariants as w
use Rattle.hph_ast.specs.declared.operator.Binary.TheVariants as b
use Rattle.hph_ast.specs.declared.operator.Prefix.{Prefix}
use Rattle.hph_ast.specs.declared.expr.Expr.{Expr}
use Rattle.hph_ast.specs.declared.expr.Update.{Update}
use Rattle.hph_ast.specs.declared.expr.ClassReference.{ClassReference}
use Rattle.hph_ast.specs.Levels.{prefix_of}
use Rattle.hph_ast.specs.Terminals as terminal
use Rattle.hph_ast.specs.Terminals.{IsMark, IsKeyword, IsClass, IsPreUpdate, IsExit}
use Rattle.hph_ast.specs.Expressions as g
use Rattle.hph_ast.specs.Expressions.{IsExpression, IsTerm, IsPostfix, IsPrimary}
use Rattle.hph_cursor.specs.Steps.{is_mark, sees}
use Rattle.hph_fstmt.proofs.Tools.{not_mark}

-- tokens with which an expression may begin, without `static`
abbrev pub begins_expression : Kind → Bool
begins_expression (k.Int v) = true
begins_expression (k.Text bytes) = true
begins_expression (k.TextHead bytes) = true
begins_expression (k.Variable spelled) = true
begins_expression (k.Name spelled) = true
begins_expression (k.Cast cast) = true
begins_expression (k.Operator b.Add) = true
begins_expression (k.Operator b.Sub) = true
begins_expression (k.Mark m.OpenBracket) = true
begins_expression (k.Mark m.OpenParen) = true
begins_expression (k.Mark m.Increment) = true
begins_expression (k.Mark m.Decrement) = true
begins_expression (k.Mark m.Exclamation) = true
begins_expression (k.Mark m.Tilde) = true
begins_expression (k.Mark m.At) = true
begins_expression (k.Keyword w.MagicDir) = true
begins_expression (k.Keyword w.Array) = true
begins_expression (k.Keyword w.New) = true
begins_expression (k.Keyword w.Isset) = true
begins_expression (k.Keyword w.Empty) = true
begins_expression (k.Keyword w.Exit) = true
begins_expression (k.Keyword w.Die) = true
begins_expression (k.Keyword w.SelfClass) = true
begins_expression (k.Keyword w.Parent) = true
begins_expression (k.Keyword w.Print) = true
begins_expression (k.Keyword w.Include) = true
begins_expression (k.Keyword w.IncludeOnce) = true
begins_expression (k.Keyword w.Require) = true
begins_expression (k.Keyword w.RequireOnce) = true
begins_expression _ = false

-- an expression may begin here; `static` is a class whose member it is
pub data Begins : List Token → Type 0 where
  begins : {t : Token} {ts : List Token} → begins_expression t.kind ≡ true → Begins (t ∷ ts)
  begins_static : {t q : Token} {ts : List Token} → IsKeyword w.Static t → IsMark m.DoubleColon q → Begins (t ∷ q ∷ ts)

by_kind : {t : Token} {ts : List Token} (kind : Kind) → t.kind ≡ kind → begins_expression kind ≡ true → Begins (t ∷ ts)
by_kind kind is h = begins (ap begins_expression is ∙ h)

class_begins : {t q : Token} {ts : List Token} {class : ClassReference} → IsClass t class → IsMark m.DoubleColon q → Begins (t ∷ q ∷ ts)
class_begins (terminal.named {name = name} is) colons = by_kind (k.Name name) is refl
class_begins (terminal.self_class is) colons = by_kind (k.Keyword w.SelfClass) is refl
class_begins (terminal.parent is) colons = by_kind (k.Keyword w.Parent) is refl
class_begins (terminal.static is) colons = begins_static is colons

exit_begins : {t : Token} {ts : List Token} → IsExit t → Begins (t ∷ ts)
exit_begins (terminal.exit is) = by_kind (k.Keyword w.Exit) is refl
exit_begins (terminal.die is) = by_kind (k.Keyword w.Die) is refl

primary_begins : {ts rest : List Token} {x : Expr} → IsPrimary ts x rest → Begins ts
primary_begins (g.int {v = v} is) = by_kind (k.Int v) is refl
primary_begins (g.text {bytes = bytes} is) = by_kind (k.Text bytes) is refl
primary_begins (g.interpolated {bytes = bytes} is d) = by_kind (k.TextHead bytes) is refl
primary_begins (g.variable {name = name} is) = by_kind (k.Variable name) is refl
primary_begins (g.constant {name = name} is shut) = by_kind (k.Name name) is refl
primary_begins (g.directory is) = by_kind (k.Keyword w.MagicDir) is refl
primary_begins (g.short_array is d) = by_kind (k.Mark m.OpenBracket) is refl
primary_begins (g.long_array is o d) = by_kind (k.Keyword w.Array) is refl
primary_begins (g.call {name = name} is o d) = by_kind (k.Name name) is refl
primary_begins (g.scoped is q d) = class_begins is q
primary_begins (g.new is names d) = by_kind (k.Keyword w.New) is refl
primary_begins (g.new_by is d more) = by_kind (k.Keyword w.New) is refl
primary_begins (g.paren is d c) = by_kind (k.Mark m.OpenParen) is refl
primary_begins (g.isset is o d) = by_kind (k.Keyword w.Isset) is refl
primary_begins (g.empty is o d c) = by_kind (k.Keyword w.Empty) is refl
primary_begins (g.exit is shut) = exit_begins is
primary_begins (g.exit_of_nothing is o c) = exit_begins is
primary_begins (g.exit_with is o d c) = exit_begins is

pub postfix_begins : {ts rest : List Token} {x : Expr} → IsPostfix ts x rest → Begins ts
postfix_begins (g.primary d more) = primary_begins d

prefix_begins : (kind : Kind) (op : Prefix) → prefix_of kind ≡ Some op → begins_expression kind ≡ true
prefix_begins (k.Operator b.Add) op h = refl
prefix_begins (k.Operator b.Sub) op h = refl
prefix_begins (k.Mark m.Tilde) op h = refl
prefix_begins (k.Mark m.At) op h = refl
prefix_begins (k.Cast cast) op h = refl
prefix_begins (k.Mark m.Exclamation) op h = refl
prefix_begins (k.Keyword w.Print) op h = refl
prefix_begins (k.Keyword w.Include) op h = refl
prefix_begins (k.Keyword w.IncludeOnce) op h = refl
prefix_begins (k.Keyword w.Require) op h = refl
prefix_begins (k.Keyword w.RequireOnce) op h = refl
prefix_begins _ op h = absurd (cc)

update_begins : {t : Token} {ts : List Token} {form : Update} → IsPreUpdate t form → Begins (t ∷ ts)
update_begins (terminal.pre_increment is) = by_kind (k.Mark m.Increment) is refl
update_begins (terminal.pre_decrement is) = by_kind (k.Mark m.Decrement) is refl

term_begins : {ts rest : List Token} {x : Expr} → IsTerm ts x rest → Begins ts
term_begins (g.postfix d read) = postfix_begins d
term_begins (g.updated d written is) = postfix_begins d
term_begins (g.updates is d written stops) = update_begins is
term_begins (g.assign d written is f stops) = postfix_begins d
term_begins (g.assign_reference d written is q f source stops) = postfix_begins d
term_begins (g.destructure is d t f stops) = by_kind (k.Mark m.OpenBracket) is refl
term_begins (g.prefix {t = t} {op = op} is d stops) = begins (prefix_begins t.kind op is)

pub expression_begins : {l : ℕ} {ts rest : List Token} {x : Expr} → IsExpression l ts x rest → Begins ts
expression_begins (g.term d) = term_begins d
expression_begins (g.run le how d tail) = expression_begins d
expression_begins (g.to_right le how d is f) = expression_begins d
expression_begins (g.single le how d is f) = expression_begins d
expression_begins (g.instance_of le d more) = expression_begins d
expression_begins (g.ternary le d q e c f) = expression_begins d
expression_begins (g.short le d more) = expression_begins d

-- a mark with which no expression begins is not seen
pub not_first : (m : Mark) → begins_expression (k.Mark m) ≡ false → {ts : List Token} → Begins ts → sees m ts ≡ false
not_first m none (begins {t = t} h) =
    not_mark m t.kind (λ e. let f : begins_expression t.kind ≡ begins_expression (k.Mark m) = ap begins_expression e in absurd (cc))
not_first m none (begins_static is colons) = ap (is_mark m) is
