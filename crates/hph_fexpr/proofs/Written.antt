-- What is only written is told by its tree from what is read.
use Rattle.std.specs.Prelude.{◌≡◌, ℕ, true, false, not, List, refl}
use Rattle.std.proofs.Common.{ap}
use Rattle.hph_ast.specs.declared.token.Token.{Token}
use Rattle.hph_ast.specs.declared.expr.Expr.{Expr, out-Expr}
use Rattle.hph_ast.specs.declared.expr.Item.{Item, out-Item}
use Rattle.hph_ast.specs.declared.expr.ClassReference.{ClassReference}
use Rattle.hph_ast.specs.declared.expr.ClassReference.TheOpen.{Expr-F}
use Rattle.hph_ast.specs.declared.expr.ClassReference.TheBlock.{shown-the_row-Expr-0}
use denote.Hole.Carrier.{out, shown, hidden}
use Rattle.hph_ast.specs.Layers.{ExprLayer}
use Rattle.hph_ast.specs.Shapes.{is_read, is_read_at, is_written_only, is_written_only_at, is_target}
use Rattle.hph_ast.specs.Expressions as g
use Rattle.hph_ast.specs.Expressions.{IsExpression, IsTerm, IsPostfix, IsPrimary, IsScoped, GoesOn, GoesOnByCall, IsItem, IsWrittenOnly}
use Rattle.hph_fexpr.specs.Endings.{IsValue, expression, only_written}

unread_at : (x : ExprLayer) → is_read_at x ≡ false → is_written_only_at x ≡ true
unread_at (Expr-F.Array at form items) h = absurd (cc)
unread_at x h = ap not h

pub written_is : {ts rest : List Token} {x : Expr} → IsWrittenOnly ts x rest → is_written_only x ≡ true
unfolding out-Expr out
written_is (g.appended {x = x} d unread is) = unread_at (out-Expr x) unread
written_is (g.nested_targets opens d has) = refl

scoped_read : {class : ClassReference} {q : Token} {ts rest : List Token} {x : Expr} → IsScoped class q ts x rest → is_written_only x ≡ false
unfolding out-Expr out
scoped_read (g.class_constant is other shut) = refl
scoped_read (g.class_name is other shut) = refl
scoped_read (g.static_property is shut) = refl
scoped_read (g.static_call d opens args) = refl

primary_read : {ts rest : List Token} {x : Expr} → IsPrimary ts x rest → is_written_only x ≡ false
unfolding out-Expr out
primary_read (g.int is) = refl
primary_read (g.text is) = refl
primary_read (g.interpolated is d) = refl
primary_read (g.variable is) = refl
primary_read (g.constant is shut) = refl
primary_read (g.directory is) = refl
primary_read (g.short_array is d) = refl
primary_read (g.long_array is o d) = refl
primary_read (g.call is o d) = refl
primary_read (g.scoped is q d) = scoped_read d
primary_read (g.new is names d) = refl
primary_read (g.new_by is d more) = refl
primary_read (g.paren is d c) = refl
primary_read (g.isset is o d) = refl
primary_read (g.empty is o d c) = refl
primary_read (g.exit is shut) = refl
primary_read (g.exit_of_nothing is o c) = refl
primary_read (g.exit_with is o d c) = refl

-- where it is read, it is not only written
abbrev Reads : Expr → Type 0
Reads x = is_read x ≡ true → is_written_only x ≡ false

mutual
  unfolding out-Expr out

  by_call_reads : {x y : Expr} {ts rest : List Token} → GoesOnByCall x ts y rest → Reads x → Reads y
  by_call_reads g.ends h = h
  by_call_reads (g.method reads arrow d opens args more) h = goes_on_reads more (λ _. refl)
  by_call_reads (g.call_of reads callable opens args more) h = goes_on_reads more (λ _. refl)
  by_call_reads (g.member_of reads class colons d more) h = goes_on_reads more (λ _. scoped_read d)

  goes_on_reads : {x y : Expr} {ts rest : List Token} → GoesOn x ts y rest → Reads x → Reads y
  goes_on_reads (g.no_steps d) h = by_call_reads d h
  goes_on_reads (g.path ss d) h = by_call_reads d (λ reads. ap not reads)

postfix_reads : {ts rest : List Token} {x : Expr} → IsPostfix ts x rest → Reads x
postfix_reads (g.primary d more) = goes_on_reads more (λ _. primary_read d)

term_read : {ts rest : List Token} {x : Expr} → IsTerm ts x rest → is_written_only x ≡ false
unfolding out-Expr out
term_read (g.postfix d reads) = postfix_reads d reads
term_read (g.updated d written is) = refl
term_read (g.updates is d written stops) = refl
term_read (g.assign d written is f stops) = refl
term_read (g.assign_reference d written is amp f source stops) = refl
term_read (g.destructure opens d is f stops) = refl
term_read (g.prefix is d stops) = refl

pub expression_read : {l : ℕ} {ts rest : List Token} {x : Expr} → IsExpression l ts x rest → is_written_only x ≡ false
unfolding out-Expr out
expression_read (g.term d) = term_read d
expression_read (g.run le how d tail) = refl
expression_read (g.to_right le how d is f) = refl
expression_read (g.single le how d is f) = refl
expression_read (g.instance_of le d more) = refl
expression_read (g.ternary le d q e c f) = refl
expression_read (g.short le d more) = refl

pub item_read : {ts rest : List Token} {x : Item} → IsItem ts x rest → is_target x ≡ false
unfolding shown-the_row-Expr-0 shown hidden out-Item out
item_read (g.value d) = expression_read d
item_read (g.pair d arrow f) = expression_read f
item_read (g.reference is d source) = refl
item_read (g.pair_reference d arrow is f source) = refl

-- a value that is not only written is an expression
pub value_is : {ts rest : List Token} {x : Expr} → IsValue ts x rest → is_written_only x ≡ false → IsExpression 1 ts x rest
value_is (expression d) h = d
value_is (only_written d) h = absurd (let yes = written_is d in cc)
