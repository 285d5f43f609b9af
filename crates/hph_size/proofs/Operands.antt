-- An expression that is a number or a text alone was spelled by one token.
use Rattle.std.proofs.Common.{◌≡◌, ℕ, suc, ◌+◌, ◌≤◌, List, ◌∷◌, length, refl, ap, arith}
use Rattle.std.specs.Fmt.{decimal}
use denote.Hole.Carrier.{out}
use Rattle.hph_ast.specs.declared.token.Token.{Token}
use Rattle.hph_ast.specs.declared.expr.Expr.{Expr, out-Expr}
use Rattle.hph_ast.specs.declared.expr.ClassReference.{ClassReference}
use Rattle.hph_ast.specs.declared.expr.ClassReference.TheOpen.{Expr-F}
use Rattle.hph_ast.specs.Layers.{ExprLayer}
use Rattle.hph_ast.specs.Fronts.{UsesFront}
use Rattle.hph_ast.specs.Expressions.{IsExpression, IsTerm, IsPostfix, GoesOn, GoesOnByCall, IsPrimary, IsScoped}
use Rattle.hph_ast.specs.Expressions as g
use Rattle.hph_size.proofs.Weights.{weight, weights, weights-append}

-- the bytes that an expression gives to print, and one
abbrev pub weight_at : ExprLayer → ℕ
weight_at (Expr-F.Int at v) = suc (length (decimal v))
weight_at (Expr-F.Text at bytes) = suc (length bytes)
weight_at _ = 0

abbrev pub operand_weight : Expr → ℕ
operand_weight x = weight_at (out-Expr x)

-- an expression that begins with one gives no more, and where it gives something, it is no longer
data Stays (x : Expr) (ts : List Token) (y : Expr) (rest : List Token) : Type 0 where
  other : operand_weight y ≡ 0 → Stays x ts y rest
  same : operand_weight y ≤ operand_weight x → ts ≡ rest → Stays x ts y rest

still_nothing : {x y : Expr} {ts rest : List Token} → operand_weight x ≡ 0 → Stays x ts y rest → operand_weight y ≡ 0
still_nothing is (other nothing) = nothing
still_nothing is (same less ends) = omega arith

scoped : {class : ClassReference} {q : Token} {ts rest : List Token} {x : Expr} → IsScoped class q ts x rest → operand_weight x ≡ 0
unfolding out-Expr out
scoped (g.class_constant is word opens) = refl
scoped (g.class_name is word opens) = refl
scoped (g.static_property is opens) = refl
scoped (g.static_call member opens arguments) = refl

mutual
  unfolding out-Expr out

  goes_on : {x y : Expr} {ts rest : List Token} → GoesOn x ts y rest → Stays x ts y rest
  goes_on (g.no_steps more) = goes_on_by_call more
  goes_on (g.path steps more) = other (still_nothing refl (goes_on_by_call more))

  goes_on_by_call : {x y : Expr} {ts rest : List Token} → GoesOnByCall x ts y rest → Stays x ts y rest
  goes_on_by_call g.ends = same (omega arith) refl
  goes_on_by_call (g.method read arrow member opens arguments more) = other (still_nothing refl (goes_on more))
  goes_on_by_call (g.call_of read callable opens arguments more) = other (still_nothing refl (goes_on more))
  goes_on_by_call (g.member_of read class colons member more) = other (still_nothing (scoped member) (goes_on more))

-- it gives nothing, or it was spelled by one token
pub data Spelled (ts : List Token) (x : Expr) (rest : List Token) : Type 0 where
  nothing : operand_weight x ≡ 0 → Spelled ts x rest
  one : {t : Token} → operand_weight x ≤ weight t.kind → ts ≡ t ∷ rest → Spelled ts x rest

primary : {ts rest : List Token} {x : Expr} → IsPrimary ts x rest → Spelled ts x rest
unfolding out-Expr out
primary (g.int {t = t} is) = one {t = t} (omega (arith, ap weight is)) refl
primary (g.text {t = t} is) = one {t = t} (omega (arith, ap weight is)) refl
primary (g.interpolated is parts) = nothing refl
primary (g.variable is) = nothing refl
primary (g.constant is opens) = nothing refl
primary (g.directory is) = nothing refl
primary (g.short_array opens items) = nothing refl
primary (g.long_array is opens items) = nothing refl
primary (g.call is opens arguments) = nothing refl
primary (g.scoped class colons member) = nothing (scoped member)
primary (g.new is class arguments) = nothing refl
primary (g.new_by is target arguments) = nothing refl
primary (g.paren opens inner closes) = nothing refl
primary (g.isset is opens paths) = nothing refl
primary (g.empty is opens inner closes) = nothing refl
primary (g.exit is opens) = nothing refl
primary (g.exit_of_nothing is opens closes) = nothing refl
primary (g.exit_with is opens inner closes) = nothing refl

goes_on_from : {ts mid rest : List Token} {x y : Expr} → Spelled ts x mid → Stays x mid y rest → Spelled ts y rest
goes_on_from (nothing is) more = nothing (still_nothing is more)
goes_on_from (one fits is) (other none) = nothing none
goes_on_from (one {t = t} fits is) (same less ends) = one {t = t} (omega arith) (cc)

postfix : {ts rest : List Token} {x : Expr} → IsPostfix ts x rest → Spelled ts x rest
postfix (g.primary first more) = goes_on_from (primary first) (goes_on more)

term : {ts rest : List Token} {x : Expr} → IsTerm ts x rest → Spelled ts x rest
unfolding out-Expr out
term (g.postfix is read) = postfix is
term (g.updated is written form) = nothing refl
term (g.updates form is written stops) = nothing refl
term (g.assign target written is value stops) = nothing refl
term (g.assign_reference target written is ampersand source path stops) = nothing refl
term (g.destructure opens targets is value stops) = nothing refl
term (g.prefix is operand stops) = nothing refl

pub spelled : {level : ℕ} {ts rest : List Token} {x : Expr} → IsExpression level ts x rest → Spelled ts x rest
unfolding out-Expr out
spelled (g.term is) = term is
spelled (g.run low left first more) = nothing refl
spelled (g.to_right low right first is second) = nothing refl
spelled (g.single low alone first is second) = nothing refl
spelled (g.instance_of low first more) = nothing refl
spelled (g.ternary low first is second colon third) = nothing refl
spelled (g.short low first more) = nothing refl

-- ---- what is left

pub front_weighs : {ts rest : List Token} → UsesFront ts rest → weights rest ≤ weights ts
front_weighs {rest = rest} uses = omega (arith, ap weights uses.splits, weights-append uses.front rest)

pub operand_fits : {ts rest : List Token} {x : Expr} → UsesFront ts rest → Spelled ts x rest → operand_weight x + weights rest ≤ weights ts
operand_fits uses (nothing is) = omega (arith, front_weighs uses)
operand_fits uses (one fits is) = omega (arith, ap weights is)
