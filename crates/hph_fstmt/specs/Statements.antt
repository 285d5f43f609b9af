-- The parser of statements, functions and classes as functions on lists of tokens: PHP manual, Control Structures, Functions,
-- Classes and Objects.
use Rattle.std.specs.Prelude.{ℕ, Bool, true, false, not, List, [], ◌∷◌, Option, Some, None, if◌then◌else◌, nat_le, count_by}
use Rattle.hph_ast.specs.declared.token.At.{At}
use Rattle.hph_ast.specs.declared.token.Token.{Token}
use Rattle.hph_ast.specs.declared.token.Identifier.{Identifier}
use Rattle.hph_ast.specs.declared.token.Kind.{Kind}
use Rattle.hph_ast.specs.declared.token.Kind.TheVariants as k
use Rattle.hph_ast.specs.declared.token.Mark.{Mark}
use Rattle.hph_ast.specs.declared.token.Mark.TheVariants as m
use Rattle.hph_ast.specs.declared.keyword.Keyword.{Keyword}
use Rattle.hph_ast.specs.declared.keyword.Keyword.TheVariants as w
use Rattle.hph_ast.specs.declared.operator.Binary.TheVariants as b
use Rattle.hph_ast.specs.declared.expr.Expr.{Expr}
use Rattle.hph_ast.specs.declared.function.DeclaredType.{DeclaredType}
use Rattle.hph_ast.specs.declared.function.Param.{Param}
use Rattle.hph_ast.specs.declared.function.Function.{Function, roll-Function}
use Rattle.hph_ast.specs.declared.class.Class.{Class, roll-Class}
use Rattle.hph_ast.specs.declared.class.Member.{Member}
use Rattle.hph_ast.specs.declared.class.Member.TheVariants as member
use Rattle.hph_ast.specs.declared.class.Modifiers.{Modifiers}
use Rattle.hph_ast.specs.declared.stmt.Statement.{Statement}
use Rattle.hph_ast.specs.declared.stmt.Statement.TheVariants as s
use Rattle.hph_ast.specs.declared.stmt.ElseIf.{ElseIf, roll-ElseIf}
use Rattle.hph_ast.specs.declared.stmt.Case.{Case, roll-Case}
use Rattle.hph_ast.specs.declared.stmt.ForeachTarget.{ForeachTarget}
use Rattle.hph_ast.specs.declared.stmt.ForeachTarget.TheVariants as target
use Rattle.hph_ast.specs.Places.{place, on, span, identifier}
use Rattle.hph_ast.specs.Shapes.{is_written}
use Rattle.hph_ast.specs.Declarations.{no_modifiers, has_modifier}
use Rattle.hph_ast.specs.Statements.{function_place, statement_place, last_statement, last_part, is_default}
use Rattle.hph_fexpr.specs.declared.form.Form.{Form}
use Rattle.hph_fexpr.specs.declared.form.Form.TheVariants.{Level}
use Rattle.hph_cursor.specs.Steps.{Parser, ◌>>=◌, ◌>>◌, pure, pure_if, fail, is_mark, sees, expect, take_token}
use Rattle.hph_cursor.specs.Next.{is_next, is_variable}
use Rattle.hph_fexpr.specs.Lists.{paths}
use Rattle.hph_fexpr.specs.Arrays.{source, elements}
use Rattle.hph_fstmt.specs.Words.{is_keyword, sees_keyword, expect_kind, here, name}
use Rattle.hph_fstmt.specs.Repeats.{separated, many}
use Rattle.hph_fstmt.specs.Declarations.{variables, result_type, modifiers, maybe_type, static_variable, property_item, constant_item, params}

-- a list of statements ends before these
abbrev pub ends_statements : Kind → Bool
ends_statements (k.Mark m.CloseBrace) = true
ends_statements (k.Keyword w.Case) = true
ends_statements (k.Keyword w.Default) = true
ends_statements _ = false

-- no `elseif` comes next
abbrev pub ends_branches : Kind → Bool
ends_branches kind = not (is_keyword w.ElseIf kind)

abbrev pub ends_label : Kind → Bool
ends_label (k.Mark m.Colon) = true
ends_label (k.Mark m.Semicolon) = true
ends_label _ = false

-- a test of the token behind the next one
abbrev pub is_second : (Kind → Bool) → List Token → Bool
is_second f [] = false
is_second f (t ∷ ts) = is_next f ts

-- ---- without expressions

-- VAR "=>", if the second is there
abbrev pub key_by : Token → Kind → Parser (Option Identifier)
key_by t (k.Variable spelled) = take_token >> pure (Some (identifier t spelled))
key_by t _ = fail

unfoldable pub foreach_key : Parser (Option Identifier)
foreach_key ts = if is_second (is_mark m.DoubleArrow) ts then (take_token >>= λ t. key_by t t.kind) ts else Some (None, ts)

abbrev pub levels_by : Kind → Parser (Option ℕ)
levels_by (k.Int n) = take_token >> pure (Some n)
levels_by _ = pure None

unfoldable pub maybe_levels : Parser (Option ℕ)
maybe_levels [] = None
maybe_levels (t ∷ ts) = levels_by t.kind (t ∷ ts)

-- [INT] ";"
unfoldable pub levels : Parser (Option ℕ × Token)
levels = maybe_levels >>= λ n. expect m.Semicolon >>= λ c. pure (n, c)

-- ["extends" NAME]
unfoldable pub extends : Parser (Option Identifier)
extends ts = if sees_keyword w.Extends ts then (take_token >> (name >>= λ v. pure (Some v))) ts else Some (None, ts)

unfoldable pub global : Token → Parser Statement
global t = variables m.Semicolon >>= λ r. pure (s.Global (span (on t) (on r.1)) r.0)

unfoldable pub break_ : Token → Parser Statement
break_ t = levels >>= λ r. pure (s.Break (span (on t) (on r.1)) r.0)

unfoldable pub continue_ : Token → Parser Statement
continue_ t = levels >>= λ r. pure (s.Continue (span (on t) (on r.1)) r.0)

module _ (below : Form → Parser Expr) where
  -- ---- with expressions

  -- "(" expr ")"
  unfoldable pub in_parentheses : Parser Expr
  in_parentheses = expect m.OpenParen >> (below (Level 1) >>= λ x. expect m.CloseParen >> pure x)

  abbrev pub exprs : Mark → Parser (List Expr × Token)
  exprs closing = separated (below (Level 1)) closing

  -- [exprs] and the mark that closes
  unfoldable pub maybe_exprs : Mark → Parser (List Expr)
  maybe_exprs closing ts = if sees closing ts then (take_token >> pure []) ts else (exprs closing >>= λ r. pure r.0) ts

  -- behind "["
  unfoldable pub destructured : Token → Parser ForeachTarget
  destructured o = elements below m.CloseBracket >>= λ r. pure (target.Destructure o.start r.items)

  -- behind "&"
  unfoldable pub referenced : Token → Parser ForeachTarget
  referenced t = source below >>= λ x. pure (target.Reference x t.start)

  -- VAR; refused: "&" path | "[" elements and holes "]"
  abbrev pub target_by : Token → Kind → Parser ForeachTarget
  target_by t (k.Variable spelled) = pure (target.Variable (identifier t spelled))
  target_by t (k.Operator b.BitAnd) = referenced t
  target_by t (k.Mark m.OpenBracket) = destructured t
  target_by t _ = fail

  unfoldable pub foreach_target : Parser ForeachTarget
  foreach_target = take_token >>= λ t. target_by t t.kind

  -- "case" expr | "default", and the mark behind it
  abbrev pub label_by : Kind → Parser (Option Expr)
  label_by (k.Keyword w.Case) = below (Level 1) >>= λ x. pure (Some x)
  label_by (k.Keyword w.Default) = pure None
  label_by _ = fail

  unfoldable pub label : Parser (Option Expr × Token)
  label = take_token >>= λ t. label_by t.kind >>= λ x. expect_kind ends_label >>= λ c. pure (x, c)

  unfoldable pub expression : Parser Statement
  expression = below (Level 1) >>= λ x. expect m.Semicolon >>= λ c. pure (s.Expression (span (place x) (on c)) x)

  unfoldable pub returned : Token → Parser Statement
  returned t ts =
      if sees m.Semicolon ts then (take_token >>= λ c. pure (s.Return (span (on t) (on c)) None)) ts
      else (below (Level 1) >>= λ x. expect m.Semicolon >>= λ c. pure (s.Return (span (on t) (on c)) (Some x))) ts

  unfoldable pub echo : Token → Parser Statement
  echo t = exprs m.Semicolon >>= λ r. pure (s.Echo (span (on t) (on r.1)) r.0)

  unfoldable pub unset : Token → Parser Statement
  unset t = expect m.OpenParen >> (paths below is_written >>= λ r. expect m.Semicolon >>= λ c. pure (s.Unset (span (on t) (on c)) r.0))

  unfoldable pub static_ : Token → Parser Statement
  static_ t = separated (static_variable below) m.Semicolon >>= λ r. pure (s.Static (span (on t) (on r.1)) r.0)

  unfoldable pub constants : Token → Parser Statement
  constants t = separated (constant_item below) m.Semicolon >>= λ r. pure (s.Const (span (on t) (on r.1)) r.0)

  -- `static` declares variables, or is a class whose member an expression begins with
  unfoldable pub static_or_expression : Parser Statement
  static_or_expression ts = if is_second is_variable ts then (take_token >>= static_) ts else expression ts

  -- ---- with statements nested one deeper

  module _ (nested : Parser Statement) where
    abbrev pub statements : Parser (List Statement)
    statements = many ends_statements nested

    unfoldable pub block : Token → Parser Statement
    block o = statements >>= λ body. expect m.CloseBrace >>= λ c. pure (s.Block (span (on o) (on c)) body)

    unfoldable pub while_ : Token → Parser Statement
    while_ t = in_parentheses >>= λ x. nested >>= λ body. pure (s.While (span (on t) (statement_place body)) x body)

    unfoldable pub do_while : Token → Parser Statement
    do_while t = nested >>= λ body. expect_kind (is_keyword w.While) >> (in_parentheses >>= λ x. expect m.Semicolon >>= λ c.
        pure (s.DoWhile (span (on t) (on c)) body x))

    -- behind ")"
    unfoldable pub for_body : Token → List Expr → List Expr → List Expr → Parser Statement
    for_body t init condition step = nested >>= λ body. pure (s.For (span (on t) (statement_place body)) init condition step body)

    unfoldable pub for_ : Token → Parser Statement
    for_ t = expect m.OpenParen >> (maybe_exprs m.Semicolon >>= λ init. maybe_exprs m.Semicolon >>= λ condition.
        maybe_exprs m.CloseParen >>= λ step. for_body t init condition step)

    -- behind ")"
    unfoldable pub foreach_body : Token → Expr → Option Identifier → ForeachTarget → Parser Statement
    foreach_body t x key value = nested >>= λ body. pure (s.Foreach (span (on t) (statement_place body)) x key value body)

    -- behind "as"
    unfoldable pub foreach_as : Token → Expr → Parser Statement
    foreach_as t x = foreach_key >>= λ key. foreach_target >>= λ value. expect m.CloseParen >> foreach_body t x key value

    unfoldable pub foreach : Token → Parser Statement
    foreach t = expect m.OpenParen >> (below (Level 1) >>= λ x. expect_kind (is_keyword w.As) >> foreach_as t x)

    -- ---- if

    unfoldable pub else_if : Parser ElseIf
    else_if = take_token >> (in_parentheses >>= λ x. nested >>= λ body. pure (roll-ElseIf (record { test = x; body = body })))

    unfoldable pub otherwise : Parser (Option Statement)
    otherwise ts = if sees_keyword w.Else ts then (take_token >> (nested >>= λ body. pure (Some body))) ts else Some (None, ts)

    -- behind all `elseif`
    unfoldable pub last_branch : Token → Expr → Statement → List ElseIf → Parser Statement
    last_branch t x body more = otherwise >>= λ other. pure (s.If (span (on t) (last_part (statement_place body) more other)) x body more other)

    -- behind the first branch
    unfoldable pub branches : Token → Expr → Statement → Parser Statement
    branches t x body = many ends_branches else_if >>= λ more. last_branch t x body more

    -- Each `elseif` and each `else` belongs to the nearest `if`.
    unfoldable pub if_ : Token → Parser Statement
    if_ t = in_parentheses >>= λ x. nested >>= λ body. branches t x body

    -- ---- switch

    unfoldable pub case_from : At → Parser Case
    case_from at = label >>= λ r. statements >>= λ body.
        pure (roll-Case (record { at = span at (last_statement (on r.1) body); test = r.0; body = body }))

    unfoldable pub case : Parser Case
    case = here >>= case_from

    -- behind the subject, with at most one default
    unfoldable pub switch_cases : Token → Expr → Parser Statement
    switch_cases t x = expect m.OpenBrace >> (many (is_mark m.CloseBrace) case >>= λ cases. expect m.CloseBrace >>= λ c.
        pure_if (nat_le (count_by is_default cases) 1) (s.Switch (span (on t) (on c)) x cases))

    unfoldable pub switch : Token → Parser Statement
    switch t = in_parentheses >>= λ x. switch_cases t x

    -- ---- functions and classes

    -- behind the type of the result
    unfoldable pub function_body : Token → Identifier → List Param → Option DeclaredType → Parser Function
    function_body t v ps result = expect m.OpenBrace >> (statements >>= λ body. expect m.CloseBrace >>= λ c.
        pure (roll-Function (record { at = span (on t) (on c); name = v; params = ps; result = result; body = body })))

    -- behind "function"
    unfoldable pub function_from : Token → Parser Function
    function_from t = name >>= λ v. expect m.OpenParen >> (params below >>= λ ps. result_type >>= λ result. function_body t v ps result)

    unfoldable pub class_constants : At → Modifiers → Parser Member
    class_constants at mods = separated (constant_item below) m.Semicolon >>= λ r. pure (member.Constants (span at (on r.1)) mods r.0)

    unfoldable pub properties : At → Modifiers → Parser Member
    properties at mods = maybe_type >>= λ found. separated (property_item below) m.Semicolon >>= λ r.
        pure (member.Properties (span at (on r.1)) mods found r.0)

    unfoldable pub method : At → Modifiers → Parser Member
    method at mods = take_token >>= function_from >>= λ f. pure (member.Method (span at (function_place f)) mods f)

    -- behind the modifiers; constants are without `static`, properties have a modifier
    unfoldable pub member_of : At → Modifiers → Parser Member
    member_of at mods ts =
        if sees_keyword w.Const ts then (if mods.is_static then None else (take_token >> class_constants at mods) ts)
        else (if sees_keyword w.Function ts then method at mods ts
        else (if has_modifier mods then properties at mods ts else None))

    unfoldable pub member_from : At → Parser Member
    member_from at = modifiers no_modifiers >>= member_of at

    unfoldable pub class_member : Parser Member
    class_member = here >>= member_from

    -- behind the parent
    unfoldable pub class_body : Token → Identifier → Option Identifier → Parser Class
    class_body t v parent = expect m.OpenBrace >> (many (is_mark m.CloseBrace) class_member >>= λ members. expect m.CloseBrace >>= λ c.
        pure (roll-Class (record { at = span (on t) (on c); name = v; parent = parent; members = members })))

    -- behind "class"
    unfoldable pub class_from : Token → Parser Class
    class_from t = name >>= λ v. extends >>= λ parent. class_body t v parent

    -- ---- all statements

    abbrev pub keyword_by : Bool → Keyword → Parser Statement
    keyword_by top w.If = take_token >>= if_
    keyword_by top w.While = take_token >>= while_
    keyword_by top w.Do = take_token >>= do_while
    keyword_by top w.For = take_token >>= for_
    keyword_by top w.Foreach = take_token >>= foreach
    keyword_by top w.Switch = take_token >>= switch
    keyword_by top w.Break = take_token >>= break_
    keyword_by top w.Continue = take_token >>= continue_
    keyword_by top w.Return = take_token >>= returned
    keyword_by top w.Echo = take_token >>= echo
    keyword_by top w.Global = take_token >>= global
    keyword_by top w.Static = static_or_expression
    keyword_by top w.Unset = take_token >>= unset
    keyword_by true w.Const = take_token >>= constants
    keyword_by false w.Const = fail
    keyword_by top w.Function = take_token >>= function_from >>= λ f. pure (s.Function f)
    keyword_by top w.Class = take_token >>= class_from >>= λ c. pure (s.Class c)
    keyword_by top _ = expression

    abbrev pub statement_by : Bool → Kind → Parser Statement
    statement_by top (k.Mark m.Semicolon) = take_token >>= λ t. pure (s.Empty (on t))
    statement_by top (k.InlineText bytes) = take_token >>= λ t. pure (s.InlineText (on t) bytes)
    statement_by top (k.Mark m.OpenBrace) = take_token >>= block
    statement_by top (k.Keyword word) = keyword_by top word
    statement_by top _ = expression

    abbrev pub one_statement : Bool → Parser Statement
    one_statement top [] = None
    one_statement top (t ∷ ts) = statement_by top t.kind (t ∷ ts)
