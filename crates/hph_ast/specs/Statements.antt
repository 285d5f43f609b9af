-- The grammar of statements, functions, classes and files: PHP manual, Control Structures, Functions, Classes and Objects,
-- with this project's profile.
use Rattle.std.specs.Prelude.{◌≡◌, ◌≢◌, ◌≤◌, ℕ, Bool, true, false, List, [], ◌∷◌, Option, Some, None, is_none, count_by}
use Rattle.hph_ast.specs.declared.token.At.{At}
use Rattle.hph_ast.specs.declared.token.Token.{Token}
use Rattle.hph_ast.specs.declared.token.Identifier.{Identifier}
use Rattle.hph_ast.specs.declared.token.Kind.{Kind}
use Rattle.hph_ast.specs.declared.token.Kind.TheVariants as k
use Rattle.hph_ast.specs.declared.token.Mark.{Mark}
use Rattle.hph_ast.specs.declared.token.Mark.TheVariants as m
use Rattle.hph_ast.specs.declared.keyword.Keyword.{Keyword}
use Rattle.hph_ast.specs.declared.keyword.Keyword.TheVariants as w
use Rattle.hph_ast.specs.declared.operator.Binary.TheVariants as b
use Rattle.hph_ast.specs.declared.expr.Expr.{Expr}
use Rattle.hph_ast.specs.declared.expr.Item.{Item}
use Rattle.hph_ast.specs.declared.function.DeclaredType.{DeclaredType}
use Rattle.hph_ast.specs.declared.function.Param.{Param}
use Rattle.hph_ast.specs.declared.function.Function.{Function, roll-Function, out-Function}
use Rattle.hph_ast.specs.declared.class.Class.{Class, roll-Class, out-Class}
use Rattle.hph_ast.specs.declared.class.Member.{Member}
use Rattle.hph_ast.specs.declared.class.Member.TheVariants as member
use Rattle.hph_ast.specs.declared.class.Modifiers.{Modifiers}
use Rattle.hph_ast.specs.declared.class.ConstantItem.{ConstantItem}
use Rattle.hph_ast.specs.declared.class.PropertyItem.{PropertyItem}
use Rattle.hph_ast.specs.declared.stmt.Statement.{Statement, out-Statement}
use Rattle.hph_ast.specs.declared.stmt.Statement.TheVariants as s
use Rattle.hph_ast.specs.declared.class.Member.TheOpen.{Statement-F}
use Rattle.hph_ast.specs.declared.stmt.ElseIf.{ElseIf, roll-ElseIf, out-ElseIf}
use Rattle.hph_ast.specs.declared.stmt.Case.{Case, roll-Case, out-Case}
use Rattle.hph_ast.specs.declared.stmt.ForeachTarget.{ForeachTarget}
use Rattle.hph_ast.specs.declared.stmt.ForeachTarget.TheVariants as target
use Rattle.hph_ast.specs.declared.stmt.StaticVariable.{StaticVariable}
use Rattle.hph_ast.specs.declared.program.FileTree.{FileTree}
use Rattle.hph_ast.specs.Places.{place, on, span, identifier}
use Rattle.hph_ast.specs.Shapes.{is_written, is_source}
use Rattle.hph_ast.specs.Terminals.{IsMark, IsKeyword}
use Rattle.hph_ast.specs.Expressions.{IsExpression, IsPostfix, IsTargets, IsPaths}
use Rattle.hph_ast.specs.Declarations.{IsVariables, IsStaticVariables, IsPropertyItems, IsConstantItems, IsMaybeType, IsParams, IsResult, IsModifiers, no_modifiers, has_modifier}

abbrev pub StatementLayer : Type 0
StatementLayer = Statement-F Member Statement Class Function Case ElseIf

abbrev pub function_place : Function → At
function_place f = (out-Function f).at

abbrev pub class_place : Class → At
class_place c = (out-Class c).at

abbrev pub statement_place_at : StatementLayer → At
statement_place_at (Statement-F.Empty at) = at
statement_place_at (Statement-F.InlineText at bytes) = at
statement_place_at (Statement-F.Block at body) = at
statement_place_at (Statement-F.Expression at value) = at
statement_place_at (Statement-F.Function function) = function_place function
statement_place_at (Statement-F.Class class) = class_place class
statement_place_at (Statement-F.If at test body more other) = at
statement_place_at (Statement-F.While at test body) = at
statement_place_at (Statement-F.DoWhile at body test) = at
statement_place_at (Statement-F.For at init test step body) = at
statement_place_at (Statement-F.Foreach at subject key value body) = at
statement_place_at (Statement-F.Switch at subject cases) = at
statement_place_at (Statement-F.Break at levels) = at
statement_place_at (Statement-F.Continue at levels) = at
statement_place_at (Statement-F.Return at value) = at
statement_place_at (Statement-F.Echo at values) = at
statement_place_at (Statement-F.Global at names) = at
statement_place_at (Statement-F.Static at variables) = at
statement_place_at (Statement-F.Unset at paths) = at
statement_place_at (Statement-F.Const at items) = at

abbrev pub statement_place : Statement → At
statement_place x = statement_place_at (out-Statement x)

-- the place of the last of a list, or what is before it where there is none
abbrev pub last_statement : At → List Statement → At
last_statement at [] = at
last_statement at (x ∷ xs) = last_statement (statement_place x) xs

abbrev pub last_branch : At → List ElseIf → At
last_branch at [] = at
last_branch at (x ∷ xs) = last_branch (statement_place (out-ElseIf x).body) xs

abbrev pub last_part : At → List ElseIf → Option Statement → At
last_part at more None = last_branch at more
last_part at more (Some other) = statement_place other

abbrev pub is_keyword_of : Kind → Option Keyword
is_keyword_of (k.Keyword w) = Some w
is_keyword_of _ = None

-- the keyword that comes next
abbrev pub keyword_next : List Token → Option Keyword
keyword_next [] = None
keyword_next (t ∷ ts) = is_keyword_of t.kind

-- "(" expr ")"
pub data IsTest : List Token → Expr → List Token → Type 0 where
  test : {ts rest : List Token} {o c : Token} {x : Expr} → IsMark m.OpenParen o → IsExpression 1 ts x (c ∷ rest) → IsMark m.CloseParen c → IsTest (o ∷ ts) x rest

-- exprs = expr {"," expr}, and the token that closes, of this mark
pub data IsExprs (closing : Mark) : List Token → List Expr → Token → List Token → Type 0 where
  exprs_last : {ts rest : List Token} {c : Token} {x : Expr} → IsExpression 1 ts x (c ∷ rest) → IsMark closing c → IsExprs closing ts (x ∷ []) c rest
  exprs_more : {ts mid rest : List Token} {t c : Token} {x : Expr} {xs : List Expr} →
      IsExpression 1 ts x (t ∷ mid) → IsMark m.Comma t → IsExprs closing mid xs c rest → IsExprs closing ts (x ∷ xs) c rest

-- [exprs] and the mark that closes
pub data IsMaybeExprs (closing : Mark) : List Token → List Expr → List Token → Type 0 where
  no_exprs : {rest : List Token} {c : Token} → IsMark closing c → IsMaybeExprs closing (c ∷ rest) [] rest
  some_exprs : {ts rest : List Token} {c : Token} {x : Expr} {xs : List Expr} → IsExprs closing ts (x ∷ xs) c rest → IsMaybeExprs closing ts (x ∷ xs) rest

-- [VAR "=>"]
pub data IsForeachKey : List Token → Option Identifier → List Token → Type 0 where
  no_key : {ts : List Token} → IsForeachKey ts None ts
  a_key : {rest : List Token} {t q : Token} {name : List ℕ} → t.kind ≡ k.Variable name → IsMark m.DoubleArrow q → IsForeachKey (t ∷ q ∷ rest) (Some (identifier t name)) rest

-- VAR; refused: "&" path | "[" elements and holes "]"
pub data IsForeachTarget : List Token → ForeachTarget → List Token → Type 0 where
  to_variable : {rest : List Token} {t : Token} {name : List ℕ} → t.kind ≡ k.Variable name → IsForeachTarget (t ∷ rest) (target.Variable (identifier t name)) rest
  to_reference : {ts rest : List Token} {t : Token} {x : Expr} →
      t.kind ≡ k.Operator b.BitAnd → IsPostfix ts x rest → is_source x ≡ true → IsForeachTarget (t ∷ ts) (target.Reference x t.start) rest
  to_items : {ts rest : List Token} {o c : Token} {items : List Item} →
      IsMark m.OpenBracket o → IsTargets ts items c rest → IsForeachTarget (o ∷ ts) (target.Destructure o.start items) rest

-- [INT] ";"
pub data IsLevels : List Token → Option ℕ → Token → List Token → Type 0 where
  no_levels : {rest : List Token} {c : Token} → IsMark m.Semicolon c → IsLevels (c ∷ rest) None c rest
  levels : {rest : List Token} {t c : Token} {n : ℕ} → t.kind ≡ k.Int n → IsMark m.Semicolon c → IsLevels (t ∷ c ∷ rest) (Some n) c rest

-- what stands behind a label of `switch`
pub data IsLabelEnd : Token → Type 0 where
  colon : {t : Token} → IsMark m.Colon t → IsLabelEnd t
  semicolon : {t : Token} → IsMark m.Semicolon t → IsLabelEnd t

-- "case" expr | "default", and the mark behind it
pub data IsLabel : List Token → Option Expr → Token → List Token → Type 0 where
  of_case : {ts rest : List Token} {t c : Token} {x : Expr} →
      IsKeyword w.Case t → IsExpression 1 ts x (c ∷ rest) → IsLabelEnd c → IsLabel (t ∷ ts) (Some x) c rest
  of_default : {rest : List Token} {t c : Token} → IsKeyword w.Default t → IsLabelEnd c → IsLabel (t ∷ c ∷ rest) None c rest

abbrev pub is_default : Case → Bool
is_default c = is_none (out-Case c).test

-- Each relation takes whether it stands directly in a file where that matters, the tokens from a place on, the tree, and
-- the tokens behind it.
mutual
  pub data IsStatement : Bool → List Token → Statement → List Token → Type 0 where
    -- ";"
    empty : {top : Bool} {rest : List Token} {t : Token} → IsMark m.Semicolon t → IsStatement top (t ∷ rest) (s.Empty (on t)) rest
    inline_text : {top : Bool} {rest : List Token} {t : Token} {bytes : List ℕ} → t.kind ≡ k.InlineText bytes → IsStatement top (t ∷ rest) (s.InlineText (on t) bytes) rest
    -- "{" {stmt} "}"
    block : {top : Bool} {ts rest : List Token} {o c : Token} {body : List Statement} →
        IsMark m.OpenBrace o → IsStatements false ts body (c ∷ rest) → IsMark m.CloseBrace c → IsStatement top (o ∷ ts) (s.Block (span (on o) (on c)) body) rest
    -- expr ";"
    expression : {top : Bool} {ts rest : List Token} {c : Token} {x : Expr} →
        IsExpression 1 ts x (c ∷ rest) → IsMark m.Semicolon c → IsStatement top ts (s.Expression (span (place x) (on c)) x) rest
    function : {top : Bool} {ts rest : List Token} {f : Function} → IsFunction ts f rest → IsStatement top ts (s.Function f) rest
    class : {top : Bool} {ts rest : List Token} {c : Class} → IsClassDeclaration ts c rest → IsStatement top ts (s.Class c) rest
    -- "if" "(" expr ")" stmt {"elseif" "(" expr ")" stmt} ["else" stmt]
    if_ : {top : Bool} {ts mid after later rest : List Token} {t : Token} {x : Expr} {body : Statement} {more : List ElseIf} {other : Option Statement} →
        IsKeyword w.If t → IsTest ts x mid → IsStatement false mid body after → IsElseIfs after more later → IsElse later other rest →
        IsStatement top (t ∷ ts) (s.If (span (on t) (last_part (statement_place body) more other)) x body more other) rest
    -- "while" "(" expr ")" stmt
    while : {top : Bool} {ts mid rest : List Token} {t : Token} {x : Expr} {body : Statement} →
        IsKeyword w.While t → IsTest ts x mid → IsStatement false mid body rest → IsStatement top (t ∷ ts) (s.While (span (on t) (statement_place body)) x body) rest
    -- "do" stmt "while" "(" expr ")" ";"
    do_while : {top : Bool} {ts mid rest : List Token} {t q c : Token} {x : Expr} {body : Statement} →
        IsKeyword w.Do t → IsStatement false ts body (q ∷ mid) → IsKeyword w.While q → IsTest mid x (c ∷ rest) → IsMark m.Semicolon c →
        IsStatement top (t ∷ ts) (s.DoWhile (span (on t) (on c)) body x) rest
    -- "for" "(" [exprs] ";" [exprs] ";" [exprs] ")" stmt
    for : {top : Bool} {ts ts1 ts2 ts3 rest : List Token} {t o : Token} {init test step : List Expr} {body : Statement} →
        IsKeyword w.For t → IsMark m.OpenParen o → IsMaybeExprs m.Semicolon ts init ts1 → IsMaybeExprs m.Semicolon ts1 test ts2 →
        IsMaybeExprs m.CloseParen ts2 step ts3 → IsStatement false ts3 body rest →
        IsStatement top (t ∷ o ∷ ts) (s.For (span (on t) (statement_place body)) init test step body) rest
    -- "foreach" "(" expr "as" [VAR "=>"] VAR ")" stmt
    foreach : {top : Bool} {ts mid after later rest : List Token} {t o q c : Token} {x : Expr} {key : Option Identifier} {value : ForeachTarget} {body : Statement} →
        IsKeyword w.Foreach t → IsMark m.OpenParen o → IsExpression 1 ts x (q ∷ mid) → IsKeyword w.As q →
        IsForeachKey mid key after → IsForeachTarget after value (c ∷ later) → IsMark m.CloseParen c → IsStatement false later body rest →
        IsStatement top (t ∷ o ∷ ts) (s.Foreach (span (on t) (statement_place body)) x key value body) rest
    -- "switch" "(" expr ")" "{" {("case" expr | "default") (":" | ";") {stmt}} "}", with at most one default
    switch : {top : Bool} {ts mid rest : List Token} {t o c : Token} {x : Expr} {cases : List Case} →
        IsKeyword w.Switch t → IsTest ts x (o ∷ mid) → IsMark m.OpenBrace o → IsCases mid cases (c ∷ rest) → IsMark m.CloseBrace c →
        count_by is_default cases ≤ 1 → IsStatement top (t ∷ ts) (s.Switch (span (on t) (on c)) x cases) rest
    -- ("break" | "continue") [INT] ";"
    break : {top : Bool} {ts rest : List Token} {t c : Token} {n : Option ℕ} →
        IsKeyword w.Break t → IsLevels ts n c rest → IsStatement top (t ∷ ts) (s.Break (span (on t) (on c)) n) rest
    continue : {top : Bool} {ts rest : List Token} {t c : Token} {n : Option ℕ} →
        IsKeyword w.Continue t → IsLevels ts n c rest → IsStatement top (t ∷ ts) (s.Continue (span (on t) (on c)) n) rest
    -- "return" [expr] ";"
    return_nothing : {top : Bool} {rest : List Token} {t c : Token} →
        IsKeyword w.Return t → IsMark m.Semicolon c → IsStatement top (t ∷ c ∷ rest) (s.Return (span (on t) (on c)) None) rest
    return : {top : Bool} {ts rest : List Token} {t c : Token} {x : Expr} →
        IsKeyword w.Return t → IsExpression 1 ts x (c ∷ rest) → IsMark m.Semicolon c → IsStatement top (t ∷ ts) (s.Return (span (on t) (on c)) (Some x)) rest
    -- "echo" exprs ";"
    echo : {top : Bool} {ts rest : List Token} {t c : Token} {xs : List Expr} →
        IsKeyword w.Echo t → IsExprs m.Semicolon ts xs c rest → IsStatement top (t ∷ ts) (s.Echo (span (on t) (on c)) xs) rest
    -- "global" VAR {"," VAR} ";"
    global : {top : Bool} {ts rest : List Token} {t c : Token} {names : List Identifier} →
        IsKeyword w.Global t → IsVariables m.Semicolon ts names c rest → IsStatement top (t ∷ ts) (s.Global (span (on t) (on c)) names) rest
    -- "static" VAR ["=" cexpr] {"," VAR ["=" cexpr]} ";"
    static : {top : Bool} {ts rest : List Token} {t c : Token} {variables : List StaticVariable} →
        IsKeyword w.Static t → IsStaticVariables ts variables c rest → IsStatement top (t ∷ ts) (s.Static (span (on t) (on c)) variables) rest
    -- "unset" "(" path {"," path} [","] ")" ";"
    unset : {top : Bool} {ts rest : List Token} {t o q c : Token} {paths : List Expr} →
        IsKeyword w.Unset t → IsMark m.OpenParen o → IsPaths is_written ts paths q (c ∷ rest) → IsMark m.Semicolon c →
        IsStatement top (t ∷ o ∷ ts) (s.Unset (span (on t) (on c)) paths) rest
    -- directly in the file: "const" NAME "=" cexpr {"," NAME "=" cexpr} ";"
    const : {ts rest : List Token} {t c : Token} {items : List ConstantItem} →
        IsKeyword w.Const t → IsConstantItems ts items c rest → IsStatement true (t ∷ ts) (s.Const (span (on t) (on c)) items) rest

  pub data IsStatements : Bool → List Token → List Statement → List Token → Type 0 where
    statements_end : {top : Bool} {ts : List Token} → IsStatements top ts [] ts
    statements_more : {top : Bool} {ts mid rest : List Token} {x : Statement} {xs : List Statement} →
        IsStatement top ts x mid → IsStatements top mid xs rest → IsStatements top ts (x ∷ xs) rest

  -- Each `elseif` and each `else` belongs to the nearest `if`: one without them isn't followed by them.
  pub data IsElseIfs : List Token → List ElseIf → List Token → Type 0 where
    else_ifs_end : {ts : List Token} → keyword_next ts ≢ Some w.ElseIf → IsElseIfs ts [] ts
    else_if : {ts mid after rest : List Token} {t : Token} {x : Expr} {body : Statement} {more : List ElseIf} →
        IsKeyword w.ElseIf t → IsTest ts x mid → IsStatement false mid body after → IsElseIfs after more rest →
        IsElseIfs (t ∷ ts) (roll-ElseIf (record { test = x; body = body }) ∷ more) rest

  pub data IsElse : List Token → Option Statement → List Token → Type 0 where
    no_else : {ts : List Token} → keyword_next ts ≢ Some w.Else → IsElse ts None ts
    an_else : {ts rest : List Token} {t : Token} {body : Statement} → IsKeyword w.Else t → IsStatement false ts body rest → IsElse (t ∷ ts) (Some body) rest

  pub data IsCases : List Token → List Case → List Token → Type 0 where
    cases_end : {ts : List Token} → IsCases ts [] ts
    cases_more : {ts mid after rest : List Token} {t c : Token} {test : Option Expr} {body : List Statement} {more : List Case} →
        IsLabel (t ∷ ts) test c mid → IsStatements false mid body after → IsCases after more rest →
        IsCases (t ∷ ts) (roll-Case (record { at = span (on t) (last_statement (on c) body); test = test; body = body }) ∷ more) rest

  -- "function" NAME "(" [param {"," param} [","]] ")" [":" type] "{" {stmt} "}"
  pub data IsFunction : List Token → Function → List Token → Type 0 where
    a_function : {ts mid after rest : List Token} {t q o b c : Token} {name : List ℕ} {params : List Param} {result : Option DeclaredType} {body : List Statement} →
        IsKeyword w.Function t → q.kind ≡ k.Name name → IsMark m.OpenParen o → IsParams ts params mid → IsResult mid result (b ∷ after) → IsMark m.OpenBrace b →
        IsStatements false after body (c ∷ rest) → IsMark m.CloseBrace c →
        IsFunction (t ∷ q ∷ o ∷ ts) (roll-Function (record { at = span (on t) (on c); name = identifier q name; params = params; result = result; body = body })) rest

  -- "class" NAME ["extends" NAME] "{" {member} "}"
  pub data IsClassDeclaration : List Token → Class → List Token → Type 0 where
    a_class : {ts mid rest : List Token} {t q o c : Token} {name : List ℕ} {parent : Option Identifier} {members : List Member} →
        IsKeyword w.Class t → q.kind ≡ k.Name name → IsExtends ts parent (o ∷ mid) → IsMark m.OpenBrace o → IsMembers mid members (c ∷ rest) → IsMark m.CloseBrace c →
        IsClassDeclaration (t ∷ q ∷ ts) (roll-Class (record { at = span (on t) (on c); name = identifier q name; parent = parent; members = members })) rest

  pub data IsExtends : List Token → Option Identifier → List Token → Type 0 where
    no_parent : {ts : List Token} → IsExtends ts None ts
    extends : {rest : List Token} {t q : Token} {name : List ℕ} → IsKeyword w.Extends t → q.kind ≡ k.Name name → IsExtends (t ∷ q ∷ rest) (Some (identifier q name)) rest

  pub data IsMembers : List Token → List Member → List Token → Type 0 where
    members_end : {ts : List Token} → IsMembers ts [] ts
    members_more : {ts mid rest : List Token} {x : Member} {xs : List Member} → IsMember ts x mid → IsMembers mid xs rest → IsMembers ts (x ∷ xs) rest

  -- member = {mod} (constants | properties | function)
  pub data IsMember : List Token → Member → List Token → Type 0 where
    -- without `static`: "const" NAME "=" cexpr {"," ..} ";"
    constants : {ts mid rest : List Token} {t q c : Token} {mods : Modifiers} {items : List ConstantItem} →
        IsModifiers no_modifiers (t ∷ ts) mods (q ∷ mid) → mods.is_static ≡ false → IsKeyword w.Const q → IsConstantItems mid items c rest →
        IsMember (t ∷ ts) (member.Constants (span (on t) (on c)) mods items) rest
    -- with a modifier: [type] VAR ["=" cexpr] {"," ..} ";"
    properties : {ts mid after rest : List Token} {t c : Token} {mods : Modifiers} {ty : Option DeclaredType} {items : List PropertyItem} →
        IsModifiers no_modifiers (t ∷ ts) mods mid → has_modifier mods ≡ true → IsMaybeType mid ty after → IsPropertyItems after items c rest →
        IsMember (t ∷ ts) (member.Properties (span (on t) (on c)) mods ty items) rest
    method : {ts mid rest : List Token} {t : Token} {mods : Modifiers} {f : Function} →
        IsModifiers no_modifiers (t ∷ ts) mods mid → IsFunction mid f rest → IsMember (t ∷ ts) (member.Method (span (on t) (function_place f)) mods f) rest

-- from the first statement to the last
abbrev pub file_place : List Statement → At
file_place [] = record { start = 0; end = 0; site = 0 }
file_place (x ∷ xs) = span (statement_place x) (last_statement (statement_place x) xs)

-- file = { stmt }
pub data IsFile : List Token → FileTree → Type 0 where
  file : {ts : List Token} {xs : List Statement} → IsStatements true ts xs [] → IsFile ts (record { at = file_place xs; statements = xs })
