-- The parts of declarations: what is in the grammar is what the parser answers.
use Rattle.std.specs.Prelude.{◌≡◌, ℕ, zero, suc, ◌≤◌, Bool, true, false, List, [], ◌∷◌, ◌++◌, length, Option, Some, None, is_some, refl}
use Rattle.std.proofs.Common.{ap, sym, ◌∙◌, arith, append_assoc, append-nil}
use Rattle.hph_ast.specs.declared.token.At.{At}
use Rattle.hph_ast.specs.declared.token.Token.{Token}
use Rattle.hph_ast.specs.declared.token.Identifier.{Identifier}
use Rattle.hph_ast.specs.declared.token.Kind.{Kind}
use Rattle.hph_ast.specs.declared.token.Kind.TheVariants as k
use Rattle.hph_ast.specs.declared.token.Mark.{Mark}
use Rattle.hph_ast.specs.declared.token.Mark.TheVariants as m
use Rattle.hph_ast.specs.declared.keyword.Keyword.TheVariants as w
use Rattle.hph_ast.specs.declared.operator.Binary.TheVariants as b
use Rattle.hph_ast.specs.declared.expr.Expr.{Expr}
use Rattle.hph_ast.specs.declared.function.DeclaredType.{DeclaredType}
use Rattle.hph_ast.specs.declared.function.TypeName.{TypeName}
use Rattle.hph_ast.specs.declared.function.Param.{Param}
use Rattle.hph_ast.specs.declared.class.Modifiers.{Modifiers}
use Rattle.hph_ast.specs.declared.class.Access.{Access}
use Rattle.hph_ast.specs.declared.class.ConstantItem.{ConstantItem}
use Rattle.hph_ast.specs.declared.class.PropertyItem.{PropertyItem}
use Rattle.hph_ast.specs.declared.stmt.StaticVariable.{StaticVariable}
use Rattle.hph_ast.specs.Levels.{binds, Stops}
use Rattle.hph_ast.specs.Nesting.{nesting, greatest}
use Rattle.hph_ast.specs.StatementNesting.{maybe, param_nesting}
use Rattle.hph_ast.specs.Places.{on, span}
use Rattle.hph_ast.specs.Terminals.{IsMark}
use Rattle.hph_ast.specs.Expressions.{IsExpression}
use Rattle.hph_ast.specs.Declarations as g
use Rattle.hph_ast.specs.Declarations.{IsConstant, IsVariables, IsInitial, IsStaticVariables, IsPropertyItems, IsConstantItems, IsTypeName, IsTypeNames, IsType, IsMaybeType, IsMaybeReference, IsParam, IsParams, IsResult, IsAccess, IsModifiers}
use Rattle.hph_fexpr.specs.declared.form.Form.TheVariants.{Level}
use Rattle.hph_fexpr.specs.Parser.{parse}
use Rattle.hph_cursor.specs.Steps.{choose, is_mark, sees, pure, fail}
use Rattle.hph_cursor.specs.Next.{of_next, is_next, is_set_kind, is_ampersand}
use Rattle.hph_fstmt.specs.Laws.{Laws}
use Rattle.hph_fstmt.specs.Words.{is_keyword, sees_keyword, variable}
use Rattle.hph_fstmt.specs.Repeats.{separated}
use Rattle.hph_fstmt.specs.Declarations as p
use Rattle.hph_fstmt.proofs.Tools.{then_is, choose_some, choose_none, if_true, if_false, mark_is, expect_is}
use Rattle.hph_fstmt.proofs.Keywords.{keyword_is, kind_is, name_is, variable_is}
use Rattle.hph_fstmt.proofs.Repeats.{Separated, last, more, Ending, ending, separated_is}
use Rattle.hph_cursor.proofs.Shorter.{expression_shorter}
use Rattle.hph_fstmt.proofs.Shorter.{initial_shorter, param_shorter, params_shorter, type_names_shorter}
use Rattle.hph_fstmt.proofs.DeclarationsSound.{AVariable, a_variable, AStatic, a_static_variable, AProperty, a_property, AConstant, a_constant}

-- ---- what follows

pub ending_stops : {c : Token} {rest : List Token} → Ending c → Stops 1 (c ∷ rest)
ending_stops {c = c} e = let h : binds c.kind ≡ 0 = ap binds e.is ∙ e.loose in record { below = omega arith }

ending_sets_nothing : {c : Token} → Ending c → is_set_kind c.kind ≡ false
ending_sets_nothing e = ap is_set_kind e.is

-- ---- types

by_name : {q : Token} {us : List Token} {x : TypeName} → p.type_name_by q q.kind ≡ Some x → p.type_name (q ∷ us) ≡ Some ((x, q), us)
unfolding p.type_name
by_name {q = q} {us = us} h = ap (λ o. choose o (fail {A = TypeName × Token}) (λ found. pure (found, q)) us) h

type_name_is : {q : Token} {us : List Token} {x : TypeName} → IsTypeName q x → p.type_name (q ∷ us) ≡ Some ((x, q), us)
type_name_is {q = q} (g.named_type is) = by_name (ap (p.type_name_by q) is)
type_name_is {q = q} (g.array_type is) = by_name (ap (p.type_name_by q) is)
type_name_is {q = q} (g.self_type is) = by_name (ap (p.type_name_by q) is)
type_name_is {q = q} (g.parent_type is) = by_name (ap (p.type_name_by q) is)

name_begins : {q : Token} {x : TypeName} → IsTypeName q x → p.begins_type q.kind ≡ true
name_begins (g.named_type is) = ap p.begins_type is
name_begins (g.array_type is) = ap p.begins_type is
name_begins (g.self_type is) = ap p.begins_type is
name_begins (g.parent_type is) = ap p.begins_type is

name_is_no_question : {q : Token} {x : TypeName} → IsTypeName q x → is_mark m.Question q.kind ≡ false
name_is_no_question (g.named_type is) = ap (is_mark m.Question) is
name_is_no_question (g.array_type is) = ap (is_mark m.Question) is
name_is_no_question (g.self_type is) = ap (is_mark m.Question) is
name_is_no_question (g.parent_type is) = ap (is_mark m.Question) is

type_opens : {q : Token} {x : TypeName} → IsTypeName q x → is_mark m.CloseParen q.kind ≡ false
type_opens (g.named_type is) = ap (is_mark m.CloseParen) is
type_opens (g.array_type is) = ap (is_mark m.CloseParen) is
type_opens (g.self_type is) = ap (is_mark m.CloseParen) is
type_opens (g.parent_type is) = ap (is_mark m.CloseParen) is

names_are_no_question : {ts rest : List Token} {xs : List TypeName} {c : Token} → IsTypeNames ts xs c rest → sees m.Question ts ≡ false
names_are_no_question (g.types_last is) = name_is_no_question is
names_are_no_question (g.types_more is o d) = name_is_no_question is

names_begin : {ts rest : List Token} {xs : List TypeName} {c : Token} → IsTypeNames ts xs c rest → is_next p.begins_type ts ≡ true
names_begin (g.types_last is) = name_begins is
names_begin (g.types_more is o d) = name_begins is

type_begins : {ts rest : List Token} {x : DeclaredType} → IsType ts x rest → is_next p.begins_type ts ≡ true
type_begins (g.plain_type d) = names_begin d
type_begins (g.nullable_type q d) = ap p.begins_type q

type_names_from_is : (n : ℕ) (found : List TypeName) {ts rest : List Token} {xs : List TypeName} {c : Token} → IsTypeNames ts xs c rest →
    length ts ≤ n → is_next p.is_bar rest ≡ false → p.type_names_from n found ts ≡ Some ((found ++ xs, c), rest)
unfolding p.type_names_from
type_names_from_is zero found d short off = absurd (omega (arith, type_names_shorter d))
type_names_from_is (suc n) found (g.types_last is) short off = then_is _ (type_name_is is) (if_false _ _ off refl)
type_names_from_is (suc n) found (g.types_more {rest = rest} {c = c} {name = x} {names = xs} is bar d) short off =
    then_is _ (type_name_is is) (if_true _ _ (ap p.is_bar bar) (type_names_from_is n (found ++ x ∷ []) d (omega arith) off
    ∙ ap (λ xs. Some ((xs, c), rest)) (append_assoc found (x ∷ []) xs)))

named_type_is : (at : At) (nullable : Bool) {ts rest : List Token} {xs : List TypeName} {c : Token} → IsTypeNames ts xs c rest →
    is_next p.is_bar rest ≡ false → p.named_type at nullable ts ≡ Some (
      record {
        at = span at
            (on c);
        nullable = nullable;
        names = xs;
      },
      rest,
    )
unfolding p.named_type
named_type_is at nullable {ts = ts} d off = then_is _ (type_names_from_is (length ts) [] d (omega arith) off) refl

pub declared_type_is : {ts rest : List Token} {x : DeclaredType} → IsType ts x rest → is_next p.is_bar rest ≡ false →
    p.declared_type ts ≡ Some (x, rest)
unfolding p.declared_type
declared_type_is (g.plain_type {q = q} d) off = if_false _ _ (names_are_no_question d) (named_type_is (on q) false d off)
declared_type_is (g.nullable_type {q = q} is d) off = if_true _ _ (mark_is m.Question is) (named_type_is (on q) true d off)

some_type_is : {ts rest : List Token} {x : DeclaredType} → IsType ts x rest → is_next p.is_bar rest ≡ false →
    p.some_type ts ≡ Some (Some x, rest)
unfolding p.some_type
some_type_is d off = then_is _ (declared_type_is d off) refl

-- neither a type nor more of one comes next
pub record PastType (rest : List Token) : Type 0 where
  pub no_type : is_next p.begins_type rest ≡ false
  pub no_bar : is_next p.is_bar rest ≡ false

pub past_type : {t : Token} {ts : List Token} (kind : Kind) → t.kind ≡ kind → p.begins_type kind ≡ false → p.is_bar kind ≡ false →
    PastType (t ∷ ts)
past_type kind is h e = record { no_type = ap p.begins_type is ∙ h; no_bar = ap p.is_bar is ∙ e }

pub maybe_type_is : {ts rest : List Token} {x : Option DeclaredType} → IsMaybeType ts x rest → PastType rest →
    p.maybe_type ts ≡ Some (x, rest)
unfolding p.maybe_type
maybe_type_is g.no_type past = if_false _ _ past.no_type refl
maybe_type_is (g.some_type d) past = if_true _ _ (type_begins d) (some_type_is d past.no_bar)

pub result_type_is : {ts rest : List Token} {x : Option DeclaredType} {c : Token} → IsResult ts x (c ∷ rest) → IsMark m.OpenBrace c →
    p.result_type ts ≡ Some (x, c ∷ rest)
unfolding p.result_type
result_type_is g.no_result brace = if_false _ _ (ap (is_mark m.Colon) brace) refl
result_type_is (g.a_result is d) brace = if_true _ _ (mark_is m.Colon is) (some_type_is d (ap p.is_bar brace))

maybe_reference_is : {ts rest : List Token} {x : Bool} {q : Token} {spelled : List ℕ} → IsMaybeReference ts x (q ∷ rest) →
    q.kind ≡ k.Variable spelled →
    p.maybe_reference ts ≡ Some (x, q ∷ rest)
unfolding p.maybe_reference
maybe_reference_is g.by_value is = if_false _ _ (ap is_ampersand is) refl
maybe_reference_is (g.by_reference e) is = if_true _ _ (ap is_ampersand e) refl

reference_past : {ts rest : List Token} {x : Bool} {q : Token} {spelled : List ℕ} → IsMaybeReference ts x (q ∷ rest) →
    q.kind ≡ k.Variable spelled →
    PastType ts
reference_past {spelled = spelled} g.by_value is = past_type (k.Variable spelled) is refl refl
reference_past (g.by_reference e) is = past_type (k.Operator b.BitAnd) e refl refl

-- ---- modifiers

pub record PastModifiers (rest : List Token) : Type 0 where
  pub no_access : of_next p.access_of rest ≡ None
  pub no_static : sees_keyword w.Static rest ≡ false

pub past_modifiers : {t : Token} {ts : List Token} (kind : Kind) → t.kind ≡ kind → p.access_of kind ≡ None →
    is_keyword w.Static kind ≡ false →
    PastModifiers (t ∷ ts)
past_modifiers kind is h e = record { no_access = ap p.access_of is ∙ h; no_static = ap (is_keyword w.Static) is ∙ e }

access_is : {t : Token} {who : Access} → IsAccess t who → p.access_of t.kind ≡ Some who
access_is (g.public is) = ap p.access_of is
access_is (g.protected is) = ap p.access_of is
access_is (g.private is) = ap p.access_of is
access_is (g.var is) = ap p.access_of is

pub modifiers_is : {mods last : Modifiers} {ts rest : List Token} → IsModifiers mods ts last rest → PastModifiers rest →
    p.modifiers mods ts ≡ Some (last, rest)
unfolding p.modifiers
modifiers_is {ts = []} g.modifiers_end past = refl
modifiers_is {ts = t ∷ ts} g.modifiers_end past = choose_none _ _ past.no_access (if_false _ _ past.no_static refl)
modifiers_is (g.an_access is absent d) past = choose_some _ _ (access_is is) (if_false _ _ (ap is_some absent) (modifiers_is d past))
modifiers_is (g.a_static is off d) past =
    choose_none _ _ (ap p.access_of is) (if_true _ _ (keyword_is w.Static is) (if_false _ _ off (modifiers_is d past)))

-- ---- lists of variables

from_variables : {closing : Mark} {ts rest : List Token} {names : List Identifier} {c : Token} → IsVariables closing ts names c rest →
    Separated AVariable closing ts names c rest
from_variables (g.variables_last is mark) = last (a_variable is) mark
from_variables (g.variables_more is comma d) = more (a_variable is) comma (from_variables d)

a_variable_shorter : (ts rest : List Token) (x : Identifier) → AVariable ts x rest → length rest ≤ length ts
a_variable_shorter _ _ _ (a_variable is) = omega arith

one_variable_is : (ts rest : List Token) (x : Identifier) (c : Token) → AVariable ts x (c ∷ rest) → variable ts ≡ Some (x, c ∷ rest)
one_variable_is _ _ _ c (a_variable is) = variable_is is

nothing_is_nested : {A : Type 0} (xs : List A) (n : ℕ) → greatest (λ x. 0) xs ≤ n
nothing_is_nested [] n = omega arith
nothing_is_nested (x ∷ xs) n = omega (arith, nothing_is_nested xs n)

pub variables_is : {ts rest : List Token} {names : List Identifier} {c : Token} → IsVariables m.Semicolon ts names c rest →
    p.variables m.Semicolon ts ≡ Some ((names, c), rest)
variables_is {ts = ts} {names = names} d = separated_is AVariable variable (λ x. 0) 0 m.Semicolon refl refl
    (λ ts rest x c f e small. one_variable_is ts rest x c f) a_variable_shorter (length ts) [] (from_variables d) (omega arith)
    (nothing_is_nested names 0)

-- ---- with expressions

from_statics : {ts rest : List Token} {xs : List StaticVariable} {c : Token} → IsStaticVariables ts xs c rest →
    Separated AStatic m.Semicolon ts xs c rest
from_statics (g.statics_last is d mark) = last (a_static_variable is d) mark
from_statics (g.statics_more is d comma f) = more (a_static_variable is d) comma (from_statics f)

from_properties : {ts rest : List Token} {xs : List PropertyItem} {c : Token} → IsPropertyItems ts xs c rest →
    Separated AProperty m.Semicolon ts xs c rest
from_properties (g.properties_last is d mark) = last (a_property is d) mark
from_properties (g.properties_more is d comma f) = more (a_property is d) comma (from_properties f)

from_constants : {ts rest : List Token} {xs : List ConstantItem} {c : Token} → IsConstantItems ts xs c rest →
    Separated AConstant m.Semicolon ts xs c rest
from_constants (g.constants_last is set d mark) = last (a_constant is set d) mark
from_constants (g.constants_more is set d comma f) = more (a_constant is set d) comma (from_constants f)

static_shorter : (ts rest : List Token) (x : StaticVariable) → AStatic ts x rest → length rest ≤ length ts
static_shorter _ _ _ (a_static_variable is d) = omega (arith, initial_shorter d)

property_shorter : (ts rest : List Token) (x : PropertyItem) → AProperty ts x rest → length rest ≤ length ts
property_shorter _ _ _ (a_property is d) = omega (arith, initial_shorter d)

constant_shorter : (ts rest : List Token) (x : ConstantItem) → AConstant ts x rest → length rest ≤ length ts
constant_shorter _ _ _ (a_constant is set d) = omega (arith, expression_shorter d.is)

module _ (laws : Laws) (limit : ℕ) where
  pub level_is : {ts rest : List Token} {x : Expr} → IsExpression 1 ts x rest → Stops 1 rest → nesting x ≤ limit →
      parse limit (Level 1) ts ≡ Some (x, rest)
  level_is {ts = ts} {rest = rest} {x = x} d stops small =
      laws.of_expressions.level_complete limit 1 ts x rest (omega arith) (record { is = d; stops = stops }) small

  -- an expression and then a mark that binds nothing
  pub closed_is : (m : Mark) → binds (k.Mark m) ≡ 0 → {ts rest : List Token} {x : Expr} {c : Token} → IsExpression 1 ts x (c ∷ rest) →
      IsMark m c → nesting x ≤ limit → parse limit (Level 1) ts ≡ Some (x, c ∷ rest)
  closed_is m loose d is small = level_is d (ending_stops (ending m loose is)) small

  constant_is : {ts rest : List Token} {x : Expr} {c : Token} → IsConstant ts x (c ∷ rest) → Ending c → nesting x ≤ limit →
      p.constant (parse limit) ts ≡ Some (x, c ∷ rest)
  unfolding p.constant
  constant_is d e small = then_is _ (level_is d.is (ending_stops e) small) (if_true _ _ d.constant refl)

  initial_is : {at last : At} {ts rest : List Token} {v : Option Expr} {c : Token} → IsInitial at ts v last (c ∷ rest) → Ending c →
      maybe nesting v ≤ limit → p.initial (parse limit) at ts ≡ Some ((v, last), c ∷ rest)
  unfolding p.initial
  initial_is g.no_initial e small = if_false _ _ (ending_sets_nothing e) refl
  initial_is (g.initial is d) e small = if_true _ _ (ap is_set_kind is) (then_is _ (constant_is d e small) refl)

  static_variable_is : (ts rest : List Token) (x : StaticVariable) (c : Token) → AStatic ts x (c ∷ rest) → Ending c →
      maybe nesting x.value ≤ limit →
      p.static_variable (parse limit) ts ≡ Some (x, c ∷ rest)
  unfolding p.static_variable
  static_variable_is _ rest _ c (a_static_variable is d) e small = then_is _ (variable_is is) (then_is _ (initial_is d e small) refl)

  property_item_is : (ts rest : List Token) (x : PropertyItem) (c : Token) → AProperty ts x (c ∷ rest) → Ending c →
      maybe nesting x.value ≤ limit →
      p.property_item (parse limit) ts ≡ Some (x, c ∷ rest)
  unfolding p.property_item
  property_item_is _ rest _ c (a_property is d) e small = then_is _ (variable_is is) (then_is _ (initial_is d e small) refl)

  constant_item_is : (ts rest : List Token) (x : ConstantItem) (c : Token) → AConstant ts x (c ∷ rest) → Ending c →
      nesting x.value ≤ limit →
      p.constant_item (parse limit) ts ≡ Some (x, c ∷ rest)
  unfolding p.constant_item
  constant_item_is _ rest _ c (a_constant is set d) e small =
      then_is _ (name_is is) (then_is _ (kind_is is_set_kind set refl) (then_is _ (constant_is d e small) refl))

  pub statics_is : {ts rest : List Token} {xs : List StaticVariable} {c : Token} → IsStaticVariables ts xs c rest →
      greatest (λ v. maybe nesting v.value) xs ≤ limit →
      separated (p.static_variable (parse limit)) m.Semicolon ts ≡ Some ((xs, c), rest)
  statics_is {ts = ts} d small = separated_is AStatic (p.static_variable (parse limit)) (λ v. maybe nesting v.value) limit m.Semicolon
      refl refl
      static_variable_is static_shorter (length ts) [] (from_statics d) (omega arith) small

  pub properties_is : {ts rest : List Token} {xs : List PropertyItem} {c : Token} → IsPropertyItems ts xs c rest →
      greatest (λ v. maybe nesting v.value) xs ≤ limit →
      separated (p.property_item (parse limit)) m.Semicolon ts ≡ Some ((xs, c), rest)
  properties_is {ts = ts} d small = separated_is AProperty (p.property_item (parse limit)) (λ v. maybe nesting v.value) limit
      m.Semicolon refl refl
      property_item_is property_shorter (length ts) [] (from_properties d) (omega arith) small

  pub constants_is : {ts rest : List Token} {xs : List ConstantItem} {c : Token} → IsConstantItems ts xs c rest →
      greatest (λ v. nesting v.value) xs ≤ limit →
      separated (p.constant_item (parse limit)) m.Semicolon ts ≡ Some ((xs, c), rest)
  constants_is {ts = ts} d small = separated_is AConstant (p.constant_item (parse limit)) (λ v. nesting v.value) limit m.Semicolon refl refl
      constant_item_is constant_shorter (length ts) [] (from_constants d) (omega arith) small

  param_is : {ts rest : List Token} {x : Param} {c : Token} → IsParam ts x (c ∷ rest) → Ending c → param_nesting x ≤ limit →
      p.param (parse limit) ts ≡ Some (x, c ∷ rest)
  unfolding p.param p.param_from
  param_is (g.param d f is h) e small = then_is _ (maybe_type_is d (reference_past f is)) (then_is _ (maybe_reference_is f is)
      (then_is _ (variable_is is) (then_is _ (initial_is h e (omega arith)) refl)))

  param_opens : {ts rest : List Token} {x : Param} → IsParam ts x rest → sees m.CloseParen ts ≡ false
  param_opens (g.param g.no_type g.by_value is h) = ap (is_mark m.CloseParen) is
  param_opens (g.param g.no_type (g.by_reference e) is h) = ap (is_mark m.CloseParen) e
  param_opens (g.param (g.some_type (g.plain_type (g.types_last q))) f is h) = type_opens q
  param_opens (g.param (g.some_type (g.plain_type (g.types_more q o d))) f is h) = type_opens q
  param_opens (g.param (g.some_type (g.nullable_type q d)) f is h) = ap (is_mark m.CloseParen) q

  params_from_is : (n : ℕ) (found : List Param) {ts rest : List Token} {xs : List Param} → IsParams ts xs rest → length ts ≤ n →
      greatest param_nesting xs ≤ limit → p.params_from (parse limit) n found ts ≡ Some (found ++ xs, rest)
  unfolding p.params_from
  params_from_is zero found d short small = absurd (omega (arith, params_shorter d))
  params_from_is (suc n) found (g.params_end {rest = rest} mark) short small =
      if_true _ _ (mark_is m.CloseParen mark) (ap (λ xs. Some (xs, rest)) (sym (append-nil found)))
  params_from_is (suc n) found (g.params_last d mark) short small =
      if_false _ _ (param_opens d) (then_is _ (param_is d (ending m.CloseParen refl mark) (omega arith))
      (if_false _ _ (ap (is_mark m.Comma) mark) (then_is _ (expect_is mark) refl)))
  params_from_is (suc n) found (g.params_more {rest = rest} {x = x} {xs = xs} d comma f) short small =
      if_false _ _ (param_opens d) (then_is _ (param_is d (ending m.Comma refl comma) (omega arith))
      (if_true _ _ (mark_is m.Comma comma) (params_from_is n (found ++ x ∷ []) f (omega (arith, param_shorter d)) (omega arith)
      ∙ ap (λ xs. Some (xs, rest)) (append_assoc found (x ∷ []) xs))))

  pub params_is : {ts rest : List Token} {xs : List Param} → IsParams ts xs rest → greatest param_nesting xs ≤ limit →
      p.params (parse limit) ts ≡ Some (xs, rest)
  unfolding p.params
  params_is {ts = ts} d small = params_from_is (length ts) [] d (omega arith) small
