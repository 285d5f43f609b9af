-- Functions and classes: what is in the grammar is what the parser answers.
use Rattle.std.specs.Prelude.{◌≡◌, ℕ, suc, ◌≤◌, true, false, max, List, [], ◌∷◌, length, Option, Some, None, refl}
use Rattle.std.proofs.Common.{ap, ◌∙◌, arith}
use denote.Hole.Carrier.{out}
use Rattle.hph_ast.specs.declared.token.At.{At}
use Rattle.hph_ast.specs.declared.token.Token.{Token}
use Rattle.hph_ast.specs.declared.token.Identifier.{Identifier}
use Rattle.hph_ast.specs.declared.token.Kind.{Kind}
use Rattle.hph_ast.specs.declared.token.Kind.TheVariants as k
use Rattle.hph_ast.specs.declared.token.Mark.TheVariants as m
use Rattle.hph_ast.specs.declared.keyword.Keyword.TheVariants as w
use Rattle.hph_ast.specs.declared.function.DeclaredType.{DeclaredType}
use Rattle.hph_ast.specs.declared.function.TypeName.{TypeName}
use Rattle.hph_ast.specs.declared.function.Param.{Param}
use Rattle.hph_ast.specs.declared.function.Function.{Function, roll-Function}
use Rattle.hph_ast.specs.declared.class.Class.{Class, roll-Class}
use Rattle.hph_ast.specs.declared.class.Member.{Member}
use Rattle.hph_ast.specs.declared.class.Member.TheVariants as member
use Rattle.hph_ast.specs.declared.class.Modifiers.{Modifiers}
use Rattle.hph_ast.specs.declared.class.PropertyItem.{PropertyItem}
use Rattle.hph_ast.specs.declared.stmt.Statement.{Statement}
use Rattle.hph_ast.specs.Nesting.{greatest}
use Rattle.hph_ast.specs.StatementNesting.{maybe, type_nesting, param_nesting, statement_nesting, member_nesting, function_nesting, class_nesting}
use Rattle.hph_ast.specs.Places.{on, span, identifier}
use Rattle.hph_ast.specs.Terminals.{IsMark}
use Rattle.hph_ast.specs.Declarations as d
use Rattle.hph_ast.specs.Declarations.{no_modifiers, has_modifier, IsAccess, IsModifiers, IsMaybeType, IsType, IsTypeNames, IsTypeName, IsPropertyItems}
use Rattle.hph_ast.specs.Statements as g
use Rattle.hph_ast.specs.Statements.{function_place, IsFunction, IsClassDeclaration, IsMember, IsMembers}
use Rattle.hph_fexpr.specs.Parser.{parse}
use Rattle.hph_cursor.specs.Steps.{Parser, is_mark, sees}
use Rattle.hph_fstmt.specs.Laws.{Laws}
use Rattle.hph_fstmt.specs.Words.{is_keyword, sees_keyword}
use Rattle.hph_fstmt.specs.Repeats.{at_end, many}
use Rattle.hph_fstmt.specs.Declarations as q
use Rattle.hph_fstmt.specs.Statements as p
use Rattle.hph_fstmt.proofs.Tools.{then_is, if_true, if_false, mark_is, expect_is}
use Rattle.hph_fstmt.proofs.Keywords.{keyword_is, name_is}
use Rattle.hph_fstmt.proofs.Repeats.{Many, many_end, many_more, many_is}
use Rattle.hph_fstmt.proofs.Shorter.{member_shorter}
use Rattle.hph_fstmt.proofs.DeclarationsComplete.{PastModifiers, past_modifiers, PastType, past_type, modifiers_is, maybe_type_is, result_type_is, params_is, constants_is, properties_is}
use Rattle.hph_fstmt.proofs.StatementsComplete.{CompleteStatement, statements_is, extends_is}

-- ---- how deep they are nested

function_nests : (laws : Laws) (at : At) (name : Identifier) (params : List Param) (result : Option DeclaredType) (body : List Statement) →
    function_nesting (roll-Function (record { at = at; name = name; params = params; result = result; body = body }))
    ≡ suc (max (greatest param_nesting params) (max (maybe type_nesting result) (greatest statement_nesting body)))
unfolding out
function_nests laws at name params result body =
    laws.of_nesting.function (roll-Function (record { at = at; name = name; params = params; result = result; body = body }))

class_nests : (laws : Laws) (at : At) (name : Identifier) (parent : Option Identifier) (members : List Member) →
    class_nesting (roll-Class (record { at = at; name = name; parent = parent; members = members })) ≡ suc (greatest member_nesting members)
unfolding out
class_nests laws at name parent members = laws.of_nesting.class (roll-Class (record {
  at = at;
  name = name;
  parent = parent;
  members =
      members;
}))

-- ---- what stands behind the modifiers of properties

record Property (ts : List Token) : Type 0 where
  past : PastModifiers ts
  no_const : sees_keyword w.Const ts ≡ false
  no_function : sees_keyword w.Function ts ≡ false
  no_brace : sees m.CloseBrace ts ≡ false

by_kind : {t : Token} {ts : List Token} (kind : Kind) → t.kind ≡ kind → q.access_of kind ≡ None → is_keyword w.Static kind ≡ false →
    is_keyword w.Const kind ≡ false → is_keyword w.Function kind ≡ false → is_mark m.CloseBrace kind ≡ false → Property (t ∷ ts)
by_kind kind is a b c e f = record {
  past = past_modifiers kind is a b;
  no_const = ap (is_keyword w.Const) is ∙ c;
  no_function = ap (is_keyword w.Function) is ∙ e;
  no_brace = ap (is_mark m.CloseBrace) is ∙ f;
}

type_name_property : {t : Token} {ts : List Token} {x : TypeName} → IsTypeName t x → Property (t ∷ ts)
type_name_property (d.named_type {name = name} is) = by_kind (k.Name name) is refl refl refl refl refl
type_name_property (d.array_type is) = by_kind (k.Keyword w.Array) is refl refl refl refl refl
type_name_property (d.self_type is) = by_kind (k.Keyword w.SelfClass) is refl refl refl refl refl
type_name_property (d.parent_type is) = by_kind (k.Keyword w.Parent) is refl refl refl refl refl

type_names_property : {ts rest : List Token} {xs : List TypeName} {c : Token} → IsTypeNames ts xs c rest → Property ts
type_names_property (d.types_last is) = type_name_property is
type_names_property (d.types_more is o f) = type_name_property is

type_property : {ts rest : List Token} {x : DeclaredType} → IsType ts x rest → Property ts
type_property (d.plain_type f) = type_names_property f
type_property (d.nullable_type is f) = by_kind (k.Mark m.Question) is refl refl refl refl refl

items_property : {ts rest : List Token} {xs : List PropertyItem} {c : Token} → IsPropertyItems ts xs c rest → Property ts
items_property (d.properties_last {name = name} is f c) = by_kind (k.Variable name) is refl refl refl refl refl
items_property (d.properties_more {name = name} is f c h) = by_kind (k.Variable name) is refl refl refl refl refl

items_past_type : {ts rest : List Token} {xs : List PropertyItem} {c : Token} → IsPropertyItems ts xs c rest → PastType ts
items_past_type (d.properties_last {name = name} is f c) = past_type (k.Variable name) is refl refl
items_past_type (d.properties_more {name = name} is f c h) = past_type (k.Variable name) is refl refl

property : {ts mid rest : List Token} {x : Option DeclaredType} {xs : List PropertyItem} {c : Token} → IsMaybeType ts x mid →
    IsPropertyItems mid xs c rest → Property ts
property d.no_type f = items_property f
property (d.some_type h) f = type_property h

-- ---- members

access_no_brace : {t : Token} {who : _} → IsAccess t who → is_mark m.CloseBrace t.kind ≡ false
access_no_brace (d.public is) = ap (is_mark m.CloseBrace) is
access_no_brace (d.protected is) = ap (is_mark m.CloseBrace) is
access_no_brace (d.private is) = ap (is_mark m.CloseBrace) is
access_no_brace (d.var is) = ap (is_mark m.CloseBrace) is

modifiers_no_brace : {mods last : Modifiers} {ts rest : List Token} → IsModifiers mods ts last rest → sees m.CloseBrace rest ≡ false →
    sees m.CloseBrace ts ≡ false
modifiers_no_brace d.modifiers_end h = h
modifiers_no_brace (d.an_access is absent f) h = access_no_brace is
modifiers_no_brace (d.a_static is off f) h = ap (is_mark m.CloseBrace) is

function_no_brace : {ts rest : List Token} {f : Function} → IsFunction ts f rest → sees m.CloseBrace ts ≡ false
function_no_brace (g.a_function is name o ps r b body c) = ap (is_mark m.CloseBrace) is

function_past : {ts rest : List Token} {f : Function} → IsFunction ts f rest → PastModifiers ts
function_past (g.a_function is name o ps r b body c) = past_modifiers (k.Keyword w.Function) is refl refl

function_is_no_const : {ts rest : List Token} {f : Function} → IsFunction ts f rest → sees_keyword w.Const ts ≡ false
function_is_no_const (g.a_function is name o ps r b body c) = ap (is_keyword w.Const) is

function_is_seen : {ts rest : List Token} {f : Function} → IsFunction ts f rest → sees_keyword w.Function ts ≡ true
function_is_seen (g.a_function is name o ps r b body c) = keyword_is w.Function is

member_begins : (ts rest : List Token) (x : Member) → IsMember ts x rest → at_end (is_mark m.CloseBrace) ts ≡ false
member_begins _ _ _ (g.constants f off is h) = modifiers_no_brace f (ap (is_mark m.CloseBrace) is)
member_begins _ _ _ (g.properties f marked h i) = modifiers_no_brace f (property h i).no_brace
member_begins _ _ _ (g.method f h) = modifiers_no_brace f (function_no_brace h)

from_members : {ts rest : List Token} {xs : List Member} {c : Token} → IsMembers ts xs (c ∷ rest) → IsMark m.CloseBrace c →
    Many (is_mark m.CloseBrace) IsMember ts xs (c ∷ rest)
from_members g.members_end mark = many_end (mark_is m.CloseBrace mark)
from_members (g.members_more f h) mark = many_more f (from_members h mark)

module _ (laws : Laws) (limit depth : ℕ) (fits : depth ≤ limit) (nested : Parser Statement) (all : CompleteStatement depth nested) where
  pub function_is : {t : Token} {ts rest : List Token} {f : Function} → IsFunction (t ∷ ts) f rest → function_nesting f ≤ suc depth →
      p.function_from (parse limit) nested t ts ≡ Some (f, rest)
  unfolding p.function_from p.function_body
  function_is (g.a_function {t = t} {q = v} {c = c} {name = name} {params = ps} {result = result} {body = body} is named paren d1 d2
      brace d3 mark) small =
      let n = function_nests laws (span (on t) (on c)) (identifier v name) ps result body in
      then_is _ (name_is named) (then_is _ (expect_is paren) (then_is _ (params_is laws limit d1 (omega arith))
      (then_is _ (result_type_is d2 brace)
      (then_is _ (expect_is brace) (then_is _ (statements_is laws limit depth fits nested all d3 mark (omega arith))
      (then_is _ (expect_is mark) refl))))))

  method_is : (at : At) (mods : Modifiers) {ts rest : List Token} {f : Function} → IsFunction ts f rest → function_nesting f ≤ suc depth →
      p.method (parse limit) nested at mods ts ≡ Some (member.Method (span at (function_place f)) mods f, rest)
  unfolding p.method
  method_is at mods {ts = []} d small = elim d [ ]
  method_is at mods {ts = t ∷ ts} d small = then_is _ (function_is d small) refl

  member_is : (ts rest : List Token) (x : Member) → IsMember ts x rest → member_nesting x ≤ suc depth →
      p.class_member (parse limit) nested ts ≡ Some (x, rest)
  unfolding p.class_member p.member_from p.member_of p.class_constants p.properties
  member_is _ rest _ (g.constants {t = t} {c = c} {mods = mods} {items = items} d1 off is d2) small =
      let n = laws.of_nesting.class_constants (span (on t) (on c)) mods items in
      then_is _ (modifiers_is d1 (past_modifiers (k.Keyword w.Const) is refl refl)) (if_true _ _ (keyword_is w.Const is)
      (if_false _ _ off (then_is _ (constants_is laws limit d2 (omega arith)) refl)))
  member_is _ rest _ (g.properties {t = t} {c = c} {mods = mods} {ty = ty} {items = items} d1 marked d2 d3) small =
      let n = laws.of_nesting.properties (span (on t) (on c)) mods ty items in
      let b = property d2 d3 in
      then_is _ (modifiers_is d1 b.past) (if_false _ _ b.no_const (if_false _ _ b.no_function (if_true _ _ marked
      (then_is _ (maybe_type_is d2 (items_past_type d3)) (then_is _ (properties_is laws limit d3 (omega arith)) refl)))))
  member_is _ rest _ (g.method {t = t} {mods = mods} {f = f} d1 d2) small =
      let n = laws.of_nesting.method (span (on t) (function_place f)) mods f in
      then_is _ (modifiers_is d1 (function_past d2)) (if_false _ _ (function_is_no_const d2) (if_true _ _ (function_is_seen d2)
      (method_is (on t) mods d2 (omega arith))))

  members_is : {ts rest : List Token} {xs : List Member} {c : Token} → IsMembers ts xs (c ∷ rest) → IsMark m.CloseBrace c →
      greatest member_nesting xs ≤ suc depth → many (is_mark m.CloseBrace) (p.class_member (parse limit) nested) ts ≡ Some (xs, c ∷ rest)
  members_is {ts = ts} d mark small = many_is IsMember (p.class_member (parse limit) nested) member_nesting (suc depth)
      (is_mark m.CloseBrace)
      member_is member_begins (λ ts rest x f. member_shorter f) (length ts) [] (from_members d mark) (omega arith) small

  pub class_is : {t : Token} {ts rest : List Token} {x : Class} → IsClassDeclaration (t ∷ ts) x rest → class_nesting x ≤ suc depth →
      p.class_from (parse limit) nested t ts ≡ Some (x, rest)
  unfolding p.class_from p.class_body
  class_is (g.a_class {t = t} {q = v} {c = c} {name = name} {parent = parent} {members = members} is named d1 brace d2 mark) small =
      let n = class_nests laws (span (on t) (on c)) (identifier v name) parent members in
      then_is _ (name_is named) (then_is _ (extends_is d1 brace) (then_is _ (expect_is brace) (then_is _ (members_is d2 mark (omega arith))
      (then_is _ (expect_is mark) refl))))
