-- The parts of declarations: what the parser answers is in the grammar.
use Rattle.std.specs.Prelude.{◌≡◌, ℕ, zero, suc, Bool, true, false, List, [], ◌∷◌, ◌++◌, length, Option, Some, None, is_some, refl}
use Rattle.std.proofs.Common.{sym, subst}
use Rattle.hph_ast.specs.declared.token.At.{At}
use Rattle.hph_ast.specs.declared.token.Token.{Token}
use Rattle.hph_ast.specs.declared.token.Identifier.{Identifier}
use Rattle.hph_ast.specs.declared.token.Kind.{Kind}
use Rattle.hph_ast.specs.declared.token.Kind.TheVariants as k
use Rattle.hph_ast.specs.declared.token.Mark.{Mark}
use Rattle.hph_ast.specs.declared.token.Mark.TheVariants as m
use Rattle.hph_ast.specs.declared.keyword.Keyword.TheVariants as w
use Rattle.hph_ast.specs.declared.operator.Binary.TheVariants as b
use Rattle.hph_ast.specs.declared.operator.Assignment.TheVariants as a
use Rattle.hph_ast.specs.declared.expr.Expr.{Expr}
use Rattle.hph_ast.specs.declared.function.DeclaredType.{DeclaredType}
use Rattle.hph_ast.specs.declared.function.TypeName.{TypeName}
use Rattle.hph_ast.specs.declared.function.Param.{Param}
use Rattle.hph_ast.specs.declared.class.Modifiers.{Modifiers}
use Rattle.hph_ast.specs.declared.class.Access.{Access}
use Rattle.hph_ast.specs.declared.class.ConstantItem.{ConstantItem}
use Rattle.hph_ast.specs.declared.class.PropertyItem.{PropertyItem}
use Rattle.hph_ast.specs.declared.stmt.StaticVariable.{StaticVariable}
use Rattle.hph_ast.specs.Places.{on, span, identifier}
use Rattle.hph_ast.specs.Terminals.{IsMark}
use Rattle.hph_ast.specs.Expressions.{IsExpression}
use Rattle.hph_ast.specs.ConstantExpressions.{is_constant}
use Rattle.hph_ast.specs.Declarations as g
use Rattle.hph_ast.specs.Declarations.{IsConstant, IsVariables, IsInitial, IsStaticVariables, IsPropertyItems, IsConstantItems, IsTypeName, IsTypeNames, IsType, IsMaybeType, IsMaybeReference, IsParam, IsParams, IsResult, IsAccess, IsModifiers}
use Rattle.hph_fexpr.specs.declared.form.Form.{Form}
use Rattle.hph_fexpr.specs.declared.form.Form.TheVariants.{Level}
use Rattle.hph_cursor.specs.Steps.{Parser, choose, and_then, is_mark, pure, fail}
use Rattle.hph_cursor.specs.Next.{is_next, is_set_kind, is_ampersand}
use Rattle.hph_fstmt.specs.Words.{is_keyword, variable_by, variable}
use Rattle.hph_fstmt.specs.Repeats.{separated}
use Rattle.hph_fstmt.specs.Declarations as p
use Rattle.hph_fstmt.proofs.Tools.{Gives, none, some, then_ok, map_ok, choose_ok, if_ok, is_mark_true, sees_at, sees_with, next_at, expect_with, kind_at, name_at, variable_at, variable_with, More, no_more, one_more, all_more, Closed, closes_behind, one_closed, all_closed}
use Rattle.hph_fstmt.proofs.Keywords.{keyword_true}
use Rattle.hph_fstmt.proofs.Repeats.{Separated, last, more, separated_ok}

-- ---- tests of a kind

pub is_set_true : (kind : Kind) → is_set_kind kind ≡ true → kind ≡ k.Assign a.Set
is_set_true (k.Assign a.Set) h = refl
is_set_true _ h = absurd (cc)

pub is_ampersand_true : (kind : Kind) → is_ampersand kind ≡ true → kind ≡ k.Operator b.BitAnd
is_ampersand_true (k.Operator b.BitAnd) h = refl
is_ampersand_true _ h = absurd (cc)

is_bar_true : (kind : Kind) → p.is_bar kind ≡ true → kind ≡ k.Operator b.BitOr
is_bar_true (k.Operator b.BitOr) h = refl
is_bar_true _ h = absurd (cc)

absent : {A : Type 0} (o : Option A) → is_some o ≡ false → o ≡ None
absent None h = refl
absent (Some x) h = absurd (cc)

-- ---- types

type_name_at : {A : Type 0} (P : List Token → A → List Token → Type 0) (ts : List Token) (f : TypeName × Token → Parser A) →
    ((q : Token) (us : List Token) (found : TypeName) → IsTypeName q found → Gives (P (q ∷ us)) (f (found, q) us)) →
    Gives (P ts) (and_then (p.type_name ts) f)
unfolding p.type_name
type_name_at P [] f h = none
type_name_at {A} P (q ∷ us) f h = go q.kind refl
  where
    go : (kind : Kind) → q.kind ≡ kind →
        Gives (P (q ∷ us)) (and_then (choose (p.type_name_by q kind) (fail {A = TypeName × Token}) (λ found. pure (found, q)) us) f)
    go (k.Name spelled) e = h q us _ (g.named_type e)
    go (k.Keyword w.Array) e = h q us _ (g.array_type e)
    go (k.Keyword w.SelfClass) e = h q us _ (g.self_type e)
    go (k.Keyword w.Parent) e = h q us _ (g.parent_type e)
    go _ e = none

type_names_from_ok : (n : ℕ) (found : List TypeName) (ts : List Token) → Gives (Closed IsTypeNames found ts) (p.type_names_from n found ts)
unfolding p.type_names_from
type_names_from_ok zero found ts = none
type_names_from_ok (suc n) found ts = type_name_at (Closed IsTypeNames found) ts _ (λ q us x is.
    next_at (λ us. Closed IsTypeNames found (q ∷ us)) p.is_bar us
    (λ o vs bar. map_ok (type_names_from_ok n (found ++ x ∷ []) vs) (λ all rest r. one_closed r
    (λ xs c d. g.types_more is (is_bar_true o.kind bar) d)))
    (some (closes_behind x (g.types_last is))))

named_type_ok : (P : DeclaredType → List Token → Type 0) (at : At) (nullable : Bool) (ts : List Token) →
    ((names : List TypeName) (c : Token) (rest : List Token) → IsTypeNames ts names c rest →
    P (record { at = span at (on c); nullable = nullable; names = names }) rest) →
    Gives P (p.named_type at nullable ts)
unfolding p.named_type
named_type_ok P at nullable ts h = then_ok (type_names_from_ok (length ts) [] ts) (λ r rest d. some (h r.0 r.1 rest (all_closed d)))

pub declared_type_ok : (ts : List Token) → Gives (IsType ts) (p.declared_type ts)
unfolding p.declared_type
declared_type_ok [] = none
declared_type_ok (q ∷ us) = if_ok (is_mark m.Question q.kind)
    (λ e. named_type_ok (IsType (q ∷ us)) (on q) true us (λ names c rest d. g.nullable_type (is_mark_true m.Question q.kind e) d))
    (λ _. named_type_ok (IsType (q ∷ us)) (on q) false (q ∷ us) (λ names c rest d. g.plain_type d))

pub data Present : List Token → Option DeclaredType → List Token → Type 0 where
  present : {ts rest : List Token} {found : DeclaredType} → IsType ts found rest → Present ts (Some found) rest

some_type_ok : (ts : List Token) → Gives (Present ts) (p.some_type ts)
unfolding p.some_type
some_type_ok ts = then_ok (declared_type_ok ts) (λ found rest d. some (present d))

as_maybe : {ts rest : List Token} {found : Option DeclaredType} → Present ts found rest → IsMaybeType ts found rest
as_maybe (present d) = g.some_type d

as_result : {o : Token} {ts rest : List Token} {found : Option DeclaredType} → IsMark m.Colon o → Present ts found rest →
    IsResult (o ∷ ts) found rest
as_result colon (present d) = g.a_result colon d

pub maybe_type_ok : (ts : List Token) → Gives (IsMaybeType ts) (p.maybe_type ts)
unfolding p.maybe_type
maybe_type_ok ts = if_ok (is_next p.begins_type ts) (λ _. map_ok (some_type_ok ts) (λ found rest d. as_maybe d)) (λ _. some g.no_type)

pub result_type_ok : (ts : List Token) → Gives (IsResult ts) (p.result_type ts)
unfolding p.result_type
result_type_ok ts = sees_at IsResult m.Colon ts (λ o us colon. map_ok (some_type_ok us) (λ found rest d. as_result colon d))
    (λ _. some g.no_result)

pub maybe_reference_ok : (ts : List Token) → Gives (IsMaybeReference ts) (p.maybe_reference ts)
unfolding p.maybe_reference
maybe_reference_ok ts = next_at IsMaybeReference is_ampersand ts
    (λ q us e. some (g.by_reference (is_ampersand_true q.kind e))) (some g.by_value)

-- ---- modifiers

access_ok : (t : Token) (kind : Kind) (who : Access) → t.kind ≡ kind → p.access_of kind ≡ Some who → IsAccess t who
access_ok t (k.Keyword w.Public) who is h = let e : who ≡ _ = sym (cc) in subst (IsAccess t) (sym e) (g.public is)
access_ok t (k.Keyword w.Protected) who is h = let e : who ≡ _ = sym (cc) in subst (IsAccess t) (sym e) (g.protected is)
access_ok t (k.Keyword w.Private) who is h = let e : who ≡ _ = sym (cc) in subst (IsAccess t) (sym e) (g.private is)
access_ok t (k.Keyword w.Var) who is h = let e : who ≡ _ = sym (cc) in subst (IsAccess t) (sym e) (g.var is)
access_ok t _ who is h = absurd (cc)

pub modifiers_ok : (mods : Modifiers) (ts : List Token) → Gives (IsModifiers mods ts) (p.modifiers mods ts)
unfolding p.modifiers
modifiers_ok mods [] = some g.modifiers_end
modifiers_ok mods (t ∷ ts) = choose_ok (p.access_of t.kind)
    (λ _. if_ok (is_keyword w.Static t.kind)
    (λ e. if_ok mods.is_static (λ _. none) (λ off. map_ok (modifiers_ok (record { access = mods.access; is_static = true }) ts)
    (λ last rest d. g.a_static (keyword_true w.Static t.kind e) off d)))
    (λ _. some g.modifiers_end))
    (λ who e. if_ok (is_some mods.access) (λ _. none) (λ off. map_ok (modifiers_ok (record {
      access = Some who;
      is_static =
          mods.is_static;
    }) ts)
    (λ last rest d. g.an_access (access_ok t t.kind who refl e) (absent mods.access off) d)))

-- ---- lists of variables

pub data AVariable : List Token → Identifier → List Token → Type 0 where
  a_variable : {rest : List Token} {t : Token} {spelled : List ℕ} → t.kind ≡ k.Variable spelled →
      AVariable (t ∷ rest) (identifier t spelled) rest

variable_ok : (ts : List Token) → Gives (AVariable ts) (variable ts)
unfolding variable
variable_ok [] = none
variable_ok (t ∷ ts) = go t.kind refl
  where
    go : (kind : Kind) → t.kind ≡ kind → Gives (AVariable (t ∷ ts)) (variable_by t kind ts)
    go (k.Variable spelled) e = some (a_variable e)
    go _ e = none

as_variables : {closing : Mark} {ts rest : List Token} {names : List Identifier} {c : Token} → Separated AVariable closing ts names c rest →
    IsVariables closing ts names c rest
as_variables (last (a_variable is) mark) = g.variables_last is mark
as_variables (more (a_variable is) comma d) = g.variables_more is comma (as_variables d)

pub variables_ok : (closing : Mark) (ts : List Token) → Gives (λ r. IsVariables closing ts r.0 r.1) (p.variables closing ts)
variables_ok closing ts = map_ok (separated_ok AVariable variable variable_ok closing ts) (λ r rest d. as_variables d)

-- ---- with expressions

pub data AStatic : List Token → StaticVariable → List Token → Type 0 where
  a_static_variable : {ts rest : List Token} {t : Token} {spelled : List ℕ} {value : Option Expr} {last : At} →
      t.kind ≡ k.Variable spelled → IsInitial (on t) ts value last rest →
      AStatic (t ∷ ts) (record { name = identifier t spelled; value = value }) rest

pub data AProperty : List Token → PropertyItem → List Token → Type 0 where
  a_property : {ts rest : List Token} {t : Token} {spelled : List ℕ} {value : Option Expr} {last : At} →
      t.kind ≡ k.Variable spelled → IsInitial (on t) ts value last rest →
      AProperty (t ∷ ts) (record { name = identifier t spelled; value = value }) rest

pub data AConstant : List Token → ConstantItem → List Token → Type 0 where
  a_constant : {ts rest : List Token} {t q : Token} {spelled : List ℕ} {x : Expr} →
      t.kind ≡ k.Name spelled → q.kind ≡ k.Assign a.Set → IsConstant ts x rest →
      AConstant (t ∷ q ∷ ts) (record { name = identifier t spelled; value = x }) rest

pub as_statics : {ts rest : List Token} {xs : List StaticVariable} {c : Token} → Separated AStatic m.Semicolon ts xs c rest →
    IsStaticVariables ts xs c rest
as_statics (last (a_static_variable is d) mark) = g.statics_last is d mark
as_statics (more (a_static_variable is d) comma f) = g.statics_more is d comma (as_statics f)

pub as_properties : {ts rest : List Token} {xs : List PropertyItem} {c : Token} → Separated AProperty m.Semicolon ts xs c rest →
    IsPropertyItems ts xs c rest
as_properties (last (a_property is d) mark) = g.properties_last is d mark
as_properties (more (a_property is d) comma f) = g.properties_more is d comma (as_properties f)

pub as_constants : {ts rest : List Token} {xs : List ConstantItem} {c : Token} → Separated AConstant m.Semicolon ts xs c rest →
    IsConstantItems ts xs c rest
as_constants (last (a_constant is set d) mark) = g.constants_last is set d mark
as_constants (more (a_constant is set d) comma f) = g.constants_more is set d comma (as_constants f)

abbrev pub SoundLevel : (Form → Parser Expr) → Type 0
SoundLevel below = (ts : List Token) → Gives (IsExpression 1 ts) (below (Level 1) ts)

module _ (below : Form → Parser Expr) (ok : SoundLevel below) where
  constant_ok : (ts : List Token) → Gives (IsConstant ts) (p.constant below ts)
  unfolding p.constant
  constant_ok ts = then_ok (ok ts) (λ x rest d. if_ok (is_constant x) (λ e. some (record { is = d; constant = e })) (λ _. none))

  pub initial_ok : (at : At) (ts : List Token) → Gives (λ r. IsInitial at ts r.0 r.1) (p.initial below at ts)
  unfolding p.initial
  initial_ok at ts = next_at (λ ts r. IsInitial at ts r.0 r.1) is_set_kind ts
      (λ t us e. then_ok (constant_ok us) (λ x rest d. some (g.initial (is_set_true t.kind e) d))) (some g.no_initial)

  static_variable_ok : (ts : List Token) → Gives (AStatic ts) (p.static_variable below ts)
  unfolding p.static_variable
  static_variable_ok ts = variable_at AStatic ts _ (λ t us spelled is. then_ok (initial_ok (on t) us)
      (λ r rest d. some (a_static_variable is d)))

  property_item_ok : (ts : List Token) → Gives (AProperty ts) (p.property_item below ts)
  unfolding p.property_item
  property_item_ok ts = variable_at AProperty ts _ (λ t us spelled is. then_ok (initial_ok (on t) us) (λ r rest d. some (a_property is d)))

  constant_item_ok : (ts : List Token) → Gives (AConstant ts) (p.constant_item below ts)
  unfolding p.constant_item
  constant_item_ok ts = name_at AConstant ts _ (λ t us spelled is. kind_at (λ us. AConstant (t ∷ us)) is_set_kind us
      (λ q vs e. then_ok (constant_ok vs) (λ x rest d. some (a_constant is (is_set_true q.kind e) d))))

  pub statics_ok : (ts : List Token) → Gives (λ r. IsStaticVariables ts r.0 r.1) (separated (p.static_variable below) m.Semicolon ts)
  statics_ok ts = map_ok (separated_ok AStatic (p.static_variable below) static_variable_ok m.Semicolon ts) (λ r rest d. as_statics d)

  pub properties_ok : (ts : List Token) → Gives (λ r. IsPropertyItems ts r.0 r.1) (separated (p.property_item below) m.Semicolon ts)
  properties_ok ts = map_ok (separated_ok AProperty (p.property_item below) property_item_ok m.Semicolon ts) (λ r rest d. as_properties d)

  pub constants_ok : (ts : List Token) → Gives (λ r. IsConstantItems ts r.0 r.1) (separated (p.constant_item below) m.Semicolon ts)
  constants_ok ts = map_ok (separated_ok AConstant (p.constant_item below) constant_item_ok m.Semicolon ts) (λ r rest d. as_constants d)

  param_ok : (ts : List Token) → Gives (IsParam ts) (p.param below ts)
  unfolding p.param p.param_from
  param_ok [] = none
  param_ok (o ∷ us) = then_ok (maybe_type_ok (o ∷ us)) (λ found mid d. then_ok (maybe_reference_ok mid) (λ by vs f.
      variable_with (IsMaybeReference mid by) vs _ f (λ q after spelled is f. then_ok (initial_ok (on q) after)
      (λ r rest e. some (g.param d f is e)))))

  params_from_ok : (n : ℕ) (found : List Param) (ts : List Token) → Gives (More IsParams found ts) (p.params_from below n found ts)
  unfolding p.params_from
  params_from_ok zero found ts = none
  params_from_ok (suc n) found ts = sees_at (More IsParams found) m.CloseParen ts
      (λ c us mark. some (no_more (g.params_end mark)))
      (λ _. then_ok (param_ok ts) (λ x us d. sees_with (IsParam ts x) m.Comma us d
      (λ t vs comma d. map_ok (params_from_ok n (found ++ x ∷ []) vs) (λ all rest r. one_more r (λ xs a. g.params_more d comma a)))
      (λ _. expect_with (IsParam ts x) m.CloseParen us d (λ c rest mark d. some (record {
        xs = x ∷ [];
        is_all = refl;
        is = g.params_last
            d mark;
      })))))

  pub params_ok : (ts : List Token) → Gives (IsParams ts) (p.params below ts)
  unfolding p.params
  params_ok ts = map_ok (params_from_ok (length ts) [] ts) (λ all rest r. all_more r)
