-- The parts of declarations: types, parameters, modifiers and lists of names. PHP manual, Functions and Classes and Objects.
use Rattle.std.specs.Prelude.{◌≡◌, ℕ, Bool, true, false, ◌||◌, List, [], ◌∷◌, Option, Some, None, is_some}
use Rattle.hph_ast.specs.declared.token.At.{At}
use Rattle.hph_ast.specs.declared.token.Token.{Token}
use Rattle.hph_ast.specs.declared.token.Identifier.{Identifier}
use Rattle.hph_ast.specs.declared.token.Kind.TheVariants as k
use Rattle.hph_ast.specs.declared.token.Mark.{Mark}
use Rattle.hph_ast.specs.declared.token.Mark.TheVariants as m
use Rattle.hph_ast.specs.declared.keyword.Keyword.TheVariants as w
use Rattle.hph_ast.specs.declared.operator.Binary.TheVariants as b
use Rattle.hph_ast.specs.declared.operator.Assignment.TheVariants as a
use Rattle.hph_ast.specs.declared.expr.Expr.{Expr}
use Rattle.hph_ast.specs.declared.function.DeclaredType.{DeclaredType}
use Rattle.hph_ast.specs.declared.function.TypeName.{TypeName}
use Rattle.hph_ast.specs.declared.function.TypeName.TheVariants as t
use Rattle.hph_ast.specs.declared.function.Param.{Param}
use Rattle.hph_ast.specs.declared.class.Modifiers.{Modifiers}
use Rattle.hph_ast.specs.declared.class.Access.{Access}
use Rattle.hph_ast.specs.declared.class.Access.TheVariants as access
use Rattle.hph_ast.specs.declared.class.ConstantItem.{ConstantItem}
use Rattle.hph_ast.specs.declared.class.PropertyItem.{PropertyItem}
use Rattle.hph_ast.specs.declared.stmt.StaticVariable.{StaticVariable}
use Rattle.hph_ast.specs.Terminals.{IsMark, IsKeyword}
use Rattle.hph_ast.specs.Places.{place, on, span, identifier}
use Rattle.hph_ast.specs.Expressions.{IsExpression}
use Rattle.hph_ast.specs.ConstantExpressions.{is_constant}

-- cexpr
pub record IsConstant (ts : List Token) (x : Expr) (rest : List Token) : Type 0 where
  pub is : IsExpression 1 ts x rest
  pub constant : is_constant x ≡ true

-- VAR {"," VAR} and the token that closes, of this mark
pub data IsVariables (closing : Mark) : List Token → List Identifier → Token → List Token → Type 0 where
  variables_last : {rest : List Token} {t c : Token} {name : List ℕ} →
      t.kind ≡ k.Variable name → IsMark closing c → IsVariables closing (t ∷ c ∷ rest) (identifier t name ∷ []) c rest
  variables_more : {ts rest : List Token} {t q c : Token} {name : List ℕ} {names : List Identifier} →
      t.kind ≡ k.Variable name → IsMark m.Comma q → IsVariables closing ts names c rest → IsVariables closing (t ∷ q ∷ ts) (identifier t name ∷ names) c rest

-- ["=" cexpr], and where it ends, or where what is before it ends
pub data IsInitial : At → List Token → Option Expr → At → List Token → Type 0 where
  no_initial : {at : At} {ts : List Token} → IsInitial at ts None at ts
  initial : {at : At} {ts rest : List Token} {t : Token} {x : Expr} →
      t.kind ≡ k.Assign a.Set → IsConstant ts x rest → IsInitial at (t ∷ ts) (Some x) (place x) rest

-- VAR ["=" cexpr] {"," ..} ";"
pub data IsStaticVariables : List Token → List StaticVariable → Token → List Token → Type 0 where
  statics_last : {ts rest : List Token} {t c : Token} {name : List ℕ} {value : Option Expr} {last : At} →
      t.kind ≡ k.Variable name → IsInitial (on t) ts value last (c ∷ rest) → IsMark m.Semicolon c →
      IsStaticVariables (t ∷ ts) (record { name = identifier t name; value = value } ∷ []) c rest
  statics_more : {ts mid rest : List Token} {t q c : Token} {name : List ℕ} {value : Option Expr} {last : At} {more : List StaticVariable} →
      t.kind ≡ k.Variable name → IsInitial (on t) ts value last (q ∷ mid) → IsMark m.Comma q → IsStaticVariables mid more c rest →
      IsStaticVariables (t ∷ ts) (record { name = identifier t name; value = value } ∷ more) c rest

-- the same for the properties of a class
pub data IsPropertyItems : List Token → List PropertyItem → Token → List Token → Type 0 where
  properties_last : {ts rest : List Token} {t c : Token} {name : List ℕ} {value : Option Expr} {last : At} →
      t.kind ≡ k.Variable name → IsInitial (on t) ts value last (c ∷ rest) → IsMark m.Semicolon c →
      IsPropertyItems (t ∷ ts) (record { name = identifier t name; value = value } ∷ []) c rest
  properties_more : {ts mid rest : List Token} {t q c : Token} {name : List ℕ} {value : Option Expr} {last : At} {more : List PropertyItem} →
      t.kind ≡ k.Variable name → IsInitial (on t) ts value last (q ∷ mid) → IsMark m.Comma q → IsPropertyItems mid more c rest →
      IsPropertyItems (t ∷ ts) (record { name = identifier t name; value = value } ∷ more) c rest

-- NAME "=" cexpr {"," NAME "=" cexpr} ";"
pub data IsConstantItems : List Token → List ConstantItem → Token → List Token → Type 0 where
  constants_last : {ts rest : List Token} {t q c : Token} {name : List ℕ} {x : Expr} →
      t.kind ≡ k.Name name → q.kind ≡ k.Assign a.Set → IsConstant ts x (c ∷ rest) → IsMark m.Semicolon c →
      IsConstantItems (t ∷ q ∷ ts) (record { name = identifier t name; value = x } ∷ []) c rest
  constants_more : {ts mid rest : List Token} {t q o c : Token} {name : List ℕ} {x : Expr} {more : List ConstantItem} →
      t.kind ≡ k.Name name → q.kind ≡ k.Assign a.Set → IsConstant ts x (o ∷ mid) → IsMark m.Comma o → IsConstantItems mid more c rest →
      IsConstantItems (t ∷ q ∷ ts) (record { name = identifier t name; value = x } ∷ more) c rest

-- ---- types and parameters

-- tname = NAME | "array" | "self" | "parent"
pub data IsTypeName : Token → TypeName → Type 0 where
  named_type : {q : Token} {name : List ℕ} → q.kind ≡ k.Name name → IsTypeName q (t.Named (identifier q name))
  array_type : {q : Token} → IsKeyword w.Array q → IsTypeName q (t.Array q.start)
  self_type : {q : Token} → IsKeyword w.SelfClass q → IsTypeName q (t.SelfClass q.start)
  parent_type : {q : Token} → IsKeyword w.Parent q → IsTypeName q (t.Parent q.start)

-- tname {"|" tname}, and its last token
pub data IsTypeNames : List Token → List TypeName → Token → List Token → Type 0 where
  types_last : {rest : List Token} {q : Token} {name : TypeName} → IsTypeName q name → IsTypeNames (q ∷ rest) (name ∷ []) q rest
  types_more : {ts rest : List Token} {q o c : Token} {name : TypeName} {names : List TypeName} →
      IsTypeName q name → o.kind ≡ k.Operator b.BitOr → IsTypeNames ts names c rest → IsTypeNames (q ∷ o ∷ ts) (name ∷ names) c rest

-- type = ["?"] tname {"|" tname}
pub data IsType : List Token → DeclaredType → List Token → Type 0 where
  plain_type : {ts rest : List Token} {q c : Token} {names : List TypeName} →
      IsTypeNames (q ∷ ts) names c rest → IsType (q ∷ ts) (record { at = span (on q) (on c); nullable = false; names = names }) rest
  nullable_type : {ts rest : List Token} {q c : Token} {names : List TypeName} →
      IsMark m.Question q → IsTypeNames ts names c rest → IsType (q ∷ ts) (record { at = span (on q) (on c); nullable = true; names = names }) rest

pub data IsMaybeType : List Token → Option DeclaredType → List Token → Type 0 where
  no_type : {ts : List Token} → IsMaybeType ts None ts
  some_type : {ts rest : List Token} {ty : DeclaredType} → IsType ts ty rest → IsMaybeType ts (Some ty) rest

-- ["&"]
pub data IsMaybeReference : List Token → Bool → List Token → Type 0 where
  by_value : {ts : List Token} → IsMaybeReference ts false ts
  by_reference : {rest : List Token} {q : Token} → q.kind ≡ k.Operator b.BitAnd → IsMaybeReference (q ∷ rest) true rest

-- param = [type] ["&"] VAR ["=" cexpr]
pub data IsParam : List Token → Param → List Token → Type 0 where
  param : {ts mid after rest : List Token} {o q : Token} {ty : Option DeclaredType} {reference : Bool} {name : List ℕ} {value : Option Expr} {last : At} →
      IsMaybeType (o ∷ ts) ty mid → IsMaybeReference mid reference (q ∷ after) → q.kind ≡ k.Variable name → IsInitial (on q) after value last rest →
      IsParam (o ∷ ts) (record { at = span (on o) last; ty = ty; by_reference = reference; name = identifier q name; default = value }) rest

-- behind "(": [param {"," param} [","]] ")"
pub data IsParams : List Token → List Param → List Token → Type 0 where
  params_end : {rest : List Token} {c : Token} → IsMark m.CloseParen c → IsParams (c ∷ rest) [] rest
  params_last : {ts rest : List Token} {c : Token} {x : Param} → IsParam ts x (c ∷ rest) → IsMark m.CloseParen c → IsParams ts (x ∷ []) rest
  params_more : {ts mid rest : List Token} {o : Token} {x : Param} {xs : List Param} →
      IsParam ts x (o ∷ mid) → IsMark m.Comma o → IsParams mid xs rest → IsParams ts (x ∷ xs) rest

-- [":" type]
pub data IsResult : List Token → Option DeclaredType → List Token → Type 0 where
  no_result : {ts : List Token} → IsResult ts None ts
  a_result : {ts rest : List Token} {o : Token} {ty : DeclaredType} → IsMark m.Colon o → IsType ts ty rest → IsResult (o ∷ ts) (Some ty) rest

-- ---- modifiers

-- mod = "public" | "protected" | "private" | "static" | "var"
pub data IsAccess : Token → Access → Type 0 where
  public : {o : Token} → IsKeyword w.Public o → IsAccess o access.Public
  protected : {o : Token} → IsKeyword w.Protected o → IsAccess o access.Protected
  private : {o : Token} → IsKeyword w.Private o → IsAccess o access.Private
  var : {o : Token} → IsKeyword w.Var o → IsAccess o access.Var

-- {mod} behind these: at most one access and one `static`
pub data IsModifiers : Modifiers → List Token → Modifiers → List Token → Type 0 where
  modifiers_end : {mods : Modifiers} {ts : List Token} → IsModifiers mods ts mods ts
  an_access : {mods last : Modifiers} {ts rest : List Token} {o : Token} {who : Access} →
      IsAccess o who → mods.access ≡ None → IsModifiers (record { access = Some who; is_static = mods.is_static }) ts last rest → IsModifiers mods (o ∷ ts) last rest
  a_static : {mods last : Modifiers} {ts rest : List Token} {o : Token} →
      IsKeyword w.Static o → mods.is_static ≡ false → IsModifiers (record { access = mods.access; is_static = true }) ts last rest → IsModifiers mods (o ∷ ts) last rest

abbrev pub no_modifiers : Modifiers
no_modifiers = record { access = None; is_static = false }

abbrev pub has_modifier : Modifiers → Bool
has_modifier mods = is_some mods.access || mods.is_static
