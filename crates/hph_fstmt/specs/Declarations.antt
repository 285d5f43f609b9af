-- The parts of declarations: types, parameters, modifiers and lists of names. PHP manual, Functions and Classes and Objects.
use Rattle.std.specs.Prelude.{ℕ, zero, suc, Bool, true, false, List, [], ◌∷◌, ◌++◌, length, Option, Some, None, is_some, if◌then◌else◌}
use Rattle.hph_ast.specs.declared.token.At.{At}
use Rattle.hph_ast.specs.declared.token.Token.{Token}
use Rattle.hph_ast.specs.declared.token.Identifier.{Identifier}
use Rattle.hph_ast.specs.declared.token.Kind.{Kind}
use Rattle.hph_ast.specs.declared.token.Kind.TheVariants as k
use Rattle.hph_ast.specs.declared.token.Mark.{Mark}
use Rattle.hph_ast.specs.declared.token.Mark.TheVariants as m
use Rattle.hph_ast.specs.declared.keyword.Keyword.TheVariants as w
use Rattle.hph_ast.specs.declared.operator.Binary.TheVariants as b
use Rattle.hph_ast.specs.declared.expr.Expr.{Expr}
use Rattle.hph_ast.specs.declared.function.DeclaredType.{DeclaredType}
use Rattle.hph_ast.specs.declared.function.TypeName.{TypeName}
use Rattle.hph_ast.specs.declared.function.TypeName.TheVariants as ty
use Rattle.hph_ast.specs.declared.function.Param.{Param}
use Rattle.hph_ast.specs.declared.class.Modifiers.{Modifiers}
use Rattle.hph_ast.specs.declared.class.Access.{Access}
use Rattle.hph_ast.specs.declared.class.Access.TheVariants as access
use Rattle.hph_ast.specs.declared.class.ConstantItem.{ConstantItem}
use Rattle.hph_ast.specs.declared.class.PropertyItem.{PropertyItem}
use Rattle.hph_ast.specs.declared.stmt.StaticVariable.{StaticVariable}
use Rattle.hph_ast.specs.Places.{place, on, span, identifier}
use Rattle.hph_ast.specs.ConstantExpressions.{is_constant}
use Rattle.hph_fexpr.specs.declared.form.Form.{Form}
use Rattle.hph_fexpr.specs.declared.form.Form.TheVariants.{Level}
use Rattle.hph_cursor.specs.Steps.{Parser, choose, ◌>>=◌, ◌>>◌, pure, pure_if, fail, sees, expect, take_token}
use Rattle.hph_cursor.specs.Next.{is_next, is_set_kind, is_ampersand}
use Rattle.hph_fstmt.specs.Words.{is_keyword, expect_kind, here, identifier_place, variable, name}
use Rattle.hph_fstmt.specs.Repeats.{separated}

-- ---- types

-- tname = NAME | "array" | "self" | "parent"
abbrev pub type_name_by : Token → Kind → Option TypeName
type_name_by q (k.Name spelled) = Some (ty.Named (identifier q spelled))
type_name_by q (k.Keyword w.Array) = Some (ty.Array q.start)
type_name_by q (k.Keyword w.SelfClass) = Some (ty.SelfClass q.start)
type_name_by q (k.Keyword w.Parent) = Some (ty.Parent q.start)
type_name_by q _ = None

-- the `|` between the names of a type
abbrev pub is_bar : Kind → Bool
is_bar (k.Operator b.BitOr) = true
is_bar _ = false

abbrev pub begins_type : Kind → Bool
begins_type (k.Mark m.Question) = true
begins_type (k.Name spelled) = true
begins_type (k.Keyword w.Array) = true
begins_type (k.Keyword w.SelfClass) = true
begins_type (k.Keyword w.Parent) = true
begins_type _ = false

unfoldable pub type_name : Parser (TypeName × Token)
type_name = take_token >>= λ q. choose (type_name_by q q.kind) fail (λ found. pure (found, q))

-- tname {"|" tname}, and the last token
unfoldable pub type_names_from : ℕ → List TypeName → Parser (List TypeName × Token)
type_names_from zero found ts = None
type_names_from (suc n) found ts = (type_name >>= λ r. λ us.
    if is_next is_bar us then (take_token >> type_names_from n (found ++ r.0 ∷ [])) us else Some ((found ++ r.0 ∷ [], r.1), us)) ts

-- behind the "?", if there is one; the type begins at this place
unfoldable pub named_type : At → Bool → Parser DeclaredType
named_type at nullable ts = (type_names_from (length ts) [] >>= λ r.
    pure (record { at = span at (on r.1); nullable = nullable; names = r.0 })) ts

-- type = ["?"] tname {"|" tname}
unfoldable pub declared_type : Parser DeclaredType
declared_type = here >>= λ at. λ ts. if sees m.Question ts then (take_token >> named_type at true) ts else named_type at false ts

unfoldable pub some_type : Parser (Option DeclaredType)
some_type = declared_type >>= λ found. pure (Some found)

unfoldable pub maybe_type : Parser (Option DeclaredType)
maybe_type ts = if is_next begins_type ts then some_type ts else Some (None, ts)

-- [":" type]
unfoldable pub result_type : Parser (Option DeclaredType)
result_type ts = if sees m.Colon ts then (take_token >> some_type) ts else Some (None, ts)

-- ["&"]
unfoldable pub maybe_reference : Parser Bool
maybe_reference ts = if is_next is_ampersand ts then (take_token >> pure true) ts else Some (false, ts)

-- ---- modifiers

abbrev pub access_of : Kind → Option Access
access_of (k.Keyword w.Public) = Some access.Public
access_of (k.Keyword w.Protected) = Some access.Protected
access_of (k.Keyword w.Private) = Some access.Private
access_of (k.Keyword w.Var) = Some access.Var
access_of _ = None

-- {mod} behind these: at most one access and one `static`
unfoldable pub modifiers : Modifiers → Parser Modifiers
modifiers mods [] = Some (mods, [])
modifiers mods (t ∷ ts) = choose (access_of t.kind)
    (if is_keyword w.Static t.kind
    then (if mods.is_static then None else modifiers (record { access = mods.access; is_static = true }) ts)
    else Some (mods, t ∷ ts))
    (λ who. if is_some mods.access then None else modifiers (record { access = Some who; is_static = mods.is_static }) ts)

-- VAR {"," VAR} and the mark that closes
abbrev pub variables : Mark → Parser (List Identifier × Token)
variables closing = separated variable closing

module _ (below : Form → Parser Expr) where
  -- cexpr
  unfoldable pub constant : Parser Expr
  constant = below (Level 1) >>= λ x. pure_if (is_constant x) x

  -- ["=" cexpr], and where it ends, or where what is before it ends
  unfoldable pub initial : At → Parser (Option Expr × At)
  initial at ts = if is_next is_set_kind ts then (take_token >> (constant >>= λ x. pure (Some x, place x))) ts else Some ((None, at), ts)

  unfoldable pub static_variable : Parser StaticVariable
  static_variable = variable >>= λ v. initial (identifier_place v) >>= λ r. pure (record { name = v; value = r.0 })

  unfoldable pub property_item : Parser PropertyItem
  property_item = variable >>= λ v. initial (identifier_place v) >>= λ r. pure (record { name = v; value = r.0 })

  -- NAME "=" cexpr
  unfoldable pub constant_item : Parser ConstantItem
  constant_item = name >>= λ v. expect_kind is_set_kind >> (constant >>= λ x. pure (record { name = v; value = x }))

  -- [type] ["&"] VAR ["=" cexpr], which begins at this place
  unfoldable pub param_from : At → Parser Param
  param_from at = maybe_type >>= λ found. maybe_reference >>= λ by. variable >>= λ v. initial (identifier_place v) >>= λ r.
      pure (record { at = span at r.1; ty = found; by_reference = by; name = v; default = r.0 })

  unfoldable pub param : Parser Param
  param = here >>= param_from

  -- behind "(": [param {"," param} [","]] ")"
  unfoldable pub params_from : ℕ → List Param → Parser (List Param)
  params_from zero found ts = None
  params_from (suc n) found ts =
      if sees m.CloseParen ts then (take_token >> pure found) ts
      else (param >>= λ x. λ us.
      if sees m.Comma us then (take_token >> params_from n (found ++ x ∷ [])) us
      else (expect m.CloseParen >> pure (found ++ x ∷ [])) us) ts

  unfoldable pub params : Parser (List Param)
  params ts = params_from (length ts) [] ts
