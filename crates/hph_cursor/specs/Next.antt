-- What the next token tells.
use Rattle.std.specs.Prelude.{ℕ, Bool, true, false, List, [], ◌∷◌, Option, Some, None, if◌then◌else◌, ◌==◌}
use Rattle.hph_ast.specs.declared.token.Token.{Token}
use Rattle.hph_ast.specs.declared.token.Kind.{Kind}
use Rattle.hph_ast.specs.declared.token.Kind.TheVariants as k
use Rattle.hph_ast.specs.declared.token.Mark.TheVariants as m
use Rattle.hph_ast.specs.declared.keyword.Keyword.TheVariants as w
use Rattle.hph_ast.specs.declared.operator.Binary.{Binary}
use Rattle.hph_ast.specs.declared.operator.Binary.TheVariants as b
use Rattle.hph_ast.specs.declared.operator.Assignment.{Assignment}
use Rattle.hph_ast.specs.declared.operator.Assignment.TheVariants as a
use Rattle.hph_ast.specs.declared.expr.Update.{Update}
use Rattle.hph_ast.specs.declared.expr.Update.TheVariants as u
use Rattle.hph_ast.specs.declared.expr.ClassReference.{ClassReference}
use Rattle.hph_ast.specs.declared.expr.ClassReference.TheVariants as c
use Rattle.hph_ast.specs.Levels.{level}
use Rattle.hph_ast.specs.Places.{on}
use Rattle.hph_cursor.specs.Steps.{is_mark}

-- what the kind of the next token gives
abbrev pub of_next : {A : Type 0} → (Kind → Option A) → List Token → Option A
of_next f [] = None
of_next f (t ∷ ts) = f t.kind

abbrev pub is_next : (Kind → Bool) → List Token → Bool
is_next f [] = false
is_next f (t ∷ ts) = f t.kind

abbrev pub assignment_of : Kind → Option Assignment
assignment_of (k.Assign op) = Some op
assignment_of _ = None

abbrev pub binary_of : Kind → Option Binary
binary_of (k.Operator op) = Some op
binary_of _ = None

-- an operator of this level
abbrev pub operator_of : ℕ → Kind → Option Binary
operator_of n (k.Operator op) = if level op == n then Some op else None
operator_of n _ = None

abbrev pub pre_update_of : Kind → Option Update
pre_update_of (k.Mark m.Increment) = Some u.PreIncrement
pre_update_of (k.Mark m.Decrement) = Some u.PreDecrement
pre_update_of _ = None

abbrev pub post_update_of : Kind → Option Update
post_update_of (k.Mark m.Increment) = Some u.PostIncrement
post_update_of (k.Mark m.Decrement) = Some u.PostDecrement
post_update_of _ = None

abbrev pub is_set : Assignment → Bool
is_set a.Set = true
is_set _ = false

abbrev pub is_set_kind : Kind → Bool
is_set_kind (k.Assign op) = is_set op
is_set_kind _ = false

-- the `&` of a reference
abbrev pub is_ampersand : Kind → Bool
is_ampersand (k.Operator b.BitAnd) = true
is_ampersand _ = false

abbrev pub is_instance_of : Kind → Bool
is_instance_of (k.Keyword w.InstanceOf) = true
is_instance_of _ = false

abbrev pub is_variable : Kind → Bool
is_variable (k.Variable name) = true
is_variable _ = false

-- the class that a token names
abbrev pub class_by : Token → Kind → Option ClassReference
class_by t (k.Name name) = Some (c.ByName (on t) name)
class_by t (k.Keyword w.SelfClass) = Some (c.SelfClass (on t))
class_by t (k.Keyword w.Parent) = Some (c.Parent (on t))
class_by t (k.Keyword w.Static) = Some (c.Static (on t))
class_by t _ = None

-- the name of an argument, with the colon behind it
abbrev pub name_before : Kind → Kind → Option (List ℕ)
name_before (k.Name name) next = if is_mark m.Colon next then Some name else None
name_before _ next = None

abbrev pub argument_name : List Token → Option (List ℕ)
argument_name [] = None
argument_name (t ∷ []) = None
argument_name (t ∷ q ∷ ts) = name_before t.kind q.kind
