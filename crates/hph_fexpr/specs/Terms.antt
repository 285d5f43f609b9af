-- Terms: what may stand at either side of any operator. Assignments, `++` and `--`, destructuring and prefix operators.
use Rattle.std.specs.Prelude.{ℕ, suc, Bool, List, ◌&&◌, ◌||◌, Some, None, if◌then◌else◌, nat_lt}
use Rattle.hph_ast.specs.declared.token.Token.{Token}
use Rattle.hph_ast.specs.declared.token.Mark.TheVariants as m
use Rattle.hph_ast.specs.declared.operator.Prefix.{Prefix}
use Rattle.hph_ast.specs.declared.operator.Assignment.{Assignment}
use Rattle.hph_ast.specs.declared.expr.Expr.{Expr}
use Rattle.hph_ast.specs.declared.expr.Expr.TheVariants as e
use Rattle.hph_ast.specs.declared.expr.Update.{Update}
use Rattle.hph_ast.specs.declared.expr.ArrayForm.TheVariants.{Short, Targets}
use Rattle.hph_ast.specs.Levels.{update_level, prefix_level, prefix_of, assign_level, next}
use Rattle.hph_ast.specs.Places.{place, on, span}
use Rattle.hph_ast.specs.Shapes.{is_read, is_written, is_source}
use Rattle.hph_fexpr.specs.declared.form.Form.{Form}
use Rattle.hph_fexpr.specs.declared.form.Form.TheVariants.{Level}
use Rattle.hph_fexpr.specs.declared.elements.Elements.{Elements}
use Rattle.hph_cursor.specs.Steps.{Parser, choose, ◌>>=◌, ◌>>◌, pure, sees, take_token}
use Rattle.hph_cursor.specs.Next.{of_next, is_next, assignment_of, pre_update_of, post_update_of, is_set, is_set_kind, is_ampersand}
use Rattle.hph_fexpr.specs.Arrays.{elements}
use Rattle.hph_fexpr.specs.Primaries.{array_of}
use Rattle.hph_fexpr.specs.Postfix.{goes_on, postfix}

-- no operator comes next with which an expression of this level would go on
abbrev pub stopped : {A : Type 0} → ℕ → A → Parser A
stopped n a ts = if nat_lt (next ts) n then Some (a, ts) else None

module _ (links : ℕ) (below : Form → Parser Expr) where
  unfoldable pub prefixed : Prefix → Parser Expr
  prefixed op = take_token >>= λ t. below (Level (suc (prefix_level op))) >>= λ x. pure (e.Prefix (span (on t) (place x)) op x)

  -- a written path, and that nothing follows which binds tighter than the operator
  unfoldable pub pre_updated : Update → Parser Expr
  pre_updated form = take_token >>= λ t. postfix below links >>= λ x. λ us.
      if is_written x then stopped (suc update_level) (e.Update (span (on t) (place x)) form x) us else None

  -- behind a written path
  unfoldable pub post_updated : Expr → Update → Parser Expr
  post_updated x form = take_token >>= λ t. pure (e.Update (span (place x) (on t)) form x)

  -- behind "=", at "&"
  unfoldable pub bound : Expr → Parser Expr
  bound x = take_token >>= λ q. postfix below links >>= λ y. λ us.
      if is_source y then stopped (suc assign_level) (e.AssignReference (span (place x) (place y)) x y q.start) us else None

  unfoldable pub valued_by : Expr → Assignment → Parser Expr
  valued_by x op = below (Level (suc assign_level)) >>= λ y. pure (e.Assign (span (place x) (place y)) op x y)

  -- at an assignment operator
  unfoldable pub assigned : Expr → Assignment → Parser Expr
  assigned x op = take_token >> λ us. if is_set op && is_next is_ampersand us then bound x us else valued_by x op us

  -- what stands behind a path of either kind; where an element stands alone, one that is only written may end there
  unfoldable pub path_used : Bool → Expr → Parser Expr
  path_used alone x ts =
      choose (of_next post_update_of ts)
      (choose (of_next assignment_of ts) (if (alone && (is_written x && nat_lt (next ts) 1)) || is_read x then Some (x, ts) else None)
      (λ op. if is_written x then assigned x op ts else None))
      (λ form. if is_written x then post_updated x form ts else None)

  -- behind the elements between brackets
  unfoldable pub destructured : Token → Elements → Parser Expr
  destructured o r = take_token >> (below (Level (suc assign_level)) >>= λ y. pure (e.Destructure (span (on o) (place y)) r.items y))

  unfoldable pub from_array : Bool → Token → Elements → Parser Expr
  from_array alone o r = array_of o Short r >>= goes_on below links >>= path_used alone

  -- elements that are no array, where an element stands alone
  abbrev pub stands_alone : Bool → Elements → List Token → Bool
  stands_alone alone r ts = alone && (r.targets && nat_lt (next ts) 1)

  -- behind the elements between brackets, where no "=" is next
  unfoldable pub undestructured : Bool → Token → Elements → Parser Expr
  undestructured alone o r ts =
      if stands_alone alone r ts then Some (e.Array (span (on o) r.close) Targets r.items, ts) else from_array alone o r ts

  -- an array, or the left side of a destructuring
  unfoldable pub bracketed : Bool → Parser Expr
  bracketed alone = take_token >>= λ o. elements below m.CloseBracket >>= λ r. λ us.
      if is_next is_set_kind us then destructured o r us else undestructured alone o r us

  abbrev pub operand : Bool → Parser Expr
  operand alone ts = if sees m.OpenBracket ts then bracketed alone ts else (postfix below links >>= path_used alone) ts

  -- a term; or, where an element may stand alone, what is only written
  unfoldable pub term : Bool → Parser Expr
  term alone ts = choose (of_next prefix_of ts) (choose (of_next pre_update_of ts) (operand alone ts) (λ form. pre_updated form ts))
      (λ op. prefixed op ts)
