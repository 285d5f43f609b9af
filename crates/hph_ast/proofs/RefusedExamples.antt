-- Constructs that a token tells, and rules of those that a tree tells.
use Rattle.std.proofs.Common.{◌≡◌, [], ◌∷◌, ◌+◌, length, refl, codes, Some, None}
use Rattle.hph_ast.specs.declared.token.Kind.TheVariants as k
use Rattle.hph_ast.specs.declared.token.Mark.TheVariants as m
use Rattle.hph_ast.specs.declared.keyword.Keyword.TheVariants as w
use Rattle.hph_ast.specs.declared.operator.Assignment.TheVariants as a
use Rattle.hph_ast.specs.declared.refusal.Construct.TheVariants as c
use Rattle.hph_ast.specs.Lexical.{token}
use Rattle.std.specs.Prelude.{ℕ, List, bytes_eq, true, false}
use Rattle.hph_ast.specs.declared.token.Identifier.{Identifier}
use Rattle.hph_ast.specs.declared.expr.ClassReference.TheOpen.{Expr-F}
use Rattle.hph_ast.specs.declared.class.Member.TheOpen.{Statement-F}
use Rattle.hph_ast.specs.RefusedTokens.{token_construct, too_deep}
use Rattle.hph_ast.specs.RefusedExpressions.{Part, part_of, include_refused}
use Rattle.hph_ast.specs.RefusedStatements.{top_level, in_class, in_method, in_loop, duplicates, magic_method, statement_part, first_found}
use Rattle.hph_ast.proofs.ExpressionExamples.{from_to}

-- `enum A`, and `->enum B`
pub enum_before_a_name : token_construct (token 6 4 (k.Name (codes "enum")) ∷ token 11 1 (k.Name (codes "A")) ∷ []) ≡ Some (c.TypeKind, 6)
enum_before_a_name = refl

pub enum_as_a_member : token_construct (token 6 2 (k.Mark m.Arrow) ∷ token 8 4 (k.Name (codes "enum")) ∷ token 13 1 (k.Name (codes "B")) ∷ []) ≡ None
enum_as_a_member = refl

-- `class Enum extends B`
pub enum_as_a_class : token_construct (token 6 5 (k.Keyword w.Class) ∷ token 12 4 (k.Name (codes "Enum")) ∷ token 17 7 (k.Keyword w.Extends) ∷ token 25 1 (k.Name (codes "B")) ∷ []) ≡ None
enum_as_a_class = refl

-- `function(`
pub function_without_a_name : token_construct (token 6 8 (k.Keyword w.Function) ∷ token 14 1 (k.Mark m.OpenParen) ∷ []) ≡ Some (c.Closure, 6)
function_without_a_name = refl

-- `$_GET`
pub superglobal : token_construct (token 6 5 (k.Variable (codes "_GET")) ∷ []) ≡ Some (c.Superglobal, 6)
superglobal = refl

-- a bracket that closes nothing closes nothing
pub lone_brackets : too_deep (token 6 1 (k.Mark m.CloseParen) ∷ token 7 1 (k.Mark m.OpenBrace) ∷ []) ≡ None
lone_brackets = refl

-- ---- rules of the tree

-- the least offset comes first, and at one offset the kind that stands earlier
pub first_of_three : first_found ((c.BadBreak, 9) ∷ (c.UnsetProperty, 6) ∷ (c.Dynamic, 6) ∷ []) ≡ Some (c.Dynamic, 6)
first_of_three = refl

abbrev pub name_at : ℕ → List ℕ → Identifier
name_at at spelled = record { start = at; end = at + length spelled; spelled = spelled }

-- `$a, $b, $a` as parameters
pub name_of_two_parameters : duplicates bytes_eq [] (name_at 12 (codes "a") ∷ name_at 16 (codes "b") ∷ name_at 20 (codes "a") ∷ []) ≡ (c.DuplicateName, 20) ∷ []
name_of_two_parameters = refl

-- `break 2;` and `break;` in one loop
pub break_of_two_levels : statement_part (Statement-F.Break (from_to 20 28) (Some 2)) (in_loop top_level) ≡ (c.BadBreak, 20) ∷ []
break_of_two_levels = refl

pub break_of_one_level : statement_part (Statement-F.Break (from_to 20 26) None) (in_loop top_level) ≡ []
break_of_one_level = refl

-- `$this` at the top, in a method, and in a static one
abbrev pub this_at : ℕ → Part
this_at at = part_of (Expr-F.Variable (from_to at (at + 5)) (codes "this"))

pub this_at_the_top : (this_at 6).refused top_level ≡ (c.ThisOutside, 6) ∷ []
this_at_the_top = refl

pub this_in_a_method : (this_at 6).refused (in_method (in_class false) false) ≡ []
this_in_a_method = refl

pub this_in_a_static_method : (this_at 6).refused (in_method (in_class false) true) ≡ (c.ThisOutside, 6) ∷ []
this_in_a_static_method = refl

-- `$this = 1`, where there is one
pub this_is_assigned : (part_of (Expr-F.Assign (from_to 6 15) a.Set (this_at 6) (part_of (Expr-F.Int (from_to 14 15) 1)))).refused (in_method (in_class false) false) ≡ (c.ThisWrite, 6) ∷ []
this_is_assigned = refl

-- `include $a;`
pub include_of_a_variable : include_refused 6 (part_of (Expr-F.Variable (from_to 14 16) (codes "a"))) top_level ≡ (c.IncludePath, 14) ∷ []
include_of_a_variable = refl

-- `function __get()` and `function __Construct()` in a class
pub magic_name : magic_method (name_at 20 (codes "__get")) ≡ (c.MagicMethod, 20) ∷ []
magic_name = refl

pub constructor_name : magic_method (name_at 20 (codes "__Construct")) ≡ []
constructor_name = refl
