-- Constructs of expressions that a tree tells, with their contexts and offsets. This project's own.
-- Each node is seen with its parts: a part is the expression, and what it holds in a context.
use Rattle.std.specs.Prelude.{ℕ, Bool, true, false, not, ◌&&◌, ◌||◌, List, [], ◌∷◌, ◌++◌, flat_map, length, ◌==◌, bytes_eq, codes}
use Rattle.std.specs.List.{list_all}
use Rattle.std.specs.Str.Lossy.{utf8_valid_len}
use Rattle.hph_ast.specs.declared.token.At.{At}
use Rattle.hph_ast.specs.declared.operator.Binary.{Binary}
use Rattle.hph_ast.specs.declared.operator.Binary.TheVariants as b
use Rattle.hph_ast.specs.declared.operator.Prefix.{Prefix}
use Rattle.hph_ast.specs.declared.operator.Prefix.TheVariants as p
use Rattle.hph_ast.specs.declared.expr.Expr.{Expr}
use Rattle.hph_ast.specs.declared.expr.ClassReference.TheOpen.{ClassReference-F, Expr-F, Item-F, MemberName-F, Step-F, StringPart-F}
use Rattle.hph_ast.specs.declared.expr.ClassReference.TheFolds.{fold-Expr, fold-Item}
use Rattle.hph_ast.specs.declared.expr.Item.{Item}
use Rattle.hph_ast.specs.declared.refusal.Construct.{Construct}
use Rattle.hph_ast.specs.declared.refusal.Construct.TheVariants as c
use Rattle.hph_ast.specs.Bytes.{is_word}

-- where a node stands
pub record Context : Type 0 where
  -- in a function or a method
  pub in_function : Bool
  -- `$this` is there: in a method that isn't static
  pub has_this : Bool
  -- in a class, and in one with a parent
  pub in_class : Bool
  pub has_parent : Bool
  -- in the path of an include
  pub in_include : Bool
  -- how many loops and switches are round it
  pub loops : ℕ

-- refused constructs and their offsets
abbrev pub Found : Type 0
Found = List (Construct × ℕ)

abbrev pub Refused : Type 0
Refused = Context → Found

abbrev pub on_true : Bool → Construct → ℕ → Found
on_true true which at = (which, at) ∷ []
on_true false which at = []

-- what a node needs to know of a part: where it starts, which shape it has, and what is refused in it
pub data Shape : Type 0 where
  -- a variable, and whether it is `$this`
  a_variable : Bool → Shape
  a_text : List ℕ → Shape
  a_directory : Shape
  -- `__DIR__` and a text joined
  a_directory_path : List ℕ → Shape
  another : Shape

pub record Part : Type 0 where
  pub start : ℕ
  pub shape : Shape
  pub refused : Refused

abbrev pub is_this : Shape → Bool
is_this (a_variable this) = this
is_this _ = false

abbrev pub is_plain_variable : Shape → Bool
is_plain_variable (a_variable this) = true
is_plain_variable _ = false

-- ---- rules of one node

abbrev pub is_this_name : List ℕ → Bool
is_this_name name = bytes_eq name (codes "this")

-- `$this` where there is none
abbrev pub this_outside : Context → Bool → ℕ → Found
this_outside ctx this at = on_true (this && not ctx.has_this) c.ThisOutside at

-- `$this` is assigned, bound, unset or moved
abbrev pub this_written : Part → Found
this_written x = on_true (is_this x.shape) c.ThisWrite x.start

-- self and static outside a class, and parent outside one with a parent
abbrev pub class_context : Bool → ℕ → Found
class_context there at = on_true (not there) c.ClassContext at

-- a call of define, extract or compact, in any ASCII case
abbrev pub library_name : List ℕ → ℕ → Found
library_name name at = on_true (is_word (codes "define") name || (is_word (codes "extract") name || is_word (codes "compact") name)) c.LibraryName at

-- a string literal, or `__DIR__` and one; its bytes are UTF-8 without a zero byte
abbrev pub is_path_text : List ℕ → Bool
is_path_text bytes = (utf8_valid_len bytes == length bytes) && list_all (λ byte. not (byte == 0)) bytes

abbrev pub is_include_path : Shape → Bool
is_include_path (a_text bytes) = is_path_text bytes
is_include_path (a_directory_path bytes) = is_path_text bytes
is_include_path _ = false

-- an include: in a function, and its path; the path is looked through as one
abbrev pub in_path : Context → Context
in_path ctx = record ctx { in_include = true }

abbrev pub include_refused : ℕ → Part → Refused
include_refused at x ctx = on_true ctx.in_function c.IncludeInFunction at ++ (on_true (not (is_include_path x.shape)) c.IncludePath x.start ++ x.refused (in_path ctx))

abbrev pub prefix_refused : Prefix → ℕ → Part → Refused
prefix_refused (p.Include form) at x ctx = (c.IncludeExpr, at) ∷ include_refused at x ctx
prefix_refused op at x ctx = x.refused ctx

-- `=&`, unless both sides are plain variables
abbrev pub reference_refused : Part → Part → ℕ → Found
reference_refused x y ampersand = on_true (not (is_plain_variable x.shape && is_plain_variable y.shape)) c.RefElement ampersand

-- ---- parts that are no expressions

abbrev pub all_in : {A : Type 0} → (A → Refused) → List A → Refused
all_in f xs ctx = flat_map (λ x. f x ctx) xs

-- the class that a node names
abbrev pub class_refused : ClassReference-F Refused Part Refused Refused Refused Refused → Refused
class_refused (ClassReference-F.ByName at name) ctx = []
class_refused (ClassReference-F.SelfClass at) ctx = class_context ctx.in_class at.start
class_refused (ClassReference-F.Parent at) ctx = class_context ctx.has_parent at.start
class_refused (ClassReference-F.Static at) ctx = class_context ctx.in_class at.start
class_refused (ClassReference-F.ByExpression at x) ctx = (c.Dynamic, x.start) ∷ x.refused ctx

abbrev pub item_refused : Item-F Refused Part Refused Refused Refused Refused → Refused
item_refused (Item-F.Plain at x) ctx = x.refused ctx
item_refused (Item-F.Keyed at x y) ctx = x.refused ctx ++ y.refused ctx
item_refused (Item-F.Reference at x) ctx = (c.RefElement, at.start) ∷ (this_written x ++ x.refused ctx)
item_refused (Item-F.KeyedReference at x y ampersand) ctx = (c.RefElement, ampersand) ∷ (this_written y ++ (x.refused ctx ++ y.refused ctx))
item_refused (Item-F.Hole at) ctx = []

abbrev pub member_refused : MemberName-F Refused Part Refused Refused Refused Refused → Refused
member_refused (MemberName-F.Named name) ctx = []
member_refused (MemberName-F.Computed x) ctx = (c.Dynamic, x.start) ∷ x.refused ctx

abbrev pub step_refused : Step-F Refused Part Refused Refused Refused Refused → Refused
step_refused (Step-F.Index at x) ctx = x.refused ctx
step_refused (Step-F.Append at) ctx = []
step_refused (Step-F.Property at name) ctx = name ctx

abbrev pub piece_refused : StringPart-F Refused Part Refused Refused Refused Refused → Refused
piece_refused (StringPart-F.Piece at bytes) ctx = []
piece_refused (StringPart-F.Interpolation x) ctx = x.refused ctx

-- ---- expressions

abbrev pub plain : At → Refused → Part
plain at refused = record { start = at.start; shape = another; refused = refused }

abbrev pub each : List Part → Refused
each xs = all_in (λ (x : Part). x.refused) xs

-- `__DIR__` and one text, joined
abbrev pub joined : Shape → List (Binary × Part) → Shape
joined a_directory ((b.Concat, x) ∷ []) = directory_and x.shape
  where
    directory_and : Shape → Shape
    directory_and (a_text bytes) = a_directory_path bytes
    directory_and _ = another
joined _ _ = another

abbrev pub part_of : Expr-F Refused Part Refused Refused Refused Refused → Part
part_of (Expr-F.Int at value) = plain at (λ ctx. [])
part_of (Expr-F.Text at bytes) = record { start = at.start; shape = a_text bytes; refused = λ ctx. [] }
part_of (Expr-F.Interpolated at parts) = plain at (λ ctx. all_in (λ x. x) parts ctx)
part_of (Expr-F.Variable at name) = record { start = at.start; shape = a_variable (is_this_name name); refused = λ ctx. this_outside ctx (is_this_name name) at.start }
part_of (Expr-F.Constant at name) = plain at (λ ctx. [])
part_of (Expr-F.Directory at) = record { start = at.start; shape = a_directory; refused = λ ctx. on_true (not ctx.in_include) c.MagicConstant at.start }
part_of (Expr-F.Array at form items) = plain at (all_in (λ x. x) items)
part_of (Expr-F.Call at name xs) = plain at (λ ctx. library_name name at.start ++ each xs ctx)
part_of (Expr-F.DynamicCall at x xs) = plain at (λ ctx. (c.Dynamic, x.start) ∷ (x.refused ctx ++ each xs ctx))
part_of (Expr-F.StaticCall at class name xs) = plain at (λ ctx. class ctx ++ (name ctx ++ each xs ctx))
part_of (Expr-F.MethodCall at x name xs) = plain at (λ ctx. x.refused ctx ++ (name ctx ++ each xs ctx))
part_of (Expr-F.New at class xs) = plain at (λ ctx. class ctx ++ each xs ctx)
part_of (Expr-F.ClassConstant at class name) = plain at class
part_of (Expr-F.ClassName at class colons) = plain at (λ ctx. (c.ClassName, colons) ∷ class ctx)
part_of (Expr-F.StaticProperty at class name) = plain at class
part_of (Expr-F.Paren at x) = plain at x.refused
part_of (Expr-F.Isset at xs) = plain at (each xs)
part_of (Expr-F.Empty at x) = plain at x.refused
part_of (Expr-F.Exit at) = plain at (λ ctx. [])
part_of (Expr-F.ExitWith at x) = plain at x.refused
part_of (Expr-F.Path at x steps) = plain at (λ ctx. x.refused ctx ++ all_in (λ s. s) steps ctx)
part_of (Expr-F.Update at form x) = plain at (λ ctx. this_written x ++ x.refused ctx)
part_of (Expr-F.Prefix at op x) = plain at (prefix_refused op at.start x)
part_of (Expr-F.InstanceOf at x classes) = plain at (λ ctx. x.refused ctx ++ all_in (λ class. class) classes ctx)
part_of (Expr-F.Run at x more) = record { start = at.start; shape = joined x.shape more; refused = λ ctx. x.refused ctx ++ all_in (λ (o : Binary × Part). o.1.refused) more ctx }
part_of (Expr-F.Pair at op x y) = plain at (λ ctx. x.refused ctx ++ y.refused ctx)
part_of (Expr-F.Ternary at x y z) = plain at (λ ctx. x.refused ctx ++ (y.refused ctx ++ z.refused ctx))
part_of (Expr-F.ShortTernary at x more) = plain at (λ ctx. x.refused ctx ++ each more ctx)
part_of (Expr-F.Assign at op x y) = plain at (λ ctx. this_written x ++ (x.refused ctx ++ y.refused ctx))
part_of (Expr-F.AssignReference at x y ampersand) = plain at (λ ctx. this_written x ++ (this_written y ++ (reference_refused x y ampersand ++ (x.refused ctx ++ y.refused ctx))))
part_of (Expr-F.Destructure at items x) = plain at (λ ctx. (c.Destructure, at.start) ∷ (all_in (λ i. i) items ctx ++ x.refused ctx))
part_of (Expr-F.NamedArgument at name x) = plain at (λ ctx. (c.NamedArgument, at.start) ∷ x.refused ctx)

unfoldable pub part : Expr → Part
part = fold-Expr Refused Part Refused Refused Refused Refused class_refused part_of item_refused member_refused step_refused piece_refused

unfoldable pub item_found : Item → Refused
item_found = fold-Item Refused Part Refused Refused Refused Refused class_refused part_of item_refused member_refused step_refused piece_refused

-- what is refused in an expression
abbrev pub refused_in : Expr → Refused
refused_in x = (part x).refused
