-- Constructs of statements, functions, classes and files that a tree tells, with their contexts and offsets; and the first
-- one of a file. This project's own.
use Rattle.std.specs.Prelude.{ℕ, suc, Bool, true, false, not, ◌&&◌, ◌||◌, List, [], ◌∷◌, ◌++◌, map, flat_map, Option, Some, None, is_some, if◌then◌else◌, ◌==◌, bytes_eq, nat_lt, nat_le, codes}
use Rattle.std.specs.List.{list_any}
use Rattle.hph_ast.specs.declared.token.At.{At}
use Rattle.hph_ast.specs.declared.token.Identifier.{Identifier}
use Rattle.hph_ast.specs.declared.operator.Prefix.TheVariants as p
use Rattle.hph_ast.specs.declared.expr.Expr.{Expr, out-Expr}
use Rattle.hph_ast.specs.declared.expr.Step.{Step, out-Step}
use Rattle.hph_ast.specs.declared.expr.ClassReference.TheOpen.{Expr-F}
use Rattle.hph_ast.specs.declared.function.DeclaredType.{DeclaredType}
use Rattle.hph_ast.specs.declared.function.Param.{Param}
use Rattle.hph_ast.specs.declared.class.Member.TheOpen.{Member-F, Statement-F, Class-F, Function-F, Case-F, ElseIf-F}
use Rattle.hph_ast.specs.declared.class.Member.TheFolds.{fold-Statement}
use Rattle.hph_ast.specs.declared.stmt.Statement.{Statement}
use Rattle.hph_ast.specs.declared.stmt.ForeachTarget.{ForeachTarget}
use Rattle.hph_ast.specs.declared.stmt.ForeachTarget.TheVariants as target
use Rattle.hph_ast.specs.declared.program.FileTree.{FileTree}
use Rattle.hph_ast.specs.declared.refusal.Construct.{Construct}
use Rattle.hph_ast.specs.declared.refusal.Construct.TheVariants as c
use Rattle.hph_ast.specs.Bytes.{lower, begins, is_word}
use Rattle.hph_ast.specs.Layers.{ExprLayer}
use Rattle.hph_ast.specs.Shapes.{is_property_at}
use Rattle.hph_ast.specs.RefusedExpressions.{Context, Found, Refused, on_true, all_in, is_this_name, this_outside, this_written, include_refused, part, item_found, refused_in}

-- ---- contexts

abbrev pub top_level : Context
top_level = record { in_function = false; has_this = false; in_class = false; has_parent = false; in_include = false; loops = 0 }

abbrev pub in_plain_function : Context
in_plain_function = record top_level { in_function = true }

-- the members of a class, and a method
abbrev pub in_class : Bool → Context
in_class has_parent = record top_level { in_class = true; has_parent = has_parent }

abbrev pub in_method : Context → Bool → Context
in_method ctx is_static = record ctx { in_function = true; has_this = not is_static }

abbrev pub in_loop : Context → Context
in_loop ctx = record ctx { loops = suc ctx.loops }

-- ---- rules

abbrev pub maybe : {A : Type 0} → (A → Refused) → Option A → Refused
maybe f None ctx = []
maybe f (Some x) ctx = f x ctx

-- a variable that is bound: `$this` may not be
abbrev pub bound : Identifier → Refused
bound name ctx = this_outside ctx (is_this_name name.spelled) name.start ++ on_true (is_this_name name.spelled) c.ThisWrite name.start

abbrev pub type_refused : DeclaredType → Refused
type_refused ty ctx = (c.TypeDeclared, ty.at.start) ∷ []

abbrev pub param_refused : Param → Refused
param_refused x ctx = maybe type_refused x.ty ctx ++ (bound x.name ctx ++ maybe refused_in x.default ctx)

-- the names that stand in a list before, each later one with its offset
abbrev pub duplicates : (List ℕ → List ℕ → Bool) → List (List ℕ) → List Identifier → Found
duplicates same before [] = []
duplicates same before (x ∷ xs) = on_true (list_any (same x.spelled) before) c.DuplicateName x.start ++ duplicates same (x.spelled ∷ before) xs

abbrev pub same_word : List ℕ → List ℕ → Bool
same_word a b = bytes_eq (map lower a) (map lower b)

-- an include as a whole statement is no include in an expression
abbrev pub whole_statement : Expr → ExprLayer → Refused
whole_statement x (Expr-F.Prefix at (p.Include form) path) = include_refused at.start (part path)
whole_statement x _ = refused_in x

-- a level of 0, or more levels than loops and switches
abbrev pub levels_are_bad : ℕ → Option ℕ → Bool
levels_are_bad loops None = loops == 0
levels_are_bad loops (Some n) = (n == 0) || nat_lt loops n

abbrev pub bad_break : At → Option ℕ → Refused
bad_break at levels ctx = on_true (levels_are_bad ctx.loops levels) c.BadBreak at.start

-- static variables stand in functions that are no methods
abbrev pub static_place : At → Refused
static_place at ctx = on_true (not ctx.in_function || ctx.in_class) c.StaticPlace at.start

abbrev pub last_is_property : List Step → Bool
last_is_property [] = false
last_is_property (s ∷ []) = is_property_at (out-Step s)
last_is_property (s ∷ t ∷ ss) = last_is_property (t ∷ ss)

abbrev pub is_property : ExprLayer → Bool
is_property (Expr-F.Path at x steps) = last_is_property steps
is_property (Expr-F.StaticProperty at class name) = true
is_property _ = false

abbrev pub unset_refused : Expr → Refused
unset_refused x ctx = on_true (is_property (out-Expr x)) c.UnsetProperty (part x).start ++ (this_written (part x) ++ refused_in x ctx)

abbrev pub target_refused : ForeachTarget → Refused
target_refused (target.Variable name) ctx = bound name ctx
target_refused (target.Reference x ampersand) ctx = (c.RefElement, ampersand) ∷ (this_written (part x) ++ refused_in x ctx)
target_refused (target.Destructure bracket items) ctx = (c.Destructure, bracket) ∷ all_in item_found items ctx

-- a method that begins with `__`, but for the constructor
abbrev pub magic_method : Identifier → Found
magic_method name = on_true (begins (codes "__") name.spelled && not (is_word (codes "__construct") name.spelled)) c.MagicMethod name.start

-- ---- nodes, each with what its parts hold

-- the sorts of members that may not share a name
pub data Sort : Type 0 where
  constants : Sort
  properties : Sort
  methods : Sort

-- a function is told the context of its parts
pub record FunctionPart : Type 0 where
  pub name : Identifier
  pub refused : Refused

pub record MemberPart : Type 0 where
  pub sort : Sort
  pub names : List Identifier
  pub refused : Refused

abbrev pub function_part : Function-F MemberPart Refused Refused FunctionPart Refused Refused → FunctionPart
function_part f = record {
  name = f.name;
  refused = λ ctx. all_in param_refused f.params ctx ++ (duplicates bytes_eq [] (map (λ (x : Param). x.name) f.params) ++ (maybe type_refused f.result ctx ++ all_in (λ x. x) f.body ctx));
}

abbrev pub member_part : Member-F MemberPart Refused Refused FunctionPart Refused Refused → MemberPart
member_part (Member-F.Constants at mods items) = record {
  sort = constants;
  names = map (λ i. i.name) items;
  refused = all_in (λ i. refused_in i.value) items;
}
member_part (Member-F.Properties at mods ty items) = record {
  sort = properties;
  names = map (λ i. i.name) items;
  refused = λ ctx. maybe type_refused ty ctx ++ all_in (λ i. maybe refused_in i.value) items ctx;
}
member_part (Member-F.Method at mods f) = record {
  sort = methods;
  names = f.name ∷ [];
  refused = λ ctx. magic_method f.name ++ f.refused (in_method ctx mods.is_static);
}

abbrev pub is_sort : Sort → Sort → Bool
is_sort constants constants = true
is_sort properties properties = true
is_sort methods methods = true
is_sort _ _ = false

abbrev pub names_of_sort : Sort → MemberPart → List Identifier
names_of_sort sort x = if is_sort sort x.sort then x.names else []

-- the names of methods ignore ASCII case
abbrev pub duplicate_members : List MemberPart → Found
duplicate_members members =
    duplicates bytes_eq [] (flat_map (names_of_sort constants) members) ++ (duplicates bytes_eq [] (flat_map (names_of_sort properties) members) ++
    duplicates same_word [] (flat_map (names_of_sort methods) members))

abbrev pub class_part : Class-F MemberPart Refused Refused FunctionPart Refused Refused → Refused
class_part cl ctx = duplicate_members cl.members ++ all_in (λ (x : MemberPart). x.refused) cl.members (in_class (is_some cl.parent))

abbrev pub case_part : Case-F MemberPart Refused Refused FunctionPart Refused Refused → Refused
case_part x ctx = maybe refused_in x.test ctx ++ all_in (λ s. s) x.body ctx

abbrev pub else_if_part : ElseIf-F MemberPart Refused Refused FunctionPart Refused Refused → Refused
else_if_part x ctx = refused_in x.test ctx ++ x.body ctx

abbrev pub statement_part : Statement-F MemberPart Refused Refused FunctionPart Refused Refused → Refused
statement_part (Statement-F.Empty at) ctx = []
statement_part (Statement-F.InlineText at bytes) ctx = []
statement_part (Statement-F.Block at body) ctx = all_in (λ s. s) body ctx
statement_part (Statement-F.Expression at x) ctx = whole_statement x (out-Expr x) ctx
statement_part (Statement-F.Function f) ctx = f.refused in_plain_function
statement_part (Statement-F.Class cl) ctx = cl ctx
statement_part (Statement-F.If at x body more other) ctx = refused_in x ctx ++ (body ctx ++ (all_in (λ b. b) more ctx ++ maybe (λ s. s) other ctx))
statement_part (Statement-F.While at x body) ctx = refused_in x ctx ++ body (in_loop ctx)
statement_part (Statement-F.DoWhile at body x) ctx = body (in_loop ctx) ++ refused_in x ctx
statement_part (Statement-F.For at init test step body) ctx =
    all_in refused_in init ctx ++ (all_in refused_in test ctx ++ (all_in refused_in step ctx ++ body (in_loop ctx)))
statement_part (Statement-F.Foreach at x key value body) ctx = refused_in x ctx ++ (maybe bound key ctx ++ (target_refused value ctx ++ body (in_loop ctx)))
statement_part (Statement-F.Switch at x cases) ctx = refused_in x ctx ++ all_in (λ k. k) cases (in_loop ctx)
statement_part (Statement-F.Break at levels) ctx = bad_break at levels ctx
statement_part (Statement-F.Continue at levels) ctx = bad_break at levels ctx
statement_part (Statement-F.Return at value) ctx = maybe refused_in value ctx
statement_part (Statement-F.Echo at values) ctx = all_in refused_in values ctx
statement_part (Statement-F.Global at names) ctx = all_in bound names ctx
statement_part (Statement-F.Static at variables) ctx = static_place at ctx ++ all_in (λ v ctx. bound v.name ctx ++ maybe refused_in v.value ctx) variables ctx
statement_part (Statement-F.Unset at paths) ctx = all_in unset_refused paths ctx
statement_part (Statement-F.Const at items) ctx = all_in (λ i. refused_in i.value) items ctx

unfoldable pub statement_refused : Statement → Refused
statement_refused = fold-Statement MemberPart Refused Refused FunctionPart Refused Refused member_part statement_part class_part function_part case_part else_if_part

-- ---- the first one

-- at one offset the kind that stands earlier here wins
abbrev pub rank : Construct → ℕ
rank c.TypeDeclared = 0
rank c.NamedArgument = 1
rank c.Dynamic = 2
rank c.Destructure = 3
rank c.RefElement = 4
rank c.ClassName = 5
rank c.MagicMethod = 6
rank c.MagicConstant = 7
rank c.IncludePath = 8
rank c.IncludeExpr = 9
rank c.IncludeInFunction = 10
rank c.StaticPlace = 11
rank c.LibraryName = 12
rank c.ThisOutside = 13
rank c.ThisWrite = 14
rank c.ClassContext = 15
rank c.BadBreak = 16
rank c.DuplicateName = 17
rank c.UnsetProperty = 18
rank _ = 19

abbrev pub is_before : Construct × ℕ → Construct × ℕ → Bool
is_before a b = nat_lt a.1 b.1 || ((a.1 == b.1) && nat_le (rank a.0) (rank b.0))

abbrev pub first_of : Construct × ℕ → Found → Construct × ℕ
first_of best [] = best
first_of best (x ∷ xs) = first_of (if is_before best x then best else x) xs

abbrev pub first_found : Found → Option (Construct × ℕ)
first_found [] = None
first_found (x ∷ xs) = Some (first_of x xs)

abbrev pub file_refused : FileTree → Found
file_refused tree = all_in statement_refused tree.statements top_level

-- the refused construct of the tree with the least offset
abbrev pub tree_construct : FileTree → Option (Construct × ℕ)
tree_construct tree = first_found (file_refused tree)
