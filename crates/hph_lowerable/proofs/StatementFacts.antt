-- What is told of a statement is told of it with its sites numbered: how many nodes it has, whether its nodes are as they should be,
-- what is refused in it, and which files it includes.
use Rattle.std.specs.Prelude.{◌≡◌, ℕ, suc, ◌+◌, Bool, ◌&&◌, List, [], ◌∷◌, ◌++◌, map, Option, None, Some, bytes_eq}
use Rattle.std.specs.List.{list_all}
use Rattle.std.proofs.Common.{refl}
use Rattle.hph_ast.specs.declared.expr.Expr.{Expr}
use Rattle.hph_ast.specs.declared.function.DeclaredType.{DeclaredType}
use Rattle.hph_ast.specs.declared.function.Param.{Param}
use Rattle.hph_ast.specs.declared.class.ConstantItem.{ConstantItem}
use Rattle.hph_ast.specs.declared.class.PropertyItem.{PropertyItem}
use Rattle.hph_ast.specs.declared.stmt.Statement.{Statement}
use Rattle.hph_ast.specs.declared.stmt.StaticVariable.{StaticVariable}
use Rattle.hph_ast.specs.declared.stmt.ForeachTarget.{ForeachTarget}
use Rattle.hph_ast.specs.declared.stmt.ForeachTarget.TheVariants as target
use Rattle.hph_ast.specs.declared.refusal.Construct.TheVariants as c
use Rattle.hph_ast.specs.RefusedExpressions.{Refused, on_true, all_in, item_found, refused_in, this_written}
use Rattle.hph_ast.specs.RefusedStatements as r
use Rattle.hph_ast.specs.RefusedStatements.{statement_refused, statement_part, member_part, class_part, function_part, case_part, else_if_part, FunctionPart, MemberPart, param_refused, type_refused, target_refused, unset_refused, bound, duplicates, is_property}
use Rattle.hph_php.specs.Cost.{total_of, nodes, item_nodes, statement_nodes, statement_nodes_by, member_nodes_of, class_nodes_of, function_nodes_by, case_nodes_by, else_if_nodes_by, param_nodes, target_nodes}
use Rattle.hph_php.specs.Cost as cost
use Rattle.hph_program.specs.Sites.{Numbered, expression, item, each, maybe_expression, type, param, constant_item, property_item, static_variable, foreach_target, statement}
use Rattle.hph_program.specs.Sources.{includes_in, statement_includes, member_includes, class_includes, function_includes, case_includes, else_if_includes}
use Rattle.hph_lowerable.specs.Facts.{facts, expression_fits, written_fits, constant_fits, maybe_fits, constant_item_fits, property_fits, static_fits, param_fits, statement_fits, statement_fits_by, member_fits_by, class_declaration_fits_by, function_fits_by, case_fits_by, else_if_fits_by}
use Rattle.hph_lowerable.specs.Facts as fact
use Rattle.hph_lowerable.proofs.Numbering.{Kept, each_kept}
use Rattle.hph_lowerable.proofs.StatementNumbering.{KeepsNodes, statement_kept}
use Rattle.hph_lowerable.proofs.ExpressionFacts.{nodes_kept, item_nodes_kept, facts_kept, constant_kept, part_kept, item_found_kept}
use Rattle.hph_lowerable.proofs.WholeExpressions.{whole_kept, include_kept, property_kept}

-- ---- lists

pub total_kept : {A : Type 0} (f : A → ℕ) (number : A → Numbered A) → ((a : A) → Kept f number a) → (xs : List A) (n : ℕ) →
    total_of f (each (map number xs) n).0 ≡ total_of f xs
total_kept f number kept [] n = refl
total_kept f number kept (x ∷ xs) n = λ i. kept x n i + total_kept f number kept xs (number x n).1 i

pub all_fit_kept : {A : Type 0} (f : A → Bool) (number : A → Numbered A) → ((a : A) → Kept f number a) → (xs : List A) (n : ℕ) →
    list_all f (each (map number xs) n).0 ≡ list_all f xs
all_fit_kept f number kept [] n = refl
all_fit_kept f number kept (x ∷ xs) n = λ i. kept x n i && all_fit_kept f number kept xs (number x n).1 i

pub all_refused_kept : {A : Type 0} (f : A → Refused) (number : A → Numbered A) → ((a : A) → Kept f number a) → (xs : List A) (n : ℕ) →
    all_in f (each (map number xs) n).0 ≡ all_in f xs
all_refused_kept f number kept [] n = refl
all_refused_kept f number kept (x ∷ xs) n = λ i ctx. kept x n i ctx ++ all_refused_kept f number kept xs (number x n).1 i ctx

-- ---- nodes

maybe_nodes_kept : (o : Option Expr) (n : ℕ) → cost.maybe nodes (maybe_expression o n).0 ≡ cost.maybe nodes o
maybe_nodes_kept None n = refl
maybe_nodes_kept (Some x) n = nodes_kept x n

type_nodes_kept : (o : Option DeclaredType) (n : ℕ) → cost.maybe (λ ty. 1) (type o n).0 ≡ cost.maybe (λ ty. 1) o
type_nodes_kept None n = refl
type_nodes_kept (Some ty) n = refl

param_nodes_kept : (p : Param) → Kept param_nodes param p
param_nodes_kept p n = λ i. suc (type_nodes_kept p.ty (suc n) i + maybe_nodes_kept p.default (type p.ty (suc n)).1 i)

target_nodes_kept : (t : ForeachTarget) (n : ℕ) → target_nodes (foreach_target t n).0 ≡ target_nodes t
target_nodes_kept (target.Variable name) n = refl
target_nodes_kept (target.Reference x ampersand) n = nodes_kept x n
target_nodes_kept (target.Destructure bracket items) n = total_kept item_nodes item item_nodes_kept items n

constant_nodes_kept : (i : ConstantItem) → Kept (λ (i : ConstantItem). suc (nodes i.value)) constant_item i
constant_nodes_kept i n = λ j. suc (nodes_kept i.value n j)

nodes_are_kept : KeepsNodes member_nodes_of statement_nodes_by class_nodes_of function_nodes_by case_nodes_by else_if_nodes_by
nodes_are_kept = record {
  empty = λ at n. refl;
  inline_text = λ at n bytes. refl;
  block = λ at n body. refl;
  alone = λ at n x k. λ i. suc (nodes_kept x k i);
  if_then = λ at n x k body more other. λ i. suc (nodes_kept x k i + (body + (cost.total more + cost.maybe (λ n. n) other)));
  while_loop = λ at n x k body. λ i. suc (nodes_kept x k i + body);
  do_while = λ at n body x k. λ i. suc (body + nodes_kept x k i);
  for_loop = λ at n init k test l step m body. λ i. suc (total_kept nodes expression nodes_kept init k i
      + (total_kept nodes expression nodes_kept test l i + (total_kept nodes expression nodes_kept step m i + body)));
  foreach = λ at n x k key element l body. λ i. suc (nodes_kept x k i + (target_nodes_kept element l i + body));
  switch = λ at n x k cases. λ i. suc (nodes_kept x k i + cost.total cases);
  break = λ at n levels. refl;
  continue = λ at n levels. refl;
  return = λ at n result k. λ i. suc (maybe_nodes_kept result k i);
  echo = λ at n xs k. λ i. suc (total_kept nodes expression nodes_kept xs k i);
  global = λ at n names. refl;
  static = λ at n variables k. λ i. suc (total_kept (λ (v : StaticVariable). suc (cost.maybe nodes v.value)) static_variable
      (λ v n j. suc (maybe_nodes_kept v.value n j)) variables k i);
  unset = λ at n paths k. λ i. suc (total_kept nodes expression nodes_kept paths k i);
  const = λ at n items k. λ i. suc (total_kept (λ (i : ConstantItem). suc (nodes i.value)) constant_item constant_nodes_kept items k i);
  constants = λ at n mods items k. λ i. suc (total_kept (λ (i : ConstantItem). suc (nodes i.value)) constant_item constant_nodes_kept items k i);
  properties = λ at n mods ty k items l. λ i. suc (type_nodes_kept ty k i + total_kept (λ (i : PropertyItem). suc (cost.maybe nodes i.value))
      property_item (λ p n j. suc (maybe_nodes_kept p.value n j)) items l i);
  method = λ at n mods f. refl;
  function_node = λ at n name params k ty l body. λ i. suc (total_kept param_nodes param param_nodes_kept params k i + (type_nodes_kept ty l i + cost.total body));
  class_node = λ at n name parent members. refl;
  case_node = λ at n test k body. λ i. suc (maybe_nodes_kept test k i + cost.total body);
  branch_node = λ test k body. λ i. nodes_kept test k i + body;
}

pub statement_nodes_kept : (x : Statement) → Kept statement_nodes statement x
unfolding statement_nodes
statement_nodes_kept = statement_kept member_nodes_of statement_nodes_by class_nodes_of function_nodes_by case_nodes_by else_if_nodes_by nodes_are_kept

-- ---- whether nodes are as they should be

fits_kept : (x : Expr) → Kept expression_fits expression x
fits_kept x n = λ i. (facts_kept x n i).fits

written_kept : (x : Expr) → Kept written_fits expression x
written_kept x n = λ i. (facts_kept x n i).is_written && (facts_kept x n i).fits

constant_fits_kept : (x : Expr) → Kept constant_fits expression x
constant_fits_kept x n = λ i. constant_kept x n i && (facts_kept x n i).fits

maybe_fits_kept : (f : Expr → Bool) → ((x : Expr) → Kept f expression x) → (o : Option Expr) (n : ℕ) →
    maybe_fits f (maybe_expression o n).0 ≡ maybe_fits f o
maybe_fits_kept f kept None n = refl
maybe_fits_kept f kept (Some x) n = kept x n

constant_item_kept : (i : ConstantItem) → Kept constant_item_fits constant_item i
constant_item_kept i n = constant_fits_kept i.value n

fits_are_kept : KeepsNodes member_fits_by statement_fits_by class_declaration_fits_by function_fits_by case_fits_by else_if_fits_by
fits_are_kept = record {
  empty = λ at n. refl;
  inline_text = λ at n bytes. refl;
  block = λ at n body. refl;
  alone = λ at n x k. fits_kept x k;
  if_then = λ at n x k body more other. λ i. fits_kept x k i && (body && (fact.each more && maybe_fits (λ b. b) other));
  while_loop = λ at n x k body. λ i. fits_kept x k i && body;
  do_while = λ at n body x k. λ i. body && fits_kept x k i;
  for_loop = λ at n init k test l step m body. λ i. all_fit_kept expression_fits expression fits_kept init k i
      && (all_fit_kept expression_fits expression fits_kept test l i && (all_fit_kept expression_fits expression fits_kept step m i && body));
  foreach = λ at n x k key element l body. λ i. fits_kept x k i && body;
  switch = λ at n x k cases. λ i. fits_kept x k i && fact.each cases;
  break = λ at n levels. refl;
  continue = λ at n levels. refl;
  return = λ at n result k. maybe_fits_kept expression_fits fits_kept result k;
  echo = λ at n xs k. all_fit_kept expression_fits expression fits_kept xs k;
  global = λ at n names. refl;
  static = λ at n variables k. all_fit_kept static_fits static_variable (λ v n. maybe_fits_kept constant_fits constant_fits_kept v.value n) variables k;
  unset = λ at n paths k. all_fit_kept written_fits expression written_kept paths k;
  const = λ at n items k. all_fit_kept constant_item_fits constant_item constant_item_kept items k;
  constants = λ at n mods items k. all_fit_kept constant_item_fits constant_item constant_item_kept items k;
  properties = λ at n mods ty k items l. all_fit_kept property_fits property_item (λ p n. maybe_fits_kept constant_fits constant_fits_kept p.value n) items l;
  method = λ at n mods f. refl;
  function_node = λ at n name params k ty l body. λ i. all_fit_kept param_fits param
      (λ p n. maybe_fits_kept constant_fits constant_fits_kept p.default (type p.ty (suc n)).1) params k i && fact.each body;
  class_node = λ at n name parent members. refl;
  case_node = λ at n test k body. λ i. maybe_fits_kept expression_fits fits_kept test k i && fact.each body;
  branch_node = λ test k body. λ i. fits_kept test k i && body;
}

pub statement_fits_kept : (x : Statement) → Kept statement_fits statement x
unfolding statement_fits
statement_fits_kept = statement_kept member_fits_by statement_fits_by class_declaration_fits_by function_fits_by case_fits_by else_if_fits_by fits_are_kept

-- ---- what is refused

refused_kept : (x : Expr) → Kept refused_in expression x
refused_kept x n = λ i. (part_kept x n i).refused

maybe_refused_kept : (o : Option Expr) (n : ℕ) → r.maybe refused_in (maybe_expression o n).0 ≡ r.maybe refused_in o
maybe_refused_kept None n = refl
maybe_refused_kept (Some x) n = refused_kept x n

type_refused_kept : (o : Option DeclaredType) (n : ℕ) → r.maybe type_refused (type o n).0 ≡ r.maybe type_refused o
type_refused_kept None n = refl
type_refused_kept (Some ty) n = refl

param_refused_kept : (p : Param) → Kept param_refused param p
param_refused_kept p n = λ i ctx. type_refused_kept p.ty (suc n) i ctx ++ (bound p.name ctx ++ maybe_refused_kept p.default (type p.ty (suc n)).1 i ctx)

param_names_kept : (ps : List Param) (n : ℕ) → map (λ (p : Param). p.name) (each (map param ps) n).0 ≡ map (λ (p : Param). p.name) ps
param_names_kept ps n = each_kept (λ (p : Param). p.name) param (λ p n. refl) ps n

target_refused_kept : (t : ForeachTarget) (n : ℕ) → target_refused (foreach_target t n).0 ≡ target_refused t
target_refused_kept (target.Variable name) n = refl
target_refused_kept (target.Reference x ampersand) n = λ i ctx. (c.RefElement, ampersand)
    ∷ (this_written (part_kept x n i) ++ (part_kept x n i).refused ctx)
target_refused_kept (target.Destructure bracket items) n = λ i ctx. (c.Destructure, bracket) ∷ all_refused_kept item_found item item_found_kept items n i ctx

unset_refused_kept : (x : Expr) → Kept unset_refused expression x
unset_refused_kept x n = λ i ctx. on_true (property_kept x n i) c.UnsetProperty (part_kept x n i).start
    ++ (this_written (part_kept x n i) ++ (part_kept x n i).refused ctx)

item_refused_kept : (i : ConstantItem) → Kept (λ (i : ConstantItem). refused_in i.value) constant_item i
item_refused_kept i n = refused_kept i.value n

item_names_kept : (is : List ConstantItem) (n : ℕ) → map (λ (i : ConstantItem). i.name) (each (map constant_item is) n).0 ≡ map (λ (i : ConstantItem). i.name) is
item_names_kept is n = each_kept (λ (i : ConstantItem). i.name) constant_item (λ i n. refl) is n

property_names_kept : (is : List PropertyItem) (n : ℕ) → map (λ (i : PropertyItem). i.name) (each (map property_item is) n).0 ≡ map (λ (i : PropertyItem). i.name) is
property_names_kept is n = each_kept (λ (i : PropertyItem). i.name) property_item (λ i n. refl) is n

refusals_are_kept : KeepsNodes member_part statement_part class_part function_part case_part else_if_part
refusals_are_kept = record {
  empty = λ at n. refl;
  inline_text = λ at n bytes. refl;
  block = λ at n body. refl;
  alone = λ at n x k. whole_kept x k;
  if_then = λ at n x k body more other. λ i ctx. refused_kept x k i ctx ++ (body ctx ++ (all_in (λ b. b) more ctx ++ r.maybe (λ s. s) other ctx));
  while_loop = λ at n x k body. λ i ctx. refused_kept x k i ctx ++ body (r.in_loop ctx);
  do_while = λ at n body x k. λ i ctx. body (r.in_loop ctx) ++ refused_kept x k i ctx;
  for_loop = λ at n init k test l step m body. λ i ctx. all_refused_kept refused_in expression refused_kept init k i ctx
      ++ (all_refused_kept refused_in expression refused_kept test l i ctx
      ++ (all_refused_kept refused_in expression refused_kept step m i ctx ++ body (r.in_loop ctx)));
  foreach = λ at n x k key element l body. λ i ctx. refused_kept x k i ctx
      ++ (r.maybe bound key ctx ++ (target_refused_kept element l i ctx ++ body (r.in_loop ctx)));
  switch = λ at n x k cases. λ i ctx. refused_kept x k i ctx ++ all_in (λ k. k) cases (r.in_loop ctx);
  break = λ at n levels. refl;
  continue = λ at n levels. refl;
  return = λ at n result k. maybe_refused_kept result k;
  echo = λ at n xs k. all_refused_kept refused_in expression refused_kept xs k;
  global = λ at n names. refl;
  static = λ at n variables k. λ i ctx. r.static_place at ctx ++ all_refused_kept (λ (v : StaticVariable) ctx. bound v.name ctx ++ r.maybe refused_in v.value ctx)
      static_variable (λ v n j ctx. bound v.name ctx ++ maybe_refused_kept v.value n j ctx) variables k i ctx;
  unset = λ at n paths k. all_refused_kept unset_refused expression unset_refused_kept paths k;
  const = λ at n items k. all_refused_kept (λ (i : ConstantItem). refused_in i.value) constant_item item_refused_kept items k;
  constants = λ at n mods items k. λ i. record {
    sort = r.constants;
    names = item_names_kept items k i;
    refused = all_refused_kept (λ (i : ConstantItem). refused_in i.value) constant_item item_refused_kept items k i;
  };
  properties = λ at n mods ty k items l. λ i. record {
    sort = r.properties;
    names = property_names_kept items l i;
    refused = λ ctx. type_refused_kept ty k i ctx ++ all_refused_kept (λ (i : PropertyItem). r.maybe refused_in i.value) property_item
        (λ p n. maybe_refused_kept p.value n) items l i ctx;
  };
  method = λ at n mods f. refl;
  function_node = λ at n name params k ty l body. λ i. record {
    name = name;
    refused = λ ctx. all_refused_kept param_refused param param_refused_kept params k i ctx
        ++ (duplicates bytes_eq [] (param_names_kept params k i) ++ (type_refused_kept ty l i ctx ++ all_in (λ x. x) body ctx));
  };
  class_node = λ at n name parent members. refl;
  case_node = λ at n test k body. λ i ctx. maybe_refused_kept test k i ctx ++ all_in (λ s. s) body ctx;
  branch_node = λ test k body. λ i ctx. refused_kept test k i ctx ++ body ctx;
}

pub statement_refused_kept : (x : Statement) → Kept statement_refused statement x
unfolding statement_refused
statement_refused_kept = statement_kept member_part statement_part class_part function_part case_part else_if_part refusals_are_kept

-- ---- includes

includes_are_kept : KeepsNodes member_includes statement_includes class_includes function_includes case_includes else_if_includes
includes_are_kept = record {
  empty = λ at n. refl;
  inline_text = λ at n bytes. refl;
  block = λ at n body. refl;
  alone = λ at n x k. include_kept x k;
  if_then = λ at n x k body more other. refl;
  while_loop = λ at n x k body. refl;
  do_while = λ at n body x k. refl;
  for_loop = λ at n init k test l step m body. refl;
  foreach = λ at n x k key element l body. refl;
  switch = λ at n x k cases. refl;
  break = λ at n levels. refl;
  continue = λ at n levels. refl;
  return = λ at n result k. refl;
  echo = λ at n xs k. refl;
  global = λ at n names. refl;
  static = λ at n variables k. refl;
  unset = λ at n paths k. refl;
  const = λ at n items k. refl;
  constants = λ at n mods items k. refl;
  properties = λ at n mods ty k items l. refl;
  method = λ at n mods f. refl;
  function_node = λ at n name params k ty l body. refl;
  class_node = λ at n name parent members. refl;
  case_node = λ at n test k body. refl;
  branch_node = λ test k body. refl;
}

pub statement_includes_kept : (x : Statement) → Kept includes_in statement x
unfolding includes_in
statement_includes_kept = statement_kept member_includes statement_includes class_includes function_includes case_includes else_if_includes includes_are_kept
