-- Statements with what they mean and the declarations in them, put together from those of their parts by the equations of the nodes.
use Rattle.std.specs.Prelude.{◌≡◌, ℕ, Bool, List, [], ◌∷◌, ◌++◌, map, flat_map, Option, None, Some, refl}
use Rattle.std.specs.Option.{option_map}
use Rattle.std.proofs.Common.{◌∙◌}
use denote.Hole.Carrier.{out, roll, shown, hidden}
use Rattle.hph_ast.specs.declared.class.Member.TheBlock.{shown-the_row-Function-1, shown-the_row-Class-3}
use Rattle.hph_ast.specs.declared.token.Identifier.{Identifier}
use Rattle.hph_ast.specs.declared.expr.Expr.{Expr}
use Rattle.hph_ast.specs.declared.stmt.Statement.{Statement, roll-Statement}
use Rattle.hph_ast.specs.declared.stmt.Case.{Case, roll-Case}
use Rattle.hph_ast.specs.declared.stmt.ElseIf.{ElseIf, roll-ElseIf}
use Rattle.hph_ast.specs.declared.stmt.StaticVariable.{StaticVariable}
use Rattle.hph_ast.specs.declared.stmt.ForeachTarget.TheVariants as target
use Rattle.hph_ast.specs.declared.function.Function.{Function, roll-Function}
use Rattle.hph_ast.specs.declared.function.Param.{Param}
use Rattle.hph_ast.specs.declared.class.Class.{Class, roll-Class}
use Rattle.hph_ast.specs.declared.class.Modifiers.{Modifiers}
use Rattle.hph_ast.specs.declared.class.ConstantItem.{ConstantItem}
use Rattle.hph_ast.specs.declared.class.PropertyItem.{PropertyItem}
use Rattle.hph_ast.specs.declared.class.Member.{Member, roll-Member}
use Rattle.hph_ast.specs.declared.class.Member.TheOpen.{Member-F, Statement-F, Class-F, Function-F, Case-F, ElseIf-F}
use Rattle.hph_ast.specs.declared.class.Member.TheFolds.{map-Member, map-Statement, map-Class, map-Function, map-Case, map-ElseIf, para-Member, para-Class, para-Function, para-Case, para-ElseIf, para-roll-Member, para-roll-Statement, para-roll-Class, para-roll-Function, para-roll-Case, para-roll-ElseIf}
use Rattle.hph_php.specs.Answers.{Means, bind, give, nothing, in_order, print}
use Rattle.hph_php.specs.Values.{Value}
use Rattle.hph_php.specs.State.{Name}
use Rattle.hph_php.specs.World.{World, Context}
use Rattle.hph_php.specs.Calls.{Parameter}
use Rattle.hph_php.specs.Operations.{echo}
use Rattle.hph_php.specs.Expressions.{reading, evaluate}
use Rattle.hph_php.specs.Statements.{Way, goes_on, block, branches, truth, loop, loop_after, for_loop, dropped, all_dropped, foreach, switch, static_variable_with, define_constant, return_with}
use Rattle.hph_php.specs.Statements as s
use Rattle.hph_php.specs.Executions.{execute, statement_by, function_statement, class_statement, unset_statement, static_statement, constant_statement, values}
use Rattle.hph_php.specs.Declarations.{a_function, a_class, a_method, Found, With, WithMember, a_static, static_number, site_at, declarations_in, member_found, statement_found, class_found, function_found, case_found, else_if_found}
use Rattle.hph_php.specs.Run.{parameters, parameter, body_value, result_of}
use Rattle.hph_php.proofs.Levels.{function_place, case_meaning, branch_meaning, statement_rolled, function_rolled, class_place_rolled, case_rolled, branch_rolled}
use Rattle.hph_facts.proofs.KnownExpressions.{at0, KnownExpression}

-- ---- the declarations in each part

unfoldable pub in_member : Member → ℕ → Found
in_member = para-Member (ℕ → Found) Found Found Found Found Found member_found statement_found class_found function_found case_found else_if_found

unfoldable pub in_class : Class → Found
in_class = para-Class (ℕ → Found) Found Found Found Found Found member_found statement_found class_found function_found case_found else_if_found

unfoldable pub in_function : Function → Found
in_function = para-Function (ℕ → Found) Found Found Found Found Found member_found statement_found class_found function_found case_found else_if_found

unfoldable pub in_case : Case → Found
in_case = para-Case (ℕ → Found) Found Found Found Found Found member_found statement_found class_found function_found case_found else_if_found

unfoldable pub in_branch : ElseIf → Found
in_branch = para-ElseIf (ℕ → Found) Found Found Found Found Found member_found statement_found class_found function_found case_found else_if_found

pub member_finds : (d : Member-F Member Statement Class Function Case ElseIf) → in_member (roll-Member d) ≡ member_found
    (map-Member Member Statement Class Function Case ElseIf WithMember (With Statement) (With Class) (With Function) (With Case) (With ElseIf)
    (λ t. (t, in_member t)) (λ t. (t, declarations_in t)) (λ t. (t, in_class t)) (λ t. (t, in_function t)) (λ t. (t, in_case t)) (λ t. (t, in_branch t)) d)
unfolding declarations_in in_member in_class in_function in_case in_branch
member_finds d = para-roll-Member (ℕ → Found) Found Found Found Found Found member_found statement_found class_found function_found case_found else_if_found d

pub statement_finds : (d : Statement-F Member Statement Class Function Case ElseIf) → declarations_in (roll-Statement d) ≡ statement_found
    (map-Statement Member Statement Class Function Case ElseIf WithMember (With Statement) (With Class) (With Function) (With Case) (With ElseIf)
    (λ t. (t, in_member t)) (λ t. (t, declarations_in t)) (λ t. (t, in_class t)) (λ t. (t, in_function t)) (λ t. (t, in_case t)) (λ t. (t, in_branch t)) d)
unfolding declarations_in in_member in_class in_function in_case in_branch
statement_finds d = para-roll-Statement (ℕ → Found) Found Found Found Found Found member_found statement_found class_found function_found case_found else_if_found d

pub class_finds : (d : Class-F Member Statement Class Function Case ElseIf) → in_class (roll-Class d) ≡ class_found
    (map-Class Member Statement Class Function Case ElseIf WithMember (With Statement) (With Class) (With Function) (With Case) (With ElseIf)
    (λ t. (t, in_member t)) (λ t. (t, declarations_in t)) (λ t. (t, in_class t)) (λ t. (t, in_function t)) (λ t. (t, in_case t)) (λ t. (t, in_branch t)) d)
unfolding declarations_in in_member in_class in_function in_case in_branch
class_finds d = para-roll-Class (ℕ → Found) Found Found Found Found Found member_found statement_found class_found function_found case_found else_if_found d

pub function_finds : (d : Function-F Member Statement Class Function Case ElseIf) → in_function (roll-Function d) ≡ function_found
    (map-Function Member Statement Class Function Case ElseIf WithMember (With Statement) (With Class) (With Function) (With Case) (With ElseIf)
    (λ t. (t, in_member t)) (λ t. (t, declarations_in t)) (λ t. (t, in_class t)) (λ t. (t, in_function t)) (λ t. (t, in_case t)) (λ t. (t, in_branch t)) d)
unfolding declarations_in in_member in_class in_function in_case in_branch
function_finds d = para-roll-Function (ℕ → Found) Found Found Found Found Found member_found statement_found class_found function_found case_found else_if_found d

pub case_finds : (d : Case-F Member Statement Class Function Case ElseIf) → in_case (roll-Case d) ≡ case_found
    (map-Case Member Statement Class Function Case ElseIf WithMember (With Statement) (With Class) (With Function) (With Case) (With ElseIf)
    (λ t. (t, in_member t)) (λ t. (t, declarations_in t)) (λ t. (t, in_class t)) (λ t. (t, in_function t)) (λ t. (t, in_case t)) (λ t. (t, in_branch t)) d)
unfolding declarations_in in_member in_class in_function in_case in_branch
case_finds d = para-roll-Case (ℕ → Found) Found Found Found Found Found member_found statement_found class_found function_found case_found else_if_found d

pub branch_finds : (d : ElseIf-F Member Statement Class Function Case ElseIf) → in_branch (roll-ElseIf d) ≡ else_if_found
    (map-ElseIf Member Statement Class Function Case ElseIf WithMember (With Statement) (With Class) (With Function) (With Case) (With ElseIf)
    (λ t. (t, in_member t)) (λ t. (t, declarations_in t)) (λ t. (t, in_class t)) (λ t. (t, in_function t)) (λ t. (t, in_case t)) (λ t. (t, in_branch t)) d)
unfolding declarations_in in_member in_class in_function in_case in_branch
branch_finds d = para-roll-ElseIf (ℕ → Found) Found Found Found Found Found member_found statement_found class_found function_found case_found else_if_found d

-- ---- lists and options of expressions

abbrev pub trees : List KnownExpression → List Expr
trees ks = map (λ (k : KnownExpression). k.tree) ks

abbrev pub tree_of : Option KnownExpression → Option Expr
tree_of o = option_map (λ (k : KnownExpression). k.tree) o

module _ (w : World) (c : Context) where
  abbrev pub value_of : KnownExpression → Means Value
  value_of k = (k.means w c).value

  abbrev pub values_of : List KnownExpression → List (Means Value)
  values_of ks = map value_of ks

  pub values_are : (ks : List KnownExpression) → values w c (trees ks) ≡ values_of ks
  values_are [] = refl
  values_are (k ∷ ks) = λ i. (k.is w c i).value ∷ values_are ks i

  pub value_is : (o : Option KnownExpression) → option_map (evaluate w c) (tree_of o) ≡ option_map value_of o
  value_is None = refl
  value_is (Some k) = λ i. Some (k.is w c i).value

-- ---- statements

pub record KnownStatement : Type 0 where
  pub tree : Statement
  pub means : World → Context → Means Way
  pub is : (w : World) (c : Context) → execute w c tree ≡ means w c
  pub found : Found
  pub finds : declarations_in tree ≡ found

abbrev pub statements : List KnownStatement → List Statement
statements ks = map (λ (k : KnownStatement). k.tree) ks

abbrev pub each_means : World → Context → List KnownStatement → List (Means Way)
each_means w c ks = map (λ (k : KnownStatement). k.means w c) ks

pub each_is : (w : World) (c : Context) (ks : List KnownStatement) → map (execute w c) (statements ks) ≡ each_means w c ks
each_is w c [] = refl
each_is w c (k ∷ ks) = λ i. k.is w c i ∷ each_is w c ks i

abbrev pub all_found : List KnownStatement → Found
all_found ks = flat_map (λ (k : KnownStatement). k.found) ks

pub all_finds : (ks : List KnownStatement) → flat_map declarations_in (statements ks) ≡ all_found ks
all_finds [] = refl
all_finds (k ∷ ks) = λ i. k.finds i ++ all_finds ks i

pub body_finds : (ks : List KnownStatement) →
    flat_map (λ (s : With Statement). s.1) (map {B = With Statement} (λ t. (t, declarations_in t)) (statements ks)) ≡ all_found ks
body_finds [] = refl
body_finds (k ∷ ks) = λ i. k.finds i ++ body_finds ks i

abbrev pub does : KnownExpression → KnownStatement
does k = record {
  tree = roll-Statement (Statement-F.Expression at0 k.tree);
  means = λ w c. goes_on (dropped (value_of w c k));
  is = λ w c. statement_rolled w c (Statement-F.Expression at0 k.tree) ∙ (λ i. goes_on (dropped (k.is w c i).value));
  found = [];
  finds = statement_finds (Statement-F.Expression at0 k.tree);
}

abbrev pub shows : List KnownExpression → KnownStatement
shows ks = record {
  tree = roll-Statement (Statement-F.Echo at0 (trees ks));
  means = λ w c. goes_on (in_order (map echo (values_of w c ks)));
  is = λ w c. statement_rolled w c (Statement-F.Echo at0 (trees ks)) ∙ (λ i. goes_on (in_order (map echo (values_are w c ks i))));
  found = [];
  finds = statement_finds (Statement-F.Echo at0 (trees ks));
}

abbrev pub inline_text : List ℕ → KnownStatement
inline_text bytes = record {
  tree = roll-Statement (Statement-F.InlineText at0 bytes);
  means = λ w c. goes_on (print bytes);
  is = λ w c. statement_rolled w c (Statement-F.InlineText at0 bytes);
  found = [];
  finds = statement_finds (Statement-F.InlineText at0 bytes);
}

abbrev pub empty : KnownStatement
empty = record {
  tree = roll-Statement (Statement-F.Empty at0);
  means = λ w c. give s.Next;
  is = λ w c. statement_rolled w c (Statement-F.Empty at0);
  found = [];
  finds = statement_finds (Statement-F.Empty at0);
}

abbrev pub breaks : Option ℕ → KnownStatement
breaks levels = record {
  tree = roll-Statement (Statement-F.Break at0 levels);
  means = λ w c. give (s.Breaks (s.level_of levels));
  is = λ w c. statement_rolled w c (Statement-F.Break at0 levels);
  found = [];
  finds = statement_finds (Statement-F.Break at0 levels);
}

abbrev pub continues : Option ℕ → KnownStatement
continues levels = record {
  tree = roll-Statement (Statement-F.Continue at0 levels);
  means = λ w c. give (s.Continues (s.level_of levels));
  is = λ w c. statement_rolled w c (Statement-F.Continue at0 levels);
  found = [];
  finds = statement_finds (Statement-F.Continue at0 levels);
}

abbrev pub gives : Option KnownExpression → KnownStatement
gives o = record {
  tree = roll-Statement (Statement-F.Return at0 (tree_of o));
  means = λ w c. return_with (option_map (value_of w c) o);
  is = λ w c. statement_rolled w c (Statement-F.Return at0 (tree_of o)) ∙ (λ i. return_with (value_is w c o i));
  found = [];
  finds = statement_finds (Statement-F.Return at0 (tree_of o));
}

abbrev pub body : List KnownStatement → KnownStatement
body ks = record {
  tree = roll-Statement (Statement-F.Block at0 (statements ks));
  means = λ w c. block (each_means w c ks);
  is = λ w c. statement_rolled w c (Statement-F.Block at0 (statements ks)) ∙ (λ i. block (each_is w c ks i));
  found = all_found ks;
  finds = statement_finds (Statement-F.Block at0 (statements ks)) ∙ body_finds ks;
}

abbrev pub while_ : KnownExpression → KnownStatement → KnownStatement
while_ e k = record {
  tree = roll-Statement (Statement-F.While at0 e.tree k.tree);
  means = λ w c. loop (truth (value_of w c e)) nothing (k.means w c);
  is = λ w c. statement_rolled w c (Statement-F.While at0 e.tree k.tree) ∙ (λ i. loop (truth (e.is w c i).value) nothing (k.is w c i));
  found = k.found;
  finds = statement_finds (Statement-F.While at0 e.tree k.tree) ∙ k.finds;
}

abbrev pub do_while : KnownStatement → KnownExpression → KnownStatement
do_while k e = record {
  tree = roll-Statement (Statement-F.DoWhile at0 k.tree e.tree);
  means = λ w c. loop_after (truth (value_of w c e)) (k.means w c);
  is = λ w c. statement_rolled w c (Statement-F.DoWhile at0 k.tree e.tree) ∙ (λ i. loop_after (truth (e.is w c i).value) (k.is w c i));
  found = k.found;
  finds = statement_finds (Statement-F.DoWhile at0 k.tree e.tree) ∙ k.finds;
}

abbrev pub for_ : List KnownExpression → List KnownExpression → List KnownExpression → KnownStatement → KnownStatement
for_ init test step k = record {
  tree = roll-Statement (Statement-F.For at0 (trees init) (trees test) (trees step) k.tree);
  means = λ w c. for_loop (values_of w c init) (values_of w c test) (values_of w c step) (k.means w c);
  is = λ w c. statement_rolled w c (Statement-F.For at0 (trees init) (trees test) (trees step) k.tree)
      ∙ (λ i. for_loop (values_are w c init i) (values_are w c test i) (values_are w c step i) (k.is w c i));
  found = k.found;
  finds = statement_finds (Statement-F.For at0 (trees init) (trees test) (trees step) k.tree) ∙ k.finds;
}

abbrev pub named : Name → Identifier
named name = record { start = 0; end = 0; spelled = name }

abbrev pub foreach_ : KnownExpression → Option Name → Name → KnownStatement → KnownStatement
foreach_ e key value k = record {
  tree = roll-Statement (Statement-F.Foreach at0 e.tree (option_map named key) (target.Variable (named value)) k.tree);
  means = λ w c. foreach (value_of w c e) (option_map (λ (i : Identifier). i.spelled) (option_map named key)) value (k.means w c);
  is = λ w c. statement_rolled w c (Statement-F.Foreach at0 e.tree (option_map named key) (target.Variable (named value)) k.tree)
      ∙ (λ i. foreach (e.is w c i).value (option_map (λ (i : Identifier). i.spelled) (option_map named key)) value (k.is w c i));
  found = k.found;
  finds = statement_finds (Statement-F.Foreach at0 e.tree (option_map named key) (target.Variable (named value)) k.tree) ∙ k.finds;
}

-- ---- branches

pub record KnownBranch : Type 0 where
  pub tree : ElseIf
  pub means : World → Context → Means Value × Means Way
  pub is : (w : World) (c : Context) → branch_meaning w c tree ≡ means w c
  pub found : Found
  pub finds : in_branch tree ≡ found

abbrev pub else_if : KnownExpression → KnownStatement → KnownBranch
else_if e k = record {
  tree = roll-ElseIf (record { test = e.tree; body = k.tree });
  means = λ w c. (value_of w c e, k.means w c);
  is = λ w c. branch_rolled w c (record { test = e.tree; body = k.tree }) ∙ (λ i. ((e.is w c i).value, k.is w c i));
  found = k.found;
  finds = branch_finds (record { test = e.tree; body = k.tree }) ∙ k.finds;
}

abbrev pub branch_trees : List KnownBranch → List ElseIf
branch_trees bs = map (λ (b : KnownBranch). b.tree) bs

pub branches_are : (w : World) (c : Context) (bs : List KnownBranch) → map (branch_meaning w c) (branch_trees bs) ≡ map (λ (b : KnownBranch). b.means w c) bs
branches_are w c [] = refl
branches_are w c (b ∷ bs) = λ i. b.is w c i ∷ branches_are w c bs i

pub branches_find : (bs : List KnownBranch) →
    flat_map (λ (s : With ElseIf). s.1) (map {B = With ElseIf} (λ t. (t, in_branch t)) (branch_trees bs)) ≡ flat_map (λ (b : KnownBranch). b.found) bs
branches_find [] = refl
branches_find (b ∷ bs) = λ i. b.finds i ++ branches_find bs i

-- the branch of `else`, where there is none it goes on
abbrev pub other_tree : Option KnownStatement → Option Statement
other_tree None = None
other_tree (Some k) = Some k.tree

abbrev pub other_means : World → Context → Option KnownStatement → Means Way
other_means w c None = give s.Next
other_means w c (Some k) = k.means w c

abbrev pub other_found : Option KnownStatement → Found
other_found None = []
other_found (Some k) = k.found

pub if_is : (w : World) (c : Context) (e : KnownExpression) (k : KnownStatement) (bs : List KnownBranch) (o : Option KnownStatement) →
    execute w c (roll-Statement (Statement-F.If at0 e.tree k.tree (branch_trees bs) (other_tree o)))
    ≡ branches ((value_of w c e, k.means w c) ∷ map (λ (b : KnownBranch). b.means w c) bs) (other_means w c o)
if_is w c e k bs None = statement_rolled w c (Statement-F.If at0 e.tree k.tree (branch_trees bs) None)
    ∙ (λ i. branches (((e.is w c i).value, k.is w c i) ∷ branches_are w c bs i) (give s.Next))
if_is w c e k bs (Some o) = statement_rolled w c (Statement-F.If at0 e.tree k.tree (branch_trees bs) (Some o.tree))
    ∙ (λ i. branches (((e.is w c i).value, k.is w c i) ∷ branches_are w c bs i) (o.is w c i))

pub if_finds : (e : KnownExpression) (k : KnownStatement) (bs : List KnownBranch) (o : Option KnownStatement) →
    declarations_in (roll-Statement (Statement-F.If at0 e.tree k.tree (branch_trees bs) (other_tree o)))
    ≡ k.found ++ (flat_map (λ (b : KnownBranch). b.found) bs ++ other_found o)
if_finds e k bs None = statement_finds (Statement-F.If at0 e.tree k.tree (branch_trees bs) None) ∙ (λ i. k.finds i ++ (branches_find bs i ++ []))
if_finds e k bs (Some o) =
    statement_finds (Statement-F.If at0 e.tree k.tree (branch_trees bs) (Some o.tree)) ∙ (λ i. k.finds i ++ (branches_find bs i ++ o.finds i))

abbrev pub if_ : KnownExpression → KnownStatement → List KnownBranch → Option KnownStatement → KnownStatement
if_ e k bs o = record {
  tree = roll-Statement (Statement-F.If at0 e.tree k.tree (branch_trees bs) (other_tree o));
  means = λ w c. branches ((value_of w c e, k.means w c) ∷ map (λ (b : KnownBranch). b.means w c) bs) (other_means w c o);
  is = λ w c. if_is w c e k bs o;
  found = k.found ++ (flat_map (λ (b : KnownBranch). b.found) bs ++ other_found o);
  finds = if_finds e k bs o;
}

-- ---- switch

pub record KnownCase : Type 0 where
  pub tree : Case
  pub means : World → Context → s.Case
  pub is : (w : World) (c : Context) → case_meaning w c tree ≡ means w c
  pub found : Found
  pub finds : in_case tree ≡ found

abbrev pub case_ : Option KnownExpression → List KnownStatement → KnownCase
case_ o ks = record {
  tree = roll-Case (record { at = at0; test = tree_of o; body = statements ks });
  means = λ w c. record { test = option_map (value_of w c) o; body = block (each_means w c ks) };
  is = λ w c. case_rolled w c (record { at = at0; test = tree_of o; body = statements ks })
      ∙ (λ i. record { test = value_is w c o i; body = block (each_is w c ks i) });
  found = all_found ks;
  finds = case_finds (record { at = at0; test = tree_of o; body = statements ks }) ∙ body_finds ks;
}

abbrev pub case_trees : List KnownCase → List Case
case_trees cs = map (λ (c : KnownCase). c.tree) cs

pub cases_are : (w : World) (c : Context) (cs : List KnownCase) → map (case_meaning w c) (case_trees cs) ≡ map (λ (k : KnownCase). k.means w c) cs
cases_are w c [] = refl
cases_are w c (k ∷ ks) = λ i. k.is w c i ∷ cases_are w c ks i

pub cases_find : (cs : List KnownCase) →
    flat_map (λ (s : With Case). s.1) (map {B = With Case} (λ t. (t, in_case t)) (case_trees cs)) ≡ flat_map (λ (k : KnownCase). k.found) cs
cases_find [] = refl
cases_find (k ∷ ks) = λ i. k.finds i ++ cases_find ks i

abbrev pub switch_ : KnownExpression → List KnownCase → KnownStatement
switch_ e cs = record {
  tree = roll-Statement (Statement-F.Switch at0 e.tree (case_trees cs));
  means = λ w c. switch (value_of w c e) (map (λ (k : KnownCase). k.means w c) cs);
  is = λ w c. statement_rolled w c (Statement-F.Switch at0 e.tree (case_trees cs)) ∙ (λ i. switch (e.is w c i).value (cases_are w c cs i));
  found = flat_map (λ (k : KnownCase). k.found) cs;
  finds = statement_finds (Statement-F.Switch at0 e.tree (case_trees cs)) ∙ cases_find cs;
}

-- ---- variables and constants

abbrev pub globals : List Name → KnownStatement
globals names = record {
  tree = roll-Statement (Statement-F.Global at0 (map named names));
  means = λ w c. statement_by w c (Statement-F.Global at0 (map named names));
  is = λ w c. statement_rolled w c (Statement-F.Global at0 (map named names));
  found = [];
  finds = statement_finds (Statement-F.Global at0 (map named names));
}

-- a name at an offset, with a value if it has one
pub record KnownVariable : Type 0 where
  pub start : ℕ
  pub name : Name
  pub value : Option KnownExpression

abbrev pub identifier : KnownVariable → Identifier
identifier v = record { start = v.start; end = v.start; spelled = v.name }

abbrev pub static_trees : List KnownVariable → List StaticVariable
static_trees vs = map {B = StaticVariable} (λ (v : KnownVariable). record { name = identifier v; value = tree_of v.value }) vs

abbrev pub static_meaning : World → Context → KnownVariable → Means (Unit {0})
static_meaning w c v = static_variable_with (static_number c.program (site_at c.file v.start)) v.name (option_map (value_of w c) v.value)

pub statics_are : (w : World) (c : Context) (vs : List KnownVariable) → map (static_statement w c) (static_trees vs) ≡ map (static_meaning w c) vs
statics_are w c [] = refl
statics_are w c (v ∷ vs) = λ i. static_variable_with (static_number c.program (site_at c.file v.start)) v.name (value_is w c v.value i) ∷ statics_are w c vs i

abbrev pub statics : List KnownVariable → KnownStatement
statics vs = record {
  tree = roll-Statement (Statement-F.Static at0 (static_trees vs));
  means = λ w c. goes_on (in_order (map (static_meaning w c) vs));
  is = λ w c. statement_rolled w c (Statement-F.Static at0 (static_trees vs)) ∙ (λ i. goes_on (in_order (statics_are w c vs i)));
  found = map (λ (v : StaticVariable). a_static v.name.start) (static_trees vs);
  finds = statement_finds (Statement-F.Static at0 (static_trees vs));
}

pub unsets_are : (w : World) (c : Context) (ks : List KnownExpression) →
    map (λ x. unset_statement w c (reading w c x)) (trees ks) ≡ map (λ (k : KnownExpression). unset_statement w c (k.means w c)) ks
unsets_are w c [] = refl
unsets_are w c (k ∷ ks) = λ i. unset_statement w c (k.is w c i) ∷ unsets_are w c ks i

abbrev pub unsets : List KnownExpression → KnownStatement
unsets ks = record {
  tree = roll-Statement (Statement-F.Unset at0 (trees ks));
  means = λ w c. goes_on (in_order (map (λ (k : KnownExpression). unset_statement w c (k.means w c)) ks));
  is = λ w c. statement_rolled w c (Statement-F.Unset at0 (trees ks)) ∙ (λ i. goes_on (in_order (unsets_are w c ks i)));
  found = [];
  finds = statement_finds (Statement-F.Unset at0 (trees ks));
}

-- a name at an offset with its value
pub record KnownConstant : Type 0 where
  pub start : ℕ
  pub name : Name
  pub value : KnownExpression

abbrev pub constant_trees : List KnownConstant → List ConstantItem
constant_trees cs =
    map {B = ConstantItem} (λ (k : KnownConstant). record { name = record { start = k.start; end = k.start; spelled = k.name }; value = k.value.tree }) cs

abbrev pub constant_meaning : World → Context → KnownConstant → Means (Unit {0})
constant_meaning w c k = define_constant k.name (value_of w c k.value)

pub constants_are : (w : World) (c : Context) (ks : List KnownConstant) → map (constant_statement w c) (constant_trees ks) ≡ map (constant_meaning w c) ks
constants_are w c [] = refl
constants_are w c (k ∷ ks) = λ i. define_constant k.name (k.value.is w c i).value ∷ constants_are w c ks i

abbrev pub constants : List KnownConstant → KnownStatement
constants ks = record {
  tree = roll-Statement (Statement-F.Const at0 (constant_trees ks));
  means = λ w c. goes_on (in_order (map (constant_meaning w c) ks));
  is = λ w c. statement_rolled w c (Statement-F.Const at0 (constant_trees ks)) ∙ (λ i. goes_on (in_order (constants_are w c ks i)));
  found = [];
  finds = statement_finds (Statement-F.Const at0 (constant_trees ks));
}

-- ---- functions

pub record KnownParameter : Type 0 where
  pub by_reference : Bool
  pub name : Name
  pub default : Option KnownExpression

abbrev pub parameter_tree : KnownParameter → Param
parameter_tree p = record { at = at0; ty = None; by_reference = p.by_reference; name = named p.name; default = tree_of p.default }

abbrev pub parameter_meaning : World → Context → KnownParameter → Parameter
parameter_meaning w c p = record { name = p.name; default = option_map (value_of w c) p.default }

pub parameters_are : (w : World) (c : Context) (ps : List KnownParameter) → map (parameter w c) (map parameter_tree ps) ≡ map (parameter_meaning w c) ps
parameters_are w c [] = refl
parameters_are w c (p ∷ ps) = λ i. record { name = p.name; default = value_is w c p.default i } ∷ parameters_are w c ps i

-- a function with its name and the offset where it begins
pub record KnownFunction : Type 0 where
  pub start : ℕ
  pub name : Name
  pub params : List KnownParameter
  pub statements : List KnownStatement

abbrev pub function_layer : KnownFunction → Function-F Member Statement Class Function Case ElseIf
function_layer f = record {
  at = record { start = f.start; end = f.start; site = 0 };
  name = named f.name;
  params = map parameter_tree f.params;
  result = None;
  body = statements f.statements;
}

abbrev pub function_tree : KnownFunction → Function
function_tree f = roll-Function (function_layer f)

pub function_place_is : (w : World) (c : Context) (f : KnownFunction) → function_place w c (function_tree f) ≡ record { name = f.name; offset = f.start }
function_place_is w c f = function_rolled w c (function_layer f)

-- the declarations in a function
pub function_inner : (f : KnownFunction) → in_function (function_tree f) ≡ all_found f.statements
function_inner f = function_finds (function_layer f) ∙ body_finds f.statements

abbrev pub body_meaning : KnownFunction → World → Context → Means Value
body_meaning f w c = bind (block (each_means w c f.statements)) (λ way. give (result_of way))

pub body_is : (w : World) (c : Context) (f : KnownFunction) → body_value w c (function_tree f) ≡ body_meaning f w c
unfolding shown-the_row-Function-1 shown-the_row-Class-3 shown hidden out roll
body_is w c f = λ i. bind (block (each_is w c f.statements i)) (λ way. give (result_of way))

abbrev pub parameters_meaning : KnownFunction → World → Context → List Parameter
parameters_meaning f w c = map (parameter_meaning w c) f.params

pub parameters_is : (w : World) (c : Context) (f : KnownFunction) → parameters w c (function_tree f) ≡ parameters_meaning f w c
unfolding shown-the_row-Function-1 shown-the_row-Class-3 shown hidden out roll
parameters_is w c f = parameters_are w c f.params

abbrev pub declares : KnownFunction → KnownStatement
declares f = record {
  tree = roll-Statement (Statement-F.Function (function_tree f));
  means = λ w c. goes_on (function_statement w c (record { name = f.name; offset = f.start }));
  is = λ w c. statement_rolled w c (Statement-F.Function (function_tree f)) ∙ (λ i. goes_on (function_statement w c (function_place_is w c f i)));
  found = a_function (function_tree f) ∷ all_found f.statements;
  finds = statement_finds (Statement-F.Function (function_tree f)) ∙ (λ i. a_function (function_tree f) ∷ function_inner f i);
}

-- ---- classes

pub record KnownDeclared : Type 0 where
  pub tree : Member
  pub found : ℕ → Found
  pub finds : in_member tree ≡ found

abbrev pub with_constants : Modifiers → List KnownConstant → KnownDeclared
with_constants mods ks = record {
  tree = roll-Member (Member-F.Constants at0 mods (constant_trees ks));
  found = λ class. [];
  finds = member_finds (Member-F.Constants at0 mods (constant_trees ks)) ∙ (λ i class. []);
}

abbrev pub property_trees : List KnownVariable → List PropertyItem
property_trees vs = map {B = PropertyItem} (λ (v : KnownVariable). record { name = identifier v; value = tree_of v.value }) vs

abbrev pub with_properties : Modifiers → List KnownVariable → KnownDeclared
with_properties mods vs = record {
  tree = roll-Member (Member-F.Properties at0 mods None (property_trees vs));
  found = λ class. [];
  finds = member_finds (Member-F.Properties at0 mods None (property_trees vs)) ∙ (λ i class. []);
}

abbrev pub with_method : Modifiers → KnownFunction → KnownDeclared
with_method mods f = record {
  tree = roll-Member (Member-F.Method at0 mods (function_tree f));
  found = λ class. a_method class mods.is_static (function_tree f) ∷ all_found f.statements;
  finds = member_finds (Member-F.Method at0 mods (function_tree f)) ∙ (λ i class. a_method class mods.is_static (function_tree f) ∷ function_inner f i);
}

pub record KnownClassDeclaration : Type 0 where
  pub start : ℕ
  pub name : Name
  pub parent : Option Name
  pub members : List KnownDeclared

abbrev pub member_trees : List KnownDeclared → List Member
member_trees ms = map (λ (m : KnownDeclared). m.tree) ms

abbrev pub class_layer : KnownClassDeclaration → Class-F Member Statement Class Function Case ElseIf
class_layer k = record {
  at = record { start = k.start; end = k.start; site = 0 };
  name = named k.name;
  parent = option_map named k.parent;
  members = member_trees k.members;
}

abbrev pub class_tree : KnownClassDeclaration → Class
class_tree k = roll-Class (class_layer k)

pub members_find : (start : ℕ) (ms : List KnownDeclared) →
    flat_map (λ (m : WithMember). m.1 start) (map {B = WithMember} (λ t. (t, in_member t)) (member_trees ms)) ≡ flat_map (λ (m : KnownDeclared). m.found start) ms
members_find start [] = refl
members_find start (m ∷ ms) = λ i. m.finds i start ++ members_find start ms i

abbrev pub declares_class : KnownClassDeclaration → KnownStatement
declares_class k = record {
  tree = roll-Statement (Statement-F.Class (class_tree k));
  means = λ w c. goes_on (class_statement w c k.start);
  is = λ w c. statement_rolled w c (Statement-F.Class (class_tree k)) ∙ (λ i. goes_on (class_statement w c (class_place_rolled w c (class_layer k) i)));
  found = a_class (class_tree k) ∷ flat_map (λ (m : KnownDeclared). m.found k.start) k.members;
  finds = statement_finds (Statement-F.Class (class_tree k))
      ∙ (λ i. a_class (class_tree k) ∷ (class_finds (class_layer k) ∙ members_find k.start k.members) i);
}
