-- How many pieces of code and static variables of a tree begin at an offset: no more than tokens that can begin one do.
use Rattle.std.specs.Prelude.{◌≡◌, ℕ, ◌+◌, ◌≤◌, Bool, ◌==◌, List, [], ◌∷◌, ◌++◌, map, Option, None, Some, if◌then◌else◌}
use Rattle.std.proofs.Common.{arith, refl, ap, sym, subst}
use Rattle.hph_ast.specs.declared.token.At.{At}
use Rattle.hph_ast.specs.declared.token.Token.{Token}
use Rattle.hph_ast.specs.declared.token.Identifier.{Identifier}
use Rattle.hph_ast.specs.declared.token.Kind.{Kind}
use Rattle.hph_ast.specs.declared.token.Kind.TheVariants as k
use Rattle.hph_ast.specs.declared.keyword.Keyword.TheVariants as w
use Rattle.hph_ast.specs.declared.expr.Expr.{Expr}
use Rattle.hph_ast.specs.declared.function.DeclaredType.{DeclaredType}
use Rattle.hph_ast.specs.declared.function.Function.{Function, roll-Function}
use Rattle.hph_ast.specs.declared.class.Class.{Class, roll-Class}
use Rattle.hph_ast.specs.declared.class.Modifiers.{Modifiers}
use Rattle.hph_ast.specs.declared.class.ConstantItem.{ConstantItem}
use Rattle.hph_ast.specs.declared.class.PropertyItem.{PropertyItem}
use Rattle.hph_ast.specs.declared.class.Member.{Member, roll-Member}
use Rattle.hph_ast.specs.declared.class.Member.TheVariants as member
use Rattle.hph_ast.specs.declared.class.Member.TheOpen.{Member-F, Statement-F, Class-F, Function-F, Case-F, ElseIf-F}
use Rattle.hph_ast.specs.declared.class.Member.TheFolds.{fold-Member, fold-Statement, fold-Class, fold-Function, fold-Case, fold-ElseIf, fold-roll-Member, fold-roll-Statement, fold-roll-Class, fold-roll-Function, fold-roll-Case, fold-roll-ElseIf, map-Member, map-Statement, map-Class, map-Function, map-Case, map-ElseIf}
use Rattle.hph_ast.specs.declared.stmt.Statement.{Statement, roll-Statement}
use Rattle.hph_ast.specs.declared.stmt.Statement.TheVariants as s
use Rattle.hph_ast.specs.declared.stmt.Case.{Case, roll-Case}
use Rattle.hph_ast.specs.declared.stmt.ElseIf.{ElseIf, roll-ElseIf}
use Rattle.hph_ast.specs.declared.stmt.StaticVariable.{StaticVariable}
use Rattle.hph_ast.specs.declared.stmt.ForeachTarget.{ForeachTarget}
use Rattle.hph_ast.specs.declared.program.FileTree.{FileTree}
use Rattle.hph_ast.specs.Fronts.{UsesFront}
use Rattle.hph_ast.specs.Declarations.{IsInitial, IsStaticVariables, IsPropertyItems, IsConstantItems}
use Rattle.hph_ast.specs.Declarations as d
use Rattle.hph_ast.specs.Statements.{IsStatement, IsStatements, IsElseIfs, IsCases, IsFunction, IsClassDeclaration, IsMembers, IsMember, IsFile}
use Rattle.hph_ast.specs.Statements as g
use Rattle.hph_ast.proofs.Fronts.{nothing, skip}
use Rattle.hph_ast.proofs.Fronts as front
use Rattle.hph_ast.proofs.ExpressionFronts.{front_of_expression}
use Rattle.hph_ast.proofs.DeclarationFronts.{front_of_initial, front_of_maybe_type, front_of_params, front_of_result, front_of_modifiers}
use Rattle.hph_ast.proofs.StatementFronts.{front_of_test, front_of_maybe_exprs, front_of_foreach_key, front_of_foreach_target, front_of_label, front_of_statement, front_of_extends}
use Rattle.hph_php.specs.Cost.{total, total_of, maybe}
use Rattle.hph_program.specs.Sites.{statement, constant_item, property_item, static_variable}
use Rattle.hph_lowerable.proofs.Numbering.{Kept}
use Rattle.hph_lowerable.proofs.StatementNumbering.{KeepsNodes, statement_kept}
use Rattle.hph_lowerable.proofs.StatementFacts.{total_kept}

module _ (offset : ℕ) where
  -- whether something begins there
  abbrev pub here : ℕ → ℕ
  here start = if start == offset then 1 else 0

  -- ---- of trees: each is given those of its parts

  abbrev pub constant_here : ConstantItem → ℕ
  constant_here i = here i.name.start

  abbrev pub property_here : PropertyItem → ℕ
  property_here i = here i.name.start

  abbrev pub static_here : StaticVariable → ℕ
  static_here v = here v.name.start

  abbrev pub function_by : Function-F ℕ ℕ ℕ ℕ ℕ ℕ → ℕ
  function_by f = here f.at.start + total f.body

  abbrev pub class_by : Class-F ℕ ℕ ℕ ℕ ℕ ℕ → ℕ
  class_by c = here c.at.start + total c.members

  abbrev pub member_by : Member-F ℕ ℕ ℕ ℕ ℕ ℕ → ℕ
  member_by (Member-F.Constants at mods items) = total_of constant_here items
  member_by (Member-F.Properties at mods ty items) = total_of property_here items
  member_by (Member-F.Method at mods f) = f

  abbrev pub case_by : Case-F ℕ ℕ ℕ ℕ ℕ ℕ → ℕ
  case_by c = total c.body

  abbrev pub branch_by : ElseIf-F ℕ ℕ ℕ ℕ ℕ ℕ → ℕ
  branch_by b = b.body

  abbrev pub statement_by : Statement-F ℕ ℕ ℕ ℕ ℕ ℕ → ℕ
  statement_by (Statement-F.Block at body) = total body
  statement_by (Statement-F.Function f) = f
  statement_by (Statement-F.Class c) = c
  statement_by (Statement-F.If at x body more other) = body + (total more + maybe (λ n. n) other)
  statement_by (Statement-F.While at x body) = body
  statement_by (Statement-F.DoWhile at body x) = body
  statement_by (Statement-F.For at init test step body) = body
  statement_by (Statement-F.Foreach at x key value body) = body
  statement_by (Statement-F.Switch at x cases) = total cases
  statement_by (Statement-F.Static at variables) = total_of static_here variables
  statement_by _ = 0

  unfoldable pub member_placed : Member → ℕ
  member_placed = fold-Member ℕ ℕ ℕ ℕ ℕ ℕ member_by statement_by class_by function_by case_by branch_by

  unfoldable pub placed : Statement → ℕ
  placed = fold-Statement ℕ ℕ ℕ ℕ ℕ ℕ member_by statement_by class_by function_by case_by branch_by

  unfoldable pub class_placed : Class → ℕ
  class_placed = fold-Class ℕ ℕ ℕ ℕ ℕ ℕ member_by statement_by class_by function_by case_by branch_by

  unfoldable pub function_placed : Function → ℕ
  function_placed = fold-Function ℕ ℕ ℕ ℕ ℕ ℕ member_by statement_by class_by function_by case_by branch_by

  unfoldable pub case_placed : Case → ℕ
  case_placed = fold-Case ℕ ℕ ℕ ℕ ℕ ℕ member_by statement_by class_by function_by case_by branch_by

  unfoldable pub branch_placed : ElseIf → ℕ
  branch_placed = fold-ElseIf ℕ ℕ ℕ ℕ ℕ ℕ member_by statement_by class_by function_by case_by branch_by

  -- ---- numbering keeps them

  places_are_kept : KeepsNodes member_by statement_by class_by function_by case_by branch_by
  places_are_kept = record {
    empty = λ at n. refl;
    inline_text = λ at n bytes. refl;
    block = λ at n body. refl;
    alone = λ at n x k. refl;
    if_then = λ at n x k body more other. refl;
    while_loop = λ at n x k body. refl;
    do_while = λ at n body x k. refl;
    for_loop = λ at n init k test l step m body. refl;
    foreach = λ at n x k key element l body. refl;
    switch = λ at n x k cases. refl;
    break = λ at n levels. refl;
    continue = λ at n levels. refl;
    return = λ at n result k. refl;
    echo = λ at n xs k. refl;
    global = λ at n names. refl;
    static = λ at n variables k. total_kept static_here static_variable (λ v n. refl) variables k;
    unset = λ at n paths k. refl;
    const = λ at n items k. refl;
    constants = λ at n mods items k. total_kept constant_here constant_item (λ i n. refl) items k;
    properties = λ at n mods ty k items l. total_kept property_here property_item (λ i n. refl) items l;
    method = λ at n mods f. refl;
    function_node = λ at n name params k ty l body. refl;
    class_node = λ at n name parent members. refl;
    case_node = λ at n test k body. refl;
    branch_node = λ test k body. refl;
  }

  pub placed_kept : (x : Statement) → Kept placed statement x
  unfolding placed
  placed_kept = statement_kept member_by statement_by class_by function_by case_by branch_by places_are_kept

  -- ---- of tokens: those that a piece of code or a static variable may begin with

  abbrev pub starts_with : Kind → ℕ → ℕ
  starts_with (k.Keyword w.Function) start = here start
  starts_with (k.Keyword w.Class) start = here start
  starts_with (k.Name name) start = here start
  starts_with (k.Variable name) start = here start
  starts_with _ start = 0

  abbrev pub starts : List Token → ℕ
  starts ts = total_of (λ (t : Token). starts_with t.kind t.start) ts

  pub starts-append : (ts us : List Token) → starts (ts ++ us) ≡ starts ts + starts us
  starts-append [] us = omega arith
  starts-append (t ∷ ts) us = omega (arith, starts-append ts us)

  pub record Places (ts : List Token) (n : ℕ) (rest : List Token) : Type 0 where
    pub few : n + starts rest ≤ starts ts

  pub none : {ts rest : List Token} → UsesFront ts rest → Places ts 0 rest
  none {rest = rest} u = record { few = omega (arith, ap starts u.splits, starts-append u.front rest) }

  pub passing : {ts mid rest : List Token} {n : ℕ} → UsesFront ts mid → Places mid n rest → Places ts n rest
  passing u p = record { few = omega (arith, (none u).few, p.few) }

  pub closing : {ts mid rest : List Token} {n : ℕ} → Places ts n mid → UsesFront mid rest → Places ts n rest
  closing p u = record { few = omega (arith, (none u).few, p.few) }

  pub both : {ts mid rest : List Token} {m n : ℕ} → Places ts m mid → Places mid n rest → Places ts (m + n) rest
  both p q = record { few = omega (arith, p.few, q.few) }

  -- a token that begins something
  pub begins : {t : Token} {ts rest : List Token} {n : ℕ} → starts_with t.kind t.start ≡ here t.start → Places ts n rest → Places (t ∷ ts) (here t.start + n) rest
  begins is p = record { few = omega (arith, is, p.few) }

  -- ---- one level

  abbrev pub placed_at : Statement-F Member Statement Class Function Case ElseIf → ℕ
  placed_at d = statement_by (map-Statement Member Statement Class Function Case ElseIf ℕ ℕ ℕ ℕ ℕ ℕ member_placed placed class_placed function_placed case_placed branch_placed d)

  pub placed_rolled : (d : Statement-F Member Statement Class Function Case ElseIf) → placed (roll-Statement d) ≡ placed_at d
  unfolding member_placed placed class_placed function_placed case_placed branch_placed
  placed_rolled d = fold-roll-Statement ℕ ℕ ℕ ℕ ℕ ℕ member_by statement_by class_by function_by case_by branch_by d

  pub record PlacesStatement (ts : List Token) (x : Statement) (rest : List Token) : Type 0 where
    pub places : Places ts (placed x) rest

  pub of_statement : {ts rest : List Token} (d : Statement-F Member Statement Class Function Case ElseIf) → Places ts (placed_at d) rest → PlacesStatement ts (roll-Statement d) rest
  of_statement {ts} {rest} d p = record { places = subst (λ n. Places ts n rest) (sym (placed_rolled d)) p }

  abbrev pub member_placed_at : Member-F Member Statement Class Function Case ElseIf → ℕ
  member_placed_at d = member_by (map-Member Member Statement Class Function Case ElseIf ℕ ℕ ℕ ℕ ℕ ℕ member_placed placed class_placed function_placed case_placed branch_placed d)

  pub member_placed_rolled : (d : Member-F Member Statement Class Function Case ElseIf) → member_placed (roll-Member d) ≡ member_placed_at d
  unfolding member_placed placed class_placed function_placed case_placed branch_placed
  member_placed_rolled d = fold-roll-Member ℕ ℕ ℕ ℕ ℕ ℕ member_by statement_by class_by function_by case_by branch_by d

  pub record PlacesMember (ts : List Token) (x : Member) (rest : List Token) : Type 0 where
    pub places : Places ts (member_placed x) rest

  pub of_member : {ts rest : List Token} (d : Member-F Member Statement Class Function Case ElseIf) → Places ts (member_placed_at d) rest → PlacesMember ts (roll-Member d) rest
  of_member {ts} {rest} d p = record { places = subst (λ n. Places ts n rest) (sym (member_placed_rolled d)) p }

  abbrev pub class_placed_at : Class-F Member Statement Class Function Case ElseIf → ℕ
  class_placed_at d = class_by (map-Class Member Statement Class Function Case ElseIf ℕ ℕ ℕ ℕ ℕ ℕ member_placed placed class_placed function_placed case_placed branch_placed d)

  pub class_placed_rolled : (d : Class-F Member Statement Class Function Case ElseIf) → class_placed (roll-Class d) ≡ class_placed_at d
  unfolding member_placed placed class_placed function_placed case_placed branch_placed
  class_placed_rolled d = fold-roll-Class ℕ ℕ ℕ ℕ ℕ ℕ member_by statement_by class_by function_by case_by branch_by d

  pub record PlacesClass (ts : List Token) (x : Class) (rest : List Token) : Type 0 where
    pub places : Places ts (class_placed x) rest

  pub of_class : {ts rest : List Token} (d : Class-F Member Statement Class Function Case ElseIf) → Places ts (class_placed_at d) rest → PlacesClass ts (roll-Class d) rest
  of_class {ts} {rest} d p = record { places = subst (λ n. Places ts n rest) (sym (class_placed_rolled d)) p }

  abbrev pub function_placed_at : Function-F Member Statement Class Function Case ElseIf → ℕ
  function_placed_at d = function_by (map-Function Member Statement Class Function Case ElseIf ℕ ℕ ℕ ℕ ℕ ℕ member_placed placed class_placed function_placed case_placed branch_placed d)

  pub function_placed_rolled : (d : Function-F Member Statement Class Function Case ElseIf) → function_placed (roll-Function d) ≡ function_placed_at d
  unfolding member_placed placed class_placed function_placed case_placed branch_placed
  function_placed_rolled d = fold-roll-Function ℕ ℕ ℕ ℕ ℕ ℕ member_by statement_by class_by function_by case_by branch_by d

  pub record PlacesFunction (ts : List Token) (x : Function) (rest : List Token) : Type 0 where
    pub places : Places ts (function_placed x) rest

  pub of_function : {ts rest : List Token} (d : Function-F Member Statement Class Function Case ElseIf) → Places ts (function_placed_at d) rest → PlacesFunction ts (roll-Function d) rest
  of_function {ts} {rest} d p = record { places = subst (λ n. Places ts n rest) (sym (function_placed_rolled d)) p }

  abbrev pub case_placed_at : Case-F Member Statement Class Function Case ElseIf → ℕ
  case_placed_at d = case_by (map-Case Member Statement Class Function Case ElseIf ℕ ℕ ℕ ℕ ℕ ℕ member_placed placed class_placed function_placed case_placed branch_placed d)

  pub case_placed_rolled : (d : Case-F Member Statement Class Function Case ElseIf) → case_placed (roll-Case d) ≡ case_placed_at d
  unfolding member_placed placed class_placed function_placed case_placed branch_placed
  case_placed_rolled d = fold-roll-Case ℕ ℕ ℕ ℕ ℕ ℕ member_by statement_by class_by function_by case_by branch_by d

  pub record PlacesCase (ts : List Token) (x : Case) (rest : List Token) : Type 0 where
    pub places : Places ts (case_placed x) rest

  pub of_case : {ts rest : List Token} (d : Case-F Member Statement Class Function Case ElseIf) → Places ts (case_placed_at d) rest → PlacesCase ts (roll-Case d) rest
  of_case {ts} {rest} d p = record { places = subst (λ n. Places ts n rest) (sym (case_placed_rolled d)) p }

  abbrev pub branch_placed_at : ElseIf-F Member Statement Class Function Case ElseIf → ℕ
  branch_placed_at d = branch_by (map-ElseIf Member Statement Class Function Case ElseIf ℕ ℕ ℕ ℕ ℕ ℕ member_placed placed class_placed function_placed case_placed branch_placed d)

  pub branch_placed_rolled : (d : ElseIf-F Member Statement Class Function Case ElseIf) → branch_placed (roll-ElseIf d) ≡ branch_placed_at d
  unfolding member_placed placed class_placed function_placed case_placed branch_placed
  branch_placed_rolled d = fold-roll-ElseIf ℕ ℕ ℕ ℕ ℕ ℕ member_by statement_by class_by function_by case_by branch_by d

  pub record PlacesBranch (ts : List Token) (x : ElseIf) (rest : List Token) : Type 0 where
    pub places : Places ts (branch_placed x) rest

  pub of_else_if : {ts rest : List Token} (d : ElseIf-F Member Statement Class Function Case ElseIf) → Places ts (branch_placed_at d) rest → PlacesBranch ts (roll-ElseIf d) rest
  of_else_if {ts} {rest} d p = record { places = subst (λ n. Places ts n rest) (sym (branch_placed_rolled d)) p }

  pub of_empty : {ts rest : List Token} {at : At} → Places ts (placed_at (Statement-F.Empty at)) rest → PlacesStatement ts (s.Empty at) rest
  of_empty {ts} {rest} {at} h = subst (λ x. PlacesStatement ts x rest) (s.rolls-Empty at) (of_statement (Statement-F.Empty at) h)

  pub of_inline_text : {ts rest : List Token} {at : At} {bytes : List ℕ} → Places ts (placed_at (Statement-F.InlineText at bytes)) rest → PlacesStatement ts (s.InlineText at bytes) rest
  of_inline_text {ts} {rest} {at} {bytes} h = subst (λ x. PlacesStatement ts x rest) (s.rolls-InlineText at bytes) (of_statement (Statement-F.InlineText at bytes) h)

  pub of_block : {ts rest : List Token} {at : At} (body : List Statement) → Places ts (placed_at (Statement-F.Block at body)) rest → PlacesStatement ts (s.Block at body) rest
  of_block {ts} {rest} {at} body h = subst (λ x. PlacesStatement ts x rest) (s.rolls-Block at body) (of_statement (Statement-F.Block at body) h)

  pub of_expression : {ts rest : List Token} {at : At} (x : Expr) → Places ts (placed_at (Statement-F.Expression at x)) rest → PlacesStatement ts (s.Expression at x) rest
  of_expression {ts} {rest} {at} x h = subst (λ x. PlacesStatement ts x rest) (s.rolls-Expression at x) (of_statement (Statement-F.Expression at x) h)

  pub of_function_statement : {ts rest : List Token} (f : Function) → Places ts (placed_at (Statement-F.Function f)) rest → PlacesStatement ts (s.Function f) rest
  of_function_statement {ts} {rest} f h = subst (λ x. PlacesStatement ts x rest) (s.rolls-Function f) (of_statement (Statement-F.Function f) h)

  pub of_class_statement : {ts rest : List Token} (c : Class) → Places ts (placed_at (Statement-F.Class c)) rest → PlacesStatement ts (s.Class c) rest
  of_class_statement {ts} {rest} c h = subst (λ x. PlacesStatement ts x rest) (s.rolls-Class c) (of_statement (Statement-F.Class c) h)

  pub of_if : {ts rest : List Token} {at : At} (x : Expr) (body : Statement) (more : List ElseIf) (other : Option Statement) → Places ts (placed_at (Statement-F.If at x body more other)) rest → PlacesStatement ts (s.If at x body more other) rest
  of_if {ts} {rest} {at} x body more other h = subst (λ x. PlacesStatement ts x rest) (s.rolls-If at x body more other) (of_statement (Statement-F.If at x body more other) h)

  pub of_while : {ts rest : List Token} {at : At} (x : Expr) (body : Statement) → Places ts (placed_at (Statement-F.While at x body)) rest → PlacesStatement ts (s.While at x body) rest
  of_while {ts} {rest} {at} x body h = subst (λ x. PlacesStatement ts x rest) (s.rolls-While at x body) (of_statement (Statement-F.While at x body) h)

  pub of_do_while : {ts rest : List Token} {at : At} (body : Statement) (x : Expr) → Places ts (placed_at (Statement-F.DoWhile at body x)) rest → PlacesStatement ts (s.DoWhile at body x) rest
  of_do_while {ts} {rest} {at} body x h = subst (λ x. PlacesStatement ts x rest) (s.rolls-DoWhile at body x) (of_statement (Statement-F.DoWhile at body x) h)

  pub of_for : {ts rest : List Token} {at : At} (init : List Expr) (test : List Expr) (step : List Expr) (body : Statement) → Places ts (placed_at (Statement-F.For at init test step body)) rest → PlacesStatement ts (s.For at init test step body) rest
  of_for {ts} {rest} {at} init test step body h = subst (λ x. PlacesStatement ts x rest) (s.rolls-For at init test step body) (of_statement (Statement-F.For at init test step body) h)

  pub of_foreach : {ts rest : List Token} {at : At} (x : Expr) {key : Option Identifier} (element : ForeachTarget) (body : Statement) → Places ts (placed_at (Statement-F.Foreach at x key element body)) rest → PlacesStatement ts (s.Foreach at x key element body) rest
  of_foreach {ts} {rest} {at} x {key} element body h = subst (λ x. PlacesStatement ts x rest) (s.rolls-Foreach at x key element body) (of_statement (Statement-F.Foreach at x key element body) h)

  pub of_switch : {ts rest : List Token} {at : At} (x : Expr) (cases : List Case) → Places ts (placed_at (Statement-F.Switch at x cases)) rest → PlacesStatement ts (s.Switch at x cases) rest
  of_switch {ts} {rest} {at} x cases h = subst (λ x. PlacesStatement ts x rest) (s.rolls-Switch at x cases) (of_statement (Statement-F.Switch at x cases) h)

  pub of_break : {ts rest : List Token} {at : At} {levels : Option ℕ} → Places ts (placed_at (Statement-F.Break at levels)) rest → PlacesStatement ts (s.Break at levels) rest
  of_break {ts} {rest} {at} {levels} h = subst (λ x. PlacesStatement ts x rest) (s.rolls-Break at levels) (of_statement (Statement-F.Break at levels) h)

  pub of_continue : {ts rest : List Token} {at : At} {levels : Option ℕ} → Places ts (placed_at (Statement-F.Continue at levels)) rest → PlacesStatement ts (s.Continue at levels) rest
  of_continue {ts} {rest} {at} {levels} h = subst (λ x. PlacesStatement ts x rest) (s.rolls-Continue at levels) (of_statement (Statement-F.Continue at levels) h)

  pub of_return : {ts rest : List Token} {at : At} (result : Option Expr) → Places ts (placed_at (Statement-F.Return at result)) rest → PlacesStatement ts (s.Return at result) rest
  of_return {ts} {rest} {at} result h = subst (λ x. PlacesStatement ts x rest) (s.rolls-Return at result) (of_statement (Statement-F.Return at result) h)

  pub of_echo : {ts rest : List Token} {at : At} (xs : List Expr) → Places ts (placed_at (Statement-F.Echo at xs)) rest → PlacesStatement ts (s.Echo at xs) rest
  of_echo {ts} {rest} {at} xs h = subst (λ x. PlacesStatement ts x rest) (s.rolls-Echo at xs) (of_statement (Statement-F.Echo at xs) h)

  pub of_global : {ts rest : List Token} {at : At} {names : List Identifier} → Places ts (placed_at (Statement-F.Global at names)) rest → PlacesStatement ts (s.Global at names) rest
  of_global {ts} {rest} {at} {names} h = subst (λ x. PlacesStatement ts x rest) (s.rolls-Global at names) (of_statement (Statement-F.Global at names) h)

  pub of_static : {ts rest : List Token} {at : At} (variables : List StaticVariable) → Places ts (placed_at (Statement-F.Static at variables)) rest → PlacesStatement ts (s.Static at variables) rest
  of_static {ts} {rest} {at} variables h = subst (λ x. PlacesStatement ts x rest) (s.rolls-Static at variables) (of_statement (Statement-F.Static at variables) h)

  pub of_unset : {ts rest : List Token} {at : At} (paths : List Expr) → Places ts (placed_at (Statement-F.Unset at paths)) rest → PlacesStatement ts (s.Unset at paths) rest
  of_unset {ts} {rest} {at} paths h = subst (λ x. PlacesStatement ts x rest) (s.rolls-Unset at paths) (of_statement (Statement-F.Unset at paths) h)

  pub of_const : {ts rest : List Token} {at : At} (items : List ConstantItem) → Places ts (placed_at (Statement-F.Const at items)) rest → PlacesStatement ts (s.Const at items) rest
  of_const {ts} {rest} {at} items h = subst (λ x. PlacesStatement ts x rest) (s.rolls-Const at items) (of_statement (Statement-F.Const at items) h)

  pub of_member_constants : {ts rest : List Token} {at : At} {mods : Modifiers} (items : List ConstantItem) → Places ts (member_placed_at (Member-F.Constants at mods items)) rest → PlacesMember ts (member.Constants at mods items) rest
  of_member_constants {ts} {rest} {at} {mods} items h = subst (λ x. PlacesMember ts x rest) (member.rolls-Constants at mods items) (of_member (Member-F.Constants at mods items) h)

  pub of_member_properties : {ts rest : List Token} {at : At} {mods : Modifiers} (ty : Option DeclaredType) (items : List PropertyItem) → Places ts (member_placed_at (Member-F.Properties at mods ty items)) rest → PlacesMember ts (member.Properties at mods ty items) rest
  of_member_properties {ts} {rest} {at} {mods} ty items h = subst (λ x. PlacesMember ts x rest) (member.rolls-Properties at mods ty items) (of_member (Member-F.Properties at mods ty items) h)

  pub of_member_method : {ts rest : List Token} {at : At} {mods : Modifiers} (f : Function) → Places ts (member_placed_at (Member-F.Method at mods f)) rest → PlacesMember ts (member.Method at mods f) rest
  of_member_method {ts} {rest} {at} {mods} f h = subst (λ x. PlacesMember ts x rest) (member.rolls-Method at mods f) (of_member (Member-F.Method at mods f) h)

  -- ---- derivations

  constants : {ts rest : List Token} {is : List ConstantItem} {c : Token} → IsConstantItems ts is c rest → Places ts (total_of constant_here is) rest
  constants (d.constants_last {t = t} is _ x _) = begins (ap (λ kind. starts_with kind t.start) is) (none (skip (front.both (front_of_expression x.is) (skip nothing))))
  constants (d.constants_more {t = t} is _ x _ more) =
      begins (ap (λ kind. starts_with kind t.start) is) (passing (skip (front.both (front_of_expression x.is) (skip nothing))) (constants more))

  properties : {ts rest : List Token} {is : List PropertyItem} {c : Token} → IsPropertyItems ts is c rest → Places ts (total_of property_here is) rest
  properties (d.properties_last {t = t} is x _) = begins (ap (λ kind. starts_with kind t.start) is) (none (front.both (front_of_initial x) (skip nothing)))
  properties (d.properties_more {t = t} is x _ more) =
      begins (ap (λ kind. starts_with kind t.start) is) (passing (front.both (front_of_initial x) (skip nothing)) (properties more))

  statics : {ts rest : List Token} {vs : List StaticVariable} {c : Token} → IsStaticVariables ts vs c rest → Places ts (total_of static_here vs) rest
  statics (d.statics_last {t = t} is x _) = begins (ap (λ kind. starts_with kind t.start) is) (none (front.both (front_of_initial x) (skip nothing)))
  statics (d.statics_more {t = t} is x _ more) =
      begins (ap (λ kind. starts_with kind t.start) is) (passing (front.both (front_of_initial x) (skip nothing)) (statics more))

  mutual
    statement_places : {top : Bool} {ts rest : List Token} {x : Statement} → IsStatement top ts x rest → PlacesStatement ts x rest
    statement_places (g.empty a) = of_empty (none (skip nothing))
    statement_places (g.inline_text a) = of_inline_text (none (skip nothing))
    statement_places (g.block _ d _) = of_block _ (passing (skip nothing) (closing (all_places d) (skip nothing)))
    statement_places {top} (g.expression a b) = of_expression _ (none (front_of_statement (g.expression {top = top} a b)))
    statement_places (g.function d) = of_function_statement _ (function_places d).places
    statement_places (g.class d) = of_class_statement _ (class_places d).places
    statement_places (g.if_ _ d1 d2 d3 (g.no_else _)) =
        of_if _ _ _ None (passing (skip (front_of_test d1)) (both (statement_places d2).places (both (branch_places d3) (none nothing))))
    statement_places (g.if_ _ d1 d2 d3 (g.an_else _ d4)) = of_if _ _ _ (Some _) (passing (skip (front_of_test d1))
        (both (statement_places d2).places (both (branch_places d3) (passing (skip nothing) (statement_places d4).places))))
    statement_places (g.while _ d1 d2) = of_while _ _ (passing (skip (front_of_test d1)) (statement_places d2).places)
    statement_places (g.do_while _ d1 _ d3 _) =
        of_do_while _ _ (passing (skip nothing) (closing (statement_places d1).places (skip (front.both (front_of_test d3) (skip nothing)))))
    statement_places (g.for _ _ d2 d3 d4 d5) = of_for _ _ _ _ (passing (skip (skip (front.both (front_of_maybe_exprs d2)
        (front.both (front_of_maybe_exprs d3) (front_of_maybe_exprs d4))))) (statement_places d5).places)
    statement_places (g.foreach _ _ d2 _ d4 d5 _ d7) = of_foreach _ _ _ (passing (skip (skip (front.both (front_of_expression d2)
        (skip (front.both (front_of_foreach_key d4) (front.both (front_of_foreach_target d5) (skip nothing))))))) (statement_places d7).places)
    statement_places (g.switch _ d1 _ d3 _ _) =
        of_switch _ _ (passing (skip (front.both (front_of_test d1) (skip nothing))) (closing (case_places d3) (skip nothing)))
    statement_places {top} (g.break a b) = of_break (none (front_of_statement (g.break {top = top} a b)))
    statement_places {top} (g.continue a b) = of_continue (none (front_of_statement (g.continue {top = top} a b)))
    statement_places {top} (g.return_nothing a b) = of_return None (none (front_of_statement (g.return_nothing {top = top} a b)))
    statement_places {top} (g.return a b c) = of_return (Some _) (none (front_of_statement (g.return {top = top} a b c)))
    statement_places {top} (g.echo a b) = of_echo _ (none (front_of_statement (g.echo {top = top} a b)))
    statement_places {top} (g.global a b) = of_global (none (front_of_statement (g.global {top = top} a b)))
    statement_places (g.static _ d) = of_static _ (passing (skip nothing) (statics d))
    statement_places {top} (g.unset a b c e) = of_unset _ (none (front_of_statement (g.unset {top = top} a b c e)))
    statement_places (g.const a b) = of_const _ (none (front_of_statement (g.const a b)))

    all_places : {top : Bool} {ts rest : List Token} {xs : List Statement} → IsStatements top ts xs rest → Places ts (total (map placed xs)) rest
    all_places g.statements_end = none nothing
    all_places (g.statements_more d d2) = both (statement_places d).places (all_places d2)

    branch_places : {ts rest : List Token} {bs : List ElseIf} → IsElseIfs ts bs rest → Places ts (total (map branch_placed bs)) rest
    branch_places (g.else_ifs_end _) = none nothing
    branch_places (g.else_if _ d1 d2 d3) = both (of_else_if _ (passing (skip (front_of_test d1)) (statement_places d2).places)).places (branch_places d3)

    case_places : {ts rest : List Token} {cs : List Case} → IsCases ts cs rest → Places ts (total (map case_placed cs)) rest
    case_places g.cases_end = none nothing
    case_places (g.cases_more d d2 d3) = both (of_case _ (passing (front_of_label d) (all_places d2))).places (case_places d3)

    function_places : {ts rest : List Token} {f : Function} → IsFunction ts f rest → PlacesFunction ts f rest
    function_places (g.a_function {t = t} is _ _ d3 d4 _ d6 _) = of_function _ (begins (ap (λ kind. starts_with kind t.start) is) (passing (skip (skip (front.both (front_of_params d3)
        (front.both (front_of_result d4) (skip nothing))))) (closing (all_places d6) (skip nothing))))

    class_places : {ts rest : List Token} {c : Class} → IsClassDeclaration ts c rest → PlacesClass ts c rest
    class_places (g.a_class {t = t} is _ d2 _ d4 _) = of_class _ (begins (ap (λ kind. starts_with kind t.start) is)
        (passing (skip (front.both (front_of_extends d2) (skip nothing))) (closing (members_places d4) (skip nothing))))

    members_places : {ts rest : List Token} {ms : List Member} → IsMembers ts ms rest → Places ts (total (map member_placed ms)) rest
    members_places g.members_end = none nothing
    members_places (g.members_more d d2) = both (member_places d).places (members_places d2)

    member_places : {ts rest : List Token} {m : Member} → IsMember ts m rest → PlacesMember ts m rest
    member_places (g.constants d _ _ d3) = of_member_constants _ (passing (front.both (front_of_modifiers d) (skip nothing)) (constants d3))
    member_places (g.properties d _ d2 d3) = of_member_properties _ _ (passing (front.both (front_of_modifiers d) (front_of_maybe_type d2)) (properties d3))
    member_places (g.method d d1) = of_member_method _ (passing (front_of_modifiers d) (function_places d1).places)

  total_is : (xs : List Statement) → total (map placed xs) ≡ total_of placed xs
  total_is [] = refl
  total_is (x ∷ xs) = ap (λ n. placed x + n) (total_is xs)

  -- no more begin there in a file than tokens
  pub file_places : {ts : List Token} {tree : FileTree} → IsFile ts tree → total_of placed tree.statements ≤ starts ts
  file_places (g.file {xs = xs} d) = omega (arith, (all_places d).few, total_is xs)
