-- The declarations of a tree begin no more pieces of code and static variables at an offset than the tree has there.
use Rattle.std.specs.Prelude.{◌≡◌, ◌≤◌, ℕ, ◌+◌, Bool, true, false, List, [], ◌∷◌, ◌++◌, map, flat_map, Option, None, Some}
use Rattle.std.proofs.Common.{arith, refl, ap, subst}
use Rattle.hph_ast.specs.declared.function.Function.{Function, roll-Function, out-Function, out-roll-Function}
use Rattle.hph_ast.specs.declared.class.Class.{Class, roll-Class, out-Class, out-roll-Class}
use Rattle.hph_ast.specs.declared.class.ConstantItem.{ConstantItem}
use Rattle.hph_ast.specs.declared.class.Modifiers.{Modifiers}
use Rattle.hph_ast.specs.declared.token.At.{At}
use Rattle.hph_ast.specs.declared.function.DeclaredType.{DeclaredType}
use Rattle.hph_ast.specs.declared.class.PropertyItem.{PropertyItem}
use Rattle.hph_ast.specs.declared.class.Member.{Member, roll-Member, out-roll-Member}
use Rattle.hph_ast.specs.declared.class.Member.TheOpen.{Member-F, Statement-F, Class-F, Function-F, Case-F, ElseIf-F}
use Rattle.hph_ast.specs.declared.class.Member.TheFolds.{ind-Statement, map-Member, map-Statement, map-Class, map-Function, map-Case, map-ElseIf, para-Member, para-Class, para-Function, para-Case, para-ElseIf, para-roll-Member, para-roll-Statement, para-roll-Class, para-roll-Function, para-roll-Case, para-roll-ElseIf}
use Rattle.hph_ast.specs.declared.stmt.Statement.{Statement, roll-Statement}
use Rattle.hph_ast.specs.declared.stmt.Case.{Case, roll-Case}
use Rattle.hph_ast.specs.declared.stmt.ElseIf.{ElseIf, roll-ElseIf}
use Rattle.hph_ast.specs.declared.stmt.StaticVariable.{StaticVariable}
use Rattle.hph_php.specs.Cost.{total, total_of}
use Rattle.hph_php.specs.Declarations.{Declaration, a_function, a_class, a_method, a_static, Found, With, WithMember, declarations_in, member_found, statement_found, class_found, function_found, case_found, else_if_found, constants_in, properties_in}
use Rattle.hph_wellformed.proofs.CodePlaces as place

-- ---- the declarations in each part

unfoldable pub in_member : Member → ℕ → Found
in_member = para-Member (ℕ → Found) Found Found Found Found Found member_found statement_found class_found function_found case_found else_if_found

unfoldable pub in_class : Class → Found
in_class = para-Class (ℕ → Found) Found Found Found Found Found member_found statement_found class_found function_found case_found else_if_found

unfoldable pub in_function : Function → Found
in_function = para-Function (ℕ → Found) Found Found Found Found Found member_found statement_found class_found function_found case_found else_if_found

unfoldable pub in_case : Case → Found
in_case = para-Case (ℕ → Found) Found Found Found Found Found member_found statement_found class_found function_found case_found else_if_found

unfoldable pub in_branch : ElseIf → Found
in_branch = para-ElseIf (ℕ → Found) Found Found Found Found Found member_found statement_found class_found function_found case_found else_if_found

in_member_rolled : (d : Member-F Member Statement Class Function Case ElseIf) → in_member (roll-Member d) ≡ member_found (map-Member Member Statement Class Function Case ElseIf WithMember (With Statement) (With Class) (With Function) (With Case) (With ElseIf)
    (λ t. (t, in_member t)) (λ t. (t, declarations_in t)) (λ t. (t, in_class t)) (λ t. (t, in_function t)) (λ t. (t, in_case t)) (λ t. (t, in_branch t)) d)
unfolding declarations_in in_member in_class in_function in_case in_branch
in_member_rolled d = para-roll-Member (ℕ → Found) Found Found Found Found Found member_found statement_found class_found function_found case_found else_if_found d

declarations_in_rolled : (d : Statement-F Member Statement Class Function Case ElseIf) → declarations_in (roll-Statement d) ≡ statement_found (map-Statement Member Statement Class Function Case ElseIf WithMember (With Statement) (With Class) (With Function) (With Case) (With ElseIf)
    (λ t. (t, in_member t)) (λ t. (t, declarations_in t)) (λ t. (t, in_class t)) (λ t. (t, in_function t)) (λ t. (t, in_case t)) (λ t. (t, in_branch t)) d)
unfolding declarations_in in_member in_class in_function in_case in_branch
declarations_in_rolled d = para-roll-Statement (ℕ → Found) Found Found Found Found Found member_found statement_found class_found function_found case_found else_if_found d

in_class_rolled : (d : Class-F Member Statement Class Function Case ElseIf) → in_class (roll-Class d) ≡ class_found (map-Class Member Statement Class Function Case ElseIf WithMember (With Statement) (With Class) (With Function) (With Case) (With ElseIf)
    (λ t. (t, in_member t)) (λ t. (t, declarations_in t)) (λ t. (t, in_class t)) (λ t. (t, in_function t)) (λ t. (t, in_case t)) (λ t. (t, in_branch t)) d)
unfolding declarations_in in_member in_class in_function in_case in_branch
in_class_rolled d = para-roll-Class (ℕ → Found) Found Found Found Found Found member_found statement_found class_found function_found case_found else_if_found d

in_function_rolled : (d : Function-F Member Statement Class Function Case ElseIf) → in_function (roll-Function d) ≡ function_found (map-Function Member Statement Class Function Case ElseIf WithMember (With Statement) (With Class) (With Function) (With Case) (With ElseIf)
    (λ t. (t, in_member t)) (λ t. (t, declarations_in t)) (λ t. (t, in_class t)) (λ t. (t, in_function t)) (λ t. (t, in_case t)) (λ t. (t, in_branch t)) d)
unfolding declarations_in in_member in_class in_function in_case in_branch
in_function_rolled d = para-roll-Function (ℕ → Found) Found Found Found Found Found member_found statement_found class_found function_found case_found else_if_found d

in_case_rolled : (d : Case-F Member Statement Class Function Case ElseIf) → in_case (roll-Case d) ≡ case_found (map-Case Member Statement Class Function Case ElseIf WithMember (With Statement) (With Class) (With Function) (With Case) (With ElseIf)
    (λ t. (t, in_member t)) (λ t. (t, declarations_in t)) (λ t. (t, in_class t)) (λ t. (t, in_function t)) (λ t. (t, in_case t)) (λ t. (t, in_branch t)) d)
unfolding declarations_in in_member in_class in_function in_case in_branch
in_case_rolled d = para-roll-Case (ℕ → Found) Found Found Found Found Found member_found statement_found class_found function_found case_found else_if_found d

in_branch_rolled : (d : ElseIf-F Member Statement Class Function Case ElseIf) → in_branch (roll-ElseIf d) ≡ else_if_found (map-ElseIf Member Statement Class Function Case ElseIf WithMember (With Statement) (With Class) (With Function) (With Case) (With ElseIf)
    (λ t. (t, in_member t)) (λ t. (t, declarations_in t)) (λ t. (t, in_class t)) (λ t. (t, in_function t)) (λ t. (t, in_case t)) (λ t. (t, in_branch t)) d)
unfolding declarations_in in_member in_class in_function in_case in_branch
in_branch_rolled d = para-roll-ElseIf (ℕ → Found) Found Found Found Found Found member_found statement_found class_found function_found case_found else_if_found d

pub total_append : {A : Type 0} (f : A → ℕ) (xs ys : List A) → total_of f (xs ++ ys) ≡ total_of f xs + total_of f ys
total_append f [] ys = omega arith
total_append f (x ∷ xs) ys = omega (arith, total_append f xs ys)

module _ (offset : ℕ) where
  abbrev here : ℕ → ℕ
  here start = place.here offset start

  abbrev pub member_placed : Member → ℕ
  member_placed x = place.member_placed offset x

  abbrev pub placed : Statement → ℕ
  placed x = place.placed offset x

  abbrev pub class_placed : Class → ℕ
  class_placed x = place.class_placed offset x

  abbrev pub function_placed : Function → ℕ
  function_placed x = place.function_placed offset x

  abbrev pub case_placed : Case → ℕ
  case_placed x = place.case_placed offset x

  abbrev pub branch_placed : ElseIf → ℕ
  branch_placed x = place.branch_placed offset x

  -- what begins with a declaration, and the values of a member
  abbrev pub own : Member → ℕ
  own m = total_of (place.constant_here offset) (constants_in m) + total_of (place.property_here offset) (properties_in true m)

  abbrev pub weight : Declaration → ℕ
  weight (a_function f) = here (out-Function f).at.start
  weight (a_method class is_static f) = here (out-Function f).at.start
  weight (a_class c) = here (out-Class c).at.start + total_of own (out-Class c).members
  weight (a_static start) = here start

  abbrev pub weights : Found → ℕ
  weights ds = total_of weight ds

  -- ---- what holds of a tree and of its parts

  abbrev MemberHolds : Member → Type 0
  MemberHolds m = (class : ℕ) → own m + weights (in_member m class) ≤ member_placed m

  abbrev StatementHolds : Statement → Type 0
  StatementHolds x = weights (declarations_in x) ≤ placed x

  abbrev ClassHolds : Class → Type 0
  ClassHolds c = weight (a_class c) + weights (in_class c) ≤ class_placed c

  abbrev FunctionHolds : Function → Type 0
  FunctionHolds f = weight (a_function f) + weights (in_function f) ≤ function_placed f

  abbrev CaseHolds : Case → Type 0
  CaseHolds c = weights (in_case c) ≤ case_placed c

  abbrev BranchHolds : ElseIf → Type 0
  BranchHolds b = weights (in_branch b) ≤ branch_placed b

  abbrev HeldMember : Type 0
  HeldMember = (x : Member) × MemberHolds x

  abbrev HeldStatement : Type 0
  HeldStatement = (x : Statement) × StatementHolds x

  abbrev HeldClass : Type 0
  HeldClass = (x : Class) × ClassHolds x

  abbrev HeldFunction : Type 0
  HeldFunction = (x : Function) × FunctionHolds x

  abbrev HeldCase : Type 0
  HeldCase = (x : Case) × CaseHolds x

  abbrev HeldBranch : Type 0
  HeldBranch = (x : ElseIf) × BranchHolds x

  abbrev only_member : Member-F HeldMember HeldStatement HeldClass HeldFunction HeldCase HeldBranch → Member-F Member Statement Class Function Case ElseIf
  only_member y = map-Member HeldMember HeldStatement HeldClass HeldFunction HeldCase HeldBranch Member Statement Class Function Case ElseIf (λ e. e.0) (λ e. e.0) (λ e. e.0) (λ e. e.0) (λ e. e.0) (λ e. e.0) y

  abbrev only_statement : Statement-F HeldMember HeldStatement HeldClass HeldFunction HeldCase HeldBranch → Statement-F Member Statement Class Function Case ElseIf
  only_statement y = map-Statement HeldMember HeldStatement HeldClass HeldFunction HeldCase HeldBranch Member Statement Class Function Case ElseIf (λ e. e.0) (λ e. e.0) (λ e. e.0) (λ e. e.0) (λ e. e.0) (λ e. e.0) y

  abbrev only_class : Class-F HeldMember HeldStatement HeldClass HeldFunction HeldCase HeldBranch → Class-F Member Statement Class Function Case ElseIf
  only_class y = map-Class HeldMember HeldStatement HeldClass HeldFunction HeldCase HeldBranch Member Statement Class Function Case ElseIf (λ e. e.0) (λ e. e.0) (λ e. e.0) (λ e. e.0) (λ e. e.0) (λ e. e.0) y

  abbrev only_function : Function-F HeldMember HeldStatement HeldClass HeldFunction HeldCase HeldBranch → Function-F Member Statement Class Function Case ElseIf
  only_function y = map-Function HeldMember HeldStatement HeldClass HeldFunction HeldCase HeldBranch Member Statement Class Function Case ElseIf (λ e. e.0) (λ e. e.0) (λ e. e.0) (λ e. e.0) (λ e. e.0) (λ e. e.0) y

  abbrev only_case : Case-F HeldMember HeldStatement HeldClass HeldFunction HeldCase HeldBranch → Case-F Member Statement Class Function Case ElseIf
  only_case y = map-Case HeldMember HeldStatement HeldClass HeldFunction HeldCase HeldBranch Member Statement Class Function Case ElseIf (λ e. e.0) (λ e. e.0) (λ e. e.0) (λ e. e.0) (λ e. e.0) (λ e. e.0) y

  abbrev only_branch : ElseIf-F HeldMember HeldStatement HeldClass HeldFunction HeldCase HeldBranch → ElseIf-F Member Statement Class Function Case ElseIf
  only_branch y = map-ElseIf HeldMember HeldStatement HeldClass HeldFunction HeldCase HeldBranch Member Statement Class Function Case ElseIf (λ e. e.0) (λ e. e.0) (λ e. e.0) (λ e. e.0) (λ e. e.0) (λ e. e.0) y

  -- ---- lists of parts

  statements_hold : (xs : List HeldStatement) → weights (flat_map (λ (s : With Statement). s.1) (map (λ (t : Statement). (t, declarations_in t)) (map (λ (e : HeldStatement). e.0) xs))) ≤ total (map placed (map (λ (e : HeldStatement). e.0) xs))
  statements_hold [] = omega arith
  statements_hold (x ∷ xs) = omega (arith, x.1, statements_hold xs, total_append weight (declarations_in x.0) (flat_map (λ (s : With Statement). s.1) (map (λ (t : Statement). (t, declarations_in t)) (map (λ (e : HeldStatement). e.0) xs))))

  cases_hold : (xs : List HeldCase) → weights (flat_map (λ (s : With Case). s.1) (map (λ (t : Case). (t, in_case t)) (map (λ (e : HeldCase). e.0) xs))) ≤ total (map case_placed (map (λ (e : HeldCase). e.0) xs))
  cases_hold [] = omega arith
  cases_hold (x ∷ xs) = omega (arith, x.1, cases_hold xs, total_append weight (in_case x.0) (flat_map (λ (s : With Case). s.1) (map (λ (t : Case). (t, in_case t)) (map (λ (e : HeldCase). e.0) xs))))

  branches_hold : (xs : List HeldBranch) → weights (flat_map (λ (s : With ElseIf). s.1) (map (λ (t : ElseIf). (t, in_branch t)) (map (λ (e : HeldBranch). e.0) xs))) ≤ total (map branch_placed (map (λ (e : HeldBranch). e.0) xs))
  branches_hold [] = omega arith
  branches_hold (x ∷ xs) = omega (arith, x.1, branches_hold xs, total_append weight (in_branch x.0) (flat_map (λ (s : With ElseIf). s.1) (map (λ (t : ElseIf). (t, in_branch t)) (map (λ (e : HeldBranch). e.0) xs))))

  members_hold : (class : ℕ) (ms : List HeldMember) → total_of own (map (λ (e : HeldMember). e.0) ms)
      + weights (flat_map (λ (m : WithMember). m.1 class) (map (λ (t : Member). (t, in_member t)) (map (λ (e : HeldMember). e.0) ms)))
      ≤ total (map member_placed (map (λ (e : HeldMember). e.0) ms))
  members_hold class [] = omega arith
  members_hold class (m ∷ ms) = omega (
    arith,
    m.1 class,
    members_hold class ms,
    total_append weight (in_member m.0 class)
        (flat_map (λ (m : WithMember). m.1 class) (map (λ (t : Member). (t, in_member t)) (map (λ (e : HeldMember). e.0) ms))),
  )

  statics_hold : (vs : List StaticVariable) → weights (map (λ (v : StaticVariable). a_static v.name.start) vs) ≤ total_of (place.static_here offset) vs
  statics_hold [] = omega arith
  statics_hold (v ∷ vs) = omega (arith, statics_hold vs)

  -- ---- one level

  abbrev found_at : Statement-F Member Statement Class Function Case ElseIf → Found
  found_at d = statement_found (map-Statement Member Statement Class Function Case ElseIf WithMember (With Statement) (With Class) (With Function) (With Case) (With ElseIf)
      (λ t. (t, in_member t)) (λ t. (t, declarations_in t)) (λ t. (t, in_class t)) (λ t. (t, in_function t)) (λ t. (t, in_case t)) (λ t. (t, in_branch t)) d)

  if_found : (body : Statement) (more : List HeldBranch) (other : Found) →
      weights (declarations_in body ++ (flat_map (λ (s : With ElseIf). s.1) (map (λ (t : ElseIf). (t, in_branch t)) (map (λ (e : HeldBranch). e.0) more)) ++ other))
      ≡ weights (declarations_in body) + (weights (flat_map (λ (s : With ElseIf). s.1) (map (λ (t : ElseIf). (t, in_branch t)) (map (λ (e : HeldBranch). e.0) more))) + weights other)
  if_found body more other = omega (
    arith,
    total_append weight (declarations_in body)
        (flat_map (λ (s : With ElseIf). s.1) (map (λ (t : ElseIf). (t, in_branch t)) (map (λ (e : HeldBranch). e.0) more)) ++ other),
    total_append weight (flat_map (λ (s : With ElseIf). s.1) (map (λ (t : ElseIf). (t, in_branch t)) (map (λ (e : HeldBranch). e.0) more))) other,
  )

  statement_level : (y : Statement-F HeldMember HeldStatement HeldClass HeldFunction HeldCase HeldBranch) → weights (found_at (only_statement y)) ≤ place.placed_at offset (only_statement y)
  statement_level (Statement-F.Block at body) = statements_hold body
  statement_level (Statement-F.Function f) = f.1
  statement_level (Statement-F.Class c) = c.1
  statement_level (Statement-F.If at x body more None) = omega (arith, body.1, branches_hold more, if_found body.0 more [])
  statement_level (Statement-F.If at x body more (Some other)) = omega (arith, body.1, branches_hold more, other.1, if_found body.0 more (declarations_in other.0))
  statement_level (Statement-F.While at x body) = body.1
  statement_level (Statement-F.DoWhile at body x) = body.1
  statement_level (Statement-F.For at init test step body) = body.1
  statement_level (Statement-F.Foreach at x key element body) = body.1
  statement_level (Statement-F.Switch at x cases) = cases_hold cases
  statement_level (Statement-F.Static at variables) = statics_hold variables
  statement_level (Statement-F.Empty at) = omega arith
  statement_level (Statement-F.InlineText at bytes) = omega arith
  statement_level (Statement-F.Expression at x) = omega arith
  statement_level (Statement-F.Break at levels) = omega arith
  statement_level (Statement-F.Continue at levels) = omega arith
  statement_level (Statement-F.Return at result) = omega arith
  statement_level (Statement-F.Echo at xs) = omega arith
  statement_level (Statement-F.Global at names) = omega arith
  statement_level (Statement-F.Unset at paths) = omega arith
  statement_level (Statement-F.Const at items) = omega arith

  -- ---- whole trees

  statement_made : (x : Statement-F Member Statement Class Function Case ElseIf) (y : Statement-F HeldMember HeldStatement HeldClass HeldFunction HeldCase HeldBranch) → only_statement y ≡ x → StatementHolds (roll-Statement x)
  statement_made x y is = subst (λ d. StatementHolds (roll-Statement d)) is (omega (
    arith,
    statement_level y,
    ap weights (declarations_in_rolled (only_statement y)),
    place.placed_rolled offset (only_statement y),
  ))

  -- what a member has
  constants_alone : (at : At) (mods : Modifiers) (items : List ConstantItem) → constants_in (roll-Member (Member-F.Constants at mods items)) ≡ items
  constants_alone at mods items = simp (out-roll-Member)

  no_properties : (at : At) (mods : Modifiers) (items : List ConstantItem) → properties_in true (roll-Member (Member-F.Constants at mods items)) ≡ []
  no_properties at mods items = simp (out-roll-Member)

  no_constants : (at : At) (mods : Modifiers) (ty : Option DeclaredType) (items : List PropertyItem) → constants_in (roll-Member (Member-F.Properties at mods ty items)) ≡ []
  no_constants at mods ty items = simp (out-roll-Member)

  static_properties : (at : At) (mods : Modifiers) (ty : Option DeclaredType) (items : List PropertyItem) → mods.is_static ≡ true →
      properties_in true (roll-Member (Member-F.Properties at mods ty items)) ≡ items
  static_properties at mods ty items e = simp (out-roll-Member, e)

  plain_properties : (at : At) (mods : Modifiers) (ty : Option DeclaredType) (items : List PropertyItem) → mods.is_static ≡ false →
      properties_in true (roll-Member (Member-F.Properties at mods ty items)) ≡ []
  plain_properties at mods ty items e = simp (out-roll-Member, e)

  properties_few : (at : At) (mods : Modifiers) (ty : Option DeclaredType) (items : List PropertyItem) →
      total_of (place.property_here offset) (properties_in true (roll-Member (Member-F.Properties at mods ty items))) ≤ total_of (place.property_here offset) items
  properties_few at mods ty items = by_static mods.is_static refl
    where
      by_static : (b : Bool) → mods.is_static ≡ b →
          total_of (place.property_here offset) (properties_in true (roll-Member (Member-F.Properties at mods ty items))) ≤ total_of (place.property_here offset) items
      by_static true e = omega (arith, ap (total_of (place.property_here offset)) (static_properties at mods ty items e))
      by_static false e = omega (arith, ap (total_of (place.property_here offset)) (plain_properties at mods ty items e))

  methods_have_none : (at : At) (mods : Modifiers) (f : Function) → (constants_in (roll-Member (Member-F.Method at mods f)) ≡ [])
      × (properties_in true (roll-Member (Member-F.Method at mods f)) ≡ [])
  methods_have_none at mods f = (simp (out-roll-Member), simp (out-roll-Member))

  member_level : (y : Member-F HeldMember HeldStatement HeldClass HeldFunction HeldCase HeldBranch) → MemberHolds (roll-Member (only_member y))
  member_level (Member-F.Constants at mods items) class = omega (
    arith,
    ap (total_of (place.constant_here offset)) (constants_alone at mods items),
    ap (total_of (place.property_here offset)) (no_properties at mods items),
    ap (λ f. weights (f class)) (in_member_rolled (Member-F.Constants at mods items)),
    place.member_placed_rolled offset (Member-F.Constants at mods items),
  )
  member_level (Member-F.Properties at mods ty items) class = omega (
    arith,
    ap (total_of (place.constant_here offset)) (no_constants at mods ty items),
    properties_few at mods ty items,
    ap (λ f. weights (f class)) (in_member_rolled (Member-F.Properties at mods ty items)),
    place.member_placed_rolled offset (Member-F.Properties at mods ty items),
  )
  member_level (Member-F.Method at mods f) class = omega (
    arith,
    ap (total_of (place.constant_here offset)) (methods_have_none at mods f.0).0,
    ap (total_of (place.property_here offset)) (methods_have_none at mods f.0).1,
    f.1,
    ap (λ g. weights (g class)) (in_member_rolled (Member-F.Method at mods f.0)),
    place.member_placed_rolled offset (Member-F.Method at mods f.0),
  )

  member_made : (x : Member-F Member Statement Class Function Case ElseIf) (y : Member-F HeldMember HeldStatement HeldClass HeldFunction HeldCase HeldBranch) → only_member y ≡ x → MemberHolds (roll-Member x)
  member_made x y is = subst (λ d. MemberHolds (roll-Member d)) is (member_level y)

  class_made : (x : Class-F Member Statement Class Function Case ElseIf) (y : Class-F HeldMember HeldStatement HeldClass HeldFunction HeldCase HeldBranch) → only_class y ≡ x → ClassHolds (roll-Class x)
  class_made x y is = subst (λ d. ClassHolds (roll-Class d)) is (omega (
    arith,
    members_hold y.at.start y.members,
    ap (λ (d : Class-F Member Statement Class Function Case ElseIf). here d.at.start + total_of own d.members) (out-roll-Class (only_class y)),
    ap weights (in_class_rolled (only_class y)),
    place.class_placed_rolled offset (only_class y),
  ))

  function_made : (x : Function-F Member Statement Class Function Case ElseIf) (y : Function-F HeldMember HeldStatement HeldClass HeldFunction HeldCase HeldBranch) → only_function y ≡ x → FunctionHolds (roll-Function x)
  function_made x y is = subst (λ d. FunctionHolds (roll-Function d)) is (omega (
    arith,
    statements_hold y.body,
    ap (λ (d : Function-F Member Statement Class Function Case ElseIf). here d.at.start) (out-roll-Function (only_function y)),
    ap weights (in_function_rolled (only_function y)),
    place.function_placed_rolled offset (only_function y),
  ))

  case_made : (x : Case-F Member Statement Class Function Case ElseIf) (y : Case-F HeldMember HeldStatement HeldClass HeldFunction HeldCase HeldBranch) → only_case y ≡ x → CaseHolds (roll-Case x)
  case_made x y is = subst (λ d. CaseHolds (roll-Case d)) is (omega (
    arith,
    statements_hold y.body,
    ap weights (in_case_rolled (only_case y)),
    place.case_placed_rolled offset (only_case y),
  ))

  branch_made : (x : ElseIf-F Member Statement Class Function Case ElseIf) (y : ElseIf-F HeldMember HeldStatement HeldClass HeldFunction HeldCase HeldBranch) → only_branch y ≡ x → BranchHolds (roll-ElseIf x)
  branch_made x y is = subst (λ d. BranchHolds (roll-ElseIf d)) is (omega (
    arith,
    y.body.1,
    ap weights (in_branch_rolled (only_branch y)),
    place.branch_placed_rolled offset (only_branch y),
  ))

  pub declared_few : (x : Statement) → weights (declarations_in x) ≤ placed x
  declared_few = ind-Statement MemberHolds StatementHolds ClassHolds FunctionHolds CaseHolds BranchHolds
      member_made statement_made class_made function_made case_made branch_made

  pub all_declared_few : (ss : List Statement) → weights (flat_map declarations_in ss) ≤ total_of placed ss
  all_declared_few [] = omega arith
  all_declared_few (s ∷ ss) = omega (arith, declared_few s, all_declared_few ss, total_append weight (declarations_in s) (flat_map declarations_in ss))
