-- A whole program with classes: its code, what it prints, which methods it calls, and the bound on reductions. PHP 8.2 prints the same.
use Rattle.std.proofs.Common.{◌≡◌, ◌∙◌, ◌+◌, ℕ, List, [], ◌∷◌, length, refl, codes, true, false, None, Some, String, Global}
use Rattle.std.specs.String.{string_bytes}
use denote.Hole.Carrier.{out, roll, shown, hidden}
use Rattle.hph_ast.specs.declared.class.Member.TheBlock.{shown-the_row-Function-1, shown-the_row-Class-3}
use Rattle.hph_ast.specs.declared.expr.Expr.{Expr, roll-Expr}
use Rattle.hph_ast.specs.declared.expr.MemberName.{MemberName, roll-MemberName}
use Rattle.hph_ast.specs.declared.expr.ClassReference.{ClassReference, roll-ClassReference}
use Rattle.hph_ast.specs.declared.expr.ClassReference.TheOpen.{ClassReference-F, Expr-F, MemberName-F}
use Rattle.hph_ast.specs.declared.stmt.Statement.{Statement, roll-Statement, out-Statement}
use Rattle.hph_ast.specs.declared.stmt.Case.{Case}
use Rattle.hph_ast.specs.declared.stmt.ElseIf.{ElseIf}
use Rattle.hph_ast.specs.declared.function.Function.{Function}
use Rattle.hph_ast.specs.declared.class.Class.{Class, roll-Class}
use Rattle.hph_ast.specs.declared.class.Access.TheVariants as access
use Rattle.hph_ast.specs.declared.class.Modifiers.{Modifiers}
use Rattle.hph_ast.specs.declared.class.Member.{Member, roll-Member, out-Member}
use Rattle.hph_ast.specs.declared.class.Member.TheOpen.{Class-F, Member-F, Statement-F}
use Rattle.hph_ast.specs.declared.class.Member.TheFolds.{para-Member, para-Statement, para-Class, para-Function, para-Case, para-ElseIf, para-roll-Member, map-Member}
use Rattle.hph_ast.specs.declared.program.Program.{Program}
use Rattle.hph_php.specs.State.{Name}
use Rattle.hph_wasm.specs.Outcome.{Done}
use Rattle.hph_php.specs.Answers.{Means, bind, give}
use Rattle.hph_php.specs.Codes.{all_builtins}
use Rattle.hph_php.specs.Cost.{nodes, statement_nodes, cost}
use Rattle.hph_php.specs.Declarations.{Codes, Declaration, With, WithMember, member_found, statement_found, class_found, function_found, case_found, else_if_found, declarations_in, codes_of, all_declarations, placed_at, site_at, a_body, initial_values}
use Rattle.hph_php.specs.Declarations as declaration
use Rattle.hph_php.specs.World.{World, Context}
use Rattle.hph_php.specs.Targets.{Reading, valued}
use Rattle.hph_php.specs.Classes.{named_class, static_class, call_static, call_method, new_object}
use Rattle.hph_php.specs.Statements.{Way, goes_on, block}
use Rattle.hph_php.specs.Executions.{class_statement}
use Rattle.hph_php.specs.Files.{entering}
use Rattle.hph_php.specs.Run.{Meanings, Routine, a_function, initials, meanings_of, parameters, in_body, result_of, php, calls}
use Rattle.hph_php.proofs.Levels.{reading_rolled, class_rolled, member_rolled, statement_rolled, class_place_rolled}
use Rattle.hph_program.proofs.Trees.{trees, from_to, name_at, text, echo, returned, function, file}
use Rattle.hph_program.proofs.Runs.{Reads, Does, AllDone, php_is, calls_are, text_is, returns_is, none_done, and_done}
use Rattle.hph_program.proofs.Runs as means

-- ---- `<?php class A { public static function make() { return new static(); } public function who() { return "A"; } }
-- class B extends A { public function who() { return "B"; } } echo (B::make())->who(), A::make()->who();`

abbrev class_at : ℕ → Name → ClassReference
class_at start name = roll-ClassReference (ClassReference-F.ByName (from_to start (start + length name)) name)

abbrev member_named : Name → MemberName
member_named name = roll-MemberName (MemberName-F.Named name)

-- `C::make()`
abbrev make_of : ℕ → Name → Expr
make_of start class = roll-Expr (Expr-F.StaticCall (from_to start (start + 9)) (class_at start class) (member_named (codes "make")) [])

abbrev who_of : ℕ → ℕ → Expr → Expr
who_of start end x = roll-Expr (Expr-F.MethodCall (from_to start end) x (member_named (codes "who")) [])

abbrev paren : ℕ → ℕ → Expr → Expr
paren start end x = roll-Expr (Expr-F.Paren (from_to start end) x)

abbrev new_static : Expr
new_static = roll-Expr (Expr-F.New (from_to 55 67) (roll-ClassReference (ClassReference-F.Static (from_to 59 65))) [])

abbrev public : Modifiers
public = record { access = Some access.Public; is_static = false }

abbrev public_static : Modifiers
public_static = record { access = Some access.Public; is_static = true }

abbrev make_body : List Statement
make_body = returned 48 68 new_static ∷ []

abbrev make : Function
make = function 30 70 39 (codes "make") [] make_body

abbrev who_a_body : List Statement
who_a_body = returned 95 106 (text 102 105 (codes "A")) ∷ []

abbrev who_a : Function
who_a = function 78 108 87 (codes "who") [] who_a_body

abbrev who_b_body : List Statement
who_b_body = returned 155 166 (text 162 165 (codes "B")) ∷ []

abbrev who_b : Function
who_b = function 138 168 147 (codes "who") [] who_b_body

abbrev layer_a : Class-F Member Statement Class Function Case ElseIf
layer_a = record {
  at = from_to 6 110;
  name = name_at 12 (codes "A");
  parent = None;
  members = roll-Member (Member-F.Method (from_to 16 70) public_static make) ∷ roll-Member (Member-F.Method (from_to 71 108) public who_a) ∷ [];
}

abbrev class_a : Class
class_a = roll-Class layer_a

abbrev layer_b : Class-F Member Statement Class Function Case ElseIf
layer_b = record {
  at = from_to 111 170;
  name = name_at 117 (codes "B");
  parent = Some (name_at 127 (codes "A"));
  members = roll-Member (Member-F.Method (from_to 131 168) public who_b) ∷ [];
}

abbrev class_b : Class
class_b = roll-Class layer_b

abbrev declared_class : Class → Statement
declared_class c = roll-Statement (Statement-F.Class c)

abbrev shown_first : Expr
shown_first = who_of 176 194 (paren 176 187 (make_of 177 (codes "B")))

abbrev shown_second : Expr
shown_second = who_of 196 212 (make_of 196 (codes "A"))

abbrev statements : List Statement
statements = declared_class class_a ∷ declared_class class_b ∷ echo 171 213 (shown_first ∷ shown_second ∷ []) ∷ []

-- ---- what they mean

module _ (w : World) (c : Context) where
  abbrev makes_of : Name → Reading
  makes_of class = valued (call_static w c (named_class class) (codes "make") [])

  abbrev asks_who : Reading → Reading
  asks_who x = valued (call_method w c x.value (codes "who") [])

  make_of_is : (start : ℕ) (class : Name) → Reads w c (make_of start class) (makes_of class)
  make_of_is start class = record {
    is = reading_rolled w c (Expr-F.StaticCall (from_to start (start + 9)) (class_at start class) (member_named (codes "make")) [])
        ∙ (λ i. valued (call_static w c (class_rolled w c (ClassReference-F.ByName (from_to start (start + length class)) class) i)
        (member_rolled w c (MemberName-F.Named (codes "make")) i) []));
  }

  who_of_is : (start end : ℕ) {x : Expr} {f : Reading} → Reads w c x f → Reads w c (who_of start end x) (asks_who f)
  who_of_is start end {x} p = record {
    is = reading_rolled w c (Expr-F.MethodCall (from_to start end) x (member_named (codes "who")) [])
        ∙ (λ i. valued (call_method w c (p.is i).value (member_rolled w c (MemberName-F.Named (codes "who")) i) []));
  }

  paren_is : (start end : ℕ) {x : Expr} {f : Reading} → Reads w c x f → Reads w c (paren start end x) (valued f.value)
  paren_is start end {x} p = record { is = reading_rolled w c (Expr-F.Paren (from_to start end) x) ∙ (λ i. valued (p.is i).value) }

  abbrev news_static : Reading
  news_static = valued (new_object w c (static_class) [])

  new_static_is : Reads w c new_static news_static
  new_static_is = record {
    is = reading_rolled w c (Expr-F.New (from_to 55 67) (roll-ClassReference (ClassReference-F.Static (from_to 59 65))) [])
        ∙ (λ i. valued (new_object w c (class_rolled w c (ClassReference-F.Static (from_to 59 65)) i) []));
  }

  class_is : (layer : Class-F Member Statement Class Function Case ElseIf) →
      Does w c (declared_class (roll-Class layer)) (goes_on (class_statement w c layer.at.start))
  class_is layer = record {
    is = statement_rolled w c (Statement-F.Class (roll-Class layer)) ∙ (λ i. goes_on (class_statement w c (class_place_rolled w c layer i)));
  }

  echo_two_is : (start end : ℕ) {x y : Expr} {f g : Reading} → Reads w c x f → Reads w c y g →
      Does w c (echo start end (x ∷ y ∷ [])) (means.echoes w c (f ∷ g ∷ []))
  echo_two_is start end {x} {y} p q = record {
    is = statement_rolled w c (Statement-F.Echo (from_to start end) (x ∷ y ∷ [])) ∙ (λ i. means.echoes w c (p.is i ∷ q.is i ∷ []));
  }

  abbrev statements_mean : List (Means Way)
  statements_mean = goes_on (class_statement w c 6) ∷ goes_on (class_statement w c 111)
      ∷ means.echoes w c (asks_who (valued (makes_of (codes "B")).value) ∷ asks_who (makes_of (codes "A")) ∷ []) ∷ []

  statements_are : AllDone w c statements statements_mean
  statements_are = and_done w c (class_is layer_a) (and_done w c (class_is layer_b)
      (and_done w c (echo_two_is 171 213 (who_of_is 176 194 (paren_is 176 187 (make_of_is 177 (codes "B")))) (who_of_is 196 212 (make_of_is 196 (codes "A"))))
      (none_done w c)))

  make_body_is : AllDone w c make_body (means.returns w c news_static ∷ [])
  make_body_is = and_done w c (returns_is w c 48 68 new_static_is) (none_done w c)

  who_a_is : AllDone w c who_a_body (means.returns w c (means.text w c (codes "A")) ∷ [])
  who_a_is = and_done w c (returns_is w c 95 106 (text_is w c 102 105 (codes "A"))) (none_done w c)

  who_b_is : AllDone w c who_b_body (means.returns w c (means.text w c (codes "B")) ∷ [])
  who_b_is = and_done w c (returns_is w c 155 166 (text_is w c 162 165 (codes "B"))) (none_done w c)

abbrev method : Codes → ℕ → Function → (World → Context → List (Means Way)) → Routine
method p class f m = a_function (λ w. parameters w (in_body p 0 (Some class)) f)
    (λ w. bind (block (m w (in_body p 0 (Some class)))) (λ way. give (result_of way)))

-- ---- declarations in members, which go by the offset of their class

abbrev Found : Type 0
Found = List Declaration

abbrev in_member : Member → ℕ → Found
in_member = para-Member (ℕ → Found) Found Found Found Found Found member_found statement_found class_found function_found case_found else_if_found

abbrev in_statement : Statement → Found
in_statement = para-Statement (ℕ → Found) Found Found Found Found Found member_found statement_found class_found function_found case_found else_if_found

abbrev in_class : Class → Found
in_class = para-Class (ℕ → Found) Found Found Found Found Found member_found statement_found class_found function_found case_found else_if_found

abbrev in_function : Function → Found
in_function = para-Function (ℕ → Found) Found Found Found Found Found member_found statement_found class_found function_found case_found else_if_found

abbrev in_case : Case → Found
in_case = para-Case (ℕ → Found) Found Found Found Found Found member_found statement_found class_found function_found case_found else_if_found

abbrev in_else_if : ElseIf → Found
in_else_if = para-ElseIf (ℕ → Found) Found Found Found Found Found member_found statement_found class_found function_found case_found else_if_found

member_declares : (d : Member-F Member Statement Class Function Case ElseIf) (offset : ℕ) → in_member (roll-Member d) offset ≡ member_found
    (map-Member Member Statement Class Function Case ElseIf WithMember (With Statement) (With Class) (With Function) (With Case) (With ElseIf)
    (λ t. (t, in_member t)) (λ t. (t, in_statement t)) (λ t. (t, in_class t)) (λ t. (t, in_function t)) (λ t. (t, in_case t)) (λ t. (t, in_else_if t)) d) offset
member_declares d offset = λ i. para-roll-Member (ℕ → Found) Found Found Found Found Found
    member_found statement_found class_found function_found case_found else_if_found d i offset

-- ---- the program

abbrev Body : Type 0
Body = World → Context → List (Means Way)

abbrev all_mean : Codes → Body → Body → Body → Body → Meanings
all_mean p m make_m who_a_m who_b_m = record {
  files = (λ w. entering p 0 statements (λ c. m w c)) ∷ [];
  routines = method p 0 make make_m ∷ method p 0 who_a who_a_m ∷ method p 1 who_b who_b_m
      ∷ initials 0 (λ w. give []) ∷ initials 1 (λ w. give []) ∷ [];
}

module _ (path : String Global) where
  abbrev makes : Program
  makes = record { files = file path 6 213 statements ∷ [] }

  -- bodies of methods with the numbers of their classes, then the initial values of the classes, of which there are none
  abbrev makes_code : Codes
  makes_code = record {
    paths = string_bytes path ∷ [];
    classes = record { site = site_at 0 6; class = class_a } ∷ record { site = site_at 0 111; class = class_b } ∷ [];
    codes = placed_at 0 30 (a_body make (Some 0) true) ∷ placed_at 0 78 (a_body who_a (Some 0) false) ∷ placed_at 0 138 (a_body who_b (Some 1) false)
        ∷ placed_at 0 6 (initial_values [] 0) ∷ placed_at 0 111 (initial_values [] 1) ∷ [];
    statics = [];
  }

  makes_codes : codes_of makes ≡ makes_code
  unfolding declarations_in
  makes_codes = simp (trees, member_declares)

  makes_declares : all_declarations makes ≡ (0, declaration.a_class class_a) ∷ (0, declaration.a_method 6 true make)
      ∷ (0, declaration.a_method 6 false who_a) ∷ (0, declaration.a_class class_b) ∷ (0, declaration.a_method 111 false who_b) ∷ []
  unfolding declarations_in
  makes_declares = simp (trees, member_declares)

  makes_meanings : meanings_of makes.files makes_code ≡ all_mean makes_code statements_mean
      (λ w c. means.returns w c (news_static w c) ∷ []) (λ w c. means.returns w c (means.text w c (codes "A")) ∷ [])
      (λ w c. means.returns w c (means.text w c (codes "B")) ∷ [])
  unfolding shown-the_row-Function-1 shown-the_row-Class-3 shown hidden out roll
  makes_meanings = λ i. all_mean makes_code (λ w c. (statements_are w c).is i) (λ w c. (make_body_is w c).is i) (λ w c. (who_a_is w c).is i) (λ w c. (who_b_is w c).is i)

  -- a unit for the file, and one for each of four calls
  makes_prints : php makes 5 ≡ record { output = codes "BA"; end = Done }
  unfolding out-Statement roll-Statement out-Member roll-Member shown-the_row-Function-1 shown-the_row-Class-3 shown hidden out roll all_builtins
  makes_prints = php_is makes makes_codes makes_meanings 5 ∙ refl

  -- the scopes are A, its make and who, B and its who, from 1 on
  makes_calls : calls makes 5 ≡ 2 ∷ 5 ∷ 2 ∷ 3 ∷ []
  unfolding out-Statement roll-Statement out-Member roll-Member shown-the_row-Function-1 shown-the_row-Class-3 shown hidden out roll all_builtins
  makes_calls = calls_are makes makes_codes makes_declares makes_meanings 5 ∙ refl

  -- 4096 * 6 * 25 ^ 2, as the program has 24 nodes
  makes_cost : cost makes 5 ≡ 15360000
  unfolding nodes statement_nodes
  makes_cost = simp trees
