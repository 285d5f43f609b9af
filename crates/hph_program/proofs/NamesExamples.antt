-- Arguments for parameters by reference, and members that an ancestor declares private.
use Rattle.std.proofs.Common.{◌≡◌, List, [], ◌∷◌, refl, codes, true, false, None, Some, String, Global}
use denote.Hole.Carrier.{out, roll, shown, hidden}
use Rattle.hph_ast.specs.declared.class.Member.TheBlock.{shown-the_row-Function-1, shown-the_row-Class-3}
use Rattle.hph_ast.specs.declared.expr.Expr.{Expr}
use Rattle.hph_ast.specs.declared.stmt.Statement.{Statement}
use Rattle.hph_ast.specs.declared.function.Param.{Param}
use Rattle.hph_ast.specs.declared.class.Class.{roll-Class}
use Rattle.hph_ast.specs.declared.class.Access.TheVariants as access
use Rattle.hph_ast.specs.declared.class.Modifiers.{Modifiers}
use Rattle.hph_ast.specs.declared.class.Member.{Member, roll-Member}
use Rattle.hph_ast.specs.declared.class.Member.TheOpen.{Member-F}
use Rattle.hph_ast.specs.declared.program.Program.{Program}
use Rattle.hph_php.specs.Declarations.{Codes, PlacedClass, declarations_in, site_at}
use Rattle.hph_program.specs.Names.{names_parent, property_names, any_modifiers, is_private, wrong_arguments, wrong_arguments_of, expressions_in}
use Rattle.hph_program.proofs.Trees.{trees, from_to, name_at, int, variable, call, expression, function, declared, file}

-- ---- `<?php function f(&$a){} f(1);` passes a number by reference

abbrev by_reference : Param
by_reference = record {
  at = from_to 17 20;
  ty = None;
  by_reference = true;
  name = record { start = 18; end = 20; spelled = codes "a" };
  default = None;
}

abbrev takes_one : List Expr → List Statement
takes_one xs = declared (function 6 23 15 (codes "f") (by_reference ∷ []) []) ∷ expression 24 29 (call 24 28 (codes "f") xs) ∷ []

module _ (path : String Global) where
  abbrev passes : List Expr → Program
  passes xs = record { files = file path 6 29 (takes_one xs) ∷ [] }

  a_number_is_wrong : wrong_arguments_of (passes (int 26 27 1 ∷ [])) ≡ int 26 27 1 ∷ []
  unfolding wrong_arguments expressions_in declarations_in
  a_number_is_wrong = simp trees

  a_variable_is_right : wrong_arguments_of (passes (variable 26 (codes "a") ∷ [])) ≡ []
  unfolding wrong_arguments expressions_in declarations_in
  a_variable_is_right = simp trees

  this_is_wrong : wrong_arguments_of (passes (variable 26 (codes "this") ∷ [])) ≡ variable 26 (codes "this") ∷ []
  unfolding wrong_arguments expressions_in declarations_in
  this_is_wrong = simp trees

-- ---- `array_pop(1)` and `Array_Pop($a)`

abbrev no_code : Codes
no_code = record { paths = []; classes = []; codes = []; statics = [] }

pop_of_a_number : wrong_arguments no_code (call 6 18 (codes "array_pop") (int 16 17 1 ∷ [])) ≡ int 16 17 1 ∷ []
unfolding wrong_arguments
pop_of_a_number = simp trees

pop_of_a_variable : wrong_arguments no_code (call 6 19 (codes "Array_Pop") (variable 16 (codes "a") ∷ [])) ≡ []
unfolding wrong_arguments
pop_of_a_variable = simp trees

-- ---- `class A { private $x; } class B extends A { public $x; }` declares again what is private

abbrev with_access : Modifiers → Member
with_access mods = roll-Member (Member-F.Properties (from_to 16 26) mods None (record { name = record { start = 24; end = 26; spelled = codes "x" }; value = None } ∷ []))

abbrev private : Modifiers
private = record { access = Some access.Private; is_static = false }

abbrev public : Modifiers
public = record { access = Some access.Public; is_static = false }

abbrev class_a : PlacedClass
class_a = record {
  site = site_at 0 6;
  class = roll-Class (record { at = from_to 6 29; name = name_at 12 (codes "A"); parent = None; members = with_access private ∷ [] });
}

abbrev class_b : PlacedClass
class_b = record {
  site = site_at 0 30;
  class = roll-Class (record { at = from_to 30 63; name = name_at 36 (codes "B"); parent = Some (name_at 46 (codes "a")); members = with_access public ∷ [] });
}

a_is_a_parent : (names_parent class_b class_a ≡ true) × (names_parent class_a class_b ≡ false)
unfolding shown-the_row-Function-1 shown-the_row-Class-3 shown hidden out roll
a_is_a_parent = (refl, refl)

both_declare_x : (property_names any_modifiers (with_access public) ≡ codes "x" ∷ []) × (property_names is_private (with_access private) ≡ codes "x" ∷ [])
    × (property_names is_private (with_access public) ≡ [])
both_declare_x = (simp trees, simp trees, simp trees)
