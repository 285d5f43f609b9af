-- Classes, and the class that a static call names.
use Rattle.std.specs.Prelude.{true, false, List, [], ◌∷◌, Some, None, refl, codes}
use Rattle.std.proofs.Common.{String, Global}
use Rattle.std.specs.Fmt.{digits}
use denote.Hole.Carrier.{out, roll, shown, hidden}
use Rattle.hph_ast.specs.declared.class.Member.TheBlock.{shown-the_row-Function-1, shown-the_row-Class-3}
use Rattle.hph_ast.specs.declared.operator.Assignment.TheVariants as a
use Rattle.hph_ast.specs.declared.class.Access.TheVariants as access
use Rattle.hph_ast.specs.declared.stmt.Statement.{out-Statement, roll-Statement}
use Rattle.hph_ast.specs.declared.class.Member.{out-Member, roll-Member}
use Rattle.hph_php.specs.Codes.{all_builtins}
use Rattle.hph_wasm.specs.Outcome.{Done}
use Rattle.hph_facts.proofs.KnownStatements.{KnownStatement, KnownFunction, KnownClassDeclaration, shows, gives, declares_class, with_constants, with_properties, with_method}
use Rattle.hph_facts.proofs.KnownPrograms.{program, EndsWith, one_file, function_code, value_code, initial_values_code}
use Rattle.hph_facts.proofs.Vocabulary.{int, text, static_call, method_call, new, class_constant, static_property, paren, assign, by_name, self_class, static_class}

-- `new static` is of the class that was named; four calls:
-- `class A { public static function make() { return new static(); } public function who() { return "A"; } } class B extends A { public function who() { return "B"; } } echo (B::make())->who(), A::make()->who();`
abbrev late_a_make : KnownFunction
late_a_make = record {
  start = 30;
  name = codes "make";
  params = [];
  statements = gives (Some (new static_class [])) ∷ [];
}

abbrev late_a_who : KnownFunction
late_a_who = record {
  start = 78;
  name = codes "who";
  params = [];
  statements = gives (Some (text (codes "A"))) ∷ [];
}

abbrev late_class_a : KnownClassDeclaration
late_class_a = record {
  start = 6;
  name = codes "A";
  parent = None;
  members = with_method (record { access = Some access.Public; is_static = true }) late_a_make ∷ with_method (record { access = Some access.Public; is_static = false }) late_a_who ∷ [];
}

abbrev late_b_who : KnownFunction
late_b_who = record {
  start = 138;
  name = codes "who";
  params = [];
  statements = gives (Some (text (codes "B"))) ∷ [];
}

abbrev late_class_b : KnownClassDeclaration
late_class_b = record {
  start = 111;
  name = codes "B";
  parent = Some (codes "A");
  members = with_method (record { access = Some access.Public; is_static = false }) late_b_who ∷ [];
}

abbrev late : List KnownStatement
late =
    declares_class late_class_a ∷
    declares_class late_class_b ∷
    shows (method_call (paren (static_call (by_name (codes "B")) (codes "make") [])) (codes "who") [] ∷ method_call (static_call (by_name (codes "A")) (codes "make") []) (codes "who") [] ∷ []) ∷ []

late_ends : (path : String Global) → EndsWith (program ((path, late) ∷ [])) 5 (codes "BA") Done
unfolding shown-the_row-Function-1 shown-the_row-Class-3 shown hidden out roll out-Statement roll-Statement out-Member roll-Member digits all_builtins
late_ends path = one_file path late (function_code late_a_make, (function_code late_a_who, (function_code late_b_who, (initial_values_code [], (initial_values_code [], tt))))) 5 refl refl

-- `self::` passes the late class on, and a name doesn't; six calls:
-- `class A { static function name() { return "A"; } static function late() { return static::name(); } static function own() { return self::late(); } static function plain() { return A::late(); } } class B extends A { static function name() { return "B"; } } echo B::own(), B::plain();`
abbrev forwarded_a_name : KnownFunction
forwarded_a_name = record {
  start = 23;
  name = codes "name";
  params = [];
  statements = gives (Some (text (codes "A"))) ∷ [];
}

abbrev forwarded_a_late : KnownFunction
forwarded_a_late = record {
  start = 62;
  name = codes "late";
  params = [];
  statements = gives (Some (static_call static_class (codes "name") [])) ∷ [];
}

abbrev forwarded_a_own : KnownFunction
forwarded_a_own = record {
  start = 112;
  name = codes "own";
  params = [];
  statements = gives (Some (static_call self_class (codes "late") [])) ∷ [];
}

abbrev forwarded_a_plain : KnownFunction
forwarded_a_plain = record {
  start = 159;
  name = codes "plain";
  params = [];
  statements = gives (Some (static_call (by_name (codes "A")) (codes "late") [])) ∷ [];
}

abbrev forwarded_class_a : KnownClassDeclaration
forwarded_class_a = record {
  start = 6;
  name = codes "A";
  parent = None;
  members = with_method (record { access = None; is_static = true }) forwarded_a_name ∷ with_method (record { access = None; is_static = true }) forwarded_a_late ∷ with_method (record { access = None; is_static = true }) forwarded_a_own ∷ with_method (record { access = None; is_static = true }) forwarded_a_plain ∷ [];
}

abbrev forwarded_b_name : KnownFunction
forwarded_b_name = record {
  start = 227;
  name = codes "name";
  params = [];
  statements = gives (Some (text (codes "B"))) ∷ [];
}

abbrev forwarded_class_b : KnownClassDeclaration
forwarded_class_b = record {
  start = 200;
  name = codes "B";
  parent = Some (codes "A");
  members = with_method (record { access = None; is_static = true }) forwarded_b_name ∷ [];
}

abbrev forwarded : List KnownStatement
forwarded =
    declares_class forwarded_class_a ∷
    declares_class forwarded_class_b ∷
    shows (static_call (by_name (codes "B")) (codes "own") [] ∷ static_call (by_name (codes "B")) (codes "plain") [] ∷ []) ∷ []

forwarded_ends : (path : String Global) → EndsWith (program ((path, forwarded) ∷ [])) 7 (codes "BA") Done
unfolding shown-the_row-Function-1 shown-the_row-Class-3 shown hidden out roll out-Statement roll-Statement out-Member roll-Member digits all_builtins
forwarded_ends path = one_file path forwarded (function_code forwarded_a_name, (function_code forwarded_a_late, (function_code forwarded_a_own, (function_code forwarded_a_plain, (function_code forwarded_b_name, (initial_values_code [], (initial_values_code [], tt))))))) 7 refl refl

-- A static property is shared with a subclass; a unit for the call and one for the constant:
-- `class C { const STEP = 2; public static $n = 1; static function up() { return static::$n += self::STEP; } } class D extends C {} echo D::up(), C::$n;`
abbrev counted_c_up : KnownFunction
counted_c_up = record {
  start = 61;
  name = codes "up";
  params = [];
  statements = gives (Some (assign a.Add (static_property static_class (codes "n")) (class_constant self_class (codes "STEP")))) ∷ [];
}

abbrev counted_class_c : KnownClassDeclaration
counted_class_c = record {
  start = 6;
  name = codes "C";
  parent = None;
  members = with_constants (record { access = None; is_static = false }) (record { start = 22; name = codes "STEP"; value = int 2 } ∷ []) ∷ with_properties (record { access = Some access.Public; is_static = true }) (record { start = 46; name = codes "n"; value = Some (int 1) } ∷ []) ∷ with_method (record { access = None; is_static = true }) counted_c_up ∷ [];
}

abbrev counted_class_d : KnownClassDeclaration
counted_class_d = record {
  start = 114;
  name = codes "D";
  parent = Some (codes "C");
  members = [];
}

abbrev counted : List KnownStatement
counted =
    declares_class counted_class_c ∷
    declares_class counted_class_d ∷
    shows (static_call (by_name (codes "D")) (codes "up") [] ∷ static_property (by_name (codes "C")) (codes "n") ∷ []) ∷ []

counted_ends : (path : String Global) → EndsWith (program ((path, counted) ∷ [])) 3 (codes "33") Done
unfolding shown-the_row-Function-1 shown-the_row-Class-3 shown hidden out roll out-Statement roll-Statement out-Member roll-Member digits all_builtins
counted_ends path = one_file path counted (function_code counted_c_up, (value_code (int 2), (value_code (int 1), (initial_values_code [], (initial_values_code [], tt))))) 3 refl refl

-- A method that isn't static, called by a class's name, keeps the object's class as the late static class; three calls:
-- `class A { public function make() { return new static(); } public function who() { return "A"; } } class B extends A { public function up() { return A::make(); } public function who() { return "B"; } } echo (new B())->up()->who();`
abbrev kept_a_make : KnownFunction
kept_a_make = record {
  start = 23;
  name = codes "make";
  params = [];
  statements = gives (Some (new static_class [])) ∷ [];
}

abbrev kept_a_who : KnownFunction
kept_a_who = record {
  start = 71;
  name = codes "who";
  params = [];
  statements = gives (Some (text (codes "A"))) ∷ [];
}

abbrev kept_class_a : KnownClassDeclaration
kept_class_a = record {
  start = 6;
  name = codes "A";
  parent = None;
  members = with_method (record { access = Some access.Public; is_static = false }) kept_a_make ∷ with_method (record { access = Some access.Public; is_static = false }) kept_a_who ∷ [];
}

abbrev kept_b_up : KnownFunction
kept_b_up = record {
  start = 131;
  name = codes "up";
  params = [];
  statements = gives (Some (static_call (by_name (codes "A")) (codes "make") [])) ∷ [];
}

abbrev kept_b_who : KnownFunction
kept_b_who = record {
  start = 174;
  name = codes "who";
  params = [];
  statements = gives (Some (text (codes "B"))) ∷ [];
}

abbrev kept_class_b : KnownClassDeclaration
kept_class_b = record {
  start = 104;
  name = codes "B";
  parent = Some (codes "A");
  members = with_method (record { access = Some access.Public; is_static = false }) kept_b_up ∷ with_method (record { access = Some access.Public; is_static = false }) kept_b_who ∷ [];
}

abbrev kept : List KnownStatement
kept =
    declares_class kept_class_a ∷
    declares_class kept_class_b ∷
    shows (method_call (method_call (paren (new (by_name (codes "B")) [])) (codes "up") []) (codes "who") [] ∷ []) ∷ []

kept_ends : (path : String Global) → EndsWith (program ((path, kept) ∷ [])) 4 (codes "B") Done
unfolding shown-the_row-Function-1 shown-the_row-Class-3 shown hidden out roll out-Statement roll-Statement out-Member roll-Member digits all_builtins
kept_ends path = one_file path kept (function_code kept_a_make, (function_code kept_a_who, (function_code kept_b_up, (function_code kept_b_who, (initial_values_code [], (initial_values_code [], tt)))))) 4 refl refl
