-- Constants and initial values of a class, which run in a frame of the class.
use Rattle.std.specs.Prelude.{true, false, List, [], ◌∷◌, Some, None, refl, codes}
use Rattle.std.proofs.Common.{String, Global}
use Rattle.std.specs.Fmt.{digits}
use denote.Hole.Carrier.{out, roll, shown, hidden}
use Rattle.hph_ast.specs.declared.class.Member.TheBlock.{shown-the_row-Function-1, shown-the_row-Class-3}
use Rattle.hph_ast.specs.declared.operator.Assignment.TheVariants as a
use Rattle.hph_ast.specs.declared.operator.Binary.TheVariants as b
use Rattle.hph_ast.specs.declared.class.Access.TheVariants as access
use Rattle.hph_ast.specs.declared.stmt.Statement.{out-Statement, roll-Statement}
use Rattle.hph_ast.specs.declared.class.Member.{out-Member, roll-Member}
use Rattle.hph_php.specs.Codes.{all_builtins}
use Rattle.hph_wasm.specs.Outcome.{Done}
use Rattle.hph_facts.proofs.KnownStatements.{KnownStatement, KnownFunction, KnownClassDeclaration, does, shows, gives, declares_class, with_constants, with_properties, with_method}
use Rattle.hph_facts.proofs.KnownPrograms.{program, EndsWith, one_file, function_code, value_code, initial_values_code}
use Rattle.hph_facts.proofs.Vocabulary.{int, var, run, static_call, new, class_constant, paren, along, property, assign, by_name, self_class, static_class}

-- Each constant takes a unit, also one that another or an initial value asks for:
-- `class A { const B = 1; const C = self::B + 1; public $x = self::C; } $a = new A(); echo $a->x, A::C;`
abbrev values_a : KnownClassDeclaration
values_a = record {
  start = 6;
  name = codes "A";
  parent = None;
  members = with_constants (record { access = None; is_static = false }) (record { start = 22; name = codes "B"; value = int 1 } ∷ [])
      ∷ with_constants (record { access = None; is_static = false }) (record { start = 35; name = codes "C"; value = run (class_constant self_class (codes "B")) ((b.Add, int 1) ∷ []) } ∷ [])
      ∷ with_properties (record { access = Some access.Public; is_static = false }) (record { start = 59; name = codes "x"; value = Some (class_constant self_class (codes "C")) } ∷ []) ∷ [];
}

abbrev values : List KnownStatement
values =
    declares_class values_a ∷
    does (assign a.Set (var (codes "a")) (new (by_name (codes "A")) [])) ∷
    shows (along (var (codes "a")) (property (codes "x") ∷ []) ∷ class_constant (by_name (codes "A")) (codes "C") ∷ []) ∷ []

values_ends : (path : String Global) → EndsWith (program ((path, values) ∷ [])) 5 (codes "22") Done
unfolding shown-the_row-Function-1 shown-the_row-Class-3 shown hidden out roll out-Statement roll-Statement out-Member roll-Member digits all_builtins
values_ends path = one_file path values (
  value_code (int 1),
  (
    value_code (run (class_constant self_class (codes "B")) ((b.Add, int 1) ∷ [])),
    (initial_values_code ((codes "x", Some (class_constant self_class (codes "C"))) ∷ []), tt),
  ),
) 5 refl refl

-- There `static` is the class that declares them, also where the late static class is another (a caller's frame would give 22);
-- two calls and three constants:
-- `class A { const B = 1; const C = static::B; public $x = static::B; static function make() { return new static(); } static function ask() { return static::C; } } class S extends A { const B = 2; } echo (S::make())->x, S::ask();`
abbrev framed_make : KnownFunction
framed_make = record {
  start = 80;
  name = codes "make";
  params = [];
  statements = gives (Some (new static_class [])) ∷ [];
}

abbrev framed_ask : KnownFunction
framed_ask = record {
  start = 128;
  name = codes "ask";
  params = [];
  statements = gives (Some (class_constant static_class (codes "C"))) ∷ [];
}

abbrev framed_a : KnownClassDeclaration
framed_a = record {
  start = 6;
  name = codes "A";
  parent = None;
  members = with_constants (record { access = None; is_static = false }) (record { start = 22; name = codes "B"; value = int 1 } ∷ [])
      ∷ with_constants (record { access = None; is_static = false }) (record { start = 35; name = codes "C"; value = class_constant static_class (codes "B") } ∷ [])
      ∷ with_properties (record { access = Some access.Public; is_static = false }) (record { start = 57; name = codes "x"; value = Some (class_constant static_class (codes "B")) } ∷ [])
      ∷ with_method (record { access = None; is_static = true }) framed_make ∷ with_method (record { access = None; is_static = true }) framed_ask ∷ [];
}

abbrev framed_s : KnownClassDeclaration
framed_s = record {
  start = 167;
  name = codes "S";
  parent = Some (codes "A");
  members = with_constants (record { access = None; is_static = false }) (record { start = 193; name = codes "B"; value = int 2 } ∷ []) ∷ [];
}

abbrev framed : List KnownStatement
framed =
    declares_class framed_a ∷
    declares_class framed_s ∷
    shows (along (paren (static_call (by_name (codes "S")) (codes "make") [])) (property (codes "x") ∷ []) ∷ static_call (by_name (codes "S")) (codes "ask") [] ∷ []) ∷ []

framed_ends : (path : String Global) → EndsWith (program ((path, framed) ∷ [])) 6 (codes "11") Done
unfolding shown-the_row-Function-1 shown-the_row-Class-3 shown hidden out roll out-Statement roll-Statement out-Member roll-Member digits all_builtins
framed_ends path = one_file path framed (
  function_code framed_make,
  (
    function_code framed_ask,
    (
      value_code (int 1),
      (
        value_code (class_constant static_class (codes "B")),
        (
          value_code (int 2),
          (initial_values_code ((codes "x", Some (class_constant static_class (codes "B"))) ∷ []), (initial_values_code [], tt)),
        ),
      ),
    ),
  ),
) 6 refl refl
