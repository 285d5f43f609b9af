-- Classes that are made when their file is entered, and when their statement is reached.
use Rattle.std.specs.Prelude.{false, List, [], ◌∷◌, Some, None, refl, codes}
use Rattle.std.proofs.Common.{String, Global}
use Rattle.std.specs.Fmt.{digits}
use denote.Hole.Carrier.{out, roll, shown, hidden}
use Rattle.hph_ast.specs.declared.class.Member.TheBlock.{shown-the_row-Function-1, shown-the_row-Class-3}
use Rattle.hph_ast.specs.declared.operator.Assignment.TheVariants as a
use Rattle.hph_ast.specs.declared.stmt.Statement.{out-Statement, roll-Statement}
use Rattle.hph_ast.specs.declared.class.Member.{out-Member, roll-Member}
use Rattle.hph_php.specs.declared.fatal.Fatal.TheVariants as k
use Rattle.hph_php.specs.Codes.{all_builtins}
use Rattle.hph_wasm.specs.Outcome.{Done, Stopped}
use Rattle.hph_php.specs.Answers.{Fails}
use Rattle.hph_facts.proofs.KnownStatements.{KnownStatement, KnownFunction, KnownClassDeclaration, does, shows, gives, declares_class, with_method}
use Rattle.hph_facts.proofs.KnownPrograms.{program, EndsWith, one_file, function_code, initial_values_code}
use Rattle.hph_facts.proofs.Vocabulary.{int, var, method_call, new, paren, assign, by_name}

abbrev early_m : KnownFunction
early_m = record { start = 58; name = codes "m"; params = []; statements = gives (Some (int 1)) ∷ [] }

abbrev early_a : KnownClassDeclaration
early_a = record { start = 27; name = codes "A"; parent = None; members = [] }

abbrev early_b : KnownClassDeclaration
early_b = record { start = 38; name = codes "B"; parent = Some (codes "A"); members = with_method (record { access = None; is_static = false }) early_m ∷ [] }

-- A class whose parent stands before it is made at the entry, and its statement passes it:
-- `echo (new B())->m(); class A {} class B extends A { function m(){ return 1; } }`
abbrev early : List KnownStatement
early =
    shows (method_call (paren (new (by_name (codes "B")) [])) (codes "m") [] ∷ []) ∷
    declares_class early_a ∷
    declares_class early_b ∷ []

early_ends : (path : String Global) → EndsWith (program ((path, early) ∷ [])) 2 (codes "1") Done
unfolding shown-the_row-Function-1 shown-the_row-Class-3 shown hidden out roll out-Statement roll-Statement out-Member roll-Member digits all_builtins
early_ends path = one_file path early (function_code early_m, (initial_values_code [], (initial_values_code [], tt))) 2 refl refl

abbrev late_m : KnownFunction
late_m = record { start = 26; name = codes "m"; params = []; statements = gives (Some (int 1)) ∷ [] }

abbrev late_a : KnownClassDeclaration
late_a = record { start = 54; name = codes "A"; parent = None; members = [] }

abbrev late_b : KnownClassDeclaration
late_b = record { start = 6; name = codes "B"; parent = Some (codes "A"); members = with_method (record { access = None; is_static = false }) late_m ∷ [] }

-- A class whose parent stands behind it is made by its statement:
-- `class B extends A { function m(){ return 1; } } class A {} $b = new B(); echo $b->m();`
abbrev late : List KnownStatement
late =
    declares_class late_b ∷
    declares_class late_a ∷
    does (assign a.Set (var (codes "b")) (new (by_name (codes "B")) [])) ∷
    shows (method_call (var (codes "b")) (codes "m") [] ∷ []) ∷ []

late_ends : (path : String Global) → EndsWith (program ((path, late) ∷ [])) 2 (codes "1") Done
unfolding shown-the_row-Function-1 shown-the_row-Class-3 shown hidden out roll out-Statement roll-Statement out-Member roll-Member digits all_builtins
late_ends path = one_file path late (function_code late_m, (initial_values_code [], (initial_values_code [], tt))) 2 refl refl

abbrev missing_m : KnownFunction
missing_m = record { start = 54; name = codes "m"; params = []; statements = gives (Some (int 1)) ∷ [] }

abbrev missing_a : KnownClassDeclaration
missing_a = record { start = 82; name = codes "A"; parent = None; members = [] }

abbrev missing_b : KnownClassDeclaration
missing_b = record { start = 34; name = codes "B"; parent = Some (codes "A"); members = with_method (record { access = None; is_static = false }) missing_m ∷ [] }

-- and isn't there before that:
-- `$b = new B(); echo $b->m(); class B extends A { function m(){ return 1; } } class A {}`
abbrev missing : List KnownStatement
missing =
    does (assign a.Set (var (codes "b")) (new (by_name (codes "B")) [])) ∷
    shows (method_call (var (codes "b")) (codes "m") [] ∷ []) ∷
    declares_class missing_b ∷
    declares_class missing_a ∷ []

missing_ends : (path : String Global) → EndsWith (program ((path, missing) ∷ [])) 1 [] (Stopped (Fails k.UndefinedClass))
unfolding shown-the_row-Function-1 shown-the_row-Class-3 shown hidden out roll out-Statement roll-Statement out-Member roll-Member digits all_builtins
missing_ends path = one_file path missing (function_code missing_m, (initial_values_code [], (initial_values_code [], tt))) 1 refl refl
