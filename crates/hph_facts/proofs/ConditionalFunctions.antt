-- A function that is declared in a branch is there once the branch is taken.
use Rattle.std.specs.Prelude.{List, [], ◌∷◌, Some, None, refl, codes}
use Rattle.std.proofs.Common.{String, Global}
use Rattle.std.specs.Fmt.{digits}
use denote.Hole.Carrier.{out, roll, shown, hidden}
use Rattle.hph_ast.specs.declared.class.Member.TheBlock.{shown-the_row-Function-1, shown-the_row-Class-3}
use Rattle.hph_ast.specs.declared.operator.Assignment.TheVariants as a
use Rattle.hph_ast.specs.declared.stmt.Statement.{out-Statement, roll-Statement}
use Rattle.hph_ast.specs.declared.class.Member.{out-Member, roll-Member}
use Rattle.hph_php.specs.declared.fatal.Fatal.TheVariants as k
use Rattle.hph_php.specs.Codes.{all_builtins}
use Rattle.hph_wasm.specs.Outcome.{Done, Stopped}
use Rattle.hph_php.specs.Answers.{Fails}
use Rattle.hph_facts.proofs.KnownStatements.{KnownStatement, KnownFunction, does, shows, gives, body, if_, declares}
use Rattle.hph_facts.proofs.KnownPrograms.{program, EndsWith, one_file, function_code}
use Rattle.hph_facts.proofs.Vocabulary.{int, var, constant, call, assign}

-- The branch that is taken:
-- `$c=true; if ($c) {function g(){return 1;}} else {function g(){return 2;}} echo g();`
abbrev taken_g : KnownFunction
taken_g = record {
  start = 24;
  name = codes "g";
  params = [];
  statements = gives (Some (int 1)) ∷ [];
}

abbrev taken_g_again : KnownFunction
taken_g_again = record {
  start = 55;
  name = codes "g";
  params = [];
  statements = gives (Some (int 2)) ∷ [];
}

abbrev taken : List KnownStatement
taken =
    does (assign a.Set (var (codes "c")) (constant (codes "true"))) ∷
    if_ (var (codes "c")) (body (declares taken_g ∷ [])) [] (Some (body (declares taken_g_again ∷ []))) ∷
    shows (call (codes "g") [] ∷ []) ∷ []

taken_ends : (path : String Global) → EndsWith (program ((path, taken) ∷ [])) 2 (codes "1") Done
unfolding shown-the_row-Function-1 shown-the_row-Class-3 shown hidden out roll out-Statement roll-Statement out-Member roll-Member digits all_builtins
taken_ends path = one_file path taken (function_code taken_g, (function_code taken_g_again, tt)) 2 refl refl

-- The other branch:
-- `$c=false; if ($c) {function g(){return 1;}} else {function g(){return 2;}} echo g();`
abbrev not_taken_g : KnownFunction
not_taken_g = record {
  start = 25;
  name = codes "g";
  params = [];
  statements = gives (Some (int 1)) ∷ [];
}

abbrev not_taken_g_again : KnownFunction
not_taken_g_again = record {
  start = 56;
  name = codes "g";
  params = [];
  statements = gives (Some (int 2)) ∷ [];
}

abbrev not_taken : List KnownStatement
not_taken =
    does (assign a.Set (var (codes "c")) (constant (codes "false"))) ∷
    if_ (var (codes "c")) (body (declares not_taken_g ∷ [])) [] (Some (body (declares not_taken_g_again ∷ []))) ∷
    shows (call (codes "g") [] ∷ []) ∷ []

not_taken_ends : (path : String Global) → EndsWith (program ((path, not_taken) ∷ [])) 2 (codes "2") Done
unfolding shown-the_row-Function-1 shown-the_row-Class-3 shown hidden out roll out-Statement roll-Statement out-Member roll-Member digits all_builtins
not_taken_ends path = one_file path not_taken (function_code not_taken_g, (function_code not_taken_g_again, tt)) 2 refl refl

-- A call before the branch:
-- `echo g(); $c=true; if ($c) {function g(){return 1;}}`
abbrev too_early_g : KnownFunction
too_early_g = record {
  start = 34;
  name = codes "g";
  params = [];
  statements = gives (Some (int 1)) ∷ [];
}

abbrev too_early : List KnownStatement
too_early =
    shows (call (codes "g") [] ∷ []) ∷
    does (assign a.Set (var (codes "c")) (constant (codes "true"))) ∷
    if_ (var (codes "c")) (body (declares too_early_g ∷ [])) [] None ∷ []

too_early_ends : (path : String Global) → EndsWith (program ((path, too_early) ∷ [])) 1 [] (Stopped (Fails k.UndefinedFunction))
unfolding shown-the_row-Function-1 shown-the_row-Class-3 shown hidden out roll out-Statement roll-Statement out-Member roll-Member digits all_builtins
too_early_ends path = one_file path too_early (function_code too_early_g, tt) 1 refl refl
