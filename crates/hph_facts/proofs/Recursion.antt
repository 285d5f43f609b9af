-- Functions that call themselves.
use Rattle.std.specs.Prelude.{false, List, [], ◌∷◌, ◌++◌, Some, None, refl, codes}
use Rattle.std.proofs.Common.{String, Global}
use Rattle.std.specs.Fmt.{digits}
use denote.Hole.Carrier.{out, roll, shown, hidden}
use Rattle.hph_ast.specs.declared.class.Member.TheBlock.{shown-the_row-Function-1, shown-the_row-Class-3}
use Rattle.hph_ast.specs.declared.operator.Binary.TheVariants as b
use Rattle.hph_ast.specs.declared.stmt.Statement.{out-Statement, roll-Statement}
use Rattle.hph_ast.specs.declared.class.Member.{out-Member, roll-Member}
use Rattle.hph_php.specs.declared.fatal.Fatal.TheVariants as k
use Rattle.hph_php.specs.Codes.{all_builtins}
use Rattle.hph_wasm.specs.Outcome.{Done, Stopped}
use Rattle.hph_php.specs.Answers.{Fails}
use Rattle.hph_facts.proofs.KnownStatements.{KnownStatement, KnownFunction, does, shows, gives, body, if_, declares}
use Rattle.hph_facts.proofs.KnownPrograms.{program, EndsWith, one_file, function_code}
use Rattle.hph_facts.proofs.Vocabulary.{int, var, constant, call, run, pair, ternary}

-- A unit for the file and one for each of twenty calls:
-- `function fact($n){ if ($n < 2) { return 1; } return $n * fact($n - 1); } echo fact(20);`
abbrev factorial_fact : KnownFunction
factorial_fact = record {
  start = 6;
  name = codes "fact";
  params = record { by_reference = false; name = codes "n"; default = None } ∷ [];
  statements = if_ (pair b.Less (var (codes "n")) (int 2)) (body (gives (Some (int 1)) ∷ [])) [] None ∷ gives (Some (run (var (codes "n")) ((b.Mul, call (codes "fact") (run (var (codes "n")) ((b.Sub, int 1) ∷ []) ∷ [])) ∷ []))) ∷ [];
}

abbrev factorial : List KnownStatement
factorial =
    declares factorial_fact ∷
    shows (call (codes "fact") (int 20 ∷ []) ∷ []) ∷ []

factorial_ends : (path : String Global) → EndsWith (program ((path, factorial) ∷ [])) 21 (codes "2432902008176640000") Done
unfolding shown-the_row-Function-1 shown-the_row-Class-3 shown hidden out roll out-Statement roll-Statement out-Member roll-Member digits all_builtins
factorial_ends path = one_file path factorial (function_code factorial_fact, tt) 21 refl refl

-- The last product passes 64 bits:
-- `function fact($n){ if ($n < 2) { return 1; } return $n * fact($n - 1); } echo fact(21);`
abbrev factorial_overflows : List KnownStatement
factorial_overflows =
    declares factorial_fact ∷
    shows (call (codes "fact") (int 21 ∷ []) ∷ []) ∷ []

factorial_overflows_ends : (path : String Global) → EndsWith (program ((path, factorial_overflows) ∷ [])) 22 [] (Stopped (Fails k.Overflow))
unfolding shown-the_row-Function-1 shown-the_row-Class-3 shown hidden out roll out-Statement roll-Statement out-Member roll-Member digits all_builtins
factorial_overflows_ends path = one_file path factorial_overflows (function_code factorial_fact, tt) 22 refl refl

-- Two functions that call one another, eight times in all:
-- `function even($n) { return $n == 0 ? true : odd($n - 1); } function odd($n) { return $n == 0 ? false : even($n - 1); } var_dump(even(7));`
abbrev each_other_even : KnownFunction
each_other_even = record {
  start = 6;
  name = codes "even";
  params = record { by_reference = false; name = codes "n"; default = None } ∷ [];
  statements = gives (Some (ternary (pair b.Equal (var (codes "n")) (int 0)) (constant (codes "true")) (call (codes "odd") (run (var (codes "n")) ((b.Sub, int 1) ∷ []) ∷ [])))) ∷ [];
}

abbrev each_other_odd : KnownFunction
each_other_odd = record {
  start = 65;
  name = codes "odd";
  params = record { by_reference = false; name = codes "n"; default = None } ∷ [];
  statements = gives (Some (ternary (pair b.Equal (var (codes "n")) (int 0)) (constant (codes "false")) (call (codes "even") (run (var (codes "n")) ((b.Sub, int 1) ∷ []) ∷ [])))) ∷ [];
}

abbrev each_other : List KnownStatement
each_other =
    declares each_other_even ∷
    declares each_other_odd ∷
    does (call (codes "var_dump") (call (codes "even") (int 7 ∷ []) ∷ [])) ∷ []

each_other_ends : (path : String Global) → EndsWith (program ((path, each_other) ∷ [])) 9 (codes "bool(false)" ++ (10 ∷ [])) Done
unfolding shown-the_row-Function-1 shown-the_row-Class-3 shown hidden out roll out-Statement roll-Statement out-Member roll-Member digits all_builtins
each_other_ends path = one_file path each_other (function_code each_other_even, (function_code each_other_odd, tt)) 9 refl refl
