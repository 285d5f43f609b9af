-- Division of whole numbers.
use Rattle.std.specs.Prelude.{List, [], ◌∷◌, refl, codes}
use Rattle.std.proofs.Common.{String, Global}
use Rattle.std.specs.Fmt.{digits}
use denote.Hole.Carrier.{out, roll, shown, hidden}
use Rattle.hph_ast.specs.declared.class.Member.TheBlock.{shown-the_row-Function-1, shown-the_row-Class-3}
use Rattle.hph_ast.specs.declared.operator.Binary.TheVariants as b
use Rattle.hph_ast.specs.declared.operator.Prefix.TheVariants as p
use Rattle.hph_ast.specs.declared.stmt.Statement.{out-Statement, roll-Statement}
use Rattle.hph_ast.specs.declared.class.Member.{out-Member, roll-Member}
use Rattle.hph_php.specs.declared.fatal.Fatal.TheVariants as k
use Rattle.hph_php.specs.Codes.{all_builtins}
use Rattle.hph_wasm.specs.Outcome.{Done, Stopped}
use Rattle.hph_php.specs.Answers.{Fails}
use Rattle.hph_facts.proofs.KnownStatements.{KnownStatement, shows}
use Rattle.hph_facts.proofs.KnownPrograms.{program, EndsWith, one_file}
use Rattle.hph_facts.proofs.Vocabulary.{int, prefix, run}

-- A quotient that is whole, and a remainder with the sign of the left operand:
-- `echo 6/2, -7%3;`
abbrev exact : List KnownStatement
exact =
    shows (run (int 6) ((b.Div, int 2) ∷ []) ∷ run (prefix p.Minus (int 7)) ((b.Rem, int 3) ∷ []) ∷ []) ∷ []

exact_ends : (path : String Global) → EndsWith (program ((path, exact) ∷ [])) 1 (codes "3-1") Done
unfolding shown-the_row-Function-1 shown-the_row-Class-3 shown hidden out roll out-Statement roll-Statement out-Member roll-Member digits all_builtins
exact_ends path = one_file path exact tt 1 refl refl

-- A quotient that is not whole:
-- `echo 7/2;`
abbrev broken : List KnownStatement
broken =
    shows (run (int 7) ((b.Div, int 2) ∷ []) ∷ []) ∷ []

broken_ends : (path : String Global) → EndsWith (program ((path, broken) ∷ [])) 1 [] (Stopped (Fails k.Float))
unfolding shown-the_row-Function-1 shown-the_row-Class-3 shown hidden out roll out-Statement roll-Statement out-Member roll-Member digits all_builtins
broken_ends path = one_file path broken tt 1 refl refl

-- A remainder by zero:
-- `echo 1%0;`
abbrev by_zero : List KnownStatement
by_zero =
    shows (run (int 1) ((b.Rem, int 0) ∷ []) ∷ []) ∷ []

by_zero_ends : (path : String Global) → EndsWith (program ((path, by_zero) ∷ [])) 1 [] (Stopped (Fails k.DivZero))
unfolding shown-the_row-Function-1 shown-the_row-Class-3 shown hidden out roll out-Statement roll-Statement out-Member roll-Member digits all_builtins
by_zero_ends path = one_file path by_zero tt 1 refl refl
