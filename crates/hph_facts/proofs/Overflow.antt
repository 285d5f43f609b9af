-- Whole numbers that pass 64 bits end the run.
use Rattle.std.specs.Prelude.{List, [], ◌∷◌, refl, codes}
use Rattle.std.proofs.Common.{String, Global}
use Rattle.std.specs.Fmt.{digits}
use denote.Hole.Carrier.{out, roll, shown, hidden}
use Rattle.hph_ast.specs.declared.class.Member.TheBlock.{shown-the_row-Function-1, shown-the_row-Class-3}
use Rattle.hph_ast.specs.declared.operator.Assignment.TheVariants as a
use Rattle.hph_ast.specs.declared.operator.Prefix.TheVariants as p
use Rattle.hph_ast.specs.declared.expr.Update.TheVariants as u
use Rattle.hph_ast.specs.declared.stmt.Statement.{out-Statement, roll-Statement}
use Rattle.hph_ast.specs.declared.class.Member.{out-Member, roll-Member}
use Rattle.hph_php.specs.declared.fatal.Fatal.TheVariants as k
use Rattle.hph_php.specs.Codes.{all_builtins}
use Rattle.hph_wasm.specs.Outcome.{Stopped}
use Rattle.hph_php.specs.Answers.{Fails}
use Rattle.hph_facts.proofs.KnownStatements.{KnownStatement, does, shows}
use Rattle.hph_facts.proofs.KnownPrograms.{program, EndsWith, one_file}
use Rattle.hph_facts.proofs.Vocabulary.{text, var, constant, update, prefix, assign}

-- What stands before is printed; a unit for the file:
-- `$x=PHP_INT_MAX; echo "a"; $x++; echo "b";`
abbrev overflow : List KnownStatement
overflow =
    does (assign a.Set (var (codes "x")) (constant (codes "PHP_INT_MAX"))) ∷
    shows (text (codes "a") ∷ []) ∷
    does (update u.PostIncrement (var (codes "x"))) ∷
    shows (text (codes "b") ∷ []) ∷ []

overflow_ends : (path : String Global) → EndsWith (program ((path, overflow) ∷ [])) 1 (codes "a") (Stopped (Fails k.Overflow))
unfolding shown-the_row-Function-1 shown-the_row-Class-3 shown hidden out roll out-Statement roll-Statement out-Member roll-Member digits all_builtins
overflow_ends path = one_file path overflow tt 1 refl refl

-- The least number has no negative:
-- `echo PHP_INT_MIN, -PHP_INT_MIN;`
abbrev least_negated : List KnownStatement
least_negated =
    shows (constant (codes "PHP_INT_MIN") ∷ prefix p.Minus (constant (codes "PHP_INT_MIN")) ∷ []) ∷ []

least_negated_ends : (path : String Global) → EndsWith (program ((path, least_negated) ∷ [])) 1 (codes "-9223372036854775808") (Stopped (Fails k.Overflow))
unfolding shown-the_row-Function-1 shown-the_row-Class-3 shown hidden out roll out-Statement roll-Statement out-Member roll-Member digits all_builtins
least_negated_ends path = one_file path least_negated tt 1 refl refl
