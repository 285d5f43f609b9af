-- What may not be lowered: each of these breaks one field of the condition.
use Rattle.std.specs.Prelude.{◌≡◌, true, false, [], ◌∷◌, None, codes}
use Rattle.std.proofs.Common.{refl}
use Rattle.hph_ast.specs.declared.class.Member.TheOpen.{Statement-F}
use Rattle.hph_ast.specs.declared.stmt.Statement.{roll-Statement}
use Rattle.hph_ast.specs.declared.refusal.Construct.TheVariants as c
use Rattle.hph_ast.specs.ConstantExpressions.{is_constant}
use Rattle.hph_ast.specs.RefusedExpressions.{a_text, a_directory_path}
use Rattle.hph_ast.specs.RefusedStatements.{file_refused}
use Rattle.hph_program.proofs.Trees.{trees, from_to, int, call, set}
use Rattle.hph_lowerable.specs.Facts.{expression_fits, constant_fits}
use Rattle.hph_lowerable.specs.Lowerable.{names_file}
use Rattle.hph_lowerable.proofs.ExpressionLevels.{facts_rolled}
use Rattle.hph_lowerable.proofs.RefusedLevels.{fits_rolled, statement_rolled}

-- the greatest int, and one more
greatest_int : expression_fits (int 6 25 9223372036854775807) ≡ true
greatest_int = simp (fits_rolled)

one_more : expression_fits (int 6 25 9223372036854775808) ≡ false
one_more = simp (fits_rolled)

-- `1 = 2`
a_number_is_not_written : expression_fits (set 6 11 (int 6 7 1) (int 10 11 2)) ≡ false
a_number_is_not_written = simp (fits_rolled, facts_rolled)

-- `f()` as the value of a constant
a_call_is_not_constant : constant_fits (call 6 9 (codes "f") []) ≡ false
unfolding is_constant
a_call_is_not_constant = simp trees

-- `break;` outside of loops
a_break_needs_a_loop : file_refused (record { at = from_to 6 12; statements = roll-Statement (Statement-F.Break (from_to 6 12) None) ∷ [] }) ≡ (c.BadBreak, 6) ∷ []
a_break_needs_a_loop = simp (statement_rolled)

-- an include in `lib/a.php` of a file that is there, and of one that isn't
names_one : names_file (codes "m.php" ∷ codes "lib/b.php" ∷ []) (codes "lib") (a_text (codes "b.php")) ≡ true
names_one = refl

names_none : names_file (codes "m.php" ∷ codes "lib/b.php" ∷ []) (codes "lib") (a_directory_path (codes "/c.php")) ≡ false
names_none = refl
