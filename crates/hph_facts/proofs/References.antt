-- Parameters and variables by reference.
use Rattle.std.specs.Prelude.{true, List, [], ◌∷◌, None, refl, codes}
use Rattle.std.proofs.Common.{String, Global}
use Rattle.std.specs.Fmt.{digits}
use denote.Hole.Carrier.{out, roll, shown, hidden}
use Rattle.hph_ast.specs.declared.class.Member.TheBlock.{shown-the_row-Function-1, shown-the_row-Class-3}
use Rattle.hph_ast.specs.declared.operator.Assignment.TheVariants as a
use Rattle.hph_ast.specs.declared.expr.Update.TheVariants as u
use Rattle.hph_ast.specs.declared.stmt.Statement.{out-Statement, roll-Statement}
use Rattle.hph_ast.specs.declared.class.Member.{out-Member, roll-Member}
use Rattle.hph_php.specs.Codes.{all_builtins}
use Rattle.hph_wasm.specs.Outcome.{Done}
use Rattle.hph_facts.proofs.KnownStatements.{KnownStatement, KnownFunction, does, shows, unsets, declares}
use Rattle.hph_facts.proofs.KnownPrograms.{program, EndsWith, one_file, function_code}
use Rattle.hph_facts.proofs.Vocabulary.{int, var, call, update, assign, refer}

-- Two parameters by reference, also of one variable; a unit for the file and one for each call:
-- `function swap(&$x,&$y){$t=$x;$x=$y;$y=$t;} $a=1;$b=2;swap($a,$b);echo $a,$b;swap($a,$a);echo $a;`
abbrev swap_swap : KnownFunction
swap_swap = record {
  start = 6;
  name = codes "swap";
  params = record { by_reference = true; name = codes "x"; default = None } ∷ record { by_reference = true; name = codes "y"; default = None } ∷ [];
  statements = does (assign a.Set (var (codes "t")) (var (codes "x"))) ∷ does (assign a.Set (var (codes "x")) (var (codes "y"))) ∷ does (assign a.Set (var (codes "y")) (var (codes "t"))) ∷ [];
}

abbrev swap : List KnownStatement
swap =
    declares swap_swap ∷
    does (assign a.Set (var (codes "a")) (int 1)) ∷
    does (assign a.Set (var (codes "b")) (int 2)) ∷
    does (call (codes "swap") (var (codes "a") ∷ var (codes "b") ∷ [])) ∷
    shows (var (codes "a") ∷ var (codes "b") ∷ []) ∷
    does (call (codes "swap") (var (codes "a") ∷ var (codes "a") ∷ [])) ∷
    shows (var (codes "a") ∷ []) ∷ []

swap_ends : (path : String Global) → EndsWith (program ((path, swap) ∷ [])) 3 (codes "212") Done
unfolding shown-the_row-Function-1 shown-the_row-Class-3 shown hidden out roll out-Statement roll-Statement out-Member roll-Member digits all_builtins
swap_ends path = one_file path swap (function_code swap_swap, tt) 3 refl refl

-- Two names of one location, and unset of one of them:
-- `$a = 1; $b = &$a; $b++; echo $a; unset($a); $a = 5; echo $b;`
abbrev shared : List KnownStatement
shared =
    does (assign a.Set (var (codes "a")) (int 1)) ∷
    does (refer (var (codes "b")) (var (codes "a"))) ∷
    does (update u.PostIncrement (var (codes "b"))) ∷
    shows (var (codes "a") ∷ []) ∷
    unsets (var (codes "a") ∷ []) ∷
    does (assign a.Set (var (codes "a")) (int 5)) ∷
    shows (var (codes "b") ∷ []) ∷ []

shared_ends : (path : String Global) → EndsWith (program ((path, shared) ∷ [])) 1 (codes "22") Done
unfolding shown-the_row-Function-1 shown-the_row-Class-3 shown hidden out roll out-Statement roll-Statement out-Member roll-Member digits all_builtins
shared_ends path = one_file path shared tt 1 refl refl
