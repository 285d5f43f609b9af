-- The key that an array gives an element without one.
use Rattle.std.specs.Prelude.{List, [], ◌∷◌, ◌++◌, refl, codes}
use Rattle.std.proofs.Common.{String, Global}
use Rattle.std.specs.Fmt.{digits}
use denote.Hole.Carrier.{out, roll, shown, hidden}
use Rattle.hph_ast.specs.declared.class.Member.TheBlock.{shown-the_row-Function-1, shown-the_row-Class-3}
use Rattle.hph_ast.specs.declared.operator.Assignment.TheVariants as a
use Rattle.hph_ast.specs.declared.stmt.Statement.{out-Statement, roll-Statement}
use Rattle.hph_ast.specs.declared.class.Member.{out-Member, roll-Member}
use Rattle.hph_php.specs.declared.fatal.Fatal.TheVariants as k
use Rattle.hph_php.specs.Codes.{all_builtins}
use Rattle.hph_wasm.specs.Outcome.{Done, Stopped}
use Rattle.hph_php.specs.Answers.{Fails}
use Rattle.hph_facts.proofs.KnownStatements.{KnownStatement, does, shows, unsets}
use Rattle.hph_facts.proofs.KnownPrograms.{program, EndsWith, one_file}
use Rattle.hph_facts.proofs.Vocabulary.{int, text, var, constant, array, call, along, assign, keyed, index, last}

-- Unset leaves the next key:
-- `$a=[5=>1]; unset($a[5]); $a[]=2; var_dump($a);`
abbrev next_key : List KnownStatement
next_key =
    does (assign a.Set (var (codes "a")) (array (keyed (int 5) (int 1) ∷ []))) ∷
    unsets (along (var (codes "a")) (index (int 5) ∷ []) ∷ []) ∷
    does (assign a.Set (along (var (codes "a")) (last ∷ [])) (int 2)) ∷
    does (call (codes "var_dump") (var (codes "a") ∷ [])) ∷ []

next_key_ends : (path : String Global) → EndsWith (program ((path, next_key) ∷ [])) 1 (codes "array(1) {" ++ (10 ∷ []) ++ codes "  [6]=>" ++ (10 ∷ []) ++ codes "  int(2)" ++ (10 ∷ []) ++ codes "}" ++ (10 ∷ [])) Done
unfolding shown-the_row-Function-1 shown-the_row-Class-3 shown hidden out roll out-Statement roll-Statement out-Member roll-Member digits all_builtins
next_key_ends path = one_file path next_key tt 1 refl refl

-- There is none behind the greatest key:
-- `$b=[9223372036854775807=>1]; $b[]=2;`
abbrev no_next_key : List KnownStatement
no_next_key =
    does (assign a.Set (var (codes "b")) (array (keyed (int 9223372036854775807) (int 1) ∷ []))) ∷
    does (assign a.Set (along (var (codes "b")) (last ∷ [])) (int 2)) ∷ []

no_next_key_ends : (path : String Global) → EndsWith (program ((path, no_next_key) ∷ [])) 1 [] (Stopped (Fails k.AppendFull))
unfolding shown-the_row-Function-1 shown-the_row-Class-3 shown hidden out roll out-Statement roll-Statement out-Member roll-Member digits all_builtins
no_next_key_ends path = one_file path no_next_key tt 1 refl refl

-- Which keys are one:
-- `echo count(["08"=>1,8=>2,"8"=>3,true=>4,null=>5]);`
abbrev same_keys : List KnownStatement
same_keys =
    shows (call (codes "count") (array (keyed (text (codes "08")) (int 1) ∷ keyed (int 8) (int 2) ∷ keyed (text (codes "8")) (int 3) ∷ keyed (constant (codes "true")) (int 4) ∷ keyed (constant (codes "null")) (int 5) ∷ []) ∷ []) ∷ []) ∷ []

same_keys_ends : (path : String Global) → EndsWith (program ((path, same_keys) ∷ [])) 1 (codes "4") Done
unfolding shown-the_row-Function-1 shown-the_row-Class-3 shown hidden out roll out-Statement roll-Statement out-Member roll-Member digits all_builtins
same_keys_ends path = one_file path same_keys tt 1 refl refl
