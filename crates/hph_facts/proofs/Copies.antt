-- An array that is assigned is a copy.
use Rattle.std.specs.Prelude.{false, List, [], ◌∷◌, Some, None, refl, codes}
use Rattle.std.proofs.Common.{String, Global}
use Rattle.std.specs.Fmt.{digits}
use denote.Hole.Carrier.{out, roll, shown, hidden}
use Rattle.hph_ast.specs.declared.class.Member.TheBlock.{shown-the_row-Function-1, shown-the_row-Class-3}
use Rattle.hph_ast.specs.declared.operator.Assignment.TheVariants as a
use Rattle.hph_ast.specs.declared.stmt.Statement.{out-Statement, roll-Statement}
use Rattle.hph_ast.specs.declared.class.Member.{out-Member, roll-Member}
use Rattle.hph_php.specs.Codes.{all_builtins}
use Rattle.hph_wasm.specs.Outcome.{Done}
use Rattle.hph_facts.proofs.KnownStatements.{KnownStatement, KnownFunction, does, shows, gives, declares}
use Rattle.hph_facts.proofs.KnownPrograms.{program, EndsWith, one_file, function_code}
use Rattle.hph_facts.proofs.Vocabulary.{int, var, array, call, along, assign, element, index, last}

-- The copy grows and the array doesn't:
-- `$a=[1,2];$b=$a;$b[]=3;echo count($a),count($b);`
abbrev copy : List KnownStatement
copy =
    does (assign a.Set (var (codes "a")) (array (element (int 1) ∷ element (int 2) ∷ []))) ∷
    does (assign a.Set (var (codes "b")) (var (codes "a"))) ∷
    does (assign a.Set (along (var (codes "b")) (last ∷ [])) (int 3)) ∷
    shows (call (codes "count") (var (codes "a") ∷ []) ∷ call (codes "count") (var (codes "b") ∷ []) ∷ []) ∷ []

copy_ends : (path : String Global) → EndsWith (program ((path, copy) ∷ [])) 1 (codes "23") Done
unfolding shown-the_row-Function-1 shown-the_row-Class-3 shown hidden out roll out-Statement roll-Statement out-Member roll-Member digits all_builtins
copy_ends path = one_file path copy tt 1 refl refl

-- An array in an array, and one that a function takes; a unit for the file and one for the call:
-- `function f($x) { $x[0][0] = 7; return $x; } $a=[[1]]; $b=f($a); echo $a[0][0], $b[0][0];`
abbrev inner_copy_f : KnownFunction
inner_copy_f = record {
  start = 6;
  name = codes "f";
  params = record { by_reference = false; name = codes "x"; default = None } ∷ [];
  statements = does (assign a.Set (along (var (codes "x")) (index (int 0) ∷ index (int 0) ∷ [])) (int 7)) ∷ gives (Some (var (codes "x"))) ∷ [];
}

abbrev inner_copy : List KnownStatement
inner_copy =
    declares inner_copy_f ∷
    does (assign a.Set (var (codes "a")) (array (element (array (element (int 1) ∷ [])) ∷ []))) ∷
    does (assign a.Set (var (codes "b")) (call (codes "f") (var (codes "a") ∷ []))) ∷
    shows (along (var (codes "a")) (index (int 0) ∷ index (int 0) ∷ []) ∷ along (var (codes "b")) (index (int 0) ∷ index (int 0) ∷ []) ∷ []) ∷ []

inner_copy_ends : (path : String Global) → EndsWith (program ((path, inner_copy) ∷ [])) 2 (codes "17") Done
unfolding shown-the_row-Function-1 shown-the_row-Class-3 shown hidden out roll out-Statement roll-Statement out-Member roll-Member digits all_builtins
inner_copy_ends path = one_file path inner_copy (function_code inner_copy_f, tt) 2 refl refl
