-- Files that are included.
use Rattle.std.specs.Prelude.{List, [], ◌∷◌, Some, ◌≡◌, refl, codes, string_bytes}
use Rattle.std.proofs.Common.{String, Global}
use Rattle.std.specs.Fmt.{digits}
use denote.Hole.Carrier.{out, roll, shown, hidden}
use Rattle.hph_ast.specs.declared.class.Member.TheBlock.{shown-the_row-Function-1, shown-the_row-Class-3}
use Rattle.hph_ast.specs.declared.operator.Binary.TheVariants as b
use Rattle.hph_ast.specs.declared.operator.Assignment.TheVariants as a
use Rattle.hph_ast.specs.declared.operator.Prefix.TheVariants as p
use Rattle.hph_ast.specs.declared.operator.IncludeForm.TheVariants as form
use Rattle.hph_ast.specs.declared.expr.Update.TheVariants as u
use Rattle.hph_ast.specs.declared.stmt.Statement.{out-Statement, roll-Statement}
use Rattle.hph_ast.specs.declared.class.Member.{out-Member, roll-Member}
use Rattle.hph_php.specs.declared.fatal.Fatal.TheVariants as k
use Rattle.hph_php.specs.Codes.{all_builtins}
use Rattle.hph_wasm.specs.Outcome.{Done, Stopped}
use Rattle.hph_php.specs.Answers.{Fails}
use Rattle.hph_facts.proofs.KnownStatements.{KnownStatement, KnownFunction, does, shows, gives, body, for_, declares}
use Rattle.hph_facts.proofs.KnownPrograms.{program, EndsWith, known_ends, function_code}
use Rattle.hph_facts.proofs.Vocabulary.{int, text, var, call, update, prefix, pair, assign}

-- The functions of a file are there once it is entered; a unit for each file and one for the call:
-- m.php: `echo 1; include 'b.php'; echo h();`
-- b.php: `function h(){return 5;}`
abbrev included_h : KnownFunction
included_h = record {
  start = 6;
  name = codes "h";
  params = [];
  statements = gives (Some (int 5)) ∷ [];
}

abbrev included_m : List KnownStatement
included_m =
    shows (int 1 ∷ []) ∷
    does (prefix (p.Include form.Include) (text (codes "b.php"))) ∷
    shows (call (codes "h") [] ∷ []) ∷ []

abbrev included_b : List KnownStatement
included_b =
    declares included_h ∷ []

included_ends : (m b : String Global) (is_m : string_bytes m ≡ codes "m.php") (is_b : string_bytes b ≡ codes "b.php") →
    EndsWith (program ((m, included_m) ∷ (b, included_b) ∷ [])) 3 (codes "15") Done
unfolding shown-the_row-Function-1 shown-the_row-Class-3 shown hidden out roll out-Statement roll-Statement out-Member roll-Member digits all_builtins
included_ends m b is_m is_b = known_ends ((m, included_m) ∷ (b, included_b) ∷ []) (codes "m.php" ∷ codes "b.php" ∷ [])
    (λ i. is_m i ∷ is_b i ∷ []) (function_code included_h, tt) 3 refl refl

-- And not before:
-- m.php: `echo h(); include 'b.php';`
-- b.php: `function h(){return 5;}`
abbrev not_yet_m : List KnownStatement
not_yet_m =
    shows (call (codes "h") [] ∷ []) ∷
    does (prefix (p.Include form.Include) (text (codes "b.php"))) ∷ []

abbrev not_yet_b : List KnownStatement
not_yet_b =
    declares included_h ∷ []

not_yet_ends : (m b : String Global) (is_m : string_bytes m ≡ codes "m.php") (is_b : string_bytes b ≡ codes "b.php") →
    EndsWith (program ((m, not_yet_m) ∷ (b, not_yet_b) ∷ [])) 1 [] (Stopped (Fails k.UndefinedFunction))
unfolding shown-the_row-Function-1 shown-the_row-Class-3 shown hidden out roll out-Statement roll-Statement out-Member roll-Member digits all_builtins
not_yet_ends m b is_m is_b = known_ends ((m, not_yet_m) ∷ (b, not_yet_b) ∷ []) (codes "m.php" ∷ codes "b.php" ∷ [])
    (λ i. is_m i ∷ is_b i ∷ []) (function_code included_h, tt) 1 refl refl

-- Include enters a file each time, and include_once one that wasn't entered; units for the main file, two turns, two entries:
-- m.php: `for ($i = 0; $i < 2; $i++) { include 'b.php'; include_once 'b.php'; }`
-- b.php: `echo $i; return 7; echo 9;`
abbrev each_time_m : List KnownStatement
each_time_m =
    for_ (assign a.Set (var (codes "i")) (int 0) ∷ []) (pair b.Less (var (codes "i")) (int 2) ∷ []) (update u.PostIncrement (var (codes "i")) ∷ []) (body (does (prefix (p.Include form.Include) (text (codes "b.php"))) ∷ does (prefix (p.Include form.IncludeOnce) (text (codes "b.php"))) ∷ [])) ∷ []

abbrev each_time_b : List KnownStatement
each_time_b =
    shows (var (codes "i") ∷ []) ∷
    gives (Some (int 7)) ∷
    shows (int 9 ∷ []) ∷ []

each_time_ends : (m b : String Global) (is_m : string_bytes m ≡ codes "m.php") (is_b : string_bytes b ≡ codes "b.php") →
    EndsWith (program ((m, each_time_m) ∷ (b, each_time_b) ∷ [])) 5 (codes "01") Done
unfolding shown-the_row-Function-1 shown-the_row-Class-3 shown hidden out roll out-Statement roll-Statement out-Member roll-Member digits all_builtins
each_time_ends m b is_m is_b = known_ends ((m, each_time_m) ∷ (b, each_time_b) ∷ []) (codes "m.php" ∷ codes "b.php" ∷ [])
    (λ i. is_m i ∷ is_b i ∷ []) tt 5 refl refl
