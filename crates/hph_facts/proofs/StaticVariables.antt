-- Static variables, which go by their numbers.
use Rattle.std.specs.Prelude.{List, [], ◌∷◌, Some, refl, codes}
use Rattle.std.proofs.Common.{String, Global}
use Rattle.std.specs.Fmt.{digits}
use denote.Hole.Carrier.{out, roll, shown, hidden}
use Rattle.hph_ast.specs.declared.class.Member.TheBlock.{shown-the_row-Function-1, shown-the_row-Class-3}
use Rattle.hph_ast.specs.declared.expr.Update.TheVariants as update
use Rattle.hph_ast.specs.declared.stmt.Statement.{out-Statement, roll-Statement}
use Rattle.hph_ast.specs.declared.class.Member.{out-Member, roll-Member}
use Rattle.hph_php.specs.Codes.{all_builtins}
use Rattle.hph_wasm.specs.Outcome.{Done}
use Rattle.hph_facts.proofs.KnownStatements.{KnownStatement, KnownFunction, does, shows, gives, statics, declares}
use Rattle.hph_facts.proofs.KnownPrograms.{program, EndsWith, one_file, function_code}
use Rattle.hph_facts.proofs.Vocabulary.{int, var, call}
use Rattle.hph_facts.proofs.Vocabulary as known

-- Two of one name are two; four calls:
-- `function f(){ static $n = 0; $n++; return $n; } function g(){ static $n = 5; $n++; return $n; } echo f(), g(), f(), g();`
abbrev counts_f : KnownFunction
counts_f = record {
  start = 6;
  name = codes "f";
  params = [];
  statements = statics (record { start = 27; name = codes "n"; value = Some (int 0) } ∷ []) ∷ does (known.update update.PostIncrement (var (codes "n")))
      ∷ gives (Some (var (codes "n"))) ∷ [];
}

abbrev counts_g : KnownFunction
counts_g = record {
  start = 54;
  name = codes "g";
  params = [];
  statements = statics (record { start = 75; name = codes "n"; value = Some (int 5) } ∷ []) ∷ does (known.update update.PostIncrement (var (codes "n")))
      ∷ gives (Some (var (codes "n"))) ∷ [];
}

abbrev counts : List KnownStatement
counts =
    declares counts_f ∷
    declares counts_g ∷
    shows (call (codes "f") [] ∷ call (codes "g") [] ∷ call (codes "f") [] ∷ call (codes "g") [] ∷ []) ∷ []

counts_ends : (path : String Global) → EndsWith (program ((path, counts) ∷ [])) 5 (codes "1627") Done
unfolding shown-the_row-Function-1 shown-the_row-Class-3 shown hidden out roll out-Statement roll-Statement out-Member roll-Member digits all_builtins
counts_ends path = one_file path counts (function_code counts_f, (function_code counts_g, tt)) 5 refl refl
