-- `$x=PHP_INT_MAX; echo "a"; $x++; echo "b";` prints a, and ends as Fatal(Overflow).
use Rattle.std.proofs.Common.{◌≡◌, ℕ, List, [], ◌∷◌, refl}
use Rattle.std.specs.Prelude.{codes}
use Rattle.hph_wasm.specs.declared.instr.Instr.{Instr}
use Rattle.hph_wasm.specs.declared.module.Module.{Module}
use Rattle.hph_wasm.specs.Instantiation.{zeros, empty_table}
use Rattle.hph_wasm.specs.Outcome.{Stopped, More}
use Rattle.hph_wasm.specs.Run.{wasm}
use Rattle.hph_php.specs.declared.fatal.Fatal.TheVariants.{Overflow}
use Rattle.hph_php.specs.Answers.{Fails}
use Rattle.hph_effects.specs.declared.row.Row.{Row}
use Rattle.hph_effects.specs.declared.row.Row.TheVariants as r
use Rattle.hph_effects.specs.Hosts.{Serving, empty_host}
use Rattle.hph_effects.specs.Effects.{php1}
use Rattle.hph_effect_laws.proofs.Modules.{call, module_of, word}

abbrev used : List Row
used = r.Write ∷ r.Str ∷ r.Drop ∷ r.Dup ∷ r.Set ∷ r.Ref ∷ r.PathInc ∷ r.ConstGet ∷ r.Once ∷ []

abbrev row : Row → Instr
row x = call used x

-- at 0 stands PHP_INT_MAX, then a and b; $x has slot 0
abbrev literals : List ℕ
literals = codes "PHP_INT_MAXab"

abbrev overflow : Module
overflow = module_of used [] (
    word 0 ∷ word 11 ∷ row r.Str ∷ row r.ConstGet ∷ row r.Dup ∷ word 0 ∷ row r.Set ∷ row r.Drop ∷
    word 11 ∷ word 1 ∷ row r.Write ∷
    word 0 ∷ row r.Ref ∷ word 0 ∷ word 2 ∷ row r.PathInc ∷ row r.Drop ∷
    word 12 ∷ word 1 ∷ row r.Write ∷ []) literals

-- `$x++` is over with the 31st reduction, and with it the run.
prints_a : wasm php1 (Serving empty_host) overflow 30 ≡ record { output = codes "a"; end = More }
unfolding zeros empty_table
prints_a = refl

overflows : wasm php1 (Serving empty_host) overflow 31 ≡ record { output = codes "a"; end = Stopped (Fails Overflow) }
unfolding zeros empty_table
overflows = refl
