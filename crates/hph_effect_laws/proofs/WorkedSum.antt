-- `echo 1+2;` prints 3.
use Rattle.std.proofs.Common.{◌≡◌, List, [], ◌∷◌, refl}
use Rattle.std.specs.Prelude.{pos, codes}
use Rattle.std.specs.Fmt.{digits}
use Rattle.hph_wasm.specs.declared.instr.Instr.{Instr, I64Const}
use Rattle.hph_wasm.specs.declared.module.Module.{Module}
use Rattle.hph_wasm.specs.Instantiation.{zeros, empty_table}
use Rattle.hph_wasm.specs.Integers.{signed}
use Rattle.hph_wasm.specs.Outcome.{Done, More}
use Rattle.hph_wasm.specs.Run.{wasm}
use Rattle.hph_php.specs.Codes.{binary_operators}
use Rattle.hph_effects.specs.declared.row.Row.{Row}
use Rattle.hph_effects.specs.declared.row.Row.TheVariants as r
use Rattle.hph_effects.specs.Hosts.{Serving, empty_host}
use Rattle.hph_effects.specs.Effects.{php1}
use Rattle.hph_effect_laws.proofs.Modules.{call, module_of, word}

abbrev used : List Row
used = r.Int ∷ r.Op2 ∷ r.Echo ∷ r.Once ∷ []

abbrev row : Row → Instr
row x = call used x

-- the file's function is the fifth, behind the imports
abbrev sum : Module
sum = module_of used [] (
    I64Const (pos 1) ∷ row r.Int ∷ I64Const (pos 2) ∷ row r.Int ∷ word 1 ∷ row r.Op2 ∷ row r.Echo ∷ []) []

-- The call of `echo` is over with the 18th reduction; the ends of both functions are two more.
prints : (wasm php1 (Serving empty_host) sum 17 ≡ record { output = []; end = More })
    × (wasm php1 (Serving empty_host) sum 18 ≡ record { output = codes "3"; end = More })
unfolding zeros empty_table signed binary_operators digits
prints = (refl, refl)

ends : (wasm php1 (Serving empty_host) sum 19 ≡ record { output = codes "3"; end = More })
    × (wasm php1 (Serving empty_host) sum 20 ≡ record { output = codes "3"; end = Done })
unfolding zeros empty_table signed binary_operators digits
ends = (refl, refl)
