-- `function fact($n){ if ($n < 2) { return 1; } return $n * fact($n - 1); } echo fact(20);` prints 2432902008176640000, and
-- `fact(21)` is Fatal(Overflow).
use Rattle.std.proofs.Common.{◌≡◌, ℕ, List, [], ◌∷◌, ◌++◌, refl}
use Rattle.std.specs.Prelude.{pos, codes}
use Rattle.std.specs.Fmt.{digits}
use Rattle.hph_wasm.specs.declared.instr.Instr.{Instr, CallIndirect, Return, LocalGet, I64Const}
use Rattle.hph_wasm.specs.declared.module.Func.{Func}
use Rattle.hph_wasm.specs.declared.module.Module.{Module}
use Rattle.hph_wasm.specs.Instantiation.{zeros, empty_table}
use Rattle.hph_wasm.specs.Integers.{signed}
use Rattle.hph_wasm.specs.Outcome.{Done, Stopped}
use Rattle.hph_wasm.specs.Run.{wasm}
use Rattle.hph_php.specs.declared.fatal.Fatal.TheVariants.{Overflow}
use Rattle.hph_php.specs.Answers.{Fails}
use Rattle.hph_php.specs.Codes.{binary_operators, all_builtins}
use Rattle.hph_effects.specs.declared.row.Row.{Row}
use Rattle.hph_effects.specs.declared.row.Row.TheVariants as r
use Rattle.hph_effects.specs.Hosts.{Serving, empty_host}
use Rattle.hph_effects.specs.Effects.{php1}
use Rattle.hph_effect_laws.proofs.Modules.{call, module_of, entry, word, when}

abbrev used : List Row
used = r.Null ∷ r.Int ∷ r.Str ∷ r.Get ∷ r.Op2 ∷ r.Truth ∷ r.Echo ∷ r.FnDeclare ∷ r.FnFind ∷ r.Enter ∷ r.Leave ∷ r.Once ∷ []

abbrev row : Row → Instr
row x = call used x

abbrev number : ℕ → List Instr
number n = I64Const (pos n) ∷ row r.Int ∷ []

abbrev variable : List Instr
variable = word 0 ∷ row r.Get ∷ []

abbrev operator : ℕ → List Instr
operator code = word code ∷ row r.Op2 ∷ []

-- the function, then its argument, then its entry
abbrev calls_fact : List Instr → List Instr
calls_fact argument = word 1 ∷ word 0 ∷ word 4 ∷ row r.Str ∷ row r.FnFind ∷ argument ++ CallIndirect 1 ∷ []

abbrev fact : Func
fact = entry (word 1 ∷ word 1 ∷ word 1 ∷ LocalGet 0 ∷ row r.Enter ∷
    variable ++ number 2 ++ operator 13 ++ row r.Truth ∷ when (number 1 ++ row r.Leave ∷ Return ∷ []) ∷
    variable ++ calls_fact (variable ++ number 1 ++ operator 2) ++ operator 3 ++ row r.Leave ∷ Return ∷
    row r.Null ∷ row r.Leave ∷ [])

abbrev factorial : ℕ → Module
factorial n = module_of used (fact ∷ []) (
    word 0 ∷ word 4 ∷ row r.Str ∷ word 1 ∷ row r.FnDeclare ∷ calls_fact (number n) ++ row r.Echo ∷ []) (codes "fact")

ends : wasm php1 (Serving empty_host) (factorial 20) 2000 ≡ record { output = codes "2432902008176640000"; end = Done }
unfolding zeros empty_table signed digits binary_operators all_builtins
ends = refl

overflows : wasm php1 (Serving empty_host) (factorial 21) 2000 ≡ record { output = []; end = Stopped (Fails Overflow) }
unfolding zeros empty_table signed digits binary_operators all_builtins
overflows = refl
