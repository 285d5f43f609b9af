-- `function swap(&$x,&$y){$t=$x;$x=$y;$y=$t;} $a=1;$b=2;swap($a,$b);echo $a,$b;swap($a,$a);echo $a;` prints 212.
use Rattle.std.proofs.Common.{◌≡◌, ℕ, List, [], ◌∷◌, ◌++◌, refl}
use Rattle.std.specs.Prelude.{pos, codes}
use Rattle.std.specs.Fmt.{digits}
use Rattle.hph_wasm.specs.declared.instr.Instr.{Instr, CallIndirect, LocalGet, I64Const}
use Rattle.hph_wasm.specs.declared.module.Func.{Func}
use Rattle.hph_wasm.specs.declared.module.Module.{Module}
use Rattle.hph_wasm.specs.Instantiation.{zeros, empty_table}
use Rattle.hph_wasm.specs.Integers.{signed}
use Rattle.hph_wasm.specs.Outcome.{Done}
use Rattle.hph_wasm.specs.Run.{wasm}
use Rattle.hph_php.specs.Codes.{all_builtins}
use Rattle.hph_effects.specs.declared.row.Row.{Row}
use Rattle.hph_effects.specs.declared.row.Row.TheVariants as r
use Rattle.hph_effects.specs.Hosts.{Serving, empty_host}
use Rattle.hph_effects.specs.Effects.{php1}
use Rattle.hph_effect_laws.proofs.Modules.{call, module_of, entry, word}

abbrev used : List Row
used = r.Null ∷ r.Int ∷ r.Str ∷ r.Drop ∷ r.Dup ∷ r.Get ∷ r.Set ∷ r.Ref ∷ r.Echo ∷ r.FnDeclare ∷ r.FnFind ∷ r.Enter ∷ r.Leave ∷ r.Once ∷ []

abbrev row : Row → Instr
row x = call used x

-- `$to = $from;`
abbrev copies : (from to : ℕ) → List Instr
copies from to = word from ∷ row r.Get ∷ row r.Dup ∷ word to ∷ row r.Set ∷ row r.Drop ∷ []

abbrev sets : ℕ → ℕ → List Instr
sets slot n = I64Const (pos n) ∷ row r.Int ∷ row r.Dup ∷ word slot ∷ row r.Set ∷ row r.Drop ∷ []

-- `swap($m, $n);` by the locations of two slots
abbrev swaps : ℕ → ℕ → List Instr
swaps m n = word 2 ∷ word 0 ∷ word 4 ∷ row r.Str ∷ row r.FnFind ∷ word m ∷ row r.Ref ∷ word n ∷ row r.Ref ∷ CallIndirect 1 ∷ row r.Drop ∷ []

abbrev shows : ℕ → List Instr
shows slot = word slot ∷ row r.Get ∷ row r.Echo ∷ []

-- three slots, two parameters that are required, and the count of arguments
abbrev swap : Func
swap = entry (word 3 ∷ word 2 ∷ word 2 ∷ LocalGet 0 ∷ row r.Enter ∷ copies 0 2 ++ copies 1 0 ++ copies 2 1 ++ row r.Null ∷ row r.Leave ∷ [])

abbrev swapped : Module
swapped = module_of used (swap ∷ []) (
    word 0 ∷ word 4 ∷ row r.Str ∷ word 1 ∷ row r.FnDeclare ∷ sets 0 1 ++ sets 1 2
    ++ swaps 0 1 ++ shows 0 ++ shows 1 ++ swaps 0 0 ++ shows 0) (codes "swap")

ends : wasm php1 (Serving empty_host) swapped 1000 ≡ record { output = codes "212"; end = Done }
unfolding zeros empty_table signed digits all_builtins
ends = refl
