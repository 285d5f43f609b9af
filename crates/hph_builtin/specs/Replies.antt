-- What a call answers and leaves in the sink.
use Rattle.std.specs.Prelude.{◌≡◌, ℕ, Bool, true, false, List, Option, Result, Ok, Err, nat_lt, if◌then◌else◌}
use Rattle.hph_src.specs.Sink.{grown_by, GrowsByPrefix}
use Rattle.std.proofs.Common.{refl}
use Rattle.hph_php.specs.declared.fatal.Fatal.{Fatal}
use Rattle.hph_php.specs.declared.fatal.Fatal.TheVariants.{TooFewArguments, BadArgument, Misuse}
use Rattle.hph_php.specs.declared.builtin.Builtin.{Builtin}
use Rattle.hph_php.specs.declared.builtin.Builtin.TheVariants.{Strlen, ArrayPop, VarDump}
use Rattle.hph_php.specs.Builtins.{Reply, takes_values, least_arguments}
use Rattle.hph_value.specs.declared.value.Value as code
use Rattle.hph_value.specs.Shown.{value_of}
use Rattle.hph_builtin_dump.specs.declared.flush.HostStop.{HostStop}
use Rattle.hph_builtin_dump.specs.declared.flush.HostStop.TheVariants.{Fatal as Fatally, NoMemory, WriteFault}

-- it prints nothing
abbrev pub is_silent : Builtin → Bool
is_silent VarDump = false
is_silent _ = true

-- the fatal error of a call with this number of arguments, where the function takes another number
abbrev pub miscount : Builtin → ℕ → Fatal
miscount function count =
    if takes_values function then (if nat_lt count (least_arguments function) then TooFewArguments else BadArgument) else Misuse

-- strlen(), strlen(1, 2), array_pop()
miscounts : (miscount Strlen 0 ≡ TooFewArguments) × ((miscount Strlen 2 ≡ BadArgument) × (miscount ArrayPop 0 ≡ Misuse))
miscounts = (refl, (refl, refl))

-- The sink has what the definition prints, and the answer is the definition's value or fatal error. After other stops the sink has a
-- prefix of it.
abbrev pub Replies : Result code.Value HostStop → Reply → Option (List ℕ) → Option (List ℕ) → Type 0
Replies (Ok value) reply c d = (reply.value ≡ Ok (value_of value)) × (d ≡ grown_by c reply.printed)
Replies (Err (Fatally kind)) reply c d = (reply.value ≡ Err kind) × (d ≡ grown_by c reply.printed)
Replies (Err NoMemory) reply c d = GrowsByPrefix c d reply.printed
Replies (Err WriteFault) reply c d = GrowsByPrefix c d reply.printed
