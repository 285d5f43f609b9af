-- Calls that print nothing.
use Rattle.std.proofs.Common.{◌≡◌, ◌++◌, ℕ, List, [], ◌∷◌, Option, None, Some, Result, Err, refl, sym, ap}
use Rattle.hph_src.specs.Sink.{grown_by}
use Rattle.hph_php.specs.declared.builtin.Builtin.{Builtin}
use Rattle.hph_php.specs.declared.builtin.Builtin.TheVariants as f
use Rattle.hph_php.specs.Values.{Value}
use Rattle.hph_php.specs.Builtins.{builtin_of}
use Rattle.hph_value.specs.declared.value.Value as code
use Rattle.hph_value.specs.declared.value.Stop.{Stop}
use Rattle.hph_value.specs.declared.value.Stop.TheVariants.{Fatal, NoMemory}
use Rattle.hph_value.specs.Shown.{Tells}
use Rattle.hph_builtin_dump.specs.declared.flush.HostStop.{HostStop}
use Rattle.hph_builtin_dump.specs.declared.flush.HostStop.TheVariants.{WriteFault}
use Rattle.hph_builtin_dump.specs.Prints.{host_stop}
use Rattle.hph_builtin.specs.Replies.{Replies}

none_printed : (x : Builtin) (vs : List Value) → (x ≡ f.VarDump → ⊥) → (builtin_of x vs).printed ≡ []
none_printed f.VarDump vs other = absurd (other refl)
none_printed f.Strlen vs other = refl
none_printed f.Count vs other = refl
none_printed f.Intdiv vs other = refl
none_printed f.Abs vs other = refl
none_printed f.Ord vs other = refl
none_printed f.Chr vs other = refl
none_printed f.Substr vs other = refl
none_printed f.Strpos vs other = refl
none_printed f.StrRepeat vs other = refl
none_printed f.Strrev vs other = refl
none_printed f.Strtolower vs other = refl
none_printed f.Strtoupper vs other = refl
none_printed f.Trim vs other = refl
none_printed f.Implode vs other = refl
none_printed f.Explode vs other = refl
none_printed f.ArrayKeys vs other = refl
none_printed f.ArrayValues vs other = refl
none_printed f.ArrayPush vs other = refl
none_printed f.ArrayPop vs other = refl
none_printed f.InArray vs other = refl
none_printed f.ArrayKeyExists vs other = refl
none_printed f.IsInt vs other = refl
none_printed f.IsString vs other = refl
none_printed f.IsBool vs other = refl
none_printed f.IsArray vs other = refl
none_printed f.IsNull vs other = refl
none_printed f.IsObject vs other = refl

nothing_behind : (bytes : List ℕ) → bytes ++ [] ≡ bytes
nothing_behind [] = refl
nothing_behind (b ∷ bs) = ap (λ l. b ∷ l) (nothing_behind bs)

grown_by_none : (c : Option (List ℕ)) → c ≡ grown_by c []
grown_by_none None = refl
grown_by_none (Some old) = ap (λ l. Some l) (sym (nothing_behind old))

-- A stop leaves the sink as it was.
pub stops : (stop : Stop) (x : Builtin) (vs : List Value) (c : Option (List ℕ)) → (x ≡ f.VarDump → ⊥) → Tells (Err stop) (builtin_of x vs).value
    → Replies (Err (host_stop stop)) (builtin_of x vs) c c
stops (Fatal kind) x vs c other t = (t, rw (none_printed x vs other) (grown_by_none c))
stops NoMemory x vs c other t = (0, grown_by_none c)

pub no_fault : (stop : Stop) → ◌≡◌ {A = Result code.Value HostStop} (Err (host_stop stop)) (Err WriteFault) → ⊥
no_fault (Fatal kind) e = cc
no_fault NoMemory e = cc
