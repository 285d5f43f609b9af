-- Laws of code that runs as a meaning says, each for code that gives a value, in every situation.
use Rattle.std.specs.Prelude.{◌≡◌, ℕ, ◌+◌, ◌≤◌, ◌++◌, List, [], ◌∷◌, map, None, Some, if◌then◌else◌}
use Rattle.hph_wasm.specs.declared.instr.Instr.{Instr}
use Rattle.hph_wasm.specs.declared.instr.Instr.TheViews as view
use Rattle.hph_wasm.specs.declared.value.Value.{Value as Word}
use Rattle.hph_wasm.specs.Values.{number_of}
use Rattle.hph_wasm.specs.Configuration.{Running}
use Rattle.hph_wasm.specs.Reduction.{arguments, reduce}
use Rattle.hph_php.specs.Values.{Value}
use Rattle.hph_php.specs.Conversions.{to_bool}
use Rattle.hph_php.specs.State.{State}
use Rattle.hph_php.specs.Answers.{Means, Answer, bind}
use Rattle.hph_effects.specs.declared.row.Row.{Row}
use Rattle.hph_effects.specs.declared.row.Row.TheVariants as r
use Rattle.hph_effects.specs.Hosts.{Item}
use Rattle.hph_effects.specs.Effects.{php1, call_row}
use Rattle.hph_seqv.specs.Simulates.{Conf, Follows, Setup, type_of, call, Around, Places, host_of, setting, Stands, Everywhere, no_words, one_value, Values, After}
use Rattle.hph_seqv.specs.Replies.{Replies}

-- Where the module comes to a call of a row, it goes on to what the row replies.
abbrev pub RowsReply : Type 0
RowsReply = (s : Setup) (k : Around) (row : Row) (passed values : List Word) (i b n : ℕ) (c : Conf) (scratch : Word) (p : Places)
    (stack : List Item) (st : State) (x : Answer Value) → i + 2 ≤ b →
    reduce php1 s.m i c ≡ Running (call row ∷ k.rest) values (setting s k scratch p stack st) →
    arguments (type_of row).params values ≡ Some (record { passed = passed; below = k.values }) →
    Replies s k (type_of row).results no_words one_value n (call_row row (host_of k p stack st) (map number_of passed) s.memory) x →
    Follows s.m s.u (λ v st c. Stands s k [] [] (one_value v ++ k.stack) st c) b n c x

-- Code behind code does what a meaning does that goes on with a value.
abbrev pub CodeJoins : Type 0
CodeJoins = (s : Setup) (depth a b : ℕ) (ca cb : List Instr) (x : Means Value) (f : Value → Means Value) →
    Values s depth Everywhere a ca x → After s depth Everywhere b cb f → Values s depth Everywhere (a + b) (ca ++ cb) (bind x f)

-- A choice by a value does what one of two meanings does.
abbrev pub ChoicesChoose : Type 0
ChoicesChoose = (s : Setup) (depth a b : ℕ) (ca cb : List Instr) (x y : Means Value) → Values s depth Everywhere a ca x →
    Values s depth Everywhere b cb y → After s depth Everywhere (2 + (a + (b + 2))) (call r.Truth ∷ view.If (record { result = None }) ca (Some cb) ∷ [])
    (λ v. if to_bool v then x else y)
