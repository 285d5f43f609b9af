-- What a running host may answer to a call, by what the call means (Core Specification 1.0, 4.4.7.3). That it may find no memory, or
-- fail to write, is this project's own.
use Rattle.std.specs.Prelude.{◌≡◌, ◌<◌, ◌^◌, ℕ, List, [], ◌∷◌, ◌++◌, length, take, drop, Option, Some, None}
use Rattle.hph_src.specs.declared.sink.PutAnswer.{PutAnswer}
use Rattle.hph_src.specs.declared.sink.PutAnswer.TheVariants as put_answer
use Rattle.hph_src.specs.Sink.{grown_by, Grows}
use Rattle.hph_wasm.specs.declared.types.ValType.{ValType}
use Rattle.hph_wasm.specs.declared.types.FuncType.{FuncType}
use Rattle.hph_wasm.specs.declared.host.HostAnswer.{HostAnswer}
use Rattle.hph_wasm.specs.declared.host.HostAnswer.TheVariants as answer
use Rattle.hph_wasm.specs.Values.{width}
use Rattle.hph_wasm.specs.Configuration.{Reply, Goes, Stops, Host}

-- There is a number for each parameter, of as many bits as its type has.
abbrev pub FitParams : List ValType → List ℕ → Type 0
FitParams [] [] = Unit {0}
FitParams (ty ∷ params) (n ∷ arguments) = (n < 2 ^ width ty) × FitParams params arguments
FitParams _ _ = ⊥

-- A row is that of a function of the host, and these are arguments for it.
abbrev pub IsCall : {H E : Type 0} → Host H E → ℕ → List ℕ → Type 0
IsCall host row arguments = (module_name : List ℕ) × (name : List ℕ) × (ty : FuncType) × (host.row module_name name ty ≡ Some row) ×
    FitParams ty.params arguments

-- A result is a number of as many bits as its type has.
abbrev pub FitsResult : {H E : Type 0} → List ValType → Reply H E → Type 0
FitsResult [] (Goes h None) = Unit {0}
FitsResult (ty ∷ []) (Goes h (Some n)) = n < 2 ^ width ty
FitsResult _ (Goes h result) = ⊥
FitsResult _ (Stops h reason) = Unit {0}

-- Each function of a host gives just what its type says.
abbrev pub ResultsFit : {H E : Type 0} → Host H E → Type 0
ResultsFit {H} host = (module_name name : List ℕ) (ty : FuncType) (row : ℕ) → host.row module_name name ty ≡ Some row →
    (h : H) (arguments memory : List ℕ) → FitsResult ty.results (host.effect row h arguments memory)

-- A row has one type.
abbrev pub HaveOneType : {H E : Type 0} → Host H E → Type 0
HaveOneType host = (module_name name other_module other_name : List ℕ) (ty other : FuncType) (row : ℕ) →
    host.row module_name name ty ≡ Some row → host.row other_module other_name other ≡ Some row → ty ≡ other

-- The state after a reply.
abbrev pub state_after : {H E : Type 0} → Reply H E → H
state_after (Goes h result) = h
state_after (Stops h reason) = h

-- The output has grown by a prefix of what a call adds to it.
abbrev pub GrewBy : {H E : Type 0} → Host H E → H → Reply H E → H → Type 0
GrewBy host before reply after = (count : ℕ) × (host.output after ≡ host.output before ++
    take count (drop (length (host.output before)) (host.output (state_after reply))))

-- A host has printed this to a sink that told this at first: where the sink tells its content, that is what it held, and behind it
-- what the host has printed.
abbrev pub HasPrinted : (first now : Option (List ℕ)) → List ℕ → Type 0
HasPrinted first now printed = now ≡ grown_by first printed

-- Each put to the sink keeps that, with the piece behind, or with a front of the piece where the put has failed.
abbrev pub PutsArePrinted : Type 0
PutsArePrinted = (first old new : Option (List ℕ)) (printed piece : List ℕ) (answer : PutAnswer) → HasPrinted first old printed →
    Grows old new piece answer → (count : ℕ) × HasPrinted first new (printed ++ take count piece) ×
    (answer ≡ put_answer.All → take count piece ≡ piece)

-- An answer, with the states before and after it, where the call means this reply.
abbrev pub Answers : {H E : Type 0} → Host H E → H → Reply H E → HostAnswer → H → Type 0
Answers host before reply (answer.Value result) after = reply ≡ Goes after result
Answers {H} {E} host before reply answer.Stop after = (reason : E) × (reply ≡ Stops after reason)
Answers host before reply answer.NoMemory after = GrewBy host before reply after
Answers host before reply answer.WriteFault after = GrewBy host before reply after
