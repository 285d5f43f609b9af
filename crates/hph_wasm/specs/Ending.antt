-- Where a run ends by the rules of the Core Specification 1.0 (4.4.7), and where no rule applies.
use Rattle.std.specs.Prelude.{◌≡◌, ℕ, List, ◌∷◌, ◌++◌, reverse, Some, IfSome, slice_get}
use Rattle.hph_wasm.specs.declared.value.Value.{Value}
use Rattle.hph_wasm.specs.declared.types.FuncType.{FuncType}
use Rattle.hph_wasm.specs.declared.module.Import.{Import}
use Rattle.hph_wasm.specs.declared.module.Module.{Module}
use Rattle.hph_wasm.specs.Values.{types}
use Rattle.hph_wasm.specs.Functions.{Imported, functions}
use Rattle.hph_wasm.specs.Outcome.{Done, Stopped}
use Rattle.hph_wasm.specs.Configuration.{Stops, Host, Store, Configuration, Running, Calling, Stuck, Ended}
use Rattle.hph_wasm.specs.Reduction.{reply_of, step}
use Rattle.hph_wasm.specs.Sequences.{stack}
use Rattle.hph_wasm.specs.PlainRules.{TrapRule}
use Rattle.hph_wasm.specs.Rewriting.{State, state_of, RewritesTo}
use Rattle.hph_wasm.specs.Standing.{IsPlaced}

module _ {H E : Type 0} (host : Host H E) (m : Module) where
  -- One rewriting leads to values alone, with this state of the host.
  pub record LeavesValues (before : State H) (h : H) : Type 0 where
    pub after : State H
    pub values : List Value
    pub rewritten : RewritesTo host m before after
    pub alone : after.code ≡ stack values
    pub reached : after.store.host ≡ h

  -- The function with a number is imported, values of its parameters' types are on top, and to these the host replies that the run
  -- ends (4.4.7.3).
  pub record StopsAt (f : ℕ) (values : List Value) (s : Store H) (reason : E) (h : H) : Type 0 where
    pub imported : Import
    pub number : ℕ
    pub ty : FuncType
    pub row : ℕ
    pub passed : List Value
    pub below : List Value
    pub there : slice_get (functions m) f ≡ Some (Imported imported number)
    pub typed : slice_get m.types number ≡ Some ty
    pub on_top : values ≡ reverse passed ++ below
    pub all : types passed ≡ ty.params
    pub found : host.row imported.«module» imported.name ty ≡ Some row
    pub replies : reply_of host row passed s ≡ Stops h reason

  -- Where a step ends the run as main does, a rewriting leads to values alone.
  abbrev pub IsDoneStep : (before after : Configuration H E) → Type 0
  IsDoneStep (Ended end h) after = Unit {0}
  IsDoneStep before (Ended Done h) = IfSome (state_of before) (λ state. LeavesValues state h)
  IsDoneStep before after = Unit {0}

  -- Where a step ends the run otherwise, it is the call of an import that the host doesn't go on from.
  abbrev pub IsStopStep : (before after : Configuration H E) → Type 0
  IsStopStep (Ended end h) after = Unit {0}
  IsStopStep before (Ended Done h) = Unit {0}
  IsStopStep (Calling f rest values at) (Ended (Stopped reason) h) = StopsAt f values at.store reason h
  IsStopStep before (Ended end h) = ⊥
  IsStopStep before after = Unit {0}

  -- No rule rewrites what a configuration is to the standard.
  abbrev pub HasNoRewriting : Configuration H E → Type 0
  HasNoRewriting c = IfSome (state_of c) (λ before. (after : State H) → RewritesTo host m before after → ⊥)

  -- The instruction that is next traps by no rule.
  abbrev pub HasNoTrap : Configuration H E → Type 0
  HasNoTrap (Running (i ∷ rest) values at) = (taken below : List Value) → values ≡ taken ++ below → TrapRule m i at.store taken → ⊥
  HasNoTrap c = Unit {0}

  -- Where a step is stuck, no rule applies.
  abbrev pub IsStuckStep : (before after : Configuration H E) → Type 0
  IsStuckStep before (Stuck code at) = HasNoRewriting before × HasNoTrap before
  IsStuckStep before after = Unit {0}

-- Main is left with its values alone.
abbrev pub EndsLeaveValues : {H E : Type 0} → Host H E → Module → Type 0
EndsLeaveValues {H} {E} host m = (c : Configuration H E) → IsPlaced m c → IsDoneStep host m c (step host m c)

-- A run ends otherwise only by a call of the host's.
abbrev pub StopsAreReplies : {H E : Type 0} → Host H E → Module → Type 0
StopsAreReplies {H} {E} host m = (c : Configuration H E) → IsStopStep host m c (step host m c)

-- A run that is stuck has no rule to go on by.
abbrev pub StuckIsFinal : {H E : Type 0} → Host H E → Module → Type 0
StuckIsFinal {H} {E} host m = (c : Configuration H E) → IsStuckStep host m c (step host m c)
