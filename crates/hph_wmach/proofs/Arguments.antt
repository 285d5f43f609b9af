-- The arguments of a call.
use Rattle.std.proofs.Common.{◌≡◌, ◌∙◌, ℕ, List, [], ◌∷◌, ◌++◌, Option, Some, Bool, true, false, length, take, drop, reverse, refl, sym, ap, subst, arith}
use Rattle.std.specs.Prelude.{slice_get}
use Rattle.hph_wasm.specs.declared.instr.Instr.{Instr, Call}
use Rattle.hph_wasm.specs.declared.module.Module.{Module}
use Rattle.hph_wasm.specs.Values.{zero_values}
use Rattle.hph_wasm.specs.Choice.{if_some}
use Rattle.hph_wasm.specs.Functions.{Defined, functions}
use Rattle.hph_wasm.specs.Configuration.{Host, Setting, Calling, Stuck}
use Rattle.hph_wasm.specs.Reduction.{step, function_entry}
use Rattle.hph_wmach.specs.declared.program.OwnFunction.{OwnFunction}
use Rattle.hph_wstate.specs.Core.{Core, count}
use Rattle.hph_wstate.specs.Changes.{Holds, Entered}
use Rattle.hph_wstate.specs.Standing.{setting, running}
use Rattle.hph_wasm.specs.declared.types.ValType.{ValType}
use Rattle.hph_wasm.specs.declared.value.Value.{Value}
use Rattle.hph_wasm.specs.Reduction.{Arguments, arguments}
use Rattle.hph_wstate.proofs.Arguments.{held}

module _ {H E : Type 0} (host : Host H E) (m : Module) (f : ℕ) (own : OwnFunction) (found : slice_get (functions m) f ≡ Some (Defined own.func.now))
    (typed : slice_get m.types own.func.now.ty ≡ Some own.ty.now) (arity : count own.gives ≡ length own.ty.now.results) where
  invoked : (rest : List Instr) (values : List Value) (at : Setting H) → step host m (Calling f rest values at) ≡
      if_some (arguments own.ty.now.params values) (Stuck (Call f ∷ rest) at) (λ call. function_entry host m f own.ty.now own.func.now call rest at)
  invoked rest values at = rw (found, typed) refl

  pub entered_told : (old new : Core) (params : List ValType) (n : ℕ) (r : Bool) (state : H) → params ≡ own.ty.now.params → Holds params old.values true →
      n ≡ length own.ty.now.params → r ≡ true → Entered f own.gives n own.func.now old r new → step host m (Calling f old.code old.values (setting old state)) ≡ running new state
  entered_told old new params n r state e1 holds0 e0 e2 entered0 =
      let holds : Holds own.ty.now.params old.values true = subst (λ p. Holds p old.values true) e1 holds0 in
      let entered : Entered f own.gives n own.func.now old true new = subst (λ r. Entered f own.gives n own.func.now old r new) e2 entered0 in
      let p : Entered f own.gives (length own.ty.now.params) own.func.now old true new =
      subst (λ n. Entered f own.gives n own.func.now old true new) e0 entered in
      invoked old.code old.values (setting old state) ∙
      (ap (λ (o : Option Arguments). if_some o (Stuck (Call f ∷ old.code) (setting old state))
      (λ call. function_entry host m f own.ty.now own.func.now call old.code (setting old state))) (held own.ty.now.params old.values holds) ∙
      (ap (λ (n : ℕ). running (record {
        code = own.func.now.body;
        values = [];
        locals = reverse (take (length own.ty.now.params) old.values) ++ zero_values own.func.now.locals;
        labels = [];
        frames = record { function = f; arity = n; values = drop (length own.ty.now.params) old.values; rest = old.code; locals = old.locals; labels = old.labels } ∷ old.frames;
        memory = old.memory;
        globals = old.globals;
      }) state) (sym arity) ∙ ap (λ (x : Core). running x state) (sym p.1)))

  pub refused_told : (old : Core) (params : List ValType) (state : H) → params ≡ own.ty.now.params → Holds params old.values false →
      step host m (Calling f old.code old.values (setting old state)) ≡ Stuck (Call f ∷ old.code) (setting old state)
  refused_told old params state e1 holds0 = let holds : Holds own.ty.now.params old.values false = subst (λ p. Holds p old.values false) e1 holds0 in invoked old.code old.values (setting old state) ∙
      ap (λ (o : Option Arguments). if_some o (Stuck (Call f ∷ old.code) (setting old state))
      (λ call. function_entry host m f own.ty.now own.func.now call old.code (setting old state))) holds

  pub never_short : {P : Type 0} (old new : Core) (params : List ValType) (n : ℕ) (r : Bool) → params ≡ own.ty.now.params → Holds params old.values true →
      n ≡ length own.ty.now.params → r ≡ false → Entered f own.gives n own.func.now old r new → P
  never_short old new params n r e1 holds0 e0 e2 entered0 =
      let holds : Holds own.ty.now.params old.values true = subst (λ p. Holds p old.values true) e1 holds0 in
      let entered : Entered f own.gives n own.func.now old false new = subst (λ r. Entered f own.gives n own.func.now old r new) e2 entered0 in
      let enough = holds.0 in let short = entered.0 in absurd (omega arith)
