-- Steps that end a run, that the host ends, and that are stuck.
use Rattle.std.proofs.Common.{◌≡◌, ℕ, List, [], ◌∷◌, Some, refl, sym, ap, ◌∙◌, codes}
use Rattle.hph_wasm.specs.declared.instr.Instr.{Nop, Drop}
use Rattle.hph_wasm.specs.declared.types.ValType.TheVariants.{I32}
use Rattle.hph_wasm.specs.declared.value.Value.TheVariants as value
use Rattle.hph_wasm.specs.declared.module.ImportDesc.TheVariants as import_desc
use Rattle.hph_wasm.specs.declared.module.Module.{Module}
use Rattle.hph_wasm.specs.Outcome.{Done, Stopped}
use Rattle.hph_wasm.specs.Configuration.{Setting, Configuration, Running, Calling, Stuck, Ended, Host, Stops}
use Rattle.hph_wasm.specs.Reduction.{step}
use Rattle.hph_wasm.specs.Sequences.{Plain, Framed, Empty, Then}
use Rattle.hph_wasm.specs.Rewriting.{State, in_setting, here, frame_end, RewritesTo}
use Rattle.hph_wasm.specs.Ending.{LeavesValues, StopsAt}
use Rattle.hph_wasm.proofs.Fronts.{no_front}
use Rattle.hph_wasm.proofs.OneWay.{rewrites_one_way}
use Rattle.hph_wasm.proofs.Rewritings.{step_rewrites}
use Rattle.hph_wasm.proofs.NoRule.{stuck_is_final}
use Rattle.hph_wasm.proofs.RunExamples.{nothing}

-- A host that ends the run at every call.
data Refusal : Type 0 where
  refused : Refusal

abbrev refusing : Host (List ℕ) Refusal
refusing = record { row = λ module_name name ty. Some 0; effect = λ row output arguments memory. Stops output refused; output = λ output. output }

-- Inside main, which takes and returns nothing; the host has printed 7.
abbrev in_main : Setting (List ℕ)
in_main = record {
  locals = [];
  labels = [];
  frames = record { function = 0; arity = 0; values = []; rest = []; locals = []; labels = [] } ∷ [];
  store = record { host = 7 ∷ []; memory = []; globals = [] };
}

abbrev Ours : Type 0
Ours = Configuration (List ℕ) Refusal

-- Main ends by its end.
ends : step {E = Refusal} refusing nothing (Running [] [] in_main) ≡ Ended Done (7 ∷ [])
ends = refl

-- The rule of frames leaves no values.
leaves_none : LeavesValues refusing nothing (in_setting Empty in_main) (7 ∷ [])
leaves_none = record {
  after = record { store = in_main.store; locals = []; code = Empty };
  values = [];
  rewritten = here [] Empty (frame_end in_main.store [] 0 [] [] refl);
  alone = refl;
  reached = refl;
}

-- Before a `nop` it doesn't: that leads to main without it.
nop_ends_nothing : (h : List ℕ) → LeavesValues refusing nothing (in_setting (Then (Plain Nop) Empty) in_main) h → ⊥
nop_ends_nothing h ends =
    let c : Ours = Running (Nop ∷ []) [] in_main in
    let after : State (List ℕ) = in_setting Empty in_main in
    let one : after ≡ ends.after = rewrites_one_way refusing nothing (in_setting (Then (Plain Nop) Empty) in_main) after ends.after
    (step_rewrites refusing nothing c) ends.rewritten in
    no_front ends.values [] (Framed 0 [] Empty) Empty tt (sym ends.alone ∙ ap (λ (s : State (List ℕ)). s.code) (sym one))

-- A module that imports `write`.
abbrev writes : Module
writes = record nothing {
  types = record { params = I32 ∷ I32 ∷ []; results = [] } ∷ [];
  imports = record { «module» = codes "host"; name = codes "write"; desc = import_desc.Func 0 } ∷ [];
}

-- It is called.
abbrev called : Ours
called = Calling 0 [] (value.I32 1 ∷ value.I32 0 ∷ []) in_main

stops : step refusing writes called ≡ Ended (Stopped refused) (7 ∷ [])
stops = refl

-- The first argument is passed first.
replied : StopsAt refusing writes 0 (value.I32 1 ∷ value.I32 0 ∷ []) in_main.store refused (7 ∷ [])
replied = record {
  imported = record { «module» = codes "host"; name = codes "write"; desc = import_desc.Func 0 };
  number = 0;
  ty = record { params = I32 ∷ I32 ∷ []; results = [] };
  row = 0;
  passed = value.I32 0 ∷ value.I32 1 ∷ [];
  below = [];
  there = refl;
  typed = refl;
  on_top = refl;
  all = refl;
  found = refl;
  replies = refl;
}

-- A value that isn't there can't be dropped.
abbrev drops : Ours
drops = Running (Drop ∷ []) [] in_main

stuck : step refusing nothing drops ≡ Stuck (Drop ∷ []) in_main
stuck = refl

no_rule : (after : State (List ℕ)) → RewritesTo refusing nothing (in_setting (Then (Plain Drop) Empty) in_main) after → ⊥
no_rule = (stuck_is_final refusing nothing drops).0
