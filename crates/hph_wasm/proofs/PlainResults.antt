-- What a rule makes of an instruction is what the instruction's step makes of it alone.
use Rattle.std.proofs.Common.{◌≡◌, List, [], ◌++◌, length, refl, Option, Some}
use Rattle.std.proofs.lemmas.Bool.{lt-ltb}
use Rattle.hph_wasm.specs.declared.instr.Instr.{Instr}
use Rattle.hph_wasm.specs.declared.types.ValType.TheVariants.{I32, I64}
use Rattle.hph_wasm.specs.declared.instr.NarrowStore.TheVariants.{I32To8, I32To16, I64To8, I64To16, I64To32}
use Rattle.hph_wasm.specs.declared.value.Value.{Value}
use Rattle.hph_wasm.specs.declared.module.Module.{Module}
use Rattle.hph_wasm.specs.Configuration.{Host, Store, Setting, Stuck}
use Rattle.hph_wasm.specs.Reduction.{instr_step}
use Rattle.hph_wasm.specs.Sequences.{Empty, join, stack}
use Rattle.hph_wasm.specs.PlainRules.{PlainRule, i32_const, i64_const, unop, binop, testop, relop, wrap, extend, drop, select_lower, select_upper, local_get, local_set, local_tee, global_get, global_set, load, load_narrow, store, store_narrow, nop, no_branch}
use Rattle.hph_wasm.specs.Rewriting.{State, state_of}

module _ {H E : Type 0} (host : Host H E) (m : Module) where
  -- An instruction alone, in no labels and frames.
  abbrev pub alone : Store H → List Value → Setting H
  alone s locals = record { locals = locals; labels = []; frames = []; store = s }

  -- What its step makes of it there.
  abbrev pub result : Instr → Store H → List Value → List Value → Option (State H)
  result i s locals values = state_of {H = H} {E = E} (instr_step host m i [] values (alone s locals) (Stuck [] (alone s locals)) (Stuck [] (alone s locals)))

  -- A state of these parts.
  abbrev pub made : Store H → List Value → List Value → State H
  made s locals values = record { store = s; locals = locals; code = join (stack values) Empty }

  -- A plain rule makes the same.
  pub plain_result : (i : Instr) (s s' : Store H) (locals locals' taken given below : List Value) → PlainRule i s locals taken s' locals' given →
      result i s locals (taken ++ below) ≡ Some (made s' locals' (given ++ below))
  plain_result _ _ _ _ _ _ _ below (i32_const s locals z) = refl
  plain_result _ _ _ _ _ _ _ below (i64_const s locals z) = refl
  plain_result _ _ _ _ _ _ _ below (unop s locals I32 o n) = refl
  plain_result _ _ _ _ _ _ _ below (unop s locals I64 o n) = refl
  plain_result _ _ _ _ _ _ _ below (binop s locals I32 o i j n is) = rw is refl
  plain_result _ _ _ _ _ _ _ below (binop s locals I64 o i j n is) = rw is refl
  plain_result _ _ _ _ _ _ _ below (testop s locals I32 n) = refl
  plain_result _ _ _ _ _ _ _ below (testop s locals I64 n) = refl
  plain_result _ _ _ _ _ _ _ below (relop s locals I32 o i j) = refl
  plain_result _ _ _ _ _ _ _ below (relop s locals I64 o i j) = refl
  plain_result _ _ _ _ _ _ _ below (wrap s locals n) = refl
  plain_result _ _ _ _ _ _ _ below (extend s locals sign n) = refl
  plain_result _ _ _ _ _ _ _ below (drop s locals v) = refl
  plain_result _ _ _ _ _ _ _ below (select_lower s locals n lower upper) = refl
  plain_result _ _ _ _ _ _ _ below (select_upper s locals lower upper) = refl
  plain_result _ _ _ _ _ _ _ below (local_get s locals x v there) = rw there refl
  plain_result _ _ _ _ _ _ _ below (local_set s locals x v there) = rw (lt-ltb x (length locals) there) refl
  plain_result _ _ _ _ _ _ _ below (local_tee s locals x v there) = rw (lt-ltb x (length locals) there) refl
  plain_result _ _ _ _ _ _ _ below (global_get s locals x v there) = rw there refl
  plain_result _ _ _ _ _ _ _ below (global_set s locals x v there) = rw (lt-ltb x (length s.globals) there) refl
  plain_result _ _ _ _ _ _ _ below (load s locals ty arg address n is) = rw is refl
  plain_result _ _ _ _ _ _ _ below (load_narrow s locals o arg address n is) = rw is refl
  plain_result _ _ _ _ _ _ _ below (store s locals I32 arg address n memory is) = rw is refl
  plain_result _ _ _ _ _ _ _ below (store s locals I64 arg address n memory is) = rw is refl
  plain_result _ _ _ _ _ _ _ below (store_narrow s locals I32To8 arg address n memory is) = rw is refl
  plain_result _ _ _ _ _ _ _ below (store_narrow s locals I32To16 arg address n memory is) = rw is refl
  plain_result _ _ _ _ _ _ _ below (store_narrow s locals I64To8 arg address n memory is) = rw is refl
  plain_result _ _ _ _ _ _ _ below (store_narrow s locals I64To16 arg address n memory is) = rw is refl
  plain_result _ _ _ _ _ _ _ below (store_narrow s locals I64To32 arg address n memory is) = rw is refl
  plain_result _ _ _ _ _ _ _ below (nop s locals) = refl
  plain_result _ _ _ _ _ _ _ below (no_branch s locals k) = refl
