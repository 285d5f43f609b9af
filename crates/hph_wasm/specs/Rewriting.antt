-- Reduction as the Core Specification 1.0 writes it (4.2.13, 4.4): rules that rewrite one sequence of instructions under contexts.
-- What one rule covers is this project's count: a frame has its function's outermost label with it, a constant becomes a value by a
-- rule, `local.tee` is one rule, and an `if` leads to the label of its branch, where the standard has a block between the two.
-- A branch that is decided, and a call, are two rules here as there.
use Rattle.std.specs.Prelude.{◌≡◌, ℕ, suc, List, [], ◌∷◌, ◌++◌, length, Option, Some, None, IfSome, slice_get, slice_index_or}
use Rattle.hph_wasm.specs.declared.instr.Instr.{Instr, Br, BrIf, BrTable, Return, Call, CallIndirect}
use Rattle.hph_wasm.specs.declared.value.Value.{Value}
use Rattle.hph_wasm.specs.declared.value.Value.TheVariants as value
use Rattle.hph_wasm.specs.declared.types.BlockType.{BlockType}
use Rattle.hph_wasm.specs.declared.types.FuncType.{FuncType}
use Rattle.hph_wasm.specs.declared.module.Import.{Import}
use Rattle.hph_wasm.specs.declared.module.Func.{Func}
use Rattle.hph_wasm.specs.declared.module.Module.{Module}
use Rattle.hph_wasm.specs.Values.{types, zero_values}
use Rattle.hph_wasm.specs.Functions.{Imported, Defined, functions, func_type}
use Rattle.hph_wasm.specs.Instantiation.{table_of}
use Rattle.hph_wasm.specs.Configuration.{Goes, Host, Label, Frame, Store, Setting, Configuration, Running, Calling, Trapped, Stuck, Ended}
use Rattle.hph_wasm.specs.Reduction.{results, reply_of, arity_of, with_host, step}
use Rattle.hph_wasm.specs.Sequences.{Plain, Invoke, Labelled, Framed, Sequence, Then, join, single, plain, constants, stack, on_stack, InLabels, IsBlock, IsLoop, IsIf}
use Rattle.hph_wasm.specs.PlainRules.{PlainRule, TrapRule}

module _ {H E : Type 0} (host : Host H E) (m : Module) where
  -- The rules: in a store and the locals of a frame, instructions become others in a store and locals. Above each stands the
  -- section whose rule it is.
  pub data Rule : Store H → List Value → Sequence → Store H → List Value → Sequence → Type 0 where
    -- 4.4.1 to 4.4.5
    plainly : (i : Instr) (s s' : Store H) (locals locals' taken given : List Value) → PlainRule i s locals taken s' locals' given →
        Rule s locals (on_stack taken (Plain i)) s' locals' (stack given)
    -- 4.4.5.3, 4.4.6.1
    block : (s : Store H) (locals : List Value) (i : Instr) (ty : BlockType) (code : List Instr) → IsBlock i ty code →
        Rule s locals (single (Plain i)) s locals (single (Labelled (arity_of ty) [] (plain code)))
    -- 4.4.5.4
    loop : (s : Store H) (locals : List Value) (i : Instr) (code : List Instr) → IsLoop i code →
        Rule s locals (single (Plain i)) s locals (single (Labelled 0 (i ∷ []) (plain code)))
    -- 4.4.5.5
    if_then : (s : Store H) (locals : List Value) (i : Instr) (ty : BlockType) (code others : List Instr) (n : ℕ) → IsIf i ty code others →
        Rule s locals (on_stack (value.I32 (suc n) ∷ []) (Plain i)) s locals (single (Labelled (arity_of ty) [] (plain code)))
    if_else : (s : Store H) (locals : List Value) (i : Instr) (ty : BlockType) (code others : List Instr) → IsIf i ty code others →
        Rule s locals (on_stack (value.I32 0 ∷ []) (Plain i)) s locals (single (Labelled (arity_of ty) [] (plain others)))
    -- 4.4.5.6
    branch : (s : Store H) (locals : List Value) (arity : ℕ) (continuation : List Instr) (body : Sequence) (k : ℕ) (top : List Value) →
        arity ≡ length top → InLabels (on_stack top (Plain (Br k))) k body →
        Rule s locals (single (Labelled arity continuation body)) s locals (join (stack top) (plain continuation))
    -- the same to the outermost label, which is the frame's
    branch_out : (s : Store H) (locals : List Value) (arity : ℕ) (inner : List Value) (body : Sequence) (k : ℕ) (top : List Value) →
        arity ≡ length top → InLabels (on_stack top (Plain (Br k))) k body →
        Rule s locals (single (Framed arity inner body)) s locals (stack top)
    -- 4.4.5.7
    branch_if : (s : Store H) (locals : List Value) (k n : ℕ) →
        Rule s locals (on_stack (value.I32 (suc n) ∷ []) (Plain (BrIf k))) s locals (single (Plain (Br k)))
    -- 4.4.5.8
    branch_table : (s : Store H) (locals : List Value) (ks : List ℕ) (k n : ℕ) →
        Rule s locals (on_stack (value.I32 n ∷ []) (Plain (BrTable ks k))) s locals (single (Plain (Br (slice_index_or ks n k))))
    -- 4.4.5.9
    return_out : (s : Store H) (locals : List Value) (arity : ℕ) (inner : List Value) (body : Sequence) (k : ℕ) (top : List Value) →
        arity ≡ length top → InLabels (on_stack top (Plain Return)) k body →
        Rule s locals (single (Framed arity inner body)) s locals (stack top)
    -- 4.4.5.10
    call : (s : Store H) (locals : List Value) (f : ℕ) → Rule s locals (single (Plain (Call f))) s locals (single (Invoke f))
    -- 4.4.5.11
    call_indirect : (s : Store H) (locals : List Value) (number n f : ℕ) (ty : FuncType) → slice_get (table_of m) n ≡ Some (Some f) →
        func_type m f ≡ Some ty → slice_get m.types number ≡ Some ty →
        Rule s locals (on_stack (value.I32 n ∷ []) (Plain (CallIndirect number))) s locals (single (Invoke f))
    -- 4.4.6.2
    label_end : (s : Store H) (locals : List Value) (arity : ℕ) (continuation : List Instr) (values : List Value) →
        Rule s locals (single (Labelled arity continuation (stack values))) s locals (stack values)
    -- 4.4.7.1
    invoke_function : (s : Store H) (locals : List Value) (f : ℕ) (func : Func) (ty : FuncType) (passed : List Value) →
        slice_get (functions m) f ≡ Some (Defined func) → slice_get m.types func.ty ≡ Some ty →
        types passed ≡ ty.params →
        Rule s locals (join (constants passed) (single (Invoke f)))
        s locals (single (Framed (length ty.results) (passed ++ zero_values func.locals) (plain func.body)))
    -- 4.4.7.3
    invoke_import : (s : Store H) (locals : List Value) (f : ℕ) (import : Import) (number : ℕ) (ty : FuncType) (row : ℕ)
        (passed : List Value) (h : H) (result : Option ℕ) (values : List Value) →
        slice_get (functions m) f ≡ Some (Imported import number) → slice_get m.types number ≡ Some ty →
        types passed ≡ ty.params → host.row import.«module» import.name ty ≡ Some row →
        reply_of host row passed s ≡ Goes h result → results ty.results result ≡ Some values →
        Rule s locals (join (constants passed) (single (Invoke f))) (with_host h s) locals (constants values)
    -- 4.4.7.2
    frame_end : (s : Store H) (locals : List Value) (arity : ℕ) (inner : List Value) (values : List Value) →
        arity ≡ length values → Rule s locals (single (Framed arity inner (stack values))) s locals (stack values)

  -- A rule applies behind values and before other instructions, under labels and frames (4.2.13.3).
  pub data Rewrites : Store H → List Value → Sequence → Store H → List Value → Sequence → Type 0 where
    here : {s s' : Store H} {locals locals' : List Value} {a b : Sequence} (values : List Value) (rest : Sequence) →
        Rule s locals a s' locals' b →
        Rewrites s locals (join (stack values) (join a rest)) s' locals' (join (stack values) (join b rest))
    in_label : {s s' : Store H} {locals locals' : List Value} {a b : Sequence}
        (values : List Value) (arity : ℕ) (continuation : List Instr) (rest : Sequence) →
        Rewrites s locals a s' locals' b →
        Rewrites s locals (join (stack values) (Then (Labelled arity continuation a) rest))
        s' locals' (join (stack values) (Then (Labelled arity continuation b) rest))
    in_frame : {s s' : Store H} {inner inner' : List Value} {a b : Sequence}
        (locals values : List Value) (arity : ℕ) (rest : Sequence) →
        Rewrites s inner a s' inner' b →
        Rewrites s locals (join (stack values) (Then (Framed arity inner a) rest))
        s' locals (join (stack values) (Then (Framed arity inner' b) rest))

-- A configuration of the standard: a store, and a thread of a frame's locals and instructions (4.2.13.2).
pub record State (H : Type 0) : Type 0 where
  pub store : Store H
  pub locals : List Value
  pub code : Sequence

-- Instructions inside labels, of which the list has the innermost first.
abbrev pub under_labels : Sequence → List Label → Sequence
under_labels code [] = code
under_labels code (label ∷ labels) =
    under_labels (join (stack label.values) (Then (Labelled label.arity label.continuation code) (plain label.rest))) labels

-- Instructions inside frames, each of which stands inside the labels of its caller.
abbrev pub under_frames : {H : Type 0} → Store H → List Value → Sequence → List Frame → State H
under_frames store locals code [] = record { store = store; locals = locals; code = code }
under_frames store locals code (frame ∷ frames) = under_frames store frame.locals
    (under_labels (join (stack frame.values) (Then (Framed frame.arity locals code) (plain frame.rest))) frame.labels) frames

-- Instructions in their function and its callers.
abbrev pub in_setting : {H : Type 0} → Sequence → Setting H → State H
in_setting code at = under_frames at.store at.locals (under_labels code at.labels) at.frames

-- What a configuration that goes on is to the standard.
abbrev pub state_of : {H E : Type 0} → Configuration H E → Option (State H)
state_of (Running code values at) = Some (in_setting (join (stack values) (plain code)) at)
state_of (Calling f rest values at) = Some (in_setting (join (stack values) (Then (Invoke f) (plain rest))) at)
state_of (Trapped code at) = None
state_of (Stuck code at) = None
state_of (Ended end h) = None

-- The same of whole states.
abbrev pub RewritesTo : {H E : Type 0} → Host H E → Module → State H → State H → Type 0
RewritesTo host m before after = Rewrites host m before.store before.locals before.code after.store after.locals after.code

-- Each step between configurations that go on is one rewriting.
abbrev pub StepsAreRewritings : {H E : Type 0} → Host H E → Module → Type 0
StepsAreRewritings {H} {E} host m = (c : Configuration H E) → IfSome (state_of c) (λ before.
    IfSome (state_of (step host m c)) (λ after. RewritesTo host m before after))

-- Where a step ends in a trap, the instruction that was next traps by a rule at the top of the stack.
abbrev pub IsTrapStep : {H E : Type 0} → Module → (before after : Configuration H E) → Type 0
IsTrapStep m (Running (i ∷ rest) values at) (Trapped code after) = (code ≡ i ∷ rest) × (after ≡ at) ×
    (taken : List Value) × (below : List Value) × (values ≡ taken ++ below) × TrapRule m i at.store taken
IsTrapStep m (Running [] values at) (Trapped code after) = ⊥
IsTrapStep m (Calling f rest values at) (Trapped code after) = ⊥
IsTrapStep m _ _ = Unit {0}

-- Each trap is by a rule.
abbrev pub TrapsAreByRule : {H E : Type 0} → Host H E → Module → Type 0
TrapsAreByRule {H} {E} host m = (c : Configuration H E) → IsTrapStep m c (step host m c)

-- At most one rule applies, in one place: what a state becomes is determined.
abbrev pub RewritesOneWay : {H E : Type 0} → Host H E → Module → Type 0
RewritesOneWay {H} host m = (before a b : State H) → RewritesTo host m before a → RewritesTo host m before b → a ≡ b
