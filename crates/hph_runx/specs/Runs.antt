-- That the code of an expression does what the expression means, whatever stands around it.
use Rattle.std.specs.Prelude.{◌≡◌, ℕ, true, ◌+◌, ◌-◌, ◌*◌, ◌≤◌, List, length, take, drop, Option, Some, IfSome}
use Rattle.hph_ast.specs.declared.expr.Expr.{Expr}
use Rattle.hph_wasm.specs.declared.value.Value.{Value as Word}
use Rattle.hph_wasm.specs.declared.module.Module.{Module}
use Rattle.hph_php.specs.State.{Name}
use Rattle.hph_php.specs.World.{World, Context}
use Rattle.hph_php.specs.Expressions.{evaluate}
use Rattle.hph_php.specs.Cost.{nodes}
use Rattle.hph_effects.specs.declared.row.Row.{Row}
use Rattle.hph_plan.specs.Plan.{Plan, place_in, slot_in}
use Rattle.hph_lowering.specs.Code.{Scope, slot_of}
use Rattle.hph_lowering.specs.Expressions.{value_code}
use Rattle.hph_seqv.specs.Simulates.{IsRow, Setup, Everywhere, Values}
use Rattle.hph_runx.specs.Covers.{covers}

module _ (plan : Plan) (scope : Scope) where
  -- A module that goes by the plan: its memory has each literal at its place, and names have slots of their own.
  pub record Planned : Type 0 where
    pub m : Module
    pub u : ℕ
    pub memory : List ℕ
    pub words : List Word
    pub rows : (row : Row) → IsRow m row
    pub literals : (bytes : List ℕ) (p : ℕ) → place_in plan.texts 0 bytes ≡ Some p →
        (p + length bytes ≤ length memory) × (take (length bytes) (drop p memory) ≡ bytes)
    pub one_slot : (a b : Name) (i : ℕ) → slot_of scope a ≡ Some i → slot_of scope b ≡ Some i → a ≡ b
    pub one_global : (a b : Name) (i : ℕ) → slot_in plan.globals a ≡ Some i → slot_in plan.globals b ≡ Some i → a ≡ b

  abbrev pub setup : Planned → Setup
  setup p = record {
    m = p.m;
    program = plan.program;
    u = p.u;
    memory = p.memory;
    words = p.words;
    place = place_in plan.texts 0;
    global_slot = slot_in plan.globals;
    slot = slot_of scope;
    class = scope.class;
    scratch = scope.scratch;
    rows = p.rows;
    literals = p.literals;
    one_slot = p.one_slot;
    one_global = p.one_global;
  }

  -- where the parts of a function stand
  abbrev pub context_of : Context
  context_of = record { program = plan.program; file = scope.file; class = scope.class; in_function = scope.in_function }

-- Each node of the tree has twice the weight in reductions, which is 64 or more.
abbrev pub ExpressionsRun : Type 0
ExpressionsRun = (plan : Plan) (scope : Scope) (p : Planned plan scope) (world : World) (depth weight : ℕ) → 64 ≤ weight → (x : Expr) →
    (covers x).runs ≡ true → IfSome (value_code plan scope x) (λ code.
    Values (setup plan scope p) depth Everywhere (2 * (weight * nodes x) - weight) code (evaluate world (context_of plan scope) x))
