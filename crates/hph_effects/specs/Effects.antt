-- What each row does: the host of `php1`.
use Rattle.std.specs.Prelude.{ℕ, List, []}
use Rattle.std.specs.Option.{option_map_or}
use Rattle.hph_wasm.specs.declared.types.ValType.{ValType}
use Rattle.hph_wasm.specs.Configuration.{Stops, Host}
use Rattle.hph_php.specs.Answers.{Stop}
use Rattle.hph_php.specs.Imports.{Import, import_row, words, long}
use Rattle.hph_effects.specs.declared.row.Row.{Row}
use Rattle.hph_effects.specs.declared.row.Row.TheVariants as r
use Rattle.hph_effects.specs.Hosts.{HostState, HostStatus, Serving, Halted, Replied, found, read_memory, on_none, on_one, on_two, on_four, on_five}
use Rattle.hph_effects.specs.Rows.{row_with, row_import}
use Rattle.hph_effects.specs.Values as values
use Rattle.hph_effects.specs.Variables as variables
use Rattle.hph_effects.specs.Paths as paths
use Rattle.hph_effects.specs.Holds as holds
use Rattle.hph_effects.specs.Outputs as outputs
use Rattle.hph_effects.specs.Calls as calls
use Rattle.hph_effects.specs.Declarations as declarations
use Rattle.hph_effects.specs.Classes as classes

-- An effect, by the arguments that it needs: none, numbers of 32 bits, one of 64 bits, or the bytes of the memory that two numbers
-- name, their place and their count.
pub data Effect : Type 0 where
  plain : (go : HostState → Replied) → Effect
  of_one : (go : ℕ → HostState → Replied) → Effect
  of_long : (go : ℕ → HostState → Replied) → Effect
  of_two : (go : ℕ → ℕ → HostState → Replied) → Effect
  of_four : (go : ℕ → ℕ → ℕ → ℕ → HostState → Replied) → Effect
  of_five : (go : ℕ → ℕ → ℕ → ℕ → ℕ → HostState → Replied) → Effect
  of_text : (go : List ℕ → HostState → Replied) → Effect

-- what it takes
abbrev pub params_of : Effect → List ValType
params_of (plain go) = []
params_of (of_one go) = words 1
params_of (of_long go) = long
params_of (of_two go) = words 2
params_of (of_four go) = words 4
params_of (of_five go) = words 5
params_of (of_text go) = words 2

abbrev pub applied : Effect → HostState → List ℕ → List ℕ → Replied
applied (plain go) h args memory = on_none args h (go h)
applied (of_one go) h args memory = on_one args h (λ n. go n h)
applied (of_long go) h args memory = on_one args h (λ n. go n h)
applied (of_two go) h args memory = on_two args h (λ m n. go m n h)
applied (of_four go) h args memory = on_four args h (λ k p m n. go k p m n h)
applied (of_five go) h args memory = on_five args h (λ k p m n decl. go k p m n decl h)
applied (of_text go) h args memory = on_two args h (λ place count. read_memory place count memory h (λ bytes. go bytes h))

-- in the order of the imports
abbrev pub effect_of : Row → Effect
effect_of r.Write = of_text outputs.write
effect_of r.Null = plain values.null
effect_of r.Bool = of_one values.bool
effect_of r.Int = of_long values.int
effect_of r.Str = of_text values.str
effect_of r.Arr = plain values.arr
effect_of r.Drop = plain values.drop
effect_of r.Dup = plain values.dup
effect_of r.Get = of_one variables.get
effect_of r.Set = of_one variables.set
effect_of r.Ref = of_one variables.ref
effect_of r.This = plain variables.this
effect_of r.Bind = of_two variables.bind
effect_of r.BindGlobal = of_two variables.bind_global
effect_of r.BindStatic = of_two variables.bind_static
effect_of r.Unset = of_one variables.unset
effect_of r.Op2 = of_one values.op2
effect_of r.Op1 = of_one values.op1
effect_of r.Truth = plain values.truth
effect_of r.PopInt = plain values.pop_int
effect_of r.PopBool = plain values.pop_bool
effect_of r.StepKey = plain values.step_key
effect_of r.StepAppend = plain values.step_append
effect_of r.StepProp = plain values.step_prop
effect_of r.PathGet = of_one paths.path_get
effect_of r.PathSet = of_one paths.path_set
effect_of r.PathOp = of_two paths.path_op
effect_of r.PathInc = of_two paths.path_inc
effect_of r.PathTry = of_one paths.path_try
effect_of r.PathKeep = of_one paths.path_keep
effect_of r.PathUnset = of_one paths.path_unset
effect_of r.PathPush = of_two paths.path_push
effect_of r.PathPop = of_one paths.path_pop
effect_of r.Elem = plain values.elem
effect_of r.ElemKey = plain values.elem_key
effect_of r.Hold = plain holds.hold
effect_of r.Held = plain holds.held
effect_of r.Unhold = plain holds.unhold
effect_of r.Iter = plain holds.iter
effect_of r.Next = plain holds.next
effect_of r.Echo = plain outputs.echo
effect_of r.FnDeclare = of_one calls.fn_declare
effect_of r.FnFind = plain calls.fn_find
effect_of r.Builtin = of_two calls.builtin
effect_of r.Enter = of_four calls.enter
effect_of r.EnterM = of_five calls.enter_m
effect_of r.Leave = plain calls.leave
effect_of r.ClassBegin = of_one declarations.class_begin
effect_of r.ClassMethod = of_two declarations.class_method
effect_of r.ClassProp = of_two declarations.class_prop
effect_of r.ClassConst = of_one declarations.class_const
effect_of r.ClassEnd = of_one declarations.class_end
effect_of r.ClassKnown = plain classes.class_known
effect_of r.Class = plain classes.class
effect_of r.ClassDecl = of_one classes.class_decl
effect_of r.ClassParent = of_one classes.class_parent
effect_of r.ClassStatic = plain classes.class_static
effect_of r.ClassNew = plain classes.class_new
effect_of r.ParentInit = of_one classes.parent_init
effect_of r.PropInit = plain classes.prop_init
effect_of r.Ctor = plain classes.ctor
effect_of r.Method = plain classes.method
effect_of r.Smethod = of_one classes.smethod
effect_of r.ConstFind = plain classes.const_find
effect_of r.Sprop = plain classes.sprop
effect_of r.LocInit = plain classes.loc_init
effect_of r.Instance = plain classes.instance
effect_of r.ConstSet = plain outputs.const_set
effect_of r.ConstGet = plain outputs.const_get
effect_of r.Once = of_one outputs.once
effect_of r.Exit = plain outputs.exit
effect_of r.Fatal = of_one outputs.fatal

-- what its type gives
abbrev pub results_of : Row → List ValType
results_of row = option_map_or (λ (i : Import). i.type.results) (row_import row) []

abbrev pub call_row : Row → HostState → List ℕ → List ℕ → Replied
call_row row h args memory = applied (effect_of row) h args memory

-- a host that has ended the run does nothing more
abbrev pub effect : ℕ → HostStatus → List ℕ → List ℕ → Replied
effect number (Halted out stop) args memory = Stops (Halted out stop) stop
effect number (Serving h) args memory = found (row_with number) h (λ row. call_row row h args memory)

-- what was printed
abbrev pub output_of : HostStatus → List ℕ
output_of (Serving h) = h.core.out
output_of (Halted out stop) = out

abbrev pub php1 : Host HostStatus Stop
php1 = record { row = import_row; effect = effect; output = output_of }
