-- Each row, by its lemma.
use Rattle.std.proofs.Common.{ℕ, ◌+◌, List, [], ◌∷◌, length, take, drop}
use Rattle.std.specs.Prelude.{nat_le}
use Rattle.hph_wasm.specs.declared.types.ValType.{ValType}
use Rattle.hph_wasm.specs.Integers.{signed}
use Rattle.hph_php.specs.Values.{Null, Boolean, Int, Str, array_value, empty_array}
use Rattle.hph_php.specs.Paths.{at_end}
use Rattle.hph_effects.specs.declared.row.Row.{Row}
use Rattle.hph_effects.specs.declared.row.Row.TheVariants as r
use Rattle.hph_effects.specs.Hosts.{a_step, HostState, Replied, on_none, on_one, on_two, on_four, on_five, read_memory, push, push_item}
use Rattle.hph_effects.specs.Values as values
use Rattle.hph_effects.specs.Outputs as outputs
use Rattle.hph_effects.specs.Effects.{call_row, results_of}
use Rattle.hph_effect_laws.specs.Below.{Below, over}
use Rattle.hph_effect_laws.proofs.Sound.{IsSound, At, misused, where_true, finished}
use Rattle.hph_effect_laws.proofs.ValueRows.{const_get_sound, const_set_sound, drop_sound, dup_sound, echo_sound, elem_key_sound, elem_sound, exit_sound, fatal_sound, held_sound, hold_sound, iter_sound, next_sound, once_sound, op1_sound, op2_sound, pop_bool_sound, pop_int_sound, step_key_sound, step_prop_sound, truth_sound, unhold_sound, write_sound}
use Rattle.hph_effect_laws.proofs.PlaceRows.{get_sound, set_sound, ref_sound, this_sound, bind_sound, bind_global_sound, bind_static_sound, unset_sound, path_get_sound, path_set_sound, path_op_sound, path_inc_sound, path_try_sound, path_keep_sound, path_unset_sound, path_push_sound, path_pop_sound}
use Rattle.hph_effect_laws.proofs.ClassRows.{fn_declare_sound, fn_find_sound, builtin_sound, enter_sound, enter_m_sound, leave_sound, class_begin_sound, class_method_sound, class_prop_sound, class_const_sound, class_end_sound, class_known_sound, class_sound, class_decl_sound, class_parent_sound, class_static_sound, class_new_sound, parent_init_sound, prop_init_sound, ctor_sound, method_sound, smethod_sound, const_find_sound, sprop_sound, loc_init_sound, instance_sound}

module _ {b : Below} {out : List ℕ} {results : List ValType} where
  none : (args : List ℕ) (h : HostState) → At b out h → {go over_go : Replied} → IsSound b out results go over_go →
      IsSound b out results (on_none args h go) (on_none args (over b h) over_go)
  none [] h s goes = goes
  none (n ∷ args) h s goes = misused h s _

  one : (args : List ℕ) (h : HostState) → At b out h → (go over_go : ℕ → Replied) →
      ((n : ℕ) → IsSound b out results (go n) (over_go n)) → IsSound b out results (on_one args h go) (on_one args (over b h) over_go)
  one (n ∷ []) h s go over_go goes = goes n
  one [] h s go over_go goes = misused h s _
  one (n ∷ x ∷ xs) h s go over_go goes = misused h s _

  two : (args : List ℕ) (h : HostState) → At b out h → (go over_go : ℕ → ℕ → Replied) →
      ((m n : ℕ) → IsSound b out results (go m n) (over_go m n)) → IsSound b out results (on_two args h go) (on_two args (over b h) over_go)
  two (m ∷ n ∷ []) h s go over_go goes = goes m n
  two [] h s go over_go goes = misused h s _
  two (m ∷ []) h s go over_go goes = misused h s _
  two (m ∷ n ∷ x ∷ xs) h s go over_go goes = misused h s _

  four : (args : List ℕ) (h : HostState) → At b out h → (go over_go : ℕ → ℕ → ℕ → ℕ → Replied) →
      ((k p m n : ℕ) → IsSound b out results (go k p m n) (over_go k p m n)) → IsSound b out results (on_four args h go) (on_four args (over b h) over_go)
  four (k ∷ p ∷ m ∷ n ∷ []) h s go over_go goes = goes k p m n
  four [] h s go over_go goes = misused h s _
  four (k ∷ []) h s go over_go goes = misused h s _
  four (k ∷ p ∷ []) h s go over_go goes = misused h s _
  four (k ∷ p ∷ m ∷ []) h s go over_go goes = misused h s _
  four (k ∷ p ∷ m ∷ n ∷ x ∷ xs) h s go over_go goes = misused h s _

  five : (args : List ℕ) (h : HostState) → At b out h → (go over_go : ℕ → ℕ → ℕ → ℕ → ℕ → Replied) →
      ((k p m n decl : ℕ) → IsSound b out results (go k p m n decl) (over_go k p m n decl)) →
      IsSound b out results (on_five args h go) (on_five args (over b h) over_go)
  five (k ∷ p ∷ m ∷ n ∷ decl ∷ []) h s go over_go goes = goes k p m n decl
  five [] h s go over_go goes = misused h s _
  five (k ∷ []) h s go over_go goes = misused h s _
  five (k ∷ p ∷ []) h s go over_go goes = misused h s _
  five (k ∷ p ∷ m ∷ []) h s go over_go goes = misused h s _
  five (k ∷ p ∷ m ∷ n ∷ []) h s go over_go goes = misused h s _
  five (k ∷ p ∷ m ∷ n ∷ decl ∷ x ∷ xs) h s go over_go goes = misused h s _

  text : (args memory : List ℕ) (h : HostState) → At b out h → (go over_go : List ℕ → HostState → Replied) →
      ((bytes : List ℕ) → IsSound b out results (go bytes h) (over_go bytes (over b h))) →
      IsSound b out results (on_two args h (λ place count. read_memory place count memory h (λ bytes. go bytes h)))
      (on_two args (over b h) (λ place count. read_memory place count memory (over b h) (λ bytes. over_go bytes (over b h))))
  text args memory h s go over_go goes = two args h s (λ place count. read_memory place count memory h (λ bytes. go bytes h))
      (λ place count. read_memory place count memory (over b h) (λ bytes. over_go bytes (over b h)))
      (λ place count. where_true (nat_le (place + count) (length memory)) h s (goes (take count (drop place memory))))

module _ {b : Below} {out : List ℕ} where
  pub row_sound : (row : Row) (h : HostState) → At b out h → (args memory : List ℕ) →
      IsSound b out (results_of row) (call_row row h args memory) (call_row row (over b h) args memory)
  row_sound r.Write h s args memory = text args memory h s outputs.write outputs.write (λ bytes. write_sound bytes h s)
  row_sound r.Null h s args memory = none args h s (finished (push Null h) s.grew)
  row_sound r.Bool h s args memory = one args h s _ _ (λ b. finished (push (Boolean (values.is_true b)) h) s.grew)
  row_sound r.Int h s args memory = one args h s _ _ (λ i. finished (push (Int (signed 64 i)) h) s.grew)
  row_sound r.Str h s args memory = text args memory h s values.str values.str (λ bytes. finished (push (Str bytes) h) s.grew)
  row_sound r.Arr h s args memory = none args h s (finished (push (array_value empty_array) h) s.grew)
  row_sound r.Drop h s args memory = none args h s (drop_sound h s)
  row_sound r.Dup h s args memory = none args h s (dup_sound h s)
  row_sound r.Get h s args memory = one args h s _ _ (λ n. get_sound n h s)
  row_sound r.Set h s args memory = one args h s _ _ (λ n. set_sound n h s)
  row_sound r.Ref h s args memory = one args h s _ _ (λ n. ref_sound n h s)
  row_sound r.This h s args memory = none args h s (this_sound h s)
  row_sound r.Bind h s args memory = two args h s _ _ (λ m n. bind_sound m n h s)
  row_sound r.BindGlobal h s args memory = two args h s _ _ (λ m n. bind_global_sound m n h s)
  row_sound r.BindStatic h s args memory = two args h s _ _ (λ m n. bind_static_sound m n h s)
  row_sound r.Unset h s args memory = one args h s _ _ (λ n. unset_sound n h s)
  row_sound r.Op2 h s args memory = one args h s _ _ (λ n. op2_sound n h s)
  row_sound r.Op1 h s args memory = one args h s _ _ (λ n. op1_sound n h s)
  row_sound r.Truth h s args memory = none args h s (truth_sound h s)
  row_sound r.PopInt h s args memory = none args h s (pop_int_sound h s)
  row_sound r.PopBool h s args memory = none args h s (pop_bool_sound h s)
  row_sound r.StepKey h s args memory = none args h s (step_key_sound h s)
  row_sound r.StepAppend h s args memory = none args h s (finished (push_item (a_step at_end) h) s.grew)
  row_sound r.StepProp h s args memory = none args h s (step_prop_sound h s)
  row_sound r.PathGet h s args memory = one args h s _ _ (λ n. path_get_sound n h s)
  row_sound r.PathSet h s args memory = one args h s _ _ (λ n. path_set_sound n h s)
  row_sound r.PathOp h s args memory = two args h s _ _ (λ m n. path_op_sound m n h s)
  row_sound r.PathInc h s args memory = two args h s _ _ (λ m n. path_inc_sound m n h s)
  row_sound r.PathTry h s args memory = one args h s _ _ (λ n. path_try_sound n h s)
  row_sound r.PathKeep h s args memory = one args h s _ _ (λ n. path_keep_sound n h s)
  row_sound r.PathUnset h s args memory = one args h s _ _ (λ n. path_unset_sound n h s)
  row_sound r.PathPush h s args memory = two args h s _ _ (λ m n. path_push_sound m n h s)
  row_sound r.PathPop h s args memory = one args h s _ _ (λ n. path_pop_sound n h s)
  row_sound r.Elem h s args memory = none args h s (elem_sound h s)
  row_sound r.ElemKey h s args memory = none args h s (elem_key_sound h s)
  row_sound r.Hold h s args memory = none args h s (hold_sound h s)
  row_sound r.Held h s args memory = none args h s (held_sound h s)
  row_sound r.Unhold h s args memory = none args h s (unhold_sound h s)
  row_sound r.Iter h s args memory = none args h s (iter_sound h s)
  row_sound r.Next h s args memory = none args h s (next_sound h s)
  row_sound r.Echo h s args memory = none args h s (echo_sound h s)
  row_sound r.FnDeclare h s args memory = one args h s _ _ (λ n. fn_declare_sound n h s)
  row_sound r.FnFind h s args memory = none args h s (fn_find_sound h s)
  row_sound r.Builtin h s args memory = two args h s _ _ (λ m n. builtin_sound m n h s)
  row_sound r.Enter h s args memory = four args h s _ _ (λ k p m n. enter_sound k p m n h s)
  row_sound r.EnterM h s args memory = five args h s _ _ (λ k p m n decl. enter_m_sound k p m n decl h s)
  row_sound r.Leave h s args memory = none args h s (leave_sound h s)
  row_sound r.ClassBegin h s args memory = one args h s _ _ (λ n. class_begin_sound n h s)
  row_sound r.ClassMethod h s args memory = two args h s _ _ (λ m n. class_method_sound m n h s)
  row_sound r.ClassProp h s args memory = two args h s _ _ (λ m n. class_prop_sound m n h s)
  row_sound r.ClassConst h s args memory = one args h s _ _ (λ n. class_const_sound n h s)
  row_sound r.ClassEnd h s args memory = one args h s _ _ (λ n. class_end_sound n h s)
  row_sound r.ClassKnown h s args memory = none args h s (class_known_sound h s)
  row_sound r.Class h s args memory = none args h s (class_sound h s)
  row_sound r.ClassDecl h s args memory = one args h s _ _ (λ n. class_decl_sound n h s)
  row_sound r.ClassParent h s args memory = one args h s _ _ (λ n. class_parent_sound n h s)
  row_sound r.ClassStatic h s args memory = none args h s (class_static_sound h s)
  row_sound r.ClassNew h s args memory = none args h s (class_new_sound h s)
  row_sound r.ParentInit h s args memory = one args h s _ _ (λ n. parent_init_sound n h s)
  row_sound r.PropInit h s args memory = none args h s (prop_init_sound h s)
  row_sound r.Ctor h s args memory = none args h s (ctor_sound h s)
  row_sound r.Method h s args memory = none args h s (method_sound h s)
  row_sound r.Smethod h s args memory = one args h s _ _ (λ n. smethod_sound n h s)
  row_sound r.ConstFind h s args memory = none args h s (const_find_sound h s)
  row_sound r.Sprop h s args memory = none args h s (sprop_sound h s)
  row_sound r.LocInit h s args memory = none args h s (loc_init_sound h s)
  row_sound r.Instance h s args memory = none args h s (instance_sound h s)
  row_sound r.ConstSet h s args memory = none args h s (const_set_sound h s)
  row_sound r.ConstGet h s args memory = none args h s (const_get_sound h s)
  row_sound r.Once h s args memory = one args h s _ _ (λ n. once_sound n h s)
  row_sound r.Exit h s args memory = none args h s (exit_sound h s)
  row_sound r.Fatal h s args memory = one args h s _ _ (λ n. fatal_sound n h s)
