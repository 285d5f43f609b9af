-- Rows of values, of holds, of output and of constants, by their combinators.
use Rattle.std.proofs.Common.{ℕ, ◌<◌, ◌^◌, ℤ, pos, negsuc, List, [], ◌∷◌, ◌++◌, refl, arith}
use Rattle.std.specs.Prelude.{Result, not}
use Rattle.std.proofs.Math.Nat.{mod-lt}
use Rattle.std.proofs.lemmas.List.{append_assoc}
use Rattle.hph_wasm.specs.Outcome.{IsPrefix}
use Rattle.hph_wasm.specs.Integers.{unsigned}
use Rattle.hph_php.specs.declared.fatal.Fatal.{Fatal}
use Rattle.hph_php.specs.Codes.{binary_with, unary_with, fatal_with}
use Rattle.hph_php.specs.Values.{Value, Null, Boolean, Int, Str, Arr, Obj, array_of, array_value}
use Rattle.hph_php.specs.Conversions.{map_ok, to_bool, to_text, value_of_key}
use Rattle.hph_php.specs.Operators.{binary_of, unary_of}
use Rattle.hph_php.specs.Operations.{with_key, exit_of, constant_in}
use Rattle.hph_php.specs.Arrays.{Array, append}
use Rattle.hph_php.specs.Statements.{turns_of}
use Rattle.hph_php.specs.State.{with_constant, is_entered, enter}
use Rattle.hph_php.specs.Answers.{Exits, Fails}
use Rattle.hph_php.specs.Paths.{by_key, by_property}
use Rattle.hph_php.specs.Imports.{word, long}
use Rattle.hph_effects.specs.Hosts.{a_step, Held, an_item, an_iterator, HostState, with_heap, with_holds, hold_on, print, push, push_item, the_value, the_text, the_whole}
use Rattle.hph_effects.specs.Values as values
use Rattle.hph_effects.specs.Holds as holds
use Rattle.hph_effects.specs.Outputs as outputs
use Rattle.hph_effect_laws.specs.Below.{Below, over}
use Rattle.hph_effect_laws.proofs.Sound.{IsSound, At, stopped, misused, by_result, by_found, took, finished, settles, gives_small, truly}

-- what was printed before, and more
pub printed_more : (out now bytes : List ℕ) → IsPrefix out now → IsPrefix out (now ++ bytes)
printed_more out now bytes (rest, split) = (rest ++ bytes, search (split, append_assoc))

unsigned_fits : (z : ℤ) → unsigned 64 z < 2 ^ 64
unfolding unsigned
unsigned_fits (pos i) = mod-lt i (omega arith)
unsigned_fits (negsuc i) = omega arith

module _ {b : Below} {out : List ℕ} where
  -- ---- values

  pub drop_sound : (h : HostState) → At b out h → IsSound b out [] (values.drop h) (values.drop (over b h))
  drop_sound h s = took the_whole h s _ _ (λ item g t. finished g t.grew)

  pub dup_sound : (h : HostState) → At b out h → IsSound b out [] (values.dup h) (values.dup (over b h))
  dup_sound h s = took the_whole h s _ _ (λ item g t. finished (push_item item (push_item item g)) t.grew)

  pub op2_sound : (code : ℕ) (h : HostState) → At b out h → IsSound b out [] (values.op2 code h) (values.op2 code (over b h))
  op2_sound code h s = by_found (binary_with code) h s (λ op. took the_value h s _ _ (λ y g t.
      took the_value g t _ _ (λ x k u. settles (binary_of op x y) k u)))

  pub op1_sound : (code : ℕ) (h : HostState) → At b out h → IsSound b out [] (values.op1 code h) (values.op1 code (over b h))
  op1_sound code h s = by_found (unary_with code) h s (λ op. took the_value h s _ _ (λ x g t. settles (unary_of op x) g t))

  pub truth_sound : (h : HostState) → At b out h → IsSound b out word (values.truth h) (values.truth (over b h))
  truth_sound h s = took the_value h s _ _ (λ v g t. truly (to_bool v) g t.grew)

  int_given : (v : Value) (h : HostState) → At b out h → IsSound b out long (values.an_int v h) (values.an_int v (over b h))
  int_given (Int z) h s = record { holds = (s.grew, (unsigned_fits z, refl)) }
  int_given Null h s = misused h s _
  int_given (Boolean truth) h s = misused h s _
  int_given (Str bytes) h s = misused h s _
  int_given (Arr pairs next_key) h s = misused h s _
  int_given (Obj object) h s = misused h s _

  pub pop_int_sound : (h : HostState) → At b out h → IsSound b out long (values.pop_int h) (values.pop_int (over b h))
  pop_int_sound h s = took the_value h s _ _ int_given

  bool_given : (v : Value) (h : HostState) → At b out h → IsSound b out word (values.a_bool v h) (values.a_bool v (over b h))
  bool_given (Boolean truth) h s = truly truth h s.grew
  bool_given Null h s = misused h s _
  bool_given (Int z) h s = misused h s _
  bool_given (Str bytes) h s = misused h s _
  bool_given (Arr pairs next_key) h s = misused h s _
  bool_given (Obj object) h s = misused h s _

  pub pop_bool_sound : (h : HostState) → At b out h → IsSound b out word (values.pop_bool h) (values.pop_bool (over b h))
  pop_bool_sound h s = took the_value h s _ _ bool_given

  pub step_key_sound : (h : HostState) → At b out h → IsSound b out [] (values.step_key h) (values.step_key (over b h))
  step_key_sound h s = took the_value h s _ _ (λ v g t. finished (push_item (a_step (by_key v)) g) t.grew)

  pub step_prop_sound : (h : HostState) → At b out h → IsSound b out [] (values.step_prop h) (values.step_prop (over b h))
  step_prop_sound h s = took the_text h s _ _ (λ name g t. finished (push_item (a_step (by_property name)) g) t.grew)

  element_sound : (go : Array Value → Result (Array Value) Fatal) (v : Value) (h : HostState) → At b out h →
      IsSound b out [] (values.with_element go v h) (values.with_element go v (over b h))
  element_sound go (Arr pairs next_key) h s = settles (map_ok array_value (go (array_of pairs next_key))) h s
  element_sound go Null h s = misused h s _
  element_sound go (Boolean truth) h s = misused h s _
  element_sound go (Int z) h s = misused h s _
  element_sound go (Str bytes) h s = misused h s _
  element_sound go (Obj object) h s = misused h s _

  pub elem_sound : (h : HostState) → At b out h → IsSound b out [] (values.elem h) (values.elem (over b h))
  elem_sound h s = took the_value h s _ _ (λ v g t. took the_value g t _ _ (element_sound (λ a. append a v)))

  pub elem_key_sound : (h : HostState) → At b out h → IsSound b out [] (values.elem_key h) (values.elem_key (over b h))
  elem_key_sound h s = took the_value h s _ _ (λ v g t. took the_value g t _ _ (λ k f u. took the_value f u _ _ (element_sound (with_key k v))))

  -- ---- holds

  pub hold_sound : (h : HostState) → At b out h → IsSound b out [] (holds.hold h) (holds.hold (over b h))
  hold_sound h s = took the_whole h s _ _ (λ item g t. finished (hold_on (an_item item) g) t.grew)

  copied_sound : (xs : List Held) (h : HostState) → At b out h → IsSound b out [] (holds.copied xs h) (holds.copied (xs ++ b.holds) (over b h))
  copied_sound [] h s = misused h s _
  copied_sound (an_item item ∷ xs) h s = finished (push_item item h) s.grew
  copied_sound (an_iterator pairs ∷ xs) h s = misused h s _

  pub held_sound : (h : HostState) → At b out h → IsSound b out [] (holds.held h) (holds.held (over b h))
  held_sound h s = copied_sound h.holds h s

  let_go_sound : (xs : List Held) (h : HostState) → At b out h → IsSound b out [] (holds.let_go xs h) (holds.let_go (xs ++ b.holds) (over b h))
  let_go_sound [] h s = misused h s _
  let_go_sound (x ∷ xs) h s = finished (with_holds xs h) s.grew

  pub unhold_sound : (h : HostState) → At b out h → IsSound b out [] (holds.unhold h) (holds.unhold (over b h))
  unhold_sound h s = let_go_sound h.holds h s

  pub iter_sound : (h : HostState) → At b out h → IsSound b out [] (holds.iter h) (holds.iter (over b h))
  iter_sound h s = took the_value h s _ _ (λ v g t. by_result (turns_of v) g t (λ pairs. finished (hold_on (an_iterator pairs) g) t.grew))

  turned_sound : (xs : List Held) (h : HostState) → At b out h → IsSound b out word (holds.turned xs h) (holds.turned (xs ++ b.holds) (over b h))
  turned_sound [] h s = misused h s _
  turned_sound (an_item item ∷ xs) h s = misused h s _
  turned_sound (an_iterator [] ∷ xs) h s = gives_small 0 h (omega arith) s.grew
  turned_sound (an_iterator (p ∷ ps) ∷ xs) h s =
      gives_small 1 (push p.1 (push (value_of_key p.0) (with_holds (an_iterator ps ∷ xs) h))) (omega arith) s.grew

  pub next_sound : (h : HostState) → At b out h → IsSound b out word (holds.next h) (holds.next (over b h))
  next_sound h s = turned_sound h.holds h s

  -- ---- output, ends, constants and files

  pub write_sound : (bytes : List ℕ) (h : HostState) → At b out h → IsSound b out [] (outputs.write bytes h) (outputs.write bytes (over b h))
  write_sound bytes h s = finished (print bytes h) (printed_more out h.core.out bytes s.grew)

  pub echo_sound : (h : HostState) → At b out h → IsSound b out [] (outputs.echo h) (outputs.echo (over b h))
  echo_sound h s = took the_value h s _ _ (λ v g t. by_result (to_text v) g t (λ text. write_sound text g t))

  pub exit_sound : (h : HostState) → At b out h → IsSound b out [] (outputs.exit h) (outputs.exit (over b h))
  exit_sound h s = took the_value h s _ _ (λ v g t. by_result (exit_of v) g t
      (λ e. stopped (Exits e.1) (print e.0 g) (printed_more out g.core.out e.0 t.grew)))

  pub fatal_sound : (code : ℕ) (h : HostState) → At b out h → IsSound b out [] (outputs.fatal code h) (outputs.fatal code (over b h))
  fatal_sound code h s = by_found (fatal_with code) h s (λ kind. stopped (Fails kind) h s.grew)

  pub const_set_sound : (h : HostState) → At b out h → IsSound b out [] (outputs.const_set h) (outputs.const_set (over b h))
  const_set_sound h s = took the_value h s _ _ (λ v g t. took the_text g t _ _ (λ name f u. finished (with_heap (with_constant name v) f) u.grew))

  pub const_get_sound : (h : HostState) → At b out h → IsSound b out [] (outputs.const_get h) (outputs.const_get (over b h))
  const_get_sound h s = took the_text h s _ _ (λ name g t. settles (constant_in name g.core.heap) g t)

  pub once_sound : (file : ℕ) (h : HostState) → At b out h → IsSound b out word (outputs.once file h) (outputs.once file (over b h))
  once_sound file h s = truly (not (is_entered file h.core.heap)) (with_heap (enter file) h) s.grew
