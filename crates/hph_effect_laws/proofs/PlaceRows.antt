-- Rows of variables and of paths, by their combinators.
use Rattle.std.proofs.Common.{◌≡◌, ℕ, Bool, List, [], ◌∷◌, Option, None, Some, refl, ap, arith}
use Rattle.std.specs.Prelude.{Result, slice_get, is_some, not}
use Rattle.hph_wasm.specs.declared.types.ValType.{ValType}
use Rattle.hph_wasm.specs.Outcome.{IsPrefix}
use Rattle.hph_wasm.specs.Integers as integers
use Rattle.hph_wasm.specs.Configuration.{Goes}
use Rattle.hph_php.specs.declared.fatal.Fatal.{Fatal}
use Rattle.hph_php.specs.declared.fatal.Fatal.TheVariants.{BadArgument}
use Rattle.hph_php.specs.Codes.{binary_with}
use Rattle.hph_php.specs.Values.{Value, Obj}
use Rattle.hph_php.specs.Operators.{binary_of}
use Rattle.hph_php.specs.Arrays.{Array}
use Rattle.hph_php.specs.Calls.{pushed, without_last}
use Rattle.hph_php.specs.State.{static_variable, next_location}
use Rattle.hph_php.specs.State as state
use Rattle.hph_php.specs.Answers.{Fails}
use Rattle.hph_php.specs.Paths.{PathStep, read_path, Written, unset_path, Stored, old_value, assign_at, operate_at, update_at, change_array_at}
use Rattle.hph_php.specs.Imports.{word}
use Rattle.hph_effects.specs.Hosts.{Item, a_value, a_place, a_step, class_item, in_making, HostFrame, HostState, Serving, Replied, done, push, with_core, the_value, only_if}
use Rattle.hph_effects.specs.Slots.{by_slot, slots_of, with_slots, on_located, on_globals}
use Rattle.hph_effects.specs.Variables as variables
use Rattle.hph_effects.specs.Paths as paths
use Rattle.hph_effects.specs.Paths.{Move}
use Rattle.hph_effect_laws.specs.Below.{Below, over}
use Rattle.hph_effect_laws.proofs.Sound.{IsSound, At, by_frames, stopped, by_result, by_found, where_true, either, took, took_all, walks, in_slot, by_class, by_this, finished, moved, settles, gives_small, truth_fits}

-- writes at places print nothing
writes_grow : (out : List ℕ) (base : Item) (w : Written) (h : HostState) → IsPrefix out h.core.out → IsPrefix out (paths.written base w h.core).out
writes_grow out (a_value v) w h grew = grew
writes_grow out (a_place l) w h grew = left_or_changed w.place
  where
    left_or_changed : (place : Option Value) → IsPrefix out (paths.written (a_place l) (record w { place = place }) h.core).out
    left_or_changed None = grew
    left_or_changed (Some v) = grew
writes_grow out (a_step step) w h grew = grew
writes_grow out (class_item class) w h grew = grew
writes_grow out (in_making class properties) w h grew = grew

module _ {b : Below} {out : List ℕ} where
  -- ---- variables: what is done with slots is done above what lies below

  moves : (move : HostState → HostState) →
      ((h : HostState) (b : Below) → move (over (record b { frames = [] }) (record h { frames = [] })) ≡ over (record b { frames = [] }) (move (record h { frames = [] }))) →
      ((h : HostState) (b : Below) (f : HostFrame) (fs : List HostFrame) → move (over b (record h { frames = f ∷ fs })) ≡ over b (move (record h { frames = f ∷ fs }))) →
      (h : HostState) → At b out h → IsPrefix out (move h).core.out → IsSound b out [] (done (move h)) (done (move (over b h)))
  moves move first inner h s grew = moved (move h) (move (over b h)) (by_frames move first inner h b s.covers) grew

  pub get_sound : (n : ℕ) (h : HostState) → At b out h → IsSound b out [] (variables.get n h) (variables.get n (over b h))
  get_sound n h s = in_slot n h s (moves (λ h. push (variables.slot_value n h) h) (λ h b. refl) (λ h b f fs. refl) h s s.grew)

  pub set_sound : (n : ℕ) (h : HostState) → At b out h → IsSound b out [] (variables.set n h) (variables.set n (over b h))
  set_sound n h s = took the_value h s _ _ (λ v g t. in_slot n g t
      (moves (on_located (state.set by_slot n v)) (λ h b. refl) (λ h b f fs. refl) g t t.grew))

  pub ref_sound : (n : ℕ) (h : HostState) → At b out h → IsSound b out [] (variables.ref n h) (variables.ref n (over b h))
  ref_sound n h s = in_slot n h s
      (moves (λ h. variables.push_slot n (on_located (state.place by_slot n) h)) (λ h b. refl) (λ h b f fs. refl) h s s.grew)

  pub this_sound : (h : HostState) → At b out h → IsSound b out [] (variables.this h) (variables.this (over b h))
  this_sound h s = by_this h s _ _ (λ object. by_found object h s (λ o. finished (push (Obj o) h) s.grew))

  pub bind_sound : (m n : ℕ) (h : HostState) → At b out h → IsSound b out [] (variables.bind m n h) (variables.bind m n (over b h))
  bind_sound m n h s = in_slot m h s (in_slot n h s
      (moves (on_located (state.share by_slot m n)) (λ h b. refl) (λ h b f fs. refl) h s s.grew))

  pub bind_global_sound : (n g : ℕ) (h : HostState) → At b out h → IsSound b out [] (variables.bind_global n g h) (variables.bind_global n g (over b h))
  bind_global_sound n g h s = in_slot n h s (moves (λ h. variables.bound_to_global n g (on_globals (state.place by_slot g) h))
      (λ h b. refl) (λ h b f fs. refl) h s s.grew)

  pub bind_static_sound : (n number : ℕ) (h : HostState) → At b out h →
      IsSound b out word (variables.bind_static n number h) (variables.bind_static n number (over b h))
  bind_static_sound n number h s = in_slot n h s (record {
    holds = (
      s.grew,
      (
        truth_fits is_new,
        ap (λ g. Goes (Serving g) (Some (integers.truth is_new)))
            (by_frames (on_located (state.bind_static by_slot n number)) (λ h b. refl) (λ h b f fs. refl) h b s.covers),
      ),
    );
  })
    where
      is_new : Bool
      is_new = not (is_some (static_variable number h.core.places))

  pub unset_sound : (n : ℕ) (h : HostState) → At b out h → IsSound b out [] (variables.unset n h) (variables.unset n (over b h))
  unset_sound n h s = in_slot n h s
      (moves (λ h. with_slots (by_slot.unbind n (slots_of h)) h) (λ h b. refl) (λ h b f fs. refl) h s s.grew)

  -- ---- paths

  stores : (base : Item) (r : Result Stored Fatal) (h : HostState) → At b out h →
      IsSound b out [] (paths.stored base r h) (paths.stored base r (over b h))
  stores base r h s = by_result r h s (λ st. finished (push st.0 (with_core (paths.written base st.1) h)) (writes_grow out base st.1 h s.grew))

  walks_for : {results : List ValType} (fits : Item → List PathStep → Bool) (d : ℕ) (h : HostState) → At b out h →
      (go over_go : Item → List PathStep → Option Value → HostState → Replied) →
      ((base : Item) (steps : List PathStep) (place : Option Value) (g : HostState) → At b out g →
      IsSound b out results (go base steps place g) (over_go base steps place (over b g))) →
      IsSound b out results (paths.walked_for fits d h go) (paths.walked_for fits d (over b h) over_go)
  walks_for fits d h s go over_go goes = walks d h s (λ base steps place below. only_if (fits base steps) h (go base steps place below))
      (λ base steps place below. only_if (fits base steps) (over b h) (over_go base steps place below))
      (λ base steps place g t. where_true (fits base steps) h s (goes base steps place g t))

  pub path_get_sound : (d : ℕ) (h : HostState) → At b out h → IsSound b out [] (paths.path_get d h) (paths.path_get d (over b h))
  path_get_sound d h s = walks d h s paths.got paths.got (λ base steps place g t. by_class g t _ _ (λ class.
      settles (read_path g.core.heap class (old_value place) steps) g t))

  pub path_set_sound : (d : ℕ) (h : HostState) → At b out h → IsSound b out [] (paths.path_set d h) (paths.path_set d (over b h))
  path_set_sound d h s = took the_value h s _ _ (λ v k u. walks_for paths.is_writable d k u (paths.assigned v) (paths.assigned v)
      (λ base steps place g t. by_class g t _ _ (λ class. stores base (assign_at class steps v g.core.heap place) g t)))

  pub path_op_sound : (d code : ℕ) (h : HostState) → At b out h → IsSound b out [] (paths.path_op d code h) (paths.path_op d code (over b h))
  path_op_sound d code h s = by_found (binary_with code) h s (λ op. took the_value h s _ _ (λ v k u.
      walks_for paths.is_writable d k u (paths.operated op v) (paths.operated op v) (λ base steps place g t. by_class g t _ _ (λ class.
      stores base (operate_at class (binary_of op) steps v g.core.heap place) g t))))

  pub path_inc_sound : (d mode : ℕ) (h : HostState) → At b out h → IsSound b out [] (paths.path_inc d mode h) (paths.path_inc d mode (over b h))
  path_inc_sound d mode h s = by_found (slice_get paths.moves mode) h s (λ m.
      walks_for paths.is_writable d h s (paths.updated m) (paths.updated m) (λ base steps place g t. by_class g t _ _ (λ class.
      stores base (update_at class m.move m.which steps g.core.heap place) g t)))

  sets : (o : Option Value) (otherwise below : HostState) → IsPrefix out otherwise.core.out → IsPrefix out below.core.out →
      IsSound b out word (paths.if_set o otherwise below) (paths.if_set o (over b otherwise) (over b below))
  sets None otherwise below grew grew_below = gives_small 0 otherwise (omega arith) grew
  sets (Some v) otherwise below grew grew_below = gives_small 1 (push v below) (omega arith) grew_below

  tests : (otherwise : HostState) (base : Item) (steps : List PathStep) (place : Option Value) (h : HostState) →
      IsPrefix out otherwise.core.out → At b out h →
      IsSound b out word (paths.tested otherwise base steps place h) (paths.tested (over b otherwise) base steps place (over b h))
  tests otherwise base steps place h grew s = by_class h s (λ class. paths.if_set (paths.tried steps place h class) otherwise h)
      (λ class. paths.if_set (paths.tried steps place h class) (over b otherwise) (over b h))
      (λ class. sets (paths.tried steps place h class) otherwise h grew s.grew)

  pub path_try_sound : (d : ℕ) (h : HostState) → At b out h → IsSound b out word (paths.path_try d h) (paths.path_try d (over b h))
  path_try_sound d h s = walks d h s (λ base steps place h. paths.tested h base steps place h) (λ base steps place h. paths.tested h base steps place h)
      (λ base steps place g t. tests g base steps place g t.grew t)

  pub path_keep_sound : (d : ℕ) (h : HostState) → At b out h → IsSound b out word (paths.path_keep d h) (paths.path_keep d (over b h))
  path_keep_sound d h s = walks d h s (paths.tested h) (paths.tested (over b h)) (λ base steps place g t. tests h base steps place g s.grew t)

  pub path_unset_sound : (d : ℕ) (h : HostState) → At b out h → IsSound b out [] (paths.path_unset d h) (paths.path_unset d (over b h))
  path_unset_sound d h s = walks_for paths.is_writable d h s paths.unset paths.unset (λ base steps place g t. by_class g t _ _ (λ class.
      by_result (unset_path g.core.heap class steps place) g t (λ r. finished (with_core (paths.written base r) g) (writes_grow out base r g t.grew))))

  changes : (d : ℕ) (go : Array Value → Result (Array Value × Value) Fatal) (h : HostState) → At b out h →
      IsSound b out [] (paths.change_array d go h) (paths.change_array d go (over b h))
  changes d go h s = walks_for paths.is_changeable d h s (paths.changed go) (paths.changed go) (λ base steps place g t.
      either (paths.is_mere_value base steps) (stopped (Fails BadArgument) g t.grew)
      (by_class g t _ _ (λ class. stores base (change_array_at class go steps g.core.heap place) g t)))

  pub path_push_sound : (d n : ℕ) (h : HostState) → At b out h → IsSound b out [] (paths.path_push d n h) (paths.path_push d n (over b h))
  path_push_sound d n h s = took_all the_value n h s (λ vs. paths.change_array d (pushed vs)) (λ vs. paths.change_array d (pushed vs))
      (λ vs. changes d (pushed vs))

  pub path_pop_sound : (d : ℕ) (h : HostState) → At b out h → IsSound b out [] (paths.path_pop d h) (paths.path_pop d (over b h))
  path_pop_sound d h s = changes d without_last h s
