-- Rows of functions, frames, classes and objects, by their combinators.
use Rattle.std.proofs.Common.{ℕ, Bool, List, [], ◌∷◌, ◌++◌, Option, None, Some, arith}
use Rattle.std.specs.Prelude.{◌||◌, not, is_some, nat_lt}
use Rattle.std.specs.Option.{option_map_or}
use Rattle.hph_php.specs.declared.fatal.Fatal.TheVariants.{TooFewArguments}
use Rattle.hph_php.specs.Codes.{builtin_with}
use Rattle.hph_php.specs.Builtins.{Reply, builtin_of}
use Rattle.hph_php.specs.Values.{Boolean, Obj}
use Rattle.hph_php.specs.State.{Class, Member, Name, with_named, class_named, class_numbered, next_object, object_in, write_at, place_static, placed_static, initial_due}
use Rattle.hph_php.specs.Answers.{Fails}
use Rattle.hph_php.specs.Members.{Declared, property_of, constant_for, static_property_for}
use Rattle.hph_php.specs.World.{Receiver, no_receiver, Argument}
use Rattle.hph_php.specs.Calls.{function_in}
use Rattle.hph_php.specs.Executions.{declare_in, begin_class}
use Rattle.hph_php.specs.Classes.{class_in, is_instance, Called, method_on, method_by, constructor_for}
use Rattle.hph_php.specs.Imports.{word}
use Rattle.hph_effects.specs.Hosts.{a_place, class_item, in_making, HostFrame, HostState, Replied, with_heap, with_places, print, push, push_item, the_value, the_text, the_place, the_class, the_making}
use Rattle.hph_effects.specs.Calls as calls
use Rattle.hph_effects.specs.Declarations as declarations
use Rattle.hph_effects.specs.Classes as classes
use Rattle.hph_effect_laws.specs.Below.{Below, over}
use Rattle.hph_effect_laws.proofs.Sound.{IsSound, At, stopped, misused, by_result, by_found, where_true, either, took, took_all, by_class, by_late, by_this, finished, settles, gives_small, truly, codes}
use Rattle.hph_effect_laws.proofs.ValueRows.{printed_more}

module _ {b : Below} {out : List ℕ} where
  -- ---- functions and frames

  pub fn_declare_sound : (code : ℕ) (h : HostState) → At b out h → IsSound b out [] (calls.fn_declare code h) (calls.fn_declare code (over b h))
  fn_declare_sound code h s = took the_text h s _ _ (λ name g t. by_result (declare_in name code g.core.heap) g t
      (λ heap. finished (with_heap (λ _. heap) g) t.grew))

  pub fn_find_sound : (h : HostState) → At b out h → IsSound b out word (calls.fn_find h) (calls.fn_find (over b h))
  fn_find_sound h s = took the_text h s _ _ (λ name g t. by_result (function_in name g.core.heap) g t (λ code. codes code g t))

  replies : (r : Reply) (h : HostState) → At b out h → IsSound b out [] (calls.replied r h) (calls.replied r (over b h))
  replies r h s = settles r.value (print r.printed h) (record { grew = printed_more out h.core.out r.printed s.grew; covers = s.covers })

  pub builtin_sound : (code n : ℕ) (h : HostState) → At b out h → IsSound b out [] (calls.builtin code n h) (calls.builtin code n (over b h))
  builtin_sound code n h s = by_found (builtin_with code) h s (λ function. took_all the_value n h s
      (λ vs. calls.replied (builtin_of function vs)) (λ vs. calls.replied (builtin_of function vs)) (λ vs. replies (builtin_of function vs)))

  opens : (k p m n : ℕ) (class : Option ℕ) (receiver : Receiver) (args : List Argument) (h : HostState) → At b out h →
      IsSound b out [] (calls.opened k p m n class receiver args h) (calls.opened k p m n class receiver args (over b h))
  opens k p m n class receiver args h s = either (nat_lt n m) (stopped (Fails TooFewArguments) h s.grew)
      (finished (calls.framed k class receiver (calls.with_parameters p args h) h) s.grew)

  pub enter_sound : (k p m n : ℕ) (h : HostState) → At b out h → IsSound b out [] (calls.enter k p m n h) (calls.enter k p m n (over b h))
  enter_sound k p m n h s = where_true (not (nat_lt k p || nat_lt p m)) h s (took_all calls.the_argument n h s
      (λ args. calls.opened k p m n None no_receiver args) (λ args. calls.opened k p m n None no_receiver args)
      (λ args. opens k p m n None no_receiver args))

  pub enter_m_sound : (k p m n decl : ℕ) (h : HostState) → At b out h →
      IsSound b out [] (calls.enter_m k p m n decl h) (calls.enter_m k p m n decl (over b h))
  enter_m_sound k p m n decl h s = where_true (not (nat_lt k p || nat_lt p m)) h s (by_found (class_numbered decl h.core.heap) h s (λ class.
      took_all calls.the_argument n h s (calls.opened_on k p m n decl) (calls.opened_on k p m n decl)
      (λ args g t. took calls.the_receiver g t _ _ (λ receiver f u. opens k p m n (Some decl) receiver args f u))))

  leaves : (own : List HostFrame) (h : HostState) → At b out h → IsSound b out [] (calls.left own h) (calls.left (own ++ b.frames) (over b h))
  leaves [] h s = misused h s _
  leaves (f ∷ fs) h s = finished (record h { frames = fs }) s.grew

  pub leave_sound : (h : HostState) → At b out h → IsSound b out [] (calls.leave h) (calls.leave (over b h))
  leave_sound h s = leaves h.frames h s

  -- ---- declarations

  begins : (k : ℕ) (name : Name) (parent : Option Name) (h : HostState) → At b out h →
      IsSound b out [] (declarations.begun k name parent h) (declarations.begun k name parent (over b h))
  begins k name parent h s = by_result (begin_class name parent h.core.heap) h s (λ number.
      where_true (not (is_some (class_numbered k h.core.heap))) h s (finished (declarations.opened_class k name number h) s.grew))

  pub class_begin_sound : (k : ℕ) (h : HostState) → At b out h →
      IsSound b out [] (declarations.class_begin k h) (declarations.class_begin k (over b h))
  class_begin_sound k h s = took declarations.the_parent h s _ _ (λ parent g t. took the_text g t _ _ (λ name f u.
      where_true (not (is_some f.declaring)) f u (begins k name parent f u)))

  adds : (is_there : Bool) (c : Class) (h : HostState) → At b out h →
      IsSound b out [] (declarations.added is_there c h) (declarations.added is_there c (over b h))
  adds is_there c h s = where_true (not is_there) h s (finished (record h { declaring = Some c }) s.grew)

  members : (add : Member → Class → HostState → Replied) → ((m : Member) (c : Class) (h : HostState) → At b out h → IsSound b out [] (add m c h) (add m c (over b h))) →
      (code flags : ℕ) (h : HostState) → At b out h → IsSound b out [] (declarations.member add code flags h) (declarations.member add code flags (over b h))
  members add adds code flags h s = took the_text h s _ _ (λ name g t. by_found (declarations.flags_with flags) g t (λ fs.
      by_found g.declaring g t (λ c. adds (declarations.member_of name code fs) c g t)))

  pub class_method_sound : (code flags : ℕ) (h : HostState) → At b out h →
      IsSound b out [] (declarations.class_method code flags h) (declarations.class_method code flags (over b h))
  class_method_sound code flags h s = members declarations.add_method
      (λ m c g t. adds (declarations.is_in_any_case m.name c.methods) (record c { methods = c.methods ++ m ∷ [] }) g t) code flags h s

  pub class_prop_sound : (code flags : ℕ) (h : HostState) → At b out h →
      IsSound b out [] (declarations.class_prop code flags h) (declarations.class_prop code flags (over b h))
  class_prop_sound code flags h s = members declarations.add_property
      (λ m c g t. adds (declarations.is_in m.name c.properties) (record c { properties = c.properties ++ m ∷ [] }) g t) code flags h s

  pub class_const_sound : (code : ℕ) (h : HostState) → At b out h →
      IsSound b out [] (declarations.class_const code h) (declarations.class_const code (over b h))
  class_const_sound code h s = members declarations.add_constant
      (λ m c g t. adds (declarations.is_in m.name c.constants) (record c { constants = c.constants ++ m ∷ [] }) g t) code 4 h s

  pub class_end_sound : (code : ℕ) (h : HostState) → At b out h → IsSound b out [] (declarations.class_end code h) (declarations.class_end code (over b h))
  class_end_sound code h s = by_found h.declaring h s (λ c. finished (declarations.declare c code h) s.grew)

  -- ---- class items

  pub class_known_sound : (h : HostState) → At b out h → IsSound b out word (classes.class_known h) (classes.class_known (over b h))
  class_known_sound h s = took the_text h s _ _ (λ name g t. truly (is_some (class_named name g.core.heap)) g t.grew)

  pub class_sound : (h : HostState) → At b out h → IsSound b out [] (classes.class h) (classes.class (over b h))
  class_sound h s = took the_text h s _ _ (λ name g t. by_result (class_in name g.core.heap) g t (λ c. finished (push_item (class_item c) g) t.grew))

  pub class_decl_sound : (k : ℕ) (h : HostState) → At b out h → IsSound b out [] (classes.class_decl k h) (classes.class_decl k (over b h))
  class_decl_sound k h s = by_found (class_numbered k h.core.heap) h s (λ c. finished (push_item (class_item k) h) s.grew)

  pub class_parent_sound : (k : ℕ) (h : HostState) → At b out h → IsSound b out [] (classes.class_parent k h) (classes.class_parent k (over b h))
  class_parent_sound k h s = by_found (class_numbered k h.core.heap) h s (λ (c : Class). by_found c.parent h s (λ p. finished (push_item (class_item p) h) s.grew))

  pub class_static_sound : (h : HostState) → At b out h → IsSound b out [] (classes.class_static h) (classes.class_static (over b h))
  class_static_sound h s = by_late h s _ _ (λ late. by_found late h s (λ c. finished (push_item (class_item c) h) s.grew))

  -- ---- `new`

  pub class_new_sound : (h : HostState) → At b out h → IsSound b out word (classes.class_new h) (classes.class_new (over b h))
  class_new_sound h s = took the_class h s _ _ (λ number g t. codes (classes.initials_of g.core.heap number) (push_item (in_making number []) g) t)

  pub parent_init_sound : (k : ℕ) (h : HostState) → At b out h → IsSound b out word (classes.parent_init k h) (classes.parent_init k (over b h))
  parent_init_sound k h s = by_found (class_numbered k h.core.heap) h s (λ (c : Class).
      codes (option_map_or (classes.initials_of h.core.heap) c.parent 0) h s)

  pub prop_init_sound : (h : HostState) → At b out h → IsSound b out [] (classes.prop_init h) (classes.prop_init (over b h))
  prop_init_sound h s = took the_value h s _ _ (λ v g t. took the_text g t _ _ (λ name f u. took the_making f u _ _ (λ m e r.
      where_true (is_some (property_of e.core.heap m.class name)) e r (finished (push_item (in_making m.class (with_named m.properties name v)) e) r.grew))))

  calls_of : (c : Called) (h : HostState) → At b out h → IsSound b out word (classes.called c h) (classes.called c (over b h))
  calls_of c h s = codes c.code (push_item (classes.self_item c.receiver) h) s

  constructs : (object : ℕ) (c : Option Called) (h : HostState) → At b out h →
      IsSound b out word (classes.constructed object c h) (classes.constructed object c (over b h))
  constructs object None h s = gives_small 0 (push (Obj object) h) (omega arith) s.grew
  constructs object (Some c) h s = calls_of c h s

  pub ctor_sound : (h : HostState) → At b out h → IsSound b out word (classes.ctor h) (classes.ctor (over b h))
  ctor_sound h s = took the_making h s _ _ (λ m g t. by_class g t _ _ (λ within.
      by_result (constructor_for within (next_object g.core.heap) m.class (object_in m.class m.properties g.core.heap)) g t (λ c.
      constructs (next_object g.core.heap) c (classes.made m g) t)))

  -- ---- methods, constants, static properties, instanceof

  pub method_sound : (h : HostState) → At b out h → IsSound b out word (classes.method h) (classes.method (over b h))
  method_sound h s = took the_text h s _ _ (λ name g t. took the_value g t _ _ (λ v f u. by_class f u _ _ (λ within.
      by_result (method_on within v name f.core.heap) f u (λ c. calls_of c f u))))

  pub smethod_sound : (fwd : ℕ) (h : HostState) → At b out h → IsSound b out word (classes.smethod fwd h) (classes.smethod fwd (over b h))
  smethod_sound fwd h s = took the_text h s _ _ (λ name g t. took the_class g t _ _ (λ class f u. by_class f u _ _ (λ within.
      by_late f u _ _ (λ passed. by_this f u _ _ (λ this. by_found (classes.late_for fwd class passed) f u (λ late.
      by_result (method_by within this class late name f.core.heap) f u (λ c. calls_of c f u)))))))

  pub const_find_sound : (h : HostState) → At b out h → IsSound b out word (classes.const_find h) (classes.const_find (over b h))
  const_find_sound h s = took the_text h s _ _ (λ name g t. took the_class g t _ _ (λ class f u.
      by_result (constant_for class name f.core.heap) f u (λ (d : Declared). codes d.member.code f u)))

  pushes : (d : Declared) (name : Name) (h : HostState) → At b out h →
      IsSound b out word (classes.pushed_static d name h) (classes.pushed_static d name (over b h))
  pushes d name h s = codes (initial_due (placed_static d.class name h.core.places) d.member.code h.core.places)
      (push_item (a_place (placed_static d.class name h.core.places)) h) s

  pub sprop_sound : (h : HostState) → At b out h → IsSound b out word (classes.sprop h) (classes.sprop (over b h))
  sprop_sound h s = took the_text h s _ _ (λ name g t. took the_class g t _ _ (λ class f u. by_class f u _ _ (λ within.
      by_result (static_property_for within class name f.core.heap) f u (λ (d : Declared).
      pushes d name (with_places (place_static d.class name) f) u))))

  pub loc_init_sound : (h : HostState) → At b out h → IsSound b out [] (classes.loc_init h) (classes.loc_init (over b h))
  loc_init_sound h s = took the_value h s _ _ (λ v g t. took the_place g t _ _ (λ l f u. finished (push_item (a_place l) (with_places (write_at l v) f)) u.grew))

  pub instance_sound : (h : HostState) → At b out h → IsSound b out [] (classes.instance h) (classes.instance (over b h))
  instance_sound h s = took (classes.class_meant h.core.heap) h s _ _ (λ class g t. took the_value g t _ _ (λ v f u.
      finished (push (Boolean (is_instance f.core.heap v class)) f) u.grew))
