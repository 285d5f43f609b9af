-- Rows of classes, objects, methods, constants and static properties.
use Rattle.std.specs.Prelude.{ℕ, zero, suc, [], Option, None, Some, is_some}
use Rattle.std.specs.Option.{option_map_or}
use Rattle.hph_php.specs.Values.{Boolean, Str, Obj}
use Rattle.hph_php.specs.State.{Heap, Class, Name, with_named, class_named, class_numbered, next_object, object_in, write_at, place_static, placed_static, initial_due}
use Rattle.hph_php.specs.Members.{Declared, property_of, constant_for, static_property_for}
use Rattle.hph_php.specs.World.{Receiver, no_receiver, a_class, an_object}
use Rattle.hph_php.specs.Classes.{number_of_class, class_in, is_instance, Called, method_on, method_by, constructor_for}
use Rattle.hph_effects.specs.Hosts.{Item, a_value, a_place, class_item, in_making, Making, HostState, Replied, done, gives, gives_truth, gives_code, with_heap, with_places, push, push_item, on_ok, found, only_if, popped, popped_as, popped_text, the_place, the_class, the_making}
use Rattle.hph_effects.specs.Slots as slots

-- ---- class items

abbrev pub class_known : HostState → Replied
class_known h = popped_text h (λ name h. gives_truth (is_some (class_named name h.core.heap)) h)

abbrev pub class : HostState → Replied
class h = popped_text h (λ name h. on_ok (class_in name h.core.heap) h (λ c. done (push_item (class_item c) h)))

abbrev pub class_decl : ℕ → HostState → Replied
class_decl k h = found (class_numbered k h.core.heap) h (λ c. done (push_item (class_item k) h))

abbrev pub class_parent : ℕ → HostState → Replied
class_parent k h = found (class_numbered k h.core.heap) h (λ (c : Class).
    found c.parent h (λ p. done (push_item (class_item p) h)))

abbrev pub class_static : HostState → Replied
class_static h = slots.in_late_class h (λ late. found late h (λ c. done (push_item (class_item c) h)))

-- ---- `new`

-- the code of a class's initial values, or 0
abbrev pub initials_of : Heap → ℕ → ℕ
initials_of heap number = option_map_or (λ (c : Class). c.initial) (class_numbered number heap) 0

abbrev pub class_new : HostState → Replied
class_new h = popped_as the_class h (λ number h. gives_code (initials_of h.core.heap number) (push_item (in_making number []) h))

abbrev pub parent_init : ℕ → HostState → Replied
parent_init k h = found (class_numbered k h.core.heap) h (λ (c : Class).
    gives_code (option_map_or (initials_of h.core.heap) c.parent 0) h)

abbrev pub prop_init : HostState → Replied
prop_init h = popped h (λ v h. popped_text h (λ name h. popped_as the_making h (λ (m : Making) h.
    only_if (is_some (property_of h.core.heap m.class name)) h
    (done (push_item (in_making m.class (with_named m.properties name v)) h)))))

-- what code is called on, as an item
abbrev pub self_item : Receiver → Item
self_item no_receiver = class_item 0
self_item (a_class class) = class_item class
self_item (an_object object) = a_value (Obj object)

-- the code that is called, which finds on the stack what it is called on
abbrev pub called : Called → HostState → Replied
called c h = gives_code c.code (push_item (self_item c.receiver) h)

abbrev pub constructed : ℕ → Option Called → HostState → Replied
constructed object None h = gives 0 (push (Obj object) h)
constructed object (Some c) h = called c h

-- an object of the state with all its initial values at once
abbrev pub made : Making → HostState → HostState
made m h = push (Obj (next_object h.core.heap)) (with_heap (object_in m.class m.properties) h)

abbrev pub ctor : HostState → Replied
ctor h = popped_as the_making h (λ m h. slots.in_class h (λ within.
    on_ok (constructor_for within (next_object h.core.heap) m.class (object_in m.class m.properties h.core.heap)) h (λ c.
    constructed (next_object h.core.heap) c (made m h))))

-- ---- methods

abbrev pub method : HostState → Replied
method h = popped_text h (λ name h. popped h (λ v h. slots.in_class h (λ within.
    on_ok (method_on within v name h.core.heap) h (λ c. called c h))))

-- the late static class of a call by a class: that of the frame where it is passed on
abbrev pub late_for : ℕ → ℕ → Option ℕ → Option ℕ
late_for zero class late = Some class
late_for (suc zero) class late = late
late_for (suc (suc n)) class late = None

abbrev pub smethod : ℕ → HostState → Replied
smethod fwd h = popped_text h (λ name h. popped_as the_class h (λ class h. slots.in_class h (λ within.
    slots.in_late_class h (λ passed. slots.on_this h (λ this. found (late_for fwd class passed) h (λ late.
    on_ok (method_by within this class late name h.core.heap) h (λ c. called c h)))))))

-- ---- constants and static properties

abbrev pub const_find : HostState → Replied
const_find h = popped_text h (λ name h. popped_as the_class h (λ class h.
    on_ok (constant_for class name h.core.heap) h (λ (d : Declared). gives_code d.member.code h)))

-- the location of a static property, and the code that is still to be run for its value
abbrev pub push_static : Declared → ℕ → HostState → Replied
push_static d location h = gives_code (initial_due location d.member.code h.core.places) (push_item (a_place location) h)

abbrev pub pushed_static : Declared → Name → HostState → Replied
pushed_static d name h = push_static d (placed_static d.class name h.core.places) h

abbrev pub sprop : HostState → Replied
sprop h = popped_text h (λ name h. popped_as the_class h (λ class h. slots.in_class h (λ within.
    on_ok (static_property_for within class name h.core.heap) h (λ (d : Declared).
    pushed_static d name (with_places (place_static d.class name) h)))))

abbrev pub loc_init : HostState → Replied
loc_init h = popped h (λ v h. popped_as the_place h (λ l h. done (push_item (a_place l) (with_places (write_at l v) h))))

-- ---- instanceof

-- a class item, or a name, of a class that may not be declared
abbrev pub class_meant : Heap → Item → Option (Option ℕ)
class_meant heap (class_item class) = Some (Some class)
class_meant heap (a_value (Str name)) = Some (number_of_class (class_named name heap))
class_meant heap _ = None

abbrev pub instance : HostState → Replied
instance h = popped_as (class_meant h.core.heap) h (λ class h. popped h (λ v h.
    done (push (Boolean (is_instance h.core.heap v class)) h)))
