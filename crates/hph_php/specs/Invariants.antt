-- What holds of each state of a run, and lowering takes for granted: what is declared is what the program declares, each object is
-- of a declared class, and what a frame's code is called on fits that code. This project's own.
use Rattle.std.specs.Prelude.{◌≡◌, ℕ, true, false, All, is_some, slice_get, Option, None, Some}
use Rattle.hph_ast.specs.declared.function.Function.{Function, out-Function}
use Rattle.hph_php.specs.Values.{Obj}
use Rattle.hph_php.specs.State.{Name, Object, Class, Heap, Frame, State, folded, class_of, class_numbered}
use Rattle.hph_php.specs.Members.{is_kind_of}
use Rattle.hph_php.specs.Declarations.{Codes, Code, a_body, a_value, initial_values, PlacedClass, code_numbered, declared_class}
use Rattle.hph_php.specs.Classes.{is_instance}

-- a declared function's code is the body of a function of its name
pub record IsFunctionOf (program : Codes) (declared : Name × ℕ) : Type 0 where
  pub function : Function
  pub body : code_numbered program declared.1 ≡ Some (a_body function None false)
  pub named : declared.0 ≡ folded (out-Function function).name.spelled

-- a declared class is the program's class of its number, under its parent, which is declared if it has one
pub record IsClassOf (program : Codes) (heap : Heap) (class : Class) : Type 0 where
  pub placed : PlacedClass
  pub numbered : slice_get program.classes class.number ≡ Some placed
  pub members : declared_class program class.number class.parent placed ≡ class
  pub parent : (number : ℕ) → class.parent ≡ Some number → is_some (class_numbered number heap) ≡ true

pub record IsDeclared (program : Codes) (heap : Heap) : Type 0 where
  pub functions : All (IsFunctionOf program) heap.functions
  pub classes : All (IsClassOf program heap) heap.classes
  pub objects : All (λ (o : Object). is_some (class_numbered o.class heap) ≡ true) heap.objects

-- What code is called on: an object of its class, which has the late static class, for a method; a class that is its own or has it
-- as an ancestor, for a static one; its class alone, for a constant and initial values; nothing, for a function.
abbrev pub FitsCode : Heap → Frame → Option Code → Type 0
FitsCode heap frame (Some (a_body f (Some class) false)) = (object : ℕ) × (frame.object ≡ Some object)
    × (is_instance heap (Obj object) (Some class) ≡ true) × (frame.static_class ≡ class_of heap object)
FitsCode heap frame (Some (a_body f (Some class) true)) =
    (late : ℕ) × (frame.static_class ≡ Some late) × (is_kind_of heap late class ≡ true) × (frame.object ≡ None)
FitsCode heap frame (Some (a_body f None is_static)) = (frame.static_class ≡ None) × (frame.object ≡ None)
FitsCode heap frame (Some (a_value x class)) = (frame.static_class ≡ Some class) × (frame.object ≡ None)
FitsCode heap frame (Some (initial_values properties class)) = (frame.static_class ≡ Some class) × (frame.object ≡ None)
FitsCode heap frame None = ⊥

pub record IsSound (program : Codes) (st : State) : Type 0 where
  pub declared : IsDeclared program st.core.heap
  pub frames : All (λ (f : Frame). FitsCode st.core.heap f (code_numbered program f.code)) st.frames
