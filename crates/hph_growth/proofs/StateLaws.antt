-- What keeps that which was printed and called.
use Rattle.std.proofs.Common.{◌≡◌, [], refl, sym, ◌∙◌}
use Rattle.std.proofs.lemmas.List.{append-nil}
use Rattle.std.specs.Prelude.{Bool, true, false, Option, None, Some, Result}
use Rattle.hph_array.specs.declared.key.Key.{Key}
use Rattle.hph_php.specs.declared.fatal.Fatal.{Fatal}
use Rattle.hph_php.specs.Values.{Value}
use Rattle.hph_php.specs.State.{State, Heap, Places, Variables, Located, Name, on_located}
use Rattle.hph_php.specs.Statements.{set_element, global_variable}
use Rattle.hph_php.specs.Answers.{change, change_heap, change_places, remake_heap}
use Rattle.hph_growth.specs.Growth.{Before, Grows}
use Rattle.hph_growth.proofs.GrowthLaws.{change_grows, bind_grows, heap_grows}

-- states of which the same was printed and called
pub record Same (a b : State) : Type 0 where
  pub out : b.core.out ≡ a.core.out
  pub called : b.called ≡ a.called

pub same_itself : (st : State) → Same st st
same_itself st = record { out = refl; called = refl }

pub before_same : {a b : State} → Same a b → Before a b
before_same {a} {b} p = record { out = ([], p.out ∙ sym (append-nil a.core.out)); called = ([], p.called ∙ sym (append-nil a.called)) }

pub same_grows : (f : State → State) → ((st : State) → Same st (f st)) → Grows (change f) (change f)
same_grows f p = change_grows f (λ st. before_same (p st))

-- what changes variables, places or the heap prints nothing, by computation

pub located_grows : (f : Located Variables → Located Variables) → Grows (change (on_located f)) (change (on_located f))
located_grows f = same_grows (on_located f) (λ st. record { out = refl; called = refl })

pub change_heap_grows : (f : Heap → Heap) → Grows (change_heap f) (change_heap f)
change_heap_grows f = same_grows _ (λ st. record { out = refl; called = refl })

pub change_places_grows : (f : Places → Places) → Grows (change_places f) (change_places f)
change_places_grows f = same_grows _ (λ st. record { out = refl; called = refl })

pub remake_heap_grows : (rule : Heap → Result Heap Fatal) → Grows (remake_heap rule) (remake_heap rule)
remake_heap_grows rule = bind_grows (heap_grows rule) (λ heap. change_heap_grows (λ _. heap))

pub set_element_same : (key : Option Name) (name : Name) (p : Key × Value) (st : State) → Same st (set_element key name p st)
set_element_same None name p st = record { out = refl; called = refl }
set_element_same (Some key) name p st = record { out = refl; called = refl }

pub global_variable_same : (b : Bool) (name : Name) (st : State) → Same st (global_variable b name st)
global_variable_same false name st = same_itself st
global_variable_same true name st = record { out = refl; called = refl }
