use Rattle.std.proofs.Common.{◌≡◌, drop}
use Rattle.hph_wvalid.specs.Outside.{every, is_element}
use Rattle.hph_wvalid.proofs.outside.are_elements.Given as goal

abbrev pub invariant-loop-element : goal.invariant-loop-element
invariant-loop-element l = every (is_element l.spaces) (drop l.element-index l.elements) ≡ every (is_element l.spaces) l.elements
