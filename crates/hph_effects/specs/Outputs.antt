-- Rows that print or end the run, and those of the program's constants and files.
use Rattle.std.specs.Prelude.{ℕ, List, not}
use Rattle.hph_php.specs.Codes.{fatal_with}
use Rattle.hph_php.specs.Conversions.{to_text}
use Rattle.hph_php.specs.State.{is_entered, enter, with_constant}
use Rattle.hph_php.specs.Answers.{Exits}
use Rattle.hph_php.specs.Operations.{exit_of, constant_in}
use Rattle.hph_effects.specs.Hosts.{HostState, Replied, stops, fails, done, gives_truth, with_heap, print, on_ok, settled, found, popped, popped_text}

abbrev pub write : List ℕ → HostState → Replied
write bytes h = done (print bytes h)

abbrev pub echo : HostState → Replied
echo h = popped h (λ v h. on_ok (to_text v) h (λ text. done (print text h)))

abbrev pub exit : HostState → Replied
exit h = popped h (λ v h. on_ok (exit_of v) h (λ e. stops (Exits e.1) (print e.0 h)))

abbrev pub fatal : ℕ → HostState → Replied
fatal code h = found (fatal_with code) h (λ kind. fails kind h)

abbrev pub const_set : HostState → Replied
const_set h = popped h (λ v h. popped_text h (λ name h. done (with_heap (with_constant name v) h)))

abbrev pub const_get : HostState → Replied
const_get h = popped_text h (λ name h. settled (constant_in name h.core.heap) h)

-- 1 if the file wasn't entered before
abbrev pub once : ℕ → HostState → Replied
once file h = gives_truth (not (is_entered file h.core.heap)) (with_heap (enter file) h)
