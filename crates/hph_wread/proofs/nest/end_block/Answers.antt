use Rattle.std.proofs.Common.{sym, subst}
use Rattle.hph_wasm.specs.Codes.{end_code}
use Rattle.hph_wread.specs.Reading.{Took}
use Rattle.hph_wread.specs.Nesting.{Reached}
use Rattle.hph_wread.specs.declared.nest.Step.TheVariants.{Ended}
use Rattle.hph_wread.proofs.Combinators.{took_then, took_split}
use Rattle.hph_wread.proofs.Tagged.{took_byte}
use Rattle.hph_wread.proofs.NestReading.{nest_ended, finished_stays}
use Rattle.hph_wread.proofs.nest.end_block.Goals as goal

pub returns-in_ok-push_instruction-in-Some : goal.returns-in_ok-push_instruction-in-Some
returns-in_ok-push_instruction-in-Some c = λ whole bytes rest p is.
    let left = c.in-Some.ensures whole bytes p in
    let two = took_split left.2 in
    c.in_ok-push_instruction-in-Some.ensures whole left.0 rest left.1
    (c.finished.ensures.read left.0 two.mid rest two.first (took_then two.second (took_byte end_code is)))
    (finished_stays c.leave.new.nest c.in-Some.opening c.in-Some.body c.finished.result left.3 c.finished.ensures.shallow)

pub returns-in-None : goal.returns-in-None
returns-in-None c = λ whole bytes rest p is.
    subst (λ nest. Took (Reached Ended nest) whole rest) (sym c.in-None.ensures.1) (nest_ended c.args.nest.now c.in-None.ensures.0 p is)
