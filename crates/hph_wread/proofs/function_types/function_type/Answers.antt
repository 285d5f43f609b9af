use Rattle.hph_wread.proofs.Combinators.{took_then, handed_on}
use Rattle.hph_wread.proofs.FunctionTypes.{function_type_byte, function_type_params, function_type_results}
use Rattle.hph_wread.proofs.function_types.function_type.Goals as goal

pub returns-in_err-behind-clause-stopped : goal.returns-in_err-behind-clause-stopped
returns-in_err-behind-clause-stopped c =
    let e = c.in_err-behind.field-0.0 in
    handed_on _ c.from_residual.result e c.from_residual.ensures.1 (function_type_byte e c.in_err-behind.ensures.stopped)

pub returns-in_err-params-clause-stopped : goal.returns-in_err-params-clause-stopped
returns-in_err-params-clause-stopped c =
    let e = c.in_err-params.field-0.0 in
    handed_on _ c.from_residual-in_err-params.result e c.from_residual-in_err-params.ensures.1 (function_type_params c.in_ok-behind.ensures.read e c.in_err-params.ensures.stopped)

pub returns-in_err-results-clause-stopped : goal.returns-in_err-results-clause-stopped
returns-in_err-results-clause-stopped c =
    let e = c.in_err-results.field-0.0 in
    let law = c.types_are_read_in_one_way.ensures in
    handed_on _ c.from_residual-in_err-results.result e c.from_residual-in_err-results.ensures.1
    (function_type_results (law.unsigned 32) law.value_types c.parts_stop_in_one_place.ensures.value_types c.in_ok-behind.ensures.read c.in_ok-params.params c.in_ok-params.ensures.fit c.in_ok-params.ensures.read e c.in_err-results.ensures.stopped)

pub returns-clause-read : goal.returns-clause-read
returns-clause-read c = took_then c.in_ok-behind.ensures.read (took_then c.in_ok-params.ensures.read c.in_ok-results.ensures.read)
