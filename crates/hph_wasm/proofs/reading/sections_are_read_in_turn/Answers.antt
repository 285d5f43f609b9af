use Rattle.hph_wasm.proofs.SectionsInTurn.{reading_goes_on, reading_ends, reading_lacks_code, reading_stops, reading_fails, header_lacks}
use Rattle.hph_wasm.proofs.reading.sections_are_read_in_turn.Goals as goal

pub returns-clause-goes_on : goal.returns-clause-goes_on
returns-clause-goes_on c = reading_goes_on

pub returns-clause-ends : goal.returns-clause-ends
returns-clause-ends c = reading_ends

pub returns-clause-lacks_code : goal.returns-clause-lacks_code
returns-clause-lacks_code c = reading_lacks_code

pub returns-clause-stops : goal.returns-clause-stops
returns-clause-stops c = reading_stops

pub returns-clause-fails : goal.returns-clause-fails
returns-clause-fails c = reading_fails

pub returns-clause-no_header : goal.returns-clause-no_header
returns-clause-no_header c = header_lacks
