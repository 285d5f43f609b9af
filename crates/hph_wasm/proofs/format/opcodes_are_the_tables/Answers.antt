use Rattle.hph_wasm.proofs.Forms.{tag_of, tag_of_else, tag_of_end, only_codes, same_form}
use Rattle.hph_wasm.proofs.format.opcodes_are_the_tables.Goals as goal

pub returns-clause-tags : goal.returns-clause-tags
returns-clause-tags c = tag_of

pub returns-clause-of_else : goal.returns-clause-of_else
returns-clause-of_else c = tag_of_else

pub returns-clause-of_end : goal.returns-clause-of_end
returns-clause-of_end c = tag_of_end

pub returns-clause-only : goal.returns-clause-only
returns-clause-only c = only_codes

pub returns-clause-apart : goal.returns-clause-apart
returns-clause-apart c = same_form
