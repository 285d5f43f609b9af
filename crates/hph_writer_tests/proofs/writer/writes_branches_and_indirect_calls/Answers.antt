use Rattle.hph_wasm.specs.Leb128.{shortest_unsigned, shortest_signed}
use Rattle.hph_wasm.specs.Spelling.{spelling}
use Rattle.hph_wasm.specs.declared.instr.Instr.TheBlock as block
use Rattle.hph_writer_tests.specs.Modules.{branches}
use Rattle.hph_writer_tests.proofs.Spellings.{branches_spell}
use Rattle.hph_writer_tests.proofs.writer.writes_branches_and_indirect_calls.Goals as goal

pub is_written-requires : goal.is_written-requires
unfolding spelling shortest_unsigned shortest_signed block.hidden-the_row-Instr-0 denote.Hole.Carrier.hidden
is_written-requires g c = (branches, branches_spell)
