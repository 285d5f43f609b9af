use Rattle.hph_wasm.specs.Leb128.{shortest_unsigned, shortest_signed}
use Rattle.hph_wasm.specs.Spelling.{spelling}
use Rattle.hph_wasm.specs.declared.instr.Instr.TheBlock as block
use Rattle.hph_writer_tests.specs.Modules.{accesses}
use Rattle.hph_writer_tests.proofs.Spellings.{accesses_spell}
use Rattle.hph_writer_tests.proofs.writer.writes_variables_and_accesses_to_memory.Goals as goal

pub is_written-requires : goal.is_written-requires
unfolding spelling shortest_unsigned shortest_signed block.hidden-the_row-Instr-0 denote.Hole.Carrier.hidden
is_written-requires g c = (accesses, accesses_spell)
