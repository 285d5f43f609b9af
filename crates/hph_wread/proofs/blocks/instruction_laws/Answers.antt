use Rattle.hph_wread.proofs.blocks.instruction_laws.Goals as goal

pub returns : goal.returns
returns c =
    let instructions = c.instructions_are_read_in_one_way.ensures in
    let stops = c.parts_stop_in_one_place.ensures in
    record {
      apart = c.opcodes_are_the_tables.ensures.apart;
      types = c.types_are_read_in_one_way.ensures.result_types;
      instructions = instructions.instructions;
      alike = instructions.sequences;
      once = stops.sequences;
      clear = stops.closed_sequences;
      whole = stops.instructions;
    }
