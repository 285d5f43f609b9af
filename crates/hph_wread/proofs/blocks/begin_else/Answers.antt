use Rattle.std.proofs.Common.{subst}
use Rattle.hph_wasm.specs.Grammar.{◌⊳◌, Each}
use Rattle.hph_wasm.specs.InstructionGrammar.{Instruction}
use Rattle.hph_wread.specs.Nesting.{Heading}
use Rattle.hph_wread.specs.Reading.{Took}
use Rattle.hph_wread.proofs.NestReading.{nest_else}
use Rattle.hph_wread.proofs.SequenceFaults.{outer_else, inner_else}
use Rattle.hph_wread.proofs.blocks.begin_else.Goals as goal

pub returns-in_default-clause-stopped : goal.returns-in_default-clause-stopped
returns-in_default-clause-stopped c = λ whole p. outer_else c.instruction_laws.ensures c.args.nest.now c.in_default.ensures.0 p c.requires

pub returns-in_default-first_branch-clause-stopped :
    goal.returns-in_default-first_branch-clause-stopped
returns-in_default-first_branch-clause-stopped c = λ whole p.
    let left = c.in-Some.ensures whole c.args.bytes.now p in
    let was = left.3 in
    inner_else c.instruction_laws.ensures c.leave.new.nest was.0 was.1 c.in-Some.opening c.in-Some.first was.2 was.3 c.in_default-first_branch.ensures left.1 left.2 c.requires

pub returns-clause-read : goal.returns-clause-read
returns-clause-read c = λ whole p.
    let left = c.in-Some.ensures whole c.args.bytes.now p in
    let branch = subst (λ o. Took (Heading o ⊳ Each Instruction c.in-Some.first) left.0 c.args.bytes.now) c.in-Some-first_branch.ensures left.2 in
    c.in_ok-begin_block.ensures whole left.0 c.args.rest.now left.1 (nest_else c.in-Some-first_branch.ty c.in-Some.first branch c.requires) (left.3.0, left.3.1, left.3.3)
