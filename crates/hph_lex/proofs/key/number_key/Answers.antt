use Rattle.std.proofs.Common.{ap, ◌∙◌}
use Rattle.std.specs.List.{list_all}
use Rattle.hph_ast.specs.Bytes.{is_digit}
use Rattle.hph_lex.proofs.DecimalLaws.{all_front}
use Rattle.hph_lex.proofs.key.number_key.Goals as goal

pub decimal-requires : goal.decimal-requires
decimal-requires c = ap (list_all is_digit) c.split.ensures.front ∙ all_front is_digit c.args.bytes.now
