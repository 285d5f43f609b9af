use Rattle.std.proofs.Common.{◌≡◌, ◌<◌, ◌^◌, true, drop, fold}
use Rattle.std.specs.List.{list_all}
use Rattle.hph_ast.specs.Bytes.{is_digit}
use Rattle.hph_ast.specs.Strings.{value_of}
use Rattle.hph_lex.proofs.DecimalLaws.{with_digit}
use Rattle.hph_lex.proofs.key.decimal.Given as goal

abbrev pub invariant-loop-digit : goal.invariant-loop-digit
invariant-loop-digit l = record {
  rest : fold with_digit l.value (drop l.digit-index l.digits) ≡ value_of 10 l.digits;
  digits : list_all is_digit (drop l.digit-index l.digits) ≡ true;
  small : l.value < 2 ^ 63;
}
