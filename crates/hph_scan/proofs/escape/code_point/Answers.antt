use Rattle.std.proofs.Common.{length, ap, arith}
use Rattle.std.specs.List.{between}
use Rattle.hph_ast.specs.Strings.{is_hex}
use Rattle.hph_scan.proofs.Runs.{length-front-behind}
use Rattle.hph_scan.proofs.escape.code_point.Goals as goal

pub returns-in-125-clause-within : goal.returns-in-125-clause-within
returns-in-125-clause-within c =
    let rest = between 1 (length c.args.bytes.now) c.args.bytes.now in
    let digits = ap length c.front-digits.ensures.front in
    let behind = ap length c.behind.ensures.behind in
    let all = length-front-behind is_hex rest in
    omega (arith, digits, behind, all, c.in-125.len_at_least)
