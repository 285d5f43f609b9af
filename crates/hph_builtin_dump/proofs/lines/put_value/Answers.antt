use Rattle.std.proofs.Common.{length, ap, ◌∙◌}
use Rattle.hph_value.specs.declared.value.Value as code
use Rattle.hph_value.specs.declared.value.Elements.{Elements}
use Rattle.hph_builtin_dump.proofs.Steps.{array_said}
use Rattle.hph_builtin_dump.proofs.lines.put_value.Goals as goal

pub returns-in_ok-put_line-in-Arr : goal.returns-in_ok-put_line-in-Arr
returns-in_ok-put_line-in-Arr c =
    rw c.in-Arr.is
    (array_said c.args.depth c.len-size.result c.in-Arr.elements c.as_bytes-in-Arr.result.now c.args.buffer.now.items c.put_line-in-Arr.new.buffer.items
    (c.len-size.ensures.value ∙ ap (λ (e : Elements code.Value). length e.map.pairs) c.get.ensures)
    (c.as_bytes-in-Arr.ensures.value ∙ c.format-in-Arr.ensures.text) c.in_ok-put_line-in-Arr.ensures)
