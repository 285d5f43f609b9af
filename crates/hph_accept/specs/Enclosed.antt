-- Where a node stands, as the rules see it.
use Rattle.std.specs.Prelude.{ℕ, suc}
use Rattle.hph_ast.specs.RefusedExpressions as refused
use Rattle.hph_accept.specs.declared.enclosing.Enclosing.{Enclosing, Nothing, Within'}
use Rattle.hph_accept.specs.declared.context.Context.{Context}

-- how many loops and switches are round it
abbrev pub count : Enclosing → ℕ
count Nothing = 0
count (Within' p outer) = suc (count outer)

abbrev pub seen : Context → refused.Context
seen c = record {
  in_function = c.in_function;
  has_this = c.has_this;
  in_class = c.in_class;
  has_parent = c.has_parent;
  in_include = c.in_include;
  loops = count c.loops;
}
