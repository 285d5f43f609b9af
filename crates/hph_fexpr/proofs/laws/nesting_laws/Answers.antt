use Rattle.hph_fexpr.proofs.laws.nesting_laws.Goals as goal

pub returns : goal.returns
returns c = record {
  int = c.nesting_of_expressions.ensures.int;
  text = c.nesting_of_expressions.ensures.text;
  interpolated = c.nesting_of_expressions.ensures.interpolated;
  variable = c.nesting_of_expressions.ensures.variable;
  constant = c.nesting_of_expressions.ensures.constant;
  directory = c.nesting_of_expressions.ensures.directory;
  array = c.nesting_of_expressions.ensures.array;
  call = c.nesting_of_expressions.ensures.call;
  dynamic_call = c.nesting_of_expressions.ensures.dynamic_call;
  static_call = c.nesting_of_expressions.ensures.static_call;
  method_call = c.nesting_of_expressions.ensures.method_call;
  new = c.nesting_of_expressions.ensures.new;
  class_constant = c.nesting_of_expressions.ensures.class_constant;
  class_name = c.nesting_of_expressions.ensures.class_name;
  static_property = c.nesting_of_expressions.ensures.static_property;
  paren = c.nesting_of_expressions.ensures.paren;
  isset = c.nesting_of_expressions.ensures.isset;
  empty = c.nesting_of_expressions.ensures.empty;
  exit = c.nesting_of_expressions.ensures.exit;
  exit_with = c.nesting_of_expressions.ensures.exit_with;
  path = c.nesting_of_expressions.ensures.path;
  update = c.nesting_of_expressions.ensures.update;
  prefix = c.nesting_of_expressions.ensures.prefix;
  instance_of = c.nesting_of_expressions.ensures.instance_of;
  run = c.nesting_of_expressions.ensures.run;
  pair = c.nesting_of_expressions.ensures.pair;
  ternary = c.nesting_of_expressions.ensures.ternary;
  short_ternary = c.nesting_of_expressions.ensures.short_ternary;
  assign = c.nesting_of_expressions.ensures.assign;
  assign_reference = c.nesting_of_expressions.ensures.assign_reference;
  destructure = c.nesting_of_expressions.ensures.destructure;
  named_argument = c.nesting_of_expressions.ensures.named_argument;
  class_by_expression = c.nesting_of_classes.ensures.by_expression;
  item_plain = c.nesting_of_items.ensures.plain;
  item_keyed = c.nesting_of_items.ensures.keyed;
  item_reference = c.nesting_of_items.ensures.reference;
  item_keyed_reference = c.nesting_of_items.ensures.keyed_reference;
  member_computed = c.nesting_of_parts.ensures.computed;
  step_index = c.nesting_of_parts.ensures.index;
  step_property = c.nesting_of_parts.ensures.property;
  part_interpolation = c.nesting_of_parts.ensures.interpolation;
}
