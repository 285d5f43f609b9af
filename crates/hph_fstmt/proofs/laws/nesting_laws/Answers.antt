use Rattle.hph_fstmt.proofs.laws.nesting_laws.Goals as goal

pub returns : goal.returns
returns c = record {
  empty = c.nesting_of_statements.ensures.empty;
  inline_text = c.nesting_of_statements.ensures.inline_text;
  block = c.nesting_of_statements.ensures.block;
  expression = c.nesting_of_statements.ensures.expression;
  of_function = c.nesting_of_statements.ensures.function;
  of_class = c.nesting_of_statements.ensures.class;
  if_statement = c.nesting_of_statements.ensures.if_statement;
  while_loop = c.nesting_of_statements.ensures.while_loop;
  do_while_loop = c.nesting_of_statements.ensures.do_while_loop;
  for_loop = c.nesting_of_statements.ensures.for_loop;
  foreach_loop = c.nesting_of_statements.ensures.foreach_loop;
  switch_statement = c.nesting_of_statements.ensures.switch_statement;
  break_statement = c.nesting_of_statements.ensures.break_statement;
  continue_statement = c.nesting_of_statements.ensures.continue_statement;
  return_statement = c.nesting_of_statements.ensures.return_statement;
  echo = c.nesting_of_statements.ensures.echo;
  global = c.nesting_of_statements.ensures.global;
  static_variables = c.nesting_of_statements.ensures.static_variables;
  unset = c.nesting_of_statements.ensures.unset;
  constants = c.nesting_of_statements.ensures.constants;
  class_constants = c.nesting_of_members.ensures.constants;
  properties = c.nesting_of_members.ensures.properties;
  method = c.nesting_of_members.ensures.method;
  function = c.nesting_of_declarations.ensures.function;
  class = c.nesting_of_declarations.ensures.class;
  case = c.nesting_of_declarations.ensures.case;
  else_if = c.nesting_of_declarations.ensures.else_if;
}
