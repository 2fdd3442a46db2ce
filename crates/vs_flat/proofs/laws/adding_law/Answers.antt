use Rattle.vs_flat.proofs.Earlier.{names_empty, names_with_scope, names_with_signal, names_with_process, names_with_node, names_with_statement, names_with_function, names_with_body, names_with_initial}
use Rattle.vs_flat.proofs.Growing.{trees_with_signal, statements_with_signal, trees_with_node, statements_with_node, trees_with_statement, statements_with_statement, trees_with_function, statements_with_function, trees_with_body, statements_with_body, function_added, body_added, scope_added, signal_added, process_added, initial_added, node_added, statement_added}
use Rattle.vs_flat.proofs.laws.adding_law.Goals as goal

pub returns : goal.returns
returns c = record {
  names = (names_empty, names_with_scope, names_with_signal, names_with_process, names_with_node, names_with_statement, names_with_function, names_with_body, names_with_initial);
  trees = (trees_with_signal, statements_with_signal, trees_with_node, statements_with_node, trees_with_statement, trees_with_function, statements_with_function, trees_with_body, statements_with_body, statements_with_statement);
  scope = scope_added;
  signal = signal_added;
  process = process_added;
  initial = initial_added;
  expression = node_added;
  statement = statement_added;
  function = function_added;
  body = body_added;
}
