use Rattle.std.proofs.Common.{refl, arith}
use Rattle.vs_flat.specs.Lawful.{IsLawful}
use Rattle.vs_flat.specs.Example.{example_arena}
use Rattle.vs_flat.specs.BlockExample.{block_arena}
use Rattle.vs_flat.specs.FunctionExample.{function_arena}
use Rattle.vs_flat.specs.WordExample.{word_arena}
use Rattle.vs_flat.proofs.laws.example_law.Goals as goal

example_lawful : IsLawful example_arena
example_lawful = record {
  design = record { scopes = refl; numbered = refl; bits_numbered = refl; declared = refl; memories = refl; formed = refl; initials = refl; behind = refl; functions = refl; clocked_words = refl; few_bits = omega arith; few_processes = omega arith };
  few_scopes = omega arith;
  few_nodes = omega arith;
  few_statements = omega arith;
  names = record { nodes = refl; statements = refl; processes = refl; initials = refl; calls = refl; bodies = refl; matched = omega arith; rising = refl };
  few_functions = omega arith;
  complete = refl;
  locals = refl;
  expressions = refl;
  statements = refl;
  copies = refl;
  assign_targets = refl;
  statement_targets = refl;
  expressions_once = refl;
  statements_once = refl;
  node_chains = refl;
  statement_chains = refl;
}

block_lawful : IsLawful block_arena
block_lawful = record {
  design = record { scopes = refl; numbered = refl; bits_numbered = refl; declared = refl; memories = refl; formed = refl; initials = refl; behind = refl; functions = refl; clocked_words = refl; few_bits = omega arith; few_processes = omega arith };
  few_scopes = omega arith;
  few_nodes = omega arith;
  few_statements = omega arith;
  names = record { nodes = refl; statements = refl; processes = refl; initials = refl; calls = refl; bodies = refl; matched = omega arith; rising = refl };
  few_functions = omega arith;
  complete = refl;
  locals = refl;
  expressions = refl;
  statements = refl;
  copies = refl;
  assign_targets = refl;
  statement_targets = refl;
  expressions_once = refl;
  statements_once = refl;
  node_chains = refl;
  statement_chains = refl;
}

function_lawful : IsLawful function_arena
function_lawful = record {
  design = record { scopes = refl; numbered = refl; bits_numbered = refl; declared = refl; memories = refl; formed = refl; initials = refl; behind = refl; functions = refl; clocked_words = refl; few_bits = omega arith; few_processes = omega arith };
  few_scopes = omega arith;
  few_nodes = omega arith;
  few_statements = omega arith;
  names = record { nodes = refl; statements = refl; processes = refl; initials = refl; calls = refl; bodies = refl; matched = omega arith; rising = refl };
  few_functions = omega arith;
  complete = refl;
  locals = refl;
  expressions = refl;
  statements = refl;
  copies = refl;
  assign_targets = refl;
  statement_targets = refl;
  expressions_once = refl;
  statements_once = refl;
  node_chains = refl;
  statement_chains = refl;
}

word_lawful : IsLawful word_arena
word_lawful = record {
  design = record { scopes = refl; numbered = refl; bits_numbered = refl; declared = refl; memories = refl; formed = refl; initials = refl; behind = refl; functions = refl; clocked_words = refl; few_bits = omega arith; few_processes = omega arith };
  few_scopes = omega arith;
  few_nodes = omega arith;
  few_statements = omega arith;
  names = record { nodes = refl; statements = refl; processes = refl; initials = refl; calls = refl; bodies = refl; matched = omega arith; rising = refl };
  few_functions = omega arith;
  complete = refl;
  locals = refl;
  expressions = refl;
  statements = refl;
  copies = refl;
  assign_targets = refl;
  statement_targets = refl;
  expressions_once = refl;
  statements_once = refl;
  node_chains = refl;
  statement_chains = refl;
}

pub returns : goal.returns
returns c = record { designs = (refl, refl, refl, refl); lawful = (example_lawful, block_lawful, function_lawful, word_lawful) }
