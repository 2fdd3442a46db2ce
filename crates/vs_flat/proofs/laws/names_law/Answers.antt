use Rattle.vs_flat.specs.declared.processes.Process.{Process}
use Rattle.vs_flat.specs.declared.processes.Initial.{Initial}
use Rattle.vs_flat.specs.Named.{covers_process, covers_initial}
use Rattle.vs_flat.proofs.Earlier.{all_at}
use Rattle.vs_flat.proofs.Growing.{node_names, node_calls, statement_names}
use Rattle.vs_flat.proofs.laws.names_law.Goals as goal

pub returns : goal.returns
returns c = record {
  expressions = node_names;
  calls = node_calls;
  statements = statement_names;
  processes = λ a e n p at. all_at (λ (q : Process). covers_process a q) a.processes n p e.processes at;
  initials = λ a e k i at. all_at (λ (j : Initial). covers_initial a j) a.initials k i e.initials at;
}
