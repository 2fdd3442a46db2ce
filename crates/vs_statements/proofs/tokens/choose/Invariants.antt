use Rattle.std.proofs.Common.{◌≡◌, drop}
use Rattle.vs_grammar.specs.Predictive.{is_member}
use Rattle.vs_statements.specs.Reading.{kind_at, kinds_in, AllBeside}
use Rattle.vs_statements.proofs.tokens.choose.Given as goal

abbrev pub invariant-loop-kind : goal.invariant-loop-kind
invariant-loop-kind g l = record {
  same : is_member (kind_at l.input.tokens.now l.at) (kinds_in l.table) ≡ is_member (kind_at l.input.tokens.now l.at) (kinds_in (drop l.kind-index l.table));
  beside : AllBeside (kind_at l.input.tokens.now l.at) (drop l.kind-index l.table) l.table;
}
