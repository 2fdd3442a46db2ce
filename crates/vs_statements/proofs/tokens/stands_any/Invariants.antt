use Rattle.std.proofs.Common.{◌≡◌, drop}
use Rattle.vs_grammar.specs.Kinds.{numbers_of}
use Rattle.vs_grammar.specs.Predictive.{is_member}
use Rattle.vs_statements.specs.Reading.{kind_at}
use Rattle.vs_statements.proofs.tokens.stands_any.Given as goal

abbrev pub invariant-loop-kind : goal.invariant-loop-kind
invariant-loop-kind l = is_member (kind_at l.input.tokens.now l.at) (numbers_of l.kinds) ≡ is_member (kind_at l.input.tokens.now l.at) (numbers_of (drop l.kind-index l.kinds))
