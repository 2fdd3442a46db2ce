use Rattle.std.proofs.Common.{◌++◌, sym, ap, subst}
use Rattle.vs_grammar.specs.Trees as tree
use Rattle.vs_elaborated.specs.Surveys.{ports_said}
use Rattle.vs_scope.specs.Contents.{contents_header}
use Rattle.vs_items.specs.Counts.{IsCounted}
use Rattle.vs_items.proofs.CountSteps.{counted_nothing}
use Rattle.vs_items.proofs.counts.count_header.Goals as goal

pub returns-in-Module-clause-counted : goal.returns-in-Module-clause-counted
returns-in-Module-clause-counted c = λ env before ps h.
    subst (λ (x : tree.Header). IsCounted c.count_values.new.count before (ps ++ (ports_said env x).pieces)) (sym (ap contents_header c.in-Module.is)) (c.count_values.ensures.counted env before ps h)

pub returns-in-Block-clause-counted : goal.returns-in-Block-clause-counted
returns-in-Block-clause-counted c = λ env before ps h.
    subst (λ (x : tree.Header). IsCounted c.args.count.now before (ps ++ (ports_said env x).pieces)) (sym (ap contents_header c.in-Block.is)) (counted_nothing c.args.count.now before ps h)
