use Rattle.vs_lower.proofs.Accepting.{kind_names}
use Rattle.vs_lower.proofs.lowered.kind_at.Goals as goal

pub returns-clause-names : goal.returns-clause-names
returns-clause-names c =
    kind_names c.names_law.ensures.processes c.lawful_law.ensures.assign_targets c.args.templates.now.arena c.flat.ensures.lawful c.args.p c.process.result.now (rw c.flat.ensures.same at c.process.ensures)

pub returns-clause-is : goal.returns-clause-is
returns-clause-is c = (c.process.result.now.at, c.trees_law.ensures.processes c.args.templates.now.arena c.args.p c.process.result.now (rw c.flat.ensures.same at c.process.ensures))
