use Rattle.std.proofs.Common.{◌∙◌, subst}
use Rattle.vs_stim.specs.declared.heading.Stage.{Stage}
use Rattle.vs_stim.specs.Heading.{IsUntouched}
use Rattle.vs_stim.specs.Source.{open_at, says}
use Rattle.vs_stim.proofs.Headed.{heading_from_start}
use Rattle.vs_stim.proofs.header.read_heading.Goals as goal

pub returns-clause-says : goal.returns-clause-says
returns-clause-says g c =
    let h = c.args.heading.now in
    let u = subst (λ (s : Stage). IsUntouched s h) c.requires.stage c.requires.heading.untouched in
    λ t. c.in_ok-finish.ensures.says
    ∙ c.in_ok-last.ensures.says t
    ∙ heading_from_start c.args.ports.now c.args.heading.now (says (open_at c.args.source.now (g.D.Desk.told c.args.desk.now))) c.requires.stage u
