use Rattle.std.proofs.Common.{ap, ◌∙◌}
use Rattle.std.specs.List.{list_all}
use Rattle.vs_four.specs.declared.Bit4.TheVariants.{X}
use Rattle.vs_design.specs.Sets.{only, is_only_x}
use Rattle.vs_design.specs.LiftedBodies.{lifted_body}
use Rattle.vs_design.specs.Sleepers.{at_once}
use Rattle.vs_sets.specs.Branches.{replaced}
use Rattle.vs_sets.specs.StatementParts.{statement_of}
use Rattle.vs_sets.specs.Tables.{family_of}
use Rattle.vs_sets.proofs.Running.{x_elsewhere, x_of_all}
use Rattle.vs_sets.proofs.quiet.leaves_x.Goals as goal

pub returns-clause-stays : goal.returns-clause-stays
returns-clause-stays c =
    let s = statement_of c.args.shapes.now c.args.s in
    let ran = c.in_ok-run.ensures ∙ ap (lifted_body (at_once s)) c.requires.unknown in
    c.are_only_x-unknown.ensures ∙ ap (λ f. list_all (λ b. is_only_x (f b)) c.args.bits.now) ran ∙ x_of_all c.args.bits.now s c.requires.covers

pub returns-clause-after : goal.returns-clause-after
returns-clause-after c =
    let s = statement_of c.args.shapes.now c.args.s in
    let ran = c.in_ok-run.ensures ∙ ap (lifted_body (at_once s)) c.requires.unknown in
    c.fill.ensures ∙ ap (λ x. replaced c.args.bits.now (λ b. x) (family_of c.run.new.table)) c.only.ensures ∙ ap (replaced c.args.bits.now (λ b. only X)) ran ∙ x_elsewhere c.args.bits.now s c.requires.covers
