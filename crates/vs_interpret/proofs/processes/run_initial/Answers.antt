use Rattle.std.proofs.Common.{ap, ◌∙◌, length}
use Rattle.vs_net.specs.Network.{Effect, write_all}
use Rattle.vs_design.specs.Bodies.{body, both_effects}
use Rattle.vs_design.specs.Designs.{Initial, bit_count}
use Rattle.vs_flat.specs.DesignOf.{design_of}
use Rattle.vs_reads.proofs.FitKinds.{initial_is}
use Rattle.vs_sets.specs.StatementParts.{statement_of}
use Rattle.vs_writes.specs.Held.{state_of}
use Rattle.vs_interpret.proofs.Wider.{wider_statement}
use Rattle.vs_interpret.proofs.processes.run_initial.Goals as goal

pub run-requires-clause-within : goal.run-requires-clause-within
run-requires-clause-within c =
    let a = c.args.shapes.now in
    wider_statement (bit_count (design_of a)) (length c.args.values.now) c.requires.values (statement_of a c.fit_initial.result.statement) c.fit_initial.ensures.within

pub returns : goal.returns
returns c =
    let a = c.args.shapes.now in
    let s = state_of c.args.values.now in
    let r = c.fit_initial.result in
    let did = c.in_ok-run.ensures.effect ∙ ap (λ (e : Effect). both_effects e (body (statement_of a r.statement) s)) c.new-done.ensures in
    record {
      effect = λ i at.
          let same = initial_is c.trees_law.ensures.initials a c.args.k r i c.fit_initial.ensures.is at in
          (ap (λ (e : Effect). e.writes) did ∙ ap (λ (x : Initial). (body x.statement s).writes) same, ap (λ (e : Effect). e.updates) did ∙ ap (λ (x : Initial). (body x.statement s).updates) same);
      state = λ i at.
          let same = initial_is c.trees_law.ensures.initials a c.args.k r i c.fit_initial.ensures.is at in
          c.in_ok-run.ensures.state ∙ ap (λ (x : Initial). write_all s (body x.statement s).writes) same;
    }
