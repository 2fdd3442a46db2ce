use Rattle.std.proofs.Common.{ℕ, List, map, ap, ◌∙◌}
use Rattle.std.proofs.lemmas.List.{take_all}
use Rattle.vs_elaborated.specs.Declarations as spec
use Rattle.vs_scope.specs.declared.names.Declaration.{Declaration}
use Rattle.vs_maps.specs.MapViews.{pairs}
use Rattle.vs_scope.specs.Views.{declaration}
use Rattle.vs_scope.specs.Declares.{first_entry, named_list}
use Rattle.vs_scope.proofs.NamedPairs.{entries_first}
use Rattle.vs_scope.proofs.DeclaredSoFar.{declared_more}
use Rattle.vs_scope.proofs.declare.declared_names.Goals as goal

pub loop-d-preserved : goal.loop-d-preserved
loop-d-preserved c =
    let e = c.in_ok-repeated.ensures in
    declared_more c.args.number c.args.counts c.args.declarations.now c.loop-d.d-index c.d-item.result c.loop-d.names c.declare.new.self c.loop-d.fault c.in_ok-repeated.repeated c.first_of-fault.result
    c.loop-d-test.true c.d-item.is c.loop-d.invariant e.still e.named e.first e.fault c.first_of-fault.ensures

pub returns-clause-entries : goal.returns-clause-entries
returns-clause-entries c =
    entries_first c.loop-d.names.scope (pairs c.loop-d.names.map) c.loop-d.invariant.first.each
    ∙ ap (λ (s : ℕ). map (first_entry s) (named_list c.loop-d.names)) c.loop-d.invariant.scope
    ∙ ap (map (first_entry c.args.number)) (c.loop-d.invariant.named ∙ ap (λ (x : List Declaration). spec.names_of (map declaration x)) (take_all c.loop-d.d-index c.args.declarations.now c.loop-d-test.false))
