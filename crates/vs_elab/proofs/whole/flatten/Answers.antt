use Rattle.std.proofs.Common.{Some, sym, ap, ◌∙◌}
use Rattle.std.specs.Prelude.{Ok}
use Rattle.vs_ast.specs.Views as view
use Rattle.vs_elab.proofs.TopReading.{known_found, known_whole, repeated_is, once_is, told_top}
use Rattle.vs_elab.proofs.whole.flatten.Goals as goal

pub returns-in-Some-clause-broken : goal.returns-in-Some-clause-broken
returns-in-Some-clause-broken c =
    repeated_is (view.source c.args.source.now) c.args.top.now c.in_ok-by_name.field-0.repeated c.in-Some.fault c.in_ok-by_name.ensures.repeated c.in-Some.is

pub read_top-requires-clause-shaped : goal.read_top-requires-clause-shaped
read_top-requires-clause-shaped c =
    (known_whole (view.source c.args.source.now) c.args.top.now c.in_ok-by_name.field-0.by_name c.in-Some-get.known.now c.in_ok-by_name.ensures.by_name c.in-Some-get.ensures.value c.requires).shaped

pub read_top-requires-clause-shallow : goal.read_top-requires-clause-shallow
read_top-requires-clause-shallow c =
    (known_whole (view.source c.args.source.now) c.args.top.now c.in_ok-by_name.field-0.by_name c.in-Some-get.known.now c.in_ok-by_name.ensures.by_name c.in-Some-get.ensures.value c.requires).shallow

pub returns-in_err-reading-in-Some-get-clause-broken : goal.returns-in_err-reading-in-Some-get-clause-broken
returns-in_err-reading-in-Some-get-clause-broken c =
    let source = view.source c.args.source.now in
    let found = known_found source c.args.top.now c.in_ok-by_name.field-0.by_name c.in-Some-get.known.now c.in_ok-by_name.ensures.by_name c.in-Some-get.ensures.value in
    told_top source c.args.top.now c.in_ok-by_name.field-0.repeated (Some (view.module_tree c.in-Some-get.known.now.of.now)) c.from_residual-in_err-reading-in-Some-get.result c.in_err-reading-in-Some-get.field-0.0 c.in_ok-by_name.ensures.repeated c.in_default.is found
    c.from_residual-in_err-reading-in-Some-get.ensures.1 c.in_err-reading-in-Some-get.ensures.broken

pub finish-requires-clause-outside : goal.finish-requires-clause-outside
finish-requires-clause-outside c = c.in_ok-reading-in-Some-get.ensures.idle.outside

pub finish-requires-clause-lawful : goal.finish-requires-clause-lawful
finish-requires-clause-lawful c =
    let source = view.source c.args.source.now in
    let found = known_found source c.args.top.now c.in_ok-by_name.field-0.by_name c.in-Some-get.known.now c.in_ok-by_name.ensures.by_name c.in-Some-get.ensures.value in
    c.elaborated_law.ensures.lawful source c.args.top.now _ c.requires
    (once_is source c.args.top.now c.in_ok-by_name.field-0.repeated (Some (view.module_tree c.in-Some-get.known.now.of.now)) _ c.in_ok-by_name.ensures.repeated c.in_default.is found c.in_ok-reading-in-Some-get.ensures.design)

pub returns-clause-design : goal.returns-clause-design
returns-clause-design c =
    let source = view.source c.args.source.now in
    let found = known_found source c.args.top.now c.in_ok-by_name.field-0.by_name c.in-Some-get.known.now c.in_ok-by_name.ensures.by_name c.in-Some-get.ensures.value in
    once_is source c.args.top.now c.in_ok-by_name.field-0.repeated (Some (view.module_tree c.in-Some-get.known.now.of.now)) _ c.in_ok-by_name.ensures.repeated c.in_default.is found c.in_ok-reading-in-Some-get.ensures.design
    ∙ ap Ok (sym c.finish.ensures.design)
