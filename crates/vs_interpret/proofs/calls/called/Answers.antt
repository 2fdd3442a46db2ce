use Rattle.std.proofs.Common.{refl, subst}
use Rattle.vs_flat.specs.Lawful.{IsLawful}
use Rattle.vs_interpret.proofs.Called.{CalleeLaws, is_callee}
use Rattle.vs_interpret.proofs.calls.called.Goals as goal

pub returns : goal.returns
returns c =
    let a = c.args.shapes.now in
    let laws : CalleeLaws = record {
      functions = c.trees_law.ensures.functions;
      headers = c.trees_law.ensures.headers;
      results = c.lawful_law.ensures.results;
      bodies = c.calls_law.ensures.bodies;
      names = c.calls_law.ensures.names;
      within = c.within_law.ensures.functions;
    } in
    is_callee laws a c.args.function c.function.result.now c.body-body.result (subst IsLawful c.flat-flat.ensures.same c.flat-flat.ensures.lawful) (rw c.flat-flat.ensures.same at c.function.ensures) (rw c.flat-flat.ensures.same at c.body-body.ensures)
    (record { statement = c.body-body.result.statement; nodes = c.body-body.result.nodes; len = c.local_bits.result; result = c.local_span.result }) refl refl (rw c.flat-flat.ensures.same at c.local_bits.ensures)
    c.local_span.ensures.first c.local_span.ensures.len c.local_span.ensures.within
