use Rattle.vs_flat.specs.Arena.{declared_at}
use Rattle.vs_flat.specs.DesignOf.{header_in}
use Rattle.vs_shape.proofs.Results.{shape_is, result_is}
use Rattle.vs_shape.proofs.shapes.result_shape.Goals as goal

pub returns : goal.returns
returns c = λ st es.
    shape_is c.signal_width.result c.function.result.now.function.inputs c.get-s.result.now (header_in (declared_at c.args.flat.now c.args.function)) st es c.signal_width.ensures
    (result_is c.trees_law.ensures.locals c.args.flat.now c.args.function c.function.result.now c.get-s.result.now c.function.ensures c.get-s.ensures)
