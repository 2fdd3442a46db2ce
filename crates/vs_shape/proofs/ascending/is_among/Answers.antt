use Rattle.vs_shape.proofs.Among.{found_is}
use Rattle.vs_shape.proofs.ascending.is_among.Goals as goal

pub returns : goal.returns
returns c = found_is c.args.bits.now c.args.bit c.binary_search.result c.is_ok.result c.requires c.binary_search.ensures.position c.is_ok.ensures.value
