use Rattle.std.proofs.Common.{◌∙◌, ap, sym}
use Rattle.vs_design.specs.Values.{bits_of_signal, count_from}
use Rattle.vs_shape.proofs.Gathering.{one_added}
use Rattle.vs_shape.proofs.walks.push_local.Goals as goal

pub returns : goal.returns
returns c =
    one_added c.push_run.result c.args.out.now.items c.push_run.new.out.items _ _ c.push_run.ensures
    (ap bits_of_signal c.local_of-s.ensures.is ∙ ap (count_from c.local_of-s.result.now.first_bit) (sym c.bits_of.ensures))
