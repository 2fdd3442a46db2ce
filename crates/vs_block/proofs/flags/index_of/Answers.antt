use Rattle.std.proofs.Common.{subst, sym}
use Rattle.vs_block.specs.Flags.{IsIndexOf}
use Rattle.vs_block.proofs.FlagSteps.{index_is}
use Rattle.vs_block.proofs.flags.index_of.Goals as goal

pub returns-clause-is : goal.returns-clause-is
returns-clause-is c = subst (IsIndexOf c.args.own.now c.args.bit) (sym c.ok.ensures.value) (index_is c.args.own.now c.args.bit c.binary_search.result c.requires c.binary_search.ensures.position).1
