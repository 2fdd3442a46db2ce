use Rattle.std.proofs.Common.{sym, ◌∙◌}
use Rattle.vs_flat.specs.DesignOf.{design_of}
use Rattle.vs_driver.proofs.Least.{writers_told, few_writers}
use Rattle.vs_driver.proofs.single.tell_writers.Goals as goal

pub returns-in-Nobody-clause-single : goal.returns-in-Nobody-clause-single
returns-in-Nobody-clause-single c =
    let is = c.in-Nobody.is in
    few_writers (design_of c.args.typed.now) c.args.bit c.in_ok-writers.writers c.requires.least c.requires.started c.in_ok-writers.ensures (λ x y e. cc)

pub returns-in-One-clause-single : goal.returns-in-One-clause-single
returns-in-One-clause-single c =
    let is = c.in-One.is in
    few_writers (design_of c.args.typed.now) c.args.bit c.in_ok-writers.writers c.requires.least c.requires.started c.in_ok-writers.ensures (λ x y e. cc)

pub returns-in-Two-clause-refused : goal.returns-in-Two-clause-refused
returns-in-Two-clause-refused c =
    writers_told (design_of c.args.typed.now) c.args.bit c.in-Two.first c.in-Two.second c.requires.least c.requires.started (sym c.in_ok-writers.ensures ∙ c.in-Two.is)
