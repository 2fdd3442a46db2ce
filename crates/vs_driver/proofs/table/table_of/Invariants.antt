use Rattle.std.proofs.Common.{◌≡◌, length}
use Rattle.vs_design.specs.Designs.{bit_count}
use Rattle.vs_flat.specs.DesignOf.{design_of}
use Rattle.vs_driver.specs.Drivers.{AreDrivers}
use Rattle.vs_driver.proofs.table.table_of.Given as goal

abbrev pub invariant-loop-p : goal.invariant-loop-p
invariant-loop-p l = (length l.table.items ≡ bit_count (design_of l.typed)) × AreDrivers (design_of l.typed) l.p l.table.items
