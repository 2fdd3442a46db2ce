-- The bits of the registers in ascending order.
use Rattle.vs_design.specs.Designs.{bit_count}
use Rattle.vs_design.specs.Sizes.{register_bits}
use Rattle.vs_cone.specs.Lists.{AscendingIsOnce}
use Rattle.vs_cone.specs.Sources.{SourcesOfDesign}
use Rattle.vs_program.specs.Made.{RegistersInOrder}

pub registers_in_order : AscendingIsOnce → SourcesOfDesign → RegistersInOrder
registers_in_order ascending sources d names a = ascending (bit_count d) (register_bits d.processes) (λ b h. (sources d names a).registers_below b h)
