-- How an assign of a flat design came to be, as the plain design has it.
use Rattle.vs_design.specs.Designs as D
use Rattle.vs_flat.specs.declared.processes.Port.{Port}
use Rattle.vs_flat.specs.declared.processes.Port.TheVariants as P

abbrev pub port_of : Port → D.Port
port_of P.Written = D.Written
port_of P.Input = D.InputPort
port_of P.Output = D.OutputPort
