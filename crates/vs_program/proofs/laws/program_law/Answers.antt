use Rattle.vs_program.proofs.Makes.{starts, begins, first_ends, fall_ends, rise_ends}
use Rattle.vs_program.proofs.Ranges.{small, in_range}
use Rattle.vs_program.proofs.Layouts.{layouts_fit, masks_fit}
use Rattle.vs_program.proofs.Registers.{registers_in_order}
use Rattle.vs_program.proofs.Sleeping.{lowered_stores}
use Rattle.vs_program.proofs.Growing.{calls_grow, resets_grow}
use Rattle.vs_program.proofs.laws.program_law.Goals as goal

pub returns-clause-made : goal.returns-clause-made
returns-clause-made c = λ d names a order ordered l low regs p made.
    let fits = small c.list_law.ensures.few c.stores_law.ensures d names a order ordered l low regs p made in
    record {
      bits = made.bits;
      clocks_are = made.clocks_are;
      inputs = made.inputs;
      nets = made.nets.has;
      signals = made.signals;
      constants = made.constants;
      starts = starts d names a order ordered c.lawful_law.ensures.lawful c.cycle_law.ensures.order c.footprint_law.ensures.bits c.reads_law.ensures.body c.sequence_law.ensures.both c.write_law.ensures c.sequence_law.ensures.one c.clock_law.ensures c.sources_law.ensures l low regs p made c.lawful_law.ensures.beginning;
      begins = begins d names a order ordered c.lawful_law.ensures.lawful c.cycle_law.ensures.order c.footprint_law.ensures.bits c.reads_law.ensures.body c.sequence_law.ensures.both c.write_law.ensures c.sequence_law.ensures.one c.clock_law.ensures c.sources_law.ensures l low regs p made c.lawful_law.ensures.beginning;
      first = first_ends d names a order ordered c.lawful_law.ensures.lawful c.cycle_law.ensures.order c.footprint_law.ensures.bits c.reads_law.ensures.body c.sequence_law.ensures.both c.write_law.ensures c.sequence_law.ensures.one c.clock_law.ensures c.sources_law.ensures l low regs p made c.fall_law.ensures.first;
      falls = fall_ends d names a order ordered c.lawful_law.ensures.lawful c.cycle_law.ensures.order c.footprint_law.ensures.bits c.reads_law.ensures.body c.sequence_law.ensures.both c.write_law.ensures c.sequence_law.ensures.one c.clock_law.ensures c.sources_law.ensures l low regs p made c.fall_law.ensures.later;
      rises = rise_ends d names a order ordered c.lawful_law.ensures.lawful c.cycle_law.ensures.order c.footprint_law.ensures.bits c.reads_law.ensures.body c.sequence_law.ensures.both c.write_law.ensures c.sequence_law.ensures.one c.clock_law.ensures c.sources_law.ensures l low regs p made c.rise_law.ensures;
      first_small = fits.first;
      fall_small = fits.fall;
      rise_small = fits.rise;
      few_slots = made.few_slots;
    }

pub returns-clause-in_range : goal.returns-clause-in_range
returns-clause-in_range c = λ d names a order ordered l low regs p made. in_range c.list_law.ensures.few c.stores_law.ensures c.sources_law.ensures d names a order ordered l low regs p made

pub returns-clause-layout : goal.returns-clause-layout
returns-clause-layout c = layouts_fit c.list_law.ensures.few

pub returns-clause-masks : goal.returns-clause-masks
returns-clause-masks c = masks_fit

pub returns-clause-registers : goal.returns-clause-registers
returns-clause-registers c = registers_in_order c.list_law.ensures.ascending c.sources_law.ensures

pub returns-clause-calls : goal.returns-clause-calls
returns-clause-calls c = calls_grow

pub returns-clause-resets : goal.returns-clause-resets
returns-clause-resets c = resets_grow

pub returns-clause-stores : goal.returns-clause-stores
returns-clause-stores c = lowered_stores
