-- The parts of what a scope says, and its faults part by part.
use Rattle.std.proofs.Common.{◌≡◌, List, [], ◌++◌}
use Rattle.std.specs.Prelude.{is_none}
use Rattle.std.specs.List.{flat_map}
use Rattle.vs_grammar.specs.Trees.{Source}
use Rattle.vs_const.specs.declared.faults.Fault.{Fault}
use Rattle.vs_const.proofs.Formed.{both_nil}
use Rattle.vs_elaborated.specs.Limits.{Limits}
use Rattle.vs_elaborated.specs.Environments.{Entry, Env, within, named}
use Rattle.vs_elaborated.specs.Declarations.{Named, names_of, repeated_names}
use Rattle.vs_elaborated.specs.Parameters.{SaidEntries, first_entries, said_parameters}
use Rattle.vs_elaborated.specs.Signals.{Start, SaidSignal, said_signals, range_faults, put_signals}
use Rattle.vs_elaborated.specs.Functions.{SaidFunctions, said_functions}
use Rattle.vs_elaborated.specs.Generate.{BlockName, Made}
use Rattle.vs_elaborated.specs.Constructs.{constructs}
use Rattle.vs_elaborated.specs.Pieces.{Task, Said}
use Rattle.vs_elaborated.specs.Instances.{Around}
use Rattle.vs_elaborated.specs.Surveys.{Loops, counts_of, items_of, declarations_of, overrides_of, header_of, contents_said, contents_unheard, block_entries, block_faults, bits_over, processes_over, Totals, survey}

abbrev pub names_in : Task → List Named
names_in k = names_of (declarations_of k.contents)

abbrev pub first_in : Task → Totals → List Entry
first_in k t = first_entries t.scopes (names_in k)

abbrev pub parameters_in : Task → Totals → SaidEntries
parameters_in k t = said_parameters k.env (overrides_of k.contents) (declarations_of k.contents) (first_in k t)

-- where ranges are evaluated
abbrev pub ranged_in : Task → Totals → Env
ranged_in k t = within k.env (parameters_in k t).entries

abbrev pub start_in : Task → Totals → Start
start_in k t = record { scope = t.scopes; top = is_none k.parent; signal = t.signals; bit = t.bits }

abbrev pub signals_in : Task → Totals → List SaidSignal
signals_in k t = said_signals (ranged_in k t) (start_in k t) (names_in k)

-- the names with all signals
abbrev pub entries_in : Task → Totals → List Entry
entries_in k t = put_signals (signals_in k t) (parameters_in k t).entries

abbrev pub functions_in : Limits → Task → Totals → SaidFunctions
functions_in limits k t = said_functions limits t.scopes k.env (counts_of t) (declarations_of k.contents) (entries_in k t)

abbrev pub loops_in : Limits → Task → Totals → Loops
loops_in limits k t = record t.loops { copies = (functions_in limits k t).counts.copies }

abbrev pub made_in : Limits → Task → Totals → List Made
made_in limits k t = constructs limits (items_of k.contents) (within k.env (functions_in limits k t).entries) 1 t.turns

abbrev pub blocks_in : Limits → Task → Totals → List BlockName
blocks_in limits k t = flat_map (λ (m : Made). m.names) (made_in limits k t)

-- all names
abbrev pub whole_in : Limits → Task → Totals → List Entry
whole_in limits k t = (functions_in limits k t).entries ++ block_entries (blocks_in limits k t)

abbrev pub around_in : Limits → Task → Totals → Around
around_in limits k t = record { scope = t.scopes; depth = k.depth; env = within k.env (whole_in limits k t) }

abbrev pub said_in : Limits → Source → Task → Totals → Said
said_in limits source k t = contents_said limits source (around_in limits k t) (loops_in limits k t) k.contents (made_in limits k t)

-- no part has a fault
pub record AreFaultless (limits : Limits) (source : Source) (k : Task) (t : Totals) : Type 0 where
  pub header : header_of k.contents ≡ []
  pub repeated : repeated_names [] (declarations_of k.contents) ≡ []
  pub parameters : (parameters_in k t).faults ≡ []
  pub ranges : range_faults (ranged_in k t) (declarations_of k.contents) ≡ []
  pub signals : flat_map (λ (s : SaidSignal). s.faults) (signals_in k t) ≡ []
  pub functions : (functions_in limits k t).faults ≡ []
  pub made : flat_map (λ (m : Made). m.faults) (made_in limits k t) ≡ []
  pub blocks : block_faults (functions_in limits k t).entries [] (blocks_in limits k t) ≡ []
  pub said : (said_in limits source k t).faults ≡ []
  pub bits : bits_over limits.bits t.bits (signals_in k t) ≡ []
  pub processes : processes_over limits.processes t.processes (said_in limits source k t).pieces ≡ []
  pub heard : contents_unheard (named (around_in limits k t).env) k.contents ≡ []

-- the faults from each part on
module _ (limits : Limits) (source : Source) (k : Task) (t : Totals) where
  abbrev from_processes : List Fault
  from_processes = processes_over limits.processes t.processes (said_in limits source k t).pieces ++ contents_unheard (named (around_in limits k t).env) k.contents

  abbrev from_bits : List Fault
  from_bits = bits_over limits.bits t.bits (signals_in k t) ++ from_processes

  abbrev from_said : List Fault
  from_said = (said_in limits source k t).faults ++ from_bits

  abbrev from_blocks : List Fault
  from_blocks = block_faults (functions_in limits k t).entries [] (blocks_in limits k t) ++ from_said

  abbrev from_made : List Fault
  from_made = flat_map (λ (m : Made). m.faults) (made_in limits k t) ++ from_blocks

  abbrev from_functions : List Fault
  from_functions = (functions_in limits k t).faults ++ from_made

  abbrev from_signals : List Fault
  from_signals = flat_map (λ (s : SaidSignal). s.faults) (signals_in k t) ++ from_functions

  abbrev from_ranges : List Fault
  from_ranges = range_faults (ranged_in k t) (declarations_of k.contents) ++ from_signals

  abbrev from_parameters : List Fault
  from_parameters = (parameters_in k t).faults ++ from_ranges

  abbrev from_repeated : List Fault
  from_repeated = repeated_names [] (declarations_of k.contents) ++ from_parameters

  pub faultless : (survey limits source k t).faults ≡ [] → AreFaultless limits source k t
  faultless h =
      let a = both_nil (header_of k.contents) from_repeated h in
      let b = both_nil (repeated_names [] (declarations_of k.contents)) from_parameters a.1 in
      let c = both_nil (parameters_in k t).faults from_ranges b.1 in
      let d = both_nil (range_faults (ranged_in k t) (declarations_of k.contents)) from_signals c.1 in
      let f = both_nil (flat_map (λ (s : SaidSignal). s.faults) (signals_in k t)) from_functions d.1 in
      let g = both_nil (functions_in limits k t).faults from_made f.1 in
      let i = both_nil (flat_map (λ (m : Made). m.faults) (made_in limits k t)) from_blocks g.1 in
      let j = both_nil (block_faults (functions_in limits k t).entries [] (blocks_in limits k t)) from_said i.1 in
      let l = both_nil (said_in limits source k t).faults from_bits j.1 in
      let m = both_nil (bits_over limits.bits t.bits (signals_in k t)) from_processes l.1 in
      let n = both_nil (processes_over limits.processes t.processes (said_in limits source k t).pieces) (contents_unheard (named (around_in limits k t).env) k.contents) m.1 in
      record { header = a.0; repeated = b.0; parameters = c.0; ranges = d.0; signals = f.0; functions = g.0; made = i.0; blocks = j.0; said = l.0; bits = m.0; processes = n.0; heard = n.1 }
