-- What a module says depends on what each parameter is overridden with, and not on how the overrides are listed.
use Rattle.std.proofs.Common.{◌≡◌, ℕ, ◌+◌, true, false, List, [], ◌∷◌, ◌++◌, map, flat_map, length, Option, Some, None, is_none, refl, ap, ◌∙◌}
use Rattle.std.specs.Prelude.{sum_by}
use Rattle.vs_design.specs.Expressions.{signal_length}
use Rattle.vs_grammar.specs.Trees.{Name, Module, Source}
use Rattle.vs_const.specs.Typed.{Typed}
use Rattle.vs_const.specs.Expressions.{constant}
use Rattle.vs_elaborated.specs.Limits.{Limits}
use Rattle.vs_elaborated.specs.Environments.{Env, Entry, up_to, within, named}
use Rattle.vs_elaborated.specs.Declarations.{ParameterSort, Sort, SignalOf, ParameterOf, FunctionOf, GenvarSort, IntegerSort, InstanceSort, Declaration, names_of, repeated_names}
use Rattle.vs_elaborated.specs.Parameters.{Override, chosen, is_signed, said_type, parameter_declared, SaidParameter, said_parameter, put_value, first_entries, SaidEntries, said_parameters}
use Rattle.vs_elaborated.specs.Signals.{SaidSignal, said_signals, all_nets, net_count, range_faults, put_signals}
use Rattle.vs_elaborated.specs.Functions.{said_functions}
use Rattle.vs_elaborated.specs.Generate.{Made}
use Rattle.vs_elaborated.specs.Constructs.{constructs}
use Rattle.vs_elaborated.specs.Pieces.{OfModule}
use Rattle.vs_elaborated.specs.Surveys.{contents_said, contents_unheard, loops_behind, counts_of, block_faults, block_entries, Totals, bits_over, piece_processes, processes_over, turns_after, items_of, declarations_of, header_of, Survey, survey}
use Rattle.vs_items.specs.Overriding.{AreAlike}

-- all that an instance of a module says, by its names with the values of its parameters
abbrev surveyed : Limits → Source → Option ℕ → Module → ℕ → Env → Totals → SaidEntries → Survey
surveyed limits source parent m depth env totals parameters =
    let ds = declarations_of (OfModule m []) in
    let names = names_of ds in
    let ranged = within env parameters.entries in
    let signals = said_signals ranged (record { scope = totals.scopes; top = is_none parent; signal = totals.signals; bit = totals.bits }) names in
    let functions = said_functions limits totals.scopes env (counts_of totals) ds (put_signals signals parameters.entries) in
    let entries = functions.entries in
    let loops = record totals.loops { copies = functions.counts.copies } in
    let made = constructs limits (items_of (OfModule m [])) (within env entries) 1 totals.turns in
    let blocks = flat_map (λ (x : Made). x.names) made in
    let whole = entries ++ block_entries blocks in
    let said = contents_said limits source (record { scope = totals.scopes; depth = depth; env = within env whole }) loops (OfModule m []) made in
    record {
      entries = whole;
      signals = all_nets signals;
      functions = functions.functions;
      pieces = said.pieces;
      faults =
          header_of (OfModule m []) ++ (repeated_names [] ds ++ (parameters.faults ++ (range_faults ranged ds ++ (flat_map (λ (s : SaidSignal). s.faults) signals
          ++ (functions.faults ++ (flat_map (λ (x : Made). x.faults) made ++ (block_faults entries [] blocks ++ (said.faults
          ++ (bits_over limits.bits totals.bits signals ++ (processes_over limits.processes totals.processes said.pieces ++ contents_unheard (named (within env whole)) (OfModule m [])))))))))));
      totals =
          record totals {
            scopes = totals.scopes + 1;
            signals = totals.signals + net_count signals;
            bits = totals.bits + sum_by (λ (s : SaidSignal). signal_length s.meaning.signal) signals;
            turns = turns_after totals.turns made;
            functions = functions.counts.functions;
            loops = loops_behind limits (within env whole) loops (items_of (OfModule m []));
            processes = totals.processes + sum_by piece_processes said.pieces;
          };
    }

module _ (os qs : List Override) (alike : AreAlike os qs) where
  chosen_alike : (p : ParameterSort) (name : List ℕ) (default : Typed) → chosen p os name default ≡ chosen p qs name default
  chosen_alike p name default = ap (λ (o : Option Typed). let t : Typed = elim p.is_local [ true ↦ default | false ↦ elim o [ None ↦ default | Some t ↦ t ] ] in t) (alike name)

  parameter_alike : (env : Env) (name : Name) (p : ParameterSort) → said_parameter env os name p ≡ said_parameter env qs name p
  parameter_alike env name p =
      ap (λ (t : Typed). let s : SaidParameter = record { declared = parameter_declared (is_signed p.value_type) (said_type p.value_type env) t; faults = (said_type p.value_type env).faults ++ (constant p.value (named env)).faults } in s)
      (chosen_alike p name.bytes (constant p.value (named env)))

  pub parameters_alike : (env : Env) (ds : List Declaration) (es : List Entry) → said_parameters env os ds es ≡ said_parameters env qs ds es
  parameters_alike env [] es = refl
  parameters_alike env (d ∷ ds) es = of d.name d.sort (λ e. parameters_alike env ds e)
    where
      rest : (s : SaidEntries) → ((e : List Entry) → said_parameters env os ds e ≡ said_parameters env qs ds e) → (let r : SaidEntries = record { entries = (said_parameters env os ds s.entries).entries; faults = s.faults ++ (said_parameters env os ds s.entries).faults } in r)
          ≡ (let r : SaidEntries = record { entries = (said_parameters env qs ds s.entries).entries; faults = s.faults ++ (said_parameters env qs ds s.entries).faults } in r)
      rest s k = ap (λ (x : SaidEntries). let r : SaidEntries = record { entries = x.entries; faults = s.faults ++ x.faults } in r) (k s.entries)

      of : (n : Name) (sort : Sort) → ((e : List Entry) → said_parameters env os ds e ≡ said_parameters env qs ds e) → said_parameters env os (record { name = n; sort = sort } ∷ ds) es ≡ said_parameters env qs (record { name = n; sort = sort } ∷ ds) es
      of n (ParameterOf p) k =
          ap (λ (v : SaidParameter). let s : SaidEntries = record { entries = put_value n.bytes v.declared es; faults = v.faults } in
          let r : SaidEntries = record { entries = (said_parameters env os ds s.entries).entries; faults = s.faults ++ (said_parameters env os ds s.entries).faults } in r)
          (parameter_alike (up_to (within env es) n.place) n p)
          ∙ rest (record { entries = put_value n.bytes (said_parameter (up_to (within env es) n.place) qs n p).declared es; faults = (said_parameter (up_to (within env es) n.place) qs n p).faults }) k
      of n (SignalOf s) k = rest (record { entries = es; faults = [] }) k
      of n (FunctionOf f) k = rest (record { entries = es; faults = [] }) k
      of n IntegerSort k = rest (record { entries = es; faults = [] }) k
      of n GenvarSort k = rest (record { entries = es; faults = [] }) k
      of n InstanceSort k = rest (record { entries = es; faults = [] }) k

  -- all that an instance of a module says
  pub survey_alike : (limits : Limits) (source : Source) (name : List ℕ) (parent : Option ℕ) (m : Module) (depth place : ℕ) (env : Env) (totals : Totals)
      → survey limits source (record { name = name; parent = parent; contents = OfModule m os; depth = depth; place = place; env = env }) totals
      ≡ survey limits source (record { name = name; parent = parent; contents = OfModule m qs; depth = depth; place = place; env = env }) totals
  survey_alike limits source name parent m depth place env totals =
      ap (surveyed limits source parent m depth env totals) (parameters_alike env (declarations_of (OfModule m [])) (first_entries totals.scopes (names_of (declarations_of (OfModule m [])))))
