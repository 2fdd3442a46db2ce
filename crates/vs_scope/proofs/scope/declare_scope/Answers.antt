use Rattle.std.proofs.Common.{◌≡◌, List, map, sym, ap, ◌∙◌, subst}
use Rattle.vs_const.specs.Faults.{least, better}
use Rattle.vs_elaborated.specs.Limits.{the_limits}
use Rattle.vs_elaborated.specs.Declarations as declarations
use Rattle.vs_elaborated.specs.Functions as functions
use Rattle.vs_elaborated.specs.Functions.{said_functions}
use Rattle.vs_scope.specs.declared.names.Signal.{Signal}
use Rattle.vs_scope.specs.Complete.{complete}
use Rattle.vs_scope.specs.Contents.{contents_declared}
use Rattle.vs_scope.specs.Counts.{counted}
use Rattle.vs_scope.specs.Declares.{named_list}
use Rattle.vs_scope.specs.Frames.{around_env}
use Rattle.vs_scope.specs.Functions.{functions_in}
use Rattle.vs_scope.specs.Overrides.{overrides_of}
use Rattle.vs_scope.specs.Scopes.{said_entries, said_faults, said_signals_of, said_functions_of}
use Rattle.vs_scope.specs.Shaped.{AreShaped}
use Rattle.vs_scope.specs.Signalled.{placed_of, put_all, start_after, start_of}
use Rattle.vs_scope.specs.Views.{declaration, entries, signal_meaning}
use Rattle.vs_scope.proofs.Completing.{complete_none, keeps_none}
use Rattle.vs_scope.proofs.Saying.{saying_end}
use Rattle.vs_scope.proofs.WholeScopes.{names_shaped, AreFound, found_entries, found_faults, found_said, found_next, found_signals}
use Rattle.vs_scope.proofs.scope.declare_scope.Goals as goal

pub said_signals-requires : goal.said_signals-requires
said_signals-requires c =
    let ds = map declaration c.as_slice-all.result.now in
    let whole : ds ≡ contents_declared c.args.contents = ap (map declaration) c.as_slice-all.ensures.value ∙ c.in_ok-list.ensures in
    names_shaped ds (named_list c.evaluate.new.names) (subst AreShaped (sym whole) c.requires.shaped) (c.in_ok-parameters.ensures.named ∙ c.in_ok-names.ensures.named)

pub invariant_of-here : goal.invariant_of-here
invariant_of-here c = record { kept = keeps_none (around_env c.args.around) c.evaluate.new.names (c.in_ok-parameters.ensures.still.incomplete c.in_ok-names.ensures.incomplete) }

pub said_functions-requires-clause-incomplete : goal.said_functions-requires-clause-incomplete
said_functions-requires-clause-incomplete c = c.in_ok-put_signals.ensures.still.incomplete (c.in_ok-parameters.ensures.still.incomplete c.in_ok-names.ensures.incomplete)

pub returns : goal.returns
returns c =
    let ds = map declaration c.as_slice-all.result.now in
    let whole : ds ≡ contents_declared c.args.contents = ap (map declaration) c.as_slice-all.ensures.value ∙ c.in_ok-list.ensures in
    let env = around_env c.args.around in
    let os = overrides_of c.args.around.frames.now c.args.overrides.now in
    let start = start_of c.args.start in
    let inc = c.in_ok-parameters.ensures.still.incomplete c.in_ok-names.ensures.incomplete in
    let none = complete_none env c.evaluate.new.names inc.functions in
    let found : AreFound env os start ds (entries c.in_ok-names.field-0.names) (complete env c.evaluate.new.names) (entries c.put_signals.new.names) (named_list c.evaluate.new.names) c.in_ok-said.said.signals.items c.in_ok-names.field-0.fault c.in_ok-parameters.parameters c.in_ok-ranges.ranges c.in_ok-said.said.fault = record {
      first_is = c.in_ok-names.ensures.entries;
      repeated = c.in_ok-names.ensures.fault;
      evaluated_is = none ∙ c.in_ok-parameters.ensures.entries;
      parameters = c.in_ok-parameters.ensures.fault;
      names = c.in_ok-parameters.ensures.named ∙ c.in_ok-names.ensures.named;
      ranges = c.in_ok-ranges.ensures;
      signals = c.in_ok-said.ensures.signals;
      seconds = c.in_ok-said.ensures.fault;
      whole_is = c.in_ok-put_signals.ensures.entries ∙ ap (λ (x : List Signal). put_all (map signal_meaning x) (entries c.evaluate.new.names)) c.as_slice.ensures.value ∙ ap (put_all (map signal_meaning c.in_ok-said.said.signals.items)) (sym none);
    } in
    let scope = c.in_ok-put_signals.ensures.still.scope ∙ c.in_ok-parameters.ensures.still.scope ∙ c.in_ok-names.ensures.scope in
    let before = c.in_ok-put_signals.ensures.still.counts ∙ c.in_ok-parameters.ensures.still.counts ∙ c.in_ok-names.ensures.counts in
    let same = found_said found c.put_signals.new.names.scope c.put_signals.new.names.counts c.args.counts scope before in
    let end = saying_end env c.said_functions.new.names _ (said_functions the_limits c.put_signals.new.names.scope env (counted c.put_signals.new.names.counts) ds (entries c.put_signals.new.names)) (functions_in ds) c.in_ok-called.ensures.said in
    record {
      entries = c.in_ok-called.ensures.entries ∙ found_entries found ∙ ap (said_entries env os start) whole;
      signals = found_signals found ∙ ap (λ (x : List declarations.Declaration). map placed_of (said_signals_of env os start x)) whole;
      complete = end.entries ∙ ap (λ (x : functions.SaidFunctions). x.entries) same ∙ ap (λ (x : List declarations.Declaration). (said_functions_of env os start (counted c.args.counts) x).entries) whole;
      kept = c.in_ok-called.ensures.said.kept;
      plain = c.in_ok-called.ensures.said.plain;
      scope = c.in_ok-called.ensures.scope ∙ scope;
      before = c.in_ok-called.ensures.counts ∙ before;
      functions = end.functions ∙ ap functions_in whole;
      counts = end.counts_are ∙ ap (λ (x : functions.SaidFunctions). x.counts) same ∙ ap (λ (x : List declarations.Declaration). (said_functions_of env os start (counted c.args.counts) x).counts) whole;
      fault =
          c.first_of-3.ensures
          ∙ found_faults found (counted c.args.counts) c.first_of-plain.result c.in_ok-called.field-0.fault
          (c.first_of-plain.ensures ∙ ap (better c.in_ok-names.field-0.fault) (c.first_of-2.ensures ∙ ap (better c.in_ok-parameters.parameters) c.first_of.ensures))
          (end.fault ∙ ap (λ (x : functions.SaidFunctions). least x.faults) same)
          ∙ ap (λ (x : List declarations.Declaration). least (said_faults env os start (counted c.args.counts) x)) whole;
      next = found_next found (start_of c.in_ok-said.said.next) c.in_ok-said.ensures.next ∙ ap (λ (x : List declarations.Declaration). start_after start (said_signals_of env os start x)) whole;
    }
