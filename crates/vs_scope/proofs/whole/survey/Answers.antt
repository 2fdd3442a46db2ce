use Rattle.std.proofs.Common.{◌≡◌, ◌++◌, List, [], map, flat_map, sym, ap, ◌∙◌, subst}
use Rattle.std.proofs.lemmas.List.{append_cancel_left}
use Rattle.vs_grammar.specs.Shapes.{Each}
use Rattle.vs_const.specs.Faults.{least}
use Rattle.vs_elaborated.specs.Environments.{Entry, find_entry}
use Rattle.vs_elaborated.specs.Limits.{the_limits}
use Rattle.vs_elaborated.specs.Generate as generate
use Rattle.vs_elaborated.specs.Surveys.{block_entries, block_faults, bits_over, header_of, declarations_of, overrides_of}
use Rattle.vs_scope.specs.declared.names.Signal.{Signal}
use Rattle.vs_scope.specs.Bits.{over}
use Rattle.vs_scope.specs.Chosen.{IsConstruct}
use Rattle.vs_scope.specs.Clashes.{blocks_of}
use Rattle.vs_scope.specs.Counts.{counted}
use Rattle.vs_scope.specs.Frames.{around_env}
use Rattle.vs_scope.specs.Scopes.{said_faults}
use Rattle.vs_scope.specs.Signalled.{Placed, placed, nets_in, start_of}
use Rattle.vs_scope.specs.Complete.{complete, function_declaration}
use Rattle.vs_scope.specs.Surveys.{MeanTheSame, contents_of, declared_in, signals_in, made_in, blocks_in, made_faults}
use Rattle.vs_scope.specs.Views.{entries, pair_entry}
use Rattle.vs_scope.proofs.Completing.{names_completed}
use Rattle.vs_scope.proofs.BlocksBehind.{clashes_same, complete_behind, entries_behind, keeps_behind, mean_behind}
use Rattle.vs_scope.specs.Wholes.{scope_after}
use Rattle.vs_scope.proofs.WholeSurveys.{items_same, scope_constructs, signals_same, nets_same, bits_same, blocks_same, five, no_better, seen_behind, whole_made, whole_entries, whole_shaped}
use Rattle.vs_scope.proofs.whole.survey.Goals as goal

pub constructs-requires-clause-shaped : goal.constructs-requires-clause-shaped
constructs-requires-clause-shaped c = scope_constructs c.args.contents c.requires.shaped

pub invariant_of-here : goal.invariant_of-here
invariant_of-here c = record { kept = c.in_ok-names.ensures.declared.kept_is }

pub returns : goal.returns
returns c =
    let env = around_env c.args.around in
    let con = contents_of c.args.around.frames.now c.args.overrides.now c.args.contents in
    let start = start_of c.args.start in
    let before = counted c.args.counts in
    let said = c.in_ok-names.field-0 in
    let declared = c.in_ok-names.ensures.declared in
    let mk = c.in_ok-made.field-0 in
    let items = items_same c.args.around.frames.now c.args.overrides.now c.args.contents in
    let w = whole_made env con start before c.args.turns (complete env said.names) _ mk declared.entries_are items c.in_ok-made.ensures in
    let e = whole_entries env con start before c.args.turns (complete env said.names) mk.made.items c.as_slice.result.now declared.entries_are c.as_slice.ensures.value w.0 in
    let behind = c.in_ok-clashes.ensures.behind in
    let old = said.names in
    let new = c.add_blocks.new.self in
    let named = block_entries (blocks_of c.as_slice.result.now) in
    let mean : MeanTheSame (complete env old ++ map pair_entry behind.more) (complete env old ++ named) =
    mean_behind (entries old) (complete env old) (map pair_entry behind.more) named (names_completed env old) (λ n. ap (λ (x : List Entry). find_entry x n) (sym (entries_behind old new behind)) ∙ c.in_ok-clashes.ensures.same n) in
    let blocks = ap blocks_of c.as_slice.ensures.value ∙ blocks_same mk.made.items (made_in env con start before c.args.turns) w.0 in
    record {
      names = λ n. ap (λ (x : List Entry). find_entry x n) (complete_behind env old new declared.plain_is behind) ∙ mean n ∙ ap (λ (x : List Entry). find_entry x n) e;
      entries = λ none.
          let a = no_better c.in_ok-header.header c.first_of-3.result (sym c.first_of-fault.ensures ∙ none) in
          let b = no_better said.fault c.first_of-2.result (sym c.first_of-3.ensures ∙ a.1) in
          let d = no_better mk.fault c.first_of.result (sym c.first_of-2.ensures ∙ b.1) in
          let f = no_better c.in_ok-clashes.clashes c.bits_fault-bits.result (sym c.first_of.ensures ∙ d.1) in
          let more : map pair_entry behind.more ≡ named = append_cancel_left (entries old) (map pair_entry behind.more) named (sym (entries_behind old new behind) ∙ c.in_ok-clashes.ensures.new f.0) in
          complete_behind env old new declared.plain_is behind ∙ ap (λ (x : List Entry). complete env old ++ x) more ∙ e;
      kept = keeps_behind env old new declared.plain_is behind declared.kept_is;
      seen = seen_behind old new env con start before declared.plain_is behind declared.seen_is;
      functions = ap (map function_declaration) behind.functions ∙ declared.functions_are;
      counts = declared.counts_is;
      placed = declared.signals_are;
      signals = signals_same said.signals.items _ declared.signals_are;
      nets = c.in_ok-nets.ensures ∙ ap (flat_map nets_in) c.as_slice-3.ensures.value ∙ nets_same said.signals.items _ declared.signals_are;
      made = w.0;
      blocks = whole_shaped env con start before c.args.turns mk.made.items (subst (Each IsConstruct) items (scope_constructs c.args.contents c.requires.shaped)) w.0;
      fault =
          five (header_of con) (said_faults env (overrides_of con) start before (declarations_of con)) (made_faults (made_in env con start before c.args.turns)) (block_faults (declared_in env con start before) [] (blocks_in env con start before c.args.turns))
          (bits_over the_limits.bits start.bit (signals_in env con start)) c.in_ok-header.header said.fault mk.fault c.in_ok-clashes.clashes c.bits_fault-bits.result c.first_of.result c.first_of-2.result c.first_of-3.result c.first_of-fault.result
          (c.in_ok-header.ensures c.args.around.frames.now c.args.overrides.now)
          declared.fault_is
          w.1
          (c.in_ok-clashes.ensures.fault ∙ ap least (clashes_same env said.names (blocks_of c.as_slice.result.now)) ∙ ap (λ (x : List Entry). least (block_faults x [] (blocks_of c.as_slice.result.now))) declared.entries_are
          ∙ ap (λ (x : List generate.BlockName). least (block_faults (declared_in env con start before) [] x)) blocks)
          (c.bits_fault-bits.ensures ∙ ap (λ (x : List Signal). least (over the_limits.bits c.args.start.bit (map placed x))) c.as_slice-2.ensures.value
          ∙ ap (λ (x : List Placed). least (over the_limits.bits c.args.start.bit x)) declared.signals_are ∙ ap least (bits_same the_limits.bits c.args.start.bit (signals_in env con start)))
          c.first_of.ensures c.first_of-2.ensures c.first_of-3.ensures c.first_of-fault.ensures;
      turns = w.2;
      next = c.in_ok-next.ensures ∙ ap scope_after declared.next_is;
    }
