use Rattle.std.proofs.Common.{◌∷◌, [], map, take, ap, sym, arith}
use Rattle.std.proofs.lemmas.List.{length-map}
use Rattle.vs_grammar.specs.Trees as tree
use Rattle.vs_ast.specs.Views as view
use Rattle.vs_build.specs.Drafts.{home}
use Rattle.vs_build.specs.Growth.{draft}
use Rattle.vs_build.specs.Writable.{IsAssignable, assign_process}
use Rattle.vs_build.specs.Items.{assign_processes}
use Rattle.vs_build.proofs.ItemFacts.{processes_outside, no_process, more_processes, these_processes, assign_after, each_at, map_more, all_of, process_count, length_taken}
use Rattle.vs_build.proofs.items.assign_each.Goals as goal

pub assign-requires-clause-room : goal.assign-requires-clause-room
assign-requires-clause-room g c = omega (arith, process_count (draft c.args.builder.now) (draft c.loop-a.builder) (assign_processes c.args.place (map view.assign (take c.loop-a.a-index c.args.list.now)) (g.E.Env.names c.args.env.now)) c.loop-a.invariant, length-map (map view.assign (take c.loop-a.a-index c.args.list.now)) (λ (a : tree.Assign). assign_process c.args.place a (g.E.Env.names c.args.env.now)), length-map (take c.loop-a.a-index c.args.list.now) view.assign, length_taken c.loop-a.a-index c.args.list.now, c.requires.room)

pub assign-requires-clause-outside : goal.assign-requires-clause-outside
assign-requires-clause-outside g c = processes_outside (draft c.args.builder.now) (draft c.loop-a.builder) (assign_processes c.args.place (map view.assign (take c.loop-a.a-index c.args.list.now)) (g.E.Env.names c.args.env.now)) c.loop-a.invariant c.requires.outside

pub assign-requires-clause-fine : goal.assign-requires-clause-fine
assign-requires-clause-fine g c = assign_after (draft c.args.builder.now) (draft c.loop-a.builder) (assign_processes c.args.place (map view.assign (take c.loop-a.a-index c.args.list.now)) (g.E.Env.names c.args.env.now)) (g.E.Env.names c.args.env.now) (view.assign c.a-item.result) c.loop-a.invariant (each_at (IsAssignable (home (draft c.args.builder.now)) (g.E.Env.names c.args.env.now)) view.assign c.args.list.now c.loop-a.a-index c.a-item.result (omega arith) c.a-item.is c.requires.fine)

pub loop-a-init : goal.loop-a-init
loop-a-init g c = no_process (draft c.args.builder.now)

pub loop-a-preserved : goal.loop-a-preserved
loop-a-preserved g c = these_processes (draft c.args.builder.now) (draft c.assign.new.builder) _ _ (sym (map_more view.assign (λ (a : tree.Assign). assign_process c.args.place a (g.E.Env.names c.args.env.now)) c.args.list.now c.loop-a.a-index c.a-item.result (omega arith) c.a-item.is)) (more_processes (draft c.args.builder.now) (draft c.loop-a.builder) (draft c.assign.new.builder) (assign_processes c.args.place (map view.assign (take c.loop-a.a-index c.args.list.now)) (g.E.Env.names c.args.env.now)) (assign_process c.args.place (view.assign c.a-item.result) (g.E.Env.names c.args.env.now) ∷ []) c.loop-a.invariant c.in_ok-assign.ensures)

pub returns : goal.returns
returns g c = these_processes (draft c.args.builder.now) (draft c.loop-a.builder) _ _ (ap (λ xs. assign_processes c.args.place (map view.assign xs) (g.E.Env.names c.args.env.now)) (all_of c.args.list.now c.loop-a.a-index (omega arith))) c.loop-a.invariant
