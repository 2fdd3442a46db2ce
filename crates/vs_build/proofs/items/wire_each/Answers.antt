use Rattle.std.proofs.Common.{map, take, ap, sym, arith}
use Rattle.std.proofs.lemmas.List.{length-map}
use Rattle.vs_grammar.specs.Trees as tree
use Rattle.vs_ast.specs.Views as view
use Rattle.vs_build.specs.Drafts.{home}
use Rattle.vs_build.specs.Growth.{draft}
use Rattle.vs_build.specs.Items.{wire_processes, value_processes, IsDeclared}
use Rattle.vs_build.proofs.ItemFacts.{processes_outside, no_process, more_processes, these_processes, declared_after, each_at, flat_more, all_of, wires_count, process_count, length_taken}
use Rattle.vs_build.proofs.items.wire_each.Goals as goal

pub declared-requires-clause-room : goal.declared-requires-clause-room
declared-requires-clause-room g c = omega (arith, process_count (draft c.args.builder.now) (draft c.loop-d.builder) (wire_processes c.args.place (map view.declarator (take c.loop-d.d-index c.args.names.now)) (g.E.Env.names c.args.env.now)) c.loop-d.invariant, wires_count c.args.place (map view.declarator (take c.loop-d.d-index c.args.names.now)) (g.E.Env.names c.args.env.now), length-map (take c.loop-d.d-index c.args.names.now) view.declarator, length_taken c.loop-d.d-index c.args.names.now, c.requires.room)

pub declared-requires-clause-outside : goal.declared-requires-clause-outside
declared-requires-clause-outside g c = processes_outside (draft c.args.builder.now) (draft c.loop-d.builder) (wire_processes c.args.place (map view.declarator (take c.loop-d.d-index c.args.names.now)) (g.E.Env.names c.args.env.now)) c.loop-d.invariant c.requires.outside

pub declared-requires-clause-fine : goal.declared-requires-clause-fine
declared-requires-clause-fine g c = declared_after (draft c.args.builder.now) (draft c.loop-d.builder) (wire_processes c.args.place (map view.declarator (take c.loop-d.d-index c.args.names.now)) (g.E.Env.names c.args.env.now)) (g.E.Env.names c.args.env.now) (view.declarator c.d-item.result) c.loop-d.invariant (each_at (IsDeclared (home (draft c.args.builder.now)) (g.E.Env.names c.args.env.now)) view.declarator c.args.names.now c.loop-d.d-index c.d-item.result (omega arith) c.d-item.is c.requires.fine)

pub loop-d-init : goal.loop-d-init
loop-d-init g c = no_process (draft c.args.builder.now)

pub loop-d-preserved : goal.loop-d-preserved
loop-d-preserved g c = these_processes (draft c.args.builder.now) (draft c.declared.new.builder) _ _ (sym (flat_more view.declarator (λ (n : tree.Declarator). value_processes c.args.place n.name n.value (g.E.Env.names c.args.env.now)) c.args.names.now c.loop-d.d-index c.d-item.result (omega arith) c.d-item.is)) (more_processes (draft c.args.builder.now) (draft c.loop-d.builder) (draft c.declared.new.builder) (wire_processes c.args.place (map view.declarator (take c.loop-d.d-index c.args.names.now)) (g.E.Env.names c.args.env.now)) (value_processes c.args.place (view.declarator c.d-item.result).name (view.declarator c.d-item.result).value (g.E.Env.names c.args.env.now)) c.loop-d.invariant c.in_ok-declared.ensures)

pub returns : goal.returns
returns g c = these_processes (draft c.args.builder.now) (draft c.loop-d.builder) _ _ (ap (λ xs. wire_processes c.args.place (map view.declarator xs) (g.E.Env.names c.args.env.now)) (all_of c.args.names.now c.loop-d.d-index (omega arith))) c.loop-d.invariant
