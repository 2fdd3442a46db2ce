use Rattle.std.proofs.Common.{List, ◌+◌, length, map, refl, ap, sym, ◌∙◌, arith}
use Rattle.vs_design.specs.Designs.{Design}
use Rattle.vs_grammar.specs.Trees as tree
use Rattle.vs_grammar.specs.Depths.{statement_depth}
use Rattle.vs_ast.specs.Views as view
use Rattle.vs_ast.specs.declared.items.Event.{Event as TextEvent}
use Rattle.vs_flat.specs.declared.processes.Event.{Event}
use Rattle.vs_elaborated.specs.Statements.{typed_statement}
use Rattle.vs_elaborated.specs.Surveys.{body_with}
use Rattle.vs_flat.specs.Named.{all_below}
use Rattle.vs_flat.specs.Trees.{signal_at}
use Rattle.vs_build.specs.Drafts.{home, and_process}
use Rattle.vs_build.specs.Growth.{draft}
use Rattle.vs_build.specs.Executable.{block_process}
use Rattle.vs_build.proofs.AssignFacts.{ok_is}
use Rattle.vs_build.proofs.Awaiting.{body_added, runs_outside, still_outside, events_below, body_executable, control_clean, block_ends, same_signals, star_block, listed_block}
use Rattle.vs_build.proofs.blocks.always_within.Goals as goal

pub statement-requires : goal.statement-requires
statement-requires g c = body_executable (home (draft c.args.builder.now)) (g.S.Surroundings.declared c.args.around.now) (g.S.Env.names c.args.around.now) (view.always_block c.args.block.now) c.is_clocked.result c.is_clocked.ensures c.requires.fine

pub always-requires-clause-outside : goal.always-requires-clause-outside
always-requires-clause-outside g c = still_outside (draft c.args.builder.now) (draft c.statement.new.builder) (typed_statement (view.always_block c.args.block.now).statement (body_with (g.S.Surroundings.declared c.args.around.now) (view.always_block c.args.block.now)) (g.S.Env.names c.args.around.now)).statement (1 + statement_depth (view.always_block c.args.block.now).statement) (body_added (draft c.args.builder.now) (draft c.statement.new.builder) (g.S.Surroundings.declared c.args.around.now) (g.S.Env.names c.args.around.now) (view.always_block c.args.block.now) c.is_clocked.result (1 + statement_depth (view.always_block c.args.block.now).statement) c.is_clocked.ensures c.in_ok-statement.ensures) c.requires.outside

pub always-requires-in-Listed-clause-outside : goal.always-requires-in-Listed-clause-outside
always-requires-in-Listed-clause-outside g c = still_outside (draft c.args.builder.now) (draft c.statement.new.builder) (typed_statement (view.always_block c.args.block.now).statement (body_with (g.S.Surroundings.declared c.args.around.now) (view.always_block c.args.block.now)) (g.S.Env.names c.args.around.now)).statement (1 + statement_depth (view.always_block c.args.block.now).statement) (body_added (draft c.args.builder.now) (draft c.statement.new.builder) (g.S.Surroundings.declared c.args.around.now) (g.S.Env.names c.args.around.now) (view.always_block c.args.block.now) c.is_clocked.result (1 + statement_depth (view.always_block c.args.block.now).statement) c.is_clocked.ensures c.in_ok-statement.ensures) c.requires.outside

pub always-requires-clause-ends : goal.always-requires-clause-ends
always-requires-clause-ends g c = block_ends (draft c.args.builder.now) (draft c.statement.new.builder) (typed_statement (view.always_block c.args.block.now).statement (body_with (g.S.Surroundings.declared c.args.around.now) (view.always_block c.args.block.now)) (g.S.Env.names c.args.around.now)).statement (1 + statement_depth (view.always_block c.args.block.now).statement) (body_added (draft c.args.builder.now) (draft c.statement.new.builder) (g.S.Surroundings.declared c.args.around.now) (g.S.Env.names c.args.around.now) (view.always_block c.args.block.now) c.is_clocked.result (1 + statement_depth (view.always_block c.args.block.now).statement) c.is_clocked.ensures c.in_ok-statement.ensures) (omega (arith, c.requires.fine.shallow))

pub events-requires : goal.events-requires
events-requires g c = (control_clean (draft c.args.builder.now).design (g.S.Surroundings.declared c.args.around.now) (g.S.Env.names c.args.around.now) (view.always_block c.args.block.now) (tree.Listed (map view.event c.deref.result.now)) (ap view.event_control c.in-Listed.is ∙ ap (λ (xs : List TextEvent). tree.Listed (map view.event xs)) (sym c.deref.ensures.value)) (runs_outside (draft c.args.builder.now) (g.S.Surroundings.declared c.args.around.now) (g.S.Env.names c.args.around.now) (view.always_block c.args.block.now) c.requires.outside c.requires.fine))

pub always-requires-in-Listed-clause-there : goal.always-requires-in-Listed-clause-there
always-requires-in-Listed-clause-there g c =
    ap (λ (d : Design). all_below (length d.signals) (map (λ (e : Event). e.signal) c.in_ok-waited-in-Listed.waited.items)) (sym (same_signals (draft c.args.builder.now) (draft c.statement.new.builder) (typed_statement (view.always_block c.args.block.now).statement (body_with (g.S.Surroundings.declared c.args.around.now) (view.always_block c.args.block.now)) (g.S.Env.names c.args.around.now)).statement (1 + statement_depth (view.always_block c.args.block.now).statement) (body_added (draft c.args.builder.now) (draft c.statement.new.builder) (g.S.Surroundings.declared c.args.around.now) (g.S.Env.names c.args.around.now) (view.always_block c.args.block.now) c.is_clocked.result (1 + statement_depth (view.always_block c.args.block.now).statement) c.is_clocked.ensures c.in_ok-statement.ensures)))
    ∙ events_below (draft c.args.builder.now).design (g.S.Env.names c.args.around.now) (map view.event c.deref.result.now) c.in_ok-waited-in-Listed.waited.items (runs_outside (draft c.args.builder.now) (g.S.Surroundings.declared c.args.around.now) (g.S.Env.names c.args.around.now) (view.always_block c.args.block.now) c.requires.outside c.requires.fine).sound (control_clean (draft c.args.builder.now).design (g.S.Surroundings.declared c.args.around.now) (g.S.Env.names c.args.around.now) (view.always_block c.args.block.now) (tree.Listed (map view.event c.deref.result.now)) (ap view.event_control c.in-Listed.is ∙ ap (λ (xs : List TextEvent). tree.Listed (map view.event xs)) (sym c.deref.ensures.value)) (runs_outside (draft c.args.builder.now) (g.S.Surroundings.declared c.args.around.now) (g.S.Env.names c.args.around.now) (view.always_block c.args.block.now) c.requires.outside c.requires.fine)) c.in_ok-waited-in-Listed.ensures

pub always-requires-in-Listed-clause-ends : goal.always-requires-in-Listed-clause-ends
always-requires-in-Listed-clause-ends g c = block_ends (draft c.args.builder.now) (draft c.statement.new.builder) (typed_statement (view.always_block c.args.block.now).statement (body_with (g.S.Surroundings.declared c.args.around.now) (view.always_block c.args.block.now)) (g.S.Env.names c.args.around.now)).statement (1 + statement_depth (view.always_block c.args.block.now).statement) (body_added (draft c.args.builder.now) (draft c.statement.new.builder) (g.S.Surroundings.declared c.args.around.now) (g.S.Env.names c.args.around.now) (view.always_block c.args.block.now) c.is_clocked.result (1 + statement_depth (view.always_block c.args.block.now).statement) c.is_clocked.ensures c.in_ok-statement.ensures) (omega (arith, c.requires.fine.shallow))

pub returns-in-Star : goal.returns-in-Star
returns-in-Star g c =
    ok_is c.always.result (draft c.always.new.self) _ (and_process (draft c.args.builder.now) (block_process (g.S.Surroundings.declared c.args.around.now) (view.always_block c.args.block.now) (g.S.Env.names c.args.around.now)))
    (star_block (draft c.args.builder.now) (g.S.Surroundings.declared c.args.around.now) (g.S.Env.names c.args.around.now) (view.always_block c.args.block.now) c.args.block.now.place c.new.result.items (signal_at (draft c.statement.new.builder).design.signals) c.new.ensures.items (ap view.event_control c.in-Star.is) refl)
    (c.always.ensures (draft c.args.builder.now) (typed_statement (view.always_block c.args.block.now).statement (body_with (g.S.Surroundings.declared c.args.around.now) (view.always_block c.args.block.now)) (g.S.Env.names c.args.around.now)).statement (1 + statement_depth (view.always_block c.args.block.now).statement) (body_added (draft c.args.builder.now) (draft c.statement.new.builder) (g.S.Surroundings.declared c.args.around.now) (g.S.Env.names c.args.around.now) (view.always_block c.args.block.now) c.is_clocked.result (1 + statement_depth (view.always_block c.args.block.now).statement) c.is_clocked.ensures c.in_ok-statement.ensures))

pub returns-in_ok-waited-in-Listed : goal.returns-in_ok-waited-in-Listed
returns-in_ok-waited-in-Listed g c =
    ok_is c.always-in-Listed.result (draft c.always-in-Listed.new.self) _ (and_process (draft c.args.builder.now) (block_process (g.S.Surroundings.declared c.args.around.now) (view.always_block c.args.block.now) (g.S.Env.names c.args.around.now)))
    (listed_block (draft c.args.builder.now) (draft c.statement.new.builder) (g.S.Surroundings.declared c.args.around.now) (g.S.Env.names c.args.around.now) (view.always_block c.args.block.now) c.args.block.now.place (map view.event c.deref.result.now) c.in_ok-waited-in-Listed.waited.items (runs_outside (draft c.args.builder.now) (g.S.Surroundings.declared c.args.around.now) (g.S.Env.names c.args.around.now) (view.always_block c.args.block.now) c.requires.outside c.requires.fine) (same_signals (draft c.args.builder.now) (draft c.statement.new.builder) (typed_statement (view.always_block c.args.block.now).statement (body_with (g.S.Surroundings.declared c.args.around.now) (view.always_block c.args.block.now)) (g.S.Env.names c.args.around.now)).statement (1 + statement_depth (view.always_block c.args.block.now).statement) (body_added (draft c.args.builder.now) (draft c.statement.new.builder) (g.S.Surroundings.declared c.args.around.now) (g.S.Env.names c.args.around.now) (view.always_block c.args.block.now) c.is_clocked.result (1 + statement_depth (view.always_block c.args.block.now).statement) c.is_clocked.ensures c.in_ok-statement.ensures)) c.in_ok-waited-in-Listed.ensures (ap view.event_control c.in-Listed.is ∙ ap (λ (xs : List TextEvent). tree.Listed (map view.event xs)) (sym c.deref.ensures.value)) refl)
    (c.always-in-Listed.ensures (draft c.args.builder.now) (typed_statement (view.always_block c.args.block.now).statement (body_with (g.S.Surroundings.declared c.args.around.now) (view.always_block c.args.block.now)) (g.S.Env.names c.args.around.now)).statement (1 + statement_depth (view.always_block c.args.block.now).statement) (body_added (draft c.args.builder.now) (draft c.statement.new.builder) (g.S.Surroundings.declared c.args.around.now) (g.S.Env.names c.args.around.now) (view.always_block c.args.block.now) c.is_clocked.result (1 + statement_depth (view.always_block c.args.block.now).statement) c.is_clocked.ensures c.in_ok-statement.ensures))
