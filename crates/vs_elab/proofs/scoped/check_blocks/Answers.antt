use Rattle.std.proofs.Common.{◌≡◌, List, map, sym, ap, ◌∙◌, subst}
use Rattle.vs_grammar.specs.Shapes.{Each, IsValueType}
use Rattle.vs_ast.specs.Views as view
use Rattle.vs_const.specs.Faults.{least}
use Rattle.vs_elaborated.specs.Limits.{the_limits}
use Rattle.vs_elaborated.specs.Environments.{Env, named as names_of}
use Rattle.vs_elaborated.specs.Statements.{Local, TypedStatement}
use Rattle.vs_elaborated.specs.NamedBlocks as spec
use Rattle.vs_scope.specs.declared.names.LocalSignal.{LocalSignal}
use Rattle.vs_scope.specs.Bits.{over}
use Rattle.vs_scope.specs.Frames.{env_at, envs}
use Rattle.vs_scope.specs.Locals.{inside_declared, inside_names, placed_local}
use Rattle.vs_scope.specs.NamedBlocks.{IsSaidBlocks, named}
use Rattle.std.specs.Prelude.{Some}
use Rattle.vs_elab.specs.Scoped.{loops_with}
use Rattle.vs_elab.proofs.ScopedFaults.{faults_found, statement_is}
use Rattle.vs_elab.proofs.ScopedParts.{blocks_shaped}
use Rattle.vs_elab.proofs.scoped.check_blocks.Goals as goal

pub within_blocks-requires-clause-shaped : goal.within_blocks-requires-clause-shaped
within_blocks-requires-clause-shaped c =
    let s = (view.always_block c.args.block.now).statement in
    blocks_shaped (map named c.args.blocks.now) (subst (Each (λ (b : spec.NamedBlock). Each (λ (v : Local). IsValueType v.value_type) b.variables)) (sym c.requires.blocks) (c.named_law.ensures.shaped s c.requires.statement))

pub within_blocks-requires-clause-outside : goal.within_blocks-requires-clause-outside
within_blocks-requires-clause-outside c = c.of-here.ensures.outside

pub returns-in-Some-clause-broken : goal.returns-in-Some-clause-broken
returns-in-Some-clause-broken c =
    let b = view.always_block c.args.block.now in
    let env = env_at (envs c.args.frames.now) (Some c.args.frame) in
    let said = c.in_ok-said.said in
    let names = c.in_ok-said.ensures.names ∙ ap (λ (e : Env). names_of e) c.of-here.ensures.is in
    let is = subst (λ (e : Env). IsSaidBlocks said e c.args.start (map named c.args.blocks.now)) c.of-here.ensures.is c.in_ok-said.ensures.said in
    let most = c.variables_fault-over.ensures ∙ ap (λ (ss : List LocalSignal). least (over the_limits.bits c.args.start.bit (map placed_local ss))) c.as_slice.ensures.value in
    sym (faults_found c.args.frame env c.args.start c.args.loops.now b c.args.blocks.now said c.in_ok-names.names c.in_ok-found.found c.variables_fault-over.result c.first_of-last.result c.first_of-later.result c.first_of-first.result c.requires.blocks names is
    c.in_ok-names.ensures c.in_ok-found.ensures.fault most c.first_of-last.ensures c.first_of-later.ensures c.first_of-first.ensures)
    ∙ c.in-Some.is

pub returns-clause-fair : goal.returns-clause-fair
returns-clause-fair c =
    let b = view.always_block c.args.block.now in
    let env = env_at (envs c.args.frames.now) (Some c.args.frame) in
    let said = c.in_ok-said.said in
    let names = c.in_ok-said.ensures.names ∙ ap (λ (e : Env). names_of e) c.of-here.ensures.is in
    let is = subst (λ (e : Env). IsSaidBlocks said e c.args.start (map named c.args.blocks.now)) c.of-here.ensures.is c.in_ok-said.ensures.said in
    let most = c.variables_fault-over.ensures ∙ ap (λ (ss : List LocalSignal). least (over the_limits.bits c.args.start.bit (map placed_local ss))) c.as_slice.ensures.value in
    sym (faults_found c.args.frame env c.args.start c.args.loops.now b c.args.blocks.now said c.in_ok-names.names c.in_ok-found.found c.variables_fault-over.result c.first_of-last.result c.first_of-later.result c.first_of-first.result c.requires.blocks names is
    c.in_ok-names.ensures c.in_ok-found.ensures.fault most c.first_of-last.ensures c.first_of-later.ensures c.first_of-first.ensures)
    ∙ c.in_default.is

pub returns-clause-names : goal.returns-clause-names
returns-clause-names c = c.in_ok-said.ensures.names ∙ ap (λ (e : Env). names_of e) c.of-here.ensures.is

pub returns-clause-said : goal.returns-clause-said
returns-clause-said c = subst (λ (e : Env). IsSaidBlocks c.in_ok-said.said e c.args.start (map named c.args.blocks.now)) c.of-here.ensures.is c.in_ok-said.ensures.said

pub returns-clause-loops : goal.returns-clause-loops
returns-clause-loops c =
    let b = view.always_block c.args.block.now in
    let env = env_at (envs c.args.frames.now) (Some c.args.frame) in
    let inside = c.in_ok-said.said.inside in
    let names = c.in_ok-said.ensures.names ∙ ap (λ (e : Env). names_of e) c.of-here.ensures.is in
    let is = subst (λ (e : Env). IsSaidBlocks c.in_ok-said.said e c.args.start (map named c.args.blocks.now)) c.of-here.ensures.is c.in_ok-said.ensures.said in
    c.in_ok-found.ensures.loops
    ∙ ap (λ (t : TypedStatement). loops_with c.args.loops.now t) (statement_is c.args.frame env c.args.start c.args.loops.now b (map named c.args.blocks.now) (inside_declared inside) (inside_names inside) c.requires.blocks is.declared names)
