use Rattle.std.proofs.Common.{◌≡◌, ◌<◌, ◌^◌, List, None, OnOk, length, map, sym, ap, ◌∙◌, subst}
use Rattle.std.proofs.lemmas.List.{length-map}
use Rattle.vs_design.specs.Designs.{Scope, bit_count}
use Rattle.vs_ast.specs.Views as view
use Rattle.vs_elaborated.specs.NamedBlocks.{named_scope, named_scopes}
use Rattle.vs_build.specs.Drafts.{Draft, and_process, home}
use Rattle.vs_build.specs.Executable.{IsRunnable, block_process}
use Rattle.vs_build.specs.Growth.{draft}
use Rattle.vs_scope.specs.declared.names.LocalSignal.{LocalSignal}
use Rattle.vs_scope.specs.Locals.{inside_declared, inside_names}
use Rattle.vs_scope.specs.NamedBlocks.{named}
use Rattle.vs_elab.specs.Functions.{signals_of}
use Rattle.vs_elab.specs.Opening.{Follow, and_signals}
use Rattle.vs_elab.specs.Scoped.{and_scopes, with_variables}
use Rattle.vs_elab.proofs.ScopedParts.{follow_behind}
use Rattle.vs_elab.proofs.scoped.build_blocks.Goals as goal

pub add_variables-requires : goal.add_variables-requires
add_variables-requires c =
    let old = draft c.args.builder.now in
    let t = draft c.add_blocks.new.builder in
    let bs = map named c.args.blocks.now in
    subst (λ (ss : List LocalSignal). Follow (length t.design.scopes) (length t.design.signals) (bit_count t.design) (signals_of ss)) (sym c.as_slice.ensures.value)
    (follow_behind old t (named_scopes c.args.frame c.args.first bs) c.args.first (length c.args.blocks.now) (signals_of c.args.inside.now.locals.signals.items) c.requires.first
    (length-map bs (named_scope c.args.frame c.args.first) ∙ length-map c.args.blocks.now named) c.in_ok-add_blocks.ensures c.requires.follow)

-- the draft with its scopes and variables
added : (old t u : Draft) (xs : List Scope) (those : List LocalSignal) (ss : List LocalSignal) → t ≡ and_scopes old xs → those ≡ ss → u ≡ and_signals t (signals_of those) → u ≡ with_variables old xs (signals_of ss)
added old t u xs those ss h e k = k ∙ ap (λ (x : List LocalSignal). and_signals t (signals_of x)) e ∙ ap (λ (x : Draft). and_signals x (signals_of ss)) h

pub always_within-requires-clause-room : goal.always_within-requires-clause-room
always_within-requires-clause-room c =
    let bs = map named c.args.blocks.now in
    let is = added (draft c.args.builder.now) (draft c.add_blocks.new.builder) (draft c.add_variables.new.builder) (named_scopes c.args.frame c.args.first bs) c.as_slice.result.now c.args.inside.now.locals.signals.items c.in_ok-add_blocks.ensures c.as_slice.ensures.value c.in_ok-add_variables.ensures in
    subst (λ (x : Draft). length x.design.processes < 2 ^ 16) (sym is) c.requires.room

pub always_within-requires-clause-outside : goal.always_within-requires-clause-outside
always_within-requires-clause-outside c =
    let bs = map named c.args.blocks.now in
    let is = added (draft c.args.builder.now) (draft c.add_blocks.new.builder) (draft c.add_variables.new.builder) (named_scopes c.args.frame c.args.first bs) c.as_slice.result.now c.args.inside.now.locals.signals.items c.in_ok-add_blocks.ensures c.as_slice.ensures.value c.in_ok-add_variables.ensures in
    subst (λ (x : Draft). x.function ≡ None) (sym is) c.requires.outside

pub always_within-requires-clause-fine : goal.always_within-requires-clause-fine
always_within-requires-clause-fine c =
    let bs = map named c.args.blocks.now in
    let is = added (draft c.args.builder.now) (draft c.add_blocks.new.builder) (draft c.add_variables.new.builder) (named_scopes c.args.frame c.args.first bs) c.as_slice.result.now c.args.inside.now.locals.signals.items c.in_ok-add_blocks.ensures c.as_slice.ensures.value c.in_ok-add_variables.ensures in
    subst (λ (x : Draft). IsRunnable (home x) (inside_declared c.args.inside.now) (inside_names c.args.inside.now) (view.always_block c.args.block.now)) (sym is) c.requires.fine

pub returns : goal.returns
returns c =
    let bs = map named c.args.blocks.now in
    let is = added (draft c.args.builder.now) (draft c.add_blocks.new.builder) (draft c.add_variables.new.builder) (named_scopes c.args.frame c.args.first bs) c.as_slice.result.now c.args.inside.now.locals.signals.items c.in_ok-add_blocks.ensures c.as_slice.ensures.value c.in_ok-add_variables.ensures in
    subst (λ (x : Draft). OnOk c.always_within.result (draft c.always_within.new.builder ≡ and_process x (block_process (inside_declared c.args.inside.now) (view.always_block c.args.block.now) (inside_names c.args.inside.now)))) is c.always_within.ensures
