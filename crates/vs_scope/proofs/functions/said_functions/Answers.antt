use Rattle.std.proofs.Common.{ℕ, suc, List, map, drop, refl, sym, ◌∙◌, subst, add-one}
use Rattle.std.proofs.lemmas.List.{length-map}
use Rattle.vs_elaborated.specs.Functions.{said_functions}
use Rattle.vs_elaborated.specs.Limits.{the_limits}
use Rattle.vs_maps.specs.MapViews.{pairs}
use Rattle.vs_scope.specs.declared.names.Declaration.{Declaration}
use Rattle.vs_scope.specs.Counts.{counted}
use Rattle.vs_scope.specs.Frames.{around_env}
use Rattle.vs_scope.specs.Functions.{IsSaying, functions_in}
use Rattle.vs_scope.specs.Views.{declaration, entries, pair_entry}
use Rattle.vs_scope.proofs.Evaluations.{shaped_at}
use Rattle.vs_scope.proofs.Saying.{saying_start}
use Rattle.vs_scope.proofs.Steps.{from_place, none_left}
use Rattle.vs_scope.proofs.functions.said_functions.Goals as goal

pub say_declaration-requires-clause-shaped : goal.say_declaration-requires-clause-shaped
say_declaration-requires-clause-shaped c = shaped_at c.args.declarations.now c.loop-d.d-index c.d-item.result c.requires.shaped c.loop-d-test.true c.d-item.is

pub say_declaration-requires-clause-kept : goal.say_declaration-requires-clause-kept
say_declaration-requires-clause-kept c = c.loop-d.invariant.0.kept

pub loop-d-init : goal.loop-d-init
loop-d-init c = (
  saying_start (around_env c.args.around) (record c.args.names.now { plain = c.len-names.result }) (record { fault = _; counts = c.args.names.now.counts }) (map declaration c.args.declarations.now)
      (c.len-names.ensures ∙ sym (length-map (pairs c.args.names.now.map) pair_entry)) (record { functions = c.requires.incomplete.functions; each = c.requires.incomplete.each }) refl refl,
  refl,
  refl,
  refl,
)

pub loop-d-preserved : goal.loop-d-preserved
loop-d-preserved c =
    let ds = c.args.declarations.now in
    let i = c.loop-d.d-index in
    let outer = around_env c.args.around in
    let all = said_functions the_limits c.args.names.now.scope outer (counted c.args.names.now.counts) (map declaration ds) (entries c.args.names.now) in
    let called = functions_in (map declaration ds) in
    let before = subst (λ (x : List Declaration). IsSaying outer c.loop-d.names c.loop-d.said (map declaration x) all called) (from_place ds i c.d-item.result c.loop-d-test.true c.d-item.is) c.loop-d.invariant.0 in
    let e = c.in_ok-said.ensures in (
      subst (λ (n : ℕ). IsSaying outer c.say_declaration.new.names c.in_ok-said.said (map declaration (drop n ds)) all called) (sym (add-one i))
          (e.said (map declaration (drop (suc i) ds)) all called before),
      e.entries ∙ c.loop-d.invariant.1,
      e.scope ∙ c.loop-d.invariant.2,
      e.counts ∙ c.loop-d.invariant.3,
    )

pub returns-clause-said : goal.returns-clause-said
returns-clause-said c =
    let ds = c.args.declarations.now in
    let outer = around_env c.args.around in
    let all = said_functions the_limits c.args.names.now.scope outer (counted c.args.names.now.counts) (map declaration ds) (entries c.args.names.now) in
    subst (λ (x : List Declaration). IsSaying outer c.loop-d.names c.loop-d.said (map declaration x) all (functions_in (map declaration ds))) (none_left ds c.loop-d.d-index c.loop-d-test.false) c.loop-d.invariant.0

pub returns-clause-entries : goal.returns-clause-entries
returns-clause-entries c = c.loop-d.invariant.1

pub returns-clause-scope : goal.returns-clause-scope
returns-clause-scope c = c.loop-d.invariant.2

pub returns-clause-counts : goal.returns-clause-counts
returns-clause-counts c = c.loop-d.invariant.3
