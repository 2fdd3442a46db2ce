use Rattle.std.proofs.Common.{ℕ, suc, List, [], ◌∷◌, map, drop, sym, subst, add-one}
use Rattle.vs_elaborated.specs.Environments.{Entry}
use Rattle.vs_elaborated.specs.Surveys.{block_entries}
use Rattle.vs_scope.specs.declared.made.BlockName.{BlockName}
use Rattle.vs_scope.specs.Made.{block_name}
use Rattle.vs_scope.specs.Views.{entries}
use Rattle.vs_scope.proofs.Steps.{none_left}
use Rattle.vs_scope.proofs.ClashSteps.{AreDeclared, declared_start, declared_more, declared_end, entries_from}
use Rattle.vs_scope.proofs.BlocksBehind.{behind_itself, behind_then}
use Rattle.vs_scope.proofs.names.Names.declare_blocks.Goals as goal

pub loop-name-init : goal.loop-name-init
loop-name-init c = (declared_start (entries c.args.self.now) (block_entries (map block_name c.args.names.now)), behind_itself c.args.self.now)

pub loop-name-preserved : goal.loop-name-preserved
loop-name-preserved c =
    let ns = c.args.names.now in
    let i = c.loop-name.name-index in
    let name = c.name-item.result in
    let start = entries c.args.self.now in
    let all = block_entries (map block_name ns) in (
      subst (λ (n : ℕ). AreDeclared start (entries c.declare_name.new.self) (block_entries (map block_name (drop n ns))) all) (sym (add-one i))
          (declared_more start (entries c.loop-name.self) (entries c.declare_name.new.self) (block_entries (block_name name ∷ [])) (block_entries (map block_name (drop (suc i) ns))) all
          (subst (λ (x : List Entry). AreDeclared start (entries c.loop-name.self) x all) (entries_from ns i name c.loop-name-test.true c.name-item.is) c.loop-name.invariant.0)
          c.in_ok-declare_name.ensures.same c.in_ok-declare_name.ensures.new),
      behind_then c.args.self.now c.loop-name.self c.declare_name.new.self c.loop-name.invariant.1 c.in_ok-declare_name.ensures.behind,
    )

pub returns-clause-same : goal.returns-clause-same
returns-clause-same c =
    let ns = c.args.names.now in
    let start = entries c.args.self.now in
    let all = block_entries (map block_name ns) in
    (declared_end start (entries c.loop-name.self) all (subst (λ (x : List BlockName). AreDeclared start (entries c.loop-name.self) (block_entries (map block_name x)) all) (none_left ns c.loop-name.name-index c.loop-name-test.false) c.loop-name.invariant.0)).0

pub returns-clause-new : goal.returns-clause-new
returns-clause-new c =
    let ns = c.args.names.now in
    let start = entries c.args.self.now in
    let all = block_entries (map block_name ns) in
    (declared_end start (entries c.loop-name.self) all (subst (λ (x : List BlockName). AreDeclared start (entries c.loop-name.self) (block_entries (map block_name x)) all) (none_left ns c.loop-name.name-index c.loop-name-test.false) c.loop-name.invariant.0)).1

pub returns-clause-behind : goal.returns-clause-behind
returns-clause-behind c = c.loop-name.invariant.1
