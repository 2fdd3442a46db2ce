use Rattle.std.proofs.Common.{◌+◌, take, List, refl, sym, ap, ◌∙◌}
use Rattle.vs_ast.specs.declared.statements.Target.{Target}
use Rattle.vs_ast.specs.Views as view
use Rattle.vs_const.proofs.Mentioning.{both_told, none_told}
use Rattle.vs_const.specs.MentionViews.{all_told}
use Rattle.vs_elaborated.specs.Reads.{target_mentions}
use Rattle.vs_bodies.proofs.FaultLists.{concatenation_view}
use Rattle.vs_bodies.proofs.MentionedParts.{ok_same, all_parts, part_more, targets_of}
use Rattle.vs_bodies.proofs.reads.+targets.Goals as goal

pub push_target-returns-in-Concatenation : goal.push_target-returns-in-Concatenation
push_target-returns-in-Concatenation g t c =
    let find = g.E.Env.names c.args.env.now in
    let w = c.in-Concatenation in
    ok_same c.push_targets.result (all_told c.args.list.now.items) (all_told c.push_targets.new.list.items) (targets_of find c.deref.result.now) (target_mentions (view.target c.args.t.now) find)
    (ap (λ (xs : List Target). targets_of find xs) c.deref.ensures.value ∙ sym (ap (λ x. target_mentions x find) (ap view.target w.is ∙ concatenation_view w.place w.parts))) c.push_targets.ensures

pub push_targets-loop-part-init : goal.push_targets-loop-part-init
push_targets-loop-part-init g t c = none_told (all_told c.args.list.now.items)

pub push_targets-loop-part-preserved : goal.push_targets-loop-part-preserved
push_targets-loop-part-preserved g t c =
    let find = g.E.Env.names c.args.env.now in
    let xs = c.args.parts.now in
    let i = c.loop-part.part-index in
    both_told (all_told c.args.list.now.items) (all_told c.loop-part.list.items) (all_told c.push_target.new.list.items) (targets_of find (take i xs)) (target_mentions (view.target c.part-item.result) find) (targets_of find (take (i + 1) xs))
    c.loop-part.invariant c.in_ok-push_target.ensures
    (part_more (targets_of find) (λ (x : Target). target_mentions (view.target x) find) refl (λ x ys. refl) xs i c.part-item.result c.loop-part-test.true c.part-item.is)

pub push_targets-returns : goal.push_targets-returns
push_targets-returns g t c =
    all_parts (targets_of (g.E.Env.names c.args.env.now)) c.args.parts.now c.loop-part.part-index (all_told c.args.list.now.items) (all_told c.loop-part.list.items) c.loop-part-test.false c.loop-part.invariant
