use Rattle.std.proofs.Common.{◌≡◌, ◌+◌, ◌||◌, ℕ, nat_lt, Option, refl, sym, ap, ◌∙◌}
use Rattle.vs_ast.specs.Views as view
use Rattle.vs_const.specs.declared.faults.Fault.{Fault}
use Rattle.vs_const.specs.declared.faults.Flaws.{Flaws}
use Rattle.vs_const.specs.Faults.{fault, least, better}
use Rattle.vs_const.specs.declared.rules.Rule.TheVariants.{GenerateTurns}
use Rattle.vs_const.proofs.Least.{least_append}
use Rattle.vs_elaborated.specs.Limits.{the_limits}
use Rattle.vs_elaborated.specs.Loops.{step}
use Rattle.vs_scope.specs.Frames.{view_env}
use Rattle.vs_scope.proofs.TurnSteps.{taken_over, taken_within}
use Rattle.vs_scope.proofs.turns.taken.Goals as goal

pub returns-then-is_over : goal.returns-then-is_over
returns-then-is_over c = λ fs h.
    let head = view.loop_head c.args.head.now in
    let n : c.in_ok-count.count ≡ c.args.total + 1 = c.in_ok-count.ensures in
    taken_over c.ended.result c.args.is_last head c.args.is_same (view_env c.args.inside.now) fs c.args.total (ap (λ (x : ℕ). c.args.is_last || nat_lt the_limits.all_turns x) (sym n) ∙ sym c.is_over.ensures ∙ c.if-is_over.true)
    (record {
      taken = ap (λ t. t.taken) c.ended.ensures;
      next = ap (λ t. t.next) c.ended.ensures;
      fault =
          ap (λ t. t.fault) c.ended.ensures ∙ c.first_of.ensures ∙ ap (λ (x : Option Fault). better x c.fault_at.result) h ∙ ap (better (least fs)) c.fault_at.ensures ∙ sym (least_append fs (fault GenerateTurns head.place));
      count = ap (λ t. t.count) c.ended.ensures ∙ n;
    })

pub returns : goal.returns
returns c = λ fs h.
    let head = view.loop_head c.args.head.now in
    let n : c.in_ok-count.count ≡ c.args.total + 1 = c.in_ok-count.ensures in
    let next = step c.args.is_same head (view_env c.args.inside.now) in
    taken_within _ c.args.is_last head c.args.is_same (view_env c.args.inside.now) fs c.args.total (ap (λ (x : ℕ). c.args.is_last || nat_lt the_limits.all_turns x) (sym n) ∙ sym c.is_over.ensures ∙ c.if-is_over.false)
    (record {
      taken = refl;
      next = c.in_ok-next.ensures.number;
      fault = c.first_of-2.ensures ∙ ap (λ (x : Option Fault). better x c.in_ok-next.next.flaws.first) h ∙ ap (better (least fs)) (ap (λ (f : Flaws). f.first) c.in_ok-next.ensures.flaws) ∙ sym (least_append fs next.faults);
      count = n;
    })
