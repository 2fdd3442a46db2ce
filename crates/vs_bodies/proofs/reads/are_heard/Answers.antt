use Rattle.std.proofs.Common.{ℕ, get_or, is_some, sym, ◌∙◌}
use Rattle.vs_const.specs.Mentions.{is_named}
use Rattle.vs_maps.specs.Places.{found_at}
use Rattle.vs_maps.specs.PlaceViews.{placed}
use Rattle.vs_bodies.proofs.MentionSteps.{item_is}
use Rattle.vs_bodies.proofs.Mentioned.{heard_first, heard_more, heard_not, all_heard}
use Rattle.vs_bodies.proofs.reads.are_heard.Goals as goal

pub loop-m-init : goal.loop-m-init
loop-m-init c = heard_first (λ (n : ℕ). is_some (found_at n (placed c.args.named.now))) c.args.list.now

pub loop-m-preserved : goal.loop-m-preserved
loop-m-preserved c =
    heard_more (λ (n : ℕ). is_some (found_at n (placed c.args.named.now))) c.args.list.now c.loop-m.m-index (get_or c.args.list.now c.loop-m.m-index _) c.loop-m-test.true (item_is c.args.list.now c.loop-m.m-index _ c.loop-m-test.true) (sym c.is_unheard.ensures ∙ c.if-is_unheard.false) c.loop-m.invariant

pub returns-then-is_unheard : goal.returns-then-is_unheard
returns-then-is_unheard c = λ ms t same.
    heard_not (λ (n : ℕ). is_some (found_at n (placed c.args.named.now))) (is_named ms) same c.args.list.now ms c.loop-m.m-index (get_or c.args.list.now c.loop-m.m-index _) c.loop-m-test.true (item_is c.args.list.now c.loop-m.m-index _ c.loop-m-test.true) (sym c.is_unheard.ensures ∙ c.if-is_unheard.true) c.loop-m.invariant t

pub returns : goal.returns
returns c = λ ms t same. all_heard (λ (n : ℕ). is_some (found_at n (placed c.args.named.now))) (is_named ms) same c.args.list.now ms c.loop-m.m-index c.loop-m-test.false c.loop-m.invariant t
