use Rattle.std.proofs.Common.{sym, arith}
use Rattle.std.proofs.lemmas.List.{append-nil}
use Rattle.vs_bench.specs.Texts.{binary}
use Rattle.vs_bench.proofs.TextLemmas.{digit_pushed}
use Rattle.vs_bench.proofs.texts.push_binary.Goals as goal

pub loop-place-init : goal.loop-place-init
unfolding binary
loop-place-init c = sym (append-nil c.args.text.now.items)

pub loop-place-preserved : goal.loop-place-preserved
loop-place-preserved c =
    digit_pushed c.args.text.now.items c.loop-place.text.items c.push.new.self.items c.args.number c.loop-place.place (omega arith) (omega arith) c.loop-place.invariant c.in_ok-push.ensures.items
