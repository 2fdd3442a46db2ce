use Rattle.std.proofs.Common.{sym, ◌∙◌, arith}
use Rattle.vs_lexer.proofs.Signs.{within_three, sign_shorter, sign_here}
use Rattle.vs_lexer.proofs.scan.sign.Goals as goal

pub loop-length-init : goal.loop-length-init
loop-length-init c = record { inside = omega arith; same = within_three c.args.text.now c.min-length.result c.requires.some c.requires.start c.min-length.ensures }

pub loop-length-preserved : goal.loop-length-preserved
loop-length-preserved c = record {
  inside = omega arith;
  same = sign_shorter c.args.text.now c.loop-length.length c.loop-length-test.true c.requires.some c.requires.start (sym c.sign_kind.ensures ∙ c.in_default.is) c.loop-length.invariant.same;
}

pub returns-in-Some : goal.returns-in-Some
returns-in-Some c = sym (sign_here c.args.text.now c.loop-length.length c.in-Some.kind c.loop-length-test.true c.requires.some c.requires.start (sym c.sign_kind.ensures ∙ c.in-Some.is) c.loop-length.invariant.same)
