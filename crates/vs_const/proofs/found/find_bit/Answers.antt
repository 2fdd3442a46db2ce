use Rattle.std.proofs.Common.{subst, Bool}
use Rattle.vs_const.specs.Meanings.{Means}
use Rattle.vs_const.specs.Found.{Says}
use Rattle.vs_const.proofs.Arms.{bit_arm}
use Rattle.vs_const.proofs.WordArms.{no_array, memory_bit}
use Rattle.vs_const.proofs.found.find_bit.Goals as goal

pub returns-in-Memory : goal.returns-in-Memory
returns-in-Memory c = λ m t f k h.
    memory_bit c.args.needed c.args.place c.in-Memory.s m c.args.at t c.args.i c.find_address.result c.word.result (subst (λ n. Means n m) c.in-Memory.is k) h c.find_address.ensures c.word.ensures

pub returns-in_default : goal.returns-in_default
returns-in_default c = λ m t f k h.
    bit_arm c.args.needed c.args.place c.args.named.now m c.args.at t c.find_one_bit.result c.in_default.not-Memory k
    (c.find_one_bit.ensures m t f k (no_array (λ (b : Bool). Says b c.args.i t) c.args.named.now m c.args.needed c.in_default.not-Memory k h))
