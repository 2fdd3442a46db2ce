use Rattle.std.proofs.Common.{◌≤◌, ◌<◌, length, arith}
use Rattle.vs_vcd.proofs.Linking.{joined_high, joined_low}
use Rattle.vs_vcd.proofs.links.join.Goals as goal

pub returns-then-a-b-clause-joined : goal.returns-then-a-b-clause-joined
returns-then-a-b-clause-joined c = λ code h.
    let first = c.first_of-a.ensures.kept code h in
    let second = c.first_of-b.ensures.kept code first in
    let a = c.first_of-a.result in
    let b = c.first_of-b.result in
    let there : b < length c.first_of-b.new.links = omega (arith, c.first_of-b.ensures.there, c.first_of-b.ensures.count) in
    joined_low code c.first_of-b.new.links c.args.one c.args.other a b second there (c.first_of-a.ensures.code code h) (c.first_of-b.ensures.code code first)
    (first.first a (omega (arith, c.first_of-a.ensures.there, c.first_of-a.ensures.count)) c.first_of-a.ensures.first)
    (second.first b there c.first_of-b.ensures.first)
    c.if-a-b.true

pub returns-else-a-b-clause-joined : goal.returns-else-a-b-clause-joined
returns-else-a-b-clause-joined c = λ code h.
    let first = c.first_of-a.ensures.kept code h in
    let second = c.first_of-b.ensures.kept code first in
    let a = c.first_of-a.result in
    let b = c.first_of-b.result in
    let there : b < length c.first_of-b.new.links = omega (arith, c.first_of-b.ensures.there, c.first_of-b.ensures.count) in
    let here : a < length c.first_of-b.new.links = omega (arith, c.first_of-a.ensures.there, c.first_of-a.ensures.count, c.first_of-b.ensures.count) in
    let le : b ≤ a = omega (arith, c.if-a-b.false) in
    joined_high code c.first_of-b.new.links c.args.one c.args.other a b second here (c.first_of-a.ensures.code code h) (c.first_of-b.ensures.code code first)
    (first.first a (omega (arith, c.first_of-a.ensures.there, c.first_of-a.ensures.count)) c.first_of-a.ensures.first)
    (second.first b there c.first_of-b.ensures.first)
    le
