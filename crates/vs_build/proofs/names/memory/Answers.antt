use Rattle.std.proofs.Common.{Some, sym, ap, ◌∙◌, subst}
use Rattle.vs_grammar.specs.Trees.{expr_place}
use Rattle.vs_ast.specs.Views as view
use Rattle.vs_const.specs.declared.names.Named.TheVariants as named
use Rattle.vs_const.specs.Meanings.{Means}
use Rattle.vs_const.specs.Expressions.{constant}
use Rattle.vs_build.proofs.Selects.{natural_least, array_number, plain_number, array_address, no_addresses, no_memory_number}
use Rattle.vs_build.proofs.names.memory.Goals as goal

pub number_within-requires : goal.number_within-requires
number_within-requires g c =
    let find = g.E.Env.names c.args.env.now in
    let means = subst (λ b. Means (named.Memory c.in-Memory.m) (find b)) c.as_slice.ensures c.in-Memory.ensures in
    array_address (find c.args.name.now.text) c.in-Memory.m c.in-Some.words find (view.expr c.args.address.now) means c.if-m.true c.in-Some.is c.requires

pub overflow_sub-n : goal.overflow_sub-n
overflow_sub-n g c =
    let find = g.E.Env.names c.args.env.now in
    let e = view.expr c.args.address.now in
    natural_least c.in-Some.words.right c.in-Some.words.left (expr_place e) (constant e find) c.in_ok-n-in-Some.n c.in_ok-n-in-Some.ensures

pub returns-in-Some-checked_add : goal.returns-in-Some-checked_add
returns-in-Some-checked_add g c =
    let find = g.E.Env.names c.args.env.now in
    let e = view.expr c.args.address.now in
    let means = subst (λ b. Means (named.Memory c.in-Memory.m) (find b)) c.as_slice.ensures c.in-Memory.ensures in
    ap (λ z. Some z) c.in-Some-checked_add.ensures.1
    ∙ sym (array_number (find c.args.name.now.text) c.in-Memory.m c.in-Some.words (expr_place e) (constant e find) c.in_ok-n-in-Some.n means c.if-m.true c.in-Some.is c.in_ok-n-in-Some.ensures)

pub unreachable-unreachable : goal.unreachable-unreachable
unreachable-unreachable g c =
    let find = g.E.Env.names c.args.env.now in
    let means = subst (λ b. Means (named.Memory c.in-Memory.m) (find b)) c.as_slice.ensures c.in-Memory.ensures in
    no_addresses (find c.args.name.now.text) c.in-Memory.m means c.in-None.is

pub returns-else-m : goal.returns-else-m
returns-else-m g c =
    let find = g.E.Env.names c.args.env.now in
    let e = view.expr c.args.address.now in
    let means = subst (λ b. Means (named.Memory c.in-Memory.m) (find b)) c.as_slice.ensures c.in-Memory.ensures in
    sym (plain_number (find c.args.name.now.text) c.in-Memory.m (expr_place e) (constant e find) means c.if-m.false)

pub returns-in_default : goal.returns-in_default
returns-in_default g c =
    let find = g.E.Env.names c.args.env.now in
    let e = view.expr c.args.address.now in
    let means = subst (λ b. Means c.find.result (find b)) c.as_slice.ensures c.find.ensures in
    sym (no_memory_number (find c.args.name.now.text) c.find.result (expr_place e) (constant e find) c.in_default.not-Memory means)
