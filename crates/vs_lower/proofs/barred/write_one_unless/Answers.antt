use Rattle.std.proofs.Common.{◌≡◌, ◌∙◌, ◌==◌, ℕ, Bool, true, sym, eqb-true}
use Rattle.vs_lower.proofs.Barring.{leaf_ready, writes_free}
use Rattle.vs_lower.proofs.barred.write_one_unless.Goals as goal

pub write_leaf-requires-clause-names : goal.write_leaf-requires-clause-names
write_leaf-requires-clause-names c = c.requires.ready.names

pub write_leaf-requires-clause-room : goal.write_leaf-requires-clause-room
write_leaf-requires-clause-room c = (leaf_ready c.args.templates.now.arena c.args.env.now c.args.code.now c.args.leaf c.args.index.now c.args.value.now c.args.bar c.requires.ready).room

pub write_leaf-requires-clause-fit : goal.write_leaf-requires-clause-fit
write_leaf-requires-clause-fit c = c.requires.ready.fit

pub write_leaf-requires-clause-long : goal.write_leaf-requires-clause-long
write_leaf-requires-clause-long c = c.requires.ready.long

pub write_leaf-requires-clause-value : goal.write_leaf-requires-clause-value
write_leaf-requires-clause-value c = c.requires.ready.value_below

pub write_leaf-requires-clause-index : goal.write_leaf-requires-clause-index
write_leaf-requires-clause-index c = (leaf_ready c.args.templates.now.arena c.args.env.now c.args.code.now c.args.leaf c.args.index.now c.args.value.now c.args.bar c.requires.ready).index_below

pub write_leaf-requires-clause-indexed : goal.write_leaf-requires-clause-indexed
write_leaf-requires-clause-indexed c = (leaf_ready c.args.templates.now.arena c.args.env.now c.args.code.now c.args.leaf c.args.index.now c.args.value.now c.args.bar c.requires.ready).indexed

is_zero : (bar : ℕ) (q : Bool) → q ≡ (bar == 0) → q ≡ true → bar ≡ 0
is_zero bar q e f = eqb-true bar 0 (sym e ∙ f)

pub returns-then-is_free : goal.returns-then-is_free
returns-then-is_free c =
    writes_free c.args.templates.now.arena c.args.env.now c.write_leaf.new.env c.args.code.now c.write_leaf.new.code c.args.leaf c.args.index.now c.args.value.now c.args.bar (is_zero c.args.bar c.is_free.result c.is_free.ensures c.if-is_free.true) c.in_ok-write_leaf.ensures
