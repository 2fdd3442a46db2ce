use Rattle.std.proofs.Common.{ℕ, Vec, Global}
use Rattle.std.proofs.lemmas.Result.{IfOk-weaker}
use Rattle.vs_values.specs.Calling.{IsInlined, IsInlinedTo}
use Rattle.vs_values.specs.Templates.{function_at}
use Rattle.vs_values.proofs.Tables.{entry_at, fits_entry, never_none, inlined_is}
use Rattle.vs_values.proofs.templates.Templates.inlined.Goals as goal

pub inline-requires : goal.inline-requires
inline-requires c =
    let f = function_at c.args.self.now.arena c.args.function in
    fits_entry f c.in-Some.template c.index.result.now c.args.code.now c.args.slots.now
    (entry_at c.self.inside.typed.now c.self.inside.table.items c.args.self.now c.args.function c.index.result.now c.self.view_is c.self.invariant c.requires.function c.index.ensures) c.in-Some.is c.requires.ready

pub unreachable-requires : goal.unreachable-requires
unreachable-requires c =
    let f = function_at c.args.self.now.arena c.args.function in
    never_none f c.index.result.now c.args.code.now c.args.slots.now
    (entry_at c.self.inside.typed.now c.self.inside.table.items c.args.self.now c.args.function c.index.result.now c.self.view_is c.self.invariant c.requires.function c.index.ensures) c.in-None.is c.requires.ready

pub returns : goal.returns
returns c =
    let f = function_at c.args.self.now.arena c.args.function in
    let entry = entry_at c.self.inside.typed.now c.self.inside.table.items c.args.self.now c.args.function c.index.result.now c.self.view_is c.self.invariant c.requires.function c.index.ensures in
    IfOk-weaker c.inline.result
    (λ (to : Vec ℕ Global). IsInlinedTo c.in-Some.template c.args.slots.now c.args.code.now c.inline.new.code to.items)
    (λ (to : Vec ℕ Global). IsInlined f c.args.slots.now c.args.code.now c.inline.new.code to.items)
    (λ to h. inlined_is f c.in-Some.template c.index.result.now c.args.code.now c.inline.new.code c.args.slots.now to.items entry c.in-Some.is h)
    c.inline.ensures
