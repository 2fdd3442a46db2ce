use Rattle.std.proofs.Common.{◌≡◌, ◌++◌, true, false, [], if◌then◌else◌, sym, ap, ◌∙◌, subst, append-nil}
use Rattle.std.specs.Prelude.{OnOk}
use Rattle.vs_design.specs.Footprints.{is_stored}
use Rattle.vs_design.specs.Values.{bits_of_signal}
use Rattle.vs_flat.specs.DesignOf.{arena_signals}
use Rattle.vs_flat.specs.Trees.{signal_at}
use Rattle.vs_typed.proofs.words.push_memory.Goals as goal

pub returns-then-is_stored : goal.returns-then-is_stored
returns-then-is_stored c =
    let s = signal_at (arena_signals c.args.shapes.now) c.args.n in
    let e = c.trees_law.ensures.signals c.args.shapes.now c.args.n c.signal.result.now (rw c.flat.ensures.same at c.signal.ensures) in
    let is : is_stored s ≡ true = ap is_stored e ∙ sym (c.is_stored.ensures c.args.n) ∙ c.if-is_stored.true in
    subst (λ b. OnOk c.push_signal.result (c.push_signal.new.out.items ≡ c.args.bits.now.items ++ (if b then bits_of_signal s else []))) (sym is) c.push_signal.ensures

pub returns-else-is_stored : goal.returns-else-is_stored
returns-else-is_stored c =
    let s = signal_at (arena_signals c.args.shapes.now) c.args.n in
    let e = c.trees_law.ensures.signals c.args.shapes.now c.args.n c.signal.result.now (rw c.flat.ensures.same at c.signal.ensures) in
    let is : is_stored s ≡ false = ap is_stored e ∙ sym (c.is_stored.ensures c.args.n) ∙ c.if-is_stored.false in
    subst (λ b. c.args.bits.now.items ≡ c.args.bits.now.items ++ (if b then bits_of_signal s else [])) (sym is) (sym (append-nil c.args.bits.now.items))
