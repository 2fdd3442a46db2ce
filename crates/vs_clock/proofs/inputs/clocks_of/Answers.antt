use Rattle.std.proofs.Common.{List, ℕ, map, sym, ◌∙◌}
use Rattle.std.specs.Borrow.{Bor}
use Rattle.vs_flat.specs.DesignOf.{design_of}
use Rattle.vs_clock.proofs.Refusing.{no_inputs_by, none_given, some_given, named_as_clocks}
use Rattle.vs_clock.proofs.inputs.clocks_of.Goals as goal

pub returns-then-is_empty : goal.returns-then-is_empty
returns-then-is_empty c =
    let f : Bor (List ℕ) → List ℕ = λ n. n.now in
    no_inputs_by c.args.flat.now (map f c.args.clocks.now) _ _ c.count_bits.result (none_given f c.args.clocks.now (sym c.is_empty.ensures ∙ c.if-is_empty.true)) c.new.ensures.items c.in_ok-bits.ensures.items
    (c.count_bits.ensures ∙ sym (c.trees_law.ensures.counts c.args.flat.now).bits)

pub returns : goal.returns
returns c =
    let f : Bor (List ℕ) → List ℕ = λ n. n.now in
    named_as_clocks (design_of c.args.flat.now) (map f c.args.clocks.now) c.named_clocks.result (λ e. some_given f c.args.clocks.now (sym c.is_empty.ensures ∙ c.if-is_empty.false) e) c.named_clocks.ensures
