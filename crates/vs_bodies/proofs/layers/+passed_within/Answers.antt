use Rattle.std.proofs.Common.{ℕ, List, Option, sym, ap, ◌∙◌}
use Rattle.vs_design.specs.Clocks.{same_name}
use Rattle.vs_bodies.specs.declared.layers.Layers.{Layers}
use Rattle.vs_bodies.specs.declared.layers.Local.{Local}
use Rattle.vs_bodies.specs.Layers.{meaning_or, within}
use Rattle.vs_bodies.proofs.PassedLayers.{other_called, turn_called}
use Rattle.vs_bodies.proofs.layers.+passed_within.Goals as goal

pub returns-in-End : goal.returns-in-End
returns-in-End g t c = λ f is.
    let declared = g.S.Surroundings.declared c.args.around.now in
    let find = g.S.Env.names c.args.around.now in
    c.passed.ensures f (sym (ap (λ (l : Layers). within declared l find c.args.name.now) c.in-End.is) ∙ is)

pub returns-then-is_same_name : goal.returns-then-is_same_name
returns-then-is_same_name g t c = λ f is.
    let declared = g.S.Surroundings.declared c.args.around.now in
    let find = g.S.Env.names c.args.around.now in
    let name = c.args.name.now in
    absurd (turn_called c.in-Turn.bits (same_name c.in-Turn.integer.now.text name) (within declared c.in-Turn.outer.now find name) f (sym (ap (λ (l : Layers). within declared l find name) c.in-Turn.is) ∙ is)
    (ap (λ (n : List ℕ). same_name n name) (sym c.as_slice.ensures) ∙ sym c.is_same_name.ensures ∙ c.if-is_same_name.true))

pub returns-else-is_same_name : goal.returns-else-is_same_name
returns-else-is_same_name g t c = λ f is.
    let declared = g.S.Surroundings.declared c.args.around.now in
    let find = g.S.Env.names c.args.around.now in
    let name = c.args.name.now in
    c.passed_within.ensures f
    (other_called c.in-Turn.bits (same_name c.in-Turn.integer.now.text name) (within declared c.in-Turn.outer.now find name) f (sym (ap (λ (l : Layers). within declared l find name) c.in-Turn.is) ∙ is)
    (ap (λ (n : List ℕ). same_name n name) (sym c.as_slice.ensures) ∙ sym c.is_same_name.ensures ∙ c.if-is_same_name.false))

pub returns-in-None : goal.returns-in-None
returns-in-None g t c = λ f is.
    let declared = g.S.Surroundings.declared c.args.around.now in
    let find = g.S.Env.names c.args.around.now in
    let name = c.args.name.now in
    let m = within declared c.in-Block.outer.now find name in
    c.passed_within-in-None.ensures f
    (sym (ap (λ (l : Layers). within declared l find name) c.in-Block.is ∙ ap (λ (o : Option Local). meaning_or declared o m) (sym c.get.ensures.value ∙ sym c.copied.ensures ∙ c.in-None.is)) ∙ is)

pub returns-in-Some : goal.returns-in-Some
returns-in-Some g t c = λ f is.
    let declared = g.S.Surroundings.declared c.args.around.now in
    let find = g.S.Env.names c.args.around.now in
    let name = c.args.name.now in
    let m = within declared c.in-Block.outer.now find name in
    absurd (c.declared.ensures.plain f
    (sym (ap (λ (l : Layers). within declared l find name) c.in-Block.is ∙ ap (λ (o : Option Local). meaning_or declared o m) (sym c.get.ensures.value ∙ sym c.copied.ensures ∙ c.in-Some.is)) ∙ is))
