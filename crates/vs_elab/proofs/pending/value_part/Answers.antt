use Rattle.std.proofs.Common.{Bool, if◌then◌else◌, sym, ap, ◌∙◌, subst}
use Rattle.vs_ast.specs.Views as view
use Rattle.vs_elaborated.specs.Surveys.{value_said, wire_said}
use Rattle.vs_elab.specs.Fine.{IsFineValue}
use Rattle.vs_elab.proofs.pending.value_part.Goals as goal

pub returns-then-is_reg : goal.returns-then-is_reg
returns-then-is_reg c =
    let n = view.name c.args.name.now in
    let e = view.expr c.args.value.now in
    let variable = sym c.is_reg.ensures ∙ c.if-is_reg.true in
    record {
      pieces = λ source around. ap (λ (b : Bool). (if b then value_said around.env n e else wire_said around.env c.args.place n e).pieces) (sym variable);
      fine = λ source env f. subst (λ (b : Bool). IsFineValue env b n e) variable f;
    }

pub returns-else-is_reg : goal.returns-else-is_reg
returns-else-is_reg c =
    let n = view.name c.args.name.now in
    let e = view.expr c.args.value.now in
    let net = sym c.is_reg.ensures ∙ c.if-is_reg.false in
    record {
      pieces = λ source around. ap (λ (b : Bool). (if b then value_said around.env n e else wire_said around.env c.args.place n e).pieces) (sym net);
      fine = λ source env f. subst (λ (b : Bool). IsFineValue env b n e) net f;
    }
