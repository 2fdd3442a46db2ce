use Rattle.std.proofs.Common.{◌≡◌, ◌≤◌, ◌⊎◌, inl, inr, ◌∙◌, ap, false, length, min, subst, sym}
use Rattle.vs_four.specs.declared.Bit4.TheVariants.{X}
use Rattle.vs_design.specs.Expressions as E
use Rattle.vs_design.specs.Values as V
use Rattle.vs_const.specs.declared.forms.Form.{Form}
use Rattle.vs_const.specs.Forms.{expression, IsForm}
use Rattle.vs_const.proofs.Values.{beside_within, binary_within, operand_is, unary_within}
use Rattle.vs_const.proofs.forms.+values.Goals as goal

pub value-extended-requires-in-InContext-clause-no_shorter : goal.value-extended-requires-in-InContext-clause-no_shorter
value-extended-requires-in-InContext-clause-no_shorter t c =
    let fits = subst (λ x. E.width (expression x) ≤ c.args.w) c.in-Binary.is c.requires.fits in
    subst (λ xs. length xs ≤ c.args.w) (sym c.apply-in-InContext.ensures)
    (binary_within c.in-Binary.op (expression c.in-Binary.left.value) (expression c.in-Binary.right.value) c.args.w c.args.signed _ _ (sym c.in-InContext.ensures)
    (c.value-in-InContext.ensures.value ∙ ap (λ x. V.value (expression x) c.args.w c.args.signed (λ b. X)) c.deref-in-InContext.ensures)
    (c.value-in-InContext-2.ensures.value ∙ ap (λ x. V.value (expression x) c.args.w c.args.signed (λ b. X)) c.deref-in-InContext-2.ensures) fits)

pub value-extended-requires-in-Shifted-clause-no_shorter : goal.value-extended-requires-in-Shifted-clause-no_shorter
value-extended-requires-in-Shifted-clause-no_shorter t c =
    let x = subst (λ (f : Form). IsForm f) c.in-Binary.is c.requires.form in
    let fits = subst (λ x. E.width (expression x) ≤ c.args.w) c.in-Binary.is c.requires.fits in
    let beside : (E.way c.in-Binary.op ≡ E.Shifted) ⊎ (E.way c.in-Binary.op ≡ E.Raised) = elim c.in-Shifted.is [ inl s ↦ inl (sym c.way.ensures ∙ s) | inr r ↦ inr (sym c.way.ensures ∙ r) ] in
    let inner = subst (λ (f : Form). IsForm f) (sym c.deref-in-Shifted.ensures) x.3 in
    let signed = c.shape-in-Shifted.ensures.signed inner ∙ ap (λ f. E.sign (expression f)) c.deref-in-Shifted.ensures in
    let value = c.apply-in-Shifted.ensures ∙ ap (λ s. V.apply_binary c.in-Binary.op c.args.signed s c.value-in-Shifted.result c.own-in-Shifted.result) signed in
    subst (λ xs. length xs ≤ c.args.w) (sym value)
    (beside_within c.in-Binary.op (expression c.in-Binary.left.value) (expression c.in-Binary.right.value) c.args.w c.args.signed _ _ beside
    (c.value-in-Shifted.ensures.value ∙ ap (λ x. V.value (expression x) c.args.w c.args.signed (λ b. X)) c.deref-in-Shifted-2.ensures)
    (c.own-in-Shifted.ensures.value ∙ ap (λ x. V.constant_value (expression x)) c.deref-in-Shifted-3.ensures) fits)

pub value-extended-requires-in-Unary-clause-no_shorter : goal.value-extended-requires-in-Unary-clause-no_shorter
value-extended-requires-in-Unary-clause-no_shorter t c =
    let x = subst (λ (f : Form). IsForm f) c.in-Unary.is c.requires.form in
    let fits = subst (λ f. E.width (expression f) ≤ c.args.w) c.in-Unary.is c.requires.fits in
    let e = expression c.in-Unary.operand.value in
    let inner = subst (λ (f : Form). IsForm f) (sym c.deref-in-Unary.ensures) x.1 in
    let wide = c.operand-c.ensures.width ∙ ap (λ n. V.left_width (E.unary_way c.in-Unary.op) c.args.w n 0) (c.shape-in-Unary.ensures.width inner ∙ ap (λ f. min 65 (E.width (expression f))) c.deref-in-Unary.ensures) in
    let signed = c.operand-c.ensures.signed ∙ ap (λ s. V.left_sign (E.unary_way c.in-Unary.op) c.args.signed s false) (c.shape-in-Unary.ensures.signed inner ∙ ap (λ f. E.sign (expression f)) c.deref-in-Unary.ensures) in
    let value = c.value.ensures.value ∙ ap (λ f. V.value (expression f) c.operand-c.result.width c.operand-c.result.signed (λ b. X)) c.deref-in-Unary-2.ensures in
    subst (λ xs. length xs ≤ c.args.w) (sym c.apply.ensures)
    (unary_within c.in-Unary.op e c.args.w c.args.signed c.value.result (operand_is c.in-Unary.op e c.args.w c.operand-c.result.width c.args.signed c.operand-c.result.signed c.value.result x.0 wide signed value) fits)
