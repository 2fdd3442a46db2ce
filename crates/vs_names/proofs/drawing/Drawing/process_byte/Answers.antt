use Rattle.std.proofs.Common.{◌≡◌, Some, length, sym, ◌∙◌, subst}
use Rattle.std.proofs.lemmas.Bool.{ltb-true, ltb-false}
use Rattle.vs_names.specs.Drawn.{Drawn, process_byte}
use Rattle.vs_names.proofs.Placed.{without_place, without_token, with_token}
use Rattle.vs_names.proofs.drawing.Drawing.process_byte.Goals as goal

pub returns-in_err-at : goal.returns-in_err-at
returns-in_err-at c =
    let d : Drawn = record { tokens = c.self.inside.tokens.items; flat = c.self.inside.flat } in
    subst (λ (x : Drawn). c.from_residual.result ≡ process_byte x c.args.process) c.self.view_is (c.from_residual.ensures ∙ without_place d c.args.process c.in_err-at.ensures)

pub returns-in_err-get : goal.returns-in_err-get
returns-in_err-get c =
    let d : Drawn = record { tokens = c.self.inside.tokens.items; flat = c.self.inside.flat } in
    let at = c.in_ok-at.at in
    let tokens = c.deref.result.now in
    let past = ltb-false at (length tokens) (sym c.in_err-get.ensures.lookup.0) in
    subst (λ (x : Drawn). c.from_residual-in_err-get.result ≡ process_byte x c.args.process) c.self.view_is
    (c.from_residual-in_err-get.ensures ∙ without_token d c.args.process at tokens c.in_ok-at.ensures c.deref.ensures.value past)

pub returns : goal.returns
returns c =
    let d : Drawn = record { tokens = c.self.inside.tokens.items; flat = c.self.inside.flat } in
    let at = c.in_ok-at.at in
    let tokens = c.deref.result.now in
    let token = c.in_ok-get.field-0.now in
    let there = ltb-true at (length tokens) (sym c.in_ok-get.ensures.lookup.0) in
    subst (λ (x : Drawn). Some token.at ≡ process_byte x c.args.process) c.self.view_is
    (with_token d c.args.process at tokens c.in_ok-at.ensures c.deref.ensures.value token there c.in_ok-get.ensures.lookup.1)
