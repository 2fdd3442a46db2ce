use Rattle.std.proofs.Common.{◌<◌, ℕ, Bool, false, List, length, sym, ◌∙◌, subst, arith}
use Rattle.std.proofs.lemmas.List.{get_or_default}
use Rattle.vs_flat.specs.DesignOf.{design_of}
use Rattle.vs_vcd.specs.Shared.{AreCodes, class_code, code_at}
use Rattle.vs_vcd.proofs.Arenas.{length-signals}
use Rattle.vs_vcd.proofs.Leading.{agree_in, class_codes, own_codes}
use Rattle.vs_vcd.proofs.codes.Codes.of.Goals as goal

pub returns-then-share : goal.returns-then-share
returns-then-share c =
    let a = c.args.flat.now in
    let d = design_of a in
    let codes = c.in_ok-codes.codes.items in
    subst (λ (share : Bool). AreCodes share d codes) (sym c.if-share.true)
    (class_codes codes d (agree_in (code_at codes) (class_code d) a (λ n h.
    let there : n < length d.signals = omega (arith, h, length-signals a) in
    get_or_default codes n n 0 (omega (arith, there, c.in_ok-codes.ensures.count)) ∙ c.in_ok-codes.ensures.codes n there)))

pub returns : goal.returns
returns c =
    subst (λ (share : Bool). AreCodes share (design_of c.args.flat.now) c.new.result.items) (sym c.if-share.false)
    (subst (λ (codes : List ℕ). AreCodes false (design_of c.args.flat.now) codes) (sym c.new.ensures.items) (own_codes (design_of c.args.flat.now)))
