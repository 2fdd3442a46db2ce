use Rattle.std.proofs.Common.{◌∙◌, ◌++◌, ◌∷◌, [], ◌≤◌, ℕ, List, Option, length, sym, ap, arith, append-nil}
use Rattle.std.proofs.lemmas.List.{take_all}
use Rattle.vs_lower.specs.Parts.{bits_there}
use Rattle.vs_lower.proofs.Columns.{bits_more}
use Rattle.vs_lower.proofs.parts.push_there.Goals as goal

pub loop-k-init : goal.loop-k-init
loop-k-init c = sym (append-nil c.args.out.now.items)

pub push_one-requires : goal.push_one-requires
push_one-requires c = λ n e. c.requires c.loop-k.k n (sym c.get.ensures ∙ e)

pub loop-k-preserved : goal.loop-k-preserved
loop-k-preserved c =
    c.in_ok-push_one.ensures
    ∙ ap (λ (p : Option ℕ). c.loop-k.out.items ++ bits_there c.args.first (p ∷ [])) c.get.ensures
    ∙ bits_more c.args.first c.args.places.now c.loop-k.k c.args.out.now.items c.loop-k.out.items (omega (arith, c.loop-k-test.true, c.len-k-end.ensures.value)) c.loop-k.invariant

pub returns : goal.returns
returns c =
    let end : length c.args.places.now ≤ c.loop-k.k = omega (arith, c.loop-k-test.false, c.len-k-end.ensures.value) in
    c.loop-k.invariant ∙ ap (λ (ps : List (Option ℕ)). c.args.out.now.items ++ bits_there c.args.first ps) (take_all c.loop-k.k c.args.places.now end)
