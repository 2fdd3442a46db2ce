use Rattle.std.proofs.Common.{sym, ap, ap₂, ◌∙◌, refl}
use Rattle.vs_four.specs.Tables.{and_bit, or_bit, xor_bit, xnor_bit, not_bit, same_bit, casez_bit, casex_bit}
use Rattle.vs_plane.specs.Lanes.{slot_lane}
use Rattle.vs_kern_logic.specs.declared.costs.Kernel.{Kernel}
use Rattle.vs_kern_logic.specs.declared.costs.Kernel.TheVariants.{And, Or, Xor, Xnor, LogicalAnd, LogicalOr, Equal, NotEqual}
use Rattle.vs_code.proofs.OneBits.{either_bit, two_bit, two_stored}
use Rattle.vs_code.proofs.bits.run_two.Goals as goal

pub returns-in-And-clause-computes : goal.returns-in-And-clause-computes
returns-in-And-clause-computes g c =
    let lane = g.W.Word.lane in
    let before = c.args.file.now in
    two_stored lane g.W.Word.LANES c.args.kernel c.args.a c.args.b c.args.to before c.store.new.self c.and-and.result c.requires.lengths c.filling_law.ensures c.requires.to
    c.store.ensures.stored (λ i h. c.and-and.ensures i h ∙ ap₂ and_bit (c.load.ensures.lanes i) (c.load-in-And.ensures.lanes i)
    ∙ either_bit c.args.kernel And LogicalAnd (slot_lane lane before c.args.a i) (slot_lane lane before c.args.b i) refl c.in-And.is)

pub returns-in-Or-clause-computes : goal.returns-in-Or-clause-computes
returns-in-Or-clause-computes g c =
    let lane = g.W.Word.lane in
    let before = c.args.file.now in
    two_stored lane g.W.Word.LANES c.args.kernel c.args.a c.args.b c.args.to before c.store-in-Or.new.self c.or-or.result c.requires.lengths c.filling_law.ensures c.requires.to
    c.store-in-Or.ensures.stored (λ i h. c.or-or.ensures i h ∙ ap₂ or_bit (c.load-in-Or.ensures.lanes i) (c.load-in-Or-2.ensures.lanes i)
    ∙ either_bit c.args.kernel Or LogicalOr (slot_lane lane before c.args.a i) (slot_lane lane before c.args.b i) refl c.in-Or.is)

pub returns-in-Xor-clause-computes : goal.returns-in-Xor-clause-computes
returns-in-Xor-clause-computes g c =
    let lane = g.W.Word.lane in
    let before = c.args.file.now in
    two_stored lane g.W.Word.LANES c.args.kernel c.args.a c.args.b c.args.to before c.store-in-Xor.new.self c.xor-xor.result c.requires.lengths c.filling_law.ensures c.requires.to
    c.store-in-Xor.ensures.stored (λ i h. c.xor-xor.ensures i h ∙ ap₂ xor_bit (c.load-in-Xor.ensures.lanes i) (c.load-in-Xor-2.ensures.lanes i)
    ∙ either_bit c.args.kernel Xor NotEqual (slot_lane lane before c.args.a i) (slot_lane lane before c.args.b i) refl c.in-Xor.is)

pub returns-in-Xnor-clause-computes : goal.returns-in-Xnor-clause-computes
returns-in-Xnor-clause-computes g c =
    let lane = g.W.Word.lane in
    let before = c.args.file.now in
    two_stored lane g.W.Word.LANES c.args.kernel c.args.a c.args.b c.args.to before c.store-in-Xnor.new.self c.xnor-xnor.result c.requires.lengths c.filling_law.ensures c.requires.to
    c.store-in-Xnor.ensures.stored (λ i h. c.xnor-xnor.ensures i h ∙ ap₂ xnor_bit (c.load-in-Xnor.ensures.lanes i) (c.load-in-Xnor-2.ensures.lanes i)
    ∙ either_bit c.args.kernel Xnor Equal (slot_lane lane before c.args.a i) (slot_lane lane before c.args.b i) refl c.in-Xnor.is)

pub returns-in-CaseEqual-clause-computes : goal.returns-in-CaseEqual-clause-computes
returns-in-CaseEqual-clause-computes g c =
    let lane = g.W.Word.lane in
    let before = c.args.file.now in
    two_stored lane g.W.Word.LANES c.args.kernel c.args.a c.args.b c.args.to before c.store-in-CaseEqual.new.self c.same-same.result c.requires.lengths c.filling_law.ensures c.requires.to
    c.store-in-CaseEqual.ensures.stored (λ i h. c.same-same.ensures i h ∙ ap₂ same_bit (c.load-in-CaseEqual.ensures.lanes i) (c.load-in-CaseEqual-2.ensures.lanes i)
    ∙ ap (λ (n : Kernel). two_bit n (slot_lane lane before c.args.a i) (slot_lane lane before c.args.b i)) (sym c.in-CaseEqual.is))

pub returns-in-CaseNotEqual-clause-computes : goal.returns-in-CaseNotEqual-clause-computes
returns-in-CaseNotEqual-clause-computes g c =
    let lane = g.W.Word.lane in
    let before = c.args.file.now in
    two_stored lane g.W.Word.LANES c.args.kernel c.args.a c.args.b c.args.to before c.store-in-CaseNotEqual.new.self c.not-differ.result c.requires.lengths c.filling_law.ensures c.requires.to
    c.store-in-CaseNotEqual.ensures.stored (λ i h. c.not-differ.ensures i h ∙ ap not_bit (c.same.ensures i h ∙ ap₂ same_bit (c.load-in-CaseNotEqual.ensures.lanes i) (c.load-in-CaseNotEqual-2.ensures.lanes i))
    ∙ ap (λ (n : Kernel). two_bit n (slot_lane lane before c.args.a i) (slot_lane lane before c.args.b i)) (sym c.in-CaseNotEqual.is))

pub returns-in-MatchesZ-clause-computes : goal.returns-in-MatchesZ-clause-computes
returns-in-MatchesZ-clause-computes g c =
    let lane = g.W.Word.lane in
    let before = c.args.file.now in
    two_stored lane g.W.Word.LANES c.args.kernel c.args.a c.args.b c.args.to before c.store-in-MatchesZ.new.self c.matches_z-matched.result c.requires.lengths c.filling_law.ensures c.requires.to
    c.store-in-MatchesZ.ensures.stored (λ i h. c.matches_z-matched.ensures i h ∙ ap₂ casez_bit (c.load-in-MatchesZ.ensures.lanes i) (c.load-in-MatchesZ-2.ensures.lanes i)
    ∙ ap (λ (n : Kernel). two_bit n (slot_lane lane before c.args.a i) (slot_lane lane before c.args.b i)) (sym c.in-MatchesZ.is))

pub returns-in-MatchesX-clause-computes : goal.returns-in-MatchesX-clause-computes
returns-in-MatchesX-clause-computes g c =
    let lane = g.W.Word.lane in
    let before = c.args.file.now in
    two_stored lane g.W.Word.LANES c.args.kernel c.args.a c.args.b c.args.to before c.store-in-MatchesX.new.self c.matches_x-matched.result c.requires.lengths c.filling_law.ensures c.requires.to
    c.store-in-MatchesX.ensures.stored (λ i h. c.matches_x-matched.ensures i h ∙ ap₂ casex_bit (c.load-in-MatchesX.ensures.lanes i) (c.load-in-MatchesX-2.ensures.lanes i)
    ∙ ap (λ (n : Kernel). two_bit n (slot_lane lane before c.args.a i) (slot_lane lane before c.args.b i)) (sym c.in-MatchesX.is))
