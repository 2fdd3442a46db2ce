use Rattle.std.proofs.Common.{◌++◌, ℕ, List, ap₂, ◌∙◌, append-nil}
use Rattle.vs_waves.specs.Changes.{changes_text}
use Rattle.vs_waves.proofs.slot.Slot.go_on.Goals as goal

pub returns-clause-text : goal.returns-clause-text
returns-clause-text g c = λ i h.
    let lane = g.W.Word.lane in
    let lines = changes_text lane g.W.Word.LANES c.take_over.new.changes i in
    ap₂ (λ (xs ys : List ℕ). xs ++ ys) c.put_time-self.ensures.text (append-nil lines ∙ c.take_over.ensures.text i h)
