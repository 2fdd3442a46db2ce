-- The lines of vectors.
use Rattle.std.proofs.Common.{◌≡◌, ℕ, ◌+◌, ◌-◌, ◌<◌, List, ◌++◌, get_or, ap, ◌∙◌, arith}
use Rattle.std.proofs.lemmas.List.{get_or_append_left}
use Rattle.vs_stim.specs.Header.{PortLists, ColumnLists}
use Rattle.vs_stim.specs.Known.{IsReadTo}
use Rattle.vs_stim.specs.Lines.{lines, all_lines}
use Rattle.vs_stim.specs.Numbers.{filled, line_of_vector}
use Rattle.vs_stim.specs.Reading.{Place}

pub line_read : (ports : PortLists) (text : List ℕ) (count : ℕ) (cs : ColumnLists) (line : ℕ) (at : Place) (rest : List ℕ) → IsReadTo ports text count cs line at rest → 0 < count
    → line_of_vector text (count - 1) ≡ line
line_read ports text count cs line at rest h some =
    let later = filled at.number (all_lines (lines rest)) in
    let same : filled 1 (all_lines (lines text)) ≡ h.numbers ++ later = ap (λ t. filled 1 (all_lines (lines t))) h.text_is ∙ h.filled rest (λ e. e) in
    let last : count - 1 + 1 ≡ count = omega (arith, some) in
    (λ i. get_or (same i) (last i) 0) ∙ get_or_append_left h.numbers later 0 count (omega (arith, h.numbers_are)) ∙ h.last some
