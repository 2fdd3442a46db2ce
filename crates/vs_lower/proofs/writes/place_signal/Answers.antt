use Rattle.std.proofs.Common.{◌∙◌, ◌<◌, ℕ, length, sym, ap, subst}
use Rattle.std.specs.List.{All}
use Rattle.vs_design.specs.Expressions.{signal_length}
use Rattle.vs_values.proofs.Named.{all_run, length_count}
use Rattle.vs_lower.specs.Leaves.{named_signal}
use Rattle.vs_lower.proofs.Reaching.{within_is}
use Rattle.vs_lower.proofs.writes.place_signal.Goals as goal

pub place-requires-clause-inside : goal.place-requires-clause-inside
place-requires-clause-inside c =
    let s = named_signal c.args.templates.now.arena c.args.signal in
    let P : ℕ → Type 0 = λ b. b < length c.args.env.now in
    subst (All P) (sym (c.as_slice.ensures.value ∙ c.in_ok-bits.ensures)) (all_run s.first (signal_length s) (length c.args.env.now) (within_is (length c.args.env.now) s c.requires.within))

pub place-requires-clause-alike : goal.place-requires-clause-alike
place-requires-clause-alike c =
    let s = named_signal c.args.templates.now.arena c.args.signal in
    ap length (c.as_slice.ensures.value ∙ c.in_ok-bits.ensures) ∙ length_count s.first (signal_length s) ∙ sym c.requires.alike
