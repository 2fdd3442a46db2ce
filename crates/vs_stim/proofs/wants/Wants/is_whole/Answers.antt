use Rattle.std.proofs.Common.{◌≤◌, ℕ, [], length, nat_eq, sym, ◌∙◌, ap, subst}
use Rattle.vs_stim.specs.declared.wants.Part.{Part}
use Rattle.vs_stim.specs.Wants.{at_part, if_whole, IsPart}
use Rattle.vs_stim.proofs.Wanting.{gap_ends}
use Rattle.vs_stim.proofs.wants.Wants.is_whole.Goals as goal

pub returns-in-Gap : goal.returns-in-Gap
returns-in-Gap c = λ closed.
    let wants = c.args.self.now in
    let all = wants.expected.items in
    let n = wants.column in
    let stored = wants.values.items in
    let within : n ≤ length all = subst (λ (p : Part). IsPart p all n wants.digits) c.in-Gap.is c.requires.at in
    ap (λ (m : ℕ). if_whole (nat_eq n m) stored) (c.len.ensures ∙ wants.expected.ok.0) ∙ gap_ends all n stored within ∙ sym (ap (λ (p : Part). at_part p all n wants.digits stored []) c.in-Gap.is)
