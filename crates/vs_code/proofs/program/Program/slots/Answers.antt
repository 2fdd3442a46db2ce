use Rattle.std.proofs.Common.{◌≡◌, ◌≢◌, ◌∙◌, ◌+◌, ◌<◌, ℕ, List, sym, ap, subst}
use Rattle.std.specs.List.{All, Any}
use Rattle.vs_code.specs.Calls.{Call, count_for, slots_of}
use Rattle.vs_code.proofs.Counts.{all_below_count, reached}
use Rattle.vs_code.proofs.program.Program.slots.Goals as goal

pub returns-clause-enough : goal.returns-clause-enough
returns-clause-enough c =
    let P : ℕ → Type 0 = λ n. All (λ slot. slot < n) (slots_of c.args.self.now) in
    let counted = c.self.invariant.slots ∙ ap (λ (calls : List Call). count_for (slots_of calls)) c.self.view_is in
    subst P (sym counted) (all_below_count (slots_of c.args.self.now))

pub returns-clause-least : goal.returns-clause-least
returns-clause-least c =
    let P : ℕ → Type 0 = λ n. n ≢ 0 → Any (λ slot. slot + 1 ≡ n) (slots_of c.args.self.now) in
    let counted = c.self.invariant.slots ∙ ap (λ (calls : List Call). count_for (slots_of calls)) c.self.view_is in
    subst P (sym counted) (reached (slots_of c.args.self.now))
