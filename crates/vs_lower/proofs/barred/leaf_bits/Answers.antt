use Rattle.std.proofs.Common.{◌≡◌, ℕ, List, length, ap, arith}
use Rattle.vs_design.specs.Expressions.{Signal, signal_length}
use Rattle.vs_flat.specs.Trees.{signal_of}
use Rattle.vs_lower.specs.Leaves.{named_number, named_signal}
use Rattle.vs_values.proofs.Named.{length_count}
use Rattle.vs_lower.proofs.Indexing.{if_ok}
use Rattle.vs_lower.proofs.barred.leaf_bits.Goals as goal

pub returns-clause-few : goal.returns-clause-few
returns-clause-few c =
    let s = named_signal c.args.templates.now.arena c.leaf_name-named.result in
    let is : s ≡ signal_of (named_number c.leaf_name-named.result) c.declared.result.now = c.declared.ensures.is in
    if_ok c.named_bits.result c.named_bits.ensures (λ bits h. omega (arith, ap (λ (xs : List ℕ). length xs) h, length_count s.first (signal_length s), ap signal_length is, ap (λ (x : Signal). x.first) is, c.declared.ensures.few))
