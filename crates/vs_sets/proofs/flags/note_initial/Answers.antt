use Rattle.std.proofs.Common.{◌≡◌, true, ◌++◌, List, ℕ, ◌<◌, length, ap, sym, ◌∙◌, subst}
use Rattle.std.specs.Prelude.{All}
use Rattle.vs_design.specs.Footprints.{statement_bits}
use Rattle.vs_design.specs.Within.{statement_within}
use Rattle.vs_flat.specs.DesignOf.{initial_of, design_of}
use Rattle.vs_sets.specs.StatementParts.{statement_of}
use Rattle.vs_sets.proofs.FlagSteps.{all_below, initial_noted}
use Rattle.vs_sets.proofs.WrittenBits.{statement_bits_within}
use Rattle.vs_sets.proofs.flags.note_initial.Goals as goal

pub mark-requires : goal.mark-requires
mark-requires c =
    let a = c.args.shapes.now in
    let s = statement_of a c.fit_initial.result.statement in
    let n = length c.args.flags.now in
    let bits = c.as_slice.ensures.value ∙ c.in_ok-push_statement.ensures ∙ ap (λ (xs : List ℕ). xs ++ statement_bits s) c.new-bits.ensures.items in
    let within = subst (λ m. statement_within m s ≡ true) (sym c.requires.many) c.fit_initial.ensures.within in
    subst (λ (bs : List ℕ). All (λ b. b < n) bs) (sym bits) (all_below (statement_bits s) n (λ b k. statement_bits_within n s b c.fit_initial.ensures.fit within k))

pub returns : goal.returns
returns c =
    let a = c.args.shapes.now in
    let s = statement_of a c.fit_initial.result.statement in
    let bits = c.as_slice.ensures.value ∙ c.in_ok-push_statement.ensures ∙ ap (λ (xs : List ℕ). xs ++ statement_bits s) c.new-bits.ensures.items in
    initial_noted (design_of a) c.args.k (initial_of (statement_of a) c.fit_initial.result) c.args.flags.now c.mark.new.flags c.as_slice.result.now
    (c.trees_law.ensures.initials a c.args.k c.fit_initial.result c.fit_initial.ensures.is) bits c.mark.ensures c.requires.so_far
