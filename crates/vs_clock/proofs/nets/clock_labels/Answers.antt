use Rattle.std.proofs.Common.{◌≡◌, ◌≤◌, ◌++◌, ◌∷◌, [], ℕ, List, Option, Some, false, length, sym, ◌∙◌, subst, arith, nat_lt}
use Rattle.std.specs.List.{list_all}
use Rattle.vs_design.specs.Designs.{bit_count}
use Rattle.vs_design.specs.Footprints.{contains}
use Rattle.vs_design.specs.Clocks.{clock_nets}
use Rattle.vs_flat.specs.DesignOf.{design_of}
use Rattle.vs_clock.specs.Spread.{has_label}
use Rattle.vs_clock.proofs.Spared.{below_of, own_labels, spare_of, spare_labelled}
use Rattle.vs_clock.proofs.nets.clock_labels.Goals as goal

pub roots_of-requires-clause-roots : goal.roots_of-requires-clause-roots
roots_of-requires-clause-roots c = λ b h. let l = below_of c.count_bits-count.result c.args.clocks.now (sym c.are_below.ensures ∙ c.if-are_below.true) b h in omega (arith, l, c.count_bits-count.ensures, (c.trees_law.ensures.counts c.args.flat.now).bits, c.requires.count)

pub roots_of-requires-clause-within : goal.roots_of-requires-clause-within
roots_of-requires-clause-within c = c.requires.within

pub roots_of-requires-2-clause-within : goal.roots_of-requires-2-clause-within
roots_of-requires-2-clause-within c = c.requires.within

pub returns-then-are_below : goal.returns-then-are_below
returns-then-are_below c = own_labels c.clocks_law.ensures (design_of c.args.flat.now) c.args.clocks.now c.args.targets.now c.requires.targets c.roots_of.result c.roots_of.ensures.roots

pub roots_of-requires-2-clause-roots : goal.roots_of-requires-2-clause-roots
roots_of-requires-2-clause-roots c = λ b h. cc

pub returns : goal.returns
returns c =
    let d = design_of c.args.flat.now in
    let count : c.count_bits-count.result ≡ bit_count d = c.count_bits-count.ensures ∙ sym (c.trees_law.ensures.counts c.args.flat.now).bits in
    let e : c.args.clocks.now ≡ bit_count d ∷ [] = spare_of d c.args.clocks.now c.requires.clocks (subst (λ n. list_all (λ b. nat_lt b n) c.args.clocks.now ≡ false) count (sym c.are_below.ensures ∙ c.if-are_below.false)) in
    let long : length c.in_ok-labels.labels.items ≡ bit_count d = c.in_ok-labels.ensures.count ∙ c.requires.count in
    let most : bit_count d ≤ bit_count d = omega arith in
    let spared : (b : ℕ) → has_label (c.in_ok-labels.labels.items ++ Some (bit_count d) ∷ []) b ≡ contains (clock_nets d (bit_count d ∷ [])) b = spare_labelled c.spare_law.ensures d c.requires.lawful.design (bit_count d) most c.in_ok-labels.labels.items long (c.in_ok-labels.ensures.roots d c.requires.targets) in
    let counted : (b : ℕ) → has_label (c.in_ok-labels.labels.items ++ Some c.count_bits-count.result ∷ []) b ≡ contains (clock_nets d (bit_count d ∷ [])) b = subst (λ n. (b : ℕ) → has_label (c.in_ok-labels.labels.items ++ Some n ∷ []) b ≡ contains (clock_nets d (bit_count d ∷ [])) b) (sym count) spared in
    subst (λ (ls : List (Option ℕ)). (b : ℕ) → has_label ls b ≡ contains (clock_nets d c.args.clocks.now) b) (sym c.in_ok-push.ensures.items)
    (subst (λ (cs : List ℕ). (b : ℕ) → has_label (c.in_ok-labels.labels.items ++ Some c.count_bits-count.result ∷ []) b ≡ contains (clock_nets d cs) b) (sym e) counted)
