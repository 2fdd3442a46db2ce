use Rattle.std.proofs.Common.{Bool, false, List, Option, ℕ, length, replicate, rules, sym, ap, ◌∙◌, subst}
use Rattle.std.proofs.lemmas.List.{length-replicate}
use Rattle.vs_flat.specs.Arena.{Arena, bit_count}
use Rattle.vs_flat.specs.DesignOf.{design_of}
use Rattle.vs_full.specs.Roots.{AreRoots}
use Rattle.vs_full.proofs.Growing.{all_known, all_long}
use Rattle.vs_full.proofs.cases.Cases.new.Goals as goal

pub returns-clause-sound : goal.returns-clause-sound
returns-clause-sound c =
    let same = c.flat-flat.ensures.same in
    let known = c.in_ok-known.ensures.items_if_clones_equal (λ y e. search rules) in
    record {
      roots = subst (λ (x : Arena). AreRoots (design_of x) c.in_ok-roots.roots.items) same c.in_ok-roots.ensures;
      known = all_known c.in_ok-known.known.items c.count_bits.result c.known.result known c.known.ensures;
      count = all_long c.in_ok-known.known.items c.count_bits.result c.known.result known ∙ c.count_bits.ensures ∙ ap (λ (x : Arena). bit_count x.signals) same ∙ sym (c.trees_law.ensures.counts c.args.shapes.now).bits;
      both = ap (λ (fs : List Bool). length fs) c.new-full.ensures.items ∙ sym (ap (λ (os : List (Option ℕ)). length os) c.new-others.ensures.items);
      processes = ap (λ (ls : List Bool). length ls) (c.in_ok-lenient.ensures.items_if_clones_equal (λ y e. search rules)) ∙ length-replicate c.process_count.result false ∙ c.process_count.ensures.count ∙ ap (λ (x : Arena). length x.processes) same;
    }

pub returns-clause-none : goal.returns-clause-none
returns-clause-none c =
    c.in_ok-lenient.ensures.items_if_clones_equal (λ y e. search rules) ∙ ap (λ (n : ℕ). replicate n false) (c.process_count.ensures.count ∙ ap (λ (x : Arena). length x.processes) c.flat-flat.ensures.same)
