-- Targets of which nothing is over 64 bits.
use Rattle.std.proofs.Common.{◌≡◌, ℕ, ◌+◌, ◌<◌, true, List, ◌∷◌, length, map, sym, ap, ◌∙◌, subst, arith}
use Rattle.vs_four.specs.Logic.{BitList}
use Rattle.std.proofs.Common.{◌-◌, take, drop}
use Rattle.std.specs.Prelude.{min}
use Rattle.std.proofs.lemmas.List.{length-take, length-drop}
use Rattle.std.proofs.Math.Seq.{take-length}
use Rattle.vs_net.specs.Network.{State, write_all}
use Rattle.vs_design.specs.Bodies.{target_writes}
use Rattle.vs_design.specs.Elaborated.{has_constant_selects}
use Rattle.vs_design.specs.Expressions.{Expression, width}
use Rattle.vs_design.specs.Statements.{Both, target_width}
use Rattle.vs_flat.specs.Trees.{joined}
use Rattle.vs_sets.specs.TargetsOf.{IsTarget, target_tree}
use Rattle.vs_zero.specs.States.{unknown}
use Rattle.vs_sets.proofs.Fit.{and_left, and_right}
use Rattle.vs_zero.proofs.Writing.{write_all-append}
use Rattle.vs_sets.proofs.TargetFacts.{joined_more, both_facts, target_length}

-- ---- the first part, and the rest

pub record SplitFacts (tree : ℕ → Expression) (f : ℕ) (rest : List ℕ) (value : BitList) (low : ℕ) : Type 0 where
  pub first_target : IsTarget (tree f)
  pub rest_target : IsTarget (joined (map tree rest))
  pub first_many : length (take (length value - low) (drop low value)) ≡ width (tree f)
  pub rest_many : length (take low value) ≡ width (joined (map tree rest))
  pub first_constant : has_constant_selects (target_tree (tree f)) ≡ true
  pub rest_constant : has_constant_selects (target_tree (joined (map tree rest))) ≡ true
  pub writes : (s : State) → write_all s (target_writes (target_tree (joined (map tree (f ∷ rest)))) value unknown)
      ≡ write_all (write_all s (target_writes (target_tree (tree f)) (take (length value - low) (drop low value)) unknown)) (target_writes (target_tree (joined (map tree rest))) (take low value) unknown)

whole_rest : (value : BitList) (low : ℕ) → take (length value - low) (drop low value) ≡ drop low value
whole_rest value low = let e : length value - low ≡ length (drop low value) = sym (length-drop low value) in ap (λ n. take n (drop low value)) e ∙ take-length (drop low value)

split_of : (tree : ℕ → Expression) (f : ℕ) (rest : List ℕ) (value : BitList) (low w : ℕ) → 0 < length rest → IsTarget (joined (map tree (f ∷ rest)))
    → has_constant_selects (target_tree (joined (map tree (f ∷ rest)))) ≡ true → length value ≡ width (joined (map tree (f ∷ rest))) → w ≡ min (width (tree f)) 65 → low ≡ length value - w → SplitFacts tree f rest value low
split_of tree f rest value low w some target constant many short is =
    let high = tree f in
    let others = joined (map tree rest) in
    let join = joined_more tree f rest some in
    let facts = both_facts high others (subst IsTarget join target) in
    let high_length = target_length high facts.high_target in
    let low_length = target_length others facts.low_target in
    let total : length value ≡ width high + width others = many ∙ ap width join in
    let own : w ≡ width high = omega (arith, short, facts.few, high_length) in
    let rest_is : low ≡ width others = omega (arith, is, total, own) in
    let both : has_constant_selects (Both (target_tree high) (target_tree others)) ≡ true = ap has_constant_selects (sym (ap target_tree join ∙ facts.is)) ∙ constant in
    record {
      first_target = facts.high_target;
      rest_target = facts.low_target;
      first_many = ap length (whole_rest value low) ∙ omega (arith, length-drop low value, total, rest_is);
      rest_many = omega (arith, length-take low value, total, rest_is);
      first_constant = and_left _ _ both;
      rest_constant = and_right (has_constant_selects (target_tree high)) _ both;
      writes = λ s. ap (λ t. write_all s (target_writes t value unknown)) (ap target_tree join ∙ facts.is)
          ∙ write_all-append (target_writes (target_tree high) (drop (target_width (target_tree others)) value) unknown) (target_writes (target_tree others) (take (target_width (target_tree others)) value) unknown) s
          ∙ ap (λ n. write_all (write_all s (target_writes (target_tree high) (drop n value) unknown)) (target_writes (target_tree others) (take n value) unknown)) (low_length ∙ sym rest_is)
          ∙ ap (λ v. write_all (write_all s (target_writes (target_tree high) v unknown)) (target_writes (target_tree others) (take low value) unknown)) (sym (whole_rest value low));
    }

-- of a list that is told as one with a first part
pub split_facts : (tree : ℕ → Expression) (parts : List ℕ) (f : ℕ) (rest : List ℕ) (value : BitList) (low w : ℕ) → parts ≡ f ∷ rest → 0 < length rest → IsTarget (joined (map tree parts))
    → has_constant_selects (target_tree (joined (map tree parts))) ≡ true → length value ≡ width (joined (map tree parts)) → w ≡ min (width (tree f)) 65 → low ≡ length value - w → SplitFacts tree f rest value low
split_facts tree parts f rest value low w e some target constant many short is =
    split_of tree f rest value low w some (subst (λ (ps : List ℕ). IsTarget (joined (map tree ps))) e target) (subst (λ (ps : List ℕ). has_constant_selects (target_tree (joined (map tree ps))) ≡ true) e constant) (many ∙ ap (λ (ps : List ℕ). width (joined (map tree ps))) e) short is
