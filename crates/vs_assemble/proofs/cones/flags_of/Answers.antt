use Rattle.std.proofs.Common.{◌≡◌, Bool, List, [], ◌++◌, length, take, drop, replicate, false, sym, ap, ◌∙◌, subst, append-nil, arith, ℕ}
use Rattle.std.proofs.lemmas.List.{drop_all, take_all}
use Rattle.vs_assemble.specs.Flags.{AreFlags}
use Rattle.vs_assemble.proofs.Flags.{none_set}
use Rattle.vs_assemble.proofs.cones.flags_of.Goals as goal

-- what is written back is all that there was
written_back : (new items : List Bool) (n : ℕ) → length new ≡ n → length items ≡ n → take n (new ++ drop (length new) items) ≡ new
written_back new items n long many =
    ap (λ (bs : List Bool). take n (new ++ bs)) (drop_all (length new) items (omega (arith, long, many))) ∙ ap (take n) (append-nil new) ∙ take_all n new (omega (arith, long))

pub returns-clause-flags : goal.returns-clause-flags
returns-clause-flags c =
    let items : c.as_mut_slice.result.now ≡ replicate c.args.bits false = c.as_mut_slice.ensures.value ∙ c.in_ok-flags.ensures.items_if_clones_equal (λ y e. e) in
    let zero : AreFlags c.as_mut_slice.result.now [] = subst (λ fs. AreFlags fs []) (sym items) (none_set c.args.bits) in
    let set : AreFlags c.set_all.new.flags c.args.set.now = subst (λ (bs : List ℕ). AreFlags c.set_all.new.flags bs) (append-nil c.args.set.now) (c.set_all.ensures.set [] zero) in
    let long : length c.set_all.new.flags ≡ c.in_ok-flags.flags.len = c.set_all.ensures.count ∙ c.as_mut_slice.ensures.len in
    let many : length c.in_ok-flags.flags.items ≡ c.in_ok-flags.flags.len = sym (ap length c.as_mut_slice.ensures.value) ∙ c.as_mut_slice.ensures.len in
    subst (λ fs. AreFlags fs c.args.set.now) (sym (written_back c.set_all.new.flags c.in_ok-flags.flags.items c.in_ok-flags.flags.len long many)) set
