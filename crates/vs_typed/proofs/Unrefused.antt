-- What is left where no length refuses a design.
use Rattle.std.proofs.Common.{◌≡◌, ℕ, ◌≤◌, ◌<◌, true, false, nat_lt, ap, ◌∙◌, arith, if◌then◌else◌, None, Some}
use Rattle.std.specs.List.{list_all}
use Rattle.vs_design.specs.Designs.{Design}
use Rattle.vs_design.specs.Elaborated.{IsLawfulDesign}
use Rattle.vs_design.specs.Fits.{fits_process, fits_initial}
use Rattle.vs_design.specs.Sizes.{awake_size, size}
use Rattle.vs_design.specs.Refusals.{otherwise, where_true, TooLarge, judged_size, told_size, too_large, width_refusal}
use Rattle.vs_typed.specs.Refused.{first_refused}
use Rattle.vs_typed.specs.Weights.{capped}
use Rattle.vs_design.proofs.Exactly.{otherwise_none, all_fit, true_where, judged_small}
use Rattle.vs_design.proofs.TextOrder.{processes_pass, initials_pass}

none_found : (d : Design) → width_refusal d ≡ None → first_refused d ≡ None
none_found d none = (otherwise_none (first_refused d) (too_large d) none).0

-- where none of them is refused
pub unrefused_fit : (d : Design) → IsLawfulDesign d → first_refused d ≡ None → list_all fits_process d.processes ≡ true
unrefused_fit d lawful none = processes_pass d lawful fits_process fits_initial (all_fit d lawful none)

pub unrefused_initials : (d : Design) → IsLawfulDesign d → first_refused d ≡ None → list_all fits_initial d.initials ≡ true
unrefused_initials d lawful none = initials_pass d lawful fits_process fits_initial (all_fit d lawful none)

pub each_fits : (d : Design) → IsLawfulDesign d → width_refusal d ≡ None → list_all fits_process d.processes ≡ true
each_fits d lawful none = unrefused_fit d lawful (none_found d none)

pub each_initial : (d : Design) → IsLawfulDesign d → width_refusal d ≡ None → list_all fits_initial d.initials ≡ true
each_initial d lawful none = unrefused_initials d lawful (none_found d none)

not_more : (n most : ℕ) → nat_lt most n ≡ false → n ≤ most
not_more n most h = grind arith

pub size_small : (d : Design) → width_refusal d ≡ None → size d ≤ 16777216
size_small d none =
    judged_small d
    (not_more (judged_size d) 16777216
    (true_where (nat_lt 16777216 (judged_size d)) (TooLarge (told_size d))
    (otherwise_none (first_refused d) (too_large d) none).1))

-- ---- by the size

more_is : (n most : ℕ) → most < n → nat_lt most n ≡ true
more_is n most h = grind arith

few_is : (n most : ℕ) → n ≤ most → nat_lt most n ≡ false
few_is n most h = grind arith

is_judged : (d : Design) → awake_size d ≤ 16777216 → judged_size d ≡ size d
is_judged d h = ap (λ k. if k then awake_size d else size d) (few_is (awake_size d) 16777216 h)

is_awake : (d : Design) → 16777216 < awake_size d → judged_size d ≡ awake_size d
is_awake d h = ap (λ k. if k then awake_size d else size d) (more_is (awake_size d) 16777216 h)

judged : (d : Design) (n : ℕ) → judged_size d ≡ n → first_refused d ≡ None → width_refusal d ≡ where_true (nat_lt 16777216 n) (TooLarge (capped n))
judged d n h none = ap (λ o. otherwise o (too_large d)) none ∙ ap (λ m. where_true (nat_lt 16777216 m) (TooLarge (capped m))) h

pub none_refused : (d : Design) → first_refused d ≡ None → awake_size d ≤ 16777216 → size d ≤ 16777216 → width_refusal d ≡ None
none_refused d none awake small = judged d (size d) (is_judged d awake) none ∙ ap (λ k. where_true k (TooLarge (capped (size d)))) (few_is (size d) 16777216 small)

pub large_refused : (d : Design) → first_refused d ≡ None → awake_size d ≤ 16777216 → 16777216 < size d → width_refusal d ≡ Some (TooLarge (capped (size d)))
large_refused d none awake large = judged d (size d) (is_judged d awake) none ∙ ap (λ k. where_true k (TooLarge (capped (size d)))) (more_is (size d) 16777216 large)

pub awake_refused : (d : Design) → first_refused d ≡ None → 16777216 < awake_size d → width_refusal d ≡ Some (TooLarge (capped (awake_size d)))
awake_refused d none large = judged d (awake_size d) (is_awake d large) none ∙ ap (λ k. where_true k (TooLarge (capped (awake_size d)))) (more_is (awake_size d) 16777216 large)
