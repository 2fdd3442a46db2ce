use Rattle.std.proofs.Common.{◌≡◌, ◌+◌, ◌-◌, ℕ, Result, Ok, Err, length, sym, ap, ◌∙◌, subst, arith}
use Rattle.std.specs.Prelude.{IfOk}
use Rattle.vs_four.specs.declared.Bit4.TheVariants.{Zero, One}
use Rattle.vs_design.specs.Covers.{half}
use Rattle.vs_full.specs.Searched.{AreLong}
use Rattle.vs_full.proofs.Splitting.{half_few, half_long, left_of_both, then_second}
use Rattle.vs_full.proofs.search.+search.Goals as goal

if_ok : {V W : Type 0} {P Q : V → Type 0} (r : Result V W) → IfOk r P → ((v : V) → P v → Q v) → IfOk r Q
if_ok (Ok v) h k = k v h
if_ok (Err e) h k = h

pub search-requires : goal.search-requires
search-requires t c =
    let n = c.args.n in
    let ps = c.args.patterns.now in
    let i = c.least_free-i.result in
    let is : c.as_slice.result.now ≡ half Zero i ps = c.as_slice.ensures.value ∙ c.in_ok-zero.ensures in
    let next : n ≡ n - 1 + 1 = omega (arith, c.if-n-eq0.false) in (
      omega (arith, c.decreases, c.if-n-eq0.false),
      (
        omega (arith, c.requires.bits),
        (
          omega (arith, ap length is, half_few Zero i ps, c.requires.many),
          subst (AreLong (n - 1)) (sym is) (half_long Zero i (n - 1) ps c.least_free-i.ensures.within (subst (λ (m : ℕ). AreLong m ps) next c.requires.long)),
        ),
      ),
    )

pub search-requires-2 : goal.search-requires-2
search-requires-2 t c =
    let n = c.args.n in
    let ps = c.args.patterns.now in
    let i = c.least_free-i.result in
    let is : c.as_slice-2.result.now ≡ half One i ps = c.as_slice-2.ensures.value ∙ c.in_ok-one.ensures in
    let next : n ≡ n - 1 + 1 = omega (arith, c.if-n-eq0.false) in (
      omega (arith, c.decreases, c.if-n-eq0.false),
      (
        omega (arith, c.requires.bits),
        (
          omega (arith, ap length is, half_few One i ps, c.requires.many),
          subst (AreLong (n - 1)) (sym is) (half_long One i (n - 1) ps c.least_free-i.ensures.within (subst (λ (m : ℕ). AreLong m ps) next c.requires.long)),
        ),
      ),
    )

pub returns-clause-found : goal.returns-clause-found
returns-clause-found t c =
    let n = c.args.n in
    let ps = c.args.patterns.now in
    let left = c.args.left.now in
    let i = c.least_free-i.result in
    if_ok c.search-2.result c.search-2.ensures.found
    (λ v k.
    then_second n (n - 1) left (left - 1) c.search.new.left ps c.as_slice.result.now c.as_slice-2.result.now i v (sym c.has_free.ensures ∙ c.if-has_free.false) (omega (arith, c.if-n-eq0.false)) (sym c.are_few.ensures ∙ c.if-are_few.false)
    (omega (arith, c.if-left-eq0.false)) c.least_free-i.ensures.is (c.as_slice.ensures.value ∙ c.in_ok-zero.ensures) (c.as_slice-2.ensures.value ∙ c.in_ok-one.ensures) (c.in_ok-search.ensures.left c.if-not-branch.false) k)

pub returns-clause-left : goal.returns-clause-left
returns-clause-left t c =
    let n = c.args.n in
    let ps = c.args.patterns.now in
    let left = c.args.left.now in
    let i = c.least_free-i.result in
    if_ok c.search-2.result c.search-2.ensures.left
    (λ v k e.
    left_of_both n (n - 1) left (left - 1) c.search.new.left c.search-2.new.left ps c.as_slice.result.now c.as_slice-2.result.now i (sym c.has_free.ensures ∙ c.if-has_free.false) (omega (arith, c.if-n-eq0.false)) (sym c.are_few.ensures ∙ c.if-are_few.false)
    (omega (arith, c.if-left-eq0.false)) c.least_free-i.ensures.is (c.as_slice.ensures.value ∙ c.in_ok-zero.ensures) (c.as_slice-2.ensures.value ∙ c.in_ok-one.ensures) (c.in_ok-search.ensures.left c.if-not-branch.false) (k e))
