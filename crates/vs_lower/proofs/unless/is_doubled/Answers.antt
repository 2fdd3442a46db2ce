use Rattle.std.proofs.Common.{◌≡◌, ◌∙◌, ◌++◌, ◌||◌, ◌==◌, ℕ, Bool, true, false, List, [], ◌∷◌, refl, sym, ap, subst, eqb-true, true≢false}
use Rattle.std.specs.List.{list_any}
use Rattle.vs_design.specs.Fits.{fits_statement}
use Rattle.vs_design.specs.Footprints.{contains}
use Rattle.vs_design.specs.Races.{blocking_bits, nonblocking_bits}
use Rattle.vs_flat.specs.Arena.{Arena}
use Rattle.vs_shape.specs.Bodies.{body_of}
use Rattle.vs_lower.specs.Stated.{AreApart}
use Rattle.vs_lower.proofs.Placing.{by_test}
use Rattle.vs_lower.proofs.unless.is_doubled.Goals as goal

pub push_statement-requires-clause-fits : goal.push_statement-requires-clause-fits
push_statement-requires-clause-fits c = subst (λ (a : Arena). fits_statement (body_of a c.args.s) ≡ true) (sym c.shapes.ensures) c.requires.fits

pub push_statement-requires-2-clause-fits : goal.push_statement-requires-2-clause-fits
push_statement-requires-2-clause-fits c = subst (λ (a : Arena). fits_statement (body_of a c.args.s) ≡ true) (sym c.shapes-2.ensures) c.requires.fits

-- where none is in both
apart : (at_once updated : List ℕ) → list_any (contains at_once) updated ≡ false → AreApart at_once updated
apart at_once [] h b k = absurd (true≢false (sym k))
apart at_once (x ∷ xs) h b k =
    let one = neither (contains at_once x) (list_any (contains at_once) xs) h in
    by_test (b == x) (λ e. ap (contains at_once) (eqb-true b x e) ∙ one.0) (λ e. apart at_once xs one.1 b (sym (ap (λ (q : Bool). q || contains xs b) e) ∙ k))
  where
    neither : (p q : Bool) → (p || q) ≡ false → (p ≡ false) × (q ≡ false)
    neither true q h = absurd (true≢false h)
    neither false q h = (refl, h)

-- the same of lists that have the same bits
apart_as : (a b : Arena) (s : ℕ) (gathered these those later : List ℕ) → gathered ≡ blocking_bits (body_of a s) → ((n : ℕ) → contains these n ≡ contains gathered n) → those ≡ these → later ≡ nonblocking_bits (body_of b s)
    → AreApart those later → AreApart (blocking_bits (body_of a s)) (nonblocking_bits (body_of b s))
apart_as a b s gathered these those later is same cut up h n k =
    sym (ap (λ (xs : List ℕ). contains xs n) cut ∙ same n ∙ ap (λ (xs : List ℕ). contains xs n) is) ∙ h n (ap (λ (xs : List ℕ). contains xs n) up ∙ k)

pub returns : goal.returns
returns c e =
    let s = c.args.s in
    let x = c.shapes.result.now in
    let y = c.shapes-2.result.now in
    let first : c.push_statement.new.out.items ≡ blocking_bits (body_of x s) = c.in_ok-push_statement.ensures ∙ ap (λ (xs : List ℕ). xs ++ blocking_bits (body_of x s)) c.new-at_once.ensures.items in
    let second : c.push_statement-2.new.out.items ≡ nonblocking_bits (body_of y s) = c.in_ok-push_statement-2.ensures ∙ ap (λ (xs : List ℕ). xs ++ nonblocking_bits (body_of y s)) c.new-later.ensures.items in
    let h = apart c.as_slice-2.result.now c.as_slice.result.now (sym c.share.ensures ∙ e) in
    let k = apart_as x y s c.push_statement.new.out.items c.ascend.new.bits.items c.as_slice-2.result.now c.as_slice.result.now first c.ascend.ensures.same c.as_slice-2.ensures.value (c.as_slice.ensures.value ∙ second) h in
    subst (λ (z : Arena). AreApart (blocking_bits (body_of z s)) (nonblocking_bits (body_of c.args.templates.now.arena s))) c.shapes.ensures
    (subst (λ (z : Arena). AreApart (blocking_bits (body_of x s)) (nonblocking_bits (body_of z s))) c.shapes-2.ensures k)
