use Rattle.std.proofs.Common.{◌≡◌, ℕ, Bool, true, List, length, take, min, cond, sym, ap, ◌∙◌}
use Rattle.std.proofs.lemmas.List.{take_min}
use Rattle.vs_excerpt.specs.Excerpts as spec
use Rattle.vs_excerpt.proofs.excerpt.shown_behind.Goals as goal

first_part : (cut : Bool) (m n : ℕ) (xs : List ℕ) → cut ≡ true → n ≡ min m (length xs) → take n xs ≡ cond cut (take m xs) xs
first_part cut m n xs e h = rw e (ap (λ k. take k xs) h ∙ take_min m xs)

pub returns-then-is_cut : goal.returns-then-is_cut
returns-then-is_cut c = first_part (spec.is_cut c.args.before.now c.args.behind.now) 100 c.min.result c.args.behind.now (sym c.is_cut.ensures ∙ c.if-is_cut.true) c.min.ensures
