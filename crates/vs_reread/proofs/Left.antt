-- What is left to take of a file that was attached.
use Rattle.std.proofs.Common.{◌≡◌, ℕ, List, Result, Ok, Err, IfOk, take, ap, ◌∙◌, rules}
use Rattle.vs_desk.specs.declared.desk.Way.TheVariants.{Read}
use Rattle.vs_desk.specs.Desk.{Contents, with_attached}
use Rattle.vs_reread.specs.Again.{most_stimulus, first_lines}

on_ok : {V E : Type 0} (P Q : V → Type 0) (r : Result V E) → IfOk r P → ((v : V) → P v → Q v) → IfOk r Q
on_ok P Q (Ok v) h k = k v h
on_ok P Q (Err e) h k = tt

all_left : (contents : Contents) (place : ℕ) (path : List ℕ) → (with_attached contents place Read path).left place ≡ contents.files path
all_left contents place path = search rules

-- the lines of what is left are those of the file
pub lines_of_file : {V E T : Type 0} (items : V → List ℕ) (r : Result V E) (old now : Contents) (place n : ℕ) (path : List ℕ) → (T → now ≡ with_attached old place Read path)
    → IfOk r (λ v. T → items v ≡ first_lines n (take most_stimulus (now.left place))) → IfOk r (λ v. T → items v ≡ first_lines n (take most_stimulus (old.files path)))
lines_of_file items r old now place n path attached h =
    on_ok _ _ r h (λ v e t. e t ∙ ap (λ (xs : List ℕ). first_lines n (take most_stimulus xs)) (ap (λ (k : Contents). k.left place) (attached t) ∙ all_left old place path))
