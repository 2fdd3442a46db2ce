-- The copies at the end of a process are calls.
use Rattle.std.proofs.Common.{◌≡◌, ℕ, ◌<◌, ◌≤◌, ◌^◌, Bool, true, ◌&&◌, ◌==◌, nat_le, List, [], ◌∷◌, length, ap, ◌∙◌, arith}
use Rattle.std.specs.List.{All}
use Rattle.std.proofs.lemmas.List.Elements.{All-nil, All-cons}
use Rattle.vs_plane.specs.Kernels.{AreDifferent, AreApart, IsArgument}
use Rattle.vs_code.specs.Calls.{IsCall}
use Rattle.vs_values.specs.Added.{copy_call}
use Rattle.vs_lower.specs.Copies.{copies}

le_true : (a b : ℕ) → a ≤ b → nat_le a b ≡ true
le_true a b h = grind arith

eq_true : (a b : ℕ) → a ≡ b → (a == b) ≡ true
eq_true a b h = grind arith

copy_takes : (a to : ℕ) → 1 ≤ a → a ≡ to → (nat_le 1 a && a == to) ≡ true
copy_takes a to h e = ap (λ (b : Bool). b && a == to) (le_true 1 a h) ∙ eq_true a to e

-- copies from slots that none of the targets is
pub copies_are : (from to : List ℕ) → length from ≡ length to → length to < 2 ^ 32 → All (λ slot. slot < 2 ^ 32) from → All (λ slot. slot < 2 ^ 32) to → AreDifferent to → AreApart from to → All IsCall (copies from to)
copies_are [] to long short below_from below_to differ apart = All-nil IsCall
copies_are (s ∷ from) to long short below_from below_to differ apart =
    All-cons IsCall (copy_call (s ∷ from) to) [] (record {
      lengths = copy_takes (length (s ∷ from)) (length to) (omega arith) long;
      short = All-cons (λ n. n < 2 ^ 32) (length (s ∷ from)) (length to ∷ []) (omega arith) (All-cons (λ n. n < 2 ^ 32) (length to) [] short (All-nil (λ n. n < 2 ^ 32)));
      room = omega arith;
      targets = record {
        to_below = below_to;
        scratch_below = All-nil (λ slot. slot < 2 ^ 32);
        to_differ = differ;
        scratch_differ = record { place = λ j k l m e. absurd (omega arith) };
        both_apart = record { differ = λ j k l m e. absurd (omega arith) };
      };
      arguments = All-cons (λ arg. IsArgument (2 ^ 32) arg to []) (s ∷ from) [] (record {
        below = below_from;
        to_apart = apart;
        scratch_apart = record { differ = λ j k l m e. absurd (omega arith) };
      }) (All-nil (λ arg. IsArgument (2 ^ 32) arg to []));
    }) (All-nil IsCall)
