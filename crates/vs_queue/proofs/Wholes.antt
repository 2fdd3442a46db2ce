-- One slot more is over.
use Rattle.std.proofs.Common.{◌≡◌, ℕ, ◌+◌, List, [], ◌∷◌, ◌++◌, length, refl, sym, ap, ◌∙◌, subst, arith, length-append}
use Rattle.std.specs.List.{All}
use Rattle.std.proofs.lemmas.List.Elements.{All-push, All-from_get_or}
use Rattle.vs_four.specs.declared.Bit4.{Bit4}
use Rattle.vs_design.specs.Designs.{Design}
use Rattle.vs_queue.specs.Spare.{value_count}
use Rattle.vs_queue.specs.Whole.{AreWhole}

pub whole_more : (d : Design) (clocks : List ℕ) (slots : ℕ) (ends now : List (List Bit4)) (values : List Bit4) → AreWhole d clocks slots ends → length values ≡ value_count d clocks → now ≡ ends ++ values ∷ [] → AreWhole d clocks (slots + 1) now
whole_more d clocks slots ends now values w l is = record {
  count = (let a = ap length is in let b = length-append ends (values ∷ []) in let c = w.count in omega (arith, a, b, c));
  long = subst (λ (xs : List (List Bit4)). All (λ (v : List Bit4). length v ≡ value_count d clocks) xs) (sym is) (All-push (λ (v : List Bit4). length v ≡ value_count d clocks) ends values w.long l);
}

pub whole_as : (d : Design) (clocks : List ℕ) (a b : ℕ) (ends now : List (List Bit4)) → a ≡ b → now ≡ ends → AreWhole d clocks a ends → AreWhole d clocks b now
whole_as d clocks a b ends now e is w = record { count = ap length is ∙ w.count ∙ e; long = subst (λ (xs : List (List Bit4)). All (λ (v : List Bit4). length v ≡ value_count d clocks) xs) (sym is) w.long }

pub whole_none : (d : Design) (clocks : List ℕ) (ends : List (List Bit4)) → ends ≡ [] → AreWhole d clocks 0 ends
whole_none d clocks ends is = whole_as d clocks 0 0 [] ends refl is (record { count = refl; long = All-from_get_or (λ (v : List Bit4). length v ≡ value_count d clocks) [] [] (λ i l. absurd (omega (arith, l))) })
