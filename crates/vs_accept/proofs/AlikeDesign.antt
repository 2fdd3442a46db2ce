-- The refusals of one design.
use Rattle.std.proofs.Common.{◌≡◌, ℕ, true, List, refl, sym, ap, ◌∙◌, Option, Some, None}
use Rattle.vs_design.specs.Designs.{Design}
use Rattle.vs_design.specs.Levels.{level_order, has_no_cycle}
use Rattle.vs_design.specs.Cycles.{IsCycle, IsDecided}
use Rattle.vs_design.specs.Answers.{DesignRefusal, OfWidth, OfBlock, OfDriver, OfClock, Cycle, OfRace, OfZero, IsRefusedBy, IsJudged, AsWritten, AsLeft}
use Rattle.vs_design.specs.Dead.{without_dead}
use Rattle.vs_accept.proofs.Answered.{kept_not_broken}

same : {A : Type 0} {a b : A} {x : Option A} → x ≡ Some a → x ≡ Some b → a ≡ b
same p q = cc

none_some : {A : Type 0} {a : A} {x : Option A} → x ≡ None → x ≡ Some a → ⊥
none_some p q = cc

apart : {A B : Type 0} {a : A} {x : Option A} → x ≡ None → x ≡ Some a → B
apart p q = absurd (none_some p q)

-- the same, or two cycles
pub data AreAlikeRefusals (x y : DesignRefusal) : Type 0 where
  Same : x ≡ y → AreAlikeRefusals x y
  Cycles : (ps qs : List ℕ) (at by : ℕ) → x ≡ Cycle ps at → y ≡ Cycle qs by → AreAlikeRefusals x y

pub alike_of_design : ((d : Design) → IsDecided d) → (d : Design) (clocks : List (List ℕ)) (x y : DesignRefusal) → IsRefusedBy d clocks x → IsRefusedBy d clocks y → AreAlikeRefusals x y
alike_of_design decided d clocks x y h k = go x y h k
  where
    cyclic : {B : Type 0} (ps : List ℕ) → has_no_cycle d ≡ true → IsCycle d ps → B
    cyclic ps h c = absurd ((decided d).none (level_order d) h ps c)

    go : (x y : DesignRefusal) → IsRefusedBy d clocks x → IsRefusedBy d clocks y → AreAlikeRefusals x y
    go (OfWidth a) (OfWidth b) h k = Same (ap OfWidth (same h k))
    go (OfWidth a) (OfBlock b) h k = apart k.0 h
    go (OfWidth a) (OfDriver b) h k = apart k.0 h
    go (OfWidth a) (OfClock b) h k = apart k.0 h
    go (OfWidth a) (Cycle ps at) h k = apart k.0 h
    go (OfWidth a) (OfRace b) h k = apart k.0 h
    go (OfWidth a) (OfZero b) h k = apart k.0 h
    go (OfBlock a) (OfWidth b) h k = apart h.0 k
    go (OfBlock a) (OfBlock b) h k = Same (ap OfBlock (same h.1 k.1))
    go (OfBlock a) (OfDriver b) h k = apart k.1 h.1
    go (OfBlock a) (OfClock b) h k = apart k.1 h.1
    go (OfBlock a) (Cycle ps at) h k = apart k.1 h.1
    go (OfBlock a) (OfRace b) h k = apart k.1 h.1
    go (OfBlock a) (OfZero b) h k = apart k.1 h.1
    go (OfDriver a) (OfWidth b) h k = apart h.0 k
    go (OfDriver a) (OfBlock b) h k = apart h.1 k.1
    go (OfDriver a) (OfDriver b) h k = Same (ap OfDriver (same h.2 k.2))
    go (OfDriver a) (OfClock b) h k = apart k.2 h.2
    go (OfDriver a) (Cycle ps at) h k = apart k.2 h.2
    go (OfDriver a) (OfRace b) h k = apart k.2 h.2
    go (OfDriver a) (OfZero b) h k = apart k.2 h.2
    go (OfClock a) (OfWidth b) h k = apart h.0 k
    go (OfClock a) (OfBlock b) h k = apart h.1 k.1
    go (OfClock a) (OfDriver b) h k = apart h.2 k.2
    go (OfClock a) (OfClock b) h k = Same (ap OfClock (same h.3 k.3))
    go (OfClock a) (Cycle ps at) h k = apart k.3 h.3
    go (OfClock a) (OfRace b) h k = apart k.3 h.3
    go (OfClock a) (OfZero b) h k = apart k.3 h.3
    go (Cycle ps at) (OfWidth b) h k = apart h.0 k
    go (Cycle ps at) (OfBlock b) h k = apart h.1 k.1
    go (Cycle ps at) (OfDriver b) h k = apart h.2 k.2
    go (Cycle ps at) (OfClock b) h k = apart h.3 k.3
    go (Cycle ps at) (Cycle qs by) h k = Cycles ps qs at by refl refl
    go (Cycle ps at) (OfRace b) h k = cyclic ps k.4 h.4
    go (Cycle ps at) (OfZero b) h k = cyclic ps k.4 h.4
    go (OfRace a) (OfWidth b) h k = apart h.0 k
    go (OfRace a) (OfBlock b) h k = apart h.1 k.1
    go (OfRace a) (OfDriver b) h k = apart h.2 k.2
    go (OfRace a) (OfClock b) h k = apart h.3 k.3
    go (OfRace a) (Cycle ps at) h k = cyclic ps h.4 k.4
    go (OfRace a) (OfRace b) h k = Same (ap OfRace (same h.5 k.5))
    go (OfRace a) (OfZero b) h k = apart k.5 h.5
    go (OfZero a) (OfWidth b) h k = apart h.0 k
    go (OfZero a) (OfBlock b) h k = apart h.1 k.1
    go (OfZero a) (OfDriver b) h k = apart h.2 k.2
    go (OfZero a) (OfClock b) h k = apart h.3 k.3
    go (OfZero a) (Cycle ps at) h k = cyclic ps h.4 k.4
    go (OfZero a) (OfRace b) h k = apart h.5 k.5
    go (OfZero a) (OfZero b) h k = Same (ap OfZero (same h.6 k.6))

-- of a design as it is written, or of what is left of it
pub record AreAlikeJudged (d e : Design) (x y : DesignRefusal) : Type 0 where
  pub same : d ≡ e
  pub alike : AreAlikeRefusals x y

pub alike_judged : ((d : Design) → IsDecided d) → (d : Design) (clocks : List (List ℕ)) (e f : Design) (x y : DesignRefusal) → IsJudged d clocks e x → IsJudged d clocks f y → AreAlikeJudged e f x y
alike_judged decided d clocks e f x y (AsWritten p early h) (AsWritten q also k) = record { same = p ∙ sym q; alike = alike_of_design decided d clocks x y h k }
alike_judged decided d clocks e f x y (AsWritten p early h) (AsLeft q kept k) = absurd (kept_not_broken d clocks x kept early h)
alike_judged decided d clocks e f x y (AsLeft p kept h) (AsWritten q also k) = absurd (kept_not_broken d clocks y kept also k)
alike_judged decided d clocks e f x y (AsLeft p kept h) (AsLeft q also k) = record { same = p ∙ sym q; alike = alike_of_design decided (without_dead d) clocks x y h k }
