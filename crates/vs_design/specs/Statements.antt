-- Targets and cases: their lengths and signs, and how items are compared (IEEE 1364-2005, clause 9).
use Rattle.std.specs.Prelude.{ℕ, ◌+◌, Bool, ◌&&◌, max}
use Rattle.vs_four.specs.declared.Bit4.{Bit4}
use Rattle.vs_four.specs.Logic.{BitList, identical, matches_z, matches_x}
use Rattle.vs_design.specs.Expressions.{signal_length, word_length, Expression, Items, NoItem, Item, width, sign}
pub use Rattle.vs_base.specs.declared.events.CaseKind.{CaseKind}
pub use Rattle.vs_base.specs.declared.events.CaseKind.TheVariants.{Exact, CaseZ, CaseX}
pub use Rattle.vs_design.specs.Trees.{Target, Whole, PartOf, WordOf, WordPartOf, Both, Statement, Empty, Assignment, Then, If, Case, Arms, Arm, Default, Function}

-- the length of a target in bits
abbrev pub target_width : Target → ℕ
target_width (Whole signal) = signal_length signal
target_width (PartOf signal part index) = part.width
target_width (WordOf signal index) = word_length signal
target_width (WordPartOf signal address part index) = part.width
target_width (Both high low) = target_width high + target_width low

-- how an item is compared (9.5, 9.5.1)
abbrev pub case_match : CaseKind → BitList → BitList → Bit4
case_match Exact a b = identical a b
case_match CaseZ a b = matches_z a b
case_match CaseX a b = matches_x a b

-- the greatest length of these and w
abbrev pub widest : ℕ → Items → ℕ
widest w NoItem = w
widest w (Item e es) = widest (max w (width e)) es

abbrev pub all_signed : Bool → Items → Bool
all_signed s NoItem = s
all_signed s (Item e es) = all_signed (s && sign e) es

abbrev pub arms_width : Arms → ℕ → ℕ
arms_width (Arm items statement rest) w = arms_width rest (widest w items)
arms_width (Default statement) w = w

abbrev pub arms_sign : Arms → Bool → Bool
arms_sign (Arm items statement rest) s = arms_sign rest (all_signed s items)
arms_sign (Default statement) s = s

-- the expression and all items of a case are taken in their largest length, and as signed only if all are (9.5)
abbrev pub case_width : Expression → Arms → ℕ
case_width subject arms = arms_width arms (width subject)

abbrev pub case_sign : Expression → Arms → Bool
case_sign subject arms = arms_sign arms (sign subject)
