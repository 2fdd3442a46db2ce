-- Expressions as what a select takes bits of, and as targets.
use Rattle.std.specs.Prelude.{ℕ, [], if◌then◌else◌, ◌==◌, Option, None, Some}
use Rattle.vs_design.specs.Expressions.{Source, OfSignal, OfConstant, Expression, Literal, Name, Select, Word, WordPart, Join, Repeat, At}
use Rattle.vs_design.specs.Statements.{Target, Whole, PartOf, WordOf, WordPartOf, Both}

-- of a signal's name or a parameter's value
abbrev pub source_of : Expression → Source
source_of (Name signal) = OfSignal signal
source_of (Literal bits signed sized) = OfConstant bits
source_of (At place e) = source_of e
source_of _ = OfConstant []

abbrev pub both_of : Option Target → Option Target → Option Target
both_of (Some high) (Some low) = Some (Both high low)
both_of _ _ = None

-- a name, a select of a signal, a word of a memory or a part of one, or a concatenation of these (table 6-1); nothing else is a target
abbrev pub target_of : Expression → Option Target
target_of (Name signal) = Some (Whole signal)
target_of (Select (OfSignal signal) part index) = Some (PartOf signal part index)
target_of (Word signal index) = Some (WordOf signal index)
target_of (WordPart signal address part index) = Some (WordPartOf signal address part index)
target_of (Join high low) = both_of (target_of high) (target_of low)
target_of (Repeat count a) = if count == 1 then target_of a else None
target_of (At place e) = target_of e
target_of _ = None

-- where it begins in the text
abbrev pub place_of : Expression → ℕ
place_of (At place e) = place
place_of _ = 0
