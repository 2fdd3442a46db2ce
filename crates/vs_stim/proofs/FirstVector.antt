-- The first vector that is taken.
use Rattle.std.proofs.Common.{◌≡◌, ℕ, ◌+◌, ◌<◌, Bool, true, false, not, ◌&&◌, nat_eq, List, [], ◌∷◌, length, refl, ap, sym, ◌∙◌, arith}
use Rattle.std.specs.Prelude.{Option, Some, None}
use Rattle.vs_four.specs.declared.Bit4.{Bit4}
use Rattle.vs_stim.specs.Header.{PortLists, ColumnLists, lacks_output}
use Rattle.vs_stim.specs.declared.error.StimError.{StimError}
use Rattle.vs_stim.specs.declared.error.StimError.TheVariants.{BadHeader, NoExpectation, BadVector, FirstUnknown, TooManyVectors}
use Rattle.vs_stim.specs.Lines.{Line, lines, all_lines, content}
use Rattle.vs_stim.specs.Reading.{Reading, refused, with_vector, limits, Place, behind, too_long, Said, header_line, vector_line, not_taken, unknown_in, first_place, reading, read_vectors, read_header}
use Rattle.vs_stim.specs.Reading.Said.{Skipped, Malformed, Given}
use Rattle.vs_stim.specs.Vectors.{Entry, vector_known, broken}
use Rattle.vs_stim.specs.declared.input.Column.{Column}
use Rattle.vs_stim.proofs.Turns.{if_named}

abbrev Vector : Type 0
Vector = List (List Bit4)

-- the first vector is known
pub record FirstKnown (r : Reading) : Type 0 where
  pub known : (first : Vector) (later : List Vector) → r.vectors ≡ first ∷ later → vector_known first ≡ true

-- a whole reading has a vector
pub record HasVector (r : Reading) : Type 0 where
  pub some : r.refusal ≡ None → 0 < length r.vectors

none_known : (e : StimError) → FirstKnown (refused e)
none_known e = record { known = λ first later h. cc }

none_whole : (e : StimError) → HasVector (refused e)
none_whole e = record { some = λ h. cc }

-- a reading of lines, by the first line
turn : Place → Option StimError → Said Entry → (Entry → Option StimError) → Reading → (Entry → Reading) → Reading
turn p long s taken skipped given =
    elim long [
      | Some e ↦ refused e
      | None ↦ elim s [
        | Skipped ↦ skipped
        | Malformed ↦ refused (BadVector p.number)
        | Given v ↦ elim (taken v) [ Some e ↦ refused e | None ↦ with_vector v (given v) ]
      ]
    ]

turn_known : (cs : ColumnLists) (p : Place) (long : Option StimError) (s : Said Entry) (skipped : Reading) (given : Entry → Reading) → FirstKnown skipped
    → FirstKnown (turn p long s (not_taken limits cs p.number 0) skipped given)
unfolding turn
turn_known cs p (Some e) s skipped given h = none_known e
turn_known cs p None Skipped skipped given h = h
turn_known cs p None Malformed skipped given h = none_known (BadVector p.number)
turn_known cs p None (Given v) skipped given h = go (vector_known v.values) refl
  where
    known : (r : Option Column) → vector_known v.values ≡ true → FirstKnown (elim (elim r as (λ _. Option StimError) [
      | Some c ↦ Some (unknown_in c p.number)
      | None ↦ None
    ]) as (λ _. Reading) [ Some e ↦ refused e | None ↦ with_vector v (given v) ])
    known (Some c) e = none_known (unknown_in c p.number)
    known None e = record { known = λ first later h. let same : v.values ≡ first = cc in ap vector_known (sym same) ∙ e }

    go : (b : Bool) → vector_known v.values ≡ b → FirstKnown (elim (elim (nat_eq 0 0 && not b) as (λ _. Option StimError) [
      | true ↦ Some FirstUnknown
      | false ↦ elim (broken cs.inputs v.values) [
        | Some c ↦ Some (unknown_in c p.number)
        | None ↦ elim (nat_eq 0 limits.vectors) [ true ↦ Some TooManyVectors | false ↦ None ]
      ]
    ]) as (λ _. Reading) [ Some e ↦ refused e | None ↦ with_vector v (given v) ])
    go false e = none_known FirstUnknown
    go true e = known (broken cs.inputs v.values) e

pub vectors_known : (cs : ColumnLists) (p : Place) (ls : List Line) → FirstKnown (read_vectors limits cs p 0 ls)
unfolding turn
vectors_known cs p [] = record { known = λ first later h. cc }
vectors_known cs p (l ∷ ls) =
    turn_known cs p (too_long limits p (length l.bytes) l.ended) (vector_line cs (content l)) (read_vectors limits cs (behind p (length l.bytes)) 0 ls)
    (λ v. read_vectors limits cs (behind p (length l.bytes)) (0 + 1) ls) (vectors_known cs (behind p (length l.bytes)) ls)

-- lines before the vectors, by the first of them
head_turn : Option StimError → Said (ColumnLists) → Reading → (ColumnLists → Reading) → Reading
head_turn long s skipped given =
    elim long [
      | Some e ↦ refused e
      | None ↦ elim s [ Skipped ↦ skipped | Malformed ↦ refused BadHeader | Given cs ↦ given cs ]
    ]

-- what holds of each refusal and of each reading behind a header holds of the whole
head_case : (P : Reading → Type 0) → ((e : StimError) → P (refused e)) → (long : Option StimError) (s : Said (ColumnLists)) (skipped : Reading) (given : ColumnLists → Reading)
    → P skipped → ((cs : ColumnLists) → P (given cs)) → P (head_turn long s skipped given)
unfolding head_turn
head_case P none (Some e) s skipped given h k = none e
head_case P none None Skipped skipped given h k = h
head_case P none None Malformed skipped given h k = none BadHeader
head_case P none None (Given cs) skipped given h k = k cs

named_case : (P : Reading → Type 0) → ((e : StimError) → P (refused e)) → (b : Bool) (r : Reading) → P r → P (if_named b r)
unfolding if_named
named_case P none true r h = none NoExpectation
named_case P none false r h = h

header_case : (P : Reading → Type 0) → ((e : StimError) → P (refused e)) → ((cs : ColumnLists) (p : Place) (ls : List Line) → P (read_vectors limits cs p 0 ls))
    → (is : PortLists) (p : Place) (ls : List Line) → P (read_header limits is p ls)
unfolding head_turn if_named
header_case P none vectors is p [] = none BadHeader
header_case P none vectors is p (l ∷ ls) =
    head_case P none (too_long limits p (length l.bytes) l.ended) (header_line is (content l)) (read_header limits is (behind p (length l.bytes)) ls)
    (λ cs. if_named (lacks_output is cs) (read_vectors limits cs (behind p (length l.bytes)) 0 ls)) (header_case P none vectors is (behind p (length l.bytes)) ls)
    (λ cs. named_case P none (lacks_output is cs) (read_vectors limits cs (behind p (length l.bytes)) 0 ls) (vectors cs (behind p (length l.bytes)) ls))

pub first_known : (is : PortLists) (text : List ℕ) → FirstKnown (reading is text)
first_known is text = header_case FirstKnown none_known vectors_known is first_place (all_lines (lines text))

turn_whole : (p : Place) (long : Option StimError) (s : Said Entry) (taken : Entry → Option StimError) (skipped : Reading) (given : Entry → Reading) → HasVector skipped
    → HasVector (turn p long s taken skipped given)
unfolding turn
turn_whole p (Some e) s taken skipped given h = none_whole e
turn_whole p None Skipped taken skipped given h = h
turn_whole p None Malformed taken skipped given h = none_whole (BadVector p.number)
turn_whole p None (Given v) taken skipped given h = go (taken v)
  where
    go : (o : Option StimError) → HasVector (elim o as (λ _. Reading) [ Some e ↦ refused e | None ↦ with_vector v (given v) ])
    go (Some e) = none_whole e
    go None = record { some = λ _. omega arith }

vectors_whole : (cs : ColumnLists) (p : Place) (ls : List Line) → HasVector (read_vectors limits cs p 0 ls)
unfolding turn
vectors_whole cs p [] = record { some = λ h. cc }
vectors_whole cs p (l ∷ ls) =
    turn_whole p (too_long limits p (length l.bytes) l.ended) (vector_line cs (content l)) (not_taken limits cs p.number 0) (read_vectors limits cs (behind p (length l.bytes)) 0 ls)
    (λ v. read_vectors limits cs (behind p (length l.bytes)) (0 + 1) ls) (vectors_whole cs (behind p (length l.bytes)) ls)

pub has_vector : (is : PortLists) (text : List ℕ) → HasVector (reading is text)
has_vector is text = header_case HasVector none_whole vectors_whole is first_place (all_lines (lines text))
