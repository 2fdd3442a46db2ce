-- What changes where a header has to name outputs.
use Rattle.std.proofs.Common.{◌≡◌, ◌≢◌, ℕ, ◌+◌, ◌<◌, Bool, true, false, ◌&&◌, nat_le, nat_lt, List, [], ◌∷◌, length, refl, sym, subst, arith}
use Rattle.std.specs.Prelude.{Option, Some, None, IfSome}
use Rattle.vs_stim.specs.declared.error.StimError.{StimError}
use Rattle.vs_stim.specs.declared.error.StimError.TheVariants.{BadHeader, NoExpectation, StimulusTooLong, LineTooLong}
use Rattle.vs_stim.specs.declared.input.Expected.{Expected}
use Rattle.vs_stim.specs.Header.{PortLists, ColumnLists, undemanded, is_nil, lacks_output}
use Rattle.vs_stim.specs.Laws.{NamesNone}
use Rattle.vs_stim.specs.Lines.{Line, content, lines, all_lines}
use Rattle.vs_stim.specs.Reading.{limits, Place, behind, bytes_with_lf, too_long, Reading, Said, refused, header_line, read_vectors, read_header, header_fault, header_columns, first_place, reading, header_refusal, columns}
use Rattle.vs_stim.specs.Reading.Said.{Skipped, Malformed, Given}
use Rattle.vs_stim.proofs.Turns.{if_named}

-- what lines give, by the first one's refusal and what it says, where these columns lack an output
turn : (ColumnLists → Bool) → Option StimError → Said ColumnLists → Reading → (ColumnLists → Reading) → Reading
turn lacks r s skipped given =
    elim r [ Some e ↦ refused e | None ↦ elim s [ Skipped ↦ skipped | Malformed ↦ refused BadHeader | Given cs ↦ if_named (lacks cs) (given cs) ] ]

same_lines : (ports : PortLists) (p : Place) (ls : List Line) → (read_header limits ports p ls).refusal ≢ Some NoExpectation
    → read_header limits ports p ls ≡ read_header limits (undemanded ports) p ls
unfolding turn if_named
same_lines ports p [] n = refl
same_lines ports p (l ∷ ls) n =
    go (too_long limits p (length l.bytes) l.ended) (header_line ports (content l)) _ _ (λ cs. read_vectors limits cs (behind p (length l.bytes)) 0 ls)
    (same_lines ports (behind p (length l.bytes)) ls) n
  where
    named : (b : Bool) (r : Reading) → (if_named b r).refusal ≢ Some NoExpectation → if_named b r ≡ r
    named true r n = absurd (n refl)
    named false r n = refl

    go : (r : Option StimError) (s : Said ColumnLists) (x y : Reading) (given : ColumnLists → Reading) → (x.refusal ≢ Some NoExpectation → x ≡ y)
        → (turn (lacks_output ports) r s x given).refusal ≢ Some NoExpectation → turn (lacks_output ports) r s x given ≡ turn (λ cs. false) r s y given
    go (Some e) s x y given h n = refl
    go None Skipped x y given h n = h n
    go None Malformed x y given h n = refl
    go None (Given cs) x y given h n = named (lacks_output ports cs) (given cs) n

pub same_reading : (ports : PortLists) (text : List ℕ) → (reading ports text).refusal ≢ Some NoExpectation → reading ports text ≡ reading (undemanded ports) text
same_reading ports text n = same_lines ports first_place (all_lines (lines text)) n

-- why lines are refused, by the first one's refusal and what it says
fault_turn : (ColumnLists → Bool) → Option StimError → Said ColumnLists → Option StimError → Option StimError
fault_turn lacks r s skipped =
    elim r [
      | Some e ↦ Some e
      | None ↦ elim s [ Skipped ↦ skipped | Malformed ↦ Some BadHeader | Given cs ↦ elim (lacks cs) [ true ↦ Some NoExpectation | false ↦ None ] ]
    ]

same_faults : (ports : PortLists) (p : Place) (ls : List Line) → header_fault limits ports p ls ≢ Some NoExpectation
    → header_fault limits ports p ls ≡ header_fault limits (undemanded ports) p ls
unfolding fault_turn
same_faults ports p [] n = refl
same_faults ports p (l ∷ ls) n =
    go (too_long limits p (length l.bytes) l.ended) (header_line ports (content l)) _ _ (same_faults ports (behind p (length l.bytes)) ls) n
  where
    named : (b : Bool) → (elim b as (λ _. Option StimError) [ true ↦ Some NoExpectation | false ↦ None ]) ≢ Some NoExpectation
        → (elim b as (λ _. Option StimError) [ true ↦ Some NoExpectation | false ↦ None ]) ≡ None
    named true n = absurd (n refl)
    named false n = refl

    go : (r : Option StimError) (s : Said ColumnLists) (x y : Option StimError) → (x ≢ Some NoExpectation → x ≡ y)
        → fault_turn (lacks_output ports) r s x ≢ Some NoExpectation → fault_turn (lacks_output ports) r s x ≡ fault_turn (λ cs. false) r s y
    go (Some e) s x y h n = refl
    go None Skipped x y h n = h n
    go None Malformed x y h n = refl
    go None (Given cs) x y h n = named (lacks_output ports cs) n

pub same_header : (ports : PortLists) (text : List ℕ) → header_refusal ports text ≢ Some NoExpectation → header_refusal ports text ≡ header_refusal (undemanded ports) text
same_header ports text n = same_faults ports first_place (all_lines (lines text)) n

-- the columns of lines, by the first one's refusal and what it says
columns_turn : (ColumnLists → Bool) → Option StimError → Said ColumnLists → Option ColumnLists → Option ColumnLists
columns_turn lacks r s skipped =
    elim r [ Some e ↦ None | None ↦ elim s [ Skipped ↦ skipped | Malformed ↦ None | Given cs ↦ elim (lacks cs) [ true ↦ None | false ↦ Some cs ] ] ]

-- columns that don't lack an output, where one is demanded
columns_named : (demanded : Bool) (cs : ColumnLists) → demanded ≡ true
    → IfSome (elim (demanded && is_nil cs.expected) as (λ _. Option ColumnLists) [ true ↦ None | false ↦ Some cs ]) (λ cs. 0 < length cs.expected)
columns_named false cs e = absurd (cc)
columns_named true cs e = go cs.expected refl
  where
    go : (es : List Expected) → cs.expected ≡ es → IfSome (elim (is_nil es) as (λ _. Option ColumnLists) [ true ↦ None | false ↦ Some cs ]) (λ cs. 0 < length cs.expected)
    go [] f = tt
    go (x ∷ xs) f = let P : List Expected → Type 0 = λ es. 0 < length es in subst P (sym f) (omega arith)

lines_named : (ports : PortLists) (p : Place) (ls : List Line) → ports.demanded ≡ true → IfSome (header_columns limits ports p ls) (λ cs. 0 < length cs.expected)
unfolding columns_turn
lines_named ports p [] e = tt
lines_named ports p (l ∷ ls) e =
    go (too_long limits p (length l.bytes) l.ended) (header_line ports (content l)) _ (lines_named ports (behind p (length l.bytes)) ls e)
  where
    go : (r : Option StimError) (s : Said ColumnLists) (x : Option ColumnLists) → IfSome x (λ cs. 0 < length cs.expected)
        → IfSome (columns_turn (lacks_output ports) r s x) (λ cs. 0 < length cs.expected)
    go (Some f) s x h = tt
    go None Skipped x h = h
    go None Malformed x h = tt
    go None (Given cs) x h = columns_named ports.demanded cs e

pub header_named : (ports : PortLists) (text : List ℕ) → ports.demanded ≡ true → IfSome (columns ports text) (λ cs. 0 < length cs.expected)
header_named ports text e = lines_named ports first_place (all_lines (lines text)) e

-- columns that name no output lack one that is demanded
lines_lacking : (ports : PortLists) (p : Place) (ls : List Line) → ports.demanded ≡ true → NamesNone (header_columns limits (undemanded ports) p ls)
    → read_header limits ports p ls ≡ refused NoExpectation
unfolding turn columns_turn if_named
lines_lacking ports p [] e n = absurd n
lines_lacking ports p (l ∷ ls) e n =
    go (too_long limits p (length l.bytes) l.ended) (header_line ports (content l)) _ _ (λ cs. read_vectors limits cs (behind p (length l.bytes)) 0 ls)
    (lines_lacking ports (behind p (length l.bytes)) ls e) n
  where
    lacking : (demanded : Bool) (es : List Expected) (r : Reading) → demanded ≡ true → es ≡ [] → if_named (demanded && is_nil es) r ≡ refused NoExpectation
    lacking false es r e f = absurd (cc)
    lacking true [] r e f = refl
    lacking true (x ∷ xs) r e f = absurd (cc)

    go : (r : Option StimError) (s : Said ColumnLists) (x : Reading) (c : Option ColumnLists) (given : ColumnLists → Reading) → (NamesNone c → x ≡ refused NoExpectation)
        → NamesNone (columns_turn (λ cs. false) r s c) → turn (lacks_output ports) r s x given ≡ refused NoExpectation
    go (Some f) s x c given h n = absurd n
    go None Skipped x c given h n = h n
    go None Malformed x c given h n = absurd n
    go None (Given cs) x c given h n = lacking ports.demanded cs.expected (given cs) e n

pub header_lacking : (ports : PortLists) (text : List ℕ) → ports.demanded ≡ true → NamesNone (columns (undemanded ports) text) → reading ports text ≡ refused NoExpectation
header_lacking ports text e n = lines_lacking ports first_place (all_lines (lines text)) e n

-- a line's length is refused otherwise
long_never : (p : Place) (n : ℕ) (ended : Bool) → too_long limits p n ended ≢ Some NoExpectation
long_never p n ended = go (nat_lt limits.line n) (nat_le (p.start + limits.line) limits.bytes) (nat_lt limits.bytes (p.start + bytes_with_lf n ended))
  where
    go : (a b c : Bool) → (elim a as (λ _. Option StimError) [
      | true ↦ elim b as (λ _. Option StimError) [ true ↦ Some (LineTooLong p.number) | false ↦ Some StimulusTooLong ]
      | false ↦ elim c as (λ _. Option StimError) [ true ↦ Some StimulusTooLong | false ↦ None ]
    ]) ≢ Some NoExpectation
    go true true c e = cc
    go true false c e = cc
    go false b true e = cc
    go false b false e = cc

lines_refused : (ports : PortLists) (p : Place) (ls : List Line) → header_fault limits ports p ls ≡ Some NoExpectation
    → (ports.demanded ≡ true) × NamesNone (header_columns limits (undemanded ports) p ls)
unfolding fault_turn columns_turn
lines_refused ports p [] e = absurd (cc)
lines_refused ports p (l ∷ ls) e =
    go (too_long limits p (length l.bytes) l.ended) (long_never p (length l.bytes) l.ended) (header_line ports (content l)) _ _ (lines_refused ports (behind p (length l.bytes)) ls) e
  where
    lacking : (demanded : Bool) (es : List Expected) → (elim (demanded && is_nil es) as (λ _. Option StimError) [ true ↦ Some NoExpectation | false ↦ None ]) ≡ Some NoExpectation
        → (demanded ≡ true) × (es ≡ [])
    lacking false es e = absurd (cc)
    lacking true [] e = (refl, refl)
    lacking true (x ∷ xs) e = absurd (cc)

    go : (r : Option StimError) → r ≢ Some NoExpectation → (s : Said ColumnLists) (x : Option StimError) (c : Option ColumnLists)
        → (x ≡ Some NoExpectation → (ports.demanded ≡ true) × NamesNone c) → fault_turn (lacks_output ports) r s x ≡ Some NoExpectation
        → (ports.demanded ≡ true) × NamesNone (columns_turn (λ cs. false) r s c)
    go (Some f) never s x c h e = absurd (never e)
    go None never Skipped x c h e = h e
    go None never Malformed x c h e = absurd (cc)
    go None never (Given cs) x c h e = lacking ports.demanded cs.expected e

pub header_refused : (ports : PortLists) (text : List ℕ) → header_refusal ports text ≡ Some NoExpectation → (ports.demanded ≡ true) × NamesNone (columns (undemanded ports) text)
header_refused ports text e = lines_refused ports first_place (all_lines (lines text)) e
