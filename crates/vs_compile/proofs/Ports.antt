-- The assigns that copy the clock are those processes that need a clock net.
use Rattle.std.proofs.Common.{◌≡◌, ℕ, Bool, true, false, not, ◌&&◌, ◌||◌, ◌==◌, List, [], ◌∷◌, ◌++◌, length, Option, Some, None, if◌then◌else◌, sym, ap, ◌∙◌, refl, eqb-true, eq-eqb}
use Rattle.std.specs.List.{list_any}
use Rattle.std.proofs.lemmas.Bool.{both_ways}
use Rattle.vs_design.specs.Expressions.{Expression, Signal, signal_length, Literal, Name, Select, Word, WordPart, Unary, Binary, Choice, Join, Repeat, At, Call}
use Rattle.vs_design.specs.Statements.{Whole, PartOf, WordOf, WordPartOf, Both}
use Rattle.vs_design.specs.Values.{bits_of_signal, count_from}
use Rattle.vs_design.specs.Designs.{Process, Continuous, Always}
use Rattle.vs_design.specs.Footprints.{contains, read_bits}
use Rattle.vs_design.specs.Clocks.{name_of, is_one_of, is_clock_port, reads_clock}
use Rattle.vs_design.specs.Levels.{needs}
use Rattle.vs_compile.proofs.Lists.{and_true, any_in, by_test}

-- what the name of a signal reads
name_reads : (e : Expression) (s : Signal) → name_of e ≡ Some s → read_bits e ≡ bits_of_signal s
name_reads (Name signal) s h = let same : signal ≡ s = some_is signal s h in ap bits_of_signal same
  where
    some_is : (a b : Signal) → Some a ≡ Some b → a ≡ b
    some_is a b q = cc
name_reads (At place e) s h = name_reads e s h
name_reads (Literal bits signed sized) s h = cc
name_reads (Select source part index) s h = cc
name_reads (Word signal index) s h = cc
name_reads (WordPart signal address part index) s h = cc
name_reads (Unary op a) s h = cc
name_reads (Binary op a b) s h = cc
name_reads (Choice c p q) s h = cc
name_reads (Join high low) s h = cc
name_reads (Repeat count a) s h = cc
name_reads (Call header statement arguments) s h = cc

one_bit : (s : Signal) → signal_length s ≡ 1 → contains (bits_of_signal s) s.first ≡ true
one_bit s one = ap (λ n. contains (count_from s.first n) s.first) one ∙ ap (λ c. c || false) (eq-eqb s.first s.first refl)

-- an assign that copies a clock net reads it
pub port_needs : (nets : List ℕ) (x : Process) → is_clock_port nets x ≡ true → list_any (contains nets) (needs x) ≡ true
port_needs nets (Continuous place way target_place (Whole signal) e) h = of_name (name_of e) refl
  where
    x : Process
    x = Continuous place way target_place (Whole signal) e

    none_left : (o : Option Signal) → (is_one_of nets o && (signal_length signal == 1)) ≡ false → name_of e ≡ o → is_clock_port nets (Continuous place way target_place (Whole signal) e) ≡ false
    none_left o k is = ap (λ (c : Bool). not (length (if c then (signal.first ∷ []) else []) == 0)) (ap (λ (z : Option Signal). is_one_of nets z && (signal_length signal == 1)) is ∙ k)

    of_name : (o : Option Signal) → name_of e ≡ o → list_any (contains nets) (read_bits e ++ []) ≡ true
    of_name None is = absurd (both_ways (is_clock_port nets (Continuous place way target_place (Whole signal) e)) (none_left None refl is) h)
    of_name (Some source) is =
        by_test (is_one_of nets (Some source) && (signal_length signal == 1))
        (λ k.
        let parts = and_true (is_one_of nets (Some source)) (signal_length signal == 1) k in
        let named = and_true (signal_length source == 1) (contains nets source.first) parts.0 in
        any_in (contains nets) (read_bits e ++ []) source.first
        (Rattle.vs_compile.proofs.Lists.contains-append (read_bits e) [] source.first
        ∙ ap (λ (bs : List ℕ). contains bs source.first || false) (name_reads e source is)
        ∙ ap (λ c. c || false) (one_bit source (eqb-true (signal_length source) 1 named.0)))
        named.1)
        (λ k. absurd (both_ways (is_clock_port nets (Continuous place way target_place (Whole signal) e)) (none_left (Some source) k is) h))
port_needs nets (Continuous place way target_place (PartOf signal part index) e) h = cc
port_needs nets (Continuous place way target_place (WordOf signal index) e) h = cc
port_needs nets (Continuous place way target_place (WordPartOf signal address part index) e) h = cc
port_needs nets (Continuous place way target_place (Both high low) e) h = cc
port_needs nets (Always place star events statement) h = cc

-- where no other process reads or waits on one
pub needs_tell : (nets : List ℕ) (x : Process) → reads_clock nets x ≡ false → list_any (contains nets) (needs x) ≡ is_clock_port nets x
needs_tell nets x unread =
    by_test (is_clock_port nets x)
    (λ e. port_needs nets x e ∙ sym e)
    (λ e. let here : reads_clock nets x ≡ list_any (contains nets) (needs x) = ap (λ c. not c && list_any (contains nets) (needs x)) e in sym here ∙ unread ∙ sym e)
