-- The lines of a slot are those of its signals, one after the other.
use Rattle.std.proofs.Common.{◌≡◌, ℕ, zero, suc, ◌+◌, Bool, true, false, List, [], ◌∷◌, ◌++◌, length, map, take, if◌then◌else◌, Option, Some, None, refl, sym, ap, ◌∙◌, append-nil, append_assoc, Ok, Err}
use Rattle.std.specs.Prelude.{not, ◌&&◌, slice_get, slice_index_or, Result, OnOk, is_ok}
use Rattle.std.specs.List.{filter, flat_map}
use Rattle.std.proofs.lemmas.Grind.{flat_map-append}
use Rattle.std.proofs.lemmas.List.{take_more}
use Rattle.std.proofs.lemmas.Option.{slice_get_within, get_or_from_slice_get}
use Rattle.vs_four.specs.Logic.{BitList, identical}
use Rattle.vs_four.specs.Tables.{is_one}
use Rattle.vs_net.specs.Network.{State}
use Rattle.vs_design.specs.Expressions.{Signal}
use Rattle.vs_design.specs.Designs.{Design}
use Rattle.vs_design.specs.Footprints.{is_memory}
use Rattle.vs_design.specs.Values.{bits_of_signal, count_from, read}
use Rattle.vs_vcd.specs.Values.{value_line}
use Rattle.vs_vcd.specs.Texts.{changed_from, shown_numbers, value_lines, values_of}
use Rattle.vs_vcd.specs.Scopes.{shown_signals}
use Rattle.vs_vcd.specs.Shared.{leads, led_by}
use Rattle.vs_trace.specs.Lines.{line_of, signal_line, slot_lines}

-- ---- the places of the values that are written, and their lines

-- one place more before them
all_shifted : (number : ℕ) (numbers : List ℕ) (value : BitList) (values : List BitList) (k count : ℕ)
    → value_lines (number ∷ numbers) (value ∷ values) (count_from (suc k) count) ≡ value_lines numbers values (count_from k count)
all_shifted number numbers value values k zero = refl
all_shifted number numbers value values k (suc count) =
    ap (λ (t : List ℕ). value_line (slice_index_or numbers k 0) (slice_index_or values k []) ++ t) (all_shifted number numbers value values (suc k) count)

all_lines : (f : Signal → BitList) (ss : List Signal)
    → flat_map (λ (s : Signal). value_line s.number (f s)) ss ≡ value_lines (map (λ (s : Signal). s.number) ss) (map f ss) (count_from 0 (length (map f ss)))
all_lines f [] = refl
all_lines f (s ∷ ss) =
    ap (λ (t : List ℕ). value_line s.number (f s) ++ t)
    (all_lines f ss ∙ sym (all_shifted s.number (map (λ (s : Signal). s.number) ss) (f s) (map f ss) 0 (length (map f ss))))

changed_shifted : (number : ℕ) (numbers : List ℕ) (value : BitList) (values : List BitList) (k : ℕ) (before now : List BitList)
    → value_lines (number ∷ numbers) (value ∷ values) (changed_from (suc k) before now) ≡ value_lines numbers values (changed_from k before now)
changed_shifted number numbers value values k [] now = refl
changed_shifted number numbers value values k (b ∷ before) [] = refl
changed_shifted number numbers value values k (b ∷ before) (v ∷ now) =
    by (is_one (identical b v)) (changed_from (suc (suc k)) before now) (changed_from (suc k) before now) (changed_shifted number numbers value values (suc k) before now)
  where
    by : (t : Bool) (xs ys : List ℕ) → value_lines (number ∷ numbers) (value ∷ values) xs ≡ value_lines numbers values ys
        → value_lines (number ∷ numbers) (value ∷ values) (elim t [ true ↦ xs | false ↦ suc k ∷ xs ]) ≡ value_lines numbers values (elim t [ true ↦ ys | false ↦ k ∷ ys ])
    by true xs ys e = e
    by false xs ys e = ap (λ (t : List ℕ). value_line (slice_index_or numbers k 0) (slice_index_or values k []) ++ t) e

changed_lines : (f g : Signal → BitList) (ss : List Signal)
    → flat_map (λ (s : Signal). if is_one (identical (f s) (g s)) then [] else value_line s.number (g s)) ss ≡ value_lines (map (λ (s : Signal). s.number) ss) (map g ss) (changed_from 0 (map f ss) (map g ss))
changed_lines f g [] = refl
changed_lines f g (s ∷ ss) =
    by (is_one (identical (f s) (g s))) (changed_from 1 (map f ss) (map g ss))
    (changed_lines f g ss ∙ sym (changed_shifted s.number (map (λ (s : Signal). s.number) ss) (g s) (map g ss) 0 (map f ss) (map g ss)))
  where
    rest : List ℕ
    rest = flat_map (λ (s : Signal). if is_one (identical (f s) (g s)) then [] else value_line s.number (g s)) ss

    by : (t : Bool) (xs : List ℕ) → rest ≡ value_lines (s.number ∷ map (λ (s : Signal). s.number) ss) (g s ∷ map g ss) xs
        → (if t then [] else value_line s.number (g s)) ++ rest ≡ value_lines (s.number ∷ map (λ (s : Signal). s.number) ss) (g s ∷ map g ss) (elim t [ true ↦ xs | false ↦ 0 ∷ xs ])
    by true xs e = e
    by false xs e = ap (λ (t : List ℕ). value_line s.number (g s) ++ t) e

-- ---- memories, and signals whose code is that of an earlier one

kept : (code : ℕ → ℕ) (f : Signal → List ℕ) (ss : List Signal)
    → flat_map (λ (s : Signal). if not (is_memory s) && leads code s then f s else []) ss ≡ flat_map f (filter (λ (s : Signal). not (is_memory s)) (filter (leads code) ss))
kept code f [] = refl
kept code f (s ∷ ss) =
    ap (λ (t : List ℕ). (if not (is_memory s) && leads code s then f s else []) ++ t) (kept code f ss)
    ∙ by (not (is_memory s)) (leads code s)
    ∙ ap (flat_map f) (sym (first (leads code s)))
  where
    rest : List Signal
    rest = filter (λ (x : Signal). not (is_memory x)) (filter (leads code) ss)

    first : (l : Bool) → filter (λ (x : Signal). not (is_memory x)) (if l then (s ∷ filter (leads code) ss) else filter (leads code) ss)
        ≡ (if l then (if not (is_memory s) then (s ∷ rest) else rest) else rest)
    first true = refl
    first false = refl

    by : (m l : Bool) → (if m && l then f s else []) ++ flat_map f (rest)
        ≡ flat_map f (if l then (if m then (s ∷ rest) else rest) else rest)
    by true true = refl
    by true false = refl
    by false true = refl
    by false false = refl

-- ---- slots

pub first_lines : (code : ℕ → ℕ) (d : Design) (now : State)
    → slot_lines code None now d.signals ≡ value_lines (shown_numbers (led_by code d)) (values_of (led_by code d) now) (count_from 0 (length (values_of (led_by code d) now)))
first_lines code d now =
    kept code (signal_line None now) d.signals
    ∙ all_lines (λ (s : Signal). read now (bits_of_signal s)) (shown_signals (led_by code d))

pub next_lines : (code : ℕ → ℕ) (d : Design) (before now : State)
    → slot_lines code (Some before) now d.signals ≡ value_lines (shown_numbers (led_by code d)) (values_of (led_by code d) now) (changed_from 0 (values_of (led_by code d) before) (values_of (led_by code d) now))
next_lines code d before now =
    kept code (signal_line (Some before) now) d.signals
    ∙ changed_lines (λ (s : Signal). read before (bits_of_signal s)) (λ (s : Signal). read now (bits_of_signal s)) (shown_signals (led_by code d))

-- the lines of one signal more
pub one_more : (f : Signal → List ℕ) (ss : List Signal) (n : ℕ) (s : Signal) → slice_get ss n ≡ Some s → flat_map f (take (n + 1) ss) ≡ flat_map f (take n ss) ++ f s
one_more f ss n s at =
    ap (flat_map f) (take_more ss n s (slice_get_within ss n s at) ∙ ap (λ (x : Signal). take n ss ++ x ∷ []) (get_or_from_slice_get ss n s s at))
    ∙ flat_map-append f (take n ss) (s ∷ [])
    ∙ ap (λ (t : List ℕ). flat_map f (take n ss) ++ t) (append-nil (f s))

-- written, or not
pub line_added : (f : Signal → List ℕ) (ss : List Signal) (n : ℕ) (s : Signal) (start text line : List ℕ) → slice_get ss n ≡ Some s → f s ≡ line
    → text ≡ start ++ flat_map f (take n ss) → text ++ line ≡ start ++ flat_map f (take (n + 1) ss)
line_added f ss n s start text line at is so_far =
    ap (λ (t : List ℕ). t ++ line) so_far
    ∙ append_assoc start (flat_map f (take n ss)) line
    ∙ ap (λ (t : List ℕ). start ++ t) (ap (λ (l : List ℕ). flat_map f (take n ss) ++ l) (sym is) ∙ sym (one_more f ss n s at))

pub none_added : (f : Signal → List ℕ) (ss : List Signal) (n : ℕ) (s : Signal) (start text : List ℕ) → slice_get ss n ≡ Some s → f s ≡ []
    → text ≡ start ++ flat_map f (take n ss) → text ≡ start ++ flat_map f (take (n + 1) ss)
none_added f ss n s start text at is so_far = sym (append-nil text) ∙ line_added f ss n s start text [] at is so_far

pub line_is : (code : ℕ → ℕ) (before : Option State) (now : State) (s : Signal) → (not (is_memory s) && leads code s) ≡ true → line_of code before now s ≡ signal_line before now s
line_is code before now s h = ap (λ (t : Bool). if t then signal_line before now s else []) h

pub no_line : (code : ℕ → ℕ) (before : Option State) (now : State) (s : Signal) → (not (is_memory s) && leads code s) ≡ false → line_of code before now s ≡ []
no_line code before now s h = ap (λ (t : Bool). if t then signal_line before now s else []) h

-- ---- parts that are joined

pub on_ok : {V E : Type 0} {P Q : Type 0} (r : Result V E) → OnOk r P → (P → Q) → OnOk r Q
on_ok (Ok v) h k = k h
on_ok (Err e) h k = h

pub two_parts : (old a b x y : List ℕ) → x ≡ old ++ a → y ≡ x ++ b → y ≡ old ++ (a ++ b)
two_parts old a b x y p q = q ∙ ap (λ (t : List ℕ). t ++ b) p ∙ append_assoc old a b

pub four_parts : (old a b c d w x y z : List ℕ) → w ≡ old ++ a → x ≡ w ++ b → y ≡ x ++ c → z ≡ y ++ d → z ≡ old ++ (((a ++ b) ++ c) ++ d)
four_parts old a b c d w x y z p q r s = two_parts old ((a ++ b) ++ c) d y z (two_parts old (a ++ b) c x y (two_parts old a b w x p q) r) s

-- where a text took what was added to it
pub grown_ok : {V E Q : Type 0} (r : Result V E) (z good bad : List ℕ) → z ≡ (if is_ok r then good else bad) → (z ≡ good → Q) → OnOk r Q
grown_ok (Ok v) z good bad h k = k h
grown_ok (Err e) z good bad h k = tt
