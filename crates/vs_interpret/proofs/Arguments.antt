-- The arguments of a call, one after the other.
use Rattle.std.proofs.Common.{◌≡◌, ℕ, zero, suc, ◌+◌, ◌<◌, ◌≤◌, true, List, [], ◌∷◌, length, map, drop, get_or, Some, refl, sym, ap, ap₂, ◌∙◌, arith}
use Rattle.std.proofs.lemmas.List.{drop_more}
use Rattle.vs_four.specs.Logic.{BitList}
use Rattle.vs_net.specs.Network.{State, write_all}
use Rattle.vs_design.specs.Effects.{pair_up}
use Rattle.vs_design.specs.Expressions as E
use Rattle.vs_design.specs.Values.{argument_state, assigned_value, bits_of_signal, count_from}
use Rattle.std.specs.List.{list_all}
use Rattle.vs_design.specs.Fits.{fits_64, fits_signal}
use Rattle.vs_flat.specs.Trees.{no_signal}
use Rattle.vs_sets.proofs.Fit.{and_left, and_right, is64_of}

-- one argument more
pub argument_step : (tree : ℕ → E.Expression) (es : List ℕ) (inputs : List E.Signal) (n : ℕ) (s : E.Signal) (state begin next : State) (first len : ℕ) (value : BitList) → n < length es → n < length inputs → get_or inputs n no_signal ≡ s → first ≡ s.first
    → len ≡ E.signal_length s → value ≡ assigned_value (tree (get_or es n 0)) len state → length value ≡ len → next ≡ write_all begin (pair_up (map Some (count_from first (length value))) value)
    → argument_state (E.items_of (map tree (drop (n + 1) es))) (drop (n + 1) inputs) state next ≡ argument_state (E.items_of (map tree (drop n es))) (drop n inputs) state begin
argument_step tree es inputs n s state begin next first len value l i is begins long value_is many written =
    let e = tree (get_or es n 0) in
    let rest = E.items_of (map tree (drop (n + 1) es)) in
    let put : next ≡ write_all begin (pair_up (map Some (bits_of_signal s)) (assigned_value e (E.signal_length s) state)) =
    written ∙ ap₂ (λ k v. write_all begin (pair_up (map Some (count_from first k)) v)) (many ∙ long) (value_is ∙ ap (λ k. assigned_value e k state) long) ∙ ap (λ k. write_all begin (pair_up (map Some (count_from k (E.signal_length s))) (assigned_value e (E.signal_length s) state))) begins
    in
    ap (argument_state rest (drop (n + 1) inputs) state) put
    ∙ ap (λ t. argument_state (E.Item e rest) (t ∷ drop (n + 1) inputs) state begin) (sym is)
    ∙ ap (λ xs. argument_state (E.Item e rest) xs state begin) (sym (drop_more inputs n no_signal i))
    ∙ ap (λ xs. argument_state (E.items_of (map tree xs)) (drop n inputs) state begin) (sym (drop_more es n 0 l))

pub all_arguments : (tree : ℕ → E.Expression) (es : List ℕ) (inputs : List E.Signal) (n : ℕ) (state begin : State) → length es ≤ n → argument_state (E.items_of (map tree (drop n es))) (drop n inputs) state begin ≡ begin
all_arguments tree es inputs n state begin l = go es n l where
  go : (xs : List ℕ) (k : ℕ) → length xs ≤ k → argument_state (E.items_of (map tree (drop k xs))) (drop n inputs) state begin ≡ begin
  go [] zero i = refl
  go [] (suc k) i = refl
  go (x ∷ xs) zero i = absurd (omega (arith, i))
  go (x ∷ xs) (suc k) i = go xs k (omega (arith, i))

-- an input has a bit
pub input_some : (inputs : List E.Signal) (n : ℕ) → list_all fits_signal inputs ≡ true → n < length inputs → 1 ≤ E.signal_length (get_or inputs n no_signal)
input_some [] n h l = absurd (omega (arith, l))
input_some (i ∷ is) zero h l = (is64_of (E.signal_length i) (and_left (fits_64 (E.signal_length i)) _ h)).0
input_some (i ∷ is) (suc n) h l = input_some is n (and_right (fits_64 (E.signal_length i)) _ h) (omega (arith, l))
