-- The arguments of a call, and the inputs of its function.
use Rattle.std.proofs.Common.{◌≡◌, ℕ, zero, suc, ◌+◌, ◌<◌, ◌≤◌, true, List, [], ◌∷◌, ◌++◌, length, map, take, drop, get_or, replicate, Option, Some, None, refl, sym, ap, ap₂, ◌∙◌, arith}
use Rattle.std.specs.List.{list_all}
use mathlib.Core.Path.{fun_ext}
use Rattle.std.proofs.lemmas.List.{drop_more}
use Rattle.std.proofs.Math.Seq.{take-append_seam}
use Rattle.vs_four.specs.declared.Bit4.TheVariants.{X}
use Rattle.vs_design.specs.Expressions as E
use Rattle.vs_design.specs.Elaborated.{are_as_many}
use Rattle.vs_design.specs.Fits.{fits_64, fits_signal, is_fit}
use Rattle.vs_design.specs.Lifted.{Family, argument_sets, assigned_sets}
use Rattle.vs_design.specs.LiftedBodies.{put_each}
use Rattle.vs_design.specs.Sets.{Set4, only}
use Rattle.vs_design.specs.Values.{bits_of_signal, count_from}
use Rattle.vs_design.specs.Within.{names_within, items_within}
use Rattle.vs_flat.specs.declared.functions.Declared.{Declared}
use Rattle.vs_flat.specs.declared.processes.Signal.{Signal}
use Rattle.vs_flat.specs.Arena.{Arena, declared_at}
use Rattle.vs_flat.specs.Named.{locals_in}
use Rattle.vs_flat.specs.Trees.{no_signal, joined, signal_at, signals_from}
use Rattle.vs_flat.specs.DesignOf.{header_in, local_of}
use Rattle.vs_sets.specs.Calls.{IsCall, function_of}
use Rattle.vs_sets.specs.FitParts.{Is64}
use Rattle.vs_sets.specs.Nodes.{tree_of}
use Rattle.vs_sets.specs.Tables.{beyond, family_of}
use Rattle.vs_sets.proofs.Fit.{and_left, and_right, is64_of}
use Rattle.vs_sets.proofs.CaseSteps.{each_fit_item}

as_many : (tree : ℕ → E.Expression) (es : List ℕ) (inputs : List E.Signal) → are_as_many (E.items_of (map tree es)) inputs ≡ true → length es ≡ length inputs
as_many tree [] [] h = refl
as_many tree [] (i ∷ is) h = absurd (let z : ⊥ = cc in z)
as_many tree (e ∷ es) [] h = absurd (let z : ⊥ = cc in z)
as_many tree (e ∷ es) (i ∷ is) h = let r = as_many tree es is h in omega (arith, r)

input_fits : (inputs : List E.Signal) (n : ℕ) → list_all fits_signal inputs ≡ true → n < length inputs → Is64 (E.signal_length (get_or inputs n no_signal))
input_fits [] n h l = absurd (omega (arith, l))
input_fits (i ∷ is) zero h l = is64_of (E.signal_length i) (and_left (fits_64 (E.signal_length i)) _ h)
input_fits (i ∷ is) (suc n) h l = input_fits is n (and_right (fits_64 (E.signal_length i)) _ h) (omega (arith, l))

pub item_within : (count : ℕ) (tree : ℕ → E.Expression) (es : List ℕ) (k : ℕ) → items_within count (E.items_of (map tree es)) ≡ true → k < length es → names_within count (tree (get_or es k 0)) ≡ true
item_within count tree [] k h l = absurd (omega (arith, l))
item_within count tree (e ∷ es) zero h l = and_left (names_within count (tree e)) _ h
item_within count tree (e ∷ es) (suc k) h l = item_within count tree es k (and_right (names_within count (tree e)) _ h) (omega (arith, l))

pub part_within : (count : ℕ) (tree : ℕ → E.Expression) (es : List ℕ) (k : ℕ) → names_within count (joined (map tree es)) ≡ true → k < length es → names_within count (tree (get_or es k 0)) ≡ true
part_within count tree [] k h l = absurd (omega (arith, l))
part_within count tree (e ∷ []) zero h l = h
part_within count tree (e ∷ []) (suc k) h l = absurd (omega (arith, l))
part_within count tree (e ∷ f ∷ es) zero h l = and_left (names_within count (tree e)) _ h
part_within count tree (e ∷ f ∷ es) (suc k) h l = part_within count tree (f ∷ es) k (and_right (names_within count (tree e)) _ h) (omega (arith, l))

-- ---- inputs

taken : (n k : ℕ) (xs : List E.Signal) → n < length (take k xs) → (n < length xs) × (get_or (take k xs) n no_signal ≡ get_or xs n no_signal)
taken n zero xs h = absurd (omega (arith, h))
taken n (suc k) [] h = absurd (omega (arith, h))
taken zero (suc k) (x ∷ xs) h = (omega arith, refl)
taken (suc n) (suc k) (x ∷ xs) h = let r = taken n k xs (omega (arith, h)) in (omega (arith, r.0), r.1)

length_from : (k : ℕ) (ss : List Signal) → length (signals_from k ss) ≡ length ss
length_from k [] = refl
length_from k (s ∷ ss) = let r = length_from (suc k) ss in omega (arith, r)

input_at : (o : Option Declared) (n : ℕ) → n < length (header_in o).inputs → (n < length (locals_in o)) × (get_or (header_in o).inputs n no_signal ≡ signal_at (signals_from 0 (locals_in o)) n)
input_at None n h = absurd (omega (arith, h))
input_at (Some d) n h = let r = taken n d.function.inputs (signals_from 0 d.function.signals) h in (omega (arith, r.0, length_from 0 d.function.signals), r.1)

-- what holds of argument n, and of the input that it goes to
pub record ArgumentFacts (a : Arena) (bits function n : ℕ) (arguments : List ℕ) : Type 0 where
  pub there : n < length (locals_in (declared_at a function))
  pub input : n < length (function_of a function).header.inputs
  pub is : get_or (function_of a function).header.inputs n no_signal ≡ local_of a function n
  pub few : E.signal_length (local_of a function n) ≤ 64
  pub fit : is_fit (tree_of a (get_or arguments n 0)) ≡ true
  pub within : names_within bits (tree_of a (get_or arguments n 0)) ≡ true

pub argument_facts : (a : Arena) (bits e function n : ℕ) (arguments : List ℕ) → IsCall a bits e function arguments → n < length arguments → ArgumentFacts a bits function n arguments
argument_facts a bits e function n arguments call l =
    let inputs = (function_of a function).header.inputs in
    let inside : n < length inputs = omega (arith, l, as_many (tree_of a) arguments inputs call.as_many) in
    let at = input_at (declared_at a function) n inside in
    let few = input_fits inputs n call.inputs_fit inside in
    record {
      there = at.0;
      input = inside;
      is = at.1;
      few = omega (arith, few.1, ap E.signal_length at.1);
      fit = each_fit_item (tree_of a) arguments n call.arguments_fit l;
      within = item_within bits (tree_of a) arguments n call.arguments_within l;
    }

-- one argument more
pub argument_step : (tree : ℕ → E.Expression) (es : List ℕ) (inputs : List E.Signal) (n : ℕ) (s : E.Signal) (f g h : Family) (first len : ℕ) (sets : List Set4) → n < length es → n < length inputs → get_or inputs n no_signal ≡ s → first ≡ s.first
    → len ≡ E.signal_length s → sets ≡ assigned_sets (tree (get_or es n 0)) len f → length sets ≡ len → h ≡ put_each (map Some (count_from first (length sets))) sets g
    → argument_sets (E.items_of (map tree (drop (n + 1) es))) (drop (n + 1) inputs) f h ≡ argument_sets (E.items_of (map tree (drop n es))) (drop n inputs) f g
argument_step tree es inputs n s f g h first len sets l i is begins long value many written =
    let e = tree (get_or es n 0) in
    let rest = E.items_of (map tree (drop (n + 1) es)) in
    let put : h ≡ put_each (map Some (bits_of_signal s)) (assigned_sets e (E.signal_length s) f) g =
    written ∙ ap₂ (λ k ss. put_each (map Some (count_from first k)) ss g) (many ∙ long) (value ∙ ap (λ k. assigned_sets e k f) long) ∙ ap (λ k. put_each (map Some (count_from k (E.signal_length s))) (assigned_sets e (E.signal_length s) f) g) begins
    in
    ap (argument_sets rest (drop (n + 1) inputs) f) put
    ∙ ap (λ t. argument_sets (E.Item e rest) (t ∷ drop (n + 1) inputs) f g) (sym is)
    ∙ ap (λ xs. argument_sets (E.Item e rest) xs f g) (sym (drop_more inputs n no_signal i))
    ∙ ap (λ xs. argument_sets (E.items_of (map tree xs)) (drop n inputs) f g) (sym (drop_more es n 0 l))

pub all_arguments : (tree : ℕ → E.Expression) (es : List ℕ) (inputs : List E.Signal) (n : ℕ) (f g : Family) → are_as_many (E.items_of (map tree es)) inputs ≡ true → length es ≤ n → argument_sets (E.items_of (map tree (drop n es))) (drop n inputs) f g ≡ g
all_arguments tree es inputs n f g h l = go es n l where
  go : (xs : List ℕ) (k : ℕ) → length xs ≤ k → argument_sets (E.items_of (map tree (drop k xs))) (drop n inputs) f g ≡ g
  go [] zero i = refl
  go [] (suc k) i = refl
  go (x ∷ xs) zero i = absurd (omega (arith, i))
  go (x ∷ xs) (suc k) i = go xs k (omega (arith, i))

-- ---- tables

pub all_x : (n : ℕ) → family_of (replicate n (only X)) ≡ (λ b. only X)
all_x n = fun_ext (λ b. at n b) where
  at : (n b : ℕ) → get_or (replicate n (only X)) b beyond ≡ only X
  at zero b = refl
  at (suc n) zero = refl
  at (suc n) (suc b) = at n b

pub seam : (n : ℕ) (xs ys : List Set4) → n ≡ length xs → take n (xs ++ ys) ≡ xs
seam n xs ys h = ap {B = List Set4} (λ m. take m (xs ++ ys)) h ∙ take-append_seam xs ys
