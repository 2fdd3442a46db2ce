-- The arguments of a call, one after the other.
use Rattle.std.proofs.Common.{◌≡◌, ℕ, zero, suc, ◌+◌, ◌<◌, ◌≤◌, max, Bool, true, ◌&&◌, List, [], ◌∷◌, ◌++◌, map, length, take, slice_index, slice_get, Some, sym, ap, ◌∙◌, subst, refl, arith, append_assoc, append-nil, length-append, add-one}
use Rattle.std.specs.List.{All, list_all}
use Rattle.std.proofs.lemmas.List.{map-append, length-take, take_all, take_more}
use Rattle.std.proofs.lemmas.List.Elements.{All-nil, All-append, All-head, All-take, All-weaker}
use Rattle.std.proofs.lemmas.List.Sums.{sum_by-append, sum_by-cons}
use Rattle.vs_four.specs.Logic.{BitList}
use Rattle.vs_net.specs.Network as N
use Rattle.vs_design.specs.Expressions.{Signal, signal_length, Expression, NoItem, items_of, width, sign}
use Rattle.vs_design.specs.Fits.{fits_signal, fits, fit_items, divides_constants, is_fit}
use Rattle.vs_design.specs.Footprints.{read_bits, items_reads}
use Rattle.vs_design.specs.Sizes.{weight, arguments_weight}
use Rattle.vs_design.specs.Values.{value, assigned_value}
use Rattle.vs_design.specs.Within.{names_within, items_within}
use Rattle.vs_code.specs.Calls.{Call}
use Rattle.vs_values.specs.Added.{IsEnv, AreValues}
use Rattle.vs_values.specs.Calling.{argument_values, AreReady, AddsArgument, AddsArguments}
use Rattle.vs_values.specs.Coded.{Coding}
use Rattle.vs_values.specs.Ready.{IsReady}
use Rattle.vs_values.specs.Valued.{IsSource, AddsValue}
use Rattle.vs_values.proofs.Adding.{added_none, env_more, values_as, values_more}
use Rattle.vs_values.proofs.Readying.{fits_length, fits_64_is, stores_of, two_added}
use Rattle.vs_values.proofs.Values.{both_true, in_left, in_right, one_more, wider}

-- ---- one argument

one_list : (x y : BitList) → (x ∷ []) ≡ (y ∷ []) → x ≡ y
one_list x y h = cc

map_take : {A B : Type 0} (f : A → B) (n : ℕ) (xs : List A) → map f (take n xs) ≡ take n (map f xs)
map_take f zero xs = refl
map_take f (suc n) [] = refl
map_take f (suc n) (x ∷ xs) = ap (λ ys. f x ∷ ys) (map_take f n xs)

-- it is cut to its input's length
cut_values : (env : List ℕ) (m : ℕ) (e : Expression) (n most : ℕ) (c : List Call) (to : List ℕ) (p : ℕ) → IsEnv env m
    → AreValues env m c (to ∷ []) p most (λ state. value e (max (width e) n) (sign e) state ∷ [])
    → AreValues env m c (take n to ∷ []) p most (λ state. assigned_value e n state ∷ [])
cut_values env m e n most c to p ie a =
    values_as env m c (to ∷ []) p most (λ state. value e (max (width e) n) (sign e) state ∷ []) (take n to ∷ []) most (λ state. assigned_value e n state ∷ []) ie a (omega arith)
    (one_more (λ to. All (λ slot. slot < p) to) (take n to) (All-take (λ slot. slot < p) n to (All-head (λ to. All (λ slot. slot < p) to) to [] a.below)))
    (λ slots state constants same. ap (λ (x : BitList). x ∷ []) (map_take slots n to ∙ ap (take n) (one_list (map slots to) (value e (max (width e) n) (sign e) state) same)))

pub argument_of : (env : List ℕ) (old new : Coding) (e : Expression) (long w : ℕ) (s : Bool) (to cut_to : List ℕ) → IsEnv env old.next → w ≡ max (width e) long → s ≡ sign e → cut_to ≡ take long to
    → AddsValue env old.calls old.next new.calls new.next e w s to → AddsArgument env old new e long cut_to
argument_of env old new e long w s to cut_to ie hw hs ht v =
    let V = subst (λ (x : ℕ). AddsValue env old.calls old.next new.calls new.next e x (sign e) to) hw (subst (λ (b : Bool). AddsValue env old.calls old.next new.calls new.next e w b to) hs v) in
    subst (AddsArgument env old new e long) (sym ht) (record {
      calls = V.calls;
      is = V.is;
      values = cut_values env old.next e long (weight e (max (width e) long)) V.calls to new.next ie V.value.values;
      wide = omega (arith, length-take long to, V.value.length);
      sources = All-take (IsSource env old.next (read_bits e)) long to V.value.sources;
    })

-- ---- one argument more

weight_more : (es : List Expression) (inputs : List Signal) (e : Expression) (i : Signal) → length es ≡ length inputs
    → arguments_weight (items_of (es ++ e ∷ [])) (inputs ++ i ∷ []) ≡ arguments_weight (items_of es) inputs + weight e (max (width e) (signal_length i))
weight_more [] [] e i h = omega arith
weight_more [] (j ∷ inputs) e i h = absurd (omega arith)
weight_more (x ∷ es) [] e i h = absurd (omega arith)
weight_more (x ∷ es) (j ∷ inputs) e i h = let rest = weight_more es inputs e i (omega arith) in omega (arith, rest)

values_longer : (es : List Expression) (inputs : List Signal) (e : Expression) (i : Signal) (state : N.State) → length es ≡ length inputs
    → argument_values (items_of (es ++ e ∷ [])) (inputs ++ i ∷ []) state ≡ argument_values (items_of es) inputs state ++ assigned_value e (signal_length i) state
values_longer [] [] e i state h = append-nil (assigned_value e (signal_length i) state)
values_longer [] (j ∷ inputs) e i state h = absurd (omega arith)
values_longer (x ∷ es) [] e i state h = absurd (omega arith)
values_longer (x ∷ es) (j ∷ inputs) e i state h =
    let first = assigned_value x (signal_length j) state in
    ap (λ (v : BitList). first ++ v) (values_longer es inputs e i state (omega arith)) ∙ sym (append_assoc first (argument_values (items_of es) inputs state) (assigned_value e (signal_length i) state))

reads_more : (es : List Expression) (e : Expression) → items_reads (items_of (es ++ e ∷ [])) ≡ items_reads (items_of es) ++ read_bits e
reads_more [] e = append-nil (read_bits e)
reads_more (x ∷ es) e = ap (λ (bs : List ℕ). read_bits x ++ bs) (reads_more es e) ∙ sym (append_assoc (read_bits x) (items_reads (items_of es)) (read_bits e))

two_are : (a b x y : BitList) → (a ∷ b ∷ []) ≡ (x ∷ y ∷ []) → (a ++ b) ≡ (x ++ y)
two_are a b x y h = cc

pub arguments_none : (env : List ℕ) (code : Coding) → IsEnv env code.next → AddsArguments env code code NoItem [] []
arguments_none env code e = record {
  calls = [];
  is = sym (append-nil code.calls);
  values = record {
    added = added_none code.next;
    below = one_more (λ to. All (λ slot. slot < code.next) to) [] (All-nil (λ slot. slot < code.next));
    values = λ before after state holds called. refl;
  };
  wide = refl;
  sources = All-nil (IsSource env code.next []);
}

pub arguments_more : (env : List ℕ) (old mid new : Coding) (es : List Expression) (inputs : List Signal) (to : List ℕ) (e : Expression) (i : Signal) (one : List ℕ) → IsEnv env old.next → length es ≡ length inputs
    → AddsArguments env old mid (items_of es) inputs to → AddsArgument env mid new e (signal_length i) one
    → AddsArguments env old new (items_of (es ++ e ∷ [])) (inputs ++ i ∷ []) (to ++ one)
arguments_more env old mid new es inputs to e i one ie long a b =
    let more = weight e (max (width e) (signal_length i)) in
    let first = arguments_weight (items_of es) inputs in
    let v = λ (state : N.State). argument_values (items_of es) inputs state in
    let u = λ (state : N.State). assigned_value e (signal_length i) state in
    let below = λ (slot : ℕ). slot < new.next in
    let both_values = values_more env old.next a.calls (to ∷ []) mid.next first (λ state. v state ∷ []) b.calls (one ∷ []) new.next more (λ state. u state ∷ []) ie a.values b.values in
    let reads = items_reads (items_of (es ++ e ∷ [])) in
    record {
      calls = a.calls ++ b.calls;
      is = two_added old.calls a.calls b.calls mid.calls new.calls a.is b.is;
      values = values_as env old.next (a.calls ++ b.calls) (to ∷ one ∷ []) new.next (first + more) (λ state. v state ∷ u state ∷ []) ((to ++ one) ∷ []) (arguments_weight (items_of (es ++ e ∷ [])) (inputs ++ i ∷ []))
          (λ state. argument_values (items_of (es ++ e ∷ [])) (inputs ++ i ∷ []) state ∷ []) ie both_values (omega (arith, weight_more es inputs e i long))
          (one_more (λ (xs : List ℕ). All below xs) (to ++ one) (All-append below to one (All-head (λ (xs : List ℕ). All below xs) to (one ∷ []) both_values.below) (All-head (λ (xs : List ℕ). All below xs) one [] b.values.below)))
          (λ slots state constants same. ap (λ (x : BitList). x ∷ []) (map-append slots to one ∙ two_are (map slots to) (map slots one) (v state) (u state) same ∙ sym (values_longer es inputs e i state long)));
      wide = omega (arith, length-append to one, a.wide, b.wide, sum_by-append signal_length inputs (i ∷ []), sum_by-cons signal_length i []);
      sources = subst (λ (bs : List ℕ). All (IsSource env old.next bs) (to ++ one)) (sym (reads_more es e))
          (All-append (IsSource env old.next (items_reads (items_of es) ++ read_bits e)) to one
          (All-weaker (IsSource env old.next (items_reads (items_of es))) (IsSource env old.next (items_reads (items_of es) ++ read_bits e)) (λ slot. wider env old.next old.next (items_reads (items_of es)) (items_reads (items_of es) ++ read_bits e) slot (omega arith) (λ x. in_left (items_reads (items_of es)) (read_bits e) x)) to a.sources)
          (All-weaker (IsSource env mid.next (read_bits e)) (IsSource env old.next (items_reads (items_of es) ++ read_bits e)) (λ slot. wider env mid.next old.next (read_bits e) (items_reads (items_of es) ++ read_bits e) slot a.values.added.grown (λ x. in_right (items_reads (items_of es)) (read_bits e) x)) one b.sources));
    }

-- ---- the argument with number n

some_is : (x y : Signal) → Some x ≡ Some y → x ≡ y
some_is x y h = cc

weighs_at : (tree : ℕ → Expression) (args : List ℕ) (inputs : List Signal) (n : ℕ) (i : Signal) → n < length args → slice_get inputs n ≡ Some i
    → arguments_weight (items_of (map tree (take n args))) (take n inputs) + weight (tree (slice_index args n)) (max (width (tree (slice_index args n))) (signal_length i)) ≤ arguments_weight (items_of (map tree args)) inputs
weighs_at tree [] inputs n i l h = absurd (omega arith)
weighs_at tree (a ∷ args) [] n i l h = cc
weighs_at tree (a ∷ args) (j ∷ inputs) zero i l h = let same : signal_length j ≡ signal_length i = ap signal_length (some_is j i h) in subst (λ (k : ℕ). 0 + weight (tree a) (max (width (tree a)) k) ≤ arguments_weight (items_of (map tree (a ∷ args))) (j ∷ inputs)) same (omega arith)
weighs_at tree (a ∷ args) (j ∷ inputs) (suc n) i l h = let rest = weighs_at tree args inputs n i (omega arith) h in omega (arith, rest)

within_at : (tree : ℕ → Expression) (args : List ℕ) (n k : ℕ) → n < length args → items_within k (items_of (map tree args)) ≡ true → names_within k (tree (slice_index args n)) ≡ true
within_at tree [] n k l h = absurd (omega arith)
within_at tree (a ∷ args) zero k l h = (both_true (names_within k (tree a)) (items_within k (items_of (map tree args))) h).0
within_at tree (a ∷ args) (suc n) k l h = within_at tree args n k (omega arith) (both_true (names_within k (tree a)) (items_within k (items_of (map tree args))) h).1

fit_at : (tree : ℕ → Expression) (args : List ℕ) (n : ℕ) → n < length args → fit_items (items_of (map tree args)) ≡ true → is_fit (tree (slice_index args n)) ≡ true
fit_at tree [] n l h = absurd (omega arith)
fit_at tree (a ∷ args) zero l h = (both_true (fits (tree a) && divides_constants (tree a)) (fit_items (items_of (map tree args))) h).0
fit_at tree (a ∷ args) (suc n) l h = fit_at tree args n (omega arith) (both_true (fits (tree a) && divides_constants (tree a)) (fit_items (items_of (map tree args))) h).1

input_at : (inputs : List Signal) (n : ℕ) (i : Signal) → slice_get inputs n ≡ Some i → list_all fits_signal inputs ≡ true → (1 ≤ signal_length i) × (signal_length i ≤ 64)
input_at [] n i h all = cc
input_at (j ∷ inputs) zero i h all = subst (λ (x : Signal). (1 ≤ signal_length x) × (signal_length x ≤ 64)) (some_is j i h) (fits_64_is (signal_length j) (both_true (fits_signal j) (list_all fits_signal inputs) all).0)
input_at (j ∷ inputs) (suc n) i h all = input_at inputs n i h (both_true (fits_signal j) (list_all fits_signal inputs) all).1

pub argument_ready : (env : List ℕ) (old mid : Coding) (tree : ℕ → Expression) (args : List ℕ) (inputs : List Signal) (n k : ℕ) (i : Signal) (to : List ℕ) → n < length args → slice_get inputs n ≡ Some i → k ≡ signal_length i
    → AreReady env old (items_of (map tree args)) inputs → AddsArguments env old mid (items_of (map tree (take n args))) (take n inputs) to
    → IsReady env mid (tree (slice_index args n)) (max (width (tree (slice_index args n))) k)
argument_ready env old mid tree args inputs n k i to l h e r a =
    let x = tree (slice_index args n) in
    let fit = fit_at tree args n l r.fit in
    let long = fits_length x (both_true (fits x) (divides_constants x) fit).0 in
    let input = input_at inputs n i h r.inputs_fit in
    let weighs = weighs_at tree args inputs n i l h in
    let added = a.values.added in
    subst (λ (j : ℕ). IsReady env mid x (max (width x) j)) (sym e) (record {
      is_env = env_more env old.next mid.next added.grown r.is_env;
      has_bits = within_at tree args n (length env) l r.has_bits;
      fit = fit;
      wide = omega arith;
      at_most_64 = omega (arith, long.1, input.1);
      light = omega (arith, r.light, weighs);
      slots = omega (arith, r.slots, weighs, added.paid, added.stores);
      few = omega (arith, r.few, weighs, added.stores, stores_of old.calls a.calls mid.calls a.is);
    })

-- there is an input for each
pub input_there : (inputs : List Signal) (n : ℕ) → n < length inputs → (i : Signal) × (slice_get inputs n ≡ Some i)
input_there [] n l = absurd (omega arith)
input_there (i ∷ inputs) zero l = (i, refl)
input_there (i ∷ inputs) (suc n) l = input_there inputs n (omega arith)

inputs_more : (inputs : List Signal) (n : ℕ) (i : Signal) → slice_get inputs n ≡ Some i → take (suc n) inputs ≡ take n inputs ++ i ∷ []
inputs_more [] n i h = cc
inputs_more (j ∷ inputs) zero i h = ap (λ (x : Signal). x ∷ []) (some_is j i h)
inputs_more (j ∷ inputs) (suc n) i h = ap (λ (xs : List Signal). j ∷ xs) (inputs_more inputs n i h)

pub next_argument : (env : List ℕ) (old mid new : Coding) (tree : ℕ → Expression) (args : List ℕ) (inputs : List Signal) (n k : ℕ) (i : Signal) (to one next : List ℕ) → IsEnv env old.next → n < length args → length args ≡ length inputs → slice_get inputs n ≡ Some i
    → k ≡ signal_length i → next ≡ to ++ one
    → AddsArguments env old mid (items_of (map tree (take n args))) (take n inputs) to → AddsArgument env mid new (tree (slice_index args n)) k one
    → AddsArguments env old new (items_of (map tree (take (n + 1) args))) (take (n + 1) inputs) next
next_argument env old mid new tree args inputs n k i to one next ie l alike h e is a b =
    let es = map tree (take n args) in
    let x = tree (slice_index args n) in
    let long : length es ≡ length (take n inputs) = omega (arith, map_long tree (take n args), length-take n args, length-take n inputs, alike) in
    let more : map tree (take (n + 1) args) ≡ es ++ x ∷ [] = ap (map tree) (take_more args n 0 l) ∙ map-append tree (take n args) (slice_index args n ∷ []) in
    let ins : take (n + 1) inputs ≡ take n inputs ++ i ∷ [] = ap (λ (m : ℕ). take m inputs) (add-one n) ∙ inputs_more inputs n i h in
    subst (AddsArguments env old new (items_of (map tree (take (n + 1) args))) (take (n + 1) inputs)) (sym is)
    (subst (λ (ys : List Signal). AddsArguments env old new (items_of (map tree (take (n + 1) args))) ys (to ++ one)) (sym ins)
    (subst (λ (ys : List Expression). AddsArguments env old new (items_of ys) (take n inputs ++ i ∷ []) (to ++ one)) (sym more)
    (arguments_more env old mid new es (take n inputs) to x i one ie long a (subst (λ (m : ℕ). AddsArgument env mid new x m one) e b))))
  where
    map_long : (f : ℕ → Expression) (xs : List ℕ) → length (map f xs) ≡ length xs
    map_long f [] = refl
    map_long f (x ∷ xs) = ap suc (map_long f xs)

-- all of them
pub all_arguments : (env : List ℕ) (old new : Coding) (tree : ℕ → Expression) (args : List ℕ) (inputs : List Signal) (n : ℕ) (to : List ℕ) → length args ≤ n → length args ≡ length inputs
    → AddsArguments env old new (items_of (map tree (take n args))) (take n inputs) to → AddsArguments env old new (items_of (map tree args)) inputs to
all_arguments env old new tree args inputs n to l alike a =
    subst (λ (ys : List Signal). AddsArguments env old new (items_of (map tree args)) ys to) (take_all n inputs (omega (arith, l, alike)))
    (subst (λ (xs : List ℕ). AddsArguments env old new (items_of (map tree xs)) (take n inputs) to) (take_all n args l) a)
