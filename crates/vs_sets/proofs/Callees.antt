-- Functions of a lawful flat design, and calls of them.
use Rattle.std.proofs.Common.{◌≡◌, ℕ, zero, suc, ◌+◌, ◌<◌, ◌≤◌, true, false, List, [], ◌∷◌, length, Option, Some, None, refl, sym, ap, ◌∙◌, subst, arith}
use Rattle.std.specs.Prelude.{◌&&◌, ◌==◌, nat_le, option_map, slice_get, sum_by}
use Rattle.std.specs.List.{list_all}
use Rattle.std.proofs.lemmas.Bool.Decides.{nat_tests}
use Rattle.std.proofs.lemmas.List.Sums.{sum_by-cons}
use Rattle.vs_design.specs.Expressions as E
use Rattle.vs_design.specs.Statements as T
use Rattle.vs_design.specs.Elaborated.{are_as_many, are_formed, inside, is_formed, is_formed_function, is_formed_header, is_formed_statement, is_nil}
use Rattle.vs_design.specs.Fits.{is_fit, fits_statement}
use Rattle.vs_design.specs.Footprints.{contains, statement_bits}
use Rattle.vs_design.specs.Rules.{mixed_in}
use Rattle.vs_design.specs.Within.{names_within, statement_within, FunctionIsWithin}
use Rattle.vs_flat.specs.declared.placed.Placed.{Placed}
use Rattle.vs_flat.specs.declared.processes.Signal.{Signal}
use Rattle.vs_flat.specs.declared.functions.Function.{Function}
use Rattle.vs_flat.specs.declared.functions.Declared.{Declared}
use Rattle.vs_flat.specs.declared.functions.Body.{Body}
use Rattle.vs_flat.specs.declared.expressions.Node.{Node}
use Rattle.vs_flat.specs.declared.expressions.Node.TheVariants.{Call}
use Rattle.vs_flat.specs.Arena.{Arena, node_at, body_at, declared_at, signal_length, bit_count}
use Rattle.vs_flat.specs.Named.{locals_in}
use Rattle.vs_flat.specs.Lawful.{IsLawful, has_locals, local_bits_from, node_design}
use Rattle.vs_flat.specs.Laws.{BodiesThere, BodyNames, CallsEarlier, EachFunction, EachIsFormed, FunctionResults, HeaderLocals}
use Rattle.vs_flat.specs.Trees.{signal_at, signals_from, statement_at}
use Rattle.vs_flat.specs.DesignOf.{arena_statements, design_of, header_in, header_of, local_of, statement_in}
use Rattle.vs_shape.specs.Nodes.{HasCalls}
use Rattle.vs_sets.specs.declared.calls.Callee.{Callee}
use Rattle.vs_sets.specs.Calls.{IsCall, IsCallee, arguments_of, function_of}
use Rattle.vs_sets.specs.Laws.{BlockingIsAtOnce}
use Rattle.vs_sets.specs.Nodes.{HasNames, place_of, tree_of, tree_of_node}
use Rattle.vs_sets.specs.StatementParts.{statement_of}
use Rattle.vs_sets.proofs.Fit.{and_left, and_right, fit_parts}
use Rattle.vs_sets.proofs.FlagSteps.{all_below}
use Rattle.vs_sets.proofs.Names.{formed_function}
use Rattle.vs_sets.proofs.WrittenBits.{statement_bits_within}

-- ---- local bits

local_ends : (ss : List Signal) (first k n : ℕ) → local_bits_from first ss ≡ true → n < length ss → (signal_at (signals_from k ss) n).first + E.signal_length (signal_at (signals_from k ss) n) ≤ first + bit_count ss
local_ends [] first k n h l = absurd (omega (arith, l))
local_ends (s ∷ ss) first k zero h l =
    let e : s.first_bit ≡ first = grind (arith, nat_tests, and_left (s.first_bit == first) _ h) in
    omega (arith, e, sum_by-cons signal_length s ss)
local_ends (s ∷ ss) first k (suc n) h l =
    let r = local_ends ss (first + signal_length s) (suc k) n (and_right (s.first_bit == first) _ h) (omega (arith, l)) in
    omega (arith, r, sum_by-cons signal_length s ss)

last_end : (ss : List Signal) (first n : ℕ) (s : Signal) → local_bits_from first ss ≡ true → slice_get ss n ≡ Some s → n + 1 ≡ length ss → s.first_bit + signal_length s ≡ first + bit_count ss
last_end [] first n s h at l = absurd (omega (arith, l))
last_end (t ∷ []) first zero s h at l =
    let same : t ≡ s = cc in
    let e : t.first_bit ≡ first = grind (arith, nat_tests, and_left (t.first_bit == first) true h) in
    omega (arith, e, ap (λ (x : Signal). x.first_bit) same, ap signal_length same, sum_by-cons signal_length t [])
last_end (t ∷ u ∷ ss) first zero s h at l = absurd (omega (arith, l))
last_end (t ∷ ss) first (suc n) s h at l =
    let r = last_end ss (first + signal_length t) n s (and_right (t.first_bit == first) _ h) at (omega (arith, l)) in
    omega (arith, r, sum_by-cons signal_length t ss)

locals_at : (fs : List Declared) (f : ℕ) (d : Declared) → list_all (λ (x : Declared). has_locals x.function) fs ≡ true → slice_get fs f ≡ Some d → has_locals d.function ≡ true
locals_at [] f d h e = absurd (let z : ⊥ = cc in z)
locals_at (x ∷ fs) zero d h e = let same : x ≡ d = cc in subst (λ (y : Declared). has_locals y.function ≡ true) same (and_left (has_locals x.function) _ h)
locals_at (x ∷ fs) (suc f) d h e = locals_at fs f d (and_right (has_locals x.function) _ h) e

numbered : (f : Function) → has_locals f ≡ true → local_bits_from 0 f.signals ≡ true
numbered f h =
    let some = Rattle.std.specs.Prelude.nat_lt f.inputs (length f.signals) in
    and_right some (local_bits_from 0 f.signals) (and_left (some && local_bits_from 0 f.signals) (nat_le (bit_count f.signals) 67108864) h)

-- a function's local signals have its bits, of which the last one's are the last
pub all_local_bits : (a : Arena) (f n : ℕ) (d : Declared) (s : Signal) → IsLawful a → declared_at a f ≡ Some d → slice_get d.function.signals n ≡ Some s → n + 1 ≡ length d.function.signals → s.first_bit + signal_length s ≡ bit_count (locals_in (declared_at a f))
all_local_bits a f n d s lawful at there last =
    let own = last_end d.function.signals 0 n s (numbered d.function (locals_at a.functions f d lawful.locals at)) there last in
    omega (arith, own, ap (λ o. bit_count (locals_in o)) at)

pub local_end : (a : Arena) (f n : ℕ) → IsLawful a → n < length (locals_in (declared_at a f)) → (local_of a f n).first + E.signal_length (local_of a f n) ≤ bit_count (locals_in (declared_at a f))
local_end a f n lawful there = at (slice_get a.functions f) refl there where
  at : (o : Option Declared) → slice_get a.functions f ≡ o → n < length (locals_in (slice_get a.functions f))
      → (signal_at (signals_from 0 (locals_in (slice_get a.functions f))) n).first + E.signal_length (signal_at (signals_from 0 (locals_in (slice_get a.functions f))) n) ≤ bit_count (locals_in (slice_get a.functions f))
  at None e h = absurd (let l : n < 0 = subst (λ o. n < length (locals_in o)) e h in omega (arith, l))
  at (Some d) e h =
      let own = local_ends d.function.signals 0 0 n (numbered d.function (locals_at a.functions f d lawful.locals e)) (subst (λ o. n < length (locals_in o)) e h) in
      let ends : (signal_at (signals_from 0 d.function.signals) n).first + E.signal_length (signal_at (signals_from 0 d.function.signals) n) ≤ bit_count d.function.signals = omega (arith, own) in
      subst (λ o. (signal_at (signals_from 0 (locals_in o)) n).first + E.signal_length (signal_at (signals_from 0 (locals_in o)) n) ≤ bit_count (locals_in o)) (sym e) ends

local_count : (k : ℕ) (ss : List Signal) → sum_by E.signal_length (signals_from k ss) ≡ bit_count ss
local_count k [] = refl
local_count k (s ∷ ss) = let r = local_count (suc k) ss in omega (arith, r, sum_by-cons signal_length s ss, sum_by-cons E.signal_length (Rattle.vs_flat.specs.Trees.signal_of k s) (signals_from (suc k) ss))

-- ---- the function

is_none : {A : Type 0} (xs : List A) → is_nil xs ≡ true → xs ≡ []
is_none [] h = refl
is_none (x ∷ xs) h = absurd (let z : ⊥ = cc in z)

-- all laws that tell of it
pub record CalleeLaws : Type 0 where
  pub at_once : BlockingIsAtOnce
  pub functions : EachFunction
  pub headers : HeaderLocals
  pub results : FunctionResults
  pub bodies : BodiesThere
  pub names : BodyNames
  pub within : FunctionIsWithin

module _ (laws : CalleeLaws) (a : Arena) (f : ℕ) (d : Declared) (b : Body) (lawful : IsLawful a) (at : declared_at a f ≡ Some d) (has : body_at a f ≡ Some b) where
  plain : T.Function
  plain = record { header = header_of d.function; statement = statement_at (arena_statements a) b.statement }

  formed : is_formed_function (design_of a) plain ≡ true
  unfolding plain
  formed = formed_function laws.functions a f d b lawful at has

  unmixed : mixed_in false (statement_of a b.statement) ≡ []
  unfolding plain
  unmixed =
      let header = is_formed_header (design_of a) plain.header in
      is_none _ (and_right header (is_nil (mixed_in false plain.statement)) (and_left (header && is_nil (mixed_in false plain.statement)) (is_formed_statement (inside (design_of a) plain.header) plain.statement) formed))

  within_locals : statement_within (bit_count (locals_in (declared_at a f))) (statement_of a b.statement) ≡ true
  unfolding plain
  within_locals =
      let count : sum_by E.signal_length (E.local_signals (header_of d.function)) ≡ bit_count (locals_in (declared_at a f)) =
      ap (sum_by E.signal_length) (laws.headers d.function (laws.results a lawful f d at)) ∙ local_count 0 d.function.signals ∙ ap (λ o. bit_count (locals_in o)) (sym at)
      in
      subst (λ n. statement_within n (statement_of a b.statement) ≡ true) count (laws.within (design_of a) plain formed)

  pub is_callee : (c : Callee) → c.statement ≡ b.statement → c.nodes ≡ b.nodes → c.len ≡ bit_count (locals_in (declared_at a f)) → fits_statement (function_of a f).statement ≡ true
      → ((n : ℕ) → contains c.writes.items n ≡ contains (statement_bits (statement_of a b.statement)) n)
      → c.result.first ≡ (local_of a f d.function.inputs).first → c.result.len ≡ E.signal_length (local_of a f d.function.inputs) → c.result.first + c.result.len ≤ bit_count (locals_in (declared_at a f)) → IsCallee a f c
  is_callee c statement nodes len fit writes first count end_ =
      let there = laws.bodies a lawful.names f b has in
      let is : (function_of a f).statement ≡ statement_of a b.statement = ap (statement_in (arena_statements a)) has in
      let same : statement_of a b.statement ≡ statement_of a c.statement = ap (statement_of a) (sym statement) in
      let result : local_of a f d.function.inputs ≡ (function_of a f).header.result = ap (λ o. signal_at (signals_from 0 (locals_in o)) d.function.inputs) at ∙ ap (λ o. (header_in o).result) (sym at) in
      let fits : fits_statement (statement_of a b.statement) ≡ true = ap fits_statement (sym is) ∙ fit in
      let within : statement_within c.len (statement_of a b.statement) ≡ true = subst (λ n. statement_within n (statement_of a b.statement) ≡ true) (sym len) within_locals in
      record {
        there = omega (arith, statement, there.1, there.2);
        is = is ∙ same;
        blocking = subst (λ s. Rattle.vs_design.specs.Sleepers.at_once s ≡ s) same (laws.at_once (statement_of a b.statement) unmixed);
        few = omega (arith, nodes, there.0);
        before = λ e h. let l = h b has in omega (arith, nodes, l);
        names = λ s t l g. subst (λ n. Rattle.vs_flat.specs.Named.statement_names_below n s t.item ≡ true) (sym nodes) (laws.names a lawful.names f b has s t (omega (arith, l, statement, there.1)) g);
        len = len;
        within = subst (λ s. statement_within c.len s ≡ true) same within;
        writes_within = all_below c.writes.items c.len (λ n h. statement_bits_within c.len (statement_of a b.statement) n fits within (sym (writes n) ∙ h));
        covers = λ n h. writes n ∙ ap (λ s. contains (statement_bits s) n) same ∙ h;
        result_first = first ∙ ap (λ (s : E.Signal). s.first) result;
        result_len = count ∙ ap E.signal_length result;
        result_within = omega (arith, end_, len);
      }

-- ---- calls

found_node : (a : Arena) (e : ℕ) (n : Node) → node_at a e ≡ Some n → (m : Placed Node) × (slice_get a.nodes e ≡ Some m) × (m.item ≡ n)
found_node a e n h = at (slice_get a.nodes e) refl h where
  at : (o : Option (Placed Node)) → slice_get a.nodes e ≡ o → option_map (λ (m : Placed Node). m.item) o ≡ Some n → (m : Placed Node) × (slice_get a.nodes e ≡ Some m) × (m.item ≡ n)
  at None i k = absurd (let z : ⊥ = cc in z)
  at (Some m) i k = (m, i, cc)

pub is_call : CallsEarlier → EachIsFormed → (a : Arena) (count e : ℕ) (n : Node) → IsLawful a → e < length a.nodes → node_at a e ≡ Some n → HasNames (length a.signals) e n → HasCalls a n → tree_of a e ≡ E.At (place_of a e) (tree_of_node a n)
    → is_fit (tree_of a e) ≡ true → names_within count (tree_of a e) ≡ true → (f : ℕ) (arguments : List ℕ) → n ≡ Call f arguments → IsCall a count e f arguments
is_call earlier formed_at a count e n lawful below there names calls tree fit within f arguments is =
    let node = found_node a e n there in
    let c = function_of a f in
    let items = arguments_of a arguments in
    let whole : tree_of a e ≡ E.At (place_of a e) (E.Call c.header c.statement items) = tree ∙ ap (λ m. E.At (place_of a e) (tree_of_node a m)) is in
    let parts = fit_parts (E.At (place_of a e) (E.Call c.header c.statement items)) (ap is_fit (sym whole) ∙ fit) in
    let d = node_design a e in
    let front = is_formed_header d c.header && is_nil (mixed_in false c.statement) && is_formed_statement (inside d c.header) c.statement in
    let form : is_formed d (E.At (place_of a e) (E.Call c.header c.statement items)) ≡ true = ap (is_formed d) (sym whole) ∙ formed_at a lawful e below in
    record {
      there = subst (HasCalls a) is calls;
      before = subst (HasNames (length a.signals) e) is names;
      body_before = λ b has. earlier a lawful.names e node.0 node.1 f arguments (node.2 ∙ is) b has;
      as_many = and_right front (are_as_many items c.header.inputs) (and_left (front && are_as_many items c.header.inputs) (are_formed d items) form);
      result_fits = parts.0;
      inputs_fit = parts.1;
      arguments_fit = parts.2;
      statement_fits = parts.3;
      arguments_within = ap (names_within count) (sym whole) ∙ within;
    }
