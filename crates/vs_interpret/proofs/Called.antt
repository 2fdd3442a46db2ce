-- Functions of a lawful flat design as they are called.
use Rattle.std.proofs.Common.{◌≡◌, ℕ, suc, ◌+◌, ◌≤◌, true, List, [], ◌∷◌, Some, refl, sym, ap, ◌∙◌, subst, arith}
use Rattle.std.specs.Prelude.{sum_by}
use Rattle.std.proofs.lemmas.List.Sums.{sum_by-cons}
use Rattle.vs_design.specs.Expressions as E
use Rattle.vs_design.specs.Statements as T
use Rattle.vs_design.specs.Elaborated.{is_formed_function}
use Rattle.vs_design.specs.Within.{statement_within, FunctionIsWithin}
use Rattle.vs_flat.specs.declared.processes.Signal.{Signal}
use Rattle.vs_flat.specs.declared.functions.Declared.{Declared}
use Rattle.vs_flat.specs.declared.functions.Body.{Body}
use Rattle.vs_flat.specs.Arena.{Arena, body_at, declared_at, signal_length, bit_count}
use Rattle.vs_flat.specs.Named.{locals_in, statement_names_below}
use Rattle.vs_flat.specs.Lawful.{IsLawful}
use Rattle.vs_flat.specs.Laws.{BodiesThere, BodyNames, EachFunction, FunctionResults, HeaderLocals}
use Rattle.vs_flat.specs.Trees.{signal_at, signal_of, signals_from, statement_at}
use Rattle.vs_flat.specs.DesignOf.{arena_statements, design_of, header_in, header_of, local_of, statement_in}
use Rattle.vs_sets.specs.Calls.{function_of}
use Rattle.vs_sets.specs.StatementParts.{statement_of}
use Rattle.vs_sets.proofs.Names.{formed_function}
use Rattle.vs_interpret.specs.declared.calls.Callee.{Callee}
use Rattle.vs_interpret.specs.Called.{IsCallee}

local_count : (k : ℕ) (ss : List Signal) → sum_by E.signal_length (signals_from k ss) ≡ bit_count ss
local_count k [] = refl
local_count k (s ∷ ss) = let r = local_count (suc k) ss in omega (arith, r, sum_by-cons signal_length s ss, sum_by-cons E.signal_length (signal_of k s) (signals_from (suc k) ss))

-- all laws that tell of it
pub record CalleeLaws : Type 0 where
  pub functions : EachFunction
  pub headers : HeaderLocals
  pub results : FunctionResults
  pub bodies : BodiesThere
  pub names : BodyNames
  pub within : FunctionIsWithin

module _ (laws : CalleeLaws) (a : Arena) (f : ℕ) (d : Declared) (b : Body) (lawful : IsLawful a) (at : declared_at a f ≡ Some d) (has : body_at a f ≡ Some b) where
  plain : T.Function
  plain = record { header = header_of d.function; statement = statement_at (arena_statements a) b.statement }

  formed : is_formed_function (design_of a) plain ≡ true
  unfolding plain
  formed = formed_function laws.functions a f d b lawful at has

  within_locals : statement_within (bit_count (locals_in (declared_at a f))) (statement_of a b.statement) ≡ true
  unfolding plain
  within_locals =
      let count : sum_by E.signal_length (E.local_signals (header_of d.function)) ≡ bit_count (locals_in (declared_at a f)) =
      ap (sum_by E.signal_length) (laws.headers d.function (laws.results a lawful f d at)) ∙ local_count 0 d.function.signals ∙ ap (λ o. bit_count (locals_in o)) (sym at)
      in
      subst (λ n. statement_within n (statement_of a b.statement) ≡ true) count (laws.within (design_of a) plain formed)

  pub is_callee : (c : Callee) → c.statement ≡ b.statement → c.nodes ≡ b.nodes → c.len ≡ bit_count (locals_in (declared_at a f))
      → c.result.first ≡ (local_of a f d.function.inputs).first → c.result.len ≡ E.signal_length (local_of a f d.function.inputs) → c.result.first + c.result.len ≤ bit_count (locals_in (declared_at a f)) → IsCallee a f c
  is_callee c statement nodes len first count end_ =
      let there = laws.bodies a lawful.names f b has in
      let is : (function_of a f).statement ≡ statement_of a b.statement = ap (statement_in (arena_statements a)) has in
      let same : statement_of a b.statement ≡ statement_of a c.statement = ap (statement_of a) (sym statement) in
      let result : local_of a f d.function.inputs ≡ (function_of a f).header.result = ap (λ o. signal_at (signals_from 0 (locals_in o)) d.function.inputs) at ∙ ap (λ o. (header_in o).result) (sym at) in
      let within : statement_within c.len (statement_of a b.statement) ≡ true = subst (λ n. statement_within n (statement_of a b.statement) ≡ true) (sym len) within_locals in
      record {
        there = omega (arith, statement, there.1, there.2);
        is = is ∙ same;
        few = omega (arith, nodes, there.0);
        before = λ e h. let l = h b has in omega (arith, nodes, l);
        names = λ s t l g. subst (λ n. statement_names_below n s t.item ≡ true) (sym nodes) (laws.names a lawful.names f b has s t (omega (arith, l, statement, there.1)) g);
        len = len;
        within = subst (λ s. statement_within c.len s ≡ true) same within;
        result_first = first ∙ ap (λ (s : E.Signal). s.first) result;
        result_len = count ∙ ap E.signal_length result;
        result_within = omega (arith, end_, len);
      }
