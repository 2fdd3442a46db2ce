-- The survey of a scope, by its parts.
use Rattle.std.proofs.Common.{◌≡◌, ℕ, Bool, true, false, ◌&&◌, ◌||◌, ◌==◌, nat_lt, List, [], ◌++◌, flat_map, Option, Some, None, if◌then◌else◌, refl, sym, ap, ◌∙◌, append_assoc, arith}
use Rattle.std.proofs.lemmas.Bool.{ltb-true, ltb-false, eqb-true, eqb-false}
use Rattle.vs_grammar.specs.Trees as tree
use Rattle.vs_const.specs.declared.faults.Fault.{Fault}
use Rattle.vs_const.specs.Rules.{rule_number}
use Rattle.vs_const.proofs.RuleNumbers.{same_rule}
use Rattle.vs_const.specs.Faults.{comes_before, lesser, least, better}
use Rattle.vs_const.specs.declared.rules.Rule.{Rule}
use Rattle.vs_const.proofs.Least.{least_append}
use Rattle.vs_elaborated.specs.Limits.{the_limits}
use Rattle.vs_elaborated.specs.Pieces.{Task}
use Rattle.vs_elaborated.specs.Environments.{within, named}
use Rattle.vs_elaborated.specs.Declarations.{repeated_names}
use Rattle.vs_elaborated.specs.Signals.{range_faults}
use Rattle.vs_elaborated.specs.Surveys.{Totals, counts_of, survey, header_of, declarations_of, overrides_of, block_faults, bits_over, processes_over, contents_unheard}
use Rattle.vs_scope.specs.Signalled.{faults_of}
use Rattle.vs_scope.specs.Scopes.{evaluated_entries, said_functions_of}
use Rattle.vs_scope.specs.Surveys.{IsOfParts, start_at, signals_in, made_in, made_faults, declared_in, blocks_in, said_in, scope_env}

same_fault : (p q : ℕ) (m n : Rule) → p ≡ q → m ≡ n → (let f : Fault = record { rule = m; place = p } in f) ≡ record { rule = n; place = q }
same_fault p q m n h k = cc

-- of two, neither of which comes before the other
equal : (p q m n : ℕ) (a b c d e f : Bool) → nat_lt p q ≡ a → (p == q) ≡ b → nat_lt m n ≡ c → nat_lt q p ≡ d → (q == p) ≡ e → nat_lt n m ≡ f
    → (a || (b && c)) ≡ false → (d || (e && f)) ≡ false → (p ≡ q) × (m ≡ n)
equal p q m n true b c d e f h1 h2 h3 h4 h5 h6 x y = cc
equal p q m n false b c true e f h1 h2 h3 h4 h5 h6 x y = cc
equal p q m n false true true false e f h1 h2 h3 h4 h5 h6 x y = cc
equal p q m n false b false false true true h1 h2 h3 h4 h5 h6 x y = cc
equal p q m n false b c false false f h1 h2 h3 h4 h5 h6 x y =
    let u = ltb-false p q h1 in let v = ltb-false q p h4 in let w = eqb-false q p h5 in absurd (w (omega (arith, u, v)))
equal p q m n false false c false true f h1 h2 h3 h4 h5 h6 x y = let w = eqb-false p q h2 in absurd (w (sym (eqb-true q p h5)))
equal p q m n false true false false true false h1 h2 h3 h4 h5 h6 x y = let u = ltb-false m n h3 in let v = ltb-false n m h6 in (eqb-true p q h2, omega (arith, u, v))

-- of two, each of which comes before the other
never : (p q m n : ℕ) (a b c d e f : Bool) → nat_lt p q ≡ a → (p == q) ≡ b → nat_lt m n ≡ c → nat_lt q p ≡ d → (q == p) ≡ e → nat_lt n m ≡ f
    → (a || (b && c)) ≡ true → (d || (e && f)) ≡ true → ⊥
never p q m n true b c true e f h1 h2 h3 h4 h5 h6 x y = let u = ltb-true p q h1 in let v = ltb-true q p h4 in omega (arith, u, v)
never p q m n true b c false true f h1 h2 h3 h4 h5 h6 x y = let u = ltb-true p q h1 in let v = eqb-true q p h5 in omega (arith, u, v)
never p q m n true b c false false f h1 h2 h3 h4 h5 h6 x y = cc
never p q m n false true true true e f h1 h2 h3 h4 h5 h6 x y = let u = eqb-true p q h2 in let v = ltb-true q p h4 in omega (arith, u, v)
never p q m n false true true false true true h1 h2 h3 h4 h5 h6 x y = let u = ltb-true m n h3 in let v = ltb-true n m h6 in omega (arith, u, v)
never p q m n false true true false true false h1 h2 h3 h4 h5 h6 x y = cc
never p q m n false true true false false f h1 h2 h3 h4 h5 h6 x y = cc
never p q m n false true false d e f h1 h2 h3 h4 h5 h6 x y = cc
never p q m n false false c d e f h1 h2 h3 h4 h5 h6 x y = cc

lesser_comm : (a b : Fault) → lesser a (Some b) ≡ lesser b (Some a)
lesser_comm a b = by (comes_before b a) (comes_before a b) refl refl
  where
    by : (x y : Bool) → comes_before b a ≡ x → comes_before a b ≡ y → (if x then b else a) ≡ (if y then a else b)
    by true true h k = absurd (never b.place a.place (rule_number b.rule) (rule_number a.rule) _ _ _ _ _ _ refl refl refl refl refl refl h k)
    by true false h k = refl
    by false true h k = refl
    by false false h k = let e = equal b.place a.place (rule_number b.rule) (rule_number a.rule) _ _ _ _ _ _ refl refl refl refl refl refl h k in sym (same_fault b.place a.place b.rule a.rule e.0 (same_rule b.rule a.rule e.1))

better_comm : (a b : Option Fault) → better a b ≡ better b a
better_comm None None = refl
better_comm None (Some b) = refl
better_comm (Some a) None = refl
better_comm (Some a) (Some b) = ap Some (lesser_comm a b)

under : (x y z : List Fault) → least y ≡ least z → least (x ++ y) ≡ least (x ++ z)
under x y z h = least_append x y ∙ ap (better (least x)) h ∙ sym (least_append x z)

swap : (x y z : List Fault) → least (x ++ (y ++ z)) ≡ least (y ++ (x ++ z))
swap x y z =
    ap least (sym (append_assoc x y z)) ∙ least_append (x ++ y) z
    ∙ ap (λ (o : Option Fault). better o (least z)) (least_append x y ∙ better_comm (least x) (least y) ∙ sym (least_append y x))
    ∙ sym (least_append (y ++ x) z) ∙ ap least (append_assoc y x z)

gather : (h r p g s f m b i bits procs : List Fault) → least (h ++ (r ++ (p ++ (g ++ (s ++ (f ++ (m ++ (b ++ (i ++ (bits ++ procs))))))))))
    ≡ better (least (h ++ (((r ++ (p ++ (g ++ s))) ++ f) ++ (m ++ (b ++ bits))))) (least (i ++ procs))
gather h r p g s f m b i bits procs =
    under h _ _ (under r _ _ (under p _ _ (under g _ _ (under s _ _ (under f _ _ (under m _ _ (under b _ _ (swap i bits procs))))))))
    ∙ ap least (sym (flat (i ++ procs)))
    ∙ least_append (h ++ (((r ++ (p ++ (g ++ s))) ++ f) ++ (m ++ (b ++ bits)))) (i ++ procs)
  where
    flat : (rest : List Fault) → (h ++ (((r ++ (p ++ (g ++ s))) ++ f) ++ (m ++ (b ++ bits)))) ++ rest ≡ h ++ (r ++ (p ++ (g ++ (s ++ (f ++ (m ++ (b ++ (bits ++ rest))))))))
    flat rest = simp append_assoc

pub survey_parts : (source : tree.Source) (t : Task) (totals : Totals) → IsOfParts source t totals (survey the_limits source t totals)
survey_parts source t totals =
    let start = start_at t totals in
    let ds = declarations_of t.contents in
    let before = counts_of totals in
    let parameters = evaluated_entries totals.scopes t.env (overrides_of t.contents) ds in
    let signals = signals_in t.env t.contents start in
    record {
      entries = refl;
      signals = refl;
      functions = refl;
      pieces = refl;
      fault =
          gather (header_of t.contents) (repeated_names [] ds) parameters.faults (range_faults (within t.env parameters.entries) ds) (flat_map faults_of signals)
          (said_functions_of t.env (overrides_of t.contents) start before ds).faults (made_faults (made_in t.env t.contents start before totals.turns))
          (block_faults (declared_in t.env t.contents start before) [] (blocks_in t.env t.contents start before totals.turns)) (said_in source t totals).faults (bits_over the_limits.bits totals.bits signals)
          (processes_over the_limits.processes totals.processes (said_in source t totals).pieces ++ contents_unheard (named (scope_env t totals)) t.contents);
      totals_is = refl;
    }
