-- What the items of a scope make, one after the other.
use Rattle.std.proofs.Common.{◌≡◌, ◌+◌, ℕ, suc, Bool, true, false, List, [], ◌∷◌, ◌++◌, map, Option, None, if◌then◌else◌, refl, sym, ap, ◌∙◌, append_assoc, add-one}
use Rattle.std.proofs.lemmas.List.{map-append}
use Rattle.vs_grammar.specs.Trees as tree
use Rattle.vs_const.specs.declared.faults.Fault.{Fault}
use Rattle.vs_const.specs.Faults.{least, better}
use Rattle.vs_const.proofs.Least.{least_append}
use Rattle.vs_elaborated.specs.Environments.{Env}
use Rattle.vs_elaborated.specs.Limits.{the_limits}
use Rattle.vs_elaborated.specs.Generate as generate
use Rattle.vs_elaborated.specs.Constructs.{construct, constructs, is_construct}
use Rattle.vs_elaborated.specs.Surveys.{turns_after}
use Rattle.vs_scope.specs.declared.made.Made.{Made}
use Rattle.vs_scope.specs.declared.constructs.Making.{Making}
use Rattle.vs_scope.specs.Chosen.{IsMaking}
use Rattle.vs_scope.specs.Made.{Kept, made, kept}
use Rattle.vs_scope.specs.Surveys.{made_faults}
use Rattle.vs_scope.proofs.Steps.{append_none}
use Rattle.vs_scope.proofs.SoFar.{better_assoc, better_none}

pub making_start : (s : Making) (env : Env) (items : List tree.Item) → s.made.items ≡ [] → s.fault ≡ None → s.number ≡ 1 → IsMaking s env s.turns items (constructs the_limits items env 1 s.turns)
making_start s env items e f n = record {
  made_is = ap (λ (x : List Made). map made x ++ map kept (constructs the_limits items env s.number s.turns)) e ∙ ap (λ (x : ℕ). map kept (constructs the_limits items env x s.turns)) n;
  fault = ap (λ (x : Option Fault). better x (least (made_faults (constructs the_limits items env s.number s.turns)))) f ∙ ap (λ (x : ℕ). least (made_faults (constructs the_limits items env x s.turns))) n;
  turns = ap (λ (x : ℕ). turns_after s.turns (constructs the_limits items env x s.turns)) n;
}

number_is : (b : Bool) (n : ℕ) → (if b then n + 1 else n) ≡ (if b then suc n else n)
number_is true n = add-one n
number_is false n = refl

pub making_more : (s t : Making) (env : Env) (before : ℕ) (m : Made) (i : tree.Item) (rest : List tree.Item) (all : List generate.Made) → IsMaking s env before (i ∷ rest) all
    → made m ≡ kept (construct i the_limits env s.number s.turns) → t.made.items ≡ s.made.items ++ m ∷ [] → t.fault ≡ better s.fault m.fault → t.number ≡ (if is_construct i then s.number + 1 else s.number) → t.turns ≡ m.turns
    → IsMaking t env before rest all
making_more s t env before m i rest all h e items fault number turns =
    let sm = construct i the_limits env s.number s.turns in
    let r : List generate.Made = constructs the_limits rest env (if is_construct i then suc s.number else s.number) sm.turns in
    let same_turns : t.turns ≡ sm.turns = turns ∙ ap (λ (x : Kept). x.turns) e in
    let same : constructs the_limits rest env t.number t.turns ≡ r =
    ap (λ (x : ℕ). constructs the_limits rest env x t.turns) (number ∙ number_is (is_construct i) s.number) ∙ ap (constructs the_limits rest env (if is_construct i then suc s.number else s.number)) same_turns in
    record {
      made_is =
          ap (λ (x : List generate.Made). map made t.made.items ++ map kept x) same
          ∙ ap (λ (x : List Made). map made x ++ map kept r) items
          ∙ ap (λ (x : List Kept). x ++ map kept r) (map-append made s.made.items (m ∷ []))
          ∙ append_assoc (map made s.made.items) (made m ∷ []) (map kept r)
          ∙ ap (λ (x : Kept). map made s.made.items ++ (x ∷ map kept r)) e
          ∙ h.made_is;
      fault =
          ap (λ (x : List generate.Made). better t.fault (least (made_faults x))) same
          ∙ ap (λ (x : Option Fault). better x (least (made_faults r))) fault
          ∙ better_assoc s.fault m.fault (least (made_faults r))
          ∙ ap (λ (x : Kept). better s.fault (better x.fault (least (made_faults r)))) e
          ∙ ap (better s.fault) (sym (least_append sm.faults (made_faults r)))
          ∙ h.fault;
      turns = ap (turns_after t.turns) same ∙ ap (λ (x : ℕ). turns_after x r) same_turns ∙ h.turns;
    }

pub making_end : (s : Making) (env : Env) (before : ℕ) (all : List generate.Made) → IsMaking s env before [] all → (map made s.made.items ≡ map kept all) × (s.fault ≡ least (made_faults all)) × (s.turns ≡ turns_after before all)
making_end s env before all h = (sym (append_none (map made s.made.items)) ∙ h.made_is, sym (better_none s.fault) ∙ h.fault, h.turns)
