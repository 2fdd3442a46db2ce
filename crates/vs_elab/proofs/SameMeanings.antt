-- Scopes whose names mean the same are seen alike.
use mathlib.Core.Path.{fun_ext}
use Rattle.std.proofs.Common.{◌≡◌, ℕ, List, Option, Some, None, refl, ap, ◌∙◌}
use Rattle.vs_elaborated.specs.Environments.{Declared, Later, OfSignal, OfParameter, OfGenvar, OfInteger, OfFunction, OfScope, Entry, Env, find_name, within, entry_meaning, named}
use Rattle.vs_scope.specs.Surveys.{MeanTheSame}

module _ (env : Env) (es fs : List Entry) (h : MeanTheSame es fs) where
  entry_alike : (o : Option Entry) → entry_meaning (within env es) o ≡ entry_meaning (within env fs) o
  entry_alike None = refl
  entry_alike (Some e) = of e.name e.place e.declared
    where
      of : (n : List ℕ) (p : ℕ) (d : Declared) → (let x : Entry = record { name = n; place = p; declared = d } in entry_meaning (within env es) (Some x)) ≡ (let x : Entry = record { name = n; place = p; declared = d } in entry_meaning (within env fs) (Some x))
      of n p Later = refl
      of n p (OfSignal s) = refl
      of n p (OfParameter v r) = refl
      of n p OfGenvar = refl
      of n p (OfInteger owner) = refl
      of n p (OfFunction f) = refl
      of n p OfScope = refl

  pub found_alike : (name : List ℕ) → find_name (within env es).frames name ≡ find_name (within env fs).frames name
  found_alike name = ap (λ (o : Option Entry). let r : Option Entry = elim o [ Some e ↦ Some e | None ↦ find_name env.frames name ] in r) (h name)

  name_alike : (name : List ℕ) → named (within env es) name ≡ named (within env fs) name
  name_alike name = ap (entry_meaning (within env es)) (found_alike name) ∙ entry_alike (find_name (within env fs).frames name)

  -- what names mean in them
  pub seen_alike : named (within env es) ≡ named (within env fs)
  seen_alike = fun_ext name_alike
