-- One part more that breaks no rule.
use Rattle.std.proofs.Common.{◌≡◌, ℕ, List, [], ◌∷◌, ◌++◌, Option, Some, None, if◌then◌else◌, sym, ap, subst}
use Rattle.vs_grammar.specs.Trees as tree
use Rattle.vs_grammar.specs.Shapes.{Each, Given}
use Rattle.vs_elaborated.specs.Environments.{Env}
use Rattle.vs_elaborated.specs.Signals.{is_reg}
use Rattle.vs_elaborated.specs.Surveys.{value_said, wire_said, declarator_said}
use Rattle.vs_elab.specs.declared.pending.Part.{Part}
use Rattle.vs_elab.specs.Fine.{IsFineValue, IsFineDeclarator, IsFinePart, AreFineParts}

pub each_behind : {A : Type 0} (P : A → Type 0) (xs : List A) (x : A) → Each P xs → P x → Each P (xs ++ x ∷ [])
each_behind P [] x h k = (k, tt)
each_behind P (y ∷ xs) x h k = (h.0, each_behind P xs x h.1 k)

-- one more of a list
pub each_more : {A : Type 0} (P : A → Type 0) (xs ys : List A) (x : A) → ys ≡ xs ++ x ∷ [] → Each P xs → P x → Each P ys
each_more P xs ys x e h k = subst (Each P) (sym e) (each_behind P xs x h k)

pub part_fine : (source : tree.Source) (env : Env) (ps qs : List Part) (p : Part) → qs ≡ ps ++ p ∷ [] → AreFineParts source env ps → IsFinePart source env p → AreFineParts source env qs
part_fine source env ps qs p e h k = each_more (IsFinePart source env) ps qs p e h k

-- a name that has a value
pub value_given : (env : Env) (kind : tree.SignalKind) (d : tree.Declarator) (e : tree.Expr) → d.value ≡ Some e → IsFineDeclarator env kind d → IsFineValue env (is_reg kind) d.name e
value_given env kind d e is h = subst (λ (o : Option tree.Expr). Given (IsFineValue env (is_reg kind) d.name) o) is h

said_of : (env : Env) (place : ℕ) (kind : tree.SignalKind) (name : tree.Name) (a : Option tree.RangeTree) (v : Option tree.Expr) (e : tree.Expr) → v ≡ Some e
    → (let d : tree.Declarator = record { name = name; addresses = a; value = v } in (declarator_said env place kind d).pieces ≡ (if is_reg kind then value_said env name e else wire_said env place name e).pieces)
said_of env place kind name a None e h = cc
said_of env place kind name a (Some x) e h = ap (λ (y : tree.Expr). (if is_reg kind then value_said env name y else wire_said env place name y).pieces) (same h)
  where
    same : Some x ≡ Some e → x ≡ e
    same i = cc

-- and what it says
pub said_given : (env : Env) (place : ℕ) (kind : tree.SignalKind) (d : tree.Declarator) (e : tree.Expr) → d.value ≡ Some e
    → (declarator_said env place kind d).pieces ≡ (if is_reg kind then value_said env d.name e else wire_said env place d.name e).pieces
said_given env place kind d e is = said_of env place kind d.name d.addresses d.value e is
