-- What a declaration means, by what the code has of it.
use Rattle.std.proofs.Common.{◌≡◌, ℕ, Bool, true, false, List, Option, Some, None, if◌then◌else◌, sym, ap, ◌∙◌, subst}
use Rattle.vs_four.specs.declared.Range.{Range}
use Rattle.vs_const.specs.declared.names.FunctionShape.{FunctionShape}
use Rattle.vs_const.specs.declared.names.Named.{Named}
use Rattle.vs_const.specs.declared.names.Named.TheVariants as answers
use Rattle.vs_const.specs.Meanings.{ConstantValue, Unknown, Means}
use Rattle.vs_elaborated.specs.Environments.{Declared, OfParameter, Entry, Env, is_late, parameter_meaning, declared_meaning, entry_meaning}
use Rattle.vs_scope.specs.declared.names.Declared.{Declared as DeclaredOf}
use Rattle.vs_scope.specs.declared.names.Declared.TheVariants as states
use Rattle.vs_scope.specs.declared.names.Entry.{Entry as EntryOf}
use Rattle.vs_scope.specs.declared.names.Evaluated.{Evaluated}
use Rattle.vs_scope.specs.declared.names.Evaluated.TheVariants.{Value, Undefined}
use Rattle.vs_scope.specs.Views.{evaluated}
use Rattle.vs_scope.specs.Seen.{StandsFor, Finds}

-- what the code has is known by its kind
pub stands_at : (a b : DeclaredOf) (d : Declared) → a ≡ b → StandsFor a d → StandsFor b d
stands_at a b d e h = subst (λ (x : DeclaredOf). StandsFor x d) e h

pub means_as : (r : Named) (env : Env) (place : ℕ) (d e : Declared) → d ≡ e → Means r (declared_meaning env place e) → Means r (declared_meaning env place d)
means_as r env place d e h k = subst (λ (x : Declared). Means r (declared_meaning env place x)) (sym h) k

-- a parameter, by whether it is declared too late
timed : (env : Env) (place : ℕ) (value : Option ConstantValue) (range : Option Range) (b : Bool) → is_late env.before place ≡ b
    → declared_meaning env place (OfParameter value range) ≡ (if b then Unknown else parameter_meaning value range)
timed env place value range b h = ap (λ (t : Bool). if t then Unknown else parameter_meaning value range) h

pub late_means : (env : Env) (place : ℕ) (v : Evaluated) → is_late env.before place ≡ true → declared_meaning env place (evaluated v) ≡ Unknown
late_means env place (Value p) h = timed env place (Some (record { bits = p.value.bits; signed = p.value.signed })) (Some p.range) true h
late_means env place (Undefined range) h = timed env place None range true h

pub value_means : (env : Env) (place : ℕ) (value : Option ConstantValue) (range : Option Range) (v : Evaluated) → evaluated v ≡ OfParameter value range → is_late env.before place ≡ false
    → declared_meaning env place (evaluated v) ≡ parameter_meaning value range
value_means env place value range v e h = ap (declared_meaning env place) e ∙ timed env place value range false h

-- a function that is complete
pub function_means : (env : Env) (place : ℕ) (f : FunctionShape) (d : Declared) → StandsFor (states.Function (Some f)) d → Means (answers.Function f) (declared_meaning env place d)
function_means env place f d s = (s.0, ap (declared_meaning env place) s.1, s.2.number, s.2.inputs, s.2.range, s.2.signed, s.2.known, s.2.words, s.2.depth, s.2.passed)

-- by what a look-up finds
pub found_means : (r : Named) (env : Env) (o : Option Entry) (name : List ℕ) (c : EntryOf) → Finds o name c → ((d : Declared) → StandsFor c.declared d → Means r (declared_meaning env c.first.name.now.place d)) → Means r (entry_meaning env o)
found_means r env o name c f h =
    subst (λ (x : Option Entry). Means r (entry_meaning env x)) (sym f.found_is)
    (subst (λ (n : ℕ). Means r (declared_meaning env n f.entry.declared)) (sym f.place_is) (h f.entry.declared f.declared_is))
