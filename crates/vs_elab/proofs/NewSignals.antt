-- The signals of a scope come behind those of a design: each is found there by its number, and they are counted.
use Rattle.std.proofs.Common.{◌≡◌, ℕ, suc, ◌+◌, Bool, true, false, ◌&&◌, ◌==◌, List, [], ◌∷◌, ◌++◌, length, Option, Some, None, refl, sym, ap, ◌∙◌, subst, arith, eq-eqb}
use Rattle.std.specs.Prelude.{slice_get, sum_by}
use Rattle.vs_four.specs.declared.Range.{Range}
use Rattle.vs_design.specs.Expressions.{Signal, signal_length}
use Rattle.vs_design.specs.Designs.{Design}
use Rattle.vs_design.specs.Clocks.{same_name}
use Rattle.vs_design.specs.Elaborated.{same_range, same_flag, same_signal, is_this, is_signal}
use Rattle.vs_grammar.specs.Trees as tree
use Rattle.vs_grammar.specs.Shapes.{Each}
use Rattle.vs_elaborated.specs.Signals.{SaidSignal, all_nets, net_count}
use Rattle.vs_elaborated.specs.Pieces.{Task}
use Rattle.vs_elaborated.specs.Surveys.{Totals, Survey}
use Rattle.vs_elaborated.specs.Sound.{AreCounted}
use Rattle.vs_elaborated.specs.Scoped.{AreNumberedBelow}
use Rattle.vs_scope.specs.Surveys.{IsOfParts, signals_in, start_at}
use Rattle.vs_scope.proofs.NamedLists.{same_self}
use Rattle.vs_elab.proofs.ArraySignals.{all_counted, all_bits}

-- ---- in the design

both : (a b : Bool) → a ≡ true → b ≡ true → (a && b) ≡ true
both true b h k = k
both false b h k = h

range_itself : (r : Option Range) → same_range r r ≡ true
range_itself None = refl
range_itself (Some r) = both (r.left == r.left) (r.right == r.right) (eq-eqb r.left r.left refl) (eq-eqb r.right r.right refl)

flag_itself : (b : Bool) → same_flag b b ≡ true
flag_itself true = refl
flag_itself false = refl

all_ten : (a b c d e f g h i j : Bool) → a ≡ true → b ≡ true → c ≡ true → d ≡ true → e ≡ true → f ≡ true → g ≡ true → h ≡ true → i ≡ true → j ≡ true → (a && b && c && d && e && f && g && h && i && j) ≡ true
all_ten a b c d e f g h i j p q r s t u v w x y =
    both (a && b && c && d && e && f && g && h && i) j (both (a && b && c && d && e && f && g && h) i (both (a && b && c && d && e && f && g) h (both (a && b && c && d && e && f) g (both (a && b && c && d && e) f (both (a && b && c && d) e (both (a && b && c) d (both (a && b) c (both a b p q) r) s) t) u) v) w) x) y

signal_itself : (s : Signal) → same_signal s s ≡ true
signal_itself s =
    all_ten (same_name s.name s.name) (s.scope == s.scope) (s.number == s.number) (same_flag s.net s.net) (same_flag s.input s.input) (same_range s.range s.range) (same_flag s.signed s.signed) (s.first == s.first) (same_range s.words s.words) (same_flag s.integer s.integer) (same_self s.name)
    (eq-eqb s.scope s.scope refl) (eq-eqb s.number s.number refl) (flag_itself s.net) (flag_itself s.input) (range_itself s.range) (flag_itself s.signed) (eq-eqb s.first s.first refl) (range_itself s.words) (flag_itself s.integer)

get_behind : (xs ys : List Signal) (i : ℕ) → slice_get (xs ++ ys) (length xs + i) ≡ slice_get ys i
get_behind [] ys i = ap (slice_get ys) (omega arith)
get_behind (x ∷ xs) ys i = ap (slice_get (x ∷ (xs ++ ys))) (let e : length (x ∷ xs) + i ≡ suc (length xs + i) = omega arith in e) ∙ get_behind xs ys i

found_from : (d : Design) (scope n b : ℕ) (ss : List Signal) → ((i : ℕ) → slice_get d.signals (n + i) ≡ slice_get ss i) → AreCounted scope n b ss → Each (λ (s : Signal). is_signal d s ≡ true) ss
found_from d scope n b [] f c = tt
found_from d scope n b (s ∷ ss) f c = (here (f 0), found_from d scope (n + 1) (b + signal_length s) ss (λ i. ap (slice_get d.signals) (let e : (n + 1) + i ≡ n + suc i = omega arith in e) ∙ f (suc i)) c.3)
  where
    here : slice_get d.signals (n + 0) ≡ Some s → is_this s (slice_get d.signals s.number) ≡ true
    here h = subst (λ o. is_this s o ≡ true) (sym (ap (slice_get d.signals) (let e : s.number ≡ n + 0 = omega (arith, c.0) in e) ∙ h)) (signal_itself s)

found_below : (d : Design) (scopes n b : ℕ) (ss : List Signal) → ((i : ℕ) → slice_get d.signals (n + i) ≡ slice_get ss i) → AreNumberedBelow scopes n b ss → Each (λ (s : Signal). is_signal d s ≡ true) ss
found_below d scopes n b [] f c = tt
found_below d scopes n b (s ∷ ss) f c = (here (f 0), found_below d scopes (n + 1) (b + signal_length s) ss (λ i. ap (slice_get d.signals) (let e : (n + 1) + i ≡ n + suc i = omega arith in e) ∙ f (suc i)) c.3)
  where
    here : slice_get d.signals (n + 0) ≡ Some s → is_this s (slice_get d.signals s.number) ≡ true
    here h = subst (λ o. is_this s o ≡ true) (sym (ap (slice_get d.signals) (let e : s.number ≡ n + 0 = omega (arith, c.0) in e) ∙ h)) (signal_itself s)

-- those of named blocks
pub variables_there : (d : Design) (before : List Signal) (scopes n b : ℕ) (ss : List Signal) → d.signals ≡ before ++ ss → length before ≡ n → AreNumberedBelow scopes n b ss → Each (λ (s : Signal). is_signal d s ≡ true) ss
variables_there d before scopes n b ss e l c =
    found_below d scopes n b ss (λ i. ap (λ (k : ℕ). slice_get d.signals (k + i)) (sym l) ∙ ap (λ (xs : List Signal). slice_get xs (length before + i)) e ∙ get_behind before ss i) c

-- signals that are numbered from the first free number on
pub signals_there : (d : Design) (before : List Signal) (scope b : ℕ) (ss : List Signal) → d.signals ≡ before ++ ss → AreCounted scope (length before) b ss → Each (λ (s : Signal). is_signal d s ≡ true) ss
signals_there d before scope b ss e c = found_from d scope (length before) b ss (λ i. ap (λ (xs : List Signal). slice_get xs (length before + i)) e ∙ get_behind before ss i) c

-- ---- counted

-- the counts behind a scope
pub record IsBehind (totals : Totals) (s : Survey) : Type 0 where
  pub scopes : s.totals.scopes ≡ totals.scopes + 1
  pub signals : s.totals.signals ≡ totals.signals + length s.signals
  pub bits : s.totals.bits ≡ totals.bits + sum_by signal_length s.signals
  pub instances : s.totals.instances ≡ totals.instances

pub survey_behind : (source : tree.Source) (t : Task) (totals : Totals) (s : Survey) → IsOfParts source t totals s → IsBehind totals s
survey_behind source t totals s p = of (signals_in t.env t.contents (start_at t totals)) p.signals (ap (λ (x : Totals). x.scopes) p.totals_is) (ap (λ (x : Totals). x.signals) p.totals_is) (ap (λ (x : Totals). x.bits) p.totals_is) (ap (λ (x : Totals). x.instances) p.totals_is)
  where
    of : (ss : List SaidSignal) → s.signals ≡ all_nets ss → s.totals.scopes ≡ totals.scopes + 1 → s.totals.signals ≡ totals.signals + net_count ss
        → s.totals.bits ≡ totals.bits + sum_by (λ (x : SaidSignal). signal_length x.meaning.signal) ss → s.totals.instances ≡ totals.instances → IsBehind totals s
    of ss e scopes signals bits instances = record {
      scopes = scopes;
      signals = signals ∙ ap (λ n. totals.signals + n) (sym (ap length e ∙ all_counted ss));
      bits = bits ∙ ap (λ n. totals.bits + n) (sym (ap (λ (xs : List Signal). sum_by signal_length xs) e ∙ all_bits ss));
      instances = instances;
    }
