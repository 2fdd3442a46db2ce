-- What pieces of declarations and event controls stand for.
use Rattle.std.proofs.Common.{◌≡◌, ℕ, Bool, true, false, List, [], ◌∷◌, ◌++◌, map, refl, sym, ◌∙◌, ap, ◌<◌, length, subst, ◌+◌, inl, inr}
use Rattle.std.specs.Prelude.{Option, Some, None}
use Rattle.vs_lexer.specs.declared.token.Token.{Token}
use Rattle.vs_lexer.specs.declared.token.TokenKind.TheVariants as kind
use Rattle.vs_grammar.specs.Grammars.{opt}
use Rattle.vs_grammar.specs.Grammars.Tree.{both, former, latter, named}
use Rattle.vs_grammar.specs.Verilog.{t, r}
use Rattle.vs_grammar.specs.Verilog.{Rule as rule}
use Rattle.vs_grammar.specs.Trees as tree
use Rattle.vs_grammar.specs.Trees.{Expr}
use Rattle.vs_grammar.specs.Meaning as meaning
use Rattle.vs_grammar.specs.Meaning.{D, is_there, each_onto, behind_sign}
use Rattle.vs_ast.specs.declared.items.Event.{Event}
use Rattle.vs_ast.specs.declared.items.SignalKind.{SignalKind}
use Rattle.vs_ast.specs.Views as view
use Rattle.vs_parser.specs.Parts as part
use Rattle.vs_statements.specs.Reading.{kind_at, IsBeside, Picked, Chosen}
use Rattle.vs_statements.proofs.Places.{known}
use Rattle.vs_statements.proofs.Tables.{chosen_tok, chosen_former, chosen_latter}

-- ---- connections

pub is_ordered : (b : ℕ → List ℕ) (list : List (Option Expr)) → meaning.by_order b list ≡ part.by_order list
is_ordered b [] = refl
is_ordered b (None ∷ []) = refl
is_ordered b (None ∷ x ∷ rest) = refl
is_ordered b (Some e ∷ rest) = refl

pub ordered_nothing : (list : List (Option Expr)) → part.is_nothing list ≡ true → tree.Unconnected ≡ part.by_order list
ordered_nothing [] e = cc
ordered_nothing (None ∷ []) e = refl
ordered_nothing (None ∷ x ∷ rest) e = cc
ordered_nothing (Some x ∷ rest) e = cc

pub ordered_some : (list : List (Option Expr)) → part.is_nothing list ≡ false → tree.ByOrder list ≡ part.by_order list
ordered_some [] e = refl
ordered_some (None ∷ []) e = cc
ordered_some (None ∷ x ∷ rest) e = refl
ordered_some (Some x ∷ rest) e = refl

-- ---- event controls

pub control_made : (b : ℕ → List ℕ) (a : D (t kind.At)) (c : D part.control) → meaning.control_of b (named (both a c)) ≡ part.control_of b c
control_made b a (former n) = refl
control_made b a (latter (former s)) = refl
control_made b a (latter (latter (both o (both (former s) z)))) = refl
control_made b a (latter (latter (both o (both (latter (both e l)) z)))) = refl

pub events_made : (b : ℕ → List ℕ) (e : D (r rule.Event)) (l : D part.events_behind) (first : Event) (begun list : List Event) → meaning.event_of b e ≡ view.event first → begun ≡ first ∷ [] → map view.event begun ++ each_onto (behind_sign (meaning.event_of b)) l [] ≡ map view.event list → part.events_of b (both e l) ≡ map view.event list
events_made b e l first begun list p q m = ap (λ z. z ∷ each_onto (behind_sign (meaning.event_of b)) l []) p ∙ ap (λ z. map view.event z ++ each_onto (behind_sign (meaning.event_of b)) l []) (sym q) ∙ m

abbrev unit : Unit {0} → Unit {0}
unit b = b

event_beside : (ts : List Token) (i : ℕ) (p : Unit {0}) (j : ℕ) → j ≡ i + 1 → i < length ts → IsBeside (kind_at ts i) p ((kind.KeywordOr, tt) ∷ (kind.Comma, tt) ∷ []) → Chosen ts (part.event_sign) part.nothing_of i (unit p) j
event_beside ts i p j n h b = elim b [ inl q ↦ subst (λ z. Chosen ts (part.event_sign) part.nothing_of i (unit z) j) (sym q.1) (let e = q.0 in (chosen_former part.nothing_of (λ a. refl) (chosen_tok 37 e h n))) | inr b ↦ elim b [ inl q ↦ subst (λ z. Chosen ts (part.event_sign) part.nothing_of i (unit z) j) (sym q.1) (let e = q.0 in (chosen_latter part.nothing_of (λ a. refl) (known ts i 46 (37 ∷ []) false e refl) (chosen_tok 46 e h n))) | inr b ↦ absurd b ] ]

pub event_picked : {ts : List Token} {i : ℕ} {p : Unit {0}} {j : ℕ} → Picked ts ((kind.KeywordOr, tt) ∷ (kind.Comma, tt) ∷ []) i p j → Chosen ts (part.event_sign) part.nothing_of i (unit p) j
event_picked {ts} {i} {p} {j} w = event_beside ts i p j w.next w.inside w.beside
