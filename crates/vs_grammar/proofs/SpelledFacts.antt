-- The laws of texts and their trees.
use Rattle.std.proofs.Common.{◌≡◌, ℕ, ◌<◌, ◌≤◌, suc, Bool, true, false, List, refl, sym, ◌∙◌, ap, subst, arith, drop, ◌⊎◌, inl, inr}
use Rattle.std.specs.Prelude.{Result, Ok}
use Rattle.std.proofs.lemmas.List.{take-append-drop}
use Rattle.vs_lexer.specs.declared.token.Token.{Token}
use Rattle.vs_lexer.specs.Cuts.{spelling_of}
use Rattle.vs_pre.specs.Preprocessing.{pre}
use Rattle.vs_pre.specs.Reads.{ReadsAs}
use Rattle.vs_grammar.specs.Grammars.{depth, Derives}
use Rattle.vs_grammar.specs.Kinds.{terminals, end_of_text}
use Rattle.vs_grammar.specs.Verilog.{verilog, phrase_of, r, Rule as rule}
use Rattle.vs_grammar.specs.Meaning.{D, text_of}
use Rattle.vs_grammar.specs.Spelled.{SpelledBy, LeftOutAt, depth_limit}
use Rattle.vs_grammar.specs.SpelledLaws.{OneSource, OneSourceOfTokens, SpelledHasNoFault, OneFaultOfTokens, SpelledIsShallow}
use Rattle.vs_grammar.specs.Depths.{source_depth}
use Rattle.vs_grammar.specs.Trees.{Source}
use Rattle.vs_grammar.proofs.ItemDepths.{tree_is_as_deep}
use Rattle.vs_grammar.proofs.Whole.{one, one_fault, no_fault}
use Rattle.vs_grammar.proofs.Decided.{verilog_is_predictive}

same_ok : {A E : Type 0} {a b : A} {x : Result A E} → x ≡ Ok a → x ≡ Ok b → a ≡ b
same_ok p q = cc

-- a text is read as one list of tokens
same_read : (text : List ℕ) (ts us : List Token) → ReadsAs text ts → ReadsAs text us → ts ≡ us
same_read text ts us p q = same_ok (subst (λ (w : List Token). pre text w ≡ Ok ts) (same_ok p.cut q.cut) p.resolved) q.resolved

same_tree : (ts us : List Token) (a b : D (phrase_of rule.Text)) → ts ≡ us → Derives a (terminals ts) → Derives b (terminals us) → a ≡ b
same_tree ts us a b e p q =
    one verilog (r rule.Source) end_of_text verilog_is_predictive (terminals us) a b (subst (λ (z : List Token). Derives a (terminals z)) e p) q

pub one_source_of_tokens : OneSourceOfTokens
one_source_of_tokens text tokens a b p q =
    sym p.stands
    ∙ ap (λ (z : D (phrase_of rule.Text)). text_of (spelling_of text tokens) z) (same_tree tokens tokens p.derivation q.derivation refl p.derived q.derived)
    ∙ q.stands

pub one_source : OneSource
one_source text a b p q =
    one_source_of_tokens text q.tokens a b (subst (λ (ts : List Token). SpelledBy text ts a) (same_read text p.tokens q.tokens p.read q.read) p.spelled) q.spelled

not_out : {b : Bool} → b ≡ true → b ≡ false → ⊥
not_out p q = cc

pub spelled_has_no_fault : SpelledHasNoFault
spelled_has_no_fault text tokens source s k = (
  λ f. not_out f.out (s.kept k),
  λ f. no_fault verilog.rule (phrase_of rule.Text) (terminals tokens) k s.derivation s.derived f.fault,
  λ f. let h : depth_limit < depth s.derivation = f.fault.deep s.derivation (drop (suc k) (terminals tokens)) (s.derived.0 ∙ sym (take-append-drop (suc k) (terminals tokens)), s.derived.1) in let g : depth s.derivation ≤ depth_limit = s.shallow in absurd (omega arith),
)

three_ways : (j k : ℕ) → (j < k) ⊎ ((k < j) ⊎ (j ≡ k))
three_ways j k = grind arith

first_out : (tokens : List Token) (j k : ℕ) → LeftOutAt tokens j → LeftOutAt tokens k → j ≡ k
first_out tokens j k a b = elim (three_ways j k) [ inl h ↦ absurd (not_out a.out (b.first j h)) | inr d ↦ elim d [ inl h ↦ absurd (not_out b.out (a.first k h)) | inr e ↦ e ] ]

pub one_fault_of_tokens : OneFaultOfTokens
one_fault_of_tokens tokens j k =
    (λ a b. one_fault verilog.rule (phrase_of rule.Text) (terminals tokens) j k a.fault b.fault, λ a b. first_out tokens j k a b)

pub spelled_is_shallow : SpelledIsShallow
spelled_is_shallow text tokens source p =
    subst (λ (z : Source). source_depth z ≤ depth_limit) p.stands (subst (λ (n : ℕ). n ≤ depth_limit) (sym (tree_is_as_deep (spelling_of text tokens) p.derivation)) p.shallow)
