-- What each answer leaves out, by the laws of texts and their trees.
use Rattle.std.proofs.Common.{◌≡◌, ℕ, suc, ◌<◌, ◌≤◌, Bool, true, false, List, ◌++◌, take, drop, refl, sym, ◌∙◌, ap, subst, arith, append_assoc, ◌⊎◌, inl, inr}
use Rattle.std.specs.Prelude.{Result, Ok, Err, IfOk, IfErr, IsErrAnd, MatchResult}
use Rattle.std.proofs.lemmas.List.{take-append-drop, take-take}
use Rattle.vs_lexer.specs.declared.token.Token.{Token}
use Rattle.vs_grammar.specs.Grammars.{Terminal, Phrase, Begins, SyntaxAt, TooDeepAt}
use Rattle.vs_grammar.specs.Kinds.{terminals}
use Rattle.vs_grammar.specs.Verilog.{verilog, phrase_of, Rule as rule}
use Rattle.vs_grammar.specs.Trees as tree
use Rattle.vs_grammar.specs.Spelled.{NoneLeftOut, SpelledBy, LeftOutAt, HasSyntaxFault, IsTooDeep}
use Rattle.vs_grammar.specs.SpelledLaws.{OneSourceOfTokens, SpelledHasNoFault, OneFaultOfTokens}
use Rattle.vs_ast.specs.declared.modules.Source.{Source}
use Rattle.vs_ast.specs.Views as view
use Rattle.vs_statements.specs.declared.error.ParseError.{ParseError}
use Rattle.vs_statements.specs.declared.error.ParseError.TheVariants.{LeftOut, Syntax, TooDeep, Memory}
use Rattle.vs_parser.specs.Faults.{Fault, IsSyntaxAnswer, IsDepthAnswer}

out_and_kept : {b : Bool} → b ≡ true → b ≡ false → ⊥
out_and_kept p q = cc

-- nothing but want of memory is told of a text that spells a tree
only_memory : SpelledHasNoFault → (text : List ℕ) (tokens : List Token) (source : tree.Source) → SpelledBy text tokens source → (e : ParseError) → Fault tokens e → e ≡ Memory
only_memory none text tokens source s (LeftOut k) f = absurd ((none text tokens source s k).0 f)
only_memory none text tokens source s (Syntax k) f = absurd ((none text tokens source s k).1 f)
only_memory none text tokens source s (TooDeep k) f = absurd ((none text tokens source s k).2 f)
only_memory none text tokens source s Memory f = refl

-- what begins a derived list, each part of it does too
begins_less : (x : Phrase) (ts : List Terminal) (j k : ℕ) → j ≤ k → Begins verilog.rule x (take k ts) → Begins verilog.rule x (take j ts)
begins_less x ts j k h b =
    let same : take k ts ≡ take j ts ++ drop j (take k ts) = sym (take-append-drop j (take k ts)) ∙ ap (λ (z : List Terminal). z ++ drop j (take k ts)) (take-take j k ts h) in
    record {
      tree = b.tree;
      other = drop j (take k ts) ++ b.other;
      derived = (b.derived.0 ∙ ap (λ (z : List Terminal). z ++ b.other) same ∙ append_assoc (take j ts) (drop j (take k ts)) b.other, b.derived.1);
    }

below_or_not : (j k : ℕ) → (j < k) ⊎ (k ≤ j)
below_or_not j k = grind arith

-- with a token that is too deep a derived list goes on, so it stands before the first with which none does
deep_before : (ts : List Terminal) (j k : ℕ) → TooDeepAt verilog.rule (phrase_of rule.Text) 200 ts j → SyntaxAt verilog.rule (phrase_of rule.Text) ts k → j < k
deep_before ts j k d s = elim (below_or_not j k) [ inl h ↦ h | inr h ↦ absurd (s.none (begins_less (phrase_of rule.Text) ts (suc k) (suc j) (omega arith) d.can)) ]

syntax_answer : OneFaultOfTokens → (tokens : List Token) (k : ℕ) → HasSyntaxFault tokens k → (e : ParseError) → Fault tokens e → IsSyntaxAnswer k e
syntax_answer one tokens k s (LeftOut j) f = out_and_kept f.out (s.kept j)
syntax_answer one tokens k s (Syntax j) f = (one tokens j k).0 f s
syntax_answer one tokens k s (TooDeep j) f = deep_before (terminals tokens) j k f.fault s.fault
syntax_answer one tokens k s Memory f = tt

depth_answer : (tokens : List Token) (k : ℕ) → IsTooDeep tokens k → (e : ParseError) → Fault tokens e → IsDepthAnswer e
depth_answer tokens k s (LeftOut j) f = out_and_kept f.out (s.kept j)
depth_answer tokens k s (Syntax j) f = tt
depth_answer tokens k s (TooDeep j) f = tt
depth_answer tokens k s Memory f = tt

-- ---- the clauses of an answer, by what is found and by its fault

pub complete_of : OneSourceOfTokens → SpelledHasNoFault → (text : List ℕ) (tokens : List Token) (r : Result Source ParseError) → IfOk r (λ s. SpelledBy text tokens (view.source s)) → IfErr r (λ e. Fault tokens e) → (source : tree.Source) → SpelledBy text tokens source → MatchResult r (λ s. view.source s ≡ source) (λ e. e ≡ Memory)
complete_of one none text tokens (Ok s) found fault source h = one text tokens (view.source s) source found h
complete_of one none text tokens (Err e) found fault source h = only_memory none text tokens source h e fault

pub syntax_of : SpelledHasNoFault → OneFaultOfTokens → (text : List ℕ) (tokens : List Token) (r : Result Source ParseError) → IfOk r (λ s. SpelledBy text tokens (view.source s)) → IfErr r (λ e. Fault tokens e) → (k : ℕ) → HasSyntaxFault tokens k → IsErrAnd r (λ e. IsSyntaxAnswer k e)
syntax_of none one text tokens (Ok s) found fault k h = (none text tokens (view.source s) found k).1 h
syntax_of none one text tokens (Err e) found fault k h = syntax_answer one tokens k h e fault

pub deep_of : SpelledHasNoFault → (text : List ℕ) (tokens : List Token) (r : Result Source ParseError) → IfOk r (λ s. SpelledBy text tokens (view.source s)) → IfErr r (λ e. Fault tokens e) → (k : ℕ) → IsTooDeep tokens k → IsErrAnd r (λ e. IsDepthAnswer e)
deep_of none text tokens (Ok s) found fault k h = (none text tokens (view.source s) found k).2 h
deep_of none text tokens (Err e) found fault k h = depth_answer tokens k h e fault

-- ---- tokens that are left out

pub none_of : {A : Type 0} {tokens : List Token} {k : ℕ} → NoneLeftOut tokens → LeftOutAt tokens k → A
none_of {k = k} kept f = absurd (out_and_kept f.out (kept k))

pub first_of : OneFaultOfTokens → (tokens : List Token) (j k : ℕ) → LeftOutAt tokens j → LeftOutAt tokens k → LeftOut j ≡ LeftOut k
first_of one tokens j k a b = ap (λ (n : ℕ). LeftOut n) ((one tokens j k).1 a b)
