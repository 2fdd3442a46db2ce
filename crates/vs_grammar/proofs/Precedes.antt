-- Any two operators are grouped by the order of precedence.
use Rattle.std.proofs.Common.{◌≡◌, ℕ, zero, suc, Bool, true, false, List, [], ◌∷◌, refl, ◌∙◌, ap, subst}
use Rattle.std.specs.Prelude.{Some, slice_get, if◌then◌else◌, nat_le}
use Rattle.std.specs.List.{list_all}
use Rattle.std.specs.Str.{bytes_eq}
use Rattle.std.proofs.lemmas.Bool.{and_parts}
use Rattle.std.proofs.lemmas.Slice.Eq.{bytes_eq-Decides}
use Rattle.vs_lexer.specs.declared.token.TokenKind.TheVariants as kind
use Rattle.vs_grammar.specs.Grammars.{Terminal, Derives}
use Rattle.vs_grammar.specs.Kinds.{number_of}
use Rattle.vs_grammar.specs.Predictive.{IsPredictive}
use Rattle.vs_grammar.specs.Verilog.{◌⨾◌, verilog, t, r, Rule as rule}
use Rattle.vs_grammar.specs.Trees.{BinaryOp}
use Rattle.vs_grammar.specs.Meaning.{D, expr_of}
use Rattle.vs_grammar.specs.Examples.{written}
use Rattle.vs_grammar.specs.Precedence.{Operator, operators, strength, two_operations, letter, groups, first_of, PrecedenceIs}
use Rattle.vs_grammar.proofs.Decided.{verilog_is_predictive}
use Rattle.vs_grammar.proofs.Whole.{derived, one}
use Rattle.vs_grammar.proofs.Runner.{Run, run_in, run_rule}
use Rattle.vs_grammar.proofs.Runner.Run.{read, stopped, gave_up}

-- expressions before a semicolon
expression_is_predictive : IsPredictive verilog (r rule.Expression) (number_of kind.Semicolon)
expression_is_predictive = record { right = verilog_is_predictive.right; steps = verilog_is_predictive.steps; derives = verilog_is_predictive.derives; whole = refl }

abbrev run : (p q : Operator) → Run verilog (r rule.Expression ⨾ t kind.Semicolon) (two_operations p q)
run p q = run_in verilog 1000 (run_rule verilog 60) (r rule.Expression ⨾ t kind.Semicolon) (two_operations p q)

abbrev outline : {ts : List Terminal} → Run verilog (r rule.Expression ⨾ t kind.Semicolon) ts → List ℕ
outline (read a [] p) = written (expr_of letter (first_of a))
outline _ = []

abbrev passes : Operator → Operator → Bool
passes p q = bytes_eq (outline (run p q)) (groups p.op q.op)

all_pass : list_all (λ p. list_all (λ q. passes p q) operators) operators ≡ true
all_pass = refl

one_of : {A : Type 0} (f : A → Bool) (xs : List A) (i : ℕ) (x : A) → slice_get xs i ≡ Some x → list_all f xs ≡ true → f x ≡ true
one_of f [] i x e h = cc
one_of f (y ∷ ys) zero x e h = subst (λ z. f z ≡ true) (inner e) (and_parts (f y) (list_all f ys) h).0
  where
    inner : {A : Type 0} {x y : A} → Some x ≡ Some y → x ≡ y
    inner e = cc
one_of f (y ∷ ys) (suc i) x e h = one_of f ys i x e (and_parts (f y) (list_all f ys) h).1

same_list : (xs ys : List ℕ) → bytes_eq xs ys ≡ true → xs ≡ ys
same_list xs ys e = (bytes_eq-Decides xs ys).0 e

some_byte : (b : Bool) (x y : ℕ) (xs ys : List ℕ) → [] ≡ (if b then x ∷ xs else y ∷ ys) → ⊥
some_byte true x y xs ys e = cc
some_byte false x y xs ys e = cc

not_empty : (p q : BinaryOp) → [] ≡ groups p q → ⊥
not_empty p q e = some_byte (nat_le (strength q) (strength p)) _ _ _ _ e

by_run : (p q : BinaryOp) {ts : List Terminal} (o : Run verilog (r rule.Expression ⨾ t kind.Semicolon) ts) → outline o ≡ groups p q → (d : D (r rule.Expression ⨾ t kind.Semicolon)) → Derives d ts → written (expr_of letter (first_of d)) ≡ groups p q
by_run p q {ts} (read a [] w) e d h =
    ap (λ (z : D (r rule.Expression ⨾ t kind.Semicolon)). written (expr_of letter (first_of z))) (
    one verilog (r rule.Expression) (number_of kind.Semicolon) expression_is_predictive ts d a h (derived verilog (r rule.Expression) (number_of kind.Semicolon) expression_is_predictive ts a w)) ∙ e
by_run p q (read a (u ∷ us) w) e d h = absurd (not_empty p q e)
by_run p q (stopped us w) e d h = absurd (not_empty p q e)
by_run p q gave_up e d h = absurd (not_empty p q e)

pub precedence_is : PrecedenceIs
precedence_is i j p q e f d h =
    let a = one_of (λ x. list_all (λ y. passes x y) operators) operators i p e all_pass in
    let b = one_of (λ y. passes p y) operators j q f a in
    by_run p.op q.op (run p q) (same_list (outline (run p q)) (groups p.op q.op) b) d h
