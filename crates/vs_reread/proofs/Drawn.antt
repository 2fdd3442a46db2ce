-- What is drawn of a text is the only design that it has.
use Rattle.std.proofs.Common.{◌≡◌, List, ℕ, Option, Some, None, Result, Ok, Err, refl, sym, ap, ◌∙◌, subst}
use Rattle.std.specs.Prelude.{MatchOption}
use Rattle.vs_lexer.specs.declared.token.Token.{Token}
use Rattle.vs_pre.specs.Reads.{ReadsAs}
use Rattle.vs_pre.specs.Preprocessing.{pre}

pub none_of : {A : Type 0} (N : Type 0) (S : A → Type 0) (o : Option A) → o ≡ None → MatchOption o N S → N
none_of N S o e h = subst (λ x. MatchOption x N S) e h

pub some_of : {A : Type 0} (N : Type 0) (S : A → Type 0) (o : Option A) (v : A) → o ≡ Some v → MatchOption o N S → S v
some_of N S o v e h = subst (λ x. MatchOption x N S) e h

abbrev value_or : {V E : Type 0} → V → Result V E → V
value_or d (Ok v) = v
value_or d (Err e) = d

ok_same : {V E : Type 0} (x y : V) (r s : Result V E) → r ≡ Ok x → s ≡ Ok y → r ≡ s → x ≡ y
ok_same x y r s a b e = ap (value_or x) (sym a ∙ e ∙ b)

-- a text is read as one list of tokens
pub same_tokens : (text : List ℕ) (one other : List Token) → ReadsAs text one → ReadsAs text other → one ≡ other
same_tokens text one other a b =
    let written : a.written ≡ b.written = ok_same a.written b.written _ _ a.cut b.cut refl in
    ok_same one other _ _ a.resolved b.resolved (ap (λ (ts : List Token). pre text ts) written)
