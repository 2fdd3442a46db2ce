use Rattle.std.proofs.Common.{◌≡◌, ◌≤◌, ◌<◌, ◌+◌, ◌∙◌, ℕ, true, false, sym, ap, subst, length, take, List, Ok}
use Rattle.vs_lexer.proofs.Longest.{lexeme}
use Rattle.std.proofs.lemmas.List.{take_rest}
use Rattle.vs_lexer.specs.Strings.{ends_string}
use Rattle.vs_lexer.proofs.Classes.{string_here, no_string_here}
use Rattle.vs_lexer.proofs.scan.string.Goals as goal

pub returns-in-Some : goal.returns-in-Some
returns-in-Some c =
    let n = c.in-Some.n in
    let same = take_rest c.args.text.now 1 in
    ap (λ k. Ok (lexeme k (1 + n))) c.string_kind.ensures ∙ sym (string_here c.args.text.now n c.requires.some c.requires.start (subst (λ (z : List ℕ). n ≤ length z) same c.in-Some.ensures.within) (subst (λ (z : List ℕ). ends_string (take n z) ≡ true) same c.in-Some.ensures.found) (subst (λ (z : List ℕ). (m : ℕ) → n < m → m ≤ length z → ends_string (take m z) ≡ false) same c.in-Some.ensures.last))

pub returns-in-None : goal.returns-in-None
returns-in-None c =
    sym (no_string_here c.args.text.now c.requires.some c.requires.start (subst (λ (z : List ℕ). (m : ℕ) → ends_string (take m z) ≡ false) (take_rest c.args.text.now 1) c.in-None.ensures.missing))
