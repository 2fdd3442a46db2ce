-- The longest sign.
use Rattle.std.proofs.Common.{◌≡◌, ℕ, zero, suc, ◌-◌, ◌<◌, ◌≤◌, Bool, true, false, cond, List, [], ◌∷◌, refl, sym, ◌∙◌, ap, length, take, get_or, arith, min, length-take-le}
use Rattle.std.specs.Prelude.{Some, None, Ok, Err, nat_le}
use Rattle.std.specs.List.{list_all}
use Rattle.std.specs.Str.{bytes_eq}
use Rattle.std.proofs.lemmas.Bool.{false_from_ne_true, and_parts, leb-true}
use Rattle.std.proofs.lemmas.Slice.Eq.{bytes_eq-Decides}
use Rattle.vs_lexer.specs.declared.token.TokenKind.{TokenKind}
use Rattle.vs_lexer.specs.declared.scan.Fault.TheVariants.{NoToken}
use Rattle.vs_lexer.specs.declared.scan.Start.TheVariants as start
use Rattle.vs_lexer.specs.Spellings.{Spelling, signs, find_spelling}
use Rattle.vs_lexer.specs.Tokens.{start_of, kind_from, token_kind, longest_within, here, sign_kind}
use Rattle.vs_lexer.proofs.Longest.{lexeme, within_down, within_some, within_less}
use Rattle.vs_lexer.proofs.Classes.{here_if_found, here_if_missing}

-- no spelling of a table is longer than three bytes
abbrev are_short : List Spelling → Bool
are_short table = list_all (λ s. nat_le (length s.0) 3) table

signs_short : are_short signs ≡ true
unfolding signs
signs_short = refl

too_long : (table : List Spelling) (text : List ℕ) → are_short table ≡ true → 3 < length text → find_spelling table text ≡ None
too_long [] text e h = refl
too_long (s ∷ ss) text e h =
    let p = and_parts (nat_le (length s.0) 3) (are_short ss) e in
    let le : length s.0 ≤ 3 = leb-true (length s.0) 3 p.0 in
    let ne : bytes_eq s.0 text ≡ false = false_from_ne_true (bytes_eq s.0 text) (λ t. let q = ap length ((bytes_eq-Decides s.0 text).0 t) in omega arith) in
    ap (λ b. cond b (Some s.1) (find_spelling ss text)) ne ∙ too_long ss text p.1 h

sign_too_long : (text : List ℕ) → 3 < length text → sign_kind text ≡ None
unfolding sign_kind
sign_too_long text h = too_long signs text signs_short h

pub sign_is : (text : List ℕ) (n : ℕ) → 0 < n → 0 < length text → start_of (get_or text 0 0) ≡ start.Sign → token_kind (take n text) ≡ sign_kind (take n text)
sign_is text zero o h e = absurd (omega arith)
sign_is [] (suc n) o h e = absurd (omega arith)
sign_is (b ∷ bs) (suc n) o h e = ap (λ s. kind_from s b (take n bs)) e

-- prefixes longer than three bytes are passed over
pub within_three : (text : List ℕ) (n : ℕ) → 0 < length text → start_of (get_or text 0 0) ≡ start.Sign → n ≡ min (length text) 3 → longest_within text n ≡ longest_within text (length text)
within_three text n h e q = sym (within_down text n (length text) (omega arith) (λ m a b. sign_is text m (omega arith) h e ∙ sign_too_long (take m text) (let l : length (take m text) ≡ m = length-take-le m text b in omega arith)))

pub sign_shorter : (text : List ℕ) (n : ℕ) → 0 < n → 0 < length text → start_of (get_or text 0 0) ≡ start.Sign → sign_kind (take n text) ≡ None → longest_within text n ≡ longest_within text (length text) → longest_within text (n - 1) ≡ longest_within text (length text)
sign_shorter text zero o h e k q = absurd (omega arith)
sign_shorter text (suc n) o h e k q = let z : suc n - 1 ≡ n = omega arith in ap (λ m. longest_within text m) z ∙ sym (within_less text n (sign_is text (suc n) o h e ∙ k)) ∙ q

pub sign_here : (text : List ℕ) (n : ℕ) (k : TokenKind) → 0 < n → 0 < length text → start_of (get_or text 0 0) ≡ start.Sign → sign_kind (take n text) ≡ Some k → longest_within text n ≡ longest_within text (length text) → here text ≡ Ok (lexeme k n)
sign_here text zero k o h e s q = absurd (omega arith)
sign_here text (suc n) k o h e s q = here_if_found text (lexeme k (suc n)) start.Sign h e refl (sym q ∙ within_some text n k (sign_is text (suc n) o h e ∙ s))

pub no_sign_here : (text : List ℕ) (n : ℕ) → n ≡ 0 → 0 < length text → start_of (get_or text 0 0) ≡ start.Sign → longest_within text n ≡ longest_within text (length text) → here text ≡ Err NoToken
no_sign_here text n z h e q = here_if_missing text start.Sign h e refl (sym q ∙ ap (λ m. longest_within text m) z)
