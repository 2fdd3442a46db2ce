-- The longest token, by the class that the first byte decides.
use Rattle.std.proofs.Common.{◌≡◌, ℕ, zero, suc, ◌+◌, ◌<◌, ◌≤◌, Bool, true, false, ◌&&◌, List, [], ◌∷◌, refl, ◌∙◌, ap, length, take, drop, get_or, arith, one-add}
use Rattle.std.specs.Prelude.{Option, Some, None, Result, Ok, Err}
use Rattle.std.specs.List.{prefix_len, list_all}
use Rattle.std.proofs.lemmas.Bool.{and_left}
use Rattle.std.proofs.lemmas.List.Sums.{prefix_len-le-length}
use Rattle.vs_lexer.specs.declared.bytes.ByteClass.TheVariants as class
use Rattle.vs_lexer.specs.declared.token.TokenKind.TheVariants as kind
use Rattle.vs_lexer.specs.declared.scan.Lexeme.{Lexeme}
use Rattle.vs_lexer.specs.declared.scan.Fault.{Fault}
use Rattle.vs_lexer.specs.declared.scan.Fault.TheVariants.{NoToken}
use Rattle.vs_lexer.specs.declared.scan.Start.{Start}
use Rattle.vs_lexer.specs.declared.scan.Start.TheVariants as start
use Rattle.vs_lexer.specs.Classes.{is_in, is_letter}
use Rattle.vs_lexer.specs.Tokens.{start_of, kind_from, longest, here, here_from, other_here, word_kind, system_kind, some_of, is_name, string_kind}
use Rattle.vs_lexer.specs.Strings.{ends_string}
use Rattle.vs_lexer.proofs.Longest.{lexeme, tested, untested}
use Rattle.vs_lexer.proofs.Runs.{front_passes, front_fails, some_passes, some_fails, none_passes}

taken : Option Lexeme → Result Lexeme Fault
taken o = elim o [ None ↦ Err NoToken | Some l ↦ Ok l ]

-- a token or none, under a first byte that begins no number
found : (b : ℕ) (bs : List ℕ) (s : Start) (l : Lexeme) → start_of b ≡ s → here_from s (b ∷ bs) ≡ taken (longest (b ∷ bs)) → longest (b ∷ bs) ≡ Some l → here (b ∷ bs) ≡ Ok l
unfolding taken
found b bs s l e f g = ap (λ s. here_from s (b ∷ bs)) e ∙ f ∙ ap taken g

missing : (b : ℕ) (bs : List ℕ) (s : Start) → start_of b ≡ s → here_from s (b ∷ bs) ≡ taken (longest (b ∷ bs)) → longest (b ∷ bs) ≡ None → here (b ∷ bs) ≡ Err NoToken
unfolding taken
missing b bs s e f g = ap (λ s. here_from s (b ∷ bs)) e ∙ f ∙ ap taken g

-- an identifier or a word
pub word_here : (text : List ℕ) (n : ℕ) → 0 < length text → start_of (get_or text 0 0) ≡ start.Word → n ≡ 1 + prefix_len (is_in class.Name) (drop 1 text) → here text ≡ Ok (lexeme (word_kind (take n text)) n)
unfolding taken
word_here [] n h e q = absurd (omega arith)
word_here (b ∷ bs) n h e q =
    let p = is_in class.Name in
    let m = prefix_len p bs in
    let z : n ≡ suc m = q ∙ one-add m in
    let w = tested b bs (λ m. list_all p (take m bs)) (λ m. word_kind (b ∷ take m bs)) m (λ m. ap (λ s. kind_from s b (take m bs)) e) (prefix_len-le-length p bs) (front_passes p bs m (omega arith)) (λ k a c. front_fails p bs k a c) in
    rw z (found b bs start.Word (lexeme (word_kind (b ∷ take m bs)) (suc m)) e refl w)

-- a system name
pub system_here : (text : List ℕ) (n : ℕ) → 0 < length text → start_of (get_or text 0 0) ≡ start.System → n ≡ prefix_len (is_in class.Name) (drop 1 text) → 0 < n → here text ≡ Ok (lexeme (system_kind (take (1 + n) text)) (1 + n))
unfolding taken
system_here [] n h e q o = absurd (omega arith)
system_here (b ∷ bs) n h e q o =
    let p = is_in class.Name in
    let le : n ≤ length bs = omega (arith, prefix_len-le-length p bs) in
    let w = tested b bs (λ m. some_of p (take m bs)) (λ m. system_kind (b ∷ take m bs)) n (λ m. ap (λ s. kind_from s b (take m bs)) e) le (some_passes p bs n o le (omega arith)) (λ k a c. some_fails p bs k (omega arith) c) in
    rw one-add (found b bs start.System (lexeme (system_kind (b ∷ take n bs)) (suc n)) e refl w)

pub no_system_here : (text : List ℕ) → 0 < length text → start_of (get_or text 0 0) ≡ start.System → prefix_len (is_in class.Name) (drop 1 text) ≡ 0 → here text ≡ Err NoToken
unfolding taken
no_system_here [] h e q = absurd (omega arith)
no_system_here (b ∷ bs) h e q =
    let p = is_in class.Name in
    missing b bs start.System e refl (untested b bs (λ m. some_of p (take m bs)) (λ m. system_kind (b ∷ take m bs)) (λ m. ap (λ s. kind_from s b (take m bs)) e) (λ m k. none_passes p bs m q k))

-- an escaped identifier
pub escaped_here : (text : List ℕ) (n : ℕ) → 0 < length text → start_of (get_or text 0 0) ≡ start.Escaped → n ≡ prefix_len (is_in class.Visible) (drop 1 text) → 0 < n → here text ≡ Ok (lexeme kind.EscapedIdentifier (1 + n))
unfolding taken
escaped_here [] n h e q o = absurd (omega arith)
escaped_here (b ∷ bs) n h e q o =
    let p = is_in class.Visible in
    let le : n ≤ length bs = omega (arith, prefix_len-le-length p bs) in
    let w = tested b bs (λ m. some_of p (take m bs)) (λ m. kind.EscapedIdentifier) n (λ m. ap (λ s. kind_from s b (take m bs)) e) le (some_passes p bs n o le (omega arith)) (λ k a c. some_fails p bs k (omega arith) c) in
    rw one-add (found b bs start.Escaped (lexeme kind.EscapedIdentifier (suc n)) e refl w)

pub no_escaped_here : (text : List ℕ) → 0 < length text → start_of (get_or text 0 0) ≡ start.Escaped → prefix_len (is_in class.Visible) (drop 1 text) ≡ 0 → here text ≡ Err NoToken
unfolding taken
no_escaped_here [] h e q = absurd (omega arith)
no_escaped_here (b ∷ bs) h e q =
    let p = is_in class.Visible in
    missing b bs start.Escaped e refl (untested b bs (λ m. some_of p (take m bs)) (λ m. kind.EscapedIdentifier) (λ m. ap (λ s. kind_from s b (take m bs)) e) (λ m k. none_passes p bs m q k))

-- a directive
name_fails : (c : ℕ) (cs : List ℕ) (m : ℕ) → is_letter c ≡ false → is_name (take m (c ∷ cs)) ≡ false
name_fails c cs zero e = refl
name_fails c cs (suc m) e = and_left (is_letter c) (list_all (is_in class.Name) (take m cs)) e

true_and : (a b : Bool) → a ≡ true → (a && b) ≡ b
true_and true b e = refl
true_and false b e = cc

pub directive_here : (text : List ℕ) (n : ℕ) → 1 < length text → start_of (get_or text 0 0) ≡ start.Directive → is_letter (get_or text 1 0) ≡ true → n ≡ 2 + prefix_len (is_in class.Name) (drop 2 text) → here text ≡ Ok (lexeme kind.Directive n)
unfolding taken
directive_here [] n h e l q = absurd (omega arith)
directive_here (b ∷ []) n h e l q = absurd (omega arith)
directive_here (b ∷ c ∷ cs) n h e l q =
    let p = is_in class.Name in
    let m = prefix_len p cs in
    let z : n ≡ suc (suc m) = omega arith in
    let w = tested b (c ∷ cs) (λ m. is_name (take m (c ∷ cs))) (λ m. kind.Directive) (suc m) (λ m. ap (λ s. kind_from s b (take m (c ∷ cs))) e) (let k = prefix_len-le-length p cs in omega arith) (true_and (is_letter c) (list_all p (take m cs)) l ∙ front_passes p cs m (omega arith)) later in
    rw z (found b (c ∷ cs) start.Directive (lexeme kind.Directive (suc (suc m))) e refl w)
  where
    later : (k : ℕ) → suc (prefix_len (is_in class.Name) cs) < k → k ≤ suc (length cs) → is_name (take k (c ∷ cs)) ≡ false
    later zero a d = absurd (omega arith)
    later (suc k) a d = true_and (is_letter c) (list_all (is_in class.Name) (take k cs)) l ∙ front_fails (is_in class.Name) cs k (omega arith) (omega arith)

pub no_directive_here : (text : List ℕ) → 0 < length text → start_of (get_or text 0 0) ≡ start.Directive → (1 < length text → is_letter (get_or text 1 0) ≡ false) → here text ≡ Err NoToken
unfolding taken
no_directive_here [] h e l = absurd (omega arith)
no_directive_here (b ∷ []) h e l = missing b [] start.Directive e refl (untested b [] (λ m. is_name (take m [])) (λ m. kind.Directive) (λ m. ap (λ s. kind_from s b (take m [])) e) empty)
  where
    empty : (m : ℕ) → m ≤ 0 → is_name (take m []) ≡ false
    empty zero a = refl
    empty (suc m) a = refl
no_directive_here (b ∷ c ∷ cs) h e l =
    missing b (c ∷ cs) start.Directive e refl (untested b (c ∷ cs) (λ m. is_name (take m (c ∷ cs))) (λ m. kind.Directive) (λ m. ap (λ s. kind_from s b (take m (c ∷ cs))) e) (λ m k. name_fails c cs m (l (omega arith))))

-- a string: n is the place behind its last quote, after the first one
pub string_here : (text : List ℕ) (n : ℕ) → 0 < length text → start_of (get_or text 0 0) ≡ start.Text → n ≤ length (drop 1 text) → ends_string (take n (drop 1 text)) ≡ true → ((m : ℕ) → n < m → m ≤ length (drop 1 text) → ends_string (take m (drop 1 text)) ≡ false) → here text ≡ Ok (lexeme (string_kind (take (1 + n) text)) (1 + n))
unfolding taken
string_here [] n h e q t f = absurd (omega arith)
string_here (b ∷ bs) n h e q t f =
    rw one-add (found b bs start.Text (lexeme (string_kind (b ∷ take n bs)) (suc n)) e refl (tested b bs (λ m. ends_string (take m bs)) (λ m. string_kind (b ∷ take m bs)) n (λ m. ap (λ s. kind_from s b (take m bs)) e) q t (λ k a c. f k a c)))

pub no_string_here : (text : List ℕ) → 0 < length text → start_of (get_or text 0 0) ≡ start.Text → ((m : ℕ) → ends_string (take m (drop 1 text)) ≡ false) → here text ≡ Err NoToken
unfolding taken
no_string_here [] h e f = absurd (omega arith)
no_string_here (b ∷ bs) h e f =
    missing b bs start.Text e refl (untested b bs (λ m. ends_string (take m bs)) (λ m. string_kind (b ∷ take m bs)) (λ m. ap (λ s. kind_from s b (take m bs)) e) (λ m k. f m))

-- the same over a text whose first byte is not taken apart
pub here_if_found : (text : List ℕ) (l : Lexeme) (s : Start) → 0 < length text → start_of (get_or text 0 0) ≡ s → here_from s text ≡ other_here text → longest text ≡ Some l → here text ≡ Ok l
unfolding taken
here_if_found [] l s h e f g = absurd (omega arith)
here_if_found (b ∷ bs) l s h e f g = found b bs s l e f g

pub here_if_missing : (text : List ℕ) (s : Start) → 0 < length text → start_of (get_or text 0 0) ≡ s → here_from s text ≡ other_here text → longest text ≡ None → here text ≡ Err NoToken
unfolding taken
here_if_missing [] s h e f g = absurd (omega arith)
here_if_missing (b ∷ bs) s h e f g = missing b bs s e f g
