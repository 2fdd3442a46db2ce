-- The tokens of a text are what they seem: an identifier has the bytes of one, and what is read as a number has 1 to 64 bits.
use Rattle.std.proofs.Common.{◌≡◌, ℕ, zero, suc, ◌<◌, ◌≤◌, ◌+◌, ◌-◌, ◌/◌, Bool, true, false, not, ◌&&◌, ◌||◌, List, [], ◌∷◌, ◌++◌, refl, sym, ◌∙◌, ap, subst, arith, length, take, drop, ◌⊎◌, inl, inr}
use Rattle.std.specs.Prelude.{Option, Some, None, Result, Ok, MatchOption, IfSome, slice_get, slice_index, replicate, if◌then◌else◌, ◌==◌}
use Rattle.std.proofs.lemmas.List.{length-take-le, length-append, length-replicate}
use Rattle.std.proofs.lemmas.Bool.{and_parts}
use Rattle.std.proofs.lemmas.Option.{get_or_from_slice_get, slice_get_within}
use Rattle.std.proofs.lemmas.Bool.Decides.{nat_tests}
use Rattle.vs_four.specs.declared.Bit4.{Bit4}
use Rattle.vs_lexer.specs.Literals.{head_of, lacks_digits, literal_bits, literal_size, has_size, is_in_range, is_good_size, decimal_value, number_bits, fitted, fill_bit, digits_bits, plain_size, plain_value}
use Rattle.vs_lexer.specs.Strings.{is_quoted, between_quotes, character_here, with_character, characters_within, character_limit, characters_of, characters_size, string_size, string_value}
use Rattle.vs_lexer.specs.Classes.{is_letter, is_digit}
use Rattle.vs_lexer.specs.Tokens.{token_kind, longest, here, number_here, other_here, checked, begins_number, start_of}
use Rattle.vs_lexer.specs.declared.token.Token.{Token}
use Rattle.vs_lexer.specs.declared.token.Span.{Span}
use Rattle.vs_lexer.specs.declared.token.TokenKind.{TokenKind}
use Rattle.vs_lexer.specs.declared.token.TokenKind.TheVariants as kind
use Rattle.vs_lexer.specs.Cuts.{spelling_of, size_bytes, own_bytes}
use Rattle.vs_lexer.specs.Laws.{LongestIsTaken, IsSizeOf, StandsIn, AreTokens}
use Rattle.vs_grammar.specs.Grammars.{Terminal}
use Rattle.vs_grammar.specs.Kinds.{number_of, terminals, terminals_from}
use Rattle.vs_grammar.specs.Meaning as meaning
use Rattle.vs_grammar.specs.Shapes.{IsLiteral, Each}
use Rattle.vs_grammar.proofs.ShapeFacts.{IsWell}

-- ---- numbers

length_number_bits : (w n : ℕ) → length (number_bits w n) ≡ w
unfolding number_bits
length_number_bits zero n = refl
length_number_bits (suc w) n = let h = length_number_bits w (n / 2) in omega arith

length_fitted : (size : ℕ) (fill : Bit4) (bits : List Bit4) → length (fitted size fill bits) ≡ size
length_fitted size fill bits =
    let a = length-append bits (replicate size fill) in
    let b = length-replicate size fill in
    length-take-le size (bits ++ replicate size fill) (omega arith)

pub record HasLength (bits : List Bit4) (sized : Bool) : Type 0 where
  pub some : 1 ≤ length bits
  pub most : length bits ≤ 64
  pub unsized : sized ≡ false → length bits ≡ 32

good_size : (n : ℕ) → is_good_size n ≡ true → (1 ≤ n) × (n ≤ 64)
good_size n e = grind (arith, nat_tests)

sized_length : (zero_size : Bool) (n : ℕ) (bits : List Bit4) → (zero_size || is_good_size n) ≡ true → length bits ≡ (if zero_size then 32 else n) → HasLength bits (not zero_size)
sized_length true n bits e h = record { some = omega arith; most = omega arith; unsized = λ u. h }
sized_length false n bits e h = let g = good_size n e in record { some = omega arith; most = omega arith; unsized = λ u. cc }

-- ---- strings

no_more : (n c : ℕ) (o : Option (List ℕ)) (cs : List ℕ) → ((ds : List ℕ) → o ≡ Some ds → length ds ≤ n) → with_character c o ≡ Some cs → length cs ≤ suc n
no_more n c None cs f e = cc
no_more n c (Some ds) cs f e = let q : c ∷ ds ≡ cs = cc in let l = ap length q in let h = f ds refl in omega arith

few_by : {C : Type 0} (n : ℕ) (o : Option C) (value : C → ℕ) (rest : C → List ℕ) (cs : List ℕ) → ((bytes ds : List ℕ) → characters_within n bytes ≡ Some ds → length ds ≤ n)
    → elim o as (λ _. Option (List ℕ)) [ None ↦ None | Some c ↦ with_character (value c) (characters_within n (rest c)) ] ≡ Some cs → length cs ≤ suc n
few_by n None value rest cs f e = cc
few_by n (Some c) value rest cs f e = no_more n (value c) (characters_within n (rest c)) cs (f (rest c)) e

-- no more characters than are allowed
few_characters : (n : ℕ) (bytes cs : List ℕ) → characters_within n bytes ≡ Some cs → length cs ≤ n
few_characters zero [] cs e = let q : ◌≡◌ {A = List ℕ} [] cs = cc in let l = ap length q in omega arith
few_characters zero (b ∷ bs) cs e = cc
few_characters (suc n) [] cs e = let q : ◌≡◌ {A = List ℕ} [] cs = cc in let l = ap length q in omega arith
few_characters (suc n) (b ∷ bs) cs e = few_by n (character_here (b ∷ bs)) (λ c. c.value) (λ c. drop c.length (b ∷ bs)) cs (few_characters n) e

size_by : (o : Option (List ℕ)) → ((cs : List ℕ) → o ≡ Some cs → length cs ≤ 8) → let n : ℕ = elim o [ None ↦ 8 | Some cs ↦ characters_size (length cs) ] in (1 ≤ n) × (n ≤ 64)
size_by None f = (omega arith, omega arith)
size_by (Some cs) f = let h = f cs refl in (omega arith, omega arith)

string_length : (text : List ℕ) → (1 ≤ string_size text) × (string_size text ≤ 64)
unfolding characters_of
string_length text = size_by (characters_within character_limit (between_quotes text)) (few_characters 8 (between_quotes text))

plain_by : (q : Bool) (n value other : ℕ) → (1 ≤ n) × (n ≤ 64) → HasLength (number_bits (if q then n else 32) (if q then value else other)) q
plain_by true n value other h = let l = length_number_bits n value in let a = h.0 in let b = h.1 in record { some = omega arith; most = omega arith; unsized = λ u. cc }
plain_by false n value other h = let l = length_number_bits 32 other in record { some = omega arith; most = omega arith; unsized = λ u. l }

plain_length : (text : List ℕ) → HasLength (number_bits (plain_size text) (plain_value text)) (is_quoted text)
plain_length text = plain_by (is_quoted text) (string_size text) (string_value text) (decimal_value text) (string_length text)

-- of a literal that may have a head of size h, and else is plain
length_by : {H : Type 0} (o : Option H) (size value : H → ℕ) (fill : H → Bit4) (digits : H → List Bit4) (plain : List Bit4) (is_string : Bool) (n s : ℕ) →
    HasLength plain is_string →
    s ≡ elim o [ None ↦ n | Some h ↦ if size h == 0 then 32 else value h ] →
    elim o [ None ↦ true | Some h ↦ size h == 0 || is_good_size (value h) ] ≡ true →
    HasLength (elim o [ None ↦ plain | Some h ↦ fitted s (fill h) (digits h) ]) (elim o [ None ↦ is_string | Some h ↦ not (size h == 0) ])
length_by None size value fill digits plain is_string n s p e r = p
length_by (Some h) size value fill digits plain is_string n s p e r = sized_length (size h == 0) (value h) (fitted s (fill h) (digits h)) r (length_fitted s (fill h) (digits h) ∙ e)

-- the bytes are no number with a base, or their size is 1 to 64
abbrev pub size_is_good : List ℕ → Bool
size_is_good text = elim (head_of text) [ None ↦ true | Some h ↦ h.size == 0 || is_good_size (decimal_value (take h.size text)) ]

pub literal_length : (text : List ℕ) → size_is_good text ≡ true → HasLength (literal_bits text) (has_size text)
unfolding literal_bits literal_size has_size
literal_length text r =
    length_by (head_of text) (λ h. h.size) (λ h. decimal_value (take h.size text)) (λ h. fill_bit (slice_index (drop h.digits text) 0)) (λ h. digits_bits h.base (drop h.digits text)) (number_bits (plain_size text) (plain_value text)) (is_quoted text) (plain_size text) (literal_size text) (plain_length text) refl r

first_part : {H : Type 0} (o : Option H) (n : Bool) (a b : H → Bool) → elim o [ None ↦ n | Some h ↦ a h && b h ] ≡ true → elim o [ None ↦ true | Some h ↦ a h ] ≡ true
first_part None n a b e = refl
first_part (Some h) n a b e = (and_parts (a h) (b h) e).0

pub good_in_range : (text : List ℕ) → is_in_range text ≡ true → size_is_good text ≡ true
unfolding is_in_range
good_in_range text e = first_part (head_of text) _ (λ h. h.size == 0 || is_good_size (decimal_value (take h.size text))) _ e

pub good_without_head : (text : List ℕ) → head_of text ≡ None → size_is_good text ≡ true
good_without_head text e = ap (λ o. elim o [ None ↦ true | Some h ↦ h.size == 0 || is_good_size (decimal_value (take h.size text)) ]) e

-- ---- what stands at the front of a text

either : (b : Bool) → (b ≡ true) ⊎ (b ≡ false)
either true = inl refl
either false = inr refl

not_both : {P : Type 0} {b : Bool} → b ≡ true → b ≡ false → P
not_both p q = cc

not_letter : (b : ℕ) → is_digit b ≡ true → is_letter b ≡ false
not_letter b e = grind (arith, nat_tests)

digit_begins : (b : ℕ) → is_digit b ≡ true → begins_number (start_of b) ≡ true
digit_begins b e = let l = not_letter b e in rw l (rw e refl)

quote_begins : (b : ℕ) → (b == 39) ≡ true → begins_number (start_of b) ≡ true
quote_begins b e = let q : b ≡ 39 = is_quote b e in rw q refl
  where
    is_quote : (b : ℕ) → (b == 39) ≡ true → b ≡ 39
    is_quote b e = grind (arith, nat_tests)

-- bytes that begin no number have no head of one
no_head : (b : ℕ) (bs : List ℕ) → begins_number (start_of b) ≡ false → head_of (b ∷ bs) ≡ None
no_head b bs n = elim (either (is_digit b)) [
  | inl e ↦ not_both (digit_begins b e) n
  | inr d ↦ elim (either (b == 39)) [ inl e ↦ not_both (quote_begins b e) n | inr q ↦ rw d (rw q refl) ]
]

-- one of these is answered, and it is no fault
found_other : {A E : Type 0} (o : Option A) (bad : Result A E) (a : A) → (bad ≡ Ok a → ⊥) → ◌≡◌ {A = Result A E} (elim o [ None ↦ bad | Some x ↦ Ok x ]) (Ok a) → o ≡ Some a
found_other None bad a n h = absurd (n h)
found_other (Some x) bad a n h = cc

in_range_at : {A E : Type 0} (check : Bool → A → Result A E) (b : Bool) (x a : A) → check true x ≡ Ok x → (check false x ≡ Ok a → ⊥) → check b x ≡ Ok a → (x ≡ a) × (b ≡ true)
in_range_at check true x a p n h = (same_ok (sym p ∙ h), refl)
  where
    same_ok : {A E : Type 0} {x a : A} → ◌≡◌ {A = Result A E} (Ok x) (Ok a) → x ≡ a
    same_ok e = cc
in_range_at check false x a p n h = absurd (n h)

found_number : {A E : Type 0} (lacks : Bool) (o : Option A) (bad : Result A E) (check : Bool → A → Result A E) (t : A → Bool) (a : A) → (bad ≡ Ok a → ⊥) → ((x : A) → check true x ≡ Ok x) → ((x : A) → check false x ≡ Ok a → ⊥) →
    ◌≡◌ {A = Result A E} (elim lacks [ true ↦ bad | false ↦ elim o [ None ↦ bad | Some x ↦ check (t x) x ] ]) (Ok a) → (o ≡ Some a) × (t a ≡ true)
found_number true o bad check t a n p q h = absurd (n h)
found_number false None bad check t a n p q h = absurd (n h)
found_number false (Some x) bad check t a n p q h = let k = in_range_at check (t x) x a (p x) (q x) h in (ap Some k.0, subst (λ z. t z ≡ true) k.0 k.1)

matched : {A : Type 0} (o : Option A) (a : A) (P : Type 0) (Q : A → Type 0) → MatchOption o P Q → o ≡ Some a → Q a
matched None a P Q m e = absurd (none_some e)
  where
    none_some : {A : Type 0} {a : A} → None ≡ Some a → ⊥
    none_some e = cc
matched (Some x) a P Q m e = subst Q (inner e) m
  where
    inner : {A : Type 0} {x a : A} → Some x ≡ Some a → x ≡ a
    inner e = cc

-- what is taken at the front of a text is the longest token there, and no number whose size is out of range
pub record Front (tail : List ℕ) (k : TokenKind) (l : ℕ) : Type 0 where
  pub long : longest tail ≡ Some (record { kind = k; length = l })
  pub good : size_is_good (take l tail) ≡ true

pick : {R : Type 0} (x : Bool) (a b r : R) → ◌≡◌ {A = R} (elim x [ true ↦ a | false ↦ b ]) r → (a ≡ r) ⊎ ((x ≡ false) × (b ≡ r))
pick true a b r e = inl e
pick false a b r e = inr (refl, e)

front_number : (b : ℕ) (bs : List ℕ) (k : TokenKind) (l : ℕ) → number_here (b ∷ bs) ≡ Ok (record { kind = k; length = suc l }) → Front (b ∷ bs) k (suc l)
front_number b bs k l e =
    let p = found_number (lacks_digits (b ∷ bs)) (longest (b ∷ bs)) (number_here []) checked (λ x. is_in_range (take x.length (b ∷ bs))) (record { kind = k; length = suc l }) (λ u. cc) (λ x. refl) (λ x u. cc) e in
    record { long = p.0; good = good_in_range (take (suc l) (b ∷ bs)) p.1 }

front_other : (b : ℕ) (bs : List ℕ) (k : TokenKind) (l : ℕ) → begins_number (start_of b) ≡ false → other_here (b ∷ bs) ≡ Ok (record { kind = k; length = suc l }) → Front (b ∷ bs) k (suc l)
front_other b bs k l n e = record { long = found_other (longest (b ∷ bs)) (other_here []) _ (λ u. cc) e; good = good_without_head (b ∷ take l bs) (no_head b (take l bs) n) }

front : (tail : List ℕ) (k : TokenKind) (l : ℕ) → 0 < l → here tail ≡ Ok (record { kind = k; length = l }) → Front tail k l
front [] k l h e = cc
front (b ∷ bs) k zero h e = absurd (omega arith)
front (b ∷ bs) k (suc l) h e = elim (pick (begins_number (start_of b)) (number_here (b ∷ bs)) (other_here (b ∷ bs)) (Ok (record { kind = k; length = suc l })) e) [ inl p ↦ front_number b bs k l p | inr p ↦ front_other b bs k l p.0 p.1 ]

-- ---- the tokens of a text

pub record IsToken (bytes : List ℕ) (k : TokenKind) : Type 0 where
  pub name : k ≡ kind.Identifier → token_kind bytes ≡ Some kind.Identifier
  pub good : size_is_good bytes ≡ true

abbrev bytes_by : List ℕ → Option Token → List ℕ
bytes_by text None = []
bytes_by text (Some token) = size_bytes text token.size ++ own_bytes text token

no_name : {P : Type 0} → kind.Based ≡ kind.Identifier → P
no_name e = cc

stands_as : LongestIsTaken → (text : List ℕ) (token : Token) → StandsIn text token → IsToken (bytes_by text (Some token)) token.kind
stands_as law text token s = by token.size s.sized
  where
    by : (o : Option Span) → IfSome o (IsSizeOf text token.kind (own_bytes text token)) → IsToken (size_bytes text o ++ own_bytes text token) token.kind
    by (Some size) z = record { name = λ i. no_name (sym z.based ∙ i); good = good_in_range (size_bytes text (Some size) ++ own_bytes text token) z.in_range }
    by None z =
        let h : token.start < token.end = s.some in
        let f = front (drop token.start text) token.kind (token.end - token.start) (omega arith) s.taken in
        let m = matched (longest (drop token.start text)) _ _ _ (law (drop token.start text)) f.long in
        record { name = λ i. m.0 ∙ ap Some i; good = f.good }

module _ (law : LongestIsTaken) (text : List ℕ) (tokens : List Token) (are : AreTokens text tokens) where
  pub token_is : (n : ℕ) (token : Token) → slice_get tokens n ≡ Some token → IsToken (spelling_of text tokens n) token.kind
  token_is n token e =
      subst (λ (o : Option Token). IsToken (bytes_by text o) token.kind) (sym e) (stands_as law text token (subst (StandsIn text) (get_or_from_slice_get tokens n token token e) (are.each n token (slice_get_within tokens n token e))))

  good_at : (n : ℕ) (o : Option Token) → slice_get tokens n ≡ o → size_is_good (spelling_of text tokens n) ≡ true
  good_at n None e = subst (λ (o : Option Token). size_is_good (bytes_by text o) ≡ true) (sym e) refl
  good_at n (Some token) e = (token_is n token e).good

  pub literals_are : (a : Terminal) → IsLiteral (meaning.literal_at (spelling_of text tokens) a)
  literals_are a =
      let h = literal_length (spelling_of text tokens a.place) (good_at a.place (slice_get tokens a.place) refl) in
      record { some = h.some; most = h.most; unsized = h.unsized }

  -- ---- identifiers

  identifier_only : (k : TokenKind) → number_of k ≡ number_of kind.Identifier → k ≡ kind.Identifier
  identifier_only kind.Identifier e = refl
  identifier_only k e = absurd (omega arith)

  wells : (ts : List Token) (n : ℕ) → ((m : ℕ) (token : Token) → slice_get ts m ≡ Some token → (k : ℕ) → k ≡ n + m → token.kind ≡ kind.Identifier → token_kind (spelling_of text tokens k) ≡ Some kind.Identifier) → Each (IsWell (spelling_of text tokens)) (terminals_from n ts)
  wells [] n h = (λ e. absurd (omega arith), tt)
  wells (token ∷ ts) n h = (
    λ e. h 0 token refl n (omega arith) (identifier_only token.kind e),
    wells ts (suc n) (λ m u e k q. h (suc m) u e k (omega arith)),
  )

  pub terminals_are : Each (IsWell (spelling_of text tokens)) (terminals tokens)
  terminals_are = wells tokens 0 (λ m token e k q i. subst (λ (z : ℕ). token_kind (spelling_of text tokens z) ≡ Some kind.Identifier) (at k m q) ((token_is m token e).name i))
    where
      at : (k m : ℕ) → k ≡ 0 + m → m ≡ k
      at k m q = omega arith
