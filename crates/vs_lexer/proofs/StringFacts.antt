-- The characters of a string, read one by one, and the number that they are.
use Rattle.std.proofs.Common.{◌≡◌, ℕ, zero, suc, ◌+◌, ◌-◌, ◌*◌, ◌^◌, ◌<◌, ◌≤◌, List, [], ◌∷◌, ◌++◌, refl, sym, ◌∙◌, ap, length, drop, arith, length-append}
use Rattle.std.specs.Prelude.{Option, Some, None}
use Rattle.std.proofs.lemmas.List.{drop-drop, drop_all}
use Rattle.std.proofs.lemmas.List.Sums.{fold_push}
use Rattle.std.proofs.lemmas.Nat.{pow-add}
use Rattle.std.proofs.Math.Pow.{pow_mono}
use Rattle.vs_lexer.specs.declared.strings.Character.{Character}
use Rattle.vs_lexer.specs.declared.strings.StringNumber.{StringNumber}
use Rattle.vs_lexer.specs.Strings.{character_here, with_character, characters_within, with_code, characters_value, characters_of, characters_size, string_size, string_value, number_of_characters}

-- these characters stand in front of those that are still read
pub in_front : List ℕ → Option (List ℕ) → Option (List ℕ)
in_front [] o = o
in_front (c ∷ cs) o = with_character c (in_front cs o)

in_front-push : (cs : List ℕ) (c : ℕ) (o : Option (List ℕ)) → in_front (cs ++ c ∷ []) o ≡ in_front cs (with_character c o)
unfolding in_front
in_front-push [] c o = refl
in_front-push (d ∷ cs) c o = ap (with_character d) (in_front-push cs c o)

in_front-end : (cs : List ℕ) → in_front cs (Some []) ≡ Some cs
unfolding in_front
in_front-end [] = refl
in_front-end (c ∷ cs) = ap (with_character c) (in_front-end cs)

in_front-none : (cs : List ℕ) → in_front cs None ≡ None
unfolding in_front
in_front-none [] = refl
in_front-none (c ∷ cs) = ap (with_character c) (in_front-none cs)

-- n characters of this number are read up to place `at`
pub record Read (text : List ℕ) (at n value : ℕ) : Type 0 where
  pub seen : List ℕ
  pub count : length seen ≡ n
  pub number : characters_value seen ≡ value
  pub same : characters_within 8 text ≡ in_front seen (characters_within (8 - n) (drop at text))

pub read_none : (text : List ℕ) → Read text 0 0 0
unfolding in_front
read_none text = record { seen = []; count = refl; number = refl; same = refl }

next_by : ℕ → List ℕ → Option Character → Option (List ℕ)
next_by n rest o = elim o [ None ↦ None | Some c ↦ with_character c.value (characters_within n (drop c.length rest)) ]

next : (n : ℕ) (rest : List ℕ) → 0 < length rest → characters_within (suc n) rest ≡ next_by n rest (character_here rest)
unfolding next_by
next n [] h = absurd (omega arith)
next n (b ∷ bs) h = refl

too_many : (rest : List ℕ) → 0 < length rest → characters_within 0 rest ≡ None
too_many [] h = absurd (omega arith)
too_many (b ∷ bs) h = refl

none_left : (n : ℕ) → characters_within n [] ≡ Some []
none_left zero = refl
none_left (suc n) = refl

module _ (text : List ℕ) (at n value : ℕ) (read : Read text at n value) where
  step : (o : Option Character) → n < 8 → 0 < length (drop at text) → character_here (drop at text) ≡ o → characters_within 8 text ≡ in_front read.seen (next_by (8 - (n + 1)) (drop at text) o)
  step o h some e =
      let z : 8 - n ≡ suc (8 - (n + 1)) = omega arith in
      read.same ∙ ap (λ m. in_front read.seen (characters_within m (drop at text))) z ∙ ap (in_front read.seen) (next (8 - (n + 1)) (drop at text) some ∙ ap (next_by (8 - (n + 1)) (drop at text)) e)

  pub read_more : (c : Character) → n < 8 → 0 < length (drop at text) → character_here (drop at text) ≡ Some c → Read text (at + c.length) (n + 1) (256 * value + c.value)
  unfolding next_by
  read_more c h some e = record {
    seen = read.seen ++ c.value ∷ [];
    count = let l = length-append read.seen (c.value ∷ []) in let k = read.count in omega arith;
    number = fold_push with_code 0 read.seen c.value ∙ ap (λ v. 256 * v + c.value) read.number;
    same =
        step (Some c) h some e ∙ sym (in_front-push read.seen c.value (characters_within (8 - (n + 1)) (drop c.length (drop at text))))
        ∙ ap (λ r. in_front (read.seen ++ c.value ∷ []) (characters_within (8 - (n + 1)) r)) (drop-drop c.length at text);
  }

  pub read_bad : n < 8 → 0 < length (drop at text) → character_here (drop at text) ≡ None → number_of_characters (characters_within 8 text) ≡ None
  unfolding next_by
  read_bad h some e = ap number_of_characters (step None h some e ∙ in_front-none read.seen)

  pub read_over : n ≡ 8 → 0 < length (drop at text) → number_of_characters (characters_within 8 text) ≡ None
  read_over h some =
      let z : 8 - n ≡ 0 = omega arith in
      ap number_of_characters (read.same ∙ ap (λ m. in_front read.seen (characters_within m (drop at text))) z ∙ ap (in_front read.seen) (too_many (drop at text) some) ∙ in_front-none read.seen)

  pub read_all : length text ≤ at → number_of_characters (characters_within 8 text) ≡ Some (record { characters = n; value = value })
  read_all h =
      ap number_of_characters (read.same ∙ ap (λ r. in_front read.seen (characters_within (8 - n) r)) (drop_all at text h) ∙ ap (in_front read.seen) (none_left (8 - n)) ∙ in_front-end read.seen)
      ∙ ap (λ m. Some (record { characters = m; value = characters_value read.seen })) read.count ∙ ap (λ v. Some (record { characters = n; value = v })) read.number

-- one more character has eight bits more
pub eight_more : (n value c : ℕ) → value < 2 ^ (8 * n) → c < 256 → 256 * value + c < 2 ^ (8 * (n + 1))
eight_more n value c h k =
    let p = pow-add 2 (8 * n) 8 in
    let e : 8 * (n + 1) ≡ 8 * n + 8 = omega arith in
    let q : 2 ^ (8 * (n + 1)) ≡ 2 ^ (8 * n) * 256 = ap (λ m. 2 ^ m) e ∙ p in
    omega arith

-- so up to eight fit a word
pub word_fits : (n value c : ℕ) → value < 2 ^ (8 * n) → c < 256 → n ≤ 7 → 256 * value + c < 2 ^ 64
word_fits n value c h k l = let e = eight_more n value c h k in let m = pow_mono {i = 8 * (n + 1)} {j = 64} (omega arith) in omega (arith, e, m)

-- ---- what a string that is a number counts

parts_by : (o : Option (List ℕ)) (n : StringNumber) → Some n ≡ number_of_characters o
    → ((elim o as (λ _. ℕ) [ None ↦ 8 | Some cs ↦ characters_size (length cs) ]) ≡ characters_size n.characters) × ((elim o as (λ _. ℕ) [ None ↦ 0 | Some cs ↦ characters_value cs ]) ≡ n.value)
parts_by None n e = cc
parts_by (Some cs) n e = let q : n ≡ record { characters = length cs; value = characters_value cs } = cc in (ap (λ (m : StringNumber). characters_size m.characters) (sym q), ap (λ (m : StringNumber). m.value) (sym q))

pub string_parts : (text : List ℕ) (n : StringNumber) → Some n ≡ number_of_characters (characters_of text) → (string_size text ≡ characters_size n.characters) × (string_value text ≡ n.value)
string_parts text n e = parts_by (characters_of text) n e
