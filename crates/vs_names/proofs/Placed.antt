-- Where the process begins that has a number in the text.
use Rattle.std.proofs.Common.{◌≡◌, ℕ, ◌+◌, ◌-◌, ◌≤◌, ◌<◌, Bool, false, List, ◌∷◌, drop, length, get_or, if◌then◌else◌, refl, sym, ap, ◌∙◌, arith, eq-eqb}
use Rattle.std.specs.Prelude.{Option, Some, None, option_map, option_and_then, slice_get, nat_lt}
use Rattle.std.proofs.lemmas.Bool.{lt-ltb, le-ltb, ne_eqb}
use Rattle.std.proofs.lemmas.List.{drop_all, drop_more}
use Rattle.std.proofs.lemmas.Option.{slice_get_within, slice_get_read, slice_get_past, get_or_from_slice_get}
use Rattle.vs_lexer.specs.declared.token.Token.{Token}
use Rattle.vs_design.specs.Designs.{Process, Initial, process_place}
use Rattle.vs_flat.specs.DesignOf.{design_of}
use Rattle.vs_names.specs.Drawn.{Drawn, place_numbered, token_byte, process_byte}

next_is : {X : Type 0} (xs : List X) (k : ℕ) (x : X) → slice_get xs k ≡ Some x → drop k xs ≡ x ∷ drop (k + 1) xs
next_is xs k x h = drop_more xs k x (slice_get_within xs k x h) ∙ ap (λ y. y ∷ drop (k + 1) xs) (get_or_from_slice_get xs k x x h)

-- the rest of the list by its first
abbrev shape : List Process → List Initial → ℕ → Initial → Bool → Bool → Option ℕ
shape ps is n i same less = if same then Some i.place else if less then option_map process_place (slice_get ps n) else place_numbered ps is (n - 1)

module _ (ps : List Process) (i : Initial) (is : List Initial) (n : ℕ) where
  pub is_first : n ≡ i.behind → place_numbered ps (i ∷ is) n ≡ Some i.place
  is_first h = ap (λ (c : Bool). shape ps is n i c (nat_lt n i.behind)) (eq-eqb n i.behind h)

  other : (n ≡ i.behind → ⊥) → place_numbered ps (i ∷ is) n ≡ shape ps is n i false (nat_lt n i.behind)
  other h = ap (λ (c : Bool). shape ps is n i c (nat_lt n i.behind)) (ne_eqb n i.behind h)

  pub is_before : n < i.behind → place_numbered ps (i ∷ is) n ≡ option_map process_place (slice_get ps n)
  is_before h = other (λ e. absurd (omega (arith, h, e))) ∙ ap (λ (c : Bool). shape ps is n i false c) (lt-ltb n i.behind h)

  pub is_behind : i.behind < n → place_numbered ps (i ∷ is) n ≡ place_numbered ps is (n - 1)
  is_behind h = other (λ e. absurd (omega (arith, h, e))) ∙ ap (λ (c : Bool). shape ps is n i false c) (le-ltb n i.behind (omega (arith, h)))

module _ (ps : List Process) (is : List Initial) (k n : ℕ) (i : Initial) (at : slice_get is k ≡ Some i) where
  from_here : place_numbered ps (drop k is) n ≡ place_numbered ps (i ∷ drop (k + 1) is) n
  from_here = ap (λ (xs : List Initial). place_numbered ps xs n) (next_is is k i at)

  pub here_is : n ≡ i.behind → place_numbered ps (drop k is) n ≡ Some i.place
  here_is h = from_here ∙ is_first ps i (drop (k + 1) is) n h

  pub before_is : n < i.behind → place_numbered ps (drop k is) n ≡ option_map process_place (slice_get ps n)
  before_is h = from_here ∙ is_before ps i (drop (k + 1) is) n h

  pub behind_is : i.behind < n → place_numbered ps (drop k is) n ≡ place_numbered ps (drop (k + 1) is) (n - 1)
  behind_is h = from_here ∙ is_behind ps i (drop (k + 1) is) n h

pub none_left : (ps : List Process) (is : List Initial) (k n : ℕ) → length is ≤ k → place_numbered ps (drop k is) n ≡ option_map process_place (slice_get ps n)
none_left ps is k n h = ap (λ (xs : List Initial). place_numbered ps xs n) (drop_all k is h)

-- ---- the byte at which it is found

module _ (d : Drawn) (n : ℕ) where
  abbrev place : Option ℕ
  place = place_numbered (design_of d.flat).processes (design_of d.flat).initials n

  pub without_place : ◌≡◌ {A = Option ℕ} None place → ◌≡◌ {A = Option ℕ} None (process_byte d n)
  without_place h = ap (option_and_then (token_byte d)) h

  module _ (at : ℕ) (tokens : List Token) (found : Some at ≡ place) (same : tokens ≡ d.tokens) where
    from_tokens : option_map (λ (t : Token). t.at) (slice_get tokens at) ≡ process_byte d n
    from_tokens = ap (λ (ts : List Token). option_map (λ (t : Token). t.at) (slice_get ts at)) same ∙ ap (option_and_then (token_byte d)) found

    pub without_token : length tokens ≤ at → ◌≡◌ {A = Option ℕ} None (process_byte d n)
    without_token h = sym (ap (option_map (λ (t : Token). t.at)) (slice_get_past tokens at h)) ∙ from_tokens

    pub with_token : (t : Token) → at < length tokens → t ≡ get_or tokens at t → Some t.at ≡ process_byte d n
    with_token t h is = sym (ap (option_map (λ (t : Token). t.at)) (slice_get_read tokens (length tokens) at t refl h is)) ∙ from_tokens
