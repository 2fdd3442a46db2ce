-- Grammars as data, their derivation trees, what a tree derives, and what is wrong with a list of tokens.
use Rattle.std.specs.Prelude.{◌≡◌, ℕ, ◌+◌, ◌≢◌, ◌<◌, suc, max, List, [], ◌∷◌, ◌++◌, take, length, Bool, false, cond}

-- ---- phrases

-- The right side of a rule, or a part of one. Terminals and rules are named by numbers.
pub data Phrase : Type 0 where
  -- one token of this kind
  tok : ℕ → Phrase
  -- nothing
  eps : Phrase
  -- the first, and then the second
  seq : Phrase → Phrase → Phrase
  -- the first or the second
  alt : Phrase → Phrase → Phrase
  -- a token of this kind and then the phrase, or nothing, but nothing only where no such token follows
  last : ℕ → Phrase → Phrase
  -- the first, and then the second any number of times, grouped to the left; true where each of these is a level around what stands before it
  many : Bool → Phrase → Phrase → Phrase
  -- the first, and then perhaps the second, which is a level around both
  post : Phrase → Phrase → Phrase
  -- the phrase, one level deeper
  level : Phrase → Phrase
  -- the rule of this number
  var : ℕ → Phrase

-- [x]
abbrev pub opt : Phrase → Phrase
opt x = alt x eps

-- {x}
abbrev pub star : Phrase → Phrase
star x = many false eps x

-- A token as the grammar sees it: its kind, and its number in the text.
pub record Terminal : Type 0 where
  pub kind : ℕ
  pub place : ℕ

-- ---- derivation trees

-- The trees of a grammar, whose rules are rule 0, rule 1, and so on.
pub data Tree (rule : ℕ → Phrase) : Phrase → Type 0 where
  leaf : {t : ℕ} → Terminal → Tree rule (tok t)
  nothing : Tree rule eps
  both : {x y : Phrase} → Tree rule x → Tree rule y → Tree rule (seq x y)
  former : {x y : Phrase} → Tree rule x → Tree rule (alt x y)
  latter : {x y : Phrase} → Tree rule y → Tree rule (alt x y)
  without : {t : ℕ} {x : Phrase} → Tree rule (last t x)
  within : {t : ℕ} {x : Phrase} → Terminal → Tree rule x → Tree rule (last t x)
  start : {b : Bool} {x y : Phrase} → Tree rule x → Tree rule (many b x y)
  grown : {b : Bool} {x y : Phrase} → Tree rule (many b x y) → Tree rule y → Tree rule (many b x y)
  alone : {x y : Phrase} → Tree rule x → Tree rule (post x y)
  behind : {x y : Phrase} → Tree rule x → Tree rule y → Tree rule (post x y)
  nested : {x : Phrase} → Tree rule x → Tree rule (level x)
  named : {n : ℕ} → Tree rule (rule n) → Tree rule (var n)

-- The tokens of a tree, and then r.
abbrev pub onto : {rule : ℕ → Phrase} {x : Phrase} → Tree rule x → List Terminal → List Terminal
onto (leaf a) r = a ∷ r
onto nothing r = r
onto (both a b) r = onto a (onto b r)
onto (former a) r = onto a r
onto (latter a) r = onto a r
onto without r = r
onto (within t a) r = t ∷ onto a r
onto (start a) r = onto a r
onto (grown a b) r = onto a (onto b r)
onto (alone a) r = onto a r
onto (behind a b) r = onto a (onto b r)
onto (nested a) r = onto a r
onto (named a) r = onto a r

-- No token of kind t comes first.
abbrev pub Misses : ℕ → List Terminal → Type 0
Misses t [] = Unit {0}
Misses t (a ∷ r) = a.kind ≢ t

-- The tree is one of the grammar, where r follows it.
abbrev pub Fits : {rule : ℕ → Phrase} {x : Phrase} → Tree rule x → List Terminal → Type 0
Fits (leaf {t} a) r = a.kind ≡ t
Fits nothing r = Unit {0}
Fits (both a b) r = Fits a (onto b r) × Fits b r
Fits (former a) r = Fits a r
Fits (latter a) r = Fits a r
Fits (without {t}) r = Misses t r
Fits (within {t} a b) r = (a.kind ≡ t) × Fits b r
Fits (start a) r = Fits a r
Fits (grown a b) r = Fits a (onto b r) × Fits b r
Fits (alone a) r = Fits a r
Fits (behind a b) r = Fits a (onto b r) × Fits b r
Fits (nested a) r = Fits a r
Fits (named a) r = Fits a r

-- The longest chain of nested levels.
abbrev pub depth : {rule : ℕ → Phrase} {x : Phrase} → Tree rule x → ℕ
depth (leaf a) = 0
depth nothing = 0
depth (both a b) = max (depth a) (depth b)
depth (former a) = depth a
depth (latter a) = depth a
depth without = 0
depth (within t a) = depth a
depth (start a) = depth a
depth (grown {b = v} a b) = cond v 1 0 + max (depth a) (depth b)
depth (alone a) = depth a
depth (behind a b) = 1 + max (depth a) (depth b)
depth (nested a) = 1 + depth a
depth (named a) = depth a

-- The grammar derives the list, with this tree.
abbrev pub Derives : {rule : ℕ → Phrase} {x : Phrase} → Tree rule x → List Terminal → Type 0
Derives a ts = (onto a [] ≡ ts) × Fits a []

-- ---- lists of tokens, whose last one is the end of the text

-- A derived list starts with these tokens.
pub record Begins (rule : ℕ → Phrase) (x : Phrase) (pre : List Terminal) : Type 0 where
  pub tree : Tree rule x
  pub other : List Terminal
  pub derived : Derives tree (pre ++ other)

-- Token k, counted from 0, is the first one with which no derived list goes on: some starts with the tokens before it, and none with these and it.
pub record SyntaxAt (rule : ℕ → Phrase) (x : Phrase) (ts : List Terminal) (k : ℕ) : Type 0 where
  pub inside : k < length ts
  pub before : Begins rule x (take k ts)
  pub none : Begins rule x (take (suc k) ts) → ⊥

-- A derived list starts with the tokens up to token k and with it, but none of a depth of at most `most`.
pub record TooDeepAt (rule : ℕ → Phrase) (x : Phrase) (most : ℕ) (ts : List Terminal) (k : ℕ) : Type 0 where
  pub inside : k < length ts
  pub can : Begins rule x (take (suc k) ts)
  pub deep : (tree : Tree rule x) (other : List Terminal) → Derives tree (take (suc k) ts ++ other) → most < depth tree
