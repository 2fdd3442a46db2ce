-- Lists that are read by loops.
use Rattle.std.proofs.Common.{◌≡◌, ℕ, Bool, true, false, not, ◌&&◌, ◌||◌, List, [], ◌∷◌, ◌++◌, refl, sym, ◌∙◌, ap, subst, arith, suc, ◌+◌, ◌-◌, ◌<◌, ◌≤◌, length, length-append, length-drop, map, drop, append-nil, ◌⊎◌, inl, inr}
use Rattle.std.proofs.lemmas.Bool.{and_parts}
use Rattle.vs_lexer.specs.declared.token.Token.{Token}
use Rattle.vs_lexer.specs.declared.token.TokenKind.TheVariants as kind
use Rattle.vs_grammar.specs.Grammars.{Phrase, Terminal, Tree, onto, star}
use Rattle.vs_grammar.specs.Grammars.Tree.{leaf, nothing, both, former, latter, without, within, start, grown, alone, behind, nested, named}
use Rattle.vs_grammar.specs.Predictive.{is_member, firsts_of, can_be_empty, is_decided, is_subset}
use Rattle.vs_grammar.specs.Kinds.{terminals_from}
use Rattle.vs_grammar.specs.Verilog.{◌⨾◌, verilog, t}
use Rattle.vs_grammar.specs.Meaning.{D, first_place, head_place, each_onto, behind_sign, list_of}
use Rattle.vs_grammar.proofs.Stopped.{says, onto_front}
use Rattle.vs_grammar.proofs.Decided.{verilog_is_predictive}
use Rattle.vs_statements.specs.declared.input.Input.{Input}
use Rattle.vs_statements.specs.Reading.{kind_at, from, terminal_at, Read, Parsed, bytes_in, Listing, Listed}
use Rattle.vs_statements.proofs.Places.{from_head, later, read_eps, read_seq, read_many, grown_start, grown_more, parsed}

-- ---- each step of a loop takes a token

no_bool : {P : Type 0} → true ≡ false → P
no_bool e = cc

and_false : (a b : Bool) → (a && b) ≡ false → (a ≡ false) ⊎ (b ≡ false)
and_false true b e = inr e
and_false false b e = inl refl

or_false : (a b : Bool) → (a || b) ≡ false → (a ≡ false) × (b ≡ false)
or_false true b e = no_bool e
or_false false b e = (refl, e)

rule_not_empty : (n : ℕ) → verilog.empties n ≡ false → can_be_empty verilog (verilog.rule n) ≡ false
rule_not_empty n e =
    let p = and_parts (is_decided verilog (verilog.rule n) (verilog.follows n)) (is_subset (firsts_of verilog (verilog.rule n)) (verilog.firsts n) && (not (can_be_empty verilog (verilog.rule n)) || verilog.empties n)) ((verilog_is_predictive).right n) in
    let q = and_parts (is_subset (firsts_of verilog (verilog.rule n)) (verilog.firsts n)) (not (can_be_empty verilog (verilog.rule n)) || verilog.empties n) p.1 in
    go (can_be_empty verilog (verilog.rule n)) (verilog.empties n) q.1 e
  where
    go : (a b : Bool) → (not a || b) ≡ true → b ≡ false → a ≡ false
    go true b e f = sym e ∙ f
    go false b e f = refl

front : {rule : ℕ → Phrase} {x y : Phrase} (a : Tree rule x) (b : Tree rule y) → length (onto a (onto b [])) ≡ length (onto a []) + length (onto b [])
front a b = ap length (onto_front a (onto b [])) ∙ length-append (onto a []) (onto b [])

pub some : {x : Phrase} (a : D x) → can_be_empty verilog x ≡ false → 0 < length (onto a [])
some (leaf u) e = omega arith
some nothing e = no_bool e
some (both {x} {y} a b) e = elim (and_false (can_be_empty verilog x) (can_be_empty verilog y) e) [ inl p ↦ let h = some a p in let f = front a b in omega arith | inr p ↦ let h = some b p in let f = front a b in omega arith ]
some (former {x} {y} a) e = some a (or_false (can_be_empty verilog x) (can_be_empty verilog y) e).0
some (latter {x} {y} a) e = some a (or_false (can_be_empty verilog x) (can_be_empty verilog y) e).1
some without e = no_bool e
some (within u a) e = no_bool e
some (start a) e = some a e
some (grown a b) e = let h = some a e in let f = front a b in omega arith
some (alone a) e = some a e
some (behind a b) e = let h = some a e in let f = front a b in omega arith
some (nested a) e = some a e
some (named {n} a) e = some a (rule_not_empty n e)

length_from : (ts : List Token) (i : ℕ) → length (from ts i) ≡ suc (length ts - i)
unfolding from
length_from ts i = go (drop i ts) i ∙ ap suc (length-drop i ts)
  where
    go : (l : List Token) (n : ℕ) → length (terminals_from n l) ≡ suc (length l)
    go [] n = refl
    go (u ∷ l) n = ap suc (go l (suc n))

pub not_back : {ts : List Token} {d : ℕ} {x : Phrase} {a : D x} {i j : ℕ} → Read ts d x a i j → length ts - j ≤ length ts - i
not_back {ts} {d} {x} {a} {i} {j} p =
    let s = says verilog p.reads in
    let f = ap length s.text in
    let g = ap length (onto_front a (from ts j)) ∙ length-append (onto a []) (from ts j) in
    let h = length_from ts i in
    let k = length_from ts j in
    omega arith

pub shorter : {ts : List Token} {d : ℕ} {x : Phrase} {a : D x} {i j : ℕ} → Read ts d x a i j → can_be_empty verilog x ≡ false → length ts - j < length ts - i
shorter {ts} {d} {x} {a} {i} {j} p e =
    let s = says verilog p.reads in
    let f = ap length s.text in
    let g = ap length (onto_front a (from ts j)) ∙ length-append (onto a []) (from ts j) in
    let h = length_from ts i in
    let k = length_from ts j in
    let m = some a e in
    omega arith

-- ---- lists

map-snoc : {A T : Type 0} (view : T → A) (list : List T) (v : T) (rest : List A) → map view (list ++ (v ∷ [])) ++ rest ≡ map view list ++ (view v ∷ rest)
map-snoc view [] v rest = refl
map-snoc view (w ∷ list) v rest = ap (λ z. view w ∷ z) (map-snoc view list v rest)

pub listing_start : {A T : Type 0} (input : Input) (x : Phrase) (of : (ℕ → List ℕ) → D x → A) (view : T → A) (d : ℕ) (before : List T) (i : ℕ) → d ≤ 200 → Listing input x of view d before i before i
listing_start input x of view d before i s = record { tree = start nothing; grown = grown_start (read_eps input.tokens.now d i s); made = λ rest. refl }

pub listing_more : {A T : Type 0} {input : Input} {x : Phrase} {of : (ℕ → List ℕ) → D x → A} {view : T → A} {d : ℕ} {before : List T} {i : ℕ} {list : List T} {j : ℕ} {c : D x} {k : ℕ} (v : T) (longer : List T) → Listing input x of view d before i list j → is_member (kind_at input.tokens.now j) (firsts_of verilog x) ≡ true → Read input.tokens.now d x c j k → of (bytes_in input) c ≡ view v → longer ≡ list ++ (v ∷ []) → Listing input x of view d before i longer k
listing_more {input = input} {of = of} {view = view} {list = list} {c = c} v longer l m p e g = record {
  tree = grown l.tree c;
  grown = grown_more l.grown m p;
  made = λ rest. l.made (of (bytes_in input) c ∷ rest) ∙ ap (λ z. map view list ++ (z ∷ rest)) e ∙ sym (map-snoc view list v rest) ∙ ap (λ z. map view z ++ rest) (sym g);
}

-- the list, where the loop started with an empty one
pub listing_done : {A T : Type 0} {input : Input} {x : Phrase} {of : (ℕ → List ℕ) → D x → A} {view : T → A} {d i : ℕ} {list : List T} {j : ℕ} → Listing input x of view d [] i list j → is_member (kind_at input.tokens.now j) (firsts_of verilog x) ≡ false → Parsed input (star x) (λ b a. each_onto (of b) a []) d i (map view list) j
listing_done {view = view} {list = list} l m = parsed (read_many l.grown m) (l.made [] ∙ append-nil (map view list))

pub listed_start : {A T : Type 0} {input : Input} {x : Phrase} {of : (ℕ → List ℕ) → D x → A} {view : T → A} {d i : ℕ} {a : D x} {j : ℕ} (v : T) (list : List T) → d ≤ 200 → Read input.tokens.now d x a i j → of (bytes_in input) a ≡ view v → list ≡ v ∷ [] → Listed input x of view d i list j
listed_start {input = input} {view = view} {d = d} {a = a} {j = j} v list s p e g = record {
  first = a;
  middle = j;
  read = p;
  tree = start nothing;
  grown = grown_start (read_eps input.tokens.now d j s);
  made = λ rest. ap (λ z. z ∷ rest) e ∙ ap (λ z. map view z ++ rest) (sym g);
}

pub listed_more : {A T : Type 0} {input : Input} {x : Phrase} {of : (ℕ → List ℕ) → D x → A} {view : T → A} {d i : ℕ} {list : List T} {j : ℕ} {c : D (t kind.Comma ⨾ x)} {k : ℕ} (v : T) (longer : List T) → Listed input x of view d i list j → is_member (kind_at input.tokens.now j) (46 ∷ []) ≡ true → Read input.tokens.now d (t kind.Comma ⨾ x) c j k → behind_sign (of (bytes_in input)) c ≡ view v → longer ≡ list ++ (v ∷ []) → Listed input x of view d i longer k
listed_more {input = input} {of = of} {view = view} {list = list} {c = c} v longer l m p e g = record {
  first = l.first;
  middle = l.middle;
  read = l.read;
  tree = grown l.tree c;
  grown = grown_more l.grown m p;
  made = λ rest. l.made (behind_sign (of (bytes_in input)) c ∷ rest) ∙ ap (λ z. map view list ++ (z ∷ rest)) e ∙ sym (map-snoc view list v rest) ∙ ap (λ z. map view z ++ rest) (sym g);
}

pub listed_done : {A T : Type 0} {input : Input} {x : Phrase} {of : (ℕ → List ℕ) → D x → A} {view : T → A} {d i : ℕ} {list : List T} {j : ℕ} → Listed input x of view d i list j → is_member (kind_at input.tokens.now j) (46 ∷ []) ≡ false → Parsed input (x ⨾ star (t kind.Comma ⨾ x)) (λ b a. list_of (of b) a) d i (map view list) j
listed_done {view = view} {list = list} l m = parsed (read_seq l.read (read_many l.grown m)) (l.made [] ∙ append-nil (map view list))

pub pushed_first : {T : Type 0} {empty list : List T} {v : T} → empty ≡ [] → list ≡ empty ++ (v ∷ []) → list ≡ v ∷ []
pushed_first {v = v} e f = f ∙ ap (λ z. z ++ (v ∷ [])) e

-- the list behind one that was there before
pub listing_behind : {A T : Type 0} {input : Input} {x : Phrase} {of : (ℕ → List ℕ) → D x → A} {view : T → A} {d : ℕ} {before : List T} {i : ℕ} {list : List T} {j : ℕ} → Listing input x of view d before i list j → is_member (kind_at input.tokens.now j) (firsts_of verilog x) ≡ false → Parsed input (star x) (λ b a. map view before ++ each_onto (of b) a []) d i (map view list) j
listing_behind {view = view} {list = list} l m = parsed (read_many l.grown m) (l.made [] ∙ append-nil (map view list))

pub listing_from : {A T : Type 0} (x : Phrase) (of : (ℕ → List ℕ) → D x → A) (view : T → A) (input : Input) {d : ℕ} (list : List T) (i : ℕ) → d ≤ 200 → list ≡ [] → Listing input x of view d [] i list i
listing_from x of view input {d} list i s e = subst (λ l. Listing input x of view d [] i l i) (sym e) (listing_start input x of view d [] i s)

-- ---- first tokens

-- what is read from place i on has its first token there
pub first_is : {ts : List Token} {d : ℕ} {x : Phrase} {a : D x} {i j : ℕ} → Read ts d x a i j → can_be_empty verilog x ≡ false → first_place a ≡ i
first_is {ts} {d} {x} {a} {i} {j} p e = go (onto a []) (some a e) (sym (onto_front a (from ts j)) ∙ (says verilog p.reads).text ∙ from_head ts i)
  where
    head_of : {u v : Terminal} {us vs : List Terminal} → u ∷ us ≡ v ∷ vs → u ≡ v
    head_of e = cc

    go : (l : List Terminal) → 0 < length l → l ++ from ts j ≡ terminal_at ts i ∷ later ts i → head_place l ≡ i
    go [] h q = absurd (omega arith)
    go (u ∷ l) h q = ap (λ (z : Terminal). z.place) (head_of q)
