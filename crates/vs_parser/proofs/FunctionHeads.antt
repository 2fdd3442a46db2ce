-- The inputs and variables of functions.
use Rattle.std.proofs.Common.{◌≡◌, ℕ, ◌≤◌, true, false, List, [], ◌∷◌, ◌++◌, map, append-nil, append_assoc, refl, sym, ◌∙◌, ap}
use Rattle.vs_lexer.specs.declared.token.TokenKind.TheVariants as kind
use Rattle.vs_grammar.specs.Grammars.{star}
use Rattle.vs_grammar.specs.Grammars.Tree.{nothing, both, former, latter, start, grown, named}
use Rattle.vs_grammar.specs.Predictive.{is_member, firsts_of}
use Rattle.vs_grammar.specs.Verilog.{◌⨾◌, verilog, t, r}
use Rattle.vs_grammar.specs.Verilog as grammar
use Rattle.vs_grammar.specs.Verilog.{Rule as rule}
use Rattle.vs_grammar.specs.Trees.{Name, Variables}
use Rattle.vs_grammar.specs.Meaning as meaning
use Rattle.vs_grammar.specs.Meaning.{D}
use Rattle.vs_statements.specs.declared.input.Input.{Input}
use Rattle.vs_parser.specs.Functions as part
use Rattle.vs_parser.specs.Functions.{InputRead, InputsStep, InputsGrown, InputsRead, Parts, GivesParts, DeclarationStep, DeclarationsGrown}
use Rattle.vs_statements.specs.Reading.{kind_at, bytes_in, Read, Parsed}
use Rattle.vs_statements.proofs.Places.{parsed, ap2, read_eps, read_many, grown_start, grown_more}

-- ---- inputs in brackets

names_nil : (v : Variables) → part.with_names v [] ≡ v
names_nil v = ap (λ z. record v { names = z }) (append-nil v.names)

names_more : (v : Variables) (n : Name) (ns : List Name) → part.with_names v (n ∷ ns) ≡ part.with_names (part.with_names v (n ∷ [])) ns
names_more v n ns = ap (λ z. record v { names = z }) (sym (append_assoc v.names (n ∷ []) ns))

after : {A : Type 0} (list : List A) (x : A) (rest : List A) → list ++ (x ∷ rest) ≡ (list ++ (x ∷ [])) ++ rest
after list x rest = sym (append_assoc list (x ∷ []) rest)

pub input_read : {input : Input} {d i : ℕ} {value : Variables} {j : ℕ} {a : D (r rule.FunctionInput)} → Read input.tokens.now d (r rule.FunctionInput) a i j → ((names : List Name) → meaning.input_of (bytes_in input) a names ≡ part.with_names value names) → InputRead input d i value j
input_read {a = a} p m = record { tree = a; read = p; made = m }

pub input_behind : {input : Input} {d i : ℕ} {value : Variables} {j : ℕ} (list : List Variables) (last : Variables) → (q : InputRead input d i value j) → Read input.tokens.now d part.input_step (former q.tree) i j → InputsStep input list last d i (list ++ (last ∷ [])) value j
input_behind {input} {value = value} list last q w = record {
  tree = former q.tree;
  read = w;
  made = λ p l c h names rest. h [] (meaning.input_of (bytes_in input) q.tree names ∷ rest) ∙ ap (λ z. list ++ (z ∷ (meaning.input_of (bytes_in input) q.tree names ∷ rest))) (names_nil last) ∙ ap (λ z. list ++ (last ∷ (z ∷ rest))) (q.made names) ∙ after list last (part.with_names value names ∷ rest);
}

pub name_behind : {input : Input} {d i j : ℕ} {n : D (t kind.Identifier)} {name : Name} {next : Variables} (list : List Variables) (last : Variables) → Read input.tokens.now d part.input_step (latter n) i j → meaning.name_of (bytes_in input) n ≡ name → next ≡ part.with_names last (name ∷ []) → InputsStep input list last d i list next j
name_behind {input} {n = n} {name} {next} list last w e f = record {
  tree = latter n;
  read = w;
  made = λ p l c h names rest. h (meaning.name_of (bytes_in input) n ∷ names) rest ∙ ap (λ z. list ++ (part.with_names last (z ∷ names) ∷ rest)) e ∙ ap (λ z. list ++ (z ∷ rest)) (names_more last name names ∙ ap (λ z. part.with_names z names) (sym f));
}

pub inputs_start : (input : Input) (first : Variables) (d i : ℕ) → d ≤ 200 → InputsGrown input first d i [] first i
inputs_start input first d i s = record { tree = start nothing; grown = grown_start (read_eps input.tokens.now d i s); made = λ p h names rest. ap (λ z. z ∷ rest) (h names) }

pub inputs_more : {input : Input} {first : Variables} {d i : ℕ} {list : List Variables} {last : Variables} {j k : ℕ} {longer : List Variables} {next : Variables} {m : ℕ} {c : D (t kind.Comma)} → InputsGrown input first d i list last j → is_member (kind_at input.tokens.now j) (46 ∷ []) ≡ true → (p : InputsStep input list last d k longer next m) → Read input.tokens.now d (t kind.Comma ⨾ part.input_step) (both c p.tree) j m → InputsGrown input first d i longer next m
inputs_more {c = c} g n p w = record { tree = grown g.tree (both c p.tree); grown = grown_more g.grown n w; made = λ q h. p.made q g.tree c (g.made q h) }

pub inputs_done : {input : Input} {first : Variables} {d i : ℕ} {list : List Variables} {last : Variables} {j : ℕ} (all : List Variables) → InputsGrown input first d i list last j → is_member (kind_at input.tokens.now j) (46 ∷ []) ≡ false → all ≡ list ++ (last ∷ []) → InputsRead input first d i all j
inputs_done {list = list} {last = last} all g n e = record { tree = g.tree; read = read_many g.grown n; made = λ p h. g.made p h [] [] ∙ ap (λ z. list ++ (z ∷ [])) (names_nil last) ∙ sym e }

-- ---- inputs among the variables

pub declarations_start : (input : Input) (d i : ℕ) (parts : Parts) → d ≤ 200 → parts.0 ≡ [] → parts.1 ≡ [] → DeclarationsGrown input d i parts i
declarations_start input d i parts s e f = record {
  tree = start nothing;
  grown = grown_start (read_eps input.tokens.now d i s);
  made = record { inputs = λ rest. ap (λ z. z ++ rest) (sym e); variables = λ rest. ap (λ z. z ++ rest) (sym f) };
}

pub declarations_more : {input : Input} {d i : ℕ} {parts : Parts} {j : ℕ} {longer : Parts} {k : ℕ} → DeclarationsGrown input d i parts j → is_member (kind_at input.tokens.now j) (firsts_of verilog (r rule.FunctionDeclaration)) ≡ true → DeclarationStep input parts d j longer k → DeclarationsGrown input d i longer k
declarations_more g m p = record { tree = grown g.tree p.tree; grown = grown_more g.grown m p.read; made = p.made g.tree g.made }

pub declarations_done : {input : Input} {d i : ℕ} {inputs variables : List Variables} {j : ℕ} → DeclarationsGrown input d i (inputs, variables) j → is_member (kind_at input.tokens.now j) (firsts_of verilog (r rule.FunctionDeclaration)) ≡ false → Parsed input (star (r rule.FunctionDeclaration)) part.declared_of d i (inputs, variables) j
declarations_done {inputs = inputs} {variables = variables} g m = parsed (read_many g.grown m) (ap2 (λ x y. (x, y)) ((g.made).inputs [] ∙ append-nil inputs) ((g.made).variables [] ∙ append-nil variables))

pub input_declared : {input : Input} {d i : ℕ} {inputs variables next : List Variables} {j : ℕ} {a : D grammar.input_declaration} {v : Variables} → Read input.tokens.now d (r rule.FunctionDeclaration) (named (former a)) i j → meaning.input_declaration_of (bytes_in input) a ≡ v → next ≡ inputs ++ (v ∷ []) → DeclarationStep input (inputs, variables) d i (next, variables) j
input_declared {input} {inputs = inputs} {a = a} {v = v} w e f = record {
  tree = named (former a);
  read = w;
  made = λ l g. record {
    inputs = λ rest. g.inputs (meaning.input_declaration_of (bytes_in input) a ∷ rest) ∙ ap (λ z. inputs ++ (z ∷ rest)) e ∙ after inputs v rest ∙ ap (λ z. z ++ rest) (sym f);
    variables = λ rest. g.variables rest;
  };
}

pub variables_declared : {input : Input} {d i : ℕ} {inputs variables next : List Variables} {j : ℕ} {a : D (r rule.Variables)} {v : Variables} → Read input.tokens.now d (r rule.FunctionDeclaration) (named (latter a)) i j → meaning.variables_of (bytes_in input) a ≡ v → next ≡ variables ++ (v ∷ []) → DeclarationStep input (inputs, variables) d i (inputs, next) j
variables_declared {input} {variables = variables} {a = a} {v = v} w e f = record {
  tree = named (latter a);
  read = w;
  made = λ l g. record {
    inputs = λ rest. g.inputs rest;
    variables = λ rest. g.variables (meaning.variables_of (bytes_in input) a ∷ rest) ∙ ap (λ z. variables ++ (z ∷ rest)) e ∙ after variables v rest ∙ ap (λ z. z ++ rest) (sym f);
  };
}

-- ---- what stands behind the name of a function

pub head_in_brackets : (b : ℕ → List ℕ) (d : D grammar.inputs_in_brackets) {p : Parts} → part.in_brackets_of b d ≡ p → part.head_of b (named (former d)) ≡ p
head_in_brackets b (both o (both l (both c (both s v)))) e = e

pub head_behind : (b : ℕ → List ℕ) (d : D grammar.inputs_behind) {p : Parts} → part.behind_of b d ≡ p → part.head_of b (named (latter d)) ≡ p
head_behind b (both s l) e = e
