-- The ports and parameters of headers.
use Rattle.std.proofs.Common.{◌≡◌, ℕ, ◌-◌, ◌≤◌, Bool, true, false, List, [], ◌∷◌, ◌++◌, length, map, append-nil, append_assoc, refl, sym, ◌∙◌, ap, subst, arith}
use Rattle.vs_lexer.specs.declared.token.Token.{Token}
use Rattle.vs_lexer.specs.declared.token.TokenKind.TheVariants as kind
use Rattle.vs_grammar.specs.Grammars.{opt, star}
use Rattle.vs_grammar.specs.Grammars.Tree.{leaf, nothing, both, former, latter, start, grown, named}
use Rattle.vs_grammar.specs.Predictive.{is_member}
use Rattle.vs_grammar.specs.Verilog.{◌⨾◌, t, r, signed_range}
use Rattle.vs_grammar.specs.Verilog.{Rule as rule}
use Rattle.vs_grammar.specs.Trees.{SignalKind, RangeTree, Signals, Declarator, Parameters, Setting}
use Rattle.vs_grammar.specs.Meaning as meaning
use Rattle.vs_grammar.specs.Meaning.{D, is_there, option_of}
use Rattle.std.specs.Prelude.{Option, Result, IfErr, IsErrAnd}
use Rattle.std.proofs.lemmas.Result.{err_from_is_err_and}
use Rattle.vs_ast.specs.declared.modules.Module.{Module as ModuleNode}
use Rattle.vs_ast.specs.Views as view
use Rattle.vs_statements.specs.declared.error.ParseError.{ParseError}
use Rattle.vs_statements.specs.declared.error.ParseError.TheVariants.{Memory}
use Rattle.vs_statements.specs.declared.input.Input.{Input}
use Rattle.vs_parser.specs.Headings as part
use Rattle.vs_parser.specs.Headings.{PortRead, PortsStep, PortsGrown, PortsRead, ParametersStep, ParametersGrown, ParametersRead}
use Rattle.vs_parser.specs.Parts.{is_variable, port_name, port_name_of}
use Rattle.vs_parser.specs.Directions.{Directed}
use Rattle.vs_statements.specs.Reading.{kind_at, terminal_at, bytes_in, Took, Read, Refused, Parsed}
use Rattle.vs_parser.proofs.Fronts.{read_front}
use Rattle.vs_parser.proofs.Directions.{directed_refused, directed_further, ports_read}
use Rattle.vs_statements.proofs.Lists.{not_back}
use Rattle.vs_statements.proofs.Places.{parsed, read_eps, read_tok, read_seq, read_former, read_latter, read_many, read_var, refused_former, refused_latter, refused_then, refused_var, grown_start, grown_more, ap3}

names_nil : (s : Signals) → part.with_names s [] ≡ s
names_nil s = ap (λ z. record s { names = z }) (append-nil s.names)

names_more : (s : Signals) (n : Declarator) (ns : List Declarator) → part.with_names s (n ∷ ns) ≡ part.with_names (part.with_names s (n ∷ [])) ns
names_more s n ns = ap (λ z. record s { names = z }) (sym (append_assoc s.names (n ∷ []) ns))

after : {A : Type 0} (list : List A) (x : A) (rest : List A) → list ++ (x ∷ rest) ≡ (list ++ (x ∷ [])) ++ rest
after list x rest = sym (append_assoc list (x ∷ []) rest)

-- ---- behind the name of a port

-- a comma and what is behind it
abbrev pub behind_comma : (v : Bool) → D (t kind.Comma ⨾ part.port_step v) → D (part.tail v)
behind_comma true a = named (former a)
behind_comma false a = named (former a)

read_comma : {ts : List Token} {d : ℕ} (v : Bool) {a : D (t kind.Comma ⨾ part.port_step v)} {i j : ℕ} → is_member (kind_at ts i) (46 ∷ []) ≡ true → Read ts d (t kind.Comma ⨾ part.port_step v) a i j → Read ts d (part.tail v) (behind_comma v a) i j
read_comma true m p = read_var (read_former m p)
read_comma false m p = read_var (read_former m p)

pub refused_comma : {ts : List Token} {d : ℕ} (v : Bool) {i : ℕ} {e : ParseError} → is_member (kind_at ts i) (46 ∷ []) ≡ true → Refused ts d (t kind.Comma ⨾ part.port_step v) i e → Refused ts d (part.tail v) i e
refused_comma true m p = refused_var (refused_former m p)
refused_comma false m p = refused_var (refused_former m p)

comma_made : (b : ℕ → List ℕ) (v : Bool) (last : Signals) (c : D (t kind.Comma)) (x : D (part.port_step v)) → part.ports_with last (part.names_behind v b (behind_comma v (both c x))) (part.ports_behind v b (behind_comma v (both c x))) ≡ part.ports_with last (part.step_names v b x) (part.step_ports v b x)
comma_made b true last c (former p) = refl
comma_made b true last c (latter (both n l)) = refl
comma_made b false last c (former p) = refl
comma_made b false last c (latter (both n l)) = refl

-- nothing is there
abbrev nothing_behind : (v : Bool) → D (part.tail v)
nothing_behind true = named (latter nothing)
nothing_behind false = named (latter nothing)

read_nothing : {ts : List Token} {d : ℕ} (v : Bool) {i : ℕ} → d ≤ 200 → is_member (kind_at ts i) (46 ∷ []) ≡ false → Read ts d (part.tail v) (nothing_behind v) i i
read_nothing {ts} {d} true {i} s m = read_var (read_latter m (read_eps ts d i s))
read_nothing {ts} {d} false {i} s m = read_var (read_latter m (read_eps ts d i s))

nothing_made : (b : ℕ → List ℕ) (v : Bool) (last : Signals) → part.ports_with last (part.names_behind v b (nothing_behind v)) (part.ports_behind v b (nothing_behind v)) ≡ last ∷ []
nothing_made b true last = ap (λ z. z ∷ []) (names_nil last)
nothing_made b false last = ap (λ z. z ∷ []) (names_nil last)

-- ---- the ports of a header

pub port_read :
    {input : Input} {d i : ℕ} {k : SignalKind} {j : ℕ} {s : D (opt (t kind.KeywordSigned))} {j1 : ℕ} {g : D (opt (r rule.Range))} {j2 : ℕ} {n : D (port_name (is_variable k))} {j3 : ℕ} {signed : Bool} {range : Option RangeTree} {name : Declarator} {names : List Declarator} →
    d ≤ 200 → Directed input.tokens.now d i k j → Read input.tokens.now d (opt (t kind.KeywordSigned)) s j j1 → Read input.tokens.now d (opt (r rule.Range)) g j1 j2 → Read input.tokens.now d (port_name (is_variable k)) n j2 j3 →
    is_there s ≡ signed → option_of (meaning.range_of (bytes_in input)) g ≡ range → port_name_of (is_variable k) (bytes_in input) n ≡ name → names ≡ name ∷ [] → PortRead input d i (part.signals_with i k signed range names) j3
port_read {input} {d} {i} {k} {j} {s} {j1} {g} {j2} {n} {j3} {signed} {range} {name} {names} h q u v w e1 e2 e3 e4 = record {
  read = λ l m p. let a = ports_read {input = input} h q (read_seq u (read_seq v (read_seq w p))) in parsed a.read (a.made ∙ ap (λ z. z ∷ part.ports_behind (is_variable k) (bytes_in input) l) (
      ap3 (λ x y z. part.signals_with i k x y (z ∷ part.names_behind (is_variable k) (bytes_in input) l)) e1 e2 e3
      ∙ ap (λ z. part.signals_with i k signed range (z ++ part.names_behind (is_variable k) (bytes_in input) l)) (sym e4)));
  refused = λ e p. refused_var (directed_refused (λ z. signed_range (port_name z ⨾ part.tail z)) h q (refused_then u (refused_then v (refused_then w p))));
  further = let a = directed_further h q in let b = not_back u in let c = not_back v in let f = not_back w in omega arith;
}

pub port_behind : {input : Input} {d i : ℕ} {value : Signals} {j : ℕ} (list : List Signals) (last : Signals) → is_member (kind_at input.tokens.now i) (15 ∷ 16 ∷ []) ≡ true → PortRead input d i value j → PortsStep input list last d i (list ++ (last ∷ [])) value j
port_behind {input} {value = value} list last m q = record {
  read = λ l k p. let a = q.read l k p in record {
    tree = former a.tree;
    read = read_former m a.read;
    made = ap (λ z. list ++ (z ∷ meaning.ports_from (bytes_in input) a.tree)) (names_nil last) ∙ ap (λ z. list ++ (last ∷ z)) a.made ∙ after list last _;
  };
  refused = λ e p. refused_former m (q.refused e p);
  further = q.further;
}

more_names : {input : Input} {d i j : ℕ} {name : Declarator} (list : List Signals) (last : Signals) {n : D (port_name (is_variable last.kind))} → is_member (kind_at input.tokens.now i) (15 ∷ 16 ∷ []) ≡ false → Read input.tokens.now d (port_name (is_variable last.kind)) n i j → port_name_of (is_variable last.kind) (bytes_in input) n ≡ name → PortsStep input list last d i list (part.with_names last (name ∷ [])) j
more_names {input} {name = name} list last {n} m w e = record {
  read = λ l k p. record {
    tree = latter (both n l);
    read = read_latter m (read_seq w p);
    made = ap (λ z. list ++ (z ∷ part.ports_behind (is_variable last.kind) (bytes_in input) l)) (
        ap (λ z. part.with_names last (z ∷ part.names_behind (is_variable last.kind) (bytes_in input) l)) e ∙ names_more last name (part.names_behind (is_variable last.kind) (bytes_in input) l));
  };
  refused = λ e p. refused_latter m (refused_then w p);
  further = not_back w;
}

pub name_behind : {input : Input} {d i j : ℕ} {name : Declarator} {next : Signals} (list : List Signals) (last : Signals) {n : D (port_name (is_variable last.kind))} → is_member (kind_at input.tokens.now i) (15 ∷ 16 ∷ []) ≡ false → Read input.tokens.now d (port_name (is_variable last.kind)) n i j → port_name_of (is_variable last.kind) (bytes_in input) n ≡ name → next ≡ part.with_names last (name ∷ []) → PortsStep input list last d i list next j
name_behind {input} {d} {i} {j} {name} {next} list last m w e f = subst (λ (z : Signals). PortsStep input list last d i list z j) (sym f) (more_names list last m w e)

pub ports_start : (input : Input) (first : Signals) (d i : ℕ) → PortsGrown input first d i [] first i
ports_start input first d i = record { read = λ l k p. record { tree = l; read = p; made = refl }; refused = λ e p. p }

pub ports_more : {input : Input} {first : Signals} {d i : ℕ} {list : List Signals} {last : Signals} {j k : ℕ} {longer : List Signals} {next : Signals} {m : ℕ} → d ≤ 200 → PortsGrown input first d i list last j → is_member (kind_at input.tokens.now j) (46 ∷ []) ≡ true → Took input.tokens.now 46 j k → PortsStep input list last d k longer next m → PortsGrown input first d i longer next m
ports_more {input} {list = list} {last = last} {j = j} h g n w s = record {
  read = λ l k p.
      let a = s.read l k p in
      let c = g.read (behind_comma (is_variable last.kind) (both (leaf (terminal_at input.tokens.now j)) a.tree)) k (read_comma (is_variable last.kind) n (read_seq (read_tok h w) a.read)) in
      record { tree = c.tree; read = c.read; made = c.made ∙ ap (λ z. list ++ z) (comma_made (bytes_in input) (is_variable last.kind) last (leaf (terminal_at input.tokens.now j)) a.tree) ∙ a.made };
  refused = λ e p. g.refused e (refused_comma (is_variable last.kind) n (refused_then (read_tok h w) (s.refused e p)));
}

pub ports_done : {input : Input} {first : Signals} {d i : ℕ} {list : List Signals} {last : Signals} {j : ℕ} (all : List Signals) → d ≤ 200 → PortsGrown input first d i list last j → is_member (kind_at input.tokens.now j) (46 ∷ []) ≡ false → all ≡ list ++ (last ∷ []) → PortsRead input first d i all j
ports_done {input} {list = list} {last = last} {j = j} all h g n e =
    let a = g.read (nothing_behind (is_variable last.kind)) j (read_nothing (is_variable last.kind) h n) in
    record { tree = a.tree; read = a.read; made = a.made ∙ ap (λ z. list ++ z) (nothing_made (bytes_in input) (is_variable last.kind) last) ∙ sym e }

-- ---- the parameters of a header

settings_nil : (p : Parameters) → part.with_settings p [] ≡ p
settings_nil p = ap (λ z. record p { settings = z }) (append-nil p.settings)

settings_more : (p : Parameters) (n : Setting) (ns : List Setting) → part.with_settings p (n ∷ ns) ≡ part.with_settings (part.with_settings p (n ∷ [])) ns
settings_more p n ns = ap (λ z. record p { settings = z }) (sym (append_assoc p.settings (n ∷ []) ns))

-- a declaration with further settings
declared_more : (b : ℕ → List ℕ) (place : ℕ) (w : D (r rule.ValueType)) (u : Setting) (value : Parameters) → meaning.parameters_of b place false w (u ∷ []) ≡ value → (settings : List Setting) → meaning.parameters_of b place false w (u ∷ settings) ≡ part.with_settings value settings
declared_more b place w u value e settings = ap (λ z. part.with_settings z settings) e

pub declaration_behind : {input : Input} {d i j : ℕ} {value : Parameters} (list : List Parameters) (last : Parameters) (q : D part.next_declaration) → Read input.tokens.now d part.parameter_step (former q) i j → part.next_declaration_of (bytes_in input) q ≡ value → ParametersStep input list last d i (list ++ (last ∷ [])) value j
declaration_behind {input} {value = value} list last (both (leaf a) (both w u)) v e = record {
  tree = former (both (leaf a) (both w u));
  read = v;
  made = λ place y s l c h settings rest. h [] (meaning.parameters_of (bytes_in input) a.place false w (meaning.setting_of (bytes_in input) u ∷ settings) ∷ rest) ∙ ap (λ z. list ++ (z ∷ (meaning.parameters_of (bytes_in input) a.place false w (meaning.setting_of (bytes_in input) u ∷ settings) ∷ rest))) (settings_nil last) ∙ ap (λ z. list ++ (last ∷ (z ∷ rest))) (declared_more (bytes_in input) a.place w (meaning.setting_of (bytes_in input) u) value e settings) ∙ after list last (part.with_settings value settings ∷ rest);
}

pub setting_behind : {input : Input} {d i j : ℕ} {n : D (r rule.Setting)} {setting : Setting} {next : Parameters} (list : List Parameters) (last : Parameters) → Read input.tokens.now d part.parameter_step (latter n) i j → meaning.setting_of (bytes_in input) n ≡ setting → next ≡ part.with_settings last (setting ∷ []) → ParametersStep input list last d i list next j
setting_behind {input} {n = n} {setting} {next} list last w e f = record {
  tree = latter n;
  read = w;
  made = λ place y s l c h settings rest. h (meaning.setting_of (bytes_in input) n ∷ settings) rest ∙ ap (λ z. list ++ (part.with_settings last (z ∷ settings) ∷ rest)) e ∙ ap (λ z. list ++ (z ∷ rest)) (settings_more last setting settings ∙ ap (λ z. part.with_settings z settings) (sym f));
}

pub parameters_start : (input : Input) (first : Parameters) (d i : ℕ) → d ≤ 200 → ParametersGrown input first d i [] first i
parameters_start input first d i s = record { tree = start nothing; grown = grown_start (read_eps input.tokens.now d i s); made = λ place y u h settings rest. ap (λ z. z ∷ rest) (h settings) }

pub parameters_more : {input : Input} {first : Parameters} {d i : ℕ} {list : List Parameters} {last : Parameters} {j k : ℕ} {longer : List Parameters} {next : Parameters} {m : ℕ} {c : D (t kind.Comma)} → ParametersGrown input first d i list last j → is_member (kind_at input.tokens.now j) (46 ∷ []) ≡ true → (p : ParametersStep input list last d k longer next m) → Read input.tokens.now d (t kind.Comma ⨾ part.parameter_step) (both c p.tree) j m → ParametersGrown input first d i longer next m
parameters_more {c = c} g n p w = record { tree = grown g.tree (both c p.tree); grown = grown_more g.grown n w; made = λ place y u h. p.made place y u g.tree c (g.made place y u h) }

pub parameters_done : {input : Input} {first : Parameters} {d i : ℕ} {list : List Parameters} {last : Parameters} {j : ℕ} (all : List Parameters) → ParametersGrown input first d i list last j → is_member (kind_at input.tokens.now j) (46 ∷ []) ≡ false → all ≡ list ++ (last ∷ []) → ParametersRead input first d i all j
parameters_done {list = list} {last = last} all g n e = record { tree = g.tree; read = read_many g.grown n; made = λ place y u h. g.made place y u h [] [] ∙ ap (λ z. list ++ (z ∷ [])) (settings_nil last) ∙ sym e }

-- the first declaration of a header
pub declared_first : (b : ℕ → List ℕ) (place : ℕ) (w : D (r rule.ValueType)) (s : D (r rule.Setting)) (first : Parameters) → meaning.parameters_of b place false w (meaning.setting_of b s ∷ []) ≡ first → (settings : List Setting) → meaning.parameters_of b place false w (meaning.setting_of b s ∷ settings) ≡ part.with_settings first settings
declared_first b place w s first e = declared_more b place w (meaning.setting_of b s) first e

pub map_pushed : {A T : Type 0} (f : T → A) (list longer : List T) (v : T) → longer ≡ list ++ (v ∷ []) → map f longer ≡ map f list ++ (f v ∷ [])
map_pushed {A} {T} f list longer v e = ap (map f) e ∙ go list
  where
    go : (l : List T) → map f (l ++ (v ∷ [])) ≡ map f l ++ (f v ∷ [])
    go [] = refl
    go (x ∷ l) = ap (λ z. f x ∷ z) (go l)

pub header_made : (b : ℕ → List ℕ) (o : D (t kind.OpenParen)) (p : D (opt (r rule.Ports))) (z : D (t kind.CloseParen)) → meaning.header_of b (former (both o (both p z))) ≡ part.optional_ports_of b p
header_made b o (former p) z = refl
header_made b o (latter n) z = refl

pub modules_made : (b : ℕ → List ℕ) (m : D (r rule.Module)) (l : D (star (r rule.Module))) (first : ModuleNode) (begun list : List ModuleNode) → meaning.module_of b m ≡ view.module_tree first → begun ≡ first ∷ [] → map view.module_tree begun ++ meaning.each_onto (meaning.module_of b) l [] ≡ map view.module_tree list → meaning.module_of b m ∷ meaning.each_onto (meaning.module_of b) l [] ≡ map view.module_tree list
modules_made b m l first begun list p q e = ap (λ z. z ∷ meaning.each_onto (meaning.module_of b) l []) p ∙ ap (λ z. map view.module_tree z ++ meaning.each_onto (meaning.module_of b) l []) (sym q) ∙ e

pub memory_exit : {A : Type 0} (r : Result A ParseError) (e : ParseError) → IsErrAnd r (λ y. y ≡ e) → e ≡ Memory → IfErr r (λ y. y ≡ Memory)
memory_exit {A} r e h q = let p = err_from_is_err_and r h in rw p.1 (p.2 ∙ q)

-- the parameters of a header, by its first declaration
pub header_parameters_read : {input : Input} {d i : ℕ} {first : Parameters} {j : ℕ} {list : List Parameters} {k : ℕ} → Parsed input part.next_declaration part.next_declaration_of d i first j → ParametersRead input first d j list k → Parsed input (r rule.HeaderParameters) meaning.header_parameters d i list k
header_parameters_read {input} {d} {i} {first} {j} {list} {k} p q = go p.tree p.read p.made
  where
    go : (a : D part.next_declaration) → Read input.tokens.now d part.next_declaration a i j → part.next_declaration_of (bytes_in input) a ≡ first → Parsed input (r rule.HeaderParameters) meaning.header_parameters d i list k
    go (both (leaf u) (both y s)) w m = parsed (read_var (read_front w q.read)) (q.made u.place y s (declared_first (bytes_in input) u.place y s first m))
