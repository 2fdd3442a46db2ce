-- What stands behind the words of a direction, read and refused with them.
use Rattle.std.proofs.Common.{◌≡◌, ℕ, ◌-◌, ◌<◌, ◌≤◌, Bool, true, false, List, [], ◌∷◌, refl, sym, ◌∙◌, ap, arith, length}
use Rattle.vs_lexer.specs.declared.token.Token.{Token}
use Rattle.vs_lexer.specs.declared.token.TokenKind.TheVariants as kind
use Rattle.vs_grammar.specs.Grammars.{Phrase, opt}
use Rattle.vs_grammar.specs.Grammars.Tree.{both, former, latter}
use Rattle.vs_grammar.specs.Kinds.{number_of}
use Rattle.vs_grammar.specs.Predictive.{is_member}
use Rattle.vs_grammar.specs.Verilog.{◌⨾◌, t, r, signed_range, port_declaration, port_item}
use Rattle.vs_grammar.specs.Verilog.{Rule as rule}
use Rattle.vs_grammar.specs.Trees as tree
use Rattle.vs_grammar.specs.Trees.{SignalKind}
use Rattle.vs_grammar.specs.Meaning as meaning
use Rattle.vs_grammar.specs.Meaning.{D, is_there, option_of}
use Rattle.vs_ast.specs.declared.items.SignalKind.{SignalKind as SignalKindNode}
use Rattle.vs_ast.specs.Views as view
use Rattle.vs_statements.specs.declared.error.ParseError.{ParseError}
use Rattle.vs_statements.specs.declared.input.Input.{Input}
use Rattle.vs_statements.specs.Reading.{kind_at, Took, Read, Refused, Parsed, bytes_in}
use Rattle.vs_statements.proofs.Lists.{shorter, not_back}
use Rattle.vs_statements.proofs.Places.{read_tok, read_seq, read_var, read_former, read_latter, refused_former, refused_latter, refused_then, parsed, known, took_kind, first_took}
use Rattle.vs_parser.specs.Parts as part
use Rattle.vs_parser.specs.Parts.{is_variable}
use Rattle.vs_parser.specs.Directions.{Directed}
use Rattle.vs_parser.specs.Directions.Directed.{an_input, an_output, an_output_reg}
use Rattle.vs_parser.specs.Headings.{signals_with, tail, names_behind, ports_behind}

pub input_made : (w : D (opt (t kind.KeywordWire))) (b : Bool) (k : SignalKindNode) → is_there w ≡ b → view.signal_kind k ≡ part.input_kind b → meaning.input_kind w ≡ view.signal_kind k
input_made (former w) b k e f = ap part.input_kind e ∙ sym f
input_made (latter z) b k e f = ap part.input_kind e ∙ sym f

pub output_made : (w : D (opt (t kind.KeywordWire))) (b : Bool) (k : SignalKindNode) → is_there w ≡ b → view.signal_kind k ≡ part.output_kind b → meaning.output_kind w ≡ view.signal_kind k
output_made (former w) b k e f = ap part.output_kind e ∙ sym f
output_made (latter z) b k e f = ap part.output_kind e ∙ sym f

not_input : {ts : List Token} {i j : ℕ} → Took ts 16 i j → is_member (kind_at ts i) (15 ∷ []) ≡ false
not_input {ts} {i} w = known ts i 16 (15 ∷ []) false (took_kind w) refl

-- what is refused behind a direction, where that may be one of two
pub directed_refused :
    {ts : List Token} {d i : ℕ} {k : SignalKind} {j : ℕ} {e : ParseError} (behind : Bool → Phrase) → d ≤ 200 → Directed ts d i k j → Refused ts d (behind (is_variable k)) j e →
    Refused ts d (port_declaration (behind false) (behind true)) i e
directed_refused behind s (an_input (former w) o p) q = refused_former (first_took o) (refused_then (read_tok s o) (refused_then p q))
directed_refused behind s (an_input (latter z) o p) q = refused_former (first_took o) (refused_then (read_tok s o) (refused_then p q))
directed_refused behind s (an_output (former w) o n p) q = refused_latter (not_input o) (refused_then (read_tok s o) (refused_latter n (refused_then p q)))
directed_refused behind s (an_output (latter z) o n p) q = refused_latter (not_input o) (refused_then (read_tok s o) (refused_latter n (refused_then p q)))
directed_refused behind s (an_output_reg o w) q = refused_latter (not_input o) (refused_then (read_tok s o) (refused_former (first_took w) (refused_then (read_tok s w) q)))

pub directed_further : {ts : List Token} {d i : ℕ} {k : SignalKind} {j : ℕ} → d ≤ 200 → Directed ts d i k j → length ts - j < length ts - i
directed_further s (an_input w o p) = let h = shorter (read_tok s o) refl in let g = not_back p in omega arith
directed_further s (an_output w o n p) = let h = shorter (read_tok s o) refl in let g = not_back p in omega arith
directed_further s (an_output_reg o w) = let h = shorter (read_tok s o) refl in let g = not_back (read_tok s w) in omega arith

-- a declaration of ports, by its names
pub port_item_read :
    {input : Input} {d i : ℕ} {k : SignalKind} {j : ℕ} {s : D (opt (t kind.KeywordSigned))} {g : D (opt (r rule.Range))} {n : D (part.port_names (is_variable k))} {z : D (t kind.Semicolon)} {m : ℕ} → d ≤ 200 →
    Directed input.tokens.now d i k j → Read input.tokens.now d (signed_range (part.port_names (is_variable k) ⨾ t kind.Semicolon)) (both s (both g (both n z))) j m →
    Parsed input port_item meaning.port_item_of d i (tree.SignalsItem (signals_with i k (is_there s) (option_of (meaning.range_of (bytes_in input)) g) (part.port_names_of (is_variable k) (bytes_in input) n))) m
port_item_read s (an_input (former w) o p) q = parsed (read_former (first_took o) (read_seq (read_tok s o) (read_seq p q))) refl
port_item_read s (an_input (latter z) o p) q = parsed (read_former (first_took o) (read_seq (read_tok s o) (read_seq p q))) refl
port_item_read s (an_output (former w) o n p) q = parsed (read_latter (not_input o) (read_seq (read_tok s o) (read_latter n (read_seq p q)))) refl
port_item_read s (an_output (latter z) o n p) q = parsed (read_latter (not_input o) (read_seq (read_tok s o) (read_latter n (read_seq p q)))) refl
port_item_read s (an_output_reg o w) q = parsed (read_latter (not_input o) (read_seq (read_tok s o) (read_former (first_took w) (read_seq (read_tok s w) q)))) refl

-- the ports of a header from one on, by its first name and what stands behind that
pub ports_read :
    {input : Input} {d i : ℕ} {k : SignalKind} {j : ℕ} {s : D (opt (t kind.KeywordSigned))} {g : D (opt (r rule.Range))} {n : D (part.port_name (is_variable k))} {l : D (tail (is_variable k))} {m : ℕ} →
    d ≤ 200 → Directed input.tokens.now d i k j → Read input.tokens.now d (signed_range (part.port_name (is_variable k) ⨾ tail (is_variable k))) (both s (both g (both n l))) j m →
    Parsed input (r rule.Port) meaning.ports_from d i (
    meaning.declared_by (bytes_in input) i k (both s g) (part.port_name_of (is_variable k) (bytes_in input) n ∷ names_behind (is_variable k) (bytes_in input) l)
    ∷ ports_behind (is_variable k) (bytes_in input) l) m
ports_read s (an_input (former w) o p) q = parsed (read_var (read_former (first_took o) (read_seq (read_tok s o) (read_seq p q)))) refl
ports_read s (an_input (latter z) o p) q = parsed (read_var (read_former (first_took o) (read_seq (read_tok s o) (read_seq p q)))) refl
ports_read s (an_output (former w) o n p) q = parsed (read_var (read_latter (not_input o) (read_seq (read_tok s o) (read_latter n (read_seq p q))))) refl
ports_read s (an_output (latter z) o n p) q = parsed (read_var (read_latter (not_input o) (read_seq (read_tok s o) (read_latter n (read_seq p q))))) refl
ports_read s (an_output_reg o w) q = parsed (read_var (read_latter (not_input o) (read_seq (read_tok s o) (read_former (first_took w) (read_seq (read_tok s w) q))))) refl
