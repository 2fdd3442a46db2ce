-- The tokens that are spelled in one way.
use Rattle.std.specs.Prelude.{ℕ, List, [], ◌∷◌, ◌||◌, Bool, false, codes, Option, Some, None, if◌then◌else◌}
use Rattle.std.specs.Str.{bytes_eq}
use Rattle.vs_lexer.specs.declared.token.TokenKind.{TokenKind}
use Rattle.vs_lexer.specs.declared.token.TokenKind.TheVariants as kind

-- a spelling and its kind
abbrev pub Spelling : Type 0
Spelling = List ℕ × TokenKind

-- the operators and punctuation marks (IEEE 1364-2005, 3.4 and table 5-1)
unfoldable pub signs : List Spelling
signs =
    (codes "(", kind.OpenParen) ∷ (codes ")", kind.CloseParen) ∷ (codes "[", kind.OpenBracket) ∷ (codes "]", kind.CloseBracket) ∷ (codes "{", kind.OpenBrace) ∷
    (codes "}", kind.CloseBrace) ∷ (codes ";", kind.Semicolon) ∷ (codes ":", kind.Colon) ∷ (codes ",", kind.Comma) ∷ (codes ".", kind.Dot) ∷ (codes "?", kind.Question) ∷
    (codes "@", kind.At) ∷ (codes "#", kind.Hash) ∷ (codes "=", kind.Assign) ∷ (codes "+", kind.Plus) ∷ (codes "-", kind.Minus) ∷ (codes "*", kind.Star) ∷
    (codes "/", kind.Slash) ∷ (codes "%", kind.Percent) ∷ (codes "~", kind.Tilde) ∷ (codes "!", kind.Bang) ∷ (codes "&", kind.And) ∷ (codes "|", kind.Or) ∷
    (codes "^", kind.Caret) ∷ (codes "<", kind.Less) ∷ (codes ">", kind.Greater) ∷ (codes "&&", kind.AndAnd) ∷ (codes "||", kind.OrOr) ∷ (codes "==", kind.Equal) ∷
    (codes "!=", kind.NotEqual) ∷ (codes "===", kind.CaseEqual) ∷ (codes "!==", kind.CaseNotEqual) ∷ (codes "<=", kind.LessEqual) ∷ (codes ">=", kind.GreaterEqual) ∷
    (codes "<<", kind.ShiftLeft) ∷ (codes ">>", kind.ShiftRight) ∷ (codes "<<<", kind.ArithmeticShiftLeft) ∷ (codes ">>>", kind.ArithmeticShiftRight) ∷
    (codes "~&", kind.Nand) ∷ (codes "~|", kind.Nor) ∷ (codes "~^", kind.Xnor) ∷ (codes "^~", kind.XnorCaret) ∷ (codes "+:", kind.PlusColon) ∷
    (codes "-:", kind.MinusColon) ∷ (codes "**", kind.Power) ∷ (codes "->", kind.Arrow) ∷ []

-- the keywords that the grammar has (3.7.2, annex B)
unfoldable pub keywords : List Spelling
keywords =
    (codes "module", kind.KeywordModule) ∷ (codes "endmodule", kind.KeywordEndModule) ∷ (codes "parameter", kind.KeywordParameter) ∷ (codes "signed", kind.KeywordSigned) ∷
    (codes "input", kind.KeywordInput) ∷ (codes "output", kind.KeywordOutput) ∷ (codes "wire", kind.KeywordWire) ∷ (codes "reg", kind.KeywordReg) ∷
    (codes "generate", kind.KeywordGenerate) ∷ (codes "endgenerate", kind.KeywordEndGenerate) ∷ (codes "localparam", kind.KeywordLocalParam) ∷
    (codes "assign", kind.KeywordAssign) ∷ (codes "always", kind.KeywordAlways) ∷ (codes "genvar", kind.KeywordGenvar) ∷ (codes "for", kind.KeywordFor) ∷
    (codes "if", kind.KeywordIf) ∷ (codes "else", kind.KeywordElse) ∷ (codes "case", kind.KeywordCase) ∷ (codes "casez", kind.KeywordCasez) ∷
    (codes "casex", kind.KeywordCasex) ∷ (codes "endcase", kind.KeywordEndCase) ∷ (codes "default", kind.KeywordDefault) ∷ (codes "begin", kind.KeywordBegin) ∷
    (codes "end", kind.KeywordEnd) ∷ (codes "posedge", kind.KeywordPosedge) ∷ (codes "negedge", kind.KeywordNegedge) ∷ (codes "or", kind.KeywordOr) ∷
    (codes "function", kind.KeywordFunction) ∷ (codes "endfunction", kind.KeywordEndFunction) ∷ (codes "integer", kind.KeywordInteger) ∷
    (codes "initial", kind.KeywordInitial) ∷ []

-- the other keywords of the standard (annex B): reserved, and left out
unfoldable pub left_out_words : List (List ℕ)
left_out_words =
    codes "and" ∷ codes "automatic" ∷ codes "buf" ∷ codes "bufif0" ∷ codes "bufif1" ∷ codes "cell" ∷ codes "cmos" ∷ codes "config" ∷ codes "deassign" ∷ codes "defparam" ∷
    codes "design" ∷ codes "disable" ∷ codes "edge" ∷ codes "endconfig" ∷ codes "endprimitive" ∷ codes "endspecify" ∷ codes "endtable" ∷
    codes "endtask" ∷ codes "event" ∷ codes "force" ∷ codes "forever" ∷ codes "fork" ∷ codes "highz0" ∷ codes "highz1" ∷ codes "ifnone" ∷
    codes "incdir" ∷ codes "include" ∷ codes "inout" ∷ codes "instance" ∷ codes "join" ∷ codes "large" ∷ codes "liblist" ∷
    codes "library" ∷ codes "macromodule" ∷ codes "medium" ∷ codes "nand" ∷ codes "nmos" ∷ codes "nor" ∷ codes "noshowcancelled" ∷ codes "not" ∷ codes "notif0" ∷
    codes "notif1" ∷ codes "pmos" ∷ codes "primitive" ∷ codes "pull0" ∷ codes "pull1" ∷ codes "pulldown" ∷ codes "pullup" ∷ codes "pulsestyle_ondetect" ∷
    codes "pulsestyle_onevent" ∷ codes "rcmos" ∷ codes "real" ∷ codes "realtime" ∷ codes "release" ∷ codes "repeat" ∷ codes "rnmos" ∷ codes "rpmos" ∷ codes "rtran" ∷
    codes "rtranif0" ∷ codes "rtranif1" ∷ codes "scalared" ∷ codes "showcancelled" ∷ codes "small" ∷ codes "specify" ∷ codes "specparam" ∷ codes "strong0" ∷
    codes "strong1" ∷ codes "supply0" ∷ codes "supply1" ∷ codes "table" ∷ codes "task" ∷ codes "time" ∷ codes "tran" ∷ codes "tranif0" ∷ codes "tranif1" ∷ codes "tri" ∷
    codes "tri0" ∷ codes "tri1" ∷ codes "triand" ∷ codes "trior" ∷ codes "trireg" ∷ codes "unsigned" ∷ codes "use" ∷ codes "uwire" ∷ codes "vectored" ∷ codes "wait" ∷
    codes "wand" ∷ codes "weak0" ∷ codes "weak1" ∷ codes "while" ∷ codes "wor" ∷ codes "xnor" ∷ codes "xor" ∷ []

-- the system functions of expressions (3.7.3, 5.5, 17.11)
unfoldable pub system_names : List Spelling
system_names = (codes "$signed", kind.SystemSigned) ∷ (codes "$unsigned", kind.SystemUnsigned) ∷ (codes "$clog2", kind.SystemClog2) ∷ []

-- the kind that a table gives a spelling
abbrev pub find_spelling : List Spelling → List ℕ → Option TokenKind
find_spelling [] text = None
find_spelling (s ∷ ss) text = if bytes_eq s.0 text then Some s.1 else find_spelling ss text

-- the text is one of these
abbrev pub is_among : List (List ℕ) → List ℕ → Bool
is_among [] text = false
is_among (w ∷ ws) text = bytes_eq w text || is_among ws text
