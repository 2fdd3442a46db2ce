-- Operators and their operands.
use Rattle.std.proofs.Common.{◌≡◌, ℕ, true, false, List, [], ◌∷◌, ◌++◌, map, append-nil, refl, sym, ◌∙◌, ap, subst, arith, ◌+◌, ◌<◌, ◌≤◌, max, length, inl, inr}
use Rattle.vs_lexer.specs.declared.token.Token.{Token}
use Rattle.vs_lexer.specs.declared.token.TokenKind.TheVariants as kind
use Rattle.vs_grammar.specs.Grammars.{Phrase, depth, star}
use Rattle.vs_grammar.specs.Grammars.Phrase.{tok, many, post, var}
use Rattle.vs_grammar.specs.Grammars.Tree.{leaf, nothing, latter, both, start, grown, behind, named}
use Rattle.vs_grammar.specs.Predictive.{is_member, firsts_of, can_be_empty, Reads, Grows, Stops, Sinks}
use Rattle.vs_grammar.specs.Predictive.Reads.{r_seq, r_many, r_behind}
use Rattle.vs_grammar.specs.Predictive.Grows.{g_start, g_grown}
use Rattle.vs_grammar.specs.Predictive.Stops.{s_then, s_grown, s_behind}
use Rattle.vs_grammar.specs.Predictive.Sinks.{k_tok, k_seq, k_then, k_grown, k_behind}
use Rattle.vs_grammar.specs.Verilog.{◌⨾◌, verilog, t, r}
use Rattle.vs_grammar.specs.Verilog.{Rule as rule}
use Rattle.vs_grammar.specs.Trees.{Expr, BinaryOp, Binary, Exprs, NoExpr, AndExpr}
use Rattle.vs_grammar.specs.Meaning as meaning
use Rattle.vs_grammar.specs.Meaning.{D, each_onto, behind_sign}
use Rattle.vs_ast.specs.Views as view
use Rattle.vs_base.specs.declared.operators.BinaryOp.{BinaryOp as Operator}
use Rattle.vs_ast.specs.declared.expressions.Expr.{Expr as ExprNode}
use Rattle.vs_statements.specs.declared.input.Input.{Input}
use Rattle.vs_statements.specs.declared.levels.Level.{Level}
use Rattle.vs_statements.specs.declared.levels.Level.TheVariants as level
use Rattle.vs_statements.specs.declared.error.ParseError.{ParseError}
use Rattle.vs_statements.specs.declared.error.ParseError.TheVariants.{TooDeep}
use Rattle.vs_statements.specs.Levels.{is_unary_level, below_of, table_of, level_phrase, level_operator, level_op, level_of, Chain}
use Rattle.vs_statements.specs.Reading.{kind_at, kinds_in, from, Took, Read, Refused, Measured, Growing, Chosen, Picked, IsBeside, Gathering, MeasuredList, terminal_at, bytes_in}
use Rattle.vs_statements.specs.Reading.Refused.{stopped, too_deep, out_of_memory}
use Rattle.vs_statements.proofs.Places.{at_head, to_head, refused_var, refused_start, read_var, read_eps, read_seq, read_tok, read_many, grown_start, grown_more, first_took, known}
use Rattle.vs_statements.proofs.Tables.{chosen_tok, chosen_former, chosen_latter}

-- ---- any operands and operators

pub growing_start : {input : Input} {o y : Phrase} {op : D o → BinaryOp} {of : (ℕ → List ℕ) → D y → Expr} {d i : ℕ} {value : Expr} {j height : ℕ} (chain : (ℕ → List ℕ) → D (many true y (o ⨾ y)) → Expr) → ((b : ℕ → List ℕ) (a : D y) → chain b (start a) ≡ of b a) → Measured input y of d i value j height → Growing input o y op of chain d i value j height
growing_start {input = input} chain e p = record { tree = start p.tree; grown = record { grows = g_start (p.read).reads; fits = (p.read).fits }; made = e (bytes_in input) p.tree ∙ p.made; high = p.high }

pub growing_more : {input : Input} {o y : Phrase} {op : D o → BinaryOp} {of : (ℕ → List ℕ) → D y → Expr} {chain : (ℕ → List ℕ) → D (many true y (o ⨾ y)) → Expr} {d i : ℕ} {value : Expr} {j height : ℕ} {f : ℕ} {p : BinaryOp} {k : ℕ} {right : Expr} {n high : ℕ} {both_of : Expr} {now : ℕ} → ((b : ℕ → List ℕ) (a : D (many true y (o ⨾ y))) (c : D o) (e : D y) → chain b (grown a (both c e)) ≡ Binary (op c) (chain b a) (of b e)) → is_member (kind_at input.tokens.now j) (firsts_of verilog (o ⨾ y)) ≡ true → Growing input o y op of chain d i value j height → f ≡ d + 1 → d + height < 200 → Chosen input.tokens.now o op j p k → Measured input y of f k right n high → both_of ≡ Binary p value right → now ≡ 1 + max height high → Growing input o y op of chain d i both_of n now
growing_more {input = input} {o} {y} {op} {of} {chain} {d} {i} {value} {j} {height} {f} {p} {k} {right} {n} {high} e m g q h c s w u = record {
  tree = grown g.tree (both c.tree s.tree);
  grown = record {
    grows = g_grown (to_head input.tokens.now j (λ l. Grows verilog true y (o ⨾ y) (from input.tokens.now i) g.tree l) (g.grown).grows) m (to_head input.tokens.now j (λ l. Reads verilog (o ⨾ y) l (both c.tree s.tree) (from input.tokens.now n)) (r_seq c.reads (s.read).reads));
    fits = let a = g.high in let z = (s.read).fits in let v = c.flat in omega arith;
  };
  made = e (bytes_in input) g.tree c.tree s.tree ∙ ap (λ z. Binary z (chain (bytes_in input) g.tree) (of (bytes_in input) s.tree)) c.made ∙ ap (λ z. Binary p z (of (bytes_in input) s.tree)) g.made ∙ ap (λ z. Binary p value z) s.made ∙ sym w;
  high = let a = g.high in let z = s.high in let v = c.flat in omega arith;
}

pub growing_done : {input : Input} {o y : Phrase} {op : D o → BinaryOp} {of : (ℕ → List ℕ) → D y → Expr} {chain : (ℕ → List ℕ) → D (many true y (o ⨾ y)) → Expr} {d i : ℕ} {value : Expr} {j height : ℕ} → is_member (kind_at input.tokens.now j) (firsts_of verilog (o ⨾ y)) ≡ false → Growing input o y op of chain d i value j height → Measured input (many true y (o ⨾ y)) chain d i value j height
growing_done {input = input} {o} {y} {d = d} {i} {value} {j} m g = record {
  tree = g.tree;
  read = record { reads = at_head input.tokens.now j (λ l. Reads verilog (many true y (o ⨾ y)) (from input.tokens.now i) g.tree l) (r_many (to_head input.tokens.now j (λ l. Grows verilog true y (o ⨾ y) (from input.tokens.now i) g.tree l) (g.grown).grows) m); fits = (g.grown).fits };
  made = g.made;
  high = g.high;
}

pub measured_var : {input : Input} {n : ℕ} {of : (ℕ → List ℕ) → D (verilog.rule n) → Expr} {d i : ℕ} {value : Expr} {j height : ℕ} (whole : (ℕ → List ℕ) → D (var n) → Expr) → ((b : ℕ → List ℕ) (a : D (verilog.rule n)) → whole b (named a) ≡ of b a) → Measured input (verilog.rule n) of d i value j height → Measured input (var n) whole d i value j height
measured_var {input = input} whole e p = record { tree = named p.tree; read = read_var p.read; made = e (bytes_in input) p.tree ∙ p.made; high = p.high }

pub growing_refused : {input : Input} {o y : Phrase} {op : D o → BinaryOp} {of : (ℕ → List ℕ) → D y → Expr} {chain : (ℕ → List ℕ) → D (many true y (o ⨾ y)) → Expr} {d i : ℕ} {value : Expr} {j height f k : ℕ} {p : BinaryOp} {e : ParseError} → is_member (kind_at input.tokens.now j) (firsts_of verilog (o ⨾ y)) ≡ true → Growing input o y op of chain d i value j height → f ≡ d + 1 → Chosen input.tokens.now o op j p k → Refused input.tokens.now f y k e → Refused input.tokens.now d (many true y (o ⨾ y)) i e
growing_refused {input = input} {o} {y} {i = i} {j = j} m g q c (stopped {k = k} s) = stopped (s_grown (to_head input.tokens.now j (λ l. Grows verilog true y (o ⨾ y) (from input.tokens.now i) g.tree l) (g.grown).grows) m (to_head input.tokens.now j (λ l. Stops verilog (o ⨾ y) l (from input.tokens.now k)) (s_then c.reads s)))
growing_refused {input = input} {o} {y} {i = i} {j = j} m g q c (too_deep {k = k} {n = n} s h) = too_deep (k_grown (to_head input.tokens.now j (λ l. Grows verilog true y (o ⨾ y) (from input.tokens.now i) g.tree l) (g.grown).grows) m (to_head input.tokens.now j (λ l. Sinks verilog (o ⨾ y) l (from input.tokens.now k) n) (k_then c.reads s))) (omega arith)
growing_refused m g q c out_of_memory = out_of_memory

pub growing_too_deep : {input : Input} {o y : Phrase} {op : D o → BinaryOp} {of : (ℕ → List ℕ) → D y → Expr} {chain : (ℕ → List ℕ) → D (many true y (o ⨾ y)) → Expr} {d i : ℕ} {value : Expr} {j height k : ℕ} {p : BinaryOp} {e : ParseError} → is_member (kind_at input.tokens.now j) (firsts_of verilog (o ⨾ y)) ≡ true → Growing input o y op of chain d i value j height → Chosen input.tokens.now o op j p k → e ≡ TooDeep j → 200 ≤ d + height → Refused input.tokens.now d (many true y (o ⨾ y)) i e
growing_too_deep {input = input} {o} {y} {d = d} {i = i} {j = j} {height = height} m g c q h = subst (λ (x : ParseError). Refused input.tokens.now d (many true y (o ⨾ y)) i x) (sym q) (too_deep (k_grown (to_head input.tokens.now j (λ l. Grows verilog true y (o ⨾ y) (from input.tokens.now i) g.tree l) (g.grown).grows) m (to_head input.tokens.now j (λ l. Sinks verilog (o ⨾ y) l (from input.tokens.now j) 0) (k_seq c.sinks))) (let a = g.high in omega arith))

-- ---- level by level

not_unary : {P : Type 0} → true ≡ false → P
not_unary e = cc

pub unary_is : (v : Level) → is_unary_level v ≡ true → v ≡ level.Unary
unary_is level.Unary e = refl
unary_is _ e = cc

-- the operator that was picked
power_at : (input : Input) {i : ℕ} {p : Operator} {j : ℕ} → j ≡ i + 1 → i < length input.tokens.now → IsBeside (kind_at input.tokens.now i) p (table_of level.Power) → Chosen input.tokens.now (level_operator level.Power) (level_op level.Power) i p j
power_at input {i} {p} {j} n h b = elim b [ inl q ↦ subst (λ z. Chosen input.tokens.now (level_operator level.Power) (level_op level.Power) i z j) (sym q.1) (let e = q.0 in chosen_tok 82 e h n) | inr b ↦ absurd b ]

product_at : (input : Input) {i : ℕ} {p : Operator} {j : ℕ} → j ≡ i + 1 → i < length input.tokens.now → IsBeside (kind_at input.tokens.now i) p (table_of level.Product) → Chosen input.tokens.now (level_operator level.Product) (level_op level.Product) i p j
product_at input {i} {p} {j} n h b = elim b [ inl q ↦ subst (λ z. Chosen input.tokens.now (level_operator level.Product) (level_op level.Product) i z j) (sym q.1) (let e = q.0 in chosen_former meaning.product_op (λ a. refl) (chosen_tok 54 e h n)) | inr b ↦ elim b [ inl q ↦ subst (λ z. Chosen input.tokens.now (level_operator level.Product) (level_op level.Product) i z j) (sym q.1) (let e = q.0 in chosen_latter meaning.product_op (λ a. refl) (known input.tokens.now i 55 (54 ∷ []) false e refl) (chosen_former (λ z. meaning.product_op (latter z)) (λ a. refl) (chosen_tok 55 e h n))) | inr b ↦ elim b [ inl q ↦ subst (λ z. Chosen input.tokens.now (level_operator level.Product) (level_op level.Product) i z j) (sym q.1) (let e = q.0 in chosen_latter meaning.product_op (λ a. refl) (known input.tokens.now i 56 (54 ∷ []) false e refl) (chosen_latter (λ z. meaning.product_op (latter z)) (λ a. refl) (known input.tokens.now i 56 (55 ∷ []) false e refl) (chosen_tok 56 e h n))) | inr b ↦ absurd b ] ] ]

sum_at : (input : Input) {i : ℕ} {p : Operator} {j : ℕ} → j ≡ i + 1 → i < length input.tokens.now → IsBeside (kind_at input.tokens.now i) p (table_of level.Sum) → Chosen input.tokens.now (level_operator level.Sum) (level_op level.Sum) i p j
sum_at input {i} {p} {j} n h b = elim b [ inl q ↦ subst (λ z. Chosen input.tokens.now (level_operator level.Sum) (level_op level.Sum) i z j) (sym q.1) (let e = q.0 in chosen_former meaning.sum_op (λ a. refl) (chosen_tok 52 e h n)) | inr b ↦ elim b [ inl q ↦ subst (λ z. Chosen input.tokens.now (level_operator level.Sum) (level_op level.Sum) i z j) (sym q.1) (let e = q.0 in chosen_latter meaning.sum_op (λ a. refl) (known input.tokens.now i 53 (52 ∷ []) false e refl) (chosen_tok 53 e h n)) | inr b ↦ absurd b ] ]

shift_at : (input : Input) {i : ℕ} {p : Operator} {j : ℕ} → j ≡ i + 1 → i < length input.tokens.now → IsBeside (kind_at input.tokens.now i) p (table_of level.Shift) → Chosen input.tokens.now (level_operator level.Shift) (level_op level.Shift) i p j
shift_at input {i} {p} {j} n h b = elim b [ inl q ↦ subst (λ z. Chosen input.tokens.now (level_operator level.Shift) (level_op level.Shift) i z j) (sym q.1) (let e = q.0 in chosen_former meaning.shift_op (λ a. refl) (chosen_tok 72 e h n)) | inr b ↦ elim b [ inl q ↦ subst (λ z. Chosen input.tokens.now (level_operator level.Shift) (level_op level.Shift) i z j) (sym q.1) (let e = q.0 in chosen_latter meaning.shift_op (λ a. refl) (known input.tokens.now i 73 (72 ∷ []) false e refl) (chosen_former (λ z. meaning.shift_op (latter z)) (λ a. refl) (chosen_tok 73 e h n))) | inr b ↦ elim b [ inl q ↦ subst (λ z. Chosen input.tokens.now (level_operator level.Shift) (level_op level.Shift) i z j) (sym q.1) (let e = q.0 in chosen_latter meaning.shift_op (λ a. refl) (known input.tokens.now i 74 (72 ∷ []) false e refl) (chosen_latter (λ z. meaning.shift_op (latter z)) (λ a. refl) (known input.tokens.now i 74 (73 ∷ []) false e refl) (chosen_former (λ z. meaning.shift_op (latter (latter z))) (λ a. refl) (chosen_tok 74 e h n)))) | inr b ↦ elim b [ inl q ↦ subst (λ z. Chosen input.tokens.now (level_operator level.Shift) (level_op level.Shift) i z j) (sym q.1) (let e = q.0 in chosen_latter meaning.shift_op (λ a. refl) (known input.tokens.now i 75 (72 ∷ []) false e refl) (chosen_latter (λ z. meaning.shift_op (latter z)) (λ a. refl) (known input.tokens.now i 75 (73 ∷ []) false e refl) (chosen_latter (λ z. meaning.shift_op (latter (latter z))) (λ a. refl) (known input.tokens.now i 75 (74 ∷ []) false e refl) (chosen_tok 75 e h n)))) | inr b ↦ absurd b ] ] ] ]

relation_at : (input : Input) {i : ℕ} {p : Operator} {j : ℕ} → j ≡ i + 1 → i < length input.tokens.now → IsBeside (kind_at input.tokens.now i) p (table_of level.Relation) → Chosen input.tokens.now (level_operator level.Relation) (level_op level.Relation) i p j
relation_at input {i} {p} {j} n h b = elim b [ inl q ↦ subst (λ z. Chosen input.tokens.now (level_operator level.Relation) (level_op level.Relation) i z j) (sym q.1) (let e = q.0 in chosen_former meaning.relation_op (λ a. refl) (chosen_tok 62 e h n)) | inr b ↦ elim b [ inl q ↦ subst (λ z. Chosen input.tokens.now (level_operator level.Relation) (level_op level.Relation) i z j) (sym q.1) (let e = q.0 in chosen_latter meaning.relation_op (λ a. refl) (known input.tokens.now i 70 (62 ∷ []) false e refl) (chosen_former (λ z. meaning.relation_op (latter z)) (λ a. refl) (chosen_tok 70 e h n))) | inr b ↦ elim b [ inl q ↦ subst (λ z. Chosen input.tokens.now (level_operator level.Relation) (level_op level.Relation) i z j) (sym q.1) (let e = q.0 in chosen_latter meaning.relation_op (λ a. refl) (known input.tokens.now i 63 (62 ∷ []) false e refl) (chosen_latter (λ z. meaning.relation_op (latter z)) (λ a. refl) (known input.tokens.now i 63 (70 ∷ []) false e refl) (chosen_former (λ z. meaning.relation_op (latter (latter z))) (λ a. refl) (chosen_tok 63 e h n)))) | inr b ↦ elim b [ inl q ↦ subst (λ z. Chosen input.tokens.now (level_operator level.Relation) (level_op level.Relation) i z j) (sym q.1) (let e = q.0 in chosen_latter meaning.relation_op (λ a. refl) (known input.tokens.now i 71 (62 ∷ []) false e refl) (chosen_latter (λ z. meaning.relation_op (latter z)) (λ a. refl) (known input.tokens.now i 71 (70 ∷ []) false e refl) (chosen_latter (λ z. meaning.relation_op (latter (latter z))) (λ a. refl) (known input.tokens.now i 71 (63 ∷ []) false e refl) (chosen_tok 71 e h n)))) | inr b ↦ absurd b ] ] ] ]

equality_at : (input : Input) {i : ℕ} {p : Operator} {j : ℕ} → j ≡ i + 1 → i < length input.tokens.now → IsBeside (kind_at input.tokens.now i) p (table_of level.Equality) → Chosen input.tokens.now (level_operator level.Equality) (level_op level.Equality) i p j
equality_at input {i} {p} {j} n h b = elim b [ inl q ↦ subst (λ z. Chosen input.tokens.now (level_operator level.Equality) (level_op level.Equality) i z j) (sym q.1) (let e = q.0 in chosen_former meaning.equality_op (λ a. refl) (chosen_tok 66 e h n)) | inr b ↦ elim b [ inl q ↦ subst (λ z. Chosen input.tokens.now (level_operator level.Equality) (level_op level.Equality) i z j) (sym q.1) (let e = q.0 in chosen_latter meaning.equality_op (λ a. refl) (known input.tokens.now i 67 (66 ∷ []) false e refl) (chosen_former (λ z. meaning.equality_op (latter z)) (λ a. refl) (chosen_tok 67 e h n))) | inr b ↦ elim b [ inl q ↦ subst (λ z. Chosen input.tokens.now (level_operator level.Equality) (level_op level.Equality) i z j) (sym q.1) (let e = q.0 in chosen_latter meaning.equality_op (λ a. refl) (known input.tokens.now i 68 (66 ∷ []) false e refl) (chosen_latter (λ z. meaning.equality_op (latter z)) (λ a. refl) (known input.tokens.now i 68 (67 ∷ []) false e refl) (chosen_former (λ z. meaning.equality_op (latter (latter z))) (λ a. refl) (chosen_tok 68 e h n)))) | inr b ↦ elim b [ inl q ↦ subst (λ z. Chosen input.tokens.now (level_operator level.Equality) (level_op level.Equality) i z j) (sym q.1) (let e = q.0 in chosen_latter meaning.equality_op (λ a. refl) (known input.tokens.now i 69 (66 ∷ []) false e refl) (chosen_latter (λ z. meaning.equality_op (latter z)) (λ a. refl) (known input.tokens.now i 69 (67 ∷ []) false e refl) (chosen_latter (λ z. meaning.equality_op (latter (latter z))) (λ a. refl) (known input.tokens.now i 69 (68 ∷ []) false e refl) (chosen_tok 69 e h n)))) | inr b ↦ absurd b ] ] ] ]

bit_and_at : (input : Input) {i : ℕ} {p : Operator} {j : ℕ} → j ≡ i + 1 → i < length input.tokens.now → IsBeside (kind_at input.tokens.now i) p (table_of level.BitAnd) → Chosen input.tokens.now (level_operator level.BitAnd) (level_op level.BitAnd) i p j
bit_and_at input {i} {p} {j} n h b = elim b [ inl q ↦ subst (λ z. Chosen input.tokens.now (level_operator level.BitAnd) (level_op level.BitAnd) i z j) (sym q.1) (let e = q.0 in chosen_tok 59 e h n) | inr b ↦ absurd b ]

bit_xor_at : (input : Input) {i : ℕ} {p : Operator} {j : ℕ} → j ≡ i + 1 → i < length input.tokens.now → IsBeside (kind_at input.tokens.now i) p (table_of level.BitXor) → Chosen input.tokens.now (level_operator level.BitXor) (level_op level.BitXor) i p j
bit_xor_at input {i} {p} {j} n h b = elim b [ inl q ↦ subst (λ z. Chosen input.tokens.now (level_operator level.BitXor) (level_op level.BitXor) i z j) (sym q.1) (let e = q.0 in chosen_former meaning.xor_op (λ a. refl) (chosen_tok 61 e h n)) | inr b ↦ elim b [ inl q ↦ subst (λ z. Chosen input.tokens.now (level_operator level.BitXor) (level_op level.BitXor) i z j) (sym q.1) (let e = q.0 in chosen_latter meaning.xor_op (λ a. refl) (known input.tokens.now i 78 (61 ∷ []) false e refl) (chosen_former (λ z. meaning.xor_op (latter z)) (λ a. refl) (chosen_tok 78 e h n))) | inr b ↦ elim b [ inl q ↦ subst (λ z. Chosen input.tokens.now (level_operator level.BitXor) (level_op level.BitXor) i z j) (sym q.1) (let e = q.0 in chosen_latter meaning.xor_op (λ a. refl) (known input.tokens.now i 79 (61 ∷ []) false e refl) (chosen_latter (λ z. meaning.xor_op (latter z)) (λ a. refl) (known input.tokens.now i 79 (78 ∷ []) false e refl) (chosen_tok 79 e h n))) | inr b ↦ absurd b ] ] ]

bit_or_at : (input : Input) {i : ℕ} {p : Operator} {j : ℕ} → j ≡ i + 1 → i < length input.tokens.now → IsBeside (kind_at input.tokens.now i) p (table_of level.BitOr) → Chosen input.tokens.now (level_operator level.BitOr) (level_op level.BitOr) i p j
bit_or_at input {i} {p} {j} n h b = elim b [ inl q ↦ subst (λ z. Chosen input.tokens.now (level_operator level.BitOr) (level_op level.BitOr) i z j) (sym q.1) (let e = q.0 in chosen_tok 60 e h n) | inr b ↦ absurd b ]

logical_and_at : (input : Input) {i : ℕ} {p : Operator} {j : ℕ} → j ≡ i + 1 → i < length input.tokens.now → IsBeside (kind_at input.tokens.now i) p (table_of level.LogicalAnd) → Chosen input.tokens.now (level_operator level.LogicalAnd) (level_op level.LogicalAnd) i p j
logical_and_at input {i} {p} {j} n h b = elim b [ inl q ↦ subst (λ z. Chosen input.tokens.now (level_operator level.LogicalAnd) (level_op level.LogicalAnd) i z j) (sym q.1) (let e = q.0 in chosen_tok 64 e h n) | inr b ↦ absurd b ]

logical_or_at : (input : Input) {i : ℕ} {p : Operator} {j : ℕ} → j ≡ i + 1 → i < length input.tokens.now → IsBeside (kind_at input.tokens.now i) p (table_of level.LogicalOr) → Chosen input.tokens.now (level_operator level.LogicalOr) (level_op level.LogicalOr) i p j
logical_or_at input {i} {p} {j} n h b = elim b [ inl q ↦ subst (λ z. Chosen input.tokens.now (level_operator level.LogicalOr) (level_op level.LogicalOr) i z j) (sym q.1) (let e = q.0 in chosen_tok 65 e h n) | inr b ↦ absurd b ]

pub operator_at : (input : Input) {i : ℕ} {p : Operator} {j : ℕ} (v : Level) → Picked input.tokens.now (table_of v) i p j → Chosen input.tokens.now (level_operator v) (level_op v) i p j
operator_at input level.Unary w = absurd (no w.beside)
  where
    no : ⊥ → ⊥
    no h = h
operator_at input level.Power w = power_at input w.next w.inside w.beside
operator_at input level.Product w = product_at input w.next w.inside w.beside
operator_at input level.Sum w = sum_at input w.next w.inside w.beside
operator_at input level.Shift w = shift_at input w.next w.inside w.beside
operator_at input level.Relation w = relation_at input w.next w.inside w.beside
operator_at input level.Equality w = equality_at input w.next w.inside w.beside
operator_at input level.BitAnd w = bit_and_at input w.next w.inside w.beside
operator_at input level.BitXor w = bit_xor_at input w.next w.inside w.beside
operator_at input level.BitOr w = bit_or_at input w.next w.inside w.beside
operator_at input level.LogicalAnd w = logical_and_at input w.next w.inside w.beside
operator_at input level.LogicalOr w = logical_or_at input w.next w.inside w.beside

pub chained_start : {input : Input} {d i : ℕ} {value : Expr} {j height : ℕ} (v : Level) → is_unary_level v ≡ false → Measured input (level_phrase (below_of v)) (level_of (below_of v)) d i value j height → Chain input v d i value j height
chained_start level.Unary e p = not_unary e
chained_start level.Power e p = record { operands = growing_start meaning.power_chain (λ b a. refl) p }
chained_start level.Product e p = record { operands = growing_start meaning.product_chain (λ b a. refl) p }
chained_start level.Sum e p = record { operands = growing_start meaning.sum_chain (λ b a. refl) p }
chained_start level.Shift e p = record { operands = growing_start meaning.shift_chain (λ b a. refl) p }
chained_start level.Relation e p = record { operands = growing_start meaning.relation_chain (λ b a. refl) p }
chained_start level.Equality e p = record { operands = growing_start meaning.equality_chain (λ b a. refl) p }
chained_start level.BitAnd e p = record { operands = growing_start meaning.bit_and_chain (λ b a. refl) p }
chained_start level.BitXor e p = record { operands = growing_start meaning.bit_xor_chain (λ b a. refl) p }
chained_start level.BitOr e p = record { operands = growing_start meaning.bit_or_chain (λ b a. refl) p }
chained_start level.LogicalAnd e p = record { operands = growing_start meaning.logical_and_chain (λ b a. refl) p }
chained_start level.LogicalOr e p = record { operands = growing_start meaning.logical_or_chain (λ b a. refl) p }

pub chained_more : {input : Input} {d i : ℕ} {value : Expr} {j height f : ℕ} {p : BinaryOp} {k : ℕ} {right : Expr} {n high : ℕ} {both_of : Expr} {now : ℕ} (v : Level) → Chain input v d i value j height → f ≡ d + 1 → d + height < 200 → Chosen input.tokens.now (level_operator v) (level_op v) j p k → Measured input (level_phrase (below_of v)) (level_of (below_of v)) f k right n high → both_of ≡ Binary p value right → now ≡ 1 + max height high → Chain input v d i both_of n now
chained_more level.Unary g q h c s w u = absurd g.operands
chained_more level.Power g q h c s w u = record { operands = growing_more (λ b a c e. refl) c.here g.operands q h c s w u }
chained_more level.Product g q h c s w u = record { operands = growing_more (λ b a c e. refl) c.here g.operands q h c s w u }
chained_more level.Sum g q h c s w u = record { operands = growing_more (λ b a c e. refl) c.here g.operands q h c s w u }
chained_more level.Shift g q h c s w u = record { operands = growing_more (λ b a c e. refl) c.here g.operands q h c s w u }
chained_more level.Relation g q h c s w u = record { operands = growing_more (λ b a c e. refl) c.here g.operands q h c s w u }
chained_more level.Equality g q h c s w u = record { operands = growing_more (λ b a c e. refl) c.here g.operands q h c s w u }
chained_more level.BitAnd g q h c s w u = record { operands = growing_more (λ b a c e. refl) c.here g.operands q h c s w u }
chained_more level.BitXor g q h c s w u = record { operands = growing_more (λ b a c e. refl) c.here g.operands q h c s w u }
chained_more level.BitOr g q h c s w u = record { operands = growing_more (λ b a c e. refl) c.here g.operands q h c s w u }
chained_more level.LogicalAnd g q h c s w u = record { operands = growing_more (λ b a c e. refl) c.here g.operands q h c s w u }
chained_more level.LogicalOr g q h c s w u = record { operands = growing_more (λ b a c e. refl) c.here g.operands q h c s w u }

pub chained_done : {input : Input} {d i : ℕ} {value : Expr} {j height : ℕ} (v : Level) → is_member (kind_at input.tokens.now j) (kinds_in (table_of v)) ≡ false → Chain input v d i value j height → Measured input (level_phrase v) (level_of v) d i value j height
chained_done level.Unary m g = absurd g.operands
chained_done level.Power m g = measured_var meaning.power_of (λ b a. refl) (growing_done m g.operands)
chained_done level.Product m g = measured_var meaning.product_of (λ b a. refl) (growing_done m g.operands)
chained_done level.Sum m g = measured_var meaning.sum_of (λ b a. refl) (growing_done m g.operands)
chained_done level.Shift m g = measured_var meaning.shift_of (λ b a. refl) (growing_done m g.operands)
chained_done level.Relation m g = measured_var meaning.relation_of (λ b a. refl) (growing_done m g.operands)
chained_done level.Equality m g = measured_var meaning.equality_of (λ b a. refl) (growing_done m g.operands)
chained_done level.BitAnd m g = measured_var meaning.bit_and_of (λ b a. refl) (growing_done m g.operands)
chained_done level.BitXor m g = measured_var meaning.bit_xor_of (λ b a. refl) (growing_done m g.operands)
chained_done level.BitOr m g = measured_var meaning.bit_or_of (λ b a. refl) (growing_done m g.operands)
chained_done level.LogicalAnd m g = measured_var meaning.logical_and_of (λ b a. refl) (growing_done m g.operands)
chained_done level.LogicalOr m g = measured_var meaning.logical_or_of (λ b a. refl) (growing_done m g.operands)

pub chained_refused_first : (input : Input) {d i : ℕ} {e : ParseError} (v : Level) → is_unary_level v ≡ false → Refused input.tokens.now d (level_phrase (below_of v)) i e → Refused input.tokens.now d (level_phrase v) i e
chained_refused_first input level.Unary e p = not_unary e
chained_refused_first input level.Power e p = refused_var (refused_start p)
chained_refused_first input level.Product e p = refused_var (refused_start p)
chained_refused_first input level.Sum e p = refused_var (refused_start p)
chained_refused_first input level.Shift e p = refused_var (refused_start p)
chained_refused_first input level.Relation e p = refused_var (refused_start p)
chained_refused_first input level.Equality e p = refused_var (refused_start p)
chained_refused_first input level.BitAnd e p = refused_var (refused_start p)
chained_refused_first input level.BitXor e p = refused_var (refused_start p)
chained_refused_first input level.BitOr e p = refused_var (refused_start p)
chained_refused_first input level.LogicalAnd e p = refused_var (refused_start p)
chained_refused_first input level.LogicalOr e p = refused_var (refused_start p)

pub chained_refused : {input : Input} {d i : ℕ} {value : Expr} {j height f k : ℕ} {p : BinaryOp} {e : ParseError} (v : Level) → Chain input v d i value j height → f ≡ d + 1 → Chosen input.tokens.now (level_operator v) (level_op v) j p k → Refused input.tokens.now f (level_phrase (below_of v)) k e → Refused input.tokens.now d (level_phrase v) i e
chained_refused level.Unary g q c s = absurd g.operands
chained_refused level.Power g q c s = refused_var (growing_refused c.here g.operands q c s)
chained_refused level.Product g q c s = refused_var (growing_refused c.here g.operands q c s)
chained_refused level.Sum g q c s = refused_var (growing_refused c.here g.operands q c s)
chained_refused level.Shift g q c s = refused_var (growing_refused c.here g.operands q c s)
chained_refused level.Relation g q c s = refused_var (growing_refused c.here g.operands q c s)
chained_refused level.Equality g q c s = refused_var (growing_refused c.here g.operands q c s)
chained_refused level.BitAnd g q c s = refused_var (growing_refused c.here g.operands q c s)
chained_refused level.BitXor g q c s = refused_var (growing_refused c.here g.operands q c s)
chained_refused level.BitOr g q c s = refused_var (growing_refused c.here g.operands q c s)
chained_refused level.LogicalAnd g q c s = refused_var (growing_refused c.here g.operands q c s)
chained_refused level.LogicalOr g q c s = refused_var (growing_refused c.here g.operands q c s)

pub chained_too_deep : {input : Input} {d i : ℕ} {value : Expr} {j height k : ℕ} {p : BinaryOp} {e : ParseError} (v : Level) → Chain input v d i value j height → Chosen input.tokens.now (level_operator v) (level_op v) j p k → e ≡ TooDeep j → 200 ≤ d + height → Refused input.tokens.now d (level_phrase v) i e
chained_too_deep level.Unary g c q h = absurd g.operands
chained_too_deep level.Power g c q h = refused_var (growing_too_deep c.here g.operands c q h)
chained_too_deep level.Product g c q h = refused_var (growing_too_deep c.here g.operands c q h)
chained_too_deep level.Sum g c q h = refused_var (growing_too_deep c.here g.operands c q h)
chained_too_deep level.Shift g c q h = refused_var (growing_too_deep c.here g.operands c q h)
chained_too_deep level.Relation g c q h = refused_var (growing_too_deep c.here g.operands c q h)
chained_too_deep level.Equality g c q h = refused_var (growing_too_deep c.here g.operands c q h)
chained_too_deep level.BitAnd g c q h = refused_var (growing_too_deep c.here g.operands c q h)
chained_too_deep level.BitXor g c q h = refused_var (growing_too_deep c.here g.operands c q h)
chained_too_deep level.BitOr g c q h = refused_var (growing_too_deep c.here g.operands c q h)
chained_too_deep level.LogicalAnd g c q h = refused_var (growing_too_deep c.here g.operands c q h)
chained_too_deep level.LogicalOr g c q h = refused_var (growing_too_deep c.here g.operands c q h)

-- ---- a choice

-- the condition is read, and an operator of a level around it
pub read_behind : {ts : List Token} {d f : ℕ} {x y : Phrase} {a : D x} {b : D y} {i j k : ℕ} → Read ts d x a i j → is_member (kind_at ts j) (firsts_of verilog y) ≡ true → f ≡ d + 1 → d + depth a < 200 → Read ts f y b j k → Read ts d (post x y) (behind a b) i k
read_behind {ts} {d} {f} {x} {y} {a} {b} {i} {j} {k} p m q h s = record { reads = r_behind (to_head ts j (λ l. Reads verilog x (from ts i) a l) p.reads) m (to_head ts j (λ l. Reads verilog y l b (from ts k)) s.reads); fits = let z = s.fits in omega arith }

pub refused_behind : {ts : List Token} {d f : ℕ} {x y : Phrase} {a : D x} {i j : ℕ} {e : ParseError} → Read ts d x a i j → is_member (kind_at ts j) (firsts_of verilog y) ≡ true → f ≡ d + 1 → Refused ts f y j e → Refused ts d (post x y) i e
refused_behind {ts} {d} {f} {x} {y} {a} {i} {j} p m q (stopped {k = k} s) = stopped (s_behind (to_head ts j (λ l. Reads verilog x (from ts i) a l) p.reads) m (to_head ts j (λ l. Stops verilog y l (from ts k)) s))
refused_behind {ts} {d} {f} {x} {y} {a} {i} {j} p m q (too_deep {k = k} {n = n} s h) = too_deep (k_behind (to_head ts j (λ l. Reads verilog x (from ts i) a l) p.reads) m (to_head ts j (λ l. Sinks verilog y l (from ts k) n) s)) (omega arith)
refused_behind p m q out_of_memory = out_of_memory

pub too_deep_behind : {ts : List Token} {d : ℕ} {x z : Phrase} {a : D x} {n i j : ℕ} {e : ParseError} → Read ts d x a i j → kind_at ts j ≡ n → is_member (kind_at ts j) (n ∷ []) ≡ true → e ≡ TooDeep j → 200 ≤ d + depth a → Refused ts d (post x (tok n ⨾ z)) i e
too_deep_behind {ts} {d} {x} {z} {a} {n} {i} {j} {e} p w m q h = subst (λ (y : ParseError). Refused ts d (post x (tok n ⨾ z)) i y) (sym q) (too_deep (k_behind (to_head ts j (λ l. Reads verilog x (from ts i) a l) p.reads) m (to_head ts j (λ l. Sinks verilog (tok n ⨾ z) l (from ts j) 0) (k_seq (at_head ts j (λ l. Sinks verilog (tok n) l l 0) (k_tok w))))) (omega arith))

pub measured : {A : Type 0} {input : Input} {x : Phrase} {of : (ℕ → List ℕ) → D x → A} {d i : ℕ} {value : A} {j height : ℕ} {a : D x} → Read input.tokens.now d x a i j → of (bytes_in input) a ≡ value → depth a ≡ height → Measured input x of d i value j height
measured {a = a} p e h = record { tree = a; read = p; made = e; high = h }

-- ---- lists of expressions

map-snoc : {A T : Type 0} (f : T → A) (list : List T) (v : T) (rest : List A) → map f (list ++ (v ∷ [])) ++ rest ≡ map f list ++ (f v ∷ rest)
map-snoc f [] v rest = refl
map-snoc f (w ∷ list) v rest = ap (λ z. f w ∷ z) (map-snoc f list v rest)

pub gathering_start : (input : Input) (first : List ExprNode) (first_height d i : ℕ) → d ≤ 200 → Gathering input first first_height d i first i first_height
gathering_start input first first_height d i s = record { tree = start nothing; grown = grown_start (read_eps input.tokens.now d i s); made = λ rest. refl; high = omega arith }

pub gathering_more : {input : Input} {first : List ExprNode} {first_height d i : ℕ} {list : List ExprNode} {j height : ℕ} {comma : ℕ} {k high now : ℕ} (value : ExprNode) (longer : List ExprNode) → Gathering input first first_height d i list j height → d ≤ 200 → Took input.tokens.now 46 j comma → Measured input (r rule.Expression) meaning.expr_of d comma (view.expr value) k high → longer ≡ list ++ (value ∷ []) → now ≡ max height high → Gathering input first first_height d i longer k now
gathering_more {input = input} {list = list} value longer g s t p e w = record {
  tree = grown g.tree (both (leaf (terminal_at input.tokens.now _)) p.tree);
  grown = grown_more g.grown (first_took t) (read_seq (read_tok s t) p.read);
  made = λ rest. g.made (meaning.expr_of (bytes_in input) p.tree ∷ rest) ∙ ap (λ z. map view.expr list ++ (z ∷ rest)) p.made ∙ sym (map-snoc view.expr list value rest) ∙ ap (λ z. map view.expr z ++ rest) (sym e);
  high = let a = g.high in let b = p.high in omega arith;
}

pub gathering_done : {input : Input} {first : List ExprNode} {first_height d i : ℕ} {list : List ExprNode} {j height : ℕ} → Gathering input first first_height d i list j height → is_member (kind_at input.tokens.now j) (46 ∷ []) ≡ false → MeasuredList input first first_height d i list j height
gathering_done g m = record { tree = g.tree; read = read_many g.grown m; made = g.made; high = g.high }

abbrev pub exprs_from : List Expr → Exprs → Exprs
exprs_from [] tail = tail
exprs_from (e ∷ es) tail = AndExpr e (exprs_from es tail)

-- the expressions of a list as the plain tree has them
pub exprs_of_list : (b : ℕ → List ℕ) (l : D (star (t kind.Comma ⨾ r rule.Expression))) (rest : List Expr) (tail : Exprs) → exprs_from (each_onto (behind_sign (meaning.expr_of b)) l rest) tail ≡ meaning.exprs_onto b l (exprs_from rest tail)
exprs_of_list b (start z) rest tail = refl
exprs_of_list b (grown l (both c e)) rest tail = exprs_of_list b l (meaning.expr_of b e ∷ rest) tail

pub exprs_viewed : (list : List ExprNode) → view.exprs list ≡ exprs_from (map view.expr list) NoExpr
exprs_viewed [] = refl
exprs_viewed (e ∷ es) = ap (λ z. AndExpr (view.expr e) z) (exprs_viewed es)

pub inner_fits : (d h : ℕ) {inner : ℕ} → inner ≡ d + 1 → d + h < 200 → inner ≤ 200
inner_fits d h p q = omega arith

-- the expressions of a list that begins with this one
pub replicated : (b : ℕ → List ℕ) (e : D (r rule.Expression)) (l : D (star (t kind.Comma ⨾ r rule.Expression))) (value : ExprNode) (first list : List ExprNode) → meaning.expr_of b e ≡ view.expr value → first ≡ value ∷ [] → ((rest : List Expr) → map view.expr first ++ each_onto (behind_sign (meaning.expr_of b)) l rest ≡ map view.expr list ++ rest) → AndExpr (meaning.expr_of b e) (meaning.exprs_onto b l NoExpr) ≡ view.exprs list
replicated b e l value first list p q m = ap (λ z. AndExpr z (meaning.exprs_onto b l NoExpr)) p ∙ ap (λ z. AndExpr (view.expr value) z) (sym (exprs_of_list b l [] NoExpr)) ∙ ap (λ z. exprs_from z NoExpr) (ap (λ z. map view.expr z ++ each_onto (behind_sign (meaning.expr_of b)) l []) (sym q) ∙ m [] ∙ append-nil (map view.expr list)) ∙ sym (exprs_viewed list)

pub operator_not_empty : (v : Level) → is_unary_level v ≡ false → can_be_empty verilog (level_operator v) ≡ false
operator_not_empty level.Unary e = not_unary e
operator_not_empty _ e = refl
