use Rattle.std.proofs.Common.{◌≡◌, ◌<◌, ◌≤◌, sym, ◌∙◌, ap, subst, refl, inl, inr, arith, length}
use Rattle.vs_grammar.specs.Kinds.{number_of}
use Rattle.vs_grammar.specs.Predictive.{is_member}
use Rattle.vs_statements.specs.Reading.{kind_at, kinds_in, IsBeside}
use Rattle.vs_statements.proofs.Places.{same_number, kind_inside, few}
use Rattle.vs_statements.proofs.Tables.{table_at, skips}
use Rattle.vs_statements.proofs.tokens.choose.Goals as goal

pub overflow_add-result : goal.overflow_add-result
overflow_add-result g c =
    let e : kind_at c.args.input.now.tokens.now c.args.at ≡ number_of c.loop-kind-item.result.0 = same_number _ _ (sym c.stands.ensures ∙ c.if-stands.true) in
    let h : c.args.at < length c.args.input.now.tokens.now = kind_inside c.args.input.now.tokens.now c.args.at c.loop-kind-item.result.0 e in
    let k : length c.args.input.now.tokens.now ≤ 1048576 = few c.args.input.now.text.now c.args.input.now.tokens.now c.args.input.now.lexed in
    omega arith

pub returns-then-stands : goal.returns-then-stands
returns-then-stands g c =
    let e : kind_at c.args.input.now.tokens.now c.args.at ≡ number_of c.loop-kind-item.result.0 = same_number _ _ (sym c.stands.ensures ∙ c.if-stands.true) in
    record {
      beside = c.loop-kind.invariant.beside c.loop-kind-item.result.1 (subst (λ l. IsBeside (kind_at c.args.input.now.tokens.now c.args.at) c.loop-kind-item.result.1 l) (sym (table_at c.args.table.now c.loop-kind.kind-index c.loop-kind-item.result c.loop-kind-item.is (omega arith))) (inl (e, refl)));
      next = refl;
      inside = kind_inside c.args.input.now.tokens.now c.args.at c.loop-kind-item.result.0 e;
    }

pub loop-kind-preserved : goal.loop-kind-preserved
loop-kind-preserved g c =
    let s = table_at c.args.table.now c.loop-kind.kind-index c.loop-kind-item.result c.loop-kind-item.is (omega arith) in
    record {
      same = c.loop-kind.invariant.same ∙ ap (λ l. is_member (kind_at c.args.input.now.tokens.now c.args.at) (kinds_in l)) s ∙ skips _ _ (sym c.stands.ensures ∙ c.if-stands.false);
      beside = λ v h. c.loop-kind.invariant.beside v (subst (λ l. IsBeside (kind_at c.args.input.now.tokens.now c.args.at) v l) (sym s) (inr h));
    }
