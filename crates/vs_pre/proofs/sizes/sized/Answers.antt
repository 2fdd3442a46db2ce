use Rattle.std.proofs.Common.{◌≡◌, ◌+◌, ◌++◌, ◌∷◌, [], cond, not, get_or, drop, sym, ◌∙◌, ap, arith}
use Rattle.vs_pre.specs.Preprocessing.{behind, sized}
use Rattle.vs_pre.proofs.SizeFacts.{blank, sized_last, sized_apart, sized_together}
use Rattle.vs_pre.proofs.sizes.sized.Goals as goal
use Rattle.vs_pre.proofs.sizes.sized.Goals.{else-behind-tokens-via-then-behind-tokens+else-is_size_of, else-behind-tokens-via-else-behind-tokens}

pub loop-next-preserved-then-is_size_of : goal.loop-next-preserved-then-is_size_of
loop-next-preserved-then-is_size_of c =
    let text = c.args.text.now in
    let ts = c.args.tokens.now in
    let at = c.loop-next.next in
    record {
      inside = let h = c.if-behind-tokens.true in omega arith;
      same = ap (λ o. behind o (sized text (drop (at + 2) ts))) c.in-Ok.ensures.put
          ∙ sized_together text ts at c.loop-next.out.items c.loop-next.invariant.same c.if-behind-tokens.true (sym c.is_size_of.ensures ∙ c.if-is_size_of.true) c.in-Ok.ensures.fits;
    }

pub loop-next-preserved : goal.loop-next-preserved
loop-next-preserved c =
    let text = c.args.text.now in
    let ts = c.args.tokens.now in
    let at = c.loop-next.next in
    let old = c.loop-next.out.items in
    let all = old ++ get_or ts at blank ∷ [] in
    let pushed : c.push.new.self.items ≡ all = c.push.ensures.items ∙ ap (λ b. cond b all old) (c.is_err.ensures.negation ∙ ap not c.if-is_err.false) in
    record {
      inside = let h = c.loop-next-test.true in omega arith;
      same = ap (λ o. behind o (sized text (drop (at + 1) ts))) pushed ∙ elim c.else-behind-tokens.branch [
        | else-behind-tokens-via-then-behind-tokens+else-is_size_of w ↦ sized_apart text ts at old c.loop-next.invariant.same w.if-behind-tokens.true (sym w.is_size_of.ensures ∙ w.if-is_size_of.false)
        | else-behind-tokens-via-else-behind-tokens w ↦ sized_last text ts at old c.loop-next.invariant.same c.loop-next-test.true (let h = w.if-behind-tokens.false in omega arith)
      ];
    }
