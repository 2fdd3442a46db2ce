use Rattle.std.proofs.Common.{◌≡◌, ◌||◌, refl, sym, ap, ◌∙◌, subst}
use Rattle.vs_const.specs.declared.names.Named.TheVariants as named
use Rattle.vs_const.specs.Meanings.{Means}
use Rattle.vs_const.specs.Selects.{is_array}
use Rattle.vs_const.proofs.WordArms.{no_array}
use Rattle.vs_build.proofs.names.index_needed.Goals as goal

pub returns-then-m : goal.returns-then-m
returns-then-m g c =
    let find = g.E.Env.names c.args.env.now in
    let means = subst (λ b. Means (named.Memory c.in-Memory.m) (find b)) c.as_slice.ensures c.in-Memory.ensures in
    c.if-m.true ∙ ap (λ b. b || c.args.needed) (sym c.if-m.true ∙ means.8 ∙ sym (ap is_array means.1))

pub returns-else-m : goal.returns-else-m
returns-else-m g c =
    let find = g.E.Env.names c.args.env.now in
    let means = subst (λ b. Means (named.Memory c.in-Memory.m) (find b)) c.as_slice.ensures c.in-Memory.ensures in
    ap (λ b. b || c.args.needed) (sym c.if-m.false ∙ means.8 ∙ sym (ap is_array means.1))

pub returns-in_default : goal.returns-in_default
returns-in_default g c =
    let find = g.E.Env.names c.args.env.now in
    let means = subst (λ b. Means c.find.result (find b)) c.as_slice.ensures c.find.ensures in
    let m = find c.args.name.now.text in
    no_array (λ b. b ≡ (is_array m || c.args.needed)) c.find.result m c.args.needed c.in_default.not-Memory means refl
