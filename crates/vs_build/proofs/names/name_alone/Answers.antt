use Rattle.std.proofs.Common.{OnOk, subst}
use Rattle.vs_const.specs.Meanings.{Means}
use Rattle.vs_const.specs.declared.names.Named.TheVariants as named
use Rattle.vs_build.specs.Drafts.{home, AddsExpression}
use Rattle.vs_build.specs.Growth.{draft}
use Rattle.vs_build.proofs.SignalNames.{name_there, name_is}
use Rattle.vs_build.proofs.names.name_alone.Goals as goal

pub name-requires-clause-formed : goal.name-requires-clause-formed
name-requires-clause-formed g c =
    let m = g.E.Env.names c.args.env.now c.args.name.now.text in
    (name_there (home (draft c.args.builder.now)) c.args.needed c.args.name.now.place m c.in-Signal.s c.requires (subst (λ b. Means (named.Signal c.in-Signal.s) (g.E.Env.names c.args.env.now b)) c.as_slice.ensures c.in-Signal.ensures)).formed

pub returns-in-Signal : goal.returns-in-Signal
returns-in-Signal g c =
    let m = g.E.Env.names c.args.env.now c.args.name.now.text in
    let d = (home (draft c.args.builder.now)) in
    let there = name_there d c.args.needed c.args.name.now.place m c.in-Signal.s c.requires (subst (λ b. Means (named.Signal c.in-Signal.s) (g.E.Env.names c.args.env.now b)) c.as_slice.ensures c.in-Signal.ensures) in
    subst (λ e. OnOk c.name.result (AddsExpression (draft c.args.builder.now) (draft c.name.new.self) e 1)) (name_is d c.args.needed c.args.name.now.place c.args.at m c.in-Signal.s.number c.in-Signal.s.range there) c.name.ensures
