use Rattle.std.proofs.Common.{subst}
use Rattle.vs_const.specs.Meanings.{Means}
use Rattle.vs_const.specs.declared.names.Named.TheVariants as named
use Rattle.vs_build.specs.Drafts.{home}
use Rattle.vs_build.specs.Growth.{draft}
use Rattle.vs_build.proofs.SignalNames.{base_there, source_there}
use Rattle.vs_build.proofs.names.source.Goals as goal

pub name-requires-clause-formed : goal.name-requires-clause-formed
name-requires-clause-formed g c =
    let m = g.E.Env.names c.args.env.now c.args.name.now.text in
    (base_there (home (draft c.args.builder.now)) c.args.needed c.args.name.now.place m c.in-Signal.s c.requires (subst (λ b. Means (named.Signal c.in-Signal.s) (g.E.Env.names c.args.env.now b)) c.as_slice.ensures c.in-Signal.ensures)).formed

pub returns-in_ok-name-in-Some : goal.returns-in_ok-name-in-Some
returns-in_ok-name-in-Some g c =
    let m = g.E.Env.names c.args.env.now c.args.name.now.text in
    let d = (home (draft c.args.builder.now)) in
    let there = base_there d c.args.needed c.args.name.now.place m c.in-Signal.s c.requires (subst (λ b. Means (named.Signal c.in-Signal.s) (g.E.Env.names c.args.env.now b)) c.as_slice.ensures c.in-Signal.ensures) in
    source_there d (draft c.args.builder.now) (draft c.name.new.self) c.args.needed c.args.name.now.place m c.in-Signal.s.number c.in-Signal.s.range c.in-Some.range there c.in-Some.is c.in_ok-name-in-Some.ensures
