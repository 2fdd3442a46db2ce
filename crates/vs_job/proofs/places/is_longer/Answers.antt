use Rattle.std.proofs.Common.{sym, ◌∙◌}
use Rattle.std.proofs.lemmas.Bool.Decides.{Decides-eqb}
use Rattle.std.proofs.lemmas.Option.{MatchOption-at_none, MatchOption-at_some}
use Rattle.std.proofs.lemmas.Slice.Eq.{strip_suffix_is}
use Rattle.vs_job.proofs.Equal.{bytes_eq-none, bytes_eq-append}
use Rattle.vs_job.proofs.places.is_longer.Goals as goal

pub returns-in-None : goal.returns-in-None
returns-in-None c =
    let none = strip_suffix_is Decides-eqb c.as_bytes.result.now c.args.added.now c.strip_suffix.result c.strip_suffix.ensures.cases in
    bytes_eq-none c.args.text.now c.args.word.now c.args.added.now (λ front e. MatchOption-at_none _ _ c.in-None.is none front (c.as_bytes.ensures.value ∙ e))

pub returns-in-Some : goal.returns-in-Some
returns-in-Some c =
    let some = strip_suffix_is Decides-eqb c.as_bytes.result.now c.args.added.now c.strip_suffix.result c.strip_suffix.ensures.cases in
    let e = MatchOption-at_some _ _ _ c.in-Some.is some in
    rw (← c.as_bytes-in-Some.ensures.value) (c.eq.ensures ∙ bytes_eq-append c.args.text.now c.in-Some.front.now c.as_bytes-in-Some.result.now c.args.added.now (sym c.as_bytes.ensures.value ∙ e))
