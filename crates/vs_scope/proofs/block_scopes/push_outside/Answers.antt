use Rattle.std.proofs.Common.{◌++◌, ◌∷◌, [], List, map, sym, ap, ◌∙◌}
use Rattle.std.proofs.lemmas.List.{map-append, append-nil}
use Rattle.vs_elaborated.specs.Generate.{BlockName}
use Rattle.vs_scope.specs.declared.made.BlockName.TheVariants.{Written}
use Rattle.vs_scope.specs.Made.{block_name}
use Rattle.vs_scope.proofs.BlockNames.{outside_none, outside_some}
use Rattle.vs_scope.proofs.block_scopes.push_outside.Goals as goal

pub returns-in_ok-push-in-None : goal.returns-in_ok-push-in-None
returns-in_ok-push-in-None c =
    let old = c.args.names.now.items in
    ap (map block_name) c.in_ok-push-in-None.ensures.items ∙ map-append block_name old (Written c.args.b.now.name ∷ []) ∙ ap (λ (x : List BlockName). map block_name old ++ x) (sym (outside_none c.args.b.now c.in-None.is))

pub returns-in-Some : goal.returns-in-Some
returns-in-Some c =
    let old = map block_name c.args.names.now.items in
    sym (append-nil old) ∙ ap (λ (x : List BlockName). old ++ x) (sym (outside_some c.args.b.now _ c.in-Some.is))
