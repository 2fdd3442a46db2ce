use Rattle.std.proofs.Common.{◌≡◌, Some, None}
use Rattle.vs_elaborated.specs.Environments.{find_entry}
use Rattle.vs_maps.specs.MapViews.{pairs}
use Rattle.vs_scope.specs.Views.{entries, entry_of}
use Rattle.vs_scope.proofs.Entries.{match_copied, find_value}
use Rattle.vs_scope.proofs.names.Names.find.Goals as goal

pub returns-clause-entry : goal.returns-clause-entry
returns-clause-entry c =
    let es = entries c.args.self.now in
    let name = c.args.name.now in
    match_copied (λ x. x.now) (find_entry es name ≡ None) (λ v. find_entry es name ≡ Some (entry_of name v)) c.get.result _ c.get.ensures.value (find_value name (pairs c.args.self.now.map))
