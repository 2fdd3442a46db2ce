use Rattle.std.proofs.Common.{flat_map, sym, ap, ◌∙◌}
use Rattle.vs_const.specs.Faults.{least, better}
use Rattle.vs_const.proofs.Least.{least_append}
use Rattle.vs_elaborated.specs.Environments.{named}
use Rattle.vs_elaborated.specs.Unheard.{item_unheard, ports_unheard}
use Rattle.vs_scope.specs.Contents.{contents_header, contents_items}
use Rattle.vs_scope.specs.Frames.{view_env}
use Rattle.vs_items.proofs.unheard.contents_unheard.Goals as goal

pub returns : goal.returns
returns c =
    let find = named (view_env c.args.here.now) in
    let header = ports_unheard find (contents_header c.args.contents) in
    let items = flat_map (item_unheard find) (contents_items c.args.contents) in
    c.first_of.ensures ∙ ap (λ o. better o c.in_ok-items.items) c.in_ok-header.ensures ∙ ap (better (least header)) c.in_ok-items.ensures ∙ sym (least_append header items)
