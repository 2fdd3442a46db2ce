-- The header and the items of a scope, and what each of the items makes.
use Rattle.std.proofs.Common.{◌≡◌, ℕ, suc, List, [], ◌∷◌, length, if◌then◌else◌, refl, ap}
use Rattle.vs_grammar.specs.Trees.{Item}
use Rattle.vs_const.specs.Meanings.{Find}
use Rattle.vs_elaborated.specs.Limits.{Limits}
use Rattle.vs_elaborated.specs.Environments.{Env}
use Rattle.vs_elaborated.specs.Constructs.{construct, constructs, is_construct}
use Rattle.vs_elaborated.specs.Surveys.{contents_unheard, header_said, items_of, ports_said}
use Rattle.vs_scope.specs.declared.contents.Contents.{Contents}
use Rattle.vs_scope.specs.declared.contents.Contents.TheVariants.{Module, Block}
use Rattle.vs_scope.specs.declared.frames.Frame.{Frame}
use Rattle.vs_maps.specs.declared.maps.NameMap.{NameMap}
use Rattle.vs_scope.specs.declared.parameters.Override.{Override}
use Rattle.vs_scope.specs.Contents.{contents_header, contents_items}
use Rattle.vs_scope.specs.Surveys.{contents_of}
use Rattle.vs_items.specs.Unheard.{scope_unheard}

-- one for each
pub one_made_each : (limits : Limits) (items : List Item) (env : Env) (n total : ℕ) → length (constructs limits items env n total) ≡ length items
one_made_each limits [] env n total = refl
one_made_each limits (i ∷ is) env n total = ap suc (one_made_each limits is env (if is_construct i then suc n else n) (construct i limits env n total).turns)

pub items_are_those : (frames : List Frame) (overrides : NameMap Override) (c : Contents) → items_of (contents_of frames overrides c) ≡ contents_items c
items_are_those frames overrides (Module m) = refl
items_are_those frames overrides (Block b) = refl

pub header_are_those : (frames : List Frame) (overrides : NameMap Override) (c : Contents) (env : Env) → header_said env (contents_of frames overrides c) ≡ ports_said env (contents_header c)
header_are_those frames overrides (Module m) env = refl
header_are_those frames overrides (Block b) env = refl

pub unheard_are_those : (frames : List Frame) (overrides : NameMap Override) (c : Contents) (find : Find) → contents_unheard find (contents_of frames overrides c) ≡ scope_unheard find c
unheard_are_those frames overrides (Module m) find = refl
unheard_are_those frames overrides (Block b) find = refl
