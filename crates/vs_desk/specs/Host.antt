-- What a desk over the system's files tells.
use Rattle.std.specs.Prelude.{false}
use Rattle.vs_desk.specs.declared.host.HostDesk.{HostDesk}
use Rattle.vs_desk.specs.Desk.{Register, Told, no_contents}
use Rattle.vs_desk.specs.Failures.{register_of}
use Rattle.vs_desk.specs.Place.{attached_in}

unfoldable pub register : {R F D : Type 0} → HostDesk R F D → Register
register desk = register_of (attached_in desk.places) desk.failures

-- it doesn't tell its contents
abbrev pub told : {R F D : Type 0} → HostDesk R F D → Told false
told desk = record { register = register desk; contents = no_contents }
