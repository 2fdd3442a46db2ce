use Rattle.std.proofs.Common.{◌≡◌, ◌++◌, map, take}
use Rattle.vs_items.specs.Ports.{name_bytes, setting_bytes}
use Rattle.vs_items.proofs.ports.push_settings.Given as goal

abbrev pub invariant-loop-setting : goal.invariant-loop-setting
invariant-loop-setting l = map name_bytes l.names.items ≡ map name_bytes l.fn.names.items ++ map setting_bytes (take l.setting-index l.settings)
