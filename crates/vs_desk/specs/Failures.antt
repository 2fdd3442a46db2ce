-- What the counts of failed calls tell.
use Rattle.std.specs.Prelude.{ℕ, Option, string_bytes}
use Rattle.vs_desk.specs.declared.failures.Failures.{Failures}
use Rattle.vs_desk.specs.Desk.{Attachment, Register}

-- the register of a desk with these places and these failed calls
abbrev pub register_of : (ℕ → Option Attachment) → Failures → Register
register_of attached failures = record {
  attached = attached;
  faults = failures.faults;
  losses = failures.losses;
  failed = failures.failed;
  asked = string_bytes failures.asked;
}
