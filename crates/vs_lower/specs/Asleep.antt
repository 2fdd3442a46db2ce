-- What the lowering of a sleeping block needs and gives (9.7.5).
use Rattle.std.specs.Prelude.{◌≡◌, ℕ, ◌+◌, ◌*◌, ◌<◌, ◌≤◌, ◌^◌, true, List, ◌++◌, map, length, All}
use Rattle.vs_net.specs.Network as N
use Rattle.vs_design.specs.Bodies.{body}
use Rattle.vs_design.specs.Designs.{Process}
use Rattle.vs_design.specs.Footprints.{contains, statement_bits, writes_of}
use Rattle.vs_design.specs.Sizes.{distinct, statement_weight}
use Rattle.vs_design.specs.Statements.{Statement}
use Rattle.vs_cone.specs.Lists.{HasEachOnce}
use Rattle.vs_code.specs.Calls.{Call, State, AreCalled, length_of}
use Rattle.vs_program.specs.Lowered.{Layout}
use Rattle.vs_reset.specs.Sleepers.{AreBits, IsBody, IsMask, sleeper_calls}
use Rattle.vs_values.specs.Added.{AreAdded, Holds}
use Rattle.vs_lower.specs.Assigned.{AreNew}
use Rattle.vs_values.specs.Coded.{Coding}
use Rattle.vs_values.specs.Environments.{homes}
use Rattle.vs_lower.specs.Processed.{IsBlockReady}

-- What is added for a statement whose bits stay at home: these slots, constants' or new ones, have what these bits have after it.
pub record AddsBody (count : ℕ) (old new : Coding) (st : Statement) (bits now : List ℕ) : Type 0 where
  pub calls : List Call
  pub is : new.calls ≡ old.calls ++ calls
  pub added : AreAdded old.next calls new.next (statement_weight st + distinct (statement_bits st))
  pub long : length now ≡ length bits
  pub own : AreNew old.next now
  pub below : All (λ slot. slot < new.next) now
  pub values : (before after : State) (state : N.State) → Holds (homes count) before state → AreCalled calls before after → map after now ≡ map (N.write_all state (body st state).writes) bits

-- what the lowering of a sleeping block needs, which waits on these bits: what a combinational block needs, a mask, a bit that it writes, and room for what it stores besides
pub record IsSleeperReady (count : ℕ) (code : Coding) (waits : List ℕ) (mask : ℕ) (st : Statement) : Type 0 where
  pub block : IsBlockReady count code st
  pub mask_is : IsMask count code.next mask
  pub waits_are : AreBits count waits
  pub bit : ℕ
  pub some : contains (statement_bits st) bit ≡ true
  pub few : length_of code.calls + (length waits + 1 + (statement_weight st + 2 * distinct (statement_bits st))) ≤ 2 ^ 32

-- these calls, and no others, are added for the block, which waits on these bits and has this mask
pub record AddsSleeper (l : Layout) (p : Process) (waits : List ℕ) (mask : ℕ) (old new : List Call) : Type 0 where
  pub bits : List ℕ
  pub now : List ℕ
  pub body : List Call
  pub is : new ≡ old ++ sleeper_calls mask l.first_temp waits bits now body
  pub bits_are : HasEachOnce (writes_of p) bits
  pub lowered : IsBody l p bits now body
