-- A design is accepted or refused.
use Rattle.std.proofs.Common.{◌≡◌, true, ◌⊎◌, inl, inr, refl, Option, Some, None}
use Rattle.vs_design.specs.Levels.{level_order, has_no_cycle}
use Rattle.vs_design.specs.Accepted.{IsAcceptedDesign}
use Rattle.vs_design.specs.Refusals.{WidthRefusal, width_refusal, BlockRefusal, block_refusal, DriverRefusal, driver_refusal, ClockRefusal, clock_refusal, RaceRefusal, race_refusal, ZeroRefusal, zero_refusal, place_at, IsUnrefused}
use Rattle.vs_design.specs.Answers.{DesignRefusal, OfWidth, OfBlock, OfDriver, OfClock, Cycle, OfRace, OfZero, first_of, IsRefusedBy, AcceptedOrRefused, NotBoth}
use Rattle.vs_design.proofs.Lists.{by_test}
use Rattle.vs_design.proofs.Exactly.{accepted_exactly}
use Rattle.vs_design.proofs.CycleFound.{order_or_cycle}

pub accepted_or_refused : AcceptedOrRefused
accepted_or_refused d names l = by_width (width_refusal d) refl
  where
    Answer : Type 0
    Answer = IsAcceptedDesign d names ⊎ ((r : DesignRefusal) × IsRefusedBy d names r)

    by_zero : width_refusal d ≡ None → block_refusal d ≡ None → driver_refusal d ≡ None → clock_refusal d names ≡ None → has_no_cycle d ≡ true → race_refusal d ≡ None → (o : Option ZeroRefusal) → zero_refusal d names ≡ o → Answer
    by_zero w b r c n q (Some z) e = inr (OfZero z, (w, b, r, c, n, q, e))
    by_zero w b r c n q None e = inl ((accepted_exactly d names l).1 (record { widths = w; blocks = b; drivers = r; clocks = c; no_cycle = n; races = q; zero = e }))

    by_race : width_refusal d ≡ None → block_refusal d ≡ None → driver_refusal d ≡ None → clock_refusal d names ≡ None → has_no_cycle d ≡ true → (o : Option RaceRefusal) → race_refusal d ≡ o → Answer
    by_race w b r c n (Some q) e = inr (OfRace q, (w, b, r, c, n, e))
    by_race w b r c n None e = by_zero w b r c n e (zero_refusal d names) refl

    by_cycle : width_refusal d ≡ None → block_refusal d ≡ None → driver_refusal d ≡ None → clock_refusal d names ≡ None → Answer
    by_cycle w b r c =
        by_test (has_no_cycle d)
        (λ n. by_race w b r c n (race_refusal d) refl)
        (λ n. let q = (order_or_cycle d).found n in inr (Cycle q.0 (place_at d.processes (first_of q.0)), (w, b, r, c, q.1, refl)))

    by_clock : width_refusal d ≡ None → block_refusal d ≡ None → driver_refusal d ≡ None → (o : Option ClockRefusal) → clock_refusal d names ≡ o → Answer
    by_clock w b r (Some c) e = inr (OfClock c, (w, b, r, e))
    by_clock w b r None e = by_cycle w b r e

    by_driver : width_refusal d ≡ None → block_refusal d ≡ None → (o : Option DriverRefusal) → driver_refusal d ≡ o → Answer
    by_driver w b (Some r) e = inr (OfDriver r, (w, b, e))
    by_driver w b None e = by_clock w b e (clock_refusal d names) refl

    by_block : width_refusal d ≡ None → (o : Option BlockRefusal) → block_refusal d ≡ o → Answer
    by_block w (Some b) e = inr (OfBlock b, (w, e))
    by_block w None e = by_driver w e (driver_refusal d) refl

    by_width : (o : Option WidthRefusal) → width_refusal d ≡ o → Answer
    by_width (Some w) e = inr (OfWidth w, e)
    by_width None e = by_block e (block_refusal d) refl

none_some : {A : Type 0} (o : Option A) (x : A) → o ≡ None → o ≡ Some x → ⊥
none_some o x e f = cc

pub not_both : NotBoth
not_both d names a r h = go r h ((accepted_exactly d names a.lawful).0 a)
  where
    go : (r : DesignRefusal) → IsRefusedBy d names r → IsUnrefused d names → ⊥
    go (OfWidth x) h u = none_some (width_refusal d) x u.widths h
    go (OfBlock x) h u = none_some (block_refusal d) x u.blocks h.1
    go (OfDriver x) h u = none_some (driver_refusal d) x u.drivers h.2
    go (OfClock x) h u = none_some (clock_refusal d names) x u.clocks h.3
    go (Cycle processes at) h u = (order_or_cycle d).none (level_order d) u.no_cycle processes h.4
    go (OfRace x) h u = none_some (race_refusal d) x u.races h.5
    go (OfZero x) h u = none_some (zero_refusal d names) x u.zero h.6
