use Rattle.std.proofs.Common.{◌≡◌, ℕ, ◌+◌, ◌*◌, ◌/◌, ◌%◌, ◌==◌, get_or, sym, ap₂, arith}
use Rattle.std.specs.Int.{bit_at}
use Rattle.vs_plane.proofs.arrays.WordsLanes.sixty_four.Goals as goal

pub returns : goal.returns
returns g c i h =
    let place : (64 * c.args.k + i) / 64 ≡ c.args.k = omega arith in
    let low : (64 * c.args.k + i) % 64 ≡ i = omega arith in
    sym (ap₂ (λ (m j : ℕ). bit_at (get_or c.args.self.words m 0) j == 1) place low)
