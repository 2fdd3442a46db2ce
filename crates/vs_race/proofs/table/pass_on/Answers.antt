use Rattle.std.proofs.Common.{ℕ, Bool, false, List, ◌&&◌, ◌||◌, refl, subst}
use Rattle.std.specs.List.{list_any}
use Rattle.vs_design.specs.Footprints.{contains}
use Rattle.vs_reads.specs.Footprint.{reads_at, writes_at}
use Rattle.vs_race.specs.Stirrers.{AreTold}
use Rattle.vs_race.proofs.table.pass_on.Goals as goal

pub returns : goal.returns
returns c f told =
    let rs = c.reads.result.now in
    let vs = c.waits.result.now in
    let ws = c.writes.result.now in
    let P : List ℕ → List ℕ → List ℕ → Type 0 = λ us ss ts. AreTold c.note.new.table (λ b q. f b q || (contains us b && (list_any (λ e. f e q) ss || list_any (λ e. f e q) ts))) in
    let g : ℕ → Bool = λ q. list_any (λ b. f b q) rs in
    let h : ℕ → Bool = λ q. list_any (λ b. f b q) rs || list_any (λ b. f b q) vs in
    let made : P ws rs vs = c.note.ensures f h told (c.gather-needed.ensures f g told (c.gather-read.ensures f (λ q. false) told (λ q. refl))) in
    let prints = c.args.footprints.now in
    let p = c.args.p in
    subst (λ ts. P (writes_at prints p) (reads_at prints p) ts) c.waits.ensures (subst (λ ss. P (writes_at prints p) ss vs) c.reads.ensures (subst (λ us. P us rs vs) c.writes.ensures made))
