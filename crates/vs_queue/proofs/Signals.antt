-- The signals and processes of a flat design, one after the other, by whose bits flags are set.
use Rattle.std.proofs.Common.{◌≡◌, ℕ, ◌+◌, ◌<◌, ◌≤◌, Bool, true, false, not, ◌&&◌, ◌||◌, List, length, refl, sym, ap, ◌∙◌, arith, Some}
use Rattle.std.specs.Prelude.{slice_get}
use Rattle.vs_design.specs.Expressions as E
use Rattle.vs_design.specs.Statements as T
use Rattle.vs_design.specs.Designs as D
use Rattle.vs_design.specs.Designs.{bit_count}
use Rattle.vs_design.specs.Elaborated.{IsLawfulDesign}
use Rattle.vs_design.specs.Footprints.{contains, writes_of}
use Rattle.vs_design.specs.Values.{count_from}
use Rattle.vs_flat.specs.declared.processes.Signal.{Signal}
use Rattle.vs_flat.specs.declared.processes.Process.{Process}
use Rattle.vs_flat.specs.declared.processes.Kind.{Kind}
use Rattle.vs_flat.specs.declared.processes.Kind.TheVariants as K
use Rattle.vs_flat.specs.Arena.{Arena, signal_length}
use Rattle.vs_flat.specs.Trees.{no_signal, signal_at, signal_of, tree_at, statement_at}
use Rattle.vs_flat.specs.DesignOf.{kind_of, arena_signals, arena_trees, arena_statements, design_of}
use Rattle.vs_flat.specs.Laws.{EachSignal, EachProcess, CountsStay}
use Rattle.vs_reads.specs.Footprint.{Footprint, footprints_of, writes_at}
use Rattle.vs_reads.specs.Laws.{EachHasItsBits}
use Rattle.vs_queue.specs.First.{flag_at, is_assign_kind}
use Rattle.vs_queue.proofs.Acting.{found_below}
use Rattle.vs_queue.proofs.Drives.{below_sum}
use Rattle.vs_queue.proofs.Flags.{AreNets, net_more, other_more, AreDriven, driven_more}
use Rattle.vs_queue.proofs.Listening.{process_at}
use Rattle.vs_queue.proofs.Settles.{index_at}

module _ (each : EachSignal) (counts : CountsStay) (a : Arena) (k : ℕ) (s : Signal) (at : slice_get a.signals k ≡ Some s) where
  signal_got : slice_get (design_of a).signals k ≡ Some (signal_of k s)
  signal_got =
      let l = found_below a.signals k s at in
      let m = (counts a).signals in
      let x = process_at (design_of a).signals k (omega (arith, l, m)) in
      x.1 ∙ ap Some (sym (index_at (design_of a).signals k x.0 no_signal x.1) ∙ each a k s at)

  -- its bits are the design's
  pub signal_inside : IsLawfulDesign (design_of a) → s.first_bit + signal_length s ≤ bit_count (design_of a)
  signal_inside l = let h = below_sum 0 (design_of a).signals k (signal_of k s) l.bits_numbered signal_got in omega (arith, h)

  pub net_next : (flags now : List Bool) (count : ℕ) → (s.net && not s.input) ≡ true → length now ≡ length flags → ((b : ℕ) → flag_at now b ≡ (flag_at flags b || contains (count_from s.first_bit (signal_length s)) b))
      → AreNets (design_of a).signals flags count k → AreNets (design_of a).signals now count (k + 1)
  net_next flags now count net long set r = net_more (design_of a).signals flags now count k (signal_of k s) signal_got net long set r

  pub other_next : (flags : List Bool) (count : ℕ) → (s.net && not s.input) ≡ false → AreNets (design_of a).signals flags count k → AreNets (design_of a).signals flags count (k + 1)
  other_next flags count other r = other_more (design_of a).signals flags count k (signal_of k s) signal_got other r

module _ (trees : EachProcess) (bits : EachHasItsBits) (a : Arena) (lawful : IsLawfulDesign (design_of a)) (fs : List Footprint) (same : fs ≡ footprints_of (design_of a)) (k : ℕ) (q : Process) (at : slice_get a.processes k ≡ Some q) where
  abbrev x : D.Process
  x = kind_of (signal_at (arena_signals a)) (tree_at (arena_trees a)) (statement_at (arena_statements a)) q.at q.kind

  there : slice_get (design_of a).processes k ≡ Some x
  there = trees a k q at

  pub writes_inside : (count : ℕ) → count ≡ bit_count (design_of a) → (b : ℕ) → contains (writes_at fs k) b ≡ true → b < count
  writes_inside count long b h = let l = (bits (design_of a) lawful k x there).writes.below b (ap (λ (gs : List Footprint). contains (writes_at gs k) b) (sym same) ∙ h) in omega (arith, l, long)

  told_kind : (signal : ℕ → E.Signal) (tree : ℕ → E.Expression) (statement : ℕ → T.Statement) (place : ℕ) (j : Kind) → is_assign_kind j ≡ D.is_assign (kind_of signal tree statement place j)
  told_kind signal tree statement place (K.Assign target e port) = refl
  told_kind signal tree statement place (K.Block star events s) = refl

  is_told : (c : Bool) → is_assign_kind q.kind ≡ c → D.is_assign x ≡ c
  is_told c h = sym (told_kind (signal_at (arena_signals a)) (tree_at (arena_trees a)) (statement_at (arena_statements a)) q.at q.kind) ∙ h

  pub assign_next : is_assign_kind q.kind ≡ true → (flags now : List Bool) (count : ℕ) → length now ≡ length flags → ((b : ℕ) → flag_at now b ≡ (flag_at flags b || contains (writes_at fs k) b))
      → AreDriven (design_of a).processes flags count k → AreDriven (design_of a).processes now count (k + 1)
  assign_next is flags now count long set r =
      driven_more (design_of a).processes flags now count k x there long
      (λ b. set b ∙ ap (λ c. flag_at flags b || c) (ap (λ (gs : List Footprint). contains (writes_at gs k) b) same ∙ (bits (design_of a) lawful k x there).writes.same b ∙ sym (ap (λ c. c && contains (writes_of x) b) (is_told true is)))) r

  pub block_next : is_assign_kind q.kind ≡ false → (flags : List Bool) (count : ℕ) → AreDriven (design_of a).processes flags count k → AreDriven (design_of a).processes flags count (k + 1)
  block_next is flags count r =
      driven_more (design_of a).processes flags flags count k x there refl
      (λ b. sym (or_none (flag_at flags b)) ∙ ap (λ c. flag_at flags b || c) (sym (ap (λ c. c && contains (writes_of x) b) (is_told false is)))) r
    where
      or_none : (c : Bool) → (c || false) ≡ c
      or_none true = refl
      or_none false = refl
