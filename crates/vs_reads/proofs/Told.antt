-- What footprints tell of a process.
use Rattle.std.proofs.Common.{◌≡◌, ℕ, ◌<◌, Bool, true, List, [], ◌||◌, sym, ap, ◌∙◌, subst, Some, length}
use Rattle.std.specs.Prelude.{slice_get}
use Rattle.vs_design.specs.Designs.{Process, Design}
use Rattle.vs_design.specs.Footprints.{contains}
use Rattle.vs_flat.specs.Arena.{Arena}
use Rattle.vs_flat.specs.DesignOf.{design_of}
use Rattle.vs_flat.specs.Laws.{HasCounts}
use Rattle.vs_flat.specs.Lawful.{IsLawful}
use Rattle.vs_reads.specs.Laws.{HasBits, HasBitsOf, EachHasItsBits}
use Rattle.vs_reads.proofs.Numbered.{process_there}

-- a process and its bits
pub record IsProcess (d : Design) (p : ℕ) : Type 0 where
  pub process : Process
  pub is : slice_get d.processes p ≡ Some process
  pub bits : HasBits d p process

pub process_is : EachHasItsBits → (a : Arena) → HasCounts a → IsLawful a → (p : ℕ) → p < length a.processes → IsProcess (design_of a) p
process_is law a n l p h =
    let r = process_there (design_of a).processes p (subst (λ m. p < m) (sym n.processes) h) in
    record { process = r.0; is = r.1; bits = law (design_of a) l.design p r.0 r.1 }

-- these are its bits
pub told : (count : ℕ) (bits read all : List ℕ) → read ≡ bits → HasBitsOf count bits all → HasBitsOf count read all
told count bits read all e h = subst (λ (zs : List ℕ). HasBitsOf count zs all) (sym e) h

pub below_length : (count : ℕ) (bits all : List ℕ) (m : ℕ) → m ≡ count → HasBitsOf count bits all → (b : ℕ) → contains bits b ≡ true → b < m
below_length count bits all m e h b c = subst (λ n. b < n) (sym e) (h.below b c)

-- a list that was collected in two steps
pub collected : (start once twice all : List ℕ) (f g : ℕ → Bool) → start ≡ [] → ((q : ℕ) → contains once q ≡ (contains start q || f q)) → ((q : ℕ) → contains twice q ≡ (contains once q || g q)) → all ≡ twice → (q : ℕ) → contains all q ≡ (f q || g q)
collected start once twice all f g s h k e q =
    ap {B = Bool} (λ (zs : List ℕ). contains zs q) e ∙ k q ∙ ap {B = Bool} (λ t. t || g q) (h q ∙ ap {B = Bool} (λ (zs : List ℕ). contains zs q || f q) s)

pub there : {p n m : ℕ} → p < n → n ≡ m → p < m
there {p} {n} {m} h e = subst (λ k. p < k) e h
