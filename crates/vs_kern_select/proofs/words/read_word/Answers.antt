use Rattle.std.proofs.Common.{◌≡◌, ℕ, ◌+◌, ◌*◌, ◌<◌, ◌≤◌, Bool, if◌then◌else◌, Option, length, take, drop, replicate, refl, ap, ap₂, ◌∙◌, arith}
use Rattle.std.proofs.lemmas.List.{get_or_default, length-replicate}
use Rattle.vs_four.specs.declared.Bit4.TheVariants.{X}
use Rattle.vs_four.specs.Logic.{BitList}
use Rattle.vs_four.specs.Selects.{range_length}
use Rattle.vs_plane.specs.Kernels.{lane_bits}
use Rattle.vs_kern_select.specs.Matches.{is_place}
use Rattle.vs_kern_select.specs.Words.{address_place}
use Rattle.vs_kern_select.proofs.SelectStill.{unchanged}
use Rattle.vs_kern_select.proofs.WordLaws.{so_far, word_none, word_next, word_ended, word_ends, length-choice}
use Rattle.vs_kern_select.proofs.words.read_word.Goals as goal

pub loop-n-init : goal.loop-n-init
loop-n-init g c =
    let law = c.filling_law.ensures in
    let lane = g.W.Word.lane in
    let before = c.args.file.now in
    let to = c.args.to.now in
    let fills = c.unknown_word.ensures.fills in
    record {
      slots = fills.slots;
      value = λ i h.
          law.stands (λ i. replicate (length to) X) to (length to) i before c.unknown_word.new.file h (length-replicate (length to) X) refl fills
          ∙ word_none (length to) (lane_bits lane before c.args.a.now i) (address_place c.args.range c.args.signed (lane_bits lane before c.args.address.now i));
      kept = λ slot none. fills.kept slot none;
      ticked = omega (arith, c.unknown_word.ensures.ticked);
    }

pub loop-n-preserved : goal.loop-n-preserved
loop-n-preserved g c =
    let law = c.filling_law.ensures in
    let lane = g.W.Word.lane in
    let lanes = g.W.Word.LANES in
    let before = c.args.file.now in
    let file = c.loop-n.file in
    let after = c.copy_word.new.file in
    let to = c.args.to.now in
    let k : ℕ = length to in
    let n = c.loop-n.n in
    let place : BitList → Option ℕ = λ address. address_place c.args.range c.args.signed address in
    let t : ℕ → Bool = λ i. lane c.lanes_of_word-lanes.result i in
    let a : ℕ → BitList = λ i. lane_bits lane before c.args.a.now i in
    let address : ℕ → BitList = λ i. lane_bits lane before c.args.address.now i in
    let a_now : ℕ → BitList = λ i. lane_bits lane file c.args.a.now i in
    let to_now : ℕ → BitList = λ i. lane_bits lane file to i in
    let value : ℕ → BitList = λ i. if t i then take k (drop (n * k) (a_now i)) else to_now i in
    let inv = c.loop-n.invariant in
    let fills = c.copy_word.ensures.fills in
    let less : n < range_length c.args.range = omega (arith, c.words_of-n-end.ensures) in
    let within : n * k + k ≤ length c.args.a.now = omega (arith, word_ends (range_length c.args.range) k n less, c.requires.a_length) in
    record {
      slots = fills.slots ∙ inv.slots;
      value = λ i h.
          let long : length (value i) ≡ k = length-choice (t i) k (n * k) (a_now i) (to_now i) (omega (arith, within, law.long file c.args.a.now i)) (law.long file to i) in
          let lane_is : t i ≡ is_place n (place (address i)) =
          c.lanes_of_word-lanes.ensures i h
          ∙ ap (λ (xs : BitList). is_place n (place xs)) (unchanged lane lanes law to before file c.args.address.now i c.requires.address.to_apart inv.kept) in
          law.stands value to k i file after h long refl fills
          ∙ ap (λ (b : Bool). if b then take k (drop (n * k) (a_now i)) else to_now i) lane_is
          ∙ ap₂ (λ (xs ys : BitList). if is_place n (place (address i)) then take k (drop (n * k) xs) else ys)
          (unchanged lane lanes law to before file c.args.a.now i c.requires.a.to_apart inv.kept)
          (inv.value i h)
          ∙ word_next k n (a i) (place (address i));
      kept = λ slot none. fills.kept slot none ∙ inv.kept slot none;
      ticked = let one_more : (n + 1) * k ≡ n * k + k = omega arith in omega (arith, one_more, inv.ticked, c.copy_word.ensures.ticked);
    }

pub returns-clause-computes : goal.returns-clause-computes
returns-clause-computes g c =
    let law = c.filling_law.ensures in
    let lane = g.W.Word.lane in
    let before = c.args.file.now in
    let to = c.args.to.now in
    let k : ℕ = length to in
    let a : ℕ → BitList = λ i. lane_bits lane before c.args.a.now i in
    let address : ℕ → BitList = λ i. lane_bits lane before c.args.address.now i in
    let inv = c.loop-n.invariant in
    let all : c.loop-n.n ≡ range_length c.args.range = omega (arith, c.words_of-n-end.ensures) in
    record {
      value = λ i h.
          inv.value i h
          ∙ ap (λ (n : ℕ). so_far k n (a i) (address_place c.args.range c.args.signed (address i))) all
          ∙ word_ended c.args.range k c.args.signed (a i) (address i) (law.long before c.args.a.now i ∙ c.requires.a_length);
      others = record {
        slots = inv.slots;
        kept = λ slot none _. inv.kept slot (λ j l e. none (j, l, get_or_default to j slot 0 l ∙ e));
      };
    }
