use Rattle.std.proofs.Common.{◌≡◌, ◌≤◌, ◌<◌, ℕ, length, take, IsNone}
use Rattle.vs_desk.specs.Places.{most_others}
use Rattle.vs_reread.specs.Again.{stimulus_again, other_again, most_bytes, IsFaultless, OnlyRead}
use Rattle.vs_explainer.specs.Joined.{IsJoined}
use Rattle.vs_explainer.proofs.joined.read_joined.Given as goal

abbrev pub invariant-loop-n : goal.invariant-loop-n
invariant-loop-n g l = record {
  joined : IsJoined g.D.Desk.tells l.job.head (g.D.Desk.told l.fn.desk).contents.files l.job.design (take l.n l.job.others) l.joined.text.items l.joined.starts.items;
  short : length l.joined.text.items ≤ most_bytes;
  head : length l.job.head ≤ length l.joined.text.items;
  only : OnlyRead (g.D.Desk.told l.fn.desk) (g.D.Desk.told l.desk);
  stimulus : (g.D.Desk.told l.desk).register.attached stimulus_again ≡ (g.D.Desk.told l.fn.desk).register.attached stimulus_again;
  free : (n : ℕ) → l.n ≤ n → n < most_others → IsNone ((g.D.Desk.told l.desk).register.attached (other_again n));
  faultless : IsFaultless (g.D.Desk.told l.fn.desk).register (g.D.Desk.told l.desk).register;
}
