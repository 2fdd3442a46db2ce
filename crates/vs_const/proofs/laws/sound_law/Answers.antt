use Rattle.vs_const.proofs.Formed.{typed_fine}
use Rattle.vs_const.proofs.laws.sound_law.Goals as goal

pub returns : goal.returns
returns c = λ d e find needed sound shaped none. typed_fine d find e needed sound shaped none
