use Rattle.std.proofs.Common.{string_bytes}
use Rattle.vs_reread.proofs.Left.{lines_of_file}
use Rattle.vs_reread.proofs.again.read_lines.Goals as goal

pub returns-clause-text : goal.returns-clause-text
returns-clause-text g c =
    lines_of_file (λ text. text.items) c.take_lines.result (g.D.Desk.told c.args.desk.now).contents (g.D.Desk.told c.attach.new.self).contents c.args.place c.args.n (string_bytes c.args.path)
    (λ t. c.in_ok-attach.ensures.attached.bytes t) c.take_lines.ensures.text
