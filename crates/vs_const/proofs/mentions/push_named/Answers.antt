use Rattle.vs_const.proofs.Mentioning.{named_told}
use Rattle.vs_const.proofs.mentions.push_named.Goals as goal

pub returns-in_ok-push-in-Signal : goal.returns-in_ok-push-in-Signal
returns-in_ok-push-in-Signal c m h = named_told c.args.in_call c.args.named c.in-Signal.signal m c.named_way.result c.args.list.now.items c.push.new.self.items c.in-Signal.is h c.named_way.ensures c.in_ok-push-in-Signal.ensures.items
