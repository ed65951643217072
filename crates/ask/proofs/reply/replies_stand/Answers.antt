use Rattle.ask.proofs.Replied.{replies_read}
use Rattle.ask.proofs.reply.replies_stand.Goals as goal

pub returns : goal.returns
returns c = replies_read
