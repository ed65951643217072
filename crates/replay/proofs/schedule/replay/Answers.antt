use Rattle.std.proofs.Common.{rules}
use Rattle.replay.proofs.Replaying.{replays}
use Rattle.replay.proofs.schedule.replay.Goals as goal

pub returns-clause-replays : goal.returns-clause-replays
returns-clause-replays g c =
    replays _ (g.M.CellMemory.cells c.replay_closed-n.new.memory) _ _ _ c.replay_closed-n.new.out _ _ _ _ c.in-Some.sizes _ _
    (rw c.in-Some.is at c.replay_closed-n.ensures.until) c.over-run.ensures.state c.replay_open.ensures.replayed (search rules)
