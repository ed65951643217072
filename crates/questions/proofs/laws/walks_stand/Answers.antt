use Rattle.questions.proofs.Staying.{walks_shown}
use Rattle.questions.proofs.laws.walks_stand.Goals as goal

pub returns : goal.returns
returns g c = walks_shown (g.met.G.GraphView.joins_shown c.args.page.now)
