use Rattle.questions.specs.Search.{value_at}
use Rattle.questions.proofs.Labels.{blank_part}
use Rattle.questions.proofs.best_first.answer.Goals as goal

pub search-requires-clause-blank : goal.search-requires-clause-blank
search-requires-clause-blank g c = blank_part _ g.row.ROOM _ c.default-labels.ensures

pub returns : goal.returns
returns g c =
    let written = c.search.ensures.written in
    record {
      keys = λ k h. (let (y, is, form) = written.front k h in (value_at c.search.new.labels k, y, is, form, c.search.ensures.values k h));
      others = λ k h. written.others k h;
    }
