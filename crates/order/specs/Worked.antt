-- Worked case: two calls that have one order.
use Rattle.std.specs.Prelude.{false, if◌then◌else◌, [], ◌∷◌, Some, None, ◌==◌}
use Rattle.codes.specs.declared.answer.Answer.TheVariants.{VertexAdded, VertexPresent}
use Rattle.places.specs.declared.place.Op.TheVariants.{Add, Contains}
use Rattle.places.specs.declared.place.Call.TheVariants as call
use Rattle.order.specs.Graph.{empty}
use Rattle.order.specs.Past.{Past}
use Rattle.order.specs.Order.{OneOrder}
use Rattle.order.specs.Marked.{Marking, Marked, Fresh}

-- an add of vertex 0 begins at time 1, makes a change that bears stamp 1, and is finished at 6; a contains begins at 7 and is finished at 9
abbrev pub two_calls : Past
two_calls = record {
  begun = λ b.
      if b == 1 then Some (call.Vertex Add 0)
      else if b == 7 then Some (call.Vertex Contains 0)
      else None;
  finish = λ b.
      if b == 1 then Some (record { time = 6; answer = VertexAdded; page = empty })
      else if b == 7 then Some (record { time = 9; answer = VertexPresent; page = empty })
      else None;
  stamp = λ b. if b == 1 then Some 1 else None;
  raise = λ b. None;
  lower_end = λ b. false;
}

pub record Worked : Type 0 where
  -- the two calls have an order
  pub order : OneOrder two_calls empty (1 ∷ 7 ∷ [])
  -- a run that starts with no rows can give what it owes for them
  pub marked : (run : Marking) × Marked two_calls run × Fresh run
