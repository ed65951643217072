-- What a call goes on to: a place, or its answer.
use Rattle.std.specs.Prelude.{Some, None, Option}
use Rattle.std.specs.declared.ops.ControlFlow.{ControlFlow}
use Rattle.std.specs.declared.ops.ControlFlow.TheVariants.{Continue, Break}
use Rattle.codes.specs.declared.answer.Answer.{Answer}
use Rattle.places.specs.declared.place.Place.{Place}

abbrev pub Flow : Type 0
Flow = ControlFlow Answer Place

-- the place that it moved to, or its answer
abbrev pub flow_of : Place → Option Answer → Flow
flow_of p None = Continue p
flow_of p (Some a) = Break a
