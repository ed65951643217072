-- The states of a run up to now are a course.
use Rattle.std.specs.Prelude.{ℕ, min}
use Rattle.runs.specs.Runs.{RunInTime}
use Rattle.walks.specs.Courses.{Course, course_of}
use Rattle.walks.specs.Steps.{Steps}

-- from now on nothing happens
abbrev pub run_course : RunInTime → ℕ → Course
run_course R now = course_of (λ k. R.state (min k now)) now

-- the states of a run are a memory as walks asks, with the keys of its sizes
abbrev pub RunsGiveSteps : Type 0
RunsGiveSteps = (R : RunInTime) (now : ℕ) → Steps (run_course R now) R.sizes.keys
