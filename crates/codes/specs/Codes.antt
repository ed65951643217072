-- The byte of each answer and of each refusal.
use Rattle.std.specs.Prelude.{ℕ}
use Rattle.codes.specs.declared.answer.Answer.{Answer}
use Rattle.codes.specs.declared.answer.Answer.TheVariants.{VertexAdded, VertexAlready, VertexRemoved, VertexAbsent, VertexPresent, EdgeAdded, EdgeAlready, EdgeRemoved, EdgeAbsent, EdgePresent, SnapshotTaken, ReachTaken, RowsSpent, ClockSpent}
use Rattle.codes.specs.declared.refusal.Refusal.{Refusal}
use Rattle.codes.specs.declared.refusal.Refusal.TheVariants.{SizeOutside, TooFewCells, NoSuchWorker, WorkerBusy, NoSuchCall, KeyOutside, WeightOutside, WorkerIdle, PageOut, NoFinishedPage, WrongTicket, AreaTooSmall, NoFrame}

abbrev pub answer_code : Answer → ℕ
answer_code VertexAdded = 0x10
answer_code VertexAlready = 0x11
answer_code VertexRemoved = 0x12
answer_code VertexAbsent = 0x13
answer_code VertexPresent = 0x14
answer_code EdgeAdded = 0x20
answer_code EdgeAlready = 0x21
answer_code EdgeRemoved = 0x22
answer_code EdgeAbsent = 0x23
answer_code EdgePresent = 0x24
answer_code SnapshotTaken = 0x30
answer_code ReachTaken = 0x31
answer_code RowsSpent = 0x40
answer_code ClockSpent = 0x41

abbrev pub refusal_code : Refusal → ℕ
refusal_code SizeOutside = 0xE1
refusal_code TooFewCells = 0xE2
refusal_code NoSuchWorker = 0xE3
refusal_code WorkerBusy = 0xE4
refusal_code NoSuchCall = 0xE5
refusal_code KeyOutside = 0xE6
refusal_code WeightOutside = 0xE7
refusal_code WorkerIdle = 0xE8
refusal_code PageOut = 0xE9
refusal_code NoFinishedPage = 0xEA
refusal_code WrongTicket = 0xEB
refusal_code AreaTooSmall = 0xEC
refusal_code NoFrame = 0xED
