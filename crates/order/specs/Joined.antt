-- Stretches of a run, joined: one order explains both.
use Rattle.std.specs.Prelude.{ℕ, ◌+◌, ◌-◌, ◌<◌, ◌≤◌, if◌then◌else◌, Some, None, Option, nat_lt}
use Rattle.questions.specs.Graph.{Graph}
use Rattle.order.specs.Past.{Finish, Past, Belongs}
use Rattle.order.specs.Order.{changes, stamping, AtLeast, StampOrder, Ordered}
use Rattle.order.specs.Marked.{Marking, Marked, end_graph}
use Rattle.order.specs.Ends.{ShowsOld, NoneEnded}

-- all times of a finish later by n
abbrev pub finish_later : ℕ → Option Finish → Option Finish
finish_later n None = None
finish_later n (Some f) = Some (record { time = n + f.time; answer = f.answer; page = f.page })

-- the past h up to the time n, and the past k from there on, which counts its times from n
abbrev pub continued : ℕ → Past → Past → Past
continued n h k = record {
  begun = λ b. if nat_lt b n then h.begun b else k.begun (b - n);
  finish = λ b. if nat_lt b n then h.finish b else finish_later n (k.finish (b - n));
  stamp = λ b. if nat_lt b n then h.stamp b else k.stamp (b - n);
  raise = λ b. if nat_lt b n then h.raise b else k.raise (b - n);
  lower_end = λ b. if nat_lt b n then h.lower_end b else k.lower_end (b - n);
}

-- the calls that belong to the order of a past began before the time n; their changes bear stamps up to c, and they raised the clock to c at most
pub record Over (n c : ℕ) (h : Past) : Type 0 where
  pub began : (b : ℕ) → Belongs h b → b < n
  pub stamps : (b : ℕ) → Belongs h b → StampOrder (stamping h b) (changes c)

-- the changes of a past bear stamps from c on, and its calls raised the clock from c or more
abbrev pub From : ℕ → Past → Type 0
From c k = (b : ℕ) → Belongs k b → AtLeast c (stamping k b)

-- a past from the graph in which another ended, and from its clock on
abbrev pub PastsJoin : Type 0
PastsJoin = (n c : ℕ) (h k : Past) (g m e : Graph) → Over n c h → From c k → Ordered h g m → Ordered k m e → Ordered (continued n h k) g e

-- the calls of a run began before now, and bear its stamps
abbrev pub RunsOver : Type 0
RunsOver = (h : Past) (run : Marking) → Marked h run → Over run.now run.top h

-- a past that one order explains, and a run that starts where it ended: one order explains both, so that any number of stretches can be joined
abbrev pub StretchesJoin : Type 0
StretchesJoin = (n c : ℕ) (h k : Past) (g m : Graph) (run : Marking) → Over n c h → Ordered h g m →
    Marked k run → NoneEnded run → ShowsOld run m → c ≤ run.clock 0 →
    Ordered (continued n h k) g (end_graph run) × Over (n + run.now) run.top (continued n h k)
