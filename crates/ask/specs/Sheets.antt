-- What a sheet holds, and the pages that a first line makes.
use Rattle.std.specs.Prelude.{ℕ, ◌*◌, if◌then◌else◌, ◌&&◌, List, ◌++◌, replicate, Some, None, Ok, Err, Option, Result, nat_le}
use Rattle.codes.specs.Page.{no_edge}
use Rattle.ask.specs.declared.drawn.Drawn.{Drawn}
use Rattle.ask.specs.declared.sheet.Sheet.{Sheet}
use Rattle.ask.specs.declared.fault.Fault.{Fault}
use Rattle.ask.specs.declared.fault.Fault.TheVariants.{Size}

-- a page: how many keys it has, and its cells
pub record Drawing : Type 0 where
  pub keys : ℕ
  pub cells : List ℕ

-- a page, once a line made it, and the keys to ask from
pub record Held : Type 0 where
  pub page : Option Drawing
  pub starts : List ℕ

-- the page that is drawn
abbrev pub drawing : Drawn → Drawing
drawing d = record { keys = d.keys; cells = d.cells.items }

-- the same, if there is one
abbrev pub drawing_in : Option Drawn → Option Drawing
drawing_in None = None
drawing_in (Some d) = Some (drawing d)

-- what the sheet holds
abbrev pub held : Sheet → Held
held s = record { page = drawing_in s.page; starts = s.starts.items }

-- the page of n keys that shows no key and no edge
abbrev pub bare : ℕ → Drawing
bare n = record { keys = n; cells = replicate n 0 ++ replicate (n * n) no_edge }

-- a bare page has 1 to 64 keys
abbrev pub sized : Option ℕ → Result Drawing Fault
sized None = Err Size
sized (Some n) = if nat_le 1 n && nat_le n 64 then Ok (bare n) else Err Size
