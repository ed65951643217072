-- Which call a begin asks for, why it is refused, and where the call starts.
use Rattle.std.specs.Prelude.{ℕ, Bool, true, false, if◌then◌else◌, not, ◌&&◌, Ok, Err, Result, ◌==◌, nat_le, nat_lt}
use Rattle.codes.specs.declared.refusal.Refusal.{Refusal}
use Rattle.codes.specs.declared.refusal.Refusal.TheVariants.{NoSuchCall, KeyOutside, WeightOutside}
use Rattle.layout.specs.Limits.{between}
use Rattle.places.specs.declared.place.Op.{Op}
use Rattle.places.specs.declared.place.Op.TheVariants.{Add, Remove, Contains}
use Rattle.places.specs.declared.place.Call.{Call}
use Rattle.places.specs.declared.place.Call.TheVariants as call
use Rattle.places.specs.declared.place.Survey.TheVariants.{Snapshot, Reach}
use Rattle.places.specs.declared.place.Look.TheVariants as look
use Rattle.places.specs.declared.place.Place.{Place}
use Rattle.places.specs.declared.place.Place.TheVariants as place
use Rattle.places.specs.declared.call.Begin.{Begin}

-- calls 1 to 3 add, remove and look up a vertex, calls 4 to 6 an edge
abbrev pub op_of : ℕ → Op
op_of n =
    if n == 1 then Add
    else if n == 4 then Add
    else if n == 2 then Remove
    else if n == 5 then Remove
    else Contains

-- an edge call names two keys, which have to differ
abbrev pub edge_keys_fit : ℕ → Begin → Bool
edge_keys_fit n b = nat_lt b.from n && (nat_lt b.to n && not (b.from == b.to))

-- calls 4 to 6 use both keys; call 7 uses none; the others use the first
abbrev pub keys_fit : ℕ → Begin → Bool
keys_fit n b =
    if between 4 b.call 6 then edge_keys_fit n b
    else if b.call == 7 then true
    else nat_lt b.from n

abbrev pub adds : Op → Bool
adds Add = true
adds Remove = false
adds Contains = false

-- only an add of an edge uses the weight
abbrev pub edge_weight_fits : Op → Begin → Bool
edge_weight_fits o b = if adds o then between 1 b.weight 1000000 else true

abbrev pub weight_fits : Begin → Bool
weight_fits b = if between 4 b.call 6 then edge_weight_fits (op_of b.call) b else true

abbrev pub edge_named : Op → Begin → Call
edge_named o b = call.Edge o (record { from = b.from; to = b.to; weight = b.weight })

abbrev pub call_named : Begin → Call
call_named b =
    if nat_le b.call 3 then call.Vertex (op_of b.call) b.from
    else if nat_le b.call 6 then edge_named (op_of b.call) b
    else if b.call == 7 then call.Survey Snapshot
    else call.Survey (Reach b.from)

-- the call, where its keys and its weight fit; else the first refusal that holds
abbrev pub fitting : Bool → Bool → Call → Result Call Refusal
fitting keys weight c = if keys then (if weight then Ok c else Err WeightOutside) else Err KeyOutside

abbrev pub edge_call : ℕ → Op → Begin → Result Call Refusal
edge_call n o b = fitting (edge_keys_fit n b) (edge_weight_fits o b) (edge_named o b)

-- the first refusal that holds, or the call
abbrev pub call_of : ℕ → Begin → Result Call Refusal
call_of n b = if between 1 b.call 8 then fitting (keys_fit n b) (weight_fits b) (call_named b) else Err NoSuchCall

-- a vertex call looks at its vertex, an edge call at its source; a snapshot or reach raises the clock
abbrev pub place_first : Call → Place
place_first (call.Vertex o i) = place.Head (look.Vertex o i)
place_first (call.Edge o p) = place.Head (look.Source o p)
place_first (call.Survey v) = place.Raise v
