-- One order explains the calls of a run, from the laws of runs.
use Rattle.std.proofs.Common.{refl}
use Rattle.order.specs.Marked.{Marking, end_graph}
use Rattle.keys.specs.Marking.{marking_of, RunsGiveKeys, RunsHaveOrder}
use Rattle.keys.proofs.Marked.{run_marked}
use Rattle.keys.proofs.Turning.{run_laws}
use Rattle.order.proofs.Ends.{old_rows_stand as stands, runs_show_ends as ends}
use Rattle.runs.proofs.Starts.{runs_start_shown as starts}

pub give_keys : RunsGiveKeys
give_keys R N m tell ok h past surveys =
    run_marked R N m (run_laws R N m tell ok) h past surveys

pub have_order : RunsHaveOrder
have_order R N m tell ok h first shows past surveys =
    let x = give_keys R N m tell ok h past surveys in
    let run : Marking = marking_of R N m x.key x.change in
    let old = starts R N first shows run refl tell in
    let shown = (ends h run x.marked).end in
    record { end = end_graph run; shown = shown; order = stands h run x.marked old.1 first (end_graph run) old.0 shown }
