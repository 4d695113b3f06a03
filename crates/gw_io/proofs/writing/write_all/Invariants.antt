use Rattle.std.proofs.Common.{◌-◌, length}
use Rattle.gw_io.proofs.Pieces.{HasTaken}
use Rattle.gw_io.proofs.writing.write_all.Given as goal

abbrev pub invariant-loop-done : goal.invariant-loop-done
invariant-loop-done g l =
    HasTaken (g.K.Sink.taken l.initial.sink) (g.K.Sink.taken l.sink) l.bytes l.done (g.K.Sink.faults l.initial.sink) (g.K.Sink.faults l.sink)

abbrev pub decreases-loop-done : goal.decreases-loop-done
decreases-loop-done g l = length l.bytes - l.done
