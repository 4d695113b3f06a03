use Rattle.std.proofs.Common.{◌≡◌, ◌-◌, ◌≤◌, ◌+◌}
use Rattle.script_lines.specs.declared.reader.TheConstants.{INPUT_LIMIT}
use Rattle.rgw_script.specs.Stages.{scene_of, Holds}
use Rattle.rgw_script.proofs.Lines.{SoFar}
use Rattle.rgw_script.proofs.running.play_lines.Given as goal

abbrev pub invariant-lines : goal.invariant-lines
invariant-lines g l =
    Holds l.settings l.script l.realm
    × SoFar l.settings (scene_of l.fn.script l.fn.realm.history) (g.S.Source.left l.fn.input) (g.S.Source.left l.input) (g.K.Sink.taken l.fn.output) (g.K.Sink.taken l.output)
    l.reader l.number (scene_of l.script l.realm.history)
    × (l.script.next ≤ l.number + 2)
    × (g.S.Source.faults l.input ≡ g.S.Source.faults l.fn.input)
    × (g.K.Sink.faults l.output ≡ g.K.Sink.faults l.fn.output)

abbrev pub decreases-lines : goal.decreases-lines
decreases-lines g l = INPUT_LIMIT - l.reader.given
