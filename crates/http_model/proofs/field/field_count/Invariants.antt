use Rattle.std.proofs.Common.{◌≡◌, ◌≤◌, length, take}
use Rattle.http_model.specs.Framings.{values_of}
use Rattle.http_model.proofs.field.field_count.Given as goal

abbrev pub invariant-loop-field : goal.invariant-loop-field
invariant-loop-field l =
    (l.count ≡ length (values_of l.name (take l.field-index l.fields))) × (l.count ≤ l.field-index)
