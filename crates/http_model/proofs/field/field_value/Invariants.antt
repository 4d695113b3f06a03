use Rattle.std.proofs.Common.{◌≡◌, option_copied, take}
use Rattle.http_model.specs.Framings.{value_of}
use Rattle.http_model.proofs.field.field_value.Given as goal

abbrev pub invariant-loop-field : goal.invariant-loop-field
invariant-loop-field l = option_copied l.last ≡ value_of l.name (take l.field-index l.fields)
