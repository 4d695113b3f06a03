use Rattle.std.proofs.Common.{◌≡◌, map, take}
use Rattle.http_model.specs.HeadSpans.{field_in}
use Rattle.http_model.proofs.reading.copy_fields.Given as goal

abbrev pub invariant-loop-span : goal.invariant-loop-span
invariant-loop-span l = l.fields.items ≡ map (field_in l.text) (take l.span-index l.spans)
