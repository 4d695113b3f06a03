use Rattle.std.proofs.Common.{◌≡◌, ◌++◌, take, flat_map}
use Rattle.http_model.specs.Replies.{status_line, field_line}
use Rattle.swift_reply.proofs.head.write_head.Given as goal

abbrev pub invariant-loop-field : goal.invariant-loop-field
invariant-loop-field l = l.text.items ≡ status_line l.fn.head.code ++ flat_map field_line (take l.field-index l.fn.head.fields)
