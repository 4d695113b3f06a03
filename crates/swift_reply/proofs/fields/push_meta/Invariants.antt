use Rattle.std.proofs.Common.{◌≡◌, ◌++◌, ℕ, List, take, flat_map}
use Rattle.http_model.specs.Replies.{field_line}
use Rattle.swift_reply.specs.Fields.{text_field}
use Rattle.swift_reply.proofs.fields.push_meta.Given as goal

abbrev pub invariant-loop-pair : goal.invariant-loop-pair
invariant-loop-pair l = l.out.items ≡ l.fn.out.items ++ flat_map (λ (pair : List ℕ × List ℕ). field_line (text_field (l.fn.front ++ pair.0) pair.1)) (take l.pair-index l.fn.meta)
