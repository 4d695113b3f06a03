use Rattle.std.proofs.Common.{◌≡◌, take, bytes_eq}
use Rattle.swift_auth.proofs.user.are_same.Given as goal

abbrev pub invariant-loop-at : goal.invariant-loop-at
invariant-loop-at l = l.same ≡ bytes_eq (take l.at l.secret) (take l.at l.sent)
