-- The room that the bodies of calls take together.
use Rattle.std.specs.Prelude.{ℕ, List, sum_by}
use Rattle.swift_requests.specs.declared.asked.Asked.{Asked}
use Rattle.swift_requests.specs.declared.asked.Asked.TheVariants.{Put}
use Rattle.call_words.specs.Calls.{Call}
use Rattle.room_law.specs.Frames.{frames_of_body}

-- the frames that the body of a request takes, where it is put, or as much of it as came before its chunks went wrong
abbrev pub frames_asked : ℕ → ℕ → Asked → List ℕ → ℕ
frames_asked frame stripe (Put asker c) body = frames_of_body frame stripe body
frames_asked frame stripe asked body = 0

-- and those of all calls together
abbrev pub frames_together : ℕ → ℕ → List Call → ℕ
frames_together frame stripe calls = sum_by (λ call. frames_asked frame stripe call.asked call.request.body) calls
