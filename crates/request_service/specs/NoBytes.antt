-- Requests whose replies show no bytes of an object: what holds of each of their tasks.
use Rattle.std.proofs.Common.{◌≡◌, ℕ, List, [], Some, None, refl, arith}
use Rattle.task_words.specs.declared.reply.MapReply.{MapReply}
use Rattle.request_service.specs.Requests.{GoesOn}

abbrev pub no_bytes : List ℕ
no_bytes = []

pub none_are : no_bytes ≡ []
none_are = refl

-- an event brings none
pub none_comes : GoesOn None None no_bytes
none_comes = record { shows = λ reply shown. shown; brings = λ some. absurd (omega (arith, some)) }

-- there is no reply of which any come
pub none_shown : (A : Type 0) (reply : MapReply) → None ≡ Some reply → A
none_shown A reply is = cc
