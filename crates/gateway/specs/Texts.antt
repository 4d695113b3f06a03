-- What is written on a connection, and how it ends.
use Rattle.std.specs.Prelude.{ℕ, suc, Bool, true, false, ◌||◌, List, [], ◌∷◌, ◌++◌, if◌then◌else◌}
use Rattle.http_model.specs.declared.reply.ReplyForm.{ReplyForm}
use Rattle.http_model.specs.declared.head.Head.{Head}
use Rattle.http_model.specs.Forms.{is_bodiless}
use Rattle.http_model.specs.Replies.{bad_request_text}
use Rattle.swift_auth.specs.Users.{UserView}
use Rattle.swift_reply.specs.declared.reply.SwiftRefusal.TheVariants.{NotBuilt, TooLarge}
use Rattle.swift_requests.specs.Bodies.{is_unread, closes}
use Rattle.swift_requests.specs.declared.asked.Asked.{Asked}
use Rattle.swift_requests.specs.declared.asked.Asked.TheVariants.{Refused}
use Rattle.task_words.specs.declared.outcome.Outcome.TheVariants.{BodyFailed}
use Rattle.call_words.specs.Bodies.{read_whole}
use Rattle.call_words.specs.Ends.{on_object}
use Rattle.call_words.specs.Calls.{Ground, task, Call, whole_text}
use Rattle.call_words.specs.Streams.{use_of, form_of, CallsEnd, at_clean, at_close, at_cut, at_bad}
use Rattle.call_words.specs.Texts.{continue_if}
use Rattle.gateway.specs.declared.serve.ConnEnd.{ConnEnd}
use Rattle.gateway.specs.declared.serve.ConnEnd.TheVariants as conn

-- ---- forms

-- the form of the reply to the kth request of a connection, where its body is read to its end, or not at all
abbrev pub form_before : ℕ → List UserView → ℕ → Head → ReplyForm
form_before largest users k head =
    record { bodiless = is_bodiless head.method; close = closes k head (is_unread (use_of largest users head)) }

-- ---- texts

-- what is written for each call, one after another; the first is the kth of its connection
abbrev pub texts_from : ℕ → List Call → List ℕ
texts_from k [] = []
texts_from k (call ∷ calls) = whole_text (form_of k call.request.head call.fate) call ++ texts_from (suc k) calls

-- which request of its connection comes behind these
abbrev pub place_after : ℕ → List Call → ℕ
place_after k [] = k
place_after k (call ∷ calls) = place_after (suc k) calls

-- the form of a reply to what is no request
abbrev pub closing : Bool → ReplyForm
closing bodiless = record { bodiless = bodiless; close = true }

-- what is written where the requests end so: the 100 for a body that is not there whole, a 400, or nothing
abbrev pub end_text : CallsEnd → List ℕ
end_text at_clean = []
end_text at_close = []
end_text (at_cut continued) = continue_if continued read_whole
end_text (at_bad word bodiless) = bad_request_text (closing bodiless) word

-- ---- ends

-- how many replies are written for the end
abbrev pub end_replies : CallsEnd → ℕ
end_replies at_clean = 0
end_replies at_close = 0
end_replies (at_cut continued) = 0
end_replies (at_bad word bodiless) = 1

-- the connection ends refused behind the reply: a 501 or a 413
abbrev pub is_refusing : Asked → Bool
is_refusing (Refused NotBuilt) = true
is_refusing (Refused TooLarge) = true
is_refusing asked = false

-- so it does where the reply says that the body broke off
abbrev pub is_failing : Ground → Bool
is_failing (task actor (on_object BodyFailed)) = true
is_failing other = false

-- how a connection ends behind a reply that closes it
abbrev pub closing_end : Asked → Ground → ConnEnd
closing_end asked basis = if is_failing basis || is_refusing asked then conn.Refused else conn.Closed

-- that of the last call
abbrev pub last_end : List Call → ConnEnd
last_end [] = conn.Closed
last_end (call ∷ []) = closing_end call.asked call.ground
last_end (call ∷ other ∷ calls) = last_end (other ∷ calls)

-- how a connection ends, by its calls and by how its requests end
abbrev pub connection_end : List Call → CallsEnd → ConnEnd
connection_end calls at_clean = conn.Clean
connection_end calls at_close = last_end calls
connection_end calls (at_cut continued) = conn.Cut
connection_end calls (at_bad word bodiless) = conn.Refused
