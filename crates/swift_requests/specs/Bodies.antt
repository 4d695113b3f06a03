-- What becomes of the bytes behind a head (RFC 9112, sections 6.3, 9.3 and 9.6).
use Rattle.std.specs.Prelude.{ℕ, Bool, true, false, not, ◌&&◌, ◌||◌, ◌==◌, nat_le, if◌then◌else◌}
use Rattle.swift_reply.specs.declared.reply.SwiftRefusal.TheVariants.{NotBuilt, TooLarge}
use Rattle.http_model.specs.declared.head.Framing.{Framing}
use Rattle.http_model.specs.declared.head.Framing.TheVariants.{Empty, Length, Chunked}
use Rattle.http_model.specs.declared.head.Head.{Head}
use Rattle.http_model.specs.declared.head.TheConstants.{REQUEST_LIMIT}
use Rattle.http_model.specs.Forms.{wants_close, waits}
use Rattle.swift_requests.specs.declared.asked.Asked.{Asked}
use Rattle.swift_requests.specs.declared.asked.Asked.TheVariants.{Refused, Put}
use Rattle.swift_requests.specs.declared.body.BodyUse.{BodyUse}
use Rattle.swift_requests.specs.declared.body.BodyUse.TheVariants.{Fed, Awaited, Dropped, Unread}

-- no length above that is told; what chunks hold shows when they are read
abbrev pub is_within : ℕ → Framing → Bool
is_within largest Empty = true
is_within largest (Length n) = nat_le n largest
is_within largest Chunked = true

-- a body that nobody wants is left unread where the client waits for a 100, or tells that it is too long
abbrev pub unwanted : ℕ → Head → BodyUse
unwanted largest head = if is_within largest head.framing && not (waits head) then Dropped else Unread

-- what becomes of the body of a request that asks this
abbrev pub body_use : ℕ → Head → Asked → BodyUse
body_use largest head (Put asker command) = if waits head then Awaited else Fed
body_use largest head (Refused NotBuilt) = Unread
body_use largest head (Refused TooLarge) = Unread
body_use largest head asked = unwanted largest head

-- nothing of the body is read, whatever the container's row says
abbrev pub is_unread : BodyUse → Bool
is_unread Fed = false
is_unread Awaited = false
is_unread Dropped = false
is_unread Unread = true

-- it is read behind a 100, or left
abbrev pub is_awaited : BodyUse → Bool
is_awaited Fed = false
is_awaited Awaited = true
is_awaited Dropped = false
is_awaited Unread = false

-- the reply to the kth request of a connection says that the connection is closed, where its body is left, or not (RFC 9112,
-- section 9.6)
unfoldable pub closes : ℕ → Head → Bool → Bool
closes k head left = left || ((head.minor == 0) || (wants_close head || nat_le REQUEST_LIMIT k))
