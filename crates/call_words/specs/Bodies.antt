-- What becomes of the body of a request (RFC 9112, sections 6, 7 and 9.6).
use Rattle.std.specs.Prelude.{◌≡◌, ℕ, Bool, true, false, List, []}
use Rattle.http_chunks.specs.declared.body.BodyEnd.{BodyEnd}
use Rattle.http_intake.specs.Grammar.{IsBodyOf, HasWrongBody}
pub use Rattle.http_intake.specs.Grammar.{IsWrong}
use Rattle.http_model.specs.declared.head.Framing.{Framing}
use Rattle.swift_requests.specs.declared.body.BodyUse.{BodyUse}
use Rattle.swift_requests.specs.declared.body.BodyUse.TheVariants.{Fed, Awaited, Dropped, Unread}

-- it is read to its end; or up to where its chunks go wrong; or not at all
pub data Fate : Type 0 where
  read_whole : Fate
  broken_off : BodyEnd → Fate
  unread : Fate

-- some of it is left, or may be: nothing behind it can be read
abbrev pub is_left : Fate → Bool
is_left read_whole = false
is_left (broken_off why) = true
is_left unread = true

-- nothing of it is read
abbrev pub stays_unread : Fate → Bool
stays_unread read_whole = false
stays_unread (broken_off why) = false
stays_unread unread = true

-- its chunks go wrong
abbrev pub is_broken : Fate → Bool
is_broken read_whole = false
is_broken (broken_off why) = true
is_broken unread = false

-- a body of that use can have that fate
abbrev pub Suits : BodyUse → Fate → Type 0
Suits Fed read_whole = Unit {0}
Suits Fed (broken_off why) = IsWrong why
Suits Fed unread = ⊥
Suits Awaited read_whole = Unit {0}
Suits Awaited (broken_off why) = IsWrong why
Suits Awaited unread = Unit {0}
Suits Dropped read_whole = Unit {0}
Suits Dropped (broken_off why) = IsWrong why
Suits Dropped unread = ⊥
Suits Unread read_whole = ⊥
Suits Unread (broken_off why) = ⊥
Suits Unread unread = Unit {0}

-- what follows a head with this framing is a body of that fate, and rest follows. Of one that broke off these are the bytes that
-- came before; one that is not read counts as none
abbrev pub IsBehind : ℕ → Framing → List ℕ → List ℕ → Fate → List ℕ → Type 0
IsBehind largest framing after body read_whole rest = IsBodyOf largest framing after body rest
IsBehind largest framing after body (broken_off why) rest = HasWrongBody largest framing after why body × (rest ≡ after)
IsBehind largest framing after body unread rest = (body ≡ []) × (rest ≡ after)
