-- What opens the next chunk of a body, or ends the body, in whatever pieces the bytes come.
use Rattle.std.specs.Prelude.{◌≡◌, ◌⊎◌, ℕ, ◌<◌, ◌≤◌, Bool, List, ◌++◌, length, take, Option, Some, None, Result, Ok, Err}
use Rattle.std.specs.Io.KnownBytes.{Consumes, IsAtEnd}
use Rattle.http_chunks.specs.declared.place.Place.{Place}
use Rattle.http_chunks.specs.Scans.{IsOpen, BeginsWithText}
use Rattle.http_chunks.specs.Chunks.{OpensChunk, BeginsWithTrailers, IsCutOpening, IsLongOpening, IsNoOpening, IsCutTrailers, AreLongTrailers, AreNoTrailers, IsCutChunk, IsNoChunk, IsLargeChunk}
use Rattle.http_intake.specs.declared.fault.IntakeFault.{IntakeFault}
use Rattle.http_intake.specs.declared.fault.IntakeFault.TheVariants.{OutOfMemory, ReadFault, Cut, BadHead, HeadTooLarge, BadFraming, BadChunk, BodyTooLarge}

-- the length of the text that begins the bytes, none where none ends within the limit and more is there, or why it is not there
abbrev pub FindsTextFrom : Place → ℕ → List ℕ → Type 0 → Result (Option ℕ) IntakeFault → Type 0
FindsTextFrom place limit bytes ended (Ok (Some n)) =
    (text : List ℕ) × (rest : List ℕ) × BeginsWithText place limit bytes text rest × (n ≡ length text)
FindsTextFrom place limit bytes ended (Ok None) = (limit < length bytes) × IsOpen place (take limit bytes)
FindsTextFrom place limit bytes ended (Err OutOfMemory) = ⊥
FindsTextFrom place limit bytes ended (Err ReadFault) = (length bytes ≤ limit) × IsOpen place bytes
FindsTextFrom place limit bytes ended (Err Cut) = (length bytes ≤ limit) × IsOpen place bytes × ended
FindsTextFrom place limit bytes ended (Err BadHead) = ⊥
FindsTextFrom place limit bytes ended (Err HeadTooLarge) = ⊥
FindsTextFrom place limit bytes ended (Err (BadFraming bodiless)) = ⊥
FindsTextFrom place limit bytes ended (Err BadChunk) = ⊥
FindsTextFrom place limit bytes ended (Err BodyTooLarge) = ⊥

-- why the bytes open no chunk, the last of an input that has ended, if it has
abbrev pub HasNoOpening : Bool → ℕ → List ℕ → Type 0 → IntakeFault → Type 0
HasNoOpening behind room bytes ended OutOfMemory = ⊥
HasNoOpening behind room bytes ended ReadFault = IsCutOpening behind bytes
HasNoOpening behind room bytes ended Cut = IsCutOpening behind bytes × ended
HasNoOpening behind room bytes ended BadHead = ⊥
HasNoOpening behind room bytes ended HeadTooLarge = ⊥
HasNoOpening behind room bytes ended (BadFraming bodiless) = ⊥
HasNoOpening behind room bytes ended BadChunk = IsLongOpening behind bytes ⊎ IsNoOpening behind bytes
HasNoOpening behind room bytes ended BodyTooLarge = IsLargeChunk behind room bytes

-- the chunk that all the bytes open and what is left of them, or why there is none
abbrev pub OpensOf : Bool → ℕ → List ℕ → Type 0 → List ℕ → Result ℕ IntakeFault → Type 0
OpensOf behind room all ended left (Ok size) = OpensChunk behind all size left × (size ≤ room)
OpensOf behind room all ended left (Err fault) = HasNoOpening behind room all ended fault

-- bytes were read, and with those that were there before they open that chunk
abbrev pub TakesOpening : Bool → ℕ → Option (List ℕ) → Option (List ℕ) → List ℕ → List ℕ → Result ℕ IntakeFault → Type 0
TakesOpening behind room old new before left result =
    (more : List ℕ) × Consumes old new more × OpensOf behind room (before ++ more) (IsAtEnd new) left result

-- why the bytes begin with no trailers
abbrev pub HasNoTrailers : List ℕ → Type 0 → IntakeFault → Type 0
HasNoTrailers bytes ended OutOfMemory = ⊥
HasNoTrailers bytes ended ReadFault = IsCutTrailers bytes
HasNoTrailers bytes ended Cut = IsCutTrailers bytes × ended
HasNoTrailers bytes ended BadHead = ⊥
HasNoTrailers bytes ended HeadTooLarge = ⊥
HasNoTrailers bytes ended (BadFraming bodiless) = ⊥
HasNoTrailers bytes ended BadChunk = AreLongTrailers bytes ⊎ AreNoTrailers bytes
HasNoTrailers bytes ended BodyTooLarge = ⊥

abbrev pub TrailersOf : {T : Type 0} → List ℕ → Type 0 → List ℕ → Result T IntakeFault → Type 0
TrailersOf all ended left (Ok done) = BeginsWithTrailers all left
TrailersOf all ended left (Err fault) = HasNoTrailers all ended fault

-- bytes were read, and with those that were there before they begin with trailers
abbrev pub TakesTrailers : {T : Type 0} → Option (List ℕ) → Option (List ℕ) → List ℕ → List ℕ → Result T IntakeFault → Type 0
TakesTrailers old new before left result =
    (more : List ℕ) × Consumes old new more × TrailersOf (before ++ more) (IsAtEnd new) left result

-- why the bytes neither open a chunk nor end the body
abbrev pub HasNoChunk : Bool → ℕ → List ℕ → Type 0 → IntakeFault → Type 0
HasNoChunk behind room bytes ended OutOfMemory = ⊥
HasNoChunk behind room bytes ended ReadFault = IsCutChunk behind bytes
HasNoChunk behind room bytes ended Cut = IsCutChunk behind bytes × ended
HasNoChunk behind room bytes ended BadHead = ⊥
HasNoChunk behind room bytes ended HeadTooLarge = ⊥
HasNoChunk behind room bytes ended (BadFraming bodiless) = ⊥
HasNoChunk behind room bytes ended BadChunk = IsNoChunk behind bytes
HasNoChunk behind room bytes ended BodyTooLarge = IsLargeChunk behind room bytes

-- all the bytes open a chunk of this size, and these are left; or they end the body, and the size is 0
abbrev pub GoesOn : Bool → ℕ → List ℕ → List ℕ → ℕ → Type 0
GoesOn behind room all left size =
    ((0 < size) × (size ≤ room) × OpensChunk behind all size left)
    ⊎ ((size ≡ 0) × ((after : List ℕ) × OpensChunk behind all 0 after × BeginsWithTrailers after left))

abbrev pub ChunkOf : Bool → ℕ → List ℕ → Type 0 → List ℕ → Result ℕ IntakeFault → Type 0
ChunkOf behind room all ended left (Ok size) = GoesOn behind room all left size
ChunkOf behind room all ended left (Err fault) = HasNoChunk behind room all ended fault

-- bytes were read, and with those that were there before they go on like that
abbrev pub TakesChunk : Bool → ℕ → Option (List ℕ) → Option (List ℕ) → List ℕ → List ℕ → Result ℕ IntakeFault → Type 0
TakesChunk behind room old new before left result =
    (more : List ℕ) × Consumes old new more × ChunkOf behind room (before ++ more) (IsAtEnd new) left result
