-- How the bytes of a connection end where no request follows (RFC 9112, sections 2 and 6).
use Rattle.std.specs.Prelude.{◌≡◌, ◌≢◌, ◌⊎◌, ℕ, ◌<◌, ◌≤◌, Bool, false, List, [], length, take, None}
use Rattle.httparse.specs.Grammar.{RequestHead}
use Rattle.http_model.specs.declared.head.Framing.TheVariants.{Length}
use Rattle.http_model.specs.declared.head.Head.{Head}
use Rattle.http_model.specs.declared.reply.BadRequest.{BadRequest}
use Rattle.http_model.specs.declared.reply.BadRequest.TheVariants as Word
use Rattle.http_model.specs.declared.reply.StreamEnd.{StreamEnd}
use Rattle.http_model.specs.declared.reply.StreamEnd.TheVariants as End
use Rattle.http_model.specs.declared.reading.TheConstants.{HEAD_LIMIT}
use Rattle.http_model.specs.Heads.{skip_breaks, IsTree, framing_in, HasNoHeadText, BeginsWithText, BeginsWith}
use Rattle.http_model.specs.Forms.{is_bodiless}

-- the bytes are empty lines alone, which are no request (RFC 9112, section 2.2)
abbrev pub IsBlank : List ℕ → Type 0
IsBlank bytes = (length bytes ≤ HEAD_LIMIT) × (skip_breaks bytes ≡ [])

-- the bytes are a part of a head that may go on
abbrev pub IsCutHead : List ℕ → Type 0
IsCutHead bytes = (length bytes ≤ HEAD_LIMIT) × HasNoHeadText bytes

-- the bytes are a head and a part of the body whose length it tells
abbrev pub IsCutBody : List ℕ → Type 0
IsCutBody bytes =
    (head : Head) × (after : List ℕ) × (n : ℕ)
    × BeginsWith bytes head after × (head.framing ≡ Length n) × (length after < n)

-- the text up to the first empty line is no head
abbrev pub IsNoHead : List ℕ → Type 0
IsNoHead bytes =
    (text : List ℕ) × (rest : List ℕ) × BeginsWithText bytes text rest × ((tree : RequestHead) → ¬ (IsTree text tree))

-- it is a head, for HEAD or not, and its fields do not tell where the body ends
abbrev pub IsUnframed : List ℕ → Bool → Type 0
IsUnframed bytes bodiless =
    (text : List ℕ) × (rest : List ℕ) × BeginsWithText bytes text rest
    × (tree : RequestHead) × IsTree text tree × (framing_in tree ≡ None) × (is_bodiless tree.method ≡ bodiless)

-- more bytes have come than a head may have, and none has ended
abbrev pub IsOversized : List ℕ → Type 0
IsOversized bytes = (HEAD_LIMIT < length bytes) × HasNoHeadText (take HEAD_LIMIT bytes)

-- the bytes break the grammar in the way that a 400 names; where no head was read, the 400 has a body
abbrev pub BreaksGrammar : List ℕ → BadRequest → Bool → Type 0
BreaksGrammar bytes Word.Head bodiless = IsNoHead bytes × (bodiless ≡ false)
BreaksGrammar bytes Word.Size bodiless = IsOversized bytes × (bodiless ≡ false)
BreaksGrammar bytes Word.Framing bodiless = IsUnframed bytes bodiless
BreaksGrammar bytes Word.Host bodiless = ⊥

-- what is left after the last request that was read; that a connection is closed, or a form not taken, no bytes tell
abbrev pub IsEnd : List ℕ → StreamEnd → Type 0
IsEnd bytes End.Clean = IsBlank bytes
IsEnd bytes End.Closed = ⊥
IsEnd bytes End.Cut = (skip_breaks bytes ≢ []) × (IsCutHead bytes ⊎ IsCutBody bytes)
IsEnd bytes (End.Refused word bodiless) = BreaksGrammar bytes word bodiless
IsEnd bytes (End.NotBuilt bodiless) = ⊥
