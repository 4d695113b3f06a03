-- The requests that the bytes of a connection are, and how they end: what becomes of the bytes behind a head follows
-- from what the head asks (RFC 9112, sections 2, 6 and 9.6).
use Rattle.std.specs.Prelude.{◌≡◌, ◌≢◌, ◌⊎◌, ℕ, suc, Bool, true, false, List, [], ◌∷◌, MatchBool}
use Rattle.http_chunks.specs.declared.body.BodyEnd.TheVariants as Body
use Rattle.http_intake.specs.Grammar.{HasNoBody}
use Rattle.http_model.specs.declared.head.Head.{Head}
use Rattle.http_model.specs.declared.head.Request.{Request}
use Rattle.http_model.specs.declared.reply.ReplyForm.{ReplyForm}
use Rattle.http_model.specs.declared.reply.BadRequest.{BadRequest}
use Rattle.http_model.specs.Forms.{is_bodiless}
use Rattle.http_model.specs.Heads.{skip_breaks, BeginsWith}
use Rattle.http_model.specs.Streams.{IsBlank, IsCutHead, BreaksGrammar}
use Rattle.swift_auth.specs.Users.{UserView}
use Rattle.swift_requests.specs.Asks.{asked_of}
use Rattle.swift_requests.specs.Bodies.{body_use, is_unread, is_awaited, closes}
use Rattle.swift_requests.specs.declared.body.BodyUse.{BodyUse}
use Rattle.call_words.specs.Bodies.{Fate, is_left, stays_unread, Suits, IsBehind}

-- ---- heads

-- what becomes of the bytes behind a head, where the largest object has so many bytes and these users are known
abbrev pub use_of : ℕ → List UserView → Head → BodyUse
use_of largest users head = body_use largest head (asked_of largest users head)

-- the form of the reply to the kth request of a connection, whose body has that fate
abbrev pub form_of : ℕ → Head → Fate → ReplyForm
form_of k head fate = record { bodiless = is_bodiless head.method; close = closes k head (is_left fate) }

-- ---- one request

-- a request, and what became of its body
pub record Taken : Type 0 where
  pub request : Request
  pub fate : Fate

-- the bytes begin with that request, whose body has that fate, and rest follows
pub record TakesCall (largest : ℕ) (users : List UserView) (bytes : List ℕ) (taken : Taken) (rest : List ℕ) : Type 0 where
  pub after : List ℕ
  pub head : BeginsWith bytes taken.request.head after
  pub suits : Suits (use_of largest users taken.request.head) taken.fate
  pub body : IsBehind largest taken.request.head.framing after taken.request.body taken.fate rest

-- ---- where no request follows

-- how the requests of a connection end: with the input; at a reply that closes it; inside of a request, for which a 100 was
-- written or not; at what is no request
pub data CallsEnd : Type 0 where
  at_clean : CallsEnd
  at_close : CallsEnd
  at_cut : (continued : Bool) → CallsEnd
  at_bad : BadRequest → (bodiless : Bool) → CallsEnd

-- the bytes are a head and a part of its body, which is read, behind a 100 or not
abbrev pub IsCutBody : ℕ → List UserView → List ℕ → Bool → Type 0
IsCutBody largest users bytes continued =
    (head : Head) × (after : List ℕ) × BeginsWith bytes head after
    × (is_unread (use_of largest users head) ≡ false) × (is_awaited (use_of largest users head) ≡ continued) × HasNoBody largest head.framing after Body.Cut

-- the bytes are a part of a request
abbrev pub IsCutRequest : ℕ → List UserView → List ℕ → Bool → Type 0
IsCutRequest largest users bytes false = IsCutHead bytes ⊎ IsCutBody largest users bytes false
IsCutRequest largest users bytes true = IsCutBody largest users bytes true

-- what is left after the last request that was read. A request of a form that is not taken is one like others
abbrev pub IsEnd : ℕ → List UserView → List ℕ → CallsEnd → Type 0
IsEnd largest users bytes at_clean = IsBlank bytes
IsEnd largest users bytes at_close = ⊥
IsEnd largest users bytes (at_cut continued) = (skip_breaks bytes ≢ []) × IsCutRequest largest users bytes continued
IsEnd largest users bytes (at_bad word bodiless) = BreaksGrammar bytes word bodiless

-- ---- all of them

-- The bytes are these requests, the first of which is the kth of its connection, and then that end. Behind a request whose
-- reply closes the connection any bytes may stand.
abbrev pub IsStreamFrom : ℕ → List UserView → ℕ → List ℕ → List Taken → CallsEnd → Type 0
IsStreamFrom largest users k bytes [] end = IsEnd largest users bytes end
IsStreamFrom largest users k bytes (first ∷ others) end =
    (rest : List ℕ) × TakesCall largest users bytes first rest
    × MatchBool (form_of k first.request.head first.fate).close ((others ≡ []) × (end ≡ at_close)) (IsStreamFrom largest users (suc k) rest others end)

-- the bytes begin with these requests, the first of which is the kth of its connection, and rest follows; no reply to one
-- of them closes the connection
abbrev pub IsFrontFrom : ℕ → List UserView → ℕ → List ℕ → List Taken → List ℕ → Type 0
IsFrontFrom largest users k bytes [] rest = bytes ≡ rest
IsFrontFrom largest users k bytes (first ∷ others) rest =
    (after : List ℕ) × TakesCall largest users bytes first after × ((form_of k first.request.head first.fate).close ≡ false)
    × IsFrontFrom largest users (suc k) after others rest

-- ---- bodies that are waited for

-- The bodies behind which no 100 is written are just those that this says, by the place of their requests, the first of which is
-- the kth of its connection. It is the row of a container that decides, and no byte.
abbrev pub AreLeft : (ℕ → Bool) → ℕ → List UserView → ℕ → List Taken → CallsEnd → Type 0
AreLeft left largest users k [] end = end ≡ at_cut true → left k ≡ false
AreLeft left largest users k (first ∷ others) end =
    (is_awaited (use_of largest users first.request.head) ≡ true → stays_unread first.fate ≡ left k) × AreLeft left largest users (suc k) others end
