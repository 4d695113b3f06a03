-- Words of the known answers.
use Rattle.std.specs.Prelude.{ℕ, codes, List, [], ◌∷◌, Bool, true, Option, Some, None}
use Rattle.rgw_types.specs.declared.stamp.Stamp.{Stamp}
use Rattle.rgw_model.specs.declared.slot.Content.{Content}
use Rattle.rgw_model.specs.declared.slot.Slot.{Slot}
use Rattle.rgw_model.specs.declared.slot.Slot.TheVariants.{Live}
use Rattle.object_words.specs.declared.bucket.Bucket.{Bucket}
use Rattle.object_words.specs.declared.head.Conditions.{Conditions}
use Rattle.object_words.specs.declared.head.EtagRule.{EtagRule}
use Rattle.object_words.specs.declared.head.EtagRule.TheVariants.{OneOf}
use Rattle.swift_auth.specs.Users.{UserView}
use Rattle.realm_model.specs.KnownWords.{hex, bucket}
use Rattle.task_words.specs.declared.asker.Asker.{Asker}
use Rattle.task_words.specs.declared.command.GetCommand.{GetCommand}
use Rattle.task_words.specs.declared.command.PutCommand.{PutCommand}
use Rattle.task_words.specs.declared.reply.MapReply.TheVariants.{Shown}
use Rattle.task_words.specs.declared.command.BodyEnd.TheVariants.{Whole}
use Rattle.task_words.specs.declared.span.Span.{Span}
use Rattle.task_words.specs.declared.span.Span.TheVariants.{Between}
use Rattle.task_words.specs.Answers.{Answer}
use Rattle.task_words.specs.Outcomes.{Body}

-- the ETag of the letters a to z (RFC 1321, appendix 5)
abbrev pub etag_text : List ℕ
etag_text = codes "c3fcd3d76192e4007dfb496cca67e13b"

abbrev pub etag : List ℕ
etag = hex etag_text

-- the letters a to z
abbrev pub letters : Content
letters = record { bytes = codes "abcdefghijklmnopqrstuvwxyz"; kind = codes "text/plain"; meta = []; etag = etag }

-- no bytes
abbrev pub nothing : Content
nothing = record { bytes = []; kind = codes "text/plain"; meta = []; etag = hex (codes "d41d8cd98f00b204e9800998ecf8427e") }

-- half a second after the second 1700000000
abbrev pub stamp : Stamp
stamp = record { micros = 1700000000500000; zone = 1 }

abbrev pub slot : Slot
slot = Live letters stamp

-- no condition was sent
abbrev pub always : Conditions
always = record { matches = None; none = None; modified = None; unmodified = None }

-- a condition on this ETag
abbrev pub one_of : List ℕ → Option EtagRule
one_of text = Some (OneOf (text ∷ []))

-- a GET, or a HEAD, of an object
abbrev pub asks : Bool → Conditions → Option Span → GetCommand
asks body when span = record { container = codes "box"; name = codes "k"; when = when; span = span; body = body }

-- so many of the letters are shown
abbrev pub shows : ℕ → ℕ → List ℕ → Answer
shows start count bytes = record { reply = Shown letters.kind [] etag stamp 26 start count; shown = bytes; after = slot }

-- a PUT without type, metadata and ETag
abbrev pub stores : Conditions → PutCommand
stores when = record { container = codes "box"; name = codes "k"; kind = None; meta = []; etag = None; when = when }

-- another user
abbrev pub bob : UserView
bob = record { full_name = codes "beta:bob"; key = codes "hush"; token = codes "AUTH_tk2" }

-- who asks, under the account acme
abbrev pub asker : Option UserView → Asker
asker user = record { account = codes "acme"; user = user }

-- a row that acme owns
abbrev pub own_row : Bucket
own_row = bucket 3 3 1

-- a row that another account owns
abbrev pub other_row : Bucket
other_row = record own_row { owner = codes "beta" }

-- ---- ends of tasks in known histories

-- a GET of the object k in zone 1
abbrev pub gets_letters : GetCommand
gets_letters = asks true always (Some (Between 19 22))

-- a PUT of an object in zone 1 that was read whole
abbrev pub put_whole : List ℕ → Body
put_whole bytes = record { bytes = bytes; end = Some Whole }

-- a PUT of which the first bytes came
abbrev pub put_so_far : List ℕ → Body
put_so_far bytes = record { bytes = bytes; end = None }
