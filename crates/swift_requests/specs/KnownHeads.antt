-- Words of the known answers: heads of requests on the object `k` of the container `box`.
use Rattle.std.specs.Prelude.{ℕ, List, [], ◌∷◌, ◌++◌, Option, Some, None, true, codes}
use Rattle.object_words.specs.declared.head.Conditions.{Conditions}
use Rattle.object_words.specs.declared.head.EtagRule.{EtagRule}
use Rattle.object_words.specs.declared.head.EtagRule.TheVariants.{OneOf}
use Rattle.task_words.specs.declared.command.GetCommand.{GetCommand}
use Rattle.task_words.specs.declared.command.PutCommand.{PutCommand}
use Rattle.list_words.specs.declared.command.ListCommand.{ListCommand}
use Rattle.http_model.specs.declared.field.Field.{Field}
use Rattle.http_model.specs.declared.head.Framing.{Framing}
use Rattle.http_model.specs.declared.head.Framing.TheVariants.{Empty, Length}
use Rattle.http_model.specs.declared.head.Head.{Head}

abbrev pub host : Field
host = record { name = codes "Host"; value = codes "example.com" }

-- the tokens of ann, of bob, and of nobody
abbrev pub token : Field
token = record { name = codes "X-Auth-Token"; value = codes "AUTH_tk1" }

abbrev pub bob_token : Field
bob_token = record { name = codes "x-auth-token"; value = codes "AUTH_tk2" }

abbrev pub lost_token : Field
lost_token = record { name = codes "X-Auth-Token"; value = codes "AUTH_tk3" }

abbrev pub target : List ℕ
target = codes "/swift/v1/AUTH_acme/box/k"

-- with these fields alone
abbrev pub bare : List ℕ → List Field → Framing → Head
bare method fields framing =
    record { method = method; target = target; minor = 1; fields = fields; framing = framing }

-- with these fields behind Host and the token
abbrev pub request : List ℕ → List Field → Framing → Head
request method fields framing = bare method (host ∷ token ∷ fields) framing

-- a GET of that target, with a token and without one
abbrev pub to : List ℕ → Head
to named = record (request (codes "GET") [] Empty) { target = named }

abbrev pub bare_to : List ℕ → Head
bare_to named = record (bare (codes "GET") (host ∷ []) Empty) { target = named }

-- a field of metadata
abbrev pub meta_named : List ℕ → List ℕ → Field
meta_named name value = record { name = codes "X-Object-Meta-" ++ name; value = value }

-- of a body of so many bytes
abbrev pub put_of : ℕ → List Field → Head
put_of n fields = request (codes "PUT") fields (Length n)

abbrev pub get_with : List Field → Head
get_with fields = request (codes "GET") fields Empty

abbrev pub head_with : List Field → Head
head_with fields = request (codes "HEAD") fields Empty

-- one ETag, as it was sent
abbrev pub one_of : List ℕ → Option EtagRule
one_of etag = Some (OneOf (etag ∷ []))

abbrev pub always : Conditions
always = record { matches = None; none = None; modified = None; unmodified = None }

-- a GET without conditions and ranges
abbrev pub plain_get : GetCommand
plain_get = record { container = codes "box"; name = codes "k"; when = always; span = None; body = true }

-- of another object
abbrev pub get_of : List ℕ → List ℕ → GetCommand
get_of container name = record plain_get { container = container; name = name }

abbrev pub plain_put : PutCommand
plain_put =
    record { container = codes "box"; name = codes "k"; kind = None; meta = []; etag = None; when = always }

-- a listing of all names
abbrev pub all_of : List ℕ → ListCommand
all_of container = record { container = container; limit = 10000; marker = []; end_marker = []; prefix = []; delimiter = [] }
