-- Words of the known answers: heads of requests on the account `acme` and its container `box`.
use Rattle.std.specs.Prelude.{ℕ, zero, suc, List, [], ◌∷◌, ◌++◌, ◌+◌, ◌/◌, ◌%◌, None, codes}
use Rattle.list_words.specs.declared.command.ListCommand.{ListCommand}
use Rattle.http_model.specs.declared.field.Field.{Field}
use Rattle.http_model.specs.declared.head.Framing.TheVariants.{Empty, Length}
use Rattle.http_model.specs.declared.head.Head.{Head}
use Rattle.task_account.specs.declared.request.AccountListing.{AccountListing}
use Rattle.task_container.specs.declared.request.ContainerChanges.{ContainerChanges}

-- ---- heads

abbrev pub field : List ℕ → List ℕ → Field
field name value = record { name = name; value = value }

abbrev pub host : Field
host = field (codes "Host") (codes "h")

-- the tokens of ann, of bob, and of nobody
abbrev pub ann_token : Field
ann_token = field (codes "X-Auth-Token") (codes "AUTH_tk1")

abbrev pub bob_token : Field
bob_token = field (codes "x-auth-token") (codes "AUTH_tk2")

abbrev pub lost_token : Field
lost_token = field (codes "X-Auth-Token") (codes "AUTH_tk3")

-- with these fields behind Host
abbrev pub request : List ℕ → List ℕ → List Field → Head
request method target fields =
    record { method = method; target = target; minor = 1; fields = host ∷ fields; framing = Empty }

-- with a body of so many bytes
abbrev pub with_body : ℕ → Head → Head
with_body n head = record head { framing = Length n }

-- one byte more than the largest
abbrev pub too_large : Head → Head
too_large head = with_body 5368709121 head

abbrev pub login : List Field → Head
login fields = request (codes "GET") (codes "/auth/v1.0") fields

abbrev pub auth_user : List ℕ → Field
auth_user name = field (codes "X-Auth-User") name

abbrev pub auth_key : List ℕ → Field
auth_key key = field (codes "X-Auth-Key") key

-- the login of ann
abbrev pub ann_login : List Field
ann_login = auth_user (codes "acme:ann") ∷ auth_key (codes "secret") ∷ []

-- on the account
abbrev pub on_account : List ℕ → List Field → Head
on_account method fields = request method (codes "/swift/v1/AUTH_acme") fields

-- on the container
abbrev pub on_box : List ℕ → List Field → Head
on_box method fields = request method (codes "/swift/v1/AUTH_acme/box") fields

-- a PUT of it by ann
abbrev pub put_box : List Field → Head
put_box fields = on_box (codes "PUT") (ann_token ∷ fields)

-- a field that sets metadata, and one that removes them
abbrev pub sets : List ℕ → List ℕ → Field
sets name value = field (codes "X-Container-Meta-" ++ name) value

abbrev pub removes : List ℕ → List ℕ → Field
removes name value = field (codes "X-Remove-Container-Meta-" ++ name) value

-- a name of two digits
abbrev pub digits_of : ℕ → List ℕ
digits_of n = (48 + n / 10) ∷ (48 + n % 10) ∷ []

-- so many different names are set
abbrev pub set_names : ℕ → List Field
set_names zero = []
set_names (suc n) = sets (digits_of n) (codes "x") ∷ set_names n

-- ---- commands

-- a listing of all containers
abbrev pub all_containers : AccountListing
all_containers = record { limit = 10000; marker = []; end_marker = []; prefix = []; delimiter = [] }

-- a listing of all of the container
abbrev pub all_of_box : ListCommand
all_of_box = record { container = codes "box"; limit = 10000; marker = []; end_marker = []; prefix = []; delimiter = [] }

-- nothing is changed
abbrev pub no_changes : ContainerChanges
no_changes = record { meta = []; readers = None; writers = None }

-- the metadata are changed
abbrev pub meta_changes : List (List ℕ × List ℕ) → ContainerChanges
meta_changes pairs = record no_changes { meta = pairs }
