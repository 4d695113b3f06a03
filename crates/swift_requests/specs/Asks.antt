-- What the head of a request asks, and of which user (OpenStack Object Storage API v1).
use Rattle.std.specs.Prelude.{ℕ, Bool, not, ◌&&◌, ◌||◌, nat_lt, List, length, Option, is_some, Some, None, if◌then◌else◌, codes}
use Rattle.swift_auth.specs.Users.{UserView, account_of}
use Rattle.swift_words.specs.declared.fault.WordFault.{WordFault}
use Rattle.swift_words.specs.declared.fault.WordFault.TheVariants as faults
use Rattle.swift_words.specs.declared.target.Target.{Target}
use Rattle.swift_words.specs.declared.target.Target.TheVariants as targets
use Rattle.swift_words.specs.declared.query.Query.{Query}
use Rattle.swift_words.specs.Targets.{target_fault, target_of, asked_by as query_of}
use Rattle.swift_reply.specs.declared.reply.SwiftRefusal.{SwiftRefusal}
use Rattle.swift_reply.specs.declared.reply.SwiftRefusal.TheVariants.{NotBuilt, Unauthorized, Invalid, NoPath, NoMethod, TargetTooLong, TooLarge}
use Rattle.swift_reply.specs.declared.reply.Invalid.{Invalid as InvalidWord}
use Rattle.swift_reply.specs.declared.reply.Invalid.TheVariants as word
use Rattle.swift_reply.specs.declared.reply.TargetKind.TheVariants as kind
use Rattle.task_container.specs.declared.request.ContainerCommand.TheVariants as container
use Rattle.task_words.specs.declared.asker.Asker.{Asker}
use Rattle.http_model.specs.declared.head.Head.{Head}
use Rattle.http_model.specs.Forms.{is_get, is_put, has_host}
use Rattle.swift_requests.specs.declared.asked.Asked.{Asked}
use Rattle.swift_requests.specs.declared.asked.Asked.TheVariants.{BadHost, Refused, Login, Put, Unfed}
use Rattle.swift_requests.specs.declared.asked.UnfedCommand.TheVariants.{Get, Listing, Container, Account}
use Rattle.swift_requests.specs.AccountCommands.{account_command, change_command}
use Rattle.swift_requests.specs.Askers.{asker_of}
use Rattle.swift_requests.specs.Commands.{put_command, get_command, list_command, listing_form}
use Rattle.swift_requests.specs.Fields.{is_sent, is_above}
use Rattle.swift_requests.specs.Logins.{login_of, host_of}
use Rattle.swift_requests.specs.Methods.{is_look, is_delete, has_container_method, has_object_method}
use Rattle.swift_requests.specs.Refusals.{put_refusal, get_refusal, own_refusal, change_refusal}

-- by the refusal, if there is one
abbrev pub asked_unless : Option SwiftRefusal → Asked → Asked
asked_unless (Some refusal) asked = Refused refusal
asked_unless None asked = asked

-- ---- where tokens are asked for

-- 401 where the name and the key are not those of one user, then 413
abbrev pub login_asked : ℕ → Head → Option UserView → Asked
login_asked largest head None = Refused Unauthorized
login_asked largest head (Some user) =
    if is_above largest head.framing then Refused TooLarge else Login (host_of head) (account_of user) user.token

-- GET alone; a token that was sent is not looked at
abbrev pub auth_asked : ℕ → List UserView → Head → Asked
auth_asked largest users head =
    if is_get head then login_asked largest head (login_of users head) else Refused (NoMethod kind.Auth)

-- ---- accounts

-- 401 for a token of nobody
abbrev pub account_asked_by : ℕ → Head → Query → Option Asker → Asked
account_asked_by largest head query None = Refused Unauthorized
account_asked_by largest head query (Some asker) =
    asked_unless (own_refusal largest head asker) (Unfed asker (Account (account_command head query) (listing_form query)))

-- GET and HEAD
abbrev pub account_asked : ℕ → List UserView → Head → Query → List ℕ → Asked
account_asked largest users head query account =
    if is_look head then account_asked_by largest head query (asker_of users head account) else Refused (NoMethod kind.Account)

-- ---- containers

-- GET and HEAD: who may is judged by the container's row
abbrev pub look_asked : ℕ → Head → Query → List ℕ → Asker → Asked
look_asked largest head query name asker =
    if is_above largest head.framing then Refused TooLarge
    else if is_get head then Unfed asker (Listing (list_command name query) (listing_form query))
    else Unfed asker (Container (container.Head name))

-- PUT and POST
abbrev pub change_asked : ℕ → Head → List ℕ → Asker → Asked
change_asked largest head name asker =
    asked_unless (change_refusal largest head asker) (Unfed asker (Container (change_command head name)))

-- DELETE
abbrev pub delete_asked : ℕ → Head → List ℕ → Asker → Asked
delete_asked largest head name asker =
    asked_unless (own_refusal largest head asker) (Unfed asker (Container (container.Delete name)))

-- 401 for a token of nobody
abbrev pub container_asked_by : ℕ → Head → Query → List ℕ → Option Asker → Asked
container_asked_by largest head query name None = Refused Unauthorized
container_asked_by largest head query name (Some asker) =
    if is_look head then look_asked largest head query name asker
    else if is_delete head then delete_asked largest head name asker
    else change_asked largest head name asker

-- GET, HEAD, PUT, POST and DELETE
abbrev pub container_asked : ℕ → List UserView → Head → Query → List ℕ → List ℕ → Asked
container_asked largest users head query account name =
    if has_container_method head then container_asked_by largest head query name (asker_of users head account)
    else Refused (NoMethod kind.Container)

-- ---- objects

-- what is served: a GET, a HEAD, or a PUT that copies nothing
unfoldable pub is_taken : Head → Bool
is_taken head = is_look head || (is_put head && not (is_sent (codes "x-copy-from") head))

-- no row lets anybody store who sent no token: 401; else who may is judged by the container's row
abbrev pub put_asked : ℕ → Head → List ℕ → List ℕ → Asker → Asked
put_asked largest head container name asker =
    if not (is_some asker.user) then Refused Unauthorized
    else asked_unless (put_refusal largest head) (Put asker (put_command container name head))

-- who may is judged by the container's row

abbrev pub get_asked : ℕ → Head → List ℕ → List ℕ → Asker → Asked
get_asked largest head container name asker = asked_unless (get_refusal largest head) (Unfed asker (Get (get_command container name head)))

-- 401 for a token of nobody
abbrev pub object_asked_by : ℕ → Head → List ℕ → List ℕ → Option Asker → Asked
object_asked_by largest head container name None = Refused Unauthorized
object_asked_by largest head container name (Some asker) =
    if is_put head then put_asked largest head container name asker else get_asked largest head container name asker

-- 405 for a method that no object takes, then 501 for what is not served yet
abbrev pub object_asked : ℕ → List UserView → Head → List ℕ → List ℕ → List ℕ → Asked
object_asked largest users head account container name =
    if not (has_object_method head) then Refused (NoMethod kind.Object)
    else if not (is_taken head) then Refused NotBuilt
    else object_asked_by largest head container name (asker_of users head account)

-- ---- targets

-- the most bytes of a target
abbrev pub target_limit : ℕ
target_limit = 8192

-- how the 400 names what of a target is wrong; want of memory is no fault of one
abbrev pub invalid_by : WordFault → InvalidWord
invalid_by faults.OutOfMemory = word.Target
invalid_by faults.BadEscape = word.Escape
invalid_by faults.BadUtf8 = word.Utf8
invalid_by faults.BadName = word.Name
invalid_by faults.BadLimit = word.Limit
invalid_by faults.BadFormat = word.Format
invalid_by faults.NotPath = word.Target

-- at what a target names: 404 for no path of the API, then 405 and what follows
abbrev pub asked_at : ℕ → List UserView → Head → Query → Target → Asked
asked_at largest users head query targets.Unknown = Refused NoPath
asked_at largest users head query targets.Auth = auth_asked largest users head
asked_at largest users head query (targets.Account account) = account_asked largest users head query account
asked_at largest users head query (targets.Container account name) = container_asked largest users head query account name
asked_at largest users head query (targets.Thing account container name) = object_asked largest users head account container name

-- by the first fault of the target, if it has one: 400
abbrev pub asked_by : ℕ → List UserView → Head → Option WordFault → Asked
asked_by largest users head (Some fault) = Refused (Invalid (invalid_by fault))
asked_by largest users head None = asked_at largest users head (query_of head.target) (target_of head.target)

-- the Host fields are judged first (RFC 9112, section 3.2), then the length of the target (414), then what it is
unfoldable pub asked_of : ℕ → List UserView → Head → Asked
asked_of largest users head =
    if not (has_host head) then BadHost
    else if nat_lt target_limit (length head.target) then Refused TargetTooLong
    else asked_by largest users head (target_fault head.target)
