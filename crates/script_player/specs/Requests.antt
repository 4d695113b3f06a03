-- What an actor of a script asks of a task that serves clients: as a user, under the own account, without conditions.
use Rattle.std.specs.Prelude.{ℕ, ◌≤◌, true, List, [], length, Option, Some, None}
use Rattle.object_words.specs.declared.head.Conditions.{Conditions}
use Rattle.swift_auth.specs.Users.{UserView, account_of}
use Rattle.task_words.specs.declared.asker.Asker.{Asker}
use Rattle.task_words.specs.declared.command.BodyEnd.{BodyEnd}
use Rattle.task_words.specs.declared.command.GetCommand.{GetCommand}
use Rattle.task_words.specs.declared.command.PutCommand.{PutCommand}
use Rattle.task_put.specs.Bodies.{most_bytes}
use Rattle.task_put.specs.declared.stage.PutRequest.{PutRequest}
use Rattle.task_get.specs.declared.request.GetRequest.{GetRequest}
use Rattle.task_account.specs.declared.request.AccountCommand.TheVariants.{List as account_list}
use Rattle.task_account.specs.declared.request.AccountRequest.{AccountRequest}
use Rattle.task_container.specs.declared.request.ContainerChanges.{ContainerChanges}
use Rattle.task_container.specs.declared.request.ContainerCommand.{ContainerCommand}
use Rattle.task_container.specs.declared.request.ContainerCommand.TheVariants as containers
use Rattle.task_container.specs.declared.request.ContainerRequest.{ContainerRequest}
use Rattle.list_words.specs.declared.command.ListCommand.{ListCommand}
use Rattle.list_words.specs.Listings.{row_limit}
use Rattle.task_list.specs.declared.request.ListRequest.{ListRequest}
use Rattle.task_repair.specs.declared.request.RepairRequest.{RepairRequest}
use Rattle.script_words.specs.Bodies.{body_bytes}
use Rattle.script_words.specs.declared.line.Verb.{Verb}
use Rattle.script_words.specs.declared.line.Verb.TheVariants.{Put, Stat, Make, Remove}
use Rattle.script_words.specs.declared.line.Verb.TheVariants as verbs

-- ---- bodies

-- a body, if there is one, is no larger than an object may be
abbrev pub HasFewBytes : Verb → Type 0
HasFewBytes (Put container name body) = length (body_bytes body) ≤ most_bytes
HasFewBytes verb = Unit {0}

-- ---- requests

-- a user asks, under the own account
abbrev pub asker_of : UserView → Asker
asker_of user = record { account = account_of user; user = Some user }

-- nobody asks
abbrev pub nobody : Asker
nobody = record { account = []; user = None }

-- somebody asks under an account
abbrev pub asker_under : List ℕ → Asker
asker_under account = record { account = account; user = None }

-- who asks for a verb, where this user makes the requests: for a job nobody does, and the listing of an account names no user
abbrev pub asker_for : UserView → Verb → Asker
asker_for user (verbs.Job job) = nobody
asker_for user verbs.Account = asker_under (account_of user)
asker_for user verb = asker_of user

abbrev pub no_conditions : Conditions
no_conditions = record { matches = None; none = None; modified = None; unmodified = None }

-- to put an object of the usual type, without metadata and whatever its ETag
abbrev pub plain_put : List ℕ → List ℕ → PutCommand
plain_put container name = record { container = container; name = name; kind = None; meta = []; etag = None; when = no_conditions }

-- to get all bytes of an object
abbrev pub plain_get : List ℕ → List ℕ → GetCommand
plain_get container name = record { container = container; name = name; when = no_conditions; span = None; body = true }

-- to put an object, of whose body these bytes were taken, and which ended so, once it has
abbrev pub put_request : ℕ → Asker → List ℕ → List ℕ → List ℕ → Option BodyEnd → PutRequest
put_request zone asker container name bytes end =
    record { zone = zone; asker = asker; command = plain_put container name; bytes = bytes; end = end }

abbrev pub get_request : ℕ → Asker → List ℕ → List ℕ → GetRequest
get_request zone asker container name = record { zone = zone; asker = asker; get = plain_get container name }

-- no metadata and no list
abbrev pub no_changes : ContainerChanges
no_changes = record { meta = []; readers = None; writers = None }

-- what a verb asks of a container, if it asks anything of one
abbrev pub container_command : Verb → Option ContainerCommand
container_command (Stat container) = Some (containers.Head container)
container_command (Make container) = Some (containers.Put container no_changes)
container_command (Remove container) = Some (containers.Delete container)
container_command verb = None

abbrev pub container_request : ℕ → Asker → ContainerCommand → ContainerRequest
container_request zone asker command = record { zone = zone; asker = asker; command = command }

-- for all containers of an account, up to the most rows
abbrev pub account_request : ℕ → List ℕ → AccountRequest
account_request zone account = record {
  zone = zone;
  account = account;
  command = account_list (record { limit = row_limit; marker = []; end_marker = []; prefix = []; delimiter = [] });
}

-- for all names of a container, up to the most rows
abbrev pub all_names : List ℕ → ListCommand
all_names container =
    record { container = container; limit = row_limit; marker = []; end_marker = []; prefix = []; delimiter = [] }

abbrev pub list_request : ℕ → Asker → List ℕ → ListRequest
list_request zone asker container = record { zone = zone; asker = asker; command = all_names container }

-- to check a container, which nobody asks as a user
abbrev pub check_request : ℕ → List ℕ → RepairRequest
check_request zone container = record { zone = zone; bucket = container }
