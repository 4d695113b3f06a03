-- The commands that heads on accounts and containers are (OpenStack Object Storage API v1, accounts and containers).
use Rattle.std.specs.Prelude.{ℕ, List, if◌then◌else◌}
use Rattle.http_model.specs.declared.head.Head.{Head}
use Rattle.http_model.specs.Forms.{is_get, is_put}
use Rattle.swift_words.specs.declared.query.Query.{Query}
use Rattle.task_account.specs.declared.request.AccountCommand.{AccountCommand}
use Rattle.task_account.specs.declared.request.AccountCommand.TheVariants as account
use Rattle.task_account.specs.declared.request.AccountListing.{AccountListing}
use Rattle.task_container.specs.declared.request.ContainerCommand.{ContainerCommand}
use Rattle.task_container.specs.declared.request.ContainerCommand.TheVariants as container
use Rattle.swift_requests.specs.Changes.{container_changes}

-- the listing of an account's containers, by the query of the target
abbrev pub account_listing : Query → AccountListing
account_listing query = record {
  limit = query.limit;
  marker = query.marker;
  end_marker = query.end_marker;
  prefix = query.prefix;
  delimiter = query.delimiter;
}

-- a GET lists an account, and a HEAD counts all of it, whatever the query narrows
abbrev pub account_command : Head → Query → AccountCommand
account_command head query = if is_get head then account.List (account_listing query) else account.Head

-- a PUT makes or changes a container, and a POST changes it
abbrev pub change_command : Head → List ℕ → ContainerCommand
change_command head name = if is_put head then container.Put name (container_changes head) else container.Post name (container_changes head)
