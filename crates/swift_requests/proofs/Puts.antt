-- What is known of the head of a PUT of an object.
use Rattle.std.proofs.Common.{◌≡◌, ℕ, true, List, None, subst}
use Rattle.std.specs.Prelude.{⊤}
use Rattle.swift_auth.specs.Users.{UserView}
use Rattle.task_words.specs.declared.asker.Asker.{Asker}
use Rattle.task_words.specs.declared.command.PutCommand.{PutCommand}
use Rattle.http_model.specs.declared.head.Head.{Head}
use Rattle.http_model.specs.Forms.{is_put}
use Rattle.swift_requests.specs.declared.asked.Asked.{Asked}
use Rattle.swift_requests.specs.declared.asked.Asked.TheVariants.{BadHost, Refused, Login, Put, Unfed}
use Rattle.swift_requests.specs.Asks.{asked_of}
use Rattle.swift_requests.specs.Refusals.{put_refusal}
use Rattle.swift_requests.proofs.Cases.{Cases, of_asked}

-- it is a PUT, and no field refuses it
pub record AsksPut (largest : ℕ) (head : Head) : Type 0 where
  pub is_one : is_put head ≡ true
  pub passed : put_refusal largest head ≡ None

abbrev IsOfPut : ℕ → Head → Asked → Type 0
IsOfPut largest head BadHost = ⊤
IsOfPut largest head (Refused refusal) = ⊤
IsOfPut largest head (Login host account token) = ⊤
IsOfPut largest head (Put asker command) = AsksPut largest head
IsOfPut largest head (Unfed asker command) = ⊤

cases : (largest : ℕ) (head : Head) → Cases largest head (IsOfPut largest head)
cases largest head = record {
  bad_host = tt;
  refused = λ refusal. tt;
  login = λ host account token. tt;
  account = λ asker query none. tt;
  listing = λ asker query name looks. tt;
  counts = λ asker name looks. tt;
  change = λ asker name none. tt;
  delete = λ asker name none. tt;
  put = λ asker container name is none. record { is_one = is; passed = none };
  get = λ asker container name is none. tt;
}

pub asks_put : (largest : ℕ) (users : List UserView) (head : Head) (asker : Asker) (command : PutCommand)
    → asked_of largest users head ≡ Put asker command → AsksPut largest head
asks_put largest users head asker command is =
    subst (IsOfPut largest head) is (of_asked largest head (IsOfPut largest head) (cases largest head) users)
