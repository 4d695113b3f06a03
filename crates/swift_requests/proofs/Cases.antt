-- What holds of each thing that a head may ask holds of what it asks.
use Rattle.std.proofs.Common.{◌≡◌, ℕ, nat_lt, length, Bool, true, false, not, cond, List, Option, Some, None, is_some, refl}
use Rattle.swift_auth.specs.Users.{UserView, account_of}
use Rattle.swift_words.specs.declared.fault.WordFault.{WordFault}
use Rattle.swift_words.specs.declared.query.Query.{Query}
use Rattle.swift_words.specs.declared.target.Target.{Target}
use Rattle.swift_words.specs.declared.target.Target.TheVariants as targets
use Rattle.swift_words.specs.Targets.{target_fault, target_of, asked_by as query_of}
use Rattle.swift_reply.specs.declared.reply.SwiftRefusal.{SwiftRefusal}
use Rattle.swift_reply.specs.declared.reply.SwiftRefusal.TheVariants as why
use Rattle.swift_reply.specs.declared.reply.TargetKind.TheVariants as kind
use Rattle.task_container.specs.declared.request.ContainerCommand.TheVariants as container
use Rattle.task_words.specs.declared.asker.Asker.{Asker}
use Rattle.http_model.specs.declared.head.Head.{Head}
use Rattle.http_model.specs.Forms.{is_get, is_put, has_host}
use Rattle.swift_requests.specs.declared.asked.Asked.{Asked}
use Rattle.swift_requests.specs.declared.asked.Asked.TheVariants.{BadHost, Refused, Login, Put, Unfed}
use Rattle.swift_requests.specs.declared.asked.UnfedCommand.TheVariants.{Get, Listing, Container, Account}
use Rattle.swift_requests.specs.AccountCommands.{account_command, change_command}
use Rattle.swift_requests.specs.Askers.{asker_of}
use Rattle.swift_requests.specs.Asks as asks
use Rattle.swift_requests.specs.Commands.{put_command, get_command, list_command, listing_form}
use Rattle.swift_requests.specs.Fields.{is_above}
use Rattle.swift_requests.specs.Logins.{login_of, host_of}
use Rattle.swift_requests.specs.Methods.{is_look, is_delete, has_container_method, has_object_method}
use Rattle.swift_requests.specs.Refusals.{put_refusal, get_refusal, own_refusal, change_refusal}

-- what may be asked, with what is known of the head then
pub record Cases (largest : ℕ) (head : Head) (P : Asked → Type 0) : Type 0 where
  pub bad_host : P BadHost
  pub refused : (refusal : SwiftRefusal) → P (Refused refusal)
  pub login : (host account token : List ℕ) → P (Login host account token)
  pub account : (asker : Asker) (query : Query) → own_refusal largest head asker ≡ None
      → P (Unfed asker (Account (account_command head query) (listing_form query)))
  pub listing : (asker : Asker) (query : Query) (name : List ℕ) → is_look head ≡ true
      → P (Unfed asker (Listing (list_command name query) (listing_form query)))
  pub counts : (asker : Asker) (name : List ℕ) → is_look head ≡ true → P (Unfed asker (Container (container.Head name)))
  pub change : (asker : Asker) (name : List ℕ) → change_refusal largest head asker ≡ None
      → P (Unfed asker (Container (change_command head name)))
  pub delete : (asker : Asker) (name : List ℕ) → own_refusal largest head asker ≡ None
      → P (Unfed asker (Container (container.Delete name)))
  pub put : (asker : Asker) (container name : List ℕ) → is_put head ≡ true → put_refusal largest head ≡ None
      → P (Put asker (put_command container name head))
  pub get : (asker : Asker) (container name : List ℕ) → is_put head ≡ false → get_refusal largest head ≡ None
      → P (Unfed asker (Get (get_command container name head)))

either : (P : Asked → Type 0) (test : Bool) (x y : Asked) → (test ≡ true → P x) → (test ≡ false → P y) → P (cond test x y)
either P true x y first second = first refl
either P false x y first second = second refl

unless : (P : Asked → Type 0) (refusal : Option SwiftRefusal) (asked : Asked) → ((w : SwiftRefusal) → P (Refused w)) → (refusal ≡ None → P asked)
    → P (asks.asked_unless refusal asked)
unless P None asked refused has = has refl
unless P (Some w) asked refused has = refused w

module _ (largest : ℕ) (head : Head) (P : Asked → Type 0) (cases : Cases largest head P) where
  of_login : (user : Option UserView) → P (asks.login_asked largest head user)
  of_login None = cases.refused why.Unauthorized
  of_login (Some user) =
      either P (is_above largest head.framing) (Refused why.TooLarge) (Login (host_of head) (account_of user) user.token)
      (λ is. cases.refused why.TooLarge) (λ is. cases.login (host_of head) (account_of user) user.token)

  of_account : (query : Query) (asker : Option Asker) → P (asks.account_asked_by largest head query asker)
  of_account query None = cases.refused why.Unauthorized
  of_account query (Some asker) =
      unless P (own_refusal largest head asker) (Unfed asker (Account (account_command head query) (listing_form query)))
      cases.refused (cases.account asker query)

  of_look : (query : Query) (name : List ℕ) (asker : Asker) → is_look head ≡ true → P (asks.look_asked largest head query name asker)
  of_look query name asker looks =
      either P (is_above largest head.framing) (Refused why.TooLarge) _ (λ is. cases.refused why.TooLarge)
      (λ is. either P (is_get head) (Unfed asker (Listing (list_command name query) (listing_form query))) (Unfed asker (Container (container.Head name)))
      (λ get. cases.listing asker query name looks) (λ other. cases.counts asker name looks))

  of_container : (query : Query) (name : List ℕ) (asker : Option Asker) → P (asks.container_asked_by largest head query name asker)
  of_container query name None = cases.refused why.Unauthorized
  of_container query name (Some asker) =
      either P (is_look head) (asks.look_asked largest head query name asker) _ (of_look query name asker)
      (λ changes. either P (is_delete head) (asks.delete_asked largest head name asker) (asks.change_asked largest head name asker)
      (λ is. unless P (own_refusal largest head asker) (Unfed asker (Container (container.Delete name))) cases.refused (cases.delete asker name))
      (λ is. unless P (change_refusal largest head asker) (Unfed asker (Container (change_command head name))) cases.refused (cases.change asker name)))

  of_object : (container name : List ℕ) (asker : Option Asker) → P (asks.object_asked_by largest head container name asker)
  of_object container name None = cases.refused why.Unauthorized
  of_object container name (Some asker) =
      either P (is_put head) (asks.put_asked largest head container name asker) (asks.get_asked largest head container name asker)
      (λ is. either P (not (is_some asker.user)) (Refused why.Unauthorized) (asks.asked_unless (put_refusal largest head) (Put asker (put_command container name head)))
      (λ nobody. cases.refused why.Unauthorized)
      (λ somebody. unless P (put_refusal largest head) (Put asker (put_command container name head)) cases.refused (cases.put asker container name is)))
      (λ is. unless P (get_refusal largest head) (Unfed asker (Get (get_command container name head))) cases.refused (cases.get asker container name is))

  at_target : (users : List UserView) (query : Query) (target : Target) → P (asks.asked_at largest users head query target)
  at_target users query targets.Unknown = cases.refused why.NoPath
  at_target users query targets.Auth =
      either P (is_get head) (asks.login_asked largest head (login_of users head)) (Refused (why.NoMethod kind.Auth))
      (λ is. of_login (login_of users head)) (λ is. cases.refused (why.NoMethod kind.Auth))
  at_target users query (targets.Account account) =
      either P (is_look head) (asks.account_asked_by largest head query (asker_of users head account)) (Refused (why.NoMethod kind.Account))
      (λ is. of_account query (asker_of users head account)) (λ is. cases.refused (why.NoMethod kind.Account))
  at_target users query (targets.Container account name) =
      either P (has_container_method head) (asks.container_asked_by largest head query name (asker_of users head account)) (Refused (why.NoMethod kind.Container))
      (λ is. of_container query name (asker_of users head account)) (λ is. cases.refused (why.NoMethod kind.Container))
  at_target users query (targets.Thing account container name) =
      either P (not (has_object_method head)) (Refused (why.NoMethod kind.Object)) _ (λ is. cases.refused (why.NoMethod kind.Object))
      (λ is. either P (not (asks.is_taken head)) (Refused why.NotBuilt) (asks.object_asked_by largest head container name (asker_of users head account))
      (λ other. cases.refused why.NotBuilt) (λ taken. of_object container name (asker_of users head account)))

  by_fault : (users : List UserView) (fault : Option WordFault) → P (asks.asked_by largest users head fault)
  by_fault users (Some fault) = cases.refused (why.Invalid (asks.invalid_by fault))
  by_fault users None = at_target users (query_of head.target) (target_of head.target)

  pub of_asked : (users : List UserView) → P (asks.asked_of largest users head)
  unfolding asks.asked_of
  of_asked users =
      either P (not (has_host head)) BadHost _ (λ is. cases.bad_host)
      (λ is. either P (nat_lt asks.target_limit (length head.target)) (Refused why.TargetTooLong) (asks.asked_by largest users head (target_fault head.target))
      (λ long. cases.refused why.TargetTooLong) (λ short. by_fault users (target_fault head.target)))
