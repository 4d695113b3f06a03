-- Words of the known answers: two users, and what heads ask of them.
use Rattle.std.specs.Prelude.{ℕ, List, [], ◌∷◌, Some, None, codes}
use Rattle.swift_auth.specs.Users.{UserView, standard_user}
use Rattle.task_words.specs.declared.asker.Asker.{Asker}
use Rattle.http_model.specs.declared.head.Head.{Head}
use Rattle.swift_requests.specs.declared.asked.Asked.{Asked}
use Rattle.swift_requests.specs.declared.body.BodyUse.{BodyUse}
use Rattle.swift_requests.specs.Asks.{asked_of}
use Rattle.swift_requests.specs.Bodies.{body_use}

-- a user of the account `corp`, beside `acme:ann`
abbrev pub bob : UserView
bob = record { full_name = codes "corp:bob"; key = codes "hunter2"; token = codes "AUTH_tk2" }

abbrev pub users : List UserView
users = standard_user ∷ bob ∷ []

-- the largest object
abbrev pub largest : ℕ
largest = 5368709120

-- what a head asks of these
abbrev pub asks : Head → Asked
asks head = asked_of largest users head

-- what becomes of the bytes behind it
abbrev pub uses : Head → BodyUse
uses head = body_use largest head (asks head)

abbrev pub by : UserView → Asker
by user = record { account = codes "acme"; user = Some user }

abbrev pub by_ann : Asker
by_ann = by standard_user

abbrev pub by_bob : Asker
by_bob = by bob

-- without a token
abbrev pub by_nobody : Asker
by_nobody = record { account = codes "acme"; user = None }
