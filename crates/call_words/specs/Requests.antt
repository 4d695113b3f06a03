-- The requests of calls.
use Rattle.std.specs.Prelude.{◌≡◌, ℕ, List, map}
use Rattle.std.specs.List.{AllByRecursion}
use Rattle.swift_auth.specs.Users.{UserView}
use Rattle.swift_requests.specs.Asks.{asked_of}
use Rattle.call_words.specs.Calls.{Call}
use Rattle.call_words.specs.Streams.{Taken}

abbrev pub taken_of : Call → Taken
taken_of call = record { request = call.request; fate = call.fate }

abbrev pub requests_of : List Call → List Taken
requests_of calls = map taken_of calls

-- each call is what its head asks
abbrev pub AreAsked : ℕ → List UserView → List Call → Type 0
AreAsked largest users calls = AllByRecursion (λ call. call.asked ≡ asked_of largest users call.request.head) calls
