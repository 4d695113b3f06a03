-- How a user is let in (OpenStack Object Storage API v1, authentication).
use Rattle.std.specs.Prelude.{ℕ, List, Option, option_and_then, unwrap_or, codes}
use Rattle.swift_auth.specs.Users.{UserView, logged_in}
use Rattle.http_model.specs.declared.head.Head.{Head}
use Rattle.http_model.specs.Framings.{value_of}

-- the user with the full name and the key that were sent; of a repeated field the last counts
unfoldable pub login_of : List UserView → Head → Option UserView
login_of users head =
    option_and_then (λ name. option_and_then (λ key. logged_in users name key) (value_of (codes "x-auth-key") head.fields))
    (value_of (codes "x-auth-user") head.fields)

-- the host that a request names; one of HTTP/1.0 may name none
unfoldable pub host_of : Head → List ℕ
host_of head = unwrap_or (value_of (codes "host") head.fields) (codes "localhost")
