-- Who asks, by the token that a request sends, and what the users of an account alone may do (OpenStack Object Storage API v1,
-- authentication and container access control lists).
use Rattle.std.specs.Prelude.{ℕ, Bool, true, false, List, Option, Some, None, option_map, codes}
use Rattle.swift_auth.specs.declared.policy.Deed.TheVariants.{OwnAccount}
use Rattle.swift_auth.specs.declared.policy.Rule.{Rule}
use Rattle.swift_auth.specs.declared.policy.Rule.TheVariants as rules
use Rattle.swift_auth.specs.declared.policy.Verdict.{Verdict}
use Rattle.swift_auth.specs.declared.policy.Verdict.TheVariants.{Granted, Unknown, Denied}
use Rattle.swift_auth.specs.Policies.{verdict_of}
use Rattle.swift_auth.specs.Users.{UserView, owner_of}
use Rattle.swift_reply.specs.declared.reply.Denial.{Denial}
use Rattle.swift_reply.specs.declared.reply.Denial.TheVariants as denials
use Rattle.swift_reply.specs.declared.reply.SwiftRefusal.{SwiftRefusal}
use Rattle.swift_reply.specs.declared.reply.SwiftRefusal.TheVariants as refusals
use Rattle.task_words.specs.declared.asker.Asker.{Asker}
use Rattle.http_model.specs.declared.head.Head.{Head}
use Rattle.http_model.specs.Framings.{value_of}

-- a user asks under this account
abbrev pub asked_by : List ℕ → UserView → Asker
asked_by account user = record { account = account; user = Some user }

-- who sends no token is nobody; a token that no user has is no asker at all
abbrev pub asker_with : List UserView → List ℕ → Option (List ℕ) → Option Asker
asker_with users account None = Some (record { account = account; user = None })
asker_with users account (Some token) = option_map (asked_by account) (owner_of users token)

-- of a repeated X-Auth-Token the last counts
unfoldable pub asker_of : List UserView → Head → List ℕ → Option Asker
asker_of users head account = asker_with users account (value_of (codes "x-auth-token") head.fields)

-- what the policy says of who acts on an account, or makes, changes or removes a container of it: it looks at no container
abbrev pub own_verdict : Asker → Verdict
own_verdict asker = verdict_of asker.user asker.account None OwnAccount

-- a token is needed, and none was sent
abbrev pub is_unknown : Verdict → Bool
is_unknown Granted = false
is_unknown Unknown = true
is_unknown (Denied rule) = false

-- how the 403 names the rule
abbrev pub denial_of : Rule → Denial
denial_of rules.Account = denials.Account
denial_of rules.Read = denials.Read
denial_of rules.Write = denials.Write

-- the rule refuses the user
abbrev pub denied_by : Verdict → Option SwiftRefusal
denied_by Granted = None
denied_by Unknown = None
denied_by (Denied rule) = Some (refusals.Denied (denial_of rule))
