-- Who may do what (the OpenStack Object Storage API v1, container access control lists).
use Rattle.std.specs.Prelude.{ℕ, Bool, false, ◌||◌, List, Option, Some, None, bytes_eq, if◌then◌else◌}
use Rattle.object_words.specs.declared.bucket.Bucket.{Bucket}
use Rattle.swift_auth.specs.declared.policy.Deed.{Deed}
use Rattle.swift_auth.specs.declared.policy.Deed.TheVariants.{OwnAccount, ListContainer, ReadThing, ChangeThing}
use Rattle.swift_auth.specs.declared.policy.Rule.{Rule}
use Rattle.swift_auth.specs.declared.policy.Rule.TheVariants.{Account, Read, Write}
use Rattle.swift_auth.specs.declared.policy.Verdict.{Verdict}
use Rattle.swift_auth.specs.declared.policy.Verdict.TheVariants.{Granted, Unknown, Denied}
use Rattle.swift_auth.specs.Users.{UserView, account_of}
use Rattle.swift_auth.specs.Lists.{names, is_public, is_listed}

-- who asks is a user of the account
abbrev pub is_of : List ℕ → Option UserView → Bool
is_of account None = false
is_of account (Some user) = bytes_eq (account_of user) account

-- a list names who asks
abbrev pub names_asker : List ℕ → Option UserView → Bool
names_asker list None = false
names_asker list (Some user) = names list user

-- a container is found only under the account that owns it
abbrev pub found_under : List ℕ → Option Bucket → Option Bucket
found_under account None = None
found_under account (Some bucket) = if bytes_eq bucket.owner account then Some bucket else None

-- the deeds that the lists of a container let somebody do who is no user of the account
abbrev pub lists_let : Option UserView → Deed → Bucket → Bool
lists_let asker OwnAccount bucket = false
lists_let asker ListContainer bucket = names_asker bucket.readers asker || is_listed bucket.readers
lists_let asker ReadThing bucket = names_asker bucket.readers asker || is_public bucket.readers
lists_let asker ChangeThing bucket = names_asker bucket.writers asker

-- where no container is found, no list lets anybody do anything
abbrev pub container_lets : Option UserView → Deed → Option Bucket → Bool
container_lets asker deed None = false
container_lets asker deed (Some bucket) = lists_let asker deed bucket

-- the rule of a deed
abbrev pub rule_of : Deed → Rule
rule_of OwnAccount = Account
rule_of ListContainer = Read
rule_of ReadThing = Read
rule_of ChangeThing = Write

-- whom a rule refuses is told which one; who sent no token is not known
abbrev pub refused : Option UserView → Deed → Verdict
refused None deed = Unknown
refused (Some user) deed = Denied (rule_of deed)

-- a user of the account may do everything there, others what the lists of the container let them do
abbrev pub verdict_of : Option UserView → List ℕ → Option Bucket → Deed → Verdict
verdict_of asker account bucket deed =
    if is_of account asker || container_lets asker deed (found_under account bucket) then Granted else refused asker deed
