-- The sentences of the policy, one for each reason for which a deed is granted (the OpenStack Object Storage API v1, container
-- access control lists).
use Rattle.std.specs.Prelude.{◌≡◌, ℕ, ◌⊎◌, List, Option, Some, codes, Any}
use Rattle.object_words.specs.declared.bucket.Bucket.{Bucket}
use Rattle.swift_auth.specs.declared.policy.Deed.{Deed}
use Rattle.swift_auth.specs.declared.policy.Deed.TheVariants.{ListContainer, ReadThing, ChangeThing}
use Rattle.swift_auth.specs.Users.{UserView, account_of}
use Rattle.swift_auth.specs.Lists.{parts_of, member_in}

-- a text is a member of a list
abbrev pub IsMember : List ℕ → List ℕ → Type 0
IsMember member list = Any (λ part. member_in part ≡ member) (parts_of list)

-- a list names a user: by the full name, or by the account where it is not spelled as the word that lets anybody list
abbrev pub IsNamed : UserView → List ℕ → Type 0
IsNamed user list = IsMember user.full_name list ⊎ (IsMember (account_of user) list × ¬ (account_of user ≡ codes ".rlistings"))

-- why a deed is granted to who asks, in a container of the account
pub data Grants (account : List ℕ) (container : Option Bucket) : Option UserView → Deed → Type 0 where
  -- a user of the account may do everything
  of_the_account : (user : UserView) (deed : Deed) → account_of user ≡ account → Grants account container (Some user) deed
  -- a reader who is named may read and list
  reader_reads : (user : UserView) (b : Bucket) → container ≡ Some b → b.owner ≡ account → IsNamed user b.readers → Grants account container (Some user) ReadThing
  reader_lists : (user : UserView) (b : Bucket) → container ≡ Some b → b.owner ≡ account → IsNamed user b.readers → Grants account container (Some user) ListContainer
  -- a writer who is named may change objects
  writer_changes : (user : UserView) (b : Bucket) → container ≡ Some b → b.owner ≡ account → IsNamed user b.writers → Grants account container (Some user) ChangeThing
  -- anybody may read what is public, and list it where the list says so too
  anybody_reads : (asker : Option UserView) (b : Bucket) → container ≡ Some b → b.owner ≡ account → IsMember (codes ".r:*") b.readers → Grants account container asker ReadThing
  anybody_lists : (asker : Option UserView) (b : Bucket) → container ≡ Some b → b.owner ≡ account → IsMember (codes ".r:*") b.readers → IsMember (codes ".rlistings") b.readers
      → Grants account container asker ListContainer
