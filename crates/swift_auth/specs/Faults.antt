-- Why a users text is not read, and the text that says so.
use Rattle.std.specs.Prelude.{◌≡◌, ℕ, List, codes, Option, Some, None, Result, Ok, Err, ⊤}
use Rattle.swift_auth.specs.declared.fault.UsersFault.{UsersFault}
use Rattle.swift_auth.specs.declared.fault.UsersFault.TheVariants.{OutOfMemory, BadUsers}

abbrev pub fault_text : UsersFault → List ℕ
fault_text OutOfMemory = codes "out of memory"
fault_text BadUsers = codes "bad users"

-- a reading fails exactly where there is nothing to be read; want of memory may come at any place
abbrev pub Fails : {X : Type 0} → UsersFault → Option X → Type 0
Fails OutOfMemory said = ⊤
Fails BadUsers said = said ≡ None

-- what is read is what is said
abbrev pub Reads : {X : Type 0} → Result X UsersFault → Option X → Type 0
Reads (Ok value) said = said ≡ Some value
Reads (Err fault) said = Fails fault said
