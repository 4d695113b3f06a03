-- What is asked of a container.
use Rattle.std.specs.Prelude.{◌≡◌, ℕ, ◌==◌, ◌&&◌, not, Bool, false, List, length, Option, Some, None, is_some}
use Rattle.task_container.specs.declared.request.ContainerChanges.{ContainerChanges}
use Rattle.task_container.specs.declared.request.ContainerCommand.{ContainerCommand}
use Rattle.task_container.specs.declared.request.ContainerCommand.TheVariants.{Head, Put, Post, Delete}
use Rattle.task_container.specs.declared.request.ContainerRequest.{ContainerRequest}

-- the container's name
abbrev pub name_of : ContainerCommand → List ℕ
name_of (Head name) = name
name_of (Put name changes) = name
name_of (Post name changes) = name
name_of (Delete name) = name

-- what is sent to change it
abbrev pub changes_of : ContainerCommand → Option ContainerChanges
changes_of (Head name) = None
changes_of (Put name changes) = Some changes
changes_of (Post name changes) = Some changes
changes_of (Delete name) = None

-- neither metadata nor a list
abbrev pub is_nothing : ContainerChanges → Bool
is_nothing c = length c.meta == 0 && (not (is_some c.readers) && not (is_some c.writers))

-- the zone whose row is read: that of the request for a HEAD, else zone 1, where containers are made, changed and removed
abbrev pub zone_for : ContainerCommand → ℕ → ℕ
zone_for (Head name) zone = zone
zone_for command zone = 1

abbrev pub looked_zone : ContainerRequest → ℕ
looked_zone r = zone_for r.command r.zone

-- the kinds of request
abbrev pub IsHead : ContainerCommand → Type 0
IsHead (Head name) = Unit {0}
IsHead command = ⊥

abbrev pub IsPut : ContainerCommand → Type 0
IsPut (Put name changes) = Unit {0}
IsPut command = ⊥

abbrev pub IsPost : ContainerCommand → Type 0
IsPost (Post name changes) = Unit {0}
IsPost command = ⊥

abbrev pub IsDelete : ContainerCommand → Type 0
IsDelete (Delete name) = Unit {0}
IsDelete command = ⊥

-- a kind that changes a row that is there
abbrev pub IsChanger : ContainerCommand → Type 0
IsChanger (Head name) = ⊥
IsChanger (Put name changes) = is_nothing changes ≡ false
IsChanger (Post name changes) = Unit {0}
IsChanger (Delete name) = ⊥
