use Rattle.std.proofs.Common.{◌≡◌, true, subst, arith}
use Rattle.swift_words.specs.Targets.{has_names}
use Rattle.swift_requests.proofs.Refusals.{thing_names, container_name}
use Rattle.swift_requests.proofs.asked.asked_at.Goals as goal

pub name_of-container-requires : goal.name_of-container-requires
name_of-container-requires c =
    (omega arith, container_name c.in-Container.account c.in-Container.container (subst (λ target. has_names target ≡ true) c.in-Container.is c.requires))

pub name_of-container-requires-in-Thing : goal.name_of-container-requires-in-Thing
name_of-container-requires-in-Thing c =
    (omega arith, (thing_names c.in-Thing.account c.in-Thing.container c.in-Thing.name (subst (λ target. has_names target ≡ true) c.in-Thing.is c.requires)).0)

pub name_of-name-requires : goal.name_of-name-requires
name_of-name-requires c =
    (omega arith, (thing_names c.in-Thing.account c.in-Thing.container c.in-Thing.name (subst (λ target. has_names target ≡ true) c.in-Thing.is c.requires)).1)
