use Rattle.std.proofs.Common.{refl}
use Rattle.swift_requests.proofs.OnLiterals.{heads_on_literals}
use Rattle.swift_requests.proofs.known_accounts.changes_are_refused_so.Goals as goal

pub returns : goal.returns
unfolding heads_on_literals
returns c = record { nobody = refl; lost = refl; delete_by_nobody = refl; value = refl; readers = refl; writers = refl; value_before_denial = refl; no_name = refl; no_name_removed = refl; long_name = refl; long_name_removed = refl; long_value = refl; meta_before_denial = refl; too_large = refl; too_large_before_denial = refl; bob = refl; bob_posts = refl; bob_deletes = refl; delete_too_large = refl }
