use Rattle.std.proofs.Common.{refl}
use Rattle.swift_requests.proofs.OnLiterals.{heads_on_literals}
use Rattle.swift_requests.proofs.known_accounts.containers_are_changed_so.Goals as goal

pub returns : goal.returns
unfolding heads_on_literals
returns c = record { plain = refl; with_body = refl; chunks = refl; opened = refl; lists = refl; pairs = refl; removed = refl; emptied = refl; removed_later = refl; set_later = refl; last_text = refl; other_fields = refl; deleted = refl; deleted_with_fields = refl; longest = refl }
