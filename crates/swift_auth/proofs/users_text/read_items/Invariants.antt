use Rattle.std.proofs.Common.{◌≡◌, map, drop}
use Rattle.serde_json.specs.View.{view, items_of}
use Rattle.swift_auth.specs.UsersTexts.{users_of}
use Rattle.swift_auth.proofs.Reading.{with_front}
use Rattle.swift_auth.proofs.users_text.read_items.Given as goal

-- the users so far and those that are left are all of them
abbrev pub invariant-loop-object : goal.invariant-loop-object
invariant-loop-object l = with_front l.users (users_of (items_of (map view (drop l.object-index l.objects)))) ≡ users_of (items_of (map view l.fn.objects))
