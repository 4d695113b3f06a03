-- The first reason to refuse a request by its fields and by its account, before a container is looked up (OpenStack Object
-- Storage API v1; the order is own).
use Rattle.std.specs.Prelude.{ℕ, ◌&&◌, not, Option, Some, None, if◌then◌else◌}
use Rattle.swift_reply.specs.declared.reply.SwiftRefusal.{SwiftRefusal}
use Rattle.swift_reply.specs.declared.reply.SwiftRefusal.TheVariants.{Unauthorized, Invalid, NoLength, TooLarge}
use Rattle.swift_reply.specs.declared.reply.Invalid.TheVariants.{Value, Meta}
use Rattle.task_words.specs.declared.asker.Asker.{Asker}
use Rattle.http_model.specs.declared.head.Head.{Head}
use Rattle.swift_requests.specs.Askers.{own_verdict, is_unknown, denied_by}
use Rattle.swift_requests.specs.Changes.{changes_of, are_within_limits, has_change_texts}
use Rattle.swift_requests.specs.Fields.{has_texts, has_put_texts, has_put_sizes, is_without_length, is_above}

-- ---- objects

-- a PUT: 400, 411, 413
unfoldable pub put_refusal : ℕ → Head → Option SwiftRefusal
put_refusal largest head =
    if not (has_texts head && has_put_texts head) then Some (Invalid Value)
    else if not (has_put_sizes head) then Some (Invalid Meta)
    else if is_without_length head.framing then Some NoLength
    else if is_above largest head.framing then Some TooLarge
    else None

-- a GET or a HEAD: 400, 413
unfoldable pub get_refusal : ℕ → Head → Option SwiftRefusal
get_refusal largest head =
    if not (has_texts head) then Some (Invalid Value)
    else if is_above largest head.framing then Some TooLarge
    else None

-- ---- accounts and containers

-- what the users of the account alone may do: 401, 413, 403
unfoldable pub own_refusal : ℕ → Head → Asker → Option SwiftRefusal
own_refusal largest head asker =
    if is_unknown (own_verdict asker) then Some Unauthorized
    else if is_above largest head.framing then Some TooLarge
    else denied_by (own_verdict asker)

-- a change of a container: 401, 400, 413, 403
unfoldable pub change_refusal : ℕ → Head → Asker → Option SwiftRefusal
change_refusal largest head asker =
    if is_unknown (own_verdict asker) then Some Unauthorized
    else if not (has_change_texts head) then Some (Invalid Value)
    else if not (are_within_limits (changes_of head.fields)) then Some (Invalid Meta)
    else if is_above largest head.framing then Some TooLarge
    else denied_by (own_verdict asker)
