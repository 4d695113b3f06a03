use Rattle.swift_reply.proofs.Tokens.{three_ok}
use Rattle.swift_reply.proofs.account.push_container.Goals as goal

pub returns-clause-ok : goal.returns-clause-ok
returns-clause-ok c =
    three_ok c.end_object.result _ _ _ _ _ _ _ _ _ _ _ _ _ _ c.in_ok-begin_object.ensures.ok c.in_ok-push_number.ensures.ok
    c.in_ok-push_number-2.ensures.ok c.in_ok-push_text.ensures.ok c.end_object.ensures.ok
