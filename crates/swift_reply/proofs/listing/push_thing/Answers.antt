use Rattle.std.proofs.Common.{◌∙◌, ap}
use Rattle.json.specs.Token.{string}
use Rattle.swift_reply.proofs.Tokens.{five_ok}
use Rattle.swift_reply.proofs.listing.push_thing.Goals as goal

pub returns-clause-ok : goal.returns-clause-ok
returns-clause-ok c =
    five_ok c.end_object.result _ _ _ _ _ _ _ _ _ _ _ _ _ _ _ _ _ _ _ _ _ _ _ c.in_ok-begin_object.ensures.ok c.in_ok-push_number.ensures.ok
    c.in_ok-push_text.ensures.ok c.in_ok-push_text-2.ensures.ok c.in_ok-push_text-3.ensures.ok c.in_ok-push_text-4.ensures.ok c.end_object.ensures.ok
    (ap string (c.as_str.ensures ∙ c.as_text.ensures.text)) (ap string (c.text_of.ensures ∙ c.hash_digits-hash.ensures.text)) (ap string (c.text_of-2.ensures ∙ c.moment_digits-moment.ensures.text))
