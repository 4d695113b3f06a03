use Rattle.std.proofs.Common.{sym, ap, ◌∙◌}
use Rattle.serde_json.specs.View.{view}
use Rattle.swift_auth.specs.UsersTexts.{user_of}
use Rattle.swift_auth.proofs.Reading.{goes_on, is_done}
use Rattle.swift_auth.proofs.users_text.read_items.Goals as goal

pub returns : goal.returns
returns c = is_done view c.args.objects.now c.loop-object.object-index _ _ c.loop-object-test.false c.loop-object.invariant

pub loop-object-preserved : goal.loop-object-preserved
loop-object-preserved c =
    let x = c.object-item.result in
    rw c.in_ok-push.ensures.ok
    (goes_on view c.args.objects.now c.loop-object.object-index x _ _ _ c.loop-object-test.true
    (sym (ap (λ v. user_of (view v)) c.object-item.is) ∙ c.in_ok-user.ensures) c.loop-object.invariant)
