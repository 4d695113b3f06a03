use Rattle.std.proofs.Common.{◌≡◌, ◌++◌, OnOk, sym, subst}
use Rattle.std.specs.Fmt.{digits}
use Rattle.task_container.specs.declared.outcome.ContainerRefusal.{ContainerRefusal}
use Rattle.script_words.specs.Replies.{refusal_text, container_refusal_in}
use Rattle.script_words.proofs.Pushed.{added}
use Rattle.script_words.proofs.replies.push_container_refusal.Goals as goal

pub returns-in-NotYours : goal.returns-in-NotYours
unfolding digits
returns-in-NotYours c =
    let pushed = c.extend_from_slice-in-NotYours in
    subst (λ (r : ContainerRefusal). OnOk pushed.result (pushed.new.self.items ≡ c.args.out.now.items ++ refusal_text (container_refusal_in r))) (sym c.in-NotYours.is) (added pushed.result pushed.new.self.items c.args.out.now.items _ pushed.ensures.items)

pub returns-in-NotEmpty : goal.returns-in-NotEmpty
unfolding digits
returns-in-NotEmpty c =
    let pushed = c.push_name in
    subst (λ (r : ContainerRefusal). OnOk pushed.result (pushed.new.out.items ≡ c.args.out.now.items ++ refusal_text (container_refusal_in r))) (sym c.in-NotEmpty.is) pushed.ensures

pub returns-in-Unsettled : goal.returns-in-Unsettled
unfolding digits
returns-in-Unsettled c =
    let pushed = c.push_name-in-Unsettled in
    subst (λ (r : ContainerRefusal). OnOk pushed.result (pushed.new.out.items ≡ c.args.out.now.items ++ refusal_text (container_refusal_in r))) (sym c.in-Unsettled.is) pushed.ensures
