use Rattle.std.proofs.Common.{◌≡◌, ◌++◌, OnOk, sym, subst}
use Rattle.std.specs.Fmt.{digits}
use Rattle.task_container.specs.declared.outcome.ContainerOutcome.{ContainerOutcome}
use Rattle.script_words.specs.Replies.{container_text}
use Rattle.script_words.proofs.Pushed.{added}
use Rattle.script_words.proofs.replies.push_container_outcome.Goals as goal

pub returns-in-Busy : goal.returns-in-Busy
unfolding digits
returns-in-Busy c =
    let pushed = c.push_counted in
    subst (λ (o : ContainerOutcome). OnOk pushed.result (pushed.new.out.items ≡ c.args.out.now.items ++ container_text o)) (sym c.in-Busy.is) pushed.ensures

pub returns-in-MovedOften : goal.returns-in-MovedOften
unfolding digits
returns-in-MovedOften c =
    let pushed = c.extend_from_slice in
    subst (λ (o : ContainerOutcome). OnOk pushed.result (pushed.new.self.items ≡ c.args.out.now.items ++ container_text o)) (sym c.in-MovedOften.is) (added pushed.result pushed.new.self.items c.args.out.now.items _ pushed.ensures.items)

pub returns-in-RacedOften : goal.returns-in-RacedOften
unfolding digits
returns-in-RacedOften c =
    let pushed = c.extend_from_slice-in-RacedOften in
    subst (λ (o : ContainerOutcome). OnOk pushed.result (pushed.new.self.items ≡ c.args.out.now.items ++ container_text o)) (sym c.in-RacedOften.is) (added pushed.result pushed.new.self.items c.args.out.now.items _ pushed.ensures.items)
