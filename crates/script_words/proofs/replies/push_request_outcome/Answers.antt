use Rattle.std.proofs.Common.{◌≡◌, ◌++◌, OnOk, sym, subst}
use Rattle.std.specs.Fmt.{digits}
use Rattle.task_words.specs.declared.outcome.Outcome.{Outcome}
use Rattle.script_words.specs.Replies.{request_text}
use Rattle.script_words.proofs.Pushed.{added}
use Rattle.script_words.proofs.replies.push_request_outcome.Goals as goal

pub returns-in-Busy : goal.returns-in-Busy
unfolding digits
returns-in-Busy c =
    let pushed = c.push_counted in
    subst (λ (o : Outcome). OnOk pushed.result (pushed.new.out.items ≡ c.args.out.now.items ++ request_text o c.args.shown.now)) (sym c.in-Busy.is) pushed.ensures

pub returns-in-MovedOften : goal.returns-in-MovedOften
unfolding digits
returns-in-MovedOften c =
    let pushed = c.extend_from_slice-in-MovedOften in
    subst (λ (o : Outcome). OnOk pushed.result (pushed.new.self.items ≡ c.args.out.now.items ++ request_text o c.args.shown.now)) (sym c.in-MovedOften.is) (added pushed.result pushed.new.self.items c.args.out.now.items _ pushed.ensures.items)

pub returns-in-RacedOften : goal.returns-in-RacedOften
unfolding digits
returns-in-RacedOften c =
    let pushed = c.extend_from_slice-in-RacedOften in
    subst (λ (o : Outcome). OnOk pushed.result (pushed.new.self.items ≡ c.args.out.now.items ++ request_text o c.args.shown.now)) (sym c.in-RacedOften.is) (added pushed.result pushed.new.self.items c.args.out.now.items _ pushed.ensures.items)

pub returns-in-LateTag : goal.returns-in-LateTag
unfolding digits
returns-in-LateTag c =
    let pushed = c.extend_from_slice-in-LateTag in
    subst (λ (o : Outcome). OnOk pushed.result (pushed.new.self.items ≡ c.args.out.now.items ++ request_text o c.args.shown.now)) (sym c.in-LateTag.is) (added pushed.result pushed.new.self.items c.args.out.now.items _ pushed.ensures.items)

pub returns-in-NoSpace : goal.returns-in-NoSpace
unfolding digits
returns-in-NoSpace c =
    let pushed = c.push_no_space in
    subst (λ (o : Outcome). OnOk pushed.result (pushed.new.out.items ≡ c.args.out.now.items ++ request_text o c.args.shown.now)) (sym c.in-NoSpace.is) pushed.ensures
