use Rattle.std.proofs.Common.{◌≡◌, ◌++◌, OnOk, sym, subst}
use Rattle.std.specs.Fmt.{digits}
use Rattle.task_account.specs.declared.reply.AccountOutcome.{AccountOutcome}
use Rattle.script_words.specs.Replies.{account_text}
use Rattle.script_words.proofs.Pushed.{added}
use Rattle.script_words.proofs.replies.push_account_outcome.Goals as goal

pub returns-in-MovedOften : goal.returns-in-MovedOften
unfolding digits
returns-in-MovedOften c =
    let pushed = c.extend_from_slice in
    subst (λ (o : AccountOutcome). OnOk pushed.result (pushed.new.self.items ≡ c.args.out.now.items ++ account_text o)) (sym c.in-MovedOften.is) (added pushed.result pushed.new.self.items c.args.out.now.items _ pushed.ensures.items)
