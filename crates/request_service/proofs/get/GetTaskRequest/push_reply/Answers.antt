use Rattle.std.proofs.Common.{◌++◌, List, ℕ, ap, ◌∙◌}
use Rattle.std.proofs.lemmas.Result.{on_ok_weaker}
use Rattle.task_words.specs.Answers.{span_of}
use Rattle.task_get.specs.declared.request.GetRequest.{GetRequest}
use Rattle.task_get.specs.Tasks.{request_of}
use Rattle.request_service.proofs.Texts.{get_text}
use Rattle.request_service.proofs.get.GetTaskRequest.push_reply.Goals as goal

pub returns : goal.returns
returns c =
    let span = c.span_in.ensures ∙ ap (λ (r : GetRequest). span_of r.get) c.request.ensures in
    on_ok_weaker c.push_outcome.result
    (λ grown. grown ∙ ap (λ (l : List ℕ). c.args.out.now.items ++ l) (get_text c.args.form (request_of c.args.self.now).asker (request_of c.args.self.now).get c.span_in.result c.args.outcome.now span))
    c.push_outcome.ensures
