use Rattle.std.proofs.Common.{rules, ◌≡◌, ◌++◌, List, ℕ, Some, sym, ap, ◌∙◌}
use Rattle.std.proofs.lemmas.Result.{on_ok_weaker}
use Rattle.swift_requests.specs.declared.asked.Asked.TheVariants.{Unfed}
use Rattle.swift_requests.specs.declared.asked.UnfedCommand.TheVariants.{Get}
use Rattle.task_words.specs.declared.outcome.Outcome.TheVariants.{Done}
use Rattle.task_words.specs.Answers.{span_of}
use Rattle.task_get.specs.declared.request.GetRequest.{GetRequest}
use Rattle.task_get.specs.Tasks.{request_of, shown_of}
use Rattle.request_service.specs.Requests.{shown_text}
use Rattle.request_service.proofs.Texts.{get_text}
use Rattle.request_service.proofs.get.GetTaskRequest.push_head.Goals as goal

pub returns-in-Some : goal.returns-in-Some
returns-in-Some c =
    let r = request_of c.args.self.now in
    let reply = c.in-Some.reply.now in
    let span = c.span_in.ensures ∙ ap (λ (r : GetRequest). span_of r.get) c.request.ensures in
    let shown : shown_of c.args.self.now ≡ Some reply = search rules in
    on_ok_weaker c.push_map_reply.result
    (λ grown. grown ∙ ap (λ (l : List ℕ). c.args.out.now.items ++ l) (get_text c.args.form r.asker r.get c.span_in.result (Done reply) span ∙ sym (ap (shown_text c.args.form (Unfed r.asker (Get r.get))) shown)))
    c.push_map_reply.ensures
