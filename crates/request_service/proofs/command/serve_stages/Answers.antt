use Rattle.std.proofs.Common.{ap}
use Rattle.request_service.proofs.Commands.{served_for, stopped_for}
use Rattle.request_service.proofs.command.serve_stages.Goals as goal

pub returns-clause-served : goal.returns-clause-served
returns-clause-served g c =
    served_for _ _ _ _ _ _ _ c.serve_unfed-served.result _ _
    (ap (λ t. g.T.Request.question (g.T.Staged.command t.stages)) c.new-task.ensures) c.serve_unfed-served.ensures.served

pub returns-clause-stopped : goal.returns-clause-stopped
returns-clause-stopped g c =
    stopped_for _ _ _ _ _ _ _ c.serve_unfed-served.result _ _
    (ap (λ t. g.T.Request.question (g.T.Staged.command t.stages)) c.new-task.ensures) _ c.serve_unfed-served.ensures.stopped
