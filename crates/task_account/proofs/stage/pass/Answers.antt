use Rattle.std.proofs.Common.{sym, ◌∙◌, ap}
use Rattle.task_account.specs.declared.asked.Place.TheVariants.{Past, Due}
use Rattle.task_account.specs.declared.stage.Stage.TheVariants.{Look}
use Rattle.task_account.specs.Asking.{LeftView}
use Rattle.task_account.specs.Stages.{behind_page}
use Rattle.task_account.proofs.Walking.{walk_full, walk_none, walk_at}
use Rattle.task_account.proofs.stage.pass.Goals as goal

pub returns-then-is_full : goal.returns-then-is_full
returns-then-is_full c =
    walk_full c.args.asked.now c.args.reply.now c.names.last c.names.left.is_last c.names.left.rest (sym c.is_full.ensures ∙ c.if-is_full.true)
    ∙ c.names.invariant

pub returns-in_default : goal.returns-in_default
returns-in_default c =
    ap (λ (left : LeftView). behind_page c.args.reply.now c.names.last left.is_last) c.in_default.ensures.left
    ∙ walk_none c.args.asked.now c.args.reply.now c.names.last c.names.left.is_last c.names.left.rest (sym c.is_full.ensures ∙ c.if-is_full.false)
    c.in_default.ensures.first
    ∙ c.names.invariant

pub returns-in-Past : goal.returns-in-Past
returns-in-Past c =
    walk_at c.args.asked.now c.args.reply.now c.names.last c.names.left.is_last c.in-Some.name c.names.left.rest Past (sym c.is_full.ensures ∙ c.if-is_full.false)
    c.in-Some.ensures.first (sym c.in_ok-place.ensures ∙ c.in-Past.is)
    ∙ c.names.invariant

pub returns-in-Due : goal.returns-in-Due
returns-in-Due c =
    ap (λ (left : LeftView). Look (record { reply = c.args.reply.now; name = c.in-Some.name; subdir = c.in-Due.subdir; left = left })) c.in-Some.ensures.left
    ∙ walk_at c.args.asked.now c.args.reply.now c.names.last c.names.left.is_last c.in-Some.name c.names.left.rest (Due c.in-Due.subdir) (sym c.is_full.ensures ∙ c.if-is_full.false)
    c.in-Some.ensures.first (sym c.in_ok-place.ensures ∙ c.in-Due.is)
    ∙ c.names.invariant
