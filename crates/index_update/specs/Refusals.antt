-- What refuses an update, whatever the door tells.
use Rattle.task_words.specs.declared.reply.Refusal.{Refusal}
use Rattle.task_words.specs.declared.reply.Refusal.TheVariants.{Unauthorized, Denied, NoContainer}
use Rattle.index_update.specs.declared.stage.Updated.{Updated}
use Rattle.index_update.specs.declared.stage.Updated.TheVariants as ends
use Rattle.index_update.specs.declared.stage.After.TheVariants.{End}
use Rattle.index_update.specs.declared.stage.Stage.{Stage}
use Rattle.index_update.specs.declared.stage.Stage.TheVariants.{Cancelling, Ended}

-- the row of a container refuses so
abbrev pub IsOfRow : Refusal → Type 0
IsOfRow Unauthorized = Unit {0}
IsOfRow (Denied rule) = Unit {0}
IsOfRow NoContainer = Unit {0}
IsOfRow refusal = ⊥

-- where it is a refusal by a row, a row may refuse so
abbrev pub IsEndOfRow : Updated → Type 0
IsEndOfRow (ends.Refused refusal) = IsOfRow refusal
IsEndOfRow end = Unit {0}

-- the end, where it is known, is such a one
abbrev pub OnlyRowsRefuse : Stage → Type 0
OnlyRowsRefuse (Cancelling key tag (End end)) = IsEndOfRow end
OnlyRowsRefuse (Ended end) = IsEndOfRow end
OnlyRowsRefuse stage = Unit {0}
