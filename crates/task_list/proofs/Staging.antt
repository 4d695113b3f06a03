-- What is settled at the beginning of a container's pages.
use Rattle.std.proofs.Common.{◌≡◌, ℕ, true, List, [], length, Some, ap, subst, arith}
use Rattle.std.proofs.lemmas.Bool.{both_ways}
use Rattle.std.proofs.lemmas.List.Elements.{All-nil}
use Rattle.object_words.specs.Rows.{RowView}
use Rattle.realm_model.specs.Owns.{OwnEvent}
use Rattle.list_words.specs.declared.command.ListCommand.{ListCommand}
use Rattle.list_words.specs.declared.row.ListedRow.{ListedRow}
use Rattle.list_words.specs.Listings.{in_scope}
use Rattle.task_list.specs.declared.stage.Known.{Known}
use Rattle.task_list.specs.Progresses.{settled_of, rows_in, IsStart}
use Rattle.task_list.specs.Listed.{is_within}
use Rattle.task_list.specs.Stages.{IsSettledTo}
use Rattle.task_list.specs.Tasks.{KnownFits}
use Rattle.task_list.proofs.Settling.{not_above}

-- no name is settled
pub fresh : (zone : ℕ) (c : ListCommand) (container : ℕ) (settled : List ℕ) (rows : List ListedRow) (events : List OwnEvent) → IsStart c settled → rows ≡ [] → IsSettledTo zone c container settled rows events
fresh zone c container settled rows events start none = record {
  live = [];
  rise = tt;
  asked = All-nil (λ (e : List ℕ × RowView). (in_scope c e.0 ≡ true) × (is_within (Some settled) e.0 ≡ true));
  rows_are = none;
  few = (let empty = ap length none in omega (arith, empty));
  shown = λ name scope within. absurd (both_ways _ (not_above settled name within) (start name scope));
}

-- what was settled in the container stays so
pub known_same : (zone : ℕ) (c : ListCommand) (container : ℕ) (k : Known) (events : List OwnEvent) → k.container ≡ container → KnownFits zone c (Some k) events → IsSettledTo zone c container (settled_of k.progress) (rows_in k.progress) events
known_same zone c container k events same fits = subst (λ n. IsSettledTo zone c n (settled_of k.progress) (rows_in k.progress) events) same fits
