use Rattle.std.proofs.Common.{◌≡◌, ℕ, List}
use Rattle.realm_model.specs.Owns.{OwnEvent}
use Rattle.task_list.specs.Merges.{left_count}
use Rattle.task_list.specs.Repairs.{Told}
use Rattle.task_list.specs.Sightings.{MergingTold}
use Rattle.task_list.specs.Stages.{MergingFits, IsRead}
use Rattle.task_list.proofs.merging.Merging.advance.Given as goal

abbrev pub invariant-names : goal.invariant-names
invariant-names l = record {
  read : IsRead l.self;
  same_row : l.self.row ≡ l.fn.self.row;
  told : (t : Told) → MergingTold l.fn.self l.fn.self.used_up t → MergingTold l.self l.self.used_up t;
  fits : (zone : ℕ) (events : List OwnEvent) → MergingFits zone l.command l.fn.self l.fn.self.used_up events → MergingFits zone l.command l.self l.self.used_up events;
}

abbrev pub decreases-names : goal.decreases-names
decreases-names l = left_count l.self.merge
