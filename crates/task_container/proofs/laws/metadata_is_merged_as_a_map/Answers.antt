use Rattle.task_container.proofs.Metadata.{merged_rises, merged_values}
use Rattle.task_container.proofs.laws.metadata_is_merged_as_a_map.Goals as goal

pub returns-clause-values : goal.returns-clause-values
returns-clause-values c = λ kept sent name risen rising. merged_values name kept sent risen rising

pub returns-clause-risen : goal.returns-clause-risen
returns-clause-risen c = λ kept sent risen rising. merged_rises kept sent risen rising
