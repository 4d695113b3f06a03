use Rattle.std.proofs.Common.{Err, ap, map, string_bytes}
use Rattle.rgw_run.proofs.Asking.{no_script, unread_once}
use Rattle.rgw_run.proofs.Ending.{runs_once}
use Rattle.rgw_run.proofs.Exactly.{exactly_of, exactly_said}
use Rattle.rgw_run.proofs.running.run_alone.Goals as goal

pub returns-in-Err-OutOfMemory-clause-runs : goal.returns-in-Err-OutOfMemory-clause-runs
returns-in-Err-OutOfMemory-clause-runs g c =
    unread_once (map string_bytes c.args.words.now) _ _ c.requires (c.in-Err-OutOfMemory.ensures.out_of_memory (ap Err c.in-Err-OutOfMemory.field-0-is))

pub returns-in-Err-OutOfMemory-clause-exact : goal.returns-in-Err-OutOfMemory-clause-exact
returns-in-Err-OutOfMemory-clause-exact g c = exactly_of _ _ _ _ _ _ _ (returns-in-Err-OutOfMemory-clause-runs g c)

pub returns-in-Ok-clause-exact : goal.returns-in-Ok-clause-exact
returns-in-Ok-clause-exact g c = exactly_said _ _ _ _ _ _ c.in-Ok.ensures.ok c.serve_once.ensures.runs

pub returns-in-Ok-clause-runs : goal.returns-in-Ok-clause-runs
returns-in-Ok-clause-runs g c =
    runs_once _ _ _ _ _ _ _ _ c.in-Ok.ensures.ok (no_script (map string_bytes c.args.words.now) c.in-Ok.once c.in-Ok.ensures.ok) c.serve_once.ensures.runs
