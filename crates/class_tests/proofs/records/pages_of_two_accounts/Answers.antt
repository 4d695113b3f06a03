use Rattle.std.proofs.Common.{sym, ap, ◌∙◌, subst, arith}
use Rattle.rgw_types.specs.declared.pool_key.Key.TheVariants.{Root as root_key}
use Rattle.object_pool.specs.Objects.{Object, PoolView, object_at}
use Rattle.object_words.specs.Roots.{no_root}
use Rattle.cls_record.specs.RootObjects.{IsRoot}
use Rattle.cls_record.proofs.RootLemmas.{new_root}
use Rattle.class_tests.proofs.records.pages_of_two_accounts.Goals as goal

pub makes_four-requires : goal.makes_four-requires
makes_four-requires c =
    let nothing_yet = c.in_ok-root.ensures.ok.object ∙ ap (λ (p : PoolView). object_at p root_key) c.requires.empty in
    record { root = (no_root, subst (λ (o : Object). IsRoot o no_root) (sym nothing_yet) new_root, omega arith) }
