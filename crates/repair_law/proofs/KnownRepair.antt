-- A known history in which a check puts right what a stopped writer left: it meets what the law asks for.
use Rattle.std.proofs.Common.{◌≡◌, ℕ, zero, suc, ◌<◌, true, false, cond, List, [], ◌∷◌, take, drop, Some, None, refl, arith}
use Rattle.std.specs.List.{AllByRecursion, slice_index_or}
use Rattle.std.specs.Ordering.{eq_by_cmp}
use Rattle.object_words.specs.Entries.{EntryView, entry_of}
use Rattle.object_words.specs.Names.{name_cmp, at, none, with_name, without_name, where_name, entries}
use Rattle.object_words.specs.declared.shard.Hold.TheVariants.{Free}
use Rattle.object_words.specs.Keys.{shard_key}
use Rattle.object_words.specs.Shards.{Shard}
use Rattle.object_words.specs.Rows.{no_row}
use Rattle.realm_model.specs.Histories.{state_of, account_of}
use Rattle.realm_model.specs.Owns.{own_events, NoneBy}
use Rattle.realm_model.specs.KnownWords.{usual, box, k, tag, bucket, actor, one_entry, shows, hello}
use Rattle.realm_model.specs.StoppedWriterIsRepaired.{history}
use Rattle.realm_model.specs.declared.event.Reply.TheVariants.{Done}
use Rattle.task_words.specs.declared.job.JobOutcome.TheVariants.{Repaired}
use Rattle.task_repair.specs.Repairs.{PageRead, IsPageRead, RepairedBy, IsRepairOutcome}
use Rattle.repair_law.specs.Repaired.{tags_in, IsOverdue, IsDue, ComeFrom, IsLeftAlone}

left_open : EntryView
left_open = record { version = 0; revision = 1; row = no_row; tags = tag 5 121000000 ∷ [] }

overdue_of : (name : List ℕ) → AllByRecursion (IsOverdue 121000000) (entry_of (cond (eq_by_cmp name_cmp name k) (Some left_open) None)).tags
unfolding left_open
overdue_of name =
    elim (eq_by_cmp name_cmp name k) as (λ b. eq_by_cmp name_cmp name k ≡ b → AllByRecursion (IsOverdue 121000000) (entry_of (cond b (Some left_open) None)).tags) [
      | true ↦ λ tied. (omega arith, tt)
      | false ↦ λ other. tt
    ] refl

overdue : (number : ℕ) (name : List ℕ) → number < 1 → AllByRecursion (IsOverdue 121000000) (tags_in (state_of usual (take 12 history)) 1 (bucket 1 3 1) number name)
unfolding at none with_name without_name where_name entries left_open
overdue zero name less = overdue_of name
overdue (suc n) name less = absurd (omega (arith, less))

free : (number : ℕ) (s : Shard) → number < 1 → (state_of usual (take 12 history)).shards 1 (shard_key (bucket 1 3 1).id (bucket 1 3 1).instance number) ≡ Some s → s.hold ≡ Free
unfolding at none with_name without_name where_name entries left_open
free zero s less there = cc
free (suc n) s less there = absurd (omega (arith, less))

pub is_due : IsDue (state_of usual (take 12 history)) 121000000 1 box (bucket 1 3 1)
unfolding at none with_name without_name where_name entries
is_due = record { kept = refl; overdue = overdue; free = free }

pub none_before : NoneBy (actor 5) (take 12 history)
none_before = (refl, (refl, (refl, (refl, (refl, (refl, (refl, (refl, (refl, (refl, (refl, (refl, tt))))))))))))

-- ---- what the actor said

page_read : PageRead
page_read = record {
  shard = 0;
  after = [];
  page = one_entry k 0 1 no_row (tag 5 121000000 ∷ []) 121000000;
  visits = record { entry = (k, left_open); head = shows 7 (hello 4) 1000000; at = 121000000; offer = Some Done } ∷ [];
}

of_row : (n : ℕ) (d : PageRead) → n < 1 → (slice_index_or (page_read ∷ []) n d).shard < 1
unfolding page_read
of_row zero d less = omega arith
of_row (suc n) d less = absurd (omega (arith, less))

whole : (n : ℕ) (d : PageRead) → n < 1 → IsPageRead (slice_index_or (page_read ∷ []) n d)
unfolding page_read left_open
whole zero d less = record { visited = refl; offered = refl }
whole (suc n) d less = absurd (omega (arith, less))

pub repaired : RepairedBy 1 box 1 0 (own_events history (actor 5))
unfolding page_read left_open
repaired = record {
  row = bucket 1 3 1;
  pages = page_read ∷ [];
  read = record { in_order = refl; of_row = of_row; whole = whole };
  says = record { earlier = []; left = λ n d less. absurd (omega (arith, less)); stands = refl };
  applied_is = refl;
  left_is = refl;
}

pub ended : IsRepairOutcome (record { zone = 1; bucket = box }) (Repaired 1 0) (account_of usual history (actor 5)) (own_events history (actor 5))
ended = (repaired, record { untried = refl; unchanged = refl })

-- its events, and those of the others
pub come : ComeFrom 121000000 (own_events history (actor 5))
come = (omega arith, (omega arith, (omega arith, (omega arith, tt))))

pub alone : IsLeftAlone (actor 5) 1 box (bucket 1 3 1) (drop 12 history)
alone = (λ other. refl, (λ other. refl, (λ other. refl, (λ own. absurd cc, (λ other. refl, (λ other. refl, tt))))))
