use Rattle.std.proofs.Common.{◌≡◌, ◌==◌, List, ℕ, true, false, cond, not, length, Some, None, ap, sym, ◌∙◌, subst}
use Rattle.object_words.specs.Entries.{EntryView}
use Rattle.object_words.specs.Hashes.{shard_of}
use Rattle.object_words.specs.Rows.{RowView}
use Rattle.object_words.specs.Tags.{has_due}
use Rattle.list_words.specs.Listings.{is_past, listed_row, ends_with_subdir}
use Rattle.task_list.specs.Listed.{row_if_there}
use Rattle.task_list.specs.Progresses.{settled_of, rows_in, rows_with}
use Rattle.task_list.specs.Sightings.{due_of}
use Rattle.task_list.specs.Stages.{IsAbove, IsOwn, IsRepeat, HeadFits}
use Rattle.task_list.proofs.Merged.{take_past, take_skip, take_folded, take_due, take_head}
use Rattle.task_list.proofs.Telling.{wanted_due}
use Rattle.task_list.proofs.merging.Merging.take.Goals as goal

pub returns-in-Past-clause-fits : goal.returns-in-Past-clause-fits
returns-in-Past-clause-fits c = λ zone events f.
    let k = c.args.command.now in
    let name = ap (λ (x : List ℕ × EntryView). x.0) c.entry.view_is in
    take_past zone k c.args.self.now c.args.shard c.args.entry events c.requires.read f (subst (λ t. is_past k t ≡ true) name c.in-Past.ensures)

pub returns-in-Elsewhere-clause-fits : goal.returns-in-Elsewhere-clause-fits
returns-in-Elsewhere-clause-fits c = λ zone events f.
    let k = c.args.command.now in
    let m = c.args.self.now in
    let name = ap (λ (x : List ℕ × EntryView). x.0) c.entry.view_is in
    take_skip zone k m c.args.shard c.args.entry events c.requires.read f
    (subst (λ t. IsAbove k (settled_of m.progress) t → shard_of t m.row.shards ≡ c.args.shard → ⊥) name c.in-Elsewhere.ensures)

pub returns-in_ok-settle-in-Listed-clause-fits : goal.returns-in_ok-settle-in-Listed-clause-fits
returns-in_ok-settle-in-Listed-clause-fits c = λ zone events f.
    let k = c.args.command.now in
    let m = c.args.self.now in
    let name = ap (λ (x : List ℕ × EntryView). x.0) c.entry.view_is in
    let is = subst (λ t. IsOwn k m c.args.shard t × IsRepeat k m t) name c.in-Listed.ensures in
    take_folded zone k m c.args.shard c.args.entry events c.requires.read f is.0.above is.0.of_shard is.1.subdir is.1.of_name is.1.ends c.settle.new.self
    (c.in_ok-settle-in-Listed.ensures.settled ∙ name) c.in_ok-settle-in-Listed.ensures.rows

pub returns-in_ok-take-in-Due-clause-fits : goal.returns-in_ok-take-in-Due-clause-fits
returns-in_ok-take-in-Due-clause-fits c = λ zone events f.
    let k = c.args.command.now in
    let m = c.args.self.now in
    let name = ap (λ (x : List ℕ × EntryView). x.0) c.entry.view_is in
    let is = subst (λ t. IsOwn k m c.args.shard t × ((row : RowView) → ends_with_subdir (rows_in m.progress) (listed_row k (t, row)) ≡ false)) name c.in-Due.ensures in
    let none = subst (λ (x : List ℕ × EntryView). (length x.1.tags == 0) ≡ true) c.entry.view_is (sym c.is_empty.ensures ∙ c.if-is_empty.true) in
    let rows = c.in_ok-take-in-Due.ensures.rows c.in-Due.ensures.0.above.0 ∙ ap (λ (x : List ℕ × EntryView). rows_with k (rows_in m.progress) x.0 (row_if_there x.1.row)) c.entry.view_is in
    take_due zone k m c.args.shard c.args.entry events c.requires.read f is.0.above is.0.of_shard (ap (λ b. not (not b)) none) is.1 c.requires.room c.take.new.self
    (c.in_ok-take-in-Due.ensures.settled ∙ name) rows

pub returns-in-Due-2-clause-fits : goal.returns-in-Due-2-clause-fits
returns-in-Due-2-clause-fits c = λ zone events f.
    let k = c.args.command.now in
    let m = c.args.self.now in
    let name = ap (λ (x : List ℕ × EntryView). x.0) c.entry.view_is in
    let is = subst (λ t. IsOwn k m c.args.shard t × ((row : RowView) → ends_with_subdir (rows_in m.progress) (listed_row k (t, row)) ≡ false)) name c.in-Due-2.ensures in
    let some = subst (λ (x : List ℕ × EntryView). (length x.1.tags == 0) ≡ false) c.entry.view_is (sym c.is_empty.ensures ∙ c.if-is_empty.false) in
    subst (λ t. HeadFits zone k m t events) (sym name)
    (take_head zone k m c.args.shard c.args.entry events c.requires.read f is.0.above is.0.of_shard (ap not some) is.1 c.requires.room)

pub returns-in-Due-2-clause-told : goal.returns-in-Due-2-clause-told
returns-in-Due-2-clause-told c = λ t a.
    let m = c.args.self.now in
    let name = ap (λ (x : List ℕ × EntryView). x.0) c.entry.view_is in
    let own = subst (λ n. shard_of n m.row.shards ≡ c.args.shard) name c.in-Due-2.ensures.0.of_shard in
    let due = c.due_by-due.result in
    let by_view = subst (λ (x : List ℕ × EntryView). due ≡ cond (has_due c.args.clock x.1.tags) (Some (record { shard = c.args.shard; revision = x.1.revision; seen = c.args.clock })) None) c.entry.view_is c.due_by-due.ensures in
    record {
      pages = a.0;
      due_is = subst (λ n. due ≡ due_of m.row n (t.seen n)) (sym name) (by_view ∙ wanted_due m.row c.args.entry c.args.shard c.args.clock (t.seen c.args.entry.0) own (a.1 own));
    }
