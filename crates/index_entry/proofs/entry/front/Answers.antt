use Rattle.std.proofs.Common.{◌≡◌, ◌+◌, ◌++◌, Some, IfNone, true≢false, length, drop, refl, sym, ap, ◌∙◌, subst, arith, length-append}
use Rattle.object_words.specs.Entries.{EntryView}
use Rattle.index_entry.specs.Numbers.{number_bytes}
use Rattle.index_entry.specs.Layouts.{IsEntry, entry_bytes, tags_bytes}
use Rattle.index_entry.proofs.PieceLemmas.{length-number_bytes}
use Rattle.index_entry.proofs.EntryLemmas.{EntryRead, entry_found, entry_read, entry_split, end_known, exists_read, none_some, same_front}
use Rattle.index_entry.proofs.entry.front.Goals as goal

no_end : (c : goal.After-from_residual) (e : EntryView) → IsEntry e → c.args.bytes.now ≡ entry_bytes e → ⊥
no_end c e is here =
    let rest = number_bytes (length e.tags) ++ tags_bytes e.tags in
    none_some _ (sym c.in_err-count_start.was ∙ c.row_end.ensures.exact e.version e.revision e.row rest is.row_fits
    (omega (arith, length-append (number_bytes (length e.tags)) (tags_bytes e.tags), length-number_bytes (length e.tags))) (here ∙ entry_split e))

pub returns-in_err-count_start-clause-exact : goal.returns-in_err-count_start-clause-exact
returns-in_err-count_start-clause-exact c e is here = absurd (no_end c e is here)

pub returns-in_err-count_start-clause-none : goal.returns-in_err-count_start-clause-none
returns-in_err-count_start-clause-none c =
    subst (λ r. IfNone r ((e : EntryView) → IsEntry e → c.args.bytes.now ≡ entry_bytes e → ⊥)) (sym c.from_residual.ensures) (no_end c)

no_tags : (c : goal.Then-not-has_tags) (e : EntryView) → IsEntry e → c.args.bytes.now ≡ entry_bytes e → ⊥
no_tags c e is here =
    let r = entry_read c.args.bytes.now e _ (end_known c.args.bytes.now _ _ c.in_ok-count_start.was c.row_end.ensures.exact e is here) here in
    let count = c.u64_at-tags.ensures.once (length e.tags) _ is.count_fits r.at_end in
    true≢false (sym (c.has_tags.ensures.exact e.tags is.tags_fit is.rise (sym count) r.at_tags) ∙ c.if-not-has_tags.true)

pub returns-then-not-has_tags-clause-exact : goal.returns-then-not-has_tags-clause-exact
returns-then-not-has_tags-clause-exact c e is here = absurd (no_tags c e is here)

pub returns-then-not-has_tags-clause-none : goal.returns-then-not-has_tags-clause-none
returns-then-not-has_tags-clause-none c = no_tags c

pub returns-clause-found : goal.returns-clause-found
returns-clause-found c =
    let row = c.in_ok-count_start.ensures.found in
    let tags = c.has_tags.ensures.found c.if-not-has_tags.false in
    let e : EntryView = record { version = c.u64_at.result; revision = c.u64_at-2.result; row = row.0; tags = tags.0 } in
    let read : EntryRead c.args.bytes.now e c.in_ok-count_start.count_start = record {
      start = row.4;
      at_3 = c.u64_at.ensures.read;
      at_11 = c.u64_at-2.ensures.read;
      at_19 = row.5;
      at_end = c.u64_at-tags.ensures.read ∙ ap (λ n. number_bytes n ++ drop (c.in_ok-count_start.count_start + 8) c.args.bytes.now) (sym tags.3);
      at_tags = tags.4;
    } in
    let exists = exists_read c.args.bytes.now e c.in_ok-count_start.count_start read in (
      e,
      record { version_fits = c.u64_at.type_inv; revision_fits = c.u64_at-2.type_inv; row_fits = row.1; count_fits = omega (arith, tags.3, c.u64_at-tags.type_inv); tags_fit = tags.1; rise = tags.2 },
      entry_found c.args.bytes.now e c.in_ok-count_start.count_start read,
      same_front _ _ refl refl exists (c.size_of_row.ensures row.0 _ row.1 (sym exists) row.5) (sym tags.3) (omega (arith, row.2)),
    )

pub returns-clause-exact : goal.returns-clause-exact
returns-clause-exact c e is here =
    let end = end_known c.args.bytes.now _ _ c.in_ok-count_start.was c.row_end.ensures.exact e is here in
    let r = entry_read c.args.bytes.now e _ end here in
    let exists = exists_read c.args.bytes.now e c.in_ok-count_start.count_start r in
    ap Some (same_front _ _
    (c.u64_at.ensures.once e.version _ is.version_fits r.at_3)
    (c.u64_at-2.ensures.once e.revision _ is.revision_fits r.at_11)
    exists
    (c.size_of_row.ensures e.row _ is.row_fits (sym exists) r.at_19)
    (c.u64_at-tags.ensures.once (length e.tags) _ is.count_fits r.at_end)
    (omega (arith, end)))
