use Rattle.std.proofs.Common.{◌≡◌, true, ◌++◌, sym, ap, ◌∙◌, subst, append-nil}
use Rattle.std.specs.Cmp.Lexicographic.{slice_cmp}
use Rattle.std.specs.List.Sorted.{IsStrictlySortedBy}
use Rattle.std.specs.Map.{keys_of}
use Rattle.std.specs.Ordering.{nat_cmp}
use Rattle.std.specs.Str.{is_utf8}
use Rattle.std.proofs.lemmas.Str.{IsUtf8-from_is_utf8}
use Rattle.rgw_types.specs.Pairs.{is_risen}
use Rattle.swift_requests.proofs.PairLemmas.{first_text, entries_rise}
use Rattle.swift_requests.proofs.changes.SentChanges.into_pairs.Goals as goal

pub from_utf8-requires : goal.from_utf8-requires
from_utf8-requires c =
    let text : is_utf8 c.in-Some.value ≡ true =
    first_text c.loop-name.name-iterator c.next.new.self (c.in-Some.name, c.in-Some.value) c.in-Some.ensures.steps c.loop-name.invariant.3 in
    IsUtf8-from_is_utf8 c.as_slice.result.now (ap is_utf8 c.as_slice.ensures ∙ text)

pub unwrap-requires : goal.unwrap-requires
unwrap-requires c =
    let whole : c.loop-name.texts.items ≡ c.args.self =
    sym (append-nil c.loop-name.texts.items) ∙ ap (λ left. c.loop-name.texts.items ++ left) (sym c.in-None.ensures.steps.0) ∙ c.loop-name.invariant.2 in
    let sorted : IsStrictlySortedBy (slice_cmp nat_cmp) (keys_of c.args.self) =
    subst (λ entries. IsStrictlySortedBy (slice_cmp nat_cmp) (keys_of entries)) c.self.view_is c.into_iter-name-iterator.ensures.into_iter_gives.5 in
    c.from_vec.ensures.risen.1 (ap is_risen whole ∙ entries_rise c.args.self sorted)
