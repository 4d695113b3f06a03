use Rattle.std.proofs.Common.{◌≡◌, ◌<◌, ℕ, List, Option, ◌+◌, ◌*◌, ◌^◌, [], ◌∷◌, ◌++◌, append-nil, Some, None, IfNone, drop, get_or, sym, ap, ◌∙◌, subst, arith}
use Rattle.object_words.specs.declared.shard.Fate.{Fate}
use Rattle.index_entry.specs.declared.header.ShardHeader.{ShardHeader}
use Rattle.index_entry.specs.Numbers.{number_bytes}
use Rattle.index_entry.specs.Headers.{IsHeader, hold_number, fate_kind, fate_number, header_bytes}
use Rattle.index_entry.proofs.EntryLemmas.{none_some}
use Rattle.index_entry.proofs.HeaderLemmas.{HeaderRead, begins_so, both_halves, fate_byte, header_found, header_long, header_read, high_half, hold_byte, low_half, last_number, same_header, same_in_some}
use Rattle.std.proofs.lemmas.List.{drop_all, drop_more}
use Rattle.index_entry.proofs.header.decode_header.Goals as goal
use Rattle.index_entry.proofs.header.decode_header.Goals.{then-bytes-ne-HEADER_LEN-via-then-bytes-ne-HEADER_LEN, then-bytes-ne-HEADER_LEN-via-else-bytes-ne-HEADER_LEN+then-bytes, then-bytes-ne-HEADER_LEN-via-else-bytes-ne-HEADER_LEN+else-bytes+then-bytes-ne-LAYOUT}

other : (c : goal.Joined-then-bytes-ne-HEADER_LEN) (h : ShardHeader) → c.args.bytes.now ≡ header_bytes h → ⊥
other c h here = elim c.then-bytes-ne-HEADER_LEN.branch [
  | then-bytes-ne-HEADER_LEN-via-then-bytes-ne-HEADER_LEN w ↦ w.if-bytes-ne-HEADER_LEN.true (header_long c.args.bytes.now h here)
  | then-bytes-ne-HEADER_LEN-via-else-bytes-ne-HEADER_LEN+then-bytes w ↦ w.if-bytes.true (ap (λ z. get_or z 0 0) here)
  | then-bytes-ne-HEADER_LEN-via-else-bytes-ne-HEADER_LEN+else-bytes+then-bytes-ne-LAYOUT w ↦ w.if-bytes-ne-LAYOUT.true (ap (λ z. get_or z 1 0) here)
]

pub returns-then-bytes-ne-HEADER_LEN-clause-exact : goal.returns-then-bytes-ne-HEADER_LEN-clause-exact
returns-then-bytes-ne-HEADER_LEN-clause-exact c h is here = absurd (other c h here)

pub returns-then-bytes-ne-HEADER_LEN-clause-none : goal.returns-then-bytes-ne-HEADER_LEN-clause-none
returns-then-bytes-ne-HEADER_LEN-clause-none c h is here = other c h here

no_hold : (c : goal.After-from_residual) (h : ShardHeader) → IsHeader h → c.args.bytes.now ≡ header_bytes h → ⊥
no_hold c h is here =
    let r = header_read c.args.bytes.now h here in
    none_some h.hold (sym c.in_err-hold.was ∙ c.hold_of.ensures.exact h.hold (hold_byte c.args.bytes.now h r) (sym (c.u64_at.ensures.once (hold_number h.hold) _ is.hold_fits r.at_51)))

pub returns-in_err-hold-clause-exact : goal.returns-in_err-hold-clause-exact
returns-in_err-hold-clause-exact c h is here = absurd (no_hold c h is here)

pub returns-in_err-hold-clause-none : goal.returns-in_err-hold-clause-none
returns-in_err-hold-clause-none c =
    subst (λ r. IfNone r ((h : ShardHeader) → IsHeader h → c.args.bytes.now ≡ header_bytes h → ⊥)) (sym c.from_residual.ensures) (no_hold c)

no_fate : (bs : List ℕ) (h : ShardHeader) (number : ℕ) (found : Option Fate) → bs ≡ header_bytes h → found ≡ None → number ≡ fate_number h.fate
    → ((fate : Fate) → fate_kind fate ≡ get_or bs 59 0 → fate_number fate ≡ number → found ≡ Some fate) → ⊥
no_fate bs h number found here was same exact = none_some h.fate (sym was ∙ exact h.fate (fate_byte bs h (header_read bs h here)) (sym same))

pub returns-in_err-fate-clause-exact : goal.returns-in_err-fate-clause-exact
returns-in_err-fate-clause-exact c h is here =
    absurd (no_fate c.args.bytes.now h _ _ here c.in_err-fate.was (c.u64_at-2.ensures.once (fate_number h.fate) _ is.fate_fits (last_number c.args.bytes.now h here)) c.fate_of.ensures.exact)

pub returns-in_err-fate-clause-none : goal.returns-in_err-fate-clause-none
returns-in_err-fate-clause-none c =
    subst (λ r. IfNone r ((h : ShardHeader) → IsHeader h → c.args.bytes.now ≡ header_bytes h → ⊥)) (sym c.from_residual-in_err-fate.ensures)
    (λ h is here. no_fate c.args.bytes.now h _ _ here c.in_err-fate.was (c.u64_at-2.ensures.once (fate_number h.fate) _ is.fate_fits (last_number c.args.bytes.now h here)) c.fate_of.ensures.exact)

pub returns-clause-found : goal.returns-clause-found
returns-clause-found c =
    let bs = c.args.bytes.now in
    let high = c.from.result in
    let low = c.from-2.result in
    let high_is : c.u64_at-4.result ≡ high = omega (arith, c.from.ensures) in
    let low_is : c.u64_at-5.result ≡ low = omega (arith, c.from-2.ensures) in
    let low_fits : low < 2 ^ 64 = omega (arith, low_is, c.u64_at-5.type_inv) in
    let hold = c.in_ok-hold.ensures.found in
    let fate = c.in_ok-fate.ensures.found in
    let h : ShardHeader = record { objects = c.u64_at-3.result; bytes = high * 2 ^ 64 + low; tags = c.u64_at-6.result; last = c.u64_at-7.result; hold = c.in_ok-hold.hold; fate = c.in_ok-fate.fate; fence = c.u64_at-8.result } in
    let end : drop 68 bs ≡ [] = drop_all 68 bs (omega (arith, c.if-bytes-ne-HEADER_LEN.false)) in
    let read : HeaderRead bs h = record {
      start = begins_so bs c.if-bytes-ne-HEADER_LEN.false c.if-bytes.false c.if-bytes-ne-LAYOUT.false;
      at_2 = c.u64_at-3.ensures.read;
      at_10 = c.u64_at-4.ensures.read ∙ ap (λ n. number_bytes n ++ drop 18 bs) (high_is ∙ high_half high low low_fits);
      at_18 = c.u64_at-5.ensures.read ∙ ap (λ n. number_bytes n ++ drop 26 bs) (low_is ∙ low_half high low low_fits);
      at_26 = c.u64_at-6.ensures.read;
      at_34 = c.u64_at-7.ensures.read;
      at_42 = c.u64_at-8.ensures.read;
      at_50 = drop_more bs 50 0 (omega (arith, c.if-bytes-ne-HEADER_LEN.false)) ∙ ap (λ n. n ∷ drop 51 bs) (sym hold.0);
      at_51 = c.u64_at.ensures.read ∙ ap (λ n. number_bytes n ++ drop 59 bs) (sym hold.1);
      at_59 = drop_more bs 59 0 (omega (arith, c.if-bytes-ne-HEADER_LEN.false)) ∙ ap (λ n. n ∷ drop 60 bs) (sym fate.0);
      at_60 = c.u64_at-2.ensures.read ∙ ap (λ z. number_bytes c.u64_at-2.result ++ z) end ∙ append-nil (number_bytes c.u64_at-2.result) ∙ ap number_bytes (sym fate.1);
    } in (
      record {
        objects_fit = c.u64_at-3.type_inv;
        bytes_fit = omega (arith, high_is, low_fits, c.u64_at-4.type_inv);
        tags_fit = c.u64_at-6.type_inv;
        last_fits = c.u64_at-7.type_inv;
        fence_fits = c.u64_at-8.type_inv;
        hold_fits = omega (arith, hold.1, c.u64_at.type_inv);
        fate_fits = omega (arith, fate.1, c.u64_at-2.type_inv);
      },
      header_found bs h read,
    )

pub returns-clause-exact : goal.returns-clause-exact
returns-clause-exact c h is here =
    let r = header_read c.args.bytes.now h here in
    let hold = same_in_some _ _ (sym c.in_ok-hold.was ∙ c.hold_of.ensures.exact h.hold (hold_byte c.args.bytes.now h r) (sym (c.u64_at.ensures.once (hold_number h.hold) _ is.hold_fits r.at_51))) in
    let fate = same_in_some _ _ (sym c.in_ok-fate.was ∙ c.fate_of.ensures.exact h.fate (fate_byte c.args.bytes.now h r) (sym (c.u64_at-2.ensures.once (fate_number h.fate) _ is.fate_fits (last_number c.args.bytes.now h here)))) in
    let high = c.u64_at-4.ensures.once _ _ (omega (arith, is.bytes_fit)) r.at_10 in
    let low = c.u64_at-5.ensures.once _ _ (omega arith) r.at_18 in
    ap Some (same_header _ h (c.u64_at-3.ensures.once h.objects _ is.objects_fit r.at_2) (both_halves c.from.result c.from-2.result h.bytes (omega (arith, c.from.ensures, high)) (omega (arith, c.from-2.ensures, low))) (c.u64_at-6.ensures.once h.tags _ is.tags_fit r.at_26)
    (c.u64_at-7.ensures.once h.last _ is.last_fits r.at_34) hold fate (c.u64_at-8.ensures.once h.fence _ is.fence_fits r.at_42))
