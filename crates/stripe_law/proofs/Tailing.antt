-- Each event keeps the bytes of tails as they were made, from any state and facts.
use Rattle.std.proofs.Common.{◌≡◌, ℕ, List, [], Some, None, refl, sym, ◌∙◌, ap, subst}
use Rattle.std.specs.Prelude.{unwrap_or}
use Rattle.rgw_types.specs.declared.pool_key.Key.{Key}
use Rattle.object_words.specs.Keys.{tail_key}
use Rattle.object_words.specs.Refusals.{unless_refused}
use Rattle.object_words.specs.Tails.{Tail, tail_refusal}
use Rattle.realm_model.specs.Settings.{SettingsView}
use Rattle.realm_model.specs.States.{State, put_in, touched}
use Rattle.realm_model.specs.Steps.{reply_or, reply_of, touch_of}
use Rattle.realm_model.specs.Learnt.{put_bundle}
use Rattle.realm_model.specs.Maps.{Made}
use Rattle.realm_model.specs.Worlds.{made_after}
use Rattle.realm_model.specs.declared.op.Op.{Op}
use Rattle.realm_model.specs.declared.op.Op.TheVariants.{TailMake}
use Rattle.realm_model.specs.declared.event.Reply.{Reply}
use Rattle.realm_model.specs.declared.event.Reply.TheVariants.{Done}
use Rattle.realm_model.proofs.ObjectLemmas.{put_bundle_cases}
use Rattle.realm_model.proofs.TouchLemmas.{put_in_same}
use Rattle.stripe_law.specs.Tails.{Bytes}
use Rattle.stripe_law.proofs.Puts.{put_in_apart, put_bundle_here}

write_is : (w v p q : ℕ) → tail_key w p ≡ tail_key v q → w ≡ v
write_is w v p q same = cc

part_is : (w v p q : ℕ) → tail_key w p ≡ tail_key v q → p ≡ q
part_is w v p q same = cc

module _ (tails : ℕ → Key → Tail) (made : Made) (zone write part : ℕ) (bytes : List ℕ) (agree : Bytes tails made) where
  abbrev made' : Made
  made' = put_bundle made zone write part (Some bytes)

  made_here : (w p : ℕ) → tail_key write part ≡ tail_key w p → bytes ≡ unwrap_or (made' zone w p) []
  made_here w p is =
      subst (λ q. bytes ≡ unwrap_or (made' zone w q) []) (part_is write w part p is)
      (subst (λ v. bytes ≡ unwrap_or (made' zone v part) []) (write_is write w part p is)
      (sym (ap (λ o. unwrap_or o []) (put_bundle_here made zone write part (Some bytes)))))

  made_apart : (z w p : ℕ) → (zone ≡ z → tail_key write part ≡ tail_key w p → ⊥) → (tails z (tail_key w p)).bytes ≡ unwrap_or (made' z w p) []
  made_apart =
      put_bundle_cases (λ z w p m. (zone ≡ z → tail_key write part ≡ tail_key w p → ⊥) → (tails z (tail_key w p)).bytes ≡ unwrap_or m []) made zone write part (Some bytes)
      (λ no. absurd (no refl refl)) (λ z w p no. agree z w p)

  bytes_made : Bytes (put_in tails zone (tail_key write part) (record { bytes = bytes })) made'
  bytes_made z w p =
      put_in_apart (λ z k t. (w p : ℕ) → k ≡ tail_key w p → t.bytes ≡ unwrap_or (made' z w p) []) tails zone (tail_key write part) (record { bytes = bytes })
      made_here
      (λ z k apart w p is. ap (λ q. (tails z q).bytes) is ∙ made_apart z w p (λ one same. apart one (same ∙ sym is)))
      z (tail_key w p) w p refl

pub bytes_next : (settings : SettingsView) (st : State) (made : Made) (op : Op) (reply : Reply) → reply ≡ reply_of settings st op → Bytes st.tails made → Bytes (touched settings st (touch_of settings st op)).tails (made_after made op reply)
bytes_next settings st made (TailMake zone write part bytes) reply is agree =
    let key = tail_key write part in
    let tail = st.tails zone key in
    let op = TailMake zone write part bytes in
    elim (tail_refusal bytes (st.free zone) settings.frame) as (λ r. reply ≡ reply_or Done r → Bytes (put_in st.tails zone key (unless_refused r tail (record { bytes = bytes }))) (made_after made op reply)) [
      | None ↦ λ told. subst (λ said. Bytes (put_in st.tails zone key (record { bytes = bytes })) (made_after made op said)) (sym told) (bytes_made st.tails made zone write part bytes agree)
      | Some why ↦ λ told.
          subst (λ said. Bytes (put_in st.tails zone key tail) (made_after made op said)) (sym told)
          (subst (λ objects. Bytes objects made) (sym (put_in_same st.tails zone key)) agree)
    ] is
bytes_next settings st made op reply is agree = agree
