-- One own event more.
use Rattle.std.proofs.Common.{◌≡◌, ℕ, ◌+◌, List, [], ◌∷◌, ◌++◌, Option, refl, sym, ◌∙◌, ap, append_assoc, arith}
use Rattle.std.proofs.lemmas.List.{append-nil}
use Rattle.rgw_types.specs.declared.pool_key.Key.{Key}
use Rattle.object_words.specs.declared.bucket.Bucket.{Bucket}
use Rattle.realm_model.specs.Owns.{OwnEvent, learnt_from}
use Rattle.realm_model.specs.Learnt.{learnt}
use Rattle.realm_model.specs.Phases.{Phase}
use Rattle.task_container.specs.declared.progress.Progress.{Progress}
use Rattle.task_container.specs.declared.request.ContainerRequest.{ContainerRequest}
use Rattle.task_container.specs.Ends.{made_by, made_shards, swapped_by, done_swaps, raced_by, raced_count}
use Rattle.task_container.specs.Orders.{led, IsInOrder}
use Rattle.task_container.specs.Stages.{IsOpen, op_of, step_of}

pub made_more : (es : List OwnEvent) (e : OwnEvent) → made_shards (es ++ e ∷ []) ≡ made_shards es ++ made_by e.op e.reply
made_more [] e = append-nil (made_by e.op e.reply)
made_more (x ∷ es) e =
    ap (λ (ks : List Key). made_by x.op x.reply ++ ks) (made_more es e)
    ∙ sym (append_assoc (made_by x.op x.reply) (made_shards es) (made_by e.op e.reply))

pub swaps_more : (es : List OwnEvent) (e : OwnEvent) → done_swaps (es ++ e ∷ []) ≡ done_swaps es ++ swapped_by e.op e.reply
swaps_more [] e = append-nil (swapped_by e.op e.reply)
swaps_more (x ∷ es) e =
    ap (λ (ks : List (Option Bucket)). swapped_by x.op x.reply ++ ks) (swaps_more es e)
    ∙ sym (append_assoc (swapped_by x.op x.reply) (done_swaps es) (swapped_by e.op e.reply))

pub raced_more : (es : List OwnEvent) (e : OwnEvent) → raced_count (es ++ e ∷ []) ≡ raced_count es + raced_by e.op e.reply
raced_more [] e = omega arith
raced_more (x ∷ es) e = let rest = raced_more es e in omega (arith, rest)

module _ (r : ContainerRequest) (shards : ℕ) where
  pub led_more : (s : Progress) (es : List OwnEvent) (e : OwnEvent) → led r shards s (es ++ e ∷ []) ≡ step_of r shards (led r shards s es) e.number e.reply
  led_more s [] e = refl
  led_more s (x ∷ es) e = led_more (step_of r shards s x.number x.reply) es e

  pub in_order_more : (s : Progress) (es : List OwnEvent) (e : OwnEvent) → IsInOrder r shards s es → IsOpen (led r shards s es).stage → e.op ≡ op_of r shards (led r shards s es) → IsInOrder r shards s (es ++ e ∷ [])
  in_order_more s [] e ordered going is = (going, is, tt)
  in_order_more s (x ∷ es) e ordered going is = (ordered.0, ordered.1, in_order_more (step_of r shards s x.number x.reply) es e ordered.2 going is)

pub learnt_more : (p : Phase) (es : List OwnEvent) (e : OwnEvent) → learnt_from p (es ++ e ∷ []) ≡ learnt (learnt_from p es) e.op e.reply e.number e.clock
learnt_more p [] e = refl
learnt_more p (x ∷ es) e = learnt_more (learnt p x.op x.reply x.number x.clock) es e
