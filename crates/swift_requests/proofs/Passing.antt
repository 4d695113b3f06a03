-- What is known of a change of a container that is not refused.
use Rattle.std.proofs.Common.{◌≡◌, ℕ, Bool, true, false, not, ◌&&◌, cond, Option, Some, None, refl, codes}
use Rattle.std.proofs.lemmas.Bool.{and_parts}
use Rattle.swift_reply.specs.declared.reply.SwiftRefusal.{SwiftRefusal}
use Rattle.swift_reply.specs.declared.reply.SwiftRefusal.TheVariants.{Unauthorized, Invalid, TooLarge}
use Rattle.swift_reply.specs.declared.reply.Invalid.TheVariants.{Value, Meta}
use Rattle.task_words.specs.declared.asker.Asker.{Asker}
use Rattle.http_model.specs.declared.head.Head.{Head}
use Rattle.swift_requests.specs.Fields.{is_text_field, is_above}
use Rattle.swift_requests.specs.Metadata.{are_texts}
use Rattle.swift_requests.specs.Askers.{own_verdict, is_unknown, denied_by}
use Rattle.swift_requests.specs.Changes.{changes_of, are_within_limits, has_change_texts}
use Rattle.swift_requests.specs.Refusals.{change_refusal}

texts_test : (unknown texts sizes above : Bool) (a b c d : SwiftRefusal) (e : Option SwiftRefusal)
    → cond unknown (Some a) (cond (not texts) (Some b) (cond (not sizes) (Some c) (cond above (Some d) e))) ≡ None
    → texts ≡ true
texts_test true texts sizes above a b c d e none = absurd (cc)
texts_test false true sizes above a b c d e none = refl
texts_test false false sizes above a b c d e none = absurd (cc)

-- what is to be text is text
pub change_texts : (largest : ℕ) (head : Head) (asker : Asker) → change_refusal largest head asker ≡ None → has_change_texts head ≡ true
unfolding change_refusal
change_texts largest head asker none =
    texts_test (is_unknown (own_verdict asker)) (has_change_texts head) (are_within_limits (changes_of head.fields)) (is_above largest head.framing)
    Unauthorized (Invalid Value) (Invalid Meta) TooLarge (denied_by (own_verdict asker)) none

pub meta_texts : (head : Head) → has_change_texts head ≡ true → are_texts (changes_of head.fields) ≡ true
unfolding has_change_texts
meta_texts head is = (and_parts (are_texts (changes_of head.fields)) _ is).0

lists : (head : Head) → has_change_texts head ≡ true → (is_text_field (codes "x-container-read") head && is_text_field (codes "x-container-write") head) ≡ true
unfolding has_change_texts
lists head is = (and_parts (are_texts (changes_of head.fields)) _ is).1

pub readers_text : (head : Head) → has_change_texts head ≡ true → is_text_field (codes "x-container-read") head ≡ true
readers_text head is = (and_parts (is_text_field (codes "x-container-read") head) _ (lists head is)).0

pub writers_text : (head : Head) → has_change_texts head ≡ true → is_text_field (codes "x-container-write") head ≡ true
writers_text head is = (and_parts (is_text_field (codes "x-container-read") head) _ (lists head is)).1
