-- What is known of a request that is not refused.
use Rattle.std.proofs.Common.{◌≡◌, ◌≤◌, ℕ, Bool, true, false, not, ◌&&◌, cond, nat_le, List, length, Option, Some, None, refl, ap, ◌∙◌, codes}
use Rattle.std.proofs.lemmas.Bool.{and_parts, leb-true}
use Rattle.object_words.specs.Limits.{media_type_limit, is_name}
use Rattle.swift_words.specs.declared.target.Target.TheVariants.{Thing, Container}
use Rattle.swift_words.specs.Parts.{is_name as word_name}
use Rattle.swift_words.specs.Targets.{has_names}
use Rattle.swift_reply.specs.declared.reply.SwiftRefusal.{SwiftRefusal}
use Rattle.swift_reply.specs.declared.reply.SwiftRefusal.TheVariants.{Invalid, NoLength, TooLarge}
use Rattle.swift_reply.specs.declared.reply.Invalid.TheVariants as word
use Rattle.http_model.specs.declared.head.Head.{Head}
use Rattle.http_model.specs.Framings.{value_of}
use Rattle.swift_requests.specs.Fields.{is_text_field, has_texts, has_put_texts, is_kind_if_any, has_put_sizes, is_without_length, is_above}
use Rattle.swift_requests.specs.Metadata.{meta_of, are_texts, are_within}
use Rattle.swift_requests.specs.Refusals.{put_refusal, get_refusal}

-- ---- PUTs

put_tests : (texts put_texts sizes short above : Bool) (a b c d : SwiftRefusal)
    → cond (not (texts && put_texts)) (Some a) (cond (not sizes) (Some b) (cond short (Some c) (cond above (Some d) None))) ≡ None
    → (texts ≡ true) × (put_texts ≡ true) × (sizes ≡ true) × (short ≡ false) × (above ≡ false)
put_tests true true true false false a b c d none = (refl, refl, refl, refl, refl)
put_tests true true true false true a b c d none = absurd (cc)
put_tests true true true true above a b c d none = absurd (cc)
put_tests true true false short above a b c d none = absurd (cc)
put_tests true false sizes short above a b c d none = absurd (cc)
put_tests false put_texts sizes short above a b c d none = absurd (cc)

-- its fields are text and within their limits, and its length is told and not above the largest
pub put_passed : (largest : ℕ) (head : Head) → put_refusal largest head ≡ None
    → (has_texts head ≡ true) × (has_put_texts head ≡ true) × (has_put_sizes head ≡ true)
    × (is_without_length head.framing ≡ false) × (is_above largest head.framing ≡ false)
unfolding put_refusal
put_passed largest head none =
    put_tests (has_texts head) (has_put_texts head) (has_put_sizes head) (is_without_length head.framing) (is_above largest head.framing)
    (Invalid word.Value) (Invalid word.Meta) NoLength TooLarge none

pub etag_text : (head : Head) → has_put_texts head ≡ true → is_text_field (codes "etag") head ≡ true
unfolding has_put_texts
etag_text head is = (and_parts (is_text_field (codes "etag") head) _ is).0

pub kind_text : (head : Head) → has_put_texts head ≡ true → is_text_field (codes "content-type") head ≡ true
unfolding has_put_texts
kind_text head is = (and_parts (is_text_field (codes "content-type") head) _ (and_parts (is_text_field (codes "etag") head) _ is).1).0

pub meta_texts : (head : Head) → has_put_texts head ≡ true → are_texts (meta_of head.fields) ≡ true
unfolding has_put_texts
meta_texts head is = (and_parts (is_text_field (codes "content-type") head) _ (and_parts (is_text_field (codes "etag") head) _ is).1).1

short_value : (sent : Option (List ℕ)) (value : List ℕ) → Some value ≡ sent → is_kind_if_any sent ≡ true → length value ≤ media_type_limit
short_value None value is h = absurd (cc)
short_value (Some other) value is h = let same : value ≡ other = cc in leb-true (length value) media_type_limit (ap (λ v. nat_le (length v) media_type_limit) same ∙ h)

pub short_kind : (head : Head) (value : List ℕ) → has_put_sizes head ≡ true → Some value ≡ value_of (codes "content-type") head.fields → length value ≤ media_type_limit
unfolding has_put_sizes
short_kind head value is sent =
    short_value (value_of (codes "content-type") head.fields) value sent
    (and_parts (is_kind_if_any (value_of (codes "content-type") head.fields)) (are_within (meta_of head.fields)) is).0

-- ---- GETs

get_tests : (texts above : Bool) (a b : SwiftRefusal) → cond (not texts) (Some a) (cond above (Some b) None) ≡ None
    → (texts ≡ true) × (above ≡ false)
get_tests true false a b none = (refl, refl)
get_tests true true a b none = absurd (cc)
get_tests false above a b none = absurd (cc)

-- its conditions are text, and its length is not above the largest
pub get_passed : (largest : ℕ) (head : Head) → get_refusal largest head ≡ None → (has_texts head ≡ true) × (is_above largest head.framing ≡ false)
unfolding get_refusal
get_passed largest head none =
    get_tests (has_texts head) (is_above largest head.framing) (Invalid word.Value) TooLarge none

-- ---- targets

-- what a target names has the sizes of names
pub thing_names : (account container name : List ℕ) → has_names (Thing account container name) ≡ true
    → (is_name 256 container ≡ true) × (is_name 1024 name ≡ true)
unfolding word_name
thing_names account container name is = let both = and_parts (word_name 256 container) (word_name 1024 name) is in (both.0, both.1)

pub container_name : (account container : List ℕ) → has_names (Container account container) ≡ true → is_name 256 container ≡ true
unfolding word_name
container_name account container is = is
