-- The text of the reply to a listing, without a byte and with some.
use Rattle.std.proofs.Common.{◌≡◌, ℕ, ◌==◌, true, false, List, [], ◌∷◌, ◌++◌, length, flat_map, refl, arith}
use Rattle.std.proofs.lemmas.Bool.Decides.{nat_tests}
use Rattle.http_model.specs.declared.reply.ReplyForm.{ReplyForm}
use Rattle.http_model.specs.Replies.{crlf, status_line, field_line, content_length_field, content_type_field, closing_fields, written_body, head_text, text_of}
use Rattle.swift_reply.specs.declared.reply.ListingForm.{ListingForm}
use Rattle.swift_reply.specs.declared.reply.SwiftReply.TheVariants.{Done}
use Rattle.swift_reply.specs.Replies.{listing_kind, listing_text, reply_text}

pub empty_text : (form : ReplyForm) (listing : ListingForm) (text : List ℕ) → (length text == 0) ≡ true
    → reply_text form Done [] ≡ listing_text form listing text
unfolding reply_text
empty_text form listing [] is = refl
empty_text form listing (b ∷ bytes) is = absurd (grind (arith, nat_tests))

pub some_text : (form : ReplyForm) (listing : ListingForm) (text : List ℕ) → (length text == 0) ≡ false
    → (status_line 200 ++ (field_line (content_length_field (length text)) ++ (field_line (content_type_field (listing_kind listing)) ++ flat_map field_line (closing_fields form))) ++ crlf) ++ written_body form text
    ≡ listing_text form listing text
unfolding head_text text_of
some_text form listing [] is = absurd (let e : true ≡ false = is in cc)
some_text form listing (b ∷ bytes) is = refl
