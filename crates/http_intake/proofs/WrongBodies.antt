-- A body whose chunks go wrong does so in one way, and behind a head an intake says so of the bytes.
use Rattle.std.proofs.Common.{◌≡◌, ℕ, true, false, List, [], ◌++◌, refl, sym, ap, ◌∙◌, subst, subst₂}
use Rattle.http_chunks.specs.declared.body.BodyEnd.{BodyEnd}
use Rattle.http_chunks.specs.Chunks.{AreChunks, content_of, IsChunkedBody}
use Rattle.http_chunks.proofs.Ends.{chunks_unique}
use Rattle.http_model.specs.declared.head.Framing.{Framing}
use Rattle.http_model.specs.declared.head.Framing.TheVariants.{Empty, Length, Chunked}
use Rattle.http_model.specs.Forms.{content_length}
use Rattle.http_intake.specs.Intake.{IntakeState, IsUnchunked, is_in_chunks}
use Rattle.http_intake.specs.Grammar.{HasNoBody, HasWrongBody, GoesWrongBy, GoesWrong}
use Rattle.http_intake.proofs.BodyGrammar.{LeadsTo, empty_of, not_whole, wrong_by}

-- a body whose chunks go wrong is no whole one
pub wrong_no_body : (largest : ℕ) (framing : Framing) (after : List ℕ) (why : BodyEnd) (came : List ℕ) → HasWrongBody largest framing after why came → HasNoBody largest framing after why
wrong_no_body largest Empty after why came x = absurd x
wrong_no_body largest (Length n) after why came x = absurd x
wrong_no_body largest Chunked after why came (wrong, contents, rest, chunks, held) = (not_whole why wrong, contents, rest, chunks)

-- they do so for one cause, behind one content
pub same_wrong : (largest : ℕ) (framing : Framing) (after : List ℕ) (v w : BodyEnd) (a b : List ℕ) → HasWrongBody largest framing after v a → HasWrongBody largest framing after w b
    → (v ≡ w) × (a ≡ b)
same_wrong largest Empty after v w a b x y = absurd x
same_wrong largest (Length n) after v w a b x y = absurd x
same_wrong largest Chunked after v w a b (wrong, contents, rest, chunks, held) (too, others, left, further, holds) =
    let same = chunks_unique contents others false largest after v w rest left chunks further in
    (same.1, held ∙ ap content_of same.0 ∙ sym holds)

-- a body that is not in chunks does not go wrong
pub never_wrong : (intake : IntakeState) (bytes : List ℕ) (why : BodyEnd) (came : List ℕ) → IsUnchunked intake → GoesWrong intake bytes why came → ⊥
never_wrong intake bytes why came unchunked goes = subst (λ b. GoesWrongBy b intake bytes why came) unchunked goes

-- ---- behind a head

module _ (largest : ℕ) (intake : IntakeState) (behind : intake.behind ≡ false) (room : intake.room ≡ largest) where
  -- what is left of the chunks is all of them
  pub chunked_body : intake.body_left ≡ 0 → (bytes body rest : List ℕ) (end : BodyEnd) → LeadsTo intake bytes body end rest → IsChunkedBody largest bytes body end rest
  chunked_body none bytes body rest end (piece, next, contents, is, size, chunks, held) =
      let empty = empty_of piece (size ∙ none) in
      let here : next ≡ bytes = sym (is ∙ ap (λ l. l ++ next) empty) in (
        contents,
        subst₂ (λ b r. AreChunks b r bytes contents end rest) behind room (subst (λ l. AreChunks intake.behind intake.room l contents end rest) here chunks),
        held ∙ ap (λ l. l ++ content_of contents) empty,
      )

  pub leads_behind : intake.body_left ≡ 0 → (bytes body rest : List ℕ) (end : BodyEnd) → IsChunkedBody largest bytes body end rest → LeadsTo intake bytes body end rest
  leads_behind none bytes body rest end (contents, chunks, held) =
      ([], bytes, contents, refl, sym none, subst₂ (λ b r. AreChunks b r bytes contents end rest) (sym behind) (sym room) chunks, held)

  module _ (bytes : List ℕ) (why : BodyEnd) (came : List ℕ) where
    wrong_chunks : intake.body_left ≡ 0 → GoesWrongBy true intake bytes why came → HasWrongBody largest Chunked bytes why came
    wrong_chunks none (wrong, piece, next, contents, rest, is, size, chunks, held) =
        let body = chunked_body none bytes came rest why (piece, next, contents, is, size, chunks, held) in
        (wrong, body.0, rest, body.1, body.2)

    pub wrong_body : (framing : Framing) → intake.body_left ≡ content_length framing → intake.chunked ≡ is_in_chunks framing → GoesWrong intake bytes why came
        → HasWrongBody largest framing bytes why came
    wrong_body Empty due chunked goes = never_wrong intake bytes why came chunked goes
    wrong_body (Length n) due chunked goes = never_wrong intake bytes why came chunked goes
    wrong_body Chunked due chunked goes = wrong_chunks due (subst (λ b. GoesWrongBy b intake bytes why came) chunked goes)

    pub goes_wrong : (framing : Framing) → intake.body_left ≡ content_length framing → intake.chunked ≡ is_in_chunks framing → HasWrongBody largest framing bytes why came
        → GoesWrong intake bytes why came
    goes_wrong Empty due chunked x = absurd x
    goes_wrong (Length n) due chunked x = absurd x
    goes_wrong Chunked due chunked (wrong, contents, rest, chunks, held) =
        let leads = leads_behind due bytes came rest why (contents, chunks, held) in
        subst (λ b. GoesWrongBy b intake bytes why came) (sym chunked) (wrong_by intake bytes came rest why wrong leads)
