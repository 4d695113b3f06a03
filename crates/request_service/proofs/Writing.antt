-- What was written, event by event and at the end.
use Rattle.std.proofs.Common.{◌≡◌, inl, inr, ℕ, Bool, true, false, List, [], ◌∷◌, ◌++◌, length, drop, Option, Some, None, refl, sym, ap, ◌∙◌, subst}
use Rattle.std.specs.Prelude.{IsSome}
use Rattle.std.proofs.lemmas.List.{append-nil}
use Rattle.std.proofs.KnownBytes.{Appends-trans}
use Rattle.std.specs.Io.KnownBytes.{Appends}
use Rattle.http_model.specs.declared.reply.ReplyForm.{ReplyForm}
use Rattle.http_model.specs.Replies.{written_body}
use Rattle.realm_model.specs.Doors.{DoorView}
use Rattle.swift_requests.specs.declared.asked.Asked.{Asked}
use Rattle.task_words.specs.declared.outcome.Outcome.TheVariants.{Done, LateRead}
use Rattle.task_words.specs.declared.reply.MapReply.{MapReply}
use Rattle.call_words.specs.Bodies.{read_whole}
use Rattle.call_words.specs.Calls.{task, text_by}
use Rattle.call_words.specs.Ends.{TaskEnd, on_object}
use Rattle.task_words.specs.Outcomes.{Body}
use Rattle.call_service.specs.Serving.{Site, AppendsFront, BearsOut, BearsOutSoFar}
use Rattle.call_service.specs.Replying.{Replies, IsPartly}
use Rattle.call_service.proofs.Fronts.{whole_front, front_longer, front_behind}
use Rattle.call_service.proofs.Replying.{any_actor}
use Rattle.request_service.specs.Requests.{text_at, HasBytes, is_late, IsReplied, MayEnd, EndsSo, ShowsFront}
use Rattle.request_service.specs.Writing.{IsBegun, HasWritten, piece_text, end_text}
use Rattle.request_service.proofs.Texts.{text_grows, shows_by_event}

-- the rest behind a front
drop_front : (front rest : List ℕ) → drop (length front) (front ++ rest) ≡ rest
drop_front [] rest = refl
drop_front (x ∷ front) rest = drop_front front rest

-- the reply that is there
record Is (shown : Option MapReply) : Type 0 where
  reply : MapReply
  is : shown ≡ Some reply

some_is : (shown : Option MapReply) → IsSome shown → Is shown
some_is None there = let clash : false ≡ true = there in absurd (cc)
some_is (Some reply) there = record { reply = reply; is = refl }

-- ---- ends

pub may_reply : (asked : Asked) (shown : Option MapReply) (outcome : TaskEnd) → is_late outcome ≡ false → MayEnd asked shown outcome → IsReplied asked shown outcome
may_reply asked shown (on_object (LateRead read_at clock)) late ends = let clash : true ≡ false = late in absurd (cc)
may_reply asked shown outcome late ends = ends

pub ends_borne : (site : Site) (asked : Asked) (brought : List ℕ) (d : DoorView) (outcome : TaskEnd) → is_late outcome ≡ false → EndsSo site asked brought d outcome → (body : List ℕ) → BearsOut site asked read_whole body outcome brought d
ends_borne site asked brought d (on_object (LateRead read_at clock)) late ends = let clash : true ≡ false = late in absurd (cc)
ends_borne site asked brought d outcome late ends = ends

module _ (tells : Type 0) (site : Site) (form : ReplyForm) (asked : Asked) where
  abbrev text : MapReply → List ℕ → List ℕ
  text reply bytes = text_by form asked read_whole (task 0 (on_object (Done reply))) bytes

  -- ---- a reply that was begun

  -- a front of the reply whose bytes come is written
  pub begun_in_part : (d : DoorView) (shown : Option MapReply) (brought whole : List ℕ) (before now : Option (List ℕ)) → (tells → (reply : MapReply) → shown ≡ Some reply → ShowsFront site asked reply brought whole d)
      → IsBegun tells form asked shown brought (AppendsFront before now) → Replies tells site form asked d (AppendsFront before now)
  begun_in_part d shown brought whole before now fronts begun =
      let reply = begun.reply in
      let rest = drop (length begun.bytes) whole in
      let all = begun.bytes ++ rest in
      record {
        outcome = on_object (Done reply);
        shown = all;
        by_event = shows_by_event asked reply begun.has_bytes;
        written = subst (AppendsFront before now) (sym (any_actor form asked read_whole (on_object (Done reply)) all d.count 0 ∙ text_grows form asked reply 0 begun.bytes rest begun.has_bytes))
            (front_longer before now (text reply begun.bytes) (written_body form rest) begun.written);
        right = λ is body.
            let front = fronts is reply begun.is_shown in
            let joined : whole ≡ begun.bytes ++ front.rest = front.joined ∙ ap (λ l. l ++ front.rest) (sym (begun.is_brought is)) in
            let left : rest ≡ front.rest = ap (drop (length begun.bytes)) joined ∙ drop_front begun.bytes front.rest in
            subst (λ l. BearsOut site asked read_whole body (on_object (Done reply)) l d) (joined ∙ ap (λ l. begun.bytes ++ l) (sym left)) (front.borne body);
      }

  begun_front : (shown : Option MapReply) (brought : List ℕ) (before now : Option (List ℕ)) → IsBegun tells form asked shown brought (Appends before now) → IsBegun tells form asked shown brought (AppendsFront before now)
  begun_front shown brought before now begun = record {
    reply = begun.reply;
    has_bytes = begun.has_bytes;
    bytes = begun.bytes;
    written = whole_front before now (text begun.reply begun.bytes) begun.written;
    is_shown = begun.is_shown;
    is_brought = begun.is_brought;
  }

  -- nothing was written, or a front of the reply
  pub partly : (d : DoorView) (shown : Option MapReply) (brought whole : List ℕ) (begun : Bool) (before now : Option (List ℕ)) → (tells → (body : Body) → BearsOutSoFar site asked body d) → (tells → (reply : MapReply) → shown ≡ Some reply → ShowsFront site asked reply brought whole d)
      → HasWritten tells form asked shown brought begun before now → IsPartly tells site form asked d before now
  partly d shown brought whole false before now so_far fronts w = inl (w.0, so_far)
  partly d shown brought whole true before now so_far fronts w = inr (begun_in_part d shown brought whole before now fronts (begun_front shown brought before now w))

  -- it is the same where the same is told
  pub replies_at : (d e : DoorView) (grown : List ℕ → Type 0) → (tells → e ≡ d) → Replies tells site form asked d grown → Replies tells site form asked e grown
  replies_at d e grown same r = record {
    outcome = r.outcome;
    shown = r.shown;
    by_event = r.by_event;
    written = subst grown (any_actor form asked read_whole r.outcome r.shown d.count e.count) r.written;
    right = λ is body. subst (BearsOut site asked read_whole body r.outcome r.shown) (sym (same is)) (r.right is body);
  }

  pub partly_at : (d e : DoorView) (before now : Option (List ℕ)) → (tells → e ≡ d) → IsPartly tells site form asked d before now → IsPartly tells site form asked e before now
  partly_at d e before now same (inl none) = inl (none.0, λ is body. subst (BearsOutSoFar site asked body) (sym (same is)) (none.1 is body))
  partly_at d e before now same (inr part) = inr (replies_at d e (AppendsFront before now) same part)

  -- nothing more was written
  pub written_still : (shown : Option MapReply) (brought : List ℕ) (begun : Bool) (before mid now : Option (List ℕ)) → HasWritten tells form asked shown brought begun before mid → Appends mid now [] → HasWritten tells form asked shown brought begun before now
  written_still shown brought false before mid now w more = (Appends-trans before mid now [] [] w.0 more, w.1)
  written_still shown brought true before mid now w more = record {
    reply = w.reply;
    has_bytes = w.has_bytes;
    bytes = w.bytes;
    written = subst (Appends before now) (append-nil (text w.reply w.bytes)) (Appends-trans before mid now (text w.reply w.bytes) [] w.written more);
    is_shown = w.is_shown;
    is_brought = w.is_brought;
  }

  -- ---- events

  module _ (shown next : Option MapReply) (brought now_brought piece : List ℕ) (stays : (reply : MapReply) → shown ≡ Some reply → next ≡ Some reply) where
    -- nothing came
    pub still_written : (begun : Bool) (before now : Option (List ℕ)) → (tells → now_brought ≡ brought) → HasWritten tells form asked shown brought begun before now → HasWritten tells form asked next now_brought begun before now
    still_written false before now same w = (w.0, λ is. same is ∙ w.1 is)
    still_written true before now same w = record {
      reply = w.reply;
      has_bytes = w.has_bytes;
      bytes = w.bytes;
      written = w.written;
      is_shown = stays w.reply w.is_shown;
      is_brought = λ is. w.is_brought is ∙ sym (same is);
    }

    module _ (follows : tells → now_brought ≡ brought ++ piece) (there : IsSome next) (has : (reply : MapReply) → next ≡ Some reply → HasBytes asked reply) where
      -- a piece came: it was written behind the text before it, or a front of it
      begun_by_piece : (begun : Bool) (before mid : Option (List ℕ)) (grown : List ℕ → Type 0) → HasWritten tells form asked shown brought begun before mid
          → ((so_far : List ℕ) → Appends before mid so_far → grown (so_far ++ piece_text form asked begun next piece)) → IsBegun tells form asked next now_brought grown
      begun_by_piece false before mid grown w join =
          let s = some_is next there in
          let bytes = has s.reply s.is in
          record {
            reply = s.reply;
            has_bytes = bytes;
            bytes = piece;
            written = subst grown (sym (text_grows form asked s.reply 0 [] piece bytes)) (subst (λ o. grown (piece_text form asked false o piece)) s.is (join [] w.0));
            is_shown = s.is;
            is_brought = λ is. sym (follows is ∙ ap (λ l. l ++ piece) (w.1 is));
          }
      begun_by_piece true before mid grown w join = record {
        reply = w.reply;
        has_bytes = w.has_bytes;
        bytes = w.bytes ++ piece;
        written = subst grown (sym (text_grows form asked w.reply 0 w.bytes piece w.has_bytes)) (join (text w.reply w.bytes) w.written);
        is_shown = stays w.reply w.is_shown;
        is_brought = λ is. ap (λ l. l ++ piece) (w.is_brought is) ∙ sym (follows is);
      }

      pub piece_written : (begun : Bool) (before mid now : Option (List ℕ)) → HasWritten tells form asked shown brought begun before mid → Appends mid now (piece_text form asked begun next piece) → HasWritten tells form asked next now_brought true before now
      piece_written begun before mid now w grown =
          begun_by_piece begun before mid (Appends before now) w (λ so_far first. Appends-trans before mid now so_far _ first grown)

      -- a write failed in it
      pub piece_in_part : (d : DoorView) (whole : List ℕ) (begun : Bool) (before mid now : Option (List ℕ)) → (tells → (reply : MapReply) → next ≡ Some reply → ShowsFront site asked reply now_brought whole d) → HasWritten tells form asked shown brought begun before mid
          → AppendsFront mid now (piece_text form asked begun next piece) → Replies tells site form asked d (AppendsFront before now)
      piece_in_part d whole begun before mid now fronts w grown =
          begun_in_part d next now_brought whole before now fronts (begun_by_piece begun before mid (AppendsFront before now) w (λ so_far first. front_behind before mid now so_far _ first grown))

  -- ---- the end

  module _ (d : DoorView) (shown : Option MapReply) (brought : List ℕ) (outcome : TaskEnd) (may : MayEnd asked shown outcome) (so : tells → EndsSo site asked brought d outcome) (late : is_late outcome ≡ false) where
    abbrev is_reply : IsReplied asked shown outcome
    is_reply = may_reply asked shown outcome late may

    begun_ends : (grown : List ℕ → Type 0) → IsBegun tells form asked shown brought grown → Replies tells site form asked d grown
    begun_ends grown begun = record {
      outcome = on_object (Done begun.reply);
      shown = begun.bytes;
      by_event = shows_by_event asked begun.reply begun.has_bytes;
      written = subst grown (any_actor form asked read_whole (on_object (Done begun.reply)) begun.bytes 0 d.count) begun.written;
      right = λ is body.
          subst (λ o. BearsOut site asked read_whole body o begun.bytes d) (is_reply.is_shown begun.reply begun.is_shown)
          (subst (λ l. BearsOut site asked read_whole body outcome l d) (sym (begun.is_brought is)) (ends_borne site asked brought d outcome late (so is) body));
    }

    unbegun_ends : (grown : List ℕ → Type 0) → (tells → brought ≡ []) → grown (text_at form asked outcome) → Replies tells site form asked d grown
    unbegun_ends grown none written = record {
      outcome = outcome;
      shown = [];
      by_event = is_reply.by_event;
      written = subst grown (any_actor form asked read_whole outcome [] 0 d.count) written;
      right = λ is body. subst (λ l. BearsOut site asked read_whole body outcome l d) (none is) (ends_borne site asked brought d outcome late (so is) body);
    }

    -- the rest of the reply was written
    pub ended : (begun : Bool) (before mid now : Option (List ℕ)) → HasWritten tells form asked shown brought begun before mid → Appends mid now (end_text form asked begun outcome) → Replies tells site form asked d (Appends before now)
    ended true before mid now w grown = begun_ends (Appends before now) (written_still shown brought true before mid now w grown)
    ended false before mid now w grown = unbegun_ends (Appends before now) w.1 (Appends-trans before mid now [] _ w.0 grown)

    -- a write failed in it
    pub ended_in_part : (before mid now : Option (List ℕ)) → HasWritten tells form asked shown brought false before mid → AppendsFront mid now (end_text form asked false outcome) → Replies tells site form asked d (AppendsFront before now)
    ended_in_part before mid now w grown = unbegun_ends (AppendsFront before now) w.1 (front_behind before mid now [] _ w.0 grown)
