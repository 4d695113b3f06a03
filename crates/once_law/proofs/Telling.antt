-- Two folds from the same rows and slots over calls that ask the same tell the same.
use Rattle.std.proofs.Common.{◌≡◌, ℕ, List, [], ◌∷◌, Option, None, Some, refl, sym, ◌∙◌, ap, subst}
use Rattle.http_model.specs.declared.reply.ReplyForm.{ReplyForm}
use Rattle.list_words.specs.declared.command.ListCommand.{ListCommand}
use Rattle.swift_auth.specs.declared.policy.Deed.TheVariants.{ListContainer}
use Rattle.swift_reply.specs.declared.reply.ListingForm.{ListingForm}
use Rattle.swift_requests.specs.declared.asked.Asked.{Asked}
use Rattle.swift_requests.specs.declared.asked.Asked.TheVariants as Asks
use Rattle.swift_requests.specs.declared.asked.UnfedCommand.TheVariants.{Get, Listing}
use Rattle.task_words.specs.declared.asker.Asker.{Asker}
use Rattle.task_words.specs.declared.command.GetCommand.{GetCommand}
use Rattle.task_words.specs.declared.command.PutCommand.{PutCommand}
use Rattle.task_words.specs.declared.outcome.Outcome.{Outcome}
use Rattle.task_words.specs.declared.outcome.Outcome.TheVariants.{Done, BodyFailed}
use Rattle.task_words.specs.declared.reply.MapReply.{MapReply}
use Rattle.task_words.specs.declared.reply.Refusal.{Refusal}
use Rattle.task_words.specs.Answers.{Command, put, get, container_of, deed_of, span_of}
use Rattle.task_words.specs.Rows.{row_refusal}
use Rattle.call_words.specs.Bodies.{Fate, read_whole, broken_off, unread}
use Rattle.call_words.specs.Ends.{TaskEnd, on_object}
use Rattle.call_words.specs.Calls.{Ground, alone, task, Call, text_by, IsByHead}
use Rattle.call_words.specs.Texts.{told_reply, text_if, told_list}
use Rattle.once_law.specs.Maps.{Slots}
use Rattle.once_law.proofs.Listing.{same_listed}
use Rattle.once_law.specs.Folds.{Said, said_by, Fixed, said, IsOutside, IsSaid, left_by, IsListSaid, refusal_of, IsByRow, no_other, IsCutShort, command_in, IsPutSaid, IsGetSaid, IsListingSaid, IsSaidTo, left_behind, slots_after, AreFolded, IsReplied, AreReplied, AskTheSame, SayTheSame}

module _ (x : Fixed) (one_clock : (one another : ℕ) → x.clocks one ≡ x.clocks another) where
  -- whichever actor it is
  same_said : (slots : Slots) (asker : Asker) (command : Command) (one another : ℕ) → said x slots asker command one ≡ said x slots asker command another
  same_said slots asker command one another =
      let row = x.rows (container_of command) in
      ap (said_by (row_refusal asker row (deed_of command)) row slots command x.zone) (one_clock one another)

  -- two replies to one call
  record Same (slots : Slots) (asked : Asked) (fate : Fate) (body : List ℕ) (g h : Ground) (shown other : List ℕ) : Type 0 where
    text : (form : ReplyForm) → text_by form asked fate g shown ≡ text_by form asked fate h other
    left : left_behind x slots (command_in asked fate body) g ≡ left_behind x slots (command_in asked fate body) h

  not_outside : (command : Command) → IsOutside command BodyFailed → ⊥
  not_outside (put c bytes) is = is
  not_outside (get c) is = is

  -- by the row alone
  same_row : (outside : Outcome → Type 0) → ((reply : MapReply) → outside (Done reply) → ⊥) → (refusal : Option Refusal) (a b : ℕ) (o p : Outcome) → IsReplied (task a (on_object o)) → IsReplied (task b (on_object p)) → IsByRow outside refusal o → IsByRow outside refusal p → o ≡ p
  same_row outside none (Some refusal) a b (Done reply) (Done again) is_a is_b first second = ap Done (first ∙ sym second)
  same_row outside none (Some refusal) a b (Done reply) p is_a is_b first second = absurd second
  same_row outside none (Some refusal) a b o p is_a is_b first second = absurd first
  same_row outside none None a b BodyFailed BodyFailed is_a is_b first second = refl
  same_row outside none None a b BodyFailed (Done again) is_a is_b first second = absurd (none again second)
  same_row outside none None a b BodyFailed p is_a is_b first second = absurd is_b
  same_row outside none None a b (Done reply) p is_a is_b first second = absurd (none reply first)
  same_row outside none None a b o p is_a is_b first second = absurd is_a

  module _ (slots : Slots) (body shown other : List ℕ) where
    -- by the map
    same_command : (asker : Asker) (command : Command) (a b : ℕ) (o p : Outcome) → IsReplied (task a (on_object o)) → IsReplied (task b (on_object p)) → IsSaid command (said x slots asker command a) o shown → IsSaid command (said x slots asker command b) p other
        → (o ≡ p) × (shown ≡ other) × (left_by (said x slots asker command a) o slots ≡ left_by (said x slots asker command b) p slots)
    same_command asker command a b (Done reply) (Done again) is_a is_b first second =
        let same = same_said slots asker command a b in (
          ap Done (first.0 ∙ ap (λ (s : Said). s.reply) same ∙ sym second.0),
          first.1 ∙ ap (λ (s : Said). s.shown) same ∙ sym second.1,
          ap (λ (s : Said). s.slots) same,
        )
    same_command asker command a b BodyFailed p is_a is_b first second = absurd (not_outside command first.0)
    same_command asker command a b o BodyFailed is_a is_b first second = absurd (not_outside command second.0)
    same_command asker command a b (Done reply) p is_a is_b first second = absurd is_b
    same_command asker command a b o p is_a is_b first second = absurd is_a

    same_list : (asker : Asker) (c : ListCommand) (a b : ℕ) (o p : Outcome) → IsReplied (task a (on_object o)) → IsReplied (task b (on_object p)) → IsListSaid x slots asker c o → IsListSaid x slots asker c p → o ≡ p
    same_list asker c a b (Done reply) (Done again) is_a is_b first second = ap Done (same_listed _ _ slots c reply again first second)
    same_list asker c a b BodyFailed p is_a is_b first second = absurd first
    same_list asker c a b o BodyFailed is_a is_b first second = absurd second
    same_list asker c a b (Done reply) p is_a is_b first second = absurd is_b
    same_list asker c a b o p is_a is_b first second = absurd is_a

    abbrev Both : Asked → Fate → ℕ → ℕ → Outcome → Outcome → Type 0
    Both asked fate a b o p = Same slots asked fate body (task a (on_object o)) (task b (on_object p)) shown other

    module _ (asker : Asker) (c : PutCommand) (a b : ℕ) (o p : Outcome) (is_a : IsReplied (task a (on_object o))) (is_b : IsReplied (task b (on_object p))) where
      short : IsCutShort (IsOutside (put c body)) (refusal_of x asker c.container (deed_of (put c body))) o shown → IsCutShort (IsOutside (put c body)) (refusal_of x asker c.container (deed_of (put c body))) p other → o ≡ p
      short first second =
          same_row (IsOutside (put c body)) (λ reply is. is) (refusal_of x asker c.container (deed_of (put c body))) a b o p is_a is_b first.0 second.0

      put_same : (fate : Fate) → IsPutSaid x slots asker c fate body a o shown → IsPutSaid x slots asker c fate body b p other → Both (Asks.Put asker c) fate a b o p
      put_same read_whole first second =
          let s = same_command asker (put c body) a b o p is_a is_b first second in
          record { text = λ form. ap (λ q. text_if form (told_reply None read_whole q) []) s.0; left = s.2 }
      put_same (broken_off why) first second =
          record { text = λ form. ap (λ q. text_if form (told_reply None (broken_off why) q) []) (short first second); left = refl }
      put_same unread first second =
          record { text = λ form. ap (λ q. text_if form (told_reply None unread q) []) (short first second); left = refl }

    module _ (asker : Asker) (c : GetCommand) (a b : ℕ) (o p : Outcome) (is_a : IsReplied (task a (on_object o))) (is_b : IsReplied (task b (on_object p))) where
      get_same : (fate : Fate) → IsGetSaid x slots asker c fate a o shown → IsGetSaid x slots asker c fate b p other → Both (Asks.Unfed asker (Get c)) fate a b o p
      get_same read_whole first second =
          let s = same_command asker (get c) a b o p is_a is_b first second in
          record { text = λ form. λ i. text_if form (told_reply (span_of c) read_whole (s.0 i)) (s.1 i); left = s.2 }
      get_same (broken_off why) first second =
          let one = same_row no_other (λ reply is. is) (refusal_of x asker c.container (deed_of (get c))) a b o p is_a is_b first.0 second.0 in
          let bytes : shown ≡ other = first.1 ∙ sym second.1 in
          record { text = λ form. λ i. text_if form (told_reply (span_of c) (broken_off why) (one i)) (bytes i); left = refl }
      get_same unread first second =
          let s = same_command asker (get c) a b o p is_a is_b first second in
          record { text = λ form. λ i. text_if form (told_reply (span_of c) unread (s.0 i)) (s.1 i); left = s.2 }

    module _ (asker : Asker) (c : ListCommand) (l : ListingForm) (a b : ℕ) (o p : Outcome) (is_a : IsReplied (task a (on_object o))) (is_b : IsReplied (task b (on_object p))) where
      list_same : (fate : Fate) → IsListingSaid x slots asker c fate o shown → IsListingSaid x slots asker c fate p other → Both (Asks.Unfed asker (Listing c l)) fate a b o p
      list_same read_whole first second =
          record { text = λ form. ap (λ q. text_if form (told_list l read_whole q) []) (same_list asker c a b o p is_a is_b first.0 second.0); left = refl }
      list_same (broken_off why) first second =
          let one = same_row no_other (λ reply is. is) (refusal_of x asker c.container ListContainer) a b o p is_a is_b first.0 second.0 in
          record { text = λ form. ap (λ q. text_if form (told_list l (broken_off why) q) []) one; left = refl }
      list_same unread first second =
          record { text = λ form. ap (λ q. text_if form (told_list l unread q) []) (same_list asker c a b o p is_a is_b first.0 second.0); left = refl }

    tasks_told : (asked : Asked) (fate : Fate) (a b : ℕ) (e f : TaskEnd) → IsReplied (task a e) → IsReplied (task b f) → IsSaidTo x slots asked fate body (task a e) shown → IsSaidTo x slots asked fate body (task b f) other
        → Same slots asked fate body (task a e) (task b f) shown other
    tasks_told (Asks.Put asker c) fate a b (on_object o) (on_object p) is_a is_b first second = put_same asker c a b o p is_a is_b fate first second
    tasks_told (Asks.Unfed asker (Get c)) fate a b (on_object o) (on_object p) is_a is_b first second = get_same asker c a b o p is_a is_b fate first second
    tasks_told (Asks.Unfed asker (Listing c l)) fate a b (on_object o) (on_object p) is_a is_b first second = list_same asker c l a b o p is_a is_b fate first second
    tasks_told asked fate a b (on_object o) f is_a is_b first second = absurd second
    tasks_told asked fate a b e f is_a is_b first second = absurd first

    -- what is answered by the head alone has no task
    no_task : (asked : Asked) (fate : Fate) (a : ℕ) (e : TaskEnd) (bytes : List ℕ) → IsByHead asked → IsSaidTo x slots asked fate body (task a e) bytes → ⊥
    no_task (Asks.Put asker c) fate a e bytes by_head said = by_head
    no_task (Asks.Unfed asker u) fate a e bytes by_head said = by_head
    no_task asked fate a e bytes by_head said = said

    told : (asked : Asked) (fate : Fate) (g h : Ground) → IsReplied g → IsReplied h → IsSaidTo x slots asked fate body g shown → IsSaidTo x slots asked fate body h other → Same slots asked fate body g h shown other
    told asked fate alone alone is_g is_h first second =
        record { text = λ form. ap (text_by form asked fate alone) (first.1 ∙ sym second.1); left = refl }
    told asked fate alone (task b f) is_g is_h first second = absurd (no_task asked fate b f other first.0 second)
    told asked fate (task a e) alone is_g is_h first second = absurd (no_task asked fate a e shown second.0 first)
    told asked fate (task a e) (task b f) is_g is_h first second = tasks_told asked fate a b e f is_g is_h first second

  pub tell : (slots : Slots) (calls others : List Call) → AskTheSame calls others → AreFolded x slots calls → AreFolded x slots others → AreReplied calls → AreReplied others → SayTheSame calls others
  tell slots [] [] ask first second is also = tt
  tell slots [] (other ∷ others) ask first second is also = ask
  tell slots (call ∷ calls) [] ask first second is also = ask
  tell slots (call ∷ calls) (other ∷ others) ask first second is also =
      let by_asked = subst (λ a. IsSaidTo x slots a other.fate other.request.body other.ground other.shown) (sym ask.0) second.0 in
      let by_fate = subst (λ f. IsSaidTo x slots call.asked f other.request.body other.ground other.shown) (sym ask.1) by_asked in
      let there = subst (λ b. IsSaidTo x slots call.asked call.fate b other.ground other.shown) (sym ask.2) by_fate in
      let same = told slots call.request.body call.shown other.shown call.asked call.fate call.ground other.ground is.0 also.0 first.0 there in
      let left : slots_after x slots other ≡ slots_after x slots call =
      (λ i. left_behind x slots (command_in (sym ask.0 i) (sym ask.1 i) (sym ask.2 i)) other.ground) ∙ sym same.left in (
        λ form. same.text form ∙ (λ i. text_by form (ask.0 i) (ask.1 i) other.ground other.shown),
        tell (slots_after x slots call) calls others ask.3 first.1 (subst (λ l. AreFolded x l others) left second.1) is.1 also.1,
      )
