-- What own events say of the names that were read before.
use Rattle.std.proofs.Common.{◌≡◌, ℕ, true, false, cond, append_assoc, append-nil, List, [], ◌∷◌, ◌++◌, map, Option, None, refl, sym, ◌∙◌, ap, subst}
use Rattle.std.specs.List.{AllByRecursion}
use Rattle.std.proofs.lemmas.List.Concat.{flat_map-append}
use Rattle.std.proofs.lemmas.List.Elements.{filter-append}
use Rattle.object_words.specs.declared.bucket.Bucket.{Bucket}
use Rattle.realm_model.specs.Owns.{OwnEvent}
use Rattle.realm_model.specs.Shown.{row_shown}
use Rattle.list_words.proofs.Texts.{before_trans}
use Rattle.task_account.specs.declared.asked.Asked.{Asked}
use Rattle.task_account.specs.declared.reply.AccountReply.{AccountReply}
use Rattle.task_account.specs.Stages.{names_shown}
use Rattle.task_account.specs.Counts.{names_of, is_read_of, row_after, last_row_from, last_row, is_owned, is_found, found_names, Found, name_in, AreApart, IsCounted, IsFoundIn, Tally}
use Rattle.task_account.specs.Tasks.{Rises, AreUnread}

-- ---- one event more

pub names_more : (events : List OwnEvent) (e : OwnEvent) → names_of (events ++ e ∷ []) ≡ names_of events ++ names_shown e.reply
names_more events e =
    flat_map-append (λ (e : OwnEvent). names_shown e.reply) events (e ∷ []) ∙ ap (λ ns. names_of events ++ ns) (append-nil (names_shown e.reply))

row_more : (name : List ℕ) (row : Option Bucket) (events : List OwnEvent) (e : OwnEvent) → last_row_from name row (events ++ e ∷ []) ≡ row_after name (last_row_from name row events) e
row_more name row [] e = refl
row_more name row (d ∷ events) e = row_more name (row_after name row d) events e

-- the last read of another name shows what it showed
pub other_row : (name : List ℕ) (events : List OwnEvent) (e : OwnEvent) → is_read_of name e.op ≡ false → last_row name (events ++ e ∷ []) ≡ last_row name events
other_row name events e other = row_more name None events e ∙ ap (λ b. cond b (row_shown e.reply) (last_row name events)) other

-- the last read of the name is this one
pub own_row : (name : List ℕ) (events : List OwnEvent) (e : OwnEvent) → is_read_of name e.op ≡ true → last_row name (events ++ e ∷ []) ≡ row_shown e.reply
own_row name events e own = row_more name None events e ∙ ap (λ b. cond b (row_shown e.reply) (last_row name events)) own

pub apart_more : (name : List ℕ) (events : List OwnEvent) (e : OwnEvent) → AreApart name events → is_read_of name e.op ≡ false → AreApart name (events ++ e ∷ [])
apart_more name [] e apart other = (other, tt)
apart_more name (d ∷ events) e apart other = (apart.0, apart_more name events e apart.1 other)

-- ---- what was found stays

pub stays_counted : (zone : ℕ) (account : List ℕ) (f : Found) (events : List OwnEvent) (e : OwnEvent) → is_read_of f.name e.op ≡ false → IsCounted zone account f events → IsCounted zone account f (events ++ e ∷ [])
stays_counted zone account f events e other x = record {
  front = x.front;
  later = x.later ++ e ∷ [];
  split = ap (λ es. es ++ e ∷ []) x.split ∙ append_assoc x.front x.later (e ∷ []);
  row = x.row;
  by = x.by;
  unread = apart_more f.name x.later e x.unread other;
}

module _ (zone : ℕ) (account : List ℕ) (asked : Asked) (events : List OwnEvent) (e : OwnEvent) where
  -- the event reads none of the names
  abbrev pub AreOthers : List (List ℕ) → Type 0
  AreOthers names = AllByRecursion (λ name. is_read_of name e.op ≡ false) names

  same_found : (names : List (List ℕ)) → AreOthers names → found_names account (events ++ e ∷ []) names ≡ found_names account events names
  same_found [] others = refl
  same_found (name ∷ names) others =
      let same : is_found account (events ++ e ∷ []) name ≡ is_found account events name = ap (is_owned account) (other_row name events e others.0) in
      ap (λ b. cond b (name ∷ found_names account (events ++ e ∷ []) names) (found_names account (events ++ e ∷ []) names)) same
      ∙ ap (λ ns. cond (is_found account events name) (name ∷ ns) ns) (same_found names others.1)

  kept_others : (names : List (List ℕ)) → AreOthers names → AreOthers (found_names account events names)
  kept_others [] others = tt
  kept_others (name ∷ names) others =
      elim (is_found account events name) as (λ b. AreOthers (cond b (name ∷ found_names account events names) (found_names account events names))) [
        | true ↦ (others.0, kept_others names others.1)
        | false ↦ kept_others names others.1
      ]

  each_stays : (found : List Found) → AreOthers (map name_in found) → AllByRecursion (IsFoundIn zone account asked events) found → AllByRecursion (IsFoundIn zone account asked (events ++ e ∷ [])) found
  each_stays [] others each = tt
  each_stays (f ∷ found) others each =
      ((each.0.0, λ whole. stays_counted zone account f events e others.0 (each.0.1 whole)), each_stays found others.1 each.1)

  pub tally_stays : (reply : AccountReply) (names : List (List ℕ)) → AreOthers names → Tally zone account asked reply names events → Tally zone account asked reply names (events ++ e ∷ [])
  tally_stays reply names others x = record {
    found = x.found;
    names_are = x.names_are ∙ sym (same_found names others);
    each = each_stays x.found (subst AreOthers (sym x.names_are) (kept_others names others)) x.each;
    is_reply = x.is_reply;
  }

-- ---- names that were not read

module _ (zone : ℕ) (account : List ℕ) (asked : Asked) (events : List OwnEvent) where
  unread_found : (last : List ℕ) (names : List (List ℕ)) → Rises last names → AreUnread last events → found_names account events names ≡ []
  unread_found last [] rise unread = refl
  unread_found last (name ∷ names) rise unread =
      let none : is_found account events name ≡ false = ap (is_owned account) (unread name rise.0) in
      ap (λ b. cond b (name ∷ found_names account events names) (found_names account events names)) none
      ∙ unread_found name names rise.1 (λ other above. unread other (before_trans last name other rise.0 above))

  -- names that were not read, or showed no row of the account, change no reply
  pub tally_with : (reply : AccountReply) (names more : List (List ℕ)) → found_names account events more ≡ [] → Tally zone account asked reply names events → Tally zone account asked reply (names ++ more) events
  tally_with reply names more none x = record {
    found = x.found;
    names_are =
        x.names_are ∙ sym (append-nil (found_names account events names)) ∙ ap (λ ns. found_names account events names ++ ns) (sym none)
        ∙ sym (filter-append (is_found account events) names more);
    each = x.each;
    is_reply = x.is_reply;
  }

  pub tally_unread : (reply : AccountReply) (last : List ℕ) (names more : List (List ℕ)) → Rises last more → AreUnread last events → Tally zone account asked reply names events → Tally zone account asked reply (names ++ more) events
  tally_unread reply last names more rise unread x = tally_with reply names more (unread_found last more rise unread) x
