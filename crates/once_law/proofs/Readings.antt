-- The bytes of a connection are one list of calls, where the rows say which bodies are left.
use Rattle.std.proofs.Common.{◌≡◌, ℕ, suc, Bool, true, false, cond, List, [], ◌∷◌, refl, sym, ◌∙◌, ap, subst, ◌&&◌, not}
use Rattle.std.specs.Prelude.{MatchBool}
use Rattle.std.specs.List.{AllByRecursion}
use Rattle.http_model.specs.declared.head.Head.{Head}
use Rattle.http_model.specs.Forms.{waits}
use Rattle.realm_model.specs.Settings.{SettingsView, IsSettings}
use Rattle.swift_auth.specs.Users.{UserView}
use Rattle.swift_reply.specs.declared.reply.SwiftRefusal.TheVariants.{NotBuilt, TooLarge}
use Rattle.swift_requests.specs.Asks.{asked_of}
use Rattle.swift_requests.specs.Bodies.{is_within, unwanted, body_use, is_awaited}
use Rattle.swift_requests.specs.declared.asked.Asked.{Asked}
use Rattle.swift_requests.specs.declared.asked.Asked.TheVariants as Asks
use Rattle.swift_requests.specs.declared.body.BodyUse.TheVariants.{Fed, Awaited, Dropped, Unread}
use Rattle.call_words.specs.Bodies.{Fate, read_whole, broken_off, unread, stays_unread, IsBehind}
use Rattle.call_words.specs.Calls.{Call, is_waiting}
use Rattle.call_words.specs.Requests.{taken_of, requests_of, AreAsked}
use Rattle.call_words.specs.Streams.{form_of, CallsEnd, at_close, Taken, IsStreamFrom}
use Rattle.call_words.proofs.Reading.{Agrees, AreLeftAs, one_reading}
use Rattle.once_law.specs.Folds.{AreOfObjects, AskTheSame}
use Rattle.once_law.specs.Maps.{Rows}
use Rattle.once_law.specs.Readings.{refuses_put, IsLeftAsRowsSay, AreLeftAsRowsSay, AreReadAlone, IsCutGranted}
use Rattle.once_law.proofs.Granting.{cut_granted}
use Rattle.once_law.proofs.Leaving.{NoneLeft, left_by_rows}

-- ---- bodies that are waited for

never_awaited : (largest : ℕ) (head : Head) → is_awaited (unwanted largest head) ≡ true → ⊥
never_awaited largest head =
    elim (is_within largest head.framing && not (waits head)) as (λ b. is_awaited (cond b Dropped Unread) ≡ true → ⊥) [
      | true ↦ λ is. cc
      | false ↦ λ is. cc
    ]

-- only the client of a PUT waits
awaited_waits : (largest : ℕ) (head : Head) (asked : Asked) → is_awaited (body_use largest head asked) ≡ true → is_waiting asked head ≡ true
awaited_waits largest head (Asks.Put asker c) =
    elim (waits head) as (λ b. is_awaited (cond b Awaited Fed) ≡ true → b ≡ true) [
      | true ↦ λ is. refl
      | false ↦ λ is. is
    ]
awaited_waits largest head (Asks.Refused NotBuilt) = λ is. absurd (cc)
awaited_waits largest head (Asks.Refused TooLarge) = λ is. absurd (cc)
awaited_waits largest head asked = λ is. absurd (never_awaited largest head is)

-- ---- bodies that are left

none_behind : (largest : ℕ) (head : Head) (after body rest : List ℕ) (fate : Fate) → IsBehind largest head.framing after body fate rest → stays_unread fate ≡ true → body ≡ []
none_behind largest head after body rest read_whole x is = absurd (cc)
none_behind largest head after body rest (broken_off why) x is = absurd (cc)
none_behind largest head after body rest unread x is = x.0

behind_one : (largest : ℕ) (users : List UserView) (k : ℕ) (rest : List ℕ) (end : CallsEnd) (closed : Bool) (calls : List Call) → (IsStreamFrom largest users k rest (requests_of calls) end → AllByRecursion NoneLeft calls)
    → MatchBool closed ((requests_of calls ≡ []) × (end ≡ at_close)) (IsStreamFrom largest users k rest (requests_of calls) end) → AllByRecursion NoneLeft calls
behind_one largest users k rest end true [] further x = tt
behind_one largest users k rest end true (c ∷ cs) further x = let clash = x.0 in absurd (cc)
behind_one largest users k rest end false calls further x = further x

none_left : (largest : ℕ) (users : List UserView) (k : ℕ) (bytes : List ℕ) (calls : List Call) (end : CallsEnd) → IsStreamFrom largest users k bytes (requests_of calls) end → AllByRecursion NoneLeft calls
none_left largest users k bytes [] end x = tt
none_left largest users k bytes (call ∷ calls) end (rest, takes, further) = (
  none_behind largest call.request.head takes.after call.request.body rest call.fate takes.body,
  behind_one largest users (suc k) rest end (form_of k call.request.head call.fate).close calls (none_left largest users (suc k) rest calls end) further,
)

-- ---- one reading

module _ (rows : Rows) (largest : ℕ) (users : List UserView) where
  -- the row refuses what the head asks
  abbrev says : ℕ → Head → Bool
  says k head = refuses_put rows (asked_of largest users head)

  agrees : (call : Call) → call.asked ≡ asked_of largest users call.request.head → IsLeftAsRowsSay rows call → Agrees largest users (refuses_put rows (asked_of largest users call.request.head)) (taken_of call)
  agrees call asked left awaits =
      let waiting : is_waiting call.asked call.request.head ≡ true =
      subst (λ a. is_waiting a call.request.head ≡ true) (sym asked) (awaited_waits largest call.request.head (asked_of largest users call.request.head) awaits) in
      left waiting ∙ ap (refuses_put rows) asked

  left_as_said : (k : ℕ) (bytes : List ℕ) (calls : List Call) (end : CallsEnd) → AreAsked largest users calls → AreLeftAsRowsSay rows calls → IsCutGranted rows largest users k bytes calls end → AreLeftAs says largest users k bytes (requests_of calls) end
  left_as_said k bytes [] end asked left granted = λ head after begins cut. granted bytes after head cut refl begins
  left_as_said k bytes (call ∷ calls) end asked left granted = (
    agrees call asked.0 left.0,
    λ rest takes stays.
        left_as_said (suc k) rest calls end asked.1 left.1
        (λ last after head cut front begins. granted last after head cut (rest, takes, stays, front) begins),
  )

  -- the same requests with the same fates ask the same
  same_asked : (calls others : List Call) → AreAsked largest users calls → AreAsked largest users others → requests_of calls ≡ requests_of others → AskTheSame calls others
  same_asked [] [] asked also same = tt
  same_asked [] (other ∷ others) asked also same = absurd (cc)
  same_asked (call ∷ calls) [] asked also same = absurd (cc)
  same_asked (call ∷ calls) (other ∷ others) asked also same =
      let one : taken_of call ≡ taken_of other = cc in
      let rest : requests_of calls ≡ requests_of others = cc in (
        asked.0 ∙ (λ i. asked_of largest users (one i).request.head) ∙ sym also.0,
        ap (λ (t : Taken). t.fate) one,
        ap (λ (t : Taken). t.request.body) one,
        same_asked calls others asked.1 also.1 rest,
      )

module _ (settings : SettingsView) (zone : ℕ) (users : List UserView) (rows : Rows) (k : ℕ) (bytes : List ℕ) (good : IsSettings settings) where
  pub rows_say : (calls : List Call) (end : CallsEnd) → AreReadAlone settings zone users rows k bytes calls end → AreOfObjects calls → AreLeftAsRowsSay rows calls
  rows_say calls end r of_objects =
      let a = r.alone in
      let none = none_left settings.largest users k bytes calls end r.stream in
      subst (λ q. AreLeftAsRowsSay q calls) r.rows_are
      (left_by_rows settings good zone r.pass r.moment r.before r.more r.next calls r.last a.later of_objects r.legal a.unused a.right a.made a.by_last a.opened r.low r.at none)

  -- the rows say which bodies are left
  left_so : (calls : List Call) (end : CallsEnd) → AreReadAlone settings zone users rows k bytes calls end → AreOfObjects calls → AreLeftAs (says rows settings.largest users) settings.largest users k bytes (requests_of calls) end
  left_so calls end r of_objects =
      left_as_said rows settings.largest users k bytes calls end r.asked (rows_say calls end r of_objects)
      (cut_granted settings zone users rows k bytes good calls end r of_objects)

  pub read_alone : (calls others : List Call) (end other : CallsEnd) → AreReadAlone settings zone users rows k bytes calls end → AreOfObjects calls → AreReadAlone settings zone users rows k bytes others other → AreOfObjects others
      → (requests_of calls ≡ requests_of others) × (end ≡ other) × AskTheSame calls others
  read_alone calls others end other r of_objects q also =
      let one = one_reading (says rows settings.largest users) settings.largest users k bytes (requests_of calls) (requests_of others) end other r.stream (left_so calls end r of_objects) q.stream (left_so others other q also) in
      (one.0, one.1, same_asked rows settings.largest users calls others r.asked q.asked one.0)
