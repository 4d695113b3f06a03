-- Whose request is not refused has the rights that it needs.
use Rattle.std.proofs.Common.{◌≡◌, ℕ, Bool, true, false, not, ◌||◌, cond, List, Option, Some, None, refl}
use Rattle.std.specs.Prelude.{⊤}
use Rattle.swift_auth.specs.declared.policy.Deed.TheVariants.{OwnAccount}
use Rattle.swift_auth.specs.declared.policy.Verdict.{Verdict}
use Rattle.swift_auth.specs.declared.policy.Verdict.TheVariants.{Granted, Unknown, Denied}
use Rattle.swift_auth.specs.Policies.{is_of, refused}
use Rattle.swift_auth.specs.Users.{UserView}
use Rattle.swift_reply.specs.declared.reply.SwiftRefusal.{SwiftRefusal}
use Rattle.swift_reply.specs.declared.reply.SwiftRefusal.TheVariants.{Unauthorized, Invalid, TooLarge}
use Rattle.swift_reply.specs.declared.reply.Invalid.TheVariants.{Value, Meta}
use Rattle.task_words.specs.declared.asker.Asker.{Asker}
use Rattle.http_model.specs.declared.head.Head.{Head}
use Rattle.swift_requests.specs.declared.asked.Asked.{Asked}
use Rattle.swift_requests.specs.declared.asked.Asked.TheVariants.{BadHost, Refused, Login, Put, Unfed}
use Rattle.swift_requests.specs.declared.asked.UnfedCommand.{UnfedCommand}
use Rattle.swift_requests.specs.declared.asked.UnfedCommand.TheVariants.{Get, Listing, Container, Account}
use Rattle.swift_requests.specs.Askers.{own_verdict, is_unknown, denied_by}
use Rattle.swift_requests.specs.Asks.{asked_of}
use Rattle.swift_requests.specs.Changes.{changes_of, are_within_limits, has_change_texts}
use Rattle.swift_requests.specs.Fields.{is_above}
use Rattle.swift_requests.specs.Methods.{is_look}
use Rattle.swift_requests.specs.Refusals.{own_refusal, change_refusal}
use Rattle.swift_requests.proofs.Cases.{Cases, of_asked}

-- ---- rights

-- who asks is a user of the account
abbrev pub IsOwn : Asker → Type 0
IsOwn asker = is_of asker.account asker.user ≡ true

granted_by : (own : Bool) (user : Option UserView) → cond (own || false) Granted (refused user OwnAccount) ≡ Granted → own ≡ true
granted_by true user is = refl
granted_by false None is = absurd (cc)
granted_by false (Some user) is = absurd (cc)

own_by : (asker : Asker) → own_verdict asker ≡ Granted → IsOwn asker
own_by asker is = granted_by (is_of asker.account asker.user) asker.user is

own_tests : (verdict : Verdict) (above : Bool) (a b : SwiftRefusal)
    → cond (is_unknown verdict) (Some a) (cond above (Some b) (denied_by verdict)) ≡ None → verdict ≡ Granted
own_tests Granted above a b none = refl
own_tests Unknown above a b none = absurd (cc)
own_tests (Denied rule) true a b none = absurd (cc)
own_tests (Denied rule) false a b none = absurd (cc)

change_tests : (verdict : Verdict) (texts sizes above : Bool) (a b c d : SwiftRefusal)
    → cond (is_unknown verdict) (Some a) (cond (not texts) (Some b) (cond (not sizes) (Some c) (cond above (Some d) (denied_by verdict)))) ≡ None
    → verdict ≡ Granted
change_tests Granted texts sizes above a b c d none = refl
change_tests Unknown texts sizes above a b c d none = absurd (cc)
change_tests (Denied rule) false sizes above a b c d none = absurd (cc)
change_tests (Denied rule) true false above a b c d none = absurd (cc)
change_tests (Denied rule) true true true a b c d none = absurd (cc)
change_tests (Denied rule) true true false a b c d none = absurd (cc)

own_passed : (largest : ℕ) (head : Head) (asker : Asker) → own_refusal largest head asker ≡ None → IsOwn asker
unfolding own_refusal
own_passed largest head asker none =
    own_by asker (own_tests (own_verdict asker) (is_above largest head.framing) Unauthorized TooLarge none)

change_passed : (largest : ℕ) (head : Head) (asker : Asker) → change_refusal largest head asker ≡ None → IsOwn asker
unfolding change_refusal
change_passed largest head asker none =
    own_by asker (change_tests (own_verdict asker) (has_change_texts head) (are_within_limits (changes_of head.fields)) (is_above largest head.framing)
    Unauthorized (Invalid Value) (Invalid Meta) TooLarge none)

-- ---- what is asked

-- what is asked needs no rights, or who asks has them, or the row of the container says so
abbrev pub NeedsRights : Bool → Asker → UnfedCommand → Type 0
NeedsRights look asker (Get command) = ⊤
NeedsRights look asker (Listing command form) = ⊤
NeedsRights look asker (Container command) = look ≡ false → IsOwn asker
NeedsRights look asker (Account command form) = IsOwn asker

abbrev pub HasRights : Bool → Asked → Type 0
HasRights look BadHost = ⊤
HasRights look (Refused refusal) = ⊤
HasRights look (Login host account token) = ⊤
HasRights look (Put asker command) = ⊤
HasRights look (Unfed asker command) = NeedsRights look asker command

cases : (largest : ℕ) (head : Head) → Cases largest head (HasRights (is_look head))
cases largest head = record {
  bad_host = tt;
  refused = λ refusal. tt;
  login = λ host account token. tt;
  account = λ asker query none. own_passed largest head asker none;
  listing = λ asker query name looks. tt;
  counts = λ asker name looks low. absurd (cc);
  change = λ asker name none low. change_passed largest head asker none;
  delete = λ asker name none low. own_passed largest head asker none;
  put = λ asker container name is none. tt;
  get = λ asker container name is none. tt;
}

pub rights : (largest : ℕ) (users : List UserView) (head : Head) → HasRights (is_look head) (asked_of largest users head)
rights largest users head = of_asked largest head (HasRights (is_look head)) (cases largest head) users
