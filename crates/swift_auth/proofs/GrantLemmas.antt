-- The table of verdicts and the sentences of the policy.
use Rattle.std.proofs.Common.{◌≡◌, ◌≢◌, ℕ, ◌||◌, ◌&&◌, not, ◌⊎◌, inl, inr, List, Bool, true, false, Option, Some, None, if◌then◌else◌, Any, codes, bytes_eq, refl, sym, ap, ◌∙◌}
use Rattle.std.proofs.lemmas.Bool.{false≢true}
use Rattle.std.proofs.lemmas.List.Folds.{Any-from_list_any, list_any-from_Any}
use Rattle.std.proofs.lemmas.Slice.Eq.{bytes_eq-Decides}
use Rattle.object_words.specs.declared.bucket.Bucket.{Bucket}
use Rattle.swift_auth.specs.declared.policy.Deed.{Deed}
use Rattle.swift_auth.specs.declared.policy.Deed.TheVariants.{OwnAccount, ListContainer, ReadThing, ChangeThing}
use Rattle.swift_auth.specs.declared.policy.Verdict.TheVariants.{Granted, Unknown}
use Rattle.swift_auth.specs.Users.{UserView, account_of}
use Rattle.swift_auth.specs.Lists.{parts_of, member_in, has_word, is_named_by, names, is_public, is_listed}
use Rattle.swift_auth.specs.Policies.{is_of, names_asker, found_under, lists_let, container_lets, refused, verdict_of}
use Rattle.swift_auth.specs.Grants.{IsMember, IsNamed, Grants, of_the_account, reader_reads, reader_lists, writer_changes, anybody_reads, anybody_lists}

-- ---- tests and facts

or_cases : (a b : Bool) → (a || b) ≡ true → (a ≡ true) ⊎ (b ≡ true)
or_cases true b h = inl refl
or_cases false b h = inr h

and_parts : (a b : Bool) → (a && b) ≡ true → (a ≡ true) × (b ≡ true)
and_parts true b h = (refl, h)
and_parts false b h = absurd (false≢true h)

or_left : (a b : Bool) → a ≡ true → (a || b) ≡ true
or_left a b h = rw h

or_right : (a b : Bool) → b ≡ true → (a || b) ≡ true
or_right true b h = refl
or_right false b h = h

and_both : (a b : Bool) → a ≡ true → b ≡ true → (a && b) ≡ true
and_both a b p q = rw (p, q)

not_true : (a : Bool) → not a ≡ true → a ≢ true
not_true true h is = false≢true h
not_true false h is = false≢true is

not_from : (a : Bool) → a ≢ true → not a ≡ true
not_from true h = absurd (h refl)
not_from false h = refl

any_weaker : {X : Type 0} (P Q : X → Type 0) (xs : List X) → ((x : X) → P x → Q x) → Any P xs → Any Q xs
any_weaker P Q xs f (k, x, inside, at, p) = (k, x, inside, at, f x p)

-- ---- lists

is_member : (list member : List ℕ) → has_word list member ≡ true → IsMember member list
unfolding has_word
is_member list member h =
    any_weaker (λ part. bytes_eq (member_in part) member ≡ true) (λ part. member_in part ≡ member) (parts_of list) (λ part e. (bytes_eq-Decides (member_in part) member).0 e)
    (Any-from_list_any (λ part. bytes_eq (member_in part) member) (parts_of list) h)

has_member : (list member : List ℕ) → IsMember member list → has_word list member ≡ true
unfolding has_word
has_member list member h =
    list_any-from_Any (λ part. bytes_eq (member_in part) member) (parts_of list)
    (any_weaker (λ part. member_in part ≡ member) (λ part. bytes_eq (member_in part) member ≡ true) (parts_of list) (λ part e. (bytes_eq-Decides (member_in part) member).1 e) h)

-- ---- a user who is named

module _ (user : UserView) where
  named_at : (member : List ℕ) → is_named_by member user ≡ true → (member ≡ user.full_name) ⊎ ((member ≡ account_of user) × ¬ (account_of user ≡ codes ".rlistings"))
  named_at member h =
      elim (or_cases (bytes_eq member user.full_name) (bytes_eq member (account_of user) && not (bytes_eq member (codes ".rlistings"))) h) [
        | inl full ↦ inl ((bytes_eq-Decides member user.full_name).0 full)
        | inr short ↦
            let both = and_parts (bytes_eq member (account_of user)) (not (bytes_eq member (codes ".rlistings"))) short in
            let is = (bytes_eq-Decides member (account_of user)).0 both.0 in
            inr (is, λ word. not_true (bytes_eq member (codes ".rlistings")) both.1 ((bytes_eq-Decides member (codes ".rlistings")).1 (is ∙ word)))
      ]

  is_named : (list : List ℕ) → names list user ≡ true → IsNamed user list
  unfolding names
  is_named list h =
      let (k, part, inside, at, p) = Any-from_list_any (λ part. is_named_by (member_in part) user) (parts_of list) h in
      elim (named_at (member_in part) p) [
        | inl full ↦ inl (k, part, inside, at, full)
        | inr short ↦ inr ((k, part, inside, at, short.0), short.1)
      ]

  names_from : (list : List ℕ) → IsNamed user list → names list user ≡ true
  unfolding names
  names_from list (inl full) =
      list_any-from_Any (λ part. is_named_by (member_in part) user) (parts_of list)
      (any_weaker (λ part. member_in part ≡ user.full_name) (λ part. is_named_by (member_in part) user ≡ true) (parts_of list)
      (λ part e. or_left _ _ ((bytes_eq-Decides (member_in part) user.full_name).1 e)) full)
  names_from list (inr (short, apart)) =
      list_any-from_Any (λ part. is_named_by (member_in part) user) (parts_of list)
      (any_weaker (λ part. member_in part ≡ account_of user) (λ part. is_named_by (member_in part) user ≡ true) (parts_of list)
      (λ part e. or_right (bytes_eq (member_in part) user.full_name) _ (and_both _ _ ((bytes_eq-Decides (member_in part) (account_of user)).1 e)
      (not_from (bytes_eq (member_in part) (codes ".rlistings")) (λ h. apart (sym e ∙ (bytes_eq-Decides (member_in part) (codes ".rlistings")).0 h))))) short)

-- ---- what lists let

module _ (account : List ℕ) (b : Bucket) (owned : b.owner ≡ account) where
  lists_grant : (asker : Option UserView) (deed : Deed) → lists_let asker deed b ≡ true → Grants account (Some b) asker deed
  lists_grant asker OwnAccount h = absurd (false≢true h)
  lists_grant None ListContainer h =
      let both = and_parts (is_public b.readers) (has_word b.readers (codes ".rlistings")) h in
      anybody_lists None b refl owned (is_member b.readers (codes ".r:*") both.0) (is_member b.readers (codes ".rlistings") both.1)
  lists_grant (Some user) ListContainer h = elim (or_cases (names b.readers user) (is_listed b.readers) h) [
    | inl named ↦ reader_lists user b refl owned (is_named user b.readers named)
    | inr by_word ↦
        let both = and_parts (is_public b.readers) (has_word b.readers (codes ".rlistings")) by_word in
        anybody_lists (Some user) b refl owned (is_member b.readers (codes ".r:*") both.0) (is_member b.readers (codes ".rlistings") both.1)
  ]
  lists_grant None ReadThing h = anybody_reads None b refl owned (is_member b.readers (codes ".r:*") h)
  lists_grant (Some user) ReadThing h = elim (or_cases (names b.readers user) (is_public b.readers) h) [
    | inl named ↦ reader_reads user b refl owned (is_named user b.readers named)
    | inr by_word ↦ anybody_reads (Some user) b refl owned (is_member b.readers (codes ".r:*") by_word)
  ]
  lists_grant None ChangeThing h = absurd (false≢true h)
  lists_grant (Some user) ChangeThing h = writer_changes user b refl owned (is_named user b.writers h)

-- ---- the table

-- somebody's deed is let
abbrev pub lets : Option UserView → List ℕ → Option Bucket → Deed → Bool
lets asker account bucket deed = is_of account asker || container_lets asker deed (found_under account bucket)

found_grant : (account : List ℕ) (b : Bucket) (asker : Option UserView) (deed : Deed) (owned : Bool) → bytes_eq b.owner account ≡ owned
    → container_lets asker deed (if owned then Some b else None) ≡ true → Grants account (Some b) asker deed
found_grant account b asker deed true is h = lists_grant account b ((bytes_eq-Decides b.owner account).0 is) asker deed h
found_grant account b asker deed false is h = absurd (false≢true h)

container_grant : (account : List ℕ) (bucket : Option Bucket) (asker : Option UserView) (deed : Deed) → container_lets asker deed (found_under account bucket) ≡ true → Grants account bucket asker deed
container_grant account None asker deed h = absurd (false≢true h)
container_grant account (Some b) asker deed h = found_grant account b asker deed (bytes_eq b.owner account) refl h

granted_for : (account : List ℕ) (bucket : Option Bucket) (asker : Option UserView) (deed : Deed) → lets asker account bucket deed ≡ true → Grants account bucket asker deed
granted_for account bucket None deed h = container_grant account bucket None deed h
granted_for account bucket (Some user) deed h = elim (or_cases (bytes_eq (account_of user) account) (container_lets (Some user) deed (found_under account bucket)) h) [
  | inl own ↦ of_the_account user deed ((bytes_eq-Decides (account_of user) account).0 own)
  | inr let_in ↦ container_grant account bucket (Some user) deed let_in
]

found_owned : (account : List ℕ) (bucket : Option Bucket) (b : Bucket) → bucket ≡ Some b → b.owner ≡ account → found_under account bucket ≡ Some b
found_owned account bucket b is owned = rw (is, (bytes_eq-Decides b.owner account).1 owned)

lets_by_list : (account : List ℕ) (bucket : Option Bucket) (asker : Option UserView) (deed : Deed) (b : Bucket) → bucket ≡ Some b → b.owner ≡ account → lists_let asker deed b ≡ true
    → lets asker account bucket deed ≡ true
lets_by_list account bucket asker deed b is owned h = or_right (is_of account asker) _ (ap (container_lets asker deed) (found_owned account bucket b is owned) ∙ h)

lets_from : (account : List ℕ) (bucket : Option Bucket) (asker : Option UserView) (deed : Deed) → Grants account bucket asker deed → lets asker account bucket deed ≡ true
lets_from account bucket _ _ (of_the_account user deed own) = or_left _ _ ((bytes_eq-Decides (account_of user) account).1 own)
lets_from account bucket _ _ (reader_reads user b is owned named) =
    lets_by_list account bucket (Some user) ReadThing b is owned (or_left _ _ (names_from user b.readers named))
lets_from account bucket _ _ (reader_lists user b is owned named) =
    lets_by_list account bucket (Some user) ListContainer b is owned (or_left _ _ (names_from user b.readers named))
lets_from account bucket _ _ (writer_changes user b is owned named) =
    lets_by_list account bucket (Some user) ChangeThing b is owned (names_from user b.writers named)
lets_from account bucket _ _ (anybody_reads asker b is owned public) =
    lets_by_list account bucket asker ReadThing b is owned (or_right (names_asker b.readers asker) _ (has_member b.readers (codes ".r:*") public))
lets_from account bucket _ _ (anybody_lists asker b is owned public listed) =
    lets_by_list account bucket asker ListContainer b is owned
    (or_right (names_asker b.readers asker) _ (and_both _ _ (has_member b.readers (codes ".r:*") public) (has_member b.readers (codes ".rlistings") listed)))

-- ---- verdicts

not_granted : (asker : Option UserView) (deed : Deed) → refused asker deed ≢ Granted
not_granted None deed h = absurd (cc)
not_granted (Some user) deed h = absurd (cc)

by_lets : (asker : Option UserView) (deed : Deed) (b : Bool) → (if b then Granted else refused asker deed) ≡ Granted → b ≡ true
by_lets asker deed true h = refl
by_lets asker deed false h = absurd (not_granted asker deed h)

pub granted_iff : (asker : Option UserView) (account : List ℕ) (bucket : Option Bucket) (deed : Deed)
    → (verdict_of asker account bucket deed ≡ Granted → Grants account bucket asker deed) × (Grants account bucket asker deed → verdict_of asker account bucket deed ≡ Granted)
granted_iff asker account bucket deed = (
  λ h. granted_for account bucket asker deed (by_lets asker deed (lets asker account bucket deed) h),
  λ g. ap (λ b. if b then Granted else refused asker deed) (lets_from account bucket asker deed g),
)

refused_by : (asker : Option UserView) (deed : Deed) (b : Bool) → b ≢ true → (if b then Granted else refused asker deed) ≡ refused asker deed
refused_by asker deed true h = absurd (h refl)
refused_by asker deed false h = refl

pub refused_else : (asker : Option UserView) (account : List ℕ) (bucket : Option Bucket) (deed : Deed) → ¬ (Grants account bucket asker deed) → verdict_of asker account bucket deed ≡ refused asker deed
refused_else asker account bucket deed none = refused_by asker deed (lets asker account bucket deed) (λ h. none (granted_for account bucket asker deed h))

-- ---- without a container, or with one that is not shown

found_own : (account : List ℕ) (asker : Option UserView) (found : Option Bucket) → container_lets asker OwnAccount found ≡ false
found_own account asker None = refl
found_own account asker (Some b) = refl

found_change : (found : Option Bucket) → container_lets None ChangeThing found ≡ false
found_change None = refl
found_change (Some b) = refl

pub own_by_account : (asker : Option UserView) (account : List ℕ) (bucket : Option Bucket) → verdict_of asker account bucket OwnAccount ≡ verdict_of asker account None OwnAccount
own_by_account asker account bucket = ap (λ b. if is_of account asker || b then Granted else refused asker OwnAccount) (found_own account asker (found_under account bucket))

pub nobody_changes : (account : List ℕ) (bucket : Option Bucket) → verdict_of None account bucket ChangeThing ≡ Unknown
nobody_changes account bucket = ap (λ b. if b then Granted else Unknown) (found_change (found_under account bucket))

either : (b : Bool) → ((if b then Granted else Unknown) ≡ Granted) ⊎ ((if b then Granted else Unknown) ≡ Unknown)
either true = inl refl
either false = inr refl

pub absent_or_granted : (account : List ℕ) (bucket : Option Bucket) (deed : Deed) → (verdict_of None account bucket deed ≡ Granted) ⊎ (verdict_of None account bucket deed ≡ Unknown)
absent_or_granted account bucket deed = either (container_lets None deed (found_under account bucket))
