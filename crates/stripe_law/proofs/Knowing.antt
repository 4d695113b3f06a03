-- What each actor knows of numbers: its own event more, and another's.
use Rattle.std.proofs.Common.{nat_le, ◌≤◌, ◌≡◌, ℕ, ◌+◌, ◌==◌, ◌||◌, ◌⊎◌, inl, inr, not, Bool, true, false, cond, Option, Some, None, refl, ◌∙◌, subst, arith}
use Rattle.std.specs.Prelude.{IfSome}
use Rattle.std.proofs.lemmas.Bool.Decides.{nat_tests}
use Rattle.rgw_types.specs.Stripes.{ManifestView, tails_of}
use Rattle.object_words.specs.Keys.{put}
use Rattle.realm_model.specs.Tests.{is_so}
use Rattle.realm_model.specs.Phases.{ActorId, FirstEvent, Bundle, unused, Phase}
use Rattle.realm_model.specs.Needs.{is_first, is_own_write}
use Rattle.realm_model.specs.Learnt.{first_after}
use Rattle.realm_model.specs.Facts.{replaced, Ledger}
use Rattle.realm_model.specs.Worlds.{put_actor}
use Rattle.realm_model.proofs.ObjectLemmas.{number_same, put_cases}
use Rattle.realm_model.proofs.Makers.{by_before, by_now}
use Rattle.stripe_law.specs.Ids.{IsBy, OwnHolders, KnowsIds, Ids}
use Rattle.stripe_law.specs.Olds.{IsReplaced, OldsAt}
use Rattle.stripe_law.specs.Makers.{no_ledger, Makers}
use Rattle.stripe_law.proofs.Puts.{put_actor_apart}

pub if_some_more : {A : Type 0} (P Q : A → Type 0) (o : Option A) → ((x : A) → P x → Q x) → IfSome o P → IfSome o Q
if_some_more P Q None more is = tt
if_some_more P Q (Some x) more is = more x is

pub at_least : (low n : ℕ) → nat_le low n ≡ true → low ≤ n
at_least low n is = grind (arith, nat_tests)

-- a manifest that was replaced stays where it is, if its place does
pub olds_more : (a : ActorId) (olds : ℕ → ℕ → ℕ → Option ManifestView) (ledger ledger' : ℕ → ℕ → ℕ → Ledger)
    → ((z w h n : ℕ) → ledger z w h ≡ record { count = n; place = replaced a } → ledger' z w h ≡ record { count = n; place = replaced a })
    → OldsAt a olds ledger → OldsAt a olds ledger'
olds_more a olds ledger ledger' more are z w h =
    if_some_more (λ (m : ManifestView). IsReplaced a w h m (ledger z w h)) (λ m. IsReplaced a w h m (ledger' z w h)) (olds z w h)
    (λ m is. record { of_write = is.of_write; of_holder = is.of_holder; has_tails = is.has_tails; place = more z w h (tails_of m) is.place }) (are z w h)

-- ---- one event more

module _ (by : ℕ → ActorId) (count : ℕ) (maker : ActorId) where
  pub is_by_more : (actor : ActorId) (number : ℕ) → IsBy by count actor number → IsBy (put by (count + 1) maker) (count + 1) actor number
  is_by_more actor number is = (omega (arith, is.0), by_before by count number maker is.0 ∙ is.1)

  pub is_by_now : IsBy (put by (count + 1) maker) (count + 1) maker (count + 1)
  is_by_now = (omega arith, by_now by (count + 1) maker)

  holders_more : (actor : ActorId) (own : ℕ → ℕ → ℕ → Bundle) → OwnHolders by count actor own → OwnHolders (put by (count + 1) maker) (count + 1) actor own
  holders_more actor own is z w h =
      elim (is z w h) [
        | inl none ↦ inl none
        | inr at ↦ inr (is_by_more actor h at)
      ]

  first_more : (actor : ActorId) (first : Option FirstEvent) → IfSome first (λ f. IsBy by count actor f.number) → IfSome first (λ f. IsBy (put by (count + 1) maker) (count + 1) actor f.number)
  first_more actor first is = if_some_more (λ (f : FirstEvent). IsBy by count actor f.number) (λ f. IsBy (put by (count + 1) maker) (count + 1) actor f.number) first (λ f at. is_by_more actor f.number at) is

  first_learnt : (clock : ℕ) (first : Option FirstEvent) → IfSome first (λ f. IsBy by count maker f.number) → IfSome (first_after first (count + 1) clock) (λ f. IsBy (put by (count + 1) maker) (count + 1) maker f.number)
  first_learnt clock None is = is_by_now
  first_learnt clock (Some f) is = is_by_more maker f.number is

  reads_more : (actor : ActorId) (reads : ℕ → Option ℕ) → ((n : ℕ) → IfSome (reads n) (λ zone. IsBy by count actor n)) → (n : ℕ) → IfSome (reads n) (λ zone. IsBy (put by (count + 1) maker) (count + 1) actor n)
  reads_more actor reads is n = if_some_more (λ (zone : ℕ). IsBy by count actor n) (λ zone. IsBy (put by (count + 1) maker) (count + 1) actor n) (reads n) (λ zone at. is_by_more actor n at) (is n)

  -- another's event
  others_know : (actor : ActorId) (first : Option FirstEvent) (reads : ℕ → Option ℕ) (own : ℕ → ℕ → ℕ → Bundle) → KnowsIds by count actor first reads own → KnowsIds (put by (count + 1) maker) (count + 1) actor first reads own
  others_know actor first reads own k = record {
    first_is = first_more actor first k.first_is;
    reads_are = reads_more actor reads k.reads_are;
    holders_are = holders_more actor own k.holders_are;
  }

  -- an own event that used no further bundle
  pub own_knows : (clock : ℕ) (first : Option FirstEvent) (reads : ℕ → Option ℕ) (own own' : ℕ → ℕ → ℕ → Bundle) → KnowsIds by count maker first reads own → OwnHolders by count maker own' → KnowsIds (put by (count + 1) maker) (count + 1) maker (first_after first (count + 1) clock) reads own'
  own_knows clock first reads own own' k used = record {
    first_is = first_learnt clock first k.first_is;
    reads_are = reads_more maker reads k.reads_are;
    holders_are = holders_more maker own' used;
  }

  -- an own read of a head
  pub read_knows : (clock zone : ℕ) (first : Option FirstEvent) (reads : ℕ → Option ℕ) (own : ℕ → ℕ → ℕ → Bundle) → KnowsIds by count maker first reads own → KnowsIds (put by (count + 1) maker) (count + 1) maker (first_after first (count + 1) clock) (put reads (count + 1) (Some zone)) own
  read_knows clock zone first reads own k = record {
    first_is = first_learnt clock first k.first_is;
    reads_are = put_cases (λ q r. IfSome r (λ peer. IsBy (put by (count + 1) maker) (count + 1) maker q)) reads (count + 1) (Some zone) is_by_now (reads_more maker reads k.reads_are);
    holders_are = holders_more maker own k.holders_are;
  }

  pub ids_next : (phases : ActorId → Phase) (p : Phase) → Ids by count phases → KnowsIds (put by (count + 1) maker) (count + 1) maker p.first p.stripes.reads p.stripes.own → Ids (put by (count + 1) maker) (count + 1) (put_actor phases maker p)
  ids_next phases p ids now =
      put_actor_apart (λ a q. KnowsIds (put by (count + 1) maker) (count + 1) a q.first q.stripes.reads q.stripes.own) phases maker p now
      (λ a other. others_know a (phases a).first (phases a).stripes.reads (phases a).stripes.own (ids a))

  -- ---- makers

  -- what its actor has not used, also by a number that is given now, was not used before
  pub makers_before : (phases phases' : ActorId → Phase) (ledger : ℕ → ℕ → ℕ → Ledger) → Ids by count phases → Makers by phases ledger
      → ((a : ActorId) (z w h : ℕ) → (phases' a).stripes.own z w h ≡ unused → (phases a).stripes.own z w h ≡ unused)
      → (z w h : ℕ) → (phases' (put by (count + 1) maker h)).stripes.own z w h ≡ unused → ledger z w h ≡ no_ledger
  makers_before phases phases' ledger ids makers fewer z w h =
      elim (count + 1 == h) as (λ b. (count + 1 == h) ≡ b → (phases' (cond b maker (by h))).stripes.own z w h ≡ unused → ledger z w h ≡ no_ledger) [
        | true ↦ λ same none. elim ((ids (by h)).holders_are z w h) [
          | inl is ↦ makers z w h is
          | inr at ↦ let is = number_same (count + 1) h same in let low = at.0 in absurd (omega (arith, is, low))
        ]
        | false ↦ λ apart none. makers z w h (fewer (by h) z w h none)
      ] refl

-- ---- the write of a tail that may be made is the actor's own

first_own : (by : ℕ → ActorId) (count : ℕ) (actor : ActorId) (write : ℕ) (first : Option FirstEvent) → IfSome first (λ f. IsBy by count actor f.number) → is_so first (λ f. f.number == write) ≡ true → IsBy by count actor write
first_own by count actor write None is same = cc
first_own by count actor write (Some f) is same = subst (λ n. IsBy by count actor n) (number_same f.number write same) is

read_own : (by : ℕ → ActorId) (count : ℕ) (actor : ActorId) (zone write : ℕ) (read : Option ℕ) → IfSome read (λ peer. IsBy by count actor write) → is_so read (λ peer. not (peer == zone)) ≡ true → IsBy by count actor write
read_own by count actor zone write None is same = cc
read_own by count actor zone write (Some peer) is same = is

pub either_of : (a b : Bool) → (a || b) ≡ true → (a ≡ true) ⊎ (b ≡ true)
either_of true b is = inl refl
either_of false b is = inr is

pub write_own : (by : ℕ → ActorId) (count : ℕ) (actor : ActorId) (p : Phase) (zone write : ℕ) → KnowsIds by count actor p.first p.stripes.reads p.stripes.own → is_own_write p zone write ≡ true → IsBy by count actor write
write_own by count actor p zone write k may =
    elim (either_of (is_first p write) (is_so (p.stripes.reads write) (λ peer. not (peer == zone))) may) [
      | inl first ↦ first_own by count actor write p.first k.first_is first
      | inr read ↦ read_own by count actor zone write (p.stripes.reads write) (k.reads_are write) read
    ]
