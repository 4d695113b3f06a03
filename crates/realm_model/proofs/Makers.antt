-- Who may make a tail: each number of a write belongs to one actor.
use Rattle.std.proofs.Common.{◌≡◌, ℕ, ◌+◌, ◌==◌, ◌≤◌, ◌||◌, ◌⊎◌, inl, inr, not, Bool, true, false, cond, List, length, Option, Some, None, refl, ◌∙◌, subst, arith}
use Rattle.std.specs.Prelude.{IfSome}
use Rattle.rgw_types.specs.Stripes.{tails_of}
use Rattle.object_words.specs.Keys.{put}
use Rattle.object_words.proofs.KeyLemmas.{number_itself}
use Rattle.manifest.specs.Ranges.{part_size}
use Rattle.realm_model.specs.Settings.{SettingsView}
use Rattle.realm_model.specs.Tests.{is_so}
use Rattle.realm_model.specs.Ops.{zone_of}
use Rattle.realm_model.specs.Phases.{ActorId, FirstEvent, Bundle, unused, spent, Phase, fresh}
use Rattle.realm_model.specs.Needs.{is_between, is_first, is_own_write, has_sizes, tail_sizes, is_open, holder_of, has_parts, may_change_head}
use Rattle.realm_model.specs.Allowed.{meets_need, allowed}
use Rattle.realm_model.specs.Learnt.{first_after, put_bundle, own_after, reads_after, learnt}
use Rattle.realm_model.specs.declared.op.Op.{Op}
use Rattle.realm_model.specs.declared.op.Op.TheVariants.{HeadRead, HeadWrite, TailMake}
use Rattle.realm_model.specs.declared.event.Reply.{Reply}
use Rattle.realm_model.specs.declared.event.Reply.TheVariants.{Done, Head as head_reply, Changed}
use Rattle.realm_model.proofs.Computing.{left_of, right_of}
use Rattle.realm_model.proofs.ObjectLemmas.{number_same, put_cases, put_bundle_cases}

-- the event of this number was made, and by this actor
abbrev pub IsBy : (ℕ → ActorId) → ℕ → ActorId → ℕ → Type 0
IsBy by count actor number = (number ≤ count) × (by number ≡ actor)

-- an actor knows its own numbers alone
pub record KnowsOwn (by : ℕ → ActorId) (count : ℕ) (actor : ActorId) (p : Phase) : Type 0 where
  pub first : IfSome p.first (λ first. IsBy by count actor first.number)
  pub reads : (number : ℕ) → IfSome (p.stripes.reads number) (λ zone. IsBy by count actor number)
  pub own : (zone write holder : ℕ) → (p.stripes.own zone write holder ≡ unused) ⊎ IsBy by count actor write

pub fresh_knows : (by : ℕ → ActorId) (count : ℕ) (actor : ActorId) → KnowsOwn by count actor fresh
fresh_knows by count actor = record { first = tt; reads = λ number. tt; own = λ zone write holder. inl refl }

either_of : (a b : Bool) → (a || b) ≡ true → (a ≡ true) ⊎ (b ≡ true)
either_of true b is = inl refl
either_of false b is = inr is

-- ---- one event more

pub by_before : (by : ℕ → ActorId) (count number : ℕ) (maker : ActorId) → number ≤ count → put by (count + 1) maker number ≡ by number
by_before by count number maker before =
    elim (count + 1 == number) as (λ b. (count + 1 == number) ≡ b → cond b maker (by number) ≡ by number) [
      | true ↦ λ same. let is = number_same (count + 1) number same in absurd (omega (arith, is))
      | false ↦ λ apart. refl
    ] refl

pub by_now : (by : ℕ → ActorId) (number : ℕ) (maker : ActorId) → put by number maker number ≡ maker
by_now by number maker = rw (number_itself number) refl

is_by_more : (by : ℕ → ActorId) (count number : ℕ) (actor maker : ActorId) → IsBy by count actor number → IsBy (put by (count + 1) maker) (count + 1) actor number
is_by_more by count number actor maker is = (omega (arith, is.0), by_before by count number maker is.0 ∙ is.1)

first_more : (by : ℕ → ActorId) (count : ℕ) (actor maker : ActorId) (first : Option FirstEvent) → IfSome first (λ f. IsBy by count actor f.number) → IfSome first (λ f. IsBy (put by (count + 1) maker) (count + 1) actor f.number)
first_more by count actor maker None is = tt
first_more by count actor maker (Some f) is = is_by_more by count f.number actor maker is

read_more : (by : ℕ → ActorId) (count number : ℕ) (actor maker : ActorId) (read : Option ℕ) → IfSome read (λ zone. IsBy by count actor number) → IfSome read (λ zone. IsBy (put by (count + 1) maker) (count + 1) actor number)
read_more by count number actor maker None is = tt
read_more by count number actor maker (Some zone) is = is_by_more by count number actor maker is

own_more : (by : ℕ → ActorId) (count write : ℕ) (actor maker : ActorId) (b : Bundle) → (b ≡ unused) ⊎ IsBy by count actor write → (b ≡ unused) ⊎ IsBy (put by (count + 1) maker) (count + 1) actor write
own_more by count write actor maker b (inl is) = inl is
own_more by count write actor maker b (inr is) = inr (is_by_more by count write actor maker is)

-- another's event
pub knows_more : (by : ℕ → ActorId) (count : ℕ) (actor maker : ActorId) (p : Phase) → KnowsOwn by count actor p → KnowsOwn (put by (count + 1) maker) (count + 1) actor p
knows_more by count actor maker p k = record {
  first = first_more by count actor maker p.first k.first;
  reads = λ number. read_more by count number actor maker (p.stripes.reads number) (k.reads number);
  own = λ zone write holder. own_more by count write actor maker (p.stripes.own zone write holder) (k.own zone write holder);
}

-- ---- an own event

first_learnt : (by : ℕ → ActorId) (count clock : ℕ) (actor : ActorId) (first : Option FirstEvent) → IfSome first (λ f. IsBy by count actor f.number) → IfSome (first_after first (count + 1) clock) (λ f. IsBy (put by (count + 1) actor) (count + 1) actor f.number)
first_learnt by count clock actor None is = (omega arith, by_now by (count + 1) actor)
first_learnt by count clock actor (Some f) is = is_by_more by count f.number actor actor is

pub own_write : (by : ℕ → ActorId) (count : ℕ) (actor : ActorId) (p : Phase) (zone write : ℕ) → KnowsOwn by count actor p → is_own_write p zone write ≡ true → IsBy by count actor write
own_write by count actor p zone write k may =
    by_one (either_of (is_first p write) _ may) where
      by_first : (first : Option FirstEvent) → IfSome first (λ f. IsBy by count actor f.number) → is_so first (λ f. f.number == write) ≡ true → IsBy by count actor write
      by_first None is same = cc
      by_first (Some f) is same = subst (λ n. IsBy by count actor n) (number_same f.number write same) is

      by_read : (read : Option ℕ) → IfSome read (λ peer. IsBy by count actor write) → is_so read (λ peer. not (peer == zone)) ≡ true → IsBy by count actor write
      by_read None is same = cc
      by_read (Some peer) is same = is

      by_one : (is_first p write ≡ true) ⊎ (is_so (p.stripes.reads write) (λ peer. not (peer == zone)) ≡ true) → IsBy by count actor write
      by_one (inl first) = by_first p.first k.first first
      by_one (inr read) = by_read (p.stripes.reads write) (k.reads write) read

-- the write whose tails new content names is the actor's own
named_write : (by : ℕ → ActorId) (count : ℕ) (actor : ActorId) (b : Bundle) (write : ℕ) (sizes : List ℕ) → (b ≡ unused) ⊎ IsBy by count actor write → has_sizes b sizes ≡ true → IsBy by count actor write
named_write by count actor b write sizes (inr is) has = is
named_write by count actor b write sizes (inl none) has =
    absurd (let bad : false ≡ true = subst (λ x. has_sizes x sizes ≡ true) none has in cc)

abbrev pub OwnFacts : (ℕ → ActorId) → ℕ → ActorId → (ℕ → ℕ → ℕ → Bundle) → Type 0
OwnFacts by count actor own = (zone write holder : ℕ) → (own zone write holder ≡ unused) ⊎ IsBy by count actor write

own_learnt : (settings : SettingsView) (by : ℕ → ActorId) (count : ℕ) (actor : ActorId) (p : Phase) (op : Op) (reply : Reply) → KnowsOwn by count actor p → meets_need settings p op ≡ true → OwnFacts by count actor (own_after p.stripes.own op reply)
own_learnt settings by count actor p (TailMake zone write part bytes) Done k may =
    put_bundle_cases (λ z w h b. (b ≡ unused) ⊎ IsBy by count actor w) p.stripes.own zone write write _
    (inr (own_write by count actor p zone write k (left_of (is_own_write p zone write) _ may))) k.own
own_learnt settings by count actor p (HeadWrite zone container name guard new when) (Changed change) k may =
    let m = new.manifest in
    let b = p.stripes.own zone m.write (holder_of m) in
    let parts = right_of (may_change_head p zone container name guard) (has_parts p zone new) may in
    let tails = right_of (length new.first == part_size m 0) (cond (tails_of m == 0) (not (is_open b)) (has_sizes b (tail_sizes m))) parts in
    elim (tails_of m == 0) as (λ none. cond none (not (is_open b)) (has_sizes b (tail_sizes m)) ≡ true → OwnFacts by count actor (cond none p.stripes.own (put_bundle p.stripes.own zone m.write (holder_of m) spent))) [
      | true ↦ λ is. k.own
      | false ↦ λ has.
          put_bundle_cases (λ z w h x. (x ≡ unused) ⊎ IsBy by count actor w) p.stripes.own zone m.write (holder_of m) spent
          (inr (named_write by count actor b m.write (tail_sizes m) (k.own zone m.write (holder_of m)) has)) k.own
    ] tails
own_learnt settings by count actor p op reply k may = k.own

reads_learnt : (by : ℕ → ActorId) (count : ℕ) (actor : ActorId) (reads : ℕ → Option ℕ) (op : Op) (reply : Reply) → ((n : ℕ) → IfSome (reads n) (λ zone. IsBy by count actor n)) → (n : ℕ) → IfSome (reads_after reads op reply (count + 1) n) (λ zone. IsBy (put by (count + 1) actor) (count + 1) actor n)
reads_learnt by count actor reads (HeadRead zone container name) (head_reply head clock) is n =
    put_cases (λ q r. IfSome r (λ peer. IsBy (put by (count + 1) actor) (count + 1) actor q)) reads (count + 1) (Some zone)
    (omega arith, by_now by (count + 1) actor) (λ q. read_more by count q actor actor (reads q) (is q)) n
reads_learnt by count actor reads op reply is n = read_more by count n actor actor (reads n) (is n)

pub knows_learnt : (settings : SettingsView) (by : ℕ → ActorId) (count clock : ℕ) (actor : ActorId) (p : Phase) (op : Op) (reply : Reply) → KnowsOwn by count actor p → allowed settings p op ≡ true → KnowsOwn (put by (count + 1) actor) (count + 1) actor (learnt p op reply (count + 1) clock)
knows_learnt settings by count clock actor p op reply k may =
    let need = right_of (is_between 1 settings.zones (zone_of op)) (meets_need settings p op) may in
    let own = own_learnt settings by count actor p op reply k need in
    record {
      first = first_learnt by count clock actor p.first k.first;
      reads = reads_learnt by count actor p.stripes.reads op reply k.reads;
      own = λ zone write holder. own_more by count write actor actor _ (own zone write holder);
    }
