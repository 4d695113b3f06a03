-- What holds after one entry or one head changed.
use Rattle.std.proofs.Common.{◌≡◌, ℕ, ◌==◌, true, false, cond, List, Option, Some, None, refl, sym, subst, ap, ◌∙◌}
use Rattle.std.specs.Prelude.{bytes_eq}
use Rattle.std.proofs.lemmas.Slice.Eq.{bytes_eq-Decides}
use Rattle.rgw_types.specs.declared.pool_key.Key.{Key}
use Rattle.object_words.specs.declared.why.Why.{Why}
use Rattle.object_words.specs.declared.why.Why.TheVariants.{Closed}
use Rattle.object_words.specs.Keys.{put, put_key, is_key, head_key}
use Rattle.object_words.specs.Names.{at}
use Rattle.object_words.specs.Entries.{EntryView, entry_of}
use Rattle.object_words.specs.Heads.{Head}
use Rattle.object_words.specs.Refusals.{unless_refused}
use Rattle.object_words.specs.ShardCalls.{made}
use Rattle.object_words.specs.Shards.{Shard, entry_at, with_entry}
use Rattle.object_words.proofs.KeyLemmas.{same_key, key_itself, same_text, number_itself}
use Rattle.object_words.proofs.NameLemmas.{is_name_of, name_itself, at-none}
use Rattle.realm_model.specs.States.{put_in}
use Rattle.realm_model.specs.Steps.{reply_or, on_shard, change_at}
use Rattle.realm_model.specs.Containers.{entry_in}
use Rattle.realm_model.specs.Phases.{ActorId, Phase}
use Rattle.realm_model.specs.Worlds.{put_name, same_actor, put_actor}
use Rattle.realm_model.proofs.Others.{same_is}
use Rattle.realm_model.specs.declared.event.Reply.{Reply}
use Rattle.realm_model.specs.declared.event.Reply.TheVariants.{No}
use Rattle.realm_model.proofs.EntryLemmas.{kept_or_none, at-with_entry}
use Rattle.realm_model.proofs.ObjectLemmas.{number_same, put_in_cases}
use Rattle.realm_model.proofs.TouchLemmas.{put_in_same}
use Rattle.index_law.specs.Tables.{entries_of, heads_of}

-- an entry of which nothing is left counts as none
abbrev pub kept_entry : EntryView → EntryView
kept_entry e = entry_of (kept_or_none e)

-- ---- one entry

pub entry_cases : (R : ℕ → Key → List ℕ → EntryView → Type 0) (shards : ℕ → Key → Option Shard) (zone : ℕ) (key : Key) (name : List ℕ) (s : Shard) (e : EntryView)
    → ((n : List ℕ) → entry_at s n ≡ entry_in (shards zone key) n)
    → R zone key name (kept_entry e)
    → ((z : ℕ) (k : Key) (n : List ℕ) → R z k n (entries_of shards z k n))
    → (z : ℕ) (k : Key) (n : List ℕ) → R z k n (entries_of (put_in shards zone key (Some (with_entry s name e))) z k n)
entry_cases R shards zone key name s e same here else z k n =
    put_in_cases (λ z k x. (m : List ℕ) → R z k m (entry_in x m)) shards zone key (Some (with_entry s name e)) at_key else z k n where
      at_key : (m : List ℕ) → R zone key m (entry_at (with_entry s name e) m)
      at_key m =
          rw (at-with_entry s name e m) (
          elim (is_name_of m name) as (λ b. is_name_of m name ≡ b → R zone key m (entry_of (cond b (kept_or_none e) (at s.entries m)))) [
            | true ↦ λ is. subst (λ q. R zone key q (kept_entry e)) (sym (same_text m name is)) here
            | false ↦ λ apart. subst (λ x. R zone key m x) (sym (same m)) (else zone key m)
          ] refl)

pub entry_here : (shards : ℕ → Key → Option Shard) (zone : ℕ) (key : Key) (name : List ℕ) (s : Shard) (e : EntryView) → entries_of (put_in shards zone key (Some (with_entry s name e))) zone key name ≡ kept_entry e
entry_here shards zone key name s e = rw (number_itself zone, key_itself key) (rw (at-with_entry s name e name) (rw (name_itself name) refl))

-- a shard that is made has no entry; one that is there stays
pub made_cases : (R : ℕ → Key → List ℕ → EntryView → Type 0) (shards : ℕ → Key → Option Shard) (zone : ℕ) (key : Key)
    → ((z : ℕ) (k : Key) (n : List ℕ) → R z k n (entries_of shards z k n))
    → (z : ℕ) (k : Key) (n : List ℕ) → R z k n (entries_of (put_in shards zone key (made (shards zone key))) z k n)
made_cases R shards zone key else =
    put_in_cases (λ z k x. (m : List ℕ) → R z k m (entry_in x m)) shards zone key (made (shards zone key)) (λ m. subst (λ e. R zone key m e) (sym (same (shards zone key) m)) (else zone key m)) else where
      same : (s : Option Shard) (m : List ℕ) → entry_in (made s) m ≡ entry_in s m
      same None m = rw at-none refl
      same (Some s) m = refl

-- a call on a shard is refused and changes nothing, or is done
pub call_cases : (P : (ℕ → Key → Option Shard) → Reply → Type 0) (shards : ℕ → Key → Option Shard) (zone : ℕ) (key : Key) (refusal : Shard → Option Why) (new : Shard → Shard) (reply : Shard → Reply)
    → ((why : Why) → P shards (No why))
    → ((s : Shard) → shards zone key ≡ Some s → refusal s ≡ None → P (put_in shards zone key (Some (new s))) (reply s))
    → P (put_in shards zone key (change_at (shards zone key) (λ s. unless_refused (refusal s) s (new s)))) (on_shard (shards zone key) (λ s. reply_or (reply s) (refusal s)))
call_cases P shards zone key refusal new reply refused done =
    elim (shards zone key) as (λ o. shards zone key ≡ o → P (put_in shards zone key (change_at o (λ s. unless_refused (refusal s) s (new s)))) (on_shard o (λ s. reply_or (reply s) (refusal s)))) [
      | None ↦ λ is. subst (λ f. P f (No Closed)) (sym (stays None is)) (refused Closed)
      | Some s ↦ λ is.
          elim (refusal s) as (λ r. refusal s ≡ r → P (put_in shards zone key (Some (unless_refused r s (new s)))) (reply_or (reply s) r)) [
            | None ↦ λ none. done s is none
            | Some why ↦ λ some. subst (λ f. P f (No why)) (sym (stays (Some s) is)) (refused why)
          ] refl
    ] refl where
      stays : (o : Option Shard) → shards zone key ≡ o → put_in shards zone key o ≡ shards
      stays o is = ap (λ x. put_in shards zone key x) (sym is) ∙ put_in_same shards zone key

-- ---- one head, and the last tag of its name

module _ (last : ℕ → List ℕ → Option ℕ) (container : ℕ) (name : List ℕ) (tag : Option ℕ) where
  last_here : put last container (put_name (last container) name tag) container name ≡ tag
  last_here = rw (number_itself container, (bytes_eq-Decides name name).1 refl) refl

  last_else : (c : ℕ) (n : List ℕ) → is_key (head_key container name) (head_key c n) ≡ false → put last container (put_name (last container) name tag) c n ≡ last c n
  last_else c n apart =
      elim (container == c) as (λ b. (container == c) ≡ b → cond b (put_name (last container) name tag) (last c) n ≡ last c n) [
        | true ↦ λ is.
            elim (bytes_eq n name) as (λ d. bytes_eq n name ≡ d → cond d tag (last container n) ≡ last c n) [
              | true ↦ λ same.
                  let container_is = number_same container c is in
                  let name_is = sym ((bytes_eq-Decides n name).0 same) in
                  let key : head_key container name ≡ head_key c n = λ i. head_key (container_is i) (name_is i) in
                  let itself = subst (λ k. is_key (head_key container name) k ≡ true) key (key_itself (head_key container name)) in
                  cc (itself, apart)
              | false ↦ λ other. ap (λ d. last d n) (number_same container c is)
            ] refl
        | false ↦ λ other. refl
      ] refl

container_of_head : (c d : ℕ) (n m : List ℕ) → head_key c n ≡ head_key d m → c ≡ d
container_of_head c d n m same = cc

name_of_head : (c d : ℕ) (n m : List ℕ) → head_key c n ≡ head_key d m → n ≡ m
name_of_head c d n m same = cc

pub head_here : (heads : ℕ → Key → Head) (zone container : ℕ) (name : List ℕ) (head : Head) → heads_of (put_in heads zone (head_key container name) head) zone container name ≡ head
head_here heads zone container name head = rw (number_itself zone, key_itself (head_key container name)) refl

-- at another name
abbrev pub Elsewhere : ℕ → ℕ → List ℕ → ℕ → ℕ → List ℕ → Type 0
Elsewhere zone container name z c n = zone ≡ z → container ≡ c → name ≡ n → ⊥

pub head_cases : (R : ℕ → ℕ → List ℕ → Head → Option ℕ → Type 0) (heads : ℕ → Key → Head) (last : ℕ → ℕ → List ℕ → Option ℕ) (zone container : ℕ) (name : List ℕ) (head : Head) (tag : Option ℕ)
    → R zone container name head tag
    → ((z c : ℕ) (n : List ℕ) → Elsewhere zone container name z c n → R z c n (heads_of heads z c n) (last z c n))
    → (z c : ℕ) (n : List ℕ) → R z c n (heads_of (put_in heads zone (head_key container name) head) z c n) (put last zone (put (last zone) container (put_name (last zone container) name tag)) z c n)
head_cases R heads last zone container name head tag here else z c n =
    elim (zone == z) as (λ b. (zone == z) ≡ b → R z c n (cond b (put_key (heads zone) (head_key container name) head) (heads z) (head_key c n)) (cond b lasts (last z) c n)) [
      | true ↦ λ is. subst (λ y. R y c n (put_key (heads zone) (head_key container name) head (head_key c n)) (lasts c n)) (number_same zone z is) (in_zone c n)
      | false ↦ λ other. else z c n (λ same a b. absurd (let self = subst (λ y. (zone == y) ≡ true) same (number_itself zone) in cc))
    ] refl where
      lasts : ℕ → List ℕ → Option ℕ
      lasts = put (last zone) container (put_name (last zone container) name tag)

      in_zone : (c : ℕ) (n : List ℕ) → R zone c n (put_key (heads zone) (head_key container name) head (head_key c n)) (lasts c n)
      in_zone c n =
          elim (is_key (head_key container name) (head_key c n)) as (λ b. is_key (head_key container name) (head_key c n) ≡ b → R zone c n (cond b head (heads zone (head_key c n))) (lasts c n)) [
            | true ↦ λ is.
                let key = same_key (head_key container name) (head_key c n) is in
                let now = subst (λ l. R zone container name head l) (sym (last_here (last zone) container name tag)) here in
                let at_name = subst (λ m. R zone container m head (lasts container m)) (name_of_head container c name n key) now in
                subst (λ d. R zone d n head (lasts d n)) (container_of_head container c name n key) at_name
            | false ↦ λ apart.
                subst (λ l. R zone c n (heads zone (head_key c n)) l) (sym (last_else (last zone) container name tag c n apart))
                (else zone c n (λ a is_container is_name.
                let key : head_key container name ≡ head_key c n = λ i. head_key (is_container i) (is_name i) in
                absurd (let self = subst (λ k. is_key (head_key container name) k ≡ true) key (key_itself (head_key container name)) in cc)))
          ] refl

-- ---- one actor

pub phase_cases : (R : ActorId → Phase → Type 0) (phases : ActorId → Phase) (me : ActorId) (p : Phase) → R me p → ((a : ActorId) → same_actor a me ≡ false → R a (phases a)) → (a : ActorId) → R a (put_actor phases me p a)
phase_cases R phases me p here else a =
    elim (same_actor a me) as (λ b. same_actor a me ≡ b → R a (cond b p (phases a))) [
      | true ↦ λ same. subst (λ q. R q p) (same_is a me same) here
      | false ↦ λ apart. else a apart
    ] refl
