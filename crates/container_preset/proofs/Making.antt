-- What the maker of a container knows, and may do next.
use Rattle.std.proofs.Common.{◌≡◌, ℕ, ◌+◌, ◌≤◌, ◌==◌, ◌&&◌, not, Bool, true, false, cond, List, Option, Some, None, refl, ap, ◌∙◌, arith}
use Rattle.std.proofs.lemmas.Bool.Decides.{nat_tests}
use Rattle.object_words.specs.declared.why.Why.{Why}
use Rattle.object_words.specs.Keys.{is_key, put, shard_key}
use Rattle.object_words.specs.Limits.{is_name, shard_limit}
use Rattle.object_words.specs.Names.{at, none}
use Rattle.object_words.specs.Roots.{version_of}
use Rattle.object_words.proofs.KeyLemmas.{key_itself, number_itself}
use Rattle.object_words.proofs.NameLemmas.{at-with_name, name_itself}
use Rattle.realm_model.specs.Allowed.{allowed}
use Rattle.realm_model.specs.Learnt.{first_after, learnt}
use Rattle.realm_model.specs.Needs.{bucket_limit, is_form, is_between}
use Rattle.realm_model.specs.Phases.{FirstEvent, OwnShards, Phase, fresh}
use Rattle.realm_model.specs.Settings.{SettingsView, IsSettings}
use Rattle.realm_model.specs.Tests.{is_so}
use Rattle.realm_model.specs.declared.event.Reply.TheVariants.{Done, No}
use Rattle.realm_model.specs.declared.op.Op.TheVariants.{BucketRead}
use Rattle.container_preset.specs.Presets.{IsMaker, new_row, row_op, shard_op}

pub zone_one : (settings : SettingsView) → 1 ≤ settings.zones → is_between 1 settings.zones 1 ≡ true
zone_one settings some = grind (arith, nat_tests)

both : (a b : Bool) → a ≡ true → b ≡ true → (a && b) ≡ true
both a b x y = rw x y

pub may_read : (settings : SettingsView) (p : Phase) (name : List ℕ) → 1 ≤ settings.zones → allowed settings p (BucketRead 1 name) ≡ true
may_read settings p name some = both (is_between 1 settings.zones 1) true (zone_one settings some) refl

pub found_none : (name : List ℕ) (why : Why) (number clock : ℕ) → IsMaker (learnt fresh (BucketRead 1 name) (No why) number clock) name number 0
found_none name why number clock = record {
  first = (clock, refl);
  read = (
    number,
    at-with_name none name (record { row = None; at = number }) name ∙ ap (λ b. cond b (Some (record { row = None; at = number })) (at none name)) (name_itself name),
  );
  counts = refl;
  filled = refl;
  placed = refl;
}

next_shard : (first : Option FirstEvent) (own : OwnShards) (id made clock : ℕ) → first ≡ Some (record { number = id; clock = clock }) → own.made ≡ made → own.filled ≡ false
    → (is_so first (λ f. is_key (shard_key id f.number own.made) (shard_key id id made)) && not own.filled) ≡ true
next_shard first own id made clock is_first is_made filled =
    both (is_so first (λ f. is_key (shard_key id f.number own.made) (shard_key id id made))) (not own.filled)
    (ap (λ o. is_so o (λ f. is_key (shard_key id f.number own.made) (shard_key id id made))) is_first
    ∙ (ap (λ n. is_key (shard_key id id n) (shard_key id id made)) is_made ∙ key_itself (shard_key id id made)))
    (ap not filled)

pub may_make : (settings : SettingsView) (p : Phase) (name : List ℕ) (id made : ℕ) → 1 ≤ settings.zones → IsMaker p name id made → allowed settings p (shard_op id made) ≡ true
may_make settings p name id made some maker =
    both (is_between 1 settings.zones 1) _ (zone_one settings some) (next_shard p.first (p.shards 1 id) id made maker.first.0 maker.first.1 maker.counts maker.filled)

still_first : (first : Option FirstEvent) (id clock number now : ℕ) → first ≡ Some (record { number = id; clock = clock }) → first_after first number now ≡ Some (record { number = id; clock = clock })
still_first first id clock number now is = ap (λ o. first_after o number now) is

put_here : {A : Type 0} (f : ℕ → A) (n : ℕ) (x : A) → put f n x n ≡ x
put_here f n x = ap (λ b. cond b x (f n)) (number_itself n)

pub made_more : (p : Phase) (name : List ℕ) (id made number clock : ℕ) → IsMaker p name id made → IsMaker (learnt p (shard_op id made) Done number clock) name id (made + 1)
made_more p name id made number clock maker =
    let own : OwnShards = record (p.shards 1 id) { made = (p.shards 1 id).made + 1 } in
    let here = put_here (p.shards 1) id own in
    record {
      first = (maker.first.0, still_first p.first id maker.first.0 number clock maker.first.1);
      read = maker.read;
      counts = ap (λ (o : OwnShards). o.made) here ∙ ap (λ n. n + 1) maker.counts;
      filled = ap (λ (o : OwnShards). o.filled) here ∙ maker.filled;
      placed = ap (λ (o : OwnShards). o.placed) here ∙ maker.placed;
    }

same_first : (first : Option FirstEvent) (id clock : ℕ) → first ≡ Some (record { number = id; clock = clock }) → is_so first (λ f. f.number == id) ≡ true
same_first first id clock is = ap (λ o. is_so o (λ f. f.number == id)) is ∙ number_itself id

within_limit : (n : ℕ) → 1 ≤ n → n ≤ 1999 → is_between 1 shard_limit n ≡ true
within_limit n least most = grind (arith, nat_tests)

may_form : (p : Phase) (settings : SettingsView) (name owner : List ℕ) (id : ℕ) → IsSettings settings → is_name bucket_limit name ≡ true → IsMaker p name id settings.shards → is_form p 1 name None (Some (new_row settings owner id)) ≡ true
may_form p settings name owner id good named maker =
    let first = same_first p.first id maker.first.0 maker.first.1 in
    let counted : (settings.shards == (p.shards 1 id).made) ≡ true = ap (λ n. settings.shards == n) maker.counts ∙ number_itself settings.shards in
    both (is_so p.first (λ f. f.number == id)) _ first
    (both (settings.shards == (p.shards 1 id).made) _ counted
    (both (is_between 1 shard_limit settings.shards) _ (within_limit settings.shards (good.shards).least (good.shards).most)
    (both (not (p.shards 1 id).placed) _ (ap not maker.placed)
    (both (is_name bucket_limit name) _ named first))))

pub may_swap : (settings : SettingsView) (p : Phase) (name owner : List ℕ) (id : ℕ) → IsSettings settings → is_name bucket_limit name ≡ true → IsMaker p name id settings.shards → allowed settings p (row_op settings name owner id) ≡ true
may_swap settings p name owner id good named maker =
    both (is_between 1 settings.zones 1) _ (zone_one settings (good.zones).least)
    (ap (λ o. is_so o (λ read. version_of read.row == 0 && is_form p 1 name read.row (Some (new_row settings owner id)))) maker.read.1
    ∙ may_form p settings name owner id good named maker)
