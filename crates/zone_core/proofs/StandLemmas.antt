-- The objects of a zone after one of them changed.
use Rattle.std.proofs.Common.{◌≡◌, ◌≢◌, ℕ, ◌==◌, Bool, true, false, cond, List, Option, refl, sym, ap, ◌∙◌, subst}
use Rattle.std.proofs.lemmas.Bool.{true≢false}
use Rattle.rgw_types.specs.declared.pool_key.Key.{Key}
use Rattle.rgw_types.specs.declared.pool_key.Key.TheVariants.{Root, Head, Tail, Changes}
use Rattle.object_pool.specs.Objects.{KeepsOthers, PoolView, object_at}
use Rattle.object_words.specs.Heads.{Head as HeadOf, first_bytes}
use Rattle.object_words.specs.Keys.{is_key, is_shard_key, put, put_key}
use Rattle.object_words.specs.Logs.{Log}
use Rattle.object_words.specs.Roots.{Root as RootOf}
use Rattle.object_words.specs.Shards.{Shard as ShardOf}
use Rattle.object_words.specs.Tails.{Tail as TailOf}
use Rattle.object_words.proofs.KeyLemmas.{key_itself, number_itself, same_key}
use Rattle.class_words.specs.Shards.{IsShardOr}
use Rattle.cls_head.specs.Heads.{IsHead}
use Rattle.cls_head.specs.Tails.{IsTail}
use Rattle.cls_record.specs.RootObjects.{IsRoot}
use Rattle.realm_model.specs.Settings.{SettingsView}
use Rattle.realm_model.specs.States.{State, at_changes, at_head, at_root, at_shard, at_tail, free_after, put_in, touched}
use Rattle.cls_log.specs.LogObjects.{IsLogObject}
use Rattle.zone_core.specs.Stands.{Stands}

-- ---- kinds of keys

abbrev is_root : Key → Bool
is_root Root = true
is_root key = false

abbrev is_changes : Key → Bool
is_changes Changes = true
is_changes key = false

abbrev is_head : Key → Bool
is_head (Head container name) = true
is_head key = false

abbrev is_tail : Key → Bool
is_tail (Tail write part) = true
is_tail key = false

-- a key that fails a test is not one that passes it
apart_by : (test : Key → Bool) (q key : Key) → test key ≡ true → test q ≡ false → q ≢ key
apart_by test q key passes fails same = true≢false (sym passes ∙ ap test (sym same) ∙ fails)

-- ---- functions that have another value at one zone and key

pub put_here : {A : Type 0} (f : ℕ → A) (zone : ℕ) (x : A) → put f zone x zone ≡ x
put_here f zone x = ap (λ b. cond b x (f zone)) (number_itself zone)

pub put_else : {A : Type 0} (f : ℕ → A) (zone other : ℕ) (x : A) → (zone == other) ≡ false → put f zone x other ≡ f other
put_else f zone other x apart = ap (λ b. cond b x (f other)) apart

pub in_here : {A : Type 0} (f : ℕ → Key → A) (zone : ℕ) (key : Key) (x : A) → put_in f zone key x zone key ≡ x
in_here f zone key x = ap (λ g. g key) (put_here f zone (put_key (f zone) key x)) ∙ ap (λ b. cond b x (f zone key)) (key_itself key)

pub in_else : {A : Type 0} (f : ℕ → Key → A) (zone : ℕ) (key q : Key) (x : A) → is_key key q ≡ false → put_in f zone key x zone q ≡ f zone q
in_else f zone key q x apart = ap (λ g. g q) (put_here f zone (put_key (f zone) key x)) ∙ ap (λ b. cond b x (f zone q)) apart

keys_apart : (key q : Key) → is_key key q ≡ false → q ≢ key
keys_apart key q apart same = true≢false (sym (key_itself key) ∙ ap (is_key key) (sym same) ∙ apart)

-- a property of the object of a key, where that key or another one was touched
module _ {A : Type 0} (Is : Key → A → Type 0) (f : ℕ → Key → A) (zone : ℕ) (key q : Key) (x : A) where
  pub after_put : Is key x → (q ≢ key → Is q (f zone q)) → Is q (put_in f zone key x zone q)
  after_put here others = elim (is_key key q) as (λ b. is_key key q ≡ b → Is q (put_in f zone key x zone q)) [
    | true ↦ λ t.
        let same : key ≡ q = same_key key q t in
        subst (λ k. Is k (put_in f zone key x zone k)) same (subst (Is key) (sym (in_here f zone key x)) here)
    | false ↦ λ t. subst (Is q) (sym (in_else f zone key q x t)) (others (keys_apart key q t))
  ] refl

-- ---- one object changed

module _ (settings : SettingsView) (zone : ℕ) (p f : PoolView) (st : State) (stands : Stands settings zone p st) where
  pub stands_root : (root : RootOf) → KeepsOthers p f Root → f.frame ≡ p.frame → f.free ≡ p.free → IsRoot (object_at f Root) root
      → Stands settings zone f (touched settings st (at_root zone root))
  stands_root root others frame free here = record {
    root = subst (IsRoot (object_at f Root)) (sym (put_here st.root zone root)) here;
    shards = λ key is. subst (λ o. IsShardOr o (st.shards zone key)) (sym (others key (λ same. true≢false (sym is ∙ ap is_shard_key same)))) (stands.shards key is);
    heads = λ container name. subst (λ o. IsHead o (st.heads zone (Head container name))) (sym (others (Head container name) (apart_by is_root (Head container name) Root refl refl))) (stands.heads container name);
    tails = λ write part. subst (λ o. IsTail o (st.tails zone (Tail write part))) (sym (others (Tail write part) (apart_by is_root (Tail write part) Root refl refl))) (stands.tails write part);
    changes = subst (λ o. IsLogObject o (st.changes zone)) (sym (others Changes (apart_by is_root Changes Root refl refl))) stands.changes;
    frame = frame ∙ stands.frame;
    free = free ∙ stands.free;
  }

  pub stands_changes : (log : Log) → KeepsOthers p f Changes → f.frame ≡ p.frame → f.free ≡ p.free → IsLogObject (object_at f Changes) log
      → Stands settings zone f (touched settings st (at_changes zone log))
  stands_changes log others frame free here = record {
    root = subst (λ o. IsRoot o (st.root zone)) (sym (others Root (apart_by is_changes Root Changes refl refl))) stands.root;
    shards = λ key is. subst (λ o. IsShardOr o (st.shards zone key)) (sym (others key (λ same. true≢false (sym is ∙ ap is_shard_key same)))) (stands.shards key is);
    heads = λ container name. subst (λ o. IsHead o (st.heads zone (Head container name))) (sym (others (Head container name) (apart_by is_changes (Head container name) Changes refl refl))) (stands.heads container name);
    tails = λ write part. subst (λ o. IsTail o (st.tails zone (Tail write part))) (sym (others (Tail write part) (apart_by is_changes (Tail write part) Changes refl refl))) (stands.tails write part);
    changes = subst (IsLogObject (object_at f Changes)) (sym (put_here st.changes zone log)) here;
    frame = frame ∙ stands.frame;
    free = free ∙ stands.free;
  }

  pub stands_shard : (key : Key) (s : Option ShardOf) → is_shard_key key ≡ true → KeepsOthers p f key → f.frame ≡ p.frame → f.free ≡ p.free → IsShardOr (object_at f key) s
      → Stands settings zone f (touched settings st (at_shard zone key s))
  stands_shard key s kind others frame free here =
      let other : (q : Key) → is_shard_key q ≡ false → object_at f q ≡ object_at p q = λ q no. others q (λ same. true≢false (sym kind ∙ ap is_shard_key (sym same) ∙ no)) in
      record {
        root = subst (λ o. IsRoot o (st.root zone)) (sym (other Root refl)) stands.root;
        shards = λ q is. after_put (λ k x. IsShardOr (object_at f k) x) st.shards zone key q s here
            (λ differs. subst (λ o. IsShardOr o (st.shards zone q)) (sym (others q differs)) (stands.shards q is));
        heads = λ container name. subst (λ o. IsHead o (st.heads zone (Head container name))) (sym (other (Head container name) refl)) (stands.heads container name);
        tails = λ write part. subst (λ o. IsTail o (st.tails zone (Tail write part))) (sym (other (Tail write part) refl)) (stands.tails write part);
        changes = subst (λ o. IsLogObject o (st.changes zone)) (sym (other Changes refl)) stands.changes;
        frame = frame ∙ stands.frame;
        free = free ∙ stands.free;
      }

  pub stands_head : (container : ℕ) (name : List ℕ) (h : HeadOf) → let key = Head container name in KeepsOthers p f key → f.frame ≡ p.frame
      → f.free ≡ free_after settings.frame (st.free zone) (first_bytes (st.heads zone key).slot) (first_bytes h.slot) → IsHead (object_at f key) h
      → Stands settings zone f (touched settings st (at_head zone key h))
  stands_head container name h others frame free here = record {
    root = subst (λ o. IsRoot o (st.root zone)) (sym (others Root (apart_by is_head Root (Head container name) refl refl))) stands.root;
    shards = λ q is. subst (λ o. IsShardOr o (st.shards zone q)) (sym (others q (λ same. true≢false (sym is ∙ ap is_shard_key same)))) (stands.shards q is);
    heads = λ c n. after_put (λ k x. IsHead (object_at f k) x) st.heads zone (Head container name) (Head c n) h here
        (λ differs. subst (λ o. IsHead o (st.heads zone (Head c n))) (sym (others (Head c n) differs)) (stands.heads c n));
    tails = λ write part. subst (λ o. IsTail o (st.tails zone (Tail write part))) (sym (others (Tail write part) (apart_by is_head (Tail write part) (Head container name) refl refl))) (stands.tails write part);
    changes = subst (λ o. IsLogObject o (st.changes zone)) (sym (others Changes (apart_by is_head Changes (Head container name) refl refl))) stands.changes;
    frame = frame ∙ stands.frame;
    free = free ∙ sym (put_here st.free zone _);
  }

  pub stands_tail : (write part : ℕ) (t : TailOf) → let key = Tail write part in KeepsOthers p f key → f.frame ≡ p.frame
      → f.free ≡ free_after settings.frame (st.free zone) (st.tails zone key).bytes t.bytes → IsTail (object_at f key) t
      → Stands settings zone f (touched settings st (at_tail zone key t))
  stands_tail write part t others frame free here = record {
    root = subst (λ o. IsRoot o (st.root zone)) (sym (others Root (apart_by is_tail Root (Tail write part) refl refl))) stands.root;
    shards = λ q is. subst (λ o. IsShardOr o (st.shards zone q)) (sym (others q (λ same. true≢false (sym is ∙ ap is_shard_key same)))) (stands.shards q is);
    heads = λ c n. subst (λ o. IsHead o (st.heads zone (Head c n))) (sym (others (Head c n) (apart_by is_tail (Head c n) (Tail write part) refl refl))) (stands.heads c n);
    tails = λ w n. after_put (λ k x. IsTail (object_at f k) x) st.tails zone (Tail write part) (Tail w n) t here
        (λ differs. subst (λ o. IsTail o (st.tails zone (Tail w n))) (sym (others (Tail w n) differs)) (stands.tails w n));
    changes = subst (λ o. IsLogObject o (st.changes zone)) (sym (others Changes (apart_by is_tail Changes (Tail write part) refl refl))) stands.changes;
    frame = frame ∙ stands.frame;
    free = free ∙ sym (put_here st.free zone _);
  }
