-- A call of a class on the root or on the data log of a zone, as the state sees it.
use Rattle.std.proofs.Common.{◌≡◌, ℕ, false, List, [], map, filter, take, bytes_eq, Option, Some, None, IfSome, Result, Ok, Err, refl, sym, ap, ◌∙◌, subst}
use Rattle.std.specs.Prelude.{MatchResult}
use Rattle.std.specs.Ordering.{is_lt}
use Rattle.std.proofs.Math.Seq.{take-nil}
use Rattle.rgw_types.specs.declared.pool_key.Key.TheVariants.{Root, Changes}
use Rattle.object_pool.specs.declared.place.Place.{Place}
use Rattle.omap_pages.specs.Rows.{value_at}
use Rattle.object_pool.specs.Objects.{Object, PoolView, exists, object_at}
use Rattle.object_pool.specs.Places.{IsPlaceIn, object_of, pool_of}
use Rattle.object_words.specs.declared.bucket.Bucket.{Bucket}
use Rattle.object_words.specs.declared.why.Why.{Why}
use Rattle.object_words.specs.declared.why.ClassFault.{ClassFault}
use Rattle.object_words.specs.Answers.{Answers}
use Rattle.object_words.specs.Logs.{Log}
use Rattle.object_words.specs.Names.{at, entries, name_cmp, none as no_names, where_name}
use Rattle.object_words.specs.Pages.{account_names, bucket_names}
use Rattle.object_words.specs.Roots.{Root as RootOf}
use Rattle.object_words.proofs.KeyLemmas.{put_same}
use Rattle.object_words.proofs.NameLemmas.{at-none, same_map}
use Rattle.class_words.specs.Works.{Works}
use Rattle.class_words.proofs.WorksLemmas.{works_with}
use Rattle.cls_log.specs.LogObjects.{IsLogObject}
use Rattle.cls_record.specs.RootObjects.{IsBucketName, IsRoot}
use Rattle.cls_record.proofs.RootLemmas.{no_row}
use Rattle.realm_model.specs.Settings.{SettingsView}
use Rattle.realm_model.specs.States.{State, at_changes, at_root, touched}
use Rattle.zone_core.specs.Stands.{Stands}
use Rattle.zone_core.proofs.Given.{gave, no_rows_left, settled_changes, settled_root}
use Rattle.zone_core.proofs.ShardCallLemmas.{answers_as}
use Rattle.zone_core.proofs.StandLemmas.{stands_changes, stands_root}

-- ---- a zone that has no root object

unnamed : (found : Option Bucket) (name : List ℕ) → (IsBucketName name → found ≡ None) → IfSome found (λ _. IsBucketName name) → found ≡ None
unnamed None name step is = refl
unnamed (Some b) name step is = step is

-- it has no container
pub no_bucket : (o : Object) (r : RootOf) (name : List ℕ) → IsRoot o r → exists o ≡ false → at r.buckets name ≡ None
no_bucket o r name is gone =
    unnamed (at r.buckets name) name (λ named. no_row o r name is named (ap (λ rows. value_at rows name) (sym (no_rows_left o gone)))) (is.named name)

no_buckets : (o : Object) (r : RootOf) → IsRoot o r → exists o ≡ false → r.buckets ≡ no_names
no_buckets o r is gone = same_map r.buckets no_names (λ q. no_bucket o r q is gone ∙ sym (at-none q))

none_after : (after : List ℕ) → entries (where_name (λ name. is_lt (name_cmp after name)) (no_names {X = Bucket})) ≡ []
unfolding entries where_name no_names
none_after after = refl

pub no_bucket_names : (o : Object) (r : RootOf) (after : List ℕ) (limit : ℕ) → IsRoot o r → exists o ≡ false → [] ≡ bucket_names r after limit
no_bucket_names o r after limit is gone =
    let none = ap (λ m. entries (where_name (λ name. is_lt (name_cmp after name)) m)) (no_buckets o r is gone) ∙ none_after after in
    sym (ap (λ es. take limit (map (λ e. e.0) es)) none ∙ take-nil limit)

pub no_account_names : (o : Object) (r : RootOf) (account after : List ℕ) (limit : ℕ) → IsRoot o r → exists o ≡ false → [] ≡ account_names r account after limit
no_account_names o r account after limit is gone =
    let none = ap (λ m. entries (where_name (λ name. is_lt (name_cmp after name)) m)) (no_buckets o r is gone) ∙ none_after after in
    sym (ap (λ es. take limit (map (λ e. e.0) (filter (λ e. bytes_eq (e.1).owner account) es))) none ∙ take-nil limit)

-- ---- a call

module _ (settings : SettingsView) (zone : ℕ) (p f : PoolView) (st : State) (stands : Stands settings zone p st) (place place' : Place) (works : Works place place') (ends : f ≡ pool_of place') where
  module _ (at : IsPlaceIn p Root (object_at p Root) place) where
    root_left : (r : RootOf) → IsRoot (object_of place') r → Stands settings zone f (touched settings st (at_root zone r))
    root_left r is =
        let given = gave p f Root (object_at p Root) place place' _ at (works_with place place' works) ends in
        stands_root settings zone p f st stands r given.others given.frame (given.free ∙ at.counts.free) (subst (λ o. IsRoot o r) (sym given.object) (settled_root (object_of place') r is))

    root_kept : IsRoot (object_of place') (st.root zone) → Stands settings zone f st
    root_kept is =
        let same : touched settings st (at_root zone (st.root zone)) ≡ st = ap (λ roots. record st { root = roots }) (put_same st.root zone) in
        subst (Stands settings zone f) same (root_left (st.root zone) is)

    pub root_answers : {V : Type 0} (result : Result V ClassFault) (refusal : Option Why) (IsValue : V → Type 0) (after : RootOf)
        → Answers result refusal IsValue (IsRoot (object_of place')) (st.root zone) after
        → Answers result refusal IsValue (Stands settings zone f) st (touched settings st (at_root zone after))
    root_answers result refusal IsValue after answers =
        answers_as result refusal refusal IsValue (IsRoot (object_of place')) (Stands settings zone f) (st.root zone) after st (touched settings st (at_root zone after)) refl root_kept (root_left after) answers

  module _ (at : IsPlaceIn p Changes (object_at p Changes) place) where
    pub log_left : (log : Log) → IsLogObject (object_of place') log → Stands settings zone f (touched settings st (at_changes zone log))
    log_left log is =
        let given = gave p f Changes (object_at p Changes) place place' _ at (works_with place place' works) ends in
        stands_changes settings zone p f st stands log given.others given.frame (given.free ∙ at.counts.free) (subst (λ o. IsLogObject o log) (sym given.object) (settled_changes (object_of place') log is))

    pub log_kept : IsLogObject (object_of place') (st.changes zone) → Stands settings zone f st
    log_kept is =
        let same : touched settings st (at_changes zone (st.changes zone)) ≡ st = ap (λ logs. record st { changes = logs }) (put_same st.changes zone) in
        subst (Stands settings zone f) same (log_left (st.changes zone) is)

    pub log_answers : {V E : Type 0} (result : Result V E) (IsValue : V → Type 0) (after : Log)
        → MatchResult result (λ value. IsValue value × IsLogObject (object_of place') after) (λ _. IsLogObject (object_of place') (st.changes zone))
        → MatchResult result (λ value. IsValue value × Stands settings zone f (touched settings st (at_changes zone after))) (λ _. Stands settings zone f st)
    log_answers (Ok value) IsValue after answers = (answers.0, log_left after answers.1)
    log_answers (Err fault) IsValue after answers = log_kept answers
