-- What a shard has of a name after one entry changed.
use Rattle.std.proofs.Common.{◌≡◌, ℕ, true, false, cond, List, Option, Some, None}
use Rattle.object_words.specs.Names.{at, with_name, without_name}
use Rattle.object_words.specs.Entries.{EntryView, is_kept}
use Rattle.object_words.specs.Shards.{Shard, with_entry}
use Rattle.object_words.proofs.NameLemmas.{is_name_of, at-with_name, at-without_name}

abbrev pub kept_or_none : EntryView → Option EntryView
kept_or_none e = cond (is_kept e) (Some e) None

pub at-with_entry : (s : Shard) (name : List ℕ) (e : EntryView) (q : List ℕ) → at (with_entry s name e).entries q ≡ cond (is_name_of q name) (kept_or_none e) (at s.entries q)
at-with_entry s name e q =
    elim (is_kept e) as (λ b. at (cond b (with_name s.entries name e) (without_name s.entries name)) q ≡ cond (is_name_of q name) (cond b (Some e) None) (at s.entries q)) [
      | true ↦ at-with_name s.entries name e q
      | false ↦ at-without_name s.entries name q
    ]
