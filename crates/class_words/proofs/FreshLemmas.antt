-- A shard that was just made.
use Rattle.std.proofs.Common.{◌≡◌, ℕ, true, false, true≢false, List, length, Option, Some, None, IfSome, refl, sym, ap, ◌∙◌, subst, arith, not, ◌==◌, ◌&&◌}
use Rattle.std.proofs.lemmas.Bool.Decides.{nat_tests}
use Rattle.object_pool.specs.Objects.{Object, exists, nothing}
use Rattle.object_words.specs.declared.shard.Hold.TheVariants.{Free}
use Rattle.object_words.specs.declared.shard.Fate.TheVariants.{Serving}
use Rattle.object_words.specs.Entries.{EntryView}
use Rattle.object_words.specs.Names.{at, entries, none}
use Rattle.object_words.specs.Shards.{Shard, byte_count, new_shard, object_count, sum_over, tag_count}
use Rattle.object_words.specs.ShardCalls.{made}
use Rattle.object_words.proofs.NameLemmas.{at-none}
use Rattle.index_entry.specs.declared.header.ShardHeader.{ShardHeader}
use Rattle.index_entry.specs.Headers.{header_bytes}
use Rattle.index_entry.specs.Layouts.{entry_bytes}
use Rattle.index_entry.proofs.HeaderLemmas.{header_long}
use Rattle.class_words.specs.LogRows.{or_logged}
use Rattle.class_words.specs.Shards.{IsShard, IsShardOr, header_of}
use Rattle.std.proofs.Common.{option_map}

abbrev pub fresh_header : ShardHeader
fresh_header = record { objects = 0; bytes = 0; tags = 0; last = 0; hold = Free; fate = Serving; fence = 0 }

pub nothing_summed : (f : EntryView → ℕ) → sum_over f new_shard ≡ 0
unfolding entries none
nothing_summed f = refl

fresh_told : fresh_header ≡ header_of new_shard
fresh_told =
    λ i. record {
      objects = sym (nothing_summed object_count) i;
      bytes = sym (nothing_summed byte_count) i;
      tags = sym (nothing_summed tag_count) i;
      last = 0;
      hold = Free;
      fate = Serving;
      fence = 0;
    }

pub none_there : (P : EntryView → Type 0) (name : List ℕ) → IfSome (at none name) P
none_there P name = subst (λ o. IfSome o P) (sym (at-none name)) tt

pub fresh_shard : (o : Object) (attrs : List ℕ) → attrs ≡ header_bytes fresh_header → o ≡ record nothing { attrs = attrs } → IsShard o new_shard
fresh_shard o attrs told is = subst (λ x. IsShard x new_shard) (sym is) (record {
  bytes = refl;
  attrs = told ∙ ap header_bytes fresh_told;
  header = record {
    objects_fit = omega (arith, nothing_summed object_count);
    bytes_fit = omega (arith, nothing_summed byte_count);
    tags_fit = omega (arith, nothing_summed tag_count);
    last_fits = omega arith;
    fence_fits = omega arith;
    hold_fits = omega arith;
    fate_fits = omega arith;
  };
  rows = record {
    rows = λ key. sym (ap (λ e. or_logged (option_map entry_bytes e) None) (at-none key));
    named = λ name. none_there _ name;
    entry = λ name. none_there _ name;
    room = λ name. none_there _ name;
    log = record { rows = tt; rise = refl; last_fits = omega arith };
  };
  spare = omega (arith, nothing_summed tag_count);
})

some_attrs : (n m k : ℕ) → m ≡ 68 → not (n == 0 && (m == 0 && k == 0)) ≡ true
some_attrs n m k is = grind (arith, nat_tests)

-- a shard exists
there : (o : Object) (s : Shard) → IsShard o s → exists o ≡ true
there o s is = some_attrs (length o.bytes) (length o.attrs) (length o.rows.rows) (header_long o.attrs (header_of s) is.attrs)

-- what exists stays
pub stays_made : (o : Object) (s : Option Shard) → exists o ≡ true → IsShardOr o s → IsShardOr o (made s)
stays_made o None is none = absurd (true≢false (sym is ∙ ap exists none))
stays_made o (Some s) is shard = shard

-- where nothing exists, a shard is made
pub is_made : (o d : Object) (attrs : List ℕ) (s : Option Shard) → exists o ≡ false → IsShardOr o s → attrs ≡ header_bytes fresh_header → d ≡ record o { attrs = attrs } → IsShardOr d (made s)
is_made o d attrs None gone none told is = fresh_shard d attrs told (is ∙ (λ i. record (none i) { attrs = attrs }))
is_made o d attrs (Some s) gone shard told is = absurd (true≢false (sym (there o s shard) ∙ gone))
