-- Rows of logs in bytes.
use Rattle.std.proofs.Common.{◌≡◌, ℕ, ◌+◌, ◌-◌, List, [], ◌∷◌, ◌++◌, length, take, drop, refl, sym, ap, ◌∙◌, arith, append_assoc, length-append}
use Rattle.std.proofs.lemmas.List.{length-drop, take_all}
use Rattle.object_words.specs.declared.log.LogWhat.TheVariants.{Shard}
use Rattle.index_entry.specs.Numbers.{number_bytes, word_bytes}
use Rattle.index_entry.specs.LogRows.{shard_bytes}
use Rattle.index_entry.proofs.PieceLemmas.{behind, length-number_bytes, length-word_bytes}

pub length-shard_bytes : (container instance shard : ℕ) (bucket : List ℕ) → length (shard_bytes container instance shard bucket) ≡ 20 + length bucket
length-shard_bytes container instance shard bucket =
    omega (
      arith,
      length-append (number_bytes container) (number_bytes instance ++ (word_bytes shard ++ bucket)),
      length-append (number_bytes instance) (word_bytes shard ++ bucket),
      length-append (word_bytes shard) bucket,
      length-number_bytes container,
      length-number_bytes instance,
      length-word_bytes shard,
    )

-- what is behind a place is all that is there
pub whole_rest : (bs : List ℕ) (at : ℕ) → take (length bs - at) (drop at bs) ≡ drop at bs
whole_rest bs at = take_all (length bs - at) (drop at bs) (omega (arith, length-drop at bs))

-- where the parts of a shard are
pub record ShardRead (bs : List ℕ) (container instance shard : ℕ) (bucket : List ℕ) : Type 0 where
  pub at_0 : bs ≡ number_bytes container ++ drop 8 bs
  pub at_8 : drop 8 bs ≡ number_bytes instance ++ drop 16 bs
  pub at_16 : drop 16 bs ≡ word_bytes shard ++ drop 20 bs
  pub at_20 : drop 20 bs ≡ bucket
  pub long : length bs ≡ 20 + length bucket

pub shard_read : (bs : List ℕ) (container instance shard : ℕ) (bucket : List ℕ) → bs ≡ shard_bytes container instance shard bucket → ShardRead bs container instance shard bucket
shard_read bs container instance shard bucket here =
    let at_8 = behind bs 0 8 8 _ _ here (length-number_bytes container) refl in
    let at_16 = behind bs 8 8 16 _ _ at_8 (length-number_bytes instance) refl in
    let at_20 = behind bs 16 4 20 _ _ at_16 (length-word_bytes shard) refl in
    record {
      at_0 = here ∙ ap (λ z. number_bytes container ++ z) (sym at_8);
      at_8 = at_8 ∙ ap (λ z. number_bytes instance ++ z) (sym at_16);
      at_16 = at_16 ∙ ap (λ z. word_bytes shard ++ z) (sym at_20);
      at_20 = at_20;
      long = ap length here ∙ length-shard_bytes container instance shard bucket;
    }

pub shard_flat : (x y z : ℕ) (a b d e : List ℕ) → ((((x ∷ y ∷ z ∷ []) ++ a) ++ b) ++ d) ++ e ≡ x ∷ y ∷ z ∷ (a ++ (b ++ (d ++ e)))
shard_flat x y z a b d e = simp append_assoc refl

pub same_shard : {c d i j s t : ℕ} {a b : List ℕ} → c ≡ d → i ≡ j → s ≡ t → a ≡ b → Shard c i s a ≡ Shard d j t b
same_shard c i s n = λ k. Shard (c k) (i k) (s k) (n k)
