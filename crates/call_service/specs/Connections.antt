-- The borrows that a connection is made of.
use Rattle.std.specs.Prelude.{ℕ}

-- their names
pub record Names : Type 0 where
  pub door : ℕ
  pub clock : ℕ
  pub intake : ℕ
  pub source : ℕ
  pub sink : ℕ
  pub buffer : ℕ
  pub out : ℕ

abbrev pub names : ℕ → ℕ → ℕ → ℕ → ℕ → ℕ → ℕ → Names
names door clock intake source sink buffer out = record {
  door = door;
  clock = clock;
  intake = intake;
  source = source;
  sink = sink;
  buffer = buffer;
  out = out;
}
