use Rattle.std.proofs.Common.{◌∙◌, sym}
use Rattle.class_words.specs.Shards.{header_of}
use Rattle.class_words.proofs.OptionLemmas.{is_some_at, some_same}
use Rattle.class_words.proofs.header.header_at.Goals as goal

pub unwrap-requires : goal.unwrap-requires
unwrap-requires c = let s = c.requires.0 in is_some_at _ _ (c.decode_header.ensures.exact (header_of s) c.requires.1.header (c.attrs.ensures ∙ c.requires.1.attrs))

pub returns : goal.returns
returns c s is = some_same _ _ (sym c.unwrap.ensures ∙ c.decode_header.ensures.exact (header_of s) is.header (c.attrs.ensures ∙ is.attrs))
