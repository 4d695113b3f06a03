use Rattle.swift_requests.proofs.Passing.{meta_texts, readers_text, writers_text}
use Rattle.swift_requests.proofs.changes.container_changes.Goals as goal

pub into_pairs-requires : goal.into_pairs-requires
into_pairs-requires c = rw c.requires.sent (meta_texts c.args.head.now c.requires.texts)

pub text_of-requires : goal.text_of-requires
text_of-requires c = readers_text c.args.head.now c.requires.texts

pub text_of-requires-2 : goal.text_of-requires-2
text_of-requires-2 c = writers_text c.args.head.now c.requires.texts
