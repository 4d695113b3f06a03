use Rattle.cls_hold.proofs.closing.close.Goals as goal

pub take-requires : goal.take-requires
take-requires c = let s = c.requires.0 in (s, c.requires.1, c.header_at-header.ensures s c.requires.1)
