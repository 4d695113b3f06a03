use Rattle.cls_hold.proofs.releasing.release.Goals as goal

pub put_hold-requires : goal.put_hold-requires
put_hold-requires c = let s = c.requires.0 in (s, c.requires.1, c.header_at-header.ensures s c.requires.1)
