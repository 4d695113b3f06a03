use Rattle.std.proofs.Common.{All}
use Rattle.rgw_server.specs.Posts.{IsFresh}
use Rattle.rgw_server.proofs.posts.make_posts.Given as goal

abbrev pub invariant-loop : goal.invariant-loop
invariant-loop g l = IsFresh l.cell l.first × All (λ post. IsFresh l.cell post.pass) l.posts.items
