use Rattle.std.proofs.Common.{List, ℕ, ◌++◌, ◌∙◌, ap, codes}
use Rattle.http_model.specs.Replies.{crlf}
use Rattle.swift_reply.proofs.Pieces.{lined}
use Rattle.swift_reply.proofs.login.push_storage_url.Goals as goal

pub returns : goal.returns
returns c =
    lined c.args.out.now.items _ _ _ _ _ (codes "X-Storage-Url: http://") c.args.host.now (codes "/swift/v1/AUTH_") c.args.account.now crlf
    c.in_ok-extend_from_slice.ensures.items
    (c.in_ok-extend_from_slice-2.ensures.items ∙ ap (λ (host : List ℕ). c.extend_from_slice.new.self.items ++ host) c.as_slice.ensures)
    c.in_ok-extend_from_slice-3.ensures.items
    (c.in_ok-extend_from_slice-4.ensures.items ∙ ap (λ (account : List ℕ). c.extend_from_slice-3.new.self.items ++ account) c.as_bytes.ensures)
    c.in_ok-extend_from_slice-5.ensures.items
