use Rattle.std.proofs.Common.{◌≡◌, IfOk, sym, ◌∙◌, subst}
use Rattle.std.specs.Str.{IsUtf8}
use Rattle.cls_record.proofs.PageLemmas.{cut_out}
use Rattle.cls_record.proofs.pages.name_behind.Goals as goal

pub from_utf8-requires : goal.from_utf8-requires
from_utf8-requires c = let q = c.requires in subst IsUtf8 (sym (cut_out c.args.key.now q.0 q.1 c.args.skip q.2 q.4)) (q.3).1

pub returns : goal.returns
returns c front name long is =
    subst (λ m. IfOk m (λ k. k ≡ c.in_ok-name.name)) c.unwrap.ensures c.new.ensures.ok ∙ c.in_ok-name.ensures ∙ cut_out c.args.key.now front name c.args.skip long is
