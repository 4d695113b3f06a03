use Rattle.std.specs.Prelude.{⊤}
use Rattle.std.specs.Char.{encode_utf8}
use Rattle.std.specs.Str.{chars, is_utf8}
use Rattle.httparse.proofs.OnLiterals.{httparse_on_literals}
use Rattle.http1.specs.Text.{eq_ignore_case}
use Rattle.http1.specs.Fields.{elements}
use Rattle.httpdate.proofs.OnLiterals.{httpdate_on_literals}
use Rattle.http_model.specs.Forms.{has_host, wants_close, waits}
use Rattle.swift_auth.proofs.OnLiterals.{swift_auth_on_literals}
use Rattle.swift_words.proofs.OnLiterals.{swift_words_on_literals}
use Rattle.swift_requests.specs.Etags.{rule_of, sent_etag}
use Rattle.swift_requests.specs.Ranges.{span_in, span_of}
use Rattle.swift_requests.specs.Commands.{second_of, conditions_of, kind_of}
use Rattle.swift_requests.specs.Metadata.{meta_of}
use Rattle.swift_requests.specs.Fields.{has_texts, has_put_texts, has_put_sizes}
use Rattle.swift_requests.specs.Askers.{asker_of}
use Rattle.swift_requests.specs.Logins.{login_of, host_of}
use Rattle.swift_requests.specs.Changes.{changes_of, has_change_texts}
use Rattle.swift_requests.specs.Refusals.{put_refusal, get_refusal, own_refusal, change_refusal}
use Rattle.swift_requests.specs.Asks.{is_taken, asked_of}
use Rattle.swift_requests.specs.Bodies.{closes}

-- what an answer unfolds to compute this crate's specs on a literal
unfoldable pub heads_on_literals : ⊤
unfolding encode_utf8 chars is_utf8 httparse_on_literals eq_ignore_case elements httpdate_on_literals swift_auth_on_literals swift_words_on_literals has_host wants_close waits rule_of sent_etag span_in span_of second_of conditions_of kind_of meta_of has_texts has_put_texts has_put_sizes asker_of login_of host_of changes_of has_change_texts put_refusal get_refusal own_refusal change_refusal is_taken asked_of closes
heads_on_literals = tt
