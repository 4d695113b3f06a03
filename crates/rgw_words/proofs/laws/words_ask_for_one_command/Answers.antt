use Rattle.rgw_words.proofs.Apart.{once_no_script, once_not_serve, script_not_once, script_not_serve, serve_not_once, serve_no_script}
use Rattle.rgw_words.proofs.laws.words_ask_for_one_command.Goals as goal

pub returns : goal.returns
returns c = record {
  once = λ words may. (once_no_script words may, once_not_serve words may);
  script = λ words may. (script_not_once words may, script_not_serve words may);
  serve = λ words may. (serve_not_once words may, serve_no_script words may);
}
