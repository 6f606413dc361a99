use Rattle.dk_show_request.proofs.Names.{◌≡◌, ◌∙◌, ap, map, string_bytes, subst, List, App, Text, is_simple_and_free, given_by}
use Rattle.std.proofs.Common.{IfOk}
use Rattle.dk_show_request.proofs.reading.read_words.Goals as goal

pub read-requires : goal.read-requires
read-requires c = record { simple = ap is_simple_and_free c.in_ok-command_for.ensures ∙ c.requires }

pub returns : goal.returns
returns c =
    let words : List Text = map string_bytes c.args.words.now in
    subst (λ (app : App). IfOk c.read.result (λ o. o ≡ given_by app words)) c.in_ok-command_for.ensures c.read.ensures
