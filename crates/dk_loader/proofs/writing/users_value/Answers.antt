use Rattle.dk_loader.proofs.Names.{◌≡◌, ◌∙◌, ap, string_bytes, rules, string, view-String}
use Rattle.toml.specs.declared.value.Value.{String}
use Rattle.dk_loader.proofs.PrintedLemmas.{written_more, rows_written}
use Rattle.dk_loader.proofs.writing.users_value.Goals as goal

pub loop-user-preserved : goal.loop-user-preserved
loop-user-preserved c =
    let text = c.in_ok-from_str.field-0 in
    let same : string_bytes text ≡ c.user-item.result = search rules in
    written_more string c.args.users.now c.loop-user.user-index _ c.user-item.result c.loop-user.values.items _ (String text) c.loop-user-test.true c.user-item.is c.loop-user.invariant (view-String text ∙ ap string same) c.in_ok-push.ensures.items

pub returns : goal.returns
returns c = rows_written string c.args.users.now c.loop-user.user-index c.loop-user.values c.loop-user-test.false c.loop-user.invariant
