use Rattle.std.specs.Prelude.{string_bytes}
use Rattle.dk_chain_report.specs.Steps.{IsStepLine}
use Rattle.dk_config_report.proofs.Adding.{one_added}
use Rattle.dk_chain_report.proofs.steps.add_steps.Goals as goal

pub loop-place-preserved : goal.loop-place-preserved
loop-place-preserved c =
    one_added (IsStepLine c.args.config.now c.args.first c.args.rest.now c.args.event) c.loop-place.place (string_bytes c.args.text.now) (string_bytes c.loop-place.text) (string_bytes c.push_line.new.text) (string_bytes c.in_ok-line.line)
    c.in_ok-line.ensures c.in_ok-push_line.ensures c.loop-place.invariant
