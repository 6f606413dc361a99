use Rattle.std.proofs.Common.{◌∙◌, subst}
use Rattle.std.specs.Prelude.{string_bytes}
use Rattle.dk_chain_report.specs.Changes.{IsEarlierLine}
use Rattle.dk_config_report.proofs.Adding.{one_added}
use Rattle.dk_chain_report.proofs.changes.add_earlier.Goals as goal

pub loop-process-preserved : goal.loop-process-preserved
loop-process-preserved c =
    let same = c.loop-process.invariant.1 in (
      one_added (IsEarlierLine c.args.config.now c.args.first c.args.rest.now c.args.reaction) c.loop-process.process (string_bytes c.args.text.now) (string_bytes c.loop-process.text) (string_bytes c.push_line.new.text) (string_bytes c.in_ok-line.line)
          (subst (λ d. IsEarlierLine d c.args.first c.args.rest.now c.args.reaction c.loop-process.process (string_bytes c.in_ok-line.line)) same c.in_ok-line.ensures.line) c.in_ok-push_line.ensures c.loop-process.invariant.0,
      c.earlier_line.ensures.same ∙ same,
    )
