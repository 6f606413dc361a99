use Rattle.std.proofs.Common.{◌≡◌, ◌++◌, drop}
use Rattle.dk_chain_report.specs.Finding.{is_known}
use Rattle.dk_needs.specs.declared.fault.Key.{Key}
use Rattle.dk_needs.specs.Shape.{from_row}
use Rattle.dk_needs_check.specs.Unknown.{unknown_in_chain, unless}
use Rattle.dk_needs_check.proofs.unknown.add_chain.Given as goal

-- what is found, and what the names that are left give
abbrev pub invariant-loop-place : goal.invariant-loop-place
invariant-loop-place l =
    l.found.items ++ from_row (λ place name. unless (is_known l.config name) l.need Key.Processes place) l.place (drop l.place l.names)
    ≡ l.initial.found.items ++ unknown_in_chain l.config l.need l.names
