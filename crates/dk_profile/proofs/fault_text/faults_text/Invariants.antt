use Rattle.std.proofs.Common.{◌≡◌, take, string_bytes}
use Rattle.std.specs.Prelude.{flat_map}
use Rattle.dk_profile.specs.FaultText.{fault_text}
use Rattle.dk_profile.proofs.fault_text.faults_text.Given as goal

abbrev pub invariant-loop-fault : goal.invariant-loop-fault
invariant-loop-fault l = string_bytes l.text ≡ flat_map (fault_text l.config) (take l.fault-index l.faults)
