-- Where nothing is wrong the program is short enough.
use Rattle.std.proofs.Common.{◌≡◌, refl, ◌≤◌, Bool, true, false, List, [], ◌∷◌, length, arith}
use Rattle.std.specs.Prelude.{nat_lt, if◌then◌else◌, option_to_list, Some, None}
use Rattle.std.specs.List.{list_any}
use Rattle.std.specs.Option.{option_map}
use Rattle.std.proofs.lemmas.Bool.Decides.{nat_tests}
use Rattle.dk_profile.specs.declared.TheConstants.{MAX_INSTRUCTIONS}
use Rattle.dk_profile.specs.declared.steps.Step.{Step}
use Rattle.dk_profile.specs.declared.steps.Why.{Why}
use Rattle.dk_profile.specs.declared.steps.ProfileFault.{ProfileFault}
use Rattle.dk_profile.specs.Faults.{fault_at, or_whole}
use Rattle.dk_profile.specs.Steps.{is_work, program_size}

chosen : (steps : List Step) (work many : Bool) → nat_lt MAX_INSTRUCTIONS (program_size steps) ≡ many
    → length
    (option_to_list
    (option_map (fault_at 0) (if work then (if many then Some (Why.Many (program_size steps)) else None) else Some Why.NoWork)))
    ≡ 0
    → program_size steps ≤ MAX_INSTRUCTIONS
chosen steps false many is none = absurd (cc)
chosen steps true true is none = absurd (cc)
chosen steps true false is none = grind (arith, nat_tests)

pub fits : (steps : List Step) (faults : List ProfileFault) → length (or_whole steps faults) ≡ 0 → program_size steps ≤ MAX_INSTRUCTIONS
fits steps [] none = chosen steps (list_any is_work steps) (nat_lt MAX_INSTRUCTIONS (program_size steps)) refl none
fits steps (fault ∷ faults) none = absurd (omega arith)
