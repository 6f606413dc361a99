-- All of the rules C1 to C3 that a document breaks.
use Rattle.std.specs.Prelude.{ℕ, List, []}
use Rattle.std.specs.Option.{option_map_or}
use Rattle.dk_config.specs.declared.fault.ConfigFault.{ConfigFault}
use Rattle.dk_faults.specs.Faults.{broken}
use Rattle.dk_loader.specs.Reading.{document}
use Rattle.dk_loader.specs.Shape.{shape_tests}

-- what each test that fails reports, in the order of the tests
abbrev pub shape_faults : List ℕ → List ConfigFault
shape_faults bytes = option_map_or (λ ms. broken (shape_tests ms)) (document bytes) []
