-- The reason of a value of the wrong kind, of its parts.
use Rattle.std.proofs.Common.{◌≡◌, ◌∙◌, ◌++◌, ℕ, List, ap}
use Rattle.std.specs.Prelude.{codes, Option}
use Rattle.std.specs.Option.{option_map_or}
use Rattle.dk_config.specs.declared.fault.ConfigFault.{ConfigFault}
use Rattle.toml.specs.Data.{Data, Members}
use Rattle.dk_document_report.specs.Reasons.{kind_at, value_at, wanted_at, wrong_text}

pub wrong_parts : (ms : Members) (f : ConfigFault) (text wanted found shown : List ℕ) (value : Option Data) → text ≡ wanted ++ (codes " is wanted, this is " ++ shown)
    → wanted ≡ wanted_at f.section f.row f.field ms → shown ≡ found → found ≡ option_map_or (kind_at f.field) value (codes "none")
    → value ≡ value_at f.section f.row f.field ms → text ≡ wrong_text ms f
wrong_parts ms f text wanted found shown value is w s found_is v =
    is
    ∙ (ap (λ x. x ++ (codes " is wanted, this is " ++ shown)) w
    ∙ ap (λ x. wanted_at f.section f.row f.field ms ++ (codes " is wanted, this is " ++ x))
    (s ∙ (found_is ∙ ap (λ o. option_map_or (kind_at f.field) o (codes "none")) v)))
