-- Configurations that are compared.
use Rattle.std.specs.Prelude.{◌≡◌, ◌≤◌, List, [], ◌∷◌}
use Rattle.dk_config.specs.declared.rows.ProcessRow.{ProcessRow}
use Rattle.dk_config.specs.Configuration.{Configuration}

-- the same configuration in version 2
abbrev pub migrated : Configuration → Configuration
migrated c = record c { version = 2 }

-- the processes are the same but for `max_level`, which is nowhere greater in the first list
abbrev pub ReachNoFurther : List ProcessRow → List ProcessRow → Type 0
ReachNoFurther [] [] = Unit {0}
ReachNoFurther [] (q ∷ qs) = ⊥
ReachNoFurther (p ∷ ps) [] = ⊥
ReachNoFurther (p ∷ ps) (q ∷ qs) = (p ≡ record q { max_level = p.max_level }) × (p.max_level ≤ q.max_level)
    × ReachNoFurther ps qs

-- of two configurations that differ in `max_level` alone, the first has nowhere the greater number
abbrev pub ReachesNoFurther : Configuration → Configuration → Type 0
ReachesNoFurther c d = (c ≡ record d { processes = c.processes }) × ReachNoFurther c.processes d.processes
