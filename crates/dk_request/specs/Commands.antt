-- The commands that stand, each with its synopsis.
use Rattle.std.specs.Prelude.{ℕ, ◌++◌, Bool, true, false, codes, find, flat_map, List, [], ◌∷◌, Option, if◌then◌else◌}
use Rattle.std.specs.Str.{bytes_eq}
use Rattle.dk_request.specs.declared.commands.Command.{Command}
use Rattle.dk_request.specs.declared.commands.Command.TheVariants as command
use Rattle.dk_request.specs.Synopsis.{Synopsis}

abbrev pub synopsis : List ℕ → List (List ℕ) → Bool → Bool → Synopsis
synopsis word names repeats reports = record { word = word; names = names; repeats = repeats; reports = reports }

abbrev pub synopsis_of : Command → Synopsis
synopsis_of command.Run = synopsis (codes "run") (codes "FILE" ∷ codes "TICKS" ∷ []) false true
synopsis_of command.Certify = synopsis (codes "certify") (codes "FILE" ∷ []) false false
synopsis_of command.Gen = synopsis (codes "gen") (codes "NUMBER" ∷ codes "TICKS" ∷ []) false false
synopsis_of command.Ledger = synopsis (codes "ledger") (codes "FILE" ∷ []) false true
synopsis_of command.Migrate = synopsis (codes "migrate") (codes "FILE" ∷ []) false false
synopsis_of command.Asm = synopsis (codes "asm") (codes "FILE" ∷ []) false false
synopsis_of command.Dis = synopsis (codes "dis") (codes "FILE" ∷ []) false false
synopsis_of command.Audit = synopsis (codes "audit") (codes "FILE" ∷ codes "LEDGER" ∷ []) false false
synopsis_of command.Plan = synopsis (codes "plan") (codes "FILE" ∷ codes "NAME" ∷ []) false false
synopsis_of command.Harmonise = synopsis (codes "harmonise") (codes "LO" ∷ codes "HI" ∷ codes "ASK" ∷ []) true false
synopsis_of command.Inspect = synopsis (codes "inspect") (codes "FILE" ∷ codes "TICK" ∷ []) false false

-- in the order of the usage line
abbrev pub commands : List Command
commands = command.Run ∷ command.Certify ∷ command.Gen ∷ command.Ledger ∷ command.Migrate ∷ command.Asm ∷ command.Dis
    ∷ command.Audit ∷ command.Plan ∷ command.Harmonise ∷ command.Inspect ∷ []

-- the command of this word
unfoldable pub command_named : List ℕ → Option Command
command_named word = find (λ c. bytes_eq (synopsis_of c).word word) commands

abbrev pub usage_of : Synopsis → List ℕ
usage_of s = s.word
    ++ (flat_map (λ name. codes " " ++ name) s.names
    ++ ((if s.repeats then codes "..." else []) ++ (if s.reports then codes " [--report]" else [])))

abbrev pub alternatives : List Command → List ℕ
alternatives [] = []
alternatives (c ∷ []) = usage_of (synopsis_of c)
alternatives (c ∷ d ∷ more) = usage_of (synopsis_of c) ++ (codes " | " ++ alternatives (d ∷ more))

abbrev pub usage_text : List ℕ
usage_text = codes "usage: deosk " ++ (alternatives commands ++ codes "\n")
