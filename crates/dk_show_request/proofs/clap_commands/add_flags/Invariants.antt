use Rattle.dk_show_request.proofs.Names.{◌≡◌, drop, app_of, with_rules, flag}
use Rattle.std.specs.Prelude.{map}
use Rattle.dk_show_request.proofs.clap_commands.add_flags.Given as goal

-- with the flags that are left the command has all
abbrev pub invariant-loop-name : goal.invariant-loop-name
invariant-loop-name l =
    with_rules (app_of l.made) (map flag (map (λ w. w.now) (drop l.name-index l.names)))
    ≡ with_rules (app_of l.fn.command) (map flag (map (λ w. w.now) l.names))
