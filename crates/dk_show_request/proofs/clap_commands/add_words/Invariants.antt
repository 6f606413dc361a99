use Rattle.dk_show_request.proofs.Names.{◌≡◌, length, app_of, with_rules, word_rules}
use Rattle.std.specs.Prelude.{map}
use Rattle.dk_show_request.proofs.clap_commands.add_words.Given as goal

-- with the arguments that are left the command has all
abbrev pub invariant-loop-left : goal.invariant-loop-left
invariant-loop-left l =
    with_rules (app_of l.made) (word_rules (map (λ w. w.now) l.left) l.fn.required l.fn.repeats)
    ≡ with_rules (app_of l.fn.command) (word_rules (map (λ w. w.now) l.fn.names) l.fn.required l.fn.repeats)

abbrev pub decreases-loop-left : goal.decreases-loop-left
decreases-loop-left l = length l.left
