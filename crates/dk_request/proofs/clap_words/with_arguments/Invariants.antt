use Rattle.dk_request.proofs.Names.{◌≡◌, take, app_of, arguments, with_rules}
use Rattle.dk_request.proofs.clap_words.with_arguments.Given as goal

-- the arguments so far are there
abbrev pub invariant-loop-place : goal.invariant-loop-place
invariant-loop-place l = app_of l.command ≡ with_rules l.synopsis.word (take l.place (arguments l.synopsis.repeats l.synopsis.names))
