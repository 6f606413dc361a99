-- Who stands before a process.
use Rattle.std.proofs.Common.{ℕ, suc, ◌≡◌, ◌+◌, ap, add-one}
use Rattle.dk_config.specs.Configuration.{Configuration}
use Rattle.show_slack.specs.Slack.{names_before, names_with}

pub next_names : (c : Configuration) (p n : ℕ) → names_before c p (n + 1) ≡ names_with c p n (names_before c p n)
next_names c p n = ap (names_before c p) (add-one n)
