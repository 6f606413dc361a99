-- For how long slack comes from where it does now.
use Rattle.std.specs.Prelude.{ℕ, ◌≡◌, ◌<◌, List, None}
use Rattle.dk_slack.specs.declared.unclaimed.Lasting.{Lasting}
use Rattle.dk_slack.specs.Unclaimed.{counted_for, source}

-- it comes from there after each number of ticks of nobody that is below the given one
abbrev pub Lasts : Lasting → List ℕ → List ℕ → Type 0
Lasts lasting unclaimed spares =
    (k : ℕ) → k < lasting.ticks → source (counted_for k None unclaimed) spares ≡ lasting.source
