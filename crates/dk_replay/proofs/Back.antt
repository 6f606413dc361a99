-- A listing is a source of its program.
use Rattle.std.proofs.Common.{◌≡◌, ℕ, List, subst}
use Rattle.std.specs.Prelude.{Result, Ok, Err, OnOk}
use Rattle.dk_asm.specs.Listing.{listing}
use Rattle.dk_asm.specs.Source.{Assembled, Outcome}

pub back_by : {A E : Type 0} (r : Result A E) (code whole : List ℕ) → code ≡ whole → Assembled (listing code) (Outcome.program code)
    → OnOk r (Assembled (listing whole) (Outcome.program whole))
back_by (Err e) code whole same back = tt
back_by (Ok x) code whole same back = subst (λ (p : List ℕ). Assembled (listing p) (Outcome.program p)) same back
