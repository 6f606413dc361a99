-- What a function found in reading and testing, and what it left of the depot.
use Rattle.std.specs.Prelude.{ℕ, ◌≡◌, ◌≢◌, ◌+◌, ◌≤◌, false, Result, Ok, Err, IfSome, IsErrOf}
use Rattle.dk_outside.specs.Counts.{Rises}
use Rattle.dk_outside.specs.Views.{DepotView}
use Rattle.dk_inputs.specs.declared.refusal.Refusal.{Refusal}
use Rattle.dk_inputs.specs.declared.refusal.Refusal.TheVariants as why
use Rattle.dk_inputs.specs.Answer.{is_failed_read, is_silent}
use Rattle.dk_inputs.specs.Reads.{Files, Reads}

module _ {X Y : Type 0} (R : X → Y → Type 0) (F : Y → Refusal → Type 0) where
  abbrev pub Refuses : Result Y Refusal → Refusal → Type 0
  Refuses (Ok y) e = F y e
  Refuses (Err d) e = d ≡ e

  -- The result is what the reads come to, after reads that handed out as many bytes. A failed read or want of
  -- memory may come in its place.
  abbrev pub Tells : Result X Refusal → Reads Y → ℕ → ℕ → Type 0
  Tells (Ok x) s before after = (y : Y) × (s.found ≡ Ok y) × R x y × (after ≡ before + s.given)
  Tells (Err e) s before after = is_silent e ≡ false → Refuses s.found e × (after ≡ before + s.given)

  -- a function without reads gave this, where one was wanted
  abbrev pub Makes : Result X Refusal → Y → Type 0
  Makes (Ok x) y = R x y
  Makes (Err e) y = (is_failed_read e ≡ false) × (is_silent e ≡ false → F y e)

-- the depot goes on with the same files, and none of its counts fell
pub record Goes (old new : DepotView) : Type 0 where
  pub files_stay : new.files ≡ old.files
  pub faults_rise : old.faults ≤ new.faults
  pub given_rises : old.given ≤ new.given
  pub strays_rise : old.strays ≤ new.strays

-- its counts are as they were
abbrev pub CountsStay : DepotView → DepotView → Type 0
CountsStay old new = (new.faults ≡ old.faults) × (new.given ≡ old.given) × (new.strays ≡ old.strays)

pub record Follows {X Y : Type 0} (R : X → Y → Type 0) (F : Y → Refusal → Type 0)
    (old new : DepotView) (result : Result X Refusal) (reads : Files → Reads Y) : Type 0 where
  pub told : IfSome old.files (λ at. Tells R F result (reads at) old.given new.given)
  -- a read failed only where the outside did
  pub cause : IsErrOf result why.Depot → Rises old.faults new.faults
  -- and where none failed that is answered, the count of faults is as it was
  pub faults_stay : result ≢ Err why.Depot → new.faults ≡ old.faults
  -- where each file that is asked for is held, none of the reads was of another
  pub held : IfSome old.files (λ at. (reads at).found ≢ Err why.Depot → new.strays ≡ old.strays)
  pub left : Goes old new

-- the reads come to what the function returned, and to no refusal that it doesn't return
abbrev pub Finds : {X Y : Type 0} → (X → Y) → DepotView → DepotView → Result X Refusal → (Files → Reads Y) → Type 0
Finds view old new result reads = Follows (λ x y. y ≡ view x) (λ y e. ⊥) old new result reads

-- the same of a function without reads
abbrev pub Gives : {X Y : Type 0} → (X → Y) → Result X Refusal → Result Y Refusal → Type 0
Gives view (Ok x) r = r ≡ Ok (view x)
Gives view (Err e) r = (is_failed_read e ≡ false) × (is_silent e ≡ false → r ≡ Err e)
