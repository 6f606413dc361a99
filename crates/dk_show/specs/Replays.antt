-- What is written for a profile under a configuration.
use Rattle.std.specs.Prelude.{ℕ, ◌≡◌, Bool, true, false, List}
use Rattle.dk_config.specs.Configuration.{Configuration}
use Rattle.dk_times.specs.Forms.{form_of}
use Rattle.dk_replay.specs.Pages.{replay_made, replay_text}
use Rattle.dk_show.specs.declared.status.Status.{Status}
use Rattle.dk_show.specs.declared.status.Status.TheVariants as status

-- where something is wrong with the profile, the call ends as refused
abbrev pub replay_end : Bool → Status
replay_end true = status.Done
replay_end false = status.Refused

-- what the bytes of a profile come to, in a file of this name, whose end says in which form it is written
abbrev pub IsOfProfile : Configuration → List ℕ → List ℕ → List ℕ → List ℕ → Status → Type 0
IsOfProfile c file name bytes text ended =
    (text ≡ replay_text c (form_of file) name bytes) × (ended ≡ replay_end (replay_made c (form_of file) name bytes))
