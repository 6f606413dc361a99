-- The ledger of every accepted run that isn't too long can be read.
use Rattle.std.proofs.Common.{ℕ, ◌<◌, ◌≤◌, List, reverse, arith, sym, subst}
use Rattle.std.specs.Prelude.{All}
use Rattle.std.proofs.lemmas.List.{length-reverse}
use Rattle.dk_config.specs.declared.TheConstants.{MAX_RUN_TICKS}
use Rattle.dk_config.specs.Configuration.{Configuration}
use Rattle.dk_config.specs.Checked.{IsChecked, IsWithinLimits, IsAccepted}
use Rattle.dk_trace.specs.declared.Entry.{Entry}
use Rattle.dk_trace.specs.Ranges.{HasEntry}
use Rattle.dk_certify.specs.Verdicts.{rows_of}
use Rattle.dk_world.specs.Run.{trace}
use Rattle.dk_world.proofs.Each.{weaker, each_reverse}
use Rattle.dk_world.proofs.Families.{IsSound}
use Rattle.dk_world.proofs.Worlds.{trace_long, world_is}
use Rattle.dk_ledger.specs.Heading.{Heading, heading_of}
use Rattle.dk_ledger.specs.Readable.{IsReadable, size_in}
use Rattle.dk_ledger.proofs.AcceptedHeading.{heading_size, accepted_heading}

-- the ledger of the run's first n ticks
pub can_be_read : (c : Configuration) (programs : List (List ℕ)) (n : ℕ) → IsChecked c → IsWithinLimits c → IsAccepted c
    → All (λ program. All (λ byte. byte < 256) program) programs → n ≤ MAX_RUN_TICKS
    → IsReadable (record { heading = heading_of c (rows_of c); entries = reverse (trace c programs n) })
can_be_read c programs n checked limits accepted bytes within =
    let h : Heading = heading_of c (rows_of c) in
    let run = world_is c checked limits accepted programs bytes n within in
    let long = trace_long c checked limits accepted programs bytes n in
    let turned = length-reverse (trace c programs n) in
    let readable : (e : Entry) → IsSound c e → HasEntry (size_in h) e =
    λ e sound. subst (λ s. HasEntry s e) (sym (heading_size c)) sound.ranges in
    record {
      heading = accepted_heading c checked limits accepted;
      entries = each_reverse (HasEntry (size_in h)) (trace c programs n) (weaker (IsSound c) (HasEntry (size_in h)) readable (trace c programs n) run.past);
      short = omega (arith, turned, long, within);
    }
