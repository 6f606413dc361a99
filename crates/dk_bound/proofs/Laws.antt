-- The laws, from the induction over the past.
use Rattle.dk_bound.proofs.Names.{inl, inr, [], ◌∷◌, length, refl, threads, chosen, Received, Bounded, DemandFits, LockFindsFree, OneBlocks, BlocksAtMost, DenialIsTight, TimelineFits, SourceFits, ChoosesKnown, ChoosesWithCause, EndsSpent, LastTickExecutes, HoldersStand, LevelsDiffer, BeginsFree, Always, AlwaysGranted, AcceptsUnfailing, same-row, threads-fit}
use Rattle.dk_bound.proofs.HoldersFit.{free-at-begin}
use Rattle.dk_bound.proofs.HolderFacts.{holder-facts}
use Rattle.dk_bound.proofs.Certified.{one-blocks, levels-differ, same-or}
use Rattle.dk_bound.proofs.LockFree.{lock-free}
use Rattle.dk_bound.proofs.Sound.{chooses-known, cause-of, last-tick-executes}
use Rattle.dk_bound.proofs.Fits as fits
use Rattle.dk_bound.proofs.Received as shares
use Rattle.dk_bound.proofs.Bounded as bounds
use Rattle.dk_bound.proofs.Granted as grants
use Rattle.dk_bound.proofs.Denials as denials
use Rattle.dk_bound.proofs.Timeline as timeline
use Rattle.dk_bound.proofs.Accepted as certificate
use Rattle.dk_bound.proofs.Joint.{fair-choice, holders-fit, steady, moment, moment-entry, window-ends}

pub demand_fits : Always DemandFits
demand_fits c past checked accepted audited = fits.demand-fits c past checked accepted (steady c past checked accepted audited) audited

pub received : Always Received
received c past checked accepted audited = shares.received c past checked accepted (steady c past checked accepted audited) audited

pub bounded : Always Bounded
bounded c past checked accepted audited = bounds.bounded c past checked (fits.steady-fair c past (steady c past checked accepted audited)) audited

pub granted : AlwaysGranted
granted = grants.granted

pub lock_finds_free : Always LockFindsFree
lock_finds_free c past checked accepted audited e x row m labelled thread found none y =
    lock-free c past e m x row y checked audited (holders-fit c past checked accepted audited) labelled thread found none

pub one_blocks_all : Always OneBlocks
one_blocks_all c past checked accepted audited j x y here there one two =
    same-row (threads c past) x y (threads-fit c past checked audited).distinct here there
    (one-blocks c (length past) past j x y (holders-fit c past checked accepted audited) here there one two)

pub blocks_at_most : Always BlocksAtMost
blocks_at_most c past checked accepted audited = fits.steady-blocks c past (steady c past checked accepted audited)

pub denial_tight : Always DenialIsTight
denial_tight c past checked accepted audited = denials.denial-tight c past (demand_fits c past checked accepted audited)

pub timeline_fits : Always TimelineFits
timeline_fits c past checked accepted audited = timeline.timeline-fits c past checked accepted (steady c past checked accepted audited) audited

pub source_fits : Always SourceFits
source_fits c past checked accepted audited = timeline.source-fits c past checked accepted (steady c past checked accepted audited) audited

pub choice_known : Always ChoosesKnown
choice_known c past checked accepted audited = chooses-known c past checked audited

pub with_cause : Always ChoosesWithCause
with_cause c past checked accepted audited =
    cause-of c past (chosen c past) (threads-fit c past checked audited) (fair-choice c past checked audited (holders-fit c past checked accepted audited))

pub ends_spent : Always EndsSpent
ends_spent c [] checked accepted audited = tt
ends_spent c (e ∷ past) checked accepted audited =
    window-ends c e past checked accepted audited (moment-entry c e past checked audited (moment c past checked accepted audited.0)).steady

pub last_tick : Always LastTickExecutes
last_tick c past checked accepted audited = last-tick-executes c past checked audited (holders-fit c past checked accepted audited)

pub holders_stand : Always HoldersStand
holders_stand c past checked accepted audited x among holding = holder-facts c past x checked audited (holders-fit c past checked accepted audited) among holding

pub all_levels_differ : Always LevelsDiffer
all_levels_differ c past checked accepted audited x y here there holds too same =
    let fit = threads-fit c past checked audited in
    elim (same-or x.id y.id) [
      | inl ids ↦ same-row (threads c past) x y fit.distinct here there ids
      | inr apart ↦ absurd (levels-differ c (length past) past x y checked fit (holders-fit c past checked accepted audited) here there apart holds too same)
    ]

pub begins_free : Always BeginsFree
begins_free c [] checked accepted audited x among begins = refl
begins_free c (e ∷ past) checked accepted audited x among begins =
    let charged = moment-entry c e past checked audited (moment c past checked accepted audited.0) in
    free-at-begin c e past x (threads-fit c (e ∷ past) checked audited) (window-ends c e past checked accepted audited charged.steady) charged.holders among begins

pub accepts : AcceptsUnfailing
accepts = certificate.accepted
