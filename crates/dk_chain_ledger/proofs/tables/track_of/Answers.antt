use Rattle.std.proofs.Common.{ℕ, suc, ◌≡◌, ◌-◌, ◌∷◌, length, drop, Some, refl, sym, subst, arith}
use Rattle.std.specs.Prelude.{slice_get}
use Rattle.dk_chain_ledger.specs.Tables.{IsTrackOf}
use Rattle.dk_chain_ledger.proofs.Told.{there_at, track_step}
use Rattle.dk_chain_ledger.proofs.tables.track_of.Goals as goal

pub track_before-requires-clause-process : goal.track_before-requires-clause-process
track_before-requires-clause-process c =
    there_at (length c.args.config.now.processes) (c.args.first ∷ c.args.rest.now) (c.loop-place.place - 1) c.process_at-process.result c.requires.there
    c.process_at-process.ensures

pub loop-place-preserved : goal.loop-place-preserved
loop-place-preserved c =
    let chain = c.args.first ∷ c.args.rest.now in
    let place : suc (c.loop-place.place - 1) ≡ c.loop-place.place = omega arith in
    record {
      track = track_step c.args.config.now c.args.entries.now c.args.first c.args.rest.now (c.loop-place.place - 1) c.process_at-process.result
          c.loop-place.track c.in_ok-track-2.track (omega arith)
          (subst (λ n. (q : ℕ) → slice_get chain n ≡ Some q → IsTrackOf c.args.config.now c.args.entries.now q (drop n c.args.rest.now) c.loop-place.track)
          (sym place) c.loop-place.invariant.track)
          c.process_at-process.ensures c.in_ok-track-2.ensures.track;
      size = c.in_ok-track-2.ensures.size;
      some = c.in_ok-track-2.ensures.some;
    }

pub returns-clause-track : goal.returns-clause-track
returns-clause-track c =
    let chain = c.args.first ∷ c.args.rest.now in
    let end : c.loop-place.place ≡ 0 = omega arith in
    subst (λ n. (q : ℕ) → slice_get chain n ≡ Some q → IsTrackOf c.args.config.now c.args.entries.now q (drop n c.args.rest.now) c.loop-place.track)
    end c.loop-place.invariant.track c.args.first refl
