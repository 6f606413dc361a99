-- Whoever has an event hasn't been stopped.
use Rattle.dk_bound.proofs.Names.{◌≡◌, ◌∙◌, ◌∷◌, sym, refl, AtEachEntry, CallersRun, threads-fit, stopped-no-event}
use Rattle.std.proofs.Common.{Option, Some, None}
use Rattle.dk_bound.proofs.Fits.{steady-fair}
use Rattle.dk_bound.proofs.Joint.{steady}

pub callers_run : AtEachEntry CallersRun
callers_run c e past checked accepted audited x event among mine is = go x.stop refl
  where
    go : (o : Option _) → x.stop ≡ o → x.stop ≡ None
    go None at = at
    go (Some t) at =
        let fit = threads-fit c past checked audited.0 in
        let fair = steady-fair c (e ∷ past) (steady c (e ∷ past) checked accepted audited) in
        let none = stopped-no-event c x.id.process e past x t checked (fit.rows x among).known fair audited (fit.place x among) at mine in
        let both : Some event ≡ None = sym is ∙ none in
        absurd (cc)
