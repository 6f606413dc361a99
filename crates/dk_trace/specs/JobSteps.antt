-- What a job becomes: whole at the start of a window, after its ticks, and closed.
use Rattle.std.specs.Prelude.{ℕ, ◌≡◌, ◌+◌, ◌<◌, ◌≤◌, true, false}
use Rattle.dk_trace.specs.declared.Phase.{Phase}
use Rattle.dk_trace.specs.Jobs.{Job, phase}

-- a job of which nothing is used
abbrev pub released : ℕ → Job
released share = record { share = share; used = 0; out_ticks = 0; closed = false }

abbrev pub closed : Job → Job
closed job = record { share = job.share; used = job.used; out_ticks = job.out_ticks; closed = true }

-- one more of the ticks of the switch out, where that is the phase
abbrev pub outs_after : Phase → ℕ → ℕ
outs_after Phase.Out outs = outs + 1
outs_after _ outs = outs

abbrev pub spent : ℕ → Job → Job
spent W job = record {
  share = job.share;
  used = job.used
      + 1;
  out_ticks = outs_after (phase W job) job.out_ticks;
  closed = job.closed;
}

-- so many ticks of the body later
abbrev pub worked_for : ℕ → Job → Job
worked_for ticks job = record {
  share = job.share;
  used = job.used + ticks;
  out_ticks = job.out_ticks;
  closed = job.closed;
}

-- so many ticks of the body come next, one after the other, and something is left after them
pub record HasBody (W ticks : ℕ) (job : Job) : Type 0 where
  pub opened : job.closed ≡ false
  pub entered : W ≤ job.used
  pub body : job.used + ticks + W ≤ job.share
  pub more : job.used + ticks < job.share
