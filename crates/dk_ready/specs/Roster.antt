-- What contracts see of the jobs: who sits on each node with which job, and the ready queues.
use Rattle.std.specs.Prelude.{ℕ, ◌≡◌, ◌<◌, Bool, false, true, ◌-◌, ◌&&◌, nat_lt, ◌==◌, if◌then◌else◌, List, [], get_or, slice_set, replicate, Option, Some, None}
use Rattle.dk_trace.specs.declared.Phase.{Phase}
use Rattle.dk_trace.specs.Jobs.{Job, rem, phase}
use Rattle.dk_rail.specs.Queues.{Queues, pushed, unlinked}
use Rattle.dk_trace.specs.JobSteps.{spent, worked_for}
use Rattle.dk_ready.specs.declared.seat.Seat.{Seat}

-- the cost of a switch, the seat of each node, and the queues of the levels
pub record Roster : Type 0 where
  pub switch : ℕ
  pub seats : List Seat
  pub ready : Queues

abbrev pub new_job : ℕ → Job
new_job share = record { share = share; used = 0; out_ticks = 0; closed = false }

-- nobody's seat
abbrev pub vacant : Seat
vacant = record { thread = record { process = 0; serial = 0 }; level = 0; job = new_job 0 }

abbrev pub seat_at : Roster → ℕ → Seat
seat_at r node = get_or r.seats node vacant

abbrev pub at_start : ℕ → ℕ → ℕ → Roster
at_start switch nodes levels =
    record {
      switch = switch;
      seats = replicate nodes vacant;
      ready = record { nodes = nodes; lists = replicate levels [] };
    }

-- the part of the share that the next tick belongs to, where something is left
abbrev pub told_phase : ℕ → Job → Option Phase
told_phase W job = if rem W job == 0 then None else Some (phase W job)

-- the node goes behind the last one of its level's queue, where its job has something left
abbrev pub queued : ℕ → Seat → Queues → Queues
queued node seat ready =
    if seat.job.share == 0 then ready
    else record { nodes = ready.nodes; lists = pushed ready.lists seat.level node }

-- somebody sits down on the node
abbrev pub released : ℕ → Seat → Roster → Roster
released node seat r =
    record { switch = r.switch; seats = slice_set r.seats node seat; ready = queued node seat r.ready }

abbrev pub left_on : Roster → ℕ → ℕ
left_on r node = rem r.switch (seat_at r node).job

-- the node has that job, and leaves its queue where it must
abbrev pub with_job : ℕ → Job → Bool → Roster → Roster
with_job node job leaves r = record {
  switch = r.switch;
  seats =
      slice_set r.seats node (record { thread = (seat_at r node).thread; level = (seat_at r node).level; job = job });
  ready = if leaves then record { nodes = r.ready.nodes; lists = unlinked r.ready.lists node } else r.ready;
}

-- one more budget tick of the node
abbrev pub spent_on : ℕ → Roster → Roster
spent_on node r = let next = spent r.switch (seat_at r node).job in with_job node next (rem r.switch next == 0) r

-- so many ticks of the node's body
abbrev pub spent_for : ℕ → ℕ → Roster → Roster
spent_for node ticks r =
    record r {
      seats =
          slice_set r.seats node (record {
            thread = (seat_at r node).thread;
            level = (seat_at r node).level;
            job = worked_for ticks (seat_at r node).job;
          });
    }

abbrev pub closed : Job → Job
closed job = record { share = job.share; used = job.used; out_ticks = job.out_ticks; closed = true }

-- what the node no longer has once it is closed
abbrev pub dropped_on : ℕ → Roster → ℕ
dropped_on node r = left_on r node - rem r.switch (closed (seat_at r node).job)

abbrev pub closed_on : ℕ → Roster → Roster
closed_on node r =
    let next = closed (seat_at r node).job in
    with_job node next (nat_lt 0 (left_on r node) && (rem r.switch next == 0)) r

-- nothing is left of the kernel's own parts of the levels before this one; they pay no switches
abbrev pub AreQuiet : ℕ → List Job → Type 0
AreQuiet quiet parts = (k : ℕ) → k < quiet → rem 0 (get_or parts k (new_job 0)) ≡ 0
