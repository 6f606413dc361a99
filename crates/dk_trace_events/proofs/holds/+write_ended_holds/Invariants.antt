use Rattle.dk_trace_events.proofs.holds.+write_ended_holds.Given as goal

abbrev pub decreases-write_ended_holds : goal.decreases-write_ended_holds
decreases-write_ended_holds g l = l.below
