use Rattle.dk_trace_events.proofs.holds.+write_open_holds.Given as goal

abbrev pub decreases-write_open_holds : goal.decreases-write_open_holds
decreases-write_open_holds g l = l.below
