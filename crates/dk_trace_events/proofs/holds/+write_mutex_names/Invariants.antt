use Rattle.dk_trace_events.proofs.holds.+write_mutex_names.Given as goal

abbrev pub decreases-write_mutex_names : goal.decreases-write_mutex_names
decreases-write_mutex_names g l = l.below
