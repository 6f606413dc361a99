use Rattle.dk_config_report.proofs.Bounds.{tells_bounds}
use Rattle.dk_config_report.proofs.Stays.{stays_allowed}
use Rattle.dk_config_report.proofs.fault_lines.faults.Goals as goal

pub returns-in_err-found-clause-bounds : goal.returns-in_err-found-clause-bounds
returns-in_err-found-clause-bounds c = tells_bounds

pub returns-in_err-found-clause-stays : goal.returns-in_err-found-clause-stays
returns-in_err-found-clause-stays c = stays_allowed

pub returns-in_err-add_faults-clause-bounds : goal.returns-in_err-add_faults-clause-bounds
returns-in_err-add_faults-clause-bounds c = tells_bounds

pub returns-in_err-add_faults-clause-stays : goal.returns-in_err-add_faults-clause-stays
returns-in_err-add_faults-clause-stays c = stays_allowed

pub returns-in_err-count_line-clause-bounds : goal.returns-in_err-count_line-clause-bounds
returns-in_err-count_line-clause-bounds c = tells_bounds

pub returns-in_err-count_line-clause-stays : goal.returns-in_err-count_line-clause-stays
returns-in_err-count_line-clause-stays c = stays_allowed

pub returns-in_err-push_line-clause-bounds : goal.returns-in_err-push_line-clause-bounds
returns-in_err-push_line-clause-bounds c = tells_bounds

pub returns-in_err-push_line-clause-stays : goal.returns-in_err-push_line-clause-stays
returns-in_err-push_line-clause-stays c = stays_allowed

pub returns-clause-bounds : goal.returns-clause-bounds
returns-clause-bounds c = tells_bounds

pub returns-clause-stays : goal.returns-clause-stays
returns-clause-stays c = stays_allowed
