-- The names of other libraries and of this crate's specs that proofs here speak of.
pub use Rattle.dk_certify.proofs.VerdictLemmas.{accepted, fails_first}
pub use Rattle.dk_config.proofs.CheckedConfig.{checked, within_limits}
pub use Rattle.dk_config.proofs.Passing.{both_pass, parts_pass, row_at, row_passes}
pub use Rattle.dk_config.specs.Certification.{budgets_at, can_block, first_failing, level_blocking, level_demand}
pub use Rattle.dk_config.specs.Checked.{BreaksNoRule, IsAccepted}
pub use Rattle.dk_config.specs.Configuration.{Configuration}
pub use Rattle.dk_config.specs.Mutex.{Mutex}
pub use Rattle.dk_config.specs.Rules.{again_tests, all_tests, budget_room, budget_tests, cost_ranges, count_tests, follows, level_ranges, level_tests, mutex_again, mutex_ceiling, mutex_names, mutex_ranges, mutex_users, name_tests, period_order, period_tests, process_again, process_level, process_names, process_ranges, range_tests, slowest_tests, user_tests, version_tests}
pub use Rattle.dk_config.specs.Sums.{greatest}
pub use Rattle.dk_config.specs.Tests.{Test, each_row, first_broken, test_of}
pub use Rattle.dk_config.specs.Windows.{budget, period, release}
pub use Rattle.dk_config.specs.declared.TheConstants.{MAX_COST, MAX_SPAN}
pub use Rattle.dk_config.specs.declared.rows.LevelRow.{LevelRow}
pub use Rattle.dk_config.specs.declared.rows.ProcessRow.{ProcessRow}
pub use Rattle.dk_margins.specs.Limits.{AtEach, HoldsUpTo, LimitsSwitch, room_of}
pub use Rattle.dk_margins.specs.Margins.{HoldFits, IsGreatest, ReleaseFits, Stands, rows_with_hold, rows_with_release, with_hold, with_release, with_switch}
pub use Rattle.dk_plan.proofs.Accepting.{accepted_from, before_or_here, certified_from}
pub use Rattle.dk_plan.proofs.Demands.{sum_one_more, sum_same}
pub use Rattle.dk_plan.proofs.Unbroken.{each_row-same}
pub use Rattle.dk_plan.specs.Budget.{with_budget}
pub use Rattle.dk_plan.specs.Levels.{LevelFits}
pub use Rattle.std.proofs.Common.{List, [], add-one, ap, arith, cond, drop, get_or, inl, inr, length, length-drop, max, min, refl, rules, subst, suc, sym, take, true, zero, ℕ, ◌&&◌, ◌*◌, ◌++◌, ◌+◌, ◌-◌, ◌/◌, ◌<◌, ◌||◌, ◌∙◌, ◌∷◌, ◌≡◌, ◌≤◌}
pub use Rattle.std.proofs.Math.Nat.{le-div_iff_mul-le}
pub use Rattle.std.proofs.lemmas.Bool.{cases_Bool, cases_lt}
pub use Rattle.std.proofs.lemmas.Bool.Decides.{nat_tests}
pub use Rattle.std.proofs.lemmas.List.{take_all}
pub use Rattle.std.proofs.lemmas.Option.{slice_get-get_or, slice_get_within}
pub use Rattle.std.specs.List.{list_any}
pub use Rattle.std.specs.Option.{option_map_or}
pub use Rattle.std.specs.Prelude.{Bool, None, Some, false, filter, map, nat_lt, not, slice_get, ◌↔◌}
pub use Rattle.std.specs.Str.{bytes_eq}
