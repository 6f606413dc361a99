-- The names of other libraries and of this crate's specs that proofs here speak of.
pub use Rattle.dk_certify.proofs.VerdictLemmas.{passes}
pub use Rattle.dk_certify.specs.Bounds.{most_budgets, most_work}
pub use Rattle.dk_certify.specs.Verdicts.{answer_of, rows_of, verdict_of}
pub use Rattle.dk_certify.specs.declared.certifying.Verdict.TheVariants.{Accepted}
pub use Rattle.dk_config.proofs.Budgets.{budgets_bounded}
pub use Rattle.dk_config.proofs.Counting.{first_of-none, sum_from-more}
pub use Rattle.dk_config.proofs.Passing.{both_pass, parts_pass}
pub use Rattle.dk_config.specs.Certification.{budgets_at, can_block, fails_at, first_failing, level_blocking, level_demand, uses}
pub use Rattle.dk_config.specs.Checked.{BreaksNoRule, IsAccepted, IsChecked}
pub use Rattle.dk_config.specs.Configuration.{Configuration}
pub use Rattle.dk_config.specs.Mutex.{Mutex}
pub use Rattle.dk_config.specs.Rules.{again_tests, all_tests, budget_room, budget_tests, cost_ranges, count_tests, has_twice, is_wrong_user, level_ranges, level_tests, mutex_again, mutex_ceiling, mutex_names, mutex_ranges, mutex_users, name_tests, period_tests, process_again, process_level, process_names, process_ranges, range_tests, slowest_level, slowest_tests, user_tests, version_tests}
pub use Rattle.dk_config.specs.Sums.{first_of, greatest, numbers, sum_from}
pub use Rattle.dk_config.specs.Tests.{Test, each_row, first_broken, test_of}
pub use Rattle.dk_config.specs.Windows.{main_level, period, release}
pub use Rattle.dk_config.specs.declared.TheConstants.{MAX_SPAN}
pub use Rattle.dk_config.specs.declared.rows.ProcessRow.{ProcessRow}
pub use Rattle.dk_plan.specs.Base.{AreAsks, Gets, GreaterTakeMore, IsAsk, IsAtMost, IsBelow, IsSame, NoneLess, fraction_sum, longest_got, part_of, period_got, ticks_in, utilisation}
pub use Rattle.dk_plan.specs.Budget.{CanHave, IsCertified, NoGreater, rows_with_budget, with_budget}
pub use Rattle.dk_plan.specs.Levels.{LevelFits, budget_at, needs_of_others, work_at}
pub use Rattle.dk_plan.specs.declared.harmonising.Ask.{Ask}
pub use Rattle.dk_plan.specs.declared.harmonising.Fraction.{Fraction}
pub use Rattle.std.proofs.Common.{Bool, List, [], add-one, ap, arith, drop, eqb, false, filter, get_or, inl, inr, length, map, max, min, refl, rules, subst, suc, sum_by, sym, take, true, zero, zero-add, ℕ, ◌*◌, ◌++◌, ◌+◌, ◌-◌, ◌/◌, ◌<◌, ◌^◌, ◌||◌, ◌∙◌, ◌∷◌, ◌≡◌, ◌≤◌, ◌⊎◌}
pub use Rattle.std.proofs.Math.Nat.{le-div_iff_mul-le, le_of_lt, le_of_mul-le-mul_right, lt_of_mul-lt-mul_right, mul-div_cancel, mul-le-mul_left, mul-le-mul_right, mul-lt-mul_of_pos_right, mul-pos, pow-le-pow_right, pow-suc}
pub use Rattle.std.proofs.lemmas.Bool.{cases_lt, cases_order, eq-eqb, eqb-true, le-leb, leb-true, ltb-false}
pub use Rattle.std.proofs.lemmas.Bool.Decides.{nat_tests}
pub use Rattle.std.proofs.lemmas.List.Elements.{All-head, All-tail, All-weaker, filter_agree}
pub use Rattle.std.proofs.lemmas.List.Sums.{sum_by-cons}
pub use Rattle.std.proofs.lemmas.Nat.{le-div, pow-add}
pub use Rattle.std.proofs.lemmas.Nat.Gcd.{le_of_dvd}
pub use Rattle.std.specs.List.{list_any}
pub use Rattle.std.specs.Option.{option_map_or, option_or}
pub use Rattle.std.specs.Prelude.{All, IfNone, IfSome, None, Option, Some, find, if◌then◌else◌, nat_le, nat_lt, slice_get, unwrap_or, ◌&&◌, ◌==◌, ◌↔◌}
pub use Rattle.std.specs.Str.{bytes_eq}
