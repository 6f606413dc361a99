-- The names of other libraries and of this crate's specs that proofs here speak of.
pub use Rattle.clap.proofs.OnLiterals.{clap_on_literals}
pub use Rattle.clap.proofs.WalkLemmas.{first_value-rows, raw_values-rows}
pub use Rattle.clap.specs.Words.{App, Row, Text, all_of, app_of, fault_of, first_of, found_of, is_simple, is_simple_and_free, matches_of, rows_of}
pub use Rattle.dk_config.specs.declared.TheConstants.{MAX_PROCESSES, MAX_RUN_TICKS}
pub use Rattle.dk_show_request.specs.Allotments.{allotment_of, has_same_name, is_no_allotment, name_in, repeated_name, ticks_behind}
pub use Rattle.dk_show_request.specs.Clap.{app_for, given_by, flag, has, with_rules, word_rules}
pub use Rattle.dk_show_request.specs.Forms.{Form, form_lent, form_named, forms, is_no_command, meant, takes_several, takes_ticks}
pub use Rattle.dk_show_request.specs.Meaning.{KeepsLimits, asked, asked_by, budgets_by, budgets_form_in, budgets_of, percent_by, chain_by, chain_of, chain_with, check_by, check_form_in, drawing_by, faults_by, help_by, holds_by, impact_by, picture_by, range_in, repeats_by, repeats_of, replay_by, slack_by, slack_of, slack_with, telling_by, windows_by, windows_form_in}
pub use Rattle.dk_show_request.specs.Numbers.{is_digit_byte, is_spelled, percent_in, percent_of, ticks_in}
pub use Rattle.dk_show_request.specs.declared.numbers.TheConstants.{MAX_RESERVE}
pub use Rattle.dk_show_request.specs.declared.request.BudgetsForm.{BudgetsForm}
pub use Rattle.dk_show_request.specs.Reasons.{Reason, again_reason, allotments_reason, allotting, commands_reason, count_reason, has_many_names, is_below, is_control, is_disordered, is_no_ticks, mark_reason, missing_name, names_reason, naming, no_percent_word, no_ticks_word, option_filter, is_no_percent, percent_reason, order_reason, reason, reason_text, shown, surplus_reason, surplus_word, ticks_reason, unfit_reason, wrong_text, wrong_with}
pub use Rattle.dk_show_request.specs.TrueReasons.{AreLines, AreNotBelow, Holds, HoldsOf, IsLine, LeavesOut, ReasonsHold, StandsIn}
pub use Rattle.dk_show_request.specs.Usage.{flags_text}
pub use Rattle.dk_show_request.specs.Words.{arguments, arguments_behind, dashed, ends_bare, fits, has_flags, has_options, is_flag, is_mark, is_option, is_plain_word, is_unfit, option_word, unfit_word, word_at}
pub use Rattle.dk_show_request.specs.declared.commands.Command.{Command}
pub use Rattle.dk_show_request.specs.declared.commands.Drawing.{Drawing}
pub use Rattle.dk_show_request.specs.declared.commands.Telling.{Telling}
pub use Rattle.dk_show_request.specs.declared.table.Kind.{Kind}
pub use Rattle.dk_show_request.specs.declared.request.CheckForm.{CheckForm}
pub use Rattle.dk_show_request.specs.declared.request.Range.{Range}
pub use Rattle.dk_show_request.specs.declared.request.Request.{Request}
pub use Rattle.dk_show_request.specs.declared.request.WindowsForm.{WindowsForm}
pub use Rattle.std.proofs.Common.{List, [], ap, append_assoc, arith, codes, drop, false, inl, inr, length, map, refl, rules, string_bytes, subst, suc, sym, true, zero, ℕ, ◌++◌, ◌+◌, ◌<◌, ◌==◌, ◌^◌, ◌∙◌, ◌∷◌, ◌≡◌}
pub use Rattle.std.proofs.lemmas.Bool.{and_parts, cases_Bool}
pub use Rattle.std.proofs.lemmas.Bool.Decides.{nat_tests}
pub use Rattle.std.proofs.lemmas.List.Folds.{find_at, list_any-append}
pub use Rattle.std.specs.Char.{digit_value}
pub use Rattle.std.specs.Fmt.{digits}
pub use Rattle.std.specs.List.{list_all, list_any, position_or_len}
pub use Rattle.std.specs.Option.{option_map_or}
pub use Rattle.std.specs.Prelude.{Bool, Err, IfOk, IfSome, None, Ok, Option, Result, Some, decimal, filter, find, if◌then◌else◌, is_some, nat_le, nat_lt, not, option_and_then, option_map, slice_get, unwrap_or, ◌&&◌, ◌-◌, ◌||◌}
pub use Rattle.std.specs.Str.{bytes_eq}
pub use Rattle.std.specs.Str.Parse.{AllDigits, IsNumeral, digits_value, without_leading_plus}
