-- The names of other libraries and of this crate's specs that proofs here speak of.
pub use Rattle.clap.proofs.TakesLemmas.{leaf_takes}
pub use Rattle.clap.proofs.WalkLemmas.{one_text-rows, raw_values-rows}
pub use Rattle.clap.specs.Facts.{explicit_source}
pub use Rattle.clap.specs.Simple.{Shape, filled, filled_from, help_rule, is_in_order, with_index}
pub use Rattle.clap.specs.Takes.{default_passes, is_given, is_valid, level_passes, settle_passes, turn_passes, use_passes, walk_passes}
pub use Rattle.clap.specs.Walk.{Held, Waiting, Walk, arg_by_id, arg_by_index, arg_by_long, finished, has_row, idle, is_early_multiple, is_pending, nothing_held, option, positional, pushed, reacted, row_text, settled, stronger, used, walk, walked, with_default, with_values, without}
pub use Rattle.clap.specs.Words.{App, Row, Row as Entry, Rule, Text, all_of, app_of, built, found_of, is_simple, matched_of, matches_of, one_of, raw_values, takes, with_rule}
pub use Rattle.clap.specs.declared.builder.value_parser.Reading.{Reading}
pub use Rattle.clap.specs.declared.builder.value_parser.Reading.TheVariants.{AsWritten}
pub use Rattle.clap.specs.declared.parser.matches.ValueSource.{ValueSource}
pub use Rattle.clap.specs.declared.parser.matches.ValueSource.TheVariants.{CommandLine, DefaultValue}
pub use Rattle.dk_asm.specs.Words.{is_numeral}
pub use Rattle.dk_config.specs.declared.TheConstants.{MAX_RUN_TICKS, MAX_SPAN}
pub use Rattle.dk_plan.specs.Base.{AreAsks, IsAsk}
pub use Rattle.dk_plan.specs.declared.TheConstants.{MAX_ASKS}
pub use Rattle.dk_plan.specs.declared.harmonising.Ask.{Ask}
pub use Rattle.dk_request.specs.Meaning.{HasFewTicks, HasFitAsks, are_asks, ask_in, asks_in, bound_in, gen_by, harmonise_by, is_ask, number_in, output_of, request_of, ticks_in, word_at}
pub use Rattle.dk_request.specs.SimpleCommand.{HasWords, argument, arguments, flag, flags_for, is_last, simple_command, with_rules}
pub use Rattle.dk_request.specs.Synopsis.{Synopsis, are_apart, are_taken, fits, flags, is_allowed, is_empty, is_flag, is_synopsis, positionals, words_at, words_up_to}
pub use Rattle.dk_request.specs.declared.commands.Command.{Command}
pub use Rattle.dk_request.specs.declared.output.Output.{Output}
pub use Rattle.dk_request.specs.declared.request.Request.{Request}
pub use Rattle.std.proofs.Common.{Bool, Bor, Global, List, Option, Some, String, [], ap, append-nil, append_assoc, ap₂, arith, codes, cond, drop, drop_of_length-le, false, get_or, inl, inr, is_some, length, length-append, map, min, not, refl, rules, string_bytes, subst, suc, sym, take, true, zero, zero-add, ℕ, ◌&&◌, ◌++◌, ◌+◌, ◌-◌, ◌<◌, ◌==◌, ◌^◌, ◌||◌, ◌↔◌, ◌∙◌, ◌∷◌, ◌≡◌, ◌≤◌}
pub use Rattle.std.proofs.Math.Seq.{drop-cons, take-add}
pub use Rattle.std.proofs.lemmas.Bool.{and_from, and_parts, and_right, cases_Bool, cases_eq, cases_order, false≢true, or_right}
pub use Rattle.std.proofs.lemmas.Bool.Decides.{nat_tests}
pub use Rattle.std.proofs.lemmas.List.{drop-append-le, drop-map, drop_all, drop_at, get_or-map, length-drop, length-map, length-take, take-append-drop, take-append-le, take_all}
pub use Rattle.std.proofs.lemmas.List.Filters.{length-filter_both}
pub use Rattle.std.proofs.lemmas.List.Folds.{list_all-append, list_all-map}
pub use Rattle.std.proofs.lemmas.List.Sums.{AllPass-from_list_all, list_all-from_AllPass}
pub use Rattle.std.proofs.lemmas.Result.{IfErr-weaker, IfOk-weaker}
pub use Rattle.std.proofs.lemmas.Slice.Eq.{bytes_eq-Decides}
pub use Rattle.std.specs.Char.{digit_value, is_ascii_digit}
pub use Rattle.std.specs.List.{list_all, list_any}
pub use Rattle.std.specs.Option.{option_map_or}
pub use Rattle.std.specs.Prelude.{Err, IfOk, IfSome, IsTrue, None, Ok, Result, filter, find, fold, if◌then◌else◌, nat_le, nat_lt, option_and_then, option_map, slice_index_or}
pub use Rattle.std.specs.Str.{bytes_eq}
pub use Rattle.std.specs.Str.Parse.{AllDigits, IsNumeral, digits_value, without_leading_plus}
