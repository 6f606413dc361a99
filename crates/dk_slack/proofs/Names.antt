-- The names of other libraries and of this crate's specs that proofs here speak of.
pub use Rattle.dk_config.specs.Configuration.{Configuration}
pub use Rattle.dk_config.specs.Sums.{below, first_of, numbers}
pub use Rattle.dk_config.specs.Windows.{period, window_start}
pub use Rattle.dk_config.specs.declared.TheConstants.{MAX_COST, MAX_LEVELS, MAX_THREADS}
pub use Rattle.dk_rail.specs.Queues.{Queues, holder, holds, pushed, queue_at, unlinked, without}
pub use Rattle.dk_slack.specs.Counters.{AreCounters, run_of_slower, since, unclaimed_by}
pub use Rattle.dk_slack.specs.Kept.{AreTied, IsSound, is_queued, row_of, wish_at, wishes_in}
pub use Rattle.dk_slack.specs.Lasting.{Lasts}
pub use Rattle.dk_slack.specs.Recount.{AreCounted, AreOldestFirst, HaveOwnNodes, IsOldestNode, IsRecount, KeepsLevels, ShutsAskers, asking, claiming_level, counted_wish, spares_of, unclaimed_of}
pub use Rattle.dk_slack.specs.Slack.{Slack, at_start}
pub use Rattle.dk_slack.specs.Unclaimed.{counted, counted_for, overdrawn_at, raised, source}
pub use Rattle.dk_slack.specs.Wishes.{Wish, asked, dropped, first_node, is_entering, is_of, is_of as is_wish_of, lowered, lowered_for, put_last, spent, spent_for, want, wish_of, wishes_at}
pub use Rattle.dk_slack.specs.declared.wanted.Wanted.{Wanted}
pub use Rattle.dk_trace.proofs.Same.{same-id, same-self}
pub use Rattle.dk_trace.specs.Entries.{borrower, does, is_same, is_slack_of, is_wait, payer, thread_of, window}
pub use Rattle.dk_trace.specs.Jobs.{is_closed}
pub use Rattle.dk_trace.specs.Slack.{Request, aged, is_claimed_up_to, is_entering as is_past_entering, last_request, level_of, no_request, request, source as past_source, unclaimed, want as past_want}
pub use Rattle.dk_trace.specs.Threads.{Thread, after_entry, family, threads}
pub use Rattle.dk_trace.specs.declared.Entry.{Entry}
pub use Rattle.dk_trace.specs.declared.Event.{Event}
pub use Rattle.dk_trace.specs.declared.Label.{Label}
pub use Rattle.dk_trace.specs.declared.Source.{Source}
pub use Rattle.dk_trace.specs.declared.ThreadId.{ThreadId}
pub use Rattle.std.proofs.Common.{All, Bool, IsNone, IsSome, List, [], add-one, ap, arith, cond, drop, eqb, false, get_or, get_or-set_other, get_or-set_same, inl, inr, length, length-set, ltb, map, not, refl, replicate, set, slice_get, subst, suc, sym, take, true, zero, ℕ, ◌%◌, ◌&&◌, ◌*◌, ◌++◌, ◌+◌, ◌-◌, ◌<◌, ◌^◌, ◌||◌, ◌∙◌, ◌∷◌, ◌≡◌, ◌≢◌, ◌≤◌, ◌⊎◌}
pub use Rattle.std.proofs.Math.Bool.{and-false}
pub use Rattle.std.proofs.lemmas.Bool.{and_parts, cases_Bool, cases_lt, eq-eqb, eqb-true, le-ltb, lt-ltb, ltb-false, ltb-true, not-true, or_parts}
pub use Rattle.std.proofs.lemmas.Bool.Decides.{eqb_tells, nat_tests}
pub use Rattle.std.proofs.lemmas.List.{append-nil, drop_all, get_or-map, get_or_default, length-map, length-replicate, map-append, map-set, take_all}
pub use Rattle.std.proofs.lemmas.List.Sums.{sum_by-cons, sum_by-drop_more, sum_by-set}
pub use Rattle.std.proofs.lemmas.Option.{slice_get-map}
pub use Rattle.std.specs.List.{list_any, position_from, refill}
pub use Rattle.std.specs.Option.{is_some, option_map, option_map_or, option_or}
pub use Rattle.std.specs.Prelude.{Contains, MatchOption, None, Option, Some, count_by, filter, find, flat_map, if◌then◌else◌, nat_le, nat_lt, slice_index, sum, ◌==◌, ◌↔◌}
