-- The names of other libraries and of this crate's specs that proofs here speak of.
pub use Rattle.dk_config.specs.Certification.{is_user}
pub use Rattle.dk_config.specs.Configuration.{Configuration}
pub use Rattle.dk_config.specs.Windows.{ceiling, longest_hold}
pub use Rattle.dk_config.specs.declared.TheConstants.{MAX_MUTEXES, MAX_PROCESSES}
pub use Rattle.dk_mutex.specs.Front.{AreOuter, IsFirst, IsFirstHold, IsFrontOf, IsInnermost, IsLeastHold, IsLockable, unlocked}
pub use Rattle.dk_mutex.specs.Marks.{AreMarked, IsMarked}
pub use Rattle.dk_mutex.specs.Recount.{AreMutexes, HasLevels, HoldersFit, IsRecount, LastIsLeast, counted_left, emptied, hold_at, last_locked, moves_no_hold, without_event}
pub use Rattle.dk_mutex.specs.Rows.{ceiling_of, freed, holder_left, is_by, is_by_at, is_by_process, is_held, is_held_at, is_holder, is_holder_within, is_other_at, is_within, is_within_owed, joined, least, left_of, left_under, left_up_to, lists_user, lowered, lowered_by, owed_by, row_of, rows_of, spent, taken, users_of}
pub use Rattle.dk_mutex.specs.Table.{LeftsDiffer, at_row, ceiling_at, effective_level, first_holder, given_to, hold_left, hold_of, holder_at, holds_within, innermost, is_free, is_held_by, is_holder_at, is_innermost, left_at, lock_refusal, may_lock, of_row, unlock_refusal}
pub use Rattle.dk_mutex.specs.declared.front.FirstHold.{FirstHold}
pub use Rattle.dk_mutex.specs.declared.front.Front.{Front}
pub use Rattle.dk_mutex.specs.declared.outer.Outer.{Outer}
pub use Rattle.dk_mutex.specs.declared.row.Holder.{Holder}
pub use Rattle.dk_mutex.specs.declared.row.Lockable.{Lockable}
pub use Rattle.dk_trace.proofs.Holds.{ceiling-most, has-aged}
pub use Rattle.dk_trace.proofs.Same.{same-id, same-self}
pub use Rattle.dk_trace.specs.Entries.{does, has_event, is_delete_of, is_end, is_of, is_same, stops, thread_of}
pub use Rattle.dk_trace.specs.Holds.{Hold, aged, effective_level as past_level, given_back, greatest_left, held_after, held_by, hold_left as past_left, innermost_left, is_holding, is_innermost as is_past_innermost, least_ceiling, level_holding}
pub use Rattle.dk_trace.specs.Members.{Has}
pub use Rattle.dk_trace.specs.Refusals.{first_refusal, lock_refusal as past_lock_refusal, unlock_refusal as past_unlock_refusal}
pub use Rattle.dk_trace.specs.Threads.{Thread, threads}
pub use Rattle.dk_trace.specs.declared.Entry.{Entry}
pub use Rattle.dk_trace.specs.declared.Event.{Event}
pub use Rattle.dk_trace.specs.declared.Refusal.{Refusal}
pub use Rattle.dk_trace.specs.declared.ThreadId.{ThreadId}
pub use Rattle.std.proofs.Common.{Bool, List, None, Option, Some, [], add-one, ap, arith, cond, drop, eqb, false, get_or, inl, inr, leb, length, ltb, map, min, not, refl, set, slice_get, subst, suc, sym, take, true, zero, ℕ, ◌&&◌, ◌++◌, ◌+◌, ◌-◌, ◌<◌, ◌||◌, ◌∙◌, ◌∷◌, ◌≡◌, ◌≤◌, ◌⊎◌}
pub use Rattle.std.proofs.Math.Bool.{and-false}
pub use Rattle.std.proofs.Math.ListN.{length-set}
pub use Rattle.std.proofs.lemmas.Bool.{and_parts, cases_Bool, cases_lt, eq-eqb, eqb-true, leb-true, ne_eqb, not-true, or_parts, or_right}
pub use Rattle.std.proofs.lemmas.Bool.Decides.{nat_tests}
pub use Rattle.std.proofs.lemmas.List.{get_or_default, length-map}
pub use Rattle.std.proofs.lemmas.List.Edits.{fill_by_more, map_over_more}
pub use Rattle.std.proofs.lemmas.List.FromFn.{fill_by_all, get_or-map-range_with_len, length-map-range_with_len, map-range_with_len_more}
pub use Rattle.std.proofs.lemmas.Option.{slice_get-get_or, slice_get-map, slice_get_past, slice_get_read, slice_get_within}
pub use Rattle.std.specs.List.{list_any, position_from, range_with_len, refill}
pub use Rattle.std.specs.Option.{option_map_or}
pub use Rattle.std.specs.Prelude.{IfSome, find, if◌then◌else◌, is_none, is_some, max, nat_le, option_map}
